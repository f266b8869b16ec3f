use Rattle.std.proofs.Common.{◌∙◌, ◌++◌, ap}
use Rattle.kc_line_facts.specs.DoubtfulUses.{use_if, use_in}
use Rattle.kc_line_facts.proofs.RangeLaws.{flat_map_after}
use Rattle.kc_line_facts.proofs.doubtful_uses.add_uses.Goals as goal

pub loop-place-preserved : goal.loop-place-preserved
loop-place-preserved c =
    let i = c.args.index in
    let p = c.loop-place.place in
    let now = c.loop-place.found.items in
    flat_map_after (use_in c.args.tree.now i c.args.line.now c.args.tokens.now) p c.args.found.now.items now c.add_use.new.found.items c.loop-place.invariant
    (c.in_ok-add_use.ensures ∙ ap (λ r. now ++ use_if i c.args.line.now.owner p r) c.read_at-reading.ensures)
