use Rattle.std.proofs.Common.{◌∙◌, ◌++◌, ap}
use Rattle.kc_line_facts.specs.UnusedDefaults.{counts_before, free_place, unused_at}
use Rattle.kc_line_facts.proofs.RangeLaws.{flat_map_after}
use Rattle.kc_line_facts.proofs.defaults_after.add_after.Goals as goal

pub loop-place-preserved : goal.loop-place-preserved
loop-place-preserved c =
    let n = c.args.number in
    let d = c.args.definition.now in
    let e = c.args.earlier in
    let i = c.loop-place.place in
    let now = c.loop-place.found.items in
    flat_map_after (λ p. unused_at n p (counts_before e (free_place n d) p)) i c.args.found.now.items now c.add_unused.new.found.items c.loop-place.invariant
    (c.in_ok-add_unused.ensures ∙ ap (λ b. now ++ unused_at n i b) (c.counts_before.ensures ∙ ap (λ o. counts_before e o i) c.free_place-own.ensures))
