use Rattle.std.proofs.Common.{◌∙◌, ◌++◌, ap}
use Rattle.kc_facts.specs.TreeFindings.{name_found, found_at}
use Rattle.kc_facts.specs.declared.tree_findings.TreeFinding.TheVariants.{Name}
use Rattle.kc_line_facts.proofs.RangeLaws.{flat_map_after}
use Rattle.kc_facts.proofs.tree_findings.add_names.Goals as goal

pub loop-number-preserved : goal.loop-number-preserved
loop-number-preserved c =
    let i = c.loop-number.number in
    let now = c.loop-number.found.items in
    flat_map_after (name_found c.args.names.now) i c.args.found.now.items now c.add_at.new.found.items c.loop-number.invariant
    (c.in_ok-add_at.ensures ∙ ap (λ o. now ++ found_at o (Name i)) c.line_at-line.ensures)
