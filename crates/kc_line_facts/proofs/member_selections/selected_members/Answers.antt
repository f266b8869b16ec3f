use Rattle.std.proofs.Common.{◌∙◌, ◌++◌, ap}
use Rattle.kc_line_facts.specs.SelectedMembers.{selecting_by_number, selecting_of}
use Rattle.kc_line_facts.proofs.RangeLaws.{flat_map_next}
use Rattle.kc_line_facts.proofs.member_selections.selected_members.Goals as goal

pub loop-number-preserved : goal.loop-number-preserved
loop-number-preserved c =
    let t = c.args.tree.now in
    let n = c.loop-number.number in
    let now = c.loop-number.found.items in
    flat_map_next (selecting_by_number c.args.index.now t) n now c.add_selecting.new.found.items c.loop-number.invariant
    (c.in_ok-add_selecting.ensures ∙ ap (λ ls. now ++ selecting_of t n ls) c.attributes-lines.ensures)
