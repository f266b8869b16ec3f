use Rattle.std.proofs.Common.{◌≡◌}
use Rattle.std.specs.List.{flat_map, range_with_len}
use Rattle.kc_line_facts.specs.SelectedMembers.{selecting_by_number}
use Rattle.kc_line_facts.proofs.member_selections.selected_members.Given as goal

-- those of the definitions so far
abbrev pub invariant-loop-number : goal.invariant-loop-number
invariant-loop-number l = l.found.items ≡ flat_map (selecting_by_number l.index l.tree) (range_with_len 0 l.number)
