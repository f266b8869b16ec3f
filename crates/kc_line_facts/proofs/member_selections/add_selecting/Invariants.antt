use Rattle.std.proofs.Common.{◌≡◌, ◌++◌}
use Rattle.std.specs.List.{flat_map, range_with_len}
use Rattle.kc_line_facts.specs.SelectedMembers.{selecting_in}
use Rattle.kc_line_facts.proofs.member_selections.add_selecting.Given as goal

-- those of the lines so far
abbrev pub invariant-loop-place : goal.invariant-loop-place
invariant-loop-place l = l.found.items ≡ l.initial.found.items ++ flat_map (selecting_in l.tree l.number l.lines) (range_with_len 0 l.place)
