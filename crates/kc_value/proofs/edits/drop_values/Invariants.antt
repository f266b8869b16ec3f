use Rattle.std.proofs.Common.{◌≤◌, vec_capacity}
use Rattle.kc_value.specs.Changes.{new_user}
use Rattle.kc_value.specs.DropWalk.{DropsAll, IsChangedValue}
use Rattle.kc_value.proofs.edits.drop_values.Given as goal

abbrev pub invariant-loop-number : goal.invariant-loop-number
invariant-loop-number l = record {
  drops : DropsAll (IsChangedValue l.tree l.user (new_user l.tree l.next) l.number) l.fn.values l.values l.fn.list.items l.list.items;
  capacity : vec_capacity l.fn.list ≤ vec_capacity l.list;
}
