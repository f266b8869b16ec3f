use Rattle.std.proofs.Common.{◌≤◌, take, vec_capacity}
use Rattle.std.specs.List.{Contains}
use Rattle.kc_value.specs.DropWalk.{DropsAll}
use Rattle.kc_value.proofs.dropping.drop_row.Given as goal

abbrev pub invariant-loop-number : goal.invariant-loop-number
invariant-loop-number l = record {
  drops : DropsAll (Contains (take l.number-index l.numbers)) l.fn.values l.values l.fn.list.items l.list.items;
  capacity : vec_capacity l.fn.list ≤ vec_capacity l.list;
}
