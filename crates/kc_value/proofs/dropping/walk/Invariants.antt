use Rattle.std.proofs.Common.{◌≡◌, ℕ, ◌+◌, ◌<◌, ◌≤◌, List, Option, length, vec_capacity}
use Rattle.std.specs.List.{Contains}
use Rattle.kc_tree.specs.Cells.{cell_count}
use Rattle.kc_value.specs.declared.value.Value.{Value}
use Rattle.kc_value.specs.DropWalk.{IsDropping}
use Rattle.kc_value.specs.Kept.{IsClosed, value_count}
use Rattle.kc_value.specs.UserValues.{UserValues}
use Rattle.kc_value.proofs.dropping.walk.Given as goal

abbrev pub invariant-loop-next : goal.invariant-loop-next
invariant-loop-next l = record {
  inside : (k : ℕ) → Contains l.list.items k → k < cell_count l.tree;
  whole : length l.values ≡ length l.fn.values;
  room : length l.list.items + value_count l.values ≤ vec_capacity l.list;
  walk : (u w : UserValues) (first : List (Option Value)) → IsClosed l.tree first → IsDropping l.tree u w first l.fn.values l.fn.list.items → IsDropping l.tree u w first l.values l.list.items;
  capacity : vec_capacity l.fn.list ≤ vec_capacity l.list;
}

abbrev pub decreases-loop-next : goal.decreases-loop-next
decreases-loop-next l = length l.list.items + value_count l.values
