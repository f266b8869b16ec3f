-- A condition that is known is what the nodes give it.
use Rattle.std.proofs.Common.{◌≡◌, List, Option, Some, ap}
use Rattle.std.specs.Prelude.{slice_index_or, None}
use Rattle.kc_statement.specs.declared.tri.Tri.{Tri}
use Rattle.kc_outline.specs.TreeValue.{TreeValue}
use Rattle.kc_tree.specs.declared.cell.Cell.{Cell}
use Rattle.kc_tree.specs.declared.cell.Cell.TheVariants.{Node as OfNode, Definition, Depends, Visible}
use Rattle.kc_tree.specs.Cells.{IsCellOf, IsCondition, cell_number, condition_of}
use Rattle.kc_value.specs.declared.value.Value.{Value}
use Rattle.kc_value.specs.declared.value.Value.TheVariants.{Tri as Level}
use Rattle.kc_value.specs.Assignment.{as_tri, assignment_of}
use Rattle.kc_value.specs.Conditions.{condition_value}
use Rattle.kc_value.specs.Known.{AreRight}

pub level_right : (t : TreeValue) (values : List (Option Value)) → AreRight t values → (c : Cell) (v : Tri) → IsCellOf t c → IsCondition c
    → slice_index_or values (cell_number t c) None ≡ Some (Level v) → v ≡ condition_value t (assignment_of t values) (condition_of t c)
unfolding AreRight
level_right t values right (OfNode n) v inside never at = absurd never
level_right t values right (Definition d) v inside is at = ap as_tri (right (Definition d) (Level v) inside is at)
level_right t values right (Depends b) v inside is at = ap as_tri (right (Depends b) (Level v) inside is at)
level_right t values right (Visible b) v inside is at = ap as_tri (right (Visible b) (Level v) inside is at)
