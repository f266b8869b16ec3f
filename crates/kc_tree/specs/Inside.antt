-- What the fields of a tree hold: this project's own.
use Rattle.std.specs.Prelude.{◌≡◌, ◌<◌, ◌^◌}
use Rattle.kc_outline.specs.TreeValue.{modules_symbol}
use Rattle.kc_graph.specs.Graph.{IsConverse, IsOrder}
use Rattle.kc_tree.specs.declared.tree.Tree.TheInside.{Inside}
use Rattle.kc_tree.specs.Accepted.{IsAccepted}
use Rattle.kc_tree.specs.Cells.{cell_count}
use Rattle.kc_tree.specs.CellRows.{AreRowsTo}

-- `MODULES`, the order and the two tables are those of the tree, and 32 bits count its cells
pub record IsWellMade (a : Inside) : Type 0 where
  pub accepted : IsAccepted a.outline
  pub modules : a.modules ≡ modules_symbol a.outline
  pub few : cell_count a.outline < 2 ^ 32
  pub uses : AreRowsTo a.outline (cell_count a.outline) a.uses
  pub order : IsOrder a.uses a.order.items
  pub used_by : IsConverse a.uses a.used_by
