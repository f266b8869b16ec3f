-- What is known of every tree that was read: this project's own.
use Rattle.std.specs.Prelude.{◌≡◌, ◌≤◌, ◌^◌, List, length, All}
use Rattle.kc_tree.specs.declared.node.Node.{Node}
use Rattle.kc_outline.specs.TreeValue.{TreeValue}
use Rattle.kc_outline.specs.Entries.{AreMenusClosed, IsEntryOf, first_symbols, symbol_ids}
use Rattle.kc_outline.specs.Grouped.{IsGrouped}
use Rattle.kc_outline.specs.NameList.{AreNames}
use Rattle.kc_outline.specs.Nested.{AreNested}
use Rattle.kc_tree.specs.Nodes.{IsNodeOf}
use Rattle.kc_tree.specs.Uses.{Uses}
use Rattle.kc_tree.specs.Order.{IsOrder}
use Rattle.kc_statement.specs.declared.limits.TheConstants.{MOST_SYMBOLS}

-- symbols and choices, no more than their nodes have numbers for, each symbol with a name, no name twice; choices and
-- their members belong together; the uses of a node are nodes; the nodes have an order; each entry of a symbol names
-- one, the symbols are first defined in the order of their numbers, each menu that ends began before, and the blocks are
-- nested
pub record IsAccepted (t : TreeValue) : Type 0 where
  pub few : length t.symbols ≤ MOST_SYMBOLS
  pub few_choices : length t.choices ≤ 2 ^ 30
  pub named : length t.names ≡ length t.symbols
  pub names : AreNames t.names
  pub grouped : IsGrouped t
  pub within : (n m : Node) → IsNodeOf t n → Uses t n m → IsNodeOf t m
  pub ordered : (order : List Node) × IsOrder t order
  pub entries : All (IsEntryOf t) t.entries
  pub firsts : first_symbols t.entries ≡ symbol_ids t
  pub menus : AreMenusClosed t
  pub nested : AreNested t
