-- Which nodes a node is computed from through others: this project's own.
use Rattle.std.specs.Prelude.{List, Contains}
use Rattle.kc_tree.specs.declared.node.Node.{Node}
use Rattle.kc_outline.specs.TreeValue.{TreeValue}
use Rattle.kc_tree.specs.Uses.{Uses}

-- a walk along Uses, of any length, leads from the one node to the other
pub data Leads (t : TreeValue) : Node → Node → Type 0 where
  here : {n : Node} → Leads t n n
  step : {m n k : Node} → Uses t m n → Leads t n k → Leads t m k

-- a walk from one of those asked leads to the node
abbrev pub Reached : TreeValue → List Node → Node → Type 0
Reached t asked n = (q : Node) × Contains asked q × Leads t q n
