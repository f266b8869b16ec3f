-- Walks from the nodes that are asked.
use Rattle.std.specs.Prelude.{List, Contains}
use Rattle.kc_tree.specs.declared.node.Node.{Node}
use Rattle.kc_outline.specs.TreeValue.{TreeValue}
use Rattle.kc_tree.specs.Reached.{Reached}

-- what is reached from some nodes is reached from more
pub Reached-wider : (t : TreeValue) (p q : List Node) → ((n : Node) → Contains p n → Contains q n) → (n : Node) → Reached t p n → Reached t q n
Reached-wider t p q more n (m, asked, leads) = (m, more m asked, leads)
