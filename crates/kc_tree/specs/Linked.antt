-- Steps: what stops the making of a tree whose symbols have no fault: this project's own.
use Rattle.std.specs.Prelude.{ℕ}
use Rattle.kc_tree.specs.declared.fault.NamedNode.{NamedNode}
use Rattle.kc_tree.specs.declared.fault.TreeFault.{TreeFault}
use Rattle.kc_tree.specs.declared.fault.TreeFault.TheVariants.{Line, Symbol, Choice, Loop, NoMemory}
use Rattle.kc_outline.specs.TreeValue.{TreeValue}
use Rattle.kc_tree.specs.Nodes.{node_at, node_name}
use Rattle.kc_tree.specs.Faults.{IsNamedLoop}

-- the node of a number, with its name
abbrev pub named_node : TreeValue → ℕ → NamedNode
named_node t k = record { node = node_at t k; name = node_name t (node_at t k) }

-- a loop with names, or out of memory
abbrev pub IsLinkFault : TreeValue → TreeFault → Type 0
IsLinkFault t (Line problem path number) = ⊥
IsLinkFault t (Symbol problem name) = ⊥
IsLinkFault t (Choice problem path number) = ⊥
IsLinkFault t (Loop nodes) = IsNamedLoop t nodes.items
IsLinkFault t NoMemory = Unit {0}
