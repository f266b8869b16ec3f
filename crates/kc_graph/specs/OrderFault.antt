-- This project's own: when the fault that a search for an order reports is true.
use Rattle.std.specs.Prelude.{ℕ, List}
use Rattle.kc_graph.specs.Graph.{IsLoop}
use Rattle.kc_graph.specs.declared.graph.OrderFault.{OrderFault}
use Rattle.kc_graph.specs.declared.graph.OrderFault.TheVariants.{Loop, NoMemory}

-- a reported loop is one; out of memory says nothing of the graph
abbrev pub IsTrueFault : List (List ℕ) → OrderFault → Type 0
IsTrueFault g (Loop nodes) = IsLoop g nodes.items
IsTrueFault g NoMemory = Unit {0}
