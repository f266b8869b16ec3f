-- What stops the making of a tree once its lines are read: this project's own.
use Rattle.std.specs.Prelude.{◌≡◌, ℕ, List, Some, None, map, filter, slice_get, All}
use Rattle.kc_text.specs.LineValue.{LineValue}
use Rattle.kc_statement.specs.Keywords.{is_choice}
use Rattle.kc_outline.specs.declared.fault.LineFault.{LineFault}
use Rattle.kc_outline.specs.declared.fault.LineFault.TheVariants as line_problem
use Rattle.kc_outline.specs.TreeValue.{TreeValue, name_of}
use Rattle.kc_tree.specs.declared.node.Node.{Node}
use Rattle.kc_tree.specs.declared.fault.NamedNode.{NamedNode}
use Rattle.kc_tree.specs.declared.problem.SymbolProblem.{SymbolProblem}
use Rattle.kc_tree.specs.declared.problem.ChoiceProblem.{ChoiceProblem}
use Rattle.kc_tree.specs.declared.fault.TreeFault.{TreeFault}
use Rattle.kc_tree.specs.declared.fault.TreeFault.TheVariants.{Line, Symbol, Choice, Loop, NoMemory}
use Rattle.kc_tree.specs.declared.outline_faults.OutlineFault.TheVariants as outline_problem
use Rattle.kc_tree.specs.Nodes.{node_name}
use Rattle.kc_tree.specs.Order.{IsLoop}
use Rattle.kc_tree.specs.OutlineFaults.{outline_fault}

-- the fault of a line, among those of a tree
abbrev pub line_fault : LineFault → TreeFault
line_fault (line_problem.At problem path number) = Line problem path number
line_fault line_problem.NoMemory = NoMemory

-- the problem of a symbol, with its name
pub record IsSymbolFault (t : TreeValue) (problem : SymbolProblem) (name : List ℕ) : Type 0 where
  pub symbol : ℕ
  pub is : outline_fault t ≡ Some (outline_problem.Symbol problem (record { 0 = symbol }))
  pub name_is : name ≡ name_of t (record { 0 = symbol })

-- the problem of a choice, with the path and the number of its line
pub record IsChoiceFault (lines : List LineValue) (t : TreeValue) (problem : ChoiceProblem) (path : List ℕ) (number : ℕ) : Type 0 where
  pub choice : ℕ
  pub is : outline_fault t ≡ Some (outline_problem.Choice problem (record { 0 = choice }))
  pub line : LineValue
  pub line_is : slice_get (filter is_choice lines) choice ≡ Some line
  pub path_is : path ≡ line.path
  pub number_is : number ≡ line.number

-- the node stands with the name of its symbol, or the prompt of its choice
abbrev pub IsNamed : TreeValue → NamedNode → Type 0
IsNamed t x = x.name ≡ node_name t x.node

-- the nodes form a loop, each with its name
pub record IsNamedLoop (t : TreeValue) (nodes : List NamedNode) : Type 0 where
  pub loop : IsLoop t (map (λ x. x.node) nodes)
  pub named : All (IsNamed t) nodes

-- no nodes of the tree form a loop
abbrev pub IsLoopless : TreeValue → Type 0
IsLoopless t = (nodes : List Node) → IsLoop t nodes → ⊥

-- a fault of a symbol or a choice, else a loop
abbrev pub IsTreeProblem : List LineValue → TreeValue → TreeFault → Type 0
IsTreeProblem lines t (Line problem path number) = ⊥
IsTreeProblem lines t (Symbol problem name) = IsSymbolFault t problem name
IsTreeProblem lines t (Choice problem path number) = IsChoiceFault lines t problem path number
IsTreeProblem lines t (Loop nodes) = (outline_fault t ≡ None) × IsNamedLoop t nodes.items
IsTreeProblem lines t NoMemory = Unit {0}
