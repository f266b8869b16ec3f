-- The nodes of a tree and their numbers: this project's own.
use Rattle.std.specs.Prelude.{◌≡◌, ℕ, ◌+◌, ◌-◌, ◌*◌, ◌/◌, ◌%◌, ◌<◌, ◌==◌, if◌then◌else◌, nat_lt, List, length, map}
use Rattle.std.specs.List.{range_with_len}
use Rattle.kc_tree.specs.declared.node.Node.{Node}
use Rattle.kc_tree.specs.declared.node.Node.TheVariants.{Vis, Val, Mode, Sel}
use Rattle.kc_outline.specs.TreeValue.{TreeValue, name_of, choice_title}

-- In a tree of so many symbols: the visibility of symbol k has the number 2 k, its value 2 k + 1. The mode and the
-- selection of each choice follow those of all symbols, in the same way.
abbrev pub number_in : ℕ → Node → ℕ
number_in symbols (Vis s) = 2 * s.0
number_in symbols (Val s) = 2 * s.0 + 1
number_in symbols (Mode c) = 2 * (symbols + c.0)
number_in symbols (Sel c) = 2 * (symbols + c.0) + 1

abbrev pub symbol_node : ℕ → Node
symbol_node k = if k % 2 == 0 then Vis (record { 0 = k / 2 }) else Val (record { 0 = k / 2 })

abbrev pub choice_node : ℕ → Node
choice_node k = if k % 2 == 0 then Mode (record { 0 = k / 2 }) else Sel (record { 0 = k / 2 })

abbrev pub node_in : ℕ → ℕ → Node
node_in symbols k = if nat_lt k (2 * symbols) then symbol_node k else choice_node (k - 2 * symbols)

-- the node is the one of its number, in a tree of so many symbols
abbrev pub IsNumbered : ℕ → Node → Type 0
IsNumbered symbols n = node_in symbols (number_in symbols n) ≡ n

abbrev pub number_of : TreeValue → Node → ℕ
number_of t n = number_in (length t.symbols) n

abbrev pub node_at : TreeValue → ℕ → Node
node_at t k = node_in (length t.symbols) k

abbrev pub IsNodeOf : TreeValue → Node → Type 0
IsNodeOf t (Vis s) = s.0 < length t.symbols
IsNodeOf t (Val s) = s.0 < length t.symbols
IsNodeOf t (Mode c) = c.0 < length t.choices
IsNodeOf t (Sel c) = c.0 < length t.choices

abbrev pub node_count : TreeValue → ℕ
node_count t = 2 * (length t.symbols + length t.choices)

-- all nodes, by number
abbrev pub all_nodes : TreeValue → List Node
all_nodes t = map (node_at t) (range_with_len 0 (node_count t))

-- The numbers of the nodes of a tree are one to one, from 0: each node has one below their count, no two nodes have the
-- same, and each number below the count is that of a node.
pub record AreNumbered (t : TreeValue) : Type 0 where
  pub below : (n : Node) → IsNodeOf t n → number_of t n < node_count t
  pub alone : (n m : Node) → IsNodeOf t n → IsNodeOf t m → number_of t n ≡ number_of t m → n ≡ m
  pub inside : (k : ℕ) → k < node_count t → IsNodeOf t (node_at t k)
  pub at : (k : ℕ) → k < node_count t → number_of t (node_at t k) ≡ k

-- the name of the node's symbol, the prompt of its choice
abbrev pub node_name : TreeValue → Node → List ℕ
node_name t (Vis s) = name_of t s
node_name t (Val s) = name_of t s
node_name t (Mode c) = choice_title t c
node_name t (Sel c) = choice_title t c
