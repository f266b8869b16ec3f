-- What is known of the graph of a tree's nodes by number is known of the nodes.
use Rattle.std.proofs.Common.{subst, ◌≡◌, ◌↔◌, ℕ, ◌+◌, ◌-◌, ◌<◌, List, [], map, length, get_or, take, Option, Some, inl, inr, sym, ap, ◌∙◌, arith}
use Rattle.std.specs.List.{Contains, slice_get}
use Rattle.std.specs.Option.{option_map_or}
use Rattle.std.proofs.lemmas.Bool.{cases_lt}
use Rattle.std.proofs.lemmas.List.{get_or-map, length-map, take-map, get_or-take, length-take-le, get_or_default}
use Rattle.std.proofs.lemmas.Option.{slice_get-get_or, slice_get_past}
use Rattle.kc_tree.specs.declared.node.Node.{Node}
use Rattle.kc_tree.specs.declared.node.Node.TheVariants.{Vis, Val, Mode, Sel}
use Rattle.kc_tree.specs.Nodes.{number_of, node_at, IsNodeOf, IsNumbered}
use Rattle.kc_outline.specs.TreeValue.{TreeValue}
use Rattle.kc_tree.specs.Uses.{Uses, visibility_nodes, symbol_value_nodes, choice_prompt_nodes, choice_value_nodes}
use Rattle.kc_tree.specs.Order.{IsOrder, IsLoop}
use Rattle.kc_tree.specs.NodeGraph.{IsGraphOf}
use Rattle.kc_graph.specs.Graph as graph
use Rattle.kc_tree.proofs.NodeNumbers.{node_in-number_in, number_below, at_below, Contains-at, Contains-from_at, place_at}

-- a node that a node of the tree is computed from is one of the tree
abbrev pub Within : TreeValue → Type 0
Within t = (n m : Node) → IsNodeOf t n → Uses t n m → IsNodeOf t m

-- only a node of the tree is computed from others
nothing : (n : Node) → Contains [] n → ⊥
nothing n c = let k : c.0 < 0 = c.1 in omega (arith, k)

module _ {X : Type 0} (f : X → List Node) (xs : List X) (i : ℕ) (m : Node) where
  there_is : Contains (option_map_or f (slice_get xs i) []) m → i < length xs
  there_is c = elim (cases_lt i (length xs)) [
    | inl h ↦ h
    | inr h ↦ absurd (nothing m (subst (λ (o : Option X). Contains (option_map_or f o []) m) (slice_get_past xs i h) c))
  ]

pub user_is_node : (t : TreeValue) (n m : Node) → Uses t n m → IsNodeOf t n
unfolding Uses
user_is_node t (Vis s) m u = there_is (visibility_nodes t) t.symbols s.0 m u
user_is_node t (Val s) m u = there_is (symbol_value_nodes t s) t.symbols s.0 m u
user_is_node t (Mode c) m u = there_is (choice_prompt_nodes t) t.choices c.0 m u
user_is_node t (Sel c) m u = there_is (choice_value_nodes t c) t.choices c.0 m u

module _ (t : TreeValue) where
  abbrev numbered : Node → Type 0
  numbered n = IsNumbered (length t.symbols) n

  -- use between nodes and between their numbers
  pub use_of_numbers : (g : List (List ℕ)) → IsGraphOf t g → (n m : Node) → numbered n → numbered m → Uses t n m → graph.Uses g (number_of t n) (number_of t m)
  use_of_numbers g h n m a b u =
      let From : Node → Type 0 = λ x. Uses t x m in
      let To : Node → Type 0 = λ x. Uses t (node_at t (number_of t n)) x in
      (h.exact (number_of t n) (number_of t m)).1 (subst To (sym b) (subst From (sym a) u))

  pub use_of_nodes : (g : List (List ℕ)) → IsGraphOf t g → (n m : Node) → numbered n → numbered m → graph.Uses g (number_of t n) (number_of t m) → Uses t n m
  use_of_nodes g h n m a b u =
      let From : Node → Type 0 = λ x. Uses t x m in
      let To : Node → Type 0 = λ x. Uses t (node_at t (number_of t n)) x in
      subst From a (subst To b ((h.exact (number_of t n) (number_of t m)).0 u))

  -- use between two numbers, where a node is known to have each
  use_between : (g : List (List ℕ)) → IsGraphOf t g → (p q : ℕ) (n m : Node) → numbered n → numbered m → p ≡ number_of t n → q ≡ number_of t m → graph.Uses g p q → Uses t n m
  use_between g h p q n m a b e f u =
      let From : ℕ → Type 0 = λ x. graph.Uses g x q in
      let To : ℕ → Type 0 = λ x. graph.Uses g (number_of t n) x in
      use_of_nodes g h n m a b (subst To f (subst From e u))

  -- a node of the tree is the one of its number
  known : (n : Node) → IsNodeOf t n → numbered n
  known n i = node_in-number_in t n i

-- an order of the numbers is an order of the nodes
pub order_of_nodes : (t : TreeValue) (g : List (List ℕ)) → Within t → IsGraphOf t g → (order : List ℕ) → graph.IsOrder g order → IsOrder t (map (node_at t) order)
order_of_nodes t g within h order o = record {
  all = λ n i. Contains-at (length t.symbols) order n (known t n i) (o.complete (number_of t n) (omega (arith, h.whole, number_below t n i)));
  only = λ n c. let r = Contains-from_at (length t.symbols) order n c in is_node n r.0 r.1;
  once = λ i j n e f. let a = place_at (length t.symbols) order i n e in let b = place_at (length t.symbols) order j n f in o.once i j a.0 b.0 (a.1 ∙ sym b.1);
  after_used = λ i n m e u. let a = place_at (length t.symbols) order i n e in used_before i n m a.0 a.1 a.2 u;
}
  where
    is_node : (n : Node) → IsNumbered (length t.symbols) n → Contains order (number_of t n) → IsNodeOf t n
    is_node n a c =
        let P : Node → Type 0 = λ x. IsNodeOf t x in
        let below = o.within c.0 c.1 in
        let there = get_or_default order c.0 0 (number_of t n) c.1 in
        subst P a (at_below t (number_of t n) (omega (arith, h.whole, c.2)))

    used_before : (i : ℕ) (n m : Node) → i < length order → get_or order i 0 ≡ number_of t n → IsNumbered (length t.symbols) n → Uses t n m → Contains (take i (map (node_at t) order)) m
    used_before i n m inside is a u =
        let From : ℕ → Type 0 = λ x. graph.Uses g x (number_of t m) in
        let one : IsNumbered (length t.symbols) m = known t m (within n m (user_is_node t n m u) u) in
        let b = o.after i (number_of t m) inside (subst From (sym is) (use_of_numbers t g h n m a one u)) in
        let few : length (take i order) ≡ i = length-take-le i order (omega arith) in
        let early : b.0 < length (take i order) = omega arith in
        let there : get_or (take i order) b.0 (number_of t m) ≡ number_of t m =
        get_or-take i order b.0 (number_of t m) b.1 ∙ get_or_default order b.0 (number_of t m) 0 (omega arith) ∙ b.2 in
        let P : List Node → Type 0 = λ xs. Contains xs m in
        subst P (sym (take-map (node_at t) i order)) (Contains-at (length t.symbols) (take i order) m one (b.0, early, there))

-- a loop of the numbers is a loop of the nodes
pub loop_of_nodes : (t : TreeValue) (g : List (List ℕ)) → IsGraphOf t g → (numbers : List ℕ) → graph.IsLoop g numbers → IsLoop t (map (node_at t) numbers)
loop_of_nodes t g h numbers l = record {
  some = omega (arith, length-map numbers (node_at t), l.some);
  next = λ i n m e f.
      let a = place_at (length t.symbols) numbers i n e in
      let b = place_at (length t.symbols) numbers (i + 1) m f in
      use_between t g h _ _ n m a.2 b.2 a.1 b.1 (l.next i b.0);
  last = λ n m e f.
      let a = place_at (length t.symbols) numbers (length numbers - 1) n (ends n e) in
      let b = place_at (length t.symbols) numbers 0 m f in
      use_between t g h _ _ n m a.2 b.2 a.1 b.1 l.last;
}
  where
    ends : (n : Node) → slice_get (map (node_at t) numbers) (length (map (node_at t) numbers) - 1) ≡ Some n → slice_get (map (node_at t) numbers) (length numbers - 1) ≡ Some n
    ends n e = ap (λ k. slice_get (map (node_at t) numbers) (k - 1)) (sym (length-map numbers (node_at t))) ∙ e

-- the node at a place of a list of nodes, whose number stands there in the list of their numbers
node_there : (t : TreeValue) (nodes : List Node) (i : ℕ) → i < length nodes → (n : Node) × (slice_get nodes i ≡ Some n) × (get_or (map (number_of t) nodes) i 0 ≡ number_of t n)
node_there t nodes i h =
    let n = get_or nodes i (node_at t 0) in
    (n, slice_get-get_or nodes i (node_at t 0) h, get_or-map (number_of t) nodes i (node_at t 0) 0 h)

-- each node of a loop uses one, so it is a node of the tree
looped : (t : TreeValue) (nodes : List Node) → IsLoop t nodes → (i : ℕ) (n : Node) → i < length nodes → slice_get nodes i ≡ Some n → IsNodeOf t n
looped t nodes l i n h e = elim (cases_lt (i + 1) (length nodes)) [
  | inl k ↦ let b = node_there t nodes (i + 1) k in user_is_node t n b.0 (l.next i n b.0 e b.1)
  | inr k ↦
      let b = node_there t nodes 0 l.some in
      let last : i ≡ length nodes - 1 = omega arith in
      user_is_node t n b.0 (l.last n b.0 (ap (slice_get nodes) (sym last) ∙ e) b.1)
]

-- a loop of the nodes is a loop of their numbers
pub loop_of_numbers : (t : TreeValue) (g : List (List ℕ)) → IsGraphOf t g → (nodes : List Node) → IsLoop t nodes → graph.IsLoop g (map (number_of t) nodes)
loop_of_numbers t g h nodes l = record {
  some = omega (arith, same, l.some);
  next = λ i k.
      let here : i < length nodes = omega (arith, same) in
      let there : i + 1 < length nodes = omega (arith, same) in
      let a = node_there t nodes i here in
      let b = node_there t nodes (i + 1) there in
      used i (i + 1) a.0 b.0 (looped t nodes l i a.0 here a.1) (looped t nodes l (i + 1) b.0 there b.1) a.2 b.2 (l.next i a.0 b.0 a.1 b.1);
  last =
      let here : length nodes - 1 < length nodes = omega (arith, l.some) in
      let a = node_there t nodes (length nodes - 1) here in
      let b = node_there t nodes 0 l.some in
      let P : ℕ → Type 0 = λ k. graph.Uses g (get_or (map (number_of t) nodes) (k - 1) 0) (get_or (map (number_of t) nodes) 0 0) in
      subst P (sym same) (used (length nodes - 1) 0 a.0 b.0 (looped t nodes l (length nodes - 1) a.0 here a.1) (looped t nodes l 0 b.0 l.some b.1) a.2 b.2 (l.last a.0 b.0 a.1 b.1));
}
  where
    same : length (map (number_of t) nodes) ≡ length nodes
    same = length-map nodes (number_of t)

    used : (i j : ℕ) (n m : Node) → IsNodeOf t n → IsNodeOf t m → get_or (map (number_of t) nodes) i 0 ≡ number_of t n → get_or (map (number_of t) nodes) j 0 ≡ number_of t m → Uses t n m → graph.Uses g (get_or (map (number_of t) nodes) i 0) (get_or (map (number_of t) nodes) j 0)
    used i j n m a b e f u =
        let From : ℕ → Type 0 = λ x. graph.Uses g x (get_or (map (number_of t) nodes) j 0) in
        let To : ℕ → Type 0 = λ x. graph.Uses g (number_of t n) x in
        subst From (sym e) (subst To (sym f) (use_of_numbers t g h n m (known t n a) (known t m b) u))

-- ---- rows
module _ (t : TreeValue) (g : List (List ℕ)) (n m : Node) where
  abbrev nodes_there : List Node
  nodes_there = map (node_at t) (graph.row g (number_of t n))

  in_row : IsNumbered (length t.symbols) m → graph.Uses g (number_of t n) (number_of t m) → Contains nodes_there m
  in_row b u = Contains-at (length t.symbols) (graph.row g (number_of t n)) m b u

  from_row : Contains nodes_there m → IsNumbered (length t.symbols) m × graph.Uses g (number_of t n) (number_of t m)
  from_row c = Contains-from_at (length t.symbols) (graph.row g (number_of t n)) m c

-- the nodes of the row of a node are those that it uses
pub row_exact : (t : TreeValue) (g : List (List ℕ)) → Within t → IsGraphOf t g → (n m : Node) → IsNodeOf t n → Contains (map (node_at t) (graph.row g (number_of t n))) m ↔ Uses t n m
row_exact t g within h n m i = (
  λ c. let r = from_row t g n m c in use_of_nodes t g h n m (known t n i) r.0 r.1,
  λ u. let b = known t m (within n m i u) in in_row t g n m b (use_of_numbers t g h n m (known t n i) b u),
)
