-- The numbers of nodes: `number_in` and `node_in` undo each other, and lists of nodes go over to lists of numbers.
use Rattle.std.proofs.Common.{subst, zero, suc, Bool, true, false, ◌≡◌, ℕ, ◌+◌, ◌-◌, ◌*◌, ◌/◌, ◌%◌, ◌<◌, ◌≤◌, List, [], ◌∷◌, map, length, get_or, Some, refl, sym, ap, ◌∙◌, inl, inr, cond, eqb, arith}
use Rattle.std.specs.List.{Contains, slice_get}
use Rattle.std.proofs.lemmas.Bool.{cases_lt, lt-ltb, le-ltb}
use Rattle.std.proofs.lemmas.List.{get_or-map, length-map}
use Rattle.std.proofs.lemmas.Option.{slice_get_within, get_or_from_slice_get}
use Rattle.kc_tree.specs.declared.node.Node.{Node}
use Rattle.kc_tree.specs.declared.node.Node.TheVariants.{Vis, Val, Mode, Sel}
use Rattle.kc_outline.specs.TreeValue.{TreeValue}
use Rattle.kc_tree.specs.Nodes.{number_in, node_in, symbol_node, choice_node, number_of, node_at, node_count, IsNodeOf}
use Rattle.kc_tree.specs.Nodes.{IsNumbered, AreNumbered}

even_rest : (k : ℕ) → (2 * k) % 2 ≡ 0
even_rest k = omega arith

even_half : (k : ℕ) → (2 * k) / 2 ≡ k
even_half k = omega arith

odd_rest : (k : ℕ) → (2 * k + 1) % 2 ≡ 1
odd_rest k = omega arith

odd_half : (k : ℕ) → (2 * k + 1) / 2 ≡ k
odd_half k = omega arith

-- ---- the numbers of symbols stand below twice their count, those of choices above
in_symbols : (symbols k : ℕ) → k < 2 * symbols → node_in symbols k ≡ symbol_node k
in_symbols symbols k h = ap (λ b. cond b (symbol_node k) (choice_node (k - 2 * symbols))) (lt-ltb k (2 * symbols) h)

in_choices : (symbols k : ℕ) → 2 * symbols ≤ k → node_in symbols k ≡ choice_node (k - 2 * symbols)
in_choices symbols k h = ap (λ b. cond b (symbol_node k) (choice_node (k - 2 * symbols))) (le-ltb k (2 * symbols) h)

symbol_made : (symbols r q : ℕ) → r < 2 → number_in symbols (cond (eqb r 0) (Vis (record { 0 = q })) (Val (record { 0 = q }))) ≡ 2 * q + r
symbol_made symbols zero q h = omega arith
symbol_made symbols (suc zero) q h = refl
symbol_made symbols (suc (suc r)) q h = absurd (omega arith)

choice_made : (symbols r q : ℕ) → r < 2 → number_in symbols (cond (eqb r 0) (Mode (record { 0 = q })) (Sel (record { 0 = q }))) ≡ 2 * symbols + 2 * q + r
choice_made symbols zero q h = omega arith
choice_made symbols (suc zero) q h = omega arith
choice_made symbols (suc (suc r)) q h = absurd (omega arith)

number_of_symbol : (symbols k : ℕ) → number_in symbols (symbol_node k) ≡ k
number_of_symbol symbols k = symbol_made symbols (k % 2) (k / 2) (omega arith) ∙ omega arith

number_of_choice : (symbols k : ℕ) → number_in symbols (choice_node k) ≡ 2 * symbols + k
number_of_choice symbols k = choice_made symbols (k % 2) (k / 2) (omega arith) ∙ omega arith

pub number_in-node_in : (symbols k : ℕ) → number_in symbols (node_in symbols k) ≡ k
number_in-node_in symbols k = elim (cases_lt k (2 * symbols)) [
  | inl h ↦ ap (number_in symbols) (in_symbols symbols k h) ∙ number_of_symbol symbols k
  | inr h ↦ ap (number_in symbols) (in_choices symbols k h) ∙ number_of_choice symbols (k - 2 * symbols) ∙ omega arith
]

-- a node of a number is the one of its own
pub numbered_in : (symbols k : ℕ) → IsNumbered symbols (node_in symbols k)
numbered_in symbols k = ap (node_in symbols) (number_in-node_in symbols k)

-- ---- nodes of a tree
symbol_even : (k : ℕ) → symbol_node (2 * k) ≡ Vis (record { 0 = k })
symbol_even k = rw (even_rest k, even_half k) refl

symbol_odd : (k : ℕ) → symbol_node (2 * k + 1) ≡ Val (record { 0 = k })
symbol_odd k = rw (odd_rest k, odd_half k) refl

choice_even : (k : ℕ) → choice_node (2 * k) ≡ Mode (record { 0 = k })
choice_even k = rw (even_rest k, even_half k) refl

choice_odd : (k : ℕ) → choice_node (2 * k + 1) ≡ Sel (record { 0 = k })
choice_odd k = rw (odd_rest k, odd_half k) refl

left_even : (symbols k : ℕ) → 2 * (symbols + k) - 2 * symbols ≡ 2 * k
left_even symbols k = omega arith

left_odd : (symbols k : ℕ) → (2 * (symbols + k) + 1) - 2 * symbols ≡ 2 * k + 1
left_odd symbols k = omega arith

pub node_in-number_in : (t : TreeValue) (n : Node) → IsNodeOf t n → IsNumbered (length t.symbols) n
node_in-number_in t (Vis s) h = in_symbols (length t.symbols) (2 * s.0) (omega arith) ∙ symbol_even s.0
node_in-number_in t (Val s) h = in_symbols (length t.symbols) (2 * s.0 + 1) (omega arith) ∙ symbol_odd s.0
node_in-number_in t (Mode c) h =
    in_choices (length t.symbols) (2 * (length t.symbols + c.0)) (omega arith)
    ∙ ap choice_node (left_even (length t.symbols) c.0)
    ∙ choice_even c.0
node_in-number_in t (Sel c) h =
    in_choices (length t.symbols) (2 * (length t.symbols + c.0) + 1) (omega arith)
    ∙ ap choice_node (left_odd (length t.symbols) c.0)
    ∙ choice_odd c.0

pub number_of-node_at : (t : TreeValue) (k : ℕ) → number_of t (node_at t k) ≡ k
number_of-node_at t k = number_in-node_in (length t.symbols) k

pub node_at-number_of : (t : TreeValue) (n : Node) → IsNodeOf t n → node_at t (number_of t n) ≡ n
node_at-number_of t n h = node_in-number_in t n h

-- two nodes that are the ones of their numbers
pub same_numbered : (symbols : ℕ) (n m : Node) → IsNumbered symbols n → IsNumbered symbols m → number_in symbols n ≡ number_in symbols m → n ≡ m
same_numbered symbols n m a b e = sym a ∙ ap (node_in symbols) e ∙ b

pub same_node : (t : TreeValue) (n m : Node) → IsNodeOf t n → IsNodeOf t m → number_of t n ≡ number_of t m → n ≡ m
same_node t n m a b e = same_numbered (length t.symbols) n m (node_in-number_in t n a) (node_in-number_in t m b) e

-- the numbers of the nodes of a tree are those below their count
pub number_below : (t : TreeValue) (n : Node) → IsNodeOf t n → number_of t n < node_count t
number_below t (Vis s) h = omega arith
number_below t (Val s) h = omega arith
number_below t (Mode c) h = omega arith
number_below t (Sel c) h = omega arith

symbol_at : (t : TreeValue) (b : Bool) (q : ℕ) → q < length t.symbols → IsNodeOf t (cond b (Vis (record { 0 = q })) (Val (record { 0 = q })))
symbol_at t true q h = h
symbol_at t false q h = h

choice_at : (t : TreeValue) (b : Bool) (q : ℕ) → q < length t.choices → IsNodeOf t (cond b (Mode (record { 0 = q })) (Sel (record { 0 = q })))
choice_at t true q h = h
choice_at t false q h = h

pub at_below : (t : TreeValue) (k : ℕ) → k < node_count t → IsNodeOf t (node_at t k)
at_below t k h =
    let n : ℕ = length t.symbols in
    let P : Node → Type 0 = λ x. IsNodeOf t x in
    elim (cases_lt k (2 * n)) [
      | inl l ↦ subst P (sym (in_symbols n k l)) (symbol_at t (eqb (k % 2) 0) (k / 2) (omega arith))
      | inr l ↦ subst P (sym (in_choices n k l)) (choice_at t (eqb ((k - 2 * n) % 2) 0) ((k - 2 * n) / 2) (omega arith))
    ]

pub below_at : (t : TreeValue) (k : ℕ) → IsNodeOf t (node_at t k) → k < node_count t
below_at t k h = subst (λ j. j < node_count t) (number_of-node_at t k) (number_below t (node_at t k) h)

pub are_numbered : (t : TreeValue) → AreNumbered t
are_numbered t = record {
  below = λ n inside. number_below t n inside;
  alone = λ n m inside among same. same_node t n m inside among same;
  inside = λ k below. at_below t k below;
  at = λ k below. number_of-node_at t k;
}

-- ---- lists
module _ {A B : Type 0} where
  pub Contains-map : (f : A → B) (xs : List A) (x : A) → Contains xs x → Contains (map f xs) (f x)
  Contains-map f xs x h = (h.0, omega (arith, length-map xs f, h.1), get_or-map f xs h.0 x (f x) h.1 ∙ ap f h.2)

  -- an element of a list that a function made is what it makes of one
  pub Contains-from_map : (f : A → B) (xs : List A) (y : B) → Contains (map f xs) y → (x : A) × Contains xs x × (f x ≡ y)
  Contains-from_map f xs y h = from_place xs h.0 h.1 h.2
    where
      from_place : (xs : List A) (k : ℕ) → k < length (map f xs) → get_or (map f xs) k y ≡ y → (x : A) × Contains xs x × (f x ≡ y)
      from_place [] k l e = absurd (omega arith)
      from_place (x ∷ xs) zero l e = (x, (0, omega arith, refl), e)
      from_place (x ∷ xs) (suc k) l e =
          let r = from_place xs k (omega arith) e in
          (r.0, (suc r.1.0, omega (arith, r.1.1), r.1.2), r.2)

module _ (symbols : ℕ) where
  -- numbers to nodes
  pub Contains-at : (numbers : List ℕ) (n : Node) → IsNumbered symbols n → Contains numbers (number_in symbols n) → Contains (map (node_in symbols) numbers) n
  Contains-at numbers n is h = let P : Node → Type 0 = λ m. Contains (map (node_in symbols) numbers) m in subst P is (Contains-map (node_in symbols) numbers (number_in symbols n) h)

  pub Contains-from_at : (numbers : List ℕ) (n : Node) → Contains (map (node_in symbols) numbers) n → IsNumbered symbols n × Contains numbers (number_in symbols n)
  Contains-from_at numbers n h =
      let r = Contains-from_map (node_in symbols) numbers n h in
      let P : ℕ → Type 0 = λ k. Contains numbers k in
      let Q : Node → Type 0 = λ m. IsNumbered symbols m in
      (subst Q r.2 (numbered_in symbols r.0), subst P (sym (number_in-node_in symbols r.0) ∙ ap (number_in symbols) r.2) r.1)

  -- nodes to numbers
  pub Contains-number : (nodes : List Node) (k : ℕ) → Contains nodes (node_in symbols k) → Contains (map (number_in symbols) nodes) k
  Contains-number nodes k h = let P : ℕ → Type 0 = λ j. Contains (map (number_in symbols) nodes) j in subst P (number_in-node_in symbols k) (Contains-map (number_in symbols) nodes (node_in symbols k) h)

  -- the node at a place of an order of numbers
  pub place_at : (numbers : List ℕ) (i : ℕ) (n : Node) → slice_get (map (node_in symbols) numbers) i ≡ Some n → (i < length numbers) × (get_or numbers i 0 ≡ number_in symbols n) × IsNumbered symbols n
  place_at numbers i n e =
      let within = slice_get_within (map (node_in symbols) numbers) i n e in
      let inside : i < length numbers = omega (arith, length-map numbers (node_in symbols)) in
      let is : node_in symbols (get_or numbers i 0) ≡ n = sym (get_or-map (node_in symbols) numbers i 0 n inside) ∙ get_or_from_slice_get (map (node_in symbols) numbers) i n n e in
      let Q : Node → Type 0 = λ m. IsNumbered symbols m in
      (inside, sym (number_in-node_in symbols (get_or numbers i 0)) ∙ ap (number_in symbols) is, subst Q is (numbered_in symbols (get_or numbers i 0)))
