-- Which nodes are computed from the value of a symbol.
use Rattle.std.proofs.Common.{◌≡◌, ◌↔◌, ◌<◌, ◌∙◌, ℕ, suc, Bool, true, false, ◌&&◌, ◌||◌, List, [], ◌∷◌, Option, None, Some, ap, arith, get_or, length, refl, slice_get, subst, sym}
use Rattle.std.specs.List.{Contains, list_any, range_with_len}
use Rattle.std.specs.Option.{option_map_or}
use Rattle.std.proofs.lemmas.Bool.{eq-eqb, eqb-true, false≢true}
use Rattle.std.proofs.lemmas.List.Folds.{list_any_at}
use Rattle.std.proofs.lemmas.List.FromFn.{get_or-range_with_len, length-range_with_len}
use Rattle.std.proofs.lemmas.Option.{slice_get_within}
use Rattle.kc_statement.specs.declared.id.SymId.{SymId}
use Rattle.kc_outline.specs.TreeValue.{TreeValue}
use Rattle.kc_tree.specs.Nodes.{IsNodeOf, all_nodes, node_count, number_of}
use Rattle.kc_tree.specs.Uses.{Uses, choice_prompt_nodes, choice_value_nodes, symbol_value_nodes, used_nodes, visibility_nodes}
use Rattle.kc_tree.specs.declared.node.Node.{Node}
use Rattle.kc_tree.specs.declared.node.Node.TheVariants.{Mode, Sel, Val, Vis}
use Rattle.kc_tree.proofs.NodeNumbers.{Contains-at, node_in-number_in, number_below}
use Rattle.kc_facts.specs.Unset.{is_other, is_value_of, uses_value}

-- ---- tests
same_tests : (a b : Bool) → (a ≡ true → b ≡ true) → (b ≡ true → a ≡ true) → a ≡ b
same_tests true b there back = sym (there refl)
same_tests false true there back = back refl
same_tests false false there back = refl

and_left : (a b : Bool) → (a && b) ≡ true → a ≡ true
and_left true b e = refl
and_left false b e = e

and_right : (a b : Bool) → (a && b) ≡ true → b ≡ true
and_right true b e = e
and_right false b e = absurd (false≢true e)

both_hold : (a b : Bool) → a ≡ true → b ≡ true → (a && b) ≡ true
both_hold a b p q = ap (λ x. x && b) p ∙ q

-- an element that passes a test which some do
any_has : (p : Node → Bool) (xs : List Node) → list_any p xs ≡ true → (x : Node) × Contains xs x × (p x ≡ true)
any_has p [] e = absurd (false≢true e)
any_has p (x ∷ xs) e = go (p x) refl (λ rest. any_has p xs rest)
  where
    go : (b : Bool) → p x ≡ b → (list_any p xs ≡ true → (y : Node) × Contains xs y × (p y ≡ true)) → (y : Node) × Contains (x ∷ xs) y × (p y ≡ true)
    go true is later = (x, (0, omega arith, refl), is)
    go false is later =
        let r = later (sym (ap (λ b. b || list_any p xs) is) ∙ e) in
        (r.0, (suc r.1.0, omega (arith, r.1.1), r.1.2), r.2)

has_any : (p : Node → Bool) (xs : List Node) (x : Node) → Contains xs x → p x ≡ true → list_any p xs ≡ true
has_any p xs x (i, within, here) e = list_any_at p xs i x within (ap p here ∙ e)

-- ---- the value of a symbol among the nodes that a node is computed from
value_is : (s : SymId) (n : Node) → is_value_of s n ≡ true → n ≡ Val s
value_is s (Vis u) e = absurd (false≢true e)
value_is s (Val u) e = ap (λ k. Val (record { 0 = k })) (eqb-true u.0 s.0 e)
value_is s (Mode c) e = absurd (false≢true e)
value_is s (Sel c) e = absurd (false≢true e)

value_used : (t : TreeValue) (s : SymId) (m : Node) → Uses t m (Val s) → uses_value t s m ≡ true
unfolding Uses
value_used t s m u = has_any (is_value_of s) (used_nodes t m) (Val s) u (eq-eqb s.0 s.0 refl)

used_value : (t : TreeValue) (s : SymId) (m : Node) → uses_value t s m ≡ true → Uses t m (Val s)
unfolding Uses
used_value t s m e =
    let r = any_has (is_value_of s) (used_nodes t m) e in
    subst (λ n. Contains (used_nodes t m) n) (value_is s r.0 r.2) r.1

-- ---- a node that is computed from one is of the tree
within : {X : Type 0} (xs : List X) (k : ℕ) (f : X → List Node) (n : Node) → Contains (option_map_or f (slice_get xs k) []) n → k < length xs
within {X} xs k f n has = go (slice_get xs k) refl has
  where
    go : (o : Option X) → slice_get xs k ≡ o → Contains (option_map_or f o []) n → k < length xs
    go None is (p, below, here) = absurd (omega (arith, below))
    go (Some x) is there = slice_get_within xs k x is

uses_within : (t : TreeValue) (m n : Node) → Uses t m n → IsNodeOf t m
unfolding Uses
uses_within t (Vis s) n u = within t.symbols s.0 (visibility_nodes t) n u
uses_within t (Val s) n u = within t.symbols s.0 (symbol_value_nodes t s) n u
uses_within t (Mode c) n u = within t.choices c.0 (choice_prompt_nodes t) n u
uses_within t (Sel c) n u = within t.choices c.0 (choice_value_nodes t c) n u

in_range : (n k : ℕ) → k < n → Contains (range_with_len 0 n) k
in_range n k below = (k, omega (arith, below, length-range_with_len 0 n), get_or-range_with_len 0 n k k below ∙ omega arith)

among_all : (t : TreeValue) (m : Node) → IsNodeOf t m → Contains (all_nodes t) m
among_all t m inside =
    Contains-at (length t.symbols) (range_with_len 0 (node_count t)) m (node_in-number_in t m inside)
    (in_range (node_count t) (number_of t m) (number_below t m inside))

-- whether another node is among those that are computed from the value of a symbol
pub used_known : (t : TreeValue) (s : SymId) (users : List Node) → ((m : Node) → Contains users m ↔ Uses t m (Val s))
    → list_any (is_other s) users ≡ list_any (λ m. is_other s m && uses_value t s m) (all_nodes t)
used_known t s users exact =
    let uses : Node → Bool = λ m. is_other s m && uses_value t s m in
    same_tests (list_any (is_other s) users) (list_any uses (all_nodes t))
    (λ e.
    let r = any_has (is_other s) users e in
    let u = (exact r.0).0 r.1 in
    has_any uses (all_nodes t) r.0 (among_all t r.0 (uses_within t r.0 (Val s) u)) (both_hold (is_other s r.0) (uses_value t s r.0) r.2 (value_used t s r.0 u)))
    (λ e.
    let r = any_has uses (all_nodes t) e in
    has_any (is_other s) users r.0 ((exact r.0).1 (used_value t s r.0 (and_right (is_other s r.0) (uses_value t s r.0) r.2)))
    (and_left (is_other s r.0) (uses_value t s r.0) r.2))
