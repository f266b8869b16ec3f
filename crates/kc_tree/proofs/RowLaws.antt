-- Rows of numbers while nodes are collected: one step after another, and lists without repeats.
use Rattle.std.proofs.Common.{◌≡◌, ℕ, suc, ◌+◌, ◌<◌, ◌≤◌, Bool, true, false, ◌||◌, eqb, Option, List, [], ◌∷◌, ◌++◌, length, get_or, take, map, Some, None, refl, sym, ap, subst, ◌∙◌, inl, inr, ◌⊎◌, arith}
use Rattle.std.specs.List.{list_any, filter_map, flat_map, slice_get, Contains}
use Rattle.std.specs.Option.{option_map_or}
use Rattle.std.proofs.Math.Bool.{or_assoc}
use Rattle.std.proofs.lemmas.Bool.{or_cases, eqb-true, eq-eqb}
use Rattle.std.proofs.lemmas.List.{take_more, append-nil}
use Rattle.std.proofs.lemmas.Option.{slice_get_past, slice_get_cases}
use Rattle.std.proofs.lemmas.List.Folds.{list_any-append, list_any_at}
use Rattle.std.proofs.lemmas.Grind.{flat_map-append}
use Rattle.kc_tree.specs.declared.node.Node.{Node}
use Rattle.kc_statement.specs.declared.expr.Expr.{Expr}
use Rattle.kc_tree.specs.declared.node.Node.TheVariants.{Vis, Val, Mode, Sel}
use Rattle.kc_tree.specs.Nodes.{number_in, IsNodeOf}
use Rattle.kc_outline.specs.TreeValue.{TreeValue}
use Rattle.kc_statement.specs.Formula.{all_joined, any_joined}
use Rattle.kc_tree.specs.Uses.{formula_nodes, value_nodes}
use Rattle.kc_tree.specs.CellRows.{has_number, has_node, node_there, Adds, HaveSame}

-- ---- tests of lists
pub same_tests : (a b : Bool) → (a ≡ true → b ≡ true) → (b ≡ true → a ≡ true) → a ≡ b
same_tests true b f g = sym (f refl)
same_tests false true f g = g refl
same_tests false false f g = refl

-- a test of an element of a list
pub any_contains : {X : Type 0} (p : X → Bool) (xs : List X) (x : X) → Contains xs x → p x ≡ true → list_any p xs ≡ true
any_contains p xs x c e = list_any_at p xs c.0 x c.1 (ap p c.2 ∙ e)

-- an element that a test finds
pub found : {X : Type 0} (p : X → Bool) (xs : List X) → list_any p xs ≡ true → (x : X) × Contains xs x × (p x ≡ true)
found p [] e = cc
found p (x ∷ xs) e =
    elim (or_cases (p x) (list_any p xs) e) [
      | inl h ↦ (x, (0, omega arith, refl), h)
      | inr h ↦ let r = found p xs h in (r.0, (suc r.1.0, omega (arith, r.1.1), r.1.2), r.2)
    ]

any_moved : {X : Type 0} (p : X → Bool) (xs ys : List X) → ((x : X) → Contains xs x → Contains ys x) → list_any p xs ≡ true → list_any p ys ≡ true
any_moved p xs ys f e = let r = found p xs e in any_contains p ys r.0 (f r.0 r.1) r.2

-- lists with the same elements pass a test alike
pub any_of_same : {X : Type 0} (p : X → Bool) (xs ys : List X) → ((x : X) → Contains xs x → Contains ys x) → ((x : X) → Contains ys x → Contains xs x) → list_any p xs ≡ list_any p ys
any_of_same p xs ys f g = same_tests _ _ (any_moved p xs ys f) (any_moved p ys xs g)

-- alike at each element
pub any_alike : {X : Type 0} (p q : X → Bool) (xs : List X) → ((x : X) → p x ≡ q x) → list_any p xs ≡ list_any q xs
any_alike p q [] h = refl
any_alike p q (x ∷ xs) h = ap (λ b. b || list_any p xs) (h x) ∙ ap (λ b. q x || b) (any_alike p q xs h)

pub or_false : (b : Bool) → b ≡ (b || false)
or_false true = refl
or_false false = refl

filtered_step : {X Y : Type 0} (q : Y → Bool) (g : X → Option Y) (x : X) (xs : List X) → list_any q (filter_map g xs) ≡ list_any (λ z. option_map_or q (g z) false) xs → (o : Option Y) → g x ≡ o → list_any q (filter_map g (x ∷ xs)) ≡ list_any (λ z. option_map_or q (g z) false) (x ∷ xs)
filtered_step q g x xs h None e = rw e h
filtered_step q g x xs h (Some y) e = rw e (ap (λ b. q y || b) h)

pub any_filtered : {X Y : Type 0} (q : Y → Bool) (g : X → Option Y) (xs : List X) → list_any q (filter_map g xs) ≡ list_any (λ x. option_map_or q (g x) false) xs
any_filtered q g [] = refl
any_filtered q g (x ∷ xs) = filtered_step q g x xs (any_filtered q g xs) (g x) refl

-- ---- a node where a list has an element
pub none_past : {X : Type 0} (n : Node) (xs : List X) (k : ℕ) → length xs ≤ k → option_map_or (λ x. n ∷ []) (slice_get xs k) [] ≡ []
none_past {X} n xs k h = ap (λ (o : Option X). option_map_or (λ x. n ∷ []) o []) (slice_get_past xs k h)

pub one_within : {X : Type 0} (n : Node) (xs : List X) (k : ℕ) → k < length xs → option_map_or (λ x. n ∷ []) (slice_get xs k) [] ≡ n ∷ []
one_within {X} n xs k h = go (slice_get_cases xs k).1
  where
    go : ((x : X) × (k < length xs) × (slice_get xs k ≡ Some x) × (get_or xs k x ≡ x)) ⊎ ((length xs ≤ k) × (slice_get xs k ≡ None)) → option_map_or (λ x. n ∷ []) (slice_get xs k) [] ≡ n ∷ []
    go (inl a) = ap (λ (o : Option X). option_map_or (λ x. n ∷ []) o []) a.2
    go (inr b) = absurd (omega (arith, b.0))

pub there_within : (t : TreeValue) (n : Node) → IsNodeOf t n → node_there t n ≡ n ∷ []
there_within t (Vis s) h = one_within (Vis s) t.symbols s.0 h
there_within t (Val s) h = one_within (Val s) t.symbols s.0 h
there_within t (Mode c) h = one_within (Mode c) t.choices c.0 h
there_within t (Sel c) h = one_within (Sel c) t.choices c.0 h

-- the tree has no symbol or choice of the node's number
abbrev pub IsPast : TreeValue → Node → Type 0
IsPast t (Vis s) = length t.symbols ≤ s.0
IsPast t (Val s) = length t.symbols ≤ s.0
IsPast t (Mode c) = length t.choices ≤ c.0
IsPast t (Sel c) = length t.choices ≤ c.0

pub there_past : (t : TreeValue) (n : Node) → IsPast t n → node_there t n ≡ []
there_past t (Vis s) h = none_past (Vis s) t.symbols s.0 h
there_past t (Val s) h = none_past (Val s) t.symbols s.0 h
there_past t (Mode c) h = none_past (Mode c) t.choices c.0 h
there_past t (Sel c) h = none_past (Sel c) t.choices c.0 h

-- ---- expressions
-- what the parts of an expression read, however they are joined
pub joined_both : (t : TreeValue) (es : List Expr) → formula_nodes t (all_joined es) ≡ flat_map (value_nodes t) es
joined_both t [] = refl
joined_both t (e ∷ []) = sym (append-nil (value_nodes t e))
joined_both t (e ∷ f ∷ es) = ap (λ ns. value_nodes t e ++ ns) (joined_both t (f ∷ es))

pub joined_either : (t : TreeValue) (es : List Expr) → formula_nodes t (any_joined es) ≡ flat_map (value_nodes t) es
joined_either t [] = refl
joined_either t (e ∷ []) = sym (append-nil (value_nodes t e))
joined_either t (e ∷ f ∷ es) = ap (λ ns. value_nodes t e ++ ns) (joined_either t (f ∷ es))

-- ---- lists with the same numbers
pub number_there : (xs : List ℕ) (k : ℕ) → has_number xs k ≡ true → Contains xs k
number_there xs k e = let r = found (λ j. eqb j k) xs e in subst (λ (j : ℕ). Contains xs j) (eqb-true r.0 k r.2) r.1

pub number_found : (xs : List ℕ) (k : ℕ) → Contains xs k → has_number xs k ≡ true
number_found xs k c = any_contains (λ j. eqb j k) xs k c (eq-eqb k k refl)

pub same_from_contains : (xs ys : List ℕ) → ((k : ℕ) → Contains xs k → Contains ys k) → ((k : ℕ) → Contains ys k → Contains xs k) → HaveSame xs ys
same_from_contains xs ys f g = record { has = λ k. any_of_same (λ j. eqb j k) xs ys f g }

pub any_map : {X Y : Type 0} (p : Y → Bool) (f : X → Y) (xs : List X) → list_any p (map f xs) ≡ list_any (λ x. p (f x)) xs
any_map p f [] = refl
any_map p f (x ∷ xs) = ap (λ b. p (f x) || b) (any_map p f xs)

-- in a tree of so many symbols
module _ (symbols : ℕ) where
  -- ---- rows, a step after another
  pub adds_none : (r : List ℕ) → Adds symbols r r []
  adds_none r = record { has = λ k. or_false (has_number r k) }

  pub adds_then : (a b c : List ℕ) (xs ys : List Node) → Adds symbols a b xs → Adds symbols b c ys → Adds symbols a c (xs ++ ys)
  adds_then a b c xs ys f g = record {
    has = λ k.
        g.has k
        ∙ ap (λ x. x || has_node symbols ys k) (f.has k)
        ∙ or_assoc (has_number a k) (has_node symbols xs k) (has_node symbols ys k)
        ∙ ap (λ x. has_number a k || x) (sym (list_any-append (λ n. eqb (number_in symbols n) k) xs ys));
  }

  pub adds_alike : (a b : List ℕ) (xs ys : List Node) → Adds symbols a b xs → ((k : ℕ) → has_node symbols xs k ≡ has_node symbols ys k) → Adds symbols a b ys
  adds_alike a b xs ys f e = record { has = λ k. f.has k ∙ ap (λ x. has_number a k || x) (e k) }

  pub adds_number : (a b : List ℕ) (n : Node) (v : ℕ) → b ≡ a ++ v ∷ [] → v ≡ number_in symbols n → Adds symbols a b (n ∷ [])
  adds_number a b n v e i = record {
    has = λ k.
        ap (λ r. has_number r k) e
        ∙ list_any-append (λ j. eqb j k) a (v ∷ [])
        ∙ ap (λ x. has_number a k || (eqb x k || false)) i;
  }

  -- one more element of a list, at a step of a loop
  pub adds_more : {X : Type 0} (f : X → List Node) (xs : List X) (i : ℕ) (x : X) (a b c : List ℕ) → i < length xs → x ≡ get_or xs i x → Adds symbols a b (flat_map f (take i xs)) → Adds symbols b c (f x) → Adds symbols a c (flat_map f (take (i + 1) xs))
  adds_more f xs i x a b c h e g k =
      let P : List Node → Type 0 = λ ns. Adds symbols a c ns in
      let one : take (i + 1) xs ≡ take i xs ++ x ∷ [] = take_more xs i x h ∙ ap (λ y. take i xs ++ y ∷ []) (sym e) in
      subst P (sym (ap (flat_map f) one ∙ flat_map-append f (take i xs) (x ∷ []))) (adds_then a b c (flat_map f (take i xs)) (f x ++ []) g (adds_alike b c (f x) (f x ++ []) k (λ j. alike (f x) j)))
    where
      alike : (ns : List Node) (j : ℕ) → has_node symbols ns j ≡ has_node symbols (ns ++ []) j
      alike ns j = or_false (has_node symbols ns j) ∙ sym (list_any-append (λ n. eqb (number_in symbols n) j) ns [])

  -- two lists that stand for the same nodes
  pub adds_equal : (a b : List ℕ) (xs ys : List Node) → xs ≡ ys → Adds symbols a b xs → Adds symbols a b ys
  adds_equal a b xs ys e f = subst (λ ns. Adds symbols a b ns) e f

  -- ---- rows and their nodes
  pub node_found : (ns : List Node) (k : ℕ) → has_node symbols ns k ≡ true → (n : Node) × Contains ns n × (number_in symbols n ≡ k)
  node_found ns k e = let r = found (λ n. eqb (number_in symbols n) k) ns e in (r.0, r.1, eqb-true (number_in symbols r.0) k r.2)

  pub node_has : (ns : List Node) (n : Node) → Contains ns n → has_node symbols ns (number_in symbols n) ≡ true
  node_has ns n c = any_contains (λ m. eqb (number_in symbols m) (number_in symbols n)) ns n c (eq-eqb (number_in symbols n) (number_in symbols n) refl)
