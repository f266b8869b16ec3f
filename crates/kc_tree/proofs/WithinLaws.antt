-- What a node of a tree is computed from is a node of the tree.
use Rattle.std.proofs.Common.{◌≡◌, ℕ, ◌<◌, Bool, true, false, List, [], ◌∷◌, ◌++◌, length, Option, Some, None, refl, sym, subst, inl, inr}
use Rattle.std.specs.List.{All, flat_map, slice_get}
use Rattle.std.specs.Option.{option_map_or}
use Rattle.std.proofs.lemmas.List.Elements.{All-nil, All-cons, All-append, All-contains}
use Rattle.std.proofs.lemmas.Bool.{cases_lt}
use Rattle.std.proofs.lemmas.Option.{slice_get_within}
use Rattle.kc_statement.specs.declared.id.SymId.{SymId}
use Rattle.kc_outline.specs.declared.id.ChoiceId.{ChoiceId}
use Rattle.kc_statement.specs.declared.expr.Term.{Term}
use Rattle.kc_statement.specs.declared.expr.Term.TheVariants.{Tri, Text, Symbol, Undefined}
use Rattle.kc_statement.specs.declared.expr.Expr.{Expr}
use Rattle.kc_statement.specs.declared.attribute.DefaultValue.{DefaultValue}
use Rattle.kc_statement.specs.declared.attribute.Range.{Range}
use Rattle.kc_outline.specs.declared.choice.ChoiceDefault.{ChoiceDefault}
use Rattle.kc_outline.specs.declared.symbol.Reverse.{Reverse}
use Rattle.kc_statement.specs.declared.symbol_type.SymbolType.TheVariants.{Tristate}
use Rattle.kc_tree.specs.declared.node.Node.{Node}
use Rattle.kc_tree.specs.declared.node.Node.TheVariants.{Vis, Val, Mode, Sel}
use Rattle.kc_outline.specs.TreeValue.{TreeValue, SymbolValue, DefinitionValue, BlockValue, ChoiceValue, modules_symbol, kind_of, definitions_of, blocks_around, same_type, prompt_of, choice_prompt_of}
use Rattle.kc_tree.specs.Nodes.{IsNodeOf}
use Rattle.kc_statement.specs.Formula.{Formula, atom, bare, compare, negation, group, both, either}
use Rattle.kc_tree.specs.Uses.{symbol_nodes, term_nodes, formula_nodes, value_nodes, modules_nodes, nodes_if, conditions_nodes, own_condition_nodes, depends_nodes, visible_nodes, dependency_nodes, prompt_nodes, default_nodes, range_nodes, definition_nodes, reverse_nodes, mode_nodes, selection_nodes, condition_nodes, visibility_node, choice_prompt_nodes, choice_default_nodes, choice_value_nodes, type_nodes, visibility_nodes, free_value_nodes, symbol_value_nodes, used_nodes, Uses}
use Rattle.kc_tree.specs.ConditionTable.{of_property}
use Rattle.kc_tree.specs.Cells.{default_alone_nodes, range_alone_nodes}
use Rattle.kc_tree.proofs.RowLaws.{one_within, none_past}

-- lists for which something holds
module _ {A : Type 0} (P : A → Type 0) where
  abbrev pub Are : List A → Type 0
  Are ns = All (λ n. P n) ns

  pub none : Are []
  none = All-nil (λ n. P n)

  pub joined : (xs ys : List A) → Are xs → Are ys → Are (xs ++ ys)
  joined xs ys f g = All-append (λ n. P n) xs ys f g

  pub flat : {X : Type 0} (f : X → List A) (xs : List X) → ((x : X) → Are (f x)) → Are (flat_map f xs)
  flat f [] h = none
  flat f (x ∷ xs) h = joined (f x) (flat_map f xs) (h x) (flat f xs h)

  pub option : {X : Type 0} (f : X → List A) (o : Option X) → ((x : X) → Are (f x)) → Are (option_map_or f o [])
  option f None h = none
  option f (Some x) h = h x

-- a node where a list has an element
module _ (P : Node → Type 0) where
  guarded : {X : Type 0} (n : Node) (xs : List X) (k : ℕ) → (k < length xs → P n) → Are P (option_map_or (λ x. n ∷ []) (slice_get xs k) [])
  guarded n xs k h = elim (cases_lt k (length xs)) [
    | inl i ↦ subst (Are P) (sym (one_within n xs k i)) (All-cons (λ n. P n) n [] (h i) (none P))
    | inr i ↦ subst (Are P) (sym (none_past n xs k i)) (none P)
  ]

-- what holds of the values of symbols of the tree
module _ (t : TreeValue) (P : Node → Type 0) (val : (s : SymId) → s.0 < length t.symbols → P (Val s)) where
  pub symbol : (s : SymId) → Are P (symbol_nodes t s)
  symbol s = guarded P (Val s) t.symbols s.0 (val s)

  term : (x : Term) → Are P (term_nodes t x)
  term (Tri v) = none P
  term (Text w) = none P
  term (Symbol s) = symbol s
  term (Undefined w) = none P

  pub modules : Are P (modules_nodes t)
  modules = option P (symbol_nodes t) (modules_symbol t) symbol

  modules_if : (b : Bool) → Are P (nodes_if b (modules_nodes t))
  modules_if true = modules
  modules_if false = none P

  value : (f : Formula) → Are P (formula_nodes t f)
  value (atom x) = term x
  value (bare x) = modules
  value (compare c x y) = joined P (term_nodes t x) (term_nodes t y) (term x) (term y)
  value (negation f) = value f
  value (group f) = value f
  value (both f g) = joined P (formula_nodes t f) (formula_nodes t g) (value f) (value g)
  value (either f g) = joined P (formula_nodes t f) (formula_nodes t g) (value f) (value g)

  condition : (e : Expr) → Are P (value_nodes t e)
  condition e = value e

  pub conditions : (es : List Expr) → Are P (conditions_nodes t es)
  conditions es = flat P (value_nodes t) es condition

  pub own_condition : (o : Option Expr) → Are P (own_condition_nodes t o)
  own_condition None = none P
  own_condition (Some e) = condition e

  pub depends : (bs : List BlockValue) → Are P (depends_nodes t bs)
  depends bs = flat P (λ b. conditions_nodes t b.depends) bs (λ b. conditions b.depends)

  pub visible : (bs : List BlockValue) → Are P (visible_nodes t bs)
  visible bs = flat P (λ b. conditions_nodes t b.visible) bs (λ b. conditions b.visible)

  dependency : (d : DefinitionValue) → Are P (dependency_nodes t d)
  dependency d = joined P (conditions_nodes t d.depends) _ (conditions d.depends) (depends (blocks_around t d.block))

  pub prompt : (d : DefinitionValue) → Are P (prompt_nodes t d)
  prompt d = option P (λ p. own_condition_nodes t p.condition ++ (dependency_nodes t d ++ visible_nodes t (blocks_around t d.block))) (prompt_of d)
      (λ p. joined P (own_condition_nodes t p.condition) _ (own_condition p.condition) (joined P (dependency_nodes t d) _ (dependency d) (visible (blocks_around t d.block))))

  pub default_alone : (v : DefaultValue) → Are P (default_alone_nodes t v)
  default_alone v = joined P (value_nodes t v.value) _ (value v.value) (own_condition v.condition)

  pub range_alone : (r : Range) → Are P (range_alone_nodes t r)
  range_alone r = joined P (term_nodes t r.low) _ (term r.low) (joined P (term_nodes t r.high) _ (term r.high) (own_condition r.condition))

  property : (d : DefinitionValue) (c : Option Expr) → Are P (condition_nodes t (of_property t d c))
  property d c = joined P (own_condition_nodes t c) _ (own_condition c) (dependency d)

  default_value : (d : DefinitionValue) (v : DefaultValue) → Are P (default_nodes t d v)
  default_value d v = joined P (value_nodes t v.value) _ (value v.value) (property d v.condition)

  range : (d : DefinitionValue) (r : Range) → Are P (range_nodes t d r)
  range d r = joined P (term_nodes t r.low) _ (term r.low) (joined P (term_nodes t r.high) _ (term r.high) (property d r.condition))

  pub definition : (d : DefinitionValue) → Are P (definition_nodes t d)
  definition d = joined P (flat_map (default_nodes t d) d.defaults) _ (flat P (default_nodes t d) d.defaults (default_value d))
      (joined P (flat_map (range_nodes t d) d.ranges) _ (flat P (range_nodes t d) d.ranges (range d)) (dependency d))

  pub reversed : (r : Reverse) → Are P (reverse_nodes t r)
  reversed r = joined P (symbol_nodes t r.by) _ (symbol r.by) (joined P (own_condition_nodes t r.condition) _ (own_condition r.condition) (option P (dependency_nodes t) (slice_get t.definitions r.definition) dependency))

  pub typed : (x : SymbolValue) → Are P (type_nodes t x)
  typed x = modules_if (same_type (kind_of x) Tristate)

-- what holds of all nodes of the tree
module _ (t : TreeValue) (P : Node → Type 0) (vis : (s : SymId) → s.0 < length t.symbols → P (Vis s)) (val : (s : SymId) → s.0 < length t.symbols → P (Val s)) (mode : (c : ChoiceId) → c.0 < length t.choices → P (Mode c)) (sel : (c : ChoiceId) → c.0 < length t.choices → P (Sel c)) where
  pub moded : (c : ChoiceId) → Are P (mode_nodes t c)
  moded c = guarded P (Mode c) t.choices c.0 (mode c)

  pub selected : (c : ChoiceId) → Are P (selection_nodes t c)
  selected c = guarded P (Sel c) t.choices c.0 (sel c)

  pub seen : (s : SymId) → Are P (visibility_node t s)
  seen s = guarded P (Vis s) t.symbols s.0 (vis s)

  pub visibility : (x : SymbolValue) → Are P (visibility_nodes t x)
  visibility x = joined P (flat_map (prompt_nodes t) (definitions_of t x)) _ (flat P (prompt_nodes t) (definitions_of t x) (prompt t P val))
      (joined P (type_nodes t x) _ (typed t P val x) (option P (mode_nodes t) x.choice moded))

  free_value : (s : SymId) (x : SymbolValue) → s.0 < length t.symbols → Are P (free_value_nodes t s x)
  free_value s x h = All-cons (λ n. P n) (Vis s) _ (vis s h)
      (joined P (flat_map (definition_nodes t) (definitions_of t x)) _ (flat P (definition_nodes t) (definitions_of t x) (definition t P val))
      (joined P (flat_map (reverse_nodes t) x.selected) _ (flat P (reverse_nodes t) x.selected (reversed t P val))
      (joined P (flat_map (reverse_nodes t) x.implied) _ (flat P (reverse_nodes t) x.implied (reversed t P val)) (typed t P val x))))

  pub symbol_value : (s : SymId) (x : SymbolValue) → s.0 < length t.symbols → Are P (symbol_value_nodes t s x)
  symbol_value s x h = of_choice x.choice
    where
      of_choice : (o : Option ChoiceId) → Are P (option_map_or (λ c. Vis s ∷ selection_nodes t c) o (free_value_nodes t s x))
      of_choice None = free_value s x h
      of_choice (Some c) = All-cons (λ n. P n) (Vis s) _ (vis s h) (selected c)

  pub choice_prompt : (x : ChoiceValue) → Are P (choice_prompt_nodes t x)
  choice_prompt x = option P (λ p. own_condition_nodes t p.condition ++ (depends_nodes t (blocks_around t (Some x.block)) ++ visible_nodes t (blocks_around t (Some x.block)))) (choice_prompt_of x)
      (λ p. joined P (own_condition_nodes t p.condition) _ (own_condition t P val p.condition) (joined P (depends_nodes t (blocks_around t (Some x.block))) _ (depends t P val (blocks_around t (Some x.block))) (visible t P val (blocks_around t (Some x.block)))))

  pub chosen : (d : ChoiceDefault) → Are P (choice_default_nodes t d)
  chosen d = joined P (option_map_or (visibility_node t) d.symbol []) _ (option P (visibility_node t) d.symbol seen) (own_condition t P val d.condition)

  pub choice_value : (c : ChoiceId) (x : ChoiceValue) → Are P (choice_value_nodes t c x)
  choice_value c x = joined P (mode_nodes t c) _ (moded c)
      (joined P (flat_map (visibility_node t) x.members) _ (flat P (visibility_node t) x.members seen) (flat P (choice_default_nodes t) x.defaults chosen))

  value_at : (s : SymId) → (o : Option SymbolValue) → slice_get t.symbols s.0 ≡ o → Are P (option_map_or (symbol_value_nodes t s) o [])
  value_at s None e = none P
  value_at s (Some x) e = symbol_value s x (slice_get_within t.symbols s.0 x e)

  pub used : (n : Node) → Are P (used_nodes t n)
  used (Vis s) = option P (visibility_nodes t) (slice_get t.symbols s.0) visibility
  used (Val s) = value_at s (slice_get t.symbols s.0) refl
  used (Mode c) = option P (choice_prompt_nodes t) (slice_get t.choices c.0) choice_prompt
  used (Sel c) = option P (choice_value_nodes t c) (slice_get t.choices c.0) (choice_value c)

-- what a node uses is a node
pub used_nodes_within : (t : TreeValue) (n : Node) → Are (λ m. IsNodeOf t m) (used_nodes t n)
used_nodes_within t n = used t (λ m. IsNodeOf t m) (λ s h. h) (λ s h. h) (λ c h. h) (λ c h. h) n

pub used_within : (t : TreeValue) (n m : Node) → IsNodeOf t n → Uses t n m → IsNodeOf t m
unfolding Uses
used_within t n m i u = All-contains (λ x. IsNodeOf t x) (used_nodes t n) m (used_nodes_within t n) u
