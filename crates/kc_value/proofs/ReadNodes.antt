-- The parts of a tree read values, and no other nodes: what holds of all values holds of all that they read.
use Rattle.std.proofs.Common.{◌≡◌, Bool, true, false, List, [], ◌∷◌, ◌++◌, Option, Some, None, slice_get}
use Rattle.std.specs.List.{AllByRecursion, flat_map}
use Rattle.std.specs.Option.{option_map_or}
use Rattle.kc_statement.specs.declared.id.SymId.{SymId}
use Rattle.kc_statement.specs.declared.expr.Term.{Term}
use Rattle.kc_statement.specs.declared.expr.Term.TheVariants.{Tri as Constant, Text as TextTerm, Symbol, Undefined}
use Rattle.kc_statement.specs.declared.expr.Expr.{Expr}
use Rattle.kc_outline.specs.declared.symbol.Reverse.{Reverse}
use Rattle.kc_statement.specs.declared.attribute.DefaultValue.{DefaultValue}
use Rattle.kc_statement.specs.declared.attribute.Range.{Range}
use Rattle.kc_tree.specs.declared.node.Node.{Node}
use Rattle.kc_tree.specs.declared.node.Node.TheVariants.{Val}
use Rattle.kc_statement.specs.Formula.{Formula, atom, bare, compare, negation, group, both, either}
use Rattle.kc_outline.specs.TreeValue.{same_type}
use Rattle.kc_statement.specs.declared.symbol_type.SymbolType.TheVariants.{Tristate}
use Rattle.kc_outline.specs.TreeValue.{TreeValue, SymbolValue, DefinitionValue, BlockValue, ChoiceValue, modules_symbol, kind_of, definitions_of, blocks_around, prompt_of, choice_prompt_of}
use Rattle.kc_tree.specs.Uses.{symbol_nodes, term_nodes, formula_nodes, modules_nodes, nodes_if, value_nodes, conditions_nodes, own_condition_nodes, depends_nodes, visible_nodes, condition_nodes, dependency_nodes, default_nodes, range_nodes, definition_nodes, reverse_nodes, choice_prompt_nodes, prompt_nodes, type_nodes}
use Rattle.kc_tree.specs.ConditionTable.{of_property}
use Rattle.kc_value.specs.Assignment.{Assignment}
use Rattle.kc_value.proofs.Agreement.{Agree}

module _ (P : Node → Type 0) where
  -- it holds of all of the nodes
  abbrev pub AllHold : List Node → Type 0
  AllHold ns = AllByRecursion P ns

  pub append_holds : (xs ys : List Node) → AllHold xs → AllHold ys → AllHold (xs ++ ys)
  append_holds [] ys p q = q
  append_holds (x ∷ xs) ys p q = (p.0, append_holds xs ys p.1 q)

  pub flat_holds : {X : Type 0} (f : X → List Node) → ((x : X) → AllHold (f x)) → (xs : List X) → AllHold (flat_map f xs)
  flat_holds f h [] = tt
  flat_holds f h (x ∷ xs) = append_holds (f x) (flat_map f xs) (h x) (flat_holds f h xs)

  pub option_holds : {X : Type 0} (f : X → List Node) → ((x : X) → AllHold (f x)) → (o : Option X) → AllHold (option_map_or f o [])
  option_holds f h None = tt
  option_holds f h (Some x) = h x

  if_holds : (b : Bool) (ns : List Node) → AllHold ns → AllHold (nodes_if b ns)
  if_holds true ns h = h
  if_holds false ns h = tt

  module _ (of_value : (s : SymId) → P (Val s)) (t : TreeValue) where
    symbol_holds : (s : SymId) → AllHold (symbol_nodes t s)
    symbol_holds s = option_holds (λ (x : SymbolValue). Val s ∷ []) (λ x. (of_value s, tt)) (slice_get t.symbols s.0)

    term_holds : (x : Term) → AllHold (term_nodes t x)
    term_holds (Constant v) = tt
    term_holds (TextTerm w) = tt
    term_holds (Symbol s) = symbol_holds s
    term_holds (Undefined w) = tt

    modules_holds : AllHold (modules_nodes t)
    modules_holds = option_holds (symbol_nodes t) symbol_holds (modules_symbol t)

    formula_holds : (f : Formula) → AllHold (formula_nodes t f)
    formula_holds (atom x) = term_holds x
    formula_holds (bare x) = modules_holds
    formula_holds (compare c x y) = append_holds (term_nodes t x) (term_nodes t y) (term_holds x) (term_holds y)
    formula_holds (negation f) = formula_holds f
    formula_holds (group f) = formula_holds f
    formula_holds (both f g) = append_holds (formula_nodes t f) (formula_nodes t g) (formula_holds f) (formula_holds g)
    formula_holds (either f g) = append_holds (formula_nodes t f) (formula_nodes t g) (formula_holds f) (formula_holds g)

    value_nodes_holds : (e : Expr) → AllHold (value_nodes t e)
    value_nodes_holds e = formula_holds e

    conditions_holds : (es : List Expr) → AllHold (conditions_nodes t es)
    conditions_holds es = flat_holds (value_nodes t) value_nodes_holds es

    pub own_condition_holds : (o : Option Expr) → AllHold (own_condition_nodes t o)
    own_condition_holds None = tt
    own_condition_holds (Some e) = value_nodes_holds e

    depends_holds : (bs : List BlockValue) → AllHold (depends_nodes t bs)
    depends_holds bs = flat_holds (λ (b : BlockValue). conditions_nodes t b.depends) (λ b. conditions_holds b.depends) bs

    visible_holds : (bs : List BlockValue) → AllHold (visible_nodes t bs)
    visible_holds bs = flat_holds (λ (b : BlockValue). conditions_nodes t b.visible) (λ b. conditions_holds b.visible) bs

    dependency_holds : (d : DefinitionValue) → AllHold (dependency_nodes t d)
    dependency_holds d =
        append_holds (conditions_nodes t d.depends) (depends_nodes t (blocks_around t d.block)) (conditions_holds d.depends) (depends_holds (blocks_around t d.block))

    property_holds : (d : DefinitionValue) (c : Option Expr) → AllHold (condition_nodes t (of_property t d c))
    property_holds d c = append_holds (own_condition_nodes t c) (dependency_nodes t d) (own_condition_holds c) (dependency_holds d)

    default_holds : (d : DefinitionValue) (v : DefaultValue) → AllHold (default_nodes t d v)
    default_holds d v = append_holds (value_nodes t v.value) (condition_nodes t (of_property t d v.condition)) (formula_holds v.value) (property_holds d v.condition)

    range_holds : (d : DefinitionValue) (r : Range) → AllHold (range_nodes t d r)
    range_holds d r =
        let own = condition_nodes t (of_property t d r.condition) in
        append_holds (term_nodes t r.low) (term_nodes t r.high ++ own) (term_holds r.low)
        (append_holds (term_nodes t r.high) own (term_holds r.high) (property_holds d r.condition))

    pub definition_holds : (d : DefinitionValue) → AllHold (definition_nodes t d)
    definition_holds d =
        append_holds (flat_map (default_nodes t d) d.defaults) (flat_map (range_nodes t d) d.ranges ++ dependency_nodes t d) (flat_holds (default_nodes t d) (default_holds d) d.defaults)
        (append_holds (flat_map (range_nodes t d) d.ranges) (dependency_nodes t d) (flat_holds (range_nodes t d) (range_holds d) d.ranges) (dependency_holds d))

    pub reverse_holds : (r : Reverse) → AllHold (reverse_nodes t r)
    reverse_holds r =
        let around = option_map_or (dependency_nodes t) (slice_get t.definitions r.definition) [] in
        append_holds (symbol_nodes t r.by) (own_condition_nodes t r.condition ++ around) (symbol_holds r.by)
        (append_holds (own_condition_nodes t r.condition) around (own_condition_holds r.condition) (option_holds (dependency_nodes t) dependency_holds (slice_get t.definitions r.definition)))

    pub choice_prompt_holds : (x : ChoiceValue) → AllHold (choice_prompt_nodes t x)
    choice_prompt_holds x =
        let around = blocks_around t (Some x.block) in
        let rest = depends_nodes t around ++ visible_nodes t around in
        option_holds (λ p. own_condition_nodes t p.condition ++ rest)
        (λ p. append_holds (own_condition_nodes t p.condition) rest (own_condition_holds p.condition)
        (append_holds (depends_nodes t around) (visible_nodes t around) (depends_holds around) (visible_holds around)))
        (choice_prompt_of x)

    pub type_holds : (x : SymbolValue) → AllHold (type_nodes t x)
    type_holds x = if_holds (same_type (kind_of x) Tristate) (modules_nodes t) modules_holds

    prompt_holds : (d : DefinitionValue) → AllHold (prompt_nodes t d)
    prompt_holds d =
        let rest = dependency_nodes t d ++ visible_nodes t (blocks_around t d.block) in
        option_holds (λ p. own_condition_nodes t p.condition ++ rest)
        (λ p. append_holds (own_condition_nodes t p.condition) rest (own_condition_holds p.condition)
        (append_holds (dependency_nodes t d) (visible_nodes t (blocks_around t d.block)) (dependency_holds d) (visible_holds (blocks_around t d.block))))
        (prompt_of d)

    pub prompts_holds : (x : SymbolValue) → AllHold (flat_map (prompt_nodes t) (definitions_of t x))
    prompts_holds x = flat_holds (prompt_nodes t) prompt_holds (definitions_of t x)

-- assignments that agree where it holds
pub agree_where : (P : Node → Type 0) (a b : Assignment) → ((n : Node) → P n → a n ≡ b n) → (ns : List Node) → AllByRecursion P ns → Agree a b ns
agree_where P a b same [] h = tt
agree_where P a b same (n ∷ ns) h = (same n h.0, agree_where P a b same ns h.1)
