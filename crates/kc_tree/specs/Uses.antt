-- Which nodes a node is computed from: kconfig-language.rst, "Menu dependencies" and "Menu attributes".
use Rattle.std.specs.Prelude.{Bool, true, false, List, [], ◌∷◌, ◌++◌, Option, Some, None, Contains, flat_map, slice_get}
use Rattle.std.specs.Option.{option_map_or}
use Rattle.kc_statement.specs.declared.id.SymId.{SymId}
use Rattle.kc_outline.specs.declared.id.ChoiceId.{ChoiceId}
use Rattle.kc_statement.specs.declared.expr.Term.{Term}
use Rattle.kc_statement.specs.declared.expr.Term.TheVariants.{Tri, Text, Symbol, Undefined}
use Rattle.kc_statement.specs.declared.expr.Expr.{Expr}
use Rattle.kc_statement.specs.declared.attribute.DefaultValue.{DefaultValue}
use Rattle.kc_statement.specs.declared.attribute.Range.{Range}
use Rattle.kc_outline.specs.declared.choice.ChoiceDefault.{ChoiceDefault}
use Rattle.kc_outline.specs.declared.symbol.Reverse.{Reverse}
use Rattle.kc_statement.specs.declared.symbol_type.SymbolType.TheVariants.{Tristate}
use Rattle.kc_tree.specs.declared.node.Node.{Node}
use Rattle.kc_tree.specs.declared.node.Node.TheVariants.{Vis, Val, Mode, Sel}
use Rattle.kc_statement.specs.Formula.{Formula, atom, bare, compare, negation, group, both, either}
use Rattle.kc_outline.specs.TreeValue.{TreeValue, SymbolValue, DefinitionValue, BlockValue, ChoiceValue, modules_symbol, kind_of, definitions_of, blocks_around, same_type, prompt_of, choice_prompt_of}
use Rattle.kc_tree.specs.ConditionTable.{Condition, own_if, own_lines, depends_around, visible_around, mode_of, dependencies_in, also, Factor, expression, mode, missing, dependencies, of_prompt, of_member, of_property, of_reverse, of_choice_prompt, of_choice_default}

-- ---- what an expression reads
-- the value of a symbol of the tree
abbrev pub symbol_nodes : TreeValue → SymId → List Node
symbol_nodes t s = option_map_or (λ x. Val s ∷ []) (slice_get t.symbols s.0) []

-- a constant and an undefined word give no node
abbrev pub term_nodes : TreeValue → Term → List Node
term_nodes t (Tri v) = []
term_nodes t (Text w) = []
term_nodes t (Symbol s) = symbol_nodes t s
term_nodes t (Undefined w) = []

-- the value of MODULES, where it is defined
abbrev pub modules_nodes : TreeValue → List Node
modules_nodes t = option_map_or (symbol_nodes t) (modules_symbol t) []

-- a bare m means `m && MODULES`
abbrev pub formula_nodes : TreeValue → Formula → List Node
formula_nodes t (atom x) = term_nodes t x
formula_nodes t (bare x) = modules_nodes t
formula_nodes t (compare c x y) = term_nodes t x ++ term_nodes t y
formula_nodes t (negation f) = formula_nodes t f
formula_nodes t (group f) = formula_nodes t f
formula_nodes t (both f g) = formula_nodes t f ++ formula_nodes t g
formula_nodes t (either f g) = formula_nodes t f ++ formula_nodes t g

-- of the value of a default and of a condition alike
abbrev pub value_nodes : TreeValue → Expr → List Node
value_nodes t e = formula_nodes t e

abbrev pub conditions_nodes : TreeValue → List Expr → List Node
conditions_nodes t es = flat_map (value_nodes t) es

abbrev pub own_condition_nodes : TreeValue → Option Expr → List Node
own_condition_nodes t None = []
own_condition_nodes t (Some e) = value_nodes t e

-- ---- what conditions read
-- what all inside some blocks depends on
abbrev pub depends_nodes : TreeValue → List BlockValue → List Node
depends_nodes t blocks = flat_map (λ b. conditions_nodes t b.depends) blocks

-- what the prompts inside depend on besides
abbrev pub visible_nodes : TreeValue → List BlockValue → List Node
visible_nodes t blocks = flat_map (λ b. conditions_nodes t b.visible) blocks

-- the mode of a choice of the tree
abbrev pub mode_nodes : TreeValue → ChoiceId → List Node
mode_nodes t c = option_map_or (λ x. Mode c ∷ []) (slice_get t.choices c.0) []

-- all factors of a condition (ConditionTable)
abbrev pub condition_nodes : TreeValue → Condition → List Node
condition_nodes t (own_if o) = own_condition_nodes t o
condition_nodes t (own_lines es) = conditions_nodes t es
condition_nodes t (depends_around bs) = depends_nodes t bs
condition_nodes t (visible_around bs) = visible_nodes t bs
condition_nodes t (mode_of o) = option_map_or (mode_nodes t) o []
condition_nodes t (dependencies_in o) =
    option_map_or (λ d. conditions_nodes t d.depends ++ depends_nodes t (blocks_around t d.block)) o []
condition_nodes t (also c d) = condition_nodes t c ++ condition_nodes t d

-- one factor
abbrev pub factor_nodes : TreeValue → Factor → List Node
factor_nodes t (expression e) = value_nodes t e
factor_nodes t (mode c) = mode_nodes t c
factor_nodes t missing = []

-- ---- what the parts of a definition read
abbrev pub dependency_nodes : TreeValue → DefinitionValue → List Node
dependency_nodes t d = condition_nodes t (dependencies t d)

abbrev pub prompt_nodes : TreeValue → DefinitionValue → List Node
prompt_nodes t d = option_map_or (λ p. condition_nodes t (of_prompt t d p)) (prompt_of d) []

abbrev pub default_nodes : TreeValue → DefinitionValue → DefaultValue → List Node
default_nodes t d v = value_nodes t v.value ++ condition_nodes t (of_property t d v.condition)

abbrev pub range_nodes : TreeValue → DefinitionValue → Range → List Node
range_nodes t d r = term_nodes t r.low ++ (term_nodes t r.high ++ condition_nodes t (of_property t d r.condition))

abbrev pub definition_nodes : TreeValue → DefinitionValue → List Node
definition_nodes t d =
    flat_map (default_nodes t d) d.defaults ++ (flat_map (range_nodes t d) d.ranges ++ dependency_nodes t d)

-- a `select` or `imply` reads the value of its symbol and its condition
abbrev pub reverse_nodes : TreeValue → Reverse → List Node
reverse_nodes t r = symbol_nodes t r.by ++ condition_nodes t (of_reverse t r)

-- ---- what a choice reads
-- its selection, and the visibility of a symbol of the tree
abbrev pub selection_nodes : TreeValue → ChoiceId → List Node
selection_nodes t c = option_map_or (λ x. Sel c ∷ []) (slice_get t.choices c.0) []

abbrev pub visibility_node : TreeValue → SymId → List Node
visibility_node t s = option_map_or (λ x. Vis s ∷ []) (slice_get t.symbols s.0) []

-- the condition of its prompt
abbrev pub choice_prompt_nodes : TreeValue → ChoiceValue → List Node
choice_prompt_nodes t x = option_map_or (λ p. condition_nodes t (of_choice_prompt t x p)) (choice_prompt_of x) []

-- the visibility of the member that a default names, and its condition
abbrev pub choice_default_nodes : TreeValue → ChoiceDefault → List Node
choice_default_nodes t d = option_map_or (visibility_node t) d.symbol [] ++ condition_nodes t (of_choice_default d)

-- its mode, the visibilities of its members, and what its defaults read
abbrev pub choice_value_nodes : TreeValue → ChoiceId → ChoiceValue → List Node
choice_value_nodes t c x =
    mode_nodes t c ++ (flat_map (visibility_node t) x.members ++ flat_map (choice_default_nodes t) x.defaults)

-- ---- what a node is computed from
abbrev pub nodes_if : Bool → List Node → List Node
nodes_if true nodes = nodes
nodes_if false nodes = []

-- a tristate acts as bool where there are no modules
abbrev pub type_nodes : TreeValue → SymbolValue → List Node
type_nodes t x = nodes_if (same_type (kind_of x) Tristate) (modules_nodes t)

-- a member of a choice is visible within its mode
abbrev pub visibility_nodes : TreeValue → SymbolValue → List Node
visibility_nodes t x =
    flat_map (prompt_nodes t) (definitions_of t x) ++ (type_nodes t x ++ condition_nodes t (of_member x))

-- of a symbol that is no member
abbrev pub free_value_nodes : TreeValue → SymId → SymbolValue → List Node
free_value_nodes t s x =
    Vis s ∷ (flat_map (definition_nodes t) (definitions_of t x)
    ++ (flat_map (reverse_nodes t) x.selected ++ (flat_map (reverse_nodes t) x.implied ++ type_nodes t x)))

-- the value of a member is whether its choice selects it
abbrev pub symbol_value_nodes : TreeValue → SymId → SymbolValue → List Node
symbol_value_nodes t s x =
    option_map_or (λ c. Vis s ∷ selection_nodes t c) x.choice (free_value_nodes t s x)

abbrev pub used_nodes : TreeValue → Node → List Node
used_nodes t (Vis s) = option_map_or (visibility_nodes t) (slice_get t.symbols s.0) []
used_nodes t (Val s) = option_map_or (symbol_value_nodes t s) (slice_get t.symbols s.0) []
used_nodes t (Mode c) = option_map_or (choice_prompt_nodes t) (slice_get t.choices c.0) []
used_nodes t (Sel c) = option_map_or (choice_value_nodes t c) (slice_get t.choices c.0) []

-- p is computed from q
unfoldable pub Uses : TreeValue → Node → Node → Type 0
Uses t p q = Contains (used_nodes t p) q
