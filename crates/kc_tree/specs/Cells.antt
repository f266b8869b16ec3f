-- The cells of a tree: its nodes, and the conditions that many of them read, so that each is evaluated once. What a
-- condition is worth and which nodes it reads follow from the table of conditions (ConditionTable). This project's own.
use Rattle.std.specs.Prelude.{ℕ, ◌+◌, ◌-◌, ◌*◌, ◌<◌, if◌then◌else◌, nat_lt, List, [], ◌∷◌, ◌++◌, Option, Some, None, length, map, flat_map, slice_get}
use Rattle.std.specs.Option.{option_map_or}
use Rattle.kc_statement.specs.declared.id.SymId.{SymId}
use Rattle.kc_statement.specs.declared.attribute.DefaultValue.{DefaultValue}
use Rattle.kc_statement.specs.declared.attribute.Range.{Range}
use Rattle.kc_outline.specs.declared.id.BlockId.{BlockId}
use Rattle.kc_outline.specs.declared.symbol.Reverse.{Reverse}
use Rattle.kc_outline.specs.TreeValue.{TreeValue, SymbolValue, ChoiceValue, blocks_around, prompt_of, choice_prompt_of}
use Rattle.kc_tree.specs.declared.node.Node.{Node}
use Rattle.kc_tree.specs.declared.node.Node.TheVariants.{Vis, Val, Mode, Sel}
use Rattle.kc_tree.specs.declared.cell.Cell.{Cell}
use Rattle.kc_tree.specs.declared.cell.Cell.TheVariants.{Node as OfNode, Definition, Depends, Visible}
use Rattle.kc_tree.specs.ConditionTable.{Condition, depends_around, visible_around, dependencies_in, of_member}
use Rattle.kc_tree.specs.Nodes.{IsNodeOf, node_at, node_count, number_of}
use Rattle.kc_tree.specs.Uses.{symbol_nodes, term_nodes, value_nodes, conditions_nodes, own_condition_nodes, condition_nodes, type_nodes, selection_nodes, choice_value_nodes}

-- ---- numbers
-- The nodes have their numbers. The blocks follow by what all inside depends on, then by what prompts inside depend on
-- besides, and then the definitions, so that each condition reads conditions with lower numbers alone.
abbrev pub cell_count : TreeValue → ℕ
cell_count t = node_count t + (2 * length t.blocks + length t.definitions)

abbrev pub cell_number : TreeValue → Cell → ℕ
cell_number t (OfNode n) = number_of t n
cell_number t (Depends b) = node_count t + b.0
cell_number t (Visible b) = node_count t + (length t.blocks + b.0)
cell_number t (Definition d) = node_count t + (2 * length t.blocks + d)

-- the condition of a number among those of conditions, in a tree with this number of blocks
abbrev pub condition_in : ℕ → ℕ → Cell
condition_in blocks k =
    if nat_lt k blocks then Depends (record { 0 = k }) else
    (if nat_lt k (2 * blocks) then Visible (record { 0 = k - blocks }) else Definition (k - 2 * blocks))

abbrev pub cell_at : TreeValue → ℕ → Cell
cell_at t k = if nat_lt k (node_count t) then OfNode (node_at t k) else condition_in (length t.blocks) (k - node_count t)

abbrev pub IsCellOf : TreeValue → Cell → Type 0
IsCellOf t (OfNode n) = IsNodeOf t n
IsCellOf t (Definition d) = d < length t.definitions
IsCellOf t (Depends b) = b.0 < length t.blocks
IsCellOf t (Visible b) = b.0 < length t.blocks

abbrev pub IsCondition : Cell → Type 0
IsCondition (OfNode n) = ⊥
IsCondition (Definition d) = Unit {0}
IsCondition (Depends b) = Unit {0}
IsCondition (Visible b) = Unit {0}

-- ---- conditions
-- the condition of a cell: what a definition depends on, what all inside a block depends on, and what the prompts inside
-- depend on besides; of a node, which is no condition, it is that of a definition that no tree has
abbrev pub condition_of : TreeValue → Cell → Condition
condition_of t (OfNode n) = dependencies_in None
condition_of t (Definition d) = dependencies_in (slice_get t.definitions d)
condition_of t (Depends b) = depends_around (blocks_around t (Some b))
condition_of t (Visible b) = visible_around (blocks_around t (Some b))

-- ---- what a cell reads
abbrev pub nodes_in : List Node → List Cell
nodes_in ns = map OfNode ns

-- the conditions that are cells of the tree
abbrev pub definition_cells : TreeValue → ℕ → List Cell
definition_cells t d = option_map_or (λ x. Definition d ∷ []) (slice_get t.definitions d) []

abbrev pub depends_cells : TreeValue → Option BlockId → List Cell
depends_cells t None = []
depends_cells t (Some b) = option_map_or (λ x. Depends b ∷ []) (slice_get t.blocks b.0) []

abbrev pub visible_cells : TreeValue → Option BlockId → List Cell
visible_cells t None = []
visible_cells t (Some b) = option_map_or (λ x. Visible b ∷ []) (slice_get t.blocks b.0) []

-- the prompt in a definition, by the number of the definition: its own condition, what the definition depends on, and
-- what prompts in the block around depend on
abbrev pub prompt_cells : TreeValue → ℕ → List Cell
prompt_cells t d =
    option_map_or
    (λ x. option_map_or (λ p. nodes_in (own_condition_nodes t p.condition) ++ (Definition d ∷ visible_cells t x.block)) (prompt_of x) [])
    (slice_get t.definitions d) []

-- the defaults and ranges of a definition besides what it depends on
abbrev pub default_alone_nodes : TreeValue → DefaultValue → List Node
default_alone_nodes t v = value_nodes t v.value ++ own_condition_nodes t v.condition

abbrev pub range_alone_nodes : TreeValue → Range → List Node
range_alone_nodes t r = term_nodes t r.low ++ (term_nodes t r.high ++ own_condition_nodes t r.condition)

-- the values in a definition, by the number of the definition
abbrev pub value_cells : TreeValue → ℕ → List Cell
value_cells t d =
    option_map_or
    (λ x. nodes_in (flat_map (default_alone_nodes t) x.defaults ++ flat_map (range_alone_nodes t) x.ranges) ++ (Definition d ∷ []))
    (slice_get t.definitions d) []

-- a `select` or `imply`: the value of its symbol, its own condition, and what its definition depends on
abbrev pub reverse_cells : TreeValue → Reverse → List Cell
reverse_cells t r = nodes_in (symbol_nodes t r.by ++ own_condition_nodes t r.condition) ++ definition_cells t r.definition

abbrev pub visibility_cells : TreeValue → SymbolValue → List Cell
visibility_cells t x = flat_map (prompt_cells t) x.definitions ++ nodes_in (type_nodes t x ++ condition_nodes t (of_member x))

abbrev pub free_value_cells : TreeValue → SymId → SymbolValue → List Cell
free_value_cells t s x =
    OfNode (Vis s) ∷ (flat_map (value_cells t) x.definitions
    ++ (flat_map (reverse_cells t) x.selected ++ (flat_map (reverse_cells t) x.implied ++ nodes_in (type_nodes t x))))

abbrev pub symbol_value_cells : TreeValue → SymId → SymbolValue → List Cell
symbol_value_cells t s x = option_map_or (λ c. nodes_in (Vis s ∷ selection_nodes t c)) x.choice (free_value_cells t s x)

abbrev pub choice_prompt_cells : TreeValue → ChoiceValue → List Cell
choice_prompt_cells t x =
    option_map_or
    (λ p. nodes_in (own_condition_nodes t p.condition) ++ (depends_cells t (Some x.block) ++ visible_cells t (Some x.block)))
    (choice_prompt_of x) []

abbrev pub node_cells : TreeValue → Node → List Cell
node_cells t (Vis s) = option_map_or (visibility_cells t) (slice_get t.symbols s.0) []
node_cells t (Val s) = option_map_or (symbol_value_cells t s) (slice_get t.symbols s.0) []
node_cells t (Mode c) = option_map_or (choice_prompt_cells t) (slice_get t.choices c.0) []
node_cells t (Sel c) = nodes_in (option_map_or (choice_value_nodes t c) (slice_get t.choices c.0) [])

-- each condition reads its own lines, and the condition of the block around
abbrev pub read_cells : TreeValue → Cell → List Cell
read_cells t (OfNode n) = node_cells t n
read_cells t (Definition d) =
    option_map_or (λ x. nodes_in (conditions_nodes t x.depends) ++ depends_cells t x.block) (slice_get t.definitions d) []
read_cells t (Depends b) =
    option_map_or (λ x. nodes_in (conditions_nodes t x.depends) ++ depends_cells t x.parent) (slice_get t.blocks b.0) []
read_cells t (Visible b) =
    option_map_or (λ x. nodes_in (conditions_nodes t x.visible) ++ visible_cells t x.parent) (slice_get t.blocks b.0) []
