-- By which part of a tree a node is computed from another, as each node of a loop from the next: docs/VALUES.md, "What
-- uses what, and loops". Of several parts it is the first in the order here: lines of its own before those of the blocks
-- around it, and these before `select` and `imply` lines. All that a node is computed from is in kc_tree's Uses.
use Rattle.std.specs.Prelude.{ℕ, ◌==◌, Bool, false, ◌&&◌, ◌||◌, List, Option, Some, None, if◌then◌else◌, filter_map, is_some, option_and_then, option_map, position, slice_get}
use Rattle.std.specs.List.{list_any}
use Rattle.std.specs.Option.{option_map_or, option_or}
use Rattle.kc_text.specs.LineValue.{LineValue}
use Rattle.kc_statement.specs.declared.id.SymId.{SymId}
use Rattle.kc_statement.specs.declared.expr.Expr.{Expr}
use Rattle.kc_statement.specs.declared.expr.Term.{Term}
use Rattle.kc_statement.specs.declared.attribute.DefaultValue.{DefaultValue}
use Rattle.kc_statement.specs.declared.attribute.Prompt.{Prompt}
use Rattle.kc_statement.specs.declared.attribute.Range.{Range}
use Rattle.kc_statement.specs.declared.symbol_type.SymbolType.TheVariants as kind
use Rattle.kc_outline.specs.declared.block.BlockKind.{BlockKind}
use Rattle.kc_outline.specs.declared.id.BlockId.{BlockId}
use Rattle.kc_outline.specs.declared.id.ChoiceId.{ChoiceId}
use Rattle.kc_outline.specs.declared.limits.TheConstants.{MOST_OPEN_BLOCKS}
use Rattle.kc_outline.specs.declared.symbol.Reverse.{Reverse}
use Rattle.kc_outline.specs.TreeValue.{TreeValue, SymbolValue, DefinitionValue, BlockValue, ChoiceValue, choice_prompt_of, kind_of, prompt_of, same_type}
use Rattle.kc_tree.specs.declared.node.Node.{Node}
use Rattle.kc_tree.specs.declared.node.Node.TheVariants.{Vis, Val, Mode, Sel}
use Rattle.kc_tree.specs.Uses.{modules_nodes, symbol_nodes, term_nodes, value_nodes}
use Rattle.kc_lines.specs.declared.loop_step.BlockLines.{BlockLines}
use Rattle.kc_lines.specs.declared.loop_step.BlockLines.TheVariants.{Depends, Visible}
use Rattle.kc_lines.specs.declared.loop_step.Step.{Step}
use Rattle.kc_lines.specs.declared.loop_step.Way.{Way}
use Rattle.kc_lines.specs.declared.loop_step.Way.TheVariants as way
use Rattle.kc_lines.specs.declared.parts.Attribute.{Attribute}
use Rattle.kc_lines.specs.declared.parts.Attribute.TheVariants as attribute
use Rattle.kc_lines.specs.declared.parts.Family.TheVariants as family
use Rattle.kc_lines.specs.declared.parts.Part.{Part}
use Rattle.kc_lines.specs.declared.parts.Part.TheVariants.{Owner, Said}
use Rattle.kc_lines.specs.Culprits.{first_part, first_with, reverse_part}
use Rattle.kc_lines.specs.BlockParts.{block_part, is_if_kind}
use Rattle.kc_lines.specs.BlocksOutwards.{blocks_outwards}

-- ---- what reads a node q
abbrev pub same_node : Node → Node → Bool
same_node (Vis s) (Vis r) = s.0 == r.0
same_node (Val s) (Val r) = s.0 == r.0
same_node (Mode c) (Mode d) = c.0 == d.0
same_node (Sel c) (Sel d) = c.0 == d.0
same_node _ _ = false

abbrev pub has : Node → List Node → Bool
has q nodes = list_any (same_node q) nodes

abbrev pub reads : TreeValue → Node → Expr → Bool
reads t q e = has q (value_nodes t e)

abbrev pub reads_term : TreeValue → Node → Term → Bool
reads_term t q x = has q (term_nodes t x)

-- the condition after `if`
abbrev pub reads_if : TreeValue → Node → Option Expr → Bool
reads_if t q o = option_map_or (reads t q) o false

abbrev pub reads_default : TreeValue → Node → DefaultValue → Bool
reads_default t q v = reads t q v.value || reads_if t q v.condition

abbrev pub reads_range : TreeValue → Node → Range → Bool
reads_range t q r = reads_term t q r.low || (reads_term t q r.high || reads_if t q r.condition)

-- ---- steps
abbrev pub by : Way → Part → Step
by w p = record { part = p; way = w }

-- a step where a test holds
abbrev pub by_if : Bool → Way → Part → Option Step
by_if test w p = if test then Some (by w p) else None

-- the first of what some give
abbrev pub first_of : {X Y : Type 0} → (X → Option Y) → List X → Option Y
first_of f xs = option_and_then f (first_with (λ x. is_some (f x)) xs)

-- the same, of a list that is made one by one
abbrev pub first_among : {X Y : Type 0} → (X → Option Y) → List X → Option Y
first_among f xs = slice_get (filter_map f xs) 0

-- ---- dependencies
-- the lines of a block that say what all inside depends on, or its `visible if` lines, and the part that says one of them
abbrev pub block_lines : BlockLines → BlockValue → List Expr
block_lines Depends x = x.depends
block_lines Visible x = x.visible

abbrev pub line_part : BlockLines → BlockKind → BlockId → ℕ → Part
line_part Depends k b n = block_part (is_if_kind k) b n
line_part Visible k b n = Said family.Block b.0 attribute.Visible n

-- the first such line of a block that reads the node
abbrev pub part_within : TreeValue → Node → BlockLines → BlockId → BlockValue → Option Part
part_within t q w b x = option_map (line_part w x.kind b) (position (reads t q) (block_lines w x))

abbrev pub part_in : TreeValue → Node → BlockLines → BlockId → Option Part
part_in t q w b = option_and_then (part_within t q w b) (slice_get t.blocks b.0)

-- of the blocks around, from the innermost outwards
abbrev pub part_around : TreeValue → Node → BlockLines → Option BlockId → Option Part
part_around t q w b = first_among (part_in t q w) (blocks_outwards t.blocks MOST_OPEN_BLOCKS b)

-- the dependencies of the definition of a number: its own lines, and those around it
abbrev pub dependency_step : TreeValue → Node → Way → Way → ℕ → DefinitionValue → Option Step
dependency_step t q own around j d =
    option_or (option_map (λ n. by own (Said family.Definition j attribute.Depends n)) (position (reads t q) d.depends))
    (option_map (by around) (part_around t q Depends d.block))

-- ---- symbols
-- the prompt of a definition
abbrev pub prompted_step : TreeValue → Node → ℕ → DefinitionValue → Prompt → Option Step
prompted_step t q j d p =
    option_or (by_if (reads_if t q p.condition) way.Own (Said family.Definition j attribute.Prompt 0))
    (option_or (dependency_step t q way.Own way.Around j d) (option_map (by way.Around) (part_around t q Visible d.block)))

abbrev pub prompt_step : TreeValue → Node → ℕ → Option Step
prompt_step t q j = option_and_then (λ d. option_and_then (prompted_step t q j d) (prompt_of d)) (slice_get t.definitions j)

-- the defaults, the ranges and the dependencies of a definition
abbrev pub default_step : TreeValue → Node → ℕ → DefinitionValue → Option Step
default_step t q j d =
    option_map (λ n. by way.Own (Said family.Definition j attribute.Default n)) (position (reads_default t q) d.defaults)

abbrev pub range_step : TreeValue → Node → ℕ → DefinitionValue → Option Step
range_step t q j d =
    option_map (λ n. by way.Own (Said family.Definition j attribute.Range n)) (position (reads_range t q) d.ranges)

abbrev pub valued_step : TreeValue → Node → ℕ → DefinitionValue → Option Step
valued_step t q j d =
    option_or (default_step t q j d) (option_or (range_step t q j d) (dependency_step t q way.Own way.Around j d))

abbrev pub value_step : TreeValue → Node → ℕ → Option Step
value_step t q j = option_and_then (valued_step t q j) (slice_get t.definitions j)

-- a `select` or an `imply`: its symbol and its condition, and the dependencies of the definition that it is in
abbrev pub selecting_step : TreeValue → Node → Part → ℕ → Option Step
selecting_step t q p j =
    option_and_then (dependency_step t q (way.OfSelecting p) (way.AroundSelecting p) j) (slice_get t.definitions j)

abbrev pub reverse_step : TreeValue → Node → Attribute → Reverse → Option Step
reverse_step t q a r =
    option_or (by_if (has q (symbol_nodes t r.by) || reads_if t q r.condition) way.Selected (reverse_part a r))
    (selecting_step t q (reverse_part a r) r.definition)

-- a tristate acts as bool where there are no modules: the first line that gives it its type
abbrev pub type_step : List LineValue → TreeValue → Node → SymbolValue → Option Step
type_step lines t q x =
    if same_type (kind_of x) kind.Tristate && has q (modules_nodes t)
    then option_map (by way.Type) (first_part lines attribute.Type x) else None

-- the choice of a member, whose mode or selection it is
abbrev pub choice_step : Node → Node → ChoiceId → Option Step
choice_step q p c = by_if (same_node q p) way.Choice (Owner family.Choice c.0)

-- the first definition of a symbol, where its visibility is read
abbrev pub visibility_step : Node → Way → SymId → SymbolValue → Option Step
visibility_step q w s x =
    if same_node q (Vis s) then option_map (λ j. by w (Owner family.Definition j)) (slice_get x.definitions 0) else None

abbrev pub shown_step : List LineValue → TreeValue → Node → SymbolValue → Option Step
shown_step lines t q x =
    option_or (first_of (prompt_step t q) x.definitions)
    (option_or (type_step lines t q x) (option_and_then (λ c. choice_step q (Mode c) c) x.choice))

-- the value of a symbol that is no member of a choice, and of one that is
abbrev pub free_step : List LineValue → TreeValue → Node → SymbolValue → Option Step
free_step lines t q x =
    option_or (first_of (value_step t q) x.definitions)
    (option_or (first_of (reverse_step t q attribute.Select) x.selected)
    (option_or (first_of (reverse_step t q attribute.Imply) x.implied) (type_step lines t q x)))

abbrev pub worth_step : List LineValue → TreeValue → Node → SymId → SymbolValue → Option Step
worth_step lines t q s x =
    option_or (visibility_step q way.Visibility s x)
    (option_map_or (λ c. choice_step q (Sel c) c) x.choice (free_step lines t q x))

-- ---- choices
-- its prompt, and the lines of its own block before those of the blocks around
abbrev pub mode_step : TreeValue → Node → ChoiceId → ChoiceValue → Prompt → Option Step
mode_step t q c x p =
    option_or (by_if (reads_if t q p.condition) way.Own (Said family.Choice c.0 attribute.Prompt 0))
    (option_or (option_map (by way.Own) (part_in t q Depends x.block))
    (option_or (option_map (by way.Around) (part_around t q Depends (Some x.block)))
    (option_map (by way.Around) (part_around t q Visible (Some x.block)))))

-- the first definition of a member by number
abbrev pub member_step : TreeValue → Node → SymId → Option Step
member_step t q s = option_and_then (visibility_step q way.Member s) (slice_get t.symbols s.0)

abbrev pub choice_default_step : TreeValue → Node → ChoiceId → ChoiceValue → Option Step
choice_default_step t q c x =
    option_map (λ n. by way.Own (Said family.Choice c.0 attribute.Default n)) (position (λ d. reads_if t q d.condition) x.defaults)

abbrev pub selection_step : TreeValue → Node → ChoiceId → ChoiceValue → Option Step
selection_step t q c x =
    option_or (by_if (same_node q (Mode c)) way.Mode (Owner family.Choice c.0))
    (option_or (first_of (member_step t q) x.members) (choice_default_step t q c x))

-- ---- of a node
abbrev pub step_between : List LineValue → TreeValue → Node → Node → Option Step
step_between lines t (Vis s) q = option_and_then (shown_step lines t q) (slice_get t.symbols s.0)
step_between lines t (Val s) q = option_and_then (worth_step lines t q s) (slice_get t.symbols s.0)
step_between lines t (Mode c) q = option_and_then (λ x. option_and_then (mode_step t q c x) (choice_prompt_of x)) (slice_get t.choices c.0)
step_between lines t (Sel c) q = option_and_then (selection_step t q c) (slice_get t.choices c.0)
