-- The factors of conditions, each with its value and where it is: kconfig-language.rst, "Menu dependencies". Which they
-- are is in kc_tree's ConditionTable, and in which order.
use Rattle.std.specs.Prelude.{ℕ, zero, suc, List, [], ◌∷◌, ◌++◌, Option, Some, None, option_and_then, option_map, length, map, slice_get}
use Rattle.std.specs.List.{flat_map, range_with_len}
use Rattle.std.specs.Option.{option_map_or}
use Rattle.kc_statement.specs.declared.expr.Expr.{Expr}
use Rattle.kc_statement.specs.declared.tri.Tri.{Tri}
use Rattle.kc_statement.specs.declared.tri.Tri.TheVariants.{Yes}
use Rattle.kc_outline.specs.declared.id.BlockId.{BlockId}
use Rattle.kc_outline.specs.declared.id.ChoiceId.{ChoiceId}
use Rattle.kc_outline.specs.declared.id.CommentId.{CommentId}
use Rattle.kc_outline.specs.declared.limits.TheConstants.{MOST_OPEN_BLOCKS}
use Rattle.kc_outline.specs.TreeValue.{TreeValue, BlockValue, DefinitionValue, choice_of, prompt_of, choice_prompt_of}
use Rattle.kc_tree.specs.ConditionTable.{Condition, own_if, own_lines, depends_around, visible_around, mode_of, dependencies_in, also, of_prompt, of_menu, of_comment, of_choice_prompt, Factor as Part, expression, mode, missing, factors}
use Rattle.kc_value.specs.declared.factors.BlockLines.{BlockLines}
use Rattle.kc_value.specs.declared.factors.BlockLines.TheVariants.{Depends, Visible}
use Rattle.kc_value.specs.declared.factors.Factor.{Factor}
use Rattle.kc_value.specs.declared.factors.FactorPart.{FactorPart}
use Rattle.kc_value.specs.declared.factors.FactorPart.TheVariants.{Expression, Mode as ModeOf, Missing as NoDefinition}
use Rattle.kc_value.specs.declared.factors.Lines.{Lines}
use Rattle.kc_value.specs.declared.factors.Lines.TheVariants as lines
use Rattle.kc_value.specs.declared.factors.Origin.{Origin}
use Rattle.kc_value.specs.declared.factors.Origin.TheVariants as origin
use Rattle.kc_value.specs.Assignment.{Assignment}
use Rattle.kc_value.specs.Conditions.{condition_value, factor_value}

-- ---- parts and values
abbrev pub part_of : FactorPart → Part
part_of (Expression e) = expression e.now
part_of (ModeOf c) = mode c
part_of NoDefinition = missing

-- a part with a value
pub record Judged : Type 0 where
  pub part : Part
  pub value : Tri

abbrev pub judged : Factor → Judged
judged f = record { part = part_of f.part; value = f.value }

-- what an assignment gives a part, and each factor of a condition, in the order of the table
abbrev pub judged_part : TreeValue → Assignment → Part → Judged
judged_part t a x = record { part = x; value = factor_value t a x }

abbrev pub judged_expression : TreeValue → Assignment → Expr → Judged
judged_expression t a e = judged_part t a (expression e)

abbrev pub judged_factors : TreeValue → Assignment → Condition → List Judged
judged_factors t a c = map (judged_part t a) (factors t c)

-- none where there is no condition
abbrev pub judged_of : TreeValue → Assignment → Option Condition → List Judged
judged_of t a o = option_map_or (judged_factors t a) o []

-- ---- the lines of blocks
abbrev pub lines_of : BlockLines → BlockValue → List Expr
lines_of Depends b = b.depends
lines_of Visible b = b.visible

-- what they are for who is inside
abbrev pub of_blocks : BlockLines → List BlockValue → Condition
of_blocks Depends bs = depends_around bs
of_blocks Visible bs = visible_around bs

-- ---- where a factor is
abbrev pub origin_in : Lines → ℕ → Origin
origin_in lines.Own i = origin.Own i
origin_in (lines.Block b Depends) i = origin.Block b i
origin_in (lines.Block b Visible) i = origin.Visible b i

-- some lines, each at its place among them
abbrev pub lines_at : Lines → List Expr → List Origin
lines_at w es = map (origin_in w) (range_with_len 0 (length es))

-- the numbers of the blocks around, from the innermost outwards
abbrev pub ids_from : List BlockValue → ℕ → Option BlockId → List BlockId
ids_from blocks zero id = []
ids_from blocks (suc n) None = []
ids_from blocks (suc n) (Some id) = option_map_or (λ b. id ∷ ids_from blocks n b.parent) (slice_get blocks id.0) []

-- these lines of a block by number, and of all blocks of some numbers
abbrev pub block_at : List BlockValue → BlockLines → BlockId → List Origin
block_at blocks w id = option_map_or (λ b. lines_at (lines.Block id w) (lines_of w b)) (slice_get blocks id.0) []

abbrev pub blocks_at : List BlockValue → BlockLines → List BlockId → List Origin
blocks_at blocks w ids = flat_map (block_at blocks w) ids

abbrev pub around_at : TreeValue → BlockLines → Option BlockId → List Origin
around_at t w id = blocks_at t.blocks w (ids_from t.blocks MOST_OPEN_BLOCKS id)

abbrev pub if_at : Option Expr → List Origin
if_at o = option_map_or (λ _. origin.Condition ∷ []) o []

abbrev pub mode_at : Option ChoiceId → List Origin
mode_at o = option_map_or (λ _. origin.Mode ∷ []) o []

abbrev pub dependencies_at : TreeValue → DefinitionValue → List Origin
dependencies_at t d = lines_at lines.Own d.depends ++ around_at t Depends d.block

-- where each factor of a condition is, in the order of the table, by the innermost block around what has the condition
abbrev pub origins : TreeValue → Option BlockId → Condition → List Origin
origins t b (own_if o) = if_at o
origins t b (own_lines es) = lines_at lines.Own es
origins t b (depends_around bs) = around_at t Depends b
origins t b (visible_around bs) = around_at t Visible b
origins t b (mode_of o) = mode_at o
origins t b (dependencies_in o) = option_map_or (dependencies_at t) o (origin.Missing ∷ [])
origins t b (also c d) = origins t b c ++ origins t b d

-- none where there is no condition
abbrev pub origins_of : TreeValue → Option BlockId → Option Condition → List Origin
origins_of t b o = option_map_or (origins t b) o []

-- ---- the conditions of the parts of a tree, by number: none where the tree has no such part
abbrev pub worth_of : TreeValue → Assignment → Option Condition → Tri
worth_of t a o = option_map_or (condition_value t a) o Yes

-- the prompt of a definition, and for a member of a choice the mode of the choice
abbrev pub prompt_condition : TreeValue → ℕ → Option Condition
prompt_condition t n = option_and_then
    (λ d. option_map (λ p. also (of_prompt t d p) (mode_of (choice_of t d.symbol))) (prompt_of d)) (slice_get t.definitions n)

abbrev pub definition_block : TreeValue → ℕ → Option BlockId
definition_block t n = option_and_then (λ d. d.block) (slice_get t.definitions n)

abbrev pub menu_condition_at : TreeValue → BlockId → Option Condition
menu_condition_at t b = option_map (of_menu t) (slice_get t.blocks b.0)

-- its own `visible if` lines are not among those around it
abbrev pub menu_origins : TreeValue → BlockId → BlockValue → List Origin
menu_origins t id b =
    lines_at lines.Own b.depends ++ (around_at t Depends b.parent ++ lines_at (lines.Block id Visible) b.visible)

abbrev pub menu_origins_at : TreeValue → BlockId → List Origin
menu_origins_at t id = option_map_or (menu_origins t id) (slice_get t.blocks id.0) []

abbrev pub comment_condition_at : TreeValue → CommentId → Option Condition
comment_condition_at t c = option_map (of_comment t) (slice_get t.comments c.0)

abbrev pub comment_block : TreeValue → CommentId → Option BlockId
comment_block t c = option_and_then (λ x. x.block) (slice_get t.comments c.0)

abbrev pub choice_condition_at : TreeValue → ChoiceId → Option Condition
choice_condition_at t c = option_and_then (λ x. option_map (of_choice_prompt t x) (choice_prompt_of x)) (slice_get t.choices c.0)

abbrev pub choice_block : TreeValue → ChoiceId → Option BlockId
choice_block t c = option_map (λ x. x.block) (slice_get t.choices c.0)
