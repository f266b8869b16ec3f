-- What `kconf why` lists of a symbol, row by row, each with its line: this project's own, by docs/COMMANDS.md, "Why a symbol has its value".
use Rattle.std.specs.Prelude.{◌≡◌, ℕ, All, List, [], ◌∷◌, Option, Some, None, if◌then◌else◌, is_some, map, option_and_then, option_map, slice_get}
use Rattle.std.specs.Option.{option_copied}
use Rattle.kc_text.specs.LineValue.{LineValue}
use Rattle.kc_statement.specs.declared.expr.Expr.{Expr}
use Rattle.kc_statement.specs.declared.id.SymId.{SymId}
use Rattle.kc_outline.specs.declared.id.ChoiceId.{ChoiceId}
use Rattle.kc_outline.specs.declared.symbol.Reverse.{Reverse}
use Rattle.kc_outline.specs.TreeValue.{TreeValue, SymbolValue, choice_prompt_of}
use Rattle.kc_tree.specs.ConditionTable.{Condition, dependencies_in}
use Rattle.kc_value.specs.declared.factors.Factor.{Factor}
use Rattle.kc_value.specs.declared.factors.FactorPart.{FactorPart}
use Rattle.kc_value.specs.declared.factors.FactorPart.TheVariants as factor_part
use Rattle.kc_value.specs.declared.factors.Origin.{Origin}
use Rattle.kc_value.specs.declared.factors.Origin.TheVariants as origin
use Rattle.kc_value.specs.declared.reason.Reason.{Reason}
use Rattle.kc_value.specs.declared.reason.Reason.TheVariants as because
use Rattle.kc_value.specs.declared.places.DefaultPlace.{DefaultPlace}
use Rattle.kc_value.specs.declared.places.RangePlace.{RangePlace}
use Rattle.kc_value.specs.Assignment.{Assignment}
use Rattle.kc_value.specs.Factors.{Judged, judged, judged_expression, judged_of, origins_of, definition_block, prompt_condition}
use Rattle.kc_value.specs.Rule.{reverse_value}
use Rattle.kc_facts.specs.declared.listed_definitions.DefinitionRow.{DefinitionRow}
use Rattle.kc_facts.specs.declared.listed_definitions.FactorRow.{FactorRow}
use Rattle.kc_facts.specs.declared.listed_definitions.LinedFactor.{LinedFactor}
use Rattle.kc_lines.specs.declared.parts.Attribute.{Attribute}
use Rattle.kc_lines.specs.declared.parts.Attribute.TheVariants as attribute
use Rattle.kc_lines.specs.declared.parts.Family.TheVariants as family
use Rattle.kc_lines.specs.declared.parts.Part.{Part}
use Rattle.kc_lines.specs.declared.parts.Part.TheVariants.{Owner, Said}
use Rattle.kc_facts.specs.declared.listed_reasons.ReasonRow.{ReasonRow}
use Rattle.kc_facts.specs.declared.listed_reasons.ReasonSource.{ReasonSource}
use Rattle.kc_facts.specs.declared.listed_reasons.ReasonSource.TheVariants as source
use Rattle.kc_facts.specs.declared.reverse_row.ReverseKind.{ReverseKind}
use Rattle.kc_facts.specs.declared.reverse_row.ReverseKind.TheVariants as reverse_kind
use Rattle.kc_facts.specs.declared.listed_reverses.ReverseLine.{ReverseLine}
use Rattle.kc_facts.specs.FactorPlaces.{part_of_factor}
use Rattle.kc_lines.specs.LineIndex.{line_of}

-- ---- what a definition depends on
-- the condition of its prompt; without a prompt its dependencies
abbrev pub listed_condition : TreeValue → ℕ → Option Condition
listed_condition t n =
    if is_some (prompt_condition t n) then prompt_condition t n else Some (dependencies_in (slice_get t.definitions n))

-- factors are all those of that condition, in its order
pub record AreListedFactors (t : TreeValue) (a : Assignment) (n : ℕ) (fs : List Factor) : Type 0 where
  pub judged : map judged fs ≡ judged_of t a (listed_condition t n)
  pub origins : map (λ f. f.origin) fs ≡ origins_of t (definition_block t n) (listed_condition t n)

-- the condition after the `if` of a choice's prompt
abbrev pub choice_if : TreeValue → ChoiceId → Option Expr
choice_if t c = option_and_then (λ p. p.condition) (option_and_then choice_prompt_of (slice_get t.choices c.0))

-- ---- factors with lines
-- a factor, where it comes from, and its line
pub record Lined : Type 0 where
  pub factor : Judged
  pub origin : Origin
  pub line : Option LineValue

abbrev pub lined : LinedFactor → Lined
lined r = record { factor = judged r.factor; origin = r.factor.origin; line = option_copied r.line }

-- After the mode of a choice comes the condition of the choice's prompt, if it has one, with the line of that prompt.
abbrev pub prompt_line : TreeValue → Assignment → List LineValue → ChoiceId → Expr → Lined
prompt_line t a lines c e = record {
  factor = judged_expression t a e;
  origin = origin.Condition;
  line = line_of lines (Said family.Choice c.0 attribute.Prompt 0);
}

abbrev pub after_part : TreeValue → Assignment → List LineValue → FactorPart → Option Lined
after_part t a lines (factor_part.Expression e) = None
after_part t a lines (factor_part.Mode c) = option_map (prompt_line t a lines c) (choice_if t c)
after_part t a lines factor_part.Missing = None

-- the row of a factor of the definition of a number
pub record IsFactorRow (t : TreeValue) (a : Assignment) (lines : List LineValue) (n : ℕ) (r : FactorRow) : Type 0 where
  pub line : option_copied r.own.line ≡ option_and_then (line_of lines) (part_of_factor t n r.own.factor)
  pub choice : option_map lined r.choice ≡ after_part t a lines r.own.factor.part

-- one for each factor, in their order
pub record AreFactorRows (t : TreeValue) (a : Assignment) (lines : List LineValue) (n : ℕ) (rows : List FactorRow) : Type 0 where
  pub judged : map (λ r. judged r.own.factor) rows ≡ judged_of t a (listed_condition t n)
  pub origins : map (λ r. r.own.factor.origin) rows ≡ origins_of t (definition_block t n) (listed_condition t n)
  pub each : All (IsFactorRow t a lines n) rows

-- ---- definitions
-- the row of a definition: its line, and the rows of what it depends on
pub record IsDefinitionRow (t : TreeValue) (a : Assignment) (lines : List LineValue) (r : DefinitionRow) : Type 0 where
  pub line : option_copied r.line ≡ line_of lines (Owner family.Definition r.number)
  pub factors : AreFactorRows t a lines r.number r.factors.items

-- one for each of these numbers, in their order
pub record AreDefinitionRows (t : TreeValue) (a : Assignment) (lines : List LineValue) (numbers : List ℕ) (rows : List DefinitionRow) : Type 0 where
  pub all : map (λ r. r.number) rows ≡ numbers
  pub each : All (IsDefinitionRow t a lines) rows

-- ---- `select` and `imply` lines
abbrev pub reverses_of : ReverseKind → SymbolValue → List Reverse
reverses_of reverse_kind.Select x = x.selected
reverses_of reverse_kind.Imply x = x.implied

abbrev pub reverse_attribute : ReverseKind → Attribute
reverse_attribute reverse_kind.Select = attribute.Select
reverse_attribute reverse_kind.Imply = attribute.Imply

-- the part that is such a line, among those of the definition that has it
abbrev pub reverse_part : ReverseKind → Reverse → Part
reverse_part k r = Said family.Definition r.definition (reverse_attribute k) r.number

-- a row of one: its line, and what it gives
pub record IsReverseLine (t : TreeValue) (a : Assignment) (lines : List LineValue) (k : ReverseKind) (r : ReverseLine) : Type 0 where
  pub line : option_copied r.line ≡ line_of lines (reverse_part k r.reverse.now)
  pub value : r.value ≡ reverse_value t a r.reverse.now

-- one for each of these, in their order
pub record AreReverseLines (t : TreeValue) (a : Assignment) (lines : List LineValue) (k : ReverseKind) (reverses : List Reverse) (rows : List ReverseLine) : Type 0 where
  pub all : map (λ r. r.reverse.now) rows ≡ reverses
  pub each : All (IsReverseLine t a lines k) rows

-- ---- the reason of a value
-- what a reason comes from, in the order in which it is listed: of a range and a default the range first
abbrev pub default_source : Option DefaultPlace → List ReasonSource
default_source None = []
default_source (Some d) = source.Default d ∷ []

abbrev pub range_sources : RangePlace → Option DefaultPlace → List ReasonSource
range_sources r d = source.Range r ∷ default_source d

abbrev pub sources_of : Reason → List ReasonSource
sources_of because.User = []
sources_of because.UserWithin = []
sources_of (because.OutsideRange r d) = range_sources r d
sources_of (because.Default d) = source.Default d ∷ []
sources_of (because.Bound r d) = range_sources r d
sources_of (because.Implied n) = source.Reverse reverse_kind.Imply n ∷ []
sources_of (because.Selected n) = source.Reverse reverse_kind.Select n ∷ []
sources_of because.Chosen = []
sources_of (because.OtherChosen m) = []
sources_of because.NoneChosen = []
sources_of because.NoDependencies = []
sources_of because.Nothing = []

-- the part that is it: a range or a default at its place, a `select` or `imply` line by its number among those that
-- name the symbol
abbrev pub source_part : TreeValue → SymId → ReasonSource → Option Part
source_part t s (source.Range r) = Some (Said family.Definition r.definition attribute.Range r.range)
source_part t s (source.Default d) = Some (Said family.Definition d.definition attribute.Default d.default)
source_part t s (source.Reverse k n) =
    option_map (reverse_part k) (option_and_then (λ x. slice_get (reverses_of k x) n) (slice_get t.symbols s.0))

abbrev pub IsReasonRow : TreeValue → List LineValue → SymId → ReasonRow → Type 0
IsReasonRow t lines s r = option_copied r.line ≡ option_and_then (line_of lines) (source_part t s r.source)

-- one for each thing that it comes from
pub record AreReasonRows (t : TreeValue) (lines : List LineValue) (s : SymId) (reason : Reason) (rows : List ReasonRow) : Type 0 where
  pub sources : map (λ r. r.source) rows ≡ sources_of reason
  pub each : All (IsReasonRow t lines s) rows
