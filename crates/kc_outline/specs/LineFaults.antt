-- What is wrong with a line: this project's own list, in its order, after kconfig-language.rst.
use Rattle.std.specs.Prelude.{◌≡◌, ◌⊎◌, ℕ, ◌==◌, Bool, true, false, not, ◌&&◌, ◌||◌, List, [], ◌∷◌, Option, Some, None, is_some, if◌then◌else◌, nat_le, length, drop, codes}
use Rattle.std.specs.Option.{option_map_or}
use Rattle.std.specs.List.{list_any}
use Rattle.kc_text.specs.LineValue.{LineValue}
use Rattle.kc_text.specs.declared.line.LineKind.{LineKind}
use Rattle.kc_text.specs.declared.line.LineKind.TheVariants.{Statement as StatementLine, EndOfFile}
use Rattle.kc_text.specs.declared.line.Token.{Token}
use Rattle.kc_text.specs.declared.line.Token.TheVariants.{Word, Expanded, Quoted, Operator}
use Rattle.kc_statement.specs.declared.keyword.Keyword.{Keyword}
use Rattle.kc_statement.specs.declared.keyword.Keyword.TheVariants as keyword
use Rattle.kc_outline.specs.declared.context.OpenBlock.{OpenBlock}
use Rattle.kc_statement.specs.declared.statement.Statement.{Statement}
use Rattle.kc_statement.specs.declared.statement.Statement.TheVariants.{Config, Default}
use Rattle.kc_outline.specs.declared.fault.LineProblem.{LineProblem}
use Rattle.kc_outline.specs.declared.fault.LineProblem.TheVariants.{Limit, UnknownStatement, Malformed, StrayAttribute, UnbalancedBlock, Unsupported}
use Rattle.kc_statement.specs.Keywords.{keyword_of, is_opener, is_attribute_word, is_closer_word, is_end_of, takes, wants_quotes, is_choice_word}
use Rattle.kc_outline.specs.Enclosing.{open_blocks, choice_among, nearest_statement}
use Rattle.kc_statement.specs.declared.expr.Term.{Term}
use Rattle.kc_statement.specs.declared.expr.Term.TheVariants.{Symbol, Undefined}
use Rattle.kc_statement.specs.Forms.{is_word}
use Rattle.kc_statement.specs.Grammar.{term_alone}
use Rattle.kc_statement.specs.Names.{is_name}
use Rattle.kc_statement.specs.NestingDepth.{nests_too_deep}
use Rattle.kc_statement.specs.Statements.{HasForm, HasNoForm}
use Rattle.kc_outline.specs.declared.limits.TheConstants.{MOST_OPEN_BLOCKS}

-- ---- words that are unsupported
abbrev pub is_unquoted : Token → Bool
is_unquoted (Word w) = true
is_unquoted (Expanded w) = true
is_unquoted (Quoted q) = false
is_unquoted (Operator o) = false

abbrev pub starts_with : (Token → Bool) → List Token → Bool
starts_with p [] = false
starts_with p (t ∷ rest) = p t

-- `depends on` with a condition of its own
abbrev pub has_condition : List Token → Bool
has_condition tokens = starts_with (is_word (codes "on")) tokens && list_any (is_word (codes "if")) (drop 1 tokens)

-- a choice is among the open blocks
abbrev pub is_in_choice : List OpenBlock → Bool
is_in_choice blocks = is_some (choice_among blocks)

-- the nearest statement is a `choice`
abbrev pub is_of_choice : Option Keyword → Bool
is_of_choice nearest = option_map_or is_choice_word nearest false

abbrev pub has_tokens : List Token → Bool
has_tokens [] = false
has_tokens (t ∷ rest) = true

-- by the open blocks, the nearest statement, the keyword and the tokens after it: words that are unsupported, `option env` and
-- `option defconfig_list`, `depends on E if F`, a prompt without quotes, a choice with anything after its word, a menu
-- or a choice in a choice, a tristate choice
abbrev pub is_unsupported : List OpenBlock → Option Keyword → Keyword → List Token → Bool
is_unsupported blocks nearest keyword.Unsupported rest = true
is_unsupported blocks nearest keyword.Option rest = starts_with (is_word (codes "env")) rest || starts_with (is_word (codes "defconfig_list")) rest
is_unsupported blocks nearest keyword.Depends rest = has_condition rest
is_unsupported blocks nearest keyword.Choice rest = has_tokens rest || is_in_choice blocks
is_unsupported blocks nearest keyword.Menu rest = starts_with is_unquoted rest || is_in_choice blocks
is_unsupported blocks nearest keyword.Tristate rest = starts_with is_unquoted rest || is_of_choice nearest
is_unsupported blocks nearest k rest = wants_quotes k && starts_with is_unquoted rest

-- ---- attributes and blocks
-- an attribute whose nearest statement doesn't take it
abbrev pub is_stray : Option Keyword → Keyword → Bool
is_stray nearest k = is_attribute_word k && not (option_map_or (λ s. takes s k) nearest false)

-- a closer without a block of its kind, or of its run
abbrev pub closes_wrongly : List OpenBlock → Keyword → ℕ → Bool
closes_wrongly [] k run = is_closer_word k
closes_wrongly (b ∷ bs) k run = is_closer_word k && not (is_end_of k b.keyword && b.run == run)

-- a block is open
abbrev pub stays_open : List OpenBlock → Bool
stays_open [] = false
stays_open (b ∷ bs) = true

-- an end of file with a block of its run open
abbrev pub leaves_open : List OpenBlock → ℕ → Bool
leaves_open blocks run = list_any (λ b. b.run == run) blocks

-- ---- problems in their order
-- a problem, and whether a line has it
pub record Test : Type 0 where
  pub problem : LineProblem
  pub holds : Bool

abbrev pub test : LineProblem → Bool → Test
test problem holds = record { problem = problem; holds = holds }

-- the first that holds
abbrev pub first_problem : List Test → Option LineProblem
first_problem [] = None
first_problem (t ∷ tests) = if t.holds then Some t.problem else first_problem tests

-- ---- the problems of a line, before its form is looked at
-- by the lines before, the last first; `is_last` says that no line follows
abbrev pub block_problem : List LineValue → Bool → Keyword → LineValue → Bool
block_problem earlier is_last k l =
    closes_wrongly (open_blocks earlier) k l.run || (is_last && stays_open (open_blocks (l ∷ earlier)))

-- of a line that begins with this keyword: K20, K06, K07, and K01 of parentheses
abbrev pub word_problem : List LineValue → Bool → Keyword → LineValue → Option LineProblem
word_problem earlier is_last k l = first_problem (
    test Unsupported (is_unsupported (open_blocks earlier) (nearest_statement earlier) k (drop 1 l.tokens))
    ∷ test StrayAttribute (is_stray (nearest_statement earlier) k)
    ∷ test UnbalancedBlock (block_problem earlier is_last k l)
    ∷ test Limit (nests_too_deep l.tokens)
    ∷ [])

-- of an end of file, which closes no block: those of its run are left open (K07)
abbrev pub end_problem : List OpenBlock → Bool → LineValue → Option LineProblem
end_problem blocks is_last l = first_problem (
    test UnbalancedBlock (leaves_open blocks l.run || (is_last && stays_open blocks))
    ∷ [])

-- a line that begins with no keyword is unknown (K04)
abbrev pub kind_problem : List LineValue → Bool → LineKind → LineValue → Option LineProblem
kind_problem earlier is_last EndOfFile l = end_problem (open_blocks earlier) is_last l
kind_problem earlier is_last StatementLine l =
    option_map_or (λ k. word_problem earlier is_last k l) (keyword_of l) (Some UnknownStatement)

abbrev pub early_problem : List LineValue → Bool → LineValue → Option LineProblem
early_problem earlier is_last l = kind_problem earlier is_last l.kind l

-- ---- the problems of a line that has a form
-- the name that a term is, defined or not
abbrev pub is_name_term : Option Term → Bool
is_name_term (Some (Symbol s)) = true
is_name_term (Some (Undefined w)) = is_name w
is_name_term _ = false

-- the value of a default in a choice is a name alone
abbrev pub is_no_choice_default : Option Keyword → Statement → Bool
is_no_choice_default nearest (Default d) = is_of_choice nearest && not (is_name_term (term_alone d.value))
is_no_choice_default nearest _ = false

abbrev pub opens_too_deep : List OpenBlock → LineValue → Bool
opens_too_deep blocks l = is_opener l && nat_le MOST_OPEN_BLOCKS (length blocks)

abbrev pub is_past_limit : Statement → Bool
is_past_limit (Config None) = true
is_past_limit _ = false

-- K05 of a default of a choice, and K01 of blocks and of symbols
abbrev pub late_problem : List LineValue → LineValue → Statement → Option LineProblem
late_problem earlier l s = first_problem (
    test Malformed (is_no_choice_default (nearest_statement earlier) s)
    ∷ test Limit (opens_too_deep (open_blocks earlier) l || is_past_limit s)
    ∷ [])

-- ---- the fault of a line
-- the line says this, and has no problem
pub record IsSound (names : List (List ℕ)) (earlier : List LineValue) (is_last : Bool) (l : LineValue) (s : Statement) : Type 0 where
  pub early : early_problem earlier is_last l ≡ None
  pub form : HasForm names l s
  pub late : late_problem earlier l s ≡ None

-- the line has this problem, and none that comes before it: one before its form is looked at, no form (K05), or one of
-- the statement that it is
abbrev pub HasProblem : List (List ℕ) → List LineValue → Bool → LineValue → LineProblem → Type 0
HasProblem names earlier is_last l problem =
    (early_problem earlier is_last l ≡ Some problem)
    ⊎ (((early_problem earlier is_last l ≡ None) × HasNoForm names l × (problem ≡ Malformed))
    ⊎ ((s : Statement) × (early_problem earlier is_last l ≡ None) × HasForm names l s × (late_problem earlier l s ≡ Some problem)))
