-- Choices that are never visible, whatever the user values are, so that their defaults have no effect: docs/VALUES.md,
-- "Mode and selection", and this project's own.
use Rattle.std.specs.Prelude.{ℕ, Bool, true, false, List, filter, length}
use Rattle.std.specs.List.{list_any, range_with_len}
use Rattle.std.specs.Option.{option_map_or}
use Rattle.kc_statement.specs.declared.expr.Term.{Term}
use Rattle.kc_statement.specs.declared.expr.Term.TheVariants as term
use Rattle.kc_statement.specs.Grammar.{lone_term}
use Rattle.kc_statement.specs.Tristate.{is_no}
use Rattle.kc_outline.specs.declared.id.ChoiceId.{ChoiceId}
use Rattle.kc_outline.specs.TreeValue.{TreeValue}
use Rattle.kc_tree.specs.ConditionTable.{Condition, Factor, expression, mode, missing, factors}
use Rattle.kc_value.specs.Factors.{choice_condition_at}

-- a term that is n as a condition whatever the values of symbols are: the constant, and a word that is no symbol
abbrev pub is_never : Term → Bool
is_never (term.Tri v) = is_no v
is_never (term.Text w) = false
is_never (term.Symbol s) = false
is_never (term.Undefined w) = true

abbrev pub is_never_met : Factor → Bool
is_never_met (expression e) = option_map_or is_never (lone_term e) false
is_never_met (mode c) = false
is_never_met missing = false

-- one of the factors of a condition is never met
abbrev pub never_holds : TreeValue → Condition → Bool
never_holds t c = list_any is_never_met (factors t c)

-- the condition of the prompt of a choice never holds
abbrev pub is_hidden : TreeValue → ChoiceId → Bool
is_hidden t c = option_map_or (never_holds t) (choice_condition_at t c) false

abbrev pub is_hidden_number : TreeValue → ℕ → Bool
is_hidden_number t n = is_hidden t (record { 0 = n })

-- these choices, by number, in their order
abbrev pub hidden_choices : TreeValue → List ℕ
hidden_choices t = filter (is_hidden_number t) (range_with_len 0 (length t.choices))
