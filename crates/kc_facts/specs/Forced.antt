-- Symbols that are selected for more than their dependencies are worth, which a `select` passes over:
-- kconfig-language.rst, "reverse dependencies".
use Rattle.std.specs.Prelude.{ℕ, Bool, true, false, ◌&&◌, ◌==◌, List, Option, None, if◌then◌else◌, filter_map, is_none, length, map, option_and_then, option_map, position, slice_get}
use Rattle.std.specs.List.{range_with_len}
use Rattle.std.specs.Option.{option_map_or}
use Rattle.kc_statement.specs.declared.tri.Tri.{Tri}
use Rattle.kc_statement.specs.declared.tri.Tri.TheVariants.{No, Module, Yes}
use Rattle.kc_statement.specs.Tristate.{greatest_of}
use Rattle.kc_outline.specs.declared.symbol.Reverse.{Reverse}
use Rattle.kc_outline.specs.TreeValue.{TreeValue, SymbolValue}
use Rattle.kc_tree.specs.ConditionTable.{dependencies_in}
use Rattle.kc_value.specs.Assignable.{same_tri}
use Rattle.kc_value.specs.Assignment.{Assignment}
use Rattle.kc_value.specs.Conditions.{condition_value}
use Rattle.kc_value.specs.Rule.{reverse_value, reverse_values, direct}
use Rattle.kc_facts.specs.declared.forced_definitions.Forced.{Forced}

-- a value is more than another, in the order n, m, y
abbrev pub is_above : Tri → Tri → Bool
is_above No b = false
is_above Module No = true
is_above Module Module = false
is_above Module Yes = false
is_above Yes No = true
is_above Yes Module = true
is_above Yes Yes = false

-- what the dependencies of the definition of a number are worth; n where it is not there
abbrev pub worth : TreeValue → Assignment → ℕ → Tri
worth t a number = condition_value t a (dependencies_in (slice_get t.definitions number))

-- Its `select` lines give it more than the dependencies of its definitions are worth, of several the greatest. No `select`
-- gives a member of a choice a value.
abbrev pub is_beyond : TreeValue → Assignment → SymbolValue → Bool
is_beyond t a x = is_none x.choice && is_above (reverse_values t a x.selected) (direct t a x)

-- ---- what is said of such a symbol
abbrev pub most_worth : TreeValue → Assignment → SymbolValue → Tri
most_worth t a x = greatest_of (map (worth t a) x.definitions)

-- the definition whose dependencies are worth most, the first of several
abbrev pub nearest : TreeValue → Assignment → Tri → List ℕ → Option ℕ
nearest t a most numbers = option_and_then (slice_get numbers) (position (λ n. same_tri (worth t a n) most) numbers)

-- the first `select` line that gives more, by its number among those that name the symbol
abbrev pub forcing : TreeValue → Assignment → Tri → List Reverse → Option ℕ
forcing t a most selected = position (λ r. is_above (reverse_value t a r) most) selected

abbrev pub forced_by : ℕ → Tri → Option ℕ → Option ℕ → Option Forced
forced_by n most near selection =
    option_and_then (λ d. option_map (λ r. record { definition = n; selection = r; nearest = d; worth = most }) selection) near

abbrev pub forced_of : TreeValue → Assignment → ℕ → SymbolValue → Option Forced
forced_of t a n x =
    forced_by n (most_worth t a x) (nearest t a (most_worth t a x) x.definitions) (forcing t a (most_worth t a x) x.selected)

-- the definition of a number is the first of its symbol
abbrev pub is_first : ℕ → SymbolValue → Bool
is_first n x = option_map_or (λ k. k == n) (slice_get x.definitions 0) false

abbrev pub forced_first : TreeValue → Assignment → ℕ → SymbolValue → Option Forced
forced_first t a n x = if is_first n x && is_beyond t a x then forced_of t a n x else None

abbrev pub symbol_at : TreeValue → ℕ → Option SymbolValue
symbol_at t n = option_and_then (λ d. slice_get t.symbols d.symbol.0) (slice_get t.definitions n)

-- it is said where the symbol is defined first
abbrev pub forced_at : TreeValue → Assignment → ℕ → Option Forced
forced_at t a n = option_and_then (forced_first t a n) (symbol_at t n)

abbrev pub forced_symbols : TreeValue → Assignment → List Forced
forced_symbols t a = filter_map (forced_at t a) (range_with_len 0 (length t.definitions))
