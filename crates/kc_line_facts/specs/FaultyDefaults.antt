-- Defaults that are likely mistakes, in the order of their lines: kconfig-language.rst, "default value" and "numerical
-- ranges", and this project's own.
use Rattle.std.specs.Prelude.{ℕ, Bool, false, not, ◌&&◌, ◌||◌, List, [], Option, Some, None, if◌then◌else◌, flat_map, is_some, length, option_and_then, option_map, option_to_list, slice_get}
use Rattle.std.specs.List.{range_with_len}
use Rattle.std.specs.Option.{option_map_or}
use Rattle.kc_statement.specs.declared.attribute.DefaultValue.{DefaultValue}
use Rattle.kc_statement.specs.declared.attribute.Range.{Range}
use Rattle.kc_statement.specs.declared.expr.Term.{Term}
use Rattle.kc_statement.specs.declared.expr.Term.TheVariants as term
use Rattle.kc_statement.specs.declared.id.SymId.{SymId}
use Rattle.kc_statement.specs.declared.symbol_type.SymbolType.{SymbolType}
use Rattle.kc_statement.specs.declared.symbol_type.SymbolType.TheVariants as kind
use Rattle.kc_statement.specs.Grammar.{lone_term}
use Rattle.kc_outline.specs.TreeValue.{TreeValue, DefinitionValue, choice_of}
use Rattle.kc_tree.specs.Fits.{type_of}
use Rattle.kc_line_facts.specs.declared.default_faults.DefaultFault.{DefaultFault}
use Rattle.kc_line_facts.specs.declared.default_faults.DefaultFault.TheVariants as fault
use Rattle.kc_line_facts.specs.declared.default_faults.FaultyDefault.{FaultyDefault}
use Rattle.kc_lines.specs.Defaults.{is_digits, is_unread_text, meant_tri}
use Rattle.kc_line_facts.specs.Ranges.{certain_range, has_exchanged_sides, is_outside}

-- ---- defaults
-- A bool or a tristate reads it as n: a text in quotes other than n, m and y, or a word that is no symbol, where it is
-- meant as a constant or has digits alone. Other words are undefined names.
abbrev pub is_read_as_no : SymbolType → Term → Bool
is_read_as_no k (term.Tri v) = false
is_read_as_no k (term.Text w) = is_unread_text k (term.Text w)
is_read_as_no k (term.Symbol s) = false
is_read_as_no k (term.Undefined w) = is_some (meant_tri w) || is_digits w

-- the range that bounds what the definition of a number gives a symbol whenever it gives a value
abbrev pub range_of : TreeValue → SymId → ℕ → Option Range
range_of t s n = option_and_then (λ x. certain_range t x.definitions n) (slice_get t.symbols s.0)

-- a number outside that range; where the sides of the range are exchanged, the range is the mistake
abbrev pub is_past_range : TreeValue → SymId → ℕ → SymbolType → Term → Bool
is_past_range t s n k x = option_map_or (λ r. is_outside k r x && not (has_exchanged_sides k r)) (range_of t s n) false

-- by the type of the symbol
abbrev pub term_fault : TreeValue → SymId → ℕ → SymbolType → Term → Option DefaultFault
term_fault t s n kind.Bool x = if is_read_as_no kind.Bool x then Some fault.ReadAsNo else None
term_fault t s n kind.Tristate x = if is_read_as_no kind.Tristate x then Some fault.ReadAsNo else None
term_fault t s n kind.String x = None
term_fault t s n kind.Int x = if is_past_range t s n kind.Int x then Some fault.Outside else None
term_fault t s n kind.Hex x = if is_past_range t s n kind.Hex x then Some fault.Outside else None

-- what is wrong with a default in the definition of a number, which defines a symbol; the condition of the default does
-- not matter
abbrev pub default_fault : TreeValue → ℕ → SymId → DefaultValue → Option DefaultFault
default_fault t n s d =
    if is_some (choice_of t s) then Some fault.OfMember
    else option_and_then (term_fault t s n (type_of t s)) (lone_term d.value)

abbrev pub faulty_at : ℕ → ℕ → Option DefaultFault → List FaultyDefault
faulty_at n p f = option_to_list (option_map (λ x. record { definition = n; place = p; fault = x }) f)

abbrev pub faulty_in : TreeValue → ℕ → DefinitionValue → ℕ → List FaultyDefault
faulty_in t n d p = faulty_at n p (option_and_then (default_fault t n d.symbol) (slice_get d.defaults p))

abbrev pub faulty_of : TreeValue → ℕ → DefinitionValue → List FaultyDefault
faulty_of t n d = flat_map (faulty_in t n d) (range_with_len 0 (length d.defaults))

-- those of the definition of a number
abbrev pub faulty_by_number : TreeValue → ℕ → List FaultyDefault
faulty_by_number t n = option_map_or (faulty_of t n) (slice_get t.definitions n) []

abbrev pub faulty_defaults : TreeValue → List FaultyDefault
faulty_defaults t = flat_map (faulty_by_number t) (range_with_len 0 (length t.definitions))
