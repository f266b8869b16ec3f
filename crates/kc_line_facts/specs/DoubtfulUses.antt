-- Names in lines that are read as something other than the value of a symbol, since no line defines them, or since they are
-- conditions and their symbols are no bools or tristates: this project's own, by docs/ERRORS.md, "Findings of `check`".
use Rattle.std.specs.Prelude.{ℕ, ◌+◌, Bool, true, false, not, ◌&&◌, ◌||◌, ◌==◌, List, [], ◌∷◌, Option, Some, None, if◌then◌else◌, flat_map, is_some, length, option_and_then, option_map, option_to_list, slice_get}
use Rattle.std.specs.List.{find, range_with_len}
use Rattle.std.specs.Option.{option_map_or}
use Rattle.kc_text.specs.LineValue.{LineValue}
use Rattle.kc_text.specs.declared.line.Token.{Token}
use Rattle.kc_statement.specs.Keywords.{is_attribute, keyword_of}
use Rattle.kc_statement.specs.Names.{defined_name, is_name, is_reserved, token_word}
use Rattle.kc_statement.specs.Numerals.{numeral_in}
use Rattle.kc_statement.specs.SymbolTypes.{is_tri_type}
use Rattle.kc_statement.specs.declared.id.SymId.{SymId}
use Rattle.kc_statement.specs.declared.keyword.Keyword.{Keyword}
use Rattle.kc_statement.specs.declared.symbol_type.SymbolType.{SymbolType}
use Rattle.kc_statement.specs.declared.symbol_type.SymbolType.TheVariants as kind
use Rattle.kc_outline.specs.Enclosing.{before}
use Rattle.kc_outline.specs.TreeValue.{TreeValue, symbol_named}
use Rattle.kc_tree.specs.Fits.{type_of}
use Rattle.kc_lines.specs.Defaults.{is_digits, meant_tri}
use Rattle.kc_line_facts.specs.NameReadings.{is_of_tri, is_place, is_whole_value, lone_len, reading_at}
use Rattle.kc_line_facts.specs.declared.name_readings.LineContext.{LineContext}
use Rattle.kc_line_facts.specs.declared.name_readings.NameReading.{NameReading}
use Rattle.kc_line_facts.specs.declared.name_readings.NameReading.TheVariants as reading
use Rattle.kc_line_facts.specs.declared.doubtful_uses.DoubtfulUse.{DoubtfulUse}

-- ---- what a line belongs to
-- the symbol that a line defines
abbrev pub defined_symbol : TreeValue → LineValue → Option SymId
defined_symbol t line = option_and_then (symbol_named t) (defined_name line)

-- the symbol that the nearest of some lines defines which is no attribute; the last line is first
abbrev pub owner_at : TreeValue → List LineValue → Option SymId
owner_at t lines = option_and_then (defined_symbol t) (find (λ line. not (is_attribute line)) lines)

-- the symbol that the line of an index belongs to: the one that it defines, or the nearest statement before an attribute
abbrev pub owner_of : List LineValue → TreeValue → ℕ → Option SymId
owner_of lines t i = owner_at t (before lines (i + 1))

abbrev pub context_of : TreeValue → Option SymId → Keyword → List Token → LineContext
context_of t owner word tokens = record { owner = owner; keyword = word; kind = option_map (type_of t) owner; lone_len = lone_len word tokens }

-- ---- words that are no names
-- it begins with `0x` or `0X`
abbrev pub has_hex_sign : List ℕ → Bool
has_hex_sign (first ∷ second ∷ rest) = (first == 48) && ((second == 120) || (second == 88))
has_hex_sign _ = false

abbrev pub is_hex : Option SymbolType → Bool
is_hex (Some kind.Hex) = true
is_hex _ = false

-- a numeral: decimal digits, or hex digits after `0x` or in a line of a hex
abbrev pub is_numeral : LineContext → List ℕ → Bool
is_numeral u w = is_digits w || ((has_hex_sign w || is_hex u.kind) && is_some (numeral_in kind.Hex w))

-- the whole default of a bool or a tristate that is meant as a constant
abbrev pub is_meant_constant : LineContext → ℕ → List ℕ → Bool
is_meant_constant u p w = is_of_tri u && (is_whole_value u p && is_some (meant_tri w))

-- a word at a place that is no name: n, m, y and `if`, numerals, and what is meant as a constant
abbrev pub is_no_name : LineContext → ℕ → List ℕ → Bool
is_no_name u p w = is_reserved w || (is_numeral u w || is_meant_constant u p w)

-- ---- names that are read otherwise
abbrev pub is_text : NameReading → Bool
is_text reading.Text = true
is_text reading.Default = true
is_text _ = false

abbrev pub is_condition : NameReading → Bool
is_condition reading.No = true
is_condition _ = false

-- a word that no line defines; one that can't be a name is none where it is a text
abbrev pub read_undefined : Bool → List ℕ → NameReading → Option NameReading
read_undefined no_name w r = if no_name || (is_text r && not (is_name w)) then None else Some r

-- a symbol of a type, if it is a condition and always n as that
abbrev pub read_symbol : SymbolType → NameReading → Option NameReading
read_symbol k r = if is_condition r && not (is_tri_type k) then Some (reading.Condition k) else None

-- how a word at a place is read, if it is a name and not read as the value of a symbol
abbrev pub read_word : TreeValue → LineContext → List Token → ℕ → List ℕ → Option NameReading
read_word t u tokens p w =
    option_map_or (λ s. read_symbol (type_of t s) (reading_at u tokens p)) (symbol_named t w)
    (read_undefined (is_no_name u p w) w (reading_at u tokens p))

-- the same of the token at a place
abbrev pub read_at : TreeValue → LineContext → List Token → ℕ → Option NameReading
read_at t u tokens p =
    if is_place u.keyword p then option_and_then (read_word t u tokens p) (option_and_then token_word (slice_get tokens p)) else None

-- ---- these names, in the order of the lines and of their tokens
abbrev pub use_if : ℕ → Option SymId → ℕ → Option NameReading → List DoubtfulUse
use_if i owner p r = option_to_list (option_map (λ x. record { line = i; owner = owner; token = p; reading = x }) r)

-- the one at a place of the line of an index
abbrev pub use_in : TreeValue → ℕ → LineContext → List Token → ℕ → List DoubtfulUse
use_in t i u tokens p = use_if i u.owner p (read_at t u tokens p)

abbrev pub uses_in : TreeValue → ℕ → LineContext → List Token → List DoubtfulUse
uses_in t i u tokens = flat_map (use_in t i u tokens) (range_with_len 0 (length tokens))

abbrev pub uses_of_line : TreeValue → ℕ → Option SymId → LineValue → List DoubtfulUse
uses_of_line t i owner line = option_map_or (λ word. uses_in t i (context_of t owner word line.tokens) line.tokens) (keyword_of line) []

-- those of the line of an index
abbrev pub uses_at : List LineValue → TreeValue → ℕ → List DoubtfulUse
uses_at lines t i = option_map_or (uses_of_line t i (owner_of lines t i)) (slice_get lines i) []

abbrev pub doubtful_uses : List LineValue → TreeValue → List DoubtfulUse
doubtful_uses lines t = flat_map (uses_at lines t) (range_with_len 0 (length lines))
