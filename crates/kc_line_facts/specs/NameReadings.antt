-- How a word in a line is read, which may be the name of a symbol: docs/VALUES.md, and this project's own, by
-- docs/ERRORS.md, "Findings of `check`".
use Rattle.std.specs.Prelude.{ℕ, ◌+◌, ◌-◌, Bool, true, false, not, ◌&&◌, ◌||◌, ◌==◌, nat_le, List, Option, Some, None, if◌then◌else◌, codes, count_by, drop, length, slice_get}
use Rattle.std.specs.List.{take_while}
use Rattle.std.specs.Option.{option_map_or}
use Rattle.kc_text.specs.declared.line.Operator.{Operator}
use Rattle.kc_text.specs.declared.line.Operator.TheVariants as sign
use Rattle.kc_text.specs.declared.line.Token.{Token}
use Rattle.kc_text.specs.declared.line.Token.TheVariants as token
use Rattle.kc_statement.specs.Forms.{is_word}
use Rattle.kc_statement.specs.SymbolTypes.{is_tri_type}
use Rattle.kc_statement.specs.declared.keyword.Keyword.{Keyword}
use Rattle.kc_statement.specs.declared.keyword.Keyword.TheVariants as keyword
use Rattle.kc_lines.specs.Attributes.{is_default_word, is_imply_word, is_range_word, is_select_word}
use Rattle.kc_line_facts.specs.declared.name_readings.LineContext.{LineContext}
use Rattle.kc_line_facts.specs.declared.name_readings.NameReading.{NameReading}
use Rattle.kc_line_facts.specs.declared.name_readings.NameReading.TheVariants as reading

-- ---- places
-- from which place on the tokens of a line can be names that it uses: after its words, and after a prompt
abbrev pub first_place : Keyword → Option ℕ
first_place keyword.If = Some 1
first_place keyword.Range = Some 1
first_place keyword.DefBool = Some 1
first_place keyword.DefTristate = Some 1
first_place keyword.Default = Some 1
first_place keyword.Select = Some 1
first_place keyword.Imply = Some 1
first_place keyword.Depends = Some 2
first_place keyword.Visible = Some 2
first_place keyword.Prompt = Some 2
first_place keyword.Bool = Some 2
first_place keyword.Tristate = Some 2
first_place keyword.String = Some 2
first_place keyword.Int = Some 2
first_place keyword.Hex = Some 2
first_place _ = None

abbrev pub is_place : Keyword → ℕ → Bool
is_place word p = option_map_or (λ first. nat_le first p) (first_place word) false

-- ---- the value of a default
abbrev pub is_parenthesis_sign : Operator → Bool
is_parenthesis_sign sign.Open = true
is_parenthesis_sign sign.Close = true
is_parenthesis_sign _ = false

abbrev pub is_parenthesis : Token → Bool
is_parenthesis (token.Word w) = false
is_parenthesis (token.Expanded w) = false
is_parenthesis (token.Quoted q) = false
is_parenthesis (token.Operator o) = is_parenthesis_sign o

-- the tokens of a default's value: those after its word, up to `if`
abbrev pub value_of : List Token → List Token
value_of tokens = take_while (λ x. not (is_word (codes "if") x)) (drop 1 tokens)

-- the value is one token, also in parentheses
abbrev pub is_lone : List Token → Bool
is_lone value = count_by (λ x. not (is_parenthesis x)) value == 1

-- how many tokens the value of a default has that is one token, also in parentheses; 0 in all other lines
abbrev pub lone_len : Keyword → List Token → ℕ
lone_len word tokens = if is_default_word word && is_lone (value_of tokens) then length (value_of tokens) else 0

-- the token of a place is in it
abbrev pub is_whole_value : LineContext → ℕ → Bool
is_whole_value u p = nat_le 1 p && nat_le p u.lone_len

-- ---- comparisons
abbrev pub is_comparison_sign : Operator → Bool
is_comparison_sign sign.Equal = true
is_comparison_sign sign.NotEqual = true
is_comparison_sign sign.Less = true
is_comparison_sign sign.LessOrEqual = true
is_comparison_sign sign.Greater = true
is_comparison_sign sign.GreaterOrEqual = true
is_comparison_sign _ = false

abbrev pub is_comparison : Token → Bool
is_comparison (token.Word w) = false
is_comparison (token.Expanded w) = false
is_comparison (token.Quoted q) = false
is_comparison (token.Operator o) = is_comparison_sign o

abbrev pub is_comparison_at : List Token → ℕ → Bool
is_comparison_at tokens p = option_map_or is_comparison (slice_get tokens p) false

-- the token of a place is a side of a comparison
abbrev pub is_compared : List Token → ℕ → Bool
is_compared tokens p = is_comparison_at tokens (p + 1) || (nat_le 1 p && is_comparison_at tokens (p - 1))

-- ---- readings
-- the line belongs to a string, an int or a hex
abbrev pub is_of_text : LineContext → Bool
is_of_text u = option_map_or (λ k. not (is_tri_type k)) u.kind false

-- the line belongs to a bool or a tristate
abbrev pub is_of_tri : LineContext → Bool
is_of_tri u = option_map_or is_tri_type u.kind false

-- the bounds of a range are its first two tokens
abbrev pub is_bound : LineContext → ℕ → Bool
is_bound u p = is_range_word u.keyword && nat_le p 2

-- How the word at a place is read. A `select` and an `imply` look for the symbol that they name. A string, an int or a hex
-- gets a text by a default, if that is one word; the bounds of its range are texts, and so are the sides of a comparison.
-- All others are conditions.
abbrev pub reading_at : LineContext → List Token → ℕ → NameReading
reading_at u tokens p =
    if is_select_word u.keyword && (p == 1) then reading.Select
    else if is_imply_word u.keyword && (p == 1) then reading.Imply
    else if is_of_text u && is_whole_value u p then reading.Default
    else if is_compared tokens p || (is_of_text u && is_bound u p) then reading.Text
    else reading.No
