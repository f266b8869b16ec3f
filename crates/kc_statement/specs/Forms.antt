-- The parts that forms are read by: kconfig-language.rst, "Menu attributes".
use Rattle.std.specs.Prelude.{ℕ, Bool, false, List, Option, Some, None, codes}
use Rattle.std.specs.List.{position_or_len}
use Rattle.std.specs.Str.{bytes_eq}
use Rattle.kc_text.specs.declared.line.Token.{Token}
use Rattle.kc_text.specs.declared.line.Token.TheVariants.{Word, Expanded, Quoted, Operator}

-- whether a token is this word, unquoted and without reference
abbrev pub is_word : List ℕ → Token → Bool
is_word w (Word v) = bytes_eq v w
is_word w (Expanded v) = false
is_word w (Quoted q) = false
is_word w (Operator o) = false

-- the text of a token in quotes
abbrev pub quoted_text : Token → Option (List ℕ)
quoted_text (Word w) = None
quoted_text (Expanded w) = None
quoted_text (Quoted q) = Some q
quoted_text (Operator o) = None

-- where the first `if` stands, or the end
abbrev pub condition_start : List Token → ℕ
condition_start tokens = position_or_len (is_word (codes "if")) tokens
