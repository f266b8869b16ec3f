-- Names of symbols, and what a word stands for: kconfig-language.rst, "Menu entries" and "Menu dependencies".
use Rattle.std.specs.Prelude.{ℕ, Bool, not, ◌&&◌, ◌||◌, ◌==◌, nat_le, List, [], ◌∷◌, ◌++◌, Option, Some, None, option_map, option_and_then, position, if◌then◌else◌, length, reverse, codes}
use Rattle.std.specs.Option.{option_map_or}
use Rattle.std.specs.List.{list_all, list_any}
use Rattle.std.specs.Char.{is_ascii_alphanumeric}
use Rattle.std.specs.Str.{bytes_eq}
use Rattle.kc_text.specs.LineValue.{LineValue}
use Rattle.kc_text.specs.declared.line.Token.{Token}
use Rattle.kc_text.specs.declared.line.Token.TheVariants.{Word, Expanded, Quoted, Operator}
use Rattle.kc_statement.specs.declared.id.SymId.{SymId}
use Rattle.kc_statement.specs.declared.limits.TheConstants.{MOST_SYMBOLS}
use Rattle.kc_statement.specs.declared.tri.Tri.TheVariants.{No, Module, Yes}
use Rattle.kc_statement.specs.declared.expr.Term.{Term}
use Rattle.kc_statement.specs.declared.expr.Term.TheVariants.{Tri, Text, Symbol, Undefined}
use Rattle.kc_statement.specs.Keywords.{is_config}

-- letters, digits and `_`
abbrev pub is_name_byte : ℕ → Bool
is_name_byte b = is_ascii_alphanumeric b || b == 95

-- the words of letters, digits and `_` that name no symbol
abbrev pub is_reserved : List ℕ → Bool
is_reserved w =
    bytes_eq w (codes "n") || bytes_eq w (codes "m") || bytes_eq w (codes "y") || bytes_eq w (codes "if")

-- whether a word names a symbol: one or more letters, digits and `_`, and not n, m, y or if
abbrev pub is_name : List ℕ → Bool
is_name w = not (bytes_eq w []) && list_all is_name_byte w && not (is_reserved w)

-- the word of a token, also one that holds a reference
abbrev pub token_word : Token → Option (List ℕ)
token_word (Word w) = Some w
token_word (Expanded w) = Some w
token_word (Quoted q) = None
token_word (Operator o) = None

-- the name that a token is
abbrev pub name_word : Token → Option (List ℕ)
name_word t = option_and_then (λ w. if is_name w then Some w else None) (token_word t)

-- ---- the names that lines define
-- a line that defines a name is its keyword and the name alone
abbrev pub name_alone : List Token → Option (List ℕ)
name_alone (k ∷ t ∷ []) = name_word t
name_alone _ = None

abbrev pub defined_name : LineValue → Option (List ℕ)
defined_name l = if is_config l then name_alone l.tokens else None

-- a name at the end, where it is new and there is room for it
abbrev pub with_name : List (List ℕ) → List ℕ → List (List ℕ)
with_name names name =
    if list_any (bytes_eq name) names || nat_le MOST_SYMBOLS (length names) then names else names ++ name ∷ []

-- the names of lines that stand in reverse, the last first
abbrev pub names_before : List LineValue → List (List ℕ)
names_before [] = []
names_before (l ∷ earlier) = option_map_or (with_name (names_before earlier)) (defined_name l) (names_before earlier)

-- the names in the order of their first definitions, the first of them where there are more than a tree may have
abbrev pub names_of : List LineValue → List (List ℕ)
names_of lines = names_before (reverse lines)

-- ---- symbols
-- the symbol of a name
abbrev pub symbol_among : List (List ℕ) → List ℕ → Option SymId
symbol_among names name = option_map (λ k. record { 0 = k }) (position (bytes_eq name) names)

-- ---- terms
-- a word that is no constant: the symbol that it names, wherever that is defined, or a word that names none
abbrev pub named_term : List (List ℕ) → List ℕ → Term
named_term names w = option_map_or Symbol (symbol_among names w) (Undefined w)

-- the words n, m and y are constants
abbrev pub constant_or : List ℕ → Term → Term
constant_or w other =
    if bytes_eq w (codes "n") then Tri No
    else (if bytes_eq w (codes "m") then Tri Module
    else (if bytes_eq w (codes "y") then Tri Yes else other))

abbrev pub word_term : List (List ℕ) → List ℕ → Term
word_term names w = constant_or w (named_term names w)

-- a text in quotes; where it is valued, n, m and y in quotes are constants too
abbrev pub quoted_term : List ℕ → Term
quoted_term w = Text w
