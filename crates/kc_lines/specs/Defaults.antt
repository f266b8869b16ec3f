-- Defaults that can't be meant as they are written: kconfig-language.rst, "default value", and this project's own.
use Rattle.std.specs.Prelude.{Bool, true, false, not, ◌&&◌, ◌||◌, List, [], ◌∷◌, ℕ, Option, Some, None, if◌then◌else◌, is_none, codes}
use Rattle.std.specs.Char.{is_ascii_digit}
use Rattle.std.specs.List.{list_all, list_any}
use Rattle.std.specs.Str.{bytes_eq}
use Rattle.kc_statement.specs.declared.attribute.DefaultValue.{DefaultValue}
use Rattle.kc_statement.specs.declared.expr.Term.{Term}
use Rattle.kc_statement.specs.declared.expr.Term.TheVariants as term
use Rattle.kc_statement.specs.declared.symbol_type.SymbolType.{SymbolType}
use Rattle.kc_statement.specs.declared.tri.Tri.{Tri}
use Rattle.kc_statement.specs.declared.tri.Tri.TheVariants.{No, Module, Yes}
use Rattle.kc_statement.specs.SymbolTypes.{is_tri_type}

-- a default without a condition: those after it in its definition are never used
abbrev pub is_free : DefaultValue → Bool
is_free d = is_none d.condition

-- the texts n, m and y are constants, in quotes too
abbrev pub is_constant : List ℕ → Bool
is_constant w = bytes_eq w (codes "n") || (bytes_eq w (codes "m") || bytes_eq w (codes "y"))

-- a text in quotes that is no constant: a bool or a tristate counts it n
abbrev pub is_other_text : Term → Bool
is_other_text (term.Tri v) = false
is_other_text (term.Text w) = not (is_constant w)
is_other_text (term.Symbol s) = false
is_other_text (term.Undefined w) = false

abbrev pub is_unread_text : SymbolType → Term → Bool
is_unread_text k x = is_tri_type k && is_other_text x

-- ---- words that are meant as constants
abbrev pub yes_words : List (List ℕ)
yes_words = codes "Y" ∷ codes "yes" ∷ codes "Yes" ∷ codes "YES" ∷ codes "true" ∷ codes "True" ∷ codes "TRUE" ∷ codes "1" ∷ []

abbrev pub no_words : List (List ℕ)
no_words = codes "N" ∷ codes "no" ∷ codes "No" ∷ codes "NO" ∷ codes "false" ∷ codes "False" ∷ codes "FALSE" ∷ codes "0" ∷ []

abbrev pub meant_tri : List ℕ → Option Tri
meant_tri w =
    if list_any (bytes_eq w) yes_words then Some Yes
    else if list_any (bytes_eq w) no_words then Some No
    else if bytes_eq w (codes "M") then Some Module
    else None

abbrev pub is_digits : List ℕ → Bool
is_digits w = list_all is_ascii_digit w
