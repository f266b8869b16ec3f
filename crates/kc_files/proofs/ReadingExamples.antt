-- Lines of a `.config` with what they give, computed from the definition. What each gives was worked out by hand.
use Rattle.std.proofs.Common.{◌≡◌, ℕ, Bool, true, false, List, [], ◌∷◌, ◌++◌, None, if◌then◌else◌, refl, ap, subst, ◌∙◌}
use Rattle.std.specs.Prelude.{codes}
use Rattle.std.specs.Char.{is_ascii}
use Rattle.std.specs.List.{list_all}
use Rattle.std.specs.Str.{IsAscii, is_utf8}
use Rattle.std.proofs.lemmas.Bool.{and_parts, ltb-true}
use Rattle.std.proofs.lemmas.Str.{IsUtf8-from_ascii, is_utf8-from_IsUtf8}
use Rattle.std.proofs.lemmas.Str.Ascii.{IsAscii-nil, IsAscii-cons}
use Rattle.kc_statement.specs.declared.symbol_type.SymbolType.{SymbolType}
use Rattle.kc_statement.specs.declared.symbol_type.SymbolType.TheVariants.{Bool as BoolType, Tristate, String as StringType, Int, Hex}
use Rattle.kc_statement.specs.declared.tri.Tri.TheVariants.{No, Module, Yes}
use Rattle.kc_outline.specs.TreeValue.{TreeValue, SymbolValue}
use Rattle.kc_tree.specs.declared.user_value.UserVal.{UserVal}
use Rattle.kc_tree.specs.declared.user_value.UserVal.TheVariants.{Tri as TriVal, Text}
use Rattle.kc_files.specs.declared.assign.Assign.{Assign}
use Rattle.kc_files.specs.declared.warning.Warning.{Warning}
use Rattle.kc_files.specs.declared.warning.WarningKind.{WarningKind}
use Rattle.kc_files.specs.declared.warning.WarningKind.TheVariants.{UndefinedSymbol, BadValue, BadString, Malformed, Repeated}
use Rattle.kc_files.specs.declared.line_form.LineForm.TheVariants as form
use Rattle.kc_files.specs.declared.line_reading.Reading.{Reading}
use Rattle.kc_files.specs.declared.line_reading.Reading.TheVariants.{Usable, Warned, Nothing}
use Rattle.kc_files.specs.ConfigLines.{trimmed}
use Rattle.kc_files.specs.ConfigReading.{IsConfigReading}
use Rattle.kc_files.specs.LineReading.{HasReading}
use Rattle.kc_files.specs.LineSteps.{form_reading}
use Rattle.kc_files.specs.ReadingSteps.{text_form}
use Rattle.kc_files.proofs.ReadingLaws.{reading_has}

abbrev symbol : SymbolType → SymbolValue
symbol kind = record {
  types = kind ∷ [];
  choice = None;
  definitions = [];
  selected = [];
  implied = [];
  has_selections = false;
  has_modules = false;
  is_yes_in_allnoconfig = false;
}

-- bool A, tristate T, int N, hex H and string S
abbrev tree : TreeValue
tree = record {
  names = codes "A" ∷ codes "T" ∷ codes "N" ∷ codes "H" ∷ codes "S" ∷ [];
  symbols = symbol BoolType ∷ symbol Tristate ∷ symbol Int ∷ symbol Hex ∷ symbol StringType ∷ [];
  definitions = [];
  blocks = [];
  choices = [];
  comments = [];
  entries = [];
}

abbrev assign : ℕ → UserVal → Assign
assign s v = record { symbol = record { 0 = s }; value = v }

abbrev a_is : UserVal → Reading
a_is v = Usable (assign 0 v)

abbrev Gives : List ℕ → Reading → Type 0
Gives line r = HasReading tree (codes "CONFIG_") line r

-- a text of ASCII characters is UTF-8
is_text : (bs : List ℕ) → list_all is_ascii bs ≡ true → IsAscii bs
is_text [] h = IsAscii-nil
is_text (b ∷ bs) h =
    let parts = and_parts (is_ascii b) (list_all is_ascii bs) h in
    IsAscii-cons b bs (ltb-true b 128 parts.0) (is_text bs parts.1)

-- the reading of a line, where it is UTF-8 or not
abbrev reading_where : Bool → List ℕ → List ℕ → Reading
reading_where text prefix line = form_reading tree (if text then text_form prefix (trimmed line) else form.Malformed)

read_as : (prefix line : List ℕ) (r : Reading) → list_all is_ascii (trimmed line) ≡ true → reading_where true prefix line ≡ r → HasReading tree prefix line r
read_as prefix line r ascii e =
    let text : is_utf8 (trimmed line) ≡ true = is_utf8-from_IsUtf8 (trimmed line) (IsUtf8-from_ascii (trimmed line) (is_text (trimmed line) ascii)) in
    subst (HasReading tree prefix line) (ap (λ b. reading_where b prefix line) text ∙ e) (reading_has tree prefix line)

gives : (line : List ℕ) (r : Reading) → list_all is_ascii (trimmed line) ≡ true → reading_where true (codes "CONFIG_") line ≡ r → Gives line r
gives line r ascii e = read_as (codes "CONFIG_") line r ascii e

-- a line that is malformed as a text is so in any case
malformed : (line : List ℕ) → reading_where true (codes "CONFIG_") line ≡ Warned Malformed → Gives line (Warned Malformed)
malformed line e = subst (Gives line) (either (is_utf8 (trimmed line))) (reading_has tree (codes "CONFIG_") line)
  where
    either : (b : Bool) → reading_where b (codes "CONFIG_") line ≡ Warned Malformed
    either true = e
    either false = refl

-- ---- names
pub value_of_a_bool : Gives (codes "CONFIG_A=y") (a_is (TriVal Yes))
value_of_a_bool = gives (codes "CONFIG_A=y") (a_is (TriVal Yes)) refl refl

pub trailing_blanks : Gives (codes "CONFIG_A=y" ++ 32 ∷ 9 ∷ 13 ∷ []) (a_is (TriVal Yes))
trailing_blanks = gives (codes "CONFIG_A=y" ++ 32 ∷ 9 ∷ 13 ∷ []) (a_is (TriVal Yes)) refl refl

pub not_set : Gives (codes "# CONFIG_A is not set") (a_is (TriVal No))
not_set = gives (codes "# CONFIG_A is not set") (a_is (TriVal No)) refl refl

pub not_set_with_a_word_more : Gives (codes "# CONFIG_A is not set yet") Nothing
not_set_with_a_word_more = gives (codes "# CONFIG_A is not set yet") Nothing refl refl

pub not_set_without_a_blank : Gives (codes "#CONFIG_A is not set") Nothing
not_set_without_a_blank = gives (codes "#CONFIG_A is not set") Nothing refl refl

pub not_set_of_no_name : Gives (codes "# CONFIG_A-B is not set") Nothing
not_set_of_no_name = gives (codes "# CONFIG_A-B is not set") Nothing refl refl

pub empty_line : Gives [] Nothing
empty_line = gives [] Nothing refl refl

pub blanks_around_the_sign : Gives (codes "CONFIG_A = y") (Warned Malformed)
blanks_around_the_sign = gives (codes "CONFIG_A = y") (Warned Malformed) refl refl

pub blank_before_the_name : Gives (codes " CONFIG_A=y") (Warned Malformed)
blank_before_the_name = gives (codes " CONFIG_A=y") (Warned Malformed) refl refl

pub value_of_no_name : Gives (codes "CONFIG_A-B=y") (Warned Malformed)
value_of_no_name = gives (codes "CONFIG_A-B=y") (Warned Malformed) refl refl

pub value_of_an_empty_name : Gives (codes "CONFIG_=y") (Warned Malformed)
value_of_an_empty_name = gives (codes "CONFIG_=y") (Warned Malformed) refl refl

-- a byte order mark is UTF-8, and begins no line
pub byte_order_mark : Gives (239 ∷ 187 ∷ 191 ∷ codes "CONFIG_A=y") (Warned Malformed)
byte_order_mark = malformed (239 ∷ 187 ∷ 191 ∷ codes "CONFIG_A=y") refl

pub undefined_with_a_value : Gives (codes "CONFIG_U=y") (Warned UndefinedSymbol)
undefined_with_a_value = gives (codes "CONFIG_U=y") (Warned UndefinedSymbol) refl refl

pub undefined_that_is_not_set : Gives (codes "# CONFIG_U is not set") (Warned UndefinedSymbol)
undefined_that_is_not_set = gives (codes "# CONFIG_U is not set") (Warned UndefinedSymbol) refl refl

-- ---- values
pub m_of_a_bool : Gives (codes "CONFIG_A=m") (Warned BadValue)
m_of_a_bool = gives (codes "CONFIG_A=m") (Warned BadValue) refl refl

pub m_of_a_tristate : Gives (codes "CONFIG_T=m") (Usable (assign 1 (TriVal Module)))
m_of_a_tristate = gives (codes "CONFIG_T=m") (Usable (assign 1 (TriVal Module))) refl refl

pub int_as_spelt : Gives (codes "CONFIG_N=007") (Usable (assign 2 (Text (codes "007"))))
int_as_spelt = gives (codes "CONFIG_N=007") (Usable (assign 2 (Text (codes "007")))) refl refl

pub empty_int : Gives (codes "CONFIG_N=") (Warned BadValue)
empty_int = gives (codes "CONFIG_N=") (Warned BadValue) refl refl

pub hex_without_sign : Gives (codes "CONFIG_H=ff") (Usable (assign 3 (Text (codes "ff"))))
hex_without_sign = gives (codes "CONFIG_H=ff") (Usable (assign 3 (Text (codes "ff")))) refl refl

pub hex_without_digits : Gives (codes "CONFIG_H=0x") (Warned BadValue)
hex_without_digits = gives (codes "CONFIG_H=0x") (Warned BadValue) refl refl

pub string_with_a_tail : Gives (codes "CONFIG_S=\"a\\\"b\\\\c\" tail") (Usable (assign 4 (Text (codes "a\"b\\c"))))
string_with_a_tail = gives (codes "CONFIG_S=\"a\\\"b\\\\c\" tail") (Usable (assign 4 (Text (codes "a\"b\\c")))) refl refl

pub string_left_open : Gives (codes "CONFIG_S=\"ab") (Warned BadString)
string_left_open = gives (codes "CONFIG_S=\"ab") (Warned BadString) refl refl

pub string_without_quotes : Gives (codes "CONFIG_S=a") (Warned BadString)
string_without_quotes = gives (codes "CONFIG_S=a") (Warned BadString) refl refl

pub string_that_is_not_set : Gives (codes "# CONFIG_S is not set") (Warned BadValue)
string_that_is_not_set = gives (codes "# CONFIG_S is not set") (Warned BadValue) refl refl

-- ---- another prefix
pub name_without_prefix : HasReading tree [] (codes "A=y") (a_is (TriVal Yes))
name_without_prefix = read_as [] (codes "A=y") (a_is (TriVal Yes)) refl refl

pub prefix_in_the_name : HasReading tree [] (codes "CONFIG_A=y") (Warned UndefinedSymbol)
prefix_in_the_name = read_as [] (codes "CONFIG_A=y") (Warned UndefinedSymbol) refl refl

pub sentence_without_prefix : HasReading tree [] (codes "# It is not set") (Warned UndefinedSymbol)
sentence_without_prefix = read_as [] (codes "# It is not set") (Warned UndefinedSymbol) refl refl

-- ---- a text
abbrev warning : ℕ → WarningKind → Warning
warning number k = record { line = number; kind = k }

-- the first line is not usable, so the third repeats none
pub last_usable_line_counts : IsConfigReading tree (codes "CONFIG_") (codes "CONFIG_A=m\nCONFIG_U=y\nCONFIG_A=y\n# CONFIG_A is not set\n")
    (assign 0 (TriVal No) ∷ [])
    (warning 1 BadValue ∷ warning 2 UndefinedSymbol ∷ warning 4 Repeated ∷ [])
last_usable_line_counts = record {
  readings = Warned BadValue ∷ Warned UndefinedSymbol ∷ a_is (TriVal Yes) ∷ a_is (TriVal No) ∷ [];
  read = (m_of_a_bool, (undefined_with_a_value, (value_of_a_bool, (not_set, tt))));
  counted = refl;
  warned = refl;
}
