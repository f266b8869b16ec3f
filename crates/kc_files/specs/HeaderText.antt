-- The text of the C header: `conf_write_autoconf` of the kernel's scripts/kconfig/confdata.c and `write_autoconf` of
-- Kconfiglib.
use Rattle.std.specs.Prelude.{ℕ, ◌==◌, Bool, false, ◌&&◌, ◌||◌, List, [], ◌++◌, length, slice_index_or, codes, if◌then◌else◌}
use Rattle.std.specs.List.{flat_map}
use Rattle.std.specs.Option.{option_map_or}
use Rattle.kc_statement.specs.declared.tri.Tri.{Tri}
use Rattle.kc_statement.specs.declared.tri.Tri.TheVariants.{No, Module, Yes}
use Rattle.kc_statement.specs.declared.id.SymId.{SymId}
use Rattle.kc_statement.specs.declared.symbol_type.SymbolType.{SymbolType}
use Rattle.kc_statement.specs.declared.symbol_type.SymbolType.TheVariants as kind
use Rattle.kc_outline.specs.declared.entry.Entry.{Entry}
use Rattle.kc_outline.specs.declared.entry.Entry.TheVariants.{Symbol}
use Rattle.kc_outline.specs.TreeValue.{TreeValue, name_of}
use Rattle.kc_tree.specs.declared.user_value.UserVal.{UserVal}
use Rattle.kc_tree.specs.declared.user_value.UserVal.TheVariants.{Tri as TriVal, Text}
use Rattle.kc_value.specs.Assignment.{Assignment}
use Rattle.kc_files.specs.Quoting.{quoted}
use Rattle.kc_tree.specs.Fits.{type_of}
use Rattle.kc_files.specs.ConfigText.{written_value}

-- ---- macros
-- the macro of a name, with what follows the name
abbrev pub macro_line : List ℕ → List ℕ → List ℕ → List ℕ
macro_line prefix name body = codes "#define " ++ prefix ++ name ++ body ++ codes "\n"

-- y is 1, m is 1 of a name of its own, and n has no macro
abbrev pub tri_macro : List ℕ → List ℕ → Tri → List ℕ
tri_macro prefix name No = []
tri_macro prefix name Module = macro_line prefix name (codes "_MODULE 1")
tri_macro prefix name Yes = macro_line prefix name (codes " 1")

-- whether a hex number is spelt as C spells it: it begins with `0x` or `0X`
abbrev pub has_hex_sign : List ℕ → Bool
has_hex_sign w = slice_index_or w 0 0 == 48 && (slice_index_or w 1 0 == 120 || slice_index_or w 1 0 == 88)

abbrev pub missing_hex_sign : List ℕ → List ℕ
missing_hex_sign w = if has_hex_sign w then [] else codes "0x"

-- a string stands in quotes, a hex number has its sign, an int is as it is spelt
abbrev pub text_in_c : SymbolType → List ℕ → List ℕ
text_in_c kind.String w = quoted w
text_in_c kind.Hex w = missing_hex_sign w ++ w
text_in_c _ w = w

-- an int or a hex may be empty, and has no macro then
abbrev pub has_no_macro : SymbolType → List ℕ → Bool
has_no_macro kind.String w = false
has_no_macro _ w = length w == 0

abbrev pub text_macro : List ℕ → List ℕ → SymbolType → List ℕ → List ℕ
text_macro prefix name k w =
    if has_no_macro k w then [] else macro_line prefix name (codes " " ++ text_in_c k w)

abbrev pub symbol_macro : List ℕ → List ℕ → SymbolType → UserVal → List ℕ
symbol_macro prefix name k (TriVal v) = tri_macro prefix name v
symbol_macro prefix name k (Text w) = text_macro prefix name k w

-- ---- the text
-- a symbol that is written has its macro at its first definition
abbrev pub macro_of : TreeValue → List ℕ → Assignment → SymId → List ℕ
macro_of t prefix a s =
    option_map_or (symbol_macro prefix (name_of t s) (type_of t s)) (written_value a s) []

abbrev pub entry_macro : TreeValue → List ℕ → Assignment → Entry → List ℕ
entry_macro t prefix a (Symbol s) = macro_of t prefix a s
entry_macro t prefix a _ = []

-- the macros of the entries, in their order
abbrev pub header_text_of : TreeValue → List ℕ → Assignment → List ℕ
header_text_of t prefix a = flat_map (entry_macro t prefix a) t.entries
