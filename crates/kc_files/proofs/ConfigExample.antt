-- Worked examples of the text of a `.config`, computed from the definition.
use Rattle.std.proofs.Common.{◌≡◌, ℕ, Bool, zero, suc, List, [], ◌∷◌, true, false, None, refl}
use Rattle.std.specs.Prelude.{codes}
use Rattle.kc_statement.specs.declared.tri.Tri.TheVariants.{No, Yes}
use Rattle.kc_tree.specs.declared.node.Node.TheVariants.{Vis, Val, Mode, Sel}
use Rattle.kc_statement.specs.declared.id.SymId.{SymId}
use Rattle.kc_outline.specs.declared.id.BlockId.{BlockId}
use Rattle.kc_outline.specs.declared.id.CommentId.{CommentId}
use Rattle.kc_outline.specs.declared.block.BlockKind.TheVariants.{Menu as MenuBlock}
use Rattle.kc_outline.specs.declared.entry.Entry.{Entry}
use Rattle.kc_outline.specs.declared.entry.Entry.TheVariants.{Symbol, Again, Menu, EndMenu, Comment}
use Rattle.kc_statement.specs.declared.symbol_type.SymbolType.TheVariants.{Bool as BoolType, String, Int, Hex}
use Rattle.kc_tree.specs.declared.user_value.UserVal.TheVariants.{Tri as TriVal, Text}
use Rattle.kc_outline.specs.TreeValue.{TreeValue, SymbolValue, BlockValue, CommentValue}
use Rattle.kc_value.specs.declared.value.Value.{Value}
use Rattle.kc_value.specs.declared.value.Value.TheVariants.{Tri as Level, Shown, Member}
use Rattle.kc_value.specs.Assignment.{Assignment}
use Rattle.kc_files.specs.ConfigText.{symbol_line, config_text_of}

abbrev plain : SymbolValue
plain = record { types = []; choice = None; definitions = []; selected = []; implied = []; has_selections = false; has_modules = false; is_yes_in_allnoconfig = false }

-- a menu with the title M and a comment with the title C, both without conditions
abbrev block : BlockValue
block = record { kind = MenuBlock (codes "M"); parent = None; depends = []; visible = [] }

abbrev remark : CommentValue
remark = record { title = codes "C"; block = None; choice = None; depends = [] }

-- two symbols, A and B, with such a menu and such a comment
abbrev tree_of : List Entry → TreeValue
tree_of entries = record {
  names = codes "A" ∷ codes "B" ∷ [];
  symbols = plain ∷ plain ∷ [];
  definitions = [];
  blocks = block ∷ [];
  choices = [];
  comments = remark ∷ [];
  entries = entries;
}

abbrev a_symbol : SymId
a_symbol = record { 0 = 0 }

abbrev b_symbol : SymId
b_symbol = record { 0 = 1 }

abbrev menu : BlockId
menu = record { 0 = 0 }

abbrev comment : CommentId
comment = record { 0 = 0 }

abbrev by_number : Bool → ℕ → Value
by_number b_written zero = Shown (TriVal No) true
by_number b_written (suc k) = Shown (TriVal Yes) b_written

-- A is n and written, B is y
abbrev values : Bool → Assignment
values b_written (Vis s) = Level Yes
values b_written (Val s) = by_number b_written s.0
values b_written (Mode c) = Level No
values b_written (Sel c) = Member None

abbrev text_of : Bool → List Entry → List ℕ
text_of b_written entries = config_text_of (tree_of entries) (codes "CONFIG_") [] (values b_written)

pub n_is_a_comment : text_of false (Symbol a_symbol ∷ Symbol b_symbol ∷ []) ≡ codes "# CONFIG_A is not set\n"
n_is_a_comment = refl

pub empty_line_behind_a_menu : text_of true (Menu menu ∷ Symbol a_symbol ∷ EndMenu menu ∷ Symbol b_symbol ∷ [])
    ≡ codes "\n#\n# M\n#\n# CONFIG_A is not set\n# end of M\n\nCONFIG_B=y\n"
empty_line_behind_a_menu = refl

-- an entry that gives no piece does not come between the end line and the symbol line
pub second_definition_between : text_of true (Menu menu ∷ Symbol a_symbol ∷ EndMenu menu ∷ Again a_symbol ∷ Symbol b_symbol ∷ [])
    ≡ codes "\n#\n# M\n#\n# CONFIG_A is not set\n# end of M\n\nCONFIG_B=y\n"
second_definition_between = refl

pub empty_menu_has_no_end_line : text_of true (Symbol a_symbol ∷ Menu menu ∷ EndMenu menu ∷ Symbol b_symbol ∷ [])
    ≡ codes "# CONFIG_A is not set\n\n#\n# M\n#\nCONFIG_B=y\n"
empty_menu_has_no_end_line = refl

pub menu_of_unwritten_symbols_has_one : text_of false (Menu menu ∷ Symbol b_symbol ∷ EndMenu menu ∷ []) ≡ codes "\n#\n# M\n#\n# end of M\n"
menu_of_unwritten_symbols_has_one = refl

pub comment_has_a_title : text_of true (Symbol a_symbol ∷ Comment comment ∷ Symbol b_symbol ∷ []) ≡ codes "# CONFIG_A is not set\n\n#\n# C\n#\nCONFIG_B=y\n"
comment_has_a_title = refl

-- a string stands in quotes, with a backslash before each `"` and each backslash; a number stands as it is spelt
pub string_in_quotes : symbol_line (codes "CONFIG_") (codes "S") String (Text (codes "a\"b\\c")) ≡ codes "CONFIG_S=\"a\\\"b\\\\c\"\n"
string_in_quotes = refl

pub empty_string : symbol_line (codes "CONFIG_") (codes "S") String (Text []) ≡ codes "CONFIG_S=\"\"\n"
empty_string = refl

pub int_as_spelt : symbol_line (codes "CONFIG_") (codes "I") Int (Text (codes "007")) ≡ codes "CONFIG_I=007\n"
int_as_spelt = refl

pub hex_as_spelt : symbol_line (codes "CONFIG_") (codes "H") Hex (Text (codes "0x1F")) ≡ codes "CONFIG_H=0x1F\n"
hex_as_spelt = refl

pub n_of_a_bool : symbol_line (codes "CONFIG_") (codes "B") BoolType (TriVal No) ≡ codes "# CONFIG_B is not set\n"
n_of_a_bool = refl
