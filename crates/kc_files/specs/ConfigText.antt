-- The text of a `.config`: `write_config` of Kconfiglib and `conf_write` of the kernel's
-- scripts/kconfig/confdata.c.
use Rattle.std.specs.Prelude.{ℕ, ◌==◌, Bool, true, false, not, ◌&&◌, List, [], ◌∷◌, ◌++◌, Option, Some, None, option_map, filter_map, slice_get, codes, if◌then◌else◌}
use Rattle.std.specs.Option.{option_map_or}
use Rattle.kc_statement.specs.declared.tri.Tri.{Tri}
use Rattle.kc_statement.specs.declared.tri.Tri.TheVariants.{No, Module, Yes}
use Rattle.kc_statement.specs.declared.id.SymId.{SymId}
use Rattle.kc_outline.specs.declared.id.BlockId.{BlockId}
use Rattle.kc_outline.specs.declared.id.CommentId.{CommentId}
use Rattle.kc_outline.specs.declared.block.BlockKind.{BlockKind}
use Rattle.kc_outline.specs.declared.block.BlockKind.TheVariants as block_kind
use Rattle.kc_tree.specs.declared.node.Node.TheVariants.{Val}
use Rattle.kc_outline.specs.declared.entry.Entry.{Entry}
use Rattle.kc_outline.specs.declared.entry.Entry.TheVariants.{Symbol, Again, Menu, EndMenu, Choice, Comment}
use Rattle.kc_tree.specs.Fits.{type_of}
use Rattle.kc_outline.specs.TreeValue.{TreeValue, name_of}
use Rattle.kc_statement.specs.declared.symbol_type.SymbolType.{SymbolType}
use Rattle.kc_statement.specs.declared.symbol_type.SymbolType.TheVariants as kind
use Rattle.kc_tree.specs.declared.user_value.UserVal.{UserVal}
use Rattle.kc_tree.specs.declared.user_value.UserVal.TheVariants.{Tri as TriVal, Text}
use Rattle.kc_value.specs.declared.value.Value.{Value}
use Rattle.kc_value.specs.declared.value.Value.TheVariants.{Tri as Level, Shown, Member}
use Rattle.kc_statement.specs.Tristate.{is_no}
use Rattle.kc_value.specs.Assignment.{Assignment}
use Rattle.kc_files.specs.Quoting.{quoted}
use Rattle.kc_value.specs.Conditions.{menu_condition, comment_condition}

-- ---- lines of symbols
-- what follows the name: `=y`, `=m`, or that the symbol is not set, and the end of the line
abbrev pub line_end : Tri → List ℕ
line_end No = codes " is not set\n"
line_end Module = codes "=m\n"
line_end Yes = codes "=y\n"

-- the line of an n symbol is a comment
abbrev pub line_start : Tri → List ℕ
line_start No = codes "# "
line_start Module = []
line_start Yes = []

abbrev pub tri_line : List ℕ → List ℕ → Tri → List ℕ
tri_line prefix name v = line_start v ++ prefix ++ name ++ line_end v

-- a string stands in quotes, a number as it is spelt
abbrev pub text_in : SymbolType → List ℕ → List ℕ
text_in kind.String w = quoted w
text_in _ w = w

abbrev pub text_line : List ℕ → List ℕ → SymbolType → List ℕ → List ℕ
text_line prefix name k w = prefix ++ name ++ codes "=" ++ text_in k w ++ codes "\n"

abbrev pub symbol_line : List ℕ → List ℕ → SymbolType → UserVal → List ℕ
symbol_line prefix name k (TriVal v) = tri_line prefix name v
symbol_line prefix name k (Text w) = text_line prefix name k w

-- the value of a symbol that has a line
abbrev pub written_in : Value → Option UserVal
written_in (Level v) = None
written_in (Shown u true) = Some u
written_in (Shown u false) = None
written_in (Member m) = None

abbrev pub written_value : Assignment → SymId → Option UserVal
written_value a s = written_in (a (Val s))

-- ---- titles
-- an empty line, and the title between lines of `#`
abbrev pub title_block : List ℕ → List ℕ
title_block title = codes "\n#\n# " ++ title ++ codes "\n#\n"

abbrev pub end_line : List ℕ → List ℕ
end_line title = codes "# end of " ++ title ++ codes "\n"

abbrev pub menu_title_in : BlockKind → List ℕ
menu_title_in (block_kind.Menu title) = title
menu_title_in block_kind.If = []
menu_title_in block_kind.Choice = []

abbrev pub menu_title : TreeValue → BlockId → List ℕ
menu_title t b = option_map_or (λ x. menu_title_in x.kind) (slice_get t.blocks b.0) []

abbrev pub comment_title : TreeValue → CommentId → List ℕ
comment_title t c = option_map_or (λ x. x.title) (slice_get t.comments c.0) []

-- ---- the pieces of the text
-- a text in the list of pieces, and what it is
pub data Piece : Type 0 where
  line_of_symbol : List ℕ → Piece
  title_of : List ℕ → Piece
  end_of : List ℕ → Piece

abbrev pub piece_bytes : Piece → List ℕ
piece_bytes (line_of_symbol bs) = bs
piece_bytes (title_of bs) = bs
piece_bytes (end_of bs) = bs

-- ---- the entries inside a menu
abbrev pub begins_menu : BlockId → Entry → Bool
begins_menu b (Menu m) = m.0 == b.0
begins_menu b _ = false

abbrev pub ends_menu : BlockId → Entry → Bool
ends_menu b (EndMenu m) = m.0 == b.0
ends_menu b _ = false

-- the entries behind the beginning of a menu
abbrev pub behind_begin : BlockId → List Entry → List Entry
behind_begin b [] = []
behind_begin b (e ∷ es) = if begins_menu b e then es else behind_begin b es

-- the entries before the end of a menu
abbrev pub before_end : BlockId → List Entry → List Entry
before_end b [] = []
before_end b (e ∷ es) = if ends_menu b e then [] else e ∷ before_end b es

-- those between its two ends
abbrev pub inside_menu : List Entry → BlockId → List Entry
inside_menu es b = before_end b (behind_begin b es)

abbrev pub is_empty : List Entry → Bool
is_empty [] = true
is_empty (e ∷ es) = false

-- ---- what entries give
abbrev pub piece_if : Bool → Piece → Option Piece
piece_if shown p = if shown then Some p else None

-- a symbol that is written gives its line at its first definition, a menu or a comment whose condition is not n its
-- title, and such a menu with an entry inside its end line
abbrev pub piece_of : TreeValue → List ℕ → Assignment → Entry → Option Piece
piece_of t prefix a (Symbol s) =
    option_map (λ v. line_of_symbol (symbol_line prefix (name_of t s) (type_of t s) v)) (written_value a s)
piece_of t prefix a (Again s) = None
piece_of t prefix a (Menu b) = piece_if (not (is_no (menu_condition t a b))) (title_of (title_block (menu_title t b)))
piece_of t prefix a (EndMenu b) =
    piece_if (not (is_no (menu_condition t a b)) && not (is_empty (inside_menu t.entries b))) (end_of (end_line (menu_title t b)))
piece_of t prefix a (Choice c) = None
piece_of t prefix a (Comment c) =
    piece_if (not (is_no (comment_condition t a c))) (title_of (title_block (comment_title t c)))

-- ---- the text
-- an empty line stands between an end line and a symbol line that are neighbours
abbrev pub gap : Piece → Piece → List ℕ
gap (end_of bs) (line_of_symbol cs) = codes "\n"
gap _ _ = []

abbrev pub joined : List Piece → List ℕ
joined [] = []
joined (p ∷ []) = piece_bytes p
joined (p ∷ q ∷ ps) = piece_bytes p ++ gap p q ++ joined (q ∷ ps)

-- the header as it was passed in, then the pieces of the entries
abbrev pub config_text_of : TreeValue → List ℕ → List ℕ → Assignment → List ℕ
config_text_of t prefix header a = header ++ joined (filter_map (piece_of t prefix a) t.entries)
