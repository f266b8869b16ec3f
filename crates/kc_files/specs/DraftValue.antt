-- A `.config` while it is written, a piece at a time: this project's own.
use Rattle.std.specs.Prelude.{◌≡◌, ℕ, Bool, true, false, not, ◌&&◌, List, [], ◌∷◌, ◌++◌, Option, Some, None, codes, if◌then◌else◌}
use Rattle.std.specs.List.{cons_option}
use Rattle.kc_statement.specs.Tristate.{is_no}
use Rattle.kc_outline.specs.declared.id.BlockId.{BlockId}
use Rattle.kc_outline.specs.declared.entry.Entry.{Entry}
use Rattle.kc_outline.specs.declared.entry.Entry.TheVariants.{Symbol, Again, Menu, EndMenu, Choice, Comment}
use Rattle.kc_tree.specs.declared.node.Node.{Node}
use Rattle.kc_tree.specs.Nodes.{IsNodeOf}
use Rattle.kc_outline.specs.TreeValue.{TreeValue}
use Rattle.kc_value.specs.declared.value.Value.{Value}
use Rattle.kc_value.specs.Assignment.{Assignment, assignment_of}
use Rattle.kc_value.specs.Conditions.{menu_condition}
use Rattle.kc_files.specs.ConfigText.{Piece, line_of_symbol, title_of, end_of, end_line, menu_title, piece_bytes, piece_if, piece_of, begins_menu}

-- the bytes so far, and whether the last piece is an end line
pub record DraftValue : Type 0 where
  pub bytes : List ℕ
  pub after_end : Bool

-- a text that ends in no end line
abbrev pub draft_of : List ℕ → DraftValue
draft_of bs = record { bytes = bs; after_end = false }

abbrev pub is_end : Piece → Bool
is_end (line_of_symbol bs) = false
is_end (title_of bs) = false
is_end (end_of bs) = true

-- the empty line before a symbol line
abbrev pub gap_before : Bool → Piece → List ℕ
gap_before after_end (line_of_symbol bs) = if after_end then codes "\n" else []
gap_before after_end (title_of bs) = []
gap_before after_end (end_of bs) = []

abbrev pub with_piece : DraftValue → Piece → DraftValue
with_piece d p = record { bytes = d.bytes ++ gap_before d.after_end p ++ piece_bytes p; after_end = is_end p }

-- an entry that gives no piece leaves all as it is
abbrev pub with_option : DraftValue → Option Piece → DraftValue
with_option d None = d
with_option d (Some p) = with_piece d p

-- the bytes that pieces add
abbrev pub bytes_of_pieces : Bool → List Piece → List ℕ
bytes_of_pieces after_end [] = []
bytes_of_pieces after_end (p ∷ ps) = gap_before after_end p ++ piece_bytes p ++ bytes_of_pieces (is_end p) ps

-- ---- a pass over the entries, which looks at the one before
-- the entry before opens the menu: directly before the menu's end it leaves nothing inside
abbrev pub opens_menu : BlockId → Option Entry → Bool
opens_menu b None = false
opens_menu b (Some e) = begins_menu b e

abbrev pub piece_after : TreeValue → List ℕ → Assignment → Option Entry → Entry → Option Piece
piece_after t prefix a before (Symbol s) = piece_of t prefix a (Symbol s)
piece_after t prefix a before (Again s) = None
piece_after t prefix a before (Menu b) = piece_of t prefix a (Menu b)
piece_after t prefix a before (EndMenu b) =
    piece_if (not (is_no (menu_condition t a b)) && not (opens_menu b before)) (end_of (end_line (menu_title t b)))
piece_after t prefix a before (Choice c) = None
piece_after t prefix a before (Comment c) = piece_of t prefix a (Comment c)

-- the pieces of entries in their order, after the entry before them
abbrev pub pieces_after : TreeValue → List ℕ → Assignment → Option Entry → List Entry → List Piece
pieces_after t prefix a before [] = []
pieces_after t prefix a before (e ∷ es) = cons_option (piece_after t prefix a before e) (pieces_after t prefix a (Some e) es)

-- the values by number are those of the assignment, on the nodes of the tree
abbrev pub Agrees : TreeValue → List (Option Value) → Assignment → Type 0
Agrees t values a = (n : Node) → IsNodeOf t n → assignment_of t values n ≡ a n
