-- A draft has the text of its pieces.
use Rattle.std.proofs.Common.{◌≡◌, ℕ, false, List, [], ◌∷◌, ◌++◌, Option, Some, None, filter_map, refl, sym, ap, ◌∙◌, subst, append_assoc}
use Rattle.std.specs.List.{cons_option}
use Rattle.std.proofs.lemmas.List.{append-nil}
use Rattle.kc_outline.specs.Entries.{AreMenusClosed}
use Rattle.kc_outline.specs.TreeValue.{TreeValue}
use Rattle.kc_value.specs.declared.value.Value.{Value}
use Rattle.kc_value.specs.Assignment.{Assignment}
use Rattle.kc_value.specs.Known.{KnownValue}
use Rattle.kc_files.specs.ConfigText.{Piece, line_of_symbol, title_of, end_of, piece_bytes, gap, joined, piece_of, config_text_of}
use Rattle.kc_files.specs.DraftValue.{DraftValue, Agrees, bytes_of_pieces, gap_before, is_end, pieces_after, with_option}
use Rattle.kc_files.proofs.MenuPieces.{pieces_of_entries}

-- a piece that an entry gives, or none, and those after it
pub piece_then_rest : (d e : DraftValue) (o : Option Piece) (ps : List Piece) → e ≡ with_option d o
    → e.bytes ++ bytes_of_pieces e.after_end ps ≡ d.bytes ++ bytes_of_pieces d.after_end (cons_option o ps)
piece_then_rest d e None ps is = ap (λ (x : DraftValue). x.bytes ++ bytes_of_pieces x.after_end ps) is
piece_then_rest d e (Some p) ps is =
    let between = gap_before d.after_end p in
    let later = bytes_of_pieces (is_end p) ps in
    ap (λ (x : DraftValue). x.bytes ++ bytes_of_pieces x.after_end ps) is
    ∙ append_assoc (d.bytes ++ between) (piece_bytes p) later
    ∙ append_assoc d.bytes between (piece_bytes p ++ later)
    ∙ ap (λ x. d.bytes ++ x) (sym (append_assoc between (piece_bytes p) later))

gap_same : (p q : Piece) → gap p q ≡ gap_before (is_end p) q
gap_same (line_of_symbol bs) (line_of_symbol cs) = refl
gap_same (line_of_symbol bs) (title_of cs) = refl
gap_same (line_of_symbol bs) (end_of cs) = refl
gap_same (title_of bs) (line_of_symbol cs) = refl
gap_same (title_of bs) (title_of cs) = refl
gap_same (title_of bs) (end_of cs) = refl
gap_same (end_of bs) (line_of_symbol cs) = refl
gap_same (end_of bs) (title_of cs) = refl
gap_same (end_of bs) (end_of cs) = refl

joined_rest : (p : Piece) (ps : List Piece) → joined (p ∷ ps) ≡ piece_bytes p ++ bytes_of_pieces (is_end p) ps
joined_rest p [] = sym (append-nil (piece_bytes p))
joined_rest p (q ∷ ps) =
    let between = gap_before (is_end p) q in
    let behind = bytes_of_pieces (is_end q) ps in
    ap (λ x. piece_bytes p ++ gap p q ++ x) (joined_rest q ps)
    ∙ ap (λ x. piece_bytes p ++ x ++ (piece_bytes q ++ behind)) (gap_same p q)
    ∙ append_assoc (piece_bytes p) between (piece_bytes q ++ behind)
    ∙ ap (λ x. piece_bytes p ++ x) (sym (append_assoc between (piece_bytes q) behind))

joined_all : (ps : List Piece) → joined ps ≡ bytes_of_pieces false ps
joined_all [] = refl
joined_all (line_of_symbol bs ∷ ps) = joined_rest (line_of_symbol bs) ps
joined_all (title_of bs ∷ ps) = joined_rest (title_of bs) ps
joined_all (end_of bs ∷ ps) = joined_rest (end_of bs) ps

-- what all entries add to a header is the text of the `.config`
pub text_of_pieces : (t : TreeValue) (prefix header : List ℕ) (a : Assignment) → AreMenusClosed t
    → header ++ bytes_of_pieces false (pieces_after t prefix a None t.entries) ≡ config_text_of t prefix header a
text_of_pieces t prefix header a menus =
    ap (λ ps. header ++ bytes_of_pieces false ps) (pieces_of_entries t prefix a menus)
    ∙ ap (λ x. header ++ x) (sym (joined_all (filter_map (piece_of t prefix a) t.entries)))

-- what is known agrees with an assignment with which its values do
pub agrees_as : (t : TreeValue) (values : List (Option Value)) (k : KnownValue) (a : Assignment) → k.tree ≡ t → k.values ≡ values → Agrees t values a → Agrees k.tree k.values a
agrees_as t values k a same_tree same_values agrees = subst (λ (x : TreeValue × List (Option Value)). Agrees x.0 x.1 a) (λ i. (sym same_tree i, sym same_values i)) agrees
