-- The text of a list of lines has these lines, and each is UTF-8 where the text is.
use Rattle.std.proofs.Common.{◌≡◌, ℕ, ◌+◌, ◌<◌, false, List, [], ◌∷◌, ◌++◌, length, get_or, refl, ap, subst, ◌∙◌, append_assoc, arith}
use Rattle.std.specs.Prelude.{All}
use Rattle.std.specs.List.{list_any}
use Rattle.std.specs.Str.{IsUtf8}
use Rattle.std.proofs.Math.Seq.{take-append_seam, drop-append-add, get_or-append_seam}
use Rattle.std.proofs.lemmas.List.{length-append}
use Rattle.std.proofs.lemmas.List.Elements.{All-nil, All-cons, All-head, All-tail}
use Rattle.std.proofs.lemmas.Str.{IsUtf8-take, IsUtf8-drop, IsCharBoundary-before_ascii, IsCharBoundary-after_ascii}
use Rattle.kc_files.specs.ConfigLines.{is_feed, lines_in}
use Rattle.kc_files.specs.DefaultLoading.{text_of_lines}
use Rattle.kc_files.proofs.LineCuts.{line_cut}
use Rattle.kc_files.proofs.LineEnds.{feedless}

-- a line, its line feed and the others
text_more : (line : List ℕ) (lines : List (List ℕ)) → text_of_lines (line ∷ lines) ≡ line ++ 10 ∷ text_of_lines lines
text_more line lines = append_assoc line (10 ∷ []) (text_of_lines lines)

pub lines_of_text : (lines : List (List ℕ)) → All (λ line. list_any is_feed line ≡ false) lines → lines_in (text_of_lines lines) ≡ lines
lines_of_text [] h = refl
lines_of_text (line ∷ lines) h =
    let unfed : List ℕ → Type 0 = λ l. list_any is_feed l ≡ false in
    ap lines_in (text_more line lines)
    ∙ line_cut line (text_of_lines lines) (feedless line (All-head unfed line lines h))
    ∙ ap (λ r. line ∷ r) (lines_of_text lines (All-tail unfed line lines h))

-- ---- UTF-8
-- a text may be cut round a line feed
cut_utf8 : (line rest : List ℕ) → IsUtf8 (line ++ 10 ∷ rest) → IsUtf8 line × IsUtf8 rest
cut_utf8 line rest u =
    let text : List ℕ = line ++ 10 ∷ rest in
    let inside : length line < length text = omega (arith, length-append line (10 ∷ rest)) in
    let ascii : get_or text (length line) 0 < 128 = omega (arith, get_or-append_seam line 10 rest 0) in (
      subst IsUtf8 (take-append_seam line (10 ∷ rest)) (IsUtf8-take text (length line) u (IsCharBoundary-before_ascii text (length line) inside ascii)),
      subst IsUtf8 (drop-append-add line (10 ∷ rest) 1) (IsUtf8-drop text (length line + 1) u (IsCharBoundary-after_ascii text (length line) u inside ascii)),
    )

pub lines_utf8 : (lines : List (List ℕ)) → IsUtf8 (text_of_lines lines) → All IsUtf8 lines
lines_utf8 [] u = All-nil IsUtf8
lines_utf8 (line ∷ lines) u =
    let cut = cut_utf8 line (text_of_lines lines) (subst IsUtf8 (text_more line lines) u) in
    All-cons IsUtf8 line lines cut.0 (lines_utf8 lines cut.1)
