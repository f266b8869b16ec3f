-- The lines of fragments are those of one after the other.
use Rattle.std.proofs.Common.{◌≡◌, ℕ, ◌+◌, ◌<◌, List, [], ◌∷◌, ◌++◌, length, take, get_or, add-one, append-nil, append_assoc, ap, sym, ◌∙◌, arith}
use Rattle.std.specs.Prelude.{All}
use Rattle.std.proofs.Math.Seq.{take-suc}
use Rattle.std.proofs.lemmas.List.{length-take-le}
use Rattle.std.proofs.lemmas.List.Elements.{All-append, All-map}
use Rattle.kc_outline.specs.TreeValue.{TreeValue}
use Rattle.kc_files.specs.declared.numbered_lines.ConfigLine.{ConfigLine}
use Rattle.kc_files.specs.NumberedLines.{config_lines_in, IsLineFor}
use Rattle.kc_files.specs.declared.fragments.FragmentLine.{FragmentLine}
use Rattle.kc_files.specs.declared.input.Input.{Input}
use Rattle.kc_files.specs.Outcomes.{fragment_lines, fragment_lines_from, placed, IsPlacedFor}

from_first : (n i : ℕ) → n ≡ i → 0 + n ≡ i
from_first n i is = omega (arith, is)

module _ (t : TreeValue) (prefix : List ℕ) where
  abbrev lines_of : Input → List ConfigLine
  lines_of f = config_lines_in t prefix f.bytes.now

  -- one more fragment at the end
  one_more : (first : ℕ) (fs : List Input) (f : Input)
      → fragment_lines_from t prefix first (fs ++ f ∷ []) ≡ fragment_lines_from t prefix first fs ++ placed (first + length fs) (lines_of f)
  one_more first [] f = append-nil (placed first (lines_of f)) ∙ ap (λ n. placed n (lines_of f)) (omega arith)
  one_more first (g ∷ fs) f =
      ap (λ r. placed first (lines_of g) ++ r) (one_more (first + 1) fs f)
      ∙ sym (append_assoc (placed first (lines_of g)) (fragment_lines_from t prefix (first + 1) fs) (placed (first + 1 + length fs) (lines_of f)))
      ∙ ap (λ n. (placed first (lines_of g) ++ fragment_lines_from t prefix (first + 1) fs) ++ placed n (lines_of f)) (omega arith)

  pub fragments_step : (fs : List Input) (i : ℕ) (d : Input) → i < length fs →
      fragment_lines t prefix (take (i + 1) fs) ≡ fragment_lines t prefix (take i fs) ++ placed i (config_lines_in t prefix (get_or fs i d).bytes.now)
  fragments_step fs i d inside =
      ap (λ n. fragment_lines t prefix (take n fs)) (add-one i)
      ∙ ap (fragment_lines t prefix) (take-suc fs i d inside)
      ∙ one_more 0 (take i fs) (get_or fs i d)
      ∙ ap (λ n. fragment_lines t prefix (take i fs) ++ placed n (lines_of (get_or fs i d))) (from_first (length (take i fs)) i (length-take-le i fs (omega (arith, inside))))

pub lines_fit : (t : TreeValue) (f : ℕ) (xs : List FragmentLine) (ys : List ConfigLine) → All (IsPlacedFor t) xs → All (IsLineFor t) ys → All (IsPlacedFor t) (xs ++ placed f ys)
lines_fit t f xs ys before after =
    All-append (IsPlacedFor t) xs (placed f ys) before (All-map (IsPlacedFor t) (λ line. record { fragment = f; line = line }) ys after)
