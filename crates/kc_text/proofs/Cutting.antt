-- What `split_once` gives at an ASCII character, by bytes.
use Rattle.std.proofs.Common.{◌≡◌, ◌==◌, ℕ, ◌<◌, List, Option, Some, None, Bor, length, subst}
use Rattle.std.specs.List.{position_or_len, before_first, after_first}
use Rattle.std.specs.Str.Pattern.{SplitsAtFirstByte, FindsChar}

module _ (c : ℕ) (bs : List ℕ) (r : Option (Bor (List ℕ) × Bor (List ℕ))) (low : c < 128) (cut : SplitsAtFirstByte (FindsChar c) (Some c) bs r) where
  -- the parts stand round the first such byte
  pub parts_at : (front back : Bor (List ℕ)) → r ≡ Some (front, back)
      → (front.now ≡ before_first (λ b. b == c) bs) × (back.now ≡ after_first (λ b. b == c) bs) × (position_or_len (λ b. b == c) bs < length bs)
  parts_at front back is = subst (SplitsAtFirstByte (FindsChar c) (Some c) bs) is cut low (λ w o found. found)

  -- there is no such byte
  pub not_cut : r ≡ None → position_or_len (λ b. b == c) bs ≡ length bs
  not_cut is = subst (SplitsAtFirstByte (FindsChar c) (Some c) bs) is cut low (λ w o found. found)
