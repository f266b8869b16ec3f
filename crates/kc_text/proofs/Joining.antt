-- Lines that are joined.
use Rattle.std.proofs.Common.{◌≡◌, ◌∙◌, suc, ◌-◌, true, false, if◌then◌else◌, List, ℕ, [], ◌∷◌, ◌++◌, length, take, refl, ap, sym}
use Rattle.kc_text.specs.Items.{before_backslash, ends_in_backslash, joined, joined_more}

-- a line that ends in a backslash, and those behind it
module _ (l : List ℕ) (ends : ends_in_backslash l ≡ true) where
  pub joined-on : (ls : List (List ℕ)) → joined (l ∷ ls) ≡ before_backslash l ++ joined ls
  joined-on ls =
      ap (λ b. if b then take (length l - 1) l ++ joined ls else l) ends
      ∙ ap (λ front. front ++ joined ls) (sym (ap (λ b. if b then take (length l - 1) l else l) ends))

  pub joined_more-on : (k : List ℕ) (ls : List (List ℕ)) → joined_more (l ∷ k ∷ ls) ≡ suc (joined_more (k ∷ ls))
  joined_more-on k ls = ap (λ b. if b then suc (joined_more (k ∷ ls)) else 0) ends

-- another line is joined to none
pub joined_more-off : (l : List ℕ) (ls : List (List ℕ)) → ends_in_backslash l ≡ false → joined_more (l ∷ ls) ≡ 0
joined_more-off l [] ends = refl
joined_more-off l (k ∷ ls) ends = ap (λ b. if b then suc (joined_more (k ∷ ls)) else 0) ends

-- nor is the last line
pub joined_more-last : (l : List ℕ) (ls : List (List ℕ)) → ls ≡ [] → joined_more (l ∷ ls) ≡ 0
joined_more-last l ls none = ap (λ more. joined_more (l ∷ more)) none
