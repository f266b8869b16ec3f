-- Backslashes that are dropped from a text in quotes: this project's own, by docs/ERRORS.md, "Findings of `check`".
use Rattle.std.specs.Prelude.{◌≡◌, ℕ, ◌+◌, ◌==◌, Bool, true, false, List, [], ◌∷◌, ◌++◌, Option, Some, None, if◌then◌else◌, length, option_map}
use Rattle.kc_files.specs.Quoting.{escaped, is_special}

-- After an opening quote, the byte at this place loses the backslash before it: it is neither `"` nor a backslash itself,
-- and all bytes before that backslash are as kconf writes a text.
abbrev pub LosesAt : List ℕ → ℕ → Type 0
LosesAt raw place =
    (text : List ℕ) × (b : ℕ) × (rest : List ℕ) × (is_special b ≡ false) × (raw ≡ escaped text ++ (92 ∷ b ∷ rest)) × (place ≡ length (escaped text) + 1)

-- the place in the bytes that are left, by whether a backslash is before them; none where the text in quotes ends before
abbrev pub lost_from : Bool → List ℕ → Option ℕ
lost_from escape [] = None
lost_from true (b ∷ bs) = if is_special b then option_map (λ n. n + 1) (lost_from false bs) else Some 0
lost_from false (b ∷ bs) = if b == 34 then None else option_map (λ n. n + 1) (lost_from (b == 92) bs)
