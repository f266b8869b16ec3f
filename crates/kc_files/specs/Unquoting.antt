-- Texts in quotes at the beginning of a value: this project's own, after the strings of the kernel's
-- scripts/kconfig/confdata.c.
use Rattle.std.specs.Prelude.{◌≡◌, ◌⊎◌, ℕ, false, List, [], ◌∷◌, ◌++◌, codes}
use Rattle.kc_files.specs.Quoting.{is_special}

-- these bytes spell a text: each byte other than `"` and the backslash itself, and a backslash with any byte that byte
abbrev pub Spells : List ℕ → List ℕ → Type 0
Spells raw [] = raw ≡ []
Spells raw (b ∷ text) =
    (rest : List ℕ) × Spells rest text × (((is_special b ≡ false) × (raw ≡ b ∷ rest)) ⊎ (raw ≡ 92 ∷ b ∷ rest))

-- a value is a text in quotes; what follows the closing one is ignored
abbrev pub IsQuoted : List ℕ → List ℕ → Type 0
IsQuoted value text =
    (raw : List ℕ) × (tail : List ℕ) × Spells raw text × (value ≡ codes "\"" ++ (raw ++ (codes "\"" ++ tail)))
