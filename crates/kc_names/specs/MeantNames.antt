-- What a name that no symbol has may have been meant as, where a user wrote it: this project's own, by docs/ERRORS.md,
-- "Findings of `check`".
use Rattle.std.specs.Prelude.{◌≡◌, List, ℕ, Option, None, Some}
use Rattle.kc_names.specs.BareNames.{bare_name}
use Rattle.kc_names.specs.NameEnds.{IsEnding, IsOnly}
use Rattle.kc_names.specs.NearName.{IsNearest}

-- what is near a name, and else the one name that ends in `_` and it
abbrev pub IsNearOrEnding : List (List ℕ) → List ℕ → Option (List ℕ) → Option (List ℕ) → Type 0
IsNearOrEnding names name (Some near) found = found ≡ Some near
IsNearOrEnding names name None found = IsOnly (IsEnding names name) found

-- of many names the one that is meant: the name is read without the prefix. The first that differs in small and capital
-- letters alone is the nearest
abbrev pub IsMeantName : List (List ℕ) → List ℕ → List ℕ → Option (List ℕ) → Type 0
IsMeantName names prefix name found =
    (near : Option (List ℕ)) × IsNearest names None (bare_name prefix name) near × IsNearOrEnding names (bare_name prefix name) near found
