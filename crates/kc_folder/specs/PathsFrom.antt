-- This project's own: what `-C FOLDER` makes of paths.
use Rattle.std.specs.Prelude.{ℕ, Bool, true, List, [], ◌∷◌, ◌++◌, length, ◌-◌, ◌||◌, ◌==◌, if◌then◌else◌, codes}
use Rattle.std.specs.List.{slice_index}

-- a path that is empty is no file's, one that begins with `/` is taken from no folder, and an empty base is the working
-- folder
abbrev pub is_free : List ℕ → Bool
is_free [] = true
is_free (b ∷ bs) = b == 47

abbrev pub is_taken_as_it_is : List ℕ → List ℕ → Bool
is_taken_as_it_is base path = length base == 0 || is_free path

-- the base ends with `/`
abbrev pub ends_with_slash : List ℕ → Bool
ends_with_slash base = slice_index base (length base - 1) == 47

abbrev pub joined : List ℕ → List ℕ → List ℕ
joined base path = if ends_with_slash base then base ++ path else base ++ (codes "/" ++ path)
