-- Rows of numbers that are kept one after another in one list: this project's own.
use Rattle.std.specs.Prelude.{◌≡◌, ℕ, ◌<◌, ◌≤◌, List, [], ◌∷◌, length, slice_index, slice_range, sum_by}

-- the rows that end before these places: the first one starts at a place, and each other one where the one before it ends
abbrev pub rows_from : {A : Type 0} → List A → ℕ → List ℕ → List (List A)
rows_from xs start [] = []
rows_from xs start (end ∷ ends) = slice_range xs start end ∷ rows_from xs end ends

-- the rows that end before these places
abbrev pub rows_in : {A : Type 0} → List A → List ℕ → List (List A)
rows_in xs ends = rows_from xs 0 ends

-- how many numbers the rows hold, counting repeats
abbrev pub number_count : List (List ℕ) → ℕ
number_count rows = sum_by (λ row. length row) rows

-- from a start on no row ends before it starts, and the last one ends at a count
pub record AreEnds (start : ℕ) (ends : List ℕ) (count : ℕ) : Type 0 where
  pub ordered : (i : ℕ) → i < length ends → slice_index (start ∷ ends) i ≤ slice_index ends i
  pub last : slice_index (start ∷ ends) (length ends) ≡ count
