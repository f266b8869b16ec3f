-- Names that are not known, each where it is first: this project's own, by docs/ERRORS.md, "Findings of `check`".
use Rattle.std.specs.Prelude.{ℕ, Bool, false, not, ◌&&◌, List, filter, length, slice_get, take}
use Rattle.std.specs.List.{list_any, range_with_len}
use Rattle.std.specs.Option.{option_map_or}
use Rattle.std.specs.Str.{bytes_eq}

abbrev pub is_among : List (List ℕ) → List ℕ → Bool
is_among names name = list_any (λ n. bytes_eq n name) names

-- a name is neither known nor there before its place
abbrev pub is_fresh : List (List ℕ) → List (List ℕ) → ℕ → Bool
is_fresh names known k = option_map_or (λ n. not (is_among known n) && not (is_among (take k names) n)) (slice_get names k) false

abbrev pub fresh_places : List (List ℕ) → List (List ℕ) → List ℕ
fresh_places names known = filter (is_fresh names known) (range_with_len 0 (length names))
