-- A list of places that may be empty.
use Rattle.std.proofs.Common.{◌≡◌, ℕ, List, Option, None, length, get_or, get_or-set_same, slice_set, ap, ◌∙◌, ⊎_elim}
use Rattle.std.proofs.lemmas.Bool.{cases_lt}
use Rattle.std.proofs.lemmas.List.{get_or_past, set_past}

-- a place that was emptied is empty, and one that the list doesn't have
pub none_set : {T : Type 0} (xs : List (Option T)) (i : ℕ) → get_or (slice_set xs i None) i None ≡ None
none_set xs i =
    ⊎_elim (λ h. get_or-set_same xs i None None h)
    (λ h. ap (λ ys. get_or ys i None) (set_past xs i None h) ∙ get_or_past xs i None h)
    (cases_lt i (length xs))
