-- Values that no user values give: this project's own.
use Rattle.std.specs.Prelude.{◌<◌, ℕ, List, length, slice_index_or}
use Rattle.kc_outline.specs.TreeValue.{TreeValue}
use Rattle.kc_value.specs.Solution.{solution}
use Rattle.kc_value.specs.UserValues.{IsUserFor, UserValues}
use Rattle.kc_files.specs.Effects.{HasEffect}
use Rattle.kc_files.specs.declared.assign.Assign.{Assign}

-- no user values give the symbol the value that it is assigned
abbrev pub IsNever : TreeValue → Assign → Type 0
IsNever t x = (w : UserValues) → IsUserFor t w → HasEffect (solution t w) x → ⊥

-- that is so of the wanted value of an index
abbrev pub IsImpossible : TreeValue → List Assign → ℕ → Type 0
IsImpossible t wanted i = (i < length wanted) × ((d : Assign) → IsNever t (slice_index_or wanted i d))
