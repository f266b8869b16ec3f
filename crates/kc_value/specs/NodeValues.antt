-- The values of nodes by number, as they are kept: this project's own.
use Rattle.std.specs.Prelude.{ℕ, suc, true, false, List, [], ◌∷◌, Option, Some, None}
use Rattle.kc_tree.specs.declared.user_value.UserVal.TheVariants.{Tri as TriVal}
use Rattle.kc_value.specs.declared.summary.Summary.{Summary}
use Rattle.kc_value.specs.declared.summary.Summary.TheVariants.{Absent, Level, Unwritten, Written, Stored}
use Rattle.kc_value.specs.declared.value.Value.{Value}
use Rattle.kc_value.specs.declared.value.Value.TheVariants.{Tri as OfTri, Shown}

-- a value or none for each node, by number, and after these for each condition
abbrev pub Slots : Type 0
Slots = List (Option Value)

-- the value of a place: what is said of it, or what is stored of it
abbrev pub seen : Summary → Option Value → Option Value
seen Absent o = None
seen (Level v) o = Some (OfTri v)
seen (Unwritten v) o = Some (Shown (TriVal v) false)
seen (Written v) o = Some (Shown (TriVal v) true)
seen Stored o = o

-- and of each place, by number
unfoldable pub held : List Summary → (ℕ → Option Value) → List (Option Value)
held [] stored = []
held (s ∷ ss) stored = seen s (stored 0) ∷ held ss (λ k. stored (suc k))
