use Rattle.std.proofs.Common.{ℕ, ◌<◌, ◌≤◌, get_or}
use Rattle.std.specs.Option.{option_copied}
use Rattle.kc_text.specs.LineReferences.{lent_names}
use Rattle.kc_names.specs.NameEnds.{IsOtherAt}
use Rattle.kc_names.specs.declared.name_forms.Kept.{Kept}
use Rattle.kc_names.proofs.name_ends.other_among.Given as goal

-- no name so far ends so
abbrev pub invariant-loop-place : goal.invariant-loop-place
invariant-loop-place l =
    (k : ℕ) (d : Kept) → l.first ≤ k → k < l.place → IsOtherAt (lent_names l.names) (option_copied l.excepted) l.name (get_or l.kept k d).name → ⊥
