use Rattle.std.proofs.Common.{◌≡◌, ◌<◌, ℕ, List, ◌∷◌, ◌++◌, length}
use Rattle.kc_names.specs.NameForms.{IsKept, KeepsMore, lowered}
use Rattle.kc_names.proofs.name_ends.push_ends.Given as goal

-- what comes after each `_` so far is kept
abbrev pub invariant-loop-place : goal.invariant-loop-place
invariant-loop-place l = record {
  more : KeepsMore l.initial.kept.items l.kept.items;
  ends : (before rest : List ℕ) → l.name ≡ before ++ 95 ∷ rest → length before < l.place → IsKept l.kept.items (lowered rest) l.number;
}
