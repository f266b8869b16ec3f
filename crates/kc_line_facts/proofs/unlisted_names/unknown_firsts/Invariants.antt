use Rattle.std.proofs.Common.{◌≡◌, ℕ, take}
use Rattle.std.specs.BTreeSet.{contains}
use Rattle.std.specs.Ordering.{nat_cmp}
use Rattle.kc_line_facts.specs.ListedNames.{is_unknown_first}
use Rattle.kc_line_facts.proofs.unlisted_names.unknown_firsts.Given as goal

-- those of the names so far
abbrev pub invariant-loop-place : goal.invariant-loop-place
invariant-loop-place l = (f : ℕ) → contains nat_cmp l.firsts f ≡ is_unknown_first l.lines (take l.place l.doubtful) f
