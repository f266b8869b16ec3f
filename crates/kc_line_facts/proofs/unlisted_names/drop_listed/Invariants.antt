use Rattle.std.proofs.Common.{◌≡◌, ◌&&◌, ℕ, not, take}
use Rattle.std.specs.BTreeSet.{contains}
use Rattle.std.specs.Ordering.{nat_cmp}
use Rattle.kc_line_facts.specs.ListedNames.{is_listed_first}
use Rattle.kc_line_facts.proofs.unlisted_names.drop_listed.Given as goal

-- those so far are dropped
abbrev pub invariant-loop-place : goal.invariant-loop-place
invariant-loop-place l =
    (f : ℕ) → contains nat_cmp l.firsts f ≡ (contains nat_cmp l.initial.firsts f && not (is_listed_first (take l.place l.listed) f))
