use Rattle.std.proofs.Common.{◌≡◌, ℕ, drop}
use Rattle.std.specs.BTreeMap.{get}
use Rattle.std.specs.List.{find}
use Rattle.std.specs.Option.{option_or}
use Rattle.std.specs.Ordering.{nat_cmp}
use Rattle.kc_line_facts.specs.EarlierFindings.{repeats}
use Rattle.kc_line_facts.proofs.source_lines.repeated_by_run.Given as goal

-- those so far come before those that are left
abbrev pub invariant-loop-one : goal.invariant-loop-one
invariant-loop-one l = (r : ℕ) → option_or (get nat_cmp l.noted r) (find (repeats r) (drop l.one-index l.repeated)) ≡ find (repeats r) l.repeated
