use Rattle.std.proofs.Common.{◌≡◌, ℕ, drop}
use Rattle.std.specs.BTreeMap.{get}
use Rattle.std.specs.List.{find}
use Rattle.std.specs.Option.{option_or}
use Rattle.std.specs.Ordering.{nat_cmp}
use Rattle.kc_line_facts.specs.EarlierFindings.{puts}
use Rattle.kc_line_facts.proofs.source_lines.sources_by_run.Given as goal

-- those so far come before those that are left
abbrev pub invariant-loop-mark : goal.invariant-loop-mark
invariant-loop-mark l = (r : ℕ) → option_or (get nat_cmp l.sources r) (find (puts r) (drop l.mark-index l.reached)) ≡ find (puts r) l.reached
