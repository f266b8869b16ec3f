use Rattle.std.proofs.Common.{◌≡◌, ◌++◌, drop, map}
use Rattle.std.specs.List.{filter}
use Rattle.kc_facts.specs.declared.row.Row.{Row}
use Rattle.kc_facts.specs.MenuTree.{has_row}
use Rattle.kc_facts.specs.RowSteps.{AreRowsSoFar}
use Rattle.kc_facts.proofs.rows.read_entries.Given as goal

-- the rows so far with those of the entries that are left are all
abbrev pub invariant-loop-entry : goal.invariant-loop-entry
invariant-loop-entry l =
    AreRowsSoFar l.tree l.read.rows.items l.read.found.items l.read.definitions
    × (map (λ (r : Row). r.entry) l.read.rows.items ++ filter has_row (drop l.entry-index l.entry-items)
    ≡ map (λ (r : Row). r.entry) l.initial.read.rows.items ++ filter has_row l.tree.entries)
