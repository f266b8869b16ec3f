use Rattle.std.proofs.Common.{◌≡◌}
use Rattle.std.specs.List.{flat_map, range_with_len}
use Rattle.kc_outline.specs.Enclosing.{before}
use Rattle.kc_line_facts.specs.DoubtfulUses.{uses_at, owner_at}
use Rattle.kc_line_facts.proofs.doubtful_uses.doubtful_uses.Given as goal

-- what the last line belongs to, and the names of the lines so far
abbrev pub invariant-loop-index : goal.invariant-loop-index
invariant-loop-index l = record {
  owner_is : l.owner ≡ owner_at l.tree (before l.lines l.index);
  found_is : l.found.items ≡ flat_map (uses_at l.lines l.tree) (range_with_len 0 l.index);
}
