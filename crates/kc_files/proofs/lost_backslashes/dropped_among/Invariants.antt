use Rattle.std.proofs.Common.{◌≡◌, ℕ, List}
use Rattle.std.specs.Borrow.{Bor}
use Rattle.std.specs.Prelude.{map}
use Rattle.std.specs.List.{filter_map, range_with_len}
use Rattle.kc_files.specs.DroppedBackslashes.{dropped_at}
use Rattle.kc_files.proofs.lost_backslashes.dropped_among.Given as goal

-- those of the lines so far
abbrev pub invariant-loop-index : goal.invariant-loop-index
invariant-loop-index l =
    l.found.items ≡ filter_map (dropped_at l.tree l.prefix (map (λ (line : Bor (List ℕ)). line.now) l.lines) l.said) (range_with_len 0 l.index)
