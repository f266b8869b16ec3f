use Rattle.std.proofs.Common.{◌≡◌, ◌<◌, ℕ, None, length, get_or}
use Rattle.kc_files.specs.LineFacts.{last_below, takes_place}
use Rattle.kc_files.proofs.taken_lines.taken_lines.Given as goal

-- the last line so far whose place each takes
abbrev pub invariant-loop-index : goal.invariant-loop-index
invariant-loop-index l = record {
  sized : length l.last.items ≡ length l.outcomes;
  each : (k : ℕ) → k < length l.outcomes → get_or l.last.items k None ≡ last_below (takes_place l.lines l.outcomes l.common k) l.index;
}
