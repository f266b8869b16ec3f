use Rattle.std.proofs.Common.{◌≡◌, ◌<◌, ℕ, None, length, get_or}
use Rattle.kc_files.specs.LineFacts.{gives, last_below}
use Rattle.kc_files.proofs.taken_lines.giving_lines.Given as goal

-- the last line so far that gives each symbol its value
abbrev pub invariant-loop-index : goal.invariant-loop-index
invariant-loop-index l = record {
  sized : length l.last.items ≡ l.symbols;
  each : (k : ℕ) → k < l.symbols → get_or l.last.items k None ≡ last_below (gives l.lines l.outcomes k) l.index;
}
