use Rattle.std.proofs.Common.{◌≡◌, ◌<◌, ◌&&◌, ◌==◌, ℕ, false, length, get_or, take}
use Rattle.std.specs.List.{list_any}
use Rattle.kc_line_facts.specs.SourcedFiles.{is_statement}
use Rattle.kc_line_facts.proofs.sourced_twice.runs_with_statements.Given as goal

-- which have a statement among the lines so far
abbrev pub invariant-loop-place : goal.invariant-loop-place
invariant-loop-place l = record {
  sized : length l.noted.items ≡ l.count;
  each : (r : ℕ) → r < l.count → get_or l.noted.items r false ≡ list_any (λ line. (line.run == r) && is_statement line) (take l.place l.lines);
}
