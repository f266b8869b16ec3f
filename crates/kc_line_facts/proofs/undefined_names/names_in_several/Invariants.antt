use Rattle.std.proofs.Common.{◌≡◌, ◌<◌, ◌&&◌, ◌==◌, ℕ, false, length, get_or, take}
use Rattle.std.specs.List.{list_any}
use Rattle.kc_line_facts.specs.DoubtfulNames.{is_elsewhere}
use Rattle.kc_line_facts.proofs.undefined_names.names_in_several.Given as goal

-- which are in several lines among the uses so far
abbrev pub invariant-loop-place : goal.invariant-loop-place
invariant-loop-place l = record {
  sized : length l.noted.items ≡ length l.uses;
  each : (f : ℕ) → f < length l.uses → get_or l.noted.items f false ≡ list_any (λ n. (n.first == f) && is_elsewhere l.lines l.uses n) (take l.place l.uses);
}
