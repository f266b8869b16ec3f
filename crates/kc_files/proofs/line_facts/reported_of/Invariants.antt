use Rattle.std.proofs.Common.{◌≡◌, ◌++◌, drop}
use Rattle.std.specs.List.{filter}
use Rattle.kc_files.specs.LineFacts.{found_in_lines, is_reported}
use Rattle.kc_files.proofs.line_facts.reported_of.Given as goal

-- what is reported so far, and what is left
abbrev pub invariant-loop-fact : goal.invariant-loop-fact
invariant-loop-fact l =
    l.reported.items ++ filter (is_reported l.lines) (drop l.fact-index l.fact-items) ≡ filter (is_reported l.lines) (found_in_lines l.lines l.outcomes)
