use Rattle.std.proofs.Common.{◌≡◌, ◌≤◌, ◌++◌, ◌+◌, drop, length, get_or}
use Rattle.kc_line_facts.specs.ReadingOrder.{file_marks, run_marks}
use Rattle.kc_line_facts.proofs.read_order.push_file.Given as goal

-- what is left comes after what was added
abbrev pub invariant-loop-place : goal.invariant-loop-place
invariant-loop-place l = record {
  first_within : l.first ≤ length l.uses;
  inner_within : l.inner ≤ length l.runs.starts.now;
  few : l.from ≤ length l.runs.lines.now + 1;
  all : l.reached.items ++ file_marks l.runs.lines.now l.runs.starts.now l.runs.rests.now l.file l.uses (get_or l.runs.rests.now l.run 0) l.from l.first l.inner (drop l.place l.sources)
      ≡ l.initial.reached.items ++ run_marks l.runs.lines.now l.runs.starts.now l.runs.rests.now l.file l.uses l.sources l.run;
}
