use Rattle.std.proofs.Common.{◌≡◌, ◌≤◌, ◌-◌, length, map}
use Rattle.std.specs.List.{range_with_len}
use Rattle.kc_line_facts.specs.SourcedFiles.{start_of}
use Rattle.kc_line_facts.proofs.run_places.starts_of.Given as goal

-- where the last one begins, and where those so far do
abbrev pub invariant-loop-run : goal.invariant-loop-run
invariant-loop-run l = record {
  from_is : l.from ≡ start_of l.lines (l.run - 1);
  within : l.from ≤ length l.lines;
  starts_are : l.starts.items ≡ map (start_of l.lines) (range_with_len 0 l.run);
}
