use Rattle.std.proofs.Common.{◌≡◌, ◌≤◌, ◌-◌, length, map}
use Rattle.std.specs.Prelude.{count_by}
use Rattle.std.specs.List.{flat_map, range_with_len}
use Rattle.kc_statement.specs.Keywords.{is_opener}
use Rattle.kc_outline.specs.Enclosing.{before}
use Rattle.kc_line_facts.specs.SourcedFiles.{condition_around, open_numbers, repeated_at, start_of}
use Rattle.kc_line_facts.proofs.sourced_twice.repeated_files.Given as goal

-- where the last one begins, the blocks around it and how many were opened before, the conditions around those so far, and
-- which of these are repeated
abbrev pub invariant-loop-run : goal.invariant-loop-run
invariant-loop-run l = record {
  from_is : l.from ≡ start_of l.lines (l.run - 1);
  within : l.from ≤ length l.lines;
  few : l.begun ≤ l.from;
  around_is : l.around ≡ open_numbers l.lines l.from;
  begun_is : l.begun ≡ count_by is_opener (before l.lines l.from);
  conditions_are : l.conditions.items ≡ map (condition_around l.lines l.tree) (range_with_len 0 l.run);
  found_is : l.found.items ≡ flat_map (repeated_at l.lines l.tree) (range_with_len 0 l.run);
}
