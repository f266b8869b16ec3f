use Rattle.std.proofs.Common.{◌≡◌, ◌≤◌, count_by}
use Rattle.kc_statement.specs.Keywords.{is_opener}
use Rattle.kc_outline.specs.Enclosing.{before}
use Rattle.kc_line_facts.specs.SourcedFiles.{open_numbers}
use Rattle.kc_line_facts.proofs.open_numbers.pass_lines.Given as goal

-- the blocks that are open before the line, and how many were opened before it
abbrev pub invariant-loop-place : goal.invariant-loop-place
invariant-loop-place l = record {
  around_is : l.around ≡ open_numbers l.lines l.place;
  count_is : l.count ≡ count_by is_opener (before l.lines l.place);
  within : l.count ≤ l.place;
}
