use Rattle.std.proofs.Common.{◌≡◌, ◌++◌, ◌+◌, [], length, map, slice_get}
use Rattle.std.specs.List.{filter, filter_map, range_with_len}
use Rattle.std.specs.Vec.Iter.{into_iter_items, into_iter_len}
use Rattle.kc_line_facts.specs.FreshNames.{is_fresh}
use Rattle.kc_check.specs.ReportLines.{line_text}
use Rattle.kc_check.proofs.said_findings.said_once.Given as goal

-- those so far, and those that are kept of them
abbrev pub invariant-loop-finding : goal.invariant-loop-finding
invariant-loop-finding l = record {
  whole : l.yielded ++ into_iter_items l.finding-iterator ≡ l.fn.findings.items;
  counted : l.place ≡ length l.yielded;
  few : l.place + length (into_iter_items l.finding-iterator) ≡ length l.fn.findings.items;
  left : into_iter_len l.finding-iterator ≡ length (into_iter_items l.finding-iterator);
  once_is : l.once.items ≡ filter_map (slice_get l.fn.findings.items) (filter (is_fresh (map line_text l.fn.findings.items) []) (range_with_len 0 l.place));
}
