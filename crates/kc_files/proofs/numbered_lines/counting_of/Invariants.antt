use Rattle.std.proofs.Common.{◌≡◌, ◌+◌, ◌++◌, drop, filter_map, length}
use Rattle.std.specs.Prelude.{All}
use Rattle.std.specs.Vec.Iter.{into_iter_items}
use Rattle.kc_files.specs.ConfigReading.{counting}
use Rattle.kc_files.specs.Effects.{IsSaidInside}
use Rattle.kc_files.specs.NumberedLines.{assign_of}
use Rattle.kc_files.proofs.numbered_lines.counting_of.Given as goal

-- those that were kept, with those of the lines that are left, are all
abbrev pub invariant-loop-line : goal.invariant-loop-line
invariant-loop-line l = record {
  kept : l.kept.items ++ counting (filter_map assign_of (into_iter_items l.line-iterator)) ≡ counting (filter_map assign_of l.fn.lines.items);
  left : drop l.index l.fn.lines.items ≡ into_iter_items l.line-iterator;
  size : l.index + length (into_iter_items l.line-iterator) ≡ length l.fn.lines.items;
  inside : All (λ line. IsSaidInside (length l.last) line.says) (into_iter_items l.line-iterator);
}
