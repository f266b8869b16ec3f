use Rattle.std.proofs.Common.{◌≡◌, ◌<◌, ◌||◌, ℕ, drop, false, length, slice_index_or}
use Rattle.std.specs.List.{list_any}
use Rattle.kc_how.specs.ChangedValues.{names}
use Rattle.kc_how.proofs.changed_values.mark.Given as goal

-- with those that are left they are all
abbrev pub invariant-loop-line : goal.invariant-loop-line
invariant-loop-line l = record {
  whole : length l.marks.items ≡ length l.initial.marks.items;
  marks : (n : ℕ) → n < length l.initial.marks.items
      → (list_any (names n) (drop l.line-index l.lines) || slice_index_or l.marks.items n false) ≡ (list_any (names n) l.lines || slice_index_or l.initial.marks.items n false);
}
