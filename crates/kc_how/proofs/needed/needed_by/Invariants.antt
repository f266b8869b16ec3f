use Rattle.std.proofs.Common.{◌≡◌, ◌<◌, ℕ, None, length}
use Rattle.std.specs.Prelude.{slice_index_or}
use Rattle.std.specs.List.{remove}
use Rattle.kc_how.specs.Question.{IsLacking}
use Rattle.kc_how.proofs.needed.needed_by.Given as goal

-- what each line so far is needed for
abbrev pub invariant-loop-index : goal.invariant-loop-index
invariant-loop-index l = record {
  asked : l.question.asked ≡ l.initial.question.asked;
  whole : length l.found.items ≡ l.index;
  each : (k : ℕ) → k < l.index → IsLacking l.initial.question.asked (remove l.lines k) (slice_index_or l.found.items k None);
}
