-- Lines that are left of others.
use Rattle.std.proofs.Common.{◌<◌, ℕ, suc, List, length, take, drop}
use Rattle.std.specs.Prelude.{All}
use Rattle.std.specs.List.{remove}
use Rattle.std.proofs.lemmas.List.Elements.{All-append, All-take, All-drop, All-weaker}
use Rattle.std.proofs.lemmas.List.Quantifiers.{all_pairs_remove}
use Rattle.kc_outline.specs.TreeValue.{TreeValue}
use Rattle.kc_files.specs.declared.assign.Assign.{Assign}
use Rattle.kc_files.specs.LineReading.{IsAssignFor}
use Rattle.kc_how.specs.Answer.{IsLine}
use Rattle.kc_how.specs.Apart.{IsApart}
use Rattle.kc_how.specs.Question.{Asked, AreEnough, IsAnswerTo, IsEnoughFor}

all_left : {X : Type 0} (P : X → Type 0) (xs : List X) (k : ℕ) → All P xs → All P (remove xs k)
all_left P xs k h = All-append P (take k xs) (drop (suc k) xs) (All-take P k xs h) (All-drop P (suc k) xs h)

-- the others of lines can be merged
pub assigns_left : (t : TreeValue) (lines : List Assign) (k : ℕ) → All (IsLine t) lines → All (IsAssignFor t) (remove lines k)
assigns_left t lines k h = all_left (IsAssignFor t) lines k (All-weaker (IsLine t) (IsAssignFor t) (λ a line. line.fits) lines h)

-- without a line that is not needed they are enough
pub enough_without : (q : Asked) (lines : List Assign) (k : ℕ) → k < length lines → IsEnoughFor q lines → AreEnough q (remove lines k)
    → IsEnoughFor q (remove lines k)
enough_without q lines k inside h enough = record {
  readable = all_left (IsLine q.tree) lines k h.readable;
  apart = all_pairs_remove (IsApart q.tree) lines k inside h.apart;
  enough = enough;
}

-- and lines that are enough, each of which is needed, are an answer
pub answer_is : (q : Asked) (lines : List Assign) → IsEnoughFor q lines
    → ((k : ℕ) → k < length lines → AreEnough q (remove lines k) → ⊥) → IsAnswerTo q lines
answer_is q lines h needed = record { readable = h.readable; apart = h.apart; enough = h.enough; needed = needed }
