-- What each line is needed for: this project's own.
use Rattle.std.specs.Prelude.{◌≡◌, ◌<◌, ℕ, List, Option, None, length, slice_index_or}
use Rattle.std.specs.List.{remove}
use Rattle.kc_files.specs.declared.assign.Assign.{Assign}
use Rattle.kc_how.specs.Question.{Asked, IsLacking}

-- the first wanted symbol that lacks its value without a line, for each line
pub record AreNeededFor (q : Asked) (lines : List Assign) (found : List (Option ℕ)) : Type 0 where
  pub whole : length found ≡ length lines
  pub each : (k : ℕ) → k < length lines → IsLacking q (remove lines k) (slice_index_or found k None)
