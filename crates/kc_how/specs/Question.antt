-- What is asked, and the user values that are tried with the values that are kept for them: this project's own.
use Rattle.std.specs.Prelude.{◌<◌, ℕ, List, Option, None, Some, All, length, slice_index_or, take}
use Rattle.kc_outline.specs.TreeValue.{TreeValue}
use Rattle.kc_value.specs.Assignment.{Assignment}
use Rattle.kc_value.specs.Kept.{KeptValue, AreKept}
use Rattle.kc_value.specs.Solution.{solution}
use Rattle.kc_value.specs.UserValues.{UserValues, IsUserFor}
use Rattle.kc_files.specs.declared.assign.Assign.{Assign}
use Rattle.kc_files.specs.declared.loading.Load.TheVariants.{Merge}
use Rattle.kc_files.specs.Effects.{HasEffect}
use Rattle.kc_files.specs.LineReading.{IsAssignFor}
use Rattle.kc_files.specs.Loading.{user_after}
use Rattle.kc_how.specs.Answer.{GivesEach, IsAnswer, IsEnough}

-- the tree, what the user gave, and the wanted values
pub record Asked : Type 0 where
  pub tree : TreeValue
  pub user : UserValues
  pub wanted : List Assign

pub record QuestionValue : Type 0 where
  pub asked : Asked
  pub tried : UserValues
  pub kept : KeptValue

pub record IsSound (q : QuestionValue) : Type 0 where
  pub user : IsUserFor q.asked.tree q.asked.user
  pub wanted : All (IsAssignFor q.asked.tree) q.asked.wanted
  pub tried : IsUserFor q.asked.tree q.tried
  pub kept : AreKept q.asked.tree q.tried q.kept.values

-- lines are enough for what is asked
abbrev pub AreEnough : Asked → List Assign → Type 0
AreEnough q lines = GivesEach q.tree q.user q.wanted lines

abbrev pub IsEnoughFor : Asked → List Assign → Type 0
IsEnoughFor q lines = IsEnough q.tree q.user q.wanted lines

abbrev pub IsAnswerTo : Asked → List Assign → Type 0
IsAnswerTo q lines = IsAnswer q.tree q.user q.wanted lines

-- ---- what is lacking
-- the first wanted symbol that has another value than the wanted one, by its index, or none
abbrev pub IsFirstLacking : Assignment → List Assign → Option ℕ → Type 0
IsFirstLacking a wanted None = All (HasEffect a) wanted
IsFirstLacking a wanted (Some i) =
    (i < length wanted) × ((d : Assign) → HasEffect a (slice_index_or wanted i d) → ⊥) × All (HasEffect a) (take i wanted)

-- once lines were merged into what the user gave
abbrev pub IsLacking : Asked → List Assign → Option ℕ → Type 0
IsLacking q lines found = IsFirstLacking (solution q.tree (user_after q.tree q.user Merge lines)) q.wanted found
