-- What answers how a tree is given wanted values: lines of a `.config` that are enough when they are merged, none of
-- which can be left out. This project's own.
use Rattle.std.specs.Prelude.{◌<◌, ℕ, List, length, All}
use Rattle.std.specs.List.{remove}
use Rattle.kc_outline.specs.TreeValue.{TreeValue}
use Rattle.kc_value.specs.Solution.{solution}
use Rattle.kc_value.specs.UserValues.{UserValues}
use Rattle.kc_files.specs.declared.assign.Assign.{Assign}
use Rattle.kc_files.specs.declared.loading.Load.TheVariants.{Merge}
use Rattle.kc_files.specs.Effects.{HasEffect}
use Rattle.kc_files.specs.LineReading.{IsAssignFor, IsUnfed}
use Rattle.kc_files.specs.Loading.{user_after}
use Rattle.kc_how.specs.Apart.{AreApart}

-- Once the lines are merged into what the user gave, each wanted symbol has just the wanted value. User values that no
-- line names stay, as a merge leaves them.
unfoldable pub GivesEach : TreeValue → UserValues → List Assign → List Assign → Type 0
GivesEach t u wanted lines = All (HasEffect (solution t (user_after t u Merge lines))) wanted

-- a line that can be written and read back: a symbol of the tree with a value of its type, which has no line feed
pub record IsLine (t : TreeValue) (a : Assign) : Type 0 where
  pub fits : IsAssignFor t a
  pub unfed : IsUnfed a

pub record IsAnswer (t : TreeValue) (u : UserValues) (wanted lines : List Assign) : Type 0 where
  pub readable : All (IsLine t) lines
  pub apart : AreApart t lines
  pub enough : GivesEach t u wanted lines
  -- without any one of them, some wanted symbol has another value
  pub needed : (k : ℕ) → k < length lines → GivesEach t u wanted (remove lines k) → ⊥

-- lines that are enough, where some may not be needed
pub record IsEnough (t : TreeValue) (u : UserValues) (wanted lines : List Assign) : Type 0 where
  pub readable : All (IsLine t) lines
  pub apart : AreApart t lines
  pub enough : GivesEach t u wanted lines
