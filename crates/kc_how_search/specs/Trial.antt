-- Steps: a tree whose user values are tried out, as contracts see it: this project's own.
use Rattle.std.specs.Prelude.{List, Option}
use Rattle.kc_outline.specs.TreeValue.{TreeValue}
use Rattle.kc_value.specs.declared.value.Value.{Value}
use Rattle.kc_value.specs.Kept.{AreKept}
use Rattle.kc_value.specs.UserValues.{UserValues, IsUserFor}

-- the tree, the user values that it began with, those of now, and the values that are kept, by number
pub record TrialValue : Type 0 where
  pub tree : TreeValue
  pub given : UserValues
  pub user : UserValues
  pub values : List (Option Value)

-- both are those of a user of the tree, and what is kept is right
pub record IsSound (t : TrialValue) : Type 0 where
  pub given : IsUserFor t.tree t.given
  pub user : IsUserFor t.tree t.user
  pub kept : AreKept t.tree t.user t.values
