-- A resolver over a tree and user values that were passed to it, as contracts see it: this project's own.
use Rattle.std.specs.Prelude.{List, [], Option, Some, None}
use Rattle.kc_outline.specs.TreeValue.{TreeValue}
use Rattle.kc_value.specs.declared.value.Value.{Value}
use Rattle.kc_value.specs.Kept.{KeptValue}
use Rattle.kc_value.specs.UserValues.{UserValues}

-- the tree, the user values, and the values that were evaluated for the last question, by number
pub record FreshValue : Type 0 where
  pub tree : TreeValue
  pub user : UserValues
  pub last : List (Option Value)

-- before the first question there are none
abbrev pub values_or_none : Option KeptValue → List (Option Value)
values_or_none None = []
values_or_none (Some kept) = kept.values
