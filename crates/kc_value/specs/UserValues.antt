-- What a user gave and chose: this project's own.
use Rattle.std.specs.Prelude.{◌≡◌, true, List, Option, Some, None, slice_index_or, slice_set, replicate, length}
use Rattle.kc_statement.specs.declared.id.SymId.{SymId}
use Rattle.kc_outline.specs.declared.id.ChoiceId.{ChoiceId}
use Rattle.kc_tree.specs.declared.user_value.UserVal.{UserVal}
use Rattle.kc_outline.specs.TreeValue.{TreeValue}
use Rattle.kc_tree.specs.Fits.{fits}

-- a value or none for each symbol, and a chosen member or none for each choice, by number
pub record UserValues : Type 0 where
  pub values : List (Option UserVal)
  pub chosen : List (Option SymId)

abbrev pub user_value : UserValues → SymId → Option UserVal
user_value u s = slice_index_or u.values s.0 None

abbrev pub chosen_in : UserValues → ChoiceId → Option SymId
chosen_in u c = slice_index_or u.chosen c.0 None

-- the same but for one symbol
abbrev pub with_value : UserValues → SymId → Option UserVal → UserValues
with_value u s v = record { values = slice_set u.values s.0 v; chosen = u.chosen }

-- the same but for one choice
abbrev pub with_chosen : UserValues → ChoiceId → Option SymId → UserValues
with_chosen u c m = record { values = u.values; chosen = slice_set u.chosen c.0 m }

-- no values and no chosen members
abbrev pub no_values : TreeValue → UserValues
no_values t = record { values = replicate (length t.symbols) None; chosen = replicate (length t.choices) None }

-- the values are those of a user of this tree: one place for each symbol and for each choice, and each symbol takes the
-- value that it was given
pub record IsUserFor (t : TreeValue) (u : UserValues) : Type 0 where
  pub values : length u.values ≡ length t.symbols
  pub chosen : length u.chosen ≡ length t.choices
  pub fitting : (s : SymId) (v : UserVal) → user_value u s ≡ Some v → fits t s v ≡ true
