-- Steps: the values that a user gave to symbols, as they are kept: this project's own.
use Rattle.std.specs.Prelude.{◌≡◌, ◌<◌, ◌^◌, ℕ, List, Option, Some, None, is_some, length, option_map, slice_get, slice_index_or}
use Rattle.std.specs.List.{count_by}
use Rattle.kc_tree.specs.declared.user_value.UserVal.{UserVal}
use Rattle.kc_tree.specs.declared.user_value.UserVal.TheVariants.{Tri as TriVal}
use Rattle.kc_value.specs.declared.given.Given.{Given}
use Rattle.kc_value.specs.declared.given.Given.TheVariants.{Plain, Aside, Text}

-- a value or none for each symbol, by number
abbrev pub Values : Type 0
Values = List (Option UserVal)

-- the place among the texts
abbrev pub place_of : Given → Option ℕ
place_of (Plain v) = None
place_of (Aside v place) = Some place
place_of (Text place) = Some place

-- the value that is said, or the text at the place
abbrev pub seen : List UserVal → Given → Option UserVal
seen texts (Plain v) = option_map TriVal v
seen texts (Aside v place) = option_map TriVal v
seen texts (Text place) = slice_get texts place

-- the places of symbols, or none: as many as there are texts, each below that number and of one symbol alone
pub record ArePlaces (places : List (Option ℕ)) (texts : ℕ) : Type 0 where
  pub few : length places < 2 ^ 32
  pub counted : count_by is_some places ≡ texts
  pub within : (k place : ℕ) → slice_index_or places k None ≡ Some place → place < texts
  pub apart : (j k place : ℕ) → slice_index_or places j None ≡ Some place → slice_index_or places k None ≡ Some place → j ≡ k
