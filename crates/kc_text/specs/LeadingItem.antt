-- What lines begin with: this project's own rule, over the items of ItemLists.
use Rattle.std.specs.Prelude.{◌≡◌, ℕ, List, ◌++◌}
use Rattle.kc_text.specs.ItemLists.{IsItem, ItemLines, ItemValue, lines_in, value_of}

-- Lines begin with an item that says this, and after it come the others.
pub record BeginsWith (lines : List (List ℕ)) (said : ItemValue) (after : List (List ℕ)) : Type 0 where
  pub item : ItemLines
  pub whole : lines ≡ lines_in item ++ after
  pub is : IsItem item after
  pub says : said ≡ value_of item
