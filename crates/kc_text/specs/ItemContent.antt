-- What the code of an item stands for: this project's own.
use Rattle.std.specs.Prelude.{ℕ, List}
use Rattle.kc_text.specs.declared.items.Joined.{Joined}
use Rattle.kc_text.specs.declared.items.Joined.TheVariants.{One, Many}
use Rattle.kc_text.specs.declared.items.Item.{Item}
use Rattle.kc_text.specs.ItemLists.{ItemValue}

abbrev pub joined_text : Joined → List ℕ
joined_text (One text) = text.now
joined_text (Many text) = text

abbrev pub item_of : Item → ItemValue
item_of i = record { text = joined_text i.text; help = i.help; more = i.more }
