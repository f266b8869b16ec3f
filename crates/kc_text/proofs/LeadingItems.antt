-- Lines begin with the first of their items.
use Rattle.std.proofs.Common.{◌≡◌, ◌∙◌, ℕ, ◌+◌, ◌<◌, List, [], ◌∷◌, ◌++◌, length, drop, drop_at, flat_map, ap, sym, subst, arith}
use Rattle.kc_text.specs.Items.{ItemValue, first_item}
use Rattle.kc_text.specs.ItemLists.{AreItems, IsItem, ItemLines, lines_in, value_of}
use Rattle.kc_text.specs.LeadingItem.{BeginsWith}
use Rattle.kc_text.proofs.ItemLaws.{first_is, first_item-value, lines_counted, some_items}

module _ (ls : List (List ℕ)) (said : ItemValue) (after : List (List ℕ)) (some : 0 < length ls) (first : said ≡ first_item ls) (left : after ≡ drop (said.more + 1) ls) where
  begins_by : (is : List ItemLines) → AreItems ls is → BeginsWith ls said after
  begins_by [] are = absurd (omega (arith, some, ap length are.whole))
  begins_by (i ∷ is) are =
      let rest = flat_map lines_in is in
      let is_first : IsItem i rest = first_is ls i is are in
      let says : said ≡ value_of i = first ∙ ap first_item are.whole ∙ first_item-value i rest is_first in
      let left_is : after ≡ rest =
      left
      ∙ (λ k. drop ((says k).more + 1) (are.whole k))
      ∙ drop_at (lines_in i) rest ((value_of i).more + 1) (omega (arith, lines_counted i rest is_first)) in
      record {
        item = i;
        whole = are.whole ∙ ap (λ r. lines_in i ++ r) (sym left_is);
        is = subst (IsItem i) (sym left_is) is_first;
        says = says;
      }

  pub begins : BeginsWith ls said after
  begins = let found = some_items ls in begins_by found.0 found.1
