-- The blocks that lines open are nested: each is opened inside those around it, after them.
use Rattle.std.proofs.Common.{◌≡◌, ℕ, zero, suc, ◌+◌, ◌-◌, ◌<◌, ◌≤◌, Bool, true, false, ◌&&◌, List, [], ◌∷◌, length, take, reverse, count_by, Option, Some, refl, sym, ap, ◌∙◌, subst, arith}
use Rattle.std.specs.Prelude.{nat_le}
use Rattle.std.specs.List.{slice_get}
use Rattle.std.specs.Option.{option_map_or}
use Rattle.std.proofs.lemmas.Bool.{leb-false}
use Rattle.std.proofs.lemmas.List.{reverse-reverse, length-map}
use Rattle.std.proofs.lemmas.Option.{none-some, same_Some, slice_get_within}
use Rattle.kc_text.specs.LineValue.{LineValue}
use Rattle.kc_statement.specs.Keywords.{is_config, is_opener}
use Rattle.kc_statement.specs.Names.{names_of}
use Rattle.kc_outline.specs.declared.id.BlockId.{BlockId}
use Rattle.kc_outline.specs.declared.context.OpenBlock.{OpenBlock}
use Rattle.kc_outline.specs.Enclosing.{before, innermost, nearest_statement, open_blocks}
use Rattle.kc_outline.specs.LineFaults.{is_no_choice_default, opens_too_deep, is_past_limit}
use Rattle.kc_outline.specs.Nested.{AreNested}
use Rattle.kc_outline.specs.Reader.{IsOutlineAfter}
use Rattle.kc_outline.specs.TreeOf.{Reading, AreReadings, IsOutlineOf, BlockLine, block_line, block_lines, block_at, blocks_in, definition_at, definition_lines, tree_of}
use Rattle.kc_outline.specs.TreeValue.{TreeValue, BlockValue, blocks_around, blocks_from}
use Rattle.kc_outline.proofs.Counts.{count_reverse, length-map_placed}
use Rattle.kc_outline.proofs.OwnerLaws.{AreCounted, counted}
use Rattle.kc_outline.proofs.ChangeLaws.{at_placed}
use Rattle.kc_outline.proofs.EnclosedLaws.{not_deep, AreChained, parents, chained, in_order, chain_at, counts, made_at, mapped_some, parent_block, own_parent, numbered}

-- the innermost of blocks that are chained is one of those that are made
innermost_made : (ps : List (Option BlockId)) (bs : List OpenBlock) (p : BlockId) → AreChained ps bs → innermost bs ≡ Some p → p.0 < length ps
innermost_made ps [] p chain is = absurd (none-some p is)
innermost_made ps (b ∷ bs) p chain is =
    let one : b.id ≡ p = same_Some b.id p is in
    subst (λ (q : BlockId). q.0 < length ps) one (slice_get_within ps b.id.0 (innermost bs) chain.0)

-- no more blocks are found around than are open
same_around : (rs : List Reading) (n m : ℕ) (bs : List OpenBlock) → length bs ≤ n → length bs ≤ m → AreChained (parents rs) bs → blocks_from (blocks_in rs) n (innermost bs) ≡ blocks_from (blocks_in rs) m (innermost bs)
same_around rs zero zero [] few few₂ chain = refl
same_around rs zero (suc m) [] few few₂ chain = refl
same_around rs (suc n) zero [] few few₂ chain = refl
same_around rs (suc n) (suc m) [] few few₂ chain = refl
same_around rs zero m (b ∷ bs) few few₂ chain = absurd (omega (arith, few))
same_around rs (suc n) zero (b ∷ bs) few few₂ chain = absurd (omega (arith, few₂))
same_around rs (suc n) (suc m) (b ∷ bs) few few₂ chain =
    let there = parent_block rs b.id.0 (innermost bs) chain.0 in
    let step : (k : ℕ) → blocks_from (blocks_in rs) (suc k) (Some b.id) ≡ there.0 ∷ blocks_from (blocks_in rs) k there.0.parent = λ k. ap (λ o. option_map_or (λ x. x ∷ blocks_from (blocks_in rs) k x.parent) o []) there.1 in
    let rest : blocks_from (blocks_in rs) n there.0.parent ≡ blocks_from (blocks_in rs) m there.0.parent =
    ap (blocks_from (blocks_in rs) n) there.2 ∙ same_around rs n m bs (omega (arith, few)) (omega (arith, few₂)) chain.1 ∙ ap (blocks_from (blocks_in rs) m) (sym there.2) in
    step n ∙ ap (λ xs. there.0 ∷ xs) rest ∙ sym (step m)

-- where an opener is not too deep, fewer blocks are open before it than may be
room_inside : (opens : Bool) (n : ℕ) (bs : List OpenBlock) → opens ≡ true → (opens && nat_le n (length bs)) ≡ false → length bs < n
room_inside true n bs is deep = leb-false n (length bs) deep
room_inside false n bs is deep = absurd (cc_false is)
  where
    cc_false : false ≡ true → ⊥
    cc_false e = cc

-- ---- lines that are read
module _ (lines : List LineValue) (rs : List Reading) (read : AreReadings lines rs) where
  abbrev the_tree : TreeValue
  the_tree = tree_of (names_of lines) rs

  -- what is known of a block where it is opened
  record IsOpened (n : ℕ) (x : BlockValue) : Type 0 where
    place : ℕ
    few : place ≤ length lines
    parent : x.parent ≡ innermost (open_blocks (before lines place))
    number : length (block_lines (take place rs)) ≡ n
    room : length (open_blocks (before lines place)) < 64

  opened : (n : ℕ) (x : BlockValue) → slice_get (blocks_in rs) n ≡ Some x → IsOpened n x
  opened n x is =
      let head = λ (q : Reading). block_line q.block q.statement in
      let part = mapped_some (block_at rs (0 + n)) (slice_get (block_lines rs) n) x (sym (at_placed (block_at rs) 0 (block_lines rs) n) ∙ is) in
      let line : BlockLine = part.0 in
      let made = made_at head rs line n part.1 in
      let i = made.place in
      let reads = read.each i made.maker made.there in
      let within = slice_get_within lines i reads.line reads.is in
      let few : i ≤ length lines = omega (arith, within) in
      let place = numbered lines rs read head is_opener (λ j few_before. (counts lines rs read j few_before).blocks ∙ count_reverse is_opener (take j lines)) n line made in
      let same : place.line ≡ reads.line = same_Some place.line reads.line (sym place.is ∙ reads.is) in
      let opens : is_opener reads.line ≡ true = ap is_opener (sym same) ∙ place.passes in
      let deep = not_deep (is_no_choice_default (nearest_statement (before lines i)) made.maker.statement) (opens_too_deep (open_blocks (before lines i)) reads.line) (is_past_limit made.maker.statement) reads.reads.sound.late in
      let inside : made.maker.block ≡ line.parent = sym (own_parent made.maker.block made.maker.statement line made.made) in
      let says : line.parent ≡ x.parent = ap (λ (h : BlockValue). h.parent) part.2 in
      record {
        place = i;
        few = few;
        parent = sym (inside ∙ says) ∙ reads.reads.block;
        number = made.number;
        room = room_inside (is_opener reads.line) 64 (open_blocks (before lines i)) opens deep;
      }

  after : (b : BlockId) (x : BlockValue) (p : BlockId) → slice_get (blocks_in rs) b.0 ≡ Some x → x.parent ≡ Some p → p.0 < b.0
  after b x p is up =
      let o = opened b.0 x is in
      let i = o.place in
      let qs = reverse (take i rs) in
      let chain = subst (λ ks. AreChained (parents ks) (open_blocks (before lines i))) (reverse-reverse (take i rs)) (chained (names_of lines) (length lines - i) (before lines i) qs (in_order lines rs read i o.few)) in
      let made = innermost_made (parents (take i rs)) (open_blocks (before lines i)) p chain (sym o.parent ∙ up) in
      omega (arith, made, length-map (block_lines (take i rs)) (λ h. h.parent), o.number)

  around : (b : BlockId) (x : BlockValue) → slice_get (blocks_in rs) b.0 ≡ Some x → blocks_around the_tree (Some b) ≡ x ∷ blocks_around the_tree x.parent
  around b x is =
      let o = opened b.0 x is in
      let bs = open_blocks (before lines o.place) in
      let step : blocks_from (blocks_in rs) 64 (Some b) ≡ x ∷ blocks_from (blocks_in rs) 63 x.parent = ap (λ o. option_map_or (λ y. y ∷ blocks_from (blocks_in rs) 63 y.parent) o []) is in
      let room = o.room in
      let more : blocks_from (blocks_in rs) 63 x.parent ≡ blocks_from (blocks_in rs) 64 x.parent =
      ap (blocks_from (blocks_in rs) 63) o.parent ∙ same_around rs 63 64 bs (omega (arith, room)) (omega (arith, room)) (chain_at lines rs read o.place o.few) ∙ ap (blocks_from (blocks_in rs) 64) (sym o.parent) in
      step ∙ ap (λ ys. x ∷ ys) more

pub nested_of_outline : (lines : List LineValue) (t : TreeValue) → IsOutlineOf lines t → AreNested t
nested_of_outline lines t outline =
    subst AreNested (sym outline.tree) (record { after = after lines outline.readings outline.read; around = around lines outline.readings outline.read })

-- ---- how many definitions and blocks lines define
module _ (names : List (List ℕ)) (following : ℕ) (earlier : List LineValue) (t : TreeValue) (made : IsOutlineAfter names following earlier t) where
  all_counted : AreCounted names earlier made.readings
  all_counted = subst (AreCounted names earlier) (reverse-reverse made.readings) (counted names following earlier (reverse made.readings) made.read)

  pub definitions_of_outline : length t.definitions ≡ count_by is_config earlier
  definitions_of_outline = ap (λ x. length x.definitions) made.tree ∙ length-map_placed (definition_at made.readings) 0 (definition_lines made.readings) ∙ all_counted.definitions

  pub blocks_of_outline : length t.blocks ≡ count_by is_opener earlier
  blocks_of_outline = ap (λ x. length x.blocks) made.tree ∙ length-map_placed (block_at made.readings) 0 (block_lines made.readings) ∙ all_counted.blocks
