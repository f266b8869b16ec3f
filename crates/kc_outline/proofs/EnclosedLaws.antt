-- What is in a block is in those that the lines around it open.
use Rattle.std.proofs.Common.{◌≡◌, ℕ, zero, suc, ◌+◌, ◌-◌, ◌≤◌, ◌==◌, Bool, true, false, ◌&&◌, ◌||◌, cond, if◌then◌else◌, List, [], ◌∷◌, ◌++◌, length, take, drop, reverse, Option, Some, None, count_by, filter_map, refl, sym, ap, ◌∙◌, subst, arith}
use Rattle.std.specs.Prelude.{map, nat_le}
use Rattle.std.specs.List.{AllZip, cons_option, slice_get}
use Rattle.std.specs.Option.{option_map, option_map_or}
use Rattle.std.proofs.lemmas.Bool.{leb-false}
use Rattle.std.proofs.lemmas.List.{reverse-append, reverse-reverse, length-append, take-append-drop, take_more, map-append, length-map}
use Rattle.std.proofs.lemmas.List.Elements.{filter_map-append}
use Rattle.std.proofs.lemmas.List.Sums.{sum_by_push}
use Rattle.std.proofs.lemmas.Option.{none-some, same_Some, slice_get-map, slice_get_within, get_or_from_slice_get}
use Rattle.kc_text.specs.LineValue.{LineValue}
use Rattle.kc_statement.specs.declared.id.SymId.{SymId}
use Rattle.kc_statement.specs.declared.statement.Statement.{Statement}
use Rattle.kc_statement.specs.declared.statement.Statement.TheVariants as statement
use Rattle.kc_statement.specs.Keywords.{keyword_of, is_opener, is_closer, is_config, is_choice, is_comment, is_opener_word, is_attribute_word}
use Rattle.kc_statement.specs.Names.{names_of}
use Rattle.kc_outline.specs.declared.id.BlockId.{BlockId}
use Rattle.kc_outline.specs.declared.id.ChoiceId.{ChoiceId}
use Rattle.kc_outline.specs.declared.block.BlockKind.TheVariants as block_kind
use Rattle.kc_outline.specs.declared.context.OpenBlock.{OpenBlock}
use Rattle.kc_outline.specs.declared.context.Owner.{Owner}
use Rattle.kc_outline.specs.declared.context.Owner.TheVariants as owner
use Rattle.kc_outline.specs.declared.fault.LineProblem.TheVariants.{Limit, Malformed}
use Rattle.kc_outline.specs.declared.limits.TheConstants.{MOST_OPEN_BLOCKS}
use Rattle.kc_outline.specs.Blocks.{IsOpenedAt, IsEnclosed, IsNumbered, AreBlocksEnclosing, block_number}
use Rattle.kc_outline.specs.Enclosing.{before, block_opened, open_blocks, innermost, made_by, nearest_statement, owner_at}
use Rattle.kc_outline.specs.LineFaults.{is_no_choice_default, opens_too_deep, is_past_limit}
use Rattle.kc_outline.specs.Reader.{AreReadingsBefore}
use Rattle.kc_outline.specs.TreeOf.{Reading, IsReading, AreFirstReadings, AreReadings, IsOutlineOf, map_placed, DefinitionLine, BlockLine, CommentLine, definition_line, block_line, comment_line, block_lines, blocks_in, block_at, choice_block, choice_blocks, choice_at, choices_in, comment_lines, comment_at, comments_in, definition_lines, definition_at, definitions_in, defined_in, title_in, tree_of}
use Rattle.kc_outline.specs.TreeValue.{TreeValue, BlockValue, DefinitionValue, ChoiceValue, CommentValue, blocks_from}
use Rattle.kc_outline.proofs.BlockLaws.{slice_get_left, slice_get_seam, open_at}
use Rattle.kc_outline.proofs.ChangeLaws.{at_placed}
use Rattle.kc_outline.proofs.Counts.{count_reverse}
use Rattle.kc_outline.proofs.OwnerLaws.{AreCounted, counted, one_block, blocks_made, the_choice}
use Rattle.kc_outline.proofs.PlaceLaws.{fewer, read_in_order}
use Rattle.kc_outline.proofs.ReadingLaws.{form_word}

-- ---- few blocks are open where no line opens one too deep
pub not_deep : (no_name deep past : Bool) → (if no_name then Some Malformed else (if deep || past then Some Limit else None)) ≡ None → deep ≡ false
not_deep true deep past h = cc
not_deep false true past h = cc
not_deep false false true h = cc
not_deep false false false h = refl

fewer_open : (n : ℕ) (bs : List OpenBlock) → length bs ≤ n → length (drop 1 bs) ≤ n
fewer_open n [] few = few
fewer_open n (b ∷ bs) few = omega (arith, few)

few_next : (n : ℕ) (o c : Bool) (b : OpenBlock) (bs : List OpenBlock) → (o && nat_le n (length bs)) ≡ false → length bs ≤ n → length (cond o (b ∷ bs) (cond c (drop 1 bs) bs)) ≤ n
few_next n true c b bs deep few = (let below = leb-false n (length bs) deep in omega (arith, below))
few_next n false true b bs deep few = fewer_open n bs few
few_next n false false b bs deep few = few

module _ (names : List (List ℕ)) where
  few_open : (following : ℕ) (earlier : List LineValue) (qs : List Reading) → AreReadingsBefore names following earlier qs → length (open_blocks earlier) ≤ MOST_OPEN_BLOCKS
  few_open following [] qs h = omega arith
  few_open following (l ∷ earlier) [] h = absurd h
  few_open following (l ∷ earlier) (q ∷ qs) h =
      few_next MOST_OPEN_BLOCKS (is_opener l) (is_closer l) (block_opened l earlier) (open_blocks earlier)
      (not_deep (is_no_choice_default (nearest_statement earlier) q.statement) (opens_too_deep (open_blocks earlier) l) (is_past_limit q.statement) h.0.sound.late)
      (few_open (following + 1) earlier qs h.1)

-- ---- the parent of a block is the next of those around it
abbrev pub parents : List Reading → List (Option BlockId)
parents rs = map (λ h. h.parent) (block_lines rs)

abbrev pub AreChained : List (Option BlockId) → List OpenBlock → Type 0
AreChained ps [] = Unit {0}
AreChained ps (b ∷ bs) = (slice_get ps b.id.0 ≡ Some (innermost bs)) × AreChained ps bs

chained_more : (ps qs : List (Option BlockId)) (bs : List OpenBlock) → AreChained ps bs → AreChained (ps ++ qs) bs
chained_more ps qs [] h = tt
chained_more ps qs (b ∷ bs) h = (slice_get_left ps qs b.id.0 (innermost bs) h.0, chained_more ps qs bs h.1)

chained_drop : (ps : List (Option BlockId)) (bs : List OpenBlock) → AreChained ps bs → AreChained ps (drop 1 bs)
chained_drop ps [] h = tt
chained_drop ps (b ∷ bs) h = h.1

chained_next : (ps : List (Option BlockId)) (o c : Bool) (b : OpenBlock) (bs : List OpenBlock) → b.id.0 ≡ length ps → AreChained ps bs → AreChained (ps ++ cond o (innermost bs ∷ []) []) (cond o (b ∷ bs) (cond c (drop 1 bs) bs))
chained_next ps true c b bs number h =
    (ap (slice_get (ps ++ innermost bs ∷ [])) number ∙ slice_get_seam ps (innermost bs) [], chained_more ps (innermost bs ∷ []) bs h)
chained_next ps false true b bs number h = chained_more ps [] (drop 1 bs) (chained_drop ps bs h)
chained_next ps false false b bs number h = chained_more ps [] bs h

-- what one reading adds to the parents
pub own_parent : (block : Option BlockId) (s : Statement) (x : BlockLine) → block_line block s ≡ Some x → x.parent ≡ block
own_parent block (statement.Menu title) x is = ap (λ h. h.parent) (sym (same_Some (record { kind = block_kind.Menu title; depends = []; parent = block }) x is))
own_parent block (statement.If e) x is = ap (λ h. h.parent) (sym (same_Some (record { kind = block_kind.If; depends = e ∷ []; parent = block }) x is))
own_parent block statement.Choice x is = ap (λ h. h.parent) (sym (same_Some (record { kind = block_kind.Choice; depends = []; parent = block }) x is))
own_parent block _ x is = absurd (none-some x is)

parents_made : (opens : Bool) (block : Option BlockId) (s : Statement) (o : Option BlockLine) → block_line block s ≡ o → length (cons_option o []) ≡ cond opens 1 0
    → map (λ h. h.parent) (cons_option o []) ≡ cond opens (block ∷ []) []
parents_made true block s None is e = absurd (omega (arith, e))
parents_made false block s None is e = refl
parents_made true block s (Some x) is e = ap (λ p. p ∷ []) (own_parent block s x is)
parents_made false block s (Some x) is e = absurd (omega (arith, e))

module _ (names : List (List ℕ)) where
  parents_push : (earlier : List LineValue) (is_last : Bool) (l : LineValue) (r : Reading) → IsReading names earlier is_last l r → (rs : List Reading)
      → parents (rs ++ r ∷ []) ≡ parents rs ++ cond (is_opener l) (innermost (open_blocks earlier) ∷ []) []
  parents_push earlier is_last l r reads rs =
      let one : length (blocks_made r.block r.statement) ≡ cond (is_opener l) 1 0 =
      one_block r.block r.statement ∙ ap (λ x. cond x 1 0) (sym (form_word is_opener_word refl names l r.statement reads.sound.form)) in
      ap (map (λ h. h.parent)) (filter_map-append (λ (q : Reading). block_line q.block q.statement) rs (r ∷ []))
      ∙ map-append (λ h. h.parent) (block_lines rs) (blocks_made r.block r.statement)
      ∙ ap (λ ps. parents rs ++ ps) (parents_made (is_opener l) r.block r.statement (block_line r.block r.statement) refl one)
      ∙ ap (λ b. parents rs ++ cond (is_opener l) (b ∷ []) []) reads.block

  pub chained : (following : ℕ) (earlier : List LineValue) (qs : List Reading) → AreReadingsBefore names following earlier qs → AreChained (parents (reverse qs)) (open_blocks earlier)
  chained following [] qs h = tt
  chained following (l ∷ earlier) [] h = absurd h
  chained following (l ∷ earlier) (q ∷ qs) h =
      let rs = reverse qs in
      let number : (block_opened l earlier).id.0 ≡ length (parents rs) = sym (length-map (block_lines rs) (λ h. h.parent) ∙ (counted names (following + 1) earlier qs h.1).blocks) in
      let next = chained_next (parents rs) (is_opener l) (is_closer l) (block_opened l earlier) (open_blocks earlier) number (chained (following + 1) earlier qs h.1) in
      subst (λ ps. AreChained ps (open_blocks (l ∷ earlier)))
      (sym (ap parents (reverse-append (q ∷ []) qs) ∙ parents_push earlier (following == 0) l q h.0 rs)) next

parents_append : (rs qs : List Reading) → parents (rs ++ qs) ≡ parents rs ++ parents qs
parents_append rs qs =
    ap (map (λ h. h.parent)) (filter_map-append (λ (q : Reading). block_line q.block q.statement) rs qs)
    ∙ map-append (λ h. h.parent) (block_lines rs) (block_lines qs)

-- ---- a part of the tree and the reading that makes it
pub mapped_some : {A B : Type 0} (f : A → B) (o : Option A) (y : B) → option_map f o ≡ Some y → (x : A) × (o ≡ Some x) × (f x ≡ y)
mapped_some f None y is = absurd (none-some y is)
mapped_some f (Some x) y is = (x, refl, same_Some (f x) y is)

-- the n-th of what readings make is made by one of them
pub record IsMadeAt {X : Type 0} (head : Reading → Option X) (rs : List Reading) (n : ℕ) (x : X) : Type 0 where
  pub place : ℕ
  pub maker : Reading
  pub there : slice_get rs place ≡ Some maker
  pub made : head maker ≡ Some x
  pub number : length (filter_map head (take place rs)) ≡ n

made_step : {X : Type 0} (head : Reading → Option X) (r : Reading) (rs : List Reading) (x : X) → ((m : ℕ) → slice_get (filter_map head rs) m ≡ Some x → IsMadeAt head rs m x)
    → (o : Option X) → head r ≡ o → (n : ℕ) → slice_get (cons_option o (filter_map head rs)) n ≡ Some x → IsMadeAt head (r ∷ rs) n x
made_step head r rs x rest None e n is =
    let h = rest n is in
    record {
      place = suc h.place;
      maker = h.maker;
      there = h.there;
      made = h.made;
      number = ap (λ o. length (cons_option o (filter_map head (take h.place rs)))) e ∙ h.number;
    }
made_step head r rs x rest (Some y) e zero is = record { place = 0; maker = r; there = refl; made = e ∙ is; number = refl }
made_step head r rs x rest (Some y) e (suc m) is =
    let h = rest m is in
    record {
      place = suc h.place;
      maker = h.maker;
      there = h.there;
      made = h.made;
      number = ap (λ o. length (cons_option o (filter_map head (take h.place rs)))) e ∙ ap suc h.number;
    }

pub made_at : {X : Type 0} (head : Reading → Option X) (rs : List Reading) (x : X) (n : ℕ) → slice_get (filter_map head rs) n ≡ Some x → IsMadeAt head rs n x
made_at head [] x n is = absurd (none-some x is)
made_at head (r ∷ rs) x n is = made_step head r rs x (made_at head rs x) (head r) refl n is

-- a block of the tree has the parent that its reading says
pub parent_block : (rs : List Reading) (n : ℕ) (p : Option BlockId) → slice_get (parents rs) n ≡ Some p → (x : BlockValue) × (slice_get (blocks_in rs) n ≡ Some x) × (x.parent ≡ p)
parent_block rs n p is =
    let head = mapped_some (λ h. h.parent) (slice_get (block_lines rs) n) p (sym (slice_get-map (λ h. h.parent) (block_lines rs) n) ∙ is) in (
      block_at rs (0 + n) head.0,
      at_placed (block_at rs) 0 (block_lines rs) n ∙ ap (option_map (block_at rs (0 + n))) head.1,
      head.2,
    )

one_passes : (b : Bool) → ◌≡◌ {A = ℕ} (cond b 1 0) 1 → b ≡ true
one_passes true e = refl
one_passes false e = absurd (omega (arith, e))

take_next : {X : Type 0} (xs : List X) (i : ℕ) (x : X) → slice_get xs i ≡ Some x → take (i + 1) xs ≡ take i xs ++ x ∷ []
take_next xs i x is = take_more xs i x (slice_get_within xs i x is) ∙ ap (λ y. take i xs ++ y ∷ []) (get_or_from_slice_get xs i x x is)

choice_of_owner : (s : Statement) (o : Option Owner) (c : ChoiceId) (own b : BlockId) → o ≡ Some (owner.Choice c own) → choice_block s o ≡ Some b → own ≡ b
choice_of_owner statement.Choice o c own b e is = same_Some own b (sym (ap (choice_block statement.Choice) e) ∙ is)
choice_of_owner _ o c own b e is = absurd (none-some b is)

-- ---- lines that are read
module _ (lines : List LineValue) (rs : List Reading) (read : AreReadings lines rs) where
  abbrev names : List (List ℕ)
  names = names_of lines

  pub in_order : (i : ℕ) → i ≤ length lines → AreReadingsBefore names (length lines - i) (before lines i) (reverse (take i rs))
  in_order i few =
      read_in_order lines i (reverse (take i rs)) (subst (AreFirstReadings lines i) (sym (reverse-reverse (take i rs))) (fewer lines (length lines) i rs few read))

  pub counts : (i : ℕ) → i ≤ length lines → AreCounted names (before lines i) (take i rs)
  counts i few =
      subst (AreCounted names (before lines i)) (reverse-reverse (take i rs)) (counted names (length lines - i) (before lines i) (reverse (take i rs)) (in_order i few))

  pub chain_at : (i : ℕ) → i ≤ length lines → AreChained (parents rs) (open_blocks (before lines i))
  chain_at i few =
      let front = subst (λ qs. AreChained (parents qs) (open_blocks (before lines i))) (reverse-reverse (take i rs)) (chained names (length lines - i) (before lines i) (reverse (take i rs)) (in_order i few)) in
      let all = chained_more (parents (take i rs)) (parents (drop i rs)) (open_blocks (before lines i)) front in
      subst (λ ps. AreChained ps (open_blocks (before lines i))) (sym (parents_append (take i rs) (drop i rs)) ∙ ap parents (take-append-drop i rs)) all

  number_at : (p : ℕ) (b : OpenBlock) → IsOpenedAt lines p b → b.id.0 ≡ block_number lines p
  number_at p b h = ap (λ x. x.id.0) h.block ∙ count_reverse is_opener (take p lines)

  around : (n : ℕ) (ps : List ℕ) (bs : List OpenBlock) → length bs ≤ n → AllZip (IsOpenedAt lines) ps bs → AreChained (parents rs) bs
      → AllZip (λ p b. slice_get (blocks_in rs) (block_number lines p) ≡ Some b) ps (blocks_from (blocks_in rs) n (innermost bs))
  around zero [] [] few h chain = tt
  around (suc n) [] [] few h chain = tt
  around n [] (b ∷ bs) few h chain = absurd h
  around n (p ∷ ps) [] few h chain = absurd h
  around zero (p ∷ ps) (b ∷ bs) few h chain = absurd (omega (arith, few))
  around (suc n) (p ∷ ps) (b ∷ bs) few h chain =
      let there = parent_block rs b.id.0 (innermost bs) chain.0 in
      let rest = around n ps bs (omega (arith, few)) h.1 chain.1 in
      let step : blocks_from (blocks_in rs) (suc n) (Some b.id) ≡ there.0 ∷ blocks_from (blocks_in rs) n there.0.parent =
      ap (λ o. option_map_or (λ x. x ∷ blocks_from (blocks_in rs) n x.parent) o []) there.1 in
      subst (λ xs. AllZip (λ p b. slice_get (blocks_in rs) (block_number lines p) ≡ Some b) (p ∷ ps) xs) (sym step) (
        ap (slice_get (blocks_in rs)) (sym (number_at p b h.0)) ∙ there.1,
        subst (λ o. AllZip (λ p b. slice_get (blocks_in rs) (block_number lines p) ≡ Some b) ps (blocks_from (blocks_in rs) n o)) (sym there.2) rest,
      )

  abbrev the_tree : TreeValue
  the_tree = tree_of names rs

  enclosed : (i : ℕ) (r : Reading) → slice_get rs i ≡ Some r → IsEnclosed lines the_tree i r.block
  enclosed i r there =
      let reads = read.each i r there in
      let within = slice_get_within lines i reads.line reads.is in
      let few : i ≤ length lines = omega (arith, within) in
      let open_there = open_at lines i few in
      record {
        openers = open_there.openers;
        enclosing = open_there.enclosing;
        blocks = subst (λ o. AllZip (λ p b. slice_get (blocks_in rs) (block_number lines p) ≡ Some b) open_there.openers (blocks_from (blocks_in rs) MOST_OPEN_BLOCKS o)) (sym reads.reads.block)
            (around MOST_OPEN_BLOCKS open_there.openers (open_blocks (before lines i)) (few_open names (length lines - i) (before lines i) (reverse (take i rs)) (in_order i few)) open_there.opened (chain_at i few));
      }

  module _ {X : Type 0} (head : Reading → Option X) (test : LineValue → Bool) (many : (i : ℕ) → i ≤ length lines → length (filter_map head (take i rs)) ≡ count_by test (take i lines)) where
    pub numbered : (n : ℕ) (x : X) (h : IsMadeAt head rs n x) → IsNumbered test lines n h.place
    numbered n x h =
        let i = h.place in
        let reads = read.each i h.maker h.there in
        let within = slice_get_within lines i reads.line reads.is in
        let here = many i (omega (arith, within)) in
        let next = many (i + 1) (omega (arith, within)) in
        let made : length (filter_map head (h.maker ∷ [])) ≡ 1 = ap (λ o. length (cons_option o [])) h.made in
        let more : length (filter_map head (take (i + 1) rs)) ≡ length (filter_map head (take i rs)) + length (filter_map head (h.maker ∷ [])) =
        ap (λ ys. length (filter_map head ys)) (take_next rs i h.maker h.there)
        ∙ ap length (filter_map-append head (take i rs) (h.maker ∷ []))
        ∙ length-append (filter_map head (take i rs)) (filter_map head (h.maker ∷ [])) in
        let count : count_by test (take (i + 1) lines) ≡ count_by test (take i lines) + cond (test reads.line) 1 0 =
        ap (count_by test) (take_next lines i reads.line reads.is) ∙ sum_by_push (λ y. cond (test y) 1 0) (take i lines) reads.line in
        record {
          line = reads.line;
          is = reads.is;
          passes = one_passes (test reads.line) (omega (arith, here, next, made, more, count));
          number = sym here ∙ h.number;
        }

  -- ---- the parts
  enclosed_in : (i : ℕ) (r : Reading) (block : Option BlockId) → slice_get rs i ≡ Some r → r.block ≡ block → IsEnclosed lines the_tree i block
  enclosed_in i r block there same = subst (IsEnclosed lines the_tree i) same (enclosed i r there)

  of_definition : (n : ℕ) (d : DefinitionValue) → slice_get (definitions_in rs) n ≡ Some d → (i : ℕ) × IsNumbered is_config lines n i × IsEnclosed lines the_tree i d.block
  of_definition n d is =
      let head = λ (q : Reading). definition_line q.block q.statement in
      let part = mapped_some (definition_at rs (0 + n)) (slice_get (definition_lines rs) n) d (sym (at_placed (definition_at rs) 0 (definition_lines rs) n) ∙ is) in
      let line : DefinitionLine = part.0 in
      let made = made_at head rs line n part.1 in
      let own = mapped_some (λ (s : SymId). record { symbol = s; block = made.maker.block }) (defined_in made.maker.statement) line made.made in
      let inside : made.maker.block ≡ line.block = ap (λ (h : DefinitionLine). h.block) own.2 in
      let says : line.block ≡ d.block = ap (λ (h : DefinitionValue). h.block) part.2 in (
        made.place,
        numbered head is_config (λ i few. (counts i few).definitions ∙ count_reverse is_config (take i lines)) n line made,
        enclosed_in made.place made.maker d.block made.there (inside ∙ says),
      )

  pub of_block : (n : ℕ) (b : BlockValue) → slice_get (blocks_in rs) n ≡ Some b → (i : ℕ) × IsNumbered is_opener lines n i × IsEnclosed lines the_tree i b.parent
  of_block n b is =
      let head = λ (q : Reading). block_line q.block q.statement in
      let part = mapped_some (block_at rs (0 + n)) (slice_get (block_lines rs) n) b (sym (at_placed (block_at rs) 0 (block_lines rs) n) ∙ is) in
      let line : BlockLine = part.0 in
      let made = made_at head rs line n part.1 in
      let inside : made.maker.block ≡ line.parent = sym (own_parent made.maker.block made.maker.statement line made.made) in
      let says : line.parent ≡ b.parent = ap (λ (h : BlockValue). h.parent) part.2 in (
        made.place,
        numbered head is_opener (λ i few. (counts i few).blocks ∙ count_reverse is_opener (take i lines)) n line made,
        enclosed_in made.place made.maker b.parent made.there (inside ∙ says),
      )

  of_comment : (n : ℕ) (c : CommentValue) → slice_get (comments_in rs) n ≡ Some c → (i : ℕ) × IsNumbered is_comment lines n i × IsEnclosed lines the_tree i c.block
  of_comment n c is =
      let head = λ (q : Reading). comment_line q.block q.choice q.statement in
      let part = mapped_some (comment_at rs (0 + n)) (slice_get (comment_lines rs) n) c (sym (at_placed (comment_at rs) 0 (comment_lines rs) n) ∙ is) in
      let line : CommentLine = part.0 in
      let made = made_at head rs line n part.1 in
      let own = mapped_some (λ (title : List ℕ). record { title = title; block = made.maker.block; choice = made.maker.choice }) (title_in made.maker.statement) line made.made in
      let inside : made.maker.block ≡ line.block = ap (λ (h : CommentLine). h.block) own.2 in
      let says : line.block ≡ c.block = ap (λ (h : CommentValue). h.block) part.2 in (
        made.place,
        numbered head is_comment (λ i few. (counts i few).comments ∙ count_reverse is_comment (take i lines)) n line made,
        enclosed_in made.place made.maker c.block made.there (inside ∙ says),
      )

  of_choice : (n : ℕ) (c : ChoiceValue) → slice_get (choices_in rs) n ≡ Some c → (i : ℕ) × IsNumbered is_choice lines n i × (c.block.0 ≡ block_number lines i)
  of_choice n c is =
      let head = λ (q : Reading). choice_block q.statement q.owner in
      let part = mapped_some (λ b. choice_at rs (0 + n) b) (slice_get (choice_blocks rs) n) c (sym (at_placed (choice_at rs) 0 (choice_blocks rs) n) ∙ is) in
      let made = made_at head rs part.0 n part.1 in
      let place = numbered head is_choice (λ i few. (counts i few).choices ∙ count_reverse is_choice (take i lines)) n part.0 made in
      let i = made.place in
      let reads = read.each i made.maker made.there in
      let line : place.line ≡ reads.line = same_Some place.line reads.line (sym place.is ∙ reads.is) in
      let word = the_choice (keyword_of reads.line) (ap is_choice (sym line) ∙ place.passes) in
      let choice : ChoiceId = record { 0 = count_by is_choice (before lines i) } in
      let own : BlockId = record { 0 = count_by is_opener (before lines i) } in
      let owned : made.maker.owner ≡ Some (owner.Choice choice own) =
      reads.reads.owner ∙ ap (λ k. if option_map_or is_attribute_word k false then owner_at names (before lines i) else made_by names k reads.line (before lines i)) word in
      let block : own ≡ part.0 = choice_of_owner made.maker.statement made.maker.owner choice own part.0 owned made.made in (
        i,
        place,
        ap (λ x. x.block.0) (sym part.2) ∙ ap (λ x. x.0) (sym block) ∙ count_reverse is_opener (take i lines),
      )

  enclosed_parts : AreBlocksEnclosing lines the_tree
  enclosed_parts = record { definitions = of_definition; blocks = of_block; choices = of_choice; comments = of_comment }

pub enclosing_of_outline : (lines : List LineValue) (t : TreeValue) → IsOutlineOf lines t → AreBlocksEnclosing lines t
enclosing_of_outline lines t outline = subst (AreBlocksEnclosing lines) (sym outline.tree) (enclosed_parts lines outline.readings outline.read)
