-- The blocks that are open at a line are those that the lines around it open.
use Rattle.std.proofs.Common.{◌≡◌, ℕ, zero, suc, ◌+◌, ◌<◌, ◌≤◌, Bool, true, false, ◌&&◌, cond, if◌then◌else◌, List, [], ◌∷◌, ◌++◌, length, drop, take, reverse, Option, Some, None, count_by, refl, sym, ap, ◌∙◌, subst, inl, inr, arith}
use Rattle.std.specs.List.{AllByRecursion, AllPairs, AllZip, Contains, slice_get, slice_index_or}
use Rattle.std.specs.Option.{option_map_or}
use Rattle.std.proofs.lemmas.Bool.{cases_lt}
use Rattle.std.proofs.lemmas.List.{reverse-append, reverse-reverse, length-append, length-reverse, length-take-le, take-append-drop, take-append-le, drop-append-le}
use Rattle.std.proofs.lemmas.List.Elements.{All-from_recursion}
use Rattle.std.proofs.lemmas.List.Kept.{AllPairs-cons}
use Rattle.std.proofs.lemmas.List.Sums.{sum_by_push}
use Rattle.std.proofs.lemmas.Option.{none-some, slice_get_within}
use Rattle.std.proofs.Math.Seq.{take-length, drop-append_seam, take-append_seam}
use Rattle.kc_text.specs.LineValue.{LineValue}
use Rattle.kc_statement.specs.declared.keyword.Keyword.{Keyword}
use Rattle.kc_statement.specs.declared.keyword.Keyword.TheVariants as keyword
use Rattle.kc_statement.specs.Keywords.{keyword_of, is_opener, is_closer, is_opener_word, is_closer_word}
use Rattle.kc_outline.specs.declared.context.OpenBlock.{OpenBlock}
use Rattle.kc_outline.specs.Enclosing.{before, block_opened, open_blocks}
use Rattle.kc_outline.specs.Blocks.{StaysOpen, Encloses, AreEnclosing, IsOpenedAt, AreOpenAt}

-- ---- one line more
counted : (p : LineValue → Bool) (ls : List LineValue) (l : LineValue) → count_by p (ls ++ l ∷ []) ≡ count_by p ls + cond (p l) 1 0
counted p ls l = sum_by_push (λ x. cond (p x) 1 0) ls l

length_more : {X : Type 0} (xs : List X) (x : X) → length (xs ++ x ∷ []) ≡ length xs + 1
length_more xs x = length-append xs (x ∷ [])

no_closer_of : (k : Keyword) → (is_opener_word k && is_closer_word k) ≡ false
no_closer_of keyword.Menu = refl
no_closer_of keyword.If = refl
no_closer_of keyword.Choice = refl
no_closer_of _ = refl

no_closer : (k : Option Keyword) → option_map_or is_opener_word k false ≡ true → option_map_or is_closer_word k false ≡ false
no_closer None h = refl
no_closer (Some k) h = ap (λ b. b && is_closer_word k) (sym h) ∙ no_closer_of k

stays_push : (xs : List LineValue) (l : LineValue) → StaysOpen xs → count_by is_closer (xs ++ l ∷ []) < count_by is_opener (xs ++ l ∷ []) → StaysOpen (xs ++ l ∷ [])
stays_push xs l stays whole k some few = elim (cases_lt (length xs) k) [
  | inl past ↦
      let all : length (xs ++ l ∷ []) ≡ k = omega (arith, length_more xs l, few, past) in
      let same : xs ++ l ∷ [] ≡ take k (xs ++ l ∷ []) = sym (ap (λ n. take n (xs ++ l ∷ [])) (sym all) ∙ take-length (xs ++ l ∷ [])) in
      subst (λ ys. count_by is_closer ys < count_by is_opener ys) same whole
  | inr within ↦
      subst (λ ys. count_by is_closer ys < count_by is_opener ys) (sym (take-append-le k xs (l ∷ []) within)) (stays k some within)
]

stays_front : (xs : List LineValue) (l : LineValue) → StaysOpen (xs ++ l ∷ []) → StaysOpen xs
stays_front xs l stays k some few =
    subst (λ ys. count_by is_closer ys < count_by is_opener ys) (take-append-le k xs (l ∷ []) few) (stays k some (omega (arith, length_more xs l, few)))

stays_whole : (xs : List LineValue) → StaysOpen xs → 0 < length xs → count_by is_closer xs < count_by is_opener xs
stays_whole xs stays some = subst (λ ys. count_by is_closer ys < count_by is_opener ys) (take-length xs) (stays (length xs) some (omega arith))

-- ---- the places of the lines whose blocks are open, the innermost first
abbrev pub places : List LineValue → List ℕ
places [] = []
places (l ∷ earlier) =
    if is_opener l then length earlier ∷ places earlier
    else (if is_closer l then drop 1 (places earlier) else places earlier)

-- the line at a place below a bound opens a block, and `level` of the blocks from it on are open
record IsOpen (ls : List LineValue) (bound level place : ℕ) : Type 0 where
  below : place < bound
  stays : StaysOpen (drop place ls)
  many : count_by is_opener (drop place ls) ≡ count_by is_closer (drop place ls) + level

abbrev AreOpen : List LineValue → ℕ → ℕ → List ℕ → Type 0
AreOpen ls bound level [] = Unit {0}
AreOpen ls bound level (p ∷ ps) = IsOpen ls bound level p × AreOpen ls p (level + 1) ps

weaker : (ls : List LineValue) (bound more level : ℕ) (ps : List ℕ) → bound ≤ more → AreOpen ls bound level ps → AreOpen ls more level ps
weaker ls bound more level [] few h = tt
weaker ls bound more level (p ∷ ps) few h = (record { below = (let here = h.0.below in omega (arith, here, few)); stays = h.0.stays; many = h.0.many }, h.1)

module _ (ls : List LineValue) (l : LineValue) where
  one_open : (bound n m p : ℕ) → bound ≤ length ls → cond (is_opener l) 1 0 + n ≡ cond (is_closer l) 1 0 + m → 0 < m → IsOpen ls bound n p → IsOpen (ls ++ l ∷ []) bound m p
  one_open bound n m p few even some h =
      let here = h.below in
      let dropped : drop p (ls ++ l ∷ []) ≡ drop p ls ++ l ∷ [] = drop-append-le p ls (l ∷ []) (omega (arith, few, here)) in
      let opens = counted is_opener (drop p ls) l in
      let closes = counted is_closer (drop p ls) l in
      let old = h.many in
      let many : count_by is_opener (drop p ls ++ l ∷ []) ≡ count_by is_closer (drop p ls ++ l ∷ []) + m = omega (arith, opens, closes, even, old) in
      record {
        below = here;
        stays = subst StaysOpen (sym dropped) (stays_push (drop p ls) l h.stays (omega (arith, many, some)));
        many = subst (λ ys. count_by is_opener ys ≡ count_by is_closer ys + m) (sym dropped) many;
      }

  still : (ps : List ℕ) (bound n m : ℕ) → bound ≤ length ls → cond (is_opener l) 1 0 + n ≡ cond (is_closer l) 1 0 + m → 0 < m → AreOpen ls bound n ps → AreOpen (ls ++ l ∷ []) bound m ps
  still [] bound n m few even some h = tt
  still (p ∷ ps) bound n m few even some h =
      let here = h.0.below in
      (one_open bound n m p few even some h.0, still ps p (n + 1) (m + 1) (omega (arith, few, here)) (omega (arith, even)) (omega arith) h.1)

  last_line : drop (length ls) (ls ++ l ∷ []) ≡ l ∷ []
  last_line = drop-append_seam ls (l ∷ [])

  -- a line that opens a block
  opened : is_opener l ≡ true → is_closer l ≡ false → IsOpen (ls ++ l ∷ []) (length (ls ++ l ∷ [])) 1 (length ls)
  opened opens closes =
      let one : ◌≡◌ {A = ℕ} (cond (is_opener l) 1 0) 1 = ap (λ b. cond b 1 0) opens in
      let none : ◌≡◌ {A = ℕ} (cond (is_closer l) 1 0) 0 = ap (λ b. cond b 1 0) closes in
      let openers = counted is_opener [] l in
      let closers = counted is_closer [] l in
      let many : count_by is_opener (l ∷ []) ≡ count_by is_closer (l ∷ []) + 1 = omega (arith, openers, closers, one, none) in
      record {
        below = omega (arith, length_more ls l);
        stays = subst StaysOpen (sym last_line) (stays_push [] l (λ k some few. absurd (omega (arith, some, few))) (omega (arith, many)));
        many = subst (λ ys. count_by is_opener ys ≡ count_by is_closer ys + 1) (sym last_line) many;
      }

-- what is open after lines: these places, and no other
record IsStack (ls : List LineValue) (ps : List ℕ) : Type 0 where
  open_there : AreOpen ls (length ls) 1 ps
  all : (i : ℕ) → i < length ls → StaysOpen (drop i ls) → Contains ps i

contains_more : (ps : List ℕ) (p i : ℕ) → Contains ps i → Contains (p ∷ ps) i
contains_more ps p i h = (suc h.0, (let few = h.1 in omega (arith, few)), h.2)

module _ (ls : List LineValue) (l : LineValue) (ps : List ℕ) (stack : IsStack ls ps) where
  front : (i : ℕ) → i < length ls → StaysOpen (drop i (ls ++ l ∷ [])) → StaysOpen (drop i ls ++ l ∷ [])
  front i within stays = subst StaysOpen (drop-append-le i ls (l ∷ []) (omega (arith, within))) stays

  -- a line that opens no block is not open itself
  no_opener : (i : ℕ) → is_opener l ≡ false → length ls ≤ i → i < length (ls ++ l ∷ []) → StaysOpen (drop i (ls ++ l ∷ [])) → ⊥
  no_opener i opens past within stays =
      let last : i ≡ length ls = omega (arith, past, within, length_more ls l) in
      let here : StaysOpen (l ∷ []) = subst StaysOpen (ap (λ n. drop n (ls ++ l ∷ [])) last ∙ last_line ls l) stays in
      let none : ◌≡◌ {A = ℕ} (cond (is_opener l) 1 0) 0 = ap (λ b. cond b 1 0) opens in
      let openers = counted is_opener [] l in
      let whole = stays_whole (l ∷ []) here (omega arith) in
      omega (arith, none, openers, whole)

  by_opener : is_opener l ≡ true → is_closer l ≡ false → IsStack (ls ++ l ∷ []) (length ls ∷ ps)
  by_opener opens closes =
      let one : ◌≡◌ {A = ℕ} (cond (is_opener l) 1 0) 1 = ap (λ b. cond b 1 0) opens in
      let none : ◌≡◌ {A = ℕ} (cond (is_closer l) 1 0) 0 = ap (λ b. cond b 1 0) closes in
      record {
        open_there = (opened ls l opens closes, still ls l ps (length ls) 1 2 (omega arith) (omega (arith, one, none)) (omega arith) stack.open_there);
        all = every;
      }
    where
      every : (i : ℕ) → i < length (ls ++ l ∷ []) → StaysOpen (drop i (ls ++ l ∷ [])) → Contains (length ls ∷ ps) i
      every i within stays = elim (cases_lt i (length ls)) [
        | inl earlier ↦ contains_more ps (length ls) i (stack.all i earlier (stays_front (drop i ls) l (front i earlier stays)))
        | inr past ↦ (0, omega arith, omega (arith, past, within, length_more ls l))
      ]

  -- a line that closes a block closes the innermost
  dropped : (qs : List ℕ) → AreOpen ls (length ls) 1 qs → is_closer l ≡ true → is_opener l ≡ false → AreOpen (ls ++ l ∷ []) (length (ls ++ l ∷ [])) 1 (drop 1 qs)
  dropped [] h closes opens = tt
  dropped (q ∷ qs) h closes opens =
      let one : ◌≡◌ {A = ℕ} (cond (is_closer l) 1 0) 1 = ap (λ b. cond b 1 0) closes in
      let none : ◌≡◌ {A = ℕ} (cond (is_opener l) 1 0) 0 = ap (λ b. cond b 1 0) opens in
      let here = h.0.below in
      weaker (ls ++ l ∷ []) q (length (ls ++ l ∷ [])) 1 qs (omega (arith, here, length_more ls l))
      (still ls l qs q 2 1 (omega (arith, here)) (omega (arith, one, none)) (omega arith) h.1)

  not_innermost : (i : ℕ) (qs : List ℕ) (k : ℕ) → AreOpen ls (length ls) 1 qs → is_closer l ≡ true → is_opener l ≡ false → StaysOpen (drop i ls ++ l ∷ []) → k < length qs → slice_index_or qs k i ≡ i → Contains (drop 1 qs) i
  not_innermost i [] k h closes opens stays within is = absurd (omega (arith, within))
  not_innermost i (q ∷ qs) zero h closes opens stays within is =
      let one : ◌≡◌ {A = ℕ} (cond (is_closer l) 1 0) 1 = ap (λ b. cond b 1 0) closes in
      let none : ◌≡◌ {A = ℕ} (cond (is_opener l) 1 0) 0 = ap (λ b. cond b 1 0) opens in
      let many : count_by is_opener (drop i ls) ≡ count_by is_closer (drop i ls) + 1 = subst (λ p. count_by is_opener (drop p ls) ≡ count_by is_closer (drop p ls) + 1) is h.0.many in
      let openers = counted is_opener (drop i ls) l in
      let closers = counted is_closer (drop i ls) l in
      let whole = stays_whole (drop i ls ++ l ∷ []) stays (omega (arith, length_more (drop i ls) l)) in
      absurd (omega (arith, one, none, many, openers, closers, whole))
  not_innermost i (q ∷ qs) (suc k) h closes opens stays within is = (k, omega (arith, within), is)

  by_closer : is_closer l ≡ true → is_opener l ≡ false → IsStack (ls ++ l ∷ []) (drop 1 ps)
  by_closer closes opens = record { open_there = dropped ps stack.open_there closes opens; all = every } where
    every : (i : ℕ) → i < length (ls ++ l ∷ []) → StaysOpen (drop i (ls ++ l ∷ [])) → Contains (drop 1 ps) i
    every i within stays = elim (cases_lt i (length ls)) [
      | inl earlier ↦
          let there = stack.all i earlier (stays_front (drop i ls) l (front i earlier stays)) in
          not_innermost i ps there.0 stack.open_there closes opens (front i earlier stays) there.1 there.2
      | inr past ↦ absurd (no_opener i opens past within stays)
    ]

  by_other : is_closer l ≡ false → is_opener l ≡ false → IsStack (ls ++ l ∷ []) ps
  by_other closes opens =
      let none : ◌≡◌ {A = ℕ} (cond (is_closer l) 1 0) 0 = ap (λ b. cond b 1 0) closes in
      let neither : ◌≡◌ {A = ℕ} (cond (is_opener l) 1 0) 0 = ap (λ b. cond b 1 0) opens in
      record {
        open_there = weaker (ls ++ l ∷ []) (length ls) (length (ls ++ l ∷ [])) 1 ps (omega (arith, length_more ls l))
            (still ls l ps (length ls) 1 1 (omega arith) (omega (arith, none, neither)) (omega arith) stack.open_there);
        all = every;
      }
    where
      every : (i : ℕ) → i < length (ls ++ l ∷ []) → StaysOpen (drop i (ls ++ l ∷ [])) → Contains ps i
      every i within stays = elim (cases_lt i (length ls)) [
        | inl earlier ↦ stack.all i earlier (stays_front (drop i ls) l (front i earlier stays))
        | inr past ↦ absurd (no_opener i opens past within stays)
      ]

  next_stack : (o c : Bool) → is_opener l ≡ o → is_closer l ≡ c → IsStack (ls ++ l ∷ []) (cond o (length ls ∷ ps) (cond c (drop 1 ps) ps))
  next_stack true c opens closes = by_opener opens (no_closer (keyword_of l) opens)
  next_stack false true opens closes = by_closer closes opens
  next_stack false false opens closes = by_other closes opens

reverse_push : {X : Type 0} (x : X) (xs : List X) → reverse (x ∷ xs) ≡ reverse xs ++ x ∷ []
reverse_push x xs = reverse-append (x ∷ []) xs

stack_of : (earlier : List LineValue) → IsStack (reverse earlier) (places earlier)
stack_of [] = record { open_there = tt; all = λ i within. absurd (omega (arith, within)) }
stack_of (l ∷ earlier) =
    subst (λ ls. IsStack ls (places (l ∷ earlier))) (sym (reverse_push l earlier))
    (subst (λ n. IsStack (reverse earlier ++ l ∷ []) (cond (is_opener l) (n ∷ places earlier) (cond (is_closer l) (drop 1 (places earlier)) (places earlier)))) (length-reverse earlier)
    (next_stack (reverse earlier) l (places earlier) (stack_of earlier) (is_opener l) (is_closer l) refl refl))

-- ---- the places are those of the lines that enclose
module _ (lines : List LineValue) (j : ℕ) where
  each_encloses : (ps : List ℕ) (bound level : ℕ) → bound ≤ j → AreOpen (take j lines) bound level ps → AllByRecursion (λ i. Encloses lines i j) ps
  each_encloses [] bound level few h = tt
  each_encloses (p ∷ ps) bound level few h =
      let here = h.0.below in
      ((omega (arith, here, few), h.0.stays), each_encloses ps p (level + 1) (omega (arith, here, few)) h.1)

  all_below : (ps : List ℕ) (bound more level : ℕ) → bound ≤ more → AreOpen (take j lines) bound level ps → AllByRecursion (λ k. k < more) ps
  all_below [] bound more level few h = tt
  all_below (p ∷ ps) bound more level few h =
      let here = h.0.below in
      (omega (arith, here, few), all_below ps p more (level + 1) (omega (arith, here, few)) h.1)

  decreasing : (ps : List ℕ) (bound level : ℕ) → AreOpen (take j lines) bound level ps → AllPairs (λ i k. k < i) ps
  decreasing [] bound level h = λ i k d before within. absurd (omega (arith, within))
  decreasing (p ∷ ps) bound level h =
      AllPairs-cons (λ i k. k < i) p ps (All-from_recursion (λ k. k < p) ps (all_below ps p p (level + 1) (omega arith) h.1)) (decreasing ps p (level + 1) h.1)

  pub places_enclose : j ≤ length lines → AreEnclosing lines j (places (before lines j))
  places_enclose few =
      let stack : IsStack (take j lines) (places (before lines j)) = subst (λ ls. IsStack ls (places (before lines j))) (reverse-reverse (take j lines)) (stack_of (before lines j)) in
      let many : length (take j lines) ≡ j = length-take-le j lines few in
      record {
        each = All-from_recursion (λ i. Encloses lines i j) (places (before lines j)) (each_encloses (places (before lines j)) (length (take j lines)) 1 (omega (arith, many)) stack.open_there);
        all = λ i h. stack.all i (let here = h.0 in omega (arith, here, many)) h.1;
        innermost_first = decreasing (places (before lines j)) (length (take j lines)) 1 stack.open_there;
      }

-- ---- and the open blocks are those that these lines open
pub slice_get_left : {X : Type 0} (xs ys : List X) (i : ℕ) (x : X) → slice_get xs i ≡ Some x → slice_get (xs ++ ys) i ≡ Some x
slice_get_left [] ys i x is = absurd (none-some x is)
slice_get_left (z ∷ xs) ys zero x is = is
slice_get_left (z ∷ xs) ys (suc i) x is = slice_get_left xs ys i x is

pub slice_get_seam : {X : Type 0} (xs : List X) (x : X) (ys : List X) → slice_get (xs ++ x ∷ ys) (length xs) ≡ Some x
slice_get_seam [] x ys = refl
slice_get_seam (z ∷ xs) x ys = slice_get_seam xs x ys

module _ (ls : List LineValue) (l : LineValue) where
  opened_before : (i : ℕ) (b : OpenBlock) → IsOpenedAt ls i b → IsOpenedAt (ls ++ l ∷ []) i b
  opened_before i b h =
      let within = slice_get_within ls i h.line h.is in
      record {
        line = h.line;
        is = slice_get_left ls (l ∷ []) i h.line h.is;
        block = h.block ∙ ap (λ ys. block_opened h.line (reverse ys)) (sym (take-append-le i ls (l ∷ []) (omega (arith, within))));
      }

  opened_here : IsOpenedAt (ls ++ l ∷ []) (length ls) (block_opened l (reverse ls))
  opened_here = record {
    line = l;
    is = slice_get_seam ls l [];
    block = ap (λ ys. block_opened l (reverse ys)) (sym (take-append_seam ls (l ∷ [])));
  }

  all_opened : (ps : List ℕ) (bs : List OpenBlock) → AllZip (IsOpenedAt ls) ps bs → AllZip (IsOpenedAt (ls ++ l ∷ [])) ps bs
  all_opened [] [] h = tt
  all_opened [] (b ∷ bs) h = absurd h
  all_opened (p ∷ ps) [] h = absurd h
  all_opened (p ∷ ps) (b ∷ bs) h = (opened_before p b h.0, all_opened ps bs h.1)

  next_opened : (ps : List ℕ) (bs : List OpenBlock) (o c : Bool) → AllZip (IsOpenedAt ls) ps bs → AllZip (IsOpenedAt (ls ++ l ∷ [])) (cond o (length ls ∷ ps) (cond c (drop 1 ps) ps)) (cond o (block_opened l (reverse ls) ∷ bs) (cond c (drop 1 bs) bs))
  next_opened ps bs true c h = (opened_here, all_opened ps bs h)
  next_opened ps bs false true h = rest ps bs h where
    rest : (ps : List ℕ) (bs : List OpenBlock) → AllZip (IsOpenedAt ls) ps bs → AllZip (IsOpenedAt (ls ++ l ∷ [])) (drop 1 ps) (drop 1 bs)
    rest [] [] h = tt
    rest [] (b ∷ bs) h = absurd h
    rest (p ∷ ps) [] h = absurd h
    rest (p ∷ ps) (b ∷ bs) h = all_opened ps bs h.1
  next_opened ps bs false false h = all_opened ps bs h

blocks_opened : (earlier : List LineValue) → AllZip (IsOpenedAt (reverse earlier)) (places earlier) (open_blocks earlier)
blocks_opened [] = tt
blocks_opened (l ∷ earlier) =
    subst (λ ls. AllZip (IsOpenedAt ls) (places (l ∷ earlier)) (open_blocks (l ∷ earlier))) (sym (reverse_push l earlier))
    (subst (λ n. AllZip (IsOpenedAt (reverse earlier ++ l ∷ [])) (cond (is_opener l) (n ∷ places earlier) (cond (is_closer l) (drop 1 (places earlier)) (places earlier))) (open_blocks (l ∷ earlier))) (length-reverse earlier)
    (subst (λ ls. AllZip (IsOpenedAt (reverse earlier ++ l ∷ [])) (cond (is_opener l) (length (reverse earlier) ∷ places earlier) (cond (is_closer l) (drop 1 (places earlier)) (places earlier))) (cond (is_opener l) (block_opened l ls ∷ open_blocks earlier) (cond (is_closer l) (drop 1 (open_blocks earlier)) (open_blocks earlier)))) (reverse-reverse earlier)
    (next_opened (reverse earlier) l (places earlier) (open_blocks earlier) (is_opener l) (is_closer l) (blocks_opened earlier))))

-- ---- of all lines, whose first ones these are
pub at_take : {X : Type 0} (xs : List X) (n i : ℕ) (x : X) → slice_get (take n xs) i ≡ Some x → slice_get xs i ≡ Some x
at_take [] zero i x is = is
at_take [] (suc n) i x is = is
at_take (z ∷ xs) zero i x is = absurd (none-some x is)
at_take (z ∷ xs) (suc n) zero x is = is
at_take (z ∷ xs) (suc n) (suc i) x is = at_take xs n i x is

module _ (lines : List LineValue) (j : ℕ) where
  opened_there : (i : ℕ) (b : OpenBlock) → IsOpenedAt (take j lines) i b → IsOpenedAt lines i b
  opened_there i b h =
      let within = slice_get_within (take j lines) i h.line h.is in
      let front : take i (take j lines) ≡ take i lines =
      sym (take-append-le i (take j lines) (drop j lines) (omega (arith, within))) ∙ ap (take i) (take-append-drop j lines) in
      record {
        line = h.line;
        is = at_take lines j i h.line h.is;
        block = h.block ∙ ap (λ ys. block_opened h.line (reverse ys)) front;
      }

  all_there : (ps : List ℕ) (bs : List OpenBlock) → AllZip (IsOpenedAt (take j lines)) ps bs → AllZip (IsOpenedAt lines) ps bs
  all_there [] [] h = tt
  all_there [] (b ∷ bs) h = absurd h
  all_there (p ∷ ps) [] h = absurd h
  all_there (p ∷ ps) (b ∷ bs) h = (opened_there p b h.0, all_there ps bs h.1)

  pub open_at : j ≤ length lines → AreOpenAt lines j
  open_at few = record {
    openers = places (before lines j);
    enclosing = places_enclose lines j few;
    opened = all_there (places (before lines j)) (open_blocks (before lines j))
        (subst (λ ls. AllZip (IsOpenedAt ls) (places (before lines j)) (open_blocks (before lines j))) (reverse-reverse (take j lines)) (blocks_opened (before lines j)));
  }
