-- The blocks around the lines of a file, and where a file begins, line by line.
use Rattle.std.proofs.Common.{◌≡◌, ℕ, suc, ◌+◌, ◌-◌, ◌<◌, ◌≤◌, ◌==◌, Bool, true, false, not, ◌&&◌, ◌||◌, cond, if◌then◌else◌, List, [], ◌∷◌, Option, Some, None, drop, length, map, reverse, take, get_or, slice_get, slice_set, nat_lt, refl, sym, ap, ◌∙◌, subst, ⊎_elim, arith}
use denote.Ref.{Bor}
use Rattle.std.specs.Prelude.{count_by, option_and_then, option_map, position}
use Rattle.std.specs.List.{filter, list_any, prefix_len, range_with_len}
use Rattle.std.specs.Option.{option_map_or}
use Rattle.std.specs.Str.{bytes_eq}
use Rattle.std.proofs.lemmas.Bool.{cases_eq, eq-eqb, ne_eqb, le-ltb, lt-ltb, ltb-false, ltb-true}
use Rattle.std.proofs.lemmas.List.{get_or-set_same, get_or-set_other, length-map, reverse-append, take_more}
use Rattle.std.proofs.lemmas.List.Sums.{sum_by-cons}
use Rattle.std.proofs.lemmas.List.FromFn.{get_or-map-range_with_len}
use Rattle.std.proofs.lemmas.Option.{none-some, same_Some, slice_get-map, slice_get_within, get_or_from_slice_get}
use Rattle.kc_text.specs.LineValue.{LineValue}
use Rattle.kc_statement.specs.declared.keyword.Keyword.{Keyword}
use Rattle.kc_statement.specs.Keywords.{is_closer, is_closer_word, is_opener, is_opener_word, keyword_of}
use Rattle.kc_outline.specs.Enclosing.{before, block_opened, open_blocks}
use Rattle.kc_outline.specs.TreeValue.{TreeValue}
use Rattle.kc_lines.specs.Culprits.{first_with}
use Rattle.kc_line_facts.specs.UnusedDefaults.{is_end}
use Rattle.kc_line_facts.specs.ReadingOrder.{lent_run}
use Rattle.kc_line_facts.specs.SourcedFiles.{condition_around, end_of_run, first_before, first_run_of, has_statement, if_earlier, is_around, is_repeated, lent_first, lent_first_before, noted_run, numbers_after, open_numbers, repeated_with, start_of}

-- ---- open blocks
numbers_of_rest : {B : Type 0} (id : B → ℕ) (bs : List B) → map id (drop 1 bs) ≡ drop 1 (map id bs)
numbers_of_rest id [] = refl
numbers_of_rest id (b ∷ bs) = refl

numbers_by : {B : Type 0} (id : B → ℕ) (opens closes : Bool) (b : B) (bs : List B)
    → map id (if opens then b ∷ bs else (if closes then drop 1 bs else bs))
    ≡ (if opens then id b ∷ map id bs else (if closes then drop 1 (map id bs) else map id bs))
numbers_by id true closes b bs = refl
numbers_by id false true b bs = numbers_of_rest id bs
numbers_by id false false b bs = refl

by_word : (k : Option Keyword) (n : ℕ) (ns : List ℕ)
    → (if option_map_or is_opener_word k false then n ∷ ns else (if option_map_or is_closer_word k false then drop 1 ns else ns)) ≡ numbers_after k n ns
by_word None n ns = refl
by_word (Some word) n ns = refl

-- the lines before the next place
pub before_more : (lines : List LineValue) (i : ℕ) (l : LineValue) → slice_get lines i ≡ Some l → before lines (i + 1) ≡ l ∷ before lines i
before_more lines i l is =
    let within = slice_get_within lines i l is in
    ap reverse (take_more lines i l within) ∙ reverse-append (take i lines) (get_or lines i l ∷ []) ∙ ap (λ x. x ∷ before lines i) (get_or_from_slice_get lines i l l is)

-- the open blocks after one more line
pub numbers_more : (lines : List LineValue) (i n : ℕ) (l : LineValue) (k : Option Keyword) (around new : List ℕ) → slice_get lines i ≡ Some l
    → k ≡ keyword_of l → around ≡ open_numbers lines i → n ≡ count_by is_opener (before lines i) → new ≡ numbers_after k n around
    → new ≡ open_numbers lines (i + 1)
numbers_more lines i n l k around new is k_is around_is n_is step =
    step
    ∙ ap (numbers_after k n) around_is
    ∙ ap (λ m. numbers_after k m (open_numbers lines i)) n_is
    ∙ ap (λ w. numbers_after w (count_by is_opener (before lines i)) (open_numbers lines i)) k_is
    ∙ sym (numbers_by (λ b. b.id.0) (is_opener l) (is_closer l) (block_opened l (before lines i)) (open_blocks (before lines i))
    ∙ by_word (keyword_of l) (count_by is_opener (before lines i)) (open_numbers lines i))
    ∙ ap (λ ls. map (λ b. b.id.0) (open_blocks ls)) (sym (before_more lines i l is))

counted : (b : Bool) (n new : ℕ) → new ≡ (if b then n + 1 else n) → cond b 1 0 + n ≡ new
counted true n new is = omega (arith, is)
counted false n new is = omega (arith, is)

-- how many blocks were opened after one more line
pub count_more : (lines : List LineValue) (i n new : ℕ) (l : LineValue) (k : Option Keyword) → slice_get lines i ≡ Some l
    → k ≡ keyword_of l → n ≡ count_by is_opener (before lines i) → new ≡ (if option_map_or is_opener_word k false then n + 1 else n)
    → new ≡ count_by is_opener (before lines (i + 1))
count_more lines i n new l k is k_is n_is step =
    sym (ap (count_by is_opener) (before_more lines i l is)
    ∙ sum_by-cons (λ x. cond (is_opener x) 1 0) l (before lines i)
    ∙ ap (λ m. cond (is_opener l) 1 0 + m) (sym n_is)
    ∙ ap (λ w. cond (option_map_or is_opener_word w false) 1 0 + n) (sym k_is)
    ∙ counted (option_map_or is_opener_word k false) n new step)

-- ---- how many first ones have less than a number
less_first : (a r s : ℕ) → nat_lt a r ≡ true → r ≤ s → nat_lt a s ≡ true
less_first a r s is le = let below = ltb-true a r is in lt-ltb a s (omega (arith, below, le))

one_more : (a b c : ℕ) → a ≡ b + c → 1 + a ≡ 1 + b + c
one_more a b c is = omega (arith, is)

pub plus_none : (n : ℕ) → n ≡ 0 + n
plus_none n = omega arith

below_by : {X : Type 0} (key : X → ℕ) (x : X) (xs : List X) (r s : ℕ) (b : Bool) → nat_lt (key x) r ≡ b → r ≤ s
    → (prefix_len (λ y. nat_lt (key y) s) xs ≡ prefix_len (λ y. nat_lt (key y) r) xs + prefix_len (λ y. nat_lt (key y) s) (drop (prefix_len (λ y. nat_lt (key y) r) xs) xs))
    → cond (nat_lt (key x) s) (1 + prefix_len (λ y. nat_lt (key y) s) xs) 0
    ≡ cond b (1 + prefix_len (λ y. nat_lt (key y) r) xs) 0 + prefix_len (λ y. nat_lt (key y) s) (drop (cond b (1 + prefix_len (λ y. nat_lt (key y) r) xs) 0) (x ∷ xs))
below_by key x xs r s true is le rest =
    let below = λ (n : ℕ). prefix_len (λ y. nat_lt (key y) n) xs in
    let one : 1 + below r ≡ suc (below r) = omega arith in
    ap (λ b. cond b (1 + below s) 0) (less_first (key x) r s is le)
    ∙ one_more (below s) (below r) (prefix_len (λ y. nat_lt (key y) s) (drop (below r) xs)) rest
    ∙ ap (λ n. 1 + below r + prefix_len (λ y. nat_lt (key y) s) (drop n (x ∷ xs))) (sym one)
below_by key x xs r s false is le rest = plus_none (cond (nat_lt (key x) s) (1 + prefix_len (λ y. nat_lt (key y) s) xs) 0)

-- those below a greater number are counted on from those below a smaller one
pub below_next : {X : Type 0} (key : X → ℕ) (xs : List X) (r s : ℕ) → r ≤ s
    → prefix_len (λ y. nat_lt (key y) s) xs ≡ prefix_len (λ y. nat_lt (key y) r) xs + prefix_len (λ y. nat_lt (key y) s) (drop (prefix_len (λ y. nat_lt (key y) r) xs) xs)
below_next key [] r s le = refl
below_next key (x ∷ xs) r s le = below_by key x xs r s (nat_lt (key x) r) refl le (below_next key xs r s le)

pub below_zero : {X : Type 0} (key : X → ℕ) (xs : List X) → prefix_len (λ y. nat_lt (key y) 0) xs ≡ 0
below_zero key [] = refl
below_zero key (x ∷ xs) = ap (λ b. cond b (1 + prefix_len (λ y. nat_lt (key y) 0) xs) 0) (le-ltb (key x) 0 (omega arith))

-- ---- where an inclusion begins
pub start_next : (lines : List LineValue) (r s : ℕ) → r ≤ s
    → start_of lines s ≡ start_of lines r + prefix_len (λ l. nat_lt l.run s) (drop (start_of lines r) lines)
start_next lines r s le = below_next (λ (l : LineValue). l.run) lines r s le

pub start_zero : (lines : List LineValue) → start_of lines 0 ≡ 0
start_zero lines = below_zero (λ (l : LineValue). l.run) lines

pub next_start : (lines : List LineValue) (from start r : ℕ) → from ≡ start_of lines (r - 1) → start ≡ from + prefix_len (λ l. nat_lt l.run r) (drop from lines)
    → start ≡ start_of lines r
next_start lines from start r is step =
    step ∙ ap (λ f. f + prefix_len (λ l. nat_lt l.run r) (drop f lines)) is ∙ sym (start_next lines (r - 1) r (omega arith))

-- ---- runs with a statement
noted_by : (noted : List Bool) (r k : ℕ) (is lt old : Bool) → nat_lt r (length noted) ≡ lt → k < length noted → get_or noted k false ≡ old
    → get_or (if is && lt then slice_set noted r true else noted) k false ≡ (old || ((r == k) && is))
noted_by noted r k false lt old inside within e = e ∙ or_none old (r == k)
  where
    or_none : (a b : Bool) → a ≡ (a || (b && false))
    or_none true b = refl
    or_none false true = refl
    or_none false false = refl
noted_by noted r k true false old inside within e =
    let beyond : length noted ≤ r = ltb-false r (length noted) inside in
    e ∙ or_no old ∙ ap (λ b. old || (b && true)) (sym (ne_eqb r k (λ same. omega (arith, beyond, within, same))))
  where
    or_no : (a : Bool) → a ≡ (a || (false && true))
    or_no true = refl
    or_no false = refl
noted_by noted r k true true old inside within e =
    ⊎_elim
    (λ same.
    ap (λ n. get_or (slice_set noted r true) n false) same
    ∙ get_or-set_same noted r true false (ltb-true r (length noted) inside)
    ∙ or_yes old
    ∙ ap (λ b. old || (b && true)) (sym (eq-eqb r k (sym same))))
    (λ other.
    get_or-set_other noted r k true false other
    ∙ e
    ∙ or_no old
    ∙ ap (λ b. old || (b && true)) (sym (ne_eqb r k (λ same. other (sym same)))))
    (cases_eq k r)
  where
    or_yes : (a : Bool) → true ≡ (a || (true && true))
    or_yes true = refl
    or_yes false = refl

    or_no : (a : Bool) → a ≡ (a || (false && true))
    or_no true = refl
    or_no false = refl

pub noted_slot : (noted : List Bool) (r k : ℕ) (is old : Bool) → k < length noted → get_or noted k false ≡ old
    → get_or (noted_run noted r is) k false ≡ (old || ((r == k) && is))
noted_slot noted r k is old within e = noted_by noted r k is (nat_lt r (length noted)) old refl within e

-- ---- the first inclusion of a file
prefix_lent : {X : Type 0} (p : X → Bool) (es : List (Bor X)) → prefix_len (λ e. p e.now) es ≡ prefix_len p (map (λ e. e.now) es)
prefix_lent p [] = refl
prefix_lent p (e ∷ es) = ap (λ n. cond (p e.now) (1 + n) 0) (prefix_lent p es)

position_lent : {X : Type 0} (p : X → Bool) (es : List (Bor X)) → position (λ e. p e.now) es ≡ position p (map (λ e. e.now) es)
position_lent {X} p es =
    ap (λ n. if nat_lt n (length es) then Some n else None) (prefix_lent (λ x. not (p x)) es)
    ∙ ap (λ m. if nat_lt (prefix_len (λ x. not (p x)) (map (λ e. e.now) es)) m then Some (prefix_len (λ x. not (p x)) (map (λ e. e.now) es)) else None)
    (sym (length-map es (λ (e : Bor X). e.now)))

earlier_by : (r f g : ℕ) (b : Bool) → nat_lt f r ≡ b → (if b then Some f else None) ≡ Some g → g < r
earlier_by r f g true is e = subst (λ n. n < r) (same_Some f g e) (ltb-true f r is)
earlier_by r f g false is e = absurd (none-some g e)

earlier_in : (r g : ℕ) (o : Option ℕ) → option_and_then (if_earlier r) o ≡ Some g → g < r
earlier_in r g None e = absurd (none-some g e)
earlier_in r g (Some f) e = earlier_by r f g (nat_lt f r) refl e

before_in : (lines : List LineValue) (r g : ℕ) (o : Option LineValue) → option_and_then (λ end. option_and_then (if_earlier r) (first_run_of lines end.path)) o ≡ Some g → g < r
before_in lines r g None e = absurd (none-some g e)
before_in lines r g (Some end) e = earlier_in r g (first_run_of lines end.path) e

first_is_before : (lines : List LineValue) (r g : ℕ) → first_before lines r ≡ Some g → g < r
first_is_before lines r g e = before_in lines r g (end_of_run lines r) e

same_around : (lines : List LineValue) (r : ℕ) (around : List ℕ) (b d : Option ℕ) → around ≡ open_numbers lines (start_of lines r) → b ≡ d
    → option_map_or (λ n. list_any (λ k. k == n) around) b true ≡ is_around lines r d
same_around lines r around b d is same =
    ap (λ o. option_map_or (λ n. list_any (λ k. k == n) around) o true) same ∙ ap (λ xs. option_map_or (λ n. list_any (λ k. k == n) xs) d true) is

-- an inclusion that an earlier one made superfluous, by what is known of those before it
module _ (lines : List LineValue) (t : TreeValue) (r count : ℕ) (statements : List Bool) (conditions : List (Option ℕ)) (around : List ℕ)
    (within : r < count) (noted : (k : ℕ) → k < count → get_or statements k false ≡ has_statement lines k)
    (conditions_are : conditions ≡ map (condition_around lines t) (range_with_len 0 r)) (around_is : around ≡ open_numbers lines (start_of lines r)) where
  abbrev known : ℕ → Bool
  known f = get_or statements f false && option_map_or (λ n. list_any (λ k. k == n) around) (get_or conditions f None) true

  known_is : (f : ℕ) → f < r → known f ≡ is_repeated lines t r f
  known_is f less =
      let condition_is = ap (λ cs. get_or cs f None) conditions_are ∙ get_or-map-range_with_len (condition_around lines t) 0 r f f None less (omega arith) in
      ap (λ b. b && option_map_or (λ n. list_any (λ k. k == n) around) (get_or conditions f None) true) (noted f (omega (arith, less, within)))
      ∙ ap (λ b. has_statement lines f && b) (same_around lines r around (get_or conditions f None) (condition_around lines t f) around_is condition_is)

  repeated_by : (o : Option ℕ) → first_before lines r ≡ o → option_and_then (repeated_with r known) o ≡ option_and_then (repeated_with r (is_repeated lines t r)) o
  repeated_by None is = refl
  repeated_by (Some f) is = ap (λ b. if b then Some (record { run = r; first = f }) else None) (known_is f (first_is_before lines r f is))

  pub repeated_is : (first : Option ℕ) → first ≡ first_before lines r → option_and_then (repeated_with r known) first ≡ option_and_then (repeated_with r (is_repeated lines t r)) (first_before lines r)
  repeated_is first is = ap (option_and_then (repeated_with r known)) is ∙ repeated_by (first_before lines r) refl

pub few_more : (i n new : ℕ) (b : Bool) → n ≤ i → new ≡ (if b then n + 1 else n) → new ≤ i + 1
few_more i n new true few is = omega (arith, few, is)
few_more i n new false few is = omega (arith, few, is)

-- ---- ends of files that are lent
get_lent : (es : List (Bor LineValue)) (o : Option ℕ) → option_map (λ e. e.now) (option_and_then (slice_get es) o) ≡ option_and_then (slice_get (map (λ e. e.now) es)) o
get_lent es None = refl
get_lent es (Some k) = sym (slice_get-map (λ (e : Bor LineValue). e.now) es k)

first_lent : (p : LineValue → Bool) (es : List (Bor LineValue)) → option_map (λ e. e.now) (first_with (λ e. p e.now) es) ≡ first_with p (map (λ e. e.now) es)
first_lent p es =
    get_lent es (position (λ e. p e.now) es) ∙ ap (option_and_then (slice_get (map (λ e. e.now) es))) (position_lent p es)

run_lent : (o : Option (Bor LineValue)) → option_map (λ e. e.now.run) o ≡ option_map (λ l. l.run) (option_map (λ e. e.now) o)
run_lent None = refl
run_lent (Some e) = refl

path_lent : (r : ℕ) (es : List (Bor LineValue)) (xs : List LineValue) (path : List ℕ) → map (λ e. e.now) es ≡ xs
    → lent_first r es path ≡ option_and_then (if_earlier r) (option_map (λ end. end.run) (first_with (λ end. bytes_eq end.path path) xs))
path_lent r es xs path is =
    ap (option_and_then (if_earlier r))
    (run_lent (first_with (λ e. bytes_eq e.now.path path) es)
    ∙ ap (option_map (λ (l : LineValue). l.run)) (first_lent (λ l. bytes_eq l.path path) es ∙ ap (first_with (λ l. bytes_eq l.path path)) is))

pub first_run_lent : (lines : List LineValue) (es : List (Bor LineValue)) (path : List ℕ) → map (λ e. e.now) es ≡ filter is_end lines → lent_run es path ≡ first_run_of lines path
first_run_lent lines es path is =
    run_lent (first_with (λ e. bytes_eq e.now.path path) es)
    ∙ ap (option_map (λ (l : LineValue). l.run)) (first_lent (λ l. bytes_eq l.path path) es ∙ ap (first_with (λ l. bytes_eq l.path path)) is)

by_path : (f g : List ℕ → Option ℕ) → ((path : List ℕ) → f path ≡ g path) → (o : Option (Bor LineValue))
    → option_and_then (λ e. f e.now.path) o ≡ option_and_then (λ l. g l.path) (option_map (λ e. e.now) o)
by_path f g same None = refl
by_path f g same (Some e) = same e.now.path

pub lent_is : (lines : List LineValue) (es : List (Bor LineValue)) (r : ℕ) → map (λ e. e.now) es ≡ filter is_end lines → lent_first_before es r ≡ first_before lines r
lent_is lines es r is =
    by_path (lent_first r es) (λ path. option_and_then (if_earlier r) (first_run_of lines path)) (λ path. path_lent r es (filter is_end lines) path is) (first_with (λ e. e.now.run == r) es)
    ∙ ap (option_and_then (λ l. option_and_then (if_earlier r) (first_run_of lines l.path))) (first_lent (λ l. l.run == r) es ∙ ap (first_with (λ l. l.run == r)) is)
