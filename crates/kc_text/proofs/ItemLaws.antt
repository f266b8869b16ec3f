-- The items of a file, as one list: there is exactly one, and reading lines is reading these items.
use Rattle.std.proofs.Common.{◌≡◌, ◌∙◌, ℕ, zero, suc, ◌+◌, ◌-◌, ◌<◌, ◌≤◌, ◌==◌, ◌||◌, nat_le, Bool, true, false, true≢false, if◌then◌else◌, List, [], ◌∷◌, ◌++◌, length, take, drop, take-take, take-append-drop, length-take-le, take_at, drop_at, append_assoc, append-nil, length-append, add-zero, slice_get, flat_map, Some, None, Result, Ok, refl, ap, sym, subst, arith}
use Rattle.std.specs.List.{prefix_len, suffix_len}
use Rattle.std.proofs.lemmas.Bool.Decides.{nat_tests}
use Rattle.std.proofs.lemmas.List.{drop-take}
use Rattle.std.proofs.lemmas.Option.{same_Some, slice_get_within}
use Rattle.kc_text.specs.declared.fault.TextFault.{TextFault}
use Rattle.kc_text.specs.Help.{behind_passed, first_indentation, help_len, help_line, help_text, indentation, is_blank_line, is_help, is_inside, passed_lines, text_len, text_lines}
use Rattle.kc_text.specs.Items.{ItemValue, before_backslash, behind_joined, ends_in_backslash, first_item, item_with, joined, joined_more}
use Rattle.kc_text.specs.Expansion.{Environment, then_on}
use Rattle.kc_text.specs.Reading.{Place, Placing, ReadState, item_read, items_read}
use Rattle.kc_text.specs.ItemLists.{AreItems, IsItem, IsShortestRun, ItemLines, lines_in, text_in, value_of}
use Rattle.kc_text.proofs.ItemLines.{help_len-within}
use Rattle.kc_text.proofs.Joining.{joined-on, joined_more-on, joined_more-off, joined_more-last}
use Rattle.kc_text.proofs.Runs.{prefix_len-yes, prefix_len-no}

-- items read one after another, where the first begins at this number of a line
abbrev pub items_done : Environment → Placing → List ℕ → ℕ → ℕ → List ItemLines → ReadState → Result ReadState TextFault
items_done outside place path run number [] s = Ok s
items_done outside place path run number (i ∷ is) s =
    then_on (item_read outside place (record { path = path; run = run; number = number }) (value_of i) s)
    (λ t. items_done outside place path run (number + length (lines_in i)) is t)

-- ---- the joined lines of an item
next_run : (l k : List ℕ) (ks after : List (List ℕ)) → IsShortestRun (l ∷ k ∷ ks) after → IsShortestRun (k ∷ ks) after
next_run l k ks after r = record {
  some = omega arith;
  joins = λ i m far at. r.joins (suc i) m (omega (arith, far)) at;
  ends = λ i m last at e. r.ends (suc i) m (omega (arith, last)) at e;
}

-- how many lines are joined to the first of a run
pub run-length : (run after : List (List ℕ)) → IsShortestRun run after → length run ≡ suc (joined_more (run ++ after))
run-length [] after r = absurd (omega (arith, r.some))
run-length (l ∷ []) after r =
    elim (ends_in_backslash l) as (λ b. ends_in_backslash l ≡ b → 1 ≡ suc (joined_more (l ∷ after))) [
      | true ↦ λ e. ap suc (sym (joined_more-last l after (r.ends 0 l refl refl e)))
      | false ↦ λ e. ap suc (sym (joined_more-off l after e))
    ] refl
run-length (l ∷ k ∷ ks) after r =
    ap suc (run-length (k ∷ ks) after (next_run l k ks after r) ∙ sym (joined_more-on l (r.joins 0 l (omega arith) refl) k (ks ++ after)))

whole_line : (l : List ℕ) → ends_in_backslash l ≡ false → before_backslash l ≡ l
whole_line l e = ap (λ b. if b then take (length l - 1) l else l) e

-- a line that ends in no backslash is joined with none
joined-off : (l : List ℕ) (ls : List (List ℕ)) → ends_in_backslash l ≡ false → joined (l ∷ ls) ≡ l
joined-off l ls e = ap (λ b. if b then take (length l - 1) l ++ joined ls else l) e

-- the text of a run
pub run-text : (run after : List (List ℕ)) → IsShortestRun run after → flat_map before_backslash run ≡ joined (run ++ after)
run-text [] after r = absurd (omega (arith, r.some))
run-text (l ∷ []) after r =
    elim (ends_in_backslash l) as (λ b. ends_in_backslash l ≡ b → before_backslash l ++ [] ≡ joined (l ∷ after)) [
      | true ↦ λ e. ap (λ ls. before_backslash l ++ joined ls) (sym (r.ends 0 l refl refl e)) ∙ sym (joined-on l e after)
      | false ↦ λ e. append-nil (before_backslash l) ∙ whole_line l e ∙ sym (joined-off l after e)
    ] refl
run-text (l ∷ k ∷ ks) after r =
    ap (λ text. before_backslash l ++ text) (run-text (k ∷ ks) after (next_run l k ks after r))
    ∙ sym (joined-on l (r.joins 0 l (omega arith) refl) (k ∷ ks ++ after))

-- ---- the help text of an item is that of its own lines
prefix_len-taken : {X : Type 0} (p : X → Bool) (n : ℕ) (xs : List X) → prefix_len p xs ≤ n → prefix_len p (take n xs) ≡ prefix_len p xs
prefix_len-taken p zero xs within = omega (arith, within)
prefix_len-taken p (suc n) [] within = refl
prefix_len-taken p (suc n) (x ∷ xs) within =
    elim (p x) as (λ b. p x ≡ b → prefix_len p (x ∷ take n xs) ≡ prefix_len p (x ∷ xs)) [
      | true ↦ λ e.
          prefix_len-yes p x (take n xs) e ∙ ap suc (prefix_len-taken p n xs (omega (arith, within, prefix_len-yes p x xs e)))
          ∙ sym (prefix_len-yes p x xs e)
      | false ↦ λ e. prefix_len-no p x (take n xs) e ∙ sym (prefix_len-no p x xs e)
    ] refl

-- a text of this many lines, without those of blanks alone at its end
abbrev cut_to : ℕ → List (List ℕ) → List (List ℕ)
cut_to n ls = take (n - suffix_len is_blank_line (take n ls)) ls

-- the help text of lines that begin with none of blanks alone
abbrev text_past_blanks : List (List ℕ) → List ℕ
text_past_blanks ls = flat_map (help_line (first_indentation ls)) (text_lines ls)

cut_to-none : (ls : List (List ℕ)) → cut_to 0 ls ≡ []
cut_to-none ls = let none : 0 - suffix_len is_blank_line (take 0 ls) ≡ 0 = omega arith in ap (λ n. take n ls) none

no_text : (ls : List (List ℕ)) → text_len ls ≡ 0 → text_past_blanks ls ≡ []
no_text ls none = ap (λ n. flat_map (help_line (first_indentation ls)) (cut_to n ls)) none ∙ ap (flat_map (help_line (first_indentation ls))) (cut_to-none ls)

cut_to-taken : (n : ℕ) (ls : List (List ℕ)) → cut_to n (take n ls) ≡ cut_to n ls
cut_to-taken n ls =
    ap (λ ks. take (n - suffix_len is_blank_line ks) (take n ls)) (take-take n n ls (omega arith))
    ∙ take-take (n - suffix_len is_blank_line (take n ls)) n ls (omega arith)

own_text : (ls : List (List ℕ)) → text_past_blanks (take (text_len ls) ls) ≡ text_past_blanks ls
own_text [] = refl
own_text (l ∷ ls) =
    let column : ℕ = indentation l in
    let inside = is_inside column in
    let n : ℕ = prefix_len inside ls in
    let here : (is_blank_line l || nat_le column column) ≡ true = grind (arith, nat_tests) in
    elim (column == 0) as (λ b. (column == 0) ≡ b → text_past_blanks (take (text_len (l ∷ ls)) (l ∷ ls)) ≡ text_past_blanks (l ∷ ls)) [
      | true ↦ λ e.
          let none : text_len (l ∷ ls) ≡ 0 = ap (λ b. if b then 0 else prefix_len inside (l ∷ ls)) e in
          ap (λ k. text_past_blanks (take k (l ∷ ls))) none ∙ sym (no_text (l ∷ ls) none)
      | false ↦ λ e.
          let some : text_len (l ∷ ls) ≡ suc n = ap (λ b. if b then 0 else prefix_len inside (l ∷ ls)) e ∙ prefix_len-yes inside l ls here in
          let taken : text_len (l ∷ take n ls) ≡ suc n =
          ap (λ b. if b then 0 else prefix_len inside (l ∷ take n ls)) e ∙ prefix_len-yes inside l (take n ls) here
          ∙ ap suc (prefix_len-taken inside n ls (omega arith)) in
          ap (λ k. text_past_blanks (take k (l ∷ ls))) some
          ∙ ap (λ k. flat_map (help_line column) (cut_to k (l ∷ take n ls))) taken
          ∙ ap (flat_map (help_line column)) (cut_to-taken (suc n) (l ∷ ls))
          ∙ sym (ap (λ k. flat_map (help_line column) (cut_to k (l ∷ ls))) some)
    ] refl

own_help : (ls : List (List ℕ)) → help_text (take (help_len ls) ls) ≡ help_text ls
own_help ls =
    let blanks : ℕ = passed_lines ls in
    let n : ℕ = text_len (behind_passed ls) in
    let same : passed_lines (take (blanks + n) ls) ≡ blanks = prefix_len-taken is_blank_line (blanks + n) ls (omega arith) in
    ap (λ k. text_past_blanks (drop k (take (blanks + n) ls))) same
    ∙ ap text_past_blanks (drop-take blanks n ls)
    ∙ own_text (behind_passed ls)

-- ---- what an item says
-- an item with a help text or none, whose own lines say the same as all lines after its run
item_of_help : (b : Bool) (text : List ℕ) (more : ℕ) (help rest : List (List ℕ)) → help ≡ (if b then take (help_len rest) rest else [])
    → ◌≡◌ {A = ItemValue} (if b then record { text = text; help = Some (help_text rest); more = more + help_len rest } else record { text = text; help = None; more = more })
    (record { text = text; help = if b then Some (help_text help) else None; more = more + length help })
item_of_help true text more help rest e =
    let same : help_text rest ≡ help_text help = sym (own_help rest) ∙ ap help_text (sym e) in
    let lines : help_len rest ≡ length help = sym (length-take-le (help_len rest) rest (help_len-within rest)) ∙ ap length (sym e) in
    λ i. record { text = text; help = Some (same i); more = more + lines i }
item_of_help false text more help rest e =
    let lines : more ≡ more + length help = omega (arith, ap length e) in
    λ i. record { text = text; help = None; more = lines i }

module _ (i : ItemLines) (after : List (List ℕ)) (is : IsItem i after) where
  -- the item that begins with the first line is this one
  pub first_item-value : first_item (lines_in i ++ after) ≡ value_of i
  first_item-value =
      let rest = i.help ++ after in
      let whole : lines_in i ++ after ≡ i.run ++ rest = append_assoc i.run i.help after in
      let count : length i.run ≡ suc (joined_more (i.run ++ rest)) = run-length i.run rest is.run in
      let more : joined_more (i.run ++ rest) ≡ length i.run - 1 = omega (arith, count) in
      let left : behind_joined (i.run ++ rest) ≡ rest = drop_at i.run rest (joined_more (i.run ++ rest) + 1) (omega (arith, count)) in
      ap first_item whole
      ∙ (λ k. item_with (sym (run-text i.run rest is.run) k) (more k) (left k))
      ∙ item_of_help (is_help (text_in i)) (text_in i) (length i.run - 1) i.help rest is.help

  pub some_lines : 0 < length (lines_in i)
  some_lines = omega (arith, is.run.some, length-append i.run i.help)

  pub lines_counted : suc (value_of i).more ≡ length (lines_in i)
  lines_counted = omega (arith, is.run.some, length-append i.run i.help)

-- ---- the items after the first one
module _ (lines : List (List ℕ)) (i : ItemLines) (is : List ItemLines) (are : AreItems lines (i ∷ is)) where
  pub first_is : IsItem i (flat_map lines_in is)
  first_is = are.each 0 i refl

  pub others_are : AreItems (flat_map lines_in is) is
  others_are = record { whole = refl; each = λ k j at. are.each (suc k) j at }

-- an item before others
pub items-cons : (lines : List (List ℕ)) (i : ItemLines) (is : List ItemLines) → IsItem i (flat_map lines_in is) → AreItems lines is → AreItems (lines_in i ++ lines) (i ∷ is)
items-cons lines i is first others = record {
  whole = ap (λ ls. lines_in i ++ ls) others.whole;
  each = each;
}
  where
    each : (k : ℕ) (j : ItemLines) → slice_get (i ∷ is) k ≡ Some j → IsItem j (flat_map lines_in (drop (suc k) (i ∷ is)))
    each zero j at = subst (λ x. IsItem x (flat_map lines_in is)) (same_Some i j at) first
    each (suc k) j at = others.each k j at

-- ---- reading lines is reading items
module _ (outside : Environment) (place : Placing) (path : List ℕ) (run : ℕ) where
  abbrev at_number : ℕ → Place
  at_number number = record { path = path; run = run; number = number }

  -- the lines of an item are passed over
  passed_over : (n number : ℕ) (ls : List (List ℕ)) (s : ReadState)
      → items_read outside place path run n number ls s ≡ items_read outside place path run 0 (number + n) (drop n ls) s
  passed_over zero number ls s = ap (λ m. items_read outside place path run 0 m ls s) (sym (add-zero number))
  passed_over (suc n) number [] s = refl
  passed_over (suc n) number (l ∷ ls) s =
      let same : suc number + n ≡ number + suc n = omega arith in
      passed_over n (suc number) ls s ∙ ap (λ m. items_read outside place path run 0 m (drop n ls) s) same

  -- the first item, and the lines after it
  first_read : (ls : List (List ℕ)) (v : ItemValue) (n : ℕ) (rest : List (List ℕ)) → 0 < length ls → first_item ls ≡ v → suc v.more ≡ n → drop n ls ≡ rest
      → (number : ℕ) (s : ReadState)
      → items_read outside place path run 0 number ls s ≡ then_on (item_read outside place (at_number number) v s) (λ t. items_read outside place path run 0 (number + n) rest t)
  first_read [] v n rest some first lines left number s = absurd (omega (arith, some))
  first_read (l ∷ ls) v n rest some first lines left number s =
      let place_of : suc number + v.more ≡ number + n = omega (arith, lines) in
      let left_of : drop v.more ls ≡ rest = ap (λ k. drop k (l ∷ ls)) lines ∙ left in
      ap (λ w. then_on (item_read outside place (at_number number) w s) (λ t. items_read outside place path run w.more (suc number) ls t)) first
      ∙ (λ k. then_on (item_read outside place (at_number number) v s) (λ t. passed_over v.more (suc number) ls t k))
      ∙ (λ k. then_on (item_read outside place (at_number number) v s) (λ t. items_read outside place path run 0 (place_of k) (left_of k) t))

-- the lines of a file whose items these are
pub items_are_done : (outside : Environment) (place : Placing) (path : List ℕ) (run number : ℕ) (ls : List (List ℕ)) (is : List ItemLines) (s : ReadState)
    → AreItems ls is → items_read outside place path run 0 number ls s ≡ items_done outside place path run number is s
items_are_done outside place path run number ls [] s are = ap (λ ks. items_read outside place path run 0 number ks s) are.whole
items_are_done outside place path run number ls (i ∷ is) s are =
    let rest = flat_map lines_in is in
    let first = first_is ls i is are in
    let n : ℕ = length (lines_in i) in
    ap (λ ks. items_read outside place path run 0 number ks s) are.whole
    ∙ first_read outside place path run (lines_in i ++ rest) (value_of i) n rest (omega (arith, some_lines i rest first, length-append (lines_in i) rest))
    (first_item-value i rest first) (lines_counted i rest first) (drop_at (lines_in i) rest n refl) number s
    ∙ (λ k. then_on (item_read outside place (record { path = path; run = run; number = number }) (value_of i) s)
    (λ t. items_are_done outside place path run (number + n) rest is t (others_are ls i is are) k))

-- ---- lines have at most one list of items
abbrev help_lines : Bool → List (List ℕ) → List (List ℕ)
help_lines b rest = if b then take (help_len rest) rest else []

-- the item that lines begin with, where its run has n lines
abbrev cut_item : ℕ → List (List ℕ) → ItemLines
cut_item n ls = record { run = take n ls; help = help_lines (is_help (flat_map before_backslash (take n ls))) (drop n ls) }

abbrev item_of : List (List ℕ) → ItemLines
item_of ls = cut_item (suc (joined_more ls)) ls

item_of-only : (i : ItemLines) (after : List (List ℕ)) → IsItem i after → item_of (lines_in i ++ after) ≡ i
item_of-only i after is =
    let rest = i.help ++ after in
    let whole : lines_in i ++ after ≡ i.run ++ rest = append_assoc i.run i.help after in
    let count : length i.run ≡ suc (joined_more (i.run ++ rest)) = run-length i.run rest is.run in
    let run_is : take (length i.run) (i.run ++ rest) ≡ i.run = take_at i.run rest (length i.run) refl in
    let rest_is : drop (length i.run) (i.run ++ rest) ≡ rest = drop_at i.run rest (length i.run) refl in
    ap item_of whole
    ∙ ap (λ n. cut_item n (i.run ++ rest)) (sym count)
    ∙ (λ k. record { run = run_is k; help = help_lines (is_help (flat_map before_backslash (run_is k))) (rest_is k) })
    ∙ (λ k. record { run = i.run; help = sym is.help k })

pub items_only : (lines : List (List ℕ)) (items others : List ItemLines) → AreItems lines items → AreItems lines others → items ≡ others
items_only lines [] [] are also = refl
items_only lines [] (j ∷ js) are also =
    absurd (omega (arith, ap length are.whole, ap length also.whole, length-append (lines_in j) (flat_map lines_in js), some_lines j (flat_map lines_in js) (first_is lines j js also)))
items_only lines (i ∷ is) [] are also =
    absurd (omega (arith, ap length are.whole, ap length also.whole, length-append (lines_in i) (flat_map lines_in is), some_lines i (flat_map lines_in is) (first_is lines i is are)))
items_only lines (i ∷ is) (j ∷ js) are also =
    let rest = flat_map lines_in is in
    let left = flat_map lines_in js in
    let both : lines_in i ++ rest ≡ lines_in j ++ left = sym are.whole ∙ also.whole in
    let same : i ≡ j = sym (item_of-only i rest (first_is lines i is are)) ∙ ap item_of both ∙ item_of-only j left (first_is lines j js also) in
    let same_rest : left ≡ rest =
    sym (drop_at (lines_in j) left (length (lines_in j)) refl)
    ∙ (λ k. drop (length (lines_in (sym same k))) (sym both k))
    ∙ drop_at (lines_in i) rest (length (lines_in i)) refl in
    let same_items : is ≡ js = items_only rest is js (others_are lines i is are) (subst (λ ls. AreItems ls js) same_rest (others_are lines j js also)) in
    λ k. same k ∷ same_items k

-- ---- and at least one
longer_run : (l : List ℕ) (run after : List (List ℕ)) → ends_in_backslash l ≡ true → IsShortestRun run after → IsShortestRun (l ∷ run) after
longer_run l run after e r = record { some = omega arith; joins = joins; ends = ends }
  where
    joins : (i : ℕ) (m : List ℕ) → i + 1 < suc (length run) → slice_get (l ∷ run) i ≡ Some m → ends_in_backslash m ≡ true
    joins zero m far at = ap ends_in_backslash (sym (same_Some l m at)) ∙ e
    joins (suc i) m far at = r.joins i m (omega (arith, far)) at

    ends : (i : ℕ) (m : List ℕ) → i + 1 ≡ suc (length run) → slice_get (l ∷ run) i ≡ Some m → ends_in_backslash m ≡ true → after ≡ []
    ends zero m last at back = absurd (omega (arith, last, r.some))
    ends (suc i) m last at back = r.ends i m (omega (arith, last)) at back

one_line : (l : List ℕ) (after : List (List ℕ)) → (ends_in_backslash l ≡ true → after ≡ []) → IsShortestRun (l ∷ []) after
one_line l after none = record { some = omega arith; joins = λ i m far at. absurd (omega (arith, far)); ends = ends }
  where
    ends : (i : ℕ) (m : List ℕ) → i + 1 ≡ 1 → slice_get (l ∷ []) i ≡ Some m → ends_in_backslash m ≡ true → after ≡ []
    ends zero m last at back = none (ap ends_in_backslash (same_Some l m at) ∙ back)
    ends (suc i) m last at back = absurd (omega (arith, last))

-- the lines that are joined to the first one, with it
abbrev Shortest : ℕ → List (List ℕ) → Type 0
Shortest n ls = IsShortestRun (take (suc n) ls) (drop (suc n) ls)

shortest : (l : List ℕ) (ls : List (List ℕ)) → Shortest (joined_more (l ∷ ls)) (l ∷ ls)
shortest l [] = one_line l [] (λ e. refl)
shortest l (k ∷ ks) =
    elim (ends_in_backslash l) as (λ b. ends_in_backslash l ≡ b → Shortest (joined_more (l ∷ k ∷ ks)) (l ∷ k ∷ ks)) [
      | true ↦ λ e. subst (λ n. Shortest n (l ∷ k ∷ ks)) (sym (joined_more-on l e k ks)) (longer_run l _ _ e (shortest k ks))
      | false ↦ λ e. subst (λ n. Shortest n (l ∷ k ∷ ks)) (sym (joined_more-off l (k ∷ ks) e)) (one_line l (k ∷ ks) (λ back. absurd (true≢false (sym back ∙ e))))
    ] refl

-- the lines of the help text, and those after them
help_split : (b : Bool) (rest : List (List ℕ)) → help_lines b rest ++ drop (length (help_lines b rest)) rest ≡ rest
help_split true rest =
    let n : ℕ = help_len rest in
    ap (λ k. take n rest ++ drop k rest) (length-take-le n rest (help_len-within rest)) ∙ take-append-drop n rest
help_split false rest = refl

-- the lines after the item that they begin with
abbrev after_item : List (List ℕ) → List (List ℕ)
after_item ls = drop (length (item_of ls).help) (drop (suc (joined_more ls)) ls)

item_of-whole : (ls : List (List ℕ)) → lines_in (item_of ls) ++ after_item ls ≡ ls
item_of-whole ls =
    let n : ℕ = suc (joined_more ls) in
    append_assoc (take n ls) (item_of ls).help (after_item ls)
    ∙ ap (λ rest. take n ls ++ rest) (help_split (is_help (text_in (item_of ls))) (drop n ls))
    ∙ take-append-drop n ls

item_of-is : (l : List ℕ) (ls : List (List ℕ)) → IsItem (item_of (l ∷ ls)) (after_item (l ∷ ls))
item_of-is l ls =
    let n : ℕ = suc (joined_more (l ∷ ls)) in
    let b : Bool = is_help (text_in (item_of (l ∷ ls))) in
    let split = help_split b (drop n (l ∷ ls)) in
    record {
      run = subst (IsShortestRun (take n (l ∷ ls))) (sym split) (shortest l ls);
      help = ap (help_lines b) (sym split);
    }

-- the items of lines, at most n of them
abbrev items_within : ℕ → List (List ℕ) → List ItemLines
items_within zero ls = []
items_within (suc n) [] = []
items_within (suc n) (l ∷ ls) = item_of (l ∷ ls) ∷ items_within n (after_item (l ∷ ls))

no_items : AreItems [] []
no_items = record { whole = refl; each = λ k i at. absurd (omega (arith, slice_get_within [] k i at)) }

pub items_within-are : (n : ℕ) (ls : List (List ℕ)) → length ls ≤ n → AreItems ls (items_within n ls)
items_within-are zero [] few = no_items
items_within-are zero (l ∷ ls) few = absurd (omega (arith, few))
items_within-are (suc n) [] few = no_items
items_within-are (suc n) (l ∷ ls) few =
    let i : ItemLines = item_of (l ∷ ls) in
    let rest = after_item (l ∷ ls) in
    let first = item_of-is l ls in
    let whole = item_of-whole (l ∷ ls) in
    let less : length rest ≤ n = omega (arith, few, ap length whole, length-append (lines_in i) rest, some_lines i rest first) in
    let others = items_within-are n rest less in
    subst (λ ks. AreItems ks (i ∷ items_within n rest)) whole (items-cons rest i (items_within n rest) (subst (IsItem i) others.whole first) others)

-- the items of lines
abbrev pub items_of : List (List ℕ) → List ItemLines
items_of lines = items_within (length lines) lines

pub some_items : (ls : List (List ℕ)) → (is : List ItemLines) × AreItems ls is
some_items ls = (items_of ls, items_within-are (length ls) ls (omega arith))

-- lines have exactly one list of items, and reading the lines is reading these items
pub record ItemsLaw : Type 0 where
  pub some : (lines : List (List ℕ)) → (items : List ItemLines) × AreItems lines items
  pub only : (lines : List (List ℕ)) (items others : List ItemLines) → AreItems lines items → AreItems lines others → items ≡ others
  pub read : (lines : List (List ℕ)) (items : List ItemLines) → AreItems lines items
      → (outside : Environment) (place : Placing) (path : List ℕ) (run number : ℕ) (s : ReadState)
      → items_read outside place path run 0 number lines s ≡ items_done outside place path run number items s

pub items_law : ItemsLaw
items_law = record {
  some = some_items;
  only = items_only;
  read = λ ls is are outside place path run number s. items_are_done outside place path run number ls is s are;
}
