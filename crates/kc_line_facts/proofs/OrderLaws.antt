-- What is in the files of a Kconfig, `source` line by `source` line and file by file.
use Rattle.std.proofs.Common.{◌≡◌, ℕ, ◌+◌, ◌-◌, ◌<◌, ◌≤◌, ◌==◌, Bool, true, false, not, ◌&&◌, if◌then◌else◌, List, [], ◌∷◌, ◌++◌, Option, Some, append_assoc, drop, length, map, get_or, slice_get, slice_set, nat_lt, refl, sym, ap, ◌∙◌, ◌⊎◌, inl, inr, subst, ⊎_elim, arith}
use Rattle.std.specs.List.{filter, flat_map, prefix_len, range_with_len}
use Rattle.std.specs.Option.{option_map_or}
use Rattle.std.proofs.Math.ListN.{drop_of_length-le}
use Rattle.std.proofs.lemmas.Bool.{cases_eq, cases_lt, eq-eqb, ne_eqb, ltb-false, ltb-true}
use Rattle.std.proofs.lemmas.List.{append-nil, get_or_past, drop_more, get_or-set_same, get_or-set_other}
use Rattle.std.proofs.lemmas.List.FromFn.{get_or-map-range_with_len, length-map-range_with_len, map-range_with_len_more}
use Rattle.kc_text.specs.LineValue.{LineValue}
use Rattle.kc_line_facts.specs.declared.named_variables.NamedVariable.{NamedVariable}
use Rattle.kc_line_facts.specs.declared.read_order.Mark.TheVariants.{Source, Use}
use Rattle.kc_line_facts.specs.declared.read_order.Reached.{Reached}
use Rattle.kc_line_facts.specs.declared.read_order.VariableFile.{VariableFile}
use Rattle.kc_line_facts.specs.ReadingOrder.{ends, file_marks, gap_of, marks_at, marks_from, marks_of_file, noted_rest, rest_of, run_after, runs_of, use_at, uses_between, uses_up_to}
use Rattle.kc_line_facts.specs.SourcedFiles.{first_run_of, start_of}
use Rattle.kc_line_facts.specs.UnusedDefaults.{is_end}
use Rattle.kc_line_facts.proofs.RangeLaws.{flat_map_next}
use Rattle.kc_line_facts.proofs.SourcedLaws.{plus_none}

-- ---- the line after the end of an inclusion
rest_by : (rests : List ℕ) (r k rest old : ℕ) (is lt : Bool) → nat_lt r (length rests) ≡ lt → k < length rests → get_or rests k 0 ≡ old
    → get_or (if is && lt then slice_set rests r rest else rests) k 0 ≡ (if (r == k) && is then rest else old)
rest_by rests r k rest old false lt inside within e = e ∙ none old (r == k)
  where
    none : (a : ℕ) (b : Bool) → a ≡ (if b && false then rest else a)
    none a true = refl
    none a false = refl
rest_by rests r k rest old true false inside within e =
    let beyond : length rests ≤ r = ltb-false r (length rests) inside in
    e ∙ ap (λ b. if b && true then rest else old) (sym (ne_eqb r k (λ same. omega (arith, beyond, within, same))))
rest_by rests r k rest old true true inside within e =
    ⊎_elim
    (λ same.
    ap (λ n. get_or (slice_set rests r rest) n 0) same
    ∙ get_or-set_same rests r rest 0 (ltb-true r (length rests) inside)
    ∙ ap (λ b. if b && true then rest else old) (sym (eq-eqb r k (sym same))))
    (λ other.
    get_or-set_other rests r k rest 0 other
    ∙ e
    ∙ ap (λ b. if b && true then rest else old) (sym (ne_eqb r k (λ same. other (sym same)))))
    (cases_eq k r)

pub rest_slot : (rests : List ℕ) (r k rest old : ℕ) (is : Bool) → k < length rests → get_or rests k 0 ≡ old
    → get_or (noted_rest rests r is rest) k 0 ≡ (if (r == k) && is then rest else old)
rest_slot rests r k rest old is within e = rest_by rests r k rest old is (nat_lt r (length rests)) refl within e

pub rest_at_end : (lines : List LineValue) (r left rest : ℕ) → left ≡ 0 → rest ≡ left + (prefix_len (λ line. not (ends r line)) (drop left lines) + 1)
    → rest ≡ rest_of lines r
rest_at_end lines r left rest none is =
    is ∙ ap (λ n. n + (prefix_len (λ line. not (ends r line)) (drop n lines) + 1)) none ∙ sym (plus_none (prefix_len (λ line. not (ends r line)) lines + 1))

-- ---- what there is at numbers from one on
pub range_none_from : {X : Type 0} (f : ℕ → X) (xs : List X) (a : ℕ) → xs ≡ xs ++ map f (range_with_len a (a - a))
range_none_from f xs a =
    let none : 0 ≡ a - a = omega arith in
    sym (append-nil xs) ∙ ap (λ n. xs ++ map f (range_with_len a n)) none

pub range_more_from : {X : Type 0} (f : ℕ → X) (xs now new : List X) (a k : ℕ) → a ≤ k → now ≡ xs ++ map f (range_with_len a (k - a))
    → new ≡ now ++ f k ∷ [] → new ≡ xs ++ map f (range_with_len a (k + 1 - a))
range_more_from f xs now new a k le is more =
    let one : k - a + 1 ≡ k + 1 - a = omega (arith, le) in
    more
    ∙ ap (λ r. r ++ f k ∷ []) is
    ∙ append_assoc xs (map f (range_with_len a (k - a))) (f k ∷ [])
    ∙ ap (λ r. xs ++ r) (sym (map-range_with_len_more f a (k - a) k (omega (arith, le))))
    ∙ ap (λ n. xs ++ map f (range_with_len a n)) one

pub use_is : (gap : List LineValue) (from file : ℕ) (uses : List NamedVariable) (k : ℕ) (u : NamedVariable) (count : ℕ) → slice_get uses k ≡ Some u
    → count ≡ prefix_len (λ line. nat_lt line.number u.line) gap
    → record { before = from + count; file = file; mark = Use k } ≡ use_at gap from file uses k
use_is gap from file uses k u count is count_is =
    ap (λ n. record { before = from + n; file = file; mark = Use k })
    (count_is ∙ ap (λ o. prefix_len (λ line. nat_lt line.number (option_map_or (λ v. v.line) o 0)) gap) (sym is))

-- ---- the marks of a file, with one more `source` line
module _ (lines : List LineValue) (starts rests : List ℕ) (file : ℕ) (uses : List NamedVariable) (rest : ℕ) where
  abbrev marks : ℕ → ℕ → ℕ → List ℕ → List Reached
  marks from k run sources = file_marks lines starts rests file uses rest from k run sources

  pub file_more : (sources : List ℕ) (place line from k run before next_from next_k next_run : ℕ) (gap : List LineValue) (all now mid new : List Reached) → place < length sources
      → line ≡ get_or sources place 0 → before ≡ get_or starts run 0 → gap ≡ gap_of lines from before → next_k ≡ uses_up_to uses k line
      → next_from ≡ get_or rests run 0 → next_run ≡ run_after starts run next_from
      → mid ≡ now ++ uses_between gap from file uses k next_k → new ≡ mid ++ record { before = before; file = file; mark = Source line run } ∷ []
      → now ++ marks from k run (drop place sources) ≡ all → new ++ marks next_from next_k next_run (drop (place + 1) sources) ≡ all
  file_more sources place line from k run before next_from next_k next_run gap all now mid new inside line_is before_is gap_is k_is from_is run_is mid_is new_is known =
      let more = drop (place + 1) sources in
      let split : drop place sources ≡ line ∷ more = drop_more sources place 0 inside ∙ ap (λ l. l ∷ more) (sym line_is) in
      let run_at : next_run ≡ run_after starts run (get_or rests run 0) = run_is ∙ ap (run_after starts run) from_is in
      let gap_at : gap ≡ gap_of lines from (get_or starts run 0) = gap_is ∙ ap (gap_of lines from) before_is in
      let left = marks next_from next_k next_run more in
      ap (λ xs. xs ++ left) new_is
      ∙ append_assoc mid (record { before = before; file = file; mark = Source line run } ∷ []) left
      ∙ ap (λ xs. xs ++ record { before = before; file = file; mark = Source line run } ∷ left) mid_is
      ∙ append_assoc now (uses_between gap from file uses k next_k) (record { before = before; file = file; mark = Source line run } ∷ left)
      ∙ ap (λ n. now ++ (uses_between gap from file uses k next_k ++ record { before = n; file = file; mark = Source line run } ∷ left)) before_is
      ∙ ap (λ g. now ++ (uses_between g from file uses k next_k ++ record { before = get_or starts run 0; file = file; mark = Source line run } ∷ left)) gap_at
      ∙ ap (λ n. now ++ (uses_between (gap_of lines from (get_or starts run 0)) from file uses k n ++ record { before = get_or starts run 0; file = file; mark = Source line run } ∷ marks next_from n next_run more)) k_is
      ∙ ap (λ n. now ++ (uses_between (gap_of lines from (get_or starts run 0)) from file uses k (uses_up_to uses k line) ++ record { before = get_or starts run 0; file = file; mark = Source line run } ∷ marks n (uses_up_to uses k line) next_run more)) from_is
      ∙ ap (λ n. now ++ (uses_between (gap_of lines from (get_or starts run 0)) from file uses k (uses_up_to uses k line) ++ record { before = get_or starts run 0; file = file; mark = Source line run } ∷ marks (get_or rests run 0) (uses_up_to uses k line) n more)) run_at
      ∙ ap (λ xs. now ++ marks from k run xs) (sym split)
      ∙ known

  pub file_all : (sources : List ℕ) (place from k run : ℕ) (gap : List LineValue) (all now new : List Reached) → length sources ≤ place → gap ≡ gap_of lines from rest
      → new ≡ now ++ uses_between gap from file uses k (length uses) → now ++ marks from k run (drop place sources) ≡ all → new ≡ all
  file_all sources place from k run gap all now new past gap_is new_is known =
      new_is
      ∙ ap (λ g. now ++ uses_between g from file uses k (length uses)) gap_is
      ∙ ap (λ xs. now ++ marks from k run xs) (sym (drop_of_length-le sources past))
      ∙ known

-- ---- bounds of what is listed by number
bounded_by : (f : ℕ → ℕ) (most count r : ℕ) → ((k : ℕ) → f k ≤ most) → (r < count) ⊎ (count ≤ r) → get_or (map f (range_with_len 0 count)) r 0 ≤ most
bounded_by f most count r few (inl h) = subst (λ n. n ≤ most) (sym (get_or-map-range_with_len f 0 count r r 0 h (omega arith))) (few r)
bounded_by f most count r few (inr h) =
    subst (λ n. n ≤ most) (sym (get_or_past (map f (range_with_len 0 count)) r 0 (subst (λ n. n ≤ r) (sym (length-map-range_with_len f 0 count)) h))) (omega arith)

pub bounded : (f : ℕ → ℕ) (most count : ℕ) (xs : List ℕ) → ((k : ℕ) → f k ≤ most) → xs ≡ map f (range_with_len 0 count) → (r : ℕ) → get_or xs r 0 ≤ most
bounded f most count xs few is r = subst (λ ys. get_or ys r 0 ≤ most) (sym is) (bounded_by f most count r few (cases_lt r count))

-- ---- the files so far, with one more
pub files_more : (lines : List LineValue) (files : List VariableFile) (n count other : ℕ) (f : VariableFile) (starts rests : List ℕ) (run : Option ℕ) (now new : List Reached)
    → slice_get files n ≡ Some f → count ≡ length (filter is_end lines) → other ≡ length (filter is_end lines)
    → starts ≡ map (start_of lines) (range_with_len 0 count) → rests ≡ map (rest_of lines) (range_with_len 0 other) → run ≡ first_run_of lines f.path.now
    → new ≡ now ++ marks_from lines starts rests n f.found run → now ≡ flat_map (marks_at lines files) (range_with_len 0 n)
    → new ≡ flat_map (marks_at lines files) (range_with_len 0 (n + 1))
files_more lines files n count other f starts rests run now new get count_is other_is starts_are rests_are run_is more is =
    flat_map_next (marks_at lines files) n now new is
    (more
    ∙ ap (λ xs. now ++ marks_from lines xs rests n f.found run) (starts_are ∙ ap (λ k. map (start_of lines) (range_with_len 0 k)) count_is)
    ∙ ap (λ xs. now ++ marks_from lines (map (start_of lines) (runs_of lines)) xs n f.found run) (rests_are ∙ ap (λ k. map (rest_of lines) (range_with_len 0 k)) other_is)
    ∙ ap (λ o. now ++ marks_from lines (map (start_of lines) (runs_of lines)) (map (rest_of lines) (runs_of lines)) n f.found o) run_is
    ∙ ap (λ o. now ++ option_map_or (marks_of_file lines n) o []) (sym get))
