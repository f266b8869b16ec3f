-- What is known of the lines that begin the parts of a tree.
use Rattle.std.specs.Option.{option_and_then, option_map, option_map_or}
use Rattle.std.specs.List.{take_while}
use Rattle.std.proofs.Common.{◌≡◌, ◌<◌, ◌≤◌, ◌+◌, ℕ, zero, suc, Bool, true, false, cond, if◌then◌else◌, nat_lt, List, [], ◌∷◌, ◌++◌, Option, Some, None, refl, drop, filter, length, map, get_or, slice_get, sym, ap, subst, ◌∙◌, arith, append_assoc, drop-drop}
use Rattle.std.proofs.lemmas.List.{append-nil, drop_all, drop_more}
use Rattle.std.proofs.lemmas.List.Folds.{length-prefix_len}
use Rattle.std.proofs.lemmas.List.Sums.{prefix_len-le-length, take_while-cons}
use Rattle.std.specs.Prelude.{unwrap_or}
use Rattle.std.proofs.lemmas.Option.{none-some, slice_get-map}
use Rattle.kc_text.specs.LineValue.{LineValue}
use Rattle.kc_statement.specs.Keywords.{is_attribute}
use Rattle.kc_lines.specs.Attributes.{says}
use Rattle.kc_lines.specs.LineIndex.{from_each, attributes_of, AreStarts, begins, attribute_number, numbers_from, numbers_saying}
use Rattle.kc_lines.specs.declared.parts.Attribute.{Attribute}
use Rattle.kc_lines.specs.declared.parts.Family.{Family}

first_if : (b : Bool) (line : LineValue) (lines : List LineValue) (rest : List (List LineValue)) (kept : List LineValue)
    → ((n : ℕ) → option_and_then (λ from. slice_get from 0) (slice_get rest n) ≡ slice_get kept n)
    → (n : ℕ) → option_and_then (λ from. slice_get from 0) (slice_get (cond b ((line ∷ lines) ∷ rest) rest) n) ≡ slice_get (cond b (line ∷ kept) kept) n
first_if true line lines rest kept same zero = refl
first_if true line lines rest kept same (suc n) = same n
first_if false line lines rest kept same n = same n

-- the first line of each is the one that passes the test
first_of_each : (test : LineValue → Bool) (lines : List LineValue) (number : ℕ)
    → option_and_then (λ from. slice_get from 0) (slice_get (from_each test lines) number) ≡ slice_get (filter test lines) number
first_of_each test [] number = refl
first_of_each test (line ∷ lines) number = first_if (test line) line lines (from_each test lines) (filter test lines) (first_of_each test lines) number

first_from : (lines : List LineValue) (start : ℕ) → slice_get (drop start lines) 0 ≡ slice_get lines start
first_from [] zero = refl
first_from [] (suc n) = refl
first_from (x ∷ xs) zero = refl
first_from (x ∷ xs) (suc n) = first_from xs n

first_at : (lines : List LineValue) (start : Option ℕ)
    → option_and_then (slice_get lines) start ≡ option_and_then (λ from. slice_get from 0) (option_map (λ s. drop s lines) start)
first_at lines None = refl
first_at lines (Some s) = sym (first_from lines s)

-- ---- the lines from each start on
next_drop : {X : Type 0} (all : List X) (n : ℕ) (x : X) (rest : List X) → drop n all ≡ x ∷ rest → drop (n + 1) all ≡ rest
next_drop all n x rest is = sym (drop-drop 1 n all) ∙ ap (drop 1) is

from_if : (b : Bool) (all : List LineValue) (n : ℕ) (line : LineValue) (lines : List LineValue) (starts : List ℕ) (rest : List (List LineValue)) → drop n all ≡ line ∷ lines
    → map (λ s. drop s all) starts ≡ rest → map (λ s. drop s all) (cond b (n ∷ starts) starts) ≡ cond b ((line ∷ lines) ∷ rest) rest
from_if true all n line lines starts rest is more = ap (λ x. x ∷ map (λ s. drop s all) starts) is ∙ ap (λ xs. (line ∷ lines) ∷ xs) more
from_if false all n line lines starts rest is more = more

from_numbers : (test : LineValue → Bool) (all : List LineValue) (n : ℕ) (rest : List LineValue) → drop n all ≡ rest
    → map (λ s. drop s all) (numbers_from test n rest) ≡ from_each test rest
from_numbers test all n [] is = refl
from_numbers test all n (line ∷ lines) is =
    from_if (test line) all n line lines (numbers_from test (n + 1) lines) (from_each test lines) is
    (from_numbers test all (n + 1) lines (next_drop all n line lines is))

from_starts : (test : LineValue → Bool) (lines : List LineValue) (starts : List ℕ) → AreStarts test lines starts → map (λ s. drop s lines) starts ≡ from_each test lines
from_starts test lines starts are = ap (map (λ s. drop s lines)) are ∙ from_numbers test lines 0 lines refl

-- the line at the start of a number is the one of that number that passes the test
pub started_line : (test : LineValue → Bool) (lines : List LineValue) (starts : List ℕ) (number : ℕ) → AreStarts test lines starts
    → option_and_then (slice_get lines) (slice_get starts number) ≡ slice_get (filter test lines) number
started_line test lines starts number are =
    let from : ℕ → List LineValue = λ s. drop s lines in
    first_at lines (slice_get starts number)
    ∙ ap (option_and_then (λ xs. slice_get xs 0)) (sym (slice_get-map from starts number))
    ∙ ap (λ all. option_and_then (λ xs. slice_get xs 0) (slice_get all number)) (from_starts test lines starts are)
    ∙ first_of_each test lines number

attributes_from : (lines : List LineValue) (start : Option ℕ)
    → option_map_or (λ s. take_while is_attribute (drop 1 (drop s lines))) start [] ≡ option_map_or (λ from. take_while is_attribute (drop 1 from)) (option_map (λ s. drop s lines) start) []
attributes_from lines None = refl
attributes_from lines (Some s) = refl

-- the attributes after the start of a number
pub started_attributes : (test : LineValue → Bool) (lines : List LineValue) (starts : List ℕ) (number : ℕ) → AreStarts test lines starts
    → option_map_or (λ s. take_while is_attribute (drop 1 (drop s lines))) (slice_get starts number) [] ≡ attributes_of test lines number
started_attributes test lines starts number are =
    let from : ℕ → List LineValue = λ s. drop s lines in
    attributes_from lines (slice_get starts number)
    ∙ ap (λ o. option_map_or (λ from. take_while is_attribute (drop 1 from)) o []) (sym (slice_get-map from starts number) ∙ ap (λ all. slice_get all number) (from_starts test lines starts are))

-- ---- the numbers of lines
within_if : (b : Bool) (n : ℕ) (numbers : List ℕ) (end : ℕ) → n < end → ((k s : ℕ) → slice_get numbers k ≡ Some s → s < end)
    → (k s : ℕ) → slice_get (cond b (n ∷ numbers) numbers) k ≡ Some s → s < end
within_if true n numbers end here rest zero s is = subst (λ (m : ℕ). m < end) (ap (λ (o : Option ℕ). unwrap_or o 0) is) here
within_if true n numbers end here rest (suc k) s is = rest k s is
within_if false n numbers end here rest k s is = rest k s is

no_item : (k s : ℕ) → slice_get {X = ℕ} [] k ≡ Some s → ⊥
no_item zero s is = none-some s is
no_item (suc k) s is = none-some s is

-- each is one of a line
pub numbers_within : (test : LineValue → Bool) (n : ℕ) (lines : List LineValue) (k s : ℕ) → slice_get (numbers_from test n lines) k ≡ Some s → s < n + length lines
numbers_within test n [] k s is = absurd (no_item k s is)
numbers_within test n (line ∷ lines) k s is =
    within_if (test line) n (numbers_from test (n + 1) lines) (n + length (line ∷ lines)) (omega arith)
    (λ j r at. let below : r < n + 1 + length lines = numbers_within test (n + 1) lines j r at in omega (arith, below))
    k s is

-- the attributes after the start of a number, which is known
pub attributes_there : (test : LineValue → Bool) (lines : List LineValue) (starts : List ℕ) (number start : ℕ) → AreStarts test lines starts → slice_get starts number ≡ Some start
    → take_while is_attribute (drop 1 (drop start lines)) ≡ attributes_of test lines number
attributes_there test lines starts number start are is =
    sym (ap (λ o. option_map_or (λ s. take_while is_attribute (drop 1 (drop s lines))) o []) is) ∙ started_attributes test lines starts number are

-- the lines that say an attribute, by the line of their owner, which is known or is not there
pub saying_there : (f : Family) (a : Attribute) (lines : List LineValue) (number start : ℕ) → slice_get (numbers_from (begins f) 0 lines) number ≡ Some start
    → numbers_from (says a) (start + 1) (take_while is_attribute (drop 1 (drop start lines))) ≡ numbers_saying lines f number a
saying_there f a lines number start is =
    ap (numbers_from (says a) (start + 1)) (attributes_there (begins f) lines (numbers_from (begins f) 0 lines) number start refl is)
    ∙ ap (λ o. option_map_or (λ s. numbers_from (says a) (s + 1) (attributes_of (begins f) lines number)) o []) (sym is)

pub saying_nowhere : (f : Family) (a : Attribute) (lines : List LineValue) (number : ℕ) → slice_get (numbers_from (begins f) 0 lines) number ≡ None
    → [] ≡ numbers_saying lines f number a
saying_nowhere f a lines number is = ap (λ o. option_map_or (λ s. numbers_from (says a) (s + 1) (attributes_of (begins f) lines number)) o []) (sym is)

-- ---- the attributes after a line, from a number on
pub numbers_more : (test : LineValue → Bool) (lines : List LineValue) (i : ℕ) (d : LineValue) → i < length lines → is_attribute (get_or lines i d) ≡ true
    → numbers_from test i (take_while is_attribute (drop i lines))
    ≡ cond (test (get_or lines i d)) (i ∷ numbers_from test (i + 1) (take_while is_attribute (drop (i + 1) lines))) (numbers_from test (i + 1) (take_while is_attribute (drop (i + 1) lines)))
numbers_more test lines i d within is =
    let x = get_or lines i d in
    let rest = drop (i + 1) lines in
    ap (λ xs. numbers_from test i (take_while is_attribute xs)) (drop_more lines i d within)
    ∙ ap (numbers_from test i) (take_while-cons is_attribute x rest ∙ ap (λ b. cond b (x ∷ take_while is_attribute rest) []) is)

pub numbers_end : (test : LineValue → Bool) (lines : List LineValue) (i : ℕ) (d : LineValue) → i < length lines → is_attribute (get_or lines i d) ≡ false
    → numbers_from test i (take_while is_attribute (drop i lines)) ≡ []
numbers_end test lines i d within is =
    let x = get_or lines i d in
    let rest = drop (i + 1) lines in
    ap (λ xs. numbers_from test i (take_while is_attribute xs)) (drop_more lines i d within)
    ∙ ap (numbers_from test i) (take_while-cons is_attribute x rest ∙ ap (λ b. cond b (x ∷ take_while is_attribute rest) []) is)

step_if : (b : Bool) (i : ℕ) (now rest : List ℕ) → cond b (now ++ i ∷ []) now ++ rest ≡ now ++ cond b (i ∷ rest) rest
step_if true i now rest = append_assoc now (i ∷ []) rest
step_if false i now rest = refl

-- one more attribute line
pub numbers_step : (test : LineValue → Bool) (lines : List LineValue) (i : ℕ) (x : LineValue) (now new all : List ℕ) (b : Bool) → i < length lines → x ≡ get_or lines i x
    → is_attribute x ≡ true → b ≡ test x → now ++ numbers_from test i (take_while is_attribute (drop i lines)) ≡ all → new ≡ cond b (now ++ i ∷ []) now
    → new ++ numbers_from test (i + 1) (take_while is_attribute (drop (i + 1) lines)) ≡ all
numbers_step test lines i x now new all b within there is passes known more =
    let rest = numbers_from test (i + 1) (take_while is_attribute (drop (i + 1) lines)) in
    ap (λ ns. ns ++ rest) more
    ∙ step_if b i now rest
    ∙ ap (λ c. now ++ cond c (i ∷ rest) rest) (passes ∙ ap test there)
    ∙ ap (λ ns. now ++ ns) (sym (numbers_more test lines i x within (sym (ap is_attribute there) ∙ is)))
    ∙ known

-- there are none past the last line
pub numbers_past : (test : LineValue → Bool) (lines : List LineValue) (i : ℕ) → length lines ≤ i → numbers_from test i (take_while is_attribute (drop i lines)) ≡ []
numbers_past test lines i past = ap (λ xs. numbers_from test i (take_while is_attribute xs)) (drop_all i lines past)

-- there are no more, so they are all
pub numbers_all : (test : LineValue → Bool) (lines : List LineValue) (start : ℕ) (now rest : List ℕ) → rest ≡ []
    → now ++ rest ≡ numbers_from test (start + 1) (take_while is_attribute (drop (start + 1) lines))
    → now ≡ numbers_from test (start + 1) (take_while is_attribute (drop 1 (drop start lines)))
numbers_all test lines start now rest none known =
    sym (append-nil now)
    ∙ ap (λ ns. now ++ ns) (sym none)
    ∙ known
    ∙ ap (λ xs. numbers_from test (start + 1) (take_while is_attribute xs)) (sym (drop-drop 1 start lines))

-- its number, where its owner is known
pub attribute_there : (b : Bool) (f : Family) (lines inside attributes : List LineValue) (starts : List ℕ) (number start nth : ℕ) → inside ≡ lines → AreStarts (begins f) lines starts
    → attributes ≡ option_map_or (λ s. take_while is_attribute (drop 1 (drop s inside))) (slice_get starts number) []
    → slice_get (numbers_from (begins f) 0 lines) number ≡ Some start → nat_lt nth (length attributes) ≡ b
    → cond b (Some (start + 1 + nth)) None ≡ attribute_number lines f number nth
attribute_there b f lines inside attributes starts number start nth whole are from is within =
    let same : attributes ≡ attributes_of (begins f) lines number =
    from ∙ ap (λ (ls : List LineValue). option_map_or (λ s. take_while is_attribute (drop 1 (drop s ls))) (slice_get starts number) []) whole ∙ started_attributes (begins f) lines starts number are in
    ap (λ c. cond c (Some (start + 1 + nth)) None) (sym within ∙ ap (λ (xs : List LineValue). nat_lt nth (length xs)) same)
    ∙ ap (option_and_then (λ s. if nat_lt nth (length (attributes_of (begins f) lines number)) then Some (s + 1 + nth) else None)) (sym is)
