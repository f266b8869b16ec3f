-- The last line whose place each line takes, line by line.
use Rattle.std.proofs.Common.{◌≡◌, ℕ, ◌+◌, ◌<◌, ◌≤◌, ◌==◌, Bool, true, false, if◌then◌else◌, List, [], ◌++◌, Option, Some, None, length, get_or, slice_get, slice_set, nat_lt, refl, sym, ap, ◌∙◌, subst, ⊎_elim, add-one, arith}
use Rattle.std.specs.Prelude.{option_and_then}
use Rattle.std.specs.List.{flat_map, range_with_len}
use Rattle.std.specs.Option.{option_map_or}
use Rattle.std.proofs.lemmas.Bool.{cases_eq, eq-eqb, ne_eqb, ltb-false, ltb-true}
use Rattle.std.proofs.lemmas.List.{get_or-set_same, get_or-set_other, length-set}
use Rattle.kc_files.specs.declared.fragments.FragmentLine.{FragmentLine}
use Rattle.kc_files.specs.declared.outcomes.Outcome.{Outcome}
use Rattle.kc_files.specs.declared.line_facts.FoundInLine.{FoundInLine}
use Rattle.kc_files.specs.declared.taken_lines.Common.TheVariants as common
use Rattle.kc_files.proofs.RangeLaws.{flat_map_range_more}
use Rattle.kc_files.specs.LineFacts.{found_at, found_of_line, is_number, last_below, noted, taken_by}

-- one more number
pub last_more : (test : ℕ → Bool) (n : ℕ) → last_below test (n + 1) ≡ (if test n then Some n else last_below test n)
last_more test n = ap (last_below test) (add-one n)

pub slot_set : {X : Type 0} (slots : List (Option X)) (s k : ℕ) (x r : Option X) → s < length slots → get_or slots k None ≡ r
    → get_or (slice_set slots s x) k None ≡ (if s == k then x else r)
slot_set slots s k x r inside e =
    ⊎_elim
    (λ same. ap (λ n. get_or (slice_set slots s x) n None) same ∙ get_or-set_same slots s x None inside ∙ sym (ap (λ b. if b then x else r) (eq-eqb s k (sym same))))
    (λ other. get_or-set_other slots s k x None other ∙ e ∙ sym (ap (λ b. if b then x else r) (ne_eqb s k (λ same. other (sym same)))))
    (cases_eq k s)

set_in : (last : List (Option ℕ)) (s i k : ℕ) (r : Option ℕ) (b : Bool) → nat_lt s (length last) ≡ b → k < length last → get_or last k None ≡ r
    → get_or (if b then slice_set last s (Some i) else last) k None ≡ (if s == k then Some i else r)
set_in last s i k r true is inside e = slot_set last s k (Some i) r (ltb-true s (length last) is) e
set_in last s i k r false is inside e =
    let beyond : length last ≤ s = ltb-false s (length last) is in
    e ∙ sym (ap (λ (b : Bool). if b then Some i else r) (ne_eqb s k (λ same. omega (arith, beyond, inside, same))))

pub noted_at : (last : List (Option ℕ)) (number : Option ℕ) (i k : ℕ) (r : Option ℕ) → k < length last → get_or last k None ≡ r
    → get_or (noted last number i) k None ≡ (if is_number k number then Some i else r)
noted_at last None i k r inside e = e
noted_at last (Some s) i k r inside e = set_in last s i k r (nat_lt s (length last)) refl inside e

-- what is noted of the lines that were gone over, with one more
pub noted_step : (by : ℕ → Outcome → Option ℕ) (os : List Outcome) (i : ℕ) (o : Outcome) (before after : List (Option ℕ)) (size : ℕ)
    → slice_get os i ≡ Some o → length before ≡ size
    → ((k : ℕ) → k < size → get_or before k None ≡ last_below (λ n. is_number k (option_and_then (by n) (slice_get os n))) i)
    → after ≡ noted before (by i o) i
    → (k : ℕ) → k < size → get_or after k None ≡ last_below (λ n. is_number k (option_and_then (by n) (slice_get os n))) (i + 1)
noted_step by os i o before after size is sized each new k within =
    ap (λ (slots : List (Option ℕ)). get_or slots k None) new
    ∙ noted_at before (by i o) i k (last_below (λ n. is_number k (option_and_then (by n) (slice_get os n))) i) (subst (λ n. k < n) (sym sized) within) (each k within)
    ∙ ap (λ (p : Option Outcome). if is_number k (option_and_then (by i) p) then Some i else last_below (λ n. is_number k (option_and_then (by n) (slice_get os n))) i) (sym is)
    ∙ sym (last_more (λ n. is_number k (option_and_then (by n) (slice_get os n))) i)

-- noting changes no length
pub noted_sized : (last : List (Option ℕ)) (number : Option ℕ) (i : ℕ) → length (noted last number i) ≡ length last
noted_sized last None i = refl
noted_sized last (Some s) i = by_test (nat_lt s (length last))
  where
    by_test : (b : Bool) → length (if b then slice_set last s (Some i) else last) ≡ length last
    by_test true = length-set last s (Some i)
    by_test false = refl

-- what is found in one more line
pub found_step : (lines : List FragmentLine) (os : List Outcome) (i : ℕ) (o : Outcome) (same member : Option ℕ) → slice_get os i ≡ Some o
    → same ≡ taken_by lines os common.Symbol i → member ≡ taken_by lines os common.Choice i
    → flat_map (found_at lines os) (range_with_len 0 (i + 1)) ≡ flat_map (found_at lines os) (range_with_len 0 i) ++ found_of_line i same member o
found_step lines os i o same member is same_is member_is =
    flat_map_range_more (found_at lines os) i
    ∙ ap (λ (f : List FoundInLine). flat_map (found_at lines os) (range_with_len 0 i) ++ f)
    (ap (λ (p : Option Outcome). option_map_or (found_of_line i (taken_by lines os common.Symbol i) (taken_by lines os common.Choice i)) p []) is
    ∙ sym (ap (λ (s : Option ℕ). found_of_line i s (taken_by lines os common.Choice i) o) same_is)
    ∙ sym (ap (λ (r : Option ℕ). found_of_line i same r o) member_is))
