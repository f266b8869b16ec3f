-- The first and the last number that pass a test, with one more number; and a list of what is noted by number.
use Rattle.std.proofs.Common.{◌≡◌, ℕ, ◌+◌, ◌<◌, ◌==◌, Bool, if◌then◌else◌, List, Option, Some, None, length, get_or, slice_set, sym, ap, ◌∙◌, ⊎_elim, add-one}
use Rattle.std.specs.Option.{option_or}
use Rattle.std.proofs.lemmas.Bool.{cases_eq, eq-eqb, ne_eqb}
use Rattle.std.proofs.lemmas.List.{get_or-set_same, get_or-set_other}
use Rattle.kc_line_facts.specs.Numbers.{first_below, last_below}

pub first_more : (test : ℕ → Bool) (n : ℕ) → first_below test (n + 1) ≡ option_or (first_below test n) (if test n then Some n else None)
first_more test n = ap (first_below test) (add-one n)

pub last_more : (test : ℕ → Bool) (n : ℕ) → last_below test (n + 1) ≡ (if test n then Some n else last_below test n)
last_more test n = ap (last_below test) (add-one n)

pub slot_set : {X : Type 0} (slots : List (Option X)) (s k : ℕ) (x r : Option X) → s < length slots → get_or slots k None ≡ r
    → get_or (slice_set slots s x) k None ≡ (if s == k then x else r)
slot_set slots s k x r inside e =
    ⊎_elim
    (λ same. ap (λ n. get_or (slice_set slots s x) n None) same ∙ get_or-set_same slots s x None inside ∙ sym (ap (λ b. if b then x else r) (eq-eqb s k (sym same))))
    (λ other. get_or-set_other slots s k x None other ∙ e ∙ sym (ap (λ b. if b then x else r) (ne_eqb s k (λ same. other (sym same)))))
    (cases_eq k s)
