-- Names that are noted one after another.
use Rattle.std.proofs.Common.{◌≡◌, ℕ, ◌+◌, ◌<◌, Bool, true, false, cond, not, ◌&&◌, ◌||◌, List, [], Option, Some, get_or, length, slice_get, take, refl, sym, ap, ◌∙◌, bytes_eq}
use Rattle.std.specs.Option.{option_map_or}
use Rattle.std.proofs.lemmas.List.Folds.{list_any_more}
use Rattle.kc_line_facts.specs.FreshNames.{is_among, is_fresh}

-- a name is noted
pub noted_by : {X : Type 0} (b : Bool) (x : X) (known : Option X) → option_map_or (λ _. true) (cond b (Some x) known) false ≡ (b || option_map_or (λ _. true) known false)
noted_by true x known = refl
noted_by false x known = refl

-- one name more
pub among_more : (names : List (List ℕ)) (k : ℕ) (q : List ℕ) → k < length names → is_among (take (k + 1) names) q ≡ (is_among (take k names) q || bytes_eq (get_or names k []) q)
among_more names k q within = list_any_more (λ n. bytes_eq n q) names k [] within

or_moved : (a b c : Bool) → (b || (a || c)) ≡ ((a || b) || c)
or_moved true true c = refl
or_moved true false c = refl
or_moved false true c = refl
or_moved false false c = refl

or_turned : (a b : Bool) → (a || b) ≡ (b || a)
or_turned true true = refl
or_turned true false = refl
or_turned false true = refl
or_turned false false = refl

not_either : (a b : Bool) → not (a || b) ≡ (not a && not b)
not_either true b = refl
not_either false b = refl

-- one name more is noted, after those before it
pub after_noted : (names : List (List ℕ)) (k : ℕ) (q name : List ℕ) (known noted : Bool) → k < length names → get_or names k [] ≡ name
    → noted ≡ (is_among (take k names) q || known) → (bytes_eq name q || noted) ≡ (is_among (take (k + 1) names) q || known)
after_noted names k q name known noted within same is =
    ap (λ b. bytes_eq name q || b) is
    ∙ or_moved (is_among (take k names) q) (bytes_eq name q) known
    ∙ ap (λ b. b || known) (sym (among_more names k q within ∙ ap (λ n. is_among (take k names) q || bytes_eq n q) same))

-- the same after names that are known
pub after_known : (names : List (List ℕ)) (k : ℕ) (q name : List ℕ) (known noted : Bool) → k < length names → get_or names k [] ≡ name
    → noted ≡ (known || is_among (take k names) q) → (bytes_eq name q || noted) ≡ (known || is_among (take (k + 1) names) q)
after_known names k q name known noted within same is =
    after_noted names k q name known noted within same (is ∙ or_turned known (is_among (take k names) q))
    ∙ or_turned (is_among (take (k + 1) names) q) known

-- a name is fresh, by the names that are noted
pub fresh_by : (names known : List (List ℕ)) (k : ℕ) (name : List ℕ) (noted : Bool) → slice_get names k ≡ Some name
    → noted ≡ (is_among known name || is_among (take k names) name) → not noted ≡ is_fresh names known k
fresh_by names known k name noted is e =
    ap not e ∙ not_either (is_among known name) (is_among (take k names) name)
    ∙ sym (ap (λ o. option_map_or (λ n. not (is_among known n) && not (is_among (take k names) n)) o false) is)
