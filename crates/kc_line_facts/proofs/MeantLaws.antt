-- What names are meant as, one name after the other.
use Rattle.std.proofs.Common.{◌≡◌, ◌⊎◌, ◌+◌, ◌<◌, ◌≤◌, ◌∙◌, ℕ, List, [], ◌∷◌, ◌++◌, Option, None, Some, ap, arith, get_or, inl, inr, length, slice_get, subst, sym}
use Rattle.std.proofs.lemmas.Bool.{cases_lt}
use Rattle.std.proofs.lemmas.List.{get_or_append_left, get_or_push}
use Rattle.std.proofs.lemmas.Option.{same_Some}
use Rattle.kc_text.specs.LineValue.{LineValue}
use Rattle.kc_statement.specs.declared.id.SymId.{SymId}
use Rattle.kc_outline.specs.TreeValue.{TreeValue}
use Rattle.kc_line_facts.specs.MeantSymbols.{IsMeantAs}
use Rattle.kc_line_facts.specs.declared.undefined_names.DoubtfulName.{DoubtfulName}

pub meant_more : (names : List (List ℕ)) (lines : List LineValue) (t : TreeValue) (prefix : List ℕ) (ds : List DoubtfulName) (ms new : List (Option SymId))
    (i : ℕ) (d : DoubtfulName) (m : Option SymId) → slice_get ds i ≡ Some d → length ms ≡ i → new ≡ ms ++ m ∷ [] → IsMeantAs names lines t prefix d m
    → ((k : ℕ) (e : DoubtfulName) → k < i → slice_get ds k ≡ Some e → IsMeantAs names lines t prefix e (get_or ms k None))
    → (k : ℕ) (e : DoubtfulName) → k < i + 1 → slice_get ds k ≡ Some e → IsMeantAs names lines t prefix e (get_or new k None)
meant_more names lines t prefix ds ms new i d m is sized grown meant earlier k e within at = go (cases_lt k i)
  where
    go : (k < i) ⊎ (i ≤ k) → IsMeantAs names lines t prefix e (get_or new k None)
    go (inl below) =
        let same : get_or new k None ≡ get_or ms k None =
        ap (λ l. get_or l k None) grown ∙ get_or_append_left ms (m ∷ []) None k (omega (arith, below, sized)) in
        subst (λ o. IsMeantAs names lines t prefix e o) (sym same) (earlier k e below at)
    go (inr above) =
        let here : k ≡ i = omega (arith, within, above) in
        let named : e ≡ d = same_Some e d (sym at ∙ ap (slice_get ds) here ∙ is) in
        let same : get_or new k None ≡ m =
        ap (λ l. get_or l k None) grown ∙ ap (λ n. get_or (ms ++ m ∷ []) n None) here ∙ get_or_push ms m None i sized in
        subst (λ o. IsMeantAs names lines t prefix e o) (sym same) (subst (λ n. IsMeantAs names lines t prefix n m) (sym named) meant)
