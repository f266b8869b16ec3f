-- What the rows of `why` say of factors, as parts of one condition; and lists that grow by a row for each element of another.
use Rattle.std.proofs.Common.{◌≡◌, ℕ, true, Option, Some, List, map, is_some, if◌then◌else◌, Result, Ok, Err, IfOk, Vec, Global, sym, ap, ◌∙◌, subst, slice_get, ◌+◌, ◌<◌, [], ◌∷◌, ◌++◌, None, append_assoc, drop, get_or, length}
use Rattle.std.specs.Prelude.{All, option_to_list}
use Rattle.std.specs.Option.{IfSome}
use Rattle.std.proofs.lemmas.List.{append-nil, drop_more, map-append}
use Rattle.std.proofs.lemmas.List.Elements.{All-push}
use Rattle.kc_outline.specs.TreeValue.{TreeValue}
use Rattle.kc_tree.specs.ConditionTable.{dependencies_in}
use Rattle.kc_value.specs.declared.factors.Factor.{Factor}
use Rattle.kc_value.specs.Assignment.{Assignment}
use Rattle.kc_value.specs.Factors.{judged, judged_of, origins_of, definition_block, prompt_condition}
use Rattle.kc_facts.specs.WhyRows.{AreListedFactors, listed_condition}

-- the factors of the prompt are those that are listed where there is one
pub of_prompt : {E : Type 0} (t t2 : TreeValue) (a a2 : Assignment) (n : ℕ) (r : Result (Vec Factor Global) E)
    → t2 ≡ t → a2 ≡ a → is_some (prompt_condition t2 n) ≡ true
    → IfOk r (λ v. map judged v.items ≡ judged_of t2 a2 (prompt_condition t2 n))
    → IfOk r (λ v. map (λ (f : Factor). f.origin) v.items ≡ origins_of t2 (definition_block t2 n) (prompt_condition t2 n))
    → IfOk r (λ v. AreListedFactors t a n v.items)
of_prompt t t2 a a2 n (Err e) et ea has js os = tt
of_prompt t t2 a a2 n (Ok v) et ea has js os =
    let same : listed_condition t2 n ≡ prompt_condition t2 n =
    ap (λ b. if b then prompt_condition t2 n else Some (dependencies_in (slice_get t2.definitions n))) has in
    subst (λ (t : TreeValue). AreListedFactors t a n v.items) et
    (subst (λ (a : Assignment). AreListedFactors t2 a n v.items) ea
    (record { judged = js ∙ ap (judged_of t2 a2) (sym same); origins = os ∙ ap (origins_of t2 (definition_block t2 n)) (sym same) }))

-- ---- lists that grow
-- one more row, which shows the next element
pub shown_more : {A B : Type 0} (f : A → B) (xs : List A) (x : A) (ys : List A) (all : List B) (i : ℕ) (d : B) → i < length all
    → ys ≡ xs ++ x ∷ [] → f x ≡ get_or all i d → map f xs ++ drop i all ≡ all → map f ys ++ drop (i + 1) all ≡ all
shown_more {A} f xs x ys all i d inside is at before =
    ap (λ (zs : List A). map f zs ++ drop (i + 1) all) is
    ∙ ap (λ zs. zs ++ drop (i + 1) all) (map-append f xs (x ∷ []))
    ∙ append_assoc (map f xs) (f x ∷ []) (drop (i + 1) all)
    ∙ ap (λ zs. map f xs ++ zs) (ap (λ y. y ∷ drop (i + 1) all) at ∙ sym (drop_more all i d inside))
    ∙ before

-- the same by what rows and elements show
pub shown_more_by : {A B C : Type 0} (f : A → C) (g : B → C) (xs : List A) (x : A) (ys : List A) (all : List B) (i : ℕ) (d : B) → i < length all
    → ys ≡ xs ++ x ∷ [] → f x ≡ g (get_or all i d) → map f xs ++ map g (drop i all) ≡ map g all
    → map f ys ++ map g (drop (i + 1) all) ≡ map g all
shown_more_by {A} f g xs x ys all i d inside is at before =
    ap (λ (zs : List A). map f zs ++ map g (drop (i + 1) all)) is
    ∙ ap (λ zs. zs ++ map g (drop (i + 1) all)) (map-append f xs (x ∷ []))
    ∙ append_assoc (map f xs) (f x ∷ []) (map g (drop (i + 1) all))
    ∙ ap (λ zs. map f xs ++ zs) (ap (λ y. y ∷ map g (drop (i + 1) all)) at ∙ sym (ap (map g) (drop_more all i d inside)))
    ∙ before
