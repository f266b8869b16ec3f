-- What one more line is needed for.
use Rattle.std.proofs.Common.{◌≡◌, ◌∙◌, ◌<◌, ◌+◌, ℕ, List, [], ◌∷◌, ◌++◌, Option, None, length, get_or, length-append, ap, sym, subst, arith}
use Rattle.std.specs.List.{remove}
use Rattle.std.proofs.lemmas.List.{get_or_push, get_or_append_left}
use borrow.Author.Count.{below_more}
use Rattle.kc_files.specs.declared.assign.Assign.{Assign}
use Rattle.kc_how.specs.Question.{Asked, IsLacking}

pub whole_more : (found : List (Option ℕ)) (one : Option ℕ) (i : ℕ) (new : List (Option ℕ)) → new ≡ found ++ one ∷ [] → length found ≡ i → length new ≡ i + 1
whole_more found one i new e whole = ap length e ∙ (length-append found (one ∷ []) ∙ ap (λ n. n + 1) whole)

pub needed_more : (q : Asked) (lines : List Assign) (found : List (Option ℕ)) (i : ℕ) (one : Option ℕ) → length found ≡ i
    → ((k : ℕ) → k < i → IsLacking q (remove lines k) (get_or found k None)) → IsLacking q (remove lines i) one
    → (k : ℕ) → k < i + 1 → IsLacking q (remove lines k) (get_or (found ++ one ∷ []) k None)
needed_more q lines found i one whole each here =
    let P : ℕ → Type 0 = λ k. IsLacking q (remove lines k) (get_or (found ++ one ∷ []) k None) in
    below_more P i
    (λ k less. subst (IsLacking q (remove lines k)) (sym (get_or_append_left found (one ∷ []) None k (omega (arith, whole, less)))) (each k less))
    (subst (IsLacking q (remove lines i)) (sym (get_or_push found one None i whole)) here)
