-- What a reader gave, of which some may be unread.
use Rattle.std.proofs.Common.{◌≡◌, ℕ, List, [], ◌∷◌, ◌++◌, Option, None, Some, refl, ap, ◌∙◌}
use Rattle.std.specs.Io.KnownBytes.{Consumes, IsAtEnd, prepend_known}

-- where two lists are empty together, each is
append_empty : (xs ys : List ℕ) → xs ++ ys ≡ [] → (xs ≡ []) × (ys ≡ [])
append_empty [] ys e = (refl, e)
append_empty (x ∷ xs) ys e = cc

-- what the reader gave, where nothing of it is unread
pub Consumes-used_up : (known left : Option (List ℕ)) (unread taken : List ℕ) → Consumes known (prepend_known unread left) taken → unread ≡ [] → Consumes known left taken
Consumes-used_up None left unread taken h none = tt
Consumes-used_up (Some xs) None unread taken h none = absurd h
Consumes-used_up (Some xs) (Some rest) unread taken h none = h ∙ ap (λ bytes. taken ++ (bytes ++ rest)) none

-- at the end nothing is unread, and the reader is at its end
pub Consumes-at_end : (known left : Option (List ℕ)) (unread taken : List ℕ) → Consumes known (prepend_known unread left) taken → IsAtEnd (prepend_known unread left)
    → Consumes known left taken × IsAtEnd left
Consumes-at_end None None unread taken h end = (tt, tt)
Consumes-at_end None (Some rest) unread taken h end = (tt, (append_empty unread rest end).1)
Consumes-at_end (Some xs) None unread taken h end = absurd h
Consumes-at_end (Some xs) (Some rest) unread taken h end =
    let none = append_empty unread rest end in
    (h ∙ ap (λ bytes. taken ++ (bytes ++ rest)) none.0, none.1)

-- nothing is left where nothing is unread and the reader is at its end
pub IsAtEnd-empty : (bytes : List ℕ) (known : Option (List ℕ)) → bytes ≡ [] → IsAtEnd known → IsAtEnd (prepend_known bytes known)
IsAtEnd-empty bytes None none end = tt
IsAtEnd-empty bytes (Some rest) none end = ap (λ xs. xs ++ rest) none ∙ end
