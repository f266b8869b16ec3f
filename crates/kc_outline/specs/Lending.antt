-- Steps: what is lent of an outline to be changed. No public contract reaches it.
use Rattle.std.specs.Prelude.{◌≡◌, List, Option, Some, None}
use Rattle.std.specs.Borrow.{MutBor}

-- the one element that such a change of a list changes, if there is one
abbrev pub IsChanged : {A : Type 0} → ((A → A) → List A → List A) → List A → Option (MutBor A) → Type 0
IsChanged {A} change xs None = (f : A → A) → change f xs ≡ xs
IsChanged {A} change xs (Some x) = (f : A → A) (y : A) → y ≡ f x.now → change (λ _. y) xs ≡ change f xs
