-- Runs of elements that pass a test.
use Rattle.std.proofs.Common.{◌≡◌, ◌+◌, ◌∙◌, ℕ, Bool, false, Option, length, cond, List, [], ◌∷◌, map, reverse, refl, ap}
use mathlib.Core.List.{reverse_aux}
use denote.Param.Members.{Mut}
use denote.Ref.{Bor}
use Rattle.std.specs.declared.iter.TakeWhile.{TakeWhile}
use Rattle.std.specs.Fn.{CalledAt}
use Rattle.std.specs.Iterator.{Drains}
use Rattle.std.specs.Iterator.Adapters.{take_while_source, take_while_done, take_while_callee, take_while_steps}
use Rattle.std.specs.List.{prefix_len, suffix_len}
use Rattle.std.proofs.lemmas.Iterator.{YieldsList}
use Rattle.std.proofs.lemmas.Iterator.Consumers.{count_from_yields_List}
use Rattle.std.proofs.lemmas.Iterator.Search.{YieldsList-from_take_while}
use Rattle.std.proofs.lemmas.List.Folds.{length-prefix_len}

-- a run of elements whose images pass a test
pub prefix_len-map : {X Y : Type 0} (f : X → Y) (p : Y → Bool) (xs : List X) → prefix_len (λ x. p (f x)) xs ≡ prefix_len p (map f xs)
prefix_len-map f p [] = refl
prefix_len-map f p (x ∷ xs) = ap (λ n. cond (p (f x)) (1 + n) 0) (prefix_len-map f p xs)

map-reverse_aux : {X Y : Type 0} (f : X → Y) (xs ys : List X) → map f (reverse_aux xs ys) ≡ reverse_aux (map f xs) (map f ys)
map-reverse_aux f [] ys = refl
map-reverse_aux f (x ∷ xs) ys = map-reverse_aux f xs (x ∷ ys)

-- such a run at the end
pub suffix_len-map : {X Y : Type 0} (f : X → Y) (p : Y → Bool) (xs : List X) → suffix_len (λ x. p (f x)) xs ≡ suffix_len p (map f xs)
suffix_len-map f p xs = prefix_len-map f p (reverse xs) ∙ ap (prefix_len p) (map-reverse_aux f xs [])

-- how many items `take_while` counts, over an iterator that gives a list
pub count-take_while : {S A B F : Type 0} {steps : S → Option A → S → Type 0} {v : A → B} {ys : List B} {s : TakeWhile S F} {f : F} {g : Mut F (Bor A × Unit {0}) Bool} (test : B → Bool) (n : ℕ)
    → ((xs : List A) × Drains (take_while_steps steps g) s xs × (n ≡ length xs)) → YieldsList steps v (take_while_source s) ys → take_while_callee s ≡ f → take_while_done s ≡ false
    → ((x : A) (b : Bool) (q : F) → CalledAt g f x b q → (q ≡ f) × (b ≡ test (v x))) → n ≡ prefix_len test ys
count-take_while {ys = ys} {s = s} {g = g} test n ran source callee going tests =
    count_from_yields_List s n ran (YieldsList-from_take_while g test source callee going tests) ∙ length-prefix_len test ys
