-- A list that a loop fills with what some elements give, each as a pair.
use Rattle.std.proofs.Common.{◌∙◌, ap, sym, ◌≡◌, ◌++◌, ◌∷◌, [], List, Option, Some, None, map, refl}
use Rattle.std.specs.List.{filter_map}
use Rattle.std.proofs.lemmas.List.{map-append, append-nil}
use Rattle.std.proofs.lemmas.List.Elements.{filter_map-append}

-- what one more element gives
one_more : {X Y Z : Type 0} (h : Y → Option Z) (v : X → Y) (xs : List X) (x : X) → filter_map h (map v (xs ++ x ∷ [])) ≡ filter_map h (map v xs) ++ filter_map h (v x ∷ [])
one_more h v xs x = ap (filter_map h) (map-append v xs (x ∷ [])) ∙ filter_map-append h (map v xs) (v x ∷ [])

gives_one : {Y Z : Type 0} (h : Y → Option Z) (y : Y) (z : Z) → Some z ≡ h y → filter_map h (y ∷ []) ≡ z ∷ []
gives_one h y z e = rw (← e) refl

gives_none : {Y Z : Type 0} (h : Y → Option Z) (y : Y) → None ≡ h y → filter_map h (y ∷ []) ≡ []
gives_none h y e = rw (← e) refl

pub kept : {X Y Z W : Type 0} (h : Y → Option Z) (v : X → Y) (xs : List X) (x : X) (f : W → Z) (ws new : List W) (w : W) → map f ws ≡ filter_map h (map v xs) → new ≡ ws ++ w ∷ [] → Some (f w) ≡ h (v x) → map f new ≡ filter_map h (map v (xs ++ x ∷ []))
kept h v xs x f ws new w so_far more gives =
    ap (map f) more ∙ map-append f ws (w ∷ []) ∙ ap (λ l. l ++ f w ∷ []) so_far ∙ ap (λ l. filter_map h (map v xs) ++ l) (sym (gives_one h (v x) (f w) gives)) ∙ sym (one_more h v xs x)

pub passed : {X Y Z W : Type 0} (h : Y → Option Z) (v : X → Y) (xs : List X) (x : X) (f : W → Z) (ws : List W) → map f ws ≡ filter_map h (map v xs) → None ≡ h (v x) → map f ws ≡ filter_map h (map v (xs ++ x ∷ []))
passed h v xs x f ws so_far gives =
    so_far ∙ sym (append-nil (filter_map h (map v xs))) ∙ ap (λ l. filter_map h (map v xs) ++ l) (sym (gives_none h (v x) gives)) ∙ sym (one_more h v xs x)
