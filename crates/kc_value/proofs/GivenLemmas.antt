-- What is seen of the values that were given, and the places of their texts.
use Rattle.std.proofs.Common.{◌≡◌, ◌≢◌, ◌<◌, ◌+◌, ◌^◌, ℕ, zero, suc, cond, List, [], ◌∷◌, ◌++◌, Option, Some, None, length, map, get_or, set, replicate, slice_get, refl, sym, ap, ◌∙◌, arith}
use Rattle.std.specs.Prelude.{is_some}
use Rattle.std.proofs.lemmas.Bool.{cases_eq}
use Rattle.std.proofs.lemmas.Grind.{common_steps}
use Rattle.std.proofs.lemmas.List.{ext_get_or, get_or-map, length-map, length-replicate, length-set, map-set, set-get_or}
use Rattle.std.proofs.lemmas.List.Folds.{sum_by-replicate}
use Rattle.std.proofs.lemmas.List.Sums.{count_by-le-length, sum_by-set}
use Rattle.std.proofs.lemmas.Option.{gets, none-some}
use Rattle.kc_tree.specs.declared.user_value.UserVal.{UserVal}
use Rattle.kc_value.specs.declared.given.Given.{Given}
use Rattle.kc_value.specs.declared.given.Given.TheVariants.{Plain, Aside, Text}
use Rattle.kc_value.specs.GivenValues.{ArePlaces, place_of, seen}
use Rattle.kc_value.proofs.UserLemmas.{none_in}

-- ---- no values
map-replicate : {A B : Type 0} (f : A → B) (n : ℕ) (x : A) → map f (replicate n x) ≡ replicate n (f x)
map-replicate f zero x = refl
map-replicate f (suc n) x = ap (λ ys. f x ∷ ys) (map-replicate f n x)

pub nothing_seen : (texts : List UserVal) (n : ℕ) → map (seen texts) (replicate n (Plain None)) ≡ replicate n None
nothing_seen texts n = map-replicate (seen texts) n (Plain None)

no_places : (n : ℕ) → n < 2 ^ 32 → ArePlaces (replicate n None) 0
no_places n few = record {
  few = omega (arith, length-replicate {A = Option ℕ} n None, few);
  counted = omega (arith, sum_by-replicate (λ (o : Option ℕ). cond (is_some o) 1 0) n None);
  within = λ k place e. absurd (none-some place (sym (none_in n k) ∙ e));
  apart = λ j k place e other. absurd (none-some place (sym (none_in n j) ∙ e));
}

pub none_placed : (n : ℕ) → n < 2 ^ 32 → ArePlaces (map place_of (replicate n (Plain None))) 0
none_placed n few = rw (map-replicate place_of n (Plain None)) (no_places n few)

-- ---- places
-- a symbol that has a value or none is one of those that are kept
pub is_inside : (texts : List UserVal) (given : List Given) (values : List (Option UserVal)) (k : ℕ) → map (seen texts) given ≡ values → k < length values → k < length given
is_inside texts given values k same inside = omega (arith, inside, ap length same, length-map given (seen texts))

pub place_read : (given : List Given) (k : ℕ) (s : Given) → k < length given → s ≡ get_or given k s → get_or (map place_of given) k None ≡ place_of s
place_read given k s inside read = get_or-map place_of given k s None inside ∙ ap place_of (sym read)

-- a symbol keeps its place
pub place_kept : (given : List Given) (k : ℕ) (s : Given) → get_or (map place_of given) k None ≡ place_of s → map place_of (set given k s) ≡ map place_of given
place_kept given k s same = map-set place_of given k s ∙ ap (set (map place_of given) k) (sym same) ∙ set-get_or (map place_of given) k None

-- or gets the next
module _ (places : List (Option ℕ)) (texts k : ℕ) (now : ArePlaces places texts) (inside : k < length places) (none : get_or places k None ≡ None) where
  pub place_added : ArePlaces (set places k (Some texts)) (texts + 1)
  place_added = record {
    few = omega (arith, length-set places k (Some texts), now.few);
    counted = omega (arith, sum_by-set (λ (o : Option ℕ). cond (is_some o) 1 0) places k (Some texts) None inside, ap {B = ℕ} (λ (o : Option ℕ). cond (is_some o) 1 0) none, now.counted);
    within = λ j place e. grind (arith, common_steps, cases_eq j k, now.within j place);
    apart = λ i j place e f. grind (arith, common_steps, cases_eq i k, cases_eq j k, now.within i place, now.within j place, now.apart i j place);
  }

  -- for which there is room
  pub room_left : texts < length places
  room_left = omega (arith, place_added.counted, count_by-le-length is_some (set places k (Some texts)), length-set places k (Some texts))

-- ---- what is seen after a text was put at a place, and the place was given to a symbol
set_same : {X : Type 0} (d : X) (xs ys : List X) (k : ℕ) (x : X) → length xs ≡ length ys → ((j : ℕ) → j ≢ k → j < length xs → get_or xs j d ≡ get_or ys j d) → set xs k x ≡ set ys k x
set_same d xs ys k x whole same =
    ext_get_or d (set xs k x) (set ys k x) (length-set xs k x ∙ whole ∙ sym (length-set ys k x))
    (λ i below. grind (arith, common_steps, cases_eq i k, same i))

seen_kept : (old new : List UserVal) (s : Given) → ((q : ℕ) → place_of s ≡ Some q → slice_get new q ≡ slice_get old q) → seen new s ≡ seen old s
seen_kept old new (Plain v) same = refl
seen_kept old new (Aside v q) same = refl
seen_kept old new (Text q) same = same q refl

module _ (old new : List UserVal) (given : List Given) (k place : ℕ) (v : UserVal) where
  text_seen : slice_get new place ≡ Some v → ((j q : ℕ) → j ≢ k → get_or (map place_of given) j None ≡ Some q → slice_get new q ≡ slice_get old q)
      → map (seen new) (set given k (Text place)) ≡ set (map (seen old) given) k (Some v)
  text_seen here others =
      map-set (seen new) given k (Text place) ∙ ap (set (map (seen new) given) k) here
      ∙ set_same None (map (seen new) given) (map (seen old) given) k (Some v) (length-map given (seen new) ∙ sym (length-map given (seen old)))
      (λ j other below.
      let inside : j < length given = omega (arith, below, length-map given (seen new)) in
      get_or-map (seen new) given j (Plain None) None inside
      ∙ seen_kept old new (get_or given j (Plain None)) (λ q e. others j q other (get_or-map place_of given j (Plain None) None inside ∙ e))
      ∙ sym (get_or-map (seen old) given j (Plain None) None inside))

module _ (texts : List UserVal) (given : List Given) (k place : ℕ) (v : UserVal) (now : ArePlaces (map place_of given) (length texts)) where
  -- the symbol had the place
  pub put_seen : get_or (map place_of given) k None ≡ Some place → map (seen (set texts place v)) (set given k (Text place)) ≡ set (map (seen texts) given) k (Some v)
  put_seen has =
      text_seen texts (set texts place v) given k place v (grind (arith, common_steps, gets, now.within k place has))
      (λ j q other e. let differs : q ≢ place = λ same. other (now.apart j k place (e ∙ ap Some same) has) in grind (arith, common_steps, gets))

  -- or the place is the next
  pub added_seen : place ≡ length texts → map (seen (texts ++ v ∷ [])) (set given k (Text place)) ≡ set (map (seen texts) given) k (Some v)
  added_seen next =
      text_seen texts (texts ++ v ∷ []) given k place v (grind (arith, common_steps, gets))
      (λ j q other e. grind (arith, common_steps, gets, now.within j q e))
