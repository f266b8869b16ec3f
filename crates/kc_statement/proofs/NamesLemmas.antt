-- The numbers of names: where each stands in a list of them.
use Rattle.std.proofs.Common.{◌≡◌, ◌<◌, ◌≤◌, ◌+◌, nat_le, Option, IfSome, reverse, ℕ, zero, suc, Bool, true, false, ◌||◌, cond, nat_lt, List, [], ◌∷◌, ◌++◌, map, length, get_or, Some, None, position, String, string_bytes, string_eq, refl, sym, ap, ◌∙◌, not, arith}
use Rattle.std.specs.Str.{bytes_eq}
use Rattle.indexmap.specs.IndexSet.{insert_key}
use Rattle.std.specs.List.{prefix_len, list_any, IsDistinct}
use Rattle.std.proofs.lemmas.List.{length-map, length_push, map_push}
use Rattle.std.proofs.lemmas.Map.Keys.{IsDistinct-tail, IsDistinct-push, apart_from_distinct}
use Rattle.std.proofs.lemmas.Slice.Eq.{bytes_eq-Decides}
use Rattle.std.specs.Cmp.{IsEquivalence}
use Rattle.std.proofs.lemmas.Bool.{lt-ltb, lt-leb, leb-false}
use Rattle.std.proofs.lemmas.List.Quantifiers.{position-Some}
use Rattle.std.specs.Option.{option_map_or}
use Rattle.kc_text.specs.LineValue.{LineValue}
use Rattle.kc_statement.specs.declared.limits.TheConstants.{MOST_SYMBOLS}
use Rattle.kc_statement.specs.Names.{with_name, defined_name, names_before, names_of}

module _ {A B : Type 0} where
  prefix_len-map : (f : A → B) (p : B → Bool) (xs : List A) → prefix_len p (map f xs) ≡ prefix_len (λ x. p (f x)) xs
  prefix_len-map f p [] = refl
  prefix_len-map f p (x ∷ xs) = ap (λ n. cond (p (f x)) (1 + n) 0) (prefix_len-map f p xs)

  pub position-map : (f : A → B) (p : B → Bool) (xs : List A) → position p (map f xs) ≡ position (λ x. p (f x)) xs
  position-map f p xs =
      let before = prefix_len-map f (λ y. not (p y)) xs in
      ap (λ n. cond (nat_lt n (length (map f xs))) (Some n) None) before
      ∙ ap (λ m. cond (nat_lt (prefix_len (λ x. not (p (f x))) xs) m) (Some (prefix_len (λ x. not (p (f x))) xs)) None) (length-map xs f)

module _ {A B : Type 0} where
  pub list_any-map : (f : A → B) (p : B → Bool) (xs : List A) → list_any p (map f xs) ≡ list_any (λ x. p (f x)) xs
  list_any-map f p [] = refl
  list_any-map f p (x ∷ xs) = ap (λ b. p (f x) || b) (list_any-map f p xs)

  map-cond_push : (f : A → B) (b : Bool) (xs : List A) (x : A) → map f (cond b xs (xs ++ x ∷ [])) ≡ cond b (map f xs) (map f xs ++ f x ∷ [])
  map-cond_push f true xs x = refl
  map-cond_push f false xs x = map_push f xs x

-- the bytes of the keys after one is inserted
pub names-insert_key : {Z : Type 0} (ks : List (String Z)) (k : String Z) → map string_bytes (insert_key string_eq ks k) ≡ cond (list_any (bytes_eq (string_bytes k)) (map string_bytes ks)) (map string_bytes ks) (map string_bytes ks ++ string_bytes k ∷ [])
names-insert_key ks k =
    map-cond_push string_bytes (list_any (string_eq k) ks) ks k
    ∙ ap (λ b. cond b (map string_bytes ks) (map string_bytes ks ++ string_bytes k ∷ [])) (sym (list_any-map string_bytes (bytes_eq (string_bytes k)) ks))

bytes_eq-flips : (a b : List ℕ) → bytes_eq a b ≡ bytes_eq b a
bytes_eq-flips a b = by (bytes_eq a b) (bytes_eq b a) refl refl
  where
    by : (s t : Bool) → bytes_eq a b ≡ s → bytes_eq b a ≡ t → s ≡ t
    by true t e f = sym (sym f ∙ (bytes_eq-Decides b a).1 (sym ((bytes_eq-Decides a b).0 e)))
    by false true e f = sym e ∙ (bytes_eq-Decides a b).1 (sym ((bytes_eq-Decides b a).0 f))
    by false false e f = refl

-- among distinct names a name has one number
before_number : (w : List ℕ) (names : List (List ℕ)) (i : ℕ) → IsDistinct bytes_eq names → i < length names → get_or names i [] ≡ w → prefix_len (λ x. not (bytes_eq w x)) names ≡ i
before_number w [] i distinct within same = absurd (omega (arith, within))
before_number w (x ∷ xs) zero distinct within same =
    let equal : bytes_eq w x ≡ true = (bytes_eq-Decides w x).1 (sym same) in
    ap (λ b. cond (not b) (1 + prefix_len (λ y. not (bytes_eq w y)) xs) 0) equal
before_number w (x ∷ xs) (suc i) distinct within same =
    let apart : bytes_eq x (get_or xs i []) ≡ false = apart_from_distinct bytes_eq (x ∷ xs) 0 (suc i) [] distinct (omega (arith)) within in
    let other : bytes_eq w x ≡ false = bytes_eq-flips w x ∙ ap (bytes_eq x) (sym same) ∙ apart in
    let rest : prefix_len (λ y. not (bytes_eq w y)) xs ≡ i = before_number w xs i (IsDistinct-tail bytes_eq x xs distinct) (omega (arith, within)) same in
    ap (λ b. cond (not b) (1 + prefix_len (λ y. not (bytes_eq w y)) xs) 0) other ∙ omega (arith, rest)

-- the number of a name among distinct names is that at which it stands
pub number_of : (w : List ℕ) (names : List (List ℕ)) (i : ℕ) → IsDistinct bytes_eq names → i < length names → bytes_eq (get_or names i []) w ≡ true → Some i ≡ position (bytes_eq w) names
number_of w names i distinct within same =
    let number : prefix_len (λ x. not (bytes_eq w x)) names ≡ i = before_number w names i distinct within ((bytes_eq-Decides (get_or names i []) w).0 same) in
    sym (ap (λ n. cond (nat_lt n (length names)) (Some n) None) number ∙ ap (λ b. cond b (Some i) None) (lt-ltb i (length names) within))

-- equality of texts is an equivalence
bytes_eq-IsEquivalence : IsEquivalence bytes_eq
bytes_eq-IsEquivalence = record {
  refl = λ x. (bytes_eq-Decides x x).1 refl;
  symm = bytes_eq-flips;
  congr = λ x y z e. ap (λ w. bytes_eq w z) ((bytes_eq-Decides x y).0 e);
}

-- names stay distinct where one is added that is not among them
pub names_stay_distinct : (names : List (List ℕ)) (w : List ℕ) → IsDistinct bytes_eq names → IsDistinct bytes_eq (cond (list_any (bytes_eq w) names) names (names ++ w ∷ []))
names_stay_distinct names w distinct = by (list_any (bytes_eq w) names) refl
  where
    by : (t : Bool) → list_any (bytes_eq w) names ≡ t → IsDistinct bytes_eq (cond t names (names ++ w ∷ []))
    by true e = distinct
    by false e = IsDistinct-push bytes_eq-IsEquivalence names w distinct e

pub none_distinct : IsDistinct bytes_eq []
unfolding IsDistinct
none_distinct = tt

-- ---- how many there are
few_with_name : (names : List (List ℕ)) (w : List ℕ) → length names ≤ MOST_SYMBOLS → length (with_name names w) ≤ MOST_SYMBOLS
few_with_name names w few = by (list_any (bytes_eq w) names) (nat_le MOST_SYMBOLS (length names)) refl
  where
    by : (known full : Bool) → nat_le MOST_SYMBOLS (length names) ≡ full → length (cond (known || full) names (names ++ w ∷ [])) ≤ MOST_SYMBOLS
    by true full e = few
    by false true e = few
    by false false e = omega (arith, leb-false MOST_SYMBOLS (length names) e, length_push names w)

few_defined : (names : List (List ℕ)) (o : Option (List ℕ)) → length names ≤ MOST_SYMBOLS → length (option_map_or (with_name names) o names) ≤ MOST_SYMBOLS
few_defined names None few = few
few_defined names (Some w) few = few_with_name names w few

few_before : (lines : List LineValue) → length (names_before lines) ≤ MOST_SYMBOLS
few_before [] = omega arith
few_before (l ∷ earlier) = few_defined (names_before earlier) (defined_name l) (few_before earlier)

pub few_names : (lines : List LineValue) → length (names_of lines) ≤ MOST_SYMBOLS
few_names lines = few_before (reverse lines)

-- where there is room, a name is added that is not there
pushed : {A : Type 0} (known : Bool) (xs : List A) (x : A) → length xs < MOST_SYMBOLS → length (cond known xs (xs ++ x ∷ [])) ≤ MOST_SYMBOLS
pushed true xs x room = omega arith
pushed false xs x room = omega (arith, length_push xs x)

pub few_inserted : {Z : Type 0} (ks : List (String Z)) (k : String Z) → length ks < MOST_SYMBOLS → length (insert_key string_eq ks k) ≤ MOST_SYMBOLS
few_inserted ks k room = pushed (list_any (string_eq k) ks) ks k room

or_false : (b : Bool) → b ≡ (b || false)
or_false true = refl
or_false false = refl

pub with_name-room : (names : List (List ℕ)) (w : List ℕ) → length names < MOST_SYMBOLS → cond (list_any (bytes_eq w) names) names (names ++ w ∷ []) ≡ with_name names w
with_name-room names w room =
    ap (λ b. cond b names (names ++ w ∷ [])) (or_false (list_any (bytes_eq w) names))
    ∙ ap (λ full. cond (list_any (bytes_eq w) names || full) names (names ++ w ∷ [])) (sym (lt-leb MOST_SYMBOLS (length names) room))

-- a number that is found is small
pub few_found : (p : List ℕ → Bool) (names : List (List ℕ)) (r : Option ℕ) → r ≡ position p names → length names ≤ MOST_SYMBOLS → IfSome r (λ n. n < MOST_SYMBOLS)
few_found p names None e few = tt
few_found p names (Some n) e few = omega (arith, (position-Some p names n [] (sym e)).0, few)

-- as many texts as names
pub as_many : {Z : Type 0} (ks : List (String Z)) (names : List (List ℕ)) → map string_bytes ks ≡ names → length names ≡ length ks
as_many ks names e = ap length (sym e) ∙ length-map ks string_bytes
