-- What variables mean by looking back is what the definitions one by one make of them.
use Rattle.std.proofs.Common.{◌≡◌, ℕ, zero, suc, ◌+◌, ◌<◌, ◌≤◌, Bool, true, false, true≢false, cond, leb, eqb, ◌||◌, is_ok, List, [], ◌∷◌, ◌++◌, length, map, take, drop, filter, Option, Some, None, Result, Ok, Err, bytes_eq, refl, sym, ap, ◌∙◌, subst, append_assoc, arith}
use Rattle.std.specs.List.{list_any, enumerate_from}
use Rattle.std.proofs.lemmas.Bool.Decides.{nat_tests}
use Rattle.std.proofs.lemmas.List.{append-nil, length-append, length-take-le, length-map, take_all, map-append, take-append-drop, take-append-le}
use Rattle.std.proofs.lemmas.List.Elements.{filter-append}
use Rattle.std.proofs.lemmas.Slice.Eq.{bytes_eq-Decides}
use Rattle.kc_text.specs.declared.fault.TextProblem.{TextProblem}
use Rattle.kc_text.specs.declared.fault.TextProblem.TheVariants.{Limit}
use Rattle.kc_text.specs.declared.variables.Assignment.{Assignment}
use Rattle.kc_text.specs.declared.variables.Assignment.TheVariants.{Later, AtOnce, Append}
use Rattle.kc_text.specs.declared.variables.Definition.{Definition}
use Rattle.kc_text.specs.declared.variables.Value.{Value}
use Rattle.kc_text.specs.declared.variables.Value.TheVariants.{Recursive, Simple}
use Rattle.kc_text.specs.References.{value_pieces}
use Rattle.kc_text.specs.Expansion.{Names, Environment, Progress, then_on, put, expansion, start}
use Rattle.kc_text.specs.Definitions.{with, text_behind, text_with, value_with, appended_at_once, appended, assigned, defined}
use Rattle.kc_text.specs.Steps.{Step, puts, follows, fails, text_steps, text_by}
use Rattle.kc_text.specs.Meanings.{Placed, is_of, sets, from_last, counting, spaced, value_at, MadeBy, Means, AreMeanings}
use Rattle.kc_text.proofs.TokenLemmas.{text_then}
use Rattle.kc_text.proofs.StepLaws.{then_same, then_twice, then_none, step_done, runs, runs-all_steps, expansion-runs}

-- ---- results
pub same_ok : {A E : Type 0} (x y : A) → ◌≡◌ {A = Result A E} (Ok x) (Ok y) → x ≡ y
same_ok {A} {E} x y e = ap {A = Result A E} (λ r. elim r [ Ok z ↦ z | Err _ ↦ x ]) e

pub not_ok : {A E : Type 0} (f : E) (x : A) → ◌≡◌ {A = Result A E} (Err f) (Ok x) → ⊥
not_ok f x e = true≢false (sym (ap is_ok e))

-- where the whole goes well, so does the part before
pub then_ok : {A B E : Type 0} (r : Result A E) (f : A → Result B E) (y : B) → then_on r f ≡ Ok y → (x : A) × (r ≡ Ok x) × (f x ≡ Ok y)
then_ok (Ok x) f y e = (x, refl, e)
then_ok (Err g) f y e = absurd (not_ok g y e)

-- ---- texts that go on from others
-- a test that passes for more bytes passes for fewer
room_for_fewer : (n k m : ℕ) → (eqb m 0 || leb (n + k + m) 65536) ≡ true → (eqb m 0 || leb (k + m) 65536) ≡ true
room_for_fewer n k m e = grind (arith, nat_tests)

cond_ok : {A : Type 0} (b : Bool) (x y : A) (f : TextProblem) → ◌≡◌ {A = Result A TextProblem} (cond b (Ok x) (Err f)) (Ok y) → (b ≡ true) × (x ≡ y)
cond_ok true x y f e = (refl, same_ok x y e)
cond_ok false x y f e = absurd (not_ok f y e)

cond_err : {A : Type 0} (b : Bool) (x y : A) (f : TextProblem) → ◌≡◌ {A = Result A TextProblem} (cond b (Err f) (Ok x)) (Ok y) → (b ≡ false) × (x ≡ y)
cond_err true x y f e = absurd (not_ok f y e)
cond_err false x y f e = (refl, same_ok x y e)

-- a text with others before it
abbrev ahead_of : List ℕ → Progress → Progress
ahead_of a p = record { text = a ++ p.text; followed = p.followed }

-- what goes well after a text goes well without it, and gives the rest of the text
abbrev GoesOn : List ℕ → Progress → Result Progress TextProblem → Type 0
GoesOn a q r = (o : Progress) × (r ≡ Ok o) × (q ≡ ahead_of a o)

step_behind : (s : Step) (a : List ℕ) (p q : Progress) → step_done s (ahead_of a p) ≡ Ok q → GoesOn a q (step_done s p)
step_behind (puts bs) a p q e =
    let h = cond_ok (eqb (length bs) 0 || leb (length (a ++ p.text) + length bs) 65536) (record { text = (a ++ p.text) ++ bs; followed = p.followed }) q Limit e in
    let room : (eqb (length bs) 0 || leb (length p.text + length bs) 65536) ≡ true =
    room_for_fewer (length a) (length p.text) (length bs) (ap (λ n. eqb (length bs) 0 || leb (n + length bs) 65536) (sym (length-append a p.text)) ∙ h.0) in
    let o : Progress = record { text = p.text ++ bs; followed = p.followed } in
    (o, ap (λ b. cond b (Ok o) (Err Limit)) room, sym h.1 ∙ ap (λ t. record { text = t; followed = p.followed }) (append_assoc a p.text bs))
step_behind follows a p q e =
    let h = cond_err (leb 65536 p.followed) (record { text = a ++ p.text; followed = p.followed + 1 }) q Limit e in
    let o : Progress = record { text = p.text; followed = p.followed + 1 } in
    (o, ap (λ b. cond b (Err Limit) (Ok o)) h.0, sym h.1)
step_behind (fails problem) a p q e = absurd (not_ok problem q e)

pub run_behind : (ss : List Step) (a : List ℕ) (p q : Progress) → runs ss (ahead_of a p) ≡ Ok q → GoesOn a q (runs ss p)
run_behind [] a p q e = (p, refl, sym (same_ok (ahead_of a p) q e))
run_behind (s ∷ ss) a p q e =
    let h = then_ok (step_done s (ahead_of a p)) (λ q. runs ss q) q e in
    let first = step_behind s a p h.0 h.1 in
    let rest = run_behind ss a first.0 q (ap (λ q. runs ss q) (sym first.2) ∙ h.2) in
    (rest.0, ap (λ r. then_on r (λ q. runs ss q)) first.1 ∙ rest.1, rest.2)

-- a value that is expanded after a text and a space gives that text, the space and the value's own text
text_behind_ok : (outside : Environment) (names : Names) (text value : List ℕ) (p : Progress) → text_behind outside names text value ≡ Ok p
    → (t : List ℕ) × (text_by names outside (value_pieces value) ≡ Ok t) × (p.text ≡ text ++ 32 ∷ t)
text_behind_ok outside names text value p e =
    let steps = text_steps names outside (value_pieces value) in
    let h = then_ok (put (32 ∷ []) (record { text = text; followed = 0 })) (λ q. expansion names outside (value_pieces value) q) p e in
    let space = cond_ok (eqb 1 0 || leb (length text + 1) 65536) (record { text = text ++ 32 ∷ []; followed = 0 }) h.0 Limit h.1 in
    let run : runs steps (ahead_of (text ++ 32 ∷ []) start) ≡ Ok p =
    ap (λ t. runs steps (record { text = t; followed = 0 })) (append-nil (text ++ 32 ∷ [])) ∙ ap (λ q. runs steps q) space.1
    ∙ sym (expansion-runs names outside (value_pieces value) h.0) ∙ h.2 in
    let rest = run_behind steps (text ++ 32 ∷ []) start p run in
    (rest.0.text, ap (λ r. then_on r (λ q. Ok q.text)) (sym (runs-all_steps steps start) ∙ rest.1), ap (λ q. q.text) rest.2 ∙ append_assoc text (32 ∷ []) rest.0.text)

-- ---- texts in a row
spaced-push : (t : List ℕ) (ts : List (List ℕ)) (u : List ℕ) → spaced (t ∷ (ts ++ u ∷ [])) ≡ spaced (t ∷ ts) ++ 32 ∷ u
spaced-push t [] u = refl
spaced-push t (s ∷ ts) u = ap (λ rest. t ++ 32 ∷ rest) (spaced-push s ts u) ∙ sym (append_assoc t (32 ∷ spaced (s ∷ ts)) (32 ∷ u))

spaced-more : (ts : List (List ℕ)) (u : List ℕ) → 0 < length ts → spaced (ts ++ u ∷ []) ≡ spaced ts ++ 32 ∷ u
spaced-more [] u some = absurd (omega (arith, some))
spaced-more (t ∷ ts) u some = spaced-push t ts u

-- ---- names
with-own : (name : List ℕ) (value : Value) (names : Names) → with name value names name ≡ Some value
with-own name value names = ap (λ b. cond b (Some value) (names name)) ((bytes_eq-Decides name name).1 refl)

-- what `+=` makes of a name, by what it means so far
abbrev append_by : Environment → Names → List ℕ → List ℕ → Option Value → Result Names TextProblem
append_by outside names name value meant = elim meant [
  | None ↦ Ok (with name (Recursive value) names)
  | Some (Recursive text) ↦ Ok (with name (Recursive (text ++ 32 ∷ value)) names)
  | Some (Simple text) ↦ appended_at_once outside names name text value
]

appended-by : (outside : Environment) (names : Names) (name value : List ℕ) → appended outside names name value ≡ append_by outside names name value (names name)
appended-by outside names name value = refl

-- `+=` gives a name the text that it has with the value behind it
pub appended-text : (outside : Environment) (names : Names) (name value : List ℕ) (meant : Option Value) → meant ≡ names name
    → appended outside names name value ≡ then_on (text_with outside names meant value) (λ text. Ok (with name (value_with meant text) names))
appended-text outside names name value meant same = appended-by outside names name value ∙ ap (append_by outside names name value) (sym same) ∙ (by meant) where
  by : (m : Option Value) → append_by outside names name value m ≡ then_on (text_with outside names m value) (λ text. Ok (with name (value_with m text) names))
  by None = refl
  by (Some (Recursive text)) = refl
  by (Some (Simple text)) = text_then (text_behind outside names text value) (λ t. with name (Simple t) names)

-- the definitions that count, with one more
abbrev counting_more : List Placed → Placed → List Placed
counting_more cs e = cond (sets e) (e ∷ []) (cs ++ e ∷ [])

-- one definition more, the one at place k
module _ (outside : Environment) (at : ℕ → Names) (k : ℕ) (name value : List ℕ) (after : Names) where
  abbrev added : Assignment → Placed
  added a = (k, record { name = name; assignment = a; value = value })

  given : (v : Value) → ◌≡◌ {A = Result Names TextProblem} (Ok (with name v (at k))) (Ok after) → after name ≡ Some v
  given v e = ap (λ names. names name) (sym (same_ok (with name v (at k)) after e)) ∙ with-own name v (at k)

  module _ (is : appended outside (at k) name value ≡ Ok after) where
    by : (meant : Option Value) → at k name ≡ meant → append_by outside (at k) name value meant ≡ Ok after
    by meant e = ap (append_by outside (at k) name value) (sym e) ∙ sym (appended-by outside (at k) name value) ∙ is

    abbrev value_of : Placed → List ℕ
    value_of e = e.1.value

    recursive_more : (e : Placed) (es : List Placed) → at k name ≡ Some (Recursive (spaced (map value_of (e ∷ es)))) → after name ≡ Some (Recursive (spaced (map value_of (e ∷ (es ++ added Append ∷ [])))))
    recursive_more e es made =
        let text = spaced (map value_of (e ∷ es)) in
        given (Recursive (text ++ 32 ∷ value)) (by (Some (Recursive text)) made)
        ∙ ap (λ t. Some (Recursive t)) (sym (spaced-push (value_of e) (map value_of es) value) ∙ ap (λ ts. spaced (value_of e ∷ ts)) (sym (map-append value_of es (added Append ∷ []))))

    made_more : (a : Assignment) (e : Placed) (es : List Placed) → MadeBy a outside at (e ∷ es) (at k name) → MadeBy a outside at (e ∷ (es ++ added Append ∷ [])) (after name)
    made_more Later e es made = recursive_more e es made
    made_more Append e es made = recursive_more e es made
    made_more AtOnce e es made =
        let texts = made.0 in
        let h = then_ok (text_behind outside (at k) (spaced texts) value) (λ p. Ok (with name (Simple p.text) (at k))) after (by (Some (Simple (spaced texts))) made.2) in
        let b = text_behind_ok outside (at k) (spaced texts) value h.0 h.1 in
        let some : 0 < length texts = omega (arith, ap length made.1, length-map (e ∷ es) (value_at outside at), length-map {B = Result (List ℕ) TextProblem} texts Ok) in (
          texts ++ b.0 ∷ [],
          map-append (value_at outside at) (e ∷ es) (added Append ∷ []) ∙ (λ i. made.1 i ++ b.1 i ∷ []) ∙ sym (map-append Ok texts (b.0 ∷ [])),
          given (Simple h.0.text) h.2 ∙ ap (λ t. Some (Simple t)) (b.2 ∙ sym (spaced-more texts b.0 some)),
        )

  means_more : (a : Assignment) (cs : List Placed) → Means outside at cs (at k name) → assigned outside (at k) a name value ≡ Ok after → Means outside at (counting_more cs (added a)) (after name)
  means_more Later cs before is = given (Recursive value) is
  means_more AtOnce cs before is =
      let h = then_ok (expansion (at k) outside (value_pieces value) start) (λ p. Ok (with name (Simple p.text) (at k))) after is in
      let steps = text_steps (at k) outside (value_pieces value) in
      let text : text_by (at k) outside (value_pieces value) ≡ Ok h.0.text = ap (λ r. then_on r (λ q. Ok q.text)) (sym (runs-all_steps steps start) ∙ sym (expansion-runs (at k) outside (value_pieces value) start) ∙ h.1) in
      (h.0.text ∷ [], ap (λ r. r ∷ []) text, given (Simple h.0.text) h.2)
  means_more Append [] before is = given (Recursive value) (by is None before)
  means_more Append (e ∷ es) before is = made_more is e.1.assignment e es before

-- ---- the definitions that count
list_any-push : {X : Type 0} (p : X → Bool) (xs : List X) (x : X) → list_any p (xs ++ x ∷ []) ≡ (list_any p xs || p x)
list_any-push p [] x = elim (p x) as (λ b. (b || false) ≡ b) [ true ↦ refl | false ↦ refl ]
list_any-push p (y ∷ xs) x = elim (p y) as (λ b. (b || list_any p (xs ++ x ∷ [])) ≡ (b || list_any p xs || p x)) [ true ↦ refl | false ↦ list_any-push p xs x ]

from_last-yes : {X : Type 0} (p : X → Bool) (xs : List X) (x : X) → p x ≡ true → from_last p (xs ++ x ∷ []) ≡ x ∷ []
from_last-yes p [] x holds = refl
from_last-yes p (y ∷ xs) x holds =
    let later : list_any p (xs ++ x ∷ []) ≡ true = list_any-push p xs x ∙ ap (λ b. list_any p xs || b) holds ∙ elim (list_any p xs) as (λ b. (b || true) ≡ true) [ true ↦ refl | false ↦ refl ] in
    ap (λ b. cond b (from_last p (xs ++ x ∷ [])) (y ∷ (xs ++ x ∷ []))) later ∙ from_last-yes p xs x holds

from_last-no : {X : Type 0} (p : X → Bool) (xs : List X) (x : X) → p x ≡ false → from_last p (xs ++ x ∷ []) ≡ from_last p xs ++ x ∷ []
from_last-no p [] x misses = refl
from_last-no p (y ∷ xs) x misses =
    let later : list_any p (xs ++ x ∷ []) ≡ list_any p xs = list_any-push p xs x ∙ ap (λ b. list_any p xs || b) misses ∙ elim (list_any p xs) as (λ b. (b || false) ≡ b) [ true ↦ refl | false ↦ refl ] in
    ap (λ b. cond b (from_last p (xs ++ x ∷ [])) (y ∷ (xs ++ x ∷ []))) later
    ∙ elim (list_any p xs) as (λ b. cond b (from_last p (xs ++ x ∷ [])) (y ∷ (xs ++ x ∷ [])) ≡ cond b (from_last p xs) (y ∷ xs) ++ x ∷ []) [ true ↦ from_last-no p xs x misses | false ↦ refl ]

from_last-push : (cs : List Placed) (e : Placed) → from_last sets (cs ++ e ∷ []) ≡ counting_more (from_last sets cs) e
from_last-push cs e =
    elim (sets e) as (λ b. sets e ≡ b → from_last sets (cs ++ e ∷ []) ≡ cond b (e ∷ []) (from_last sets cs ++ e ∷ [])) [
      | true ↦ from_last-yes sets cs e
      | false ↦ from_last-no sets cs e
    ] refl

enumerate_from-push : (n k : ℕ) (ds : List Definition) (d : Definition) → n + length ds ≡ k → enumerate_from n (ds ++ d ∷ []) ≡ enumerate_from n ds ++ (k, d) ∷ []
enumerate_from-push n k [] d is = ap (λ m. (m, d) ∷ []) (omega (arith, is))
enumerate_from-push n k (e ∷ ds) d is = ap (λ es. (n, e) ∷ es) (enumerate_from-push (n + 1) k ds d (omega (arith, is)))

counting-push : (ds : List Definition) (d : Definition) (k : ℕ) (name : List ℕ) → length ds ≡ k → counting (ds ++ d ∷ []) name ≡ cond (bytes_eq d.name name) (counting_more (counting ds name) (k, d)) (counting ds name)
counting-push ds d k name is =
    let placed = enumerate_from 0 ds in
    ap (λ es. from_last sets (filter (is_of name) es)) (enumerate_from-push 0 k ds d (omega (arith, is)))
    ∙ ap (from_last sets) (filter-append (is_of name) placed ((k, d) ∷ []))
    ∙ elim (bytes_eq d.name name) as (λ b. from_last sets (filter (is_of name) placed ++ cond b ((k, d) ∷ []) []) ≡ cond b (counting_more (counting ds name) (k, d)) (counting ds name)) [
      | true ↦ from_last-push (filter (is_of name) placed) (k, d)
      | false ↦ ap (from_last sets) (append-nil (filter (is_of name) placed))
    ]

-- ---- definitions one by one
-- what names mean after definitions one by one, or the first fault
abbrev pub names_from : Environment → Names → List Definition → Result Names TextProblem
names_from outside names [] = Ok names
names_from outside names (d ∷ ds) = then_on (defined outside names d) (λ m. names_from outside m ds)

-- what names mean after all of them, where none meant anything before
abbrev pub names_after : Environment → List Definition → Result Names TextProblem
names_after outside ds = names_from outside (λ _. None) ds

pub names_from-append : (outside : Environment) (names : Names) (ds es : List Definition) → names_from outside names (ds ++ es) ≡ then_on (names_from outside names ds) (λ m. names_from outside m es)
names_from-append outside names [] es = refl
names_from-append outside names (d ∷ ds) es =
    then_same (defined outside names d) (λ m. names_from outside m (ds ++ es)) (λ m. then_on (names_from outside m ds) (λ n. names_from outside n es)) (λ m. names_from-append outside m ds es)
    ∙ sym (then_twice (defined outside names d) (λ m. names_from outside m ds) (λ n. names_from outside n es))

-- what names mean after definitions and more is what the others make of what they mean after the first
pub names_after-append : (outside : Environment) (ds es : List Definition) → names_after outside (ds ++ es) ≡ then_on (names_after outside ds) (λ m. names_from outside m es)
names_after-append outside ds es = names_from-append outside (λ _. None) ds es

pub names_after-push : (outside : Environment) (ds : List Definition) (d : Definition) → names_after outside (ds ++ d ∷ []) ≡ then_on (names_after outside ds) (λ m. defined outside m d)
names_after-push outside ds d =
    names_after-append outside ds (d ∷ [])
    ∙ then_same (names_after outside ds) (λ m. names_from outside m (d ∷ [])) (λ m. defined outside m d) (λ m. then_none (defined outside m d))

-- a definition changes what one name means
changes : (outside : Environment) (names : Names) (name value : List ℕ) (after : Names) (a : Assignment) → assigned outside names a name value ≡ Ok after → (v : Value) × (after ≡ with name v names)
changes outside names name value after Later is = (Recursive value, sym (same_ok (with name (Recursive value) names) after is))
changes outside names name value after AtOnce is =
    let h = then_ok (expansion names outside (value_pieces value) start) (λ p. Ok (with name (Simple p.text) names)) after is in
    (Simple h.0.text, sym (same_ok (with name (Simple h.0.text) names) after h.2))
changes outside names name value after Append is = by (names name) (sym (appended-by outside names name value) ∙ is) where
  by : (meant : Option Value) → append_by outside names name value meant ≡ Ok after → (v : Value) × (after ≡ with name v names)
  by None is = (Recursive value, sym (same_ok (with name (Recursive value) names) after is))
  by (Some (Recursive text)) is = (Recursive (text ++ 32 ∷ value), sym (same_ok (with name (Recursive (text ++ 32 ∷ value)) names) after is))
  by (Some (Simple text)) is =
      let h = then_ok (text_behind outside names text value) (λ p. Ok (with name (Simple p.text) names)) after is in
      (Simple h.0.text, sym (same_ok (with name (Simple h.0.text) names) after h.2))

-- every other name means what it did
other_same : (outside : Environment) (names after : Names) (d : Definition) (q : List ℕ) → defined outside names d ≡ Ok after → bytes_eq d.name q ≡ false → after q ≡ names q
other_same outside names after d q is other =
    let h = changes outside names d.name d.value after d.assignment is in
    ap (λ m. m q) h.1 ∙ ap (λ b. cond b (Some h.0) (names q)) other

take_next : {X : Type 0} (k : ℕ) (xs : List X) → k < length xs → (x : X) × (take (suc k) xs ≡ take k xs ++ x ∷ [])
take_next k [] within = absurd (omega (arith, within))
take_next zero (x ∷ xs) within = (x, refl)
take_next (suc k) (x ∷ xs) within =
    let h = take_next k xs (omega (arith, within)) in
    (h.0, ap (λ l. x ∷ l) h.1)

abbrev names_or_none : Result Names TextProblem → Names
names_or_none r = elim r [ Ok names ↦ names | Err _ ↦ λ _. None ]

-- definitions that have no fault
module _ (outside : Environment) (ds : List Definition) (names : Names) (whole : names_after outside ds ≡ Ok names) where
  abbrev meant_at : ℕ → Names
  meant_at k = names_or_none (names_after outside (take k ds))

  reached : (k : ℕ) → names_after outside (take k ds) ≡ Ok (meant_at k)
  reached k =
      let h = then_ok (names_after outside (take k ds)) (λ m. names_from outside m (drop k ds)) names
      (sym (names_after-append outside (take k ds) (drop k ds)) ∙ ap (names_after outside) (take-append-drop k ds) ∙ whole) in
      h.1 ∙ ap (λ m. Ok m) (sym (ap names_or_none h.1))

  next_defined : (k : ℕ) (d : Definition) → take (suc k) ds ≡ take k ds ++ d ∷ [] → defined outside (meant_at k) d ≡ Ok (meant_at (suc k))
  next_defined k d next =
      sym (names_after-push outside (take k ds) d ∙ ap (λ r. then_on r (λ m. defined outside m d)) (reached k))
      ∙ sym (ap (names_after outside) next) ∙ reached (suc k)

  means_at : (k : ℕ) (name : List ℕ) → k ≤ length ds → Means outside meant_at (counting (take k ds) name) (meant_at k name)
  means_at zero name within = refl
  means_at (suc k) name within =
      let next = take_next k ds within in
      let d = next.0 in
      let short : k ≤ length ds = omega (arith, within) in
      let before = take k ds in
      let counted : counting (take (suc k) ds) name ≡ cond (bytes_eq d.name name) (counting_more (counting before name) (k, d)) (counting before name) =
      ap (λ l. counting l name) next.1 ∙ counting-push before d k name (length-take-le k ds short) in
      let made = next_defined k d next.1 in
      subst (λ cs. Means outside meant_at cs (meant_at (suc k) name)) (sym counted)
      (elim (bytes_eq d.name name) as (λ b. bytes_eq d.name name ≡ b → Means outside meant_at (cond b (counting_more (counting before name) (k, d)) (counting before name)) (meant_at (suc k) name)) [
        | true ↦ λ same.
            subst (λ n. Means outside meant_at (counting_more (counting before n) (k, d)) (meant_at (suc k) n)) ((bytes_eq-Decides d.name name).0 same)
            (means_more outside meant_at k d.name d.value (meant_at (suc k)) d.assignment (counting before d.name) (means_at k d.name short) made)
        | false ↦ λ other. subst (Means outside meant_at (counting before name)) (sym (other_same outside (meant_at k) (meant_at (suc k)) d name made other)) (means_at k name short)
      ] refl)

  pub meanings_there : (at : ℕ → Names) × AreMeanings outside ds at × (at (length ds) ≡ names)
  meanings_there = (meant_at, record { each = means_at }, ap names_or_none (ap (names_after outside) (take_all (length ds) ds (omega arith)) ∙ whole))

-- ---- there are no others
-- the places of definitions are below a number
abbrev AreBelow : ℕ → List Placed → Type 0
AreBelow k [] = Unit {0}
AreBelow k (e ∷ es) = (e.0 < k) × AreBelow k es

below-enumerate_from : (k n : ℕ) (ds : List Definition) → n + length ds ≤ k → AreBelow k (enumerate_from n ds)
below-enumerate_from k n [] within = tt
below-enumerate_from k n (d ∷ ds) within = (omega (arith, within), below-enumerate_from k (n + 1) ds (omega (arith, within)))

below-filter : (k : ℕ) (p : Placed → Bool) (es : List Placed) → AreBelow k es → AreBelow k (filter p es)
below-filter k p [] below = tt
below-filter k p (e ∷ es) below = elim (p e) as (λ b. AreBelow k (cond b (e ∷ filter p es) (filter p es))) [ true ↦ (below.0, below-filter k p es below.1) | false ↦ below-filter k p es below.1 ]

below-from_last : (k : ℕ) (p : Placed → Bool) (es : List Placed) → AreBelow k es → AreBelow k (from_last p es)
below-from_last k p [] below = tt
below-from_last k p (e ∷ es) below = elim (list_any p es) as (λ b. AreBelow k (cond b (from_last p es) (e ∷ es))) [ true ↦ below-from_last k p es below.1 | false ↦ below ]

below-counting : (k : ℕ) (ds : List Definition) (name : List ℕ) → length ds ≤ k → AreBelow k (counting ds name)
below-counting k ds name within =
    below-from_last k sets (filter (is_of name) (enumerate_from 0 ds)) (below-filter k (is_of name) (enumerate_from 0 ds) (below-enumerate_from k 0 ds (omega (arith, within))))

abbrev text_or_none : Result (List ℕ) TextProblem → List ℕ
text_or_none r = elim r [ Ok t ↦ t | Err _ ↦ [] ]

texts_in_them : (xs : List (List ℕ)) → map text_or_none (map Ok xs) ≡ xs
texts_in_them [] = refl
texts_in_them (x ∷ xs) = ap (λ l. x ∷ l) (texts_in_them xs)

same_texts : (xs ys : List (List ℕ)) → ◌≡◌ {A = List (Result (List ℕ) TextProblem)} (map Ok xs) (map Ok ys) → xs ≡ ys
same_texts xs ys e = sym (texts_in_them xs) ∙ ap (map text_or_none) e ∙ texts_in_them ys

module _ (outside : Environment) (at bt : ℕ → Names) where
  values_same : (k : ℕ) (es : List Placed) → ((j : ℕ) → j < k → at j ≡ bt j) → AreBelow k es → map (value_at outside at) es ≡ map (value_at outside bt) es
  values_same k [] same below = refl
  values_same k (e ∷ es) same below = λ i. text_by (same e.0 below.0 i) outside (value_pieces e.1.value) ∷ values_same k es same below.1 i

  made_same : (a : Assignment) (es : List Placed) (m n : Option Value) → map (value_at outside at) es ≡ map (value_at outside bt) es → MadeBy a outside at es m → MadeBy a outside bt es n → m ≡ n
  made_same Later es m n same f g = f ∙ sym g
  made_same Append es m n same f g = f ∙ sym g
  made_same AtOnce es m n same f g = f.2 ∙ ap (λ ts. Some (Simple (spaced ts))) (same_texts f.0 g.0 (sym f.1 ∙ same ∙ g.1)) ∙ sym g.2

  means_same : (es : List Placed) (m n : Option Value) → map (value_at outside at) es ≡ map (value_at outside bt) es → Means outside at es m → Means outside bt es n → m ≡ n
  means_same [] m n same f g = f ∙ sym g
  means_same (e ∷ es) m n same f g = made_same e.1.assignment (e ∷ es) m n same f g

  module _ (ds : List Definition) (these : AreMeanings outside ds at) (others : AreMeanings outside ds bt) where
    name_same : (k : ℕ) → k ≤ length ds → ((j : ℕ) → j < k → at j ≡ bt j) → (name : List ℕ) → at k name ≡ bt k name
    name_same k within same name =
        let es = counting (take k ds) name in
        let below = below-counting k (take k ds) name (omega (arith, length-take-le k ds within)) in
        means_same es (at k name) (bt k name) (values_same k es same below) (these.each k name within) (others.each k name within)

    same_below : (n k : ℕ) → k < n → k ≤ length ds → at k ≡ bt k
    same_below zero k small within = absurd (omega (arith, small))
    same_below (suc n) k small within = λ i name. name_same k within (λ j less. same_below n j (omega (arith, less, small)) (omega (arith, less, within))) name i

    pub one_meaning : (k : ℕ) → k ≤ length ds → at k ≡ bt k
    one_meaning k within = same_below (suc k) k (omega arith) within

-- meanings of more definitions are meanings of the first ones
pub front_meanings : (outside : Environment) (ds es : List Definition) (at : ℕ → Names) → AreMeanings outside (ds ++ es) at → AreMeanings outside ds at
front_meanings outside ds es at all = record {
  each = λ k name within.
      subst (λ l. Means outside at (counting l name) (at k name)) (take-append-le k ds es within) (all.each k name (omega (arith, within, length-append ds es)));
}

-- what names mean after the first of more definitions is what these make of them
pub front_names : (outside : Environment) (ds es : List Definition) (at : ℕ → Names) (names : Names) → AreMeanings outside (ds ++ es) at → names_after outside ds ≡ Ok names → at (length ds) ≡ names
front_names outside ds es at names all is =
    let own = meanings_there outside ds names is in
    one_meaning outside at own.0 ds (front_meanings outside ds es at all) own.1 (length ds) (omega arith) ∙ own.2

-- definitions without a fault have meanings, and there are no others
pub record MeaningsLaw (outside : Environment) : Type 0 where
  pub meant : (ds : List Definition) (names : Names) → names_after outside ds ≡ Ok names → (at : ℕ → Names) × AreMeanings outside ds at × (at (length ds) ≡ names)
  pub only : (ds : List Definition) (at bt : ℕ → Names) → AreMeanings outside ds at → AreMeanings outside ds bt → (k : ℕ) → k ≤ length ds → at k ≡ bt k

pub meanings_law : (outside : Environment) → MeaningsLaw outside
meanings_law outside = record {
  meant = λ ds names is. meanings_there outside ds names is;
  only = λ ds at bt these others k within. one_meaning outside at bt ds these others k within;
}
