-- Rows of users that are filled in the room that all uses make for them.
use Rattle.std.proofs.Common.{◌≡◌, ◌≢◌, Bool, true, false, ℕ, ◌+◌, ◌-◌, ◌<◌, ◌≤◌, ◌⊎◌, zero, suc, List, [], ◌∷◌, ◌++◌, length, get_or, set, take, drop, replicate, cond, eqb, ltb, inl, inr, refl, sym, ap, subst, ◌∙◌, arith, length-set, get_or-set_same, get_or-set_other}
use Rattle.std.specs.List.{slice_index, slice_range, sum}
use Rattle.std.proofs.lemmas.Bool.{cases_lt, cases_order, eq-eqb, ne_eqb, le-ltb, lt-ltb}
use Rattle.std.proofs.lemmas.List.{drop_more, drop-set-add, drop-set-lt, get_or_past, length-drop, length-replicate, take_all, take-set-le, take_more_set}
use Rattle.std.proofs.lemmas.List.Sums.{sum_by-cons, sum_by_more}
use Rattle.kc_graph.specs.Graph.{row}
use Rattle.kc_graph.specs.Rows.{rows_in, AreEnds}
use Rattle.kc_graph.specs.Users.{times, first_place, uses_in, users_so_far, AddsCounts, HasRoom}
use Rattle.kc_graph.proofs.ListLaws.{set_cases}
use Rattle.kc_graph.proofs.RowLaws.{get_or-rows_from, length-rows_from}
use Rattle.kc_graph.proofs.UseCounts.{count_is, if_so, length-uses_in, total_is}

one : {b : Bool} → b ≡ true → if_so b ≡ 1
one e = ap if_so e

none : {b : Bool} → b ≡ false → if_so b ≡ 0
none e = ap if_so e

-- no use names a node before the first one
pub first-none : (uses : List ℕ) → first_place uses 0 ≡ 0
first-none [] = refl
first-none (u ∷ us) =
    omega (arith, first-none us, sum_by-cons (λ k. cond (ltb k 0) 1 0) u us, none (le-ltb u 0 (omega arith)))

-- a use names a node before the next one where it names this one, or one before it
before_next : (u q : ℕ) → cond (ltb u (q + 1)) 1 0 ≡ cond (ltb u q) 1 0 + cond (eqb u q) 1 0
before_next u q =
    elim (cases_order u q) [
      | inl e ↦ omega (arith, one (lt-ltb u (q + 1) (omega (arith, e))), none (le-ltb u q (omega (arith, e))), one (eq-eqb u q e))
      | inr side ↦ elim side [
        | inl h ↦ omega (arith, one (lt-ltb u (q + 1) (omega (arith, h))), one (lt-ltb u q h), none (ne_eqb u q (λ e. omega (arith, h, e))))
        | inr h ↦ omega (arith, none (le-ltb u (q + 1) (omega (arith, h))), none (le-ltb u q (omega (arith, h))), none (ne_eqb u q (λ e. omega (arith, h, e))))
      ]
    ]

pub first-next : (uses : List ℕ) (q : ℕ) → first_place uses (q + 1) ≡ first_place uses q + times uses q
first-next [] q = refl
first-next (u ∷ us) q =
    omega (arith, first-next us q, before_next u q, sum_by-cons (λ k. cond (ltb k (q + 1)) 1 0) u us, sum_by-cons (λ k. cond (ltb k q) 1 0) u us, sum_by-cons (λ k. cond (eqb k q) 1 0) u us)

first-suc : (uses : List ℕ) (q : ℕ) → first_place uses (suc q) ≡ first_place uses q + times uses q
first-suc uses q = let same : suc q ≡ q + 1 = omega arith in ap (first_place uses) same ∙ first-next uses q

-- the places of later nodes are not before those of earlier ones
pub first-ordered : (uses : List ℕ) (a b : ℕ) → a ≤ b → first_place uses a ≤ first_place uses b
first-ordered uses a zero h = let e : a ≡ 0 = omega arith in omega (arith, ap (first_place uses) e)
first-ordered uses a (suc b) h =
    elim (cases_lt b a) [
      | inl k ↦ let e : a ≡ suc b = omega arith in omega (arith, ap (first_place uses) e)
      | inr k ↦ omega (arith, first-ordered uses a b k, first-suc uses b)
    ]

module _ (x : ℕ) (left : List ℕ) where
  times-cons : (i : ℕ) → times (x ∷ left) i ≡ cond (eqb x i) 1 0 + times left i
  times-cons i = sum_by-cons (λ k. cond (eqb k i) 1 0) x left

  times-one : times (x ∷ left) x ≡ times left x + 1
  times-one = omega (arith, times-cons x, one (eq-eqb x x refl))

  times-other : (i : ℕ) → i ≢ x → times (x ∷ left) i ≡ times left i
  times-other i other = omega (arith, times-cons i, none (ne_eqb x i (λ e. other (sym e))))

-- a write after a part of a list, or before it, leaves the part
range-other : (xs : List ℕ) (place x start end : ℕ) → (end ≤ place) ⊎ (place < start) → slice_range (set xs place x) start end ≡ slice_range xs start end
range-other xs place x start end side = elim (cases_lt place start) [
  | inl before ↦ ap (take (end - start)) (drop-set-lt start xs place x before)
  | inr after ↦
      let m : ℕ = place - start in
      let at : place ≡ start + m = omega arith in
      let short : end - start ≤ m = elim side [ inl h ↦ omega arith | inr h ↦ absurd (omega arith) ] in
      ap (λ k. take (end - start) (drop start (set xs k x))) at
      ∙ ap (take (end - start)) (drop-set-add start xs m x)
      ∙ take-set-le (end - start) (drop start xs) m x short
]

-- a write at the place where a part of a list ends, which takes that place
range-grown : (xs : List ℕ) (a b x : ℕ) → a ≤ b → b < length xs → slice_range (set xs b x) a (b + 1) ≡ slice_range xs a b ++ x ∷ []
range-grown xs a b x ordered within =
    let m : ℕ = b - a in
    let at : b ≡ a + m = omega arith in
    let more : (b + 1) - a ≡ m + 1 = omega arith in
    let left = length-drop a xs in
    let inside : m < length (drop a xs) = omega arith in
    ap (λ k. take k (drop a (set xs b x))) more
    ∙ ap (λ k. take (m + 1) (drop a (set xs k x))) at
    ∙ ap (take (m + 1)) (drop-set-add a xs m x)
    ∙ take_more_set (drop a xs) m x inside

range-none : (xs : List ℕ) (start end : ℕ) → end ≤ start → slice_range xs start end ≡ []
range-none xs start end h = let nothing : end - start ≡ 0 = omega arith in ap (λ n. take n (drop start xs)) nothing

-- the uses that are left begin with the next one of a row
pub next_left : (row rest : List ℕ) (k x : ℕ) → k < length row → get_or row k 0 ≡ x → drop k row ++ rest ≡ x ∷ (drop (k + 1) row ++ rest)
next_left row rest k x inside is =
    ap (λ us. us ++ rest) (drop_more row k 0 inside) ∙ ap (λ u. u ∷ (drop (k + 1) row ++ rest)) is

-- the first of the uses that are left is put at its place
module _ (places users uses left : List ℕ) (x user : ℕ) (inside : x < length places) (r : HasRoom places (length users) uses (x ∷ left)) where
  abbrev place : ℕ
  place = slice_index places x

  before_end : place + 1 ≤ first_place uses (x + 1)
  before_end = omega (arith, r.room x inside, times-one x left)

  pub place_within : place < length users
  place_within = omega (arith, before_end, first-ordered uses (x + 1) (length places) (omega arith), r.all, r.size)

  places_at : (q : ℕ) → q < length places → (slice_index places q ≤ slice_index (set places x (place + 1)) q) × (slice_index (set places x (place + 1)) q + times left q ≡ slice_index places q + times (x ∷ left) q)
  places_at q h = elim (set_cases places x (place + 1) 0 q inside) [
    | inl e ↦
        let now : slice_index (set places x (place + 1)) q ≡ place + 1 = e.1 in
        let was : slice_index places q ≡ place = ap (slice_index places) e.0 in
        let t = ap (times left) e.0 in
        let u = ap (times (x ∷ left)) e.0 in
        (omega (arith, now, was), omega (arith, now, was, t, u, times-one x left))
    | inr e ↦
        let now : slice_index (set places x (place + 1)) q ≡ slice_index places q = e.1 in
        (omega (arith, now), omega (arith, now, times-other x left q e.0))
  ]

  -- the other uses have room as before
  pub room_after : HasRoom (set places x (place + 1)) (length (set users place user)) uses left
  room_after =
      let long = length-set places x (place + 1) in
      record {
        all = ap (first_place uses) long ∙ r.all;
        size = length-set users place user ∙ r.size;
        begun = λ q h. omega (arith, r.begun q (omega arith), (places_at q (omega arith)).0);
        room = λ q h. omega (arith, r.room q (omega arith), (places_at q (omega arith)).1);
      }

  -- the node has one more user
  pub users_grown : users_so_far (set users place user) (set places x (place + 1)) uses x ≡ users_so_far users places uses x ++ user ∷ []
  users_grown =
      let now : slice_index (set places x (place + 1)) x ≡ place + 1 = get_or-set_same places x (place + 1) 0 inside in
      ap (slice_range (set users place user) (first_place uses x)) now
      ∙ range-grown users (first_place uses x) place user (r.begun x inside) place_within

  beside : (q : ℕ) → q ≢ x → (slice_index places q ≤ place) ⊎ (place < first_place uses q)
  beside q other = elim (cases_order q x) [
    | inl e ↦ absurd (other e)
    | inr side ↦ elim side [
      | inl h ↦ inl (omega (arith, r.room q (omega arith), first-ordered uses (q + 1) x (omega arith), r.begun x inside))
      | inr h ↦ inr (omega (arith, before_end, first-ordered uses (x + 1) q (omega arith)))
    ]
  ]

  -- and the others have those that they had
  pub users_kept : (q : ℕ) → q ≢ x → users_so_far (set users place user) (set places x (place + 1)) uses q ≡ users_so_far users places uses q
  users_kept q other =
      let same : slice_index (set places x (place + 1)) q ≡ slice_index places q = get_or-set_other places x q (place + 1) 0 other in
      ap (slice_range (set users place user) (first_place uses q)) same
      ∙ range-other users place user (first_place uses q) (slice_index places q) (beside q other)

  -- where these are the places and the users after it
  module _ (places' users' : List ℕ) (places_are : places' ≡ set places x (place + 1)) (users_are : users' ≡ set users place user) where
    pub room_next : HasRoom places' (length users') uses left
    room_next =
        let P : List ℕ → Type 0 = λ ps. HasRoom ps (length users') uses left in
        let Q : List ℕ → Type 0 = λ us. HasRoom (set places x (place + 1)) (length us) uses left in
        subst P (sym places_are) (subst Q (sym users_are) room_after)

    same_users : (q : ℕ) → users_so_far users' places' uses q ≡ users_so_far (set users place user) (set places x (place + 1)) uses q
    same_users q =
        ap (λ us. users_so_far us places' uses q) users_are ∙ ap (λ ps. users_so_far (set users place user) ps uses q) places_are

    pub grown_next : users_so_far users' places' uses x ≡ users_so_far users places uses x ++ user ∷ []
    grown_next = same_users x ∙ users_grown

    pub kept_next : (q : ℕ) → q ≢ x → users_so_far users' places' uses q ≡ users_so_far users places uses q
    kept_next q other = same_users q ∙ users_kept q other

-- once no use is left, the places are the ends of the rows
module _ (places users uses : List ℕ) (r : HasRoom places (length users) uses []) where
  start_is : (q : ℕ) → q ≤ length places → slice_index (0 ∷ places) q ≡ first_place uses q
  start_is zero h = sym (first-none uses)
  start_is (suc q) h =
      let same : q + 1 ≡ suc q = omega arith in
      let end : slice_index places q + 0 ≡ first_place uses (q + 1) = r.room q (omega arith) in
      omega (arith, end, ap (first_place uses) same)

  pub AreEnds-full : AreEnds 0 places (length users)
  AreEnds-full = record {
    ordered = λ q h. omega (arith, start_is q (omega arith), r.begun q h);
    last = start_is (length places) (omega arith) ∙ r.all ∙ sym r.size;
  }

  -- and so the rows are the users of the nodes
  pub row-full : (q : ℕ) → row (rows_in users places) q ≡ users_so_far users places uses q
  row-full q = elim (cases_lt q (length places)) [
    | inl h ↦ get_or-rows_from users 0 places q h ∙ ap (λ start. slice_range users start (slice_index places q)) (start_is q (omega arith))
    | inr h ↦
        let past : slice_index places q ≡ 0 = get_or_past places q 0 h in
        get_or_past (rows_in users places) q [] (omega (arith, length-rows_from users 0 places))
        ∙ sym (range-none users (first_place uses q) (slice_index places q) (omega (arith, past)))
  ]

-- where the uses are counted, and the places are the sums of the counts before them, there is room for all uses
module _ (g : List (List ℕ)) (counts places users : List ℕ) (counted : AddsCounts (replicate (length g) 0) counts (uses_in g)) (size : length places ≡ length counts) (sums : (q : ℕ) → q < length counts → slice_index places q ≡ sum (take q counts)) (long : length users ≡ sum counts) where
  wide : length counts ≡ length g
  wide = counted.size ∙ length-replicate {A = ℕ} (length g) 0

  first-sum : (q : ℕ) → q ≤ length counts → sum (take q counts) ≡ first_place (uses_in g) q
  first-sum zero h = sym (first-none (uses_in g))
  first-sum (suc q) h =
      let same : suc q ≡ q + 1 = omega arith in
      let more : sum (take (q + 1) counts) ≡ sum (take q counts) + get_or counts q 0 = sum_by_more (λ (m : ℕ). m) counts q 0 (omega arith) in
      let next : sum (take (suc q) counts) ≡ sum (take q counts) + get_or counts q 0 = ap (λ n. sum (take n counts)) same ∙ more in
      omega (arith, first-sum q (omega arith), next, first-suc (uses_in g) q, count_is (length g) counts (uses_in g) q counted (omega (arith, wide)))

  first-place : (q : ℕ) → q < length places → slice_index places q ≡ first_place (uses_in g) q
  first-place q h = sums q (omega arith) ∙ first-sum q (omega arith)

  total : sum counts ≡ length (uses_in g)
  total = total_is g counts counted ∙ sym (length-uses_in g)

  pub room_first : HasRoom places (length users) (uses_in g) (uses_in g)
  room_first = record {
    all =
        ap (first_place (uses_in g)) size ∙ sym (first-sum (length counts) (omega arith))
        ∙ ap sum (take_all (length counts) counts (omega arith)) ∙ total;
    size = long ∙ total;
    begun = λ q h. omega (arith, first-place q h);
    room = λ q h. omega (arith, first-place q h, first-next (uses_in g) q);
  }

  pub none_first : (q : ℕ) → users_so_far users places (uses_in g) q ≡ []
  none_first q =
      range-none users (first_place (uses_in g) q) (slice_index places q) (elim (cases_lt q (length places)) [
        | inl h ↦ omega (arith, first-place q h)
        | inr h ↦ let past : slice_index places q ≡ 0 = get_or_past places q 0 h in omega (arith, past)
      ])
