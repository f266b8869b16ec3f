-- The steps of the search keep it sound, and at its end it has an order or a loop.
use Rattle.std.proofs.Common.{◌≡◌, ◌≢◌, ℕ, ◌+◌, ◌-◌, ◌<◌, ◌≤◌, List, [], ◌∷◌, ◌++◌, length, get_or, set, take, drop, slice_index, Contains, inl, inr, sym, ap, ◌∙◌, refl, arith, get_or-set_same, get_or-set_other, length-set, length-take, length-take-le, length-drop, get_or-take, get_or-drop, take_all}
use Rattle.std.proofs.lemmas.Bool.{cases_lt}
use Rattle.std.proofs.lemmas.List.{get_or_default, get_or_append_left, get_or_push, get_or_read, length_push, take_more}
use Rattle.std.proofs.lemmas.List.Elements.{Contains-push_cases}
use Rattle.kc_graph.specs.Graph.{row, Uses, IsOrder, IsLoop}
use Rattle.kc_graph.specs.Search.{mark_of, IsSeen, IsSound, steps_left}
use Rattle.kc_graph.specs.declared.graph.search.Mark.{Mark}
use Rattle.kc_graph.specs.declared.graph.search.Mark.TheVariants.{New, Open, Done}
use Rattle.kc_graph.proofs.MarkLaws.{open-within, done-within, mark_set, new_count-set, steps_left-set}

-- a new node that the last of the path uses is put on the path
pub IsSound-enter : (g : List (List ℕ)) (marks : List Mark) (path order : List ℕ) (p : ℕ) → IsSound g marks path order → p < length g → mark_of marks p ≡ New → (0 < length path → Uses g (slice_index path (length path - 1)) p) → IsSound g (set marks p (Open (length path) 0)) (path ++ p ∷ []) order
IsSound-enter g marks path order p s within new link =
    let m : Mark = Open (length path) 0 in
    let inside : p < length marks = omega (arith, s.sized) in
    let long = length_push path p in
    let kept : (q : ℕ) → IsSeen marks q → mark_of (set marks p m) q ≡ mark_of marks q = λ q seen. get_or-set_other marks p q m New (λ e. seen (rw e new)) in
    record {
      sized = length-set marks p m ∙ s.sized;
      counted = omega (arith, s.counted, length-set marks p m, rw new at (new_count-set marks p m inside));
      on_path = λ q position next o. elim (mark_set marks p m q inside) [
        | inl h ↦ let e : length path ≡ position = cc in (omega arith, get_or_push path p 0 position e ∙ sym h.0)
        | inr h ↦ let was = s.on_path q position next (sym h.1 ∙ o) in (omega (arith, was.0), get_or_append_left path (p ∷ []) 0 position was.0 ∙ was.1)
      ];
      path_at = λ i h. elim (cases_lt i (length path)) [
        | inl k ↦ let was = s.path_at i k in (was.0, rw (get_or_append_left path (p ∷ []) 0 i k) (kept (slice_index path i) (λ n. absurd (cc)) ∙ was.1))
        | inr k ↦ let e : length path ≡ i = omega arith in (0, rw (get_or_push path p 0 i e, ← e) (get_or-set_same marks p m New inside))
      ];
      linked = λ i h. let k : i < length path = omega arith in elim (cases_lt (i + 1) (length path)) [
        | inl j ↦ rw (get_or_append_left path (p ∷ []) 0 i k, get_or_append_left path (p ∷ []) 0 (i + 1) j) (s.linked i j)
        | inr j ↦
            let e : length path ≡ i + 1 = omega arith in
            let f : length path - 1 ≡ i = omega arith in
            rw (get_or_append_left path (p ∷ []) 0 i k, get_or_push path p 0 (i + 1) e) (rw f at (link (omega arith)))
      ];
      passed = λ q position next r o c. elim (mark_set marks p m q inside) [
        | inl h ↦ let e : 0 ≡ next = cc in absurd (omega (arith, length-take next (row g q), c.1))
        | inr h ↦ let was = s.passed q position next r (sym h.1 ∙ o) c in (was.0, kept r (λ n. absurd (cc)) ∙ was.1)
      ];
      in_order = λ q i d. elim (mark_set marks p m q inside) [
        | inl h ↦ absurd (cc)
        | inr h ↦ s.in_order q i (sym h.1 ∙ d)
      ];
      order_at = λ i h. let was = s.order_at i h in kept (slice_index order i) (λ n. absurd (cc)) ∙ was;
      first = s.first;
    }

-- the last of the path goes past a use that is done
pub IsSound-pass : (g : List (List ℕ)) (marks : List Mark) (path order : List ℕ) (p position next i : ℕ) → IsSound g marks path order → mark_of marks p ≡ Open position next → next < length (row g p) → mark_of marks (slice_index (row g p) next) ≡ Done i → IsSound g (set marks p (Open position (next + 1))) path order
IsSound-pass g marks path order p position next i s opened more used =
    let m : Mark = Open position (next + 1) in
    let inside = open-within marks p position next opened in
    let kept : (q j : ℕ) → mark_of marks q ≡ Done j → mark_of (set marks p m) q ≡ Done j = λ q j d. get_or-set_other marks p q m New (λ e. absurd (cc)) ∙ d in
    record {
      sized = length-set marks p m ∙ s.sized;
      counted = omega (arith, s.counted, length-set marks p m, rw opened at (new_count-set marks p m inside));
      on_path = λ q at_position from o. elim (mark_set marks p m q inside) [
        | inl h ↦ let e : position ≡ at_position = cc in let was = s.on_path p position next opened in (omega (arith, was.0), ap (λ k. get_or path k 0) (sym e) ∙ was.1 ∙ sym h.0)
        | inr h ↦ s.on_path q at_position from (sym h.1 ∙ o)
      ];
      path_at = λ k h. let was = s.path_at k h in elim (mark_set marks p m (slice_index path k) inside) [
        | inl j ↦ let e : position ≡ k = cc in (next + 1, j.1 ∙ ap (λ n. Open n (next + 1)) e)
        | inr j ↦ (was.0, j.1 ∙ was.1)
      ];
      linked = s.linked;
      passed = λ q at_position from r o c. elim (mark_set marks p m q inside) [
        | inl h ↦
            let e : from ≡ next + 1 = cc in
            let split : take from (row g q) ≡ take next (row g p) ++ slice_index (row g p) next ∷ [] = ap (λ n. take n (row g q)) e ∙ ap (λ n. take (next + 1) (row g n)) h.0 ∙ take_more (row g p) next 0 more in
            elim (Contains-push_cases (take next (row g p)) (slice_index (row g p) next) r (rw split at c)) [
              | inl k ↦ let was = s.passed p position next r opened k in (was.0, kept r was.0 was.1)
              | inr k ↦ (i, kept r i (rw k at used))
            ]
        | inr h ↦ let was = s.passed q at_position from r (sym h.1 ∙ o) c in (was.0, kept r was.0 was.1)
      ];
      in_order = λ q j d. elim (mark_set marks p m q inside) [
        | inl h ↦ absurd (cc)
        | inr h ↦ s.in_order q j (sym h.1 ∙ d)
      ];
      order_at = λ j h. kept (slice_index order j) j (s.order_at j h);
      first = s.first;
    }

-- the last of the path, with no use left, goes to the order
pub IsSound-finish : (g : List (List ℕ)) (marks : List Mark) (path order : List ℕ) (p position next : ℕ) → IsSound g marks path order → 0 < length path → slice_index path (length path - 1) ≡ p → mark_of marks p ≡ Open position next → length (row g p) ≤ next → IsSound g (set marks p (Done (length order))) (take (length path - 1) path) (order ++ p ∷ [])
IsSound-finish g marks path order p position next s some last opened none =
    let m : Mark = Done (length order) in
    let n : ℕ = length path - 1 in
    let inside = open-within marks p position next opened in
    let top = s.path_at n (omega arith) in
    let top_position : position ≡ n = let e = rw last at top.1 in cc in
    let short : length (take n path) ≡ n = length-take-le n path (omega arith) in
    let long = length_push order p in
    let kept : (q j : ℕ) → mark_of marks q ≡ Done j → mark_of (set marks p m) q ≡ Done j = λ q j d. get_or-set_other marks p q m New (λ e. absurd (cc)) ∙ d in
    let ordered : (j : ℕ) → j < length order → slice_index (order ++ p ∷ []) j ≡ slice_index order j = λ j h. get_or_append_left order (p ∷ []) 0 j h in
    record {
      sized = length-set marks p m ∙ s.sized;
      counted = omega (arith, s.counted, length-set marks p m, rw opened at (new_count-set marks p m inside));
      on_path = λ q at_position from o. elim (mark_set marks p m q inside) [
        | inl h ↦ absurd (cc)
        | inr h ↦
            let was = s.on_path q at_position from (sym h.1 ∙ o) in
            let other : at_position ≢ n = λ e. h.0 (sym was.1 ∙ ap (λ k. get_or path k 0) e ∙ last) in
            let before : at_position < n = omega (arith, was.0) in
            (omega arith, get_or-take n path at_position 0 before ∙ was.1)
      ];
      path_at = λ i h.
          let before : i < n = omega arith in
          let was = s.path_at i (omega arith) in
          let same : get_or (take n path) i 0 ≡ get_or path i 0 = get_or-take n path i 0 before in
          let other : slice_index path i ≢ p = λ e. let k : i ≡ position = (let f = rw e at was.1 in cc) in omega arith in
          (was.0, ap (λ q. mark_of (set marks p m) q) same ∙ get_or-set_other marks p (slice_index path i) m New other ∙ was.1);
      linked = λ i h.
          let a : i < n = omega arith in
          let b : i + 1 < n = omega arith in
          rw (get_or-take n path i 0 a, get_or-take n path (i + 1) 0 b) (s.linked i (omega arith));
      passed = λ q at_position from r o c. elim (mark_set marks p m q inside) [
        | inl h ↦ absurd (cc)
        | inr h ↦ let was = s.passed q at_position from r (sym h.1 ∙ o) c in (was.0, kept r was.0 was.1)
      ];
      in_order = λ q j d. elim (mark_set marks p m q inside) [
        | inl h ↦ let e : length order ≡ j = cc in (omega arith, get_or_push order p 0 j e ∙ sym h.0)
        | inr h ↦ let was = s.in_order q j (sym h.1 ∙ d) in (omega (arith, was.0), ordered j was.0 ∙ was.1)
      ];
      order_at = λ j h. elim (cases_lt j (length order)) [
        | inl k ↦ ap (λ q. mark_of (set marks p m) q) (ordered j k) ∙ kept (slice_index order j) j (s.order_at j k)
        | inr k ↦ let e : length order ≡ j = omega arith in ap (λ q. mark_of (set marks p m) q) (get_or_push order p 0 j e) ∙ get_or-set_same marks p m New inside ∙ ap Done e
      ];
      first = λ j q h u. elim (cases_lt j (length order)) [
        | inl k ↦
            let was = s.first j q k (rw (ordered j k) at u) in
            (was.0, was.1, ordered was.0 (omega (arith, was.1)) ∙ was.2)
        | inr k ↦
            let e : length order ≡ j = omega arith in
            let all : take next (row g p) ≡ row g p = take_all next (row g p) none in
            let uses : Uses g p q = rw (get_or_push order p 0 j e) at u in
            let done = s.passed p position next q opened (rw all uses) in
            let was = s.in_order q done.0 done.1 in
            (done.0, omega (arith, was.0), ordered done.0 was.0 ∙ was.1)
      ];
    }

-- a use of the last of the path that is on the path closes a loop
pub IsLoop-from_path : (g : List (List ℕ)) (marks : List Mark) (path order : List ℕ) (p q start from : ℕ) → IsSound g marks path order → 0 < length path → slice_index path (length path - 1) ≡ p → Uses g p q → mark_of marks q ≡ Open start from → IsLoop g (drop start path)
IsLoop-from_path g marks path order p q start from s some last used opened =
    let was = s.on_path q start from opened in
    let long = length-drop start path in
    record {
      some = omega (arith, was.0);
      next = λ i h.
          let e : start + (i + 1) ≡ (start + i) + 1 = omega arith in
          rw (get_or-drop start path i 0, get_or-drop start path (i + 1) 0, e) (s.linked (start + i) (omega arith));
      last =
          let e : start + (length (drop start path) - 1) ≡ length path - 1 = omega (arith, was.0) in
          let z : start + 0 ≡ start = omega arith in
          rw (get_or-drop start path (length (drop start path) - 1) 0, get_or-drop start path 0 0, e, z, last, was.1) used;
    }

-- once each node is seen and none is on the path, the order is one of the whole graph
pub IsOrder-from_sound : (g : List (List ℕ)) (marks : List Mark) (order : List ℕ) → IsSound g marks [] order → ((p : ℕ) → p < length g → IsSeen marks p) → IsOrder g order
IsOrder-from_sound g marks order s seen = record {
  within = λ i h. let k = done-within marks (slice_index order i) i (s.order_at i h) in omega (arith, s.sized);
  complete = λ p h. placed p (seen p h) (mark_of marks p) refl;
  once = λ i j h k e. let a = s.order_at i h in let b = s.order_at j k in let c = rw e at a in cc;
  after = s.first;
}
  where
    placed : (p : ℕ) → IsSeen marks p → (m : Mark) → mark_of marks p ≡ m → Contains order p
    placed p was New e = absurd (was e)
    placed p was (Open position next) e = absurd (omega (arith, (s.on_path p position next e).0))
    placed p was (Done i) e = let h = s.in_order p i e in (i, h.0, get_or_default order i p 0 h.0 ∙ h.1)

-- what a read of a node's mark gives
pub mark_read : (marks : List Mark) (p : ℕ) (x m : Mark) → p < length marks → x ≡ get_or marks p x → x ≡ m → mark_of marks p ≡ m
mark_read marks p x m inside e f = sym (get_or_read marks p x inside e New) ∙ f

-- the last of the path is open
pub top_open : (g : List (List ℕ)) (marks : List Mark) (path order : List ℕ) (p : ℕ) → IsSound g marks path order → 0 < length path → slice_index path (length path - 1) ≡ p → (next : ℕ) × (mark_of marks p ≡ Open (length path - 1) next)
top_open g marks path order p s some last =
    let top = s.path_at (length path - 1) (omega arith) in
    (top.0, rw last at top.1)

pub steps_left-enter : (g : List (List ℕ)) (marks : List Mark) (p position : ℕ) → p < length g → p < length marks → mark_of marks p ≡ New → steps_left g (set marks p (Open position 0)) < steps_left g marks
steps_left-enter g marks p position h k e = omega (arith, rw e at (steps_left-set g marks p (Open position 0) h k))

pub steps_left-pass : (g : List (List ℕ)) (marks : List Mark) (p position next : ℕ) → p < length g → p < length marks → mark_of marks p ≡ Open position next → next < length (row g p) → steps_left g (set marks p (Open position (next + 1))) < steps_left g marks
steps_left-pass g marks p position next h k e more = omega (arith, rw e at (steps_left-set g marks p (Open position (next + 1)) h k))

pub steps_left-finish : (g : List (List ℕ)) (marks : List Mark) (p position next i : ℕ) → p < length g → p < length marks → mark_of marks p ≡ Open position next → steps_left g (set marks p (Done i)) < steps_left g marks
steps_left-finish g marks p position next i h k e = omega (arith, rw e at (steps_left-set g marks p (Done i) h k))
