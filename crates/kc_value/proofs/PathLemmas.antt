-- The path of a fill: from the node that is asked down to the cell that the walk is at.
use Rattle.std.proofs.Common.{◌≡◌, ℕ, zero, suc, ◌+◌, ◌-◌, ◌*◌, ◌<◌, ◌≤◌, ◌⊎◌, false, List, [], ◌∷◌, ◌++◌, Option, Some, None, is_some, inl, inr, length, map, get_or, slice_set, refl, sym, ap, ◌∙◌, subst, ⊎_elim, get_or-set_other, length-append, arith}
use Rattle.std.specs.List.{Contains}
use Rattle.std.proofs.lemmas.Bool.{cases_lt}
use Rattle.std.proofs.lemmas.List.{get_or_default, length-set}
use Rattle.std.proofs.lemmas.List.Elements.{Contains-push_cases, Contains-append_left, Contains-append_right}
use Rattle.kc_graph.specs.Graph.{row}
use Rattle.kc_outline.specs.TreeValue.{TreeValue}
use Rattle.kc_tree.specs.declared.cell.Cell.{Cell}
use Rattle.kc_tree.specs.declared.cell.Cell.TheVariants.{Node as OfNode}
use Rattle.kc_statement.specs.declared.tri.Tri.TheVariants.{No}
use Rattle.kc_tree.specs.declared.node.Node.{Node}
use Rattle.kc_tree.specs.CellLaws.{CellLaws, IsCellTable}
use Rattle.kc_tree.specs.Cells.{cell_at, cell_count, cell_number, read_cells}
use Rattle.kc_tree.specs.Nodes.{IsNodeOf, number_of}
use Rattle.kc_tree.proofs.NodeNumbers.{Contains-from_map, Contains-map}
use Rattle.kc_value.specs.declared.filling.Step.{Step}
use Rattle.kc_value.specs.declared.summary.Summary.{Summary}
use Rattle.kc_value.specs.declared.summary.Summary.TheVariants.{Absent}
use Rattle.kc_value.specs.declared.value.Value.{Value}
use Rattle.kc_value.specs.declared.value.Value.TheVariants.{Tri as Level}
use Rattle.kc_value.specs.FillWalk.{ArePresent, HasValue, HaveValues, IsWanted, asked_for, read}
use Rattle.kc_value.specs.Kept.{IsHeld, IsKept, value_count}
use Rattle.kc_value.specs.Summaries.{is_present, summary_of}
use Rattle.kc_value.proofs.FillSteps.{is_none, value_here, value_stays, value_there}
use Rattle.kc_value.proofs.KeptCounts.{value_count-more, value_count-within}
use Rattle.kc_value.proofs.NodeValueLemmas.{present_at}

-- ---- the row of a cell
module _ (t : TreeValue) (laws : CellLaws t) (g : List (List ℕ)) (is : IsCellTable t g) (k : ℕ) (below : k < cell_count t) where
  same_row : row g (cell_number t (cell_at t k)) ≡ row g k
  same_row = ap (row g) (laws.at k below)

  -- a number of the row is that of a cell that the cell reads
  pub row_read : (j : ℕ) → Contains (row g k) j → (j < cell_count t) × Contains (read_cells t (cell_at t k)) (cell_at t j)
  row_read j c = (
    is.within k j c,
    (is.exact (cell_at t k) (cell_at t j) (laws.inside k below)).0 (Contains-map (cell_at t) (row g (cell_number t (cell_at t k))) j (subst (λ ks. Contains ks j) (sym same_row) c)),
  )

  -- and what the cell reads has its number in the row
  pub read_row : (e : Cell) → Contains (read_cells t (cell_at t k)) e → Contains (row g k) (cell_number t e)
  read_row e c =
      let found = Contains-from_map (cell_at t) (row g (cell_number t (cell_at t k))) e ((is.exact (cell_at t k) e (laws.inside k below)).1 c) in
      let here : Contains (row g k) found.0 = subst (λ ks. Contains ks found.0) same_row found.1 in
      let number : cell_number t e ≡ found.0 = ap (cell_number t) (sym found.2) ∙ laws.at found.0 (is.within k found.0 here) in
      subst (Contains (row g k)) (sym number) here

  -- where all of the row have values, all that the cell reads is kept
  pub row_held : (kept : List (Option Value)) (place : ℕ) → length (row g k) ≤ place → HaveValues kept (row g k) place → (e : Cell) → Contains (read_cells t (cell_at t k)) e → IsHeld t kept e
  row_held kept place past have e c =
      let at = read_row e c in
      subst (HasValue kept) (get_or_default (row g k) at.0 0 (cell_number t e) at.1 ∙ at.2) (have at.0 (omega (arith, at.1, past)) at.1)

-- ---- numbers that have values
-- those up to a place, and those of which it is said that they have one
pub passed_to : (kept : List (Option Value)) (summaries : List Summary) (numbers : List ℕ) (from to : ℕ) → summaries ≡ map summary_of kept
    → HaveValues kept numbers from → ArePresent summaries numbers from to → HaveValues kept numbers to
passed_to kept summaries numbers from to said before present j below within =
    ⊎_elim
    (λ early. before j early within)
    (λ late. sym (present_at summaries kept (get_or numbers j 0) said) ∙ present j late below within)
    (cases_lt j from)

-- and one of which it is said that it has none
pub still_missing : (kept : List (Option Value)) (summaries : List Summary) (numbers : List ℕ) (place number : ℕ) → summaries ≡ map summary_of kept → get_or numbers place 0 ≡ number
    → is_present (get_or summaries (get_or numbers place 0) Absent) ≡ false → get_or kept number None ≡ None
still_missing kept summaries numbers place number said at missing =
    subst (λ k. get_or kept k None ≡ None) at
    (is_none (get_or kept (get_or numbers place 0) None) (sym (present_at summaries kept (get_or numbers place 0) said) ∙ missing))

pub none_passed : (kept : List (Option Value)) (numbers : List ℕ) → HaveValues kept numbers 0
none_passed kept numbers j below within = absurd (omega (arith, below))

-- ---- steps
-- the node that is asked is the only one
pub one_inside : (t : TreeValue) (asked : Node) → IsNodeOf t asked → (n : Node) → Contains (asked ∷ []) n → IsNodeOf t n
one_inside t asked inside n c = ⊎_elim (λ none. absurd (omega (arith, none.1))) (λ same. subst (IsNodeOf t) same inside) (Contains-push_cases [] asked n c)

-- a step is at a cell without a value, that is wanted, and the first numbers of its row have values
pub record IsStep (t : TreeValue) (g : List (List ℕ)) (asked : Node) (kept : List (Option Value)) (s : Step) : Type 0 where
  pub below : s.number < cell_count t
  pub wanted : IsWanted t (asked ∷ []) (cell_at t s.number)
  pub missing : get_or kept s.number None ≡ None
  pub passed : HaveValues kept (row g s.number) s.passed

-- numbers of cells by some height
abbrev height_at : TreeValue → (Cell → ℕ) → Step → ℕ
height_at t height s = height (cell_at t s.number)

-- the heights of steps fall along a path
abbrev pub AreFalling : TreeValue → (Cell → ℕ) → List Step → Type 0
AreFalling t height [] = Unit {0}
AreFalling t height (s ∷ rest) = ((r : Step) → Contains rest r → height_at t height r < height_at t height s) × AreFalling t height rest

abbrev AreAbove : TreeValue → (Cell → ℕ) → ℕ → List Step → Type 0
AreAbove t height h steps = (r : Step) → Contains steps r → h < height_at t height r

contained_cases : (s : Step) (rest : List Step) (r : Step) → Contains (s ∷ rest) r → (s ≡ r) ⊎ Contains rest r
contained_cases s rest r (zero, within, is) = inl is
contained_cases s rest r (suc i, within, is) = inr (i, omega (arith, within), is)

last_in : (steps : List Step) (s : Step) → Contains (steps ++ s ∷ []) s
last_in steps s = Contains-append_right steps (s ∷ []) s (0, omega arith, refl)

module _ (t : TreeValue) (height : Cell → ℕ) where
  falling_shorter : (steps : List Step) (s : Step) → AreFalling t height (steps ++ s ∷ []) → AreFalling t height steps × AreAbove t height (height_at t height s) steps
  falling_shorter [] s falls = (tt, λ r c. absurd (omega (arith, c.1)))
  falling_shorter (x ∷ rest) s (first, falls) =
      let (fewer, above) = falling_shorter rest s falls in (
        ((λ r c. first r (Contains-append_left rest (s ∷ []) r c)), fewer),
        λ r c. ⊎_elim (λ same. subst (λ k. height_at t height s < height_at t height k) same (first s (last_in rest s))) (λ later. above r later) (contained_cases x rest r c),
      )

  falling_longer : (steps : List Step) (s : Step) → AreFalling t height steps → AreAbove t height (height_at t height s) steps → AreFalling t height (steps ++ s ∷ [])
  falling_longer [] s falls above = ((λ r c. absurd (omega (arith, c.1))), tt)
  falling_longer (x ∷ rest) s (first, falls) above = (
    (λ r c.
        ⊎_elim (λ before. first r before) (λ same. subst (λ k. height_at t height k < height_at t height x) same (above x (0, omega arith, refl)))
        (Contains-push_cases rest s r c)),
    falling_longer rest s falls (λ r (i, within, is). above r (suc i, omega (arith, within), is)),
  )

  -- So no cell is on it twice, and there are no more steps than cells without values.
  pub path_room : (kept : List (Option Value)) (steps : List Step) → AreFalling t height steps → ((s : Step) → Contains steps s → (s.number < length kept) × (get_or kept s.number None ≡ None))
      → length steps + value_count kept ≤ length kept
  path_room kept [] falls missing = omega (arith, value_count-within kept)
  path_room kept (s ∷ rest) (first, falls) missing =
      let here = missing s (0, omega arith, refl) in
      let v : Value = Level No in
      let more : List (Option Value) = slice_set kept s.number (Some v) in
      let one : value_count more ≡ suc (value_count kept) = value_count-more kept s.number v here.0 here.1 in
      let long : length more ≡ length kept = length-set kept s.number (Some v) in
      let fewer : length rest + value_count more ≤ length more =
      path_room more rest falls (λ r c.
      let low : height_at t height r < height_at t height s = first r c in
      let there = missing r (Contains-append_right (s ∷ []) rest r c) in
      let other : r.number ≡ s.number → ⊥ = λ e. let same : height_at t height r ≡ height_at t height s = ap (λ k. height (cell_at t k)) e in omega (arith, low, same) in
      (omega (arith, there.0, long), get_or-set_other kept s.number r.number (Some v) None other ∙ there.1)) in
      omega (arith, fewer, one, long)

-- ---- paths
-- it begins with the node that is asked; where it is over, that node is kept
abbrev pub Begins : TreeValue → Node → List (Option Value) → List Step → Type 0
Begins t asked kept [] = IsKept t kept asked
Begins t asked kept (s ∷ rest) = s.number ≡ number_of t asked

pub record IsPath (t : TreeValue) (g : List (List ℕ)) (asked : Node) (kept : List (Option Value)) (path : List Step) : Type 0 where
  pub steps : (s : Step) → Contains path s → IsStep t g asked kept s
  pub falls : (laws : CellLaws t) → AreFalling t laws.height path
  pub begins : Begins t asked kept path

module _ (t : TreeValue) (g : List (List ℕ)) (asked : Node) (kept : List (Option Value)) where
  pub path_begun : (laws : CellLaws t) → IsNodeOf t asked → get_or kept (number_of t asked) None ≡ None → IsPath t g asked kept (record { number = number_of t asked; passed = 0 } ∷ [])
  path_begun laws inside missing =
      let own : Step = record { number = number_of t asked; passed = 0 } in
      let cell : OfNode asked ≡ cell_at t (number_of t asked) = sym (laws.same (OfNode asked) inside) in
      let first : IsStep t g asked kept own = record {
        below = laws.below (OfNode asked) inside;
        wanted = subst (IsWanted t (asked ∷ [])) cell (asked_for (0, omega arith, refl));
        missing = missing;
        passed = none_passed kept (row g (number_of t asked));
      } in
      record {
        steps = λ s c. ⊎_elim (λ same. subst (IsStep t g asked kept) same first) (λ none. absurd (omega (arith, none.1))) (contained_cases own [] s c);
        falls = λ laws. falling_longer t laws.height [] own tt (λ r c. absurd (omega (arith, c.1)));
        begins = refl;
      }

  begins_same : (front rest : List Step) (s r : Step) → s.number ≡ r.number → Begins t asked kept (front ++ s ∷ []) → Begins t asked kept ((front ++ r ∷ []) ++ rest)
  begins_same [] rest s r same h = sym same ∙ h
  begins_same (x ∷ front) rest s r same h = h

  begins_shorter : (after : List (Option Value)) (front : List Step) (s : Step) → (s.number ≡ number_of t asked → IsKept t after asked) → Begins t asked kept (front ++ s ∷ []) → Begins t asked after front
  begins_shorter after [] s done h = done h
  begins_shorter after (x ∷ front) s done h = h

  module _ (laws : CellLaws t) (front : List Step) (s : Step) (path : IsPath t g asked kept (front ++ s ∷ [])) where
    pub last_step : IsStep t g asked kept s
    last_step = path.steps s (last_in front s)

    -- the walk goes on with a cell that the last one reads
    module _ (is : IsCellTable t g) (r below : Step) (same : r.number ≡ s.number) (fresh : below.passed ≡ 0)
        (passed : HaveValues kept (row g r.number) r.passed) (listed : Contains (row g r.number) below.number) (missing : get_or kept below.number None ≡ None) where
      reads : (below.number < cell_count t) × Contains (read_cells t (cell_at t s.number)) (cell_at t below.number)
      reads = row_read t laws g is s.number last_step.below below.number (subst (λ k. Contains (row g k) below.number) same listed)

      again : IsStep t g asked kept r
      again = record {
        below = subst (λ k. k < cell_count t) (sym same) last_step.below;
        wanted = subst (λ k. IsWanted t (asked ∷ []) (cell_at t k)) (sym same) last_step.wanted;
        missing = subst (λ k. get_or kept k None ≡ None) (sym same) last_step.missing;
        passed = passed;
      }

      next : IsStep t g asked kept below
      next = record {
        below = reads.0;
        wanted = read last_step.wanted reads.1;
        missing = missing;
        passed = subst (HaveValues kept (row g below.number)) (sym fresh) (none_passed kept (row g below.number));
      }

      falls_longer : (l : CellLaws t) → AreFalling t l.height ((front ++ r ∷ []) ++ below ∷ [])
      falls_longer l =
          let lower : height_at t l.height below < height_at t l.height s = l.lower (cell_at t s.number) (cell_at t below.number) (laws.inside s.number last_step.below) reads.1 in
          let level : height_at t l.height r ≡ height_at t l.height s = ap (λ k. l.height (cell_at t k)) same in
          let short = falling_shorter t l.height front s (path.falls l) in
          let mid : AreFalling t l.height (front ++ r ∷ []) = falling_longer t l.height front r short.0 (λ x c. let high = short.1 x c in omega (arith, high, level)) in
          falling_longer t l.height (front ++ r ∷ []) below mid (λ x c.
          ⊎_elim
          (λ before. let high = short.1 x before in omega (arith, high, lower))
          (λ e. let own : height_at t l.height r ≡ height_at t l.height x = ap (height_at t l.height) e in omega (arith, own, level, lower))
          (Contains-push_cases front r x c))

      pub path_longer : IsPath t g asked kept ((front ++ r ∷ []) ++ below ∷ [])
      path_longer = record {
        steps = λ x c.
            ⊎_elim
            (λ before. ⊎_elim
            (λ early. path.steps x (Contains-append_left front (s ∷ []) x early))
            (λ e. subst (IsStep t g asked kept) e again)
            (Contains-push_cases front r x before))
            (λ e. subst (IsStep t g asked kept) e next)
            (Contains-push_cases (front ++ r ∷ []) below x c);
        falls = falls_longer;
        begins = begins_same front (below ∷ []) s r (sym same) path.begins;
      }

    -- the last cell has a value now
    module _ (whole : length kept ≡ cell_count t) (v : Value) where
      abbrev after : List (Option Value)
      after = slice_set kept s.number (Some v)

      room : s.number < length kept
      room = omega (arith, last_step.below, whole)

      step_stays : (x : Step) → Contains front x → IsStep t g asked after x
      step_stays x c =
          let was : IsStep t g asked kept x = path.steps x (Contains-append_left front (s ∷ []) x c) in
          let high : height_at t laws.height s < height_at t laws.height x = (falling_shorter t laws.height front s (path.falls laws)).1 x c in
          let other : x.number ≡ s.number → ⊥ = λ e. let same : height_at t laws.height x ≡ height_at t laws.height s = ap (λ k. laws.height (cell_at t k)) e in omega (arith, high, same) in
          record {
            below = was.below;
            wanted = was.wanted;
            missing = value_there kept s.number v room x.number other ∙ was.missing;
            passed = λ j early within. value_stays kept s.number v room (get_or (row g x.number) j 0) (was.passed j early within);
          }

      pub path_shorter : IsPath t g asked after front
      path_shorter = record {
        steps = step_stays;
        falls = λ l. (falling_shorter t l.height front s (path.falls l)).0;
        begins = begins_shorter after front s (λ e. ap (λ j. is_some (get_or after j None)) (sym e) ∙ ap is_some (value_here kept s.number v room)) path.begins;
      }

-- ---- the work that is left
-- a walk has as many steps to go as there are cells without values, twice, but for those on the path
pub work_left : TreeValue → List (Option Value) → List Step → ℕ
work_left t kept path = 2 * (cell_count t - value_count kept) - length path

module _ (t : TreeValue) (laws : CellLaws t) (g : List (List ℕ)) (asked : Node) (kept : List (Option Value)) (whole : length kept ≡ cell_count t) where
  steps_within : (path : List Step) → IsPath t g asked kept path → length path + value_count kept ≤ cell_count t
  steps_within path is =
      let all : length path + value_count kept ≤ length kept =
      path_room t laws.height kept path (is.falls laws) (λ s c. let step = is.steps s c in (subst (λ n. s.number < n) (sym whole) step.below, step.missing)) in
      omega (arith, all, whole)

  pub longer_less : (short long : List Step) → length long ≡ length short + 1 → IsPath t g asked kept long → work_left t kept long < work_left t kept short
  unfolding work_left
  longer_less short long one is =
      let within : length long + value_count kept ≤ cell_count t = steps_within long is in
      omega (arith, one, within)

  pub shorter_less : (front : List Step) (s : Step) (v : Value) → IsPath t g asked kept (front ++ s ∷ []) → work_left t (slice_set kept s.number (Some v)) front < work_left t kept (front ++ s ∷ [])
  unfolding work_left
  shorter_less front s v is =
      let last : IsStep t g asked kept s = is.steps s (last_in front s) in
      let more : value_count (slice_set kept s.number (Some v)) ≡ suc (value_count kept) = value_count-more kept s.number v (subst (λ n. s.number < n) (sym whole) last.below) last.missing in
      let within : length (front ++ s ∷ []) + value_count kept ≤ cell_count t = steps_within (front ++ s ∷ []) is in
      omega (arith, more, within, length-append front (s ∷ []))
