-- Lines have one tree, or one first problem, and not both.
use Rattle.std.proofs.Common.{◌≡◌, ◌⊎◌, inl, inr, ℕ, suc, ◌+◌, ◌<◌, ◌==◌, Bool, List, [], ◌∷◌, length, Some, None, refl, sym, ap, ◌∙◌, subst, arith}
use Rattle.std.specs.List.{slice_get}
use Rattle.std.proofs.lemmas.Bool.{cases_lt}
use Rattle.std.proofs.lemmas.Option.{none-some, same_Some, slice_get_within, slice_get_cases}
use Rattle.kc_text.specs.LineValue.{LineValue}
use Rattle.kc_statement.specs.Names.{names_of}
use Rattle.kc_statement.specs.Statements.{HasForm, HasNoForm}
use Rattle.kc_statement.specs.declared.statement.Statement.{Statement}
use Rattle.kc_outline.specs.declared.fault.LineProblem.{LineProblem}
use Rattle.kc_outline.specs.declared.fault.LineProblem.TheVariants.{Malformed}
use Rattle.kc_outline.specs.declared.fault.LineFault.{LineFault}
use Rattle.kc_outline.specs.declared.fault.LineFault.TheVariants as fault
use Rattle.kc_outline.specs.Enclosing.{before}
use Rattle.kc_outline.specs.FirstProblem.{IsFirstLineFault, IsReadFault, IsOnlyFault}
use Rattle.kc_outline.specs.LineFaults.{IsSound, HasProblem, early_problem, late_problem}
use Rattle.kc_outline.specs.Reader.{IsOnlyForm, IsOnlyProblem}
use Rattle.kc_outline.specs.TreeOf.{Reading, IsReading, IsReadingAt, AreFirstReadings, IsOutlineOf, tree_of}
use Rattle.kc_outline.specs.TreeValue.{TreeValue}
use Rattle.kc_outline.proofs.AddingParts.{reading}
use Rattle.kc_outline.proofs.PlaceLaws.{AreRead}

-- ---- a line
-- a line with one form alone, and no problem, has none
pub sound_alone : (names : List (List ℕ)) (earlier : List LineValue) (last : Bool) (l : LineValue) (s : Statement) (p : LineProblem) → IsSound names earlier last l s → IsOnlyForm names l s → HasProblem names earlier last l p → ⊥
sound_alone names earlier last l s p sound only (inl early) = none-some p (sym sound.early ∙ early)
sound_alone names earlier last l s p sound only (inr (inl malformed)) = malformed.1 s sound.form
sound_alone names earlier last l s p sound only (inr (inr late)) =
    none-some p (sym sound.late ∙ ap (late_problem earlier l) (sym (only late.0 late.2)) ∙ late.3)

module _ (names : List (List ℕ)) (earlier : List LineValue) (last : Bool) (l : LineValue) where
  -- a problem before the form is looked at
  pub early_alone : (p : LineProblem) → early_problem earlier last l ≡ Some p → IsOnlyProblem names earlier last l p
  early_alone p early = record {
    has = inl early;
    only = alone;
    unsound = λ s sound. none-some p (sym sound.early ∙ early);
  } where
    alone : (other : LineProblem) → HasProblem names earlier last l other → other ≡ p
    alone other (inl found) = same_Some other p (sym found ∙ early)
    alone other (inr (inl malformed)) = absurd (none-some p (sym malformed.0 ∙ early))
    alone other (inr (inr late)) = absurd (none-some p (sym late.1 ∙ early))

  -- no form
  pub malformed_alone : early_problem earlier last l ≡ None → HasNoForm names l → IsOnlyProblem names earlier last l Malformed
  malformed_alone early none = record {
    has = inr (inl (early, none, refl));
    only = alone;
    unsound = λ s sound. none s sound.form;
  } where
    alone : (other : LineProblem) → HasProblem names earlier last l other → other ≡ Malformed
    alone other (inl found) = absurd (none-some other (sym early ∙ found))
    alone other (inr (inl malformed)) = malformed.2
    alone other (inr (inr late)) = absurd (none late.0 late.2)

  -- a problem of the one form
  pub late_alone : (s : Statement) (p : LineProblem) → early_problem earlier last l ≡ None → HasForm names l s → IsOnlyForm names l s → late_problem earlier l s ≡ Some p → IsOnlyProblem names earlier last l p
  late_alone s p early form only late = record {
    has = inr (inr (s, early, form, late));
    only = alone;
    unsound = λ x sound. none-some p (sym sound.late ∙ ap (late_problem earlier l) (only x sound.form) ∙ late);
  } where
    alone : (other : LineProblem) → HasProblem names earlier last l other → other ≡ p
    alone other (inl found) = absurd (none-some other (sym early ∙ found))
    alone other (inr (inl malformed)) = absurd (malformed.1 s form)
    alone other (inr (inr h)) = same_Some other p (sym h.3 ∙ ap (late_problem earlier l) (only h.0 h.2) ∙ late)

-- ---- the first lines
same_list : {X : Type 0} (xs ys : List X) → length xs ≡ length ys → ((i : ℕ) (x y : X) → slice_get xs i ≡ Some x → slice_get ys i ≡ Some y → x ≡ y) → xs ≡ ys
same_list [] [] many each = refl
same_list [] (y ∷ ys) many each = absurd (omega (arith, many))
same_list (x ∷ xs) [] many each = absurd (omega (arith, many))
same_list (x ∷ xs) (y ∷ ys) many each =
    ap (λ z. z ∷ xs) (each 0 x y refl refl) ∙ ap (λ zs. y ∷ zs) (same_list xs ys (omega (arith, many)) (λ i. each (suc i)))

same_reading : (r q : Reading) → r.statement ≡ q.statement → r.block ≡ q.block → r.choice ≡ q.choice → r.owner ≡ q.owner → r ≡ q
same_reading r q statement block choice owner =
    ap (λ s. reading s r.block r.choice r.owner) statement
    ∙ ap (λ b. reading q.statement b r.choice r.owner) block
    ∙ ap (λ c. reading q.statement q.block c r.owner) choice
    ∙ ap (λ o. reading q.statement q.block q.choice o) owner

module _ (lines : List LineValue) (n : ℕ) (rs : List Reading) (read : AreRead lines n rs) where
  one_reading : (i : ℕ) (r q : Reading) → slice_get rs i ≡ Some r → IsReadingAt lines i q → q ≡ r
  one_reading i r q there reads =
      let own = read.readings.each i r there in
      let line : own.line ≡ reads.line = same_Some own.line reads.line (sym own.is ∙ reads.is) in
      let mine : IsReading (names_of lines) (before lines i) (i + 1 == length lines) reads.line r = subst (λ l. IsReading (names_of lines) (before lines i) (i + 1 == length lines) l r) line own.reads in
      same_reading q r
      (read.only i reads.line r reads.is there q.statement reads.reads.sound.form)
      (reads.reads.block ∙ sym mine.block)
      (reads.reads.choice ∙ sym mine.choice)
      (reads.reads.owner ∙ sym mine.owner)

  -- they have no other readings
  pub same_readings : (qs : List Reading) → AreFirstReadings lines n qs → qs ≡ rs
  same_readings qs reads =
      same_list qs rs (reads.many ∙ sym read.readings.many) (λ i q r here there. one_reading i r q there (reads.each i q here))

  -- and no problem
  pub no_problem : (i : ℕ) (l : LineValue) (p : LineProblem) → i < n → slice_get lines i ≡ Some l → HasProblem (names_of lines) (before lines i) (i + 1 == length lines) l p → ⊥
  no_problem i l p within line problem = elim ((slice_get_cases rs i).1) [
    | inl there ↦
        let r = there.0 in
        let own = read.readings.each i r there.2 in
        let same : own.line ≡ l = same_Some own.line l (sym own.is ∙ line) in
        let mine : IsReading (names_of lines) (before lines i) (i + 1 == length lines) l r = subst (λ x. IsReading (names_of lines) (before lines i) (i + 1 == length lines) x r) same own.reads in
        sound_alone (names_of lines) (before lines i) (i + 1 == length lines) l r.statement p mine.sound (read.only i l r line there.2) problem
    | inr past ↦ (let none = past.0 in let many = read.readings.many in omega (arith, within, none, many))
  ]

-- ---- all lines that are read
module _ (lines : List LineValue) (rs : List Reading) (read : AreRead lines (length lines) rs) where
  pub one_tree : (t : TreeValue) → IsOutlineOf lines t → t ≡ tree_of (names_of lines) rs
  one_tree t outline = outline.tree ∙ ap (tree_of (names_of lines)) (same_readings lines (length lines) rs read outline.readings outline.read)

  pub no_fault : (f : LineFault) → IsReadFault lines f → f ≡ fault.NoMemory
  no_fault (fault.At problem path number) h =
      let i = h.0 in
      let first = h.1 in
      absurd (no_problem lines (length lines) rs read i first.line problem (slice_get_within lines i first.line first.is) first.is first.here)
  no_fault fault.NoMemory h = refl

-- ---- lines up to the first that isn't read
module _ (lines : List LineValue) (i : ℕ) (l : LineValue) (is : slice_get lines i ≡ Some l) (problem : LineProblem) (rs : List Reading) (read : AreRead lines i rs)
    (stop : IsOnlyProblem (names_of lines) (before lines i) (i + 1 == length lines) l problem) where
  unread : (q : Reading) → IsReadingAt lines i q → ⊥
  unread q reads =
      let same : reads.line ≡ l = same_Some reads.line l (sym reads.is ∙ is) in
      stop.unsound q.statement (subst (λ x. IsSound (names_of lines) (before lines i) (i + 1 == length lines) x q.statement) same reads.reads.sound)

  never_read : (n : ℕ) (qs : List Reading) → i < n → AreFirstReadings lines n qs → ⊥
  never_read n qs past reads = elim ((slice_get_cases qs i).1) [
    | inl there ↦ unread there.0 (reads.each i there.0 there.2)
    | inr late ↦ (let none = late.0 in let many = reads.many in omega (arith, past, none, many))
  ]

  -- a first fault is this one
  one_fault : (k : ℕ) (p : LineProblem) (path : List ℕ) (number : ℕ) → IsFirstLineFault lines k p path number → fault.At p path number ≡ fault.At problem l.path l.number
  one_fault k p path number h = elim (cases_lt k i) [
    | inl sooner ↦ absurd (no_problem lines i rs read k h.line p sooner h.is h.here)
    | inr not_sooner ↦ elim (cases_lt i k) [
      | inl later ↦ absurd (never_read k h.readings later h.earlier)
      | inr not_later ↦
          let here : k ≡ i = omega (arith, not_sooner, not_later) in
          let line : h.line ≡ l = same_Some h.line l (sym h.is ∙ ap (slice_get lines) here ∙ is) in
          let found : HasProblem (names_of lines) (before lines i) (i + 1 == length lines) l p =
          subst (λ x. HasProblem (names_of lines) (before lines i) (i + 1 == length lines) x p) line
          (subst (λ j. HasProblem (names_of lines) (before lines j) (j + 1 == length lines) h.line p) here h.here) in
          ap (λ q. fault.At q path number) (stop.only p found)
          ∙ ap (λ x. fault.At problem x number) (h.path_is ∙ ap (λ x. x.path) line)
          ∙ ap (λ x. fault.At problem l.path x) (h.number_is ∙ ap (λ x. x.number) line)
    ]
  ]

  pub only_fault : (path : List ℕ) (number : ℕ) → path ≡ l.path → number ≡ l.number → IsOnlyFault lines (fault.At problem path number)
  only_fault path number path_is number_is = record {
    treeless = λ t outline. never_read (length lines) outline.readings (slice_get_within lines i l is) outline.read;
    alone = every;
  } where
    reported : fault.At problem l.path l.number ≡ fault.At problem path number
    reported = ap (λ x. fault.At problem x l.number) (sym path_is) ∙ ap (λ x. fault.At problem path x) (sym number_is)

    every : (f : LineFault) → IsReadFault lines f → (f ≡ fault.At problem path number) ⊎ (f ≡ fault.NoMemory)
    every (fault.At p q n) h = inl (one_fault h.0 p q n h.1 ∙ reported)
    every fault.NoMemory h = inr refl
