-- The lines that have a problem, one line further on, and what the first of them is to the reading of the lines.
use Rattle.std.proofs.Common.{◌≡◌, ◌⊎◌, inl, inr, ℕ, ◌+◌, ◌-◌, ◌<◌, ◌==◌, Bool, true, false, ◌||◌, List, [], ◌∷◌, ◌++◌, Option, Some, None, All, AllPairs, Contains, length, refl, sym, ap, ◌∙◌, subst, arith}
use Rattle.std.specs.List.{slice_get}
use Rattle.std.proofs.lemmas.Bool.{true≢false, cases_lt}
use Rattle.std.proofs.lemmas.Option.{same_Some, slice_get_cases, slice_get_within}
use Rattle.std.proofs.lemmas.List.Elements.{All-push, All-weaker, Contains-push, Contains-append_left}
use Rattle.std.proofs.lemmas.List.Quantifiers.{all_pairs_push}
use Rattle.kc_text.specs.LineValue.{LineValue}
use Rattle.kc_statement.specs.Names.{names_of}
use Rattle.kc_statement.specs.declared.statement.Statement.{Statement}
use Rattle.kc_outline.specs.declared.fault.FaultyLine.{FaultyLine}
use Rattle.kc_outline.specs.declared.fault.LineProblem.{LineProblem}
use Rattle.kc_outline.specs.declared.fault.LineProblem.TheVariants.{Limit, Malformed}
use Rattle.kc_outline.specs.Enclosing.{before, open_blocks, innermost, choice_among, nearest_statement, owner_at}
use Rattle.kc_outline.specs.FaultyLines.{HasProblemAt, IsAfterTooDeep, AreLineFaults, IsRefusal, AreRefusedForFirst}
use Rattle.kc_outline.specs.LineFaults.{HasProblem, IsSound, late_problem, first_problem, is_no_choice_default, is_past_limit, opens_too_deep, test}
use Rattle.kc_outline.specs.Reader.{IsFound, IsOnlyForm, IsOnlyProblem, faults_with}
use Rattle.kc_outline.specs.TreeOf.{Reading, IsReading, tree_of}
use Rattle.kc_outline.proofs.OnlyLaws.{sound_alone, only_fault}
use Rattle.kc_outline.proofs.PlaceLaws.{AreRead, last_place, read_none, read_push}

-- the first fault, which stops the reading after the lines before it are read
pub record IsStoppedAt (lines : List LineValue) (f : FaultyLine) : Type 0 where
  pub line : LineValue
  pub is : slice_get lines f.place ≡ Some line
  pub readings : List Reading
  pub read : AreRead lines f.place readings
  pub stop : IsOnlyProblem (names_of lines) (before lines f.place) (f.place + 1 == length lines) line f.problem

abbrev pub AreStoppedBefore : List LineValue → ℕ → List FaultyLine → Type 0
AreStoppedBefore lines n [] = (rs : List Reading) × AreRead lines n rs
AreStoppedBefore lines n (f ∷ fs) = IsStoppedAt lines f

-- the faults of the first n lines
pub record AreFaultsBefore (lines : List LineValue) (n : ℕ) (fs : List FaultyLine) : Type 0 where
  pub each : All (λ f. HasProblemAt lines f.place f.problem) fs
  pub all : (i : ℕ) (p : LineProblem) → i < n → HasProblemAt lines i p → Contains fs (record { place = i; problem = p })
  pub in_order : AllPairs (λ f g. f.place < g.place) fs
  pub below : All (λ f. f.place < n) fs
  pub first : AreStoppedBefore lines n fs

-- no line before line n opens one block too many
abbrev pub IsShallowBefore : List LineValue → ℕ → Type 0
IsShallowBefore lines n = IsAfterTooDeep lines n → ⊥

pub no_lines : (lines : List LineValue) → IsShallowBefore lines 0
no_lines lines h = let none = h.earlier in absurd (omega (arith, none))

-- then no line up to line n is after such a line
shallow_up_to : (lines : List LineValue) (n : ℕ) → IsShallowBefore lines n → (f : FaultyLine) → f.place < n + 1 → IsAfterTooDeep lines f.place → ⊥
shallow_up_to lines n shallow f below h =
    let earlier = h.earlier in
    shallow (record { opener = h.opener; earlier = omega (arith, earlier, below); line = h.line; is = h.is; deep = h.deep })

pub no_faults : (lines : List LineValue) → AreFaultsBefore lines 0 []
no_faults lines = record {
  each = λ k d within. absurd (omega (arith, within));
  all = λ i p within h. absurd (omega (arith, within));
  in_order = λ i j d before within. absurd (omega (arith, within));
  below = λ k d within. absurd (omega (arith, within));
  first = ([], read_none lines);
}

module _ (lines : List LineValue) (n : ℕ) (l : LineValue) (is : slice_get lines n ≡ Some l) (fs : List FaultyLine) (before_it : AreFaultsBefore lines n fs) where
  -- what line n has
  has_here : (i : ℕ) (p : LineProblem) → i ≡ n → HasProblemAt lines i p → HasProblem (names_of lines) (before lines n) (n + 1 == length lines) l p
  has_here i p here h =
      let h_here : HasProblemAt lines n p = subst (λ k. HasProblemAt lines k p) here h in
      subst (λ x. HasProblem (names_of lines) (before lines n) (n + 1 == length lines) x p) (same_Some h_here.line l (sym h_here.is ∙ is)) h_here.has

  before_or_here : (i : ℕ) → i < n + 1 → (i < n) ⊎ (i ≡ n)
  before_or_here i within = elim (cases_lt i n) [ inl sooner ↦ inl sooner | inr here ↦ inr (omega (arith, within, here)) ]

  -- ---- a line without a problem
  module _ (s : Statement) (sound : IsSound (names_of lines) (before lines n) (n + 1 == length lines) l s) (only : IsOnlyForm (names_of lines) l s) where
    abbrev reading_here : Reading
    reading_here = record {
      statement = s;
      block = innermost (open_blocks (before lines n));
      choice = choice_among (open_blocks (before lines n));
      owner = owner_at (names_of lines) (l ∷ before lines n);
    }

    read_here : (rs : List Reading) → AreRead lines n rs → AreRead lines (n + 1) (rs ++ reading_here ∷ [])
    read_here rs read =
        let within = slice_get_within lines n l is in
        let left : length lines - (n + 1) ≡ length lines - n - 1 = omega arith in
        let last : (length lines - (n + 1) == 0) ≡ (n + 1 == length lines) = ap (λ k. k == 0) left ∙ last_place (length lines) n within in
        let reads : IsReading (names_of lines) (before lines n) (n + 1 == length lines) l reading_here = record { sound = sound; block = refl; choice = refl; owner = refl } in
        read_push lines n l is reading_here rs (subst (λ b. IsReading (names_of lines) (before lines n) b l reading_here) (sym last) reads) only read

    go_on : (gs : List FaultyLine) → AreStoppedBefore lines n gs → AreStoppedBefore lines (n + 1) gs
    go_on [] read = (read.0 ++ reading_here ∷ [], read_here read.0 read.1)
    go_on (g ∷ gs) stopped = stopped

    sound_next : AreFaultsBefore lines (n + 1) fs
    sound_next = record {
      each = before_it.each;
      all = λ i p within h. elim (before_or_here i within) [
        | inl sooner ↦ before_it.all i p sooner h
        | inr here ↦ absurd (sound_alone (names_of lines) (before lines n) (n + 1 == length lines) l s p sound only (has_here i p here h))
      ];
      in_order = before_it.in_order;
      below = All-weaker (λ f. f.place < n) (λ f. f.place < n + 1) (λ f h. omega (arith, h)) fs before_it.below;
      first = go_on fs before_it.first;
    }

  -- ---- a line with this problem alone
  module _ (problem : LineProblem) (stop : IsOnlyProblem (names_of lines) (before lines n) (n + 1 == length lines) l problem) where
    abbrev fault : FaultyLine
    fault = record { place = n; problem = problem }

    stop_at : (gs : List FaultyLine) → AreStoppedBefore lines n gs → AreStoppedBefore lines (n + 1) (gs ++ fault ∷ [])
    stop_at [] read = record { line = l; is = is; readings = read.0; read = read.1; stop = stop }
    stop_at (g ∷ gs) stopped = stopped

    faulty_next : AreFaultsBefore lines (n + 1) (fs ++ fault ∷ [])
    faulty_next = record {
      each = All-push (λ f. HasProblemAt lines f.place f.problem) fs fault before_it.each (record { line = l; is = is; has = stop.has });
      all = λ i p within h. elim (before_or_here i within) [
        | inl sooner ↦ Contains-append_left fs (fault ∷ []) (record { place = i; problem = p }) (before_it.all i p sooner h)
        | inr here ↦
            let same : p ≡ problem = stop.only p (has_here i p here h) in
            subst (λ k. Contains (fs ++ fault ∷ []) (record { place = k; problem = p })) (sym here)
            (subst (λ x. Contains (fs ++ fault ∷ []) (record { place = n; problem = x })) (sym same) (Contains-push fs fault))
      ];
      in_order = all_pairs_push (λ f g. f.place < g.place) fs fault before_it.in_order before_it.below;
      below = All-push (λ f. f.place < n + 1) fs fault
          (All-weaker (λ f. f.place < n) (λ f. f.place < n + 1) (λ f h. omega (arith, h)) fs before_it.below) (omega arith);
      first = stop_at fs before_it.first;
    }

  -- ---- a line that does not open one block too many
  pub shallow_next : IsShallowBefore lines n → opens_too_deep (open_blocks (before lines n)) l ≡ false → IsShallowBefore lines (n + 1)
  shallow_next shallow flat h = elim (before_or_here h.opener h.earlier) [
    | inl sooner ↦ shallow (record { opener = h.opener; earlier = sooner; line = h.line; is = h.is; deep = h.deep })
    | inr here ↦
        let own : h.line ≡ l = same_Some h.line l (sym h.is ∙ ap (λ i. slice_get lines i) here ∙ is) in
        let deep : opens_too_deep (open_blocks (before lines n)) h.line ≡ true =
        subst (λ i. opens_too_deep (open_blocks (before lines i)) h.line ≡ true) here h.deep in
        absurd (true≢false (sym deep ∙ ap (λ x. opens_too_deep (open_blocks (before lines n)) x) own ∙ flat))
  ]

  -- ---- by what is found
  pub next_faults : (found : Option LineProblem) → IsFound (names_of lines) (before lines n) (n + 1 == length lines) l found → AreFaultsBefore lines (n + 1) (faults_with fs n found)
  next_faults None says = sound_next says.0 says.1 says.2
  next_faults (Some problem) stop = faulty_next problem stop

-- ---- all lines that are read
module _ (lines : List LineValue) where
  -- the fault of the first
  refusal : (f : FaultyLine) → IsStoppedAt lines f → IsRefusal lines f
  refusal f stopped = record {
    line = stopped.line;
    is = stopped.is;
    first = record {
      line = stopped.line;
      is = stopped.is;
      path_is = refl;
      number_is = refl;
      here = stopped.stop.has;
      readings = stopped.readings;
      earlier = stopped.read.readings;
    };
    only = only_fault lines f.place stopped.line stopped.is f.problem stopped.readings stopped.read stopped.stop stopped.line.path stopped.line.number refl refl;
  }

  -- up to the last
  module _ (fs : List FaultyLine) (found : AreFaultsBefore lines (length lines) fs) where
    pub all_line_faults : IsShallowBefore lines (length lines) → AreLineFaults lines fs
    all_line_faults shallow = record {
      each = found.each;
      read = All-weaker (λ f. f.place < length lines) (λ f. IsAfterTooDeep lines f.place → ⊥)
          (λ f h. shallow_up_to lines (length lines) shallow f (omega (arith, h))) fs found.below;
      all = λ i p h. inl (found.all i p (slice_get_within lines i h.line h.is) h);
      in_order = found.in_order;
    }

    first_of : (gs : List FaultyLine) → AreStoppedBefore lines (length lines) gs → AreRefusedForFirst lines gs
    first_of [] read = (tree_of (names_of lines) read.0, record { readings = read.0; read = read.1.readings; tree = refl })
    first_of (f ∷ gs) stopped = refusal f stopped

    pub refused_for_first : AreRefusedForFirst lines fs
    refused_for_first = first_of fs found.first

  -- up to one that opens a block too deep
  module _ (n : ℕ) (l : LineValue) (is : slice_get lines n ≡ Some l) (deep : opens_too_deep (open_blocks (before lines n)) l ≡ true) (fs : List FaultyLine) (found : AreFaultsBefore lines (n + 1) fs) where
    pub line_faults_before : IsShallowBefore lines n → AreLineFaults lines fs
    line_faults_before shallow = record {
      each = found.each;
      read = All-weaker (λ f. f.place < n + 1) (λ f. IsAfterTooDeep lines f.place → ⊥) (shallow_up_to lines n shallow) fs found.below;
      all = λ i p h. elim (cases_lt i (n + 1)) [
        | inl sooner ↦ inl (found.all i p sooner h)
        | inr later ↦ inr (record { opener = n; earlier = omega (arith, later); line = l; is = is; deep = deep })
      ];
      in_order = found.in_order;
    }

    -- it is not read itself
    too_deep : (s : Statement) → late_problem (before lines n) l s ≡ None → ⊥
    too_deep s none = step (is_no_choice_default (nearest_statement (before lines n)) s) (subst (λ b. first_problem (test Malformed (is_no_choice_default (nearest_statement (before lines n)) s) ∷ test Limit (b || is_past_limit s) ∷ []) ≡ None) deep none) where
      step : (b : Bool) → first_problem (test Malformed b ∷ test Limit true ∷ []) ≡ None → ⊥
      step true e = cc
      step false e = cc

    unread_at : (rs : List Reading) → AreRead lines (n + 1) rs → ⊥
    unread_at rs read = elim ((slice_get_cases rs n).1) [
      | inl there ↦
          let own = read.readings.each n there.0 there.2 in
          let same : own.line ≡ l = same_Some own.line l (sym own.is ∙ is) in
          too_deep there.0.statement (subst (λ x. late_problem (before lines n) x there.0.statement ≡ None) same own.reads.sound.late)
      | inr past ↦ (let none = past.0 in let many = read.readings.many in omega (arith, none, many))
    ]

    stopped_first : (gs : List FaultyLine) → AreStoppedBefore lines (n + 1) gs → AreRefusedForFirst lines gs
    stopped_first [] read = absurd (unread_at read.0 read.1)
    stopped_first (f ∷ gs) stopped = refusal f stopped

    pub refused_before : AreRefusedForFirst lines fs
    refused_before = stopped_first fs found.first
