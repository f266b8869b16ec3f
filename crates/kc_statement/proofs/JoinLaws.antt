-- How parts joined by a sign are read, one part after another.
use Rattle.std.proofs.Common.{◌≡◌, ◌⊎◌, inl, inr, ℕ, List, [], ◌∷◌, ◌++◌, refl, sym, ap, subst, ◌∙◌}
use Rattle.std.proofs.lemmas.List.{append_assoc}
use Rattle.kc_statement.specs.declared.expr.ExprKind.{ExprKind}
use Rattle.kc_statement.specs.Grammar.{Symbol, ampersands, bars, Formula, atom, bare, compare, negation, group, both, either, Level, factor, part, expression, IsAt, spelled, joined, symbols_of}
use Rattle.kc_statement.specs.Mistakes.{CanGoOn}
use Rattle.kc_statement.specs.Fronts.{DoesNotBegin, StopsBefore, Begins, IsUnreadable}

-- expressions of one level are those of another joined by a sign
pub record Joins (k : ExprKind) (inner outer : Level) (join : Formula → Formula → Formula) (sign : Symbol) : Type 0 where
  pub alone : (f : Formula) → IsAt k inner f → IsAt k outer f
  pub pair : (f g : Formula) → IsAt k inner f → IsAt k outer g → IsAt k outer (join f g)
  pub cases : (g : Formula) → IsAt k outer g → IsAt k inner g ⊎ ((f : Formula) × (h : Formula) × IsAt k inner f × IsAt k outer h × (g ≡ join f h))
  pub written : (f g : Formula) → spelled (join f g) ≡ spelled f ++ sign ∷ spelled g
  pub ends : (t : List Symbol) → StopsBefore inner (sign ∷ t)
  pub ends_too : (t : List Symbol) → StopsBefore outer t → StopsBefore inner t
  pub goes_on : (t : List Symbol) → StopsBefore outer (sign ∷ t) → ⊥

part_alone : (k : ExprKind) (f : Formula) → IsAt k factor f → IsAt k part f
part_alone k (atom x) a = a
part_alone k (bare x) a = a
part_alone k (compare c x y) a = a
part_alone k (negation f) a = a
part_alone k (group f) a = a
part_alone k (both f g) a = absurd a
part_alone k (either f g) a = a

part_cases : (k : ExprKind) (g : Formula) → IsAt k part g → IsAt k factor g ⊎ ((f : Formula) × (h : Formula) × IsAt k factor f × IsAt k part h × (g ≡ both f h))
part_cases k (atom x) a = inl a
part_cases k (bare x) a = inl a
part_cases k (compare c x y) a = inl a
part_cases k (negation f) a = inl a
part_cases k (group f) a = inl a
part_cases k (both f h) a = inr (f, h, a.0, a.1, refl)
part_cases k (either f g) a = inl a

pub part_ends : (t : List Symbol) → StopsBefore part t → StopsBefore factor t
part_ends [] s = s
part_ends (Symbol.term x ∷ t) s = s
part_ends (Symbol.compares c ∷ t) s = s
part_ends (Symbol.bang ∷ t) s = s
part_ends (Symbol.ampersands ∷ t) s = absurd s
part_ends (Symbol.bars ∷ t) s = s
part_ends (Symbol.opening ∷ t) s = s
part_ends (Symbol.closing ∷ t) s = s
part_ends (Symbol.if_word ∷ t) s = s

pub factors_join : (k : ExprKind) → Joins k factor part both ampersands
factors_join k = record {
  alone = part_alone k;
  pair = λ f g a b. (a, b);
  cases = part_cases k;
  written = λ f g. refl;
  ends = λ t. tt;
  ends_too = part_ends;
  goes_on = λ t s. s;
}

expression_alone : (k : ExprKind) (f : Formula) → IsAt k part f → IsAt k expression f
expression_alone k (atom x) a = a
expression_alone k (bare x) a = a
expression_alone k (compare c x y) a = a
expression_alone k (negation f) a = a
expression_alone k (group f) a = a
expression_alone k (both f g) a = a
expression_alone k (either f g) a = absurd a

expression_cases : (k : ExprKind) (g : Formula) → IsAt k expression g → IsAt k part g ⊎ ((f : Formula) × (h : Formula) × IsAt k part f × IsAt k expression h × (g ≡ either f h))
expression_cases k (atom x) a = inl a
expression_cases k (bare x) a = inl a
expression_cases k (compare c x y) a = inl a
expression_cases k (negation f) a = inl a
expression_cases k (group f) a = inl a
expression_cases k (both f h) a = inl a
expression_cases k (either f h) a = inr (f, h, a.0, a.1, refl)

pub expression_ends : (t : List Symbol) → StopsBefore expression t → StopsBefore part t
expression_ends [] s = s
expression_ends (Symbol.term x ∷ t) s = s
expression_ends (Symbol.compares c ∷ t) s = s
expression_ends (Symbol.bang ∷ t) s = s
expression_ends (Symbol.ampersands ∷ t) s = s
expression_ends (Symbol.bars ∷ t) s = absurd s
expression_ends (Symbol.opening ∷ t) s = s
expression_ends (Symbol.closing ∷ t) s = s
expression_ends (Symbol.if_word ∷ t) s = s

pub parts_join : (k : ExprKind) → Joins k part expression either bars
parts_join k = record {
  alone = expression_alone k;
  pair = λ f g a b. (a, b);
  cases = expression_cases k;
  written = λ f g. refl;
  ends = λ t. tt;
  ends_too = expression_ends;
  goes_on = λ t s. s;
}

-- formulas that were read, joined with what comes after them
abbrev pub nest : (Formula → Formula → Formula) → List Formula → Formula → Formula
nest join [] g = g
nest join (f ∷ fs) g = join f (nest join fs g)

pub nest_push : (join : Formula → Formula → Formula) (fs : List Formula) (f g : Formula) →
    nest join (fs ++ f ∷ []) g ≡ nest join fs (join f g)
nest_push join [] f g = refl
nest_push join (e ∷ fs) f g = ap (join e) (nest_push join fs f g)

pub joined_push : (join : Formula → Formula → Formula) (empty : Formula) (fs : List Formula) (f : Formula) →
    joined join empty (fs ++ f ∷ []) ≡ nest join fs f
joined_push join empty [] f = refl
joined_push join empty (e ∷ []) f = refl
joined_push join empty (e ∷ d ∷ fs) f = ap (join e) (joined_push join empty (d ∷ fs) f)

-- some parts, each with its sign, were read from the front; another is to come
pub record IsPartway (k : ExprKind) (outer : Level) (join : Formula → Formula → Formula) (symbols : List Symbol) (fs : List Formula) (rest : List Symbol) : Type 0 where
  pub level : (h : Formula) → IsAt k outer h → IsAt k outer (nest join fs h)
  pub front : List Symbol
  pub begins : symbols ≡ front ++ rest
  pub written : (h : Formula) → spelled (nest join fs h) ≡ front ++ spelled h
  pub only : (g : Formula) (t : List Symbol) → IsAt k outer g → StopsBefore outer t → symbols ≡ spelled g ++ t →
      (h : Formula) × IsAt k outer h × (g ≡ nest join fs h) × (rest ≡ spelled h ++ t)

-- what was read, once the rest is read as a formula
pub partway_is : (k : ExprKind) (outer : Level) (join : Formula → Formula → Formula) (symbols : List Symbol) (fs : List Formula) (rest : List Symbol) → IsPartway k outer join symbols fs rest
    → (h : Formula) (t : List Symbol) → rest ≡ spelled h ++ t → symbols ≡ spelled (nest join fs h) ++ t
partway_is k outer join symbols fs rest b h t e =
    b.begins ∙ ap (λ s. b.front ++ s) e ∙ sym (append_assoc b.front (spelled h) t) ∙ ap (λ s. s ++ t) (sym (b.written h))

pub partway_start : (k : ExprKind) (outer : Level) (join : Formula → Formula → Formula) (symbols : List Symbol) → IsPartway k outer join symbols [] symbols
partway_start k outer join symbols = record {
  level = λ h a. a;
  front = [];
  begins = refl;
  written = λ h. refl;
  only = λ g t a s e. (g, a, refl, e);
}

module _ (k : ExprKind) (inner outer : Level) (join : Formula → Formula → Formula) (sign : Symbol) (joins : Joins k inner outer join sign)
    (symbols : List Symbol) (fs : List Formula) (here : List Symbol) (so_far : IsPartway k outer join symbols fs here) where
  -- two formulas and their sign, written before others
  written_before : (f g : Formula) (t : List Symbol) → spelled (join f g) ++ t ≡ spelled f ++ sign ∷ (spelled g ++ t)
  written_before f g t = ap (λ s. s ++ t) (joins.written f g) ∙ append_assoc (spelled f) (sign ∷ spelled g) t

  next_only : (f : Formula) (rest : List Symbol) → Begins k inner here f (sign ∷ rest) → (g : Formula) (t : List Symbol) →
      IsAt k outer g → StopsBefore outer t → symbols ≡ spelled g ++ t →
      (h : Formula) × IsAt k outer h × (g ≡ nest join (fs ++ f ∷ []) h) × (rest ≡ spelled h ++ t)
  next_only f rest b g t a s e =
      let before = so_far.only g t a s e in
      elim (joins.cases before.0 before.1) [
        | inl alone ↦
            let same = b.only before.0 t alone (joins.ends_too t s) before.3 in
            absurd (joins.goes_on rest (subst (StopsBefore outer) (sym same.1) s))
        | inr two ↦
            let read = b.only two.0 (sign ∷ (spelled two.1 ++ t)) two.2 (joins.ends (spelled two.1 ++ t))
            (before.3 ∙ ap (λ h. spelled h ++ t) two.4 ∙ written_before two.0 two.1 t) in
            let formula : g ≡ nest join fs (join f two.1) = before.2 ∙ ap (nest join fs) (two.4 ∙ ap (λ x. join x two.1) read.0) in
            (two.1, two.3, formula ∙ sym (nest_push join fs f two.1), cc)
      ]

  -- what was read, and one formula more with its sign
  longer : (f : Formula) (t : List Symbol) → so_far.front ++ (spelled f ++ sign ∷ t) ≡ (so_far.front ++ (spelled f ++ sign ∷ [])) ++ t
  longer f t = sym (append_assoc so_far.front (spelled f ++ sign ∷ []) t ∙ ap (λ s. so_far.front ++ s) (append_assoc (spelled f) (sign ∷ []) t))

  pub partway_next : (f : Formula) (rest : List Symbol) → Begins k inner here f (sign ∷ rest) →
      IsPartway k outer join symbols (fs ++ f ∷ []) rest
  partway_next f rest b = record {
    level = λ h a. rw nest_push (so_far.level (join f h) (joins.pair f h b.level a));
    front = so_far.front ++ (spelled f ++ sign ∷ []);
    begins = so_far.begins ∙ ap (λ s. so_far.front ++ s) b.is ∙ longer f rest;
    written = λ h. rw nest_push (so_far.written (join f h) ∙ ap (λ s. so_far.front ++ s) (joins.written f h) ∙ longer f (spelled h));
    only = next_only f rest b;
  }

  last_only : (f : Formula) (rest : List Symbol) → Begins k inner here f rest → DoesNotBegin sign rest → (g : Formula) (t : List Symbol) →
      IsAt k outer g → StopsBefore outer t → symbols ≡ spelled g ++ t → (g ≡ nest join fs f) × (rest ≡ t)
  last_only f rest b none g t a s e =
      let before = so_far.only g t a s e in
      elim (joins.cases before.0 before.1) [
        | inl alone ↦
            let same = b.only before.0 t alone (joins.ends_too t s) before.3 in
            (before.2 ∙ ap (nest join fs) same.0, same.1)
        | inr two ↦
            let read = b.only two.0 (sign ∷ (spelled two.1 ++ t)) two.2 (joins.ends (spelled two.1 ++ t))
            (before.3 ∙ ap (λ h. spelled h ++ t) two.4 ∙ written_before two.0 two.1 t) in
            absurd (none (spelled two.1 ++ t) read.1)
      ]

  pub partway_end : (empty f : Formula) (rest : List Symbol) → Begins k inner here f rest → DoesNotBegin sign rest →
      Begins k outer symbols (joined join empty (fs ++ f ∷ [])) rest
  partway_end empty f rest b none = rw joined_push (record {
    level = so_far.level f (joins.alone f b.level);
    is = partway_is k outer join symbols fs here so_far f rest b.is;
    only = last_only f rest b none;
  })

  pub partway_fails : IsUnreadable k inner here → IsUnreadable k outer symbols
  partway_fails none g t a s e =
      let before = so_far.only g t a s e in
      elim (joins.cases before.0 before.1) [
        | inl alone ↦ none before.0 t alone (joins.ends_too t s) before.3
        | inr two ↦
            none two.0 (sign ∷ (spelled two.1 ++ t)) two.2 (joins.ends (spelled two.1 ++ t))
            (before.3 ∙ ap (λ h. spelled h ++ t) two.4 ∙ written_before two.0 two.1 t)
      ]

  pub partway_goes_on : (names : List (List ℕ)) (left : ℕ) → CanGoOn names k inner here left → CanGoOn names k outer symbols left
  partway_goes_on names left g = (
    nest join fs g.0,
    so_far.front ++ g.1,
    g.2,
    g.3,
    so_far.begins ∙ ap (λ s. so_far.front ++ s) g.4 ∙ sym (append_assoc so_far.front g.1 g.2),
    g.5,
    so_far.level g.0 (joins.alone g.0 g.6),
    so_far.written g.0 ∙ ap (λ s. so_far.front ++ s) g.7 ∙ sym (append_assoc so_far.front g.1 (symbols_of names g.3)),
  )
