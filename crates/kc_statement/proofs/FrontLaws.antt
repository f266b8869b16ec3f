-- How what stands at the front of symbols is read, one step of the grammar after another.
use Rattle.std.proofs.Common.{◌≡◌, ℕ, zero, suc, Bool, true, false, cond, List, [], ◌∷◌, ◌++◌, replicate, refl, sym, ap, subst, ◌∙◌, ◌+◌, ◌-◌, ◌<◌, ◌≤◌, length, drop, arith}
use Rattle.std.proofs.lemmas.List.{append_assoc, append-nil, replicate_more, length-append, length-map, length-drop}
use Rattle.kc_statement.specs.declared.expr.Term.{Term}
use Rattle.kc_statement.specs.declared.expr.Comparison.{Comparison}
use Rattle.kc_statement.specs.declared.expr.ExprKind.{ExprKind}
use Rattle.kc_text.specs.declared.line.Token.{Token}
use Rattle.kc_statement.specs.Grammar.{symbol_of, Derives, IsNoExpression, Symbol, term, compares, bang, opening, closing, Formula, atom, bare, is_bare_in, compare, negation, group, both, either, Level, factor, expression, IsAt, spelled, negations}
use Rattle.kc_statement.specs.Fronts.{symbols_from, DoesNotBegin, BeginsWithNoTerm, BeginsWithNoComparison, StopsBefore, Begins, IsUnreadable, alone_in}

-- ---- terms and comparisons
-- a term that stands alone is bare or not by its kind
pub alone_atom : (k : ExprKind) (x : Term) → is_bare_in k x ≡ false → atom x ≡ alone_in k x
alone_atom k x e = ap (λ b. cond b (bare x) (atom x)) (sym e)

pub alone_bare : (k : ExprKind) (x : Term) → is_bare_in k x ≡ true → bare x ≡ alone_in k x
alone_bare k x e = ap (λ b. cond b (bare x) (atom x)) (sym e)

-- what it is, by whether it is bare
alone_level : (k : ExprKind) (l : Level) (x : Term) (b : Bool) → is_bare_in k x ≡ b → IsAt k l (cond b (bare x) (atom x))
alone_level k l x true e = e
alone_level k l x false e = e

alone_written : (x : Term) (b : Bool) → term x ∷ [] ≡ spelled (cond b (bare x) (atom x))
alone_written x true = refl
alone_written x false = refl

alone_only : (k : ExprKind) (x : Term) (rest : List Symbol) → BeginsWithNoComparison rest → (g : Formula) (t : List Symbol) →
    IsAt k factor g → StopsBefore factor t → term x ∷ rest ≡ spelled g ++ t → (g ≡ alone_in k x) × (rest ≡ t)
alone_only k x rest none (atom y) t a s e =
    let same : y ≡ x = cc in
    (ap atom same ∙ alone_atom k x (rw same at a), cc)
alone_only k x rest none (bare y) t a s e =
    let same : y ≡ x = cc in
    (ap bare same ∙ alone_bare k x (rw same at a), cc)
alone_only k x rest none (compare c y z) t a s e = absurd (none c (term z ∷ t) (cc))
alone_only k x rest none (negation f) t a s e = absurd (cc)
alone_only k x rest none (group f) t a s e = absurd (cc)
alone_only k x rest none (both f g) t a s e = absurd a
alone_only k x rest none (either f g) t a s e = absurd a

pub begins_alone : (k : ExprKind) (x : Term) (rest : List Symbol) → BeginsWithNoComparison rest → Begins k factor (term x ∷ rest) (alone_in k x) rest
begins_alone k x rest none = record {
  level = alone_level k factor x (is_bare_in k x) refl;
  is = ap (λ (s : List Symbol). s ++ rest) (alone_written x (is_bare_in k x));
  only = alone_only k x rest none;
}

compare_only : (k : ExprKind) (c : Comparison) (x y : Term) (rest : List Symbol) (g : Formula) (t : List Symbol) →
    IsAt k factor g → StopsBefore factor t → term x ∷ compares c ∷ term y ∷ rest ≡ spelled g ++ t → (g ≡ compare c x y) × (rest ≡ t)
compare_only k c x y rest (atom z) t a s e =
    let after : t ≡ compares c ∷ term y ∷ rest = cc in
    absurd (subst (StopsBefore factor) after s)
compare_only k c x y rest (bare z) t a s e =
    let after : t ≡ compares c ∷ term y ∷ rest = cc in
    absurd (subst (StopsBefore factor) after s)
compare_only k c x y rest (compare d z w) t a s e = (cc, cc)
compare_only k c x y rest (negation f) t a s e = absurd (cc)
compare_only k c x y rest (group f) t a s e = absurd (cc)
compare_only k c x y rest (both f g) t a s e = absurd a
compare_only k c x y rest (either f g) t a s e = absurd a

pub begins_compare : (k : ExprKind) (c : Comparison) (x y : Term) (rest : List Symbol) →
    Begins k factor (term x ∷ compares c ∷ term y ∷ rest) (compare c x y) rest
begins_compare k c x y rest = record { level = tt; is = refl; only = compare_only k c x y rest }

pub no_factor : (k : ExprKind) (symbols : List Symbol) → DoesNotBegin bang symbols → DoesNotBegin opening symbols → BeginsWithNoTerm symbols →
    IsUnreadable k factor symbols
no_factor k symbols plain unopened none (atom x) t a s e = none x t e
no_factor k symbols plain unopened none (bare x) t a s e = none x t e
no_factor k symbols plain unopened none (compare c x y) t a s e = none x (compares c ∷ term y ∷ t) e
no_factor k symbols plain unopened none (negation f) t a s e = plain (spelled f ++ t) e
no_factor k symbols plain unopened none (group f) t a s e = unopened ((spelled f ++ closing ∷ []) ++ t) e
no_factor k symbols plain unopened none (both f g) t a s e = a
no_factor k symbols plain unopened none (either f g) t a s e = a

pub no_right_side : (k : ExprKind) (c : Comparison) (x : Term) (rest : List Symbol) → BeginsWithNoTerm rest →
    IsUnreadable k factor (term x ∷ compares c ∷ rest)
no_right_side k c x rest none (atom z) t a s e =
    let after : t ≡ compares c ∷ rest = cc in
    subst (StopsBefore factor) after s
no_right_side k c x rest none (bare z) t a s e =
    let after : t ≡ compares c ∷ rest = cc in
    subst (StopsBefore factor) after s
no_right_side k c x rest none (compare d z w) t a s e = none w t (cc)
no_right_side k c x rest none (negation f) t a s e = absurd (cc)
no_right_side k c x rest none (group f) t a s e = absurd (cc)
no_right_side k c x rest none (both f g) t a s e = a
no_right_side k c x rest none (either f g) t a s e = a

-- ---- parentheses
group_inner : (symbols t : List Symbol) (f : Formula) → opening ∷ symbols ≡ spelled (group f) ++ t → symbols ≡ spelled f ++ closing ∷ t
group_inner symbols t f e =
    let inner : symbols ≡ (spelled f ++ closing ∷ []) ++ t = cc in
    inner ∙ append_assoc (spelled f) (closing ∷ []) t

group_only : (k : ExprKind) (symbols rest : List Symbol) (f : Formula) → Begins k expression symbols f (closing ∷ rest) → (g : Formula) (t : List Symbol) →
    IsAt k factor g → StopsBefore factor t → opening ∷ symbols ≡ spelled g ++ t → (g ≡ group f) × (rest ≡ t)
group_only k symbols rest f b (atom x) t a s e = absurd (cc)
group_only k symbols rest f b (bare x) t a s e = absurd (cc)
group_only k symbols rest f b (compare c x y) t a s e = absurd (cc)
group_only k symbols rest f b (negation g) t a s e = absurd (cc)
group_only k symbols rest f b (group g) t a s e =
    let same = b.only g (closing ∷ t) a tt (group_inner symbols t g e) in
    (ap group same.0, cc)
group_only k symbols rest f b (both g h) t a s e = absurd a
group_only k symbols rest f b (either g h) t a s e = absurd a

pub begins_group : (k : ExprKind) (symbols rest : List Symbol) (f : Formula) → Begins k expression symbols f (closing ∷ rest) →
    Begins k factor (opening ∷ symbols) (group f) rest
begins_group k symbols rest f b = record {
  level = b.level;
  is = ap (λ s. opening ∷ s) (b.is ∙ sym (append_assoc (spelled f) (closing ∷ []) rest));
  only = group_only k symbols rest f b;
}

pub no_inner : (k : ExprKind) (symbols : List Symbol) → IsUnreadable k expression symbols → IsUnreadable k factor (opening ∷ symbols)
no_inner k symbols none (atom x) t a s e = absurd (cc)
no_inner k symbols none (bare x) t a s e = absurd (cc)
no_inner k symbols none (compare c x y) t a s e = absurd (cc)
no_inner k symbols none (negation g) t a s e = absurd (cc)
no_inner k symbols none (group g) t a s e = none g (closing ∷ t) a tt (group_inner symbols t g e)
no_inner k symbols none (both g h) t a s e = a
no_inner k symbols none (either g h) t a s e = a

pub not_closed : (k : ExprKind) (symbols rest : List Symbol) (f : Formula) → Begins k expression symbols f rest → DoesNotBegin closing rest →
    IsUnreadable k factor (opening ∷ symbols)
not_closed k symbols rest f b none (atom x) t a s e = absurd (cc)
not_closed k symbols rest f b none (bare x) t a s e = absurd (cc)
not_closed k symbols rest f b none (compare c x y) t a s e = absurd (cc)
not_closed k symbols rest f b none (negation g) t a s e = absurd (cc)
not_closed k symbols rest f b none (group g) t a s e = none t (b.only g (closing ∷ t) a tt (group_inner symbols t g e)).1
not_closed k symbols rest f b none (both g h) t a s e = a
not_closed k symbols rest f b none (either g h) t a s e = a

-- ---- runs of `!`
negation_only : (k : ExprKind) (symbols rest : List Symbol) (f : Formula) → Begins k factor symbols f rest → (g : Formula) (t : List Symbol) →
    IsAt k factor g → StopsBefore factor t → bang ∷ symbols ≡ spelled g ++ t → (g ≡ negation f) × (rest ≡ t)
negation_only k symbols rest f b (atom x) t a s e = absurd (cc)
negation_only k symbols rest f b (bare x) t a s e = absurd (cc)
negation_only k symbols rest f b (compare c x y) t a s e = absurd (cc)
negation_only k symbols rest f b (negation g) t a s e =
    let same = b.only g t a s (cc) in
    (ap negation same.0, same.1)
negation_only k symbols rest f b (group g) t a s e = absurd (cc)
negation_only k symbols rest f b (both g h) t a s e = absurd a
negation_only k symbols rest f b (either g h) t a s e = absurd a

pub begins_negations : (k : ExprKind) (n : ℕ) (symbols rest : List Symbol) (f : Formula) → Begins k factor symbols f rest →
    Begins k factor (replicate n bang ++ symbols) (negations n f) rest
begins_negations k zero symbols rest f b = b
begins_negations k (suc n) symbols rest f b =
    let inner = begins_negations k n symbols rest f b in
    record {
      level = inner.level;
      is = ap (λ s. bang ∷ s) inner.is;
      only = negation_only k (replicate n bang ++ symbols) rest (negations n f) inner;
    }

no_negation : (k : ExprKind) (symbols : List Symbol) → IsUnreadable k factor symbols → IsUnreadable k factor (bang ∷ symbols)
no_negation k symbols none (atom x) t a s e = absurd (cc)
no_negation k symbols none (bare x) t a s e = absurd (cc)
no_negation k symbols none (compare c x y) t a s e = absurd (cc)
no_negation k symbols none (negation g) t a s e = none g t a s (cc)
no_negation k symbols none (group g) t a s e = absurd (cc)
no_negation k symbols none (both g h) t a s e = a
no_negation k symbols none (either g h) t a s e = a

pub no_negations : (k : ExprKind) (n : ℕ) (symbols : List Symbol) → IsUnreadable k factor symbols → IsUnreadable k factor (replicate n bang ++ symbols)
no_negations k zero symbols none = none
no_negations k (suc n) symbols none = no_negation k (replicate n bang ++ symbols) (no_negations k n symbols none)

pub run_longer : (start position next : ℕ) → {here after : List Symbol} → start ≤ position → next ≡ position + 1 → here ≡ bang ∷ after →
    replicate (position - start) bang ++ here ≡ replicate (next - start) bang ++ after
run_longer start position next {here} {after} from step e =
    let longer : next - start ≡ (position - start) + 1 = omega arith in
    ap (λ s. replicate (position - start) bang ++ s) e ∙ sym (append_assoc (replicate (position - start) bang) (bang ∷ []) after) ∙
    ap (λ s. s ++ after) (replicate_more (position - start) bang) ∙ ap (λ n. replicate n bang ++ after) (sym longer)

-- ---- all of the tokens
pub not_derived : (k : ExprKind) (names : List (List ℕ)) (tokens : List Token) → IsUnreadable k expression (symbols_from names tokens 0) → IsNoExpression k names tokens
not_derived k names tokens none f d = none f [] d.level tt (d.is ∙ sym (append-nil (spelled f)))

pub not_whole : (k : ExprKind) (names : List (List ℕ)) (tokens : List Token) (f : Formula) (end : ℕ) →
    Begins k expression (symbols_from names tokens 0) f (symbols_from names tokens end) → end < length tokens → IsNoExpression k names tokens
not_whole k names tokens f end b within g d =
    let same = b.only g [] d.level tt (d.is ∙ sym (append-nil (spelled g))) in
    absurd (omega (arith, ap length same.1, length-map (drop end tokens) (symbol_of names), length-drop end tokens))

-- ---- one token alone
spelled_some : (f : Formula) → 1 ≤ length (spelled f)
spelled_some (atom x) = omega arith
spelled_some (bare x) = omega arith
spelled_some (compare c x y) = omega arith
spelled_some (negation f) = omega arith
spelled_some (group f) = omega arith
spelled_some (both f g) = simp length-append (omega arith)
spelled_some (either f g) = simp length-append (omega arith)

-- it is a term where it is an expression
lone_atom : (s : Symbol) (f : Formula) → s ∷ [] ≡ spelled f → ((x : Term) → s ≡ term x → ⊥) → ⊥
lone_atom s (atom x) e none = none x (cc)
lone_atom s (bare x) e none = none x (cc)
lone_atom s (compare c x y) e none = absurd (cc)
lone_atom s (negation f) e none = absurd (omega (arith, ap length e, spelled_some f))
lone_atom s (group f) e none = absurd (omega (arith, simp length-append at (ap length e), spelled_some f))
lone_atom s (both f g) e none = absurd (omega (arith, simp length-append at (ap length e), spelled_some f, spelled_some g))
lone_atom s (either f g) e none = absurd (omega (arith, simp length-append at (ap length e), spelled_some f, spelled_some g))

pub lone_none : (k : ExprKind) (names : List (List ℕ)) (token : Token) → ((x : Term) → symbol_of names token ≡ term x → ⊥) → IsNoExpression k names (token ∷ [])
lone_none k names token none f d = lone_atom (symbol_of names token) f d.is none

pub lone_term_is : (k : ExprKind) (names : List (List ℕ)) (token : Token) (x : Term) → symbol_of names token ≡ term x → Derives k names (token ∷ []) (alone_in k x)
lone_term_is k names token x e = record {
  level = alone_level k expression x (is_bare_in k x) refl;
  is = ap (λ s. s ∷ []) e ∙ alone_written x (is_bare_in k x);
}
