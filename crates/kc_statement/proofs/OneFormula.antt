-- Tokens are one expression at most: where one is written out, no other can be read.
use Rattle.std.proofs.Common.{◌≡◌, ℕ, List, [], ◌∷◌, ◌++◌, sym, ap, subst, ◌∙◌}
use Rattle.std.proofs.lemmas.List.{append_assoc, append-nil}
use Rattle.kc_text.specs.declared.line.Token.{Token}
use Rattle.kc_statement.specs.declared.expr.ExprKind.{ExprKind}
use Rattle.kc_statement.specs.declared.tri.Tri.TheVariants.{Yes, No}
use Rattle.kc_statement.specs.declared.expr.Term.TheVariants.{Tri}
use Rattle.kc_statement.specs.Grammar.{Symbol, ampersands, bars, closing, Derives, Formula, atom, bare, compare, negation, group, both, either, Level, factor, part, expression, IsAt, spelled}
use Rattle.kc_statement.specs.Fronts.{BeginsWithNoComparison, StopsBefore, Begins}
use Rattle.kc_statement.proofs.FrontLaws.{alone_atom, alone_bare, begins_alone, begins_compare, begins_group, begins_negations}
use Rattle.kc_statement.proofs.JoinLaws.{Joins, factors_join, parts_join, expression_ends, part_ends, IsPartway, partway_is, partway_start, partway_next, partway_end}

-- ---- a factor is a part, and a part is an expression
part_front : (k : ExprKind) (symbols : List Symbol) (f : Formula) (rest : List Symbol) → Begins k factor symbols f rest → StopsBefore part rest →
    Begins k part symbols f rest
part_front k symbols f rest b stop =
    partway_end k factor part both ampersands (factors_join k) symbols [] symbols (partway_start k part both symbols) (atom (Tri Yes)) f rest b
    (λ after e. subst (StopsBefore part) e stop)

expression_front : (k : ExprKind) (symbols : List Symbol) (f : Formula) (rest : List Symbol) → Begins k part symbols f rest → StopsBefore expression rest →
    Begins k expression symbols f rest
expression_front k symbols f rest b stop =
    partway_end k part expression either bars (parts_join k) symbols [] symbols (partway_start k expression either symbols) (atom (Tri No)) f rest b
    (λ after e. subst (StopsBefore expression) e stop)

factor_at : (k : ExprKind) (l : Level) (symbols : List Symbol) (f : Formula) (rest : List Symbol) → Begins k factor symbols f rest → StopsBefore l rest →
    Begins k l symbols f rest
factor_at k factor symbols f rest b stop = b
factor_at k part symbols f rest b stop = part_front k symbols f rest b stop
factor_at k expression symbols f rest b stop = expression_front k symbols f rest (part_front k symbols f rest b (expression_ends rest stop)) stop

stops_factor : (l : Level) (rest : List Symbol) → StopsBefore l rest → StopsBefore factor rest
stops_factor factor rest stop = stop
stops_factor part rest stop = part_ends rest stop
stops_factor expression rest stop = part_ends rest (expression_ends rest stop)

no_comparison : (l : Level) (rest : List Symbol) → StopsBefore l rest → BeginsWithNoComparison rest
no_comparison l rest stop = λ c after e. subst (StopsBefore factor) e (stops_factor l rest stop)

-- ---- a formula, its sign and what is joined with it
module _ (k : ExprKind) (inner outer : Level) (join : Formula → Formula → Formula) (sign : Symbol) (joins : Joins k inner outer join sign) where
  joined_only : (symbols middle : List Symbol) (f g : Formula) (rest : List Symbol) → IsPartway k outer join symbols (f ∷ []) middle → Begins k outer middle g rest →
      (h : Formula) (t : List Symbol) → IsAt k outer h → StopsBefore outer t → symbols ≡ spelled h ++ t → (h ≡ join f g) × (rest ≡ t)
  joined_only symbols middle f g rest before b h t a s e =
      let read = before.only h t a s e in
      let same = b.only read.0 t read.1 s read.3 in
      (read.2 ∙ ap (join f) same.0, same.1)

  begins_joined : (symbols middle : List Symbol) (f g : Formula) (rest : List Symbol) → Begins k inner symbols f (sign ∷ middle) → Begins k outer middle g rest →
      Begins k outer symbols (join f g) rest
  begins_joined symbols middle f g rest first last =
      let before : IsPartway k outer join symbols (f ∷ []) middle =
      partway_next k inner outer join sign joins symbols [] symbols (partway_start k outer join symbols) f middle first in
      record {
        level = before.level g last.level;
        is = partway_is k outer join symbols (f ∷ []) middle before g rest last.is;
        only = joined_only symbols middle f g rest before last;
      }

-- ---- an expression written out, before what ends it
begins_at : (k : ExprKind) (l : Level) (f : Formula) (rest : List Symbol) (symbols : List Symbol) → symbols ≡ spelled f ++ rest → Begins k l symbols f rest →
    Begins k l (spelled f ++ rest) f rest
begins_at k l f rest symbols e b = subst (λ (s : List Symbol). Begins k l s f rest) e b

pub begins_spelled : (k : ExprKind) (l : Level) (f : Formula) (rest : List Symbol) → IsAt k l f → StopsBefore l rest → Begins k l (spelled f ++ rest) f rest
begins_spelled k l (atom x) rest a stop =
    factor_at k l _ (atom x) rest
    (subst (λ (f : Formula). Begins k factor (spelled (atom x) ++ rest) f rest) (sym (alone_atom k x a)) (begins_alone k x rest (no_comparison l rest stop))) stop
begins_spelled k l (bare x) rest a stop =
    factor_at k l _ (bare x) rest
    (subst (λ (f : Formula). Begins k factor (spelled (bare x) ++ rest) f rest) (sym (alone_bare k x a)) (begins_alone k x rest (no_comparison l rest stop))) stop
begins_spelled k l (compare c x y) rest a stop = factor_at k l _ (compare c x y) rest (begins_compare k c x y rest) stop
begins_spelled k l (negation f) rest a stop =
    let inner = begins_spelled k factor f rest a (stops_factor l rest stop) in
    factor_at k l _ (negation f) rest (begins_negations k 1 (spelled f ++ rest) rest f inner) stop
begins_spelled k l (group f) rest a stop =
    let inner = begins_spelled k expression f (closing ∷ rest) a tt in
    factor_at k l _ (group f) rest
    (begins_at k factor (group f) rest _ (ap (λ (s : List Symbol). Symbol.opening ∷ s) (sym (append_assoc (spelled f) (closing ∷ []) rest))) (begins_group k _ rest f inner))
    stop
begins_spelled k factor (both f g) rest a stop = absurd a
begins_spelled k part (both f g) rest a stop =
    let first = begins_spelled k factor f (ampersands ∷ (spelled g ++ rest)) a.0 tt in
    let last = begins_spelled k part g rest a.1 stop in
    begins_at k part (both f g) rest _ (sym (append_assoc (spelled f) (ampersands ∷ spelled g) rest)) (begins_joined k factor part both ampersands (factors_join k) _ _ f g rest first last)
begins_spelled k expression (both f g) rest a stop =
    let ends = expression_ends rest stop in
    let first = begins_spelled k factor f (ampersands ∷ (spelled g ++ rest)) a.0 tt in
    let last = begins_spelled k part g rest a.1 ends in
    expression_front k _ (both f g) rest
    (begins_at k part (both f g) rest _ (sym (append_assoc (spelled f) (ampersands ∷ spelled g) rest)) (begins_joined k factor part both ampersands (factors_join k) _ _ f g rest first last))
    stop
begins_spelled k factor (either f g) rest a stop = absurd a
begins_spelled k part (either f g) rest a stop = absurd a
begins_spelled k expression (either f g) rest a stop =
    let first = begins_spelled k part f (bars ∷ (spelled g ++ rest)) a.0 tt in
    let last = begins_spelled k expression g rest a.1 stop in
    begins_at k expression (either f g) rest _ (sym (append_assoc (spelled f) (bars ∷ spelled g) rest)) (begins_joined k part expression either bars (parts_join k) _ _ f g rest first last)

-- ---- all of the tokens
pub one_formula : (k : ExprKind) (names : List (List ℕ)) (tokens : List Token) (f g : Formula) → Derives k names tokens f → Derives k names tokens g → f ≡ g
one_formula k names tokens f g d c =
    let front = begins_spelled k expression g [] c.level tt in
    (front.only f [] d.level tt (append-nil (spelled g) ∙ sym c.is ∙ d.is ∙ sym (append-nil (spelled f)))).0
