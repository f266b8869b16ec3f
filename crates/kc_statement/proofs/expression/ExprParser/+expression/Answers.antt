use Rattle.std.proofs.Common.{arith}
use Rattle.kc_statement.specs.Grammar.{factor, part}
use Rattle.kc_statement.proofs.FrontLaws.{begins_group, no_inner, not_closed, begins_negations, no_negations}
use Rattle.kc_statement.proofs.GoesOnLaws.{goes_on_inside, goes_on_closed, goes_on_negations}
use Rattle.kc_statement.proofs.JoinLaws.{factors_join, parts_join, partway_next, partway_end, partway_fails, partway_goes_on}
use Rattle.kc_statement.proofs.MistakeLaws.{passed_on, placed_on, placed_at}
use Rattle.kc_statement.proofs.ShapeLaws.{kept_push}
use Rattle.kc_statement.proofs.expression.ExprParser.+expression.Goals as goal

-- ---- factors joined by `&&`
pub read_all-returns-in_err-factor-clause-mistake : goal.read_all-returns-in_err-factor-clause-mistake
read_all-returns-in_err-factor-clause-mistake t c =
    passed_on _ _ c.from_residual.ensures.1 (partway_fails _ _ _ _ _ (factors_join _) _ _ _ c.factors.invariant.so_far) c.in_err-factor.ensures.mistake

pub read_all-returns-in_err-factor-clause-place : goal.read_all-returns-in_err-factor-clause-place
read_all-returns-in_err-factor-clause-place t c =
    placed_on _ _ c.from_residual.ensures.1 (partway_goes_on _ _ _ _ _ (factors_join _) _ _ _ c.factors.invariant.so_far _) c.in_err-factor.ensures.place

pub read_all-returns-in_default-clause-front : goal.read_all-returns-in_default-clause-front
read_all-returns-in_default-clause-front t c =
    rw c.in_ok-all_of.ensures.joined (partway_end _ _ _ _ _ (factors_join _) _ _ _ c.factors.invariant.so_far _ _ _ c.in_ok-factor.ensures.front c.in_default.ensures.front)

pub read_all-factors-preserved : goal.read_all-factors-preserved
read_all-factors-preserved t c =
    let next = c.in_ok-factor.ensures.front in
    record {
      from = omega (arith, c.in-Some.ensures.next, c.factors.invariant.from, c.in_ok-factor.ensures.further);
      so_far = rw c.in_ok-push.ensures.items (partway_next _ _ _ _ _ (factors_join _) _ _ _ c.factors.invariant.so_far _ _ (rw c.in-Some.ensures.front at next));
      kept = rw c.in_ok-push.ensures.items (kept_push factor c.factors.factors.items _ c.factors.invariant.kept c.in_ok-factor.ensures.shape);
    }

-- ---- parts joined by `||`
pub read_any-returns-in_err-part-clause-mistake : goal.read_any-returns-in_err-part-clause-mistake
read_any-returns-in_err-part-clause-mistake t c =
    passed_on _ _ c.from_residual.ensures.1 (partway_fails _ _ _ _ _ (parts_join _) _ _ _ c.parts.invariant.so_far) c.in_err-part.ensures.mistake

pub read_any-returns-in_err-part-clause-place : goal.read_any-returns-in_err-part-clause-place
read_any-returns-in_err-part-clause-place t c =
    placed_on _ _ c.from_residual.ensures.1 (partway_goes_on _ _ _ _ _ (parts_join _) _ _ _ c.parts.invariant.so_far _) c.in_err-part.ensures.place

pub read_any-returns-in_default-clause-front : goal.read_any-returns-in_default-clause-front
read_any-returns-in_default-clause-front t c =
    rw c.in_ok-any_of.ensures.joined (partway_end _ _ _ _ _ (parts_join _) _ _ _ c.parts.invariant.so_far _ _ _ c.in_ok-part.ensures.front c.in_default.ensures.front)

pub read_any-parts-preserved : goal.read_any-parts-preserved
read_any-parts-preserved t c =
    let next = c.in_ok-part.ensures.front in
    record {
      from = omega (arith, c.in-Some.ensures.next, c.parts.invariant.from, c.in_ok-part.ensures.further);
      so_far = rw c.in_ok-push.ensures.items (partway_next _ _ _ _ _ (parts_join _) _ _ _ c.parts.invariant.so_far _ _ (rw c.in-Some.ensures.front at next));
      kept = rw c.in_ok-push.ensures.items (kept_push part c.parts.parts.items _ c.parts.invariant.kept c.in_ok-part.ensures.shape);
    }

-- ---- factors
pub read_factor-read_plain-requires : goal.read_factor-read_plain-requires
read_factor-read_plain-requires t c =
    (omega (arith, c.decreases, c.after_bangs-plain.ensures.from), c.after_bangs-plain.ensures.plain)

pub read_factor-returns-in_err-expr-clause-mistake : goal.read_factor-returns-in_err-expr-clause-mistake
read_factor-returns-in_err-expr-clause-mistake t c =
    rw (c.after_bangs-plain.ensures.run) (passed_on _ _ c.from_residual.ensures.1 (no_negations _ _ _) c.in_err-expr.ensures.mistake)

pub read_factor-returns-in_err-expr-clause-place : goal.read_factor-returns-in_err-expr-clause-place
read_factor-returns-in_err-expr-clause-place t c =
    rw (c.after_bangs-plain.ensures.run) (placed_on _ _ c.from_residual.ensures.1 (goes_on_negations _ _ _ _) c.in_err-expr.ensures.place)

pub read_factor-returns-clause-front : goal.read_factor-returns-clause-front
read_factor-returns-clause-front t c =
    rw (c.in_ok-negated.ensures.run, c.after_bangs-plain.ensures.run) (begins_negations _ _ _ _ _ c.in_ok-expr.ensures.front)

pub read_plain-read_comparison-requires-clause-unopened : goal.read_plain-read_comparison-requires-clause-unopened
read_plain-read_comparison-requires-clause-unopened t c = c.in_default.ensures.front

pub read_plain-returns-in_err-expr-clause-mistake : goal.read_plain-returns-in_err-expr-clause-mistake
read_plain-returns-in_err-expr-clause-mistake t c =
    rw (c.in-Some.ensures.front) (passed_on _ _ c.from_residual.ensures.1 (no_inner _ _) c.in_err-expr.ensures.mistake)

pub read_plain-returns-in_err-expr-clause-place : goal.read_plain-returns-in_err-expr-clause-place
read_plain-returns-in_err-expr-clause-place t c =
    rw (c.in-Some.ensures.front) (placed_on _ _ c.from_residual.ensures.1 (goes_on_inside _ _ _) c.in_err-expr.ensures.place)

pub read_plain-returns-in_default-after-clause-mistake : goal.read_plain-returns-in_default-after-clause-mistake
read_plain-returns-in_default-after-clause-mistake t c = λ at.
    rw (c.in-Some.ensures.front) (not_closed _ _ _ _ c.in_ok-expr.ensures.front (c.in_default-after.ensures.front))

pub read_plain-returns-in_default-after-clause-place : goal.read_plain-returns-in_default-after-clause-place
read_plain-returns-in_default-after-clause-place t c =
    rw (c.in-Some.ensures.front) (placed_at _ _ _ c.wants.ensures (goes_on_closed _ _ _ _ _ _ c.in_ok-expr.ensures.front c.left.ensures))

pub read_plain-returns-clause-front : goal.read_plain-returns-clause-front
read_plain-returns-clause-front t c =
    let inner = c.in_ok-expr.ensures.front in
    let closed = rw (c.in-Some-after.ensures.front) at inner in
    rw (c.of.ensures, c.in_ok-new.ensures.ok, c.in-Some.ensures.front) (begins_group _ _ _ _ closed)
