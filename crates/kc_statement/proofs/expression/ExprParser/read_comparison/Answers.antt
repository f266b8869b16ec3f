use Rattle.kc_statement.proofs.FrontLaws.{no_factor, begins_alone, begins_compare, no_right_side}
use Rattle.kc_statement.proofs.GoesOnLaws.{goes_on_with_term, goes_on_with_side}
use Rattle.kc_statement.proofs.MistakeLaws.{passed_on, placed_on}
use Rattle.kc_statement.proofs.expression.ExprParser.read_comparison.Goals as goal

pub returns-in_err-left-clause-mistake : goal.returns-in_err-left-clause-mistake
returns-in_err-left-clause-mistake c =
    passed_on _ _ c.from_residual.ensures.1 (no_factor _ _ c.requires.plain c.requires.unopened) c.in_err-left.ensures.mistake

pub returns-in_err-left-clause-place : goal.returns-in_err-left-clause-place
returns-in_err-left-clause-place c =
    placed_on _ _ c.from_residual.ensures.1 (goes_on_with_term _ _ _) c.in_err-left.ensures.place

pub returns-in_default-clause-front : goal.returns-in_default-clause-front
returns-in_default-clause-front c =
    rw (c.alone.ensures.formula, c.in_ok-left.ensures.front) (begins_alone _ _ _ c.in_default.ensures.front)

pub returns-in_err-right-clause-mistake : goal.returns-in_err-right-clause-mistake
returns-in_err-right-clause-mistake c =
    rw (c.in_ok-left.ensures.front, c.in-Some.ensures.front) (passed_on _ _ c.from_residual-in_err-right.ensures.1 (no_right_side _ _ _ _) c.in_err-right.ensures.mistake)

pub returns-in_err-right-clause-place : goal.returns-in_err-right-clause-place
returns-in_err-right-clause-place c =
    rw (c.in_ok-left.ensures.front, c.in-Some.ensures.front) (placed_on _ _ c.from_residual-in_err-right.ensures.1 (goes_on_with_side _ _ _ _ _) c.in_err-right.ensures.place)

pub returns-clause-front : goal.returns-clause-front
returns-clause-front c =
    rw (c.of.ensures, c.in_ok-operands.ensures.ok, c.in_ok-left.ensures.front, c.in-Some.ensures.front, c.in_ok-right.ensures.front) (begins_compare _ _ _ _ _)
