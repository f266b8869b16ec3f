use Rattle.kc_statement.proofs.FrontLaws.{not_derived, not_whole}
use Rattle.kc_statement.proofs.MistakeLaws.{passed_on, placed_on, placed_at}
use Rattle.kc_statement.proofs.PlacedLaws.{expression_goes_on, expression_ends}
use Rattle.kc_statement.proofs.parser.Parser.expression.Goals as goal

pub returns-in_err-expr-clause-mistake : goal.returns-in_err-expr-clause-mistake
returns-in_err-expr-clause-mistake c = passed_on _ _ c.from_residual.ensures.1 (not_derived _ _ _) c.in_err-expr.ensures.mistake

pub returns-then-end-tokens-clause-mistake : goal.returns-then-end-tokens-clause-mistake
returns-then-end-tokens-clause-mistake c = λ at. not_whole _ _ _ _ _ c.in_ok-expr.ensures.front c.if-end-tokens.true

pub returns-in_err-expr-clause-place : goal.returns-in_err-expr-clause-place
returns-in_err-expr-clause-place c = placed_on _ _ c.from_residual.ensures.1 (expression_goes_on _ _ _) c.in_err-expr.ensures.place

pub returns-then-end-tokens-clause-place : goal.returns-then-end-tokens-clause-place
returns-then-end-tokens-clause-place c =
    placed_at _ _ _ c.wants.ensures (expression_goes_on _ _ _ _ (expression_ends _ _ _ _ _ _ c.in_ok-expr.ensures.front c.left.ensures))
