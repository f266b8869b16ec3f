use Rattle.std.proofs.Common.{sym, ◌∙◌}
use Rattle.kc_statement.proofs.ConditionStart.{no_condition}
use Rattle.kc_statement.proofs.MistakeLaws.{passed_on, placed_on}
use Rattle.kc_statement.proofs.PlacedLaws.{condition_goes_on}
use Rattle.kc_statement.proofs.parser.Parser.condition.Goals as goal

pub returns-in_err-condition-clause-mistake : goal.returns-in_err-condition-clause-mistake
returns-in_err-condition-clause-mistake c =
    passed_on _ _ c.from_residual.ensures.1 (no_condition c.args.self.now.names.now c.args.tokens.now (sym c.is_empty.ensures ∙ c.if-is_empty.false)) c.in_err-condition.ensures.mistake

pub returns-in_err-condition-clause-place : goal.returns-in_err-condition-clause-place
returns-in_err-condition-clause-place c = placed_on _ _ c.from_residual.ensures.1 (condition_goes_on c.args.self.now.names.now c.args.tokens.now) c.in_err-condition.ensures.place
