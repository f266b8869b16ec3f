use Rattle.kc_statement.proofs.ConditionStart.{no_default, no_default_condition}
use Rattle.kc_statement.proofs.MistakeLaws.{passed_on, placed_on, front_mistaken, front_placed}
use Rattle.kc_statement.proofs.PlacedLaws.{value_goes_on, value_behind, split_whole}
use Rattle.kc_statement.proofs.parser.Parser.default_value.Goals as goal

pub returns-in-Err-clause-mistake : goal.returns-in-Err-clause-mistake
returns-in-Err-clause-mistake c = λ at.
    no_default c.args.self.now.names.now c.args.tokens.now c.split_at.result.0.now c.condition_start.result c.condition_start.ensures.start c.split_at.ensures.front
    (c.in-Err.ensures.mistake (front_mistaken _ _ _ _ c.of_front.ensures at))

pub returns-in_err-condition-clause-mistake : goal.returns-in_err-condition-clause-mistake
returns-in_err-condition-clause-mistake c =
    passed_on _ _ c.from_residual.ensures.1
    (no_default_condition c.args.self.now.names.now c.args.tokens.now c.split_at.result.1.now c.condition_start.result c.condition_start.ensures.start c.split_at.ensures.back)
    c.in_err-condition.ensures.mistake

pub returns-in-Err-clause-place : goal.returns-in-Err-clause-place
returns-in-Err-clause-place c =
    let tokens = c.args.tokens.now in
    let front = c.split_at.result.0.now in
    let rest = c.split_at.result.1.now in
    front_placed _ _ _ _ _ _ c.of_front.ensures
    (value_goes_on c.args.self.now.names.now tokens front rest (split_whole c.condition_start.result tokens front rest c.split_at.ensures.front c.split_at.ensures.back)) c.in-Err.ensures.place

pub returns-in_err-condition-clause-place : goal.returns-in_err-condition-clause-place
returns-in_err-condition-clause-place c =
    let tokens = c.args.tokens.now in
    let front = c.split_at.result.0.now in
    let rest = c.split_at.result.1.now in
    placed_on _ _ c.from_residual.ensures.1
    (value_behind c.args.self.now.names.now tokens front rest c.in-Ok.value (split_whole c.condition_start.result tokens front rest c.split_at.ensures.front c.split_at.ensures.back) c.in-Ok.ensures.read)
    c.in_err-condition.ensures.place
