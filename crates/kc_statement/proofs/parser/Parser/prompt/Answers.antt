use Rattle.std.proofs.Common.{rules, ◌≡◌, Some, length, refl}
use Rattle.kc_statement.specs.Forms.{quoted_text}
use Rattle.kc_statement.proofs.MistakeLaws.{placed_on, placed_at}
use Rattle.kc_statement.proofs.PlacedLaws.{prompt_anew, prompt_behind}
use Rattle.kc_statement.proofs.parser.Parser.prompt.Goals as goal

pub returns-in_default-clause-place : goal.returns-in_default-clause-place
returns-in_default-clause-place c =
    let none : 0 ≡ length c.args.tokens.now = (search rules) in
    placed_at _ _ _ c.wants.ensures (prompt_anew _ _ _ none)

pub returns-in_default-quoted_text-clause-place : goal.returns-in_default-quoted_text-clause-place
returns-in_default-quoted_text-clause-place c = placed_at _ _ _ c.wants-in_default-quoted_text.ensures (prompt_anew _ _ _ refl)

pub returns-in_err-condition-clause-place : goal.returns-in_err-condition-clause-place
returns-in_err-condition-clause-place c =
    let is : quoted_text c.in-Some.first.now ≡ Some c.in-Some-quoted_text.text = (search rules) in
    placed_on _ _ c.from_residual.ensures.1 (prompt_behind c.args.self.now.names.now c.args.tokens.now _ _ _ c.in-Some.ensures.cases.0 is) c.in_err-condition.ensures.place
