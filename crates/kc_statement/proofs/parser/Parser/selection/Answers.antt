use Rattle.std.proofs.Common.{rules, ◌≡◌, Some, length, refl}
use Rattle.kc_statement.specs.Names.{name_word}
use Rattle.kc_statement.proofs.MistakeLaws.{placed_on, placed_at}
use Rattle.kc_statement.proofs.PlacedLaws.{selection_anew, selection_behind}
use Rattle.kc_statement.proofs.parser.Parser.selection.Goals as goal

pub returns-in_default-clause-place : goal.returns-in_default-clause-place
returns-in_default-clause-place c =
    let none : 0 ≡ length c.args.tokens.now = (search rules) in
    placed_at _ _ _ c.wants.ensures (selection_anew _ _ _ none)

pub returns-in_default-name_word-clause-place : goal.returns-in_default-name_word-clause-place
returns-in_default-name_word-clause-place c = placed_at _ _ _ c.wants-in_default-name_word.ensures (selection_anew _ _ _ refl)

pub returns-in_err-condition-clause-place : goal.returns-in_err-condition-clause-place
returns-in_err-condition-clause-place c =
    let is : name_word c.in-Some.first.now ≡ Some c.in-Some-name_word.name = (search rules) in
    placed_on _ _ c.from_residual.ensures.1 (selection_behind c.args.self.now.names.now c.args.tokens.now _ _ _ c.in-Some.ensures.cases.0 is) c.in_err-condition.ensures.place
