use Rattle.std.proofs.Common.{rules, refl}
use Rattle.kc_statement.specs.declared.keyword.Keyword.TheVariants as keyword
use Rattle.kc_statement.specs.declared.statement.Statement.TheVariants as statement
use Rattle.kc_statement.specs.Statements.{IsQuoted}
use Rattle.kc_statement.proofs.FormOf.{FormOf}
use Rattle.kc_statement.proofs.PartLaws.{part_of}
use Rattle.kc_statement.proofs.statement_forms.read_title.Goals as goal

pub returns-clause-menu : goal.returns-clause-menu
unfolding FormOf
returns-clause-menu c = λ is.
    let names = c.args.names.now in
    let tokens = c.after_first.result.now in
    part_of names c.args.line.now tokens (search rules) keyword.Menu is (IsQuoted tokens) (λ x. statement.Menu x) (λ x h. (refl, h)) (λ s h. h) _ c.title.ensures.read c.title.ensures.mistake

pub returns-clause-comment : goal.returns-clause-comment
unfolding FormOf
returns-clause-comment c = λ is.
    let names = c.args.names.now in
    let tokens = c.after_first.result.now in
    part_of names c.args.line.now tokens (search rules) keyword.Comment is (IsQuoted tokens) (λ x. statement.Comment x) (λ x h. (refl, h)) (λ s h. h) _ c.title.ensures.read c.title.ensures.mistake

pub returns-clause-main : goal.returns-clause-main
unfolding FormOf
returns-clause-main c = λ is.
    let names = c.args.names.now in
    let tokens = c.after_first.result.now in
    part_of names c.args.line.now tokens (search rules) keyword.MainMenu is (IsQuoted tokens) (λ x. statement.MainMenu) (λ x h. (refl, x, h)) (λ s h. h) _ c.title.ensures.read c.title.ensures.mistake
