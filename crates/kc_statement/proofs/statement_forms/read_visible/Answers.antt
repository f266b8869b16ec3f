use Rattle.std.proofs.Common.{rules, refl, codes}
use Rattle.kc_statement.specs.declared.keyword.Keyword.TheVariants as keyword
use Rattle.kc_statement.specs.declared.statement.Statement.TheVariants as statement
use Rattle.kc_statement.specs.Statements.{IsWordAndCondition}
use Rattle.kc_statement.proofs.FormOf.{FormOf}
use Rattle.kc_statement.proofs.PartLaws.{part_of}
use Rattle.kc_statement.proofs.statement_forms.read_visible.Goals as goal

pub returns : goal.returns
unfolding FormOf
returns c =
    let names = c.args.names.now in
    let tokens = c.after_first.result.now in
    part_of names c.args.line.now tokens (search rules) keyword.Visible c.requires (IsWordAndCondition names (codes "if") tokens) (λ x. statement.VisibleIf x) (λ x h. (refl, h)) (λ s h. h) _ c.after_word.ensures.read c.after_word.ensures.mistake
