use Rattle.std.proofs.Common.{rules, refl, ◌≡◌, ◌==◌, length, ap, ◌∙◌, drop}
use Rattle.kc_statement.specs.declared.keyword.Keyword.TheVariants as keyword
use Rattle.kc_statement.specs.declared.statement.Statement.TheVariants as statement
use Rattle.kc_statement.specs.Statements.{IsPrompt}
use Rattle.kc_statement.proofs.FormOf.{FormOf}
use Rattle.kc_statement.proofs.PartLaws.{part_of, typed_prompt_of}
use Rattle.kc_statement.proofs.statement_forms.read_prompt.Goals as goal

pub returns-clause-part : goal.returns-clause-part
unfolding FormOf
returns-clause-part c = λ is.
    let names = c.args.names.now in
    let tokens = c.after_first.result.now in
    part_of names c.args.line.now tokens (search rules) keyword.Prompt is (IsPrompt names tokens) (λ x. statement.Prompt x) (λ x h. (refl, h)) (λ s h. h) _ c.prompt.ensures.read c.prompt.ensures.mistake

pub returns-clause-typed : goal.returns-clause-typed
returns-clause-typed c = λ kind some is.
    let tokens = c.after_first.result.now in
    let same : tokens ≡ drop 1 c.args.line.now.tokens = (search rules) in
    typed_prompt_of c.args.names.now c.args.line.now tokens same kind is (ap (λ ts. length ts == 0) same ∙ some) _ c.prompt.ensures.read c.prompt.ensures.mistake
