use Rattle.std.proofs.Common.{rules, sym, ◌∙◌}
use Rattle.kc_statement.proofs.PartLaws.{alone_says, alone_says_none}
use Rattle.kc_statement.proofs.statement_forms.read_alone.Goals as goal

pub returns : goal.returns
returns c = λ names k s is lone.
    alone_says names c.args.line.now c.after_first-rest.result.now (search rules) k s is lone (sym c.is_empty.ensures ∙ c.if-not-is_empty.false)

pub returns-then-not-is_empty : goal.returns-then-not-is_empty
returns-then-not-is_empty c = λ names k s is lone at.
    alone_says_none names c.args.line.now c.after_first-rest.result.now (search rules) k s is lone (sym c.is_empty.ensures ∙ c.if-not-is_empty.true)
