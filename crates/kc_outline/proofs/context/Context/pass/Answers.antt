use Rattle.std.proofs.Common.{sym, ap, ◌∙◌}
use Rattle.kc_outline.specs.ContextAfter.{blocks_after}
use Rattle.kc_outline.proofs.FormLaws.{defined-form}
use Rattle.kc_outline.proofs.ContextLaws.{IsContextAfter-statement, block_of}
use Rattle.kc_outline.proofs.context.Context.pass.Goals as goal

pub returns-clause-known : goal.returns-clause-known
returns-clause-known c = λ names earlier says known form is.
    let p = c.args.self.now in
    let word = c.in-Some.word in
    let counted = c.count.ensures in
    let symbol = is ∙ sym (defined-form names c.args.line.now says form) in
    IsContextAfter-statement names c.args.line.now earlier p c.count.new.self known word (sym c.requires.keyword ∙ c.in-Some.is)
    (sym c.if-is_attribute.ensures)
    c.args.symbol symbol
    (counted.stack ∙ c.in_ok-pass.ensures ∙ ap (λ b. blocks_after word b p.stack) c.block_opened-block.ensures ∙ ap (λ r. blocks_after word (block_of word p.blocks r p.choices) p.stack) c.run.ensures)
    counted.statement
    (counted.owner ∙ c.made_by-self.ensures)
    counted.definitions counted.blocks counted.choices counted.comments
