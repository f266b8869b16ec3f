use Rattle.std.proofs.Common.{◌∙◌, ◌+◌, ap, arith, drop, nat_lt, sym}
use Rattle.std.specs.List.{prefix_len}
use Rattle.kc_text.specs.LineValue.{LineValue}
use Rattle.kc_line_facts.proofs.SourcedLaws.{below_next}
use Rattle.kc_line_facts.proofs.read_order.passed_below.Goals as goal

pub returns-clause-count : goal.returns-clause-count
returns-clause-count c =
    let lines = c.args.lines.now in
    let number = c.args.number in
    c.numbered_below_from.ensures.count
    ∙ ap (λ p. p + prefix_len (λ (l : LineValue). nat_lt l.number number) (drop p lines)) c.requires.passed
    ∙ sym (below_next (λ (l : LineValue). l.number) lines c.args.last number (omega (arith, c.if-number-last.false)))
