use Rattle.std.proofs.Common.{sym, ◌∙◌}
use Rattle.std.proofs.lemmas.Bool.{false≢true}
use Rattle.kc_how.proofs.answering.in_order.Goals as goal

pub returns-in_ok-sorted : goal.returns-in_ok-sorted
returns-in_ok-sorted c = λ apart. absurd (false≢true (sym c.if-are_apart.false ∙ c.are_apart.ensures.1 apart))
