use Rattle.std.proofs.Common.{◌≡◌, length, sym, ◌∙◌, arith}
use Rattle.std.proofs.lemmas.Bool.Decides.{nat_tests}
use Rattle.kc_text.proofs.References.{value_pieces-plain}
use Rattle.kc_text.proofs.expansion.has_no_dollar.Goals as goal

pub returns : goal.returns
returns c = λ all.
    let text = c.args.text.now in
    let whole : c.plain_len.result ≡ length text = grind (arith, nat_tests, all) in
    value_pieces-plain text (sym c.plain_len.ensures.count ∙ whole)
