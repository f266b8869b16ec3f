use Rattle.std.proofs.Common.{Some, ap, sym, refl, ◌∙◌, arith}
use Rattle.kc_text.specs.Expansion.{counted, names_in, put, start, texts_in}
use Rattle.kc_text.specs.References.{value_pieces}
use Rattle.kc_text.specs.Scanning.{bytes_of}
use Rattle.kc_text.proofs.Expanding.{followed_plain}
use Rattle.kc_text.proofs.expansion.plain_meaning.Goals as goal

pub returns-in-Recursive : goal.returns-in-Recursive
returns-in-Recursive c =
    let text = c.in-Recursive.text in
    let plain = ap value_pieces (sym c.as_str.ensures) ∙ c.has_no_dollar.ensures c.if-has_no_dollar.true ∙ ap bytes_of c.as_str.ensures in
    followed_plain (names_in c.args.scope.variables.now) (texts_in c.args.scope.outside.now) c.args.name.now start text (c.in-Some.ensures ∙ ap Some c.in-Recursive.is) (omega arith) 64 63 refl plain
    ∙ ap (λ t. put t (counted start)) (sym c.as_str-in-Recursive.ensures)
