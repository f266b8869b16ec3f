use Rattle.std.proofs.Common.{◌∷◌, sym, ap, ◌∙◌}
use Rattle.kc_text.specs.Lexing.{operator, raw_tokens}
use Rattle.kc_text.proofs.Lexing.{raw_tokens-operator}
use Rattle.kc_text.proofs.lexer.sign.Goals as goal

pub returns-in-Some-clause-lexes : goal.returns-in-Some-clause-lexes
returns-in-Some-clause-lexes c =
    let found = c.in-Some in
    raw_tokens-operator c.args.text.now found.operator found.last c.requires.some c.requires.no_blank c.requires.no_word found.ensures.reads
    ∙ ap (λ bs. operator found.operator ∷ raw_tokens bs) (sym c.text_after.ensures)
