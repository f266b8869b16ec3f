use Rattle.std.proofs.Common.{◌∷◌, sym, ap, ◌∙◌, refl}
use Rattle.kc_text.specs.Lexing.{operator, raw_tokens}
use Rattle.kc_text.proofs.Lexing.{raw_tokens-operator}
use Rattle.kc_text.proofs.TokenLemmas.{shows_first}
use Rattle.kc_text.proofs.lexer.verbatim_sign.Goals as goal

pub returns-in-Some-clause-shows : goal.returns-in-Some-clause-shows
returns-in-Some-clause-shows c = λ names outside.
    let found = c.in-Some in
    let lexes = raw_tokens-operator c.args.text.now found.operator found.last c.requires.some c.requires.no_blank c.requires.no_word found.ensures.reads
    ∙ ap (λ bs. operator found.operator ∷ raw_tokens bs) (sym c.text_after.ensures) in
    shows_first names outside (raw_tokens c.args.text.now) c.text_after.result.now (operator found.operator) _ lexes refl
