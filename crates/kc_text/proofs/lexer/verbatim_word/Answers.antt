use Rattle.std.proofs.Common.{Ok, sym, ap, ◌∙◌}
use Rattle.kc_text.specs.declared.line.Token.TheVariants.{Word}
use Rattle.kc_text.specs.Lexing.{word, raw_tokens}
use Rattle.kc_text.specs.Scanning.{bytes_of}
use Rattle.kc_text.proofs.TokenLemmas.{shows_first, short_word}
use Rattle.kc_text.proofs.lexer.verbatim_word.Goals as goal

pub returns-in-Some-clause-shows : goal.returns-in-Some-clause-shows
returns-in-Some-clause-shows c = λ names outside.
    let found = c.in-Some in
    let token = short_word names outside found.word.now (sym c.is_short.ensures ∙ c.if-is_short.true) ∙ ap (λ t. Ok (Word t)) (sym c.new.ensures) in
    shows_first names outside (raw_tokens c.args.text.now) found.rest.now (word (bytes_of found.word.now)) _ found.ensures.lexes token
