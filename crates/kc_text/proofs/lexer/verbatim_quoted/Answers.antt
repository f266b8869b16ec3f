use Rattle.std.proofs.Common.{[], Ok, sym, ap, ◌∙◌}
use Rattle.kc_text.specs.declared.line.Token.TheVariants.{Quoted}
use Rattle.kc_text.specs.Lexing.{in_quotes, lexed, quoted}
use Rattle.kc_text.specs.Scanning.{bytes_of}
use Rattle.kc_text.proofs.TokenLemmas.{shows_first, short_quoted}
use Rattle.kc_text.proofs.lexer.verbatim_quoted.Goals as goal

pub returns-in-Some-clause-shows : goal.returns-in-Some-clause-shows
returns-in-Some-clause-shows c = λ names outside.
    let found = c.in-Some in
    let token = short_quoted names outside found.front.now (sym c.is_short.ensures ∙ c.if-is_short.true) ∙ ap (λ t. Ok (Quoted t)) (sym c.new.ensures) in
    shows_first names outside (lexed 0 (in_quotes c.args.quote []) c.args.text.now) found.rest.now (quoted (bytes_of found.front.now)) _ found.ensures.lexes token
