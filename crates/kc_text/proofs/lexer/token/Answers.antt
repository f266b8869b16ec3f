use Rattle.std.proofs.Common.{ℕ, List, Bor, Ok, ap, sym, ◌∙◌}
use Rattle.std.proofs.lemmas.Result.{err_from_is_err_and}
use Rattle.kc_text.specs.declared.line.Token.{Token}
use Rattle.kc_text.specs.declared.line.Token.TheVariants.{Word, Quoted}
use Rattle.kc_text.specs.Expansion.{names_in, texts_in}
use Rattle.kc_text.specs.Scanning.{raw_of}
use Rattle.kc_text.specs.Tokens.{token_of}
use Rattle.kc_text.proofs.TokenLemmas.{plain_word, plain_quoted, fault_along}
use Rattle.kc_text.proofs.lexer.token.Goals as goal

pub returns-in_err-plain_text-in-Word : goal.returns-in_err-plain_text-in-Word
returns-in_err-plain_text-in-Word c =
    let names = names_in c.args.scope.variables.now in
    let outside = texts_in c.args.scope.outside.now in
    let p = err_from_is_err_and c.from_residual.result c.from_residual.ensures.1 in
    rw (p.1, p.2) (fault_along (λ (s : Bor (List ℕ)). s.now) (λ (t : Token). t) c.in_err-plain_text-in-Word.field-0.0 _ _
    (λ problem e. ap (λ raw. token_of names outside (raw_of raw)) c.in-Word.is ∙ plain_word names outside c.in-Word.text.now _ e)
    c.in_err-plain_text-in-Word.ensures)

pub returns-in_err-plain_text-in-Quoted : goal.returns-in_err-plain_text-in-Quoted
returns-in_err-plain_text-in-Quoted c =
    let names = names_in c.args.scope.variables.now in
    let outside = texts_in c.args.scope.outside.now in
    let p = err_from_is_err_and c.from_residual-in_err-plain_text-in-Quoted.result c.from_residual-in_err-plain_text-in-Quoted.ensures.1 in
    rw (p.1, p.2) (fault_along (λ (s : Bor (List ℕ)). s.now) (λ (t : Token). t) c.in_err-plain_text-in-Quoted.field-0.0 _ _
    (λ problem e. ap (λ raw. token_of names outside (raw_of raw)) c.in-Quoted.is ∙ plain_quoted names outside c.in-Quoted.text.now _ e)
    c.in_err-plain_text-in-Quoted.ensures)

pub returns-in_ok-plain_text-in-Word : goal.returns-in_ok-plain_text-in-Word
returns-in_ok-plain_text-in-Word c =
    let names = names_in c.args.scope.variables.now in
    let outside = texts_in c.args.scope.outside.now in
    ap (λ raw. token_of names outside (raw_of raw)) c.in-Word.is
    ∙ plain_word names outside c.in-Word.text.now _ c.in_ok-plain_text-in-Word.ensures ∙ ap (λ t. Ok (Word t)) (sym c.new.ensures)

pub returns-in_ok-plain_text-in-Quoted : goal.returns-in_ok-plain_text-in-Quoted
returns-in_ok-plain_text-in-Quoted c =
    let names = names_in c.args.scope.variables.now in
    let outside = texts_in c.args.scope.outside.now in
    ap (λ raw. token_of names outside (raw_of raw)) c.in-Quoted.is
    ∙ plain_quoted names outside c.in-Quoted.text.now _ c.in_ok-plain_text-in-Quoted.ensures ∙ ap (λ t. Ok (Quoted t)) (sym c.new-in-Quoted.ensures)
