use Rattle.std.proofs.Common.{List, Ok, ap, sym, ◌∙◌, rules}
use Rattle.std.proofs.lemmas.Result.{err_from_is_err_and}
use Rattle.kc_text.specs.declared.line.Token.{Token}
use Rattle.kc_text.specs.Expansion.{names_in, texts_in}
use Rattle.kc_text.specs.Tokens.{ahead, line_tokens}
use Rattle.kc_text.proofs.TokenLemmas.{ahead-none, ahead-push, fault_ahead, shows_some, shows_none}
use Rattle.kc_text.proofs.lexer.tokens.Goals as goal

pub returns-in_err-token : goal.returns-in_err-token
returns-in_err-token c =
    let found = line_tokens (names_in c.args.scope.variables.now) (texts_in c.args.scope.outside.now) in
    let p = err_from_is_err_and c.from_residual.result c.from_residual.ensures.1 in
    rw (p.1, p.2) (fault_ahead c.in_err-token.field-0.0 c.loop-token.gathered.items (found c.args.begun.line.now) (found c.loop-token.rest.now) c.loop-token.invariant.found c.in_err-token.ensures.fault)

pub loop-token-preserved : goal.loop-token-preserved
loop-token-preserved c =
    let found = line_tokens (names_in c.args.scope.variables.now) (texts_in c.args.scope.outside.now) in
    let gathered = c.loop-token.gathered.items in
    let token = c.in-Some.token in
    let after = c.in-Some.after in
    record {
      utf8 = search rules;
      found =
          c.loop-token.invariant.found ∙ ap (ahead gathered) (shows_some found c.loop-token.rest.now c.in_ok-token.field-0 token after c.in-Some.is c.in_ok-token.ensures.shows)
          ∙ sym (ahead-push gathered token (found after.now))
          ∙ ap (λ ts. ahead ts (found after.now)) (sym {A = List Token} c.in_ok-push.ensures.items);
    }

pub returns : goal.returns
returns c =
    let found = line_tokens (names_in c.args.scope.variables.now) (texts_in c.args.scope.outside.now) in
    let gathered = c.loop-token.gathered.items in
    c.loop-token.invariant.found
    ∙ ap (ahead gathered) (shows_none found c.loop-token.rest.now c.in_ok-token.field-0 c.in_default.is c.in_ok-token.ensures.none)
    ∙ ahead-none gathered
    ∙ ap Ok (sym {A = List Token} c.in_ok-kept_tokens.ensures)
    ∙ ap Ok (sym {A = List Token} c.new.ensures)
