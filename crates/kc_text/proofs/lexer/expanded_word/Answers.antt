use Rattle.std.proofs.Common.{Ok, cond, ap, sym, ◌∙◌, rules, tests}
use Rattle.std.specs.List.{list_any}
use Rattle.std.proofs.lemmas.Iterator.{YieldsList-from_slice}
use Rattle.std.proofs.lemmas.Iterator.Search.{any_from_yields_List}
use Rattle.kc_text.specs.declared.line.Token.TheVariants.{Word, Expanded}
use Rattle.kc_text.specs.declared.expansion.Piece.{Piece as Part}
use Rattle.kc_text.specs.Expansion.{names_in, texts_in}
use Rattle.kc_text.specs.Scanning.{piece_of, pieces_of}
use Rattle.kc_text.specs.Tokens.{is_reference}
use Rattle.kc_text.proofs.TokenLemmas.{any_reference, word_is}
use Rattle.kc_text.proofs.lexer.expanded_word.Goals as goal

pub returns-then-any : goal.returns-then-any
returns-then-any c =
    let any = any_from_yields_List (λ (part : Part). list_any is_reference (piece_of part)) _ _ _ c.any.ensures.ran (YieldsList-from_slice c.args.pieces.now cc) (λ x b q k. search (rules, tests)) in
    let text = c.in_ok-text.text in
    word_is (names_in c.args.scope.variables.now) (texts_in c.args.scope.outside.now) (pieces_of c.args.pieces.now) (Ok text) c.in_ok-text.ensures
    ∙ ap (λ b. Ok (cond b (Expanded text) (Word text))) (sym (any_reference c.args.pieces.now) ∙ sym any ∙ c.if-any.true)

pub returns : goal.returns
returns c =
    let any = any_from_yields_List (λ (part : Part). list_any is_reference (piece_of part)) _ _ _ c.any.ensures.ran (YieldsList-from_slice c.args.pieces.now cc) (λ x b q k. search (rules, tests)) in
    let text = c.in_ok-text.text in
    word_is (names_in c.args.scope.variables.now) (texts_in c.args.scope.outside.now) (pieces_of c.args.pieces.now) (Ok text) c.in_ok-text.ensures
    ∙ ap (λ b. Ok (cond b (Expanded text) (Word text))) (sym (any_reference c.args.pieces.now) ∙ sym any ∙ c.if-any.false)
