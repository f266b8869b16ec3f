use Rattle.std.proofs.Common.{rules, ◌≡◌, length, refl, sym, ◌∙◌}
use Rattle.kc_statement.proofs.MistakeLaws.{placed_at, placed_through}
use Rattle.kc_statement.proofs.PlacedLaws.{word_anew, word_behind}
use Rattle.kc_statement.proofs.parser.Parser.after_word.Goals as goal

pub returns-in_default-clause-place : goal.returns-in_default-clause-place
returns-in_default-clause-place c =
    let none : 0 ≡ length c.args.tokens.now = (search rules) in
    placed_at _ _ _ c.wants.ensures (word_anew _ _ _ _ none)

pub returns-then-not-is_word-clause-place : goal.returns-then-not-is_word-clause-place
returns-then-not-is_word-clause-place c = placed_at _ _ _ c.wants-then-not-is_word.ensures (word_anew _ _ _ _ refl)

pub returns-clause-place : goal.returns-clause-place
returns-clause-place c =
    placed_through _ (word_behind c.args.self.now.names.now c.args.tokens.now c.args.word.now c.in-Some.first.now c.in-Some.rest.now c.in-Some.ensures.cases.0 (sym c.is_word.ensures ∙ c.if-not-is_word.false)) c.expression.ensures.place
