use Rattle.kc_text.proofs.FirstWords.{word_defines}
use Rattle.kc_text.proofs.lexer.plain_token.Goals as goal

pub returns-then-begins_word-clause-defines : goal.returns-then-begins_word-clause-defines
returns-then-begins_word-clause-defines c = word_defines c.args.line.now c.behind_blanks-text.result.now c.behind_blanks-text.ensures.value c.verbatim_word.result c.verbatim_word.ensures.rest
