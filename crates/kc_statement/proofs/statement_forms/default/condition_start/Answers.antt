use Rattle.std.proofs.Common.{◌≡◌, ℕ, Option, ap, ◌∙◌, not, codes, length, unwrap_or, arith}
use Rattle.std.proofs.lemmas.List.Sums.{prefix_len-le-length}
use Rattle.kc_statement.specs.Forms.{is_word, condition_start}
use Rattle.kc_statement.proofs.ConditionStart.{position_or_end}
use Rattle.kc_statement.proofs.statement_forms.default.condition_start.Goals as goal

start : (c : goal.After-unwrap_or) → c.unwrap_or.result ≡ condition_start c.args.tokens.now
start c =
    c.unwrap_or.ensures
    ∙ ap (λ (o : Option ℕ). unwrap_or o (length c.args.tokens.now)) c.find_condition.ensures
    ∙ position_or_end (is_word (codes "if")) c.args.tokens.now

pub returns-clause-start : goal.returns-clause-start
returns-clause-start c = start c

pub returns-clause-within : goal.returns-clause-within
returns-clause-within c = omega (arith, start c, prefix_len-le-length (λ t. not (is_word (codes "if") t)) c.args.tokens.now)
