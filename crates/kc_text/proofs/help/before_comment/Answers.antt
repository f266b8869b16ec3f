use Rattle.std.proofs.Common.{◌==◌, ◌∙◌, not, rules, tests, take, ap}
use Rattle.std.proofs.lemmas.Iterator.{YieldsList-from_slice}
use Rattle.kc_text.proofs.LineRuns.{count-take_while}
use Rattle.kc_text.proofs.help.before_comment.Goals as goal

pub returns : goal.returns
returns c =
    let text = c.args.text.now in
    let len = count-take_while (λ b. not (b == 35)) _ c.count-len.ensures.ran (YieldsList-from_slice text cc) c.take_while.ensures.closure c.take_while.ensures.done (λ x b q k. search (rules, tests)) in
    c.split_at.ensures.front ∙ ap (λ n. take n text) len
