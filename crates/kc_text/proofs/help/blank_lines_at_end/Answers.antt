use Rattle.std.proofs.Common.{◌∙◌, rules, tests}
use Rattle.std.proofs.lemmas.Iterator.Adapters.{YieldsList-from_rev_slice}
use Rattle.kc_text.specs.Help.{is_blank_line}
use Rattle.kc_text.proofs.LineRuns.{suffix_len-map, count-take_while}
use Rattle.kc_text.proofs.help.blank_lines_at_end.Goals as goal

pub returns-clause-count : goal.returns-clause-count
returns-clause-count c =
    let lines = c.args.lines.now in
    count-take_while (λ t. is_blank_line t.now) _ c.count.ensures.ran (YieldsList-from_rev_slice lines cc) c.take_while.ensures.closure c.take_while.ensures.done (λ x b q k. search (rules, tests))
    ∙ suffix_len-map (λ t. t.now) is_blank_line lines
