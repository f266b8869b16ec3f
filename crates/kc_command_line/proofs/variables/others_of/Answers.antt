use Rattle.std.proofs.Common.{is_none, rules, tests}
use Rattle.std.proofs.lemmas.Iterator.{YieldsList-from_slice, items_from_collect}
use Rattle.std.proofs.lemmas.Iterator.Consumers.{YieldsList-at, YieldsList-from_copied, YieldsList-from_filter}
use Rattle.kc_command_line.specs.Variables.{variable_of}
use Rattle.kc_command_line.proofs.variables.others_of.Goals as goal

pub returns : goal.returns
returns c =
    items_from_collect _ c.collect.ensures.ran (YieldsList-from_filter _ (λ word. is_none (variable_of word.now))
    (YieldsList-at c.filter.ensures.source (YieldsList-from_copied (YieldsList-from_slice c.args.words.now cc))) c.filter.ensures.closure (λ x b q k. search (rules, tests)))
