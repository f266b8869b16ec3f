use Rattle.std.proofs.Common.{rules, tests}
use Rattle.std.proofs.lemmas.Iterator.{YieldsList-from_slice}
use Rattle.std.proofs.lemmas.Iterator.Consumers.{YieldsList-at, YieldsList-from_filter, map_from_collect}
use Rattle.kc_line_facts.specs.UnusedDefaults.{is_end}
use Rattle.kc_line_facts.proofs.read_again.ends_of.Goals as goal

pub returns : goal.returns
returns c =
    map_from_collect _ c.collect.ensures.ran
    (YieldsList-from_filter _ is_end
    (YieldsList-at c.filter.ensures.source (YieldsList-from_slice c.args.lines.now cc)) c.filter.ensures.closure (λ x b q k. search (rules, tests)))
