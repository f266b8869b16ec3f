use Rattle.std.proofs.Common.{rules, tests}
use Rattle.std.proofs.lemmas.Iterator.{YieldsList-from_slice, YieldsList-from_map_by}
use Rattle.std.proofs.lemmas.Iterator.Consumers.{YieldsList-at, YieldsList-from_filter, map_from_collect}
use Rattle.kc_folder.specs.PathsRead.{end_of, is_end, shown}
use Rattle.kc_folder.proofs.read_paths.ends_of.Goals as goal

pub returns : goal.returns
returns c =
    map_from_collect _ c.collect.ensures.ran (YieldsList-from_map_by _ shown end_of
    (YieldsList-at c.map.ensures.source (YieldsList-from_filter _ is_end
    (YieldsList-at c.filter.ensures.source (YieldsList-from_slice c.args.lines.now cc)) c.filter.ensures.closure (λ x b q k. search (rules, tests))))
    c.map.ensures.closure (λ x r q k. search (rules, tests)))
