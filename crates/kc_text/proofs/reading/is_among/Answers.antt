use Rattle.std.proofs.Common.{◌∙◌, rules, tests}
use Rattle.std.specs.Str.{bytes_eq}
use Rattle.std.proofs.lemmas.Iterator.{YieldsList-from_slice}
use Rattle.std.proofs.lemmas.Iterator.Search.{any_from_yields_List}
use Rattle.kc_text.proofs.Nesting.{is_among-names_of}
use Rattle.kc_text.proofs.reading.is_among.Goals as goal

pub returns : goal.returns
returns c =
    any_from_yields_List (λ path. bytes_eq c.args.wanted.now path.now) _ _ _ c.any.ensures.ran (YieldsList-from_slice c.args.paths.now cc) (λ x b q k. search (rules, tests))
    ∙ is_among-names_of c.args.wanted.now c.args.paths.now
