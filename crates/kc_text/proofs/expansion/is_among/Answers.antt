use Rattle.std.proofs.Common.{List, ℕ, Bor, bytes_eq, ◌∙◌, rules, tests}
use Rattle.std.proofs.lemmas.Iterator.{YieldsList-from_slice}
use Rattle.std.proofs.lemmas.Iterator.Search.{any_from_yields_List}
use Rattle.kc_text.proofs.Expanding.{is_among-names}
use Rattle.kc_text.proofs.expansion.is_among.Goals as goal

pub returns : goal.returns
returns c =
    any_from_yields_List (λ (other : Bor (List ℕ)). bytes_eq c.args.name.now other.now) _ _ _ c.any.ensures.ran (YieldsList-from_slice c.args.others.now cc) (λ x b q k. search (rules, tests))
    ∙ is_among-names c.args.name.now c.args.others.now
