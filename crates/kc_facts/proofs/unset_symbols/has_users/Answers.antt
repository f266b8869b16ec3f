use Rattle.std.proofs.Common.{◌≡◌, ◌∙◌, refl, rules, tests}
use Rattle.std.specs.List.{list_any}
use Rattle.std.proofs.lemmas.Iterator.Consumers.{YieldsList-from_first}
use Rattle.std.proofs.lemmas.Iterator.Search.{any_from_yields_List}
use Rattle.kc_facts.specs.Unset.{is_other}
use Rattle.kc_facts.proofs.UnsetLaws.{used_known}
use Rattle.kc_facts.proofs.unset_symbols.has_users.Goals as goal

pub returns : goal.returns
returns c =
    let s = c.args.symbol in
    let among : c.any.result ≡ list_any (is_other s) c.used_by.result =
    any_from_yields_List (is_other s) _ _ c.any.result c.any.ensures.ran (YieldsList-from_first (λ x. x) (λ left. left) c.used_by.result refl)
    (λ x b q k. search (rules, tests)) in
    among ∙ used_known c.args.tree.now s c.used_by.result c.used_by.ensures.exact
