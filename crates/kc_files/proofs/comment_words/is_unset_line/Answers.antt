use Rattle.std.proofs.Common.{◌∙◌, false, ap, rules, tests}
use Rattle.std.specs.List.{list_all}
use Rattle.std.specs.Option.{option_map_or}
use Rattle.std.proofs.lemmas.Iterator.{YieldsList-from_slice}
use Rattle.std.proofs.lemmas.Iterator.Search.{all_from_yields_List}
use Rattle.kc_files.specs.ConfigLines.{is_trailing}
use Rattle.kc_files.proofs.comment_words.is_unset_line.Goals as goal

pub returns-in-Some : goal.returns-in-Some
returns-in-Some c =
    all_from_yields_List is_trailing _ _ _ c.all.ensures.ran (YieldsList-from_slice c.in-Some.rest.now cc) (λ x b q k. search (rules, tests))
    ∙ ap (λ o. option_map_or (list_all is_trailing) o false) c.in-Some.ensures
