use Rattle.std.proofs.Common.{◌∙◌, ap}
use Rattle.std.specs.BTreeMap.{get_by}
use Rattle.std.specs.Cmp.Lexicographic.{slice_cmp}
use Rattle.std.specs.Option.{option_map_or}
use Rattle.std.specs.Ordering.{nat_cmp}
use Rattle.std.proofs.Common.{bytes_eq, true, false}
use Rattle.std.proofs.lemmas.Map.Text.{btree_map_updates_str}
use Rattle.kc_line_facts.proofs.FreshLaws.{noted_by}
use Rattle.kc_line_facts.proofs.unknown_names.note.Goals as goal

pub returns-clause-noted : goal.returns-clause-noted
returns-clause-noted c = λ q.
    let name = c.args.name.now in
    let names = c.args.noted.now in
    ap (λ o. option_map_or (λ _. true) o false) (btree_map_updates_str name names c.insert.new.self _ c.in_ok-insert.ensures.updates q)
    ∙ noted_by (bytes_eq name q) _ (get_by (λ k. slice_cmp nat_cmp q k.now) names)
