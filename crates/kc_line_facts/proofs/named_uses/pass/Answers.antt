use Rattle.std.proofs.Common.{◌∙◌, Some, ap, bytes_eq, cond}
use Rattle.std.specs.BTreeMap.{get_by}
use Rattle.std.specs.Cmp.Lexicographic.{slice_cmp}
use Rattle.std.specs.Ordering.{nat_cmp}
use Rattle.std.proofs.lemmas.Map.Text.{btree_map_updates_str}
use Rattle.kc_line_facts.specs.DoubtfulNames.{passed_after}
use Rattle.kc_line_facts.proofs.named_uses.pass.Goals as goal

pub returns-clause-passed : goal.returns-clause-passed
returns-clause-passed c = λ q.
    let name = c.args.name.now in
    let names = c.args.names.now in
    btree_map_updates_str name names c.insert.new.self _ c.in_ok-insert.ensures.updates q
    ∙ ap (λ p. cond (bytes_eq name q) (Some p) (get_by (λ k. slice_cmp nat_cmp q k.now) names))
    (c.passed_after.ensures ∙ ap (λ e. passed_after e c.args.place) (c.copied-earlier.ensures ∙ c.get.ensures.value))
