use Rattle.std.proofs.Common.{map, ap, ◌∙◌}
use Rattle.std.proofs.lemmas.List.{length-replicate}
use Rattle.kc_value.specs.GivenValues.{seen}
use Rattle.kc_value.proofs.GivenLemmas.{none_placed, nothing_seen}
use Rattle.kc_value.proofs.given_values.GivenValues.empty.Goals as goal

pub invariant_of-result : goal.invariant_of-result
invariant_of-result c =
    let all = c.in_ok-vec.ensures.items_if_clones_equal (λ y e. e) in
    (rw (all, c.in_ok-with_capacity.ensures.items) (none_placed c.args.count c.requires), rw (all, length-replicate) c.in_ok-with_capacity.ensures.capacity)

pub returns : goal.returns
returns c = ap (map (seen _)) (c.in_ok-vec.ensures.items_if_clones_equal (λ y e. e)) ∙ nothing_seen _ c.args.count
