use Rattle.std.proofs.Common.{◌≡◌, ◌<◌, ◌^◌, ℕ, None, length, map, replicate, ap, ◌∙◌, vec_len, arith}
use Rattle.std.proofs.lemmas.List.{length-map, length-replicate}
use Rattle.kc_value.specs.GivenValues.{place_of, seen}
use Rattle.kc_value.proofs.GivenLemmas.{none_placed, nothing_seen}
use Rattle.kc_value.proofs.given_values.GivenValues.clear.Goals as goal

pub invariant_of-self : goal.invariant_of-self
invariant_of-self c =
    let given = c.self.inside.given in
    let few : vec_len given < 2 ^ 32 = omega (arith, c.self.invariant.0.few, length-map given.items place_of, given.ok.0) in
    let all = c.fill.ensures.items (λ y e. e) in
    (rw (all, c.clear.ensures.items) (none_placed (vec_len given) few), rw (all, length-replicate) omega (arith, c.self.invariant.1, c.clear.ensures.capacity, given.ok.0))

pub returns : goal.returns
returns c =
    let given = c.self.inside.given in
    let whole : vec_len given ≡ length c.args.self.now = omega (arith, given.ok.0, ap length c.self.view_is, length-map given.items (seen c.self.inside.texts.items)) in
    ap (map (seen _)) (c.fill.ensures.items (λ y e. e)) ∙ nothing_seen _ (vec_len given) ∙ ap (λ (n : ℕ). replicate n None) whole
