use Rattle.std.proofs.Common.{sym, ◌∙◌}
use Rattle.std.proofs.lemmas.List.{length-set, map-set}
use Rattle.kc_value.proofs.GivenLemmas.{is_inside, place_kept, place_read}
use Rattle.kc_value.proofs.given_values.GivenValues.set_level.Goals as goal

pub invariant_of-self : goal.invariant_of-self
invariant_of-self c =
    let given = c.self.inside.given.items in
    let inside = is_inside c.self.inside.texts.items given c.args.self.now c.args.number c.self.view_is c.requires in
    let same = place_read given c.args.number c.index.result.now inside c.index.ensures ∙ sym c.with_level.ensures.place in
    (rw (place_kept given c.args.number c.with_level.result same) c.self.invariant.0, rw length-set c.self.invariant.1)

pub returns : goal.returns
returns c = rw (← c.self.view_is, map-set, c.with_level.ensures.level)
