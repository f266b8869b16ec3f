use Rattle.std.proofs.Common.{length, map, ◌∙◌, rules, arith}
use Rattle.std.proofs.lemmas.List.{length-map, length-set, length_push, map-set}
use Rattle.kc_value.specs.declared.given.Given.TheVariants.{Text}
use Rattle.kc_value.specs.GivenValues.{place_of}
use Rattle.kc_value.proofs.GivenLemmas.{added_seen, is_inside, place_added, place_kept, put_seen, room_left}
use Rattle.kc_value.proofs.given_values.GivenValues.set_text.Goals as goal

pub index_mut-requires : goal.index_mut-requires
index_mut-requires c = omega (arith, c.self.invariant.0.within c.args.number c.in-Some.place (search rules))

pub invariant_of-self : goal.invariant_of-self
invariant_of-self c =
    (rw (place_kept c.self.inside.given.items c.args.number (Text c.in-Some.place) (search rules), length-set) c.self.invariant.0, rw length-set c.self.invariant.1)

pub returns-in-Some : goal.returns-in-Some
returns-in-Some c =
    rw (← c.self.view_is)
    (put_seen c.self.inside.texts.items c.self.inside.given.items c.args.number c.in-Some.place c.args.value c.self.invariant.0 (search rules))

pub add_text-requires : goal.add_text-requires
add_text-requires c =
    let given = c.self.inside.given.items in
    let inside = is_inside c.self.inside.texts.items given c.args.self.now c.args.number c.self.view_is c.requires in
    record { room = omega (arith, room_left (map place_of given) _ c.args.number c.self.invariant.0 (rw length-map inside) (search rules), length-map given place_of, c.self.invariant.1) }

pub invariant_of-self-in-None : goal.invariant_of-self-in-None
invariant_of-self-in-None c =
    let texts = c.self.inside.texts in
    let given = c.self.inside.given.items in
    let inside = is_inside texts.items given c.args.self.now c.args.number c.self.view_is c.requires in (
      rw (map-set, c.add_text.ensures.texts, length_push, c.len.ensures, texts.ok.0) (place_added (map place_of given) (length texts.items) c.args.number c.self.invariant.0 (rw length-map inside) (search rules)),
      rw length-set omega (arith, c.self.invariant.1, c.add_text.ensures.room),
    )

pub returns-in-None : goal.returns-in-None
returns-in-None c =
    let texts = c.self.inside.texts in
    rw (c.add_text.ensures.texts, ← c.self.view_is)
    (added_seen texts.items c.self.inside.given.items c.args.number c.len.result c.args.value c.self.invariant.0 (c.len.ensures ∙ texts.ok.0))
