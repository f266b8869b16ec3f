use Rattle.std.proofs.Common.{◌∙◌, ◌++◌, None, ap, get_or, length}
use Rattle.std.specs.Prelude.{option_and_then}
use Rattle.kc_statement.specs.declared.id.SymId.{SymId}
use Rattle.kc_line_facts.specs.UnusedDefaults.{free_place_at, unused_by_number}
use Rattle.kc_line_facts.proofs.RangeLaws.{flat_map_next, item_there}
use Rattle.kc_line_facts.proofs.UnusedLaws.{given_step, noted_first_sized, unused_of_number}
use Rattle.kc_line_facts.proofs.defaults_after.unused_defaults.Goals as goal

pub loop-number-preserved : goal.loop-number-preserved
loop-number-preserved c =
    let lines = c.args.index.now in
    let t = c.args.tree.now in
    let n = c.loop-number.number in
    let now = c.loop-number.found.items in
    let given = c.loop-number.given.items in
    let d = c.definition-item.result in
    let is = c.loop-number.invariant in
    let there = item_there t.definitions c.definitions-definition-items.result.now n d c.definitions-definition-items.ensures c.loop-number-test.true c.definition-item.is in
    let s = c.symbol-symbol.result.0 in
    let s_is = ap (λ (x : SymId). x.0) c.symbol-symbol.ensures in
    let noted = c.noted_place-noted.ensures ∙ ap (λ g. option_and_then (free_place_at t) (get_or g s None)) c.as_slice.ensures.value in
    let found = unused_of_number lines t n s d given c.noted_place-noted.result c.unless_again-earlier.result there s_is is.sized is.each
    noted c.unless_again-earlier.ensures in
    record {
      sized = ap length c.note_first.ensures ∙ noted_first_sized given s n c.is_always_given-is_given.result ∙ is.sized;
      each = given_step t n s d c.is_always_given-is_given.result given c.note_first.new.given.items (length t.symbols) there s_is c.is_always_given-is_given.ensures is.sized is.each c.note_first.ensures;
      found_is = flat_map_next (unused_by_number lines t) n now c.add_after.new.found.items is.found_is
          (c.in_ok-add_after.ensures ∙ ap (λ r. now ++ r) found);
    }
