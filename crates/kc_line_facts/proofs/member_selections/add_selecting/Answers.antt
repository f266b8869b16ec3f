use Rattle.std.proofs.Common.{◌≡◌, ◌∙◌, ◌++◌, Some, false, ap, slice_get, sym}
use Rattle.std.proofs.lemmas.Option.{slice_get-get_or}
use Rattle.std.specs.Option.{option_map_or}
use Rattle.kc_line_facts.specs.SelectedMembers.{place_if, selecting_in, selects_member}
use Rattle.kc_line_facts.proofs.RangeLaws.{flat_map_after}
use Rattle.kc_line_facts.proofs.member_selections.add_selecting.Goals as goal

pub loop-place-preserved : goal.loop-place-preserved
loop-place-preserved c =
    let t = c.args.tree.now in
    let n = c.args.number in
    let i = c.loop-place.place in
    let now = c.loop-place.found.items in
    let line = c.index-lines-place.result in
    let there : slice_get c.args.lines.now i ≡ Some line = slice_get-get_or c.args.lines.now i line c.loop-place-test.true ∙ ap Some (sym c.index-lines-place.is) in
    let is = c.selects_member.ensures ∙ ap (λ o. option_map_or (selects_member t) o false) (sym there) in
    flat_map_after (selecting_in t n c.args.lines.now) i c.args.found.now.items now c.add_place.new.found.items c.loop-place.invariant
    (c.in_ok-add_place.ensures ∙ ap (λ b. now ++ place_if n i b) is)
