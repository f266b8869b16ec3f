use Rattle.std.proofs.Common.{◌≡◌, ◌∙◌, ◌++◌, ℕ, List, Some, ap, slice_get, sym}
use Rattle.std.specs.Borrow.{Bor}
use Rattle.std.specs.Prelude.{map, option_and_then, option_map}
use Rattle.std.specs.Option.{option_to_list}
use Rattle.std.proofs.lemmas.Option.{slice_get-get_or}
use Rattle.kc_files.specs.DroppedBackslashes.{dropped_at, dropped_in, place_of}
use Rattle.kc_files.proofs.RangeLaws.{filter_map_next}
use Rattle.kc_files.proofs.lost_backslashes.dropped_among.Goals as goal

pub loop-index-preserved : goal.loop-index-preserved
loop-index-preserved c =
    let t = c.args.tree.now in
    let prefix = c.args.prefix.now in
    let texts : List (List ℕ) = map (λ (l : Bor (List ℕ)). l.now) c.args.lines.now in
    let said = c.args.said.now in
    let i = c.loop-index.index in
    let now = c.loop-index.found.items in
    let line = c.index-said-index.result in
    let there : slice_get said i ≡ Some line = slice_get-get_or said i line c.loop-index-test.true ∙ ap Some (sym c.index-said-index.is) in
    let is = c.place_of.ensures ∙ ap (option_and_then (place_of t prefix texts)) (sym there) in
    filter_map_next (dropped_at t prefix texts said) i now c.add_dropped.new.found.items c.loop-index.invariant
    (c.in_ok-add_dropped.ensures ∙ ap (λ o. now ++ option_to_list (option_map (dropped_in i) o)) is)
