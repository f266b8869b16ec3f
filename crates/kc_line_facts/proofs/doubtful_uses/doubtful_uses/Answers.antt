use Rattle.std.proofs.Common.{◌≡◌, ◌∙◌, ◌++◌, [], Some, if◌then◌else◌, ap, slice_get, sym}
use Rattle.std.specs.Option.{option_map_or}
use Rattle.std.proofs.lemmas.Option.{slice_get-get_or}
use Rattle.kc_statement.specs.Keywords.{is_attribute}
use Rattle.kc_line_facts.specs.DoubtfulUses.{defined_symbol, uses_at, uses_of_line, owner_of}
use Rattle.kc_line_facts.proofs.RangeLaws.{flat_map_next}
use Rattle.kc_line_facts.proofs.DoubtfulLaws.{owner_more}
use Rattle.kc_line_facts.proofs.doubtful_uses.doubtful_uses.Goals as goal

pub loop-index-preserved : goal.loop-index-preserved
loop-index-preserved c =
    let lines = c.args.lines.now in
    let t = c.args.tree.now in
    let i = c.loop-index.index in
    let now = c.loop-index.found.items in
    let known = c.loop-index.invariant in
    let line = c.index-lines-index.result in
    let is : slice_get lines i ≡ Some line = slice_get-get_or lines i line c.loop-index-test.true ∙ ap Some (sym c.index-lines-index.is) in
    let owner_is = c.owner_of-own.ensures ∙ ap (λ o. if is_attribute line then o else defined_symbol t line) known.owner_is ∙ sym (owner_more t lines i line is) in
    record {
      owner_is = owner_is;
      found_is = flat_map_next (uses_at lines t) i now c.add_line.new.found.items known.found_is
          (c.in_ok-add_line.ensures
          ∙ ap (λ o. now ++ uses_of_line t i o line) owner_is
          ∙ ap (λ o. now ++ option_map_or (uses_of_line t i (owner_of lines t i)) o []) (sym is));
    }
