use Rattle.std.proofs.Common.{◌≡◌, ◌∙◌, ◌+◌, ◌<◌, Bool, if◌then◌else◌, Some, slice_get, sym, ap, arith, length}
use Rattle.std.proofs.lemmas.Option.{slice_get-get_or}
use Rattle.kc_line_facts.proofs.SourcedLaws.{count_more, few_more, numbers_more}
use Rattle.kc_line_facts.proofs.open_numbers.pass_lines.Goals as goal

pub loop-place-preserved : goal.loop-place-preserved
loop-place-preserved c =
    let lines = c.args.lines.now in
    let i = c.loop-place.place in
    let n = c.loop-place.count in
    let line = c.index-lines-place.result in
    let known = c.loop-place.invariant in
    let inside : i < length lines = omega (arith, c.loop-place-test.true, c.requires.inside) in
    let is : slice_get lines i ≡ Some line = slice_get-get_or lines i line inside ∙ ap Some (sym c.index-lines-place.is) in
    let step = c.counted-next.ensures ∙ ap (λ (b : Bool). if b then n + 1 else n) c.opens.ensures in
    record {
      around_is = numbers_more lines i n line c.read_keyword-word.result c.loop-place.around c.pass.new.self is c.read_keyword-word.ensures known.around_is known.count_is c.in_ok-pass.ensures;
      count_is = count_more lines i n c.counted-next.result line c.read_keyword-word.result is c.read_keyword-word.ensures known.count_is step;
      within = few_more i n c.counted-next.result c.opens.result known.within c.counted-next.ensures;
    }
