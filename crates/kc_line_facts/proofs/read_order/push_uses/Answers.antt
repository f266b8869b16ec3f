use Rattle.std.proofs.Common.{◌∙◌, ◌++◌, ◌∷◌, [], ap, get_or, arith, sym, length, ◌<◌}
use Rattle.std.proofs.lemmas.Option.{slice_get-get_or}
use Rattle.kc_text.specs.LineValue.{LineValue}
use Rattle.kc_line_facts.specs.ReadingOrder.{use_at}
use Rattle.kc_line_facts.proofs.OrderLaws.{range_more_from, range_none_from, use_is}
use Rattle.kc_line_facts.proofs.SourcedLaws.{below_zero}
use Rattle.kc_line_facts.proofs.read_order.push_uses.Goals as goal

pub loop-place-init : goal.loop-place-init
loop-place-init c = record {
  passed_is = sym (below_zero (λ (l : LineValue). l.number) c.args.gap.lines.now);
  within = omega arith;
  forward = omega arith;
  reached_is = range_none_from (use_at c.args.gap.lines.now c.args.gap.from c.args.gap.file c.args.uses.now) c.args.reached.now.items c.args.first;
}

pub loop-place-preserved : goal.loop-place-preserved
loop-place-preserved c =
    let uses = c.args.uses.now in
    let gap = c.args.gap.lines.now in
    let from = c.args.gap.from in
    let file = c.args.gap.file in
    let k = c.loop-place.place in
    let known = c.loop-place.invariant in
    let inside : k < length uses = omega (arith, c.loop-place-test.true, c.requires.within) in
    record {
      passed_is = c.passed_below-count.ensures.count;
      within = c.passed_below-count.ensures.within;
      forward = omega (arith, known.forward);
      reached_is = range_more_from (use_at gap from file uses) c.args.reached.now.items c.loop-place.reached.items c.push.new.self.items c.args.first k known.forward known.reached_is
          (c.in_ok-push.ensures.items ∙ ap (λ u. c.loop-place.reached.items ++ u ∷ [])
          (use_is gap from file uses k (get_or uses k c.index-uses-place.result) c.passed_below-count.result
          (slice_get-get_or uses k c.index-uses-place.result inside) c.passed_below-count.ensures.count));
    }
