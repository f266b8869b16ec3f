use Rattle.std.proofs.Common.{◌++◌, ◌≤◌, ◌+◌, length, ◌∙◌, ap, arith, get_or, refl, subst, sym}
use Rattle.kc_line_facts.specs.ReadingOrder.{gap_of, run_marks}
use Rattle.kc_line_facts.proofs.OrderLaws.{file_all, file_more}
use Rattle.kc_line_facts.proofs.read_order.push_file.Goals as goal

pub loop-place-preserved : goal.loop-place-preserved
loop-place-preserved c =
    let known = c.loop-place.invariant in
    let runs = c.args.runs in
    let lines = runs.lines.now in
    let starts = runs.starts.now in
    let rests = runs.rests.now in
    let uses = c.args.uses.now in
    let sources = c.args.sources.now in
    let all = c.args.reached.now.items ++ run_marks lines starts rests c.args.file uses sources c.args.run in
    record {
      first_within = c.uses_up_to-end.ensures.within;
      inner_within = c.run_after-inner.ensures.within;
      few = subst (λ n. n ≤ length lines + 1) (sym c.place_at-from-in-loop-place.ensures) (c.requires.rests c.loop-place.inner);
      all = file_more lines starts rests c.args.file uses _ sources c.loop-place.place (get_or sources c.loop-place.place 0) c.loop-place.from c.loop-place.first c.loop-place.inner
          c.place_at-before.result c.place_at-from-in-loop-place.result c.uses_up_to-end.result c.run_after-inner.result c.gap_of-lines.result.now
          all c.loop-place.reached.items c.push_uses.new.reached.items c.push.new.self.items c.loop-place-test.true
          refl c.place_at-before.ensures c.gap_of-lines.ensures.gap c.uses_up_to-end.ensures.count c.place_at-from-in-loop-place.ensures
          c.run_after-inner.ensures.after c.in_ok-push_uses.ensures c.in_ok-push.ensures.items known.all;
    }

pub returns : goal.returns
returns c =
    let known = c.loop-place.invariant in
    let runs = c.args.runs in
    let lines = runs.lines.now in
    let starts = runs.starts.now in
    let rests = runs.rests.now in
    let uses = c.args.uses.now in
    let sources = c.args.sources.now in
    let all = c.args.reached.now.items ++ run_marks lines starts rests c.args.file uses sources c.args.run in
    file_all lines starts rests c.args.file uses _ sources c.loop-place.place c.loop-place.from c.loop-place.first c.loop-place.inner
    c.gap_of-lines-2.result.now all c.loop-place.reached.items c.push_uses-2.new.reached.items (omega (arith, c.loop-place-test.false))
    (c.gap_of-lines-2.ensures.gap ∙ ap (gap_of lines c.loop-place.from) c.place_at.ensures) c.in_ok-push_uses-2.ensures known.all
