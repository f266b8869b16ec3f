use Rattle.std.proofs.Common.{◌≡◌, ◌∙◌, ◌++◌, ◌+◌, ◌-◌, [], ◌∷◌, length, nat_lt, sym, ap, arith, map}
use Rattle.std.specs.List.{range_with_len}
use Rattle.std.proofs.lemmas.List.FromFn.{map-range_with_len_more}
use Rattle.kc_line_facts.specs.SourcedFiles.{start_of}
use Rattle.std.proofs.lemmas.List.Sums.{prefix_len-le-length}
use Rattle.kc_text.specs.LineValue.{LineValue}
use Rattle.kc_line_facts.proofs.OrderLaws.{bounded}
use Rattle.kc_line_facts.proofs.SourcedLaws.{next_start, start_zero}
use Rattle.kc_line_facts.proofs.run_places.starts_of.Goals as goal

pub loop-run-init : goal.loop-run-init
loop-run-init c = record {
  from_is = sym (start_zero c.args.lines.now);
  within = omega arith;
  starts_are = c.new-starts.ensures.items;
}

pub loop-run-preserved : goal.loop-run-preserved
loop-run-preserved c =
    let lines = c.args.lines.now in
    let r = c.loop-run.run in
    let known = c.loop-run.invariant in
    let start_is = next_start lines c.loop-run.from c.next_start-start.result r known.from_is c.next_start-start.ensures.start in
    let more : r ≡ r + 1 - 1 = omega arith in
    record {
      from_is = start_is ∙ ap (start_of lines) more;
      within = c.next_start-start.ensures.within;
      starts_are = c.in_ok-push.ensures.items
          ∙ ap (λ xs. xs ++ c.next_start-start.result ∷ []) known.starts_are
          ∙ ap (λ x. map (start_of lines) (range_with_len 0 r) ++ x ∷ []) start_is
          ∙ sym (map-range_with_len_more (start_of lines) 0 r r (omega arith));
    }

pub returns : goal.returns
returns c =
    let lines = c.args.lines.now in
    let known = c.loop-run.invariant in
    let whole : c.loop-run.run ≡ c.args.count = omega (arith, c.loop-run-test.false, c.loop-run.auto.run-end) in
    let starts_are = known.starts_are ∙ ap (λ n. map (start_of lines) (range_with_len 0 n)) whole in
    record {
      few = bounded (start_of lines) (length lines + 1) c.args.count c.loop-run.starts.items (λ k. let within = prefix_len-le-length (λ (line : LineValue). nat_lt line.run k) lines in omega (arith, within)) starts_are;
      starts = starts_are;
    }
