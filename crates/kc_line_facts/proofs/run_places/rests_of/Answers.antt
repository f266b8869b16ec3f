use Rattle.std.proofs.Common.{◌∙◌, ◌+◌, length, not, sym, arith, map}
use Rattle.std.specs.List.{range_with_len}
use Rattle.std.proofs.lemmas.Grind.{same_number_lists}
use Rattle.std.proofs.lemmas.List.FromFn.{get_or-map-range_with_len, length-map-range_with_len}
use Rattle.std.proofs.lemmas.List.Sums.{prefix_len-le-length}
use Rattle.kc_line_facts.specs.ReadingOrder.{ends, rest_of}
use Rattle.kc_line_facts.proofs.OrderLaws.{bounded, rest_at_end}
use Rattle.kc_line_facts.proofs.run_places.rests_of.Goals as goal

pub returns : goal.returns
returns c =
    let lines = c.args.lines.now in
    let count = c.args.count in
    let known = c.loop-left.invariant in
    let rests_are = same_number_lists c.loop-left.rests.items (map (rest_of lines) (range_with_len 0 count)) (known.sized ∙ sym (length-map-range_with_len (rest_of lines) 0 count))
    (λ k h. rest_at_end lines k c.loop-left.left _ (omega (arith, c.loop-left-test.false)) (known.each k (omega (arith, h, known.sized)))
    ∙ sym (get_or-map-range_with_len (rest_of lines) 0 count k k 0 (omega (arith, h, known.sized)) (omega arith))) in
    record {
      few = bounded (rest_of lines) (length lines + 1) count c.loop-left.rests.items (λ k. let within = prefix_len-le-length (λ line. not (ends k line)) lines in omega (arith, within)) rests_are;
      rests = rests_are;
    }
