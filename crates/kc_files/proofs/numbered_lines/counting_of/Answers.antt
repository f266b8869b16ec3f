use Rattle.std.proofs.Common.{◌≡◌, ◌++◌, ◌∷◌, drop, filter_map, length, sym, ap, subst, ◌∙◌, append_assoc, arith, add-one}
use Rattle.std.specs.Prelude.{All}
use Rattle.std.specs.Vec.Iter.{into_iter_items}
use Rattle.std.proofs.lemmas.List.Elements.{All-head, All-rest}
use Rattle.kc_files.specs.ConfigReading.{counting}
use Rattle.kc_files.specs.Effects.{IsSaidInside}
use Rattle.kc_files.specs.Fates.{counting_at}
use Rattle.kc_files.specs.NumberedLines.{assign_of}
use Rattle.kc_files.proofs.FateLaws.{counting_step, cut_at}
use Rattle.kc_files.proofs.numbered_lines.counting_of.Goals as goal

pub loop-line-preserved : goal.loop-line-preserved
loop-line-preserved c =
    let all = c.args.lines.items in
    let left = into_iter_items c.loop-line.line-iterator in
    let behind = into_iter_items c.next.new.self in
    let i = c.loop-line.index in
    let line = c.in-Some.line in
    let items = c.in-Some.ensures.steps.0 in
    let cut : drop i all ≡ line ∷ behind = c.loop-line.invariant.left ∙ items in
    let rest = counting (filter_map assign_of behind) in
    record {
      kept =
          ap (λ k. k ++ rest) c.in_ok-keep_counting.ensures
          ∙ append_assoc c.loop-line.kept.items (counting_at c.args.last.now i line.says) rest
          ∙ ap (λ r. c.loop-line.kept.items ++ r) (counting_step c.args.last.now all c.requires i line behind cut (All-head (λ l. IsSaidInside (length c.args.last.now) l.says) line behind (subst (All (λ l. IsSaidInside (length c.args.last.now) l.says)) items c.loop-line.invariant.inside)))
          ∙ ap (λ ls. c.loop-line.kept.items ++ counting (filter_map assign_of ls)) (sym items)
          ∙ c.loop-line.invariant.kept;
      left = ap (λ n. drop n all) (add-one i) ∙ (cut_at all i line behind cut).1;
      size = omega (arith, ap length items, c.loop-line.invariant.size);
      inside = All-rest (λ l. IsSaidInside (length c.args.last.now) l.says) line behind left items c.loop-line.invariant.inside;
    }

pub overflow_add-index : goal.overflow_add-index
overflow_add-index c = omega (arith, ap length c.in-Some.ensures.steps.0, c.loop-line.invariant.size, c.len.ensures)
