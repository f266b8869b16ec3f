use Rattle.std.proofs.Common.{List, sym, ◌∙◌, subst}
use Rattle.std.specs.Prelude.{All}
use Rattle.std.proofs.lemmas.List.Elements.{All-push}
use Rattle.kc_text.specs.LineValue.{LineValue}
use Rattle.kc_value.specs.Assignment.{assignment_of}
use Rattle.kc_facts.specs.declared.listed_reverses.ReverseLine.{ReverseLine}
use Rattle.kc_facts.specs.WhyRows.{IsReverseLine}
use Rattle.kc_facts.proofs.WhyLaws.{shown_more}
use Rattle.kc_facts.proofs.listed_reverses.lines_of.Goals as goal

pub loop-reverse-preserved : goal.loop-reverse-preserved
loop-reverse-preserved c =
    let v = c.args.view.now in
    let row = c.in_ok-reverse_line.field-0 in
    record {
      all =
          shown_more (λ (r : ReverseLine). r.reverse.now) c.loop-reverse.rows.items row c.push.new.self.items c.args.reverses.now c.loop-reverse.reverse-index _
          c.loop-reverse-test.true c.in_ok-push.ensures.items (c.in_ok-reverse_line.ensures.reverse ∙ c.reverse-item.is) c.loop-reverse.invariant.all;
      each =
          subst (All (IsReverseLine v.tree (assignment_of v.tree v.values) c.args.index.now c.args.kind)) (sym c.in_ok-push.ensures.items)
          (All-push (IsReverseLine v.tree (assignment_of v.tree v.values) c.args.index.now c.args.kind) c.loop-reverse.rows.items row c.loop-reverse.invariant.each
          (subst (λ (lines : List LineValue). IsReverseLine v.tree (assignment_of v.tree v.values) lines c.args.kind row) c.loop-reverse.invariant.lines c.in_ok-reverse_line.ensures.row));
      lines = c.reverse_line.ensures.lines ∙ c.loop-reverse.invariant.lines;
    }
