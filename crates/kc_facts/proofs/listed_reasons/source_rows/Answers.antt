use Rattle.std.proofs.Common.{sym, subst}
use Rattle.std.specs.Prelude.{All}
use Rattle.std.proofs.lemmas.List.Elements.{All-push}
use Rattle.kc_facts.specs.declared.listed_reasons.ReasonRow.{ReasonRow}
use Rattle.kc_facts.specs.WhyRows.{IsReasonRow}
use Rattle.kc_facts.proofs.WhyLaws.{shown_more}
use Rattle.kc_facts.proofs.listed_reasons.source_rows.Goals as goal

pub loop-source-preserved : goal.loop-source-preserved
loop-source-preserved c = record {
  sources =
      shown_more (λ (r : ReasonRow). r.source) c.loop-source.rows.items c.reason_row.result c.push.new.self.items c.args.sources.now c.loop-source.source-index _
      c.loop-source-test.true c.in_ok-push.ensures.items c.reason_row.ensures.source c.loop-source.invariant.sources;
  each =
      subst (All (IsReasonRow c.args.tree.now c.args.index.now c.args.symbol)) (sym c.in_ok-push.ensures.items)
      (All-push (IsReasonRow c.args.tree.now c.args.index.now c.args.symbol) c.loop-source.rows.items c.reason_row.result
      c.loop-source.invariant.each c.reason_row.ensures.row);
}
