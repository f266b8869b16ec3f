use Rattle.std.proofs.Common.{List, sym, ap, ◌∙◌, subst}
use Rattle.std.specs.Prelude.{All}
use Rattle.std.proofs.lemmas.List.Elements.{All-push}
use Rattle.kc_text.specs.LineValue.{LineValue}
use Rattle.kc_value.specs.Assignment.{assignment_of}
use Rattle.kc_value.specs.declared.factors.Factor.{Factor}
use Rattle.kc_value.specs.Factors.{judged}
use Rattle.kc_facts.specs.declared.listed_definitions.FactorRow.{FactorRow}
use Rattle.kc_facts.specs.WhyRows.{IsFactorRow}
use Rattle.kc_facts.proofs.WhyLaws.{shown_more_by}
use Rattle.kc_facts.proofs.listed_definitions.factor_rows.Goals as goal

pub loop-factor-preserved : goal.loop-factor-preserved
loop-factor-preserved c =
    let v = c.args.view.now in
    let row = c.in_ok-factor_row.field-0 in
    record {
      judged =
          shown_more_by (λ (r : FactorRow). judged r.own.factor) judged c.loop-factor.rows.items row c.push.new.self.items c.args.factors.now c.loop-factor.factor-index _
          c.loop-factor-test.true c.in_ok-push.ensures.items (ap judged (c.in_ok-factor_row.ensures.factor ∙ c.factor-item.is)) c.loop-factor.invariant.judged;
      origins =
          shown_more_by (λ (r : FactorRow). r.own.factor.origin) (λ (f : Factor). f.origin) c.loop-factor.rows.items row c.push.new.self.items c.args.factors.now c.loop-factor.factor-index _
          c.loop-factor-test.true c.in_ok-push.ensures.items (ap (λ (f : Factor). f.origin) (c.in_ok-factor_row.ensures.factor ∙ c.factor-item.is)) c.loop-factor.invariant.origins;
      each =
          subst (All (IsFactorRow v.tree (assignment_of v.tree v.values) c.args.index.now c.args.number)) (sym c.in_ok-push.ensures.items)
          (All-push (IsFactorRow v.tree (assignment_of v.tree v.values) c.args.index.now c.args.number) c.loop-factor.rows.items row c.loop-factor.invariant.each
          (subst (λ (lines : List LineValue). IsFactorRow v.tree (assignment_of v.tree v.values) lines c.args.number row) c.loop-factor.invariant.lines c.in_ok-factor_row.ensures.row));
      lines = c.factor_row.ensures.lines ∙ c.loop-factor.invariant.lines;
    }
