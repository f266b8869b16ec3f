use Rattle.std.proofs.Common.{sym, subst}
use Rattle.std.specs.Prelude.{All}
use Rattle.std.proofs.lemmas.List.Elements.{All-push}
use Rattle.kc_value.specs.Assignment.{assignment_of}
use Rattle.kc_facts.specs.declared.listed_definitions.DefinitionRow.{DefinitionRow}
use Rattle.kc_facts.specs.WhyRows.{IsDefinitionRow}
use Rattle.kc_facts.proofs.WhyLaws.{shown_more}
use Rattle.kc_facts.proofs.listed_definitions.numbered_rows.Goals as goal

pub loop-number-preserved : goal.loop-number-preserved
loop-number-preserved c =
    let v = c.args.view.now in
    record {
      all =
          shown_more (λ (r : DefinitionRow). r.number) c.loop-number.rows.items c.in_ok-definition_row.field-0 c.push.new.self.items c.args.numbers.now c.loop-number.number-index _
          c.loop-number-test.true c.in_ok-push.ensures.items c.in_ok-definition_row.ensures.number c.loop-number.invariant.all;
      each =
          subst (All (IsDefinitionRow v.tree (assignment_of v.tree v.values) c.args.index.now)) (sym c.in_ok-push.ensures.items)
          (All-push (IsDefinitionRow v.tree (assignment_of v.tree v.values) c.args.index.now) c.loop-number.rows.items c.in_ok-definition_row.field-0
          c.loop-number.invariant.each c.in_ok-definition_row.ensures.row);
    }
