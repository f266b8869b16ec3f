use Rattle.std.proofs.Common.{◌∙◌, subst, sym}
use Rattle.kc_text.specs.LineReferences.{lent_names}
use Rattle.kc_line_facts.specs.ReadingOrder.{AreReached}
use Rattle.kc_line_facts.proofs.EarlierLaws.{are_earlier}
use Rattle.kc_line_facts.proofs.earlier_faults.earlier_findings.Goals as goal

pub returns : goal.returns
returns c =
    are_earlier c.args.lines.now c.args.tree.now c.args.files.now (lent_names c.args.given.now) c.as_slice.result.now c.as_slice-2.result.now _
    (subst (λ ms. AreReached c.args.lines.now c.args.files.now ms) (sym c.as_slice-2.ensures.value) c.in_ok-reached.ensures)
    (c.as_slice.ensures.value ∙ c.in_ok-repeated.ensures) c.found_in_order.ensures
