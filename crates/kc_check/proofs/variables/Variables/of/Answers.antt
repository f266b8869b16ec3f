use Rattle.std.proofs.Common.{◌++◌, ◌∷◌, [], get_or, sym, subst, take}
use Rattle.std.specs.List.{AllZip}
use Rattle.std.proofs.lemmas.List.{take_more}
use Rattle.std.proofs.lemmas.Slice.Zip.{all_zipped_more}
use Rattle.kc_check.specs.declared.inputs.SourceText.{SourceText}
use Rattle.kc_check.specs.CheckReport.{IsFileOf}
use Rattle.kc_check.proofs.variables.Variables.of.Goals as goal

pub loop-source-preserved : goal.loop-source-preserved
loop-source-preserved c =
    let sources = c.args.sources.now in
    let i = c.loop-source.source-index in
    let past : SourceText = record { path = record { ref_ptr = (0, 0); now = [] }; text = record { ref_ptr = (0, 0); now = [] } } in
    let source = get_or sources i past in
    let files = c.loop-source.files.items in
    let file = c.in_ok-variables_of.field-0 in
    subst (λ ss. AllZip IsFileOf ss c.push.new.self.items) (sym (take_more sources i past c.loop-source-test.true))
    (subst (λ fs. AllZip IsFileOf (take i sources ++ source ∷ []) fs) (sym c.in_ok-push.ensures.items)
    (all_zipped_more IsFileOf (take i sources) files source file c.loop-source.invariant c.in_ok-variables_of.ensures))
