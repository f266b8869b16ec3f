use Rattle.std.proofs.Common.{◌∙◌, ℕ, List, subst}
use Rattle.kc_session.specs.declared.command.Command.TheVariants.{Merge}
use Rattle.kc_session.specs.Effect.{IsApplied}
use Rattle.kc_session.proofs.MergedLaws.{merge_fits, merge_leaves}
use Rattle.kc_session.proofs.merging.merge_one.Goals as goal

pub returns-in-Done-clause-fits : goal.returns-in-Done-clause-fits
returns-in-Done-clause-fits c =
    let s = c.args.session.now.session in
    let n = c.apply.new.self.session in
    let applied = subst (λ (b : List ℕ). IsApplied s (Merge b) c.apply.result n) (c.new.ensures ∙ c.as_bytes.ensures) c.apply.ensures.applied in
    merge_fits s n c.args.body.now c.apply.result c.in-Done._text c.in-Done.is applied

pub returns-in-Done-clause-done : goal.returns-in-Done-clause-done
returns-in-Done-clause-done c =
    let s = c.args.session.now.session in
    let n = c.apply.new.self.session in
    let applied = subst (λ (b : List ℕ). IsApplied s (Merge b) c.apply.result n) (c.new.ensures ∙ c.as_bytes.ensures) c.apply.ensures.applied in
    merge_leaves s n c.args.body.now c.apply.result c.in-Done._text c.in-Done.is applied
