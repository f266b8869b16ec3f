use Rattle.std.proofs.Common.{sym, ap, ◌∙◌, subst}
use Rattle.std.specs.List.{flat_map}
use Rattle.std.specs.Str.{IsUtf8}
use Rattle.std.proofs.lemmas.Result.{IfOk-weaker}
use Rattle.std.proofs.lemmas.Str.{IsUtf8-string_bytes}
use Rattle.kc_outline.specs.TreeValue.{TreeValue}
use Rattle.kc_value.specs.Solution.{solution}
use Rattle.kc_files.specs.DefaultLoading.{KeepsChanges}
use Rattle.kc_files.specs.DefaultText.{default_entry}
use Rattle.kc_files.proofs.DefaultKept.{kept}
use Rattle.kc_files.proofs.LineFormLaws.{prefix_bytes}
use Rattle.kc_files.proofs.default_file.defconfig_text_over.Goals as goal

pub returns-clause-text : goal.returns-clause-text
returns-clause-text c =
    let t = c.args.solved.now.tree in
    let u = c.args.solved.now.user in
    let p = c.args.prefix.now in
    IfOk-weaker c.text_of.result _ _
    (λ text is. is (solution t u) tt ∙ ap (λ (x : TreeValue). flat_map (default_entry t u p) x.entries) c.tree.ensures.tree)
    c.text_of.ensures

pub returns-clause-keeps : goal.returns-clause-keeps
returns-clause-keeps c = λ unfed.
    let t = c.args.solved.now.tree in
    let u = c.args.solved.now.user in
    let p = c.args.prefix.now in
    IfOk-weaker c.text_of.result _ _
    (λ text is.
    subst (KeepsChanges t u p) (sym is)
    (kept t u p c.tree.ensures.accepted (prefix_bytes p c.as_str.ensures.valid) c.user.ensures.changes c.user.ensures.fitting unfed
    (subst IsUtf8 is (IsUtf8-string_bytes text))))
    (returns-clause-text c)
