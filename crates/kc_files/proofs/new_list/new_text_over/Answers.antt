use Rattle.std.proofs.Common.{ap, ◌∙◌}
use Rattle.std.specs.List.{flat_map}
use Rattle.std.proofs.lemmas.Result.{IfOk-weaker}
use Rattle.kc_outline.specs.TreeValue.{TreeValue}
use Rattle.kc_value.specs.Solution.{solution}
use Rattle.kc_files.specs.NewText.{new_entry}
use Rattle.kc_files.proofs.new_list.new_text_over.Goals as goal

-- the text is over any assignment: it goes by the user values
pub returns : goal.returns
returns c =
    let t = c.args.solved.now.tree in
    let u = c.args.solved.now.user in
    IfOk-weaker c.text_of.result _ _
    (λ text is. is (solution t u) tt ∙ ap (λ (x : TreeValue). flat_map (new_entry t u c.args.prefix.now) x.entries) c.tree.ensures.tree)
    c.text_of.ensures
