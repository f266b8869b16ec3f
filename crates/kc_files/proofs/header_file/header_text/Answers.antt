use Rattle.std.proofs.Common.{◌≡◌, ap, ◌∙◌}
use Rattle.std.proofs.lemmas.Result.{IfOk-weaker}
use Rattle.kc_outline.specs.TreeValue.{TreeValue}
use Rattle.kc_value.specs.Solution.{solution}
use Rattle.kc_files.specs.HeaderText.{header_text_of}
use Rattle.kc_files.specs.DraftValue.{Agrees}
use Rattle.kc_files.proofs.AllSolved.{known_agrees}
use Rattle.kc_files.proofs.header_file.header_text.Goals as goal

-- the values agree with the solution
pub returns-clause-text : goal.returns-clause-text
returns-clause-text g c =
    let t = g.R.Resolver.tree_of c.args.resolver.now in
    let u = g.R.Resolver.user_of c.args.resolver.now in
    let a = solution t u in
    let k = c.of_nodes-known.result in
    let tree : k.tree ≡ t = c.of_nodes-known.ensures.tree ∙ c.tree.ensures ∙ c.values_of_all.ensures.tree in
    let agrees : Agrees k.tree k.values a = known_agrees t u c.in_ok-values.values c.in_ok-values.ensures.values k tree c.of_nodes-known.ensures.values in
    IfOk-weaker c.header_text_over.result _ _ (λ text is. is a agrees ∙ ap (λ (x : TreeValue). header_text_of x c.args.prefix.now a) tree) c.header_text_over.ensures

pub returns-in_err-values-clause-solved : goal.returns-in_err-values-clause-solved
returns-in_err-values-clause-solved g c = c.values_of_all.ensures.solved (g.R.Resolver.user_of c.args.resolver.now)

pub returns-clause-solved : goal.returns-clause-solved
returns-clause-solved g c = c.values_of_all.ensures.solved (g.R.Resolver.user_of c.args.resolver.now)
