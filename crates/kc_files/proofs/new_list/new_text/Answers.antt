use Rattle.std.proofs.Common.{◌≡◌, ap, ◌∙◌, sym, subst}
use Rattle.std.specs.Result.{IfOk}
use Rattle.std.specs.String.{string_bytes}
use Rattle.kc_outline.specs.TreeValue.{TreeValue}
use Rattle.kc_value.specs.Solution.{AreSolved}
use Rattle.kc_value.specs.Solved.{SolvedValue}
use Rattle.kc_value.specs.UserValues.{UserValues, IsUserFor}
use Rattle.kc_files.specs.NewText.{new_text_of}
use Rattle.kc_files.proofs.AllSolved.{solved_by}
use Rattle.kc_files.proofs.new_list.new_text.Goals as goal

pub of_nodes-solved-requires : goal.of_nodes-solved-requires
of_nodes-solved-requires g c =
    let t = g.R.Resolver.tree_of c.args.resolver.now in
    let u = g.R.Resolver.user_of c.args.resolver.now in
    let tree : c.tree.result.now ≡ t = c.tree.ensures ∙ c.values_of_all.ensures.tree in
    let user : c.user.result.now ≡ u = c.user.ensures.user ∙ c.values_of_all.ensures.user in
    record {
      user = subst (λ (p : TreeValue × UserValues). IsUserFor p.0 p.1) (λ i. (sym tree i, sym user i)) c.values_of_all.ensures.fitting;
      solved = solved_by t u c.in_ok-values.values c.in_ok-values.ensures.values c.tree.result.now c.user.result.now tree user;
    }

pub new_text_over-requires : goal.new_text_over-requires
new_text_over-requires g c =
    let t = g.R.Resolver.tree_of c.args.resolver.now in
    let u = g.R.Resolver.user_of c.args.resolver.now in
    let tree : c.tree.result.now ≡ t = c.tree.ensures ∙ c.values_of_all.ensures.tree in
    let user : c.user.result.now ≡ u = c.user.ensures.user ∙ c.values_of_all.ensures.user in
    subst (λ (s : SolvedValue). AreSolved s.tree s.user s.values) (sym c.of_nodes-solved.ensures)
    (solved_by t u c.in_ok-values.values c.in_ok-values.ensures.values c.tree.result.now c.user.result.now tree user)

pub returns-clause-text : goal.returns-clause-text
returns-clause-text g c =
    let r = g.R.Resolver in
    let s = c.of_nodes-solved.result in
    let same_tree : s.tree ≡ r.tree_of c.args.resolver.now = ap (λ (x : SolvedValue). x.tree) c.of_nodes-solved.ensures ∙ c.tree.ensures ∙ c.values_of_all.ensures.tree in
    let same_user : s.user ≡ r.user_of c.args.resolver.now = ap (λ (x : SolvedValue). x.user) c.of_nodes-solved.ensures ∙ c.user.ensures.user ∙ c.values_of_all.ensures.user in
    subst (λ (p : TreeValue × UserValues). IfOk c.new_text_over.result (λ text. string_bytes text ≡ new_text_of p.0 p.1 c.args.prefix.now))
    (λ i. (same_tree i, same_user i)) c.new_text_over.ensures

pub returns-in_err-values-clause-solved : goal.returns-in_err-values-clause-solved
returns-in_err-values-clause-solved g c = c.values_of_all.ensures.solved (g.R.Resolver.user_of c.args.resolver.now)

pub returns-clause-solved : goal.returns-clause-solved
returns-clause-solved g c = c.values_of_all.ensures.solved (g.R.Resolver.user_of c.args.resolver.now)
