use Rattle.std.proofs.Common.{[], ◌∷◌}
use Rattle.kc_tree.specs.declared.node.Node.TheVariants.{Vis, Val}
use Rattle.kc_value.proofs.AssignableLemmas.{second_in_both}
use Rattle.kc_value.proofs.assignable_values.assignable.Goals as goal

pub returns-in_err-used-clause-solved : goal.returns-in_err-used-clause-solved
returns-in_err-used-clause-solved g c = c.values_of_used.ensures.solved (g.R.Resolver.user_of c.args.resolver.now)

pub returns-in_err-used-clause-grew : goal.returns-in_err-used-clause-grew
returns-in_err-used-clause-grew g c =
    let s = c.args.symbol in
    g.met.R.Resolver.grew_wider _ _ (Val s ∷ []) (Vis s ∷ Val s ∷ []) (second_in_both (g.R.Resolver.tree_of c.args.resolver.now) (Vis s) (Val s)) c.values_of_used.ensures.grew

pub returns-clause-solved : goal.returns-clause-solved
returns-clause-solved g c = c.values_of_used.ensures.solved (g.R.Resolver.user_of c.args.resolver.now)

pub returns-clause-grew : goal.returns-clause-grew
returns-clause-grew g c =
    let s = c.args.symbol in
    g.met.R.Resolver.grew_wider _ _ (Val s ∷ []) (Vis s ∷ Val s ∷ []) (second_in_both (g.R.Resolver.tree_of c.args.resolver.now) (Vis s) (Val s)) c.values_of_used.ensures.grew
