use Rattle.std.proofs.Common.{◌≡◌, unwrap_or, refl, sym, ap, ◌∙◌, rules}
use Rattle.std.specs.Result.{IfOk, OnOk}
use Rattle.kc_statement.specs.declared.tri.Tri.TheVariants.{No}
use Rattle.kc_outline.specs.TreeValue.{TreeValue}
use Rattle.kc_value.specs.declared.value.Value.TheVariants.{Tri as Level}
use Rattle.kc_value.specs.Assignment.{value_at}
use Rattle.kc_value.specs.Solution.{solution}
use Rattle.kc_value.proofs.fresh.FreshResolver.node.Goals as goal

pub returns-in_err-evaluate : goal.returns-in_err-evaluate
returns-in_err-evaluate c =
    let t = c.args.self.now.tree in
    let u = c.args.self.now.user in
    let value : IfOk c.from_residual.result (λ v. v.now ≡ solution t u c.args.node) = search rules in
    let known : OnOk c.from_residual.result (Unit {0}) = search rules in (
      (refl, λ _. tt, (c.evaluate.ensures.tree, c.evaluate.ensures.user, tt, known)),
      record { value = value; solved = c.evaluate.ensures.solved u; fitting = c.user.ensures.fitting; after_borrow = tt },
    )

pub returns : goal.returns
returns c =
    let u = c.args.self.now.user in
    let here = sym c.last_value.ensures ∙ ap (λ (t : TreeValue). value_at t c.evaluate.new.self.last c.args.node) c.evaluate.ensures.tree ∙ c.in_ok-evaluate.ensures.value in (
      (refl, λ _. tt, (c.evaluate.ensures.tree, c.evaluate.ensures.user, tt, tt)),
      record { value = ap (λ o. unwrap_or o (Level No)) here; solved = c.evaluate.ensures.solved u; fitting = c.user.ensures.fitting; after_borrow = tt },
    )
