use Rattle.std.proofs.Common.{◌≡◌, refl, sym, ap, ◌∙◌, subst, get_or}
use Rattle.kc_tree.specs.Nodes.{IsNodeOf}
use Rattle.kc_value.specs.Solution.{solution, IsOnlySolution}
use Rattle.kc_value.specs.UserValues.{IsUserFor}
use Rattle.kc_session_tests.specs.Listed.{ListedValue}
use Rattle.kc_session_tests.proofs.ListedLaws.{placed}
use Rattle.kc_session_tests.proofs.listed.ListedResolver.node.Goals as goal

pub returns : goal.returns
returns c =
    let i = c.self.inside in
    let n = c.args.node in
    let inside : IsNodeOf i.tree.now n = subst (λ (l : ListedValue). IsNodeOf l.tree n) (sym c.self.view_is) c.requires in
    let value : c.index.result.now ≡ solution i.tree.now i.user.now n =
    c.index.ensures ∙ ap (λ k. get_or i.values.items k c.index.result.now) c.number.ensures.number
    ∙ placed i.tree.now i.user.now i.values.items n c.index.result.now c.number.ensures.numbered c.self.invariant inside
    in
    let same = c.self.view_is in (
      (refl, λ _. tt, (ap (λ (l : ListedValue). l.tree) same, ap (λ (l : ListedValue). l.user) same, tt, tt)),
      record {
        value = subst (λ (l : ListedValue). c.index.result.now ≡ solution l.tree l.user n) same value;
        solved = subst (λ (l : ListedValue). IsOnlySolution l.tree l.user (solution l.tree l.user)) same c.self.invariant.solved;
        fitting = subst (λ (l : ListedValue). IsUserFor l.tree l.user) same c.self.invariant.fitting;
        after_borrow = tt;
      },
    )
