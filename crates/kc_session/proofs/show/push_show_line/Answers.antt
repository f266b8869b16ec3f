use Rattle.std.proofs.Common.{◌≡◌, ap, sym, ◌∙◌, ◌++◌, subst}
use Rattle.std.specs.String.{string_bytes}
use Rattle.std.proofs.lemmas.Result.{on_ok_weaker}
use Rattle.kc_outline.specs.TreeValue.{name_of}
use Rattle.kc_tree.specs.declared.node.Node.{Node}
use Rattle.kc_tree.specs.declared.node.Node.TheVariants.{Vis, Val}
use Rattle.kc_tree.specs.Fits.{type_of}
use Rattle.kc_tree.specs.Uses.{Uses}
use Rattle.kc_value.specs.Assignable.{assignable_values}
use Rattle.kc_value.specs.Assignment.{as_tri, assignment_of}
use Rattle.kc_value.specs.Known.{given}
use Rattle.kc_value.specs.Solution.{solution}
use Rattle.kc_value.specs.UserValues.{IsUserFor}
use Rattle.kc_session.specs.ShowLine.{show_line_of, line_text, user_part}
use Rattle.kc_session.proofs.show.push_show_line.Goals as goal

pub returns : goal.returns
unfolding show_line_of
returns c =
    let t = c.args.solved.now.tree in
    let u = c.args.solved.now.user in
    let s = c.args.symbol in
    let k = c.known.result.now in
    let same : k.tree ≡ t = c.known.ensures.tree in
    let visibility : c.as_tri-visibility.result ≡ as_tri (solution t u (Vis s)) = c.as_tri-visibility.ensures ∙ ap as_tri c.value.ensures.value in
    let fitting : IsUserFor k.tree u = subst (λ x. IsUserFor x u) (sym same) c.known.ensures.fitting in
    let right : (n : Node) → Uses k.tree (Val s) n → given k n ≡ solution k.tree u n = λ n uses.
    (λ i. assignment_of (same i) (c.known.ensures.values i) n)
    ∙ c.known.ensures.solved.used (Val s) n c.requires.inside c.requires.asked (subst (λ x. Uses x (Val s) n) same uses)
    ∙ (λ i. solution (sym same i) u n)
    in
    let can : c.as_slice.result.now ≡ assignable_values t u s =
    c.as_slice.ensures.value ∙ c.in_ok-assignable.ensures.used u fitting right ∙ ap (λ x. assignable_values x u s) same in
    let line = line_text (name_of t s) (type_of t s) (solution t u (Val s)) in
    let user = user_part t u s in
    on_ok_weaker c.push_line.result
    (λ is. is
    ∙ ap (λ v. string_bytes c.args.text.now ++ line v c.as_slice.result.now user) visibility
    ∙ ap (λ vs. string_bytes c.args.text.now ++ line (as_tri (solution t u (Vis s))) vs user) can)
    c.push_line.ensures
