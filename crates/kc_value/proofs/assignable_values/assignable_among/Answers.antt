use Rattle.std.proofs.Common.{◌≡◌, [], ◌∷◌, true, false, sym, ap, ◌∙◌, filter}
use Rattle.std.specs.Prelude.{is_some}
use Rattle.std.proofs.lemmas.Result.{IfOk-weaker}
use Rattle.kc_tree.specs.declared.node.Node.TheVariants.{Val, Vis}
use Rattle.kc_outline.specs.TreeValue.{choice_of}
use Rattle.kc_statement.specs.declared.tri.Tri.TheVariants.{No, Module, Yes}
use Rattle.kc_statement.specs.Tristate.{is_no}
use Rattle.kc_value.specs.Assignment.{as_tri}
use Rattle.kc_value.specs.Assignable.{is_shown_with_some, assignable_values}
use Rattle.kc_value.specs.Known.{given}
use Rattle.kc_value.specs.Solution.{solution}
use Rattle.kc_value.proofs.AssignableLemmas.{used_values, member_values, no_values}
use Rattle.kc_value.proofs.KeptReading.{visibility_used}
use Rattle.kc_value.proofs.SolutionLaws.{one_solution}
use Rattle.kc_value.proofs.assignable_values.assignable_among.Goals as goal

-- ---- where the values of the nodes that it is computed from are right
pub returns-then-is_no-clause-used : goal.returns-then-is_no-clause-used
unfolding assignable_values
returns-then-is_no-clause-used c u sized right =
    let t = c.args.known.now.tree in
    let s = c.args.symbol in
    let seen : is_no (as_tri (solution t u (Vis s))) ≡ true =
    sym (ap (λ v. is_no (as_tri v)) (right (Vis s) (visibility_used t s c.requires.inside))) ∙ sym (ap is_no c.tri.ensures.value) ∙ sym c.is_no.ensures ∙ c.if-is_no.true
    in
    no_values t u s _ c.new.ensures.items seen

pub returns-then-is_member-clause-used : goal.returns-then-is_member-clause-used
unfolding assignable_values
returns-then-is_member-clause-used c u sized right =
    let t = c.args.known.now.tree in
    let s = c.args.symbol in
    let seen : is_no (as_tri (solution t u (Vis s))) ≡ false =
    sym (ap (λ v. is_no (as_tri v)) (right (Vis s) (visibility_used t s c.requires.inside))) ∙ sym (ap is_no c.tri.ensures.value) ∙ sym c.is_no.ensures ∙ c.if-is_no.false
    in
    let member : is_some (choice_of t s) ≡ true = sym (c.is_member.ensures.member ∙ ap (λ x. is_some (choice_of x s)) c.tree.ensures.tree) ∙ c.if-is_member.true in
    IfOk-weaker c.one_value.result (λ v. v.items ≡ Yes ∷ []) (λ v. v.items ≡ assignable_values t u s) (λ v is. member_values t u s v.items is seen member) c.one_value.ensures

pub shown_values-requires-clause-alone : goal.shown_values-requires-clause-alone
shown_values-requires-clause-alone c = sym (c.is_member.ensures.member ∙ ap (λ x. is_some (choice_of x c.args.symbol)) c.tree.ensures.tree) ∙ c.if-is_member.false

pub returns-clause-used : goal.returns-clause-used
unfolding assignable_values
returns-clause-used c u sized right =
    let t = c.args.known.now.tree in
    let s = c.args.symbol in
    let seen : is_no (as_tri (solution t u (Vis s))) ≡ false =
    sym (ap (λ v. is_no (as_tri v)) (right (Vis s) (visibility_used t s c.requires.inside))) ∙ sym (ap is_no c.tri.ensures.value) ∙ sym c.is_no.ensures ∙ c.if-is_no.false
    in
    let alone : is_some (choice_of t s) ≡ false = sym (c.is_member.ensures.member ∙ ap (λ x. is_some (choice_of x s)) c.tree.ensures.tree) ∙ c.if-is_member.false in
    IfOk-weaker c.shown_values.result
    (λ v. v.items ≡ filter (is_shown_with_some t u (given c.args.known.now) s) (No ∷ Module ∷ Yes ∷ []))
    (λ v. v.items ≡ assignable_values t u s)
    (λ v is. used_values t u (given c.args.known.now) s v.items right is seen alone)
    (c.shown_values.ensures u sized)

-- ---- and so where those of all nodes are
pub returns-then-is_no-clause-values : goal.returns-then-is_no-clause-values
returns-then-is_no-clause-values c u sized solved =
    returns-then-is_no-clause-used c u sized (λ n uses. solved n (c.tri.ensures.accepted.within (Val c.args.symbol) n c.requires.inside uses))

pub returns-then-is_member-clause-values : goal.returns-then-is_member-clause-values
returns-then-is_member-clause-values c u sized solved =
    returns-then-is_member-clause-used c u sized (λ n uses. solved n (c.tri.ensures.accepted.within (Val c.args.symbol) n c.requires.inside uses))

pub returns-clause-values : goal.returns-clause-values
returns-clause-values c u sized solved =
    returns-clause-used c u sized (λ n uses. solved n (c.tri.ensures.accepted.within (Val c.args.symbol) n c.requires.inside uses))

-- ---- there is one solution
pub returns-then-is_no-clause-solved : goal.returns-then-is_no-clause-solved
returns-then-is_no-clause-solved c = λ u. one_solution c.args.known.now.tree u c.tri.ensures.accepted

pub returns-then-is_member-clause-solved : goal.returns-then-is_member-clause-solved
returns-then-is_member-clause-solved c = λ u. one_solution c.args.known.now.tree u c.tri.ensures.accepted

pub returns-clause-solved : goal.returns-clause-solved
returns-clause-solved c = λ u. one_solution c.args.known.now.tree u c.tri.ensures.accepted
