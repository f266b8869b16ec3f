use Rattle.std.proofs.Common.{◌≡◌, Some, None, ap, sym, ◌∙◌}
use Rattle.std.specs.List.{slice_get}
use Rattle.std.specs.Option.{option_copied, option_map_or}
use Rattle.kc_statement.specs.declared.tri.Tri.TheVariants.{No}
use Rattle.kc_value.specs.Conditions.{comment_value}
use Rattle.kc_value.specs.Known.{given}
use Rattle.kc_value.proofs.ConditionLemmas.{same_comment_condition}
use Rattle.kc_value.proofs.conditions.comment_condition.Goals as goal

pub returns-in-Some : goal.returns-in-Some
returns-in-Some c = λ a same.
    let t = c.args.known.now.tree in
    let b = given c.args.known.now in
    let found : slice_get t.comments c.args.comment.0 ≡ Some c.in-Some.comment.now = sym c.comment.ensures.comment ∙ ap (λ o. option_copied o) c.in-Some.is in
    c.comment_tri.ensures ∙ ap (λ o. option_map_or (comment_value t b) o No) (sym found) ∙ same_comment_condition t b a same c.args.comment

pub returns-in-None : goal.returns-in-None
returns-in-None c = λ a same.
    let t = c.args.known.now.tree in
    let none : slice_get t.comments c.args.comment.0 ≡ None = sym c.comment.ensures.comment ∙ ap (λ o. option_copied o) c.in-None.is in
    ap (λ o. option_map_or (comment_value t a) o No) (sym none)
