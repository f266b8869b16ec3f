use Rattle.std.proofs.Common.{◌≡◌, ◌∷◌, [], Some, sym, ap, ◌∙◌, filter}
use Rattle.std.specs.List.{list_any, slice_get}
use Rattle.std.specs.Option.{option_copied}
use Rattle.std.proofs.lemmas.Result.{IfOk-weaker}
use Rattle.kc_outline.specs.TreeValue.{kind_of}
use Rattle.kc_statement.specs.declared.tri.Tri.TheVariants.{No, Module, Yes}
use Rattle.kc_tree.specs.declared.user_value.UserVal.TheVariants.{Tri as TriVal}
use Rattle.kc_value.specs.Assignable.{is_shown_with_some, same_tri, values_of_type}
use Rattle.kc_value.specs.Known.{given}
use Rattle.kc_value.specs.LineValues.{shown_by}
use Rattle.kc_value.proofs.AssignableLemmas.{shown_is}
use Rattle.kc_value.proofs.assignable_values.shown_values.Goals as goal

pub returns : goal.returns
returns c = λ u sized.
    let t = c.args.known.now.tree in
    let a = given c.args.known.now in
    let s = c.args.id in
    let x = c.in-Some.symbol.now in
    let lines = c.line_values-lines in
    let visibility = c.tri-visibility in
    let values = c.values_of_type.result.now in
    let found : slice_get t.symbols s.0 ≡ Some x = sym c.symbol.ensures.symbol ∙ ap (λ o. option_copied o) c.in-Some.is in
    let type : values ≡ values_of_type (kind_of x) = c.values_of_type.ensures ∙ ap values_of_type c.kind.ensures in
    IfOk-weaker c.shown_with_some.result
    (λ v. v.items ≡ filter (λ w. list_any (λ g. same_tri (shown_by lines.result visibility.result (Some (TriVal g))) w) values) (No ∷ Module ∷ Yes ∷ []))
    (λ v. v.items ≡ filter (is_shown_with_some t u a s) (No ∷ Module ∷ Yes ∷ []))
    (λ v is. shown_is t u a s sized x c.requires.inside found c.requires.alone lines.result visibility.result values v.items
    lines.ensures.default lines.ensures.implied lines.ensures.selected lines.ensures.direct lines.ensures.modules visibility.ensures.value type is)
    c.shown_with_some.ensures
