use Rattle.std.proofs.Common.{◌≡◌, Some, None, ap, sym, ◌∙◌}
use Rattle.std.specs.List.{slice_get}
use Rattle.std.specs.Option.{option_copied, option_map_or}
use Rattle.kc_statement.specs.declared.tri.Tri.TheVariants.{No}
use Rattle.kc_value.specs.Conditions.{menu_value}
use Rattle.kc_value.specs.Known.{given}
use Rattle.kc_value.proofs.ConditionLemmas.{same_menu_condition}
use Rattle.kc_value.proofs.conditions.menu_condition.Goals as goal

pub returns-in-Some : goal.returns-in-Some
returns-in-Some c = λ a same.
    let t = c.args.known.now.tree in
    let b = given c.args.known.now in
    let found : slice_get t.blocks c.args.menu.0 ≡ Some c.in-Some.block.now = sym c.block.ensures.block ∙ ap (λ o. option_copied o) c.in-Some.is in
    c.menu_tri.ensures ∙ ap (λ o. option_map_or (menu_value t b) o No) (sym found) ∙ same_menu_condition t b a same c.args.menu

pub returns-in-None : goal.returns-in-None
returns-in-None c = λ a same.
    let t = c.args.known.now.tree in
    let none : slice_get t.blocks c.args.menu.0 ≡ None = sym c.block.ensures.block ∙ ap (λ o. option_copied o) c.in-None.is in
    ap (λ o. option_map_or (menu_value t a) o No) (sym none)
