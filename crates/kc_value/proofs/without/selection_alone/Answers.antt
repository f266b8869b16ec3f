use Rattle.std.proofs.Common.{◌≡◌, Some, None, sym, ap, ◌∙◌}
use Rattle.std.specs.List.{slice_get}
use Rattle.std.specs.Option.{option_copied}
use Rattle.kc_value.specs.declared.value.Value.TheVariants.{Member}
use Rattle.kc_value.specs.Known.{given}
use Rattle.kc_value.proofs.WithoutLemmas.{alone_found, alone_none}
use Rattle.kc_value.proofs.without.selection_alone.Goals as goal

pub returns-in-Some : goal.returns-in-Some
returns-in-Some c = λ u.
    let t = c.args.known.now.tree in
    let x = c.in-Some.found.now in
    let found : slice_get t.choices c.args.choice.0 ≡ Some x = sym c.choice.ensures.choice ∙ ap (λ o. option_copied o) c.in-Some.is in
    ap Member c.selection_value.ensures ∙ alone_found t u (given c.args.known.now) c.args.choice x found

pub returns-in-None : goal.returns-in-None
returns-in-None c = λ u.
    let t = c.args.known.now.tree in
    let none : slice_get t.choices c.args.choice.0 ≡ None = sym c.choice.ensures.choice ∙ ap (λ o. option_copied o) c.in-None.is in
    alone_none t u (given c.args.known.now) c.args.choice none
