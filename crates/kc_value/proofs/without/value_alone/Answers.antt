use Rattle.std.proofs.Common.{◌≡◌, Some, None, sym, ap, ◌∙◌}
use Rattle.std.specs.List.{slice_get}
use Rattle.std.specs.Option.{option_copied}
use Rattle.std.proofs.lemmas.Result.{IfOk-weaker}
use Rattle.kc_tree.specs.declared.node.Node.TheVariants.{Val}
use Rattle.kc_value.specs.Known.{given}
use Rattle.kc_value.specs.Rule.{rule, symbol_rule}
use Rattle.kc_value.specs.UserValues.{with_value}
use Rattle.kc_value.proofs.WithoutLemmas.{without_found, without_none}
use Rattle.kc_value.proofs.without.value_alone.Goals as goal

pub returns-in-Some : goal.returns-in-Some
returns-in-Some c = λ u.
    let t = c.args.known.now.tree in
    let a = given c.args.known.now in
    let s = c.args.symbol in
    let x = c.in-Some.found.now in
    let found : slice_get t.symbols s.0 ≡ Some x = sym c.symbol.ensures.symbol ∙ ap (λ o. option_copied o) c.in-Some.is in
    let last = ap (λ v. symbol_rule t a s x v None) c.tri-visibility.ensures.value ∙ without_found t u a s x found in
    IfOk-weaker c.symbol_value.result (λ v. v ≡ symbol_rule t a s x c.tri-visibility.result None) (λ v. v ≡ rule t (with_value u s None) a (Val s))
    (λ v is. is ∙ last) c.symbol_value.ensures

pub returns-in-None : goal.returns-in-None
returns-in-None c = λ u.
    let t = c.args.known.now.tree in
    let none : slice_get t.symbols c.args.symbol.0 ≡ None = sym c.symbol.ensures.symbol ∙ ap (λ o. option_copied o) c.in-None.is in
    without_none t u (given c.args.known.now) c.args.symbol none
