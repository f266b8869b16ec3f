use Rattle.std.proofs.Common.{◌≡◌, Some, true, false, None, sym, subst, ap, ◌∙◌, ⊎_elim}
use Rattle.std.specs.List.{slice_get}
use Rattle.std.specs.Option.{option_copied}
use Rattle.kc_outline.specs.TreeValue.{kind_of}
use Rattle.kc_statement.specs.SymbolTypes.{is_tri_type}
use Rattle.kc_value.specs.UserValues.{user_value}
use Rattle.kc_bounds.specs.TriSets.{IsIn}
use Rattle.kc_bounds.proofs.SolutionLaws.{member_is, shown_is, text_is}
use Rattle.kc_bounds.proofs.cells.value_of.Goals as goal

pub returns-in-Some-choice : goal.returns-in-Some-choice
returns-in-Some-choice c = λ w u.
    let t = c.args.bounds.now.tree in
    let at : slice_get t.symbols c.args.id.0 ≡ Some c.in-Some.symbol.now = sym c.symbol.ensures ∙ ap (λ o. option_copied o) c.in-Some.is in
    let choice : c.in-Some.symbol.now.choice ≡ Some c.in-Some-choice.choice = sym c.choice.ensures ∙ c.in-Some-choice.is in
    subst (IsIn c.member_set.result) (member_is t w (c.tree.ensures.bounds.solved w) c.args.id c.in-Some.symbol.now c.in-Some-choice.choice at choice) (c.member_set.ensures w u)

pub returns-in-Bool : goal.returns-in-Bool
returns-in-Bool c = λ w u.
    let t = c.args.bounds.now.tree in
    let at : slice_get t.symbols c.args.id.0 ≡ Some c.in-Some.symbol.now = sym c.symbol.ensures ∙ ap (λ o. option_copied o) c.in-Some.is in
    let none : c.in-Some.symbol.now.choice ≡ None = sym c.choice.ensures ∙ c.in-None.is in
    let type : is_tri_type (kind_of c.in-Some.symbol.now) ≡ true =
    ⊎_elim (λ e. ap is_tri_type (sym c.kind.ensures ∙ e)) (λ e. ap is_tri_type (sym c.kind.ensures ∙ e)) c.in-Bool.is in
    subst (IsIn c.shown_set.result) (shown_is t w (c.tree.ensures.bounds.solved w) c.args.id c.in-Some.symbol.now at none type)
    (c.shown_set.ensures w u _ (user_value w c.args.id) (c.node.ensures w u))

pub returns-in-String : goal.returns-in-String
returns-in-String c = λ w u.
    let t = c.args.bounds.now.tree in
    let at : slice_get t.symbols c.args.id.0 ≡ Some c.in-Some.symbol.now = sym c.symbol.ensures ∙ ap (λ o. option_copied o) c.in-Some.is in
    let none : c.in-Some.symbol.now.choice ≡ None = sym c.choice.ensures ∙ c.in-None.is in
    let type : is_tri_type (kind_of c.in-Some.symbol.now) ≡ false =
    ⊎_elim (λ e. ap is_tri_type (sym c.kind.ensures ∙ e)) (λ o. ⊎_elim (λ e. ap is_tri_type (sym c.kind.ensures ∙ e)) (λ e. ap is_tri_type (sym c.kind.ensures ∙ e)) o) c.in-String.is in
    subst (IsIn c.only.result) (text_is t w (c.tree.ensures.bounds.solved w) c.args.id c.in-Some.symbol.now at none type) c.only.ensures
