use Rattle.std.proofs.Common.{subst, List, ℕ, ◌≡◌, true, refl, sym, ap, ◌∙◌}
use Rattle.kc_statement.specs.LineParts.{SaysOnly}
use Rattle.kc_statement.specs.declared.statement.Statement.TheVariants as statement
use Rattle.kc_outline.specs.LineFaults.{is_name_term, is_no_choice_default}
use Rattle.kc_outline.proofs.outline.Outline.read_default.Goals as goal

pub returns-then-not-is_name_term-clause-stop : goal.returns-then-not-is_name_term-clause-stop
returns-then-not-is_name_term-clause-stop c =
    let says : SaysOnly c.args.self.now.names c.args.line.now (statement.Default c.in_ok-default.default) =
    subst (λ (ns : List (List ℕ)). SaysOnly ns c.args.line.now (statement.Default c.in_ok-default.default)) (ap (λ t. t.names) c.self.view_is) (c.in_ok-default.ensures.part c.requires) in
    let refused : is_no_choice_default c.args.nearest (statement.Default c.in_ok-default.default) ≡ true =
    rw (sym c.is_of_choice.ensures ∙ c.if-is_of_choice.true, ap is_name_term (sym c.term_alone.ensures) ∙ sym c.is_name_term.ensures ∙ c.if-not-is_name_term.true) refl in
    ((refl, statement.Default c.in_ok-default.default, says, refused), refl)
