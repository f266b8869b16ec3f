use Rattle.std.proofs.Common.{◌∷◌, [], sym, subst}
use Rattle.kc_statement.specs.Grammar.{Derives}
use Rattle.kc_statement.specs.Places.{GoesOn}
use Rattle.kc_statement.proofs.MistakeLaws.{placed_at}
use Rattle.kc_statement.proofs.PlacedLaws.{lone_goes_on}
use Rattle.kc_statement.proofs.FrontLaws.{lone_none, lone_term_is}
use Rattle.kc_statement.proofs.parser.Parser.lone_expression.Goals as goal

pub returns-clause-read : goal.returns-clause-read
returns-clause-read c =
    let term = rw c.in-Some.is at c.in_ok-term.ensures in
    rw c.alone.ensures.formula (lone_term_is _ _ _ _ term)

pub returns-in_default-clause-mistake : goal.returns-in_default-clause-mistake
returns-in_default-clause-mistake c = λ at.
    let none = rw c.in_default.is at c.in_ok-term.ensures in
    lone_none _ _ _ none

pub returns-in_default-clause-place : goal.returns-in_default-clause-place
returns-in_default-clause-place c =
    let names = c.args.self.now.names.now in
    placed_at _ _ _ c.wants.ensures (subst (GoesOn (Derives c.args.kind names) (c.args.token.now ∷ [])) (sym c.left_at.ensures) (lone_goes_on c.args.kind names c.args.token.now))
