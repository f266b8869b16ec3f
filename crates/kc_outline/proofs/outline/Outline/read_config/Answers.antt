use Rattle.std.proofs.Common.{◌≡◌, refl, Some, None, ap, subst, List, ℕ}
use Rattle.kc_statement.specs.declared.statement.Statement.TheVariants as statement
use Rattle.kc_statement.specs.declared.keyword.Keyword.TheVariants as keyword
use Rattle.kc_statement.specs.LineParts.{SaysOnly}
use Rattle.kc_outline.specs.Adding.{with_reading}
use Rattle.kc_outline.specs.ContextAfter.{owner_made}
use Rattle.kc_outline.specs.Enclosing.{choice_among, innermost}
use Rattle.kc_outline.proofs.AddedLaws.{not_too_deep}
use Rattle.kc_outline.proofs.outline.Outline.read_config.Goals as goal

pub returns-clause-added : goal.returns-clause-added
returns-clause-added c =
    let old = c.args.self.now in
    let line = c.args.line.now in
    let p = c.args.context.now in
    let symbol = c.in-Some.symbol in
    let says : SaysOnly old.names line (statement.Config (Some symbol)) = subst (λ (ns : List (List ℕ)). SaysOnly ns line (statement.Config (Some symbol))) (ap (λ t. t.names) c.self.view_is) (rw c.in-Some.is at c.in_ok-symbol.ensures) in
    let made : c.add_definition.new.self ≡ with_reading old (record { statement = statement.Config (Some symbol); block = c.innermost.result; choice = c.choice.result; owner = c.made_by-owner.result }) = c.in_ok-add_definition.ensures in
    let tree : c.add_definition.new.self ≡ with_reading old (record { statement = statement.Config (Some symbol); block = innermost p.stack; choice = choice_among p.stack; owner = owner_made keyword.Config (Some symbol) p.definitions p.blocks p.choices p.comments }) =
    rw (c.innermost.ensures, c.choice.ensures, c.made_by-owner.ensures) at made in
    record {
      added = record { statement = statement.Config (Some symbol); says = says; fits = refl; few = refl; tree = tree };
      shallow = not_too_deep p.stack line keyword.Config c.requires.keyword refl;
      symbol_is = refl;
    }

pub returns-in_default-clause-stop : goal.returns-in_default-clause-stop
returns-in_default-clause-stop c = λ nearest.
    let old = c.args.self.now in
    let line = c.args.line.now in
    let says : SaysOnly old.names line (statement.Config None) = subst (λ (ns : List (List ℕ)). SaysOnly ns line (statement.Config None)) (ap (λ t. t.names) c.self.view_is) (rw c.in_default.is at c.in_ok-symbol.ensures) in
    ((refl, statement.Config None, says, refl, refl), refl)
