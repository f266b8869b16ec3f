use Rattle.std.proofs.Common.{◌≡◌, ◌==◌, false, subst, refl, ◌∷◌, Some, None, sym, ap, ◌∙◌}
use Rattle.kc_statement.specs.declared.statement.Statement.TheVariants as statement
use Rattle.kc_statement.specs.Keywords.{keyword_of, is_attribute_word}
use Rattle.kc_statement.specs.LineParts.{SaysOnly}
use Rattle.kc_outline.specs.ContextAfter.{IsContextAfter}
use Rattle.kc_outline.specs.Enclosing.{choice_among, innermost}
use Rattle.kc_outline.specs.LineFaults.{early_problem}
use Rattle.kc_outline.specs.Reader.{IsAdded, IsEntered, owner_after}
use Rattle.kc_outline.proofs.AddedLaws.{next_added, not_too_deep, found_added, owned_after, end_said, end_shallow}
use Rattle.kc_outline.proofs.ContextLaws.{IsContextAfter-attribute, no_opener}
use Rattle.kc_outline.proofs.reading.read_line.Goals as goal

pub returns-in_default-keyword-clause-outline : goal.returns-in_default-keyword-clause-outline
returns-in_default-keyword-clause-outline c = λ earlier before at.
    let old = c.args.outline.now in
    let line = c.args.line.now in
    let p = c.args.context.now in
    let q = c.pass.new.self in
    let none : keyword_of line ≡ None = sym c.requires.keyword ∙ c.in_default-keyword.is in
    let early : early_problem earlier (c.args.following == 0) line ≡ None = sym (c.early_problem.ensures earlier at.stack at.statement) ∙ c.in_default.is in
    let says : SaysOnly old.names line statement.EndOfFile = end_said old.names earlier (c.args.following == 0) line none early in
    let end : IsAdded p.statement (innermost p.stack) (choice_among p.stack) None line old old = record { statement = statement.EndOfFile; says = says; fits = refl; few = refl; tree = refl } in
    let added : IsAdded p.statement (innermost p.stack) (choice_among p.stack) q.owner line old old =
    subst (λ o. IsAdded p.statement (innermost p.stack) (choice_among p.stack) o line old old) (sym c.in_ok-pass.ensures.owner) end in
    let after : IsContextAfter old.names (line ∷ earlier) q = c.in_ok-pass.ensures.known old.names earlier statement.EndOfFile at says.form refl in
    next_added c.args.following earlier line p q old old early (end_shallow p.stack line none) added before at after

pub returns-in_default-keyword-clause-sound : goal.returns-in_default-keyword-clause-sound
returns-in_default-keyword-clause-sound c = λ earlier at.
    let old = c.args.outline.now in
    let line = c.args.line.now in
    let p = c.args.context.now in
    let none : keyword_of line ≡ None = sym c.requires.keyword ∙ c.in_default-keyword.is in
    let early : early_problem earlier (c.args.following == 0) line ≡ None = sym (c.early_problem.ensures earlier at.stack at.statement) ∙ c.in_default.is in
    let says : SaysOnly old.names line statement.EndOfFile = end_said old.names earlier (c.args.following == 0) line none early in
    found_added earlier (c.args.following == 0) line p (innermost p.stack) (choice_among p.stack) None old old early (end_shallow p.stack line none) at
    (record { statement = statement.EndOfFile; says = says; fits = refl; few = refl; tree = refl })

pub returns-then-branch-clause-outline : goal.returns-then-branch-clause-outline
returns-then-branch-clause-outline c = λ earlier before at.
    let line = c.args.line.now in
    let p = c.args.context.now in
    let old = c.args.outline.now in
    let word = c.in-Some-keyword.word in
    let is : keyword_of line ≡ Some word = sym c.requires.keyword ∙ c.in-Some-keyword.is in
    let early : early_problem earlier (c.args.following == 0) line ≡ None = sym (c.early_problem.ensures earlier at.stack at.statement) ∙ c.in_default.is in
    let attribute = c.in_ok-add_attribute.ensures.attribute c.if-branch.true in
    let after : IsContextAfter old.names (line ∷ earlier) p = IsContextAfter-attribute old.names line earlier p p at word is attribute refl in
    next_added c.args.following earlier line p p old c.add_attribute.new.self early (not_too_deep p.stack line word is (no_opener word attribute))
    (c.in_ok-add_attribute.ensures.added c.if-branch.true (innermost p.stack) (choice_among p.stack)) before at after

pub returns-then-branch-clause-names : goal.returns-then-branch-clause-names
returns-then-branch-clause-names c =
    let p = c.args.context.now in
    let added = c.in_ok-add_attribute.ensures.added c.if-branch.true (innermost p.stack) (choice_among p.stack) in
    ap (λ t. t.names) added.tree

pub returns-then-branch-clause-sound : goal.returns-then-branch-clause-sound
returns-then-branch-clause-sound c = λ earlier at.
    let line = c.args.line.now in
    let p = c.args.context.now in
    let old = c.args.outline.now in
    let word = c.in-Some-keyword.word in
    let is : keyword_of line ≡ Some word = sym c.requires.keyword ∙ c.in-Some-keyword.is in
    let early : early_problem earlier (c.args.following == 0) line ≡ None = sym (c.early_problem.ensures earlier at.stack at.statement) ∙ c.in_default.is in
    let attribute = c.in_ok-add_attribute.ensures.attribute c.if-branch.true in
    found_added earlier (c.args.following == 0) line p (innermost p.stack) (choice_among p.stack) p.owner old c.add_attribute.new.self early (not_too_deep p.stack line word is (no_opener word attribute)) at
    (c.in_ok-add_attribute.ensures.added c.if-branch.true (innermost p.stack) (choice_among p.stack))

pub returns-clause-outline : goal.returns-clause-outline
returns-clause-outline c = λ earlier before at.
    let line = c.args.line.now in
    let p = c.args.context.now in
    let old = c.args.outline.now in
    let word = c.in-Some-keyword.word in
    let is : keyword_of line ≡ Some word = sym c.requires.keyword ∙ c.in-Some-keyword.is in
    let early : early_problem earlier (c.args.following == 0) line ≡ None = sym (c.early_problem.ensures earlier at.stack at.statement) ∙ c.in_default.is in
    let other : is_attribute_word word ≡ false = c.in_ok-add_attribute.ensures.other c.if-branch.false in
    let made : IsEntered p word c.in_ok-symbol.symbol line c.add_attribute.new.self c.add_statement.new.self = c.in_ok-symbol.ensures.added in
    let entered : IsEntered p word c.in_ok-symbol.symbol line old c.add_statement.new.self =
    subst (λ t. IsEntered p word c.in_ok-symbol.symbol line t c.add_statement.new.self) (c.in_ok-add_attribute.ensures.unchanged c.if-branch.false) made in
    let q = c.pass-2.new.self in
    let after : IsContextAfter old.names (line ∷ earlier) q = c.in_ok-pass-2.ensures.known old.names earlier entered.added.statement at entered.added.says.form entered.symbol_is in
    let owner : q.owner ≡ owner_after p (Some word) c.in_ok-symbol.symbol = c.in_ok-pass-2.ensures.owner in
    next_added c.args.following earlier line p q old c.add_statement.new.self early entered.shallow
    (owned_after p line word is old c.add_statement.new.self c.in_ok-symbol.symbol q other owner entered) before at after
