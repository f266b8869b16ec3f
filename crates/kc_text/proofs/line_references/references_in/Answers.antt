use Rattle.std.proofs.Common.{◌≡◌, ◌∙◌, ◌++◌, [], ap, subst, sym}
use Rattle.std.specs.Option.{IfNone}
use Rattle.std.proofs.lemmas.List.{append-nil}
use Rattle.kc_text.specs.Lexing.{raw_tokens}
use Rattle.kc_text.specs.LineReferences.{lent_names, names_shown}
use Rattle.kc_text.proofs.LineNames.{no_references, shown_references}
use Rattle.kc_text.proofs.line_references.references_in.Goals as goal

pub returns-then-plain_len-line : goal.returns-then-plain_len-line
returns-then-plain_len-line c =
    shown_references c.args.line.now (lent_names c.new-names.result.items)
    (ap lent_names c.new-names.ensures.items ∙ sym (no_references c.args.line.now (sym c.plain_len.ensures.count ∙ c.if-plain_len-line.true)))

pub returns : goal.returns
returns c =
    let names = lent_names c.loop-names.names.items in
    let rest = c.loop-names.rest.now in
    let none = subst (λ o. IfNone o (raw_tokens rest ≡ [])) c.in_default.is c.in_ok-token.ensures.none in
    shown_references c.args.line.now names
    (sym (append-nil names) ∙ ap (λ ts. names ++ names_shown ts) (sym none) ∙ c.loop-names.invariant.found)
