use Rattle.std.proofs.Common.{◌≡◌, ◌∙◌, ◌++◌, [], List, OnOk, ap, subst, sym}
use Rattle.std.specs.Option.{option_map_or}
use Rattle.kc_line_facts.specs.declared.doubtful_uses.DoubtfulUse.{DoubtfulUse}
use Rattle.kc_line_facts.specs.DoubtfulUses.{context_of, uses_in}
use Rattle.kc_line_facts.proofs.doubtful_uses.add_line.Goals as goal

pub returns : goal.returns
returns c =
    let t = c.args.tree.now in
    let i = c.args.index in
    let owner = c.args.owner in
    let tokens = c.args.line.now.tokens in
    let same =
    ap (λ u. uses_in t i u c.tokens-tokens.result.now) c.context_of-context.ensures
    ∙ ap (λ ts. uses_in t i (context_of t owner c.in-Some.word ts) ts) c.tokens-tokens.ensures
    ∙ ap (λ o. option_map_or (λ w. uses_in t i (context_of t owner w tokens) tokens) o []) (sym c.in-Some.is ∙ c.read_keyword.ensures)
    in
    subst (λ (more : List DoubtfulUse). OnOk c.add_uses.result (c.add_uses.new.found.items ≡ c.args.found.now.items ++ more)) same c.add_uses.ensures
