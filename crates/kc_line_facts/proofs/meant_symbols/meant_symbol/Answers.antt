use Rattle.std.proofs.Common.{◌≡◌, ◌∙◌, ap, subst, sym}
use Rattle.kc_names.specs.BareNames.{bare_name}
use Rattle.kc_line_facts.specs.DoubtfulNames.{name_of}
use Rattle.kc_line_facts.specs.MeantSymbols.{IsNearestSymbol, IsSoughtAs, owner_name}
use Rattle.kc_line_facts.proofs.meant_symbols.meant_symbol.Goals as goal

pub returns-in-Nearest : goal.returns-in-Nearest
returns-in-Nearest c =
    let t = c.args.tree.now in
    let used = c.args.doubtful.now.used in
    let names = c.args.near.now in
    let found = c.nearest_symbol.result in
    let name : c.bare_name-name.result.now ≡ bare_name c.args.prefix.now (name_of c.args.lines.now used) =
    c.bare_name-name.ensures ∙ ap (bare_name c.args.prefix.now) c.name_of.ensures in
    subst (λ s. IsSoughtAs names t (owner_name t used.owner) (bare_name c.args.prefix.now (name_of c.args.lines.now used)) s found)
    (sym c.in-Nearest.is ∙ c.sought_for.ensures)
    (subst (λ n. IsNearestSymbol names t (owner_name t used.owner) n found) name
    (subst (λ o. IsNearestSymbol names t o c.bare_name-name.result.now found) c.owner_name-excepted.ensures c.nearest_symbol.ensures))
