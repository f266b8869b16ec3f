use Rattle.std.proofs.Common.{◌∙◌, subst}
use Rattle.std.specs.Result.{IfOk}
use Rattle.kc_line_facts.specs.MeantSymbols.{AreMeant}
use Rattle.kc_line_facts.proofs.meant_symbols.meant_symbols.Goals as goal

pub returns : goal.returns
returns c =
    subst (λ names. IfOk c.meant_among.result (λ r. AreMeant names c.args.lines.now c.args.tree.now c.args.prefix.now c.args.doubtful.now r.items))
    (c.in_ok-near.ensures ∙ c.in_ok-symbol_names.ensures) c.meant_among.ensures
