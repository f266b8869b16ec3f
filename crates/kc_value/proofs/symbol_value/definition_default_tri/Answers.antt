use Rattle.std.proofs.Common.{sym, ap, ◌∙◌}
use Rattle.kc_statement.specs.Tristate.{is_no}
use Rattle.kc_value.specs.Known.{given}
use Rattle.kc_value.proofs.DefaultLemmas.{no_default}
use Rattle.kc_value.proofs.symbol_value.definition_default_tri.Goals as goal

pub returns-then-is_no : goal.returns-then-is_no
returns-then-is_no c =
    let t = c.args.known.now.tree in
    no_default t (given c.args.known.now) c.args.definition.now (ap is_no (sym c.requires) ∙ sym c.is_no.ensures ∙ c.if-is_no.true)
