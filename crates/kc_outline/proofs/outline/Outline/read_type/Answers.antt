use Rattle.std.proofs.Common.{refl}
use Rattle.kc_statement.specs.declared.statement.Statement.TheVariants as statement
use Rattle.kc_outline.proofs.outline.Outline.read_type.Goals as goal

pub returns-then-stands_alone-clause-added : goal.returns-then-stands_alone-clause-added
returns-then-stands_alone-clause-added c = λ nearest block choice. record {
  statement = statement.Type c.args.kind;
  says = c.stands_alone.ensures.kind c.args.self.now.names c.args.kind c.requires c.if-stands_alone.true;
  fits = refl;
  few = refl;
  tree = c.in_ok-add_type.ensures;
}
