use Rattle.kc_names.proofs.BareLaws.{stripped}
use Rattle.kc_names.proofs.bare_names.without_prefix.Goals as goal

pub returns : goal.returns
returns c = stripped c.args.prefix.now c.args.name.now c.strip_prefix.result c.strip_prefix.ensures.cases
