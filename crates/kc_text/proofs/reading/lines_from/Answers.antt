use Rattle.kc_text.specs.Libraries.{known_files}
use Rattle.kc_text.specs.Names.{texts_in}
use Rattle.kc_text.proofs.MoreLines.{known_fault, known_lines}
use Rattle.kc_text.proofs.reading.lines_from.Goals as goal

pub returns-clause-are : goal.returns-clause-are
returns-clause-are g c = known_lines (λ v. v.items) (known_files c.read_top.new.texts) (texts_in c.args.vars.now) c.args.top.now c.read_top.result c.read_top.ensures.gives

pub returns-clause-fault : goal.returns-clause-fault
returns-clause-fault g c = known_fault (λ v. v.items) (known_files c.read_top.new.texts) (texts_in c.args.vars.now) c.args.top.now c.read_top.result c.read_top.ensures.gives
