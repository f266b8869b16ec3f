use Rattle.std.proofs.Common.{length}
use Rattle.kc_tree.proofs.RowLaws.{adds_none}
use Rattle.kc_tree.proofs.uses.reader.Reader.add_choice_defaults.Goals as goal

pub loop-default-init : goal.loop-default-init
loop-default-init c = adds_none (length c.args.self.now.outline.now.symbols) c.args.row.now.items
