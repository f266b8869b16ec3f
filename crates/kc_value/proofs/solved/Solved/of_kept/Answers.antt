use Rattle.kc_value.proofs.SolvedLaws.{kept_right}
use Rattle.kc_value.proofs.solved.Solved.of_kept.Goals as goal

pub of_cells-requires : goal.of_cells-requires
of_cells-requires c = kept_right c.args.tree.now c.use_table.ensures.laws c.args.user.now c.args.values.now c.requires.kept
