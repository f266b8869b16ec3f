use Rattle.std.proofs.Common.{sym, subst}
use Rattle.std.specs.Prelude.{All}
use Rattle.kc_lines.specs.Named.{IsRemarkOf}
use Rattle.kc_lines.proofs.PartLaws.{All_more}
use Rattle.kc_lines.proofs.finding.part_remarks.Goals as goal

pub loop-part-preserved : goal.loop-part-preserved
loop-part-preserved c =
    subst (All (IsRemarkOf c.args.fault c.args.index.now)) (sym c.in_ok-add_remark.ensures)
    (All_more (IsRemarkOf c.args.fault c.args.index.now) c.loop-part.remarks.items c.in_ok-part_remark.field-0 c.loop-part.invariant c.in_ok-part_remark.ensures)
