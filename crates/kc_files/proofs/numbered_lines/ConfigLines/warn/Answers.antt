use Rattle.kc_files.proofs.FateLaws.{last_kept}
use Rattle.kc_files.proofs.numbered_lines.ConfigLines.warn.Goals as goal

pub invariant_of-self-2 : goal.invariant_of-self-2
invariant_of-self-2 c =
    last_kept c.self.inside.last.items c.self.inside.lines.items c.self.invariant c.args.number c.args.kind c.push-2.new.self.items c.in_ok-push-2.ensures.items
