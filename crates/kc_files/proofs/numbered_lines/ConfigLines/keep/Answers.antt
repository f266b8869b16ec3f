use Rattle.std.proofs.Common.{◌≡◌, length, arith}
use Rattle.kc_files.proofs.FateLaws.{last_noted}
use Rattle.kc_files.proofs.numbered_lines.ConfigLines.keep.Goals as goal

pub invariant_of-self-2 : goal.invariant_of-self-2
invariant_of-self-2 c =
    let same : c.args.self.now.symbols ≡ length c.self.inside.last.items = cc in
    last_noted c.self.inside.last.items c.self.inside.lines.items c.self.invariant c.args.number c.args.assign c.len-index.result c.push.new.self.items
    (omega (arith, same, c.requires)) (omega (arith, c.len-index.ensures, c.self.inside.lines.ok.0)) c.in_ok-push.ensures.items
