use Rattle.std.proofs.Common.{refl, ◌∙◌, ap, length, ◌-◌, arith}
use Rattle.kc_session.proofs.Holding.{held_of-push, held_of-full}
use Rattle.kc_session.proofs.line.LineBuffer.push.Goals as goal

pub returns-then-bytes-room : goal.returns-then-bytes-room
returns-then-bytes-room c = λ line h.
    let same = ap (λ l. length l.kept) c.self.view_is in
    held_of-push c.args.self.now _ line c.args.bytes.now h (omega (arith, same, c.if-bytes-room.true, c.len-room.ensures, c.self.inside.bytes.ok.0)) c.keep.ensures.kept c.keep.ensures.is_cut

pub returns-else-bytes-room : goal.returns-else-bytes-room
returns-else-bytes-room c = λ line h.
    let same = ap (λ l. length l.kept) c.self.view_is in
    held_of-full c.args.self.now _ line c.args.bytes.now (65_538 - c.len-room.result) h (omega (arith, same, c.len-room.ensures, c.self.inside.bytes.ok.0)) (omega (arith, c.if-bytes-room.false))
    (ap (λ l. l.kept) c.self-else-bytes-room.view_is ∙ c.keep-else-bytes-room.ensures.kept) refl
