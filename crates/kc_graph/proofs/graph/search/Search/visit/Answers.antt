use Rattle.std.proofs.Common.{◌<◌, length, ap, arith, get_or-set_same}
use Rattle.kc_graph.specs.declared.graph.search.Mark.TheVariants.{New, Open}
use Rattle.kc_graph.proofs.MarkLaws.{StaysSeen-set}
use Rattle.kc_graph.proofs.SearchSteps.{IsSound-enter, mark_read}
use Rattle.kc_graph.proofs.graph.search.Search.visit.Goals as goal

pub loop-top-init : goal.loop-top-init
loop-top-init c =
    let s = c.args.self.now in
    let marks = s.marks.items in
    let entered = c.in_ok-enter-in-New.ensures in
    let inside : c.args.root < length marks = omega (arith, c.requires.within, c.requires.sound.sized) in
    let new = mark_read marks c.args.root c.index.result.now New inside c.index.ensures c.in-New.is in
    let same = get_or-set_same marks c.args.root (Open (length s.path.items) 0) New inside in
    record {
      sound = rw (entered.marks, entered.path, entered.order) (IsSound-enter c.args.graph.now marks s.path.items s.order.items c.args.root c.requires.sound c.requires.within new (λ h. absurd (omega (arith, h, ap length c.requires.rested))));
      stays = rw entered.marks (StaysSeen-set marks c.args.root (Open (length s.path.items) 0) inside (λ e. (cc)));
      seen = rw entered.marks (λ e. (cc));
    }
