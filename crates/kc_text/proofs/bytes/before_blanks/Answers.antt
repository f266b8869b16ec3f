use Rattle.std.proofs.Common.{◌-◌, length, IsCharBoundary, subst, sym, ap}
use Rattle.kc_text.specs.Bytes.{is_blank}
use Rattle.kc_text.proofs.Cuts.{boundary_before_run, blank_is_ascii}
use Rattle.kc_text.proofs.bytes.before_blanks.Goals as goal

pub range-requires-clause-end_boundary : goal.range-requires-clause-end_boundary
range-requires-clause-end_boundary c =
    let text = c.args.text.now in
    let end = ap (λ n. length text - n) c.end_blank_len.ensures.count in
    subst (IsCharBoundary text) (sym end) (boundary_before_run is_blank blank_is_ascii text c.utf8.text)
