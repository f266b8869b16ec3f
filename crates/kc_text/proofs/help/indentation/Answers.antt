use Rattle.std.proofs.Common.{IsCharBoundary, subst, sym}
use Rattle.kc_text.specs.Bytes.{is_blank}
use Rattle.kc_text.proofs.Cuts.{boundary_after_run, blank_is_ascii}
use Rattle.kc_text.proofs.help.indentation.Goals as goal

pub split_at-requires : goal.split_at-requires
split_at-requires c =
    let line = c.args.line.now in
    subst (IsCharBoundary line) (sym c.blank_len.ensures.count) (boundary_after_run is_blank blank_is_ascii line c.utf8.line)
