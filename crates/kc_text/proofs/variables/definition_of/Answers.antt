use Rattle.std.proofs.Common.{IsCharBoundary, subst, sym}
use Rattle.kc_text.specs.Bytes.{is_name}
use Rattle.kc_text.proofs.Cuts.{boundary_after_run, name_is_ascii}
use Rattle.kc_text.proofs.variables.definition_of.Goals as goal

pub split_at-requires : goal.split_at-requires
split_at-requires c =
    let line = c.behind_blanks-line.result.now in
    subst (IsCharBoundary line) (sym c.name_len-len.ensures.count) (boundary_after_run is_name name_is_ascii line c.behind_blanks-line.utf8)
