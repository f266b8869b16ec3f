use Rattle.std.proofs.Common.{IsCharBoundary, subst, sym}
use Rattle.kc_text.specs.Bytes.{is_name}
use Rattle.kc_text.proofs.Cuts.{boundary_after_run, name_is_ascii}
use Rattle.kc_text.proofs.expansion.reference.Goals as goal

pub split_at-requires : goal.split_at-requires
split_at-requires c =
    let inside = c.text_after-inside.result.now in
    subst (IsCharBoundary inside) (sym c.name_len.ensures.count) (boundary_after_run is_name name_is_ascii inside c.text_after-inside.utf8)
