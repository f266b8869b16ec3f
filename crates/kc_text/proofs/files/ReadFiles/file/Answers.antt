use Rattle.std.proofs.Common.{◌≡◌, option_map, bytes_eq, true, ap, sym, ◌∙◌, arith}
use Rattle.std.specs.Ordering.{is_eq}
use Rattle.std.proofs.lemmas.Map.Text.{is_eq-slice_cmp}
use Rattle.std.proofs.lemmas.Slice.Eq.{bytes_eq-Decides}
use Rattle.kc_text.specs.LentFiles.{lent_files}
use Rattle.kc_text.specs.Sources.{text_of}
use Rattle.kc_text.proofs.LentLists.{text-within, text_of-lent_files}
use Rattle.kc_text.proofs.files.ReadFiles.file.Goals as goal

pub returns-in_err-path-clause-found : goal.returns-in_err-path-clause-found
returns-in_err-path-clause-found c =
    let path = c.args.path.now in
    rw c.from_residual.ensures (ap (text_of path) (sym c.self.view_is) ∙ text_of-lent_files path c.self.inside.files ∙ ap (option_map (λ v. v.now)) (sym c.in_err-path.ensures.value))

pub returns-clause-found : goal.returns-clause-found
returns-clause-found c =
    let path = c.args.path.now in
    let same : bytes_eq path c.in_ok-path.path.now.now ≡ true = sym (is_eq-slice_cmp path c.in_ok-path.path.now.now) ∙ ap is_eq c.in_ok-path.ensures.same_key in (
      sym ((bytes_eq-Decides path c.in_ok-path.path.now.now).0 same),
      ap (text_of path) (sym c.self.view_is) ∙ text_of-lent_files path c.self.inside.files ∙ ap (option_map (λ v. v.now)) (sym c.in_ok-path.ensures.value),
    )

pub returns-clause-short : goal.returns-clause-short
returns-clause-short c =
    let files = c.self.inside.files in
    let here = text-within c.args.path.now c.in_ok-path.text.now.now (lent_files files) (text_of-lent_files c.args.path.now files ∙ ap (option_map (λ v. v.now)) (sym c.in_ok-path.ensures.value)) in
    omega (arith, here, c.self.invariant.0, c.self.invariant.1)
