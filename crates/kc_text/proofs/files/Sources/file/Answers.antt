use Rattle.std.proofs.Common.{◌≡◌, ◌≤◌, Some, option_map, string_bytes, bytes_eq, true, length, ap, sym, ◌∙◌, arith}
use Rattle.std.specs.BTreeMap.{get_by_text}
use Rattle.std.specs.Ordering.{is_eq}
use Rattle.std.proofs.lemmas.Map.Text.{is_eq-slice_cmp}
use Rattle.std.proofs.lemmas.Slice.Eq.{bytes_eq-Decides}
use Rattle.kc_text.specs.FileList.{bytes_in}
use Rattle.kc_text.specs.Sources.{text_of}
use Rattle.kc_text.proofs.Counting.{bytes_in-split, len_of}
use Rattle.kc_text.proofs.FileLists.{text_of-file_list}
use Rattle.kc_text.proofs.files.Sources.file.Goals as goal

pub returns-in_err-path-clause-found : goal.returns-in_err-path-clause-found
returns-in_err-path-clause-found c =
    let path = c.args.path.now in
    rw c.from_residual.ensures (ap (text_of path) (sym c.self.view_is) ∙ text_of-file_list path c.self.inside.files ∙ ap (option_map string_bytes) (sym c.in_err-path.ensures.value))

pub returns-clause-found : goal.returns-clause-found
returns-clause-found c =
    let path = c.args.path.now in
    let same : bytes_eq path (string_bytes c.in_ok-path.path.now) ≡ true = sym (is_eq-slice_cmp path (string_bytes c.in_ok-path.path.now)) ∙ ap is_eq c.in_ok-path.ensures.same_key in (
      c.as_str.ensures.value ∙ sym ((bytes_eq-Decides path (string_bytes c.in_ok-path.path.now)).0 same),
      ap (text_of path) (sym c.self.view_is) ∙ text_of-file_list path c.self.inside.files ∙ ap (option_map string_bytes) (sym c.in_ok-path.ensures.value) ∙ ap Some (sym c.as_str-2.ensures.value),
    )

pub returns-clause-short : goal.returns-clause-short
returns-clause-short c =
    let files = c.self.inside.files in
    let within = c.self.invariant in
    let all : bytes_in files ≤ 16777216 = omega (arith, within.0, within.1) in
    let this : length (string_bytes c.in_ok-path.text.now) ≡ len_of (get_by_text files c.args.path.now) = ap len_of c.in_ok-path.ensures.value in
    omega (arith, all, this, bytes_in-split c.args.path.now files within.2, ap length c.as_str-2.ensures.value)
