use Rattle.std.proofs.Common.{bytes_eq, None, Some, option_map, string_bytes, if◌then◌else◌, sym, ap, ◌∙◌, arith}
use Rattle.std.proofs.lemmas.Map.Text.{btree_map_updates_text}
use Rattle.kc_text.specs.Sources.{text_of, without}
use Rattle.kc_text.proofs.Counting.{bytes_in-without, len_of}
use Rattle.kc_text.proofs.FileLists.{text_of-file_list, text_of-removed, without-file_list}
use Rattle.kc_text.proofs.files.Sources.take.Goals as goal

pub returns-in_err-text-clause-text : goal.returns-in_err-text-clause-text
returns-in_err-text-clause-text c =
    let path = c.args.path.now in
    c.from_residual.ensures ∙ sym (ap (text_of path) (sym c.self.view_is) ∙ text_of-file_list path c.self.inside.files ∙ ap (option_map string_bytes) (sym c.in_err-text.ensures.value))

pub returns-in_err-text-clause-files : goal.returns-in_err-text-clause-files
returns-in_err-text-clause-files c =
    let path = c.args.path.now in
    without-file_list path c.self.inside.files c.remove.new.self c.remove.ensures.entries ∙ ap (without path) c.self.view_is

pub returns-in_err-text-clause-texts : goal.returns-in_err-text-clause-texts
returns-in_err-text-clause-texts c = λ q.
    let path = c.args.path.now in
    let m = c.self.inside.files in
    let n = c.remove.new.self in
    text_of-removed path m n q (btree_map_updates_text path m n None c.remove.ensures.updates q)
    ∙ ap (λ fs. if bytes_eq path q then None else text_of q fs) c.self.view_is

pub overflow_sub-self : goal.overflow_sub-self
overflow_sub-self c =
    let path = c.args.path.now in
    let split = bytes_in-without path c.self.inside.files c.remove.new.self c.remove.ensures.entries in
    let found = ap len_of c.in_ok-text.ensures.value in
    omega (arith, split, found, c.self.invariant.0, c.len.ensures)

pub invariant_of-self-2 : goal.invariant_of-self-2
invariant_of-self-2 c =
    let path = c.args.path.now in
    let split = bytes_in-without path c.self.inside.files c.remove.new.self c.remove.ensures.entries in
    let found = ap len_of c.in_ok-text.ensures.value in
    let inv = c.self.invariant in
    (omega (arith, split, found, inv.0, c.len.ensures), omega (arith, inv.1), c.remove.ensures.ordered)

pub returns-clause-text : goal.returns-clause-text
returns-clause-text c =
    let path = c.args.path.now in
    ap Some c.new.ensures ∙ sym (ap (text_of path) (sym c.self.view_is) ∙ text_of-file_list path c.self.inside.files ∙ ap (option_map string_bytes) (sym c.in_ok-text.ensures.value))

pub returns-clause-files : goal.returns-clause-files
returns-clause-files c =
    let path = c.args.path.now in
    without-file_list path c.self.inside.files c.remove.new.self c.remove.ensures.entries ∙ ap (without path) c.self.view_is

pub returns-clause-texts : goal.returns-clause-texts
returns-clause-texts c = λ q.
    let path = c.args.path.now in
    let m = c.self.inside.files in
    let n = c.remove.new.self in
    text_of-removed path m n q (btree_map_updates_text path m n None c.remove.ensures.updates q)
    ∙ ap (λ fs. if bytes_eq path q then None else text_of q fs) c.self.view_is
