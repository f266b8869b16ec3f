use Rattle.std.proofs.Common.{◌+◌, length, bytes_eq, Some, if◌then◌else◌, sym, ap, ◌∙◌, arith}
use Rattle.std.specs.BTreeMap.{get_by_text}
use Rattle.std.specs.Map.{update}
use Rattle.std.proofs.lemmas.Map.Text.{btree_map_updates_text}
use Rattle.kc_text.specs.FileList.{file_list}
use Rattle.kc_text.specs.Sources.{other_bytes, put, text_of}
use Rattle.kc_text.proofs.Counting.{IsCounted-put}
use Rattle.kc_text.proofs.FileLists.{added-ok, put-file_list, text_of-updated}
use Rattle.kc_text.proofs.files.Sources.add_text.Goals as goal

pub invariant_of-self-2 : goal.invariant_of-self-2
invariant_of-self-2 c =
    let path = c.args.path.now in
    let m = c.self.inside.files in
    let e = c.in_ok-insert.ensures in
    let counted = c.totals_with-totals.ensures.bytes ∙ ap (other_bytes path) (sym c.self.view_is) in
    IsCounted-put path m c.insert.new.self c.in_ok-key.key c.into_string.result _ e.was_ordered c.in_ok-key.ensures.ok e.entries e.ordered
    (ap (λ n. n + length c.as_str-len.result.now) counted ∙ ap (λ bs. other_bytes path (file_list m) + length bs) (c.as_str-len.ensures ∙ sym c.into_string.ensures))
    (omega arith)

pub returns-clause-adds : goal.returns-clause-adds
returns-clause-adds c =
    let path = c.args.path.now in
    let text = c.args.text in
    let key = c.in_ok-key.ensures.ok in
    let content = c.into_string.ensures in
    let count = c.totals_with-totals.ensures.files in
    added-ok path text c.args.self.now _ (omega (arith, count)) (omega (arith, ap length c.as_str-len.ensures))
    (put-file_list path text c.in_ok-key.key c.into_string.result c.self.inside.files c.insert.new.self key content c.in_ok-insert.ensures.entries ∙ ap (put path text) c.self.view_is)

pub returns-clause-texts : goal.returns-clause-texts
returns-clause-texts c = λ q.
    let path = c.args.path.now in
    let text = c.args.text in
    let m = c.self.inside.files in
    let n = c.insert.new.self in
    let value = c.into_string.result in
    let updates = btree_map_updates_text _ m n (Some value) c.in_ok-insert.ensures.updates q in
    text_of-updated path text value m n c.into_string.ensures q (updates ∙ ap (λ bs. update bytes_eq (get_by_text m) bs (Some value) q) c.in_ok-key.ensures.ok)
    ∙ ap (λ fs. if bytes_eq path q then Some text else text_of q fs) c.self.view_is
