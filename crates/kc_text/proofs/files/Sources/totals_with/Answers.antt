use Rattle.std.proofs.Common.{◌+◌, true, false, is_some, sym, ap, ◌∙◌, arith}
use Rattle.kc_text.specs.Sources.{count_with, other_bytes}
use Rattle.kc_text.proofs.Counting.{len_of, bytes_in-split}
use Rattle.kc_text.proofs.FileLists.{count_with-file_list}
use Rattle.kc_text.proofs.files.Sources.totals_with.Goals as goal

pub returns-in-Some-clause-files : goal.returns-in-Some-clause-files
returns-in-Some-clause-files c =
    let path = c.args.path.now in
    c.len.ensures.len ∙ sym (count_with-file_list path c.self.inside.files true (ap is_some c.in-Some.ensures.value)) ∙ ap (count_with path) c.self.view_is

pub returns-in-None-clause-files : goal.returns-in-None-clause-files
returns-in-None-clause-files c =
    let path = c.args.path.now in
    ap (λ n. n + 1) c.len-in-None.ensures.len ∙ sym (count_with-file_list path c.self.inside.files false (ap is_some c.in-None.ensures.value)) ∙ ap (count_with path) c.self.view_is

pub returns-in-Some-clause-bytes : goal.returns-in-Some-clause-bytes
returns-in-Some-clause-bytes c =
    let path = c.args.path.now in
    let text = c.in-Some.text.now in
    let split = bytes_in-split path c.self.inside.files c.self.invariant.2 in
    let found = ap len_of c.in-Some.ensures.value in
    let viewed = ap (other_bytes path) c.self.view_is in
    omega (arith, split, found, viewed, c.self.invariant.0, c.len-in-Some.ensures, text.bytes.ok.0)

pub returns-in-None-clause-bytes : goal.returns-in-None-clause-bytes
returns-in-None-clause-bytes c =
    let path = c.args.path.now in
    let split = bytes_in-split path c.self.inside.files c.self.invariant.2 in
    let found = ap len_of c.in-None.ensures.value in
    let viewed = ap (other_bytes path) c.self.view_is in
    omega (arith, split, found, viewed, c.self.invariant.0)
