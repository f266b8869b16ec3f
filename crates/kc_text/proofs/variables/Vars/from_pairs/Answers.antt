use Rattle.std.proofs.Common.{◌≡◌, [], Some, None, map, sym, ap, ◌∙◌, bytes_eq, slice_index_or, arith}
use Rattle.std.specs.BTreeMap.{get_by_text}
use Rattle.std.specs.Map.{update}
use Rattle.std.proofs.lemmas.Map.Text.{btree_map_updates_text}
use Rattle.kc_text.specs.Expansion.{texts_in}
use Rattle.kc_text.specs.FileList.{file_of, file_list}
use Rattle.kc_text.specs.Vars.{text_problem}
use Rattle.kc_text.proofs.Pairs.{LentPair, pair_of, after_left, vars_of-after_pairs, pair_goes_on, pair_fails, pairs_end, texts_in-updated, fails_at}
use Rattle.kc_text.proofs.variables.Vars.from_pairs.Goals as goal

abbrev no_pair : LentPair
no_pair = (record { ref_ptr = (0, 0); now = [] }, record { ref_ptr = (0, 0); now = [] })

pub loop-name-init : goal.loop-name-init
loop-name-init c =
    let pairs = c.args.pairs.now in
    vars_of-after_pairs (map pair_of pairs) ∙ ap (λ es. after_left pairs (texts_in (map file_of es))) (sym c.new-texts.ensures.empty)

pub returns-in-Some : goal.returns-in-Some
returns-in-Some c =
    let pairs = c.args.pairs.now in
    let i = c.loop-name.name-index in
    let p = slice_index_or pairs i no_pair in
    let found : text_problem p.1.now ≡ Some c.in-Some.problem = sym c.text_problem.ensures ∙ c.in-Some.is in
    fails_at c.at.result c.in-Some.problem p.0.now 0 _ c.at.ensures
    (pair_fails pairs i no_pair (texts_in (file_list c.loop-name.texts)) (omega arith) c.loop-name.invariant c.in-Some.problem found)

pub loop-name-preserved : goal.loop-name-preserved
loop-name-preserved c =
    let pairs = c.args.pairs.now in
    let i = c.loop-name.name-index in
    let p = slice_index_or pairs i no_pair in
    let m = c.loop-name.texts in
    let n = c.insert.new.self in
    let content = c.in_ok-content.content in
    let fine : text_problem p.1.now ≡ None = sym c.text_problem.ensures ∙ c.in_default.is in
    pair_goes_on pairs i no_pair (texts_in (file_list m)) (omega arith) c.loop-name.invariant fine _
    (texts_in-updated (pair_of p) content m n c.in_ok-content.ensures.ok (λ q.
    btree_map_updates_text _ m n (Some content) c.in_ok-insert.ensures.updates q
    ∙ ap (λ bs. update bytes_eq (get_by_text m) bs (Some content) q) c.in_ok-key.ensures.ok))

pub returns : goal.returns
returns c = pairs_end c.args.pairs.now c.loop-name.name-index _ (omega arith) c.loop-name.invariant
