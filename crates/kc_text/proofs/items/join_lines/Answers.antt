use Rattle.std.proofs.Common.{◌≡◌, ◌∙◌, ◌+◌, ◌∷◌, ◌++◌, length, true, false, suc, string_bytes, drop, append_assoc, ap, sym, arith, rules, tests, drop-drop}
use Rattle.std.specs.Str.Lines.{lines}
use Rattle.std.proofs.lemmas.List.{nil_from_length}
use Rattle.kc_text.specs.Items.{before_backslash, ends_in_backslash, joined, joined_more}
use Rattle.kc_text.proofs.Joining.{joined-on, joined_more-on, joined_more-off, joined_more-last}
use Rattle.kc_text.proofs.items.join_lines.Goals as goal
use Rattle.kc_text.proofs.items.join_lines.Goals.{then-loop-out-test+else-not-is_empty, else-loop-out-test}

pub loop-out-preserved : goal.loop-out-preserved
loop-out-preserved c =
    let all = lines c.args.file.now in
    let line = c.loop-out.line.now in
    let next = c.first_line-in-loop-out.result.0.now in
    let behind = lines c.first_line-in-loop-out.result.1.now in
    let out = string_bytes c.loop-out.out in
    let cut = c.first_line-in-loop-out.ensures.lines in
    let ends : ends_in_backslash line ≡ true = sym c.ends_in_backslash.ensures ∙ c.loop-out-test.true in
    let pushed : string_bytes c.push_str.new.self ≡ out ++ before_backslash line = c.in_ok-push_str.ensures.bytes ∙ ap (λ bs. out ++ bs) c.before_backslash.ensures in
    let one : joined_more (line ∷ lines c.loop-out.rest.now) ≡ suc (joined_more (next ∷ behind)) = ap (λ ls. joined_more (line ∷ ls)) cut ∙ joined_more-on line ends next behind in
    record {
      utf8 = search rules;
      text =
          c.loop-out.invariant.text ∙ ap (λ ls. out ++ joined (line ∷ ls)) cut ∙ ap (λ bs. out ++ bs) (joined-on line ends (next ∷ behind))
          ∙ sym (append_assoc out (before_backslash line) (joined (next ∷ behind))) ∙ ap (λ bs. bs ++ joined (next ∷ behind)) (sym pushed);
      joins = omega (arith, c.loop-out.invariant.joins, one);
      behind = sym (drop-drop 1 c.loop-out.more all) ∙ ap (drop 1) c.loop-out.invariant.behind ∙ cut;
      within = omega (arith, c.loop-out.invariant.within, c.first_line-in-loop-out.ensures.shorter);
    }

pub returns-clause-rest : goal.returns-clause-rest
returns-clause-rest c =
    let all = lines c.args.file.now in
    let line = c.loop-out.line.now in
    let rest = c.loop-out.rest.now in
    let last : joined_more (line ∷ lines rest) ≡ 0 =
    elim c.loop-out-test.branch [
      | then-loop-out-test+else-not-is_empty w ↦ let none : length rest ≡ 0 = search (rules, tests) in joined_more-last line (lines rest) (ap lines (nil_from_length rest none))
      | else-loop-out-test w ↦ let kept : ends_in_backslash line ≡ false = search (rules, tests) in joined_more-off line (lines rest) kept
    ] in
    let more : c.loop-out.more ≡ joined_more all = omega (arith, c.loop-out.invariant.joins, last) in
    sym (ap (λ n. drop (n + 1) all) (sym more) ∙ sym (drop-drop 1 c.loop-out.more all) ∙ ap (drop 1) c.loop-out.invariant.behind)
