use Rattle.std.proofs.Common.{◌≡◌, ◌<◌, ◌∙◌, false, true, length, nat_le, get_or, ap, sym, arith, rules, tests}
use Rattle.kc_text.specs.Bytes.{is_blank, behind_blanks}
use Rattle.kc_text.specs.Help.{begins_with_end, first_of, is_inside}
use Rattle.std.proofs.lemmas.Bool.Decides.{nat_tests}
use Rattle.kc_text.proofs.FirstLines.{inside_blanks, inside_far, inside_near}
use Rattle.kc_text.proofs.HelpLines.{column_goes_on, column_within}
use Rattle.kc_text.proofs.Runs.{run_ends, run_goes_on}
use Rattle.kc_text.proofs.help.is_inside.Goals as goal

pub returns-then-column-reached : goal.returns-then-column-reached
returns-then-column-reached c =
    let text = c.as_bytes-byte-items.result.now in
    let i = c.loop-byte.byte-index in
    let fails : is_blank (get_or text i 0) ≡ false = sym c.is_blank.ensures ∙ c.if-not-is_blank.true in
    let ends = run_ends is_blank text i c.loop-byte.invariant.blanks fails in
    let far : nat_le c.args.column c.loop-byte.reached ≡ true = grind (arith, nat_tests) in
    far ∙ inside_far c.args.column text i c.loop-byte.reached c.loop-byte.invariant.column ends far
    ∙ ap (λ bs. is_inside c.args.column (first_of bs)) c.as_bytes-byte-items.ensures.value

pub returns-else-column-reached : goal.returns-else-column-reached
returns-else-column-reached c =
    let text = c.as_bytes-byte-items.result.now in
    let i = c.loop-byte.byte-index in
    let fails : is_blank (get_or text i 0) ≡ false = sym c.is_blank.ensures ∙ c.if-not-is_blank.true in
    let ends = run_ends is_blank text i c.loop-byte.invariant.blanks fails in
    c.begins_with_end.ensures ∙ ap begins_with_end c.behind_blanks.ensures.value
    ∙ ap (λ bs. begins_with_end (behind_blanks bs)) (sym c.as_bytes-byte-items.ensures.value)
    ∙ inside_near c.args.column text i c.loop-byte.reached c.loop-byte.invariant.column ends (grind (arith, nat_tests))
    ∙ ap (λ bs. is_inside c.args.column (first_of bs)) c.as_bytes-byte-items.ensures.value

pub returns : goal.returns
returns c =
    inside_blanks c.args.column c.as_bytes-byte-items.result.now (omega (arith, c.loop-byte.invariant.blanks))
    ∙ ap (λ bs. is_inside c.args.column (first_of bs)) c.as_bytes-byte-items.ensures.value

pub loop-byte-preserved : goal.loop-byte-preserved
loop-byte-preserved c =
    let line = c.as_bytes-byte-items.result.now in
    let i = c.loop-byte.byte-index in
    let inside : i < length line = search (rules, tests) in
    let passes : is_blank (get_or line i 0) ≡ true = sym c.is_blank.ensures ∙ c.if-not-is_blank.false in
    let column = c.loop-byte.invariant.column in
    record {
      blanks = run_goes_on is_blank line i c.loop-byte.invariant.blanks inside passes;
      column = c.column_after-reached.ensures ∙ column_goes_on line i c.loop-byte.reached column inside;
      within = rw (c.column_after-reached.ensures) (column_within line i c.loop-byte.reached column inside c.loop-byte.invariant.within);
    }
