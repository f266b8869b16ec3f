use Rattle.std.proofs.Common.{◌≡◌, ℕ, true, false, Option, ◌<◌, ◌+◌, ◌-◌, ◌==◌, ◌^◌, List, length, reverse, take, Some, sym, ap, ◌∙◌, subst, arith}
use Rattle.std.proofs.lemmas.List.{length-reverse, length-take-le}
use Rattle.std.proofs.lemmas.Option.{slice_get-get_or, slice_get_within}
use Rattle.std.specs.List.{slice_get}
use Rattle.kc_statement.specs.Names.{names_of}
use Rattle.kc_outline.specs.declared.fault.FaultyLine.{FaultyLine}
use Rattle.kc_text.specs.LineValue.{LineValue}
use Rattle.kc_outline.specs.declared.fault.LineProblem.{LineProblem}
use Rattle.kc_outline.specs.LineFaults.{opens_too_deep}
use Rattle.kc_outline.specs.ContextAfter.{IsPlaceAfter}
use Rattle.kc_outline.specs.Enclosing.{before, open_blocks}
use Rattle.kc_outline.specs.Reader.{IsFound, faults_with}
use Rattle.kc_outline.proofs.FaultyLaws.{AreFaultsBefore, IsShallowBefore, no_lines, shallow_next, all_line_faults, line_faults_before, next_faults, no_faults, refused_before, refused_for_first}
use Rattle.kc_outline.proofs.PassingLaws.{has_room_after, place_of}
use Rattle.kc_outline.proofs.PlaceLaws.{before_more, last_place}
use Rattle.kc_outline.proofs.lines_at_fault.faulty_lines.Goals as goal

-- the faults up to this line
faults_here : (lines : List LineValue) (i : ℕ) (line : LineValue) → slice_get lines i ≡ Some line → (names : List (List ℕ)) → names ≡ names_of lines → (before_it now : List FaultyLine) → AreFaultsBefore lines i before_it
    → (found : Option LineProblem) × IsFound names (before lines i) (length lines - i - 1 == 0) line found × (now ≡ faults_with before_it i found) → AreFaultsBefore lines (i + 1) now
faults_here lines i line is names same before_it now known says =
    let last = last_place (length lines) i (slice_get_within lines i line is) in
    let here : IsFound names (before lines i) (i + 1 == length lines) line says.0 = subst (λ b. IsFound names (before lines i) b line says.0) last says.1 in
    subst (λ fs. AreFaultsBefore lines (i + 1) fs) (sym says.2)
    (next_faults lines i line is before_it known says.0 (subst (λ ns. IsFound ns (before lines i) (i + 1 == length lines) line says.0) same here))

pub loop-place-init : goal.loop-place-init
loop-place-init c =
    let lines = c.args.lines.now in
    record {
      names = ap (λ x. x.names) c.in_ok-outline.ensures ∙ c.in_ok-names.ensures.names;
      context = place_of (names_of lines) (reverse (take 0 lines)) c.new-context.result (c.new-context.ensures (names_of lines));
      faults = subst (λ (fs : List FaultyLine). AreFaultsBefore lines 0 fs) (sym c.new-faults.ensures.items) (no_faults lines);
      shallow = no_lines lines;
    }

-- the lines before the place are fewer than those that are read
pub read_or_report-requires : goal.read_or_report-requires
read_or_report-requires c =
    let lines = c.args.lines.now in
    let i = c.loop-place.place in
    let read : length (reverse (take i lines)) ≡ i = length-reverse (take i lines) ∙ length-take-le i lines (omega (arith, c.loop-place-test.true)) in
    let few : length (reverse (take i lines)) < 2 ^ 30 = omega (arith, read, c.loop-place-test.true, c.requires) in
    record { room = has_room_after (reverse (take i lines)) c.loop-place.context c.loop-place.invariant.context few }

pub loop-place-preserved : goal.loop-place-preserved
loop-place-preserved c =
    let lines = c.args.lines.now in
    let i = c.loop-place.place in
    let line = c.index-lines-place.result in
    let known = c.loop-place.invariant in
    let is : slice_get lines i ≡ Some line = slice_get-get_or lines i line c.loop-place-test.true ∙ ap Some (sym c.index-lines-place.is) in
    let flat : opens_too_deep (open_blocks (before lines i)) line ≡ false =
    ap (λ bs. opens_too_deep bs line) (sym known.context.stack) ∙ sym c.opens_too_deep-is_last_read.ensures ∙ c.if-is_last_read.false in
    record {
      names = c.in_ok-read_or_report.ensures.names ∙ known.names;
      context = subst (λ ls. IsPlaceAfter ls c.read_or_report.new.context) (sym (before_more lines i line is)) (c.in_ok-read_or_report.ensures.place (before lines i) known.context);
      faults = faults_here lines i line is c.loop-place.outline.names known.names c.loop-place.faults.items c.read_or_report.new.faults.items known.faults
          (c.in_ok-read_or_report.ensures.faults (before lines i) known.context);
      shallow = shallow_next lines i line is c.loop-place.faults.items known.faults known.shallow flat;
    }

pub returns-then-is_last_read-clause-faults : goal.returns-then-is_last_read-clause-faults
returns-then-is_last_read-clause-faults c =
    let lines = c.args.lines.now in
    let i = c.loop-place.place in
    let line = c.index-lines-place.result in
    let known = c.loop-place.invariant in
    let is : slice_get lines i ≡ Some line = slice_get-get_or lines i line c.loop-place-test.true ∙ ap Some (sym c.index-lines-place.is) in
    let deep : opens_too_deep (open_blocks (before lines i)) line ≡ true =
    ap (λ bs. opens_too_deep bs line) (sym known.context.stack) ∙ sym c.opens_too_deep-is_last_read.ensures ∙ c.if-is_last_read.true in
    line_faults_before lines i line is deep c.read_or_report.new.faults.items
    (faults_here lines i line is c.loop-place.outline.names known.names c.loop-place.faults.items c.read_or_report.new.faults.items known.faults
    (c.in_ok-read_or_report.ensures.faults (before lines i) known.context))
    known.shallow

pub returns-then-is_last_read-clause-first : goal.returns-then-is_last_read-clause-first
returns-then-is_last_read-clause-first c =
    let lines = c.args.lines.now in
    let i = c.loop-place.place in
    let line = c.index-lines-place.result in
    let known = c.loop-place.invariant in
    let is : slice_get lines i ≡ Some line = slice_get-get_or lines i line c.loop-place-test.true ∙ ap Some (sym c.index-lines-place.is) in
    let deep : opens_too_deep (open_blocks (before lines i)) line ≡ true =
    ap (λ bs. opens_too_deep bs line) (sym known.context.stack) ∙ sym c.opens_too_deep-is_last_read.ensures ∙ c.if-is_last_read.true in
    refused_before lines i line is deep c.read_or_report.new.faults.items
    (faults_here lines i line is c.loop-place.outline.names known.names c.loop-place.faults.items c.read_or_report.new.faults.items known.faults
    (c.in_ok-read_or_report.ensures.faults (before lines i) known.context))

pub returns-clause-faults : goal.returns-clause-faults
returns-clause-faults c =
    let lines = c.args.lines.now in
    let fs = c.loop-place.faults.items in
    let end : c.loop-place.place ≡ length lines = omega (arith, c.loop-place-test.false, c.loop-place.auto.place-end) in
    all_line_faults lines fs (subst (λ n. AreFaultsBefore lines n fs) end c.loop-place.invariant.faults)
    (subst (λ n. IsShallowBefore lines n) end c.loop-place.invariant.shallow)

pub returns-clause-first : goal.returns-clause-first
returns-clause-first c =
    let lines = c.args.lines.now in
    let fs = c.loop-place.faults.items in
    let end : c.loop-place.place ≡ length lines = omega (arith, c.loop-place-test.false, c.loop-place.auto.place-end) in
    refused_for_first lines fs (subst (λ n. AreFaultsBefore lines n fs) end c.loop-place.invariant.faults)
