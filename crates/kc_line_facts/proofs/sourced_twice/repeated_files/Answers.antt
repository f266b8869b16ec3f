use Rattle.std.proofs.Common.{◌≡◌, ◌∙◌, ◌++◌, ◌+◌, ◌-◌, ◌<◌, [], ◌∷◌, refl, sym, ap, arith, get_or, map}
use Rattle.std.specs.Prelude.{false, option_to_list}
use denote.Ref.{Bor}
use Rattle.std.specs.List.{find, range_with_len}
use Rattle.std.proofs.lemmas.List.FromFn.{map-range_with_len_more}
use Rattle.kc_text.specs.LineValue.{LineValue}
use Rattle.kc_line_facts.specs.SourcedFiles.{condition_around, is_conditional, open_numbers, repeated_at, start_of}
use Rattle.kc_line_facts.proofs.RangeLaws.{flat_map_next}
use Rattle.kc_line_facts.proofs.SourcedLaws.{lent_is, next_start, repeated_is, start_zero}
use Rattle.kc_line_facts.proofs.sourced_twice.repeated_files.Goals as goal

pub loop-run-init : goal.loop-run-init
loop-run-init c = record {
  from_is = sym (start_zero c.args.lines.now);
  within = omega arith;
  few = omega arith;
  around_is = c.new-around.ensures;
  begun_is = refl;
  conditions_are = c.new-conditions.ensures.items;
  found_is = c.new-found.ensures.items;
}

pub loop-run-preserved : goal.loop-run-preserved
loop-run-preserved c =
    let lines = c.args.lines.now in
    let t = c.args.tree.now in
    let r = c.loop-run.run in
    let known = c.loop-run.invariant in
    let now = c.loop-run.found.items in
    let around = c.pass_lines.new.around in
    let start_is = next_start lines c.loop-run.from c.next_start-start.result r known.from_is c.next_start-start.ensures.start in
    let around_is = c.in_ok-begun.ensures.around ∙ ap (open_numbers lines) start_is in
    let more : r ≡ r + 1 - 1 = omega arith in
    let first_is = c.first_before-first.ensures
    ∙ lent_is lines c.as_slice.result.now r (ap (map (λ (e : Bor LineValue). e.now)) c.as_slice.ensures.value ∙ c.in_ok-ends.ensures) in
    let few : r < c.len.result = omega (arith, c.loop-run-test.true, c.len.ensures, c.len-run-end.ensures) in
    let file_is = c.repeated-file.ensures
    ∙ repeated_is lines t r c.len.result c.as_slice-in-loop-run.result.now c.as_slice-in-loop-run-2.result.now around few
    (λ k h. ap (λ s. get_or s k false) c.as_slice-in-loop-run.ensures.value ∙ c.in_ok-statements.ensures k h)
    (c.as_slice-in-loop-run-2.ensures.value ∙ known.conditions_are) around_is c.first_before-first.result first_is in
    record {
      from_is = start_is ∙ ap (start_of lines) more;
      within = c.next_start-start.ensures.within;
      few = c.in_ok-begun.ensures.within;
      around_is = c.in_ok-begun.ensures.around;
      begun_is = c.in_ok-begun.ensures.begun;
      conditions_are = c.in_ok-push.ensures.items
          ∙ ap (λ xs. xs ++ c.condition.result ∷ []) known.conditions_are
          ∙ ap (λ x. map (condition_around lines t) (range_with_len 0 r) ++ x ∷ []) (c.condition.ensures ∙ ap (find (is_conditional t)) around_is)
          ∙ sym (map-range_with_len_more (condition_around lines t) 0 r r (omega arith));
      found_is = flat_map_next (repeated_at lines t) r now c.add_file.new.found.items known.found_is
          (c.in_ok-add_file.ensures ∙ ap (λ f. now ++ option_to_list f) file_is);
    }
