use Rattle.std.proofs.Common.{◌≡◌, ◌∙◌, ◌-◌, ◌≤◌, Bor, List, ℕ, length, take, drop, flat_map, ap, sym, arith}
use Rattle.std.specs.List.{suffix_len}
use Rattle.std.specs.Str.Lines.{lines}
use Rattle.std.proofs.lemmas.List.{length-map, length-take, take_all, take-map}
use Rattle.kc_text.specs.Help.{behind_passed, first_indentation, help_line, is_blank_line, len_inside, text_len}
use Rattle.kc_text.specs.Scanning.{texts_of}
use Rattle.kc_text.proofs.HelpLines.{take-take, len_inside-le}
use Rattle.kc_text.proofs.help.HelpText.to_text.Goals as goal

pub returns : goal.returns
returns c =
    let all = lines c.self.inside.rest.now in
    let those = behind_passed all in
    let text = λ (t : Bor (List ℕ)). t.now in
    let back : lines c.skip_blank_lines.result.1.now ≡ those = c.skip_blank_lines.ensures.rest ∙ ap (λ n. drop n all) c.skip_blank_lines.ensures.count in
    let column : c.first_indentation-column.result ≡ first_indentation those = c.first_indentation-column.ensures ∙ ap first_indentation back in
    let len : c.skip_inside-len.result.0 ≡ text_len those = c.skip_inside-len.ensures.count ∙ (λ i. len_inside (column i) (back i)) in
    let taken = c.as_slice-taken.result.now in
    let inside : texts_of taken ≡ take (text_len those) those = ap texts_of c.as_slice-taken.ensures.value ∙ c.in_ok-taken.ensures ∙ (λ i. take (len i) (back i)) in
    let fits : text_len those ≤ length those = len_inside-le (first_indentation those) those in
    let long : length taken ≡ text_len those = omega (arith, length-map taken text, ap length inside, length-take (text_len those) those, fits) in
    let blank : c.blank_lines_at_end.result ≡ suffix_len is_blank_line (take (text_len those) those) = c.blank_lines_at_end.ensures.count ∙ ap (suffix_len is_blank_line) inside in
    let kept : ℕ = length taken - c.blank_lines_at_end.result in
    let cut : texts_of c.split_at.result.0.now ≡ take kept those =
    ap texts_of c.split_at.ensures.front ∙ sym (take-map text kept taken) ∙ ap (take kept) inside ∙ take-take kept (text_len those) those (omega (arith, long)) in
    let lines = c.split_at.result.0.now in
    let shown : c.new.result ≡ flat_map (help_line c.first_indentation-column.result) (texts_of lines) =
    c.new.ensures ∙ c.loop-line.invariant ∙ ap (λ ls. flat_map (help_line c.first_indentation-column.result) (texts_of ls)) (take_all c.loop-line.line-index lines (omega arith)) in
    shown ∙ (λ i. flat_map (help_line (column i)) (cut i)) ∙ (λ i. flat_map (help_line (first_indentation those)) (take (long i - blank i) those)) ∙ c.self.view_is
