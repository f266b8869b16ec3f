use Rattle.std.proofs.Common.{◌≡◌, ◌++◌, ◌-◌, ◌∙◌, List, ℕ, Result, Ok, Err, OnOk, is_ok, if◌then◌else◌, arith, false, string_bytes, replicate, append_assoc, ap, sym}
use Rattle.kc_text.specs.Bytes.{before_blanks, behind_blanks}
use Rattle.kc_text.specs.Help.{indentation, is_blank_line}
use Rattle.kc_text.proofs.help.push_help_line.Goals as goal

on_ok : {E : Type 0} (r : Result (Unit {0}) E) (new more old whole : List ℕ) → new ≡ (if is_ok r then more else old) → more ≡ whole → OnOk r (new ≡ whole)
on_ok (Ok u) new more old whole e h = e ∙ h
on_ok (Err f) new more old whole e h = tt

pub returns : goal.returns
returns c =
    let line = c.args.line.now in
    let text : is_blank_line line ≡ false = sym c.is_blank_line.ensures ∙ c.if-is_blank_line.false in
    let out = string_bytes c.args.out.now in
    let spaces : c.loop.counter - c.args.column ≡ indentation line - c.args.column = omega (arith, c.indentation-end.ensures) in
    let indented : string_bytes c.loop.out ≡ out ++ replicate (indentation line - c.args.column) 32 =
    c.loop.invariant.out ∙ ap (λ n. out ++ replicate n 32) spaces in
    let kept : c.before_blanks.result.now ≡ before_blanks (behind_blanks line) = c.before_blanks.ensures ∙ ap before_blanks c.behind_blanks.ensures.value in
    let pushed : string_bytes c.push_str.new.self ≡ (out ++ replicate (indentation line - c.args.column) 32) ++ before_blanks (behind_blanks line) =
    c.in_ok-push_str.ensures.bytes ∙ (λ i. indented i ++ kept i) in
    rw text (on_ok c.push-2.result _ _ _ _ c.push-2.ensures.bytes ((λ i. pushed i ++ c.push-2.ensures.ascii (omega arith) i) ∙ simp append_assoc))
