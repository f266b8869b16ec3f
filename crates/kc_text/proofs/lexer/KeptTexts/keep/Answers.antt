use Rattle.std.proofs.Common.{◌≡◌, bytes_eq, true, ap, sym, ◌∙◌}
use Rattle.std.specs.Ordering.{is_eq}
use Rattle.std.proofs.lemmas.Map.Text.{is_eq-slice_cmp}
use Rattle.std.proofs.lemmas.Slice.Eq.{bytes_eq-Decides}
use Rattle.kc_text.proofs.lexer.KeptTexts.keep.Goals as goal

pub returns-in-Some : goal.returns-in-Some
returns-in-Some c =
    let text = c.args.text.now in
    let known = c.in-Some.known.now.now in
    let same : bytes_eq text known ≡ true = sym (is_eq-slice_cmp text known) ∙ ap is_eq c.in-Some.ensures.same_key in
    c.new-in-Some.ensures ∙ sym ((bytes_eq-Decides text known).0 same)
