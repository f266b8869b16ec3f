use Rattle.std.proofs.Common.{◌≡◌, ◌++◌, ◌∷◌, ◌<◌, length, take, drop, IsCharBoundary, subst, sym, ap, ◌∙◌, arith, rules}
use Rattle.std.specs.List.{prefix_len}
use Rattle.kc_text.specs.References.{is_no_dollar, reference, reference_after_dollar, reference_len, value_pieces}
use Rattle.kc_text.specs.Scanning.{bytes_of}
use Rattle.kc_text.proofs.References.{dollar_is_ascii, value_pieces-run, value_pieces-reference}
use Rattle.kc_text.proofs.Runs.{boundary_before_stop}
use Rattle.kc_text.proofs.StopLaws.{ends_behind, ends_through}
use Rattle.kc_text.proofs.expansion.value_piece.Goals as goal

pub split_at-requires : goal.split_at-requires
split_at-requires c =
    let text = c.args.text.now in
    subst (IsCharBoundary text) (sym c.plain_len-len.ensures.count) (boundary_before_stop is_no_dollar dollar_is_ascii text)

pub returns-then-len-gt0-clause-begins : goal.returns-then-len-gt0-clause-begins
returns-then-len-gt0-clause-begins c =
    let text = c.args.text.now in
    let front = c.split_at.ensures.front ∙ ap (λ n. take n text) c.plain_len-len.ensures.count in
    let back = c.split_at.ensures.back ∙ ap (λ n. drop n text) c.plain_len-len.ensures.count in
    value_pieces-run text ∙ (λ i. bytes_of (sym front i) ++ value_pieces (sym back i))

pub returns-in-Some-clause-begins : goal.returns-in-Some-clause-begins
returns-in-Some-clause-begins c =
    let text = c.args.text.now in
    let found = c.in-Some.ensures in
    let some : 0 < length text = search rules in
    let none : 0 ≡ prefix_len is_no_dollar text = omega (arith, c.plain_len-len.ensures.count) in
    let named = ap reference_after_dollar (sym c.text_after.ensures) ∙ found.finds.0 in
    let rest = found.finds.1 ∙ ap (drop (reference_len c.in-Some.name.now)) c.text_after.ensures in
    value_pieces-reference text c.in-Some.name.now some (sym none) named ∙ ap (λ bs. reference c.in-Some.name.now ∷ value_pieces bs) (sym rest)

pub returns-then-len-gt0-clause-leaves : goal.returns-then-len-gt0-clause-leaves
returns-then-len-gt0-clause-leaves c = ends_behind c.plain_len-len.result c.args.text.now c.split_at.result.1.now c.split_at.ensures.back

pub returns-in-Some-clause-leaves : goal.returns-in-Some-clause-leaves
returns-in-Some-clause-leaves c =
    let text = c.args.text.now in
    let opened = c.text_after.result.now in
    let after = c.in-Some.after.now in
    ends_through text opened after (ends_behind 1 text opened c.text_after.ensures) (ends_behind (reference_len c.in-Some.name.now) opened after c.in-Some.ensures.finds.1)
