use Rattle.std.proofs.Common.{◌≡◌, ◌+◌, ◌-◌, ◌∷◌, ℕ, drop, take, get_or, sym, ap, ◌∙◌, arith}
use Rattle.std.specs.List.{prefix_len}
use Rattle.kc_text.specs.Lexing.{quoted, is_plain, raw_tokens}
use Rattle.kc_text.specs.Scanning.{bytes_of}
use Rattle.kc_text.proofs.Lexing.{lexed-quoted}
use Rattle.kc_text.proofs.quotes.plain_quoted.Goals as goal

pub returns-then-as_bytes-len-clause-lexes : goal.returns-then-as_bytes-len-clause-lexes
returns-then-as_bytes-len-clause-lexes c =
    let text = c.args.text.now in
    let n : ℕ = prefix_len (is_plain c.args.quote) text in
    let count = c.plain_len-len.ensures.count in
    let read = ap (λ k. get_or text k 0) (sym count) ∙ ap (λ v. get_or v c.plain_len-len.result 0) (sym c.as_bytes.ensures.value) in
    let front : c.range.result.now ≡ take n text =
    let whole : c.plain_len-len.result - 0 ≡ n = omega (arith, count) in c.range.ensures.value ∙ ap (λ k. take k text) whole in
    let back : c.text_after.result.now ≡ drop (n + 1) text = c.text_after.ensures ∙ ap (λ k. drop (k + 1) text) count in
    lexed-quoted c.args.quote text (omega (arith, count)) (read ∙ c.if-as_bytes-len.true) ∙ (λ i. quoted (bytes_of (sym front i)) ∷ raw_tokens (sym back i))
