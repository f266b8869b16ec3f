use Rattle.std.proofs.Common.{arith, rules}
use Rattle.std.proofs.lemmas.Str.Pattern.{strip_prefix_char}
use Rattle.kc_statement.proofs.NumeralLaws.{after_neither, after_both}
use Rattle.kc_statement.proofs.numerals.after_hex_sign.Goals as goal

pub returns-in_err-strip_prefix : goal.returns-in_err-strip_prefix
returns-in_err-strip_prefix c =
    let bs = c.args.text.now in
    let cut = rw c.in_err-strip_prefix.was at (strip_prefix_char 48 bs c.strip_prefix.result c.strip_prefix.ensures.cases (omega arith)) in
    let none = after_neither 48 c.args.letter bs cut in
    search (rules, none)

pub returns : goal.returns
returns c =
    let bs = c.args.text.now in
    let rest = c.in_ok-strip_prefix.field-0.now in
    let cut = rw c.in_ok-strip_prefix.was at (strip_prefix_char 48 bs c.strip_prefix.result c.strip_prefix.ensures.cases (omega arith)) in
    after_both 48 c.args.letter bs rest c.strip_prefix-2.result cut (strip_prefix_char c.args.letter rest c.strip_prefix-2.result c.strip_prefix-2.ensures.cases c.requires)
