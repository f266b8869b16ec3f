use Rattle.std.proofs.Common.{◌≡◌, false, sym, ◌∙◌, rules, tests}
use Rattle.kc_text.proofs.HelpWords.{no_help}
use Rattle.kc_text.proofs.help.is_help.Goals as goal

pub returns-then-not-begins_help : goal.returns-then-not-begins_help
returns-then-not-begins_help c =
    let other : c.begins_help.result ≡ false = search (rules, tests) in
    sym (no_help c.args.line.now (sym c.begins_help.ensures ∙ other))
