use Rattle.std.proofs.Common.{◌∙◌, false, sym, ap, string_bytes}
use Rattle.kc_files.specs.TextSteps.{begun}
use Rattle.kc_files.proofs.UnquotedSteps.{backslash_step, character_step}
use Rattle.kc_files.proofs.unquoting.push_unescaped.Goals as goal

pub returns-then-is_escape : goal.returns-then-is_escape
returns-then-is_escape c = λ rest. backslash_step (string_bytes c.args.out.now) c.args.c c.args.escape rest (sym c.is_escape.ensures ∙ c.if-is_escape.true)

pub returns : goal.returns
returns c = λ rest.
    character_step (string_bytes c.args.out.now) c.args.c c.args.escape rest c.requires.inside (sym c.is_escape.ensures ∙ c.if-is_escape.false)
    ∙ ap (λ w. begun w false rest) (sym c.in_ok-push.ensures.bytes)
