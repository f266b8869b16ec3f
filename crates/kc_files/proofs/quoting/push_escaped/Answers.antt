use Rattle.std.proofs.Common.{sym, ◌∙◌, append_assoc, append-nil}
use Rattle.kc_files.proofs.EscapeLaws.{escaped_char, escaped_empty}
use Rattle.kc_files.proofs.quoting.push_escaped.Goals as goal

pub loop-c-preserved : goal.loop-c-preserved
loop-c-preserved c = rw (c.in_ok-push_escaped_char.ensures, append_assoc) (rw (c.in-Some.ensures.steps.0, escaped_char) at c.loop-c.invariant)

pub returns : goal.returns
returns c = sym (append-nil _) ∙ rw (escaped_empty _ c.in-None.ensures.steps.0.0) at c.loop-c.invariant
