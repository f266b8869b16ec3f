use Rattle.std.proofs.Common.{◌++◌, ◌∙◌, Bor, List, ℕ, Ok, ap}
use Rattle.std.proofs.lemmas.Iterator.{YieldsList-from_take}
use Rattle.std.proofs.lemmas.Iterator.Adapters.{fact_from_extend}
use Rattle.std.proofs.lemmas.Iterator.Splits.{YieldsList-from_lines}
use Rattle.kc_text.specs.Scanning.{texts_of}
use Rattle.kc_text.proofs.help.first_lines.Goals as goal

pub returns : goal.returns
returns c =
    fact_from_extend {E = Unit {0}} (λ (t : Bor (List ℕ)). t.now) (Ok c.in_ok-extend.field-0) c.in_ok-extend.ensures.ran
    (λ it b. YieldsList-from_take c.args.count (YieldsList-from_lines c.args.text.now cc) cc)
    (λ xs e h. ap texts_of h.0 ∙ ap (λ l. texts_of (l ++ xs)) c.in_ok-taken.ensures.items ∙ e)
