use Rattle.std.proofs.Common.{◌≡◌, ℕ, List, ap, ◌∙◌, subst}
use Rattle.std.specs.String.{string_bytes}
use Rattle.kc_outline.specs.TreeValue.{TreeValue}
use Rattle.kc_files.specs.OneReading.{warnings_in}
use Rattle.kc_files.specs.declared.warning.Warning.{Warning}
use Rattle.kc_session.specs.Bodies.{warnings_text, warnings_text_of}
use Rattle.kc_session.specs.Session.{SessionState}
use Rattle.kc_session.proofs.session.Session.read.Goals as goal

text_of_warnings : (t : TreeValue) (prefix body text : List ℕ) (warnings : List Warning) → text ≡ warnings_text warnings → warnings ≡ warnings_in t prefix body
    → text ≡ warnings_text_of t prefix body
unfolding warnings_text_of
text_of_warnings t prefix body text warnings lines are = lines ∙ ap warnings_text are

pub returns-in-Ok-clause-warnings : goal.returns-in-Ok-clause-warnings
returns-in-Ok-clause-warnings c =
    subst (λ (s : SessionState). string_bytes c.in-Ok.text ≡ warnings_text_of s.session.tree s.session.prefix c.args.body.now) c.self.view_is
    (text_of_warnings _ _ _ _ _ c.in-Ok.ensures (c.as_slice.ensures.value ∙ c.in_ok-assigns.ensures.warnings))
