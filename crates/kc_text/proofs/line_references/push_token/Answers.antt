use Rattle.std.proofs.Common.{ap, ◌∙◌}
use Rattle.kc_text.specs.LineReferences.{lent_names, token_names}
use Rattle.kc_text.specs.Scanning.{raw_of}
use Rattle.kc_text.proofs.LineNames.{adds_none, byte_names}
use Rattle.kc_text.proofs.line_references.push_token.Goals as goal

pub returns-in-Word : goal.returns-in-Word
returns-in-Word c =
    adds_none (lent_names c.args.names.now.items) (token_names (raw_of c.args.token.now))
    (ap (λ t. token_names (raw_of t)) c.in-Word.is ∙ byte_names c.in-Word.field-0.now)

pub returns-in-Quoted : goal.returns-in-Quoted
returns-in-Quoted c =
    adds_none (lent_names c.args.names.now.items) (token_names (raw_of c.args.token.now))
    (ap (λ t. token_names (raw_of t)) c.in-Quoted.is ∙ byte_names c.in-Quoted.field-0.now)
