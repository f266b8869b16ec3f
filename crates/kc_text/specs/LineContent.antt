-- What the content of a line stands for: this project's own.
use Rattle.std.specs.Prelude.{ℕ, List, [], Option, Some, None}
use Rattle.kc_text.specs.declared.line.LineKind.{LineKind}
use Rattle.kc_text.specs.declared.line.LineKind.TheVariants.{Statement as StatementKind, EndOfFile as EndKind}
use Rattle.kc_text.specs.declared.line.Token.{Token}
use Rattle.kc_text.specs.declared.line.Content.{Content}
use Rattle.kc_text.specs.declared.line.Content.TheVariants.{Statement, Help, EndOfFile}

abbrev pub kind_of : Content → LineKind
kind_of (Statement tokens) = StatementKind
kind_of (Help help) = StatementKind
kind_of EndOfFile = EndKind

abbrev pub tokens_of : Content → List Token
tokens_of (Statement tokens) = tokens
tokens_of (Help help) = help.now.tokens
tokens_of EndOfFile = []

abbrev pub help_of : Content → Option (List ℕ)
help_of (Statement tokens) = None
help_of (Help help) = Some help.now.text
help_of EndOfFile = None
