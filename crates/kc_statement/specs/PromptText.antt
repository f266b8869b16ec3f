-- The bytes of the text of a prompt.
use Rattle.std.specs.Prelude.{List, ℕ}
use Rattle.kc_statement.specs.declared.prompt_text.Kept.{Kept}
use Rattle.kc_statement.specs.declared.prompt_text.Kept.TheVariants.{Own, Shared}

abbrev pub kept_bytes : Kept → List ℕ
kept_bytes (Own text) = text
kept_bytes (Shared text) = text
