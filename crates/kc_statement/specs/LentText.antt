-- The bytes of a text that is lent.
use Rattle.std.specs.Prelude.{List, ℕ}
use Rattle.kc_statement.specs.declared.lent_text.LentText.{LentText}
use Rattle.kc_statement.specs.declared.lent_text.LentText.TheVariants.{Plain, Shared}

abbrev pub lent_bytes : LentText → List ℕ
lent_bytes (Plain text) = text.now
lent_bytes (Shared text) = text.now
