-- Steps: what is known of readings whose tree is being made. No public contract reaches it.
use Rattle.std.specs.Prelude.{ℕ, ◌<◌, List, Option, Some, None, length, All}
use Rattle.kc_outline.specs.declared.id.ChoiceId.{ChoiceId}
use Rattle.kc_outline.specs.declared.context.Owner.{Owner}
use Rattle.kc_outline.specs.declared.context.Owner.TheVariants.{Definition, Menu, Choice, Comment}
use Rattle.kc_statement.specs.declared.statement.Statement.{Statement}
use Rattle.kc_statement.specs.declared.statement.Statement.TheVariants.{Config}
use Rattle.kc_outline.specs.TreeOf.{Reading, definition_lines, block_lines, choice_blocks, comment_lines}

-- what owns a line was made by one of the readings
abbrev pub IsMadeBy : List Reading → Option Owner → Type 0
IsMadeBy rs None = Unit {0}
IsMadeBy rs (Some (Definition s j)) = j < length (definition_lines rs)
IsMadeBy rs (Some (Menu b)) = b.0 < length (block_lines rs)
IsMadeBy rs (Some (Choice c b)) = (c.0 < length (choice_blocks rs)) × (b.0 < length (block_lines rs))
IsMadeBy rs (Some (Comment c)) = c.0 < length (comment_lines rs)

-- and so was the choice that it is in
abbrev pub IsChoiceMadeBy : List Reading → Option ChoiceId → Type 0
IsChoiceMadeBy rs None = Unit {0}
IsChoiceMadeBy rs (Some c) = c.0 < length (choice_blocks rs)

pub record IsMade (rs : List Reading) (r : Reading) : Type 0 where
  pub owner : IsMadeBy rs r.owner
  pub choice : IsChoiceMadeBy rs r.choice

abbrev pub AreMade : List Reading → Type 0
AreMade rs = All (IsMade rs) rs

-- a `config` line names a symbol that there is
abbrev pub IsNamedIn : List (List ℕ) → Statement → Type 0
IsNamedIn names (Config (Some s)) = s.0 < length names
IsNamedIn names _ = Unit {0}
