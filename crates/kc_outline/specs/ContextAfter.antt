-- Steps: what is known of the lines before a line, and what one more line makes of it. No public contract reaches it.
use Rattle.std.specs.Prelude.{◌≡◌, ℕ, ◌<◌, ◌^◌, List, ◌∷◌, Option, Some, None, option_map, count_by, drop, if◌then◌else◌}
use Rattle.kc_text.specs.LineValue.{LineValue}
use Rattle.kc_statement.specs.declared.id.SymId.{SymId}
use Rattle.kc_statement.specs.declared.keyword.Keyword.{Keyword}
use Rattle.kc_statement.specs.declared.keyword.Keyword.TheVariants as keyword
use Rattle.kc_outline.specs.declared.context.OpenBlock.{OpenBlock}
use Rattle.kc_outline.specs.declared.context.Owner.{Owner}
use Rattle.kc_outline.specs.declared.context.Owner.TheVariants.{Definition, Menu, Choice, Comment}
use Rattle.kc_outline.specs.declared.context.Context.{Context}
use Rattle.kc_statement.specs.Keywords.{is_config, is_opener, is_choice, is_comment, is_opener_word, is_closer_word}
use Rattle.kc_outline.specs.Enclosing.{open_blocks, owner_at, nearest_statement}

-- the lines before are in reverse, the last first
pub record IsContextAfter (names : List (List ℕ)) (earlier : List LineValue) (p : Context) : Type 0 where
  pub stack : p.stack ≡ open_blocks earlier
  pub statement : p.statement ≡ nearest_statement earlier
  pub owner : p.owner ≡ owner_at names earlier
  pub definitions : p.definitions ≡ count_by is_config earlier
  pub blocks : p.blocks ≡ count_by is_opener earlier
  pub choices : p.choices ≡ count_by is_choice earlier
  pub comments : p.comments ≡ count_by is_comment earlier

-- the same but for the owner, which lines at fault may leave open
pub record IsPlaceAfter (earlier : List LineValue) (p : Context) : Type 0 where
  pub stack : p.stack ≡ open_blocks earlier
  pub statement : p.statement ≡ nearest_statement earlier
  pub definitions : p.definitions ≡ count_by is_config earlier
  pub blocks : p.blocks ≡ count_by is_opener earlier
  pub choices : p.choices ≡ count_by is_choice earlier
  pub comments : p.comments ≡ count_by is_comment earlier

-- the open blocks, the innermost first, after a line of this keyword, which may open this block
abbrev pub blocks_after : Keyword → OpenBlock → List OpenBlock → List OpenBlock
blocks_after k b bs = if is_opener_word k then b ∷ bs else (if is_closer_word k then drop 1 bs else bs)

-- what a statement of this keyword makes after so many definitions, blocks, choices and comments; it may define a symbol
abbrev pub owner_made : Keyword → Option SymId → ℕ → ℕ → ℕ → ℕ → Option Owner
owner_made keyword.Config symbol definitions blocks choices comments = option_map (λ s. Definition s definitions) symbol
owner_made keyword.Menu symbol definitions blocks choices comments = Some (Menu (record { 0 = blocks }))
owner_made keyword.Choice symbol definitions blocks choices comments = Some (Choice (record { 0 = choices }) (record { 0 = blocks }))
owner_made keyword.Comment symbol definitions blocks choices comments = Some (Comment (record { 0 = comments }))
owner_made _ symbol definitions blocks choices comments = None

-- so few are counted that each has a number of 30 bits
pub record HasRoom (c : Context) : Type 0 where
  pub definitions : c.definitions < 2 ^ 30
  pub blocks : c.blocks < 2 ^ 30
  pub choices : c.choices < 2 ^ 30
  pub comments : c.comments < 2 ^ 30
