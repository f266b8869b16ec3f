-- Where a line is: which blocks are open around it, and which statement its attributes belong to. This project's
-- own, after kconfig-language.rst, "Menu structure". Lines before a line are in reverse here, the last first, so
-- that each of these looks back from the line.
use Rattle.std.specs.Prelude.{ℕ, not, List, [], ◌∷◌, Option, Some, None, option_map, option_and_then, unwrap_or, if◌then◌else◌, count_by, drop, find, reverse, take}
use Rattle.kc_text.specs.LineValue.{LineValue}
use Rattle.std.specs.Option.{option_or}
use Rattle.kc_outline.specs.declared.id.BlockId.{BlockId}
use Rattle.kc_outline.specs.declared.id.ChoiceId.{ChoiceId}
use Rattle.kc_statement.specs.declared.keyword.Keyword.{Keyword}
use Rattle.kc_statement.specs.declared.keyword.Keyword.TheVariants as keyword
use Rattle.kc_outline.specs.declared.context.Owner.{Owner}
use Rattle.kc_outline.specs.declared.context.Owner.TheVariants.{Definition, Menu, Choice, Comment}
use Rattle.kc_outline.specs.declared.context.OpenBlock.{OpenBlock}
use Rattle.kc_statement.specs.Keywords.{keyword_of, is_attribute, is_opener, is_closer, is_config, is_choice, is_comment}
use Rattle.kc_statement.specs.Names.{defined_name}
use Rattle.kc_statement.specs.Names.{symbol_among}

-- the lines before a place, the last first
abbrev pub before : List LineValue → ℕ → List LineValue
before lines i = reverse (take i lines)

-- ---- blocks
-- the choice that a line opens, whose number is how many were opened before
abbrev pub choice_opened : LineValue → List LineValue → Option ChoiceId
choice_opened l earlier = if is_choice l then Some (record { 0 = count_by is_choice earlier }) else None

-- the block that an opener opens, whose number is how many were opened before
abbrev pub block_opened : LineValue → List LineValue → OpenBlock
block_opened l earlier = record {
  id = record { 0 = count_by is_opener earlier };
  keyword = unwrap_or (keyword_of l) keyword.If;
  run = l.run;
  choice = choice_opened l earlier;
}

-- The blocks that are open after lines, the innermost first: an opener puts its block in front, a closer takes the
-- first one away, any other line leaves them.
abbrev pub open_blocks : List LineValue → List OpenBlock
open_blocks [] = []
open_blocks (l ∷ earlier) =
    if is_opener l then block_opened l earlier ∷ open_blocks earlier
    else (if is_closer l then drop 1 (open_blocks earlier) else open_blocks earlier)

-- the innermost
abbrev pub innermost : List OpenBlock → Option BlockId
innermost [] = None
innermost (b ∷ bs) = Some b.id

-- the choice among them, if there is one: no choice is in another
abbrev pub choice_among : List OpenBlock → Option ChoiceId
choice_among [] = None
choice_among (b ∷ bs) = option_or b.choice (choice_among bs)

-- ---- owners
-- what a statement makes that takes attributes
abbrev pub made_by : List (List ℕ) → Option Keyword → LineValue → List LineValue → Option Owner
made_by names (Some keyword.Config) l earlier =
    option_map (λ s. Definition s (count_by is_config earlier)) (option_and_then (symbol_among names) (defined_name l))
made_by names (Some keyword.Menu) l earlier = Some (Menu (record { 0 = count_by is_opener earlier }))
made_by names (Some keyword.Choice) l earlier =
    Some (Choice (record { 0 = count_by is_choice earlier }) (record { 0 = count_by is_opener earlier }))
made_by names (Some keyword.Comment) l earlier = Some (Comment (record { 0 = count_by is_comment earlier }))
made_by names _ l earlier = None

-- the owner at the last line: what the nearest statement makes, itself or before it
abbrev pub owner_at : List (List ℕ) → List LineValue → Option Owner
owner_at names [] = None
owner_at names (l ∷ earlier) =
    if is_attribute l then owner_at names earlier else made_by names (keyword_of l) l earlier

-- the keyword of the nearest statement before
abbrev pub nearest_statement : List LineValue → Option Keyword
nearest_statement earlier = option_and_then keyword_of (find (λ l. not (is_attribute l)) earlier)
