-- What owns a line was made by a line before, or by the line itself.
use Rattle.std.proofs.Common.{◌≡◌, ℕ, ◌+◌, ◌<◌, ◌≤◌, ◌==◌, ◌||◌, Bool, true, false, cond, if◌then◌else◌, List, [], ◌∷◌, ◌++◌, Option, Some, None, length, reverse, filter_map, refl, sym, ap, ◌∙◌, subst, arith}
use Rattle.std.specs.List.{count_by, cons_option, slice_index_or}
use Rattle.std.specs.Option.{option_map, option_map_or, option_and_then}
use Rattle.std.proofs.lemmas.List.{reverse-append, reverse-reverse, length-append}
use Rattle.std.proofs.lemmas.List.Sums.{sum_by-append}
use Rattle.std.proofs.lemmas.List.Elements.{All-push, filter_map-append}
use Rattle.kc_text.specs.LineValue.{LineValue}
use Rattle.kc_statement.specs.declared.id.SymId.{SymId}
use Rattle.kc_outline.specs.declared.id.BlockId.{BlockId}
use Rattle.kc_outline.specs.declared.id.ChoiceId.{ChoiceId}
use Rattle.kc_statement.specs.declared.symbol_type.SymbolType.TheVariants as kind
use Rattle.kc_statement.specs.declared.keyword.Keyword.{Keyword}
use Rattle.kc_statement.specs.declared.keyword.Keyword.TheVariants as keyword
use Rattle.kc_outline.specs.declared.context.Owner.{Owner}
use Rattle.kc_outline.specs.declared.context.Owner.TheVariants.{Definition, Menu, Choice, Comment}
use Rattle.kc_statement.specs.declared.statement.Statement.{Statement}
use Rattle.kc_statement.specs.declared.statement.Statement.TheVariants as statement
use Rattle.kc_outline.specs.declared.fault.LineProblem.TheVariants.{Limit, Malformed}
use Rattle.kc_statement.specs.Keywords.{keyword_of, is_attribute, is_config, is_opener, is_choice, is_comment, is_attribute_word, is_config_word, is_opener_word, is_choice_word, is_comment_word}
use Rattle.kc_outline.specs.LineFaults.{IsSound, is_no_choice_default, opens_too_deep, is_past_limit}
use Rattle.kc_outline.specs.Enclosing.{made_by, owner_at, open_blocks, choice_among, nearest_statement}
use Rattle.kc_outline.specs.Outline.{IsMadeBy, IsChoiceMadeBy, IsMade, AreMade, IsNamedIn}
use Rattle.kc_outline.specs.Reader.{AreReadingsBefore, IsOnlyForm, AreOnlyForms, IsOutlineAfter}
use Rattle.kc_outline.specs.TreeOf.{Reading, IsReading, tree_of, DefinitionLine, BlockLine, CommentLine, definition_line, block_line, comment_line, choice_block, definition_lines, block_lines, choice_blocks, comment_lines}
use Rattle.kc_statement.specs.Names.{symbol_among}
use Rattle.kc_outline.specs.TreeValue.{TreeValue}
use Rattle.kc_statement.specs.Names.{defined_name}
use Rattle.kc_outline.proofs.OpenChoices.{IsBelow, choice_below}
use Rattle.kc_outline.proofs.OutlineFacts.{named_by_form}
use Rattle.kc_outline.proofs.ReadingLaws.{word_of, form_word}

-- ---- how many a reading makes
pub within_limit : (no_name deep past : Bool) → (if no_name then Some Malformed else (if deep || past then Some Limit else None)) ≡ None → past ≡ false
within_limit true deep past h = cc
within_limit false true past h = cc
within_limit false false true h = cc
within_limit false false false h = refl

abbrev pub definitions_made : Option BlockId → Statement → List DefinitionLine
definitions_made b s = cons_option (definition_line b s) []

abbrev pub blocks_made : Option BlockId → Statement → List BlockLine
blocks_made b s = cons_option (block_line b s) []

abbrev comments_made : Option BlockId → Option ChoiceId → Statement → List CommentLine
comments_made b h s = cons_option (comment_line b h s) []

abbrev choices_made : Statement → Option Owner → List BlockId
choices_made s o = cons_option (choice_block s o) []

pub one_definition : (b : Option BlockId) (s : Statement) → is_past_limit s ≡ false → length (definitions_made b s) ≡ cond (option_map_or is_config_word (word_of s) false) 1 0
one_definition b statement.EndOfFile h = refl
one_definition b (statement.Config (Some s)) h = refl
one_definition b (statement.Config None) h = cc
one_definition b (statement.Menu t) h = refl
one_definition b statement.EndMenu h = refl
one_definition b (statement.If e) h = refl
one_definition b statement.EndIf h = refl
one_definition b statement.Choice h = refl
one_definition b statement.EndChoice h = refl
one_definition b (statement.Comment t) h = refl
one_definition b statement.MainMenu h = refl
one_definition b (statement.Type kind.Bool) h = refl
one_definition b (statement.Type kind.Tristate) h = refl
one_definition b (statement.Type kind.String) h = refl
one_definition b (statement.Type kind.Int) h = refl
one_definition b (statement.Type kind.Hex) h = refl
one_definition b (statement.TypeAndPrompt kind.Bool p) h = refl
one_definition b (statement.TypeAndPrompt kind.Tristate p) h = refl
one_definition b (statement.TypeAndPrompt kind.String p) h = refl
one_definition b (statement.TypeAndPrompt kind.Int p) h = refl
one_definition b (statement.TypeAndPrompt kind.Hex p) h = refl
one_definition b (statement.TypeAndDefault kind.Bool d) h = refl
one_definition b (statement.TypeAndDefault kind.Tristate d) h = refl
one_definition b (statement.TypeAndDefault kind.String d) h = refl
one_definition b (statement.TypeAndDefault kind.Int d) h = refl
one_definition b (statement.TypeAndDefault kind.Hex d) h = refl
one_definition b (statement.Prompt p) h = refl
one_definition b (statement.Default d) h = refl
one_definition b (statement.Range r) h = refl
one_definition b (statement.DependsOn e) h = refl
one_definition b (statement.VisibleIf e) h = refl
one_definition b (statement.Select s c) h = refl
one_definition b (statement.Imply s c) h = refl
one_definition b statement.Modules h = refl
one_definition b statement.AllNoConfigYes h = refl
one_definition b statement.Optional h = refl
one_definition b statement.Help h = refl

pub one_block : (b : Option BlockId) (s : Statement) → length (blocks_made b s) ≡ cond (option_map_or is_opener_word (word_of s) false) 1 0
one_block b statement.EndOfFile = refl
one_block b (statement.Config s) = refl
one_block b (statement.Menu t) = refl
one_block b statement.EndMenu = refl
one_block b (statement.If e) = refl
one_block b statement.EndIf = refl
one_block b statement.Choice = refl
one_block b statement.EndChoice = refl
one_block b (statement.Comment t) = refl
one_block b statement.MainMenu = refl
one_block b (statement.Type kind.Bool) = refl
one_block b (statement.Type kind.Tristate) = refl
one_block b (statement.Type kind.String) = refl
one_block b (statement.Type kind.Int) = refl
one_block b (statement.Type kind.Hex) = refl
one_block b (statement.TypeAndPrompt kind.Bool p) = refl
one_block b (statement.TypeAndPrompt kind.Tristate p) = refl
one_block b (statement.TypeAndPrompt kind.String p) = refl
one_block b (statement.TypeAndPrompt kind.Int p) = refl
one_block b (statement.TypeAndPrompt kind.Hex p) = refl
one_block b (statement.TypeAndDefault kind.Bool d) = refl
one_block b (statement.TypeAndDefault kind.Tristate d) = refl
one_block b (statement.TypeAndDefault kind.String d) = refl
one_block b (statement.TypeAndDefault kind.Int d) = refl
one_block b (statement.TypeAndDefault kind.Hex d) = refl
one_block b (statement.Prompt p) = refl
one_block b (statement.Default d) = refl
one_block b (statement.Range r) = refl
one_block b (statement.DependsOn e) = refl
one_block b (statement.VisibleIf e) = refl
one_block b (statement.Select s c) = refl
one_block b (statement.Imply s c) = refl
one_block b statement.Modules = refl
one_block b statement.AllNoConfigYes = refl
one_block b statement.Optional = refl
one_block b statement.Help = refl

one_comment : (b : Option BlockId) (h : Option ChoiceId) (s : Statement) → length (comments_made b h s) ≡ cond (option_map_or is_comment_word (word_of s) false) 1 0
one_comment b h statement.EndOfFile = refl
one_comment b h (statement.Config s) = refl
one_comment b h (statement.Menu t) = refl
one_comment b h statement.EndMenu = refl
one_comment b h (statement.If e) = refl
one_comment b h statement.EndIf = refl
one_comment b h statement.Choice = refl
one_comment b h statement.EndChoice = refl
one_comment b h (statement.Comment t) = refl
one_comment b h statement.MainMenu = refl
one_comment b h (statement.Type kind.Bool) = refl
one_comment b h (statement.Type kind.Tristate) = refl
one_comment b h (statement.Type kind.String) = refl
one_comment b h (statement.Type kind.Int) = refl
one_comment b h (statement.Type kind.Hex) = refl
one_comment b h (statement.TypeAndPrompt kind.Bool p) = refl
one_comment b h (statement.TypeAndPrompt kind.Tristate p) = refl
one_comment b h (statement.TypeAndPrompt kind.String p) = refl
one_comment b h (statement.TypeAndPrompt kind.Int p) = refl
one_comment b h (statement.TypeAndPrompt kind.Hex p) = refl
one_comment b h (statement.TypeAndDefault kind.Bool d) = refl
one_comment b h (statement.TypeAndDefault kind.Tristate d) = refl
one_comment b h (statement.TypeAndDefault kind.String d) = refl
one_comment b h (statement.TypeAndDefault kind.Int d) = refl
one_comment b h (statement.TypeAndDefault kind.Hex d) = refl
one_comment b h (statement.Prompt p) = refl
one_comment b h (statement.Default d) = refl
one_comment b h (statement.Range r) = refl
one_comment b h (statement.DependsOn e) = refl
one_comment b h (statement.VisibleIf e) = refl
one_comment b h (statement.Select s c) = refl
one_comment b h (statement.Imply s c) = refl
one_comment b h statement.Modules = refl
one_comment b h statement.AllNoConfigYes = refl
one_comment b h statement.Optional = refl
one_comment b h statement.Help = refl

-- a choice is made by a line that is a choice, and is owned by itself
OwnsChoice : Statement → Option Owner → Type 0
OwnsChoice statement.Choice o = (c : ChoiceId) × (b : BlockId) × (o ≡ Some (Choice c b))
OwnsChoice _ o = Unit {0}

one_choice : (s : Statement) (o : Option Owner) → OwnsChoice s o → length (choices_made s o) ≡ cond (option_map_or is_choice_word (word_of s) false) 1 0
unfolding OwnsChoice
one_choice statement.Choice o h = ap (λ x. length (choices_made statement.Choice x)) h.2
one_choice statement.EndOfFile o h = refl
one_choice (statement.Config s) o h = refl
one_choice (statement.Menu t) o h = refl
one_choice statement.EndMenu o h = refl
one_choice (statement.If e) o h = refl
one_choice statement.EndIf o h = refl
one_choice statement.EndChoice o h = refl
one_choice (statement.Comment t) o h = refl
one_choice statement.MainMenu o h = refl
one_choice (statement.Type kind.Bool) o h = refl
one_choice (statement.Type kind.Tristate) o h = refl
one_choice (statement.Type kind.String) o h = refl
one_choice (statement.Type kind.Int) o h = refl
one_choice (statement.Type kind.Hex) o h = refl
one_choice (statement.TypeAndPrompt kind.Bool p) o h = refl
one_choice (statement.TypeAndPrompt kind.Tristate p) o h = refl
one_choice (statement.TypeAndPrompt kind.String p) o h = refl
one_choice (statement.TypeAndPrompt kind.Int p) o h = refl
one_choice (statement.TypeAndPrompt kind.Hex p) o h = refl
one_choice (statement.TypeAndDefault kind.Bool d) o h = refl
one_choice (statement.TypeAndDefault kind.Tristate d) o h = refl
one_choice (statement.TypeAndDefault kind.String d) o h = refl
one_choice (statement.TypeAndDefault kind.Int d) o h = refl
one_choice (statement.TypeAndDefault kind.Hex d) o h = refl
one_choice (statement.Prompt p) o h = refl
one_choice (statement.Default d) o h = refl
one_choice (statement.Range r) o h = refl
one_choice (statement.DependsOn e) o h = refl
one_choice (statement.VisibleIf e) o h = refl
one_choice (statement.Select s c) o h = refl
one_choice (statement.Imply s c) o h = refl
one_choice statement.Modules o h = refl
one_choice statement.AllNoConfigYes o h = refl
one_choice statement.Optional o h = refl
one_choice statement.Help o h = refl

-- the keyword of a choice
pub the_choice : (k : Option Keyword) → option_map_or is_choice_word k false ≡ true → k ≡ Some keyword.Choice
the_choice None h = cc
the_choice (Some keyword.Choice) h = refl
the_choice (Some _) h = cc

count_cons : (p : LineValue → Bool) (l : LineValue) (ls : List LineValue) → count_by p (l ∷ ls) ≡ (0 + cond (p l) 1 0) + count_by p ls
count_cons p l ls = sum_by-append (λ x. cond (p x) 1 0) (l ∷ []) ls

-- ---- a list and one more reading
push_length : {Y : Type 0} (h : Reading → Option Y) (rs : List Reading) (r : Reading) → length (filter_map h (rs ++ r ∷ [])) ≡ length (filter_map h rs) + length (cons_option (h r) [])
push_length h rs r = ap length (filter_map-append h rs (r ∷ [])) ∙ length-append (filter_map h rs) (filter_map h (r ∷ []))

more_definitions_by : (rs : List Reading) (r : Reading) → length (definition_lines (rs ++ r ∷ [])) ≡ length (definition_lines rs) + length (definitions_made r.block r.statement)
more_definitions_by rs r = push_length {Y = DefinitionLine} (λ q. definition_line q.block q.statement) rs r

more_blocks_by : (rs : List Reading) (r : Reading) → length (block_lines (rs ++ r ∷ [])) ≡ length (block_lines rs) + length (blocks_made r.block r.statement)
more_blocks_by rs r = push_length {Y = BlockLine} (λ q. block_line q.block q.statement) rs r

more_comments_by : (rs : List Reading) (r : Reading) → length (comment_lines (rs ++ r ∷ [])) ≡ length (comment_lines rs) + length (comments_made r.block r.choice r.statement)
more_comments_by rs r =
    push_length {Y = CommentLine} (λ q. comment_line q.block q.choice q.statement) rs r

more_choices_by : (rs : List Reading) (r : Reading) → length (choice_blocks (rs ++ r ∷ [])) ≡ length (choice_blocks rs) + length (choices_made r.statement r.owner)
more_choices_by rs r = push_length {Y = BlockId} (λ q. choice_block q.statement q.owner) rs r

made_more : (rs : List Reading) (r : Reading) (o : Option Owner) → IsMadeBy rs o → IsMadeBy (rs ++ r ∷ []) o
made_more rs r None h = tt
made_more rs r (Some (Definition s j)) h =
    let more = more_definitions_by rs r in omega (arith, h, more)
made_more rs r (Some (Menu b)) h =
    let more = more_blocks_by rs r in omega (arith, h, more)
made_more rs r (Some (Choice c b)) h =
    let choices = more_choices_by rs r in
    let blocks = more_blocks_by rs r in
    let choice : c.0 < length (choice_blocks (rs ++ r ∷ [])) = (let here = h.0 in omega (arith, here, choices)) in
    let block : b.0 < length (block_lines (rs ++ r ∷ [])) = (let here = h.1 in omega (arith, here, blocks)) in
    (choice, block)
made_more rs r (Some (Comment c)) h =
    let more = more_comments_by rs r in omega (arith, h, more)

choice_made_more : (rs : List Reading) (r : Reading) (o : Option ChoiceId) → IsChoiceMadeBy rs o → IsChoiceMadeBy (rs ++ r ∷ []) o
choice_made_more rs r None h = tt
choice_made_more rs r (Some c) h =
    let more = more_choices_by rs r in omega (arith, h, more)

is_made_more : (rs : List Reading) (r q : Reading) → IsMade rs q → IsMade (rs ++ r ∷ []) q
is_made_more rs r q h = record {
  owner = made_more rs r q.owner h.owner;
  choice = choice_made_more rs r q.choice h.choice;
}

module _ (names : List (List ℕ)) where
  -- the readings have made what their lines count
  pub record AreCounted (earlier : List LineValue) (rs : List Reading) : Type 0 where
    pub definitions : length (definition_lines rs) ≡ count_by is_config earlier
    pub blocks : length (block_lines rs) ≡ count_by is_opener earlier
    pub choices : length (choice_blocks rs) ≡ count_by is_choice earlier
    pub comments : length (comment_lines rs) ≡ count_by is_comment earlier
    pub owner : IsMadeBy rs (owner_at names earlier)

  module _ (earlier : List LineValue) (is_last : Bool) (l : LineValue) (r : Reading) (sound : IsSound names earlier is_last l r.statement) (owned : r.owner ≡ owner_at names (l ∷ earlier)) where
    of_definition : length (definitions_made r.block r.statement) ≡ cond (is_config l) 1 0
    of_definition =
        one_definition r.block r.statement (within_limit (is_no_choice_default (nearest_statement earlier) r.statement) (opens_too_deep (open_blocks earlier) l) (is_past_limit r.statement) sound.late)
        ∙ ap (λ x. cond x 1 0) (sym (form_word is_config_word refl names l r.statement sound.form))

    of_block : length (blocks_made r.block r.statement) ≡ cond (is_opener l) 1 0
    of_block = one_block r.block r.statement ∙ ap (λ x. cond x 1 0) (sym (form_word is_opener_word refl names l r.statement sound.form))

    owns_choice : (s : Statement) → r.statement ≡ s → OwnsChoice s r.owner
    unfolding OwnsChoice
    owns_choice statement.Choice e =
        let says = form_word is_choice_word refl names l r.statement sound.form ∙ ap (λ s. option_map_or is_choice_word (word_of s) false) e in
        let word = the_choice (keyword_of l) says in (
          record { 0 = count_by is_choice earlier },
          record { 0 = count_by is_opener earlier },
          owned ∙ ap (λ k. if option_map_or is_attribute_word k false then owner_at names earlier else made_by names k l earlier) word,
        )
    owns_choice _ e = tt

    of_choice : length (choices_made r.statement r.owner) ≡ cond (is_choice l) 1 0
    of_choice =
        one_choice r.statement r.owner (owns_choice r.statement refl)
        ∙ ap (λ x. cond x 1 0) (sym (form_word is_choice_word refl names l r.statement sound.form))

    of_comment : length (comments_made r.block r.choice r.statement) ≡ cond (is_comment l) 1 0
    of_comment = one_comment r.block r.choice r.statement ∙ ap (λ x. cond x 1 0) (sym (form_word is_comment_word refl names l r.statement sound.form))

    module _ (rs : List Reading) (counted : AreCounted earlier rs) where
      more_definitions : length (definition_lines (rs ++ r ∷ [])) ≡ count_by is_config (l ∷ earlier)
      more_definitions =
          let more = more_definitions_by rs r in
          let count = count_cons is_config l earlier in
          omega (arith, more, count, of_definition, counted.definitions)

      more_blocks : length (block_lines (rs ++ r ∷ [])) ≡ count_by is_opener (l ∷ earlier)
      more_blocks =
          let more = more_blocks_by rs r in
          let count = count_cons is_opener l earlier in
          omega (arith, more, count, of_block, counted.blocks)

      more_choices : length (choice_blocks (rs ++ r ∷ [])) ≡ count_by is_choice (l ∷ earlier)
      more_choices =
          let more = more_choices_by rs r in
          let count = count_cons is_choice l earlier in
          omega (arith, more, count, of_choice, counted.choices)

      more_comments : length (comment_lines (rs ++ r ∷ [])) ≡ count_by is_comment (l ∷ earlier)
      more_comments =
          let more = more_comments_by rs r in
          let count = count_cons is_comment l earlier in
          omega (arith, more, count, of_comment, counted.comments)

      -- by what the line's word is
      made_itself : (k : Option Keyword) → keyword_of l ≡ k → IsMadeBy (rs ++ r ∷ []) (made_by names k l earlier)
      made_itself None e = tt
      made_itself (Some keyword.Config) e =
          let one : ◌≡◌ {A = ℕ} (cond (is_config l) 1 0) 1 = ap (λ k. cond (option_map_or is_config_word k false) 1 0) e in
          let count = count_cons is_config l earlier in
          let here : count_by is_config earlier < length (definition_lines (rs ++ r ∷ [])) = omega (arith, count, more_definitions, one) in
          at (option_and_then (symbol_among names) (defined_name l)) here
        where
          at : (o : Option SymId) → count_by is_config earlier < length (definition_lines (rs ++ r ∷ [])) → IsMadeBy (rs ++ r ∷ []) (option_map (λ s. Definition s (count_by is_config earlier)) o)
          at None h = tt
          at (Some s) h = h
      made_itself (Some keyword.Menu) e =
          let one : ◌≡◌ {A = ℕ} (cond (is_opener l) 1 0) 1 = ap (λ k. cond (option_map_or is_opener_word k false) 1 0) e in
          let count = count_cons is_opener l earlier in
          omega (arith, count, more_blocks, one)
      made_itself (Some keyword.Choice) e =
          let choice_one : ◌≡◌ {A = ℕ} (cond (is_choice l) 1 0) 1 = ap (λ k. cond (option_map_or is_choice_word k false) 1 0) e in
          let block_one : ◌≡◌ {A = ℕ} (cond (is_opener l) 1 0) 1 = ap (λ k. cond (option_map_or is_opener_word k false) 1 0) e in
          let choice_count = count_cons is_choice l earlier in
          let block_count = count_cons is_opener l earlier in
          let choice : count_by is_choice earlier < length (choice_blocks (rs ++ r ∷ [])) = omega (arith, choice_count, more_choices, choice_one) in
          let block : count_by is_opener earlier < length (block_lines (rs ++ r ∷ [])) = omega (arith, block_count, more_blocks, block_one) in
          (choice, block)
      made_itself (Some keyword.Comment) e =
          let one : ◌≡◌ {A = ℕ} (cond (is_comment l) 1 0) 1 = ap (λ k. cond (option_map_or is_comment_word k false) 1 0) e in
          let count = count_cons is_comment l earlier in
          omega (arith, count, more_comments, one)
      made_itself (Some keyword.EndMenu) e = tt
      made_itself (Some keyword.If) e = tt
      made_itself (Some keyword.EndIf) e = tt
      made_itself (Some keyword.EndChoice) e = tt
      made_itself (Some keyword.MainMenu) e = tt
      made_itself (Some keyword.Source) e = tt
      made_itself (Some keyword.Bool) e = tt
      made_itself (Some keyword.Tristate) e = tt
      made_itself (Some keyword.String) e = tt
      made_itself (Some keyword.Int) e = tt
      made_itself (Some keyword.Hex) e = tt
      made_itself (Some keyword.DefBool) e = tt
      made_itself (Some keyword.DefTristate) e = tt
      made_itself (Some keyword.Prompt) e = tt
      made_itself (Some keyword.Default) e = tt
      made_itself (Some keyword.Range) e = tt
      made_itself (Some keyword.Depends) e = tt
      made_itself (Some keyword.Visible) e = tt
      made_itself (Some keyword.Select) e = tt
      made_itself (Some keyword.Imply) e = tt
      made_itself (Some keyword.Modules) e = tt
      made_itself (Some keyword.Option) e = tt
      made_itself (Some keyword.Optional) e = tt
      made_itself (Some keyword.Help) e = tt
      made_itself (Some keyword.Unsupported) e = tt

      owner_more : (b : Bool) → IsMadeBy (rs ++ r ∷ []) (if b then owner_at names earlier else made_by names (keyword_of l) l earlier)
      owner_more true = made_more rs r (owner_at names earlier) counted.owner
      owner_more false = made_itself (keyword_of l) refl

      pub counted_more : AreCounted (l ∷ earlier) (rs ++ r ∷ [])
      counted_more = record {
        definitions = more_definitions;
        blocks = more_blocks;
        choices = more_choices;
        comments = more_comments;
        owner = owner_more (is_attribute l);
      }

  reverse_push : (r : Reading) (qs : List Reading) → reverse (r ∷ qs) ≡ reverse qs ++ r ∷ []
  reverse_push r qs = reverse-append (r ∷ []) qs

  -- the readings in reverse have made what their lines count
  pub counted : (following : ℕ) (earlier : List LineValue) (qs : List Reading) → AreReadingsBefore names following earlier qs → AreCounted earlier (reverse qs)
  counted following [] [] h = record { definitions = refl; blocks = refl; choices = refl; comments = refl; owner = tt }
  counted following [] (q ∷ qs) h = absurd h
  counted following (l ∷ earlier) [] h = absurd h
  counted following (l ∷ earlier) (q ∷ qs) h =
      subst (AreCounted (l ∷ earlier)) (sym (reverse_push q qs))
      (counted_more earlier (following == 0) l q h.0.sound h.0.owner (reverse qs) (counted (following + 1) earlier qs h.1))

-- one more reading whose owner and choice are made by then
pub made_push : (rs : List Reading) (r : Reading) → AreMade rs → IsMade (rs ++ r ∷ []) r → AreMade (rs ++ r ∷ [])
made_push rs r all this =
    All-push (IsMade (rs ++ r ∷ [])) rs r (λ k d within. is_made_more rs r (slice_index_or rs k d) (all k d within)) this

-- a choice that the lines before have opened
choice_made : (rs : List Reading) (n : ℕ) (o : Option ChoiceId) → n ≤ length (choice_blocks rs) → IsBelow n o → IsChoiceMadeBy rs o
unfolding IsBelow
choice_made rs n None few h = tt
choice_made rs n (Some c) few h = omega (arith, few, h)

-- the readings with one more at the end, in reverse
pub reverse_end : (rs : List Reading) (r : Reading) → reverse (rs ++ r ∷ []) ≡ r ∷ reverse rs
reverse_end rs r = reverse-append rs (r ∷ [])

-- the owner and the choice of the next reading are made by then
pub next_made : (names : List (List ℕ)) (following : ℕ) (l : LineValue) (earlier : List LineValue) (rs : List Reading) (r : Reading)
    → AreReadingsBefore names following (l ∷ earlier) (reverse (rs ++ r ∷ [])) → r.owner ≡ owner_at names (l ∷ earlier)
    → r.choice ≡ choice_among (open_blocks earlier) → AreMade rs → AreMade (rs ++ r ∷ [])
next_made names following l earlier rs r read owner_is choice_is all =
    let all_counted : AreCounted names (l ∷ earlier) (rs ++ r ∷ []) =
    subst (AreCounted names (l ∷ earlier)) (reverse-reverse (rs ++ r ∷ [])) (counted names following (l ∷ earlier) (reverse (rs ++ r ∷ [])) read) in
    let count = count_cons is_choice l earlier in
    let opened = all_counted.choices in
    let few : count_by is_choice earlier ≤ length (choice_blocks (rs ++ r ∷ [])) = omega (arith, count, opened) in
    made_push rs r all (record {
      owner = subst (IsMadeBy (rs ++ r ∷ [])) (sym owner_is) all_counted.owner;
      choice = subst (IsChoiceMadeBy (rs ++ r ∷ [])) (sym choice_is)
          (choice_made (rs ++ r ∷ []) (count_by is_choice earlier) (choice_among (open_blocks earlier)) few (choice_below earlier));
    })

-- one more line that is read, and taken by the outline
pub next_outline : (names : List (List ℕ)) (following : ℕ) (earlier : List LineValue) (l : LineValue) (old new : TreeValue) (r : Reading)
    → IsOutlineAfter names (following + 1) earlier old
    → IsReading names earlier (following == 0) l r → IsOnlyForm names l r.statement
    → ((rs : List Reading) → AreMade rs → IsNamedIn names r.statement → old ≡ tree_of names rs → new ≡ tree_of names (rs ++ r ∷ []))
    → IsOutlineAfter names following (l ∷ earlier) new
next_outline names following earlier l old new r before reading form takes =
    let read : AreReadingsBefore names following (l ∷ earlier) (reverse (before.readings ++ r ∷ [])) =
    subst (AreReadingsBefore names following (l ∷ earlier)) (sym (reverse_end before.readings r)) (reading, before.read) in
    record {
      readings = before.readings ++ r ∷ [];
      read = read;
      only = subst (AreOnlyForms names (l ∷ earlier)) (sym (reverse_end before.readings r)) (form, before.only);
      tree = takes before.readings before.made (named_by_form names l r.statement reading.sound.form) before.tree;
      made = next_made names following l earlier before.readings r read reading.owner reading.choice before.made;
    }
