-- Where a line is, one line further on.
use Rattle.std.proofs.Common.{◌≡◌, ℕ, ◌+◌, Bool, true, false, not, ◌&&◌, cond, if◌then◌else◌, List, ◌∷◌, drop, Option, Some, None, option_and_then, unwrap_or, count_by, find, refl, ap, sym, ◌∙◌, arith}
use Rattle.std.specs.Option.{option_map_or}
use Rattle.std.proofs.lemmas.List.Sums.{sum_by-cons}
use Rattle.kc_text.specs.LineValue.{LineValue}
use Rattle.kc_statement.specs.declared.id.SymId.{SymId}
use Rattle.kc_statement.specs.declared.keyword.Keyword.{Keyword}
use Rattle.kc_statement.specs.declared.keyword.Keyword.TheVariants as keyword
use Rattle.kc_outline.specs.declared.context.OpenBlock.{OpenBlock}
use Rattle.kc_outline.specs.declared.context.Context.{Context}
use Rattle.kc_statement.specs.Keywords.{keyword_of, is_attribute, is_attribute_word, is_opener, is_opener_word, is_closer, is_closer_word, is_config, is_config_word, is_comment, is_comment_word, is_choice, is_choice_word}
use Rattle.kc_statement.specs.Names.{defined_name}
use Rattle.kc_outline.specs.Enclosing.{block_opened, open_blocks, made_by}
use Rattle.kc_outline.specs.ContextAfter.{IsContextAfter, blocks_after, owner_made}
use Rattle.kc_statement.specs.Names.{symbol_among}

-- the block that a line may open, by its keyword, and by what may be its keyword
abbrev pub block_of : Keyword → ℕ → ℕ → ℕ → OpenBlock
block_of k blocks run choices = record {
  id = record { 0 = blocks };
  keyword = k;
  run = run;
  choice = if is_choice_word k then Some (record { 0 = choices }) else None;
}

abbrev block_by : Option Keyword → ℕ → ℕ → ℕ → OpenBlock
block_by o blocks run choices = record {
  id = record { 0 = blocks };
  keyword = unwrap_or o keyword.If;
  run = run;
  choice = if option_map_or is_choice_word o false then Some (record { 0 = choices }) else None;
}

-- ---- after a line of a keyword
module _ (l : LineValue) (earlier : List LineValue) (k : Keyword) (is : keyword_of l ≡ Some k) where
  of_word : (p : Keyword → Bool) → option_map_or p (keyword_of l) false ≡ p k
  of_word p = ap (λ o. option_map_or p o false) is

  pub open_blocks-cons : open_blocks (l ∷ earlier) ≡ blocks_after k (block_opened l earlier) (open_blocks earlier)
  open_blocks-cons =
      ap (λ b. cond b (block_opened l earlier ∷ open_blocks earlier) (cond (is_closer l) (drop 1 (open_blocks earlier)) (open_blocks earlier))) (of_word is_opener_word)
      ∙ ap (λ b. cond (is_opener_word k) (block_opened l earlier ∷ open_blocks earlier) (cond b (drop 1 (open_blocks earlier)) (open_blocks earlier))) (of_word is_closer_word)

counted : {X : Type 0} (p : X → Bool) (x : X) (xs : List X) → count_by p (x ∷ xs) ≡ cond (p x) (count_by p xs + 1) (count_by p xs)
counted p x xs = sum_by-cons (λ y. cond (p y) 1 0) x xs ∙ step (p x) (count_by p xs) where
  step : (b : Bool) (n : ℕ) → cond b 1 0 + n ≡ cond b (n + 1) n
  step true n = omega arith
  step false n = omega arith

nearest_step : (l : LineValue) (b : Bool) (found : Option LineValue) → option_and_then keyword_of (cond (not b) (Some l) found) ≡ cond b (option_and_then keyword_of found) (keyword_of l)
nearest_step l true found = refl
nearest_step l false found = refl

-- ---- an attribute is nothing else
no_opener_of : (k : Keyword) → (is_attribute_word k && is_opener_word k) ≡ false
no_opener_of keyword.Menu = refl
no_opener_of _ = refl

pub no_opener : (k : Keyword) → is_attribute_word k ≡ true → is_opener_word k ≡ false
no_opener k attribute = ap (λ b. b && is_opener_word k) (sym attribute) ∙ no_opener_of k

no_closer_of : (k : Keyword) → (is_attribute_word k && is_closer_word k) ≡ false
no_closer_of keyword.EndMenu = refl
no_closer_of _ = refl

no_closer : (k : Keyword) → is_attribute_word k ≡ true → is_closer_word k ≡ false
no_closer k attribute = ap (λ b. b && is_closer_word k) (sym attribute) ∙ no_closer_of k

no_config_of : (k : Keyword) → (is_attribute_word k && is_config_word k) ≡ false
no_config_of keyword.Config = refl
no_config_of _ = refl

no_config : (k : Keyword) → is_attribute_word k ≡ true → is_config_word k ≡ false
no_config k attribute = ap (λ b. b && is_config_word k) (sym attribute) ∙ no_config_of k

no_comment_of : (k : Keyword) → (is_attribute_word k && is_comment_word k) ≡ false
no_comment_of keyword.Comment = refl
no_comment_of _ = refl

no_comment : (k : Keyword) → is_attribute_word k ≡ true → is_comment_word k ≡ false
no_comment k attribute = ap (λ b. b && is_comment_word k) (sym attribute) ∙ no_comment_of k

no_choice_of : (k : Keyword) → (is_attribute_word k && is_choice_word k) ≡ false
no_choice_of keyword.Choice = refl
no_choice_of _ = refl

no_choice : (k : Keyword) → is_attribute_word k ≡ true → is_choice_word k ≡ false
no_choice k attribute = ap (λ b. b && is_choice_word k) (sym attribute) ∙ no_choice_of k

made_by-owner_made : (names : List (List ℕ)) (l : LineValue) (earlier : List LineValue) (k : Keyword) → made_by names (Some k) l earlier ≡ owner_made k (option_and_then (symbol_among names) (defined_name l)) (count_by is_config earlier) (count_by is_opener earlier) (count_by is_choice earlier) (count_by is_comment earlier)
made_by-owner_made names l earlier keyword.Config = refl
made_by-owner_made names l earlier keyword.Menu = refl
made_by-owner_made names l earlier keyword.Choice = refl
made_by-owner_made names l earlier keyword.Comment = refl
made_by-owner_made names l earlier _ = refl

-- ---- what is known after a line, by what the line is
module _ (names : List (List ℕ)) (l : LineValue) (earlier : List LineValue) (p q : Context) (known : IsContextAfter names earlier p) where
  context_more : (a o d h m : Bool) → is_attribute l ≡ a → is_opener l ≡ o → is_config l ≡ d → is_choice l ≡ h → is_comment l ≡ m
      → q.stack ≡ open_blocks (l ∷ earlier)
      → q.statement ≡ cond a p.statement (keyword_of l)
      → q.owner ≡ cond a p.owner (made_by names (keyword_of l) l earlier)
      → q.definitions ≡ cond d (p.definitions + 1) p.definitions
      → q.blocks ≡ cond o (p.blocks + 1) p.blocks
      → q.choices ≡ cond h (p.choices + 1) p.choices
      → q.comments ≡ cond m (p.comments + 1) p.comments
      → IsContextAfter names (l ∷ earlier) q
  context_more a o d h m is_a is_o is_d is_h is_m stack statement owner definitions blocks choices comments = record {
    stack = stack;
    statement =
        statement
        ∙ ap (λ b. cond b p.statement (keyword_of l)) (sym is_a)
        ∙ ap (λ s. cond (is_attribute l) s (keyword_of l)) known.statement
        ∙ sym (nearest_step l (is_attribute l) (find (λ x. not (is_attribute x)) earlier));
    owner =
        owner
        ∙ ap (λ b. cond b p.owner (made_by names (keyword_of l) l earlier)) (sym is_a)
        ∙ ap (λ s. cond (is_attribute l) s (made_by names (keyword_of l) l earlier)) known.owner;
    definitions =
        definitions
        ∙ ap (λ b. cond b (p.definitions + 1) p.definitions) (sym is_d)
        ∙ ap (λ n. cond (is_config l) (n + 1) n) known.definitions
        ∙ sym (counted is_config l earlier);
    blocks =
        blocks
        ∙ ap (λ b. cond b (p.blocks + 1) p.blocks) (sym is_o)
        ∙ ap (λ n. cond (is_opener l) (n + 1) n) known.blocks
        ∙ sym (counted is_opener l earlier);
    choices =
        choices
        ∙ ap (λ b. cond b (p.choices + 1) p.choices) (sym is_h)
        ∙ ap (λ n. cond (is_choice l) (n + 1) n) known.choices
        ∙ sym (counted is_choice l earlier);
    comments =
        comments
        ∙ ap (λ b. cond b (p.comments + 1) p.comments) (sym is_m)
        ∙ ap (λ n. cond (is_comment l) (n + 1) n) known.comments
        ∙ sym (counted is_comment l earlier);
  }

  -- a line without keyword
  pub IsContextAfter-nothing : keyword_of l ≡ None → q.stack ≡ p.stack → q.statement ≡ None → q.owner ≡ None → q.definitions ≡ p.definitions → q.blocks ≡ p.blocks → q.choices ≡ p.choices → q.comments ≡ p.comments → IsContextAfter names (l ∷ earlier) q
  IsContextAfter-nothing is stack statement owner definitions blocks choices comments =
      let no = λ (w : Keyword → Bool). ap (λ o. option_map_or w o false) is in
      context_more false false false false false (no is_attribute_word) (no is_opener_word) (no is_config_word) (no is_choice_word) (no is_comment_word)
      (stack ∙ known.stack ∙ sym (
      ap (λ b. cond b (block_opened l earlier ∷ open_blocks earlier) (cond (is_closer l) (drop 1 (open_blocks earlier)) (open_blocks earlier))) (no is_opener_word)
      ∙ ap (λ b. cond b (drop 1 (open_blocks earlier)) (open_blocks earlier)) (no is_closer_word)))
      (statement ∙ sym is)
      (owner ∙ sym (ap (λ o. made_by names o l earlier) is))
      definitions blocks choices comments

  module _ (k : Keyword) (is : keyword_of l ≡ Some k) where
    -- an attribute
    pub IsContextAfter-attribute : is_attribute_word k ≡ true → q ≡ p → IsContextAfter names (l ∷ earlier) q
    IsContextAfter-attribute attribute same =
        let of = of_word l earlier k is in
        let opens = no_opener k attribute in
        context_more true false false false false (of is_attribute_word ∙ attribute) (of is_opener_word ∙ opens) (of is_config_word ∙ no_config k attribute) (of is_choice_word ∙ no_choice k attribute) (of is_comment_word ∙ no_comment k attribute)
        (ap (λ x. x.stack) same ∙ known.stack
        ∙ sym (open_blocks-cons l earlier k is
        ∙ ap (λ b. cond b (block_opened l earlier ∷ open_blocks earlier) (cond (is_closer_word k) (drop 1 (open_blocks earlier)) (open_blocks earlier))) opens
        ∙ ap (λ b. cond b (drop 1 (open_blocks earlier)) (open_blocks earlier)) (no_closer k attribute)))
        (ap (λ x. x.statement) same) (ap (λ x. x.owner) same) (ap (λ x. x.definitions) same) (ap (λ x. x.blocks) same) (ap (λ x. x.choices) same) (ap (λ x. x.comments) same)

    -- a statement, which may define a symbol
    pub IsContextAfter-statement : is_attribute_word k ≡ false → (symbol : Option SymId) → symbol ≡ option_and_then (symbol_among names) (defined_name l)
        → q.stack ≡ blocks_after k (block_of k p.blocks l.run p.choices) p.stack
        → q.statement ≡ Some k
        → q.owner ≡ owner_made k symbol p.definitions p.blocks p.choices p.comments
        → q.definitions ≡ cond (is_config_word k) (p.definitions + 1) p.definitions
        → q.blocks ≡ cond (is_opener_word k) (p.blocks + 1) p.blocks
        → q.choices ≡ cond (is_choice_word k) (p.choices + 1) p.choices
        → q.comments ≡ cond (is_comment_word k) (p.comments + 1) p.comments
        → IsContextAfter names (l ∷ earlier) q
    IsContextAfter-statement attribute symbol symbol_is stack statement owner definitions blocks choices comments =
        let of = of_word l earlier k is in
        context_more false (is_opener_word k) (is_config_word k) (is_choice_word k) (is_comment_word k) (of is_attribute_word ∙ attribute) (of is_opener_word) (of is_config_word) (of is_choice_word) (of is_comment_word)
        (stack
        ∙ ap (λ n. blocks_after k (block_of k n l.run p.choices) p.stack) known.blocks
        ∙ ap (λ n. blocks_after k (block_of k (count_by is_opener earlier) l.run n) p.stack) known.choices
        ∙ ap (λ j. blocks_after k (block_by j (count_by is_opener earlier) l.run (count_by is_choice earlier)) p.stack) (sym is)
        ∙ ap (blocks_after k (block_opened l earlier)) known.stack
        ∙ sym (open_blocks-cons l earlier k is))
        (statement ∙ sym is)
        (owner
        ∙ ap (λ n. owner_made k symbol n p.blocks p.choices p.comments) known.definitions
        ∙ ap (λ n. owner_made k symbol (count_by is_config earlier) n p.choices p.comments) known.blocks
        ∙ ap (λ n. owner_made k symbol (count_by is_config earlier) (count_by is_opener earlier) n p.comments) known.choices
        ∙ ap (λ n. owner_made k symbol (count_by is_config earlier) (count_by is_opener earlier) (count_by is_choice earlier) n) known.comments
        ∙ ap (λ s. owner_made k s (count_by is_config earlier) (count_by is_opener earlier) (count_by is_choice earlier) (count_by is_comment earlier)) symbol_is
        ∙ sym (made_by-owner_made names l earlier k)
        ∙ ap (λ o. made_by names o l earlier) (sym is))
        definitions blocks choices comments
