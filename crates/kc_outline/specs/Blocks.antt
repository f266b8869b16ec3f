-- Which lines enclose a line, by counts of the lines that open and close blocks, and the blocks that they open: this
-- project's own, after kconfig-language.rst, "Menu structure".
use Rattle.std.specs.Prelude.{◌≡◌, ℕ, ◌<◌, ◌≤◌, Bool, true, List, Option, Some, length, count_by, drop, slice_get, take}
use Rattle.std.specs.List.{All, AllPairs, AllZip, Contains}
use Rattle.kc_text.specs.LineValue.{LineValue}
use Rattle.kc_statement.specs.Keywords.{is_choice, is_closer, is_comment, is_config, is_opener}
use Rattle.kc_outline.specs.declared.context.OpenBlock.{OpenBlock}
use Rattle.kc_outline.specs.declared.id.BlockId.{BlockId}
use Rattle.kc_outline.specs.Enclosing.{before, block_opened, open_blocks}
use Rattle.kc_outline.specs.TreeValue.{TreeValue, DefinitionValue, BlockValue, ChoiceValue, CommentValue, blocks_around}

-- each beginning of the lines has more openers than closers
abbrev pub StaysOpen : List LineValue → Type 0
StaysOpen ls = (k : ℕ) → 0 < k → k ≤ length ls → count_by is_closer (take k ls) < count_by is_opener (take k ls)

-- line i opens a block that is still open at line j
abbrev pub Encloses : List LineValue → ℕ → ℕ → Type 0
Encloses lines i j = (i < j) × StaysOpen (drop i (take j lines))

-- the places of all lines that enclose line j, the innermost first
pub record AreEnclosing (lines : List LineValue) (j : ℕ) (places : List ℕ) : Type 0 where
  pub each : All (λ i. Encloses lines i j) places
  pub all : (i : ℕ) → Encloses lines i j → Contains places i
  pub innermost_first : AllPairs (λ i k. k < i) places

-- ---- the blocks of any lines
-- line i opens this block
pub record IsOpenedAt (lines : List LineValue) (i : ℕ) (b : OpenBlock) : Type 0 where
  pub line : LineValue
  pub is : slice_get lines i ≡ Some line
  pub block : b ≡ block_opened line (before lines i)

-- the blocks that are open at line j are those that the lines around it open, the innermost first, and no other
pub record AreOpenAt (lines : List LineValue) (j : ℕ) : Type 0 where
  pub openers : List ℕ
  pub enclosing : AreEnclosing lines j openers
  pub opened : AllZip (IsOpenedAt lines) openers (open_blocks (before lines j))

-- ---- the blocks of lines that have no problem
-- the number of the block that line i opens: the count of blocks that the lines before it open
abbrev pub block_number : List LineValue → ℕ → ℕ
block_number lines i = count_by is_opener (take i lines)

-- what is in this block is in those that the lines around line i open, the innermost first, and in no other
pub record IsEnclosed (lines : List LineValue) (t : TreeValue) (i : ℕ) (block : Option BlockId) : Type 0 where
  pub openers : List ℕ
  pub enclosing : AreEnclosing lines i openers
  pub blocks : AllZip (λ p b. slice_get t.blocks (block_number lines p) ≡ Some b) openers (blocks_around t block)

-- line i is the one of number n, counted from 0, of the lines that pass a test
pub record IsNumbered (test : LineValue → Bool) (lines : List LineValue) (n i : ℕ) : Type 0 where
  pub line : LineValue
  pub is : slice_get lines i ≡ Some line
  pub passes : test line ≡ true
  pub number : count_by test (take i lines) ≡ n

-- each definition, block and comment is enclosed as its line is, and a choice has the block that its line opens
pub record AreBlocksEnclosing (lines : List LineValue) (t : TreeValue) : Type 0 where
  pub definitions : (n : ℕ) (d : DefinitionValue) → slice_get t.definitions n ≡ Some d
      → (i : ℕ) × IsNumbered is_config lines n i × IsEnclosed lines t i d.block
  pub blocks : (n : ℕ) (b : BlockValue) → slice_get t.blocks n ≡ Some b
      → (i : ℕ) × IsNumbered is_opener lines n i × IsEnclosed lines t i b.parent
  pub choices : (n : ℕ) (c : ChoiceValue) → slice_get t.choices n ≡ Some c
      → (i : ℕ) × IsNumbered is_choice lines n i × (c.block.0 ≡ block_number lines i)
  pub comments : (n : ℕ) (c : CommentValue) → slice_get t.comments n ≡ Some c
      → (i : ℕ) × IsNumbered is_comment lines n i × IsEnclosed lines t i c.block
