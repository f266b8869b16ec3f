-- What owns a line was made by a line before, or by the line itself.
use Rattle.std.proofs.Common.{◌≡◌, ℕ, Bool, false, List, [], ◌∷◌, Option, Some, None, sym, ap, ◌∙◌, ⊎_elim}
use Rattle.std.specs.Option.{option_map_or}
use Rattle.kc_text.specs.LineValue.{LineValue}
use Rattle.kc_text.specs.declared.line.LineKind.{LineKind}
use Rattle.kc_text.specs.declared.line.LineKind.TheVariants.{Statement as StatementLine, EndOfFile as EndLine}
use Rattle.kc_text.specs.declared.line.Token.{Token}
use Rattle.kc_statement.specs.declared.keyword.Keyword.{Keyword}
use Rattle.kc_statement.specs.declared.keyword.Keyword.TheVariants as keyword
use Rattle.kc_statement.specs.declared.statement.Statement.{Statement}
use Rattle.kc_statement.specs.declared.statement.Statement.TheVariants as statement
use Rattle.kc_statement.specs.Keywords.{keyword_at, keyword_of}
use Rattle.kc_statement.specs.Statements.{type_word, default_word, HasFormAfter, HasFormOf, HasForm}

-- the word of a statement; `modules` stands for `option modules` too
abbrev pub word_of : Statement → Option Keyword
word_of statement.EndOfFile = None
word_of (statement.Config s) = Some keyword.Config
word_of (statement.Menu t) = Some keyword.Menu
word_of statement.EndMenu = Some keyword.EndMenu
word_of (statement.If e) = Some keyword.If
word_of statement.EndIf = Some keyword.EndIf
word_of statement.Choice = Some keyword.Choice
word_of statement.EndChoice = Some keyword.EndChoice
word_of (statement.Comment t) = Some keyword.Comment
word_of statement.MainMenu = Some keyword.MainMenu
word_of (statement.Type k) = Some (type_word k)
word_of (statement.TypeAndPrompt k p) = Some (type_word k)
word_of (statement.TypeAndDefault k d) = default_word k
word_of (statement.Prompt p) = Some keyword.Prompt
word_of (statement.Default d) = Some keyword.Default
word_of (statement.Range r) = Some keyword.Range
word_of (statement.DependsOn e) = Some keyword.Depends
word_of (statement.VisibleIf e) = Some keyword.Visible
word_of (statement.Select s c) = Some keyword.Select
word_of (statement.Imply s c) = Some keyword.Imply
word_of statement.Modules = Some keyword.Modules
word_of statement.AllNoConfigYes = Some keyword.Option
word_of statement.Optional = Some keyword.Optional
word_of statement.Help = Some keyword.Help

-- a test of words that doesn't tell `option` from `modules`
module _ (f : Keyword → Bool) (same : f keyword.Option ≡ f keyword.Modules) where
  abbrev holds : Option Keyword → Bool
  holds o = option_map_or f o false

  after : (names : List (List ℕ)) (k : Keyword) (tokens : List Token) (s : Statement) → HasFormAfter names k tokens s → f k ≡ holds (word_of s)
  after names k tokens statement.EndOfFile h = absurd h
  after names k tokens (statement.Config s) h = ap f h.0
  after names k tokens (statement.Menu t) h = ap f h.0
  after names k tokens statement.EndMenu h = ap f h.0
  after names k tokens (statement.If e) h = ap f h.0
  after names k tokens statement.EndIf h = ap f h.0
  after names k tokens statement.Choice h = ap f h.0
  after names k tokens statement.EndChoice h = ap f h.0
  after names k tokens (statement.Comment t) h = ap f h.0
  after names k tokens statement.MainMenu h = ap f h.0
  after names k tokens (statement.Type j) h = ap f h.0
  after names k tokens (statement.TypeAndPrompt j p) h = ap f h.0
  after names k tokens (statement.TypeAndDefault j d) h = ap holds (sym h.0)
  after names k tokens (statement.Prompt p) h = ap f h.0
  after names k tokens (statement.Default d) h = ap f h.0
  after names k tokens (statement.Range r) h = ap f h.0
  after names k tokens (statement.DependsOn e) h = ap f h.0
  after names k tokens (statement.VisibleIf e) h = ap f h.0
  after names k tokens (statement.Select s c) h = ap f h.0
  after names k tokens (statement.Imply s c) h = ap f h.0
  after names k tokens statement.Modules h = ⊎_elim (λ x. ap f x.0) (λ x. ap f x.0 ∙ same) h
  after names k tokens statement.AllNoConfigYes h = ap f h.0
  after names k tokens statement.Optional h = ap f h.0
  after names k tokens statement.Help h = ap f h.0

  of : (names : List (List ℕ)) (line : LineKind) (tokens : List Token) (s : Statement) → HasFormOf names line tokens s → holds (keyword_at line tokens) ≡ holds (word_of s)
  of names EndLine tokens s h = sym (ap (λ x. holds (word_of x)) h)
  of names StatementLine [] s h = absurd h
  of names StatementLine (t ∷ rest) s h = ap holds h.1 ∙ after names h.0 rest s h.2

  -- what a test says of the word of a line it says of the word of the statement
  pub form_word : (names : List (List ℕ)) (l : LineValue) (s : Statement) → HasForm names l s → holds (keyword_of l) ≡ holds (word_of s)
  unfolding HasForm
  form_word names l s h = of names l.kind l.tokens s h
