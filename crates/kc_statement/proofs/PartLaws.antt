-- The part of a line that is read after its keyword is that of the one statement that the line says.
use Rattle.std.proofs.Common.{◌≡◌, ◌⊎◌, inl, inr, ◌==◌, ℕ, List, [], ◌∷◌, Some, IfOk, IfErr, Result, Ok, Err, Bool, true, false, drop, length, refl, sym, ap, subst, ◌∙◌}
use Rattle.std.proofs.lemmas.Bool.{eqb-true}
use Rattle.std.proofs.lemmas.List.{nil_from_length}
use Rattle.kc_text.specs.LineValue.{LineValue}
use Rattle.kc_text.specs.declared.line.LineKind.{LineKind}
use Rattle.kc_text.specs.declared.line.LineKind.TheVariants.{Statement as StatementLine, EndOfFile as EndLine}
use Rattle.kc_text.specs.declared.line.Token.{Token}
use Rattle.kc_statement.specs.declared.attribute.Prompt.{Prompt}
use Rattle.kc_statement.specs.declared.attribute.DefaultValue.{DefaultValue}
use Rattle.kc_statement.specs.declared.attribute.Setting.{Setting}
use Rattle.kc_statement.specs.declared.keyword.Keyword.{Keyword}
use Rattle.kc_statement.specs.declared.keyword.Keyword.TheVariants as keyword
use Rattle.kc_statement.specs.declared.statement.Statement.{Statement}
use Rattle.kc_statement.specs.declared.statement.Statement.TheVariants as statement
use Rattle.kc_statement.specs.declared.symbol_type.SymbolType.{SymbolType}
use Rattle.kc_statement.specs.Keywords.{keyword_at, keyword_of}
use Rattle.kc_statement.specs.declared.mistake.Unread.{Unread}
use Rattle.kc_statement.specs.Mistakes.{IsMistake}
use Rattle.kc_statement.specs.LineParts.{IsPartOf, SaysOnly}
use Rattle.kc_statement.specs.LoneLines.{lone_statement, said_by_option}
use Rattle.kc_statement.specs.Statements.{IsPrompt, IsDefault, type_word, default_word, HasFormAfter, HasFormOf, HasForm, HasNoForm}
use Rattle.kc_statement.proofs.FormOf.{Says, FormOf, form_of}
use Rattle.kc_statement.proofs.OneStatement.{one_statement}
use Rattle.kc_statement.proofs.StatementLaws.{no_type, no_typed_default}

one_some : (j k : Keyword) → Some j ≡ Some k → j ≡ k
one_some j k e = cc

to_line : (names : List (List ℕ)) (k : Keyword) (s : Statement) (line : LineKind) (tokens : List Token) → keyword_at line tokens ≡ Some k → HasFormAfter names k (drop 1 tokens) s → HasFormOf names line tokens s
to_line names k s EndLine tokens is h = absurd (cc)
to_line names k s StatementLine [] is h = absurd (cc)
to_line names k s StatementLine (t ∷ rest) is h = (k, is, h)

from_line : (names : List (List ℕ)) (k : Keyword) (s : Statement) (line : LineKind) (tokens : List Token) → keyword_at line tokens ≡ Some k → HasFormOf names line tokens s → HasFormAfter names k (drop 1 tokens) s
from_line names k s EndLine tokens is h = absurd (cc)
from_line names k s StatementLine [] is h = absurd h
from_line names k s StatementLine (t ∷ rest) is (j, also, f) = subst (λ (x : Keyword). HasFormAfter names x rest s) (one_some j k (sym also ∙ is)) f

-- a line without tokens has no such token
none_of : (tokens : List Token) → (length tokens == 0) ≡ true → tokens ≡ []
none_of tokens e = nil_from_length tokens (eqb-true (length tokens) 0 e)

module _ (names : List (List ℕ)) (l : LineValue) (tokens : List Token) (same : tokens ≡ drop 1 l.tokens) (k : Keyword) (is : keyword_of l ≡ Some k) where
  pub says : (s : Statement) → HasFormAfter names k tokens s → SaysOnly names l s
  unfolding HasForm
  says s h =
      let form : HasForm names l s = to_line names k s l.kind l.tokens is (subst (λ (ts : List Token). HasFormAfter names k ts s) same h) in
      record { form = form; only = λ r g. one_statement names l s r form g }

  pub says_none : ((s : Statement) → HasFormAfter names k tokens s → ⊥) → HasNoForm names l
  unfolding HasForm
  says_none none = λ s h. none s (subst (λ (ts : List Token). HasFormAfter names k ts s) (sym same) (from_line names k s l.kind l.tokens is h))

  -- a part, by the form of the keyword
  module _ {A : Type 0} (P : A → Type 0) (f : A → Statement) (some : (x : A) → P x → HasFormAfter names k tokens (f x))
      (part : (s : Statement) → FormOf names k tokens s → Says P f s) where
    pub part_of : (r : Result A Unread) → IfOk r P → IfErr r (IsMistake P) → IsPartOf names l f r
    part_of (Ok x) p mistake = says (f x) (some x p)
    part_of (Err e) read none = λ at. says_none (λ s h. let read = part s (form_of names tokens k s h) in none at read.0 read.1)

-- ---- a line that is its keyword alone
some_is : (s r : Statement) → Some s ≡ Some r → s ≡ r
some_is s r e = cc

-- what its statement is, where nothing comes after the keyword
alone_form : (names : List (List ℕ)) (tokens : List Token) (k : Keyword) (s : Statement) → lone_statement k ≡ Some s → tokens ≡ [] → HasFormAfter names k tokens s
alone_form names tokens keyword.EndMenu s e none = subst (HasFormAfter names keyword.EndMenu tokens) (some_is statement.EndMenu s e) (refl, none)
alone_form names tokens keyword.EndIf s e none = subst (HasFormAfter names keyword.EndIf tokens) (some_is statement.EndIf s e) (refl, none)
alone_form names tokens keyword.Choice s e none = subst (HasFormAfter names keyword.Choice tokens) (some_is statement.Choice s e) (refl, none)
alone_form names tokens keyword.EndChoice s e none = subst (HasFormAfter names keyword.EndChoice tokens) (some_is statement.EndChoice s e) (refl, none)
alone_form names tokens keyword.Modules s e none = subst (HasFormAfter names keyword.Modules tokens) (some_is statement.Modules s e) (inl (refl, none))
alone_form names tokens keyword.Optional s e none = subst (HasFormAfter names keyword.Optional tokens) (some_is statement.Optional s e) (refl, none)
alone_form names tokens keyword.Help s e none = subst (HasFormAfter names keyword.Help tokens) (some_is statement.Help s e) (refl, none)
alone_form names tokens _ s e none = absurd (cc)

-- and it has no other form
alone_only : (names : List (List ℕ)) (tokens : List Token) (k : Keyword) (s r : Statement) → lone_statement k ≡ Some s → FormOf names k tokens r → tokens ≡ []
unfolding FormOf
alone_only names tokens keyword.EndMenu s r e h = h.0
alone_only names tokens keyword.EndIf s r e h = h.0
alone_only names tokens keyword.Choice s r e h = h.0
alone_only names tokens keyword.EndChoice s r e h = h.0
alone_only names tokens keyword.Modules s r e h = h.0
alone_only names tokens keyword.Optional s r e h = h.0
alone_only names tokens keyword.Help s r e h = h.0
alone_only names tokens _ s r e h = absurd (cc)

module _ (names : List (List ℕ)) (l : LineValue) (tokens : List Token) (same : tokens ≡ drop 1 l.tokens) (k : Keyword) (s : Statement) (is : keyword_of l ≡ Some k) (lone : lone_statement k ≡ Some s) where
  pub alone_says : (length tokens == 0) ≡ true → SaysOnly names l s
  alone_says none = says names l tokens same k is s (alone_form names tokens k s lone (none_of tokens none))

  pub alone_says_none : (length tokens == 0) ≡ false → HasNoForm names l
  alone_says_none some =
      says_none names l tokens same k is
      (λ r h. let none = alone_only names tokens k s r lone (form_of names tokens k r h) in
      let no : false ≡ true = sym some ∙ ap (λ (ts : List Token). length ts == 0) none in
      absurd (cc))

-- ---- an end of file, and keywords without a form
pub end_says : (names : List (List ℕ)) (l : LineValue) → l.kind ≡ EndLine → SaysOnly names l statement.EndOfFile
unfolding HasForm
end_says names l e =
    let form : HasForm names l statement.EndOfFile = subst (λ (k : LineKind). HasFormOf names k l.tokens statement.EndOfFile) (sym e) refl in
    record { form = form; only = λ r g. one_statement names l statement.EndOfFile r form g }

formless : (names : List (List ℕ)) (tokens : List Token) (k : Keyword) → (k ≡ keyword.Source) ⊎ (k ≡ keyword.Unsupported) → (s : Statement) → FormOf names k tokens s → ⊥
unfolding FormOf
formless names tokens k (inl e) s h = subst (λ (x : Keyword). FormOf names x tokens s) e h
formless names tokens k (inr e) s h = subst (λ (x : Keyword). FormOf names x tokens s) e h

pub says_nothing : (names : List (List ℕ)) (l : LineValue) (k : Keyword) → keyword_of l ≡ Some k → (k ≡ keyword.Source) ⊎ (k ≡ keyword.Unsupported) → HasNoForm names l
says_nothing names l k is none = says_none names l (drop 1 l.tokens) refl k is (λ s h. formless names (drop 1 l.tokens) k none s (form_of names (drop 1 l.tokens) k s h))

-- ---- types
pub type_where : (names : List (List ℕ)) (l : LineValue) (tokens : List Token) → tokens ≡ drop 1 l.tokens → (t : SymbolType) → keyword_of l ≡ Some (type_word t) → (length tokens == 0) ≡ true → SaysOnly names l (statement.Type t)
type_where names l tokens same t is none = says names l tokens same (type_word t) is (statement.Type t) (refl, none_of tokens none)

module _ (names : List (List ℕ)) (l : LineValue) (tokens : List Token) (same : tokens ≡ drop 1 l.tokens) where
  pub typed_prompt_of : (t : SymbolType) → keyword_of l ≡ Some (type_word t) → (length tokens == 0) ≡ false
      → (r : Result Prompt Unread) → IfOk r (IsPrompt names tokens) → IfErr r (IsMistake (IsPrompt names tokens)) → IsPartOf names l (λ p. statement.TypeAndPrompt t p) r
  typed_prompt_of t is some (Ok p) h mistake = says names l tokens same (type_word t) is (statement.TypeAndPrompt t p) (refl, h)
  typed_prompt_of t is some (Err e) h none = λ at. says_none names l tokens same (type_word t) is (no_type names tokens t some (none at))

  pub typed_default_of : (t : SymbolType) (k : Keyword) → default_word t ≡ Some k → keyword_of l ≡ Some k
      → (r : Result DefaultValue Unread) → IfOk r (IsDefault names tokens) → IfErr r (IsMistake (IsDefault names tokens)) → IsPartOf names l (λ d. statement.TypeAndDefault t d) r
  typed_default_of t k word is (Ok d) h mistake = says names l tokens same k is (statement.TypeAndDefault t d) (word, h)
  typed_default_of t k word is (Err e) h none = λ at. says_none names l tokens same k is (no_typed_default names tokens t k word (none at))

  pub option_of : keyword_of l ≡ Some keyword.Option → (r : Result Setting Unread) → IfOk r (λ x. HasFormAfter names keyword.Option tokens (said_by_option x)) → IfErr r (IsMistake (HasFormAfter names keyword.Option tokens)) → IsPartOf names l said_by_option r
  option_of is (Ok x) h mistake = says names l tokens same keyword.Option is (said_by_option x) h
  option_of is (Err e) h none = λ at. says_none names l tokens same keyword.Option is (none at)
