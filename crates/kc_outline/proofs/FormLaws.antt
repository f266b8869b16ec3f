-- What the form of a line says of its keyword and of the name that it defines.
use Rattle.std.proofs.Common.{◌≡◌, ℕ, Bool, true, false, cond, List, [], ◌∷◌, Option, Some, None, option_and_then, refl, ap, sym, ◌∙◌, inl, inr}
use Rattle.std.specs.Option.{option_map_or}
use Rattle.kc_text.specs.LineValue.{LineValue}
use Rattle.kc_text.specs.declared.line.LineKind.{LineKind}
use Rattle.kc_text.specs.declared.line.LineKind.TheVariants.{Statement as StatementLine, EndOfFile as EndLine}
use Rattle.kc_text.specs.declared.line.Token.{Token}
use Rattle.kc_statement.specs.declared.id.SymId.{SymId}
use Rattle.kc_statement.specs.declared.keyword.Keyword.{Keyword}
use Rattle.kc_statement.specs.declared.keyword.Keyword.TheVariants as keyword
use Rattle.kc_statement.specs.declared.symbol_type.SymbolType.{SymbolType}
use Rattle.kc_statement.specs.declared.symbol_type.SymbolType.TheVariants as kind
use Rattle.kc_statement.specs.declared.statement.Statement.{Statement}
use Rattle.kc_statement.specs.declared.statement.Statement.TheVariants as statement
use Rattle.kc_statement.specs.Keywords.{keyword_at, is_config_word}
use Rattle.kc_statement.specs.Names.{name_alone, name_word, defined_name}
use Rattle.kc_statement.specs.Statements.{HasForm, HasFormOf, HasFormAfter, type_word, default_word}
use Rattle.kc_outline.specs.TreeOf.{defined_in}
use Rattle.kc_statement.specs.Names.{symbol_among}

type_word_is_other : (k : SymbolType) → is_config_word (type_word k) ≡ false
type_word_is_other kind.Bool = refl
type_word_is_other kind.Tristate = refl
type_word_is_other kind.String = refl
type_word_is_other kind.Int = refl
type_word_is_other kind.Hex = refl

default_word_is_other : (t : SymbolType) (k : Keyword) → default_word t ≡ Some k → is_config_word k ≡ false
default_word_is_other kind.Bool k e = let same : k ≡ keyword.DefBool = cc in ap is_config_word same
default_word_is_other kind.Tristate k e = let same : k ≡ keyword.DefTristate = cc in ap is_config_word same
default_word_is_other kind.String k e = absurd (cc)
default_word_is_other kind.Int k e = absurd (cc)
default_word_is_other kind.Hex k e = absurd (cc)

module _ (names : List (List ℕ)) where
  -- the symbol that tokens define, by whether their first is `config`
  symbol_defined : Bool → List Token → Option SymId
  symbol_defined config tokens = option_and_then (symbol_among names) (cond config (name_alone tokens) None)

  other_defines_none : (k : Keyword) (tokens : List Token) → is_config_word k ≡ false → symbol_defined (is_config_word k) tokens ≡ None
  unfolding symbol_defined
  other_defines_none k tokens other = ap (λ b. symbol_defined b tokens) other

  none_defined : (k j : Keyword) (tokens : List Token) → k ≡ j → is_config_word j ≡ false → symbol_defined (is_config_word k) tokens ≡ None
  none_defined k j tokens e other = other_defines_none k tokens (ap is_config_word e ∙ other)

  one_defined : (k : Keyword) (first t : Token) (rest : List Token) (name : List ℕ) → k ≡ keyword.Config → rest ≡ t ∷ [] → name_word t ≡ Some name → symbol_defined (is_config_word k) (first ∷ rest) ≡ symbol_among names name
  unfolding symbol_defined
  one_defined k first t rest name e one is =
      ap (λ j. symbol_defined (is_config_word j) (first ∷ rest)) e
      ∙ ap (λ ts. symbol_defined true (first ∷ ts)) one
      ∙ ap (option_and_then (symbol_among names)) is

  defined_after : (k : Keyword) (first : Token) (rest : List Token) (s : Statement) → HasFormAfter names k rest s → symbol_defined (is_config_word k) (first ∷ rest) ≡ defined_in s
  defined_after k first rest statement.EndOfFile f = absurd f
  defined_after k first rest (statement.Config symbol) f = one_defined k first f.1 rest f.2 f.0 f.3 f.4 ∙ sym f.5
  defined_after k first rest (statement.Menu title) f = none_defined k keyword.Menu (first ∷ rest) f.0 refl
  defined_after k first rest statement.EndMenu f = none_defined k keyword.EndMenu (first ∷ rest) f.0 refl
  defined_after k first rest (statement.If e) f = none_defined k keyword.If (first ∷ rest) f.0 refl
  defined_after k first rest statement.EndIf f = none_defined k keyword.EndIf (first ∷ rest) f.0 refl
  defined_after k first rest statement.Choice f = none_defined k keyword.Choice (first ∷ rest) f.0 refl
  defined_after k first rest statement.EndChoice f = none_defined k keyword.EndChoice (first ∷ rest) f.0 refl
  defined_after k first rest (statement.Comment title) f = none_defined k keyword.Comment (first ∷ rest) f.0 refl
  defined_after k first rest statement.MainMenu f = none_defined k keyword.MainMenu (first ∷ rest) f.0 refl
  defined_after k first rest (statement.Type t) f = none_defined k (type_word t) (first ∷ rest) f.0 (type_word_is_other t)
  defined_after k first rest (statement.TypeAndPrompt t p) f = none_defined k (type_word t) (first ∷ rest) f.0 (type_word_is_other t)
  defined_after k first rest (statement.TypeAndDefault t d) f = other_defines_none k (first ∷ rest) (default_word_is_other t k f.0)
  defined_after k first rest (statement.Prompt p) f = none_defined k keyword.Prompt (first ∷ rest) f.0 refl
  defined_after k first rest (statement.Default d) f = none_defined k keyword.Default (first ∷ rest) f.0 refl
  defined_after k first rest (statement.Range r) f = none_defined k keyword.Range (first ∷ rest) f.0 refl
  defined_after k first rest (statement.DependsOn e) f = none_defined k keyword.Depends (first ∷ rest) f.0 refl
  defined_after k first rest (statement.VisibleIf e) f = none_defined k keyword.Visible (first ∷ rest) f.0 refl
  defined_after k first rest (statement.Select s c) f = none_defined k keyword.Select (first ∷ rest) f.0 refl
  defined_after k first rest (statement.Imply s c) f = none_defined k keyword.Imply (first ∷ rest) f.0 refl
  defined_after k first rest statement.Modules (inl f) = none_defined k keyword.Modules (first ∷ rest) f.0 refl
  defined_after k first rest statement.Modules (inr f) = none_defined k keyword.Option (first ∷ rest) f.0 refl
  defined_after k first rest statement.AllNoConfigYes f = none_defined k keyword.Option (first ∷ rest) f.0 refl
  defined_after k first rest statement.Optional f = none_defined k keyword.Optional (first ∷ rest) f.0 refl
  defined_after k first rest statement.Help f = none_defined k keyword.Help (first ∷ rest) f.0 refl

  defined_of : (kind : LineKind) (tokens : List Token) (s : Statement) → HasFormOf names kind tokens s → symbol_defined (option_map_or is_config_word (keyword_at kind tokens) false) tokens ≡ defined_in s
  unfolding symbol_defined
  defined_of EndLine tokens s f = sym (ap defined_in f)
  defined_of StatementLine [] s f = absurd f
  defined_of StatementLine (t ∷ rest) s (k, is, f) =
      ap (λ o. symbol_defined (option_map_or is_config_word o false) (t ∷ rest)) is ∙ defined_after k t rest s f

  pub defined-form : (l : LineValue) (s : Statement) → HasForm names l s → option_and_then (symbol_among names) (defined_name l) ≡ defined_in s
  unfolding HasForm symbol_defined
  defined-form l s f = defined_of l.kind l.tokens s f
