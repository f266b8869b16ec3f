-- What the line of each keyword says.
use Rattle.std.proofs.Common.{◌≡◌, ◌⊎◌, ℕ, List, [], ◌∷◌, Option, Some, None, codes, refl, sym, subst, inl, inr}
use Rattle.kc_text.specs.declared.line.Token.{Token}
use Rattle.kc_statement.specs.declared.id.SymId.{SymId}
use Rattle.kc_statement.specs.declared.expr.ExprKind.TheVariants.{Condition}
use Rattle.kc_statement.specs.declared.keyword.Keyword.{Keyword}
use Rattle.kc_statement.specs.declared.keyword.Keyword.TheVariants as keyword
use Rattle.kc_statement.specs.declared.statement.Statement.{Statement}
use Rattle.kc_statement.specs.declared.statement.Statement.TheVariants as statement
use Rattle.kc_statement.specs.declared.symbol_type.SymbolType.{SymbolType}
use Rattle.kc_statement.specs.declared.symbol_type.SymbolType.TheVariants as kind
use Rattle.kc_statement.specs.declared.expr.Expr.{Expr}
use Rattle.kc_statement.specs.Grammar.{Derives}
use Rattle.kc_statement.specs.Names.{name_word, symbol_among}
use Rattle.kc_statement.specs.Statements.{fixed, IsPrompt, IsDefault, IsRange, IsWordAndCondition, IsSelection, IsQuoted, type_word, HasFormAfter}

-- a statement that says a thing of some kind
abbrev pub Says : {A : Type 0} → (A → Type 0) → (A → Statement) → Statement → Type 0
Says {A} P f s = (x : A) × P x × (s ≡ f x)

abbrev pub IsDefinition : List (List ℕ) → List Token → Option SymId → Type 0
IsDefinition names tokens symbol =
    (t : Token) × (name : List ℕ) × (tokens ≡ t ∷ []) × (name_word t ≡ Some name) × (symbol ≡ symbol_among names name)

-- a symbol and a condition
abbrev pub Selects : List (List ℕ) → List Token → Option SymId × Option Expr → Type 0
Selects names tokens x = IsSelection names tokens x.0 x.1

abbrev pub SaysType : List (List ℕ) → SymbolType → List Token → Statement → Type 0
SaysType names t tokens s = ((tokens ≡ []) × (s ≡ statement.Type t)) ⊎ Says (IsPrompt names tokens) (λ p. statement.TypeAndPrompt t p) s

unfoldable pub FormOf : List (List ℕ) → Keyword → List Token → Statement → Type 0
FormOf names keyword.Config tokens s = Says (IsDefinition names tokens) (λ x. statement.Config x) s
FormOf names keyword.Menu tokens s = Says (IsQuoted tokens) (λ x. statement.Menu x) s
FormOf names keyword.EndMenu tokens s = (tokens ≡ []) × (s ≡ statement.EndMenu)
FormOf names keyword.If tokens s = Says (Derives Condition names tokens) (λ x. statement.If x) s
FormOf names keyword.EndIf tokens s = (tokens ≡ []) × (s ≡ statement.EndIf)
FormOf names keyword.Choice tokens s = (tokens ≡ []) × (s ≡ statement.Choice)
FormOf names keyword.EndChoice tokens s = (tokens ≡ []) × (s ≡ statement.EndChoice)
FormOf names keyword.Comment tokens s = Says (IsQuoted tokens) (λ x. statement.Comment x) s
FormOf names keyword.MainMenu tokens s = Says (IsQuoted tokens) (λ x. statement.MainMenu) s
FormOf names keyword.Bool tokens s = SaysType names kind.Bool tokens s
FormOf names keyword.Tristate tokens s = SaysType names kind.Tristate tokens s
FormOf names keyword.String tokens s = SaysType names kind.String tokens s
FormOf names keyword.Int tokens s = SaysType names kind.Int tokens s
FormOf names keyword.Hex tokens s = SaysType names kind.Hex tokens s
FormOf names keyword.DefBool tokens s = Says (IsDefault names tokens) (λ x. statement.TypeAndDefault kind.Bool x) s
FormOf names keyword.DefTristate tokens s = Says (IsDefault names tokens) (λ x. statement.TypeAndDefault kind.Tristate x) s
FormOf names keyword.Prompt tokens s = Says (IsPrompt names tokens) (λ x. statement.Prompt x) s
FormOf names keyword.Default tokens s = Says (IsDefault names tokens) (λ x. statement.Default x) s
FormOf names keyword.Range tokens s = Says (IsRange names tokens) (λ x. statement.Range x) s
FormOf names keyword.Depends tokens s = Says (IsWordAndCondition names (codes "on") tokens) (λ x. statement.DependsOn x) s
FormOf names keyword.Visible tokens s = Says (IsWordAndCondition names (codes "if") tokens) (λ x. statement.VisibleIf x) s
FormOf names keyword.Select tokens s = Says (Selects names tokens) (λ x. statement.Select x.0 x.1) s
FormOf names keyword.Imply tokens s = Says (Selects names tokens) (λ x. statement.Imply x.0 x.1) s
FormOf names keyword.Modules tokens s = (tokens ≡ []) × (s ≡ statement.Modules)
FormOf names keyword.Option tokens s =
    ((tokens ≡ fixed (codes "modules") ∷ []) × (s ≡ statement.Modules)) ⊎ ((tokens ≡ fixed (codes "allnoconfig_y") ∷ []) × (s ≡ statement.AllNoConfigYes))
FormOf names keyword.Optional tokens s = (tokens ≡ []) × (s ≡ statement.Optional)
FormOf names keyword.Help tokens s = (tokens ≡ []) × (s ≡ statement.Help)
FormOf names keyword.Source tokens s = ⊥
FormOf names keyword.Unsupported tokens s = ⊥

module _ (names : List (List ℕ)) (tokens : List Token) where
  -- the form of a line, once its keyword is known
  from : (k x : Keyword) (s : Statement) → k ≡ x → FormOf names x tokens s → FormOf names k tokens s
  from k x s e h = subst (λ (y : Keyword). FormOf names y tokens s) (sym e) h

  pub the_word : (k j : Keyword) → Some j ≡ Some k → k ≡ j
  the_word k j e = cc

  pub no_word : {A : Type 0} (k : Keyword) → None ≡ Some k → A
  no_word k e = absurd (cc)

  of_type : (t : SymbolType) (s : Statement) → SaysType names t tokens s → FormOf names (type_word t) tokens s
  unfolding FormOf
  of_type kind.Bool s h = h
  of_type kind.Tristate s h = h
  of_type kind.String s h = h
  of_type kind.Int s h = h
  of_type kind.Hex s h = h

  pub form_of : (k : Keyword) (s : Statement) → HasFormAfter names k tokens s → FormOf names k tokens s
  unfolding FormOf
  form_of k statement.EndOfFile h = absurd h
  form_of k (statement.Config x) h = from k keyword.Config _ h.0 (x, (h.1, h.2, h.3, h.4, h.5), refl)
  form_of k (statement.Menu x) h = from k keyword.Menu _ h.0 (x, h.1, refl)
  form_of k statement.EndMenu h = from k keyword.EndMenu _ h.0 (h.1, refl)
  form_of k (statement.If x) h = from k keyword.If _ h.0 (x, h.1, refl)
  form_of k statement.EndIf h = from k keyword.EndIf _ h.0 (h.1, refl)
  form_of k statement.Choice h = from k keyword.Choice _ h.0 (h.1, refl)
  form_of k statement.EndChoice h = from k keyword.EndChoice _ h.0 (h.1, refl)
  form_of k (statement.Comment x) h = from k keyword.Comment _ h.0 (x, h.1, refl)
  form_of k statement.MainMenu h = from k keyword.MainMenu _ h.0 (h.1, h.2, refl)
  form_of k (statement.Type t) h = from k (type_word t) _ h.0 (of_type t _ (inl (h.1, refl)))
  form_of k (statement.TypeAndPrompt t p) h = from k (type_word t) _ h.0 (of_type t _ (inr (p, h.1, refl)))
  form_of k (statement.TypeAndDefault kind.Bool d) h = from k keyword.DefBool _ (the_word k keyword.DefBool h.0) (d, h.1, refl)
  form_of k (statement.TypeAndDefault kind.Tristate d) h = from k keyword.DefTristate _ (the_word k keyword.DefTristate h.0) (d, h.1, refl)
  form_of k (statement.TypeAndDefault kind.String d) h = no_word k h.0
  form_of k (statement.TypeAndDefault kind.Int d) h = no_word k h.0
  form_of k (statement.TypeAndDefault kind.Hex d) h = no_word k h.0
  form_of k (statement.Prompt x) h = from k keyword.Prompt _ h.0 (x, h.1, refl)
  form_of k (statement.Default x) h = from k keyword.Default _ h.0 (x, h.1, refl)
  form_of k (statement.Range x) h = from k keyword.Range _ h.0 (x, h.1, refl)
  form_of k (statement.DependsOn x) h = from k keyword.Depends _ h.0 (x, h.1, refl)
  form_of k (statement.VisibleIf x) h = from k keyword.Visible _ h.0 (x, h.1, refl)
  form_of k (statement.Select x c) h = from k keyword.Select _ h.0 ((x, c), h.1, refl)
  form_of k (statement.Imply x c) h = from k keyword.Imply _ h.0 ((x, c), h.1, refl)
  form_of k statement.Modules (inl h) = from k keyword.Modules _ h.0 (h.1, refl)
  form_of k statement.Modules (inr h) = from k keyword.Option _ h.0 (inl (h.1, refl))
  form_of k statement.AllNoConfigYes h = from k keyword.Option _ h.0 (inr (h.1, refl))
  form_of k statement.Optional h = from k keyword.Optional _ h.0 (h.1, refl)
  form_of k statement.Help h = from k keyword.Help _ h.0 (h.1, refl)
