-- What a line says, by its keyword.
use Rattle.std.proofs.Common.{◌≡◌, ℕ, List, [], ◌∷◌, Some, None, IfOk, IfErr, Result, Ok, Err, true, false, length, ◌==◌, sym, subst, refl, ap, ◌∙◌, inl, inr}
use Rattle.kc_text.specs.LineValue.{LineValue}
use Rattle.kc_text.specs.declared.line.LineKind.{LineKind}
use Rattle.kc_text.specs.declared.line.LineKind.TheVariants.{Statement as StatementLine}
use Rattle.kc_text.specs.declared.line.LineKind.TheVariants.{EndOfFile as EndLine}
use Rattle.kc_text.specs.declared.line.Token.{Token}
use Rattle.kc_statement.specs.declared.keyword.Keyword.{Keyword}
use Rattle.kc_statement.specs.declared.keyword.Keyword.TheVariants as keyword
use Rattle.kc_statement.specs.declared.statement.Statement.{Statement}
use Rattle.kc_statement.specs.declared.statement.Statement.TheVariants as statement
use Rattle.kc_statement.specs.declared.attribute.Prompt.{Prompt}
use Rattle.kc_statement.specs.declared.attribute.DefaultValue.{DefaultValue}
use Rattle.kc_statement.specs.declared.symbol_type.SymbolType.{SymbolType}
use Rattle.kc_statement.specs.declared.symbol_type.SymbolType.TheVariants as kind
use Rattle.kc_statement.specs.declared.mistake.Unread.{Unread}
use Rattle.kc_statement.specs.Mistakes.{WhereMistaken, IsMistake}
use Rattle.kc_statement.specs.Keywords.{keyword_at, keyword_of}
use Rattle.kc_statement.proofs.FormOf.{Says, FormOf, form_of, the_word, no_word}
use Rattle.kc_statement.specs.Statements.{IsPrompt, IsDefault, type_word, default_word, HasFormAfter, HasFormOf, HasForm, HasNoForm}

-- the form of a part, once the keyword is known
at_keyword : (names : List (List ℕ)) (tokens : List Token) (k x : Keyword) → k ≡ x → (s : Statement) → HasFormAfter names k tokens s → FormOf names x tokens s
at_keyword names tokens k x e s h = subst (λ (y : Keyword). FormOf names y tokens s) e (form_of names tokens k s h)

-- ---- what is no type, alone or with a part
some_token : (tokens : List Token) → (length tokens == 0) ≡ false → tokens ≡ [] → ⊥
some_token tokens some none =
    let same : true ≡ false = sym (ap (λ (xs : List Token). length xs == 0) none) ∙ some in
    cc

pub no_type : (names : List (List ℕ)) (tokens : List Token) (t : SymbolType) → (length tokens == 0) ≡ false → ((p : Prompt) → IsPrompt names tokens p → ⊥) → (s : Statement) → HasFormAfter names (type_word t) tokens s → ⊥
unfolding FormOf
no_type names tokens kind.Bool some none s h =
    elim (form_of names tokens keyword.Bool s h) [ inl e ↦ some_token tokens some e.0 | inr part ↦ none part.0 part.1 ]
no_type names tokens kind.Tristate some none s h =
    elim (form_of names tokens keyword.Tristate s h) [ inl e ↦ some_token tokens some e.0 | inr part ↦ none part.0 part.1 ]
no_type names tokens kind.String some none s h =
    elim (form_of names tokens keyword.String s h) [ inl e ↦ some_token tokens some e.0 | inr part ↦ none part.0 part.1 ]
no_type names tokens kind.Int some none s h =
    elim (form_of names tokens keyword.Int s h) [ inl e ↦ some_token tokens some e.0 | inr part ↦ none part.0 part.1 ]
no_type names tokens kind.Hex some none s h =
    elim (form_of names tokens keyword.Hex s h) [ inl e ↦ some_token tokens some e.0 | inr part ↦ none part.0 part.1 ]

pub no_typed_default : (names : List (List ℕ)) (tokens : List Token) (t : SymbolType) (k : Keyword) → default_word t ≡ Some k → ((d : DefaultValue) → IsDefault names tokens d → ⊥) → (s : Statement) → HasFormAfter names k tokens s → ⊥
unfolding FormOf
no_typed_default names tokens kind.Bool k word none s h =
    let part = at_keyword names tokens k keyword.DefBool (the_word names tokens k keyword.DefBool word) s h in
    none part.0 part.1
no_typed_default names tokens kind.Tristate k word none s h =
    let part = at_keyword names tokens k keyword.DefTristate (the_word names tokens k keyword.DefTristate word) s h in
    none part.0 part.1
no_typed_default names tokens kind.String k word none s h = no_word names tokens k word
no_typed_default names tokens kind.Int k word none s h = no_word names tokens k word
no_typed_default names tokens kind.Hex k word none s h = no_word names tokens k word
