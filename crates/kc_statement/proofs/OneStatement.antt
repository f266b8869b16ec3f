-- A line says one statement at most.
use Rattle.std.proofs.Common.{◌≡◌, ℕ, List, [], ◌∷◌, Option, Some, None, take, drop, codes, refl, sym, ap, subst, ◌∙◌, inl, inr}
use Rattle.kc_text.specs.LineValue.{LineValue}
use Rattle.kc_text.specs.declared.line.LineKind.{LineKind}
use Rattle.kc_text.specs.declared.line.LineKind.TheVariants.{Statement as StatementLine, EndOfFile as EndLine}
use Rattle.kc_text.specs.declared.line.Token.{Token}
use Rattle.kc_text.specs.declared.line.Token.TheVariants.{Quoted}
use Rattle.kc_statement.specs.declared.id.SymId.{SymId}
use Rattle.kc_statement.specs.declared.expr.Expr.{Expr}
use Rattle.kc_statement.specs.declared.expr.ExprKind.TheVariants.{Condition, Value}
use Rattle.kc_statement.specs.declared.expr.Term.{Term}
use Rattle.kc_statement.specs.declared.attribute.Prompt.{Prompt}
use Rattle.kc_statement.specs.declared.attribute.DefaultValue.{DefaultValue}
use Rattle.kc_statement.specs.declared.attribute.Range.{Range}
use Rattle.kc_statement.specs.declared.keyword.Keyword.{Keyword}
use Rattle.kc_statement.specs.declared.keyword.Keyword.TheVariants as keyword
use Rattle.kc_statement.specs.declared.statement.Statement.{Statement}
use Rattle.kc_statement.specs.declared.statement.Statement.TheVariants as statement
use Rattle.kc_statement.specs.declared.symbol_type.SymbolType.{SymbolType}
use Rattle.kc_statement.specs.Forms.{condition_start}
use Rattle.kc_statement.specs.Grammar.{Symbol, term, symbol_of, Derives}
use Rattle.kc_statement.specs.Names.{name_word, symbol_among}
use Rattle.kc_statement.specs.Statements.{fixed, IsCondition, IsPrompt, IsDefault, IsRange, IsWordAndCondition, IsQuoted, HasFormOf, HasForm}
use Rattle.kc_statement.proofs.OneFormula.{one_formula}
use Rattle.kc_statement.proofs.ConditionStart.{default_split}
use Rattle.kc_statement.proofs.FormOf.{Says, IsDefinition, Selects, SaysType, FormOf, form_of}

-- ---- what equal tokens and equal terms have in common
one_head : (a b : Token) (xs ys : List Token) → a ∷ xs ≡ b ∷ ys → a ≡ b
one_head a b xs ys e = cc

one_tail : (a b : Token) (xs ys : List Token) → a ∷ xs ≡ b ∷ ys → xs ≡ ys
one_tail a b xs ys e = cc

no_tokens : {A : Type 0} (a : Token) (xs : List Token) → [] ≡ a ∷ xs → A
no_tokens a xs e = absurd (cc)

one_text : (v w : List ℕ) → Quoted v ≡ Quoted w → v ≡ w
one_text v w e = cc

one_term : (x y : Term) → Symbol.term x ≡ Symbol.term y → x ≡ y
one_term x y e = cc

module _ {A : Type 0} where
  one_some : (x y : A) → Some x ≡ Some y → x ≡ y
  one_some x y e = cc

-- ---- the parts of a line
module _ (names : List (List ℕ)) where
  one_of_front : (P : List Token → Expr → Type 0) (one : (tokens : List Token) (e f : Expr) → P tokens e → P tokens f → e ≡ f) (w : Token) (xs ys : List Token)
      (e f : Expr) → w ∷ xs ≡ w ∷ ys → P xs e → P ys f → e ≡ f
  one_of_front P one w xs ys e f same h k = one xs e f h (subst (λ (ts : List Token). P ts f) (sym (one_tail w w xs ys same)) k)

  one_after_word : (w : List ℕ) (tokens : List Token) (e f : Expr) → IsWordAndCondition names w tokens e → IsWordAndCondition names w tokens f → e ≡ f
  one_after_word w tokens e f h k =
      one_of_front (Derives Condition names) (one_formula Condition names) (fixed w) h.0 k.0 e f (sym h.1 ∙ k.1) h.2 k.2

  one_condition : (tokens : List Token) (c d : Option Expr) → IsCondition names tokens c → IsCondition names tokens d → c ≡ d
  one_condition tokens None None h k = refl
  one_condition tokens None (Some f) h k = no_tokens _ k.0 (sym h ∙ k.1)
  one_condition tokens (Some e) None h k = no_tokens _ h.0 (sym k ∙ h.1)
  one_condition tokens (Some e) (Some f) h k = ap (λ x. Some x) (one_after_word (codes "if") tokens e f h k)

  -- conditions of the same tokens
  one_condition_of : (xs ys : List Token) (c d : Option Expr) → xs ≡ ys → IsCondition names xs c → IsCondition names ys d → c ≡ d
  one_condition_of xs ys c d same h k = one_condition xs c d h (subst (λ (ts : List Token). IsCondition names ts d) (sym same) k)

  prompt_is : (p q : Prompt) → p.text ≡ q.text → p.condition ≡ q.condition → p ≡ q
  prompt_is p q text condition = ap (λ x. record p { text = x }) text ∙ ap (λ x. record q { condition = x }) condition

  one_prompt : (tokens : List Token) (p q : Prompt) → IsPrompt names tokens p → IsPrompt names tokens q → p ≡ q
  one_prompt tokens p q h k =
      let same = sym h.1 ∙ k.1 in
      prompt_is p q (one_text p.text q.text (one_head _ _ h.0 k.0 same)) (one_condition_of h.0 k.0 p.condition q.condition (one_tail _ _ h.0 k.0 same) h.2 k.2)

  default_is : (d e : DefaultValue) → d.value ≡ e.value → d.condition ≡ e.condition → d ≡ e
  default_is d e value condition = ap (λ x. record d { value = x }) value ∙ ap (λ x. record e { condition = x }) condition

  one_default : (tokens : List Token) (d e : DefaultValue) → IsDefault names tokens d → IsDefault names tokens e → d ≡ e
  one_default tokens d e h k =
      let first = default_split names tokens d h in
      let second = default_split names tokens e k in
      default_is d e (one_formula Value names (take (condition_start tokens) tokens) d.value e.value first.0 second.0)
      (one_condition (drop (condition_start tokens) tokens) d.condition e.condition first.1 second.1)

  selection_is : (x y : Option SymId × Option Expr) → x.0 ≡ y.0 → x.1 ≡ y.1 → x ≡ y
  selection_is x y symbol condition = ap (λ s. (s, x.1)) symbol ∙ ap (λ c. (y.0, c)) condition

  -- tokens of one name
  one_name : (a b : Token) (v w : List ℕ) → a ≡ b → name_word a ≡ Some v → name_word b ≡ Some w → v ≡ w
  one_name a b v w same h k = one_some v w (sym h ∙ ap name_word same ∙ k)

  one_symbol : (a b : Token) (v w : List ℕ) (x y : Option SymId) → a ≡ b → name_word a ≡ Some v → name_word b ≡ Some w → x ≡ symbol_among names v → y ≡ symbol_among names w
      → x ≡ y
  one_symbol a b v w x y same h k i j = i ∙ ap (symbol_among names) (one_name a b v w same h k) ∙ sym j

  one_selection : (tokens : List Token) (x y : Option SymId × Option Expr) → Selects names tokens x → Selects names tokens y → x ≡ y
  one_selection tokens x y h k =
      let same = sym h.3 ∙ k.3 in
      selection_is x y (one_symbol h.0 k.0 h.1 k.1 x.0 y.0 (one_head _ _ h.2 k.2 same) h.4 k.4 h.5 k.5)
      (one_condition_of h.2 k.2 x.1 y.1 (one_tail _ _ h.2 k.2 same) h.6 k.6)

  one_definition : (tokens : List Token) (x y : Option SymId) → IsDefinition names tokens x → IsDefinition names tokens y → x ≡ y
  one_definition tokens x y h k = one_symbol h.0 k.0 h.1 k.1 x y (one_head _ _ [] [] (sym h.2 ∙ k.2)) h.3 k.3 h.4 k.4

  one_title : (tokens : List Token) (v w : List ℕ) → IsQuoted tokens v → IsQuoted tokens w → v ≡ w
  one_title tokens v w h k = one_text v w (one_head _ _ [] [] (sym h ∙ k))

  range_is : (r q : Range) → r.low ≡ q.low → r.high ≡ q.high → r.condition ≡ q.condition → r ≡ q
  range_is r q low high condition =
      ap (λ x. record r { low = x }) low ∙ ap (λ x. record r { low = q.low; high = x }) high ∙ ap (λ x. record q { condition = x }) condition

  term_same : (a b : Token) (x y : Term) → a ≡ b → symbol_of names a ≡ term x → symbol_of names b ≡ term y → x ≡ y
  term_same a b x y same h k = one_term x y (sym h ∙ ap (symbol_of names) same ∙ k)

  one_range : (tokens : List Token) (r q : Range) → IsRange names tokens r → IsRange names tokens q → r ≡ q
  one_range tokens r q h k =
      let same = sym h.3 ∙ k.3 in
      let later = one_tail _ _ (h.1 ∷ h.2) (k.1 ∷ k.2) same in
      range_is r q (term_same h.0 k.0 r.low q.low (one_head _ _ (h.1 ∷ h.2) (k.1 ∷ k.2) same) h.4 k.4)
      (term_same h.1 k.1 r.high q.high (one_head _ _ h.2 k.2 later) h.5 k.5)
      (one_condition_of h.2 k.2 r.condition q.condition (one_tail _ _ h.2 k.2 later) h.6 k.6)

-- ---- statements
one_said : {A : Type 0} (P : A → Type 0) (f : A → Statement) → ((x y : A) → P x → P y → x ≡ y) → (s r : Statement) → Says P f s → Says P f r → r ≡ s
one_said P f one s r h k = k.2 ∙ ap f (one k.0 h.0 k.1 h.1) ∙ sym h.2

the_same : (x s r : Statement) → s ≡ x → r ≡ x → r ≡ s
the_same x s r h k = k ∙ sym h

some_title : (tokens rest : List Token) (t : Token) {A : Type 0} → tokens ≡ [] → tokens ≡ t ∷ rest → A
some_title tokens rest t none some = no_tokens t rest (sym none ∙ some)

one_type : (names : List (List ℕ)) (t : SymbolType) (tokens : List Token) (s r : Statement) → SaysType names t tokens s → SaysType names t tokens r → r ≡ s
one_type names t tokens s r (inl h) (inl k) = the_same (statement.Type t) s r h.1 k.1
one_type names t tokens s r (inl h) (inr k) = some_title tokens k.1.0 _ h.0 k.1.1
one_type names t tokens s r (inr h) (inl k) = some_title tokens h.1.0 _ k.0 h.1.1
one_type names t tokens s r (inr h) (inr k) = one_said (IsPrompt names tokens) (λ p. statement.TypeAndPrompt t p) (one_prompt names tokens) s r h k

two_words : {A : Type 0} (tokens : List Token) → tokens ≡ fixed (codes "modules") ∷ [] → tokens ≡ fixed (codes "allnoconfig_y") ∷ [] → A
two_words tokens h k =
    let same : fixed (codes "modules") ∷ [] ≡ fixed (codes "allnoconfig_y") ∷ [] = sym h ∙ k in
    absurd (cc)

one_after : (names : List (List ℕ)) (k : Keyword) (tokens : List Token) (s r : Statement) → FormOf names k tokens s → FormOf names k tokens r → r ≡ s
unfolding FormOf
one_after names keyword.Config tokens s r h k = one_said (IsDefinition names tokens) (λ x. statement.Config x) (one_definition names tokens) s r h k
one_after names keyword.Menu tokens s r h k = one_said (IsQuoted tokens) (λ x. statement.Menu x) (one_title names tokens) s r h k
one_after names keyword.EndMenu tokens s r h k = the_same statement.EndMenu s r h.1 k.1
one_after names keyword.If tokens s r h k = one_said (Derives Condition names tokens) (λ x. statement.If x) (one_formula Condition names tokens) s r h k
one_after names keyword.EndIf tokens s r h k = the_same statement.EndIf s r h.1 k.1
one_after names keyword.Choice tokens s r h k = the_same statement.Choice s r h.1 k.1
one_after names keyword.EndChoice tokens s r h k = the_same statement.EndChoice s r h.1 k.1
one_after names keyword.Comment tokens s r h k = one_said (IsQuoted tokens) (λ x. statement.Comment x) (one_title names tokens) s r h k
one_after names keyword.MainMenu tokens s r h k = the_same statement.MainMenu s r h.2 k.2
one_after names keyword.Bool tokens s r h k = one_type names _ tokens s r h k
one_after names keyword.Tristate tokens s r h k = one_type names _ tokens s r h k
one_after names keyword.String tokens s r h k = one_type names _ tokens s r h k
one_after names keyword.Int tokens s r h k = one_type names _ tokens s r h k
one_after names keyword.Hex tokens s r h k = one_type names _ tokens s r h k
one_after names keyword.DefBool tokens s r h k = one_said (IsDefault names tokens) _ (one_default names tokens) s r h k
one_after names keyword.DefTristate tokens s r h k = one_said (IsDefault names tokens) _ (one_default names tokens) s r h k
one_after names keyword.Prompt tokens s r h k = one_said (IsPrompt names tokens) _ (one_prompt names tokens) s r h k
one_after names keyword.Default tokens s r h k = one_said (IsDefault names tokens) _ (one_default names tokens) s r h k
one_after names keyword.Range tokens s r h k = one_said (IsRange names tokens) _ (one_range names tokens) s r h k
one_after names keyword.Depends tokens s r h k = one_said (IsWordAndCondition names (codes "on") tokens) _ (one_after_word names (codes "on") tokens) s r h k
one_after names keyword.Visible tokens s r h k = one_said (IsWordAndCondition names (codes "if") tokens) _ (one_after_word names (codes "if") tokens) s r h k
one_after names keyword.Select tokens s r h k = one_said (Selects names tokens) _ (one_selection names tokens) s r h k
one_after names keyword.Imply tokens s r h k = one_said (Selects names tokens) _ (one_selection names tokens) s r h k
one_after names keyword.Modules tokens s r h k = the_same statement.Modules s r h.1 k.1
one_after names keyword.Option tokens s r (inl h) (inl k) = the_same statement.Modules s r h.1 k.1
one_after names keyword.Option tokens s r (inl h) (inr k) = two_words tokens h.0 k.0
one_after names keyword.Option tokens s r (inr h) (inl k) = two_words tokens k.0 h.0
one_after names keyword.Option tokens s r (inr h) (inr k) = the_same statement.AllNoConfigYes s r h.1 k.1
one_after names keyword.Optional tokens s r h k = the_same statement.Optional s r h.1 k.1
one_after names keyword.Help tokens s r h k = the_same statement.Help s r h.1 k.1
one_after names keyword.Source tokens s r h k = absurd h
one_after names keyword.Unsupported tokens s r h k = absurd h

-- ---- lines
one_of : (names : List (List ℕ)) (kind : LineKind) (tokens : List Token) (s r : Statement) → HasFormOf names kind tokens s → HasFormOf names kind tokens r → r ≡ s
one_of names EndLine tokens s r h k = the_same statement.EndOfFile s r h k
one_of names StatementLine [] s r h k = absurd h
one_of names StatementLine (t ∷ rest) s r (word, is, h) (other, also, k) =
    let same : word ≡ other = one_some word other (sym is ∙ also) in
    one_after names other rest s r (subst (λ (x : Keyword). FormOf names x rest s) same (form_of names rest word s h)) (form_of names rest other r k)

pub one_statement : (names : List (List ℕ)) (l : LineValue) (s r : Statement) → HasForm names l s → HasForm names l r → r ≡ s
unfolding HasForm
one_statement names l s r h k = one_of names l.kind l.tokens s r h k
