-- That tokens go on otherwise from a mistake on.
use Rattle.std.proofs.Common.{◌≡◌, ◌+◌, ◌-◌, ℕ, true, Option, Some, None, codes, arith, List, [], ◌∷◌, ◌++◌, length, take, drop, refl, sym, ap, subst, ◌∙◌}
use Rattle.std.proofs.lemmas.List.{append_assoc, append-nil, map-append, length-append, length-map, take-append-drop}
use Rattle.std.proofs.lemmas.Slice.Eq.{bytes_eq-Decides}
use Rattle.kc_text.specs.declared.line.Operator.TheVariants as sign
use Rattle.kc_text.specs.declared.line.Token.{Token}
use Rattle.kc_text.specs.declared.line.Token.TheVariants.{Word, Expanded, Quoted, Operator}
use Rattle.kc_statement.specs.declared.expr.Term.TheVariants.{Text}
use Rattle.kc_statement.specs.declared.expr.ExprKind.{ExprKind}
use Rattle.kc_statement.specs.declared.expr.ExprKind.TheVariants.{Condition, Value}
use Rattle.kc_statement.specs.Forms.{is_word, quoted_text}
use Rattle.kc_statement.specs.Statements.{fixed, IsCondition, IsWordAndCondition, IsPrompt, IsDefault, IsQuoted, IsRange, IsSelection, IsTerm}
use Rattle.kc_statement.specs.Names.{name_word, symbol_among}
use Rattle.kc_statement.specs.declared.id.SymId.{SymId}
use Rattle.kc_statement.specs.declared.expr.Term.{Term}
use Rattle.kc_statement.specs.Grammar.{Symbol, symbol_of, symbols_of, atom, negation, group, Formula, expression, spelled, Derives}
use Rattle.kc_statement.specs.Fronts.{Begins, symbols_from}
use Rattle.kc_statement.specs.Mistakes.{CanGoOn}
use Rattle.kc_statement.specs.Places.{GoesOn, left_at}
use Rattle.kc_statement.proofs.GoesOnLaws.{not_bare}

-- ---- from a place on
module _ {A : Type 0} (P : List Token → A → Type 0) (tokens : List Token) where
  pub goes_on_anew : (more : List Token) (x : A) (left : ℕ) → P more x → left ≡ length tokens → GoesOn P tokens left
  goes_on_anew more x left p e = (x, [], tokens, more, p, refl, sym e)

  pub goes_on_after : (front rest more : List Token) (x : A) (left : ℕ) → P (front ++ more) x → tokens ≡ front ++ rest → left ≡ length rest → GoesOn P tokens left
  goes_on_after front rest more x left p same e = (x, front, rest, more, p, same, sym e)

-- what goes on behind a front does so with it
module _ {A B : Type 0} (P : List Token → A → Type 0) (Q : List Token → B → Type 0) where
  pub goes_on_behind : (tokens front rest : List Token) → tokens ≡ front ++ rest → (f : A → B) → ((ts : List Token) (x : A) → P ts x → Q (front ++ ts) (f x)) → (left : ℕ) → GoesOn P rest left → GoesOn Q tokens left
  goes_on_behind tokens front rest same f step left g = (
    f g.0,
    front ++ g.1,
    g.2,
    g.3,
    subst (λ (ts : List Token). Q ts (f g.0)) (sym (append_assoc front g.1 g.3)) (step (g.1 ++ g.3) g.0 g.4),
    same ∙ ap (λ (ts : List Token). front ++ ts) g.5 ∙ sym (append_assoc front g.1 g.2),
    g.6,
  )

-- ---- expressions
module _ (k : ExprKind) (names : List (List ℕ)) where
  pub text_derives : Derives k names (Quoted [] ∷ []) (atom (Text []))
  text_derives = record { level = not_bare k; is = refl }

  wrong_at : (token : Token) → left_at token ≡ 1 → GoesOn (Derives k names) (token ∷ []) (left_at token)
  wrong_at token e = (atom (Text []), [], token ∷ [], Quoted [] ∷ [], text_derives, refl, sym e)

  pub lone_goes_on : (token : Token) → GoesOn (Derives k names) (token ∷ []) (left_at token)
  lone_goes_on (Word w) = wrong_at (Word w) refl
  lone_goes_on (Expanded w) = wrong_at (Expanded w) refl
  lone_goes_on (Quoted q) = wrong_at (Quoted q) refl
  lone_goes_on (Operator sign.Not) =
      (negation (atom (Text [])), Operator sign.Not ∷ [], [], Quoted [] ∷ [], record { level = not_bare k; is = refl }, refl, refl)
  lone_goes_on (Operator sign.Open) =
      (group (atom (Text [])), Operator sign.Open ∷ [], [], Quoted [] ∷ Operator sign.Close ∷ [], record { level = not_bare k; is = refl }, refl, refl)
  lone_goes_on (Operator sign.And) = wrong_at (Operator sign.And) refl
  lone_goes_on (Operator sign.Or) = wrong_at (Operator sign.Or) refl
  lone_goes_on (Operator sign.Equal) = wrong_at (Operator sign.Equal) refl
  lone_goes_on (Operator sign.NotEqual) = wrong_at (Operator sign.NotEqual) refl
  lone_goes_on (Operator sign.Less) = wrong_at (Operator sign.Less) refl
  lone_goes_on (Operator sign.LessOrEqual) = wrong_at (Operator sign.LessOrEqual) refl
  lone_goes_on (Operator sign.Greater) = wrong_at (Operator sign.Greater) refl
  lone_goes_on (Operator sign.GreaterOrEqual) = wrong_at (Operator sign.GreaterOrEqual) refl
  lone_goes_on (Operator sign.Close) = wrong_at (Operator sign.Close) refl

  -- the tokens of symbols
  split_at_front : (tokens : List Token) (before rest : List Symbol) → symbols_of names tokens ≡ before ++ rest
      → (b r : List Token) × (tokens ≡ b ++ r) × (symbols_of names b ≡ before) × (symbols_of names r ≡ rest)
  split_at_front tokens [] rest e = ([], tokens, refl, refl, e)
  split_at_front [] (s ∷ before) rest e = absurd (cc)
  split_at_front (t ∷ tokens) (s ∷ before) rest e =
      let here : symbol_of names t ∷ symbols_of names tokens ≡ s ∷ (before ++ rest) = e in
      let head : symbol_of names t ≡ s = cc in
      let tail : symbols_of names tokens ≡ before ++ rest = cc in
      let two = split_at_front tokens before rest tail in
      (t ∷ two.0, two.1, ap (λ (ts : List Token). t ∷ ts) two.2, ap (λ (xs : List Symbol). symbol_of names t ∷ xs) two.3 ∙ ap (λ (x : Symbol). x ∷ before) head, two.4)

  pub expression_goes_on : (tokens : List Token) (left : ℕ) → CanGoOn names k expression (symbols_from names tokens 0) left → GoesOn (Derives k names) tokens left
  expression_goes_on tokens left g =
      let two = split_at_front tokens g.1 g.2 g.4 in (
        g.0,
        two.0,
        two.1,
        g.3,
        record { level = g.6; is = map-append (symbol_of names) two.0 g.3 ∙ ap (λ (xs : List Symbol). xs ++ symbols_of names g.3) two.3 ∙ sym g.7 },
        two.2,
        sym (length-map two.1 (symbol_of names)) ∙ ap (λ (xs : List Symbol). length xs) two.4 ∙ g.5,
      )

  pub expression_ends : (symbols rest : List Symbol) (f : Formula) (left : ℕ) → Begins k expression symbols f rest → left ≡ length rest → CanGoOn names k expression symbols left
  expression_ends symbols rest f left b e = (f, spelled f, rest, [], b.is, sym e, b.level, sym (append-nil (spelled f)))

-- ---- the parts of forms
fixed_word : (w : List ℕ) (t : Token) → is_word w t ≡ true → t ≡ fixed w
fixed_word w (Word v) e = ap Word ((bytes_eq-Decides v w).0 e)
fixed_word w (Expanded v) e = absurd (cc)
fixed_word w (Quoted q) e = absurd (cc)
fixed_word w (Operator o) e = absurd (cc)

quoted_token : (t : Token) (q : List ℕ) → quoted_text t ≡ Some q → t ≡ Quoted q
quoted_token (Word v) q e = absurd (cc)
quoted_token (Expanded v) q e = absurd (cc)
quoted_token (Quoted r) q e = cc
quoted_token (Operator o) q e = absurd (cc)

module _ (names : List (List ℕ)) (tokens : List Token) where
  pub word_anew : (w : List ℕ) (left : ℕ) → left ≡ length tokens → GoesOn (IsWordAndCondition names w) tokens left
  word_anew w left e = goes_on_anew (IsWordAndCondition names w) tokens (fixed w ∷ Quoted [] ∷ []) (atom (Text [])) left (Quoted [] ∷ [], refl, text_derives Condition names) e

  pub word_behind : (w : List ℕ) (first : Token) (rest : List Token) → tokens ≡ first ∷ rest → is_word w first ≡ true → (left : ℕ) → GoesOn (Derives Condition names) rest left → GoesOn (IsWordAndCondition names w) tokens left
  word_behind w first rest same is left g =
      goes_on_behind (Derives Condition names) (IsWordAndCondition names w) tokens (first ∷ []) rest same (λ e. e)
      (λ ts e d. (ts, ap (λ (t : Token). t ∷ ts) (fixed_word w first is), d)) left g

  pub condition_goes_on : (left : ℕ) → GoesOn (IsWordAndCondition names (codes "if")) tokens left → GoesOn (IsCondition names) tokens left
  condition_goes_on left g = goes_on_behind (IsWordAndCondition names (codes "if")) (IsCondition names) tokens [] tokens refl (λ e. Some e) (λ ts e h. h) left g

  pub prompt_anew : (left : ℕ) → left ≡ length tokens → GoesOn (IsPrompt names) tokens left
  prompt_anew left e = goes_on_anew (IsPrompt names) tokens (Quoted [] ∷ []) (record { text = []; condition = None }) left ([], refl, refl) e

  pub prompt_behind : (first : Token) (text : List ℕ) (rest : List Token) → tokens ≡ first ∷ rest → quoted_text first ≡ Some text → (left : ℕ) → GoesOn (IsCondition names) rest left → GoesOn (IsPrompt names) tokens left
  prompt_behind first text rest same is left g =
      goes_on_behind (IsCondition names) (IsPrompt names) tokens (first ∷ []) rest same (λ c. record { text = text; condition = c })
      (λ ts c h. (ts, ap (λ (t : Token). t ∷ ts) (quoted_token first text is), h)) left g

  -- the value of a default is the front of the tokens
  pub value_goes_on : (front rest : List Token) → tokens ≡ front ++ rest → (left : ℕ) → GoesOn (Derives Value names) front left
      → GoesOn (IsDefault names) tokens (length tokens - (length front - left))
  value_goes_on front rest same left g =
      let whole : length tokens ≡ length front + length rest = ap (λ (ts : List Token). length ts) same ∙ length-append front rest in
      let part : length front ≡ length g.1 + length g.2 = ap (λ (ts : List Token). length ts) g.5 ∙ length-append g.1 g.2 in (
        record { value = g.0; condition = None },
        g.1,
        g.2 ++ rest,
        g.3,
        (g.1 ++ g.3, [], sym (append-nil (g.1 ++ g.3)), g.4, refl),
        same ∙ ap (λ (ts : List Token). ts ++ rest) g.5 ∙ append_assoc g.1 g.2 rest,
        length-append g.2 rest ∙ omega (arith, whole, part, g.6),
      )

  pub value_behind : (front rest : List Token) (value : Formula) → tokens ≡ front ++ rest → Derives Value names front value → (left : ℕ) → GoesOn (IsCondition names) rest left → GoesOn (IsDefault names) tokens left
  value_behind front rest value same d left g =
      goes_on_behind (IsCondition names) (IsDefault names) tokens front rest same (λ c. record { value = value; condition = c }) (λ ts c h. (front, ts, refl, d, h)) left g

  pub selection_anew : (left : ℕ) → left ≡ length tokens → GoesOn (λ ts (x : Option SymId × Option Formula). IsSelection names ts x.0 x.1) tokens left
  selection_anew left e =
      goes_on_anew (λ ts (x : Option SymId × Option Formula). IsSelection names ts x.0 x.1) tokens (Word (codes "A") ∷ []) (symbol_among names (codes "A"), None) left
      (Word (codes "A"), codes "A", [], refl, refl, refl, refl) e

  pub selection_behind : (first : Token) (name : List ℕ) (rest : List Token) → tokens ≡ first ∷ rest → name_word first ≡ Some name → (left : ℕ) → GoesOn (IsCondition names) rest left
      → GoesOn (λ ts (x : Option SymId × Option Formula). IsSelection names ts x.0 x.1) tokens left
  selection_behind first name rest same is left g =
      goes_on_behind (IsCondition names) (λ ts (x : Option SymId × Option Formula). IsSelection names ts x.0 x.1) tokens (first ∷ []) rest same
      (λ c. (symbol_among names name, c)) (λ ts c h. (first, name, ts, refl, is, refl, h)) left g

  pub range_anew : (left : ℕ) → left ≡ length tokens → GoesOn (IsRange names) tokens left
  range_anew left e =
      goes_on_anew (IsRange names) tokens (Quoted [] ∷ Quoted [] ∷ []) (record { low = Text []; high = Text []; condition = None }) left
      (Quoted [], Quoted [], [], refl, refl, refl, refl) e

  pub range_after : (first : Token) (low : Term) (rest : List Token) (left : ℕ) → tokens ≡ first ∷ rest → IsTerm names first low → left ≡ length rest → GoesOn (IsRange names) tokens left
  range_after first low rest left same is e =
      goes_on_after (IsRange names) tokens (first ∷ []) rest (Quoted [] ∷ []) (record { low = low; high = Text []; condition = None }) left
      (first, Quoted [], [], refl, is, refl, refl) same e

  pub range_behind : (first second : Token) (low high : Term) (rest : List Token) → tokens ≡ first ∷ second ∷ rest → IsTerm names first low → IsTerm names second high → (left : ℕ)
      → GoesOn (IsCondition names) rest left → GoesOn (IsRange names) tokens left
  range_behind first second low high rest same a b left g =
      goes_on_behind (IsCondition names) (IsRange names) tokens (first ∷ second ∷ []) rest same (λ c. record { low = low; high = high; condition = c })
      (λ ts c h. (first, second, ts, refl, a, b, h)) left g

pub title_after : (tokens : List Token) (first : Token) (title : List ℕ) (rest : List Token) (left : ℕ) → tokens ≡ first ∷ rest → quoted_text first ≡ Some title → left ≡ length rest → GoesOn IsQuoted tokens left
title_after tokens first title rest left same is e =
    goes_on_after IsQuoted tokens (first ∷ []) rest [] title left (ap (λ (t : Token). t ∷ []) (quoted_token first title is)) same e

pub split_whole : (n : ℕ) (tokens front rest : List Token) → front ≡ take n tokens → rest ≡ drop n tokens → tokens ≡ front ++ rest
split_whole n tokens front rest a b = sym (ap (λ (ts : List Token). ts ++ rest) a ∙ ap (λ (ts : List Token). take n tokens ++ ts) b ∙ take-append-drop n tokens)
