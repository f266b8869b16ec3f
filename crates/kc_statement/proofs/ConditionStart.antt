-- Where the condition of a default begins: no expression has an `if` of its own.
use Rattle.std.proofs.Common.{◌≡◌, ◌+◌, ℕ, Bool, true, false, not, ◌||◌, cond, List, [], ◌∷◌, ◌++◌, length, take, drop, Option, Some, None, codes, unwrap_or, position, nat_lt, ◌==◌, refl, sym, ap, ◌∙◌, subst, zero-add, add-zero, arith}
use Rattle.std.specs.Str.{bytes_eq}
use Rattle.std.specs.List.{list_any, position_or_len}
use Rattle.std.proofs.lemmas.Bool.{ltb-false}
use Rattle.std.proofs.lemmas.List.Sums.{prefix_len-le-length}
use Rattle.std.proofs.lemmas.List.Folds.{list_any-append}
use Rattle.std.proofs.Math.Seq.{take-append_seam, drop-append_seam}
use Rattle.kc_text.specs.declared.line.Operator.{Operator as Sign}
use Rattle.kc_text.specs.declared.line.Operator.TheVariants as sign
use Rattle.kc_text.specs.declared.line.Token.{Token}
use Rattle.kc_text.specs.declared.line.Token.TheVariants.{Word, Expanded, Quoted, Operator}
use Rattle.kc_statement.specs.declared.expr.Term.{Term}
use Rattle.kc_statement.specs.declared.expr.Expr.{Expr}
use Rattle.kc_statement.specs.declared.expr.ExprKind.{ExprKind}
use Rattle.kc_statement.specs.declared.expr.ExprKind.TheVariants.{Value}
use Rattle.kc_statement.specs.declared.attribute.DefaultValue.{DefaultValue}
use Rattle.kc_statement.specs.Forms.{is_word, condition_start}
use Rattle.kc_statement.specs.Grammar.{Symbol, term, compares, bang, ampersands, bars, opening, closing, if_word, Formula, atom, bare, compare, negation, group, both, either, spelled, sign_symbol, symbol_of, symbols_of, Derives, IsNoExpression}
use Rattle.kc_statement.specs.Statements.{IsCondition, IsWordAndCondition, IsDefault}

-- ---- no `if` in an expression
is_if_symbol : Symbol → Bool
is_if_symbol (term x) = false
is_if_symbol (compares c) = false
is_if_symbol bang = false
is_if_symbol ampersands = false
is_if_symbol bars = false
is_if_symbol opening = false
is_if_symbol closing = false
is_if_symbol if_word = true

has_if : List Symbol → Bool
has_if xs = list_any is_if_symbol xs

without_if : (xs ys : List Symbol) → has_if xs ≡ false → has_if ys ≡ false → has_if (xs ++ ys) ≡ false
unfolding has_if
without_if xs ys p q = list_any-append is_if_symbol xs ys ∙ ap (λ b. b || list_any is_if_symbol ys) p ∙ q

no_if-spelled : (f : Formula) → has_if (spelled f) ≡ false
unfolding has_if is_if_symbol
no_if-spelled (atom x) = refl
no_if-spelled (bare x) = refl
no_if-spelled (compare c x y) = refl
no_if-spelled (negation f) = no_if-spelled f
no_if-spelled (group f) = without_if (spelled f) (closing ∷ []) (no_if-spelled f) refl
no_if-spelled (both f g) = without_if (spelled f) (ampersands ∷ spelled g) (no_if-spelled f) (no_if-spelled g)
no_if-spelled (either f g) = without_if (spelled f) (bars ∷ spelled g) (no_if-spelled f) (no_if-spelled g)

-- ---- the tokens that are `if`
if_or_term : (b : Bool) (x : Term) → is_if_symbol (cond b if_word (term x)) ≡ b
unfolding is_if_symbol
if_or_term true x = refl
if_or_term false x = refl

is_if-sign : (o : Sign) → is_if_symbol (sign_symbol o) ≡ false
unfolding is_if_symbol
is_if-sign sign.And = refl
is_if-sign sign.Or = refl
is_if-sign sign.Equal = refl
is_if-sign sign.NotEqual = refl
is_if-sign sign.Less = refl
is_if-sign sign.LessOrEqual = refl
is_if-sign sign.Greater = refl
is_if-sign sign.GreaterOrEqual = refl
is_if-sign sign.Not = refl
is_if-sign sign.Open = refl
is_if-sign sign.Close = refl

is_if-symbol : (names : List (List ℕ)) (t : Token) → is_if_symbol (symbol_of names t) ≡ is_word (codes "if") t
unfolding is_if_symbol
is_if-symbol names (Word w) = if_or_term (bytes_eq w (codes "if")) _
is_if-symbol names (Expanded w) = refl
is_if-symbol names (Quoted q) = refl
is_if-symbol names (Operator o) = is_if-sign o

has_if-symbols : (names : List (List ℕ)) (tokens : List Token) → has_if (symbols_of names tokens) ≡ list_any (is_word (codes "if")) tokens
unfolding has_if
has_if-symbols names [] = refl
has_if-symbols names (t ∷ tokens) =
    ap (λ b. b || list_any is_if_symbol (symbols_of names tokens)) (is_if-symbol names t)
    ∙ ap (λ b. is_word (codes "if") t || b) (has_if-symbols names tokens)

no_if-expression : (k : ExprKind) (names : List (List ℕ)) (tokens : List Token) (e : Expr) → Derives k names tokens e → list_any (is_word (codes "if")) tokens ≡ false
no_if-expression k names tokens e h = sym (has_if-symbols names tokens) ∙ ap has_if h.is ∙ no_if-spelled e

-- ---- the first of them
first_part : (a b : Bool) → (a || b) ≡ false → a ≡ false
first_part true b h = h
first_part false b h = refl

last_part : (a b : Bool) → (a || b) ≡ false → b ≡ false
last_part true b h = absurd cc
last_part false b h = h

or_end : (b : Bool) (n m : ℕ) → (b ≡ false → m ≡ n) → unwrap_or (cond b (Some n) None) m ≡ n
or_end true n m h = refl
or_end false n m h = h refl

module _ {X : Type 0} where
  pub position_or_end : (p : X → Bool) (xs : List X) → unwrap_or (position p xs) (length xs) ≡ position_or_len p xs
  position_or_end p xs =
      or_end (nat_lt (position_or_len p xs) (length xs)) (position_or_len p xs) (length xs)
      (λ e. omega (arith, prefix_len-le-length (λ x. not (p x)) xs, ltb-false _ _ e))

  position_or_len-none : (p : X → Bool) (xs ys : List X) → list_any p xs ≡ false → position_or_len p (xs ++ ys) ≡ length xs + position_or_len p ys
  position_or_len-none p [] ys h = sym (zero-add _)
  position_or_len-none p (x ∷ xs) ys h =
      let here = first_part (p x) (list_any p xs) h in
      let later = position_or_len-none p xs ys (last_part (p x) (list_any p xs) h) in
      rw here (omega (arith, later))

condition_start-at_condition : (names : List (List ℕ)) (tokens : List Token) (c : Option Expr) → IsCondition names tokens c → condition_start tokens ≡ 0
condition_start-at_condition names tokens None h = ap condition_start h
condition_start-at_condition names tokens (Some e) h = ap condition_start h.1

-- a default is split there
pub default_split : (names : List (List ℕ)) (tokens : List Token) (d : DefaultValue) → IsDefault names tokens d → Derives Value names (take (condition_start tokens) tokens) d.value × IsCondition names (drop (condition_start tokens) tokens) d.condition
default_split names tokens d h =
    let start : condition_start tokens ≡ length h.0 =
    ap condition_start h.2
    ∙ position_or_len-none (is_word (codes "if")) h.0 h.1 (no_if-expression Value names h.0 d.value h.3)
    ∙ ap (λ n. length h.0 + n) (condition_start-at_condition names h.1 d.condition h.4)
    ∙ add-zero _ in
    let front : take (condition_start tokens) tokens ≡ h.0 =
    ap (λ n. take n tokens) start ∙ ap (take (length h.0)) h.2 ∙ take-append_seam h.0 h.1 in
    let back : drop (condition_start tokens) tokens ≡ h.1 =
    ap (λ n. drop n tokens) start ∙ ap (drop (length h.0)) h.2 ∙ drop-append_seam h.0 h.1 in
    (subst (λ (xs : List Token). Derives Value names xs d.value) (sym front) h.3, subst (λ (xs : List Token). IsCondition names xs d.condition) (sym back) h.4)

-- ---- what is no condition, and no default
pub no_condition : (names : List (List ℕ)) (tokens : List Token) → (length tokens == 0) ≡ false → ((e : Expr) → IsWordAndCondition names (codes "if") tokens e → ⊥) → (c : Option Expr) → IsCondition names tokens c → ⊥
no_condition names tokens some unread None h =
    let same : true ≡ false = sym (ap (λ (xs : List Token). length xs == 0) h) ∙ some in
    cc
no_condition names tokens some unread (Some e) h = unread e h

pub no_default : (names : List (List ℕ)) (tokens front : List Token) (k : ℕ) → k ≡ condition_start tokens → front ≡ take k tokens → IsNoExpression Value names front → (d : DefaultValue) → IsDefault names tokens d → ⊥
no_default names tokens front k start is unread d h =
    let value = (default_split names tokens d h).0 in
    let same : take (condition_start tokens) tokens ≡ front = ap (λ n. take n tokens) (sym start) ∙ sym is in
    unread d.value (subst (λ (xs : List Token). Derives Value names xs d.value) same value)

pub no_default_condition : (names : List (List ℕ)) (tokens back : List Token) (k : ℕ) → k ≡ condition_start tokens → back ≡ drop k tokens → ((c : Option Expr) → IsCondition names back c → ⊥) → (d : DefaultValue) → IsDefault names tokens d → ⊥
no_default_condition names tokens back k start is unread d h =
    let condition = (default_split names tokens d h).1 in
    let same : drop (condition_start tokens) tokens ≡ back = ap (λ n. drop n tokens) (sym start) ∙ sym is in
    unread d.condition (subst (λ (xs : List Token). IsCondition names xs d.condition) same condition)
