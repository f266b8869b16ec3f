-- That tokens go on otherwise from a mistake on: with a term, or with what closes what is open.
use Rattle.std.proofs.Common.{◌≡◌, ℕ, zero, suc, false, List, [], ◌∷◌, ◌++◌, length, replicate, refl, sym, ap, ◌∙◌}
use Rattle.std.proofs.lemmas.List.{append_assoc, map-append}
use Rattle.kc_text.specs.declared.line.Operator.TheVariants as sign
use Rattle.kc_text.specs.declared.line.Token.TheVariants.{Quoted, Operator}
use Rattle.kc_statement.specs.declared.expr.Term.{Term}
use Rattle.kc_statement.specs.declared.expr.Term.TheVariants.{Text}
use Rattle.kc_statement.specs.declared.expr.Comparison.{Comparison}
use Rattle.kc_statement.specs.declared.expr.ExprKind.{ExprKind}
use Rattle.kc_statement.specs.declared.expr.ExprKind.TheVariants.{Condition, Value}
use Rattle.kc_statement.specs.Grammar.{Symbol, term, compares, bang, opening, closing, symbol_of, symbols_of, atom, compare, negation, group, Formula, is_bare_in, factor, expression, spelled}
use Rattle.kc_statement.specs.Fronts.{Begins}
use Rattle.kc_statement.specs.Mistakes.{CanGoOn}

-- an empty text in quotes is bare in no kind
pub not_bare : (k : ExprKind) → is_bare_in k (Text []) ≡ false
not_bare Condition = refl
not_bare Value = refl

module _ (names : List (List ℕ)) (k : ExprKind) where
  pub goes_on_with_term : (symbols : List Symbol) (left : ℕ) → left ≡ length symbols → CanGoOn names k factor symbols left
  goes_on_with_term symbols left e = (atom (Text []), [], symbols, Quoted [] ∷ [], refl, sym e, not_bare k, refl)

  pub goes_on_with_side : (c : Comparison) (x : Term) (rest : List Symbol) (left : ℕ) → left ≡ length rest → CanGoOn names k factor (term x ∷ compares c ∷ rest) left
  goes_on_with_side c x rest left e = (compare c x (Text []), term x ∷ compares c ∷ [], rest, Quoted [] ∷ [], refl, sym e, tt, refl)

  pub goes_on_inside : (symbols : List Symbol) (left : ℕ) → CanGoOn names k expression symbols left → CanGoOn names k factor (opening ∷ symbols) left
  goes_on_inside symbols left g = (
    group g.0,
    opening ∷ g.1,
    g.2,
    g.3 ++ Operator sign.Close ∷ [],
    ap (λ s. opening ∷ s) g.4,
    g.5,
    g.6,
    ap (λ s. opening ∷ (s ++ closing ∷ [])) g.7 ∙ ap (λ s. opening ∷ s) (append_assoc g.1 (symbols_of names g.3) (closing ∷ []) ∙ ap (λ s. g.1 ++ s) (sym (map-append (symbol_of names) g.3 (Operator sign.Close ∷ [])))),
  )

  pub goes_on_closed : (symbols rest : List Symbol) (f : Formula) (left : ℕ) → Begins k expression symbols f rest → left ≡ length rest → CanGoOn names k factor (opening ∷ symbols) left
  goes_on_closed symbols rest f left b e = (group f, opening ∷ spelled f, rest, Operator sign.Close ∷ [], ap (λ s. opening ∷ s) b.is, sym e, b.level, refl)

  pub goes_on_negations : (n : ℕ) (symbols : List Symbol) (left : ℕ) → CanGoOn names k factor symbols left → CanGoOn names k factor (replicate n bang ++ symbols) left
  goes_on_negations zero symbols left g = g
  goes_on_negations (suc n) symbols left g =
      let r = goes_on_negations n symbols left g in
      (negation r.0, bang ∷ r.1, r.2, r.3, ap (λ s. bang ∷ s) r.4, r.5, r.6, ap (λ s. bang ∷ s) r.7)
