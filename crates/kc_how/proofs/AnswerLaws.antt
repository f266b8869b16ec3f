-- Lists of lines that are enough, and those that are not.
use Rattle.std.proofs.Common.{◌≡◌, ◌↔◌, Bool, true, false, List, Option, None, Some, sym, subst, ◌∙◌}
use Rattle.std.specs.Prelude.{All, IfNone}
use Rattle.std.proofs.lemmas.Bool.{false≢true}
use Rattle.kc_outline.specs.TreeValue.{TreeValue}
use Rattle.kc_files.specs.declared.assign.Assign.{Assign}
use Rattle.kc_how.specs.Answer.{IsLine}
use Rattle.kc_how.specs.Apart.{AreApart}
use Rattle.kc_how.specs.Question.{Asked, AreEnough, IsEnoughFor}

-- ---- by three tests
pub enough_for : (q : Asked) (t : TreeValue) (lines : List Assign) → t ≡ q.tree → All (IsLine t) lines → AreApart t lines → AreEnough q lines
    → IsEnoughFor q lines
enough_for q t lines same readable apart enough = record {
  readable = subst (λ (x : TreeValue). All (IsLine x) lines) same readable;
  apart = subst (λ (x : TreeValue). AreApart x lines) same apart;
  enough = enough;
}

module _ (q : Asked) (t : TreeValue) (lines : List Assign) (r : Bool) where
  pub not_readable : t ≡ q.tree → ((r ≡ true) ↔ All (IsLine t) lines) → r ≡ false → IsEnoughFor q lines → ⊥
  not_readable same test fails h = false≢true (sym fails ∙ test.1 (subst (λ (x : TreeValue). All (IsLine x) lines) (sym same) h.readable))

  pub not_apart : t ≡ q.tree → ((r ≡ true) ↔ AreApart t lines) → r ≡ false → IsEnoughFor q lines → ⊥
  not_apart same test fails h = false≢true (sym fails ∙ test.1 (subst (λ (x : TreeValue). AreApart x lines) (sym same) h.apart))

  pub not_enough : ((r ≡ true) ↔ AreEnough q lines) → r ≡ false → IsEnoughFor q lines → ⊥
  not_enough test fails h = false≢true (sym fails ∙ test.1 h.enough)

-- ---- lines that were put in order
pub none_of : (q : Asked) (t : TreeValue) (lines sorted : List Assign) → t ≡ q.tree → (AreApart t lines → sorted ≡ lines)
    → (IsEnoughFor q sorted → ⊥) → IsEnoughFor q lines → ⊥
none_of q t lines sorted same kept none h =
    none (subst (IsEnoughFor q) (sym (kept (subst (λ (x : TreeValue). AreApart x lines) (sym same) h.apart))) h)

pub none_weaker : {X P Q : Type 0} → (P → Q) → (found : Option X) → IfNone found P → IfNone found Q
none_weaker f None h = f h
none_weaker f (Some x) h = h
