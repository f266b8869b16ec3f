-- How a mistake in a part of a line is passed on to the whole.
use Rattle.std.proofs.Common.{◌≡◌, ◌-◌, ℕ, true, refl, Result, Ok, Err, IfErr, ap, sym, subst, ◌∙◌}
use Rattle.std.specs.Result.{IsErrAnd}
use Rattle.kc_statement.specs.declared.mistake.Mistake.{Mistake}
use Rattle.kc_statement.specs.declared.mistake.Unread.{Unread}
use Rattle.kc_statement.specs.declared.mistake.Unread.TheVariants.{NoMemory, At}
use Rattle.kc_statement.specs.Mistakes.{is_mistake, of_front, WhereMistaken, WherePlaced}

module _ {T : Type 0} where
  pub passed_on : {F G : Type 0} (r : Result T Unread) (e : Unread) → IsErrAnd r (λ y. y ≡ e) → (F → G) → WhereMistaken e F → IfErr r (λ y. WhereMistaken y G)
  passed_on (Ok x) e said step h = absurd said
  passed_on (Err y) e said step h = λ at. step (h (ap is_mistake (sym said) ∙ at))

  pub placed_on : {P Q : ℕ → Type 0} (r : Result T Unread) (e : Unread) → IsErrAnd r (λ y. y ≡ e) → ((n : ℕ) → P n → Q n) → WherePlaced e P → IfErr r (λ y. WherePlaced y Q)
  placed_on (Ok x) e said step h = absurd said
  placed_on (Err y) e said step h = λ m at. step m.left (h m (sym said ∙ at))

pub placed_through : {T : Type 0} {P Q : ℕ → Type 0} (r : Result T Unread) → ((n : ℕ) → P n → Q n) → IfErr r (λ e. WherePlaced e P) → IfErr r (λ e. WherePlaced e Q)
placed_through (Ok x) step h = tt
placed_through (Err e) step h = λ m at. step m.left (h m at)

one_place : (a b : Mistake) → At a ≡ At b → a ≡ b
one_place a b e = cc

-- of a mistake that is made in a place, what holds of that place
pub placed_at : (Q : ℕ → Type 0) (e : Unread) (place : Mistake) → e ≡ At place → Q place.left → WherePlaced e Q
placed_at Q e place is q = λ m at. subst (λ (x : Mistake). Q x.left) (one_place place m (sym is ∙ at)) q

-- of the mistake of a front, as one of all tokens
pub front_mistaken : (e : Unread) (front all : ℕ) (r : Unread) → r ≡ of_front e front all → is_mistake r ≡ true → is_mistake e ≡ true
front_mistaken NoMemory front all r is at = sym (ap is_mistake is) ∙ at
front_mistaken (At m) front all r is at = refl

pub front_placed : (P Q : ℕ → Type 0) (e : Unread) (front all : ℕ) (r : Unread) → r ≡ of_front e front all → ((left : ℕ) → P left → Q (all - (front - left))) → WherePlaced e P → WherePlaced r Q
front_placed P Q NoMemory front all r is step h =
    λ m at. let none : NoMemory ≡ At m = sym is ∙ at in absurd (cc)
front_placed P Q (At n) front all r is step h =
    placed_at Q r (record { left = all - (front - n.left); wanted = n.wanted }) is (step n.left (h n refl))
