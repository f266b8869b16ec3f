-- The names of one more line, and what that belongs to.
use Rattle.std.proofs.Common.{◌≡◌, ℕ, ◌+◌, ◌==◌, ◌&&◌, ◌||◌, Bool, true, false, not, cond, if◌then◌else◌, List, [], ◌∷◌, ◌++◌, Option, Some, None, refl, sym, ap, ◌∙◌, slice_get, take, add-one, ◌<◌, ◌≤◌, length, get_or, nat_lt, subst}
use Rattle.std.specs.Prelude.{option_and_then, option_map, unwrap_or}
use Rattle.std.specs.List.{flat_map, list_any}
use Rattle.std.specs.Option.{option_map_or, option_or}
use Rattle.std.proofs.lemmas.Bool.{eqb-true, ltb-false, ltb-true}
use Rattle.std.proofs.lemmas.Grind.{flat_map-append}
use Rattle.std.proofs.lemmas.List.{append-nil, get_or_past, take_all, take_more}
use Rattle.std.proofs.lemmas.Option.{get_or_from_slice_get, slice_get_past, slice_get_within}
use Rattle.kc_text.specs.LineValue.{LineValue}
use Rattle.kc_statement.specs.Keywords.{is_attribute}
use Rattle.kc_outline.specs.Enclosing.{before}
use Rattle.kc_outline.specs.TreeValue.{TreeValue}
use Rattle.kc_line_facts.specs.DoubtfulNames.{are_same_line, is_elsewhere, is_in_several, is_named, name_of, named_by, passed_after}
use Rattle.kc_line_facts.specs.DoubtfulUses.{defined_symbol, owner_at}
use Rattle.kc_line_facts.specs.Numbers.{first_below, last_below}
use Rattle.kc_line_facts.specs.declared.doubtful_uses.DoubtfulUse.{DoubtfulUse}
use Rattle.kc_line_facts.specs.declared.named_uses.NamedUse.{NamedUse}
use Rattle.kc_line_facts.specs.declared.named_uses.Passed.{Passed}
use Rattle.kc_line_facts.proofs.SourcedLaws.{before_more}

owner_by : (b : Bool) (t : TreeValue) (l : LineValue) (rest : Option LineValue)
    → option_and_then (defined_symbol t) (cond (not b) (Some l) rest) ≡ (if b then option_and_then (defined_symbol t) rest else defined_symbol t l)
owner_by true t l rest = refl
owner_by false t l rest = refl

-- what one more line belongs to
pub owner_more : (t : TreeValue) (lines : List LineValue) (i : ℕ) (l : LineValue) → slice_get lines i ≡ Some l
    → owner_at t (before lines (i + 1)) ≡ (if is_attribute l then owner_at t (before lines i) else defined_symbol t l)
owner_more t lines i l is = ap (owner_at t) (before_more lines i l is) ∙ owner_by (is_attribute l) t l _

-- ---- uses of one name
nothing_more : {X : Type 0} (o : Option X) → o ≡ option_or o None
nothing_more None = refl
nothing_more (Some x) = refl

first_noted : (i : ℕ) (earlier : Option Passed) → Some (unwrap_or (option_map (λ p. p.first) earlier) i) ≡ option_or (option_map (λ p. p.first) earlier) (Some i)
first_noted i None = refl
first_noted i (Some p) = refl

-- the first use of a name, with one more use, which is of it or not
pub first_passed : (b : Bool) (i : ℕ) (own other : Option Passed) (before : Option ℕ) → (b ≡ true → own ≡ other) → option_map (λ p. p.first) other ≡ before
    → option_map (λ p. p.first) (if b then Some (passed_after own i) else other) ≡ option_or before (if b then Some i else None)
first_passed true i own other before same is =
    first_noted i own ∙ ap (λ o. option_or (option_map (λ (p : Passed). p.first) o) (Some i)) (same refl) ∙ ap (λ o. option_or o (Some i)) is
first_passed false i own other before same is = is ∙ nothing_more before

-- the last one
pub last_passed : (b : Bool) (i : ℕ) (own other : Option Passed) (before : Option ℕ) → option_map (λ p. p.last) other ≡ before
    → option_map (λ p. p.last) (if b then Some (passed_after own i) else other) ≡ (if b then Some i else before)
last_passed true i own other before is = refl
last_passed false i own other before is = is

-- one more place
pub first_below_more : (test : ℕ → Bool) (n : ℕ) → first_below test (n + 1) ≡ option_or (first_below test n) (if test n then Some n else None)
first_below_more test n = ap (first_below test) (add-one n)

-- a use, by what is known of its name
pub named_by_passed : (lines : List LineValue) (us : List DoubtfulUse) (i : ℕ) (u : DoubtfulUse) (e : Option Passed) (n : NamedUse)
    → option_map (λ p. p.first) e ≡ first_below (is_named lines us (name_of lines u)) i → option_map (λ p. p.last) e ≡ last_below (is_named lines us (name_of lines u)) i
    → n ≡ record { used = u; first = unwrap_or (option_map (λ (p : Passed). p.first) e) i; before = option_map (λ (p : Passed). p.last) e }
    → n ≡ named_by lines us i u
named_by_passed lines us i u e n first last is =
    is
    ∙ ap (λ f. record { used = u; first = unwrap_or f i; before = option_map (λ (p : Passed). p.last) e }) first
    ∙ ap (λ b. record { used = u; first = unwrap_or (first_below (is_named lines us (name_of lines u)) i) i; before = b }) last

-- ---- uses in several lines
elsewhere_by : (b : Bool) (lines : List LineValue) (ns : List NamedUse) (f : ℕ) (n : NamedUse) → (n.first == f) ≡ b → slice_get ns f ≡ None → (b && is_elsewhere lines ns n) ≡ false
elsewhere_by true lines ns f n is none =
    ap (λ (o : Option NamedUse). option_map_or (λ m. not (are_same_line lines m.used.line n.used.line)) o false) (ap (slice_get ns) (eqb-true n.first f is) ∙ none)
elsewhere_by false lines ns f n is none = refl

none_among : (lines : List LineValue) (ns : List NamedUse) (f : ℕ) (ms : List NamedUse) → slice_get ns f ≡ None
    → list_any (λ n. (n.first == f) && is_elsewhere lines ns n) ms ≡ false
none_among lines ns f [] none = refl
none_among lines ns f (m ∷ ms) none =
    ap (λ b. b || list_any (λ n. (n.first == f) && is_elsewhere lines ns n) ms) (elsewhere_by (m.first == f) lines ns f m refl none)
    ∙ none_among lines ns f ms none

-- no use is the first one of a name beyond the last
pub none_beyond : (lines : List LineValue) (ns : List NamedUse) (f : ℕ) → slice_get ns f ≡ None → is_in_several lines ns f ≡ false
none_beyond lines ns f none = none_among lines ns f ns none

-- ---- a list that grows by what one more item of another gives
pub flat_map_take : {X Y : Type 0} (f : X → List Y) (xs : List X) (i : ℕ) (x : X) (now new : List Y) → slice_get xs i ≡ Some x → now ≡ flat_map f (take i xs)
    → new ≡ now ++ f x → new ≡ flat_map f (take (i + 1) xs)
flat_map_take f xs i x now new is known step =
    let within = slice_get_within xs i x is in
    step
    ∙ ap (λ r. r ++ f x) known
    ∙ ap (λ r. flat_map f (take i xs) ++ r) (sym (append-nil (f x)))
    ∙ sym (flat_map-append f (take i xs) (x ∷ []))
    ∙ ap (λ y. flat_map f (take i xs ++ y ∷ [])) (sym (get_or_from_slice_get xs i x x is))
    ∙ ap (flat_map f) (sym (take_more xs i x within))

-- ---- which names are in several lines, by what is noted of all uses
module _ (lines : List LineValue) (ns : List NamedUse) (noted : List Bool) (i : ℕ) (sized : length noted ≡ length ns) (past : length ns ≤ i)
    (each : (f : ℕ) → f < length ns → get_or noted f false ≡ list_any (λ n. (n.first == f) && is_elsewhere lines ns n) (take i ns)) where
  several_by : (f : ℕ) (b : Bool) → nat_lt f (length ns) ≡ b → get_or noted f false ≡ is_in_several lines ns f
  several_by f true is = each f (ltb-true f (length ns) is) ∙ ap (list_any (λ n. (n.first == f) && is_elsewhere lines ns n)) (take_all i ns past)
  several_by f false is =
      let beyond : length ns ≤ f = ltb-false f (length ns) is in
      get_or_past noted f false (subst (λ n. n ≤ f) (sym sized) beyond) ∙ sym (none_beyond lines ns f (slice_get_past ns f beyond))

  pub several_all : (f : ℕ) → get_or noted f false ≡ is_in_several lines ns f
  several_all f = several_by f (nat_lt f (length ns)) refl
