-- The first definition of each symbol that always gives it a value, definition by definition.
use Rattle.std.proofs.Common.{◌≡◌, ℕ, ◌+◌, ◌<◌, ◌≤◌, ◌==◌, Bool, true, false, ◌&&◌, ◌||◌, if◌then◌else◌, List, [], ◌∷◌, Option, Some, None, length, map, take, get_or, slice_get, slice_set, nat_lt, refl, sym, ap, ◌∙◌, subst, ⊎_elim, arith}
use denote.Ref.{Bor}
use Rattle.std.specs.Prelude.{is_none, option_and_then}
use Rattle.std.specs.List.{list_any}
use Rattle.std.specs.Option.{option_map_or, option_or}
use Rattle.std.proofs.lemmas.Bool.{cases_eq, eq-eqb, ne_eqb, ltb-false, ltb-true}
use Rattle.std.proofs.lemmas.List.{get_or_past, length-set, take_all}
use Rattle.kc_text.specs.LineValue.{LineValue}
use Rattle.kc_outline.specs.TreeValue.{TreeValue, DefinitionValue}
use Rattle.kc_line_facts.specs.declared.defaults_after.DefaultPlace.{DefaultPlace}
use Rattle.kc_line_facts.specs.Numbers.{first_below}
use Rattle.kc_line_facts.specs.UnusedDefaults.{always_gives, earlier_place, free_place_at, given_before, is_always_given, is_defined_again, noted_first, unused_after, unused_by_number}
use Rattle.kc_line_facts.proofs.NumberLaws.{first_more, slot_set}

-- as many as there are
pub taken_whole : {X : Type 0} (n : ℕ) (xs : List X) → n ≡ length xs → take n xs ≡ xs
taken_whole n xs is = take_all n xs (omega (arith, is))

-- a test of what references lend
pub any_lent : {X : Type 0} (p : X → Bool) (es : List (Bor X)) → list_any (λ e. p e.now) es ≡ list_any p (map (λ e. e.now) es)
any_lent p [] = refl
any_lent p (e ∷ es) = ap (λ b. p e.now || b) (any_lent p es)

pub any_of_lent : {X : Type 0} (p : X → Bool) (es : List (Bor X)) (xs : List X) → map (λ e. e.now) es ≡ xs → list_any (λ e. p e.now) es ≡ list_any p xs
any_of_lent p es xs is = any_lent p es ∙ ap (list_any p) is

or_none : (o : Option ℕ) → option_or o None ≡ o
or_none None = refl
or_none (Some x) = refl

and_no : (b : Bool) → b && false ≡ false
and_no true = refl
and_no false = refl

and_yes : (b : Bool) → b && true ≡ b
and_yes true = refl
and_yes false = refl

-- nothing is noted for a slot
stays : (s k n : ℕ) (o : Option ℕ) (b : Bool) → b ≡ false → o ≡ option_or o (if b then Some n else None)
stays s k n o b is = sym (or_none o) ∙ ap (λ (c : Bool). option_or o (if c then Some n else None)) (sym is)

there_first : (s k n x : ℕ) (o : Option ℕ) (b : Bool) → o ≡ Some x → o ≡ option_or o (if b then Some n else None)
there_first s k n x o b is = is ∙ ap (λ (r : Option ℕ). option_or r (if b then Some n else None)) (sym is)

-- the slots with the definition of number n noted for symbol s
slot : (given : List (Option ℕ)) (s n k : ℕ) (is lt : Bool) (r o : Option ℕ) → nat_lt s (length given) ≡ lt → get_or given s None ≡ r
    → get_or given k None ≡ o → k < length given
    → get_or (if is && (lt && is_none r) then slice_set given s (Some n) else given) k None ≡ option_or o (if (s == k) && is then Some n else None)
slot given s n k false lt r o inside noted e within = e ∙ stays s k n o ((s == k) && false) (and_no (s == k))
slot given s n k true false r o inside noted e within =
    let beyond : length given ≤ s = ltb-false s (length given) inside in
    e ∙ stays s k n o ((s == k) && true) (and_yes (s == k) ∙ ne_eqb s k (λ same. omega (arith, beyond, within, same)))
slot given s n k true true (Some x) o inside noted e within =
    ⊎_elim
    (λ same. e ∙ there_first s k n x o ((s == k) && true) (sym e ∙ ap (λ j. get_or given j None) same ∙ noted))
    (λ other. e ∙ stays s k n o ((s == k) && true) (and_yes (s == k) ∙ ne_eqb s k (λ same. other (sym same))))
    (cases_eq k s)
slot given s n k true true None o inside noted e within =
    slot_set given s k (Some n) o (ltb-true s (length given) inside) e
    ∙ ⊎_elim
    (λ same.
    let is_here = eq-eqb s k (sym same) in
    let none = sym e ∙ ap (λ j. get_or given j None) same ∙ noted in
    ap (λ (b : Bool). if b then Some n else o) is_here
    ∙ sym (ap (λ (b : Bool). option_or o (if b && true then Some n else None)) is_here ∙ ap (λ (r : Option ℕ). option_or r (Some n)) none))
    (λ other.
    let is_other = ne_eqb s k (λ same. other (sym same)) in
    ap (λ (b : Bool). if b then Some n else o) is_other
    ∙ stays s k n o ((s == k) && true) (and_yes (s == k) ∙ is_other))
    (cases_eq k s)

slot_noted : (given : List (Option ℕ)) (s n k : ℕ) (is : Bool) (o : Option ℕ) → get_or given k None ≡ o → k < length given
    → get_or (noted_first given s n is) k None ≡ option_or o (if (s == k) && is then Some n else None)
slot_noted given s n k is o e within = slot given s n k is (nat_lt s (length given)) (get_or given s None) o refl refl e within

-- the definitions so far with one more
pub given_step : (t : TreeValue) (n s : ℕ) (d : DefinitionValue) (is : Bool) (before after : List (Option ℕ)) (size : ℕ)
    → slice_get t.definitions n ≡ Some d → s ≡ d.symbol.0 → is ≡ is_always_given t n d → length before ≡ size
    → ((k : ℕ) → k < size → get_or before k None ≡ first_below (always_gives t k) n)
    → after ≡ noted_first before s n is
    → (k : ℕ) → k < size → get_or after k None ≡ first_below (always_gives t k) (n + 1)
given_step t n s d is before after size there s_is is_is sized each new k within =
    ap (λ (g : List (Option ℕ)). get_or g k None) new
    ∙ slot_noted before s n k is (first_below (always_gives t k) n) (each k within) (subst (λ m. k < m) (sym sized) within)
    ∙ ap (λ (b : Bool). option_or (first_below (always_gives t k) n) (if b then Some n else None))
    (ap (λ j. (j == k) && is) s_is
    ∙ ap (λ b. (d.symbol.0 == k) && b) is_is
    ∙ ap (λ (o : Option DefinitionValue). option_map_or (λ e. (e.symbol.0 == k) && is_always_given t n e) o false) (sym there))
    ∙ sym (first_more (always_gives t k) n)

-- noting changes no length
sized_by : (given : List (Option ℕ)) (s n : ℕ) (b : Bool) → length (if b then slice_set given s (Some n) else given) ≡ length given
sized_by given s n true = length-set given s (Some n)
sized_by given s n false = refl

pub noted_first_sized : (given : List (Option ℕ)) (s n : ℕ) (is : Bool) → length (noted_first given s n is) ≡ length given
noted_first_sized given s n is = sized_by given s n (is && (nat_lt s (length given) && is_none (get_or given s None)))

-- what is noted for a symbol
noted_by : (t : TreeValue) (n s : ℕ) (given : List (Option ℕ)) (lt : Bool) → nat_lt s (length t.symbols) ≡ lt → length given ≡ length t.symbols
    → ((k : ℕ) → k < length t.symbols → get_or given k None ≡ first_below (always_gives t k) n)
    → option_and_then (free_place_at t) (get_or given s None) ≡ (if lt then option_and_then (free_place_at t) (first_below (always_gives t s) n) else None)
noted_by t n s given true inside sized each = ap (option_and_then (free_place_at t)) (each s (ltb-true s (length t.symbols) inside))
noted_by t n s given false inside sized each =
    let beyond : length t.symbols ≤ s = ltb-false s (length t.symbols) inside in
    ap (option_and_then (free_place_at t)) (get_or_past given s None (omega (arith, beyond, sized)))

noted_before : (t : TreeValue) (n s : ℕ) (given : List (Option ℕ)) → length given ≡ length t.symbols
    → ((k : ℕ) → k < length t.symbols → get_or given k None ≡ first_below (always_gives t k) n)
    → option_and_then (free_place_at t) (get_or given s None) ≡ given_before t n s
noted_before t n s given sized each = noted_by t n s given (nat_lt s (length t.symbols)) refl sized each

-- what is found in the definition of a number
pub unused_of_number : (lines : List LineValue) (t : TreeValue) (n s : ℕ) (d : DefinitionValue) (given : List (Option ℕ)) (noted earlier : Option DefaultPlace)
    → slice_get t.definitions n ≡ Some d → s ≡ d.symbol.0 → length given ≡ length t.symbols
    → ((k : ℕ) → k < length t.symbols → get_or given k None ≡ first_below (always_gives t k) n)
    → noted ≡ option_and_then (free_place_at t) (get_or given s None)
    → earlier ≡ (if is_defined_again lines n then None else noted)
    → unused_after n d earlier ≡ unused_by_number lines t n
unused_of_number lines t n s d given noted earlier there s_is sized each noted_is earlier_is =
    ap (unused_after n d)
    (earlier_is
    ∙ ap (λ (o : Option DefaultPlace). if is_defined_again lines n then None else o) (noted_is ∙ noted_before t n s given sized each ∙ ap (given_before t n) s_is))
    ∙ ap (λ (o : Option DefinitionValue). option_map_or (λ e. unused_after n e (earlier_place lines t n e)) o []) (sym there)
