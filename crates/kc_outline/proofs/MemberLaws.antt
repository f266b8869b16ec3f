-- The members of choices and the choices of symbols, as readings give them.
use Rattle.std.proofs.Common.{◌≡◌, ℕ, zero, suc, ◌+◌, ◌<◌, ◌==◌, Bool, true, false, if◌then◌else◌, List, [], ◌∷◌, ◌++◌, Option, Some, None, length, reverse, filter_map, refl, sym, ap, ◌∙◌, subst, inl, inr, arith}
use Rattle.std.specs.Prelude.{slice_get}
use Rattle.std.specs.List.{AllByRecursion, list_any, cons_option, count_by}
use Rattle.std.specs.Option.{option_map, option_map_or, option_and_then}
use Rattle.std.proofs.lemmas.Bool.{true≢false, eqb-true, eq-eqb, or_left}
use Rattle.std.proofs.lemmas.List.{reverse-append, reverse-reverse, nil_from_length}
use Rattle.std.proofs.lemmas.List.Elements.{recursion_from_All}
use Rattle.std.proofs.lemmas.List.FromFn.{get_or-map-range_with_len, length-map-range_with_len}
use Rattle.std.proofs.lemmas.Option.{none-some, same_Some, option_and_then_some, slice_get-get_or, slice_get_within, slice_get_cases}
use Rattle.kc_text.specs.LineValue.{LineValue}
use Rattle.kc_statement.specs.declared.id.SymId.{SymId}
use Rattle.kc_outline.specs.declared.id.BlockId.{BlockId}
use Rattle.kc_outline.specs.declared.id.ChoiceId.{ChoiceId}
use Rattle.kc_statement.specs.declared.keyword.Keyword.{Keyword}
use Rattle.kc_statement.specs.declared.keyword.Keyword.TheVariants as keyword
use Rattle.kc_outline.specs.declared.context.Owner.{Owner}
use Rattle.kc_outline.specs.declared.context.Owner.TheVariants.{Definition}
use Rattle.kc_statement.specs.declared.statement.Statement.{Statement}
use Rattle.kc_statement.specs.declared.statement.Statement.TheVariants as statement
use Rattle.kc_statement.specs.Keywords.{keyword_of, is_config, is_config_word, is_attribute_word}
use Rattle.kc_statement.specs.Names.{symbol_among, defined_name}
use Rattle.kc_outline.specs.Enclosing.{made_by, owner_at}
use Rattle.kc_outline.specs.Members.{AreMembersListed}
use Rattle.kc_outline.specs.Outline.{IsNamedIn, IsChoiceMadeBy, IsMade}
use Rattle.kc_outline.specs.Reader.{AreReadingsBefore, IsOutlineAfter}
use Rattle.kc_outline.specs.TreeOf.{Reading, IsReading, defined_in, defines, definition_number, choice_at_definition, member_of, symbol_at, symbols_in, map_placed, choice_at, choice_blocks, choices_in, tree_of}
use Rattle.kc_outline.specs.TreeValue.{TreeValue, SymbolValue, ChoiceValue}
use Rattle.kc_outline.proofs.AddingParts.{reading, no_choice}
use Rattle.kc_outline.proofs.Counts.{length-map_placed}
use Rattle.kc_outline.proofs.FormLaws.{defined-form}
use Rattle.kc_outline.proofs.OutlineFacts.{named_by_form}
use Rattle.kc_outline.proofs.ReadingLaws.{word_of, form_word}

-- ---- a line that defines a symbol owns the definition
abbrev pub OwnsDefinition : Statement → Option Owner → Type 0
OwnsDefinition (statement.Config (Some s)) o = (j : ℕ) × (o ≡ Some (Definition s j))
OwnsDefinition _ o = Unit {0}

the_config : (k : Option Keyword) → option_map_or is_config_word k false ≡ true → k ≡ Some keyword.Config
the_config None h = cc
the_config (Some keyword.Config) h = refl
the_config (Some _) h = cc

-- what a reading says of the symbol that it defines
pub record IsDefining (names : List (List ℕ)) (r : Reading) : Type 0 where
  pub named : IsNamedIn names r.statement
  pub owner : OwnsDefinition r.statement r.owner

module _ (names : List (List ℕ)) where
  owns : (earlier : List LineValue) (is_last : Bool) (l : LineValue) (r : Reading) → IsReading names earlier is_last l r → (s : Statement) → r.statement ≡ s → OwnsDefinition s r.owner
  owns earlier is_last l r reads (statement.Config (Some s)) e =
      let says = form_word is_config_word refl names l r.statement reads.sound.form ∙ ap (λ x. option_map_or is_config_word (word_of x) false) e in
      let word = the_config (keyword_of l) says in
      let defined : option_and_then (symbol_among names) (defined_name l) ≡ Some s = defined-form names l r.statement reads.sound.form ∙ ap defined_in e in (
        count_by is_config earlier,
        reads.owner
            ∙ ap (λ k. if option_map_or is_attribute_word k false then owner_at names earlier else made_by names k l earlier) word
            ∙ ap (option_map (λ d. Definition d (count_by is_config earlier))) defined,
      )
  owns earlier is_last l r reads _ e = tt

  pub is_defining : (earlier : List LineValue) (is_last : Bool) (l : LineValue) (r : Reading) → IsReading names earlier is_last l r → IsDefining names r
  is_defining earlier is_last l r reads = record {
    named = named_by_form names l r.statement reads.sound.form;
    owner = owns earlier is_last l r reads r.statement refl;
  }

  are_defining : (following : ℕ) (earlier : List LineValue) (qs : List Reading) → AreReadingsBefore names following earlier qs → AllByRecursion (IsDefining names) qs
  are_defining following [] [] h = tt
  are_defining following [] (q ∷ qs) h = absurd h
  are_defining following (l ∷ earlier) [] h = absurd h
  are_defining following (l ∷ earlier) (q ∷ qs) h = (is_defining earlier (following == 0) l q h.0, are_defining (following + 1) earlier qs h.1)

-- ---- in reverse
module _ {X : Type 0} (P : X → Type 0) where
  all_push : (xs : List X) (x : X) → AllByRecursion P xs → P x → AllByRecursion P (xs ++ x ∷ [])
  all_push [] x all one = (one, tt)
  all_push (y ∷ ys) x all one = (all.0, all_push ys x all.1 one)

  all_reverse : (xs : List X) → AllByRecursion P xs → AllByRecursion P (reverse xs)
  all_reverse [] all = all
  all_reverse (x ∷ xs) all =
      subst (AllByRecursion P) (sym (reverse-append (x ∷ []) xs)) (all_push (reverse xs) x (all_reverse xs all.1) all.0)

-- ---- one reading
abbrev is_listed : SymId → List SymId → Bool
is_listed s ms = list_any (λ m. m.0 == s.0) ms

-- a line that doesn't define the symbol lists it nowhere
pass_over : (s : SymId) (c : ℕ) (st : Statement) (b : Option BlockId) (ch : Option ChoiceId) (o : Option Owner) (ms : List SymId) → defines s st ≡ false → is_listed s (cons_option (member_of c (reading st b ch o)) ms) ≡ is_listed s ms
pass_over s c st b None o ms other = refl
pass_over s c (statement.Config (Some d)) b (Some e) o ms other = by (e.0 == c)
  where
    by : (t : Bool) → is_listed s (cons_option (if t then Some d else None) ms) ≡ is_listed s ms
    by true = rw other refl
    by false = refl
pass_over s c st b (Some e) o ms other = ap (λ x. is_listed s (cons_option x ms)) (no_choice {A = Option SymId} (e.0 == c) None)

not_numbered : (s : SymId) (r : Reading) → defines s r.statement ≡ false → definition_number s r ≡ None
not_numbered s r other = rw other refl

not_chosen : (s : SymId) (r : Reading) → defines s r.statement ≡ false → choice_at_definition s r ≡ None
not_chosen s r other = rw other refl

is_numbered : (s : SymId) (st : Statement) (b : Option BlockId) (ch : Option ChoiceId) (o : Option Owner) → OwnsDefinition st o → defines s st ≡ true → (j : ℕ) × (definition_number s (reading st b ch o) ≡ Some j)
is_numbered s (statement.Config (Some d)) b ch o own is = (own.0, rw (is, own.1) refl)
is_numbered s st b ch o own is = absurd (true≢false (sym is))

named_there : (names : List (List ℕ)) (s : SymId) (st : Statement) → IsNamedIn names st → defines s st ≡ true → s.0 < length names
named_there names s (statement.Config (Some d)) named is = subst (λ n. n < length names) (eqb-true d.0 s.0 is) named
named_there names s st named is = absurd (true≢false (sym is))

-- ---- the choice of a member with one definition
module _ (names : List (List ℕ)) (s : SymId) where
  unlisted : (c : ℕ) (rs : List Reading) → AllByRecursion (IsDefining names) rs → filter_map (definition_number s) rs ≡ [] → is_listed s (filter_map (member_of c) rs) ≡ false
  unlisted c [] all none = refl
  unlisted c (r ∷ rs) all none = by (defines s r.statement) refl (λ rest. unlisted c rs all.1 rest)
    where
      by : (t : Bool) → defines s r.statement ≡ t → (filter_map (definition_number s) rs ≡ [] → is_listed s (filter_map (member_of c) rs) ≡ false) → is_listed s (filter_map (member_of c) (r ∷ rs)) ≡ false
      by true e before =
          let number = is_numbered s r.statement r.block r.choice r.owner all.0.owner e in
          let some : length (number.0 ∷ filter_map (definition_number s) rs) ≡ 0 =
          ap length (sym (ap (λ o. cons_option o (filter_map (definition_number s) rs)) number.1) ∙ none) in
          absurd (omega (arith, some))
      by false e before =
          let rest : filter_map (definition_number s) rs ≡ [] =
          sym (ap (λ o. cons_option o (filter_map (definition_number s) rs)) (not_numbered s r e)) ∙ none in
          pass_over s c r.statement r.block r.choice r.owner (filter_map (member_of c) rs) e ∙ before rest

  here : (c : ChoiceId) (st : Statement) (b : Option BlockId) (ch : Option ChoiceId) (o : Option Owner) (ms : List SymId) (cs : List ChoiceId) → defines s st ≡ true → is_listed s ms ≡ false → is_listed s (cons_option (member_of c.0 (reading st b ch o)) ms) ≡ true → slice_get (cons_option (choice_at_definition s (reading st b ch o)) cs) 0 ≡ Some c
  here c st b None o ms cs is none listed = absurd (true≢false (sym listed ∙ none))
  here c st b (Some e) o ms cs is none listed = by (e.0 == c.0) refl
    where
      chosen : choice_at_definition s (reading st b (Some e) o) ≡ Some e
      chosen = rw is refl

      by : (t : Bool) → (e.0 == c.0) ≡ t → slice_get (cons_option (choice_at_definition s (reading st b (Some e) o)) cs) 0 ≡ Some c
      by true p =
          let same : e ≡ c = ap (λ (k : ℕ). record { 0 = k }) (eqb-true e.0 c.0 p) in
          ap (λ x. slice_get (cons_option x cs) 0) chosen ∙ ap Some same
      by false p =
          let no_member : member_of c.0 (reading st b (Some e) o) ≡ None = rw p refl in
          absurd (true≢false (sym listed ∙ ap (λ x. is_listed s (cons_option x ms)) no_member ∙ none))

  in_choice : (c : ChoiceId) (rs : List Reading) → AllByRecursion (IsDefining names) rs → is_listed s (filter_map (member_of c.0) rs) ≡ true → length (filter_map (definition_number s) rs) ≡ 1 → slice_get (filter_map (choice_at_definition s) rs) 0 ≡ Some c
  in_choice c [] all listed one = absurd (omega (arith, one))
  in_choice c (r ∷ rs) all listed one = by (defines s r.statement) refl (λ there count. in_choice c rs all.1 there count)
    where
      by : (t : Bool) → defines s r.statement ≡ t → (is_listed s (filter_map (member_of c.0) rs) ≡ true → length (filter_map (definition_number s) rs) ≡ 1 → slice_get (filter_map (choice_at_definition s) rs) 0 ≡ Some c) → slice_get (filter_map (choice_at_definition s) (r ∷ rs)) 0 ≡ Some c
      by true e before =
          let number = is_numbered s r.statement r.block r.choice r.owner all.0.owner e in
          let count : length (number.0 ∷ filter_map (definition_number s) rs) ≡ 1 =
          sym (ap (λ o. length (cons_option o (filter_map (definition_number s) rs))) number.1) ∙ one in
          let none : filter_map (definition_number s) rs ≡ [] = nil_from_length (filter_map (definition_number s) rs) (omega (arith, count)) in
          here c r.statement r.block r.choice r.owner (filter_map (member_of c.0) rs) (filter_map (choice_at_definition s) rs) e (unlisted c.0 rs all.1 none) listed
      by false e before =
          let count : length (filter_map (definition_number s) rs) ≡ 1 =
          sym (ap (λ o. length (cons_option o (filter_map (definition_number s) rs))) (not_numbered s r e)) ∙ one in
          ap (λ x. slice_get (cons_option x (filter_map (choice_at_definition s) rs)) 0) (not_chosen s r e)
          ∙ before (sym (pass_over s c.0 r.statement r.block r.choice r.owner (filter_map (member_of c.0) rs) e) ∙ listed) count

  listed_within : (c : ℕ) (rs : List Reading) → AllByRecursion (IsDefining names) rs → is_listed s (filter_map (member_of c) rs) ≡ true → s.0 < length names
  listed_within c [] all listed = absurd (true≢false (sym listed))
  listed_within c (r ∷ rs) all listed = by (defines s r.statement) refl (λ there. listed_within c rs all.1 there)
    where
      by : (t : Bool) → defines s r.statement ≡ t → (is_listed s (filter_map (member_of c) rs) ≡ true → s.0 < length names) → s.0 < length names
      by true e before = named_there names s r.statement all.0.named e
      by false e before =
          before (sym (pass_over s c r.statement r.block r.choice r.owner (filter_map (member_of c) rs) e) ∙ listed)

-- ---- the choice that a symbol is in
module _ (s : SymId) (c : ChoiceId) where
  chosen_step : (st : Statement) (b : Option BlockId) (ch : Option ChoiceId) (o : Option Owner) (cs : List ChoiceId) (ms : List SymId) → slice_get (cons_option (choice_at_definition s (reading st b ch o)) cs) 0 ≡ Some c → (slice_get cs 0 ≡ Some c → is_listed s ms ≡ true) → is_listed s (cons_option (member_of c.0 (reading st b ch o)) ms) ≡ true
  chosen_step st b None o cs ms e rest =
      rest (ap (λ x. slice_get (cons_option x cs) 0) (sym (no_choice {A = Option ChoiceId} (defines s st) None)) ∙ e)
  chosen_step (statement.Config (Some d)) b (Some k) o cs ms e rest = by (d.0 == s.0) refl
    where
      by : (t : Bool) → (d.0 == s.0) ≡ t → is_listed s (cons_option (member_of c.0 (reading (statement.Config (Some d)) b (Some k) o)) ms) ≡ true
      by true p =
          let chosen : choice_at_definition s (reading (statement.Config (Some d)) b (Some k) o) ≡ Some k = rw p refl in
          let same : k ≡ c = same_Some k c (sym (ap (λ x. slice_get (cons_option x cs) 0) chosen) ∙ e) in
          let in_it : (k.0 == c.0) ≡ true = eq-eqb k.0 c.0 (ap (λ x. x.0) same) in
          let member : member_of c.0 (reading (statement.Config (Some d)) b (Some k) o) ≡ Some d = rw in_it refl in
          ap (λ x. is_listed s (cons_option x ms)) member ∙ or_left (d.0 == s.0) (is_listed s ms) p
      by false p =
          let unchosen : choice_at_definition s (reading (statement.Config (Some d)) b (Some k) o) ≡ None = rw p refl in
          pass_over s c.0 (statement.Config (Some d)) b (Some k) o ms p
          ∙ rest (sym (ap (λ x. slice_get (cons_option x cs) 0) unchosen) ∙ e)
  chosen_step st b (Some k) o cs ms e rest =
      ap (λ x. is_listed s (cons_option x ms)) (no_choice {A = Option SymId} (k.0 == c.0) None) ∙ rest e

  chosen_listed : (rs : List Reading) → slice_get (filter_map (choice_at_definition s) rs) 0 ≡ Some c → is_listed s (filter_map (member_of c.0) rs) ≡ true
  chosen_listed [] e = absurd (none-some c e)
  chosen_listed (r ∷ rs) e =
      chosen_step r.statement r.block r.choice r.owner (filter_map (choice_at_definition s) rs) (filter_map (member_of c.0) rs) e (chosen_listed rs)

  module _ (all : List Reading) where
    made_step : (st : Statement) (b : Option BlockId) (ch : Option ChoiceId) (o : Option Owner) (cs : List ChoiceId) → IsChoiceMadeBy all ch → slice_get (cons_option (choice_at_definition s (reading st b ch o)) cs) 0 ≡ Some c → (slice_get cs 0 ≡ Some c → c.0 < length (choice_blocks all)) → c.0 < length (choice_blocks all)
    made_step st b None o cs made e rest =
        rest (ap (λ x. slice_get (cons_option x cs) 0) (sym (no_choice {A = Option ChoiceId} (defines s st) None)) ∙ e)
    made_step st b (Some k) o cs made e rest = by (defines s st) refl
      where
        by : (t : Bool) → defines s st ≡ t → c.0 < length (choice_blocks all)
        by true p =
            let chosen : choice_at_definition s (reading st b (Some k) o) ≡ Some k = rw p refl in
            let same : k ≡ c = same_Some k c (sym (ap (λ x. slice_get (cons_option x cs) 0) chosen) ∙ e) in
            subst (λ x. x.0 < length (choice_blocks all)) same made
        by false p =
            let unchosen : choice_at_definition s (reading st b (Some k) o) ≡ None = rw p refl in
            rest (sym (ap (λ x. slice_get (cons_option x cs) 0) unchosen) ∙ e)

    chosen_made : (rs : List Reading) → AllByRecursion (IsMade all) rs → slice_get (filter_map (choice_at_definition s) rs) 0 ≡ Some c → c.0 < length (choice_blocks all)
    chosen_made [] made e = absurd (none-some c e)
    chosen_made (r ∷ rs) made e =
        made_step r.statement r.block r.choice r.owner (filter_map (choice_at_definition s) rs) made.0.choice e (chosen_made rs made.1)

-- ---- the tree
placed_at : {A B : Type 0} (f : ℕ → A → B) (k : ℕ) (xs : List A) (i : ℕ) (y : B) → slice_get (map_placed f k xs) i ≡ Some y → (x : A) × (y ≡ f (k + i) x)
placed_at f k [] i y e = absurd (none-some y e)
placed_at f k (x ∷ xs) zero y e =
    let same : k ≡ k + 0 = omega arith in
    (x, sym (same_Some (f k x) y e) ∙ ap (λ n. f n x) same)
placed_at f k (x ∷ xs) (suc i) y e =
    let there = placed_at f (k + 1) xs i y e in
    let same : k + 1 + i ≡ k + suc i = omega arith in
    (there.0, there.1 ∙ ap (λ n. f n there.0) same)

symbol_there : (rs : List Reading) (s : SymId) (n : ℕ) → s.0 < n → slice_get (symbols_in n rs) s.0 ≡ Some (symbol_at rs s)
symbol_there rs s n within =
    let f : ℕ → SymbolValue = λ k. symbol_at rs (record { 0 = k }) in
    let count = length-map-range_with_len f 0 n in
    slice_get-get_or (symbols_in n rs) s.0 (symbol_at rs s) (omega (arith, within, count))
    ∙ ap Some (get_or-map-range_with_len f 0 n s.0 s.0 (symbol_at rs s) within (omega arith))

members_at : (rs : List Reading) (c : ChoiceId) (y : ChoiceValue) → slice_get (choices_in rs) c.0 ≡ Some y → y.members ≡ filter_map (member_of c.0) rs
members_at rs c y is =
    let same : 0 + c.0 ≡ c.0 = omega arith in
    ap (λ x. x.members) (placed_at (choice_at rs) 0 (choice_blocks rs) c.0 y is).1
    ∙ ap (λ k. filter_map (member_of k) rs) same

listed_of : (names : List (List ℕ)) (rs : List Reading) → AllByRecursion (IsDefining names) rs → AllByRecursion (IsMade rs) rs → AreMembersListed (tree_of names rs)
listed_of names rs defining made = record {
  members = λ s c y is listed.
      let there : is_listed s (filter_map (member_of c.0) rs) ≡ true = sym (ap (is_listed s) (members_at rs c y is)) ∙ listed in (
        symbol_at rs s,
        symbol_there rs s (length names) (listed_within names s c.0 rs defining there),
        λ one. in_choice names s c rs defining there one,
      );
  listed = λ s c chosen. option_and_then_some (λ (x : SymbolValue). x.choice) (slice_get (symbols_in (length names) rs) s.0) c chosen (λ x is first. found s c x is first);
} where
  found : (s : SymId) (c : ChoiceId) (x : SymbolValue) → slice_get (symbols_in (length names) rs) s.0 ≡ Some x → x.choice ≡ Some c → (y : ChoiceValue) × (slice_get (choices_in rs) c.0 ≡ Some y) × (list_any (λ m. m.0 == s.0) y.members ≡ true)
  found s c x is first =
      let f : ℕ → SymbolValue = λ k. symbol_at rs (record { 0 = k }) in
      let inside = slice_get_within (symbols_in (length names) rs) s.0 x is in
      let within : s.0 < length names = omega (arith, inside, length-map-range_with_len f 0 (length names)) in
      let same : symbol_at rs s ≡ x = same_Some (symbol_at rs s) x (sym (symbol_there rs s (length names) within) ∙ is) in
      let chosen : slice_get (filter_map (choice_at_definition s) rs) 0 ≡ Some c = ap (λ (v : SymbolValue). v.choice) same ∙ first in
      let made_there = chosen_made s c rs rs made chosen in
      let count = length-map_placed (choice_at rs) 0 (choice_blocks rs) in
      elim (slice_get_cases (choices_in rs) c.0).1 [
        | inl p ↦ (p.0, p.2, ap (is_listed s) (members_at rs c p.0 p.2) ∙ chosen_listed s c rs chosen)
        | inr p ↦ absurd (let late = p.0 in omega (arith, late, made_there, count))
      ]

pub members_of_outline : (names : List (List ℕ)) (following : ℕ) (earlier : List LineValue) (t : TreeValue) → IsOutlineAfter names following earlier t → AreMembersListed t
members_of_outline names following earlier t after =
    let rs = after.readings in
    let defining : AllByRecursion (IsDefining names) rs =
    subst (AllByRecursion (IsDefining names)) (reverse-reverse rs) (all_reverse (IsDefining names) (reverse rs) (are_defining names following earlier (reverse rs) after.read)) in
    subst AreMembersListed (sym after.tree) (listed_of names rs defining (recursion_from_All (IsMade rs) rs after.made))
