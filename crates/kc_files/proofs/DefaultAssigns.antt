-- The default file is the text of its assignments: each can be written, and no two are to the same symbol.
use Rattle.std.proofs.Common.{◌≡◌, ◌<◌, ℕ, Bool, true, false, true≢false, not, ◌&&◌, List, [], ◌∷◌, ◌++◌, length, Option, Some, None, option_map, option_and_then, is_some, filter_map, slice_get, All, if◌then◌else◌, refl, sym, ap, ◌∙◌, subst, arith}
use Rattle.std.specs.List.{cons_option, flat_map}
use Rattle.std.specs.Option.{option_map_or}
use Rattle.std.proofs.lemmas.Bool.{and_parts}
use Rattle.std.proofs.lemmas.List.Elements.{All-from_recursion}
use Rattle.std.proofs.lemmas.Option.{none-some, same_Some}
use Rattle.kc_statement.specs.declared.id.SymId.{SymId}
use Rattle.kc_statement.specs.declared.symbol_type.SymbolType.TheVariants as kind
use Rattle.kc_statement.specs.declared.tri.Tri.TheVariants.{Yes}
use Rattle.kc_outline.specs.declared.id.ChoiceId.{ChoiceId}
use Rattle.kc_outline.specs.declared.entry.Entry.{Entry}
use Rattle.kc_outline.specs.declared.entry.Entry.TheVariants.{Symbol, Again, Menu, EndMenu, Choice, Comment}
use Rattle.kc_outline.specs.Entries.{first_symbols, symbol_ids}
use Rattle.kc_outline.specs.Grouped.{IsGrouped}
use Rattle.kc_outline.specs.TreeValue.{TreeValue, SymbolValue, name_of, kind_of, choice_of}
use Rattle.kc_tree.specs.declared.node.Node.TheVariants.{Val}
use Rattle.kc_tree.specs.declared.user_value.UserVal.{UserVal}
use Rattle.kc_tree.specs.declared.user_value.UserVal.TheVariants.{Tri as TriVal, Text}
use Rattle.kc_tree.specs.Accepted.{IsAccepted}
use Rattle.kc_tree.specs.Fits.{fits, fits_type, type_of}
use Rattle.kc_value.specs.ChangedValue.{changed_value, ChangesAreJustEnough}
use Rattle.kc_value.specs.Replay.{shown_in}
use Rattle.kc_value.specs.UserValues.{UserValues, IsUserFor}
use Rattle.kc_files.specs.declared.assign.Assign.{Assign}
use Rattle.kc_files.specs.ConfigText.{symbol_line}
use Rattle.kc_files.specs.DefaultLoading.{default_assigns, HasNoFeeds}
use Rattle.kc_files.specs.DefaultText.{is_changed_member, default_value, default_line, default_entry, default_text_of}
use Rattle.kc_files.specs.LineReading.{has_feed}
use Rattle.kc_files.specs.WrittenAssigns.{assign_line, assigns_text, IsWritable, AreApart}
use Rattle.kc_files.proofs.AssignLists.{given, each_given, given_apart}

-- ---- the text
module _ (t : TreeValue) (u : UserValues) (prefix : List ℕ) where
  entries_are : (es : List Entry) → flat_map (default_entry t u prefix) es ≡ flat_map (default_line t u prefix) (first_symbols es)
  entries_are [] = refl
  entries_are (Symbol s ∷ es) = ap (λ r. default_line t u prefix s ++ r) (entries_are es)
  entries_are (Again s ∷ es) = entries_are es
  entries_are (Menu b ∷ es) = entries_are es
  entries_are (EndMenu b ∷ es) = entries_are es
  entries_are (Choice c ∷ es) = entries_are es
  entries_are (Comment c ∷ es) = entries_are es

  abbrev line_of : Option Assign → List ℕ
  line_of o = option_map_or (assign_line t prefix) o []

  abbrev assigned : SymId → Option UserVal → Option Assign
  assigned s o = option_map (λ v. record { symbol = s; value = v }) o

  line_is : (s : SymId) → default_line t u prefix s ≡ line_of (given (default_value t u) s)
  line_is s = of_value (default_value t u s)
    where
      of_value : (o : Option UserVal) → option_map_or (symbol_line prefix (name_of t s) (type_of t s)) o [] ≡ line_of (assigned s o)
      of_value None = refl
      of_value (Some v) = refl

  joined : (o : Option Assign) (xs : List Assign) → line_of o ++ assigns_text t prefix xs ≡ assigns_text t prefix (cons_option o xs)
  joined None xs = refl
  joined (Some x) xs = refl

  lines_are : (ss : List SymId) → flat_map (default_line t u prefix) ss ≡ assigns_text t prefix (filter_map (given (default_value t u)) ss)
  lines_are [] = refl
  lines_are (s ∷ ss) =
      ap (λ l. l ++ flat_map (default_line t u prefix) ss) (line_is s)
      ∙ ap (λ r. line_of (given (default_value t u) s) ++ r) (lines_are ss)
      ∙ joined (given (default_value t u) s) (filter_map (given (default_value t u)) ss)

  pub text_is : IsAccepted t → default_text_of t u prefix ≡ assigns_text t prefix (default_assigns t u)
  text_is accepted =
      entries_are t.entries ∙ ap (λ ss. flat_map (default_line t u prefix) ss) accepted.firsts ∙ lines_are (symbol_ids t)

-- ---- each assignment
-- y is a value of each member of a choice
takes_yes : (t : TreeValue) → IsGrouped t → (s : SymId) (c : ChoiceId) → choice_of t s ≡ Some c → fits_type (type_of t s) (TriVal Yes) ≡ true
takes_yes t grouped s c e = go (slice_get t.symbols s.0) refl
  where
    go : (o : Option SymbolValue) → slice_get t.symbols s.0 ≡ o → fits_type (type_of t s) (TriVal Yes) ≡ true
    go None f = absurd (none-some c (sym (ap (option_and_then (λ (x : SymbolValue). x.choice)) f) ∙ e))
    go (Some x) f =
        let own : x.choice ≡ Some c = sym (ap (option_and_then (λ (y : SymbolValue). y.choice)) f) ∙ e in
        let is : type_of t s ≡ kind.Bool = ap (λ (o : Option SymbolValue). option_map_or kind_of o kind.Bool) f ∙ grouped.kinds s c x own f in
        ap (λ k. fits_type k (TriVal Yes)) is

fits_own_type : (t : TreeValue) (s : SymId) (v : UserVal) → fits t s v ≡ true → fits_type (type_of t s) v ≡ true
fits_own_type t s v h = go (slice_get t.symbols s.0) h
  where
    go : (o : Option SymbolValue) → option_map_or (λ x. not (is_some x.choice) && fits_type (kind_of x) v) o false ≡ true
        → fits_type (option_map_or kind_of o kind.Bool) v ≡ true
    go None e = absurd (true≢false (sym e))
    go (Some x) e = (and_parts (not (is_some x.choice)) (fits_type (kind_of x) v) e).1

module _ (t : TreeValue) (u : UserValues) where
  writable : IsAccepted t → ChangesAreJustEnough t u → IsUserFor t u → HasNoFeeds u
      → (s : SymId) (v : UserVal) → s.0 < length t.symbols → default_value t u s ≡ Some v → IsWritable t (record { symbol = s; value = v })
  writable accepted just user unfed s v inside is = go (choice_of t s) refl is
    where
      no_feed : (x : UserVal) → option_and_then shown_in (changed_value t u (Val s)) ≡ Some x → has_feed x ≡ false
      no_feed (TriVal x) e = refl
      no_feed (Text w) e = unfed s w (just.texts s inside w e)

      chosen : (c : ChoiceId) → choice_of t s ≡ Some c → (b : Bool) → (if b then Some (TriVal Yes) else None) ≡ Some v → IsWritable t (record { symbol = s; value = v })
      chosen c e true f = subst (λ x. IsWritable t (record { symbol = s; value = x })) (same_Some (TriVal Yes) v f) (record { inside = inside; typed = takes_yes t accepted.grouped s c e; unfed = refl })
      chosen c e false f = absurd (none-some v f)

      go : (o : Option ChoiceId) → choice_of t s ≡ o
          → option_map_or (λ c. if is_changed_member t u c s then Some (TriVal Yes) else None) o (option_and_then shown_in (changed_value t u (Val s))) ≡ Some v
          → IsWritable t (record { symbol = s; value = v })
      go None e f = record { inside = inside; typed = fits_own_type t s v (just.fitting user s inside v f); unfed = no_feed v f }
      go (Some c) e f = chosen c e (is_changed_member t u c s) f

  pub all_writable : IsAccepted t → ChangesAreJustEnough t u → IsUserFor t u → HasNoFeeds u → All (IsWritable t) (default_assigns t u)
  all_writable accepted just user unfed =
      All-from_recursion (IsWritable t) (default_assigns t u)
      (each_given (default_value t u) (IsWritable t) 0 (length t.symbols) (λ s v low high e. writable accepted just user unfed s v (omega (arith, high)) e))

  pub apart : AreApart (default_assigns t u)
  apart = given_apart (default_value t u) 0 (length t.symbols)
