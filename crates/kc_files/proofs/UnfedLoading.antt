-- User values without line feeds stay so by assignments without.
use Rattle.std.proofs.Common.{◌≡◌, ℕ, ◌<◌, ◌≤◌, ◌==◌, Bool, true, false, List, [], ◌∷◌, length, Option, Some, None, if◌then◌else◌, refl, sym, ap, ◌∙◌, ⊎_elim, arith}
use Rattle.std.specs.Prelude.{is_some, map, All}
use Rattle.std.specs.List.{list_any, range_with_len}
use Rattle.std.specs.Option.{option_or}
use Rattle.std.proofs.lemmas.Bool.{cases_lt}
use Rattle.std.proofs.lemmas.List.{get_or_past}
use Rattle.std.proofs.lemmas.List.Elements.{All-head, All-tail}
use Rattle.std.proofs.lemmas.List.FromFn.{get_or-map-range_with_len, length-map-range_with_len}
use Rattle.std.proofs.lemmas.Option.{none-some, same_Some}
use Rattle.kc_statement.specs.declared.id.SymId.{SymId}
use Rattle.kc_outline.specs.TreeValue.{TreeValue, choice_of}
use Rattle.kc_tree.specs.declared.user_value.UserVal.{UserVal}
use Rattle.kc_tree.specs.declared.user_value.UserVal.TheVariants.{Text}
use Rattle.kc_value.specs.UserValues.{UserValues, user_value}
use Rattle.kc_files.specs.declared.assign.Assign.{Assign}
use Rattle.kc_files.specs.declared.loading.Load.{Load}
use Rattle.kc_files.specs.declared.loading.Load.TheVariants.{Replace, Merge}
use Rattle.kc_files.specs.ConfigLines.{is_feed}
use Rattle.kc_files.specs.DefaultLoading.{HasNoFeeds}
use Rattle.kc_files.specs.LineReading.{has_feed, IsUnfed}
use Rattle.kc_files.specs.Loading.{last_of, value_for, kept, value_after, user_after}

-- what may be a value has no line feed
abbrev IsPlain : Option UserVal → Type 0
IsPlain o = (v : UserVal) → o ≡ Some v → has_feed v ≡ false

plain_or : (o p : Option UserVal) → IsPlain o → IsPlain p → IsPlain (option_or o p)
plain_or None p h k = k
plain_or (Some x) p h k = h

plain_last : (s : SymId) (assigns : List Assign) → All IsUnfed assigns → IsPlain (last_of (value_for s) assigns)
plain_last s [] h = λ v e. absurd (none-some v e)
plain_last s (a ∷ later) h = plain_or (last_of (value_for s) later) (value_for s a) (plain_last s later (All-tail IsUnfed a later h)) (go (a.symbol.0 == s.0))
  where
    go : (b : Bool) → IsPlain (if b then Some a.value else None)
    go true = λ v e. sym (ap has_feed (same_Some a.value v e)) ∙ All-head IsUnfed a later h
    go false = λ v e. absurd (none-some v e)

plain_kept : (load : Load) (o : Option UserVal) → IsPlain o → IsPlain (kept load o)
plain_kept Replace o h = λ v e. absurd (none-some v e)
plain_kept Merge o h = h

module _ (t : TreeValue) (u : UserValues) (load : Load) (assigns : List Assign) (user : HasNoFeeds u) (unfed : All IsUnfed assigns) where
  plain_user : (s : SymId) → IsPlain (user_value u s)
  plain_user s (Text w) e = user s w e
  plain_user s _ e = refl

  plain_after : (s : SymId) → IsPlain (value_after t u load assigns s)
  plain_after s = go (is_some (choice_of t s))
    where
      was : IsPlain (kept load (user_value u s))
      was = plain_kept load (user_value u s) (plain_user s)

      go : (b : Bool) → IsPlain (if b then kept load (user_value u s) else option_or (last_of (value_for s) assigns) (kept load (user_value u s)))
      go true = was
      go false = plain_or (last_of (value_for s) assigns) (kept load (user_value u s)) (plain_last s assigns unfed) was

  pub after_unfed : HasNoFeeds (user_after t u load assigns)
  after_unfed s w e = ⊎_elim inside outside (cases_lt s.0 (length t.symbols))
    where
      value : ℕ → Option UserVal
      value k = value_after t u load assigns (record { 0 = k })

      inside : s.0 < length t.symbols → list_any is_feed w ≡ false
      inside l = plain_after s (Text w) (sym (get_or-map-range_with_len value 0 (length t.symbols) s.0 s.0 None l (omega arith)) ∙ e)

      outside : length t.symbols ≤ s.0 → list_any is_feed w ≡ false
      outside l = absurd (none-some (Text w) (sym (get_or_past (map value (range_with_len 0 (length t.symbols))) s.0 None (omega (arith, length-map-range_with_len value 0 (length t.symbols), l))) ∙ e))
