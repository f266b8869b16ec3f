-- No value that is read of a text has a line feed.
use Rattle.std.proofs.Common.{◌≡◌, ◌⊎◌, inl, inr, ℕ, Bool, true, false, List, [], ◌∷◌, ◌++◌, take, drop, if◌then◌else◌, refl, sym, ap, ◌∙◌}
use Rattle.std.specs.Prelude.{codes, filter_map, All}
use Rattle.std.specs.List.{list_any, AllByRecursion, AllZip, onto_first}
use Rattle.std.proofs.lemmas.Bool.{or_parts, or_from}
use Rattle.std.proofs.lemmas.List.{take-append-drop}
use Rattle.std.proofs.lemmas.List.Elements.{All-nil, All-cons, All-same}
use Rattle.std.proofs.lemmas.List.Folds.{list_any-append}
use Rattle.std.proofs.lemmas.Option.{none-some}
use Rattle.kc_statement.specs.declared.symbol_type.SymbolType.{SymbolType}
use Rattle.kc_statement.specs.declared.symbol_type.SymbolType.TheVariants as kind
use Rattle.kc_outline.specs.TreeValue.{TreeValue}
use Rattle.kc_tree.specs.declared.user_value.UserVal.{UserVal}
use Rattle.kc_tree.specs.declared.user_value.UserVal.TheVariants.{Tri as TriVal, Text}
use Rattle.kc_files.specs.declared.assign.Assign.{Assign}
use Rattle.kc_files.specs.declared.warning.Warning.{Warning}
use Rattle.kc_files.specs.declared.line_form.LineForm.{LineForm}
use Rattle.kc_files.specs.declared.line_form.LineForm.TheVariants as form
use Rattle.kc_files.specs.declared.line_reading.Reading.{Reading}
use Rattle.kc_files.specs.declared.line_reading.Reading.TheVariants.{Usable, Warned, Nothing}
use Rattle.kc_files.specs.ConfigLines.{is_feed, lines_in, trimmed}
use Rattle.kc_files.specs.ConfigReading.{usable, counting, IsConfigReading}
use Rattle.kc_tree.specs.Fits.{type_of}
use Rattle.kc_files.specs.LineForm.{HasForm}
use Rattle.kc_files.specs.LineReading.{has_feed, IsUnfed, IsMeant, HasReading}
use Rattle.kc_files.specs.Quoting.{is_special}
use Rattle.kc_files.specs.Unquoting.{Spells}
use Rattle.kc_files.specs.ValueForm.{IsSpelt}
use Rattle.kc_files.proofs.CountingLaws.{All-counting}

abbrev IsPlain : List ℕ → Type 0
IsPlain bs = list_any is_feed bs ≡ false

-- ---- parts of a text without a line feed
plain_parts : (xs ys : List ℕ) → IsPlain (xs ++ ys) → IsPlain xs × IsPlain ys
plain_parts xs ys h = or_parts (list_any is_feed xs) (list_any is_feed ys) (sym (list_any-append is_feed xs ys) ∙ h)

plain_onto : (b : ℕ) (ls : List (List ℕ)) → is_feed b ≡ false → AllByRecursion IsPlain ls → AllByRecursion IsPlain (onto_first b ls)
plain_onto b [] e h = (or_from (is_feed b) false e refl, tt)
plain_onto b (l ∷ ls) e h = (or_from (is_feed b) (list_any is_feed l) e h.0, h.1)

plain_lines : (text : List ℕ) → AllByRecursion IsPlain (lines_in text)
plain_lines [] = tt
plain_lines (b ∷ bs) = go (is_feed b) refl (plain_lines bs)
  where
    go : (x : Bool) → is_feed b ≡ x → AllByRecursion IsPlain (lines_in bs) → AllByRecursion IsPlain (if x then [] ∷ lines_in bs else onto_first b (lines_in bs))
    go true e h = (refl, h)
    go false e h = plain_onto b (lines_in bs) e h

plain_front : (n : ℕ) (bs : List ℕ) → IsPlain bs → IsPlain (take n bs)
plain_front n bs h = (plain_parts (take n bs) (drop n bs) (ap (list_any is_feed) (take-append-drop n bs) ∙ h)).0

-- ---- what a text spells
plain_text : (raw text : List ℕ) → Spells raw text → IsPlain raw → IsPlain text
plain_text raw [] s h = refl
plain_text raw (b ∷ text) s h = go (plain_text s.0 text s.1) s.2
  where
    longer : (IsPlain s.0 → IsPlain text) → IsPlain (b ∷ s.0) → IsPlain (b ∷ text)
    longer rest k = let p = or_parts (is_feed b) (list_any is_feed s.0) k in or_from (is_feed b) (list_any is_feed text) p.0 (rest p.1)

    go : (IsPlain s.0 → IsPlain text) → ((is_special b ≡ false) × (raw ≡ b ∷ s.0)) ⊎ (raw ≡ 92 ∷ b ∷ s.0) → IsPlain (b ∷ text)
    go rest (inl p) = longer rest (sym (ap (list_any is_feed) p.1) ∙ h)
    go rest (inr e) = longer rest (sym (ap (list_any is_feed) e) ∙ h)

spelt_unfed : (k : SymbolType) (v : UserVal) (value : List ℕ) → IsSpelt k v value → IsPlain value → has_feed v ≡ false
spelt_unfed k (TriVal x) value s h = refl
spelt_unfed kind.String (Text w) value s h = plain_text s.0 w s.2 (plain_parts s.0 (codes "\"" ++ s.1) (sym (ap (list_any is_feed) s.3) ∙ h)).0
spelt_unfed kind.Bool (Text w) value s h = sym (ap (list_any is_feed) s) ∙ h
spelt_unfed kind.Tristate (Text w) value s h = sym (ap (list_any is_feed) s) ∙ h
spelt_unfed kind.Int (Text w) value s h = sym (ap (list_any is_feed) s) ∙ h
spelt_unfed kind.Hex (Text w) value s h = sym (ap (list_any is_feed) s) ∙ h

-- ---- a line, and all lines
module _ (t : TreeValue) (prefix : List ℕ) where
  usable_unfed : (line : List ℕ) (f : LineForm) (a : Assign) → HasForm prefix line f → IsMeant t f (Usable a) → IsPlain line → IsUnfed a
  usable_unfed line (form.Assigned name value) a h m plain =
      let named = plain_parts prefix (name ++ (codes "=" ++ value)) (sym (ap (list_any is_feed) h.1.1) ∙ plain) in
      spelt_unfed (type_of t a.symbol) a.value value m.1.1 (plain_parts name (codes "=" ++ value) named.1).1
  usable_unfed line (form.Unset name) a h m plain = ap has_feed m.1.1
  usable_unfed line form.Nothing a h m plain = absurd (none-some a (sym (ap usable m)))
  usable_unfed line form.Malformed a h m plain = absurd (none-some a (sym (ap usable m)))

  readings_unfed : (lines : List (List ℕ)) (rs : List Reading) → AllByRecursion IsPlain lines → AllZip (HasReading t prefix) lines rs → All IsUnfed (filter_map usable rs)
  readings_unfed [] [] h r = All-nil IsUnfed
  readings_unfed [] (r ∷ rs) h k = absurd k
  readings_unfed (l ∷ ls) [] h k = absurd k
  readings_unfed (l ∷ ls) (Usable a ∷ rs) h k =
      All-cons IsUnfed a (filter_map usable rs) (usable_unfed (trimmed l) k.0.0 a k.0.1 k.0.2 (plain_front _ l h.0)) (readings_unfed ls rs h.1 k.1)
  readings_unfed (l ∷ ls) (Warned w ∷ rs) h k = readings_unfed ls rs h.1 k.1
  readings_unfed (l ∷ ls) (Nothing ∷ rs) h k = readings_unfed ls rs h.1 k.1

  pub text_unfed : (text : List ℕ) (rs : List Reading) → AllZip (HasReading t prefix) (lines_in text) rs → All IsUnfed (filter_map usable rs)
  text_unfed text rs read = readings_unfed (lines_in text) rs (plain_lines text) read

  pub config_unfed : (text : List ℕ) (assigns : List Assign) (warnings : List Warning) → IsConfigReading t prefix text assigns warnings → All IsUnfed assigns
  config_unfed text assigns warnings h =
      All-same IsUnfed assigns (counting (filter_map usable h.readings)) h.counted
      (All-counting IsUnfed (filter_map usable h.readings) (text_unfed text h.readings h.read))
