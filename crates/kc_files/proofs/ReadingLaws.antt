-- The reading of a line is the one that its definition says, and the only one.
use Rattle.std.proofs.Common.{◌≡◌, ◌⊎◌, inl, inr, ℕ, List, [], ◌∷◌, length, Option, Some, None, refl, sym, ap, subst, ◌∙◌}
use Rattle.std.specs.Prelude.{filter_map, map}
use Rattle.std.specs.List.{AllZip}
use Rattle.std.specs.Option.{option_map_or}
use Rattle.std.proofs.lemmas.Option.{none-some}
use Rattle.kc_statement.specs.declared.id.SymId.{SymId}
use Rattle.kc_statement.specs.declared.symbol_type.SymbolType.{SymbolType}
use Rattle.kc_outline.specs.TreeValue.{TreeValue, symbol_named}
use Rattle.kc_tree.specs.declared.user_value.UserVal.{UserVal}
use Rattle.kc_files.specs.declared.assign.Assign.{Assign}
use Rattle.kc_files.specs.declared.warning.Warning.{Warning}
use Rattle.kc_files.specs.declared.warning.WarningKind.{WarningKind}
use Rattle.kc_files.specs.declared.warning.WarningKind.TheVariants as warning
use Rattle.kc_files.specs.declared.line_form.LineForm.{LineForm}
use Rattle.kc_files.specs.declared.line_form.LineForm.TheVariants as form
use Rattle.kc_files.specs.declared.line_reading.Reading.{Reading}
use Rattle.kc_files.specs.declared.line_reading.Reading.TheVariants as reading
use Rattle.kc_tree.specs.Fits.{type_of}
use Rattle.kc_files.specs.ConfigLines.{lines_in, trimmed}
use Rattle.kc_files.specs.ConfigReading.{counting, usable, warnings_from, IsConfigReading}
use Rattle.kc_files.specs.ValueForm.{Gives, GivesNo}
use Rattle.kc_files.specs.ReadingSteps.{line_form, value_given, no_given}
use Rattle.kc_files.specs.LineReading.{bad_value, Says, IsMeant, HasReading}
use Rattle.kc_files.specs.LineSteps.{said, named_reading, form_reading, reading_of, IsInside, IsReadingFor}
use Rattle.kc_files.proofs.LineFormLaws.{IsNamed, line_form_has, line_form_only}
use Rattle.kc_files.proofs.ValueLaws.{given_gives, given_only, no_gives, no_only}

module _ (t : TreeValue) (name : List ℕ) (given : SymbolType → Option UserVal) (gives : SymbolType → UserVal → Type 0) (bad : SymbolType → WarningKind) (sound : (k : SymbolType) (v : UserVal) → given k ≡ Some v → gives k v) (only : (k : SymbolType) (v : UserVal) → gives k v → given k ≡ Some v) where
  said_has : (s : SymId) (o : Option UserVal) → symbol_named t name ≡ Some s → given (type_of t s) ≡ o → Says t name gives bad (said s o (bad (type_of t s)))
  said_has s None found e = inr (s, found, (λ v h. none-some v (sym e ∙ only (type_of t s) v h)), refl)
  said_has s (Some v) found e = (found, sound (type_of t s) v e)

  named_has : (o : Option SymId) → symbol_named t name ≡ o → Says t name gives bad (option_map_or (λ s. said s (given (type_of t s)) (bad (type_of t s))) o (reading.Warned warning.UndefinedSymbol))
  named_has None e = inl (e, refl)
  named_has (Some s) e = said_has s (given (type_of t s)) e refl

  pub says_has : Says t name gives bad (named_reading t name given bad)
  says_has = named_has (symbol_named t name) refl

  found_is : (s : SymId) → symbol_named t name ≡ Some s → named_reading t name given bad ≡ said s (given (type_of t s)) (bad (type_of t s))
  found_is s e = ap (λ o. option_map_or (λ s. said s (given (type_of t s)) (bad (type_of t s))) o (reading.Warned warning.UndefinedSymbol)) e

  no_value : (s : SymId) (o : Option UserVal) → given (type_of t s) ≡ o → ((v : UserVal) → gives (type_of t s) v → ⊥) → given (type_of t s) ≡ None
  no_value s None e none = e
  no_value s (Some v) e none = absurd (none v (sound (type_of t s) v e))

  warned_only : (w : WarningKind) → ((symbol_named t name ≡ None) × (w ≡ warning.UndefinedSymbol))
      ⊎ ((s : SymId) × (symbol_named t name ≡ Some s) × ((v : UserVal) → gives (type_of t s) v → ⊥) × (w ≡ bad (type_of t s)))
      → named_reading t name given bad ≡ reading.Warned w
  warned_only w (inl p) =
      ap (λ o. option_map_or (λ s. said s (given (type_of t s)) (bad (type_of t s))) o (reading.Warned warning.UndefinedSymbol)) p.0
      ∙ ap reading.Warned (sym p.1)
  warned_only w (inr p) =
      found_is p.0 p.1
      ∙ ap (λ o. said p.0 o (bad (type_of t p.0))) (no_value p.0 (given (type_of t p.0)) refl p.2)
      ∙ ap reading.Warned (sym p.3)

  pub says_only : (r : Reading) → Says t name gives bad r → named_reading t name given bad ≡ r
  says_only (reading.Usable a) h =
      found_is a.symbol h.0 ∙ ap (λ o. said a.symbol o (bad (type_of t a.symbol))) (only (type_of t a.symbol) a.value h.1)
  says_only (reading.Warned w) h = warned_only w h
  says_only reading.Nothing h = absurd h

meant_has : (t : TreeValue) (f : LineForm) → IsMeant t f (form_reading t f)
meant_has t (form.Assigned name value) = says_has t name (value_given value) (Gives value) bad_value (given_gives value) (given_only value)
meant_has t (form.Unset name) = says_has t name no_given GivesNo (λ k. warning.BadValue) no_gives no_only
meant_has t form.Nothing = refl
meant_has t form.Malformed = refl

meant_only : (t : TreeValue) (f : LineForm) (r : Reading) → IsMeant t f r → form_reading t f ≡ r
meant_only t (form.Assigned name value) r h = says_only t name (value_given value) (Gives value) bad_value (given_gives value) (given_only value) r h
meant_only t (form.Unset name) r h = says_only t name no_given GivesNo (λ k. warning.BadValue) no_gives no_only r h
meant_only t form.Nothing r h = sym h
meant_only t form.Malformed r h = sym h

pub reading_has : (t : TreeValue) (prefix line : List ℕ) → HasReading t prefix line (reading_of t prefix line)
reading_has t prefix line = (line_form prefix (trimmed line), line_form_has prefix (trimmed line), meant_has t (line_form prefix (trimmed line)))

pub reading_only : (t : TreeValue) (prefix line : List ℕ) (r : Reading) → IsNamed prefix → HasReading t prefix line r → reading_of t prefix line ≡ r
reading_only t prefix line r named h =
    ap (form_reading t) (line_form_only prefix (trimmed line) h.0 named h.1) ∙ meant_only t h.0 r h.2

-- two readings of one line are equal
pub one_reading : (t : TreeValue) (prefix line : List ℕ) (r s : Reading) → IsNamed prefix → HasReading t prefix line r → HasReading t prefix line s → r ≡ s
one_reading t prefix line r s named h k = sym (reading_only t prefix line r named h) ∙ reading_only t prefix line s named k

-- ---- all lines
pub readings_have : (t : TreeValue) (prefix : List ℕ) (lines : List (List ℕ)) → AllZip (HasReading t prefix) lines (map (reading_of t prefix) lines)
readings_have t prefix [] = tt
readings_have t prefix (l ∷ ls) = (reading_has t prefix l, readings_have t prefix ls)

pub readings_only : (t : TreeValue) (prefix : List ℕ) (lines : List (List ℕ)) (rs : List Reading) → IsNamed prefix → AllZip (HasReading t prefix) lines rs → map (reading_of t prefix) lines ≡ rs
readings_only t prefix [] [] named h = refl
readings_only t prefix [] (r ∷ rs) named h = absurd h
readings_only t prefix (l ∷ ls) [] named h = absurd h
readings_only t prefix (l ∷ ls) (r ∷ rs) named h = λ i. reading_only t prefix l r named h.0 i ∷ readings_only t prefix ls rs named h.1 i

-- ---- usable lines
says_fits : (t : TreeValue) (f : LineForm) (r : Reading) → IsMeant t f r → IsInside (length t.symbols) r → IsReadingFor t r
says_fits t (form.Assigned name value) (reading.Usable a) h inside = (inside, h.1.0)
says_fits t (form.Assigned name value) (reading.Warned w) h inside = tt
says_fits t (form.Assigned name value) reading.Nothing h inside = tt
says_fits t (form.Unset name) (reading.Usable a) h inside = (inside, h.1.0)
says_fits t (form.Unset name) (reading.Warned w) h inside = tt
says_fits t (form.Unset name) reading.Nothing h inside = tt
says_fits t form.Nothing r h inside = subst (IsReadingFor t) (sym h) tt
says_fits t form.Malformed r h inside = subst (IsReadingFor t) (sym h) tt

pub reading_fits : (t : TreeValue) (prefix line : List ℕ) (r : Reading) → r ≡ reading_of t prefix line → IsInside (length t.symbols) r → IsReadingFor t r
reading_fits t prefix line r is inside =
    let h = reading_has t prefix line in
    says_fits t h.0 r (subst (IsMeant t h.0) (sym is) h.2) inside

-- two readings of one text are equal
pub one_config_reading : (t : TreeValue) (prefix text : List ℕ) (xs bs : List Assign) (ws vs : List Warning) → IsNamed prefix
    → IsConfigReading t prefix text xs ws → IsConfigReading t prefix text bs vs → (bs ≡ xs) × (vs ≡ ws)
one_config_reading t prefix text xs bs ws vs named h k =
    let same = sym (readings_only t prefix (lines_in text) k.readings named k.read) ∙ readings_only t prefix (lines_in text) h.readings named h.read in
    (k.counted ∙ ap (λ rs. counting (filter_map usable rs)) same ∙ sym h.counted, k.warned ∙ ap (warnings_from [] 1) same ∙ sym h.warned)
