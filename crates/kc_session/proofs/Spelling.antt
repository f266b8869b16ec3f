-- What a text spells for a symbol, the symbol takes.
use Rattle.std.proofs.Common.{◌≡◌, ◌<◌, Bool, true, false, true≢false, not, ◌&&◌, if◌then◌else◌, ℕ, List, length, Option, Some, None, is_some, option_map, slice_get, refl, sym, ap, ◌∙◌, ⊎_elim, arith}
use Rattle.std.specs.Option.{option_map_or}
use Rattle.std.specs.Str.{bytes_eq}
use Rattle.std.specs.Prelude.{codes, option_and_then}
use Rattle.std.proofs.lemmas.Option.{slice_get_cases}
use Rattle.kc_statement.specs.declared.id.SymId.{SymId}
use Rattle.kc_outline.specs.declared.id.ChoiceId.{ChoiceId}
use Rattle.kc_statement.specs.declared.symbol_type.SymbolType.{SymbolType}
use Rattle.kc_statement.specs.declared.symbol_type.SymbolType.TheVariants as kind
use Rattle.kc_statement.specs.declared.tri.Tri.TheVariants.{No, Module, Yes}
use Rattle.kc_statement.specs.Numerals.{numeral_in}
use Rattle.kc_tree.specs.declared.user_value.UserVal.{UserVal}
use Rattle.kc_tree.specs.declared.user_value.UserVal.TheVariants.{Tri as TriVal, Text}
use Rattle.kc_tree.specs.Fits.{fits, fits_type, type_of}
use Rattle.kc_outline.specs.TreeValue.{TreeValue, SymbolValue, kind_of, choice_of}
use Rattle.kc_session.specs.Values.{value_of}

-- a value that is spelt, if there is one, is of the type
abbrev IsOfType : SymbolType → Option UserVal → Type 0
IsOfType k o = option_map_or (fits_type k) o true ≡ true

bool_fits : (n y : Bool) → IsOfType kind.Bool (option_map TriVal (if n then Some No else (if y then Some Yes else None)))
bool_fits true y = refl
bool_fits false true = refl
bool_fits false false = refl

tristate_fits : (m n y : Bool) → IsOfType kind.Tristate (option_map TriVal (if m then Some Module else (if n then Some No else (if y then Some Yes else None))))
tristate_fits true n y = refl
tristate_fits false true y = refl
tristate_fits false false true = refl
tristate_fits false false false = refl

int_fits : (text : List ℕ) (b : Bool) → is_some (numeral_in kind.Int text) ≡ b → IsOfType kind.Int (if b then Some (Text text) else None)
int_fits text true e = e
int_fits text false e = refl

hex_fits : (text : List ℕ) (b : Bool) → is_some (numeral_in kind.Hex text) ≡ b → IsOfType kind.Hex (if b then Some (Text text) else None)
hex_fits text true e = e
hex_fits text false e = refl

of_type : (k : SymbolType) (text : List ℕ) → IsOfType k (value_of k text)
of_type kind.Bool text = bool_fits (bytes_eq text (codes "n")) (bytes_eq text (codes "y"))
of_type kind.Tristate text = tristate_fits (bytes_eq text (codes "m")) (bytes_eq text (codes "n")) (bytes_eq text (codes "y"))
of_type kind.String text = refl
of_type kind.Int text = int_fits text (is_some (numeral_in kind.Int text)) refl
of_type kind.Hex text = hex_fits text (is_some (numeral_in kind.Hex text)) refl

-- the symbol takes what is spelt for its type, where it is no member of a choice
pub spelled_fits : (t : TreeValue) (s : SymId) (text : List ℕ) (v : UserVal) → choice_of t s ≡ None → s.0 < length t.symbols
    → value_of (type_of t s) text ≡ Some v → fits t s v ≡ true
spelled_fits t s text v alone within is =
    ⊎_elim (λ at. found at.0 at.2) (λ past. absurd (omega (arith, within, past.0))) (slice_get_cases t.symbols s.0).1
  where
    typed : option_map_or (fits_type (type_of t s)) (Some v) true ≡ true
    typed = ap (λ o. option_map_or (fits_type (type_of t s)) o true) (sym is) ∙ of_type (type_of t s) text

    both : (x : SymbolValue) → slice_get t.symbols s.0 ≡ Some x → (o : Option ChoiceId) → x.choice ≡ o → (not (is_some x.choice) && fits_type (kind_of x) v) ≡ true
    both x e None f =
        ap (λ (o : Option ChoiceId). not (is_some o) && fits_type (kind_of x) v) f
        ∙ ap (λ (o : Option SymbolValue). fits_type (option_map_or kind_of o kind.Bool) v) (sym e)
        ∙ typed
    both x e (Some c) f =
        absurd (true≢false (ap is_some (sym f ∙ ap (λ (o : Option SymbolValue). option_and_then (λ z. z.choice) o) (sym e) ∙ alone)))

    found : (x : SymbolValue) → slice_get t.symbols s.0 ≡ Some x → fits t s v ≡ true
    found x e = ap (λ (o : Option SymbolValue). option_map_or (λ z. not (is_some z.choice) && fits_type (kind_of z) v) o false) e ∙ both x e x.choice refl
