-- What names stand for, by the list of a map's variables.
use Rattle.std.proofs.Common.{◌≡◌, ℕ, true, false, cond, List, [], ◌∷◌, map, Option, Some, None, MatchOption, String, string_bytes, bytes_eq, refl, ap, sym, ◌∙◌}
use Rattle.std.specs.BTreeMap.{BTreeMap, get_by_text}
use Rattle.std.specs.Cmp.Lexicographic.{slice_cmp}
use Rattle.std.specs.Map.{lookup, update}
use Rattle.std.specs.Option.{option_copied}
use Rattle.std.specs.Ordering.{nat_cmp, is_eq}
use Rattle.std.specs.declared.alloc.Global.{Global}
use Rattle.std.proofs.lemmas.Map.Text.{is_eq-slice_cmp}
use denote.Ref.{Bor}
use Rattle.kc_text.specs.declared.variables.Value.{Value}
use Rattle.kc_text.specs.Definitions.{with}
use Rattle.kc_text.specs.Expansion.{names_in}
use Rattle.kc_text.specs.VariableList.{variable_of, variable_list}

abbrev Variables : Type 0
Variables = BTreeMap (String Global) Value

names_in-entries : (name : List ℕ) (es : List (String Global × Value)) → names_in (map variable_of es) name ≡ lookup (λ k. is_eq (slice_cmp nat_cmp name (string_bytes k))) es
names_in-entries name [] = refl
names_in-entries name (e ∷ es) =
    rw (sym (is_eq-slice_cmp name (string_bytes e.0))) (ap (cond (is_eq (slice_cmp nat_cmp name (string_bytes e.0))) (Some e.1)) (names_in-entries name es))

-- a look-up in the list is one in the map
pub names_in-variable_list : (name : List ℕ) (m : Variables) → names_in (variable_list m) name ≡ get_by_text m name
names_in-variable_list name m = names_in-entries name m.entries

-- a value that is lent is the one that is there
pub found-lent : {X : Type 0} (lent : Option (Bor X)) (found : Option X) → found ≡ option_copied lent → MatchOption lent (found ≡ None) (λ x. found ≡ Some x.now)
found-lent None found e = e
found-lent (Some x) found e = e

-- a name's value hides what the name stood for
pub with-updated : (name : List ℕ) (value : Value) (w : Option Value) (m n : Variables) → ((q : List ℕ) → get_by_text n q ≡ update bytes_eq (get_by_text m) name w q) → with name value (names_in (variable_list n)) ≡ with name value (names_in (variable_list m))
with-updated name value w m n h = λ i q. hidden q i where
  hidden : (q : List ℕ) → with name value (names_in (variable_list n)) q ≡ with name value (names_in (variable_list m)) q
  hidden q = elim (bytes_eq name q) as (λ b. get_by_text n q ≡ cond b w (get_by_text m q) → cond b (Some value) (names_in (variable_list n) q) ≡ cond b (Some value) (names_in (variable_list m) q)) [
    | true ↦ λ e. refl
    | false ↦ λ e. names_in-variable_list q n ∙ e ∙ sym (names_in-variable_list q m)
  ] (h q)

-- a value that a map was given is what its name stands for
pub names_in-updated : (name : List ℕ) (value : Value) (m n : Variables) → ((q : List ℕ) → get_by_text n q ≡ update bytes_eq (get_by_text m) name (Some value) q) → names_in (variable_list n) ≡ with name value (names_in (variable_list m))
names_in-updated name value m n h = λ i q. given q i where
  given : (q : List ℕ) → names_in (variable_list n) q ≡ with name value (names_in (variable_list m)) q
  given q = names_in-variable_list q n ∙ h q ∙ ap (cond (bytes_eq name q) (Some value)) (sym (names_in-variable_list q m))
