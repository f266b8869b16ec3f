-- The line that is written for a value that fits gives the value back.
use Rattle.std.proofs.Common.{◌≡◌, ℕ, ◌+◌, ◌-◌, Bool, true, false, List, [], ◌∷◌, ◌++◌, length, reverse, Some, if◌then◌else◌, inl, inr, refl, sym, ap, subst, ◌∙◌, append_assoc, arith}
use Rattle.std.specs.Prelude.{codes}
use Rattle.std.specs.List.{prefix_len, suffix_len}
use Rattle.std.specs.Str.{IsUtf8}
use Rattle.std.proofs.lemmas.List.{reverse-append, take_all}
use Rattle.kc_statement.specs.declared.id.SymId.{SymId}
use Rattle.kc_statement.specs.declared.tri.Tri.{Tri}
use Rattle.kc_statement.specs.declared.tri.Tri.TheVariants.{No, Module, Yes}
use Rattle.kc_statement.specs.declared.symbol_type.SymbolType.{SymbolType}
use Rattle.kc_statement.specs.declared.symbol_type.SymbolType.TheVariants as kind
use Rattle.kc_outline.specs.TreeValue.{TreeValue, symbol_named}
use Rattle.kc_tree.specs.declared.user_value.UserVal.{UserVal}
use Rattle.kc_tree.specs.declared.user_value.UserVal.TheVariants.{Tri as TriVal, Text}
use Rattle.kc_tree.specs.Fits.{fits_type, type_of}
use Rattle.kc_files.specs.declared.line_form.LineForm.{LineForm}
use Rattle.kc_files.specs.declared.line_form.LineForm.TheVariants.{Assigned, Unset}
use Rattle.kc_files.specs.declared.line_reading.Reading.TheVariants.{Usable}
use Rattle.kc_files.specs.ConfigText.{tri_line, text_in, text_line, symbol_line}
use Rattle.kc_files.specs.ConfigLines.{is_trailing, trimmed}
use Rattle.kc_files.specs.Quoting.{is_special, escaped, quoted}
use Rattle.kc_files.specs.Unquoting.{Spells}
use Rattle.kc_files.specs.LineForm.{is_word, HasForm}
use Rattle.kc_files.specs.ValueForm.{IsSpelt}
use Rattle.kc_files.specs.LineReading.{IsMeant, HasReading}
use Rattle.kc_files.specs.ReadingSteps.{line_form, unquoted, value_given}
use Rattle.kc_files.proofs.LineFormLaws.{IsNamed, line_form_only}
use Rattle.kc_files.proofs.ValueLaws.{unquoted_only, given_only}

-- ---- a line without its line end
abbrev pub tri_body : List ℕ → List ℕ → Tri → List ℕ
tri_body prefix name No = codes "# " ++ (prefix ++ (name ++ codes " is not set"))
tri_body prefix name Module = prefix ++ (name ++ codes "=m")
tri_body prefix name Yes = prefix ++ (name ++ codes "=y")

abbrev pub text_body : List ℕ → List ℕ → SymbolType → List ℕ → List ℕ
text_body prefix name k w = prefix ++ (name ++ (codes "=" ++ text_in k w))

abbrev pub symbol_body : List ℕ → List ℕ → SymbolType → UserVal → List ℕ
symbol_body prefix name k (TriVal v) = tri_body prefix name v
symbol_body prefix name k (Text w) = text_body prefix name k w

ended : (p n x l : List ℕ) → p ++ (n ++ (x ++ l)) ≡ (p ++ (n ++ x)) ++ l
ended p n x l = sym (append_assoc p (n ++ x) l ∙ ap (λ r. p ++ r) (append_assoc n x l))

tri_line_is : (prefix name : List ℕ) (v : Tri) → tri_line prefix name v ≡ tri_body prefix name v ++ 10 ∷ []
tri_line_is prefix name No =
    ap (λ r. codes "# " ++ r) (append_assoc prefix name (codes " is not set\n") ∙ ended prefix name (codes " is not set") (10 ∷ []))
tri_line_is prefix name Module = append_assoc prefix name (codes "=m\n") ∙ ended prefix name (codes "=m") (10 ∷ [])
tri_line_is prefix name Yes = append_assoc prefix name (codes "=y\n") ∙ ended prefix name (codes "=y") (10 ∷ [])

text_line_is : (prefix name : List ℕ) (k : SymbolType) (w : List ℕ) → text_line prefix name k w ≡ text_body prefix name k w ++ 10 ∷ []
text_line_is prefix name k w =
    ap (λ r. r ++ 10 ∷ []) (append_assoc (prefix ++ name) (61 ∷ []) (text_in k w) ∙ append_assoc prefix name (61 ∷ text_in k w))

pub symbol_line_is : (prefix name : List ℕ) (k : SymbolType) (v : UserVal) → symbol_line prefix name k v ≡ symbol_body prefix name k v ++ 10 ∷ []
symbol_line_is prefix name k (TriVal v) = tri_line_is prefix name v
symbol_line_is prefix name k (Text w) = text_line_is prefix name k w

-- ---- its form
abbrev pub tri_said : List ℕ → Tri → LineForm
tri_said name No = Unset name
tri_said name Module = Assigned name (codes "m")
tri_said name Yes = Assigned name (codes "y")

tri_has : (prefix name : List ℕ) → is_word name ≡ true → (v : Tri) → IsUtf8 (tri_body prefix name v) → HasForm prefix (tri_body prefix name v) (tri_said name v)
tri_has prefix name word No u = (u, (word, refl))
tri_has prefix name word Module u = (u, (word, refl))
tri_has prefix name word Yes u = (u, (word, refl))

module _ (prefix : List ℕ) (named : IsNamed prefix) (name : List ℕ) (word : is_word name ≡ true) where
  pub tri_line_read : (v : Tri) → IsUtf8 (tri_body prefix name v) → line_form prefix (tri_body prefix name v) ≡ tri_said name v
  tri_line_read v u = line_form_only prefix (tri_body prefix name v) (tri_said name v) named (tri_has prefix name word v u)

  pub text_line_read : (k : SymbolType) (w : List ℕ) → IsUtf8 (text_body prefix name k w) → line_form prefix (text_body prefix name k w) ≡ Assigned name (text_in k w)
  text_line_read k w u = line_form_only prefix (text_body prefix name k w) (Assigned name (text_in k w)) named (u, (word, refl))

-- ---- its value
pub spells_escaped : (w : List ℕ) → Spells (escaped w) w
spells_escaped [] = refl
spells_escaped (b ∷ bs) = go (is_special b) refl (spells_escaped bs)
  where
    go : (x : Bool) → is_special b ≡ x → Spells (escaped bs) bs → Spells (escaped (b ∷ bs)) (b ∷ bs)
    go true e more = (escaped bs, more, inr (ap (λ x. (if x then 92 ∷ b ∷ [] else b ∷ []) ++ escaped bs) e))
    go false e more = (escaped bs, more, inl (e, ap (λ x. (if x then 92 ∷ b ∷ [] else b ∷ []) ++ escaped bs) e))

pub quoted_read : (w tail : List ℕ) → unquoted (quoted w ++ tail) ≡ Some w
quoted_read w tail =
    unquoted_only (quoted w ++ tail) w (escaped w, tail, spells_escaped w, ap (λ r. 34 ∷ r) (append_assoc (escaped w) (34 ∷ []) tail))

text_spelt : (k : SymbolType) (w : List ℕ) → IsSpelt k (Text w) (text_in k w)
text_spelt kind.Bool w = refl
text_spelt kind.Tristate w = refl
text_spelt kind.String w = (escaped w, [], spells_escaped w, refl)
text_spelt kind.Int w = refl
text_spelt kind.Hex w = refl

pub text_given : (k : SymbolType) (w : List ℕ) → fits_type k (Text w) ≡ true → value_given (text_in k w) k ≡ Some (Text w)
text_given k w e = given_only (text_in k w) k (Text w) (e, text_spelt k w)

-- ---- its reading
-- a line that ends in another byte has no blanks at its end
pub trimmed_same : (bs : List ℕ) (b : ℕ) → is_trailing b ≡ false → trimmed (bs ++ b ∷ []) ≡ bs ++ b ∷ []
trimmed_same bs b e =
    let line : List ℕ = bs ++ b ∷ [] in
    let none : suffix_len is_trailing line ≡ 0 = ap (prefix_len is_trailing) (reverse-append bs (b ∷ [])) ∙ ap (λ x. if x then 1 + prefix_len is_trailing (reverse bs) else 0) e in
    take_all (length line - suffix_len is_trailing line) line (omega (arith, none))

meant : (t : TreeValue) (name : List ℕ) (s : SymId) (v : UserVal) → symbol_named t name ≡ Some s → fits_type (type_of t s) v ≡ true
    → (prefix : List ℕ) → is_word name ≡ true → IsUtf8 (symbol_body prefix name (type_of t s) v)
    → (g : LineForm) × HasForm prefix (symbol_body prefix name (type_of t s) v) g × IsMeant t g (Usable (record { symbol = s; value = v }))
meant t name s (TriVal No) found fits prefix word u = (Unset name, (u, (word, refl)), (found, (fits, refl)))
meant t name s (TriVal Module) found fits prefix word u = (Assigned name (codes "m"), (u, (word, refl)), (found, (fits, refl)))
meant t name s (TriVal Yes) found fits prefix word u = (Assigned name (codes "y"), (u, (word, refl)), (found, (fits, refl)))
meant t name s (Text w) found fits prefix word u =
    (Assigned name (text_in (type_of t s) w), (u, (word, refl)), (found, (fits, text_spelt (type_of t s) w)))

-- the line of a symbol's value is usable and gives that value
pub written_read : (t : TreeValue) (prefix name : List ℕ) (s : SymId) (v : UserVal) → is_word name ≡ true → symbol_named t name ≡ Some s → fits_type (type_of t s) v ≡ true
    → IsUtf8 (symbol_body prefix name (type_of t s) v) → trimmed (symbol_body prefix name (type_of t s) v) ≡ symbol_body prefix name (type_of t s) v
    → HasReading t prefix (symbol_body prefix name (type_of t s) v) (Usable (record { symbol = s; value = v }))
written_read t prefix name s v word found fits u whole =
    let line = symbol_body prefix name (type_of t s) v in
    let m = meant t name s v found fits prefix word u in
    (m.0, subst (λ l. HasForm prefix l m.0) (sym whole) m.1, m.2)
