-- The line of an assignment: it has no line feed inside, does not end in a blank, and gives the assignment back.
use Rattle.std.proofs.Common.{◌≡◌, ℕ, ◌<◌, true, false, List, [], ◌∷◌, ◌++◌, length, Some, refl, sym, subst}
use Rattle.std.specs.Prelude.{codes}
use Rattle.std.specs.List.{list_any}
use Rattle.std.specs.Str.{IsUtf8}
use Rattle.std.proofs.lemmas.Bool.{true≢false}
use Rattle.kc_statement.specs.declared.tri.Tri.TheVariants.{No, Module, Yes}
use Rattle.kc_statement.specs.declared.symbol_type.SymbolType.{SymbolType}
use Rattle.kc_statement.specs.declared.symbol_type.SymbolType.TheVariants as kind
use Rattle.kc_outline.specs.TreeValue.{TreeValue, symbol_named, name_of}
use Rattle.kc_tree.specs.declared.user_value.UserVal.{UserVal}
use Rattle.kc_tree.specs.declared.user_value.UserVal.TheVariants.{Tri as TriVal, Text}
use Rattle.kc_tree.specs.Accepted.{IsAccepted}
use Rattle.kc_tree.specs.Fits.{fits_type, type_of}
use Rattle.kc_files.specs.declared.assign.Assign.{Assign}
use Rattle.kc_files.specs.declared.line_reading.Reading.TheVariants.{Usable}
use Rattle.kc_files.specs.ConfigText.{text_in}
use Rattle.kc_files.specs.ConfigLines.{is_feed, trimmed}
use Rattle.kc_files.specs.LineForm.{is_word}
use Rattle.kc_files.specs.LineReading.{HasReading}
use Rattle.kc_files.specs.Quoting.{escaped}
use Rattle.kc_files.specs.LineReading.{has_feed}
use Rattle.kc_files.specs.WrittenAssigns.{assign_line, IsWritable}
use Rattle.kc_files.proofs.LineEnds.{unfed_both, word_unfed, escaped_unfed, EndsWhole, ends_after, whole_of, int_whole, hex_numeral_whole}
use Rattle.kc_files.proofs.LineFormLaws.{IsNamed, word_bytes}
use Rattle.kc_files.proofs.SymbolNames.{named_back, name_formed}
use Rattle.kc_files.proofs.WrittenLines.{symbol_body, symbol_line_is, written_read}

-- the line without its line feed
abbrev pub assign_body : TreeValue → List ℕ → Assign → List ℕ
assign_body t prefix a = symbol_body prefix (name_of t a.symbol) (type_of t a.symbol) a.value

pub assign_line_is : (t : TreeValue) (prefix : List ℕ) (a : Assign) → assign_line t prefix a ≡ assign_body t prefix a ++ 10 ∷ []
assign_line_is t prefix a = symbol_line_is prefix (name_of t a.symbol) (type_of t a.symbol) a.value

-- ---- no line feed inside
text_unfed : (k : SymbolType) (w : List ℕ) → list_any is_feed w ≡ false → list_any is_feed (text_in k w) ≡ false
text_unfed kind.Bool w e = e
text_unfed kind.Tristate w e = e
text_unfed kind.String w e = unfed_both (34 ∷ escaped w) (34 ∷ []) (escaped_unfed w e) refl
text_unfed kind.Int w e = e
text_unfed kind.Hex w e = e

module _ (prefix name : List ℕ) (p : list_any is_feed prefix ≡ false) (n : list_any is_feed name ≡ false) where
  named_unfed : (rest : List ℕ) → list_any is_feed rest ≡ false → list_any is_feed (prefix ++ (name ++ rest)) ≡ false
  named_unfed rest e = unfed_both prefix (name ++ rest) p (unfed_both name rest n e)

  symbol_unfed : (k : SymbolType) (v : UserVal) → has_feed v ≡ false → list_any is_feed (symbol_body prefix name k v) ≡ false
  symbol_unfed k (TriVal No) e = unfed_both (codes "# ") (prefix ++ (name ++ codes " is not set")) refl (named_unfed (codes " is not set") refl)
  symbol_unfed k (TriVal Module) e = named_unfed (codes "=m") refl
  symbol_unfed k (TriVal Yes) e = named_unfed (codes "=y") refl
  symbol_unfed k (Text w) e = named_unfed (61 ∷ text_in k w) (text_unfed k w e)

-- ---- no blank at the end
text_ends : (k : SymbolType) (w : List ℕ) → fits_type k (Text w) ≡ true → EndsWhole (text_in k w)
text_ends kind.Bool w e = absurd (true≢false (sym e))
text_ends kind.Tristate w e = absurd (true≢false (sym e))
text_ends kind.String w e = (34 ∷ escaped w, 34, refl, refl)
text_ends kind.Int w e = int_whole w e
text_ends kind.Hex w e = hex_numeral_whole w e

named_ends : (prefix name rest : List ℕ) → EndsWhole rest → EndsWhole (prefix ++ (name ++ rest))
named_ends prefix name rest h = ends_after prefix (name ++ rest) (ends_after name rest h)

symbol_ends : (prefix name : List ℕ) (k : SymbolType) (v : UserVal) → fits_type k v ≡ true → EndsWhole (symbol_body prefix name k v)
symbol_ends prefix name k (TriVal No) e =
    ends_after (codes "# ") (prefix ++ (name ++ codes " is not set")) (named_ends prefix name (codes " is not set") (codes " is not se", 116, refl, refl))
symbol_ends prefix name k (TriVal Module) e = named_ends prefix name (codes "=m") (codes "=", 109, refl, refl)
symbol_ends prefix name k (TriVal Yes) e = named_ends prefix name (codes "=y") (codes "=", 121, refl, refl)
symbol_ends prefix name k (Text w) e = named_ends prefix name (61 ∷ text_in k w) (ends_after (61 ∷ []) (text_in k w) (text_ends k w e))

-- ---- an assignment that a line can give
module _ (t : TreeValue) (prefix : List ℕ) (accepted : IsAccepted t) (named : IsNamed prefix) (a : Assign) (h : IsWritable t a) where
  inside_names : a.symbol.0 < length t.names
  inside_names = subst (λ n. a.symbol.0 < n) (sym accepted.named) h.inside

  name_is_word : is_word (name_of t a.symbol) ≡ true
  name_is_word = name_formed t.names accepted.names a.symbol.0 inside_names

  name_is_back : symbol_named t (name_of t a.symbol) ≡ Some a.symbol
  name_is_back = named_back t.names accepted.names a.symbol inside_names

  pub body_unfed : list_any is_feed (assign_body t prefix a) ≡ false
  body_unfed =
      symbol_unfed prefix (name_of t a.symbol) (word_unfed prefix named) (word_unfed (name_of t a.symbol) (word_bytes (name_of t a.symbol) name_is_word))
      (type_of t a.symbol) a.value h.unfed

  pub body_whole : trimmed (assign_body t prefix a) ≡ assign_body t prefix a
  body_whole = whole_of (assign_body t prefix a) (symbol_ends prefix (name_of t a.symbol) (type_of t a.symbol) a.value h.typed)

  pub body_read : IsUtf8 (assign_body t prefix a) → HasReading t prefix (assign_body t prefix a) (Usable a)
  body_read u = written_read t prefix (name_of t a.symbol) a.symbol a.value name_is_word name_is_back h.typed u body_whole
