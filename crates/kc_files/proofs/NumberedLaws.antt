-- The lines that say something are what the readings of a text say.
use Rattle.std.proofs.Common.{◌≡◌, ℕ, ◌+◌, Bool, true, false, List, [], ◌∷◌, ◌++◌, Some, None, length, if◌then◌else◌, refl, sym, ap, ◌∙◌, append_assoc, append-nil}
use Rattle.std.specs.Prelude.{filter_map, option_map, option_to_list, All}
use Rattle.std.specs.List.{cons_option, list_any}
use Rattle.std.proofs.lemmas.List.Elements.{filter_map-append, All-nil, All-cons, All-head, All-push, All-same, All-tail}
use Rattle.kc_outline.specs.TreeValue.{TreeValue}
use Rattle.kc_files.specs.declared.assign.Assign.{Assign}
use Rattle.kc_files.specs.declared.warning.Warning.{Warning}
use Rattle.kc_files.specs.declared.warning.WarningKind.{WarningKind}
use Rattle.kc_files.specs.declared.warning.WarningKind.TheVariants.{Repeated}
use Rattle.kc_files.specs.declared.numbered_lines.ConfigLine.{ConfigLine}
use Rattle.kc_files.specs.declared.numbered_lines.LineSays.{LineSays}
use Rattle.kc_files.specs.declared.numbered_lines.LineSays.TheVariants as said
use Rattle.kc_files.specs.declared.line_reading.Reading.{Reading}
use Rattle.kc_files.specs.declared.line_reading.Reading.TheVariants.{Usable, Warned, Nothing}
use Rattle.kc_files.specs.ConfigLines.{lines_in}
use Rattle.kc_files.specs.ConfigReading.{usable, counting, warnings_from}
use Rattle.kc_files.specs.Effects.{line_names}
use Rattle.kc_files.specs.Fates.{new_lines, with_line, with_reading, with_warning, ReadLines}
use Rattle.kc_files.specs.LineReading.{IsAssignFor, IsUnfed}
use Rattle.kc_files.specs.LineSteps.{readings_in, IsReadingFor}
use Rattle.kc_files.specs.NumberedLines.{assign_of, assign_said, config_lines_in, lines_from, numbered, AreLinesOf, IsLineFor, IsSaidFor, IsUnfedLine}
use Rattle.kc_files.specs.OneReading.{assigns_in, warnings_in}
use Rattle.kc_files.specs.PrefixForm.{is_prefix}
use Rattle.kc_files.proofs.FateLaws.{names_same}
use Rattle.kc_files.proofs.LineFormLaws.{prefix_bytes}
use Rattle.kc_files.proofs.ReadingLaws.{readings_have, readings_only}
use Rattle.kc_files.proofs.UnfedReading.{text_unfed}

-- ---- a pass over the lines: `rest` are the readings that are left, of all, and the first of them is that of this number
pub record IsRead (t : TreeValue) (all : List Reading) (number : ℕ) (rest : List Reading) (r : ReadLines) : Type 0 where
  pub symbols : r.symbols ≡ length t.symbols
  pub fitting : All (IsLineFor t) r.lines
  pub are : r.lines ++ lines_from number rest ≡ lines_from 1 all
  pub warned : r.warnings ++ warnings_from (filter_map assign_of r.lines) number rest ≡ warnings_from [] 1 all

abbrev warning_at : ℕ → WarningKind → Warning
warning_at n k = record { line = n; kind = k }

pub read_begins : (t : TreeValue) (all : List Reading) → IsRead t all 1 all (new_lines (length t.symbols))
read_begins t all = record { symbols = refl; fitting = All-nil (IsLineFor t); are = refl; warned = refl }

module _ (t : TreeValue) (all : List Reading) (n : ℕ) (rest : List Reading) (r : ReadLines) where
  -- the assignments with those of one more line
  assigns_more : (line : ConfigLine) → filter_map assign_of (r.lines ++ line ∷ []) ≡ filter_map assign_of r.lines ++ filter_map assign_of (line ∷ [])
  assigns_more line = filter_map-append assign_of r.lines (line ∷ [])

  -- a usable line, whether it has a warning or not
  usable_step : (a : Assign) → IsRead t all n (Usable a ∷ rest) r → IsAssignFor t a → (b : Bool) → list_any (line_names a.symbol) r.lines ≡ b
      → IsRead t all (n + 1) rest (with_line (if b then with_warning r n Repeated else r) n (said.Usable a))
  usable_step a h fits true e = record {
    symbols = h.symbols;
    fitting = All-push (IsLineFor t) r.lines (numbered n (said.Usable a)) h.fitting fits;
    are = append_assoc r.lines (numbered n (said.Usable a) ∷ []) (lines_from (n + 1) rest) ∙ h.are;
    warned =
        append_assoc r.warnings (warning_at n Repeated ∷ []) _
        ∙ ap (λ xs. r.warnings ++ warning_at n Repeated ∷ warnings_from xs (n + 1) rest) (assigns_more (numbered n (said.Usable a)))
        ∙ ap (λ b. r.warnings ++ (option_to_list (option_map (warning_at n) (if b then Some Repeated else None)) ++ warnings_from (filter_map assign_of r.lines ++ a ∷ []) (n + 1) rest)) (sym e ∙ names_same a.symbol r.lines)
        ∙ h.warned;
  }
  usable_step a h fits false e = record {
    symbols = h.symbols;
    fitting = All-push (IsLineFor t) r.lines (numbered n (said.Usable a)) h.fitting fits;
    are = append_assoc r.lines (numbered n (said.Usable a) ∷ []) (lines_from (n + 1) rest) ∙ h.are;
    warned =
        ap (λ xs. r.warnings ++ warnings_from xs (n + 1) rest) (assigns_more (numbered n (said.Usable a)))
        ∙ ap (λ b. r.warnings ++ (option_to_list (option_map (warning_at n) (if b then Some Repeated else None)) ++ warnings_from (filter_map assign_of r.lines ++ a ∷ []) (n + 1) rest)) (sym e ∙ names_same a.symbol r.lines)
        ∙ h.warned;
  }

  pub read_step : (x : Reading) → IsRead t all n (x ∷ rest) r → IsReadingFor t x → IsRead t all (n + 1) rest (with_reading r n x)
  read_step (Usable a) h fits = usable_step a h fits (list_any (line_names a.symbol) r.lines) refl
  read_step (Warned k) h fits = record {
    symbols = h.symbols;
    fitting = All-push (IsLineFor t) r.lines (numbered n (said.Warned k)) h.fitting tt;
    are = append_assoc r.lines (numbered n (said.Warned k) ∷ []) (lines_from (n + 1) rest) ∙ h.are;
    warned =
        append_assoc r.warnings (warning_at n k ∷ []) _
        ∙ ap (λ xs. r.warnings ++ warning_at n k ∷ warnings_from xs (n + 1) rest) (assigns_more (numbered n (said.Warned k)))
        ∙ h.warned;
  }
  read_step Nothing h fits = record {
    symbols = h.symbols;
    fitting = h.fitting;
    are = h.are;
    warned = ap (λ xs. r.warnings ++ warnings_from xs (n + 1) rest) (sym (append-nil (filter_map assign_of r.lines))) ∙ h.warned;
  }

module _ (t : TreeValue) (all : List Reading) (n : ℕ) (r : ReadLines) (h : IsRead t all n [] r) where
  pub lines_end : r.lines ≡ lines_from 1 all
  lines_end = sym (append-nil r.lines) ∙ h.are

  pub warnings_end : r.warnings ≡ warnings_from [] 1 all
  warnings_end = sym (append-nil r.warnings) ∙ h.warned

-- ---- the assignments of the lines
pub assigns_of_lines : (n : ℕ) (rs : List Reading) → filter_map assign_of (lines_from n rs) ≡ filter_map usable rs
assigns_of_lines n [] = refl
assigns_of_lines n (Usable a ∷ rs) = ap (λ xs. a ∷ xs) (assigns_of_lines (n + 1) rs)
assigns_of_lines n (Warned k ∷ rs) = assigns_of_lines (n + 1) rs
assigns_of_lines n (Nothing ∷ rs) = assigns_of_lines (n + 1) rs

pub lines_unfed : (n : ℕ) (rs : List Reading) → All IsUnfed (filter_map usable rs) → All IsUnfedLine (lines_from n rs)
lines_unfed n [] h = All-nil IsUnfedLine
lines_unfed n (Usable a ∷ rs) h =
    All-cons IsUnfedLine (numbered n (said.Usable a)) (lines_from (n + 1) rs) (All-head IsUnfed a (filter_map usable rs) h) (lines_unfed (n + 1) rs (All-tail IsUnfed a (filter_map usable rs) h))
lines_unfed n (Warned k ∷ rs) h = All-cons IsUnfedLine (numbered n (said.Warned k)) (lines_from (n + 1) rs) tt (lines_unfed (n + 1) rs h)
lines_unfed n (Nothing ∷ rs) h = lines_unfed (n + 1) rs h

pub assigns_fit : (t : TreeValue) (lines : List ConfigLine) → All (IsLineFor t) lines → All (IsAssignFor t) (filter_map assign_of lines)
assigns_fit t [] h = All-nil (IsAssignFor t)
assigns_fit t (line ∷ later) h = go line.says (All-head (IsLineFor t) line later h) (assigns_fit t later (All-tail (IsLineFor t) line later h))
  where
    go : (what : LineSays) → IsSaidFor t what → All (IsAssignFor t) (filter_map assign_of later)
        → All (IsAssignFor t) (cons_option (assign_said what) (filter_map assign_of later))
    go (said.Usable a) fits more = All-cons (IsAssignFor t) a (filter_map assign_of later) fits more
    go (said.Warned k) fits more = more

-- ---- a text
module _ (t : TreeValue) (prefix text : List ℕ) where
  pub lines_are : (shown : List ℕ) (lines : List ConfigLine) → shown ≡ prefix → lines ≡ lines_from 1 (readings_in t shown text) → lines ≡ config_lines_in t prefix text
  unfolding config_lines_in
  lines_are shown lines same are = are ∙ ap (λ p. lines_from 1 (readings_in t p text)) same

  pub warnings_are : (shown : List ℕ) (warnings : List Warning) → shown ≡ prefix → warnings ≡ warnings_from [] 1 (readings_in t shown text) → warnings ≡ warnings_in t prefix text
  unfolding warnings_in
  warnings_are shown warnings same are = are ∙ ap (λ p. warnings_from [] 1 (readings_in t p text)) same

  as_read : (lines : List ConfigLine) → lines ≡ config_lines_in t prefix text → lines ≡ lines_from 1 (readings_in t prefix text)
  unfolding config_lines_in
  as_read lines are = are

  module _ (lines : List ConfigLine) (are : lines ≡ config_lines_in t prefix text) where
    pub text_lines : AreLinesOf t prefix text lines
    text_lines = record { readings = readings_in t prefix text; read = readings_have t prefix (lines_in text); are = as_read lines are }

    pub text_counted : counting (filter_map assign_of lines) ≡ assigns_in t prefix text
    unfolding assigns_in
    text_counted = ap (λ ls. counting (filter_map assign_of ls)) (as_read lines are) ∙ ap counting (assigns_of_lines 1 (readings_in t prefix text))

    pub text_lines_unfed : All IsUnfedLine lines
    text_lines_unfed =
        All-same IsUnfedLine lines (lines_from 1 (readings_in t prefix text)) (as_read lines are)
        (lines_unfed 1 (readings_in t prefix text) (text_unfed t prefix text (readings_in t prefix text) (readings_have t prefix (lines_in text))))

    pub only_lines : is_prefix prefix ≡ true → (others : List ConfigLine) → AreLinesOf t prefix text others → others ≡ lines
    only_lines formed others h =
        h.are
        ∙ ap (lines_from 1) (sym (readings_only t prefix (lines_in text) h.readings (prefix_bytes prefix formed) h.read))
        ∙ sym (as_read lines are)
