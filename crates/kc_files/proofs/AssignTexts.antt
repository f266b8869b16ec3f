-- A text that is made of the lines of assignments is read back assigns just these, and so is one with a line fewer.
use Rattle.std.proofs.Common.{◌≡◌, ℕ, ◌+◌, ◌==◌, Bool, false, ◌||◌, List, [], ◌∷◌, ◌++◌, Some, None, map, length, get_or, drop, if◌then◌else◌, refl, sym, ap, subst, ◌∙◌, append_assoc, arith}
use Rattle.std.specs.Prelude.{All, filter_map, option_map, option_to_list}
use Rattle.std.specs.List.{list_any, AllZip}
use Rattle.std.specs.Str.{IsUtf8}
use Rattle.std.proofs.lemmas.Bool.{true≢false, or_parts, or_from, eq-eqb, eqb-true, false_from_ne_true}
use Rattle.std.proofs.lemmas.List.Elements.{All-nil, All-cons, All-head, All-tail, All-map, All-weaker}
use Rattle.std.proofs.lemmas.List.Folds.{list_any-append}
use Rattle.std.proofs.lemmas.List.{map-append}
use Rattle.kc_outline.specs.TreeValue.{TreeValue}
use Rattle.kc_tree.specs.Accepted.{IsAccepted}
use Rattle.kc_value.specs.UserValues.{UserValues, no_values}
use Rattle.kc_files.specs.declared.assign.Assign.{Assign}
use Rattle.kc_files.specs.declared.loading.Load.TheVariants.{Replace}
use Rattle.kc_files.specs.declared.line_reading.Reading.TheVariants.{Usable}
use Rattle.kc_files.specs.declared.warning.Warning.{Warning}
use Rattle.kc_files.specs.declared.warning.WarningKind.{WarningKind}
use Rattle.kc_files.specs.declared.warning.WarningKind.TheVariants.{Repeated}
use Rattle.kc_files.specs.ConfigLines.{is_feed, lines_in}
use Rattle.kc_files.specs.ConfigReading.{usable, names_symbol, counting, warnings_from, IsConfigReading}
use Rattle.kc_files.specs.DefaultLoading.{IsLoadedFrom, text_of_lines}
use Rattle.kc_files.specs.LineReading.{HasReading}
use Rattle.kc_files.specs.Loading.{user_after}
use Rattle.kc_files.specs.WrittenAssigns.{assigns_text, IsWritable, AreApart}
use Rattle.kc_files.proofs.AssignLines.{assign_body, assign_line_is, body_unfed, body_read}
use Rattle.kc_files.proofs.LineFormLaws.{IsNamed}
use Rattle.kc_files.proofs.LineTexts.{lines_of_text, lines_utf8}
use Rattle.kc_files.proofs.ReadingLaws.{one_config_reading}

-- ---- the lines
pub text_is : (t : TreeValue) (prefix : List ℕ) (assigns : List Assign) → text_of_lines (map (assign_body t prefix) assigns) ≡ assigns_text t prefix assigns
text_is t prefix [] = refl
text_is t prefix (a ∷ assigns) = λ i. sym (assign_line_is t prefix a) i ++ text_is t prefix assigns i

module _ (t : TreeValue) (prefix : List ℕ) (accepted : IsAccepted t) (named : IsNamed prefix) where
  pub lines_written : (assigns : List Assign) → All (IsWritable t) assigns → lines_in (assigns_text t prefix assigns) ≡ map (assign_body t prefix) assigns
  lines_written assigns h =
      let unfed : List ℕ → Type 0 = λ l. list_any is_feed l ≡ false in
      let each : All (λ a. unfed (assign_body t prefix a)) assigns =
      All-weaker (IsWritable t) (λ a. unfed (assign_body t prefix a)) (body_unfed t prefix accepted named) assigns h in
      ap lines_in (sym (text_is t prefix assigns)) ∙ lines_of_text (map (assign_body t prefix) assigns) (All-map unfed (assign_body t prefix) assigns each)

-- ---- UTF-8
all_unmapped : {X Y : Type 0} (P : Y → Type 0) (f : X → Y) (xs : List X) → All P (map f xs) → All (λ x. P (f x)) xs
all_unmapped P f [] h = All-nil (λ x. P (f x))
all_unmapped P f (x ∷ xs) h =
    All-cons (λ y. P (f y)) x xs (All-head P (f x) (map f xs) h) (all_unmapped P f xs (All-tail P (f x) (map f xs) h))

pub bodies_utf8 : (t : TreeValue) (prefix : List ℕ) (assigns : List Assign) → IsUtf8 (assigns_text t prefix assigns) → All (λ a. IsUtf8 (assign_body t prefix a)) assigns
bodies_utf8 t prefix assigns u =
    all_unmapped IsUtf8 (assign_body t prefix) assigns (lines_utf8 (map (assign_body t prefix) assigns) (subst IsUtf8 (sym (text_is t prefix assigns)) u))

-- ---- assignments to symbols that are apart
other_way : (m n : ℕ) → (m == n) ≡ false → (n == m) ≡ false
other_way m n e = false_from_ne_true (n == m) (λ f. true≢false (sym (eq-eqb m n (sym (eqb-true n m f))) ∙ e))

all_usable : (assigns : List Assign) → filter_map usable (map Usable assigns) ≡ assigns
all_usable [] = refl
all_usable (a ∷ assigns) = ap (λ r. a ∷ r) (all_usable assigns)

all_count : (assigns : List Assign) → AreApart assigns → counting assigns ≡ assigns
all_count [] h = refl
all_count (a ∷ assigns) h = ap (λ b. if b then counting assigns else a ∷ counting assigns) h.0 ∙ ap (λ r. a ∷ r) (all_count assigns h.1)

none_before : (before : List Assign) (a : Assign) (assigns : List Assign) → AreApart (before ++ a ∷ assigns) → list_any (names_symbol a.symbol) before ≡ false
none_before [] a assigns h = refl
none_before (b ∷ bs) a assigns h =
    let later = or_parts (list_any (names_symbol b.symbol) bs) (names_symbol b.symbol a || list_any (names_symbol b.symbol) assigns)
    (sym (list_any-append (names_symbol b.symbol) bs (a ∷ assigns)) ∙ h.0) in
    let here = or_parts (names_symbol b.symbol a) (list_any (names_symbol b.symbol) assigns) later.1 in
    or_from (names_symbol a.symbol b) (list_any (names_symbol a.symbol) bs) (other_way a.symbol.0 b.symbol.0 here.0) (none_before bs a assigns h.1)

abbrev warned_in : ℕ → Bool → List Warning
warned_in n b = option_to_list (option_map (λ (k : WarningKind). record { line = n; kind = k }) (if b then Some Repeated else None))

no_warnings : (before assigns : List Assign) (n : ℕ) → AreApart (before ++ assigns) → [] ≡ warnings_from before n (map Usable assigns)
no_warnings before [] n h = refl
no_warnings before (a ∷ assigns) n h =
    no_warnings (before ++ a ∷ []) assigns (n + 1) (subst AreApart (sym (append_assoc before (a ∷ []) assigns)) h)
    ∙ ap (λ b. warned_in n b ++ warnings_from (before ++ a ∷ []) (n + 1) (map Usable assigns)) (sym (none_before before a assigns h))

-- ---- what is read
module _ (t : TreeValue) (prefix : List ℕ) (accepted : IsAccepted t) (named : IsNamed prefix) where
  bodies_read : (assigns : List Assign) → All (IsWritable t) assigns → All (λ a. IsUtf8 (assign_body t prefix a)) assigns
      → AllZip (HasReading t prefix) (map (assign_body t prefix) assigns) (map Usable assigns)
  bodies_read [] h u = tt
  bodies_read (a ∷ assigns) h u =
      let is_text : Assign → Type 0 = λ b. IsUtf8 (assign_body t prefix b) in (
        body_read t prefix accepted named a (All-head (IsWritable t) a assigns h) (All-head is_text a assigns u),
        bodies_read assigns (All-tail (IsWritable t) a assigns h) (All-tail is_text a assigns u),
      )

  pub written_reading : (assigns : List Assign) → All (IsWritable t) assigns → AreApart assigns → All (λ a. IsUtf8 (assign_body t prefix a)) assigns
      → IsConfigReading t prefix (assigns_text t prefix assigns) assigns []
  written_reading assigns h apart u = record {
    readings = map Usable assigns;
    read = subst (λ ls. AllZip (HasReading t prefix) ls (map Usable assigns)) (sym (lines_written t prefix accepted named assigns h)) (bodies_read assigns h u);
    counted = sym (all_count assigns apart) ∙ ap counting (sym (all_usable assigns));
    warned = no_warnings [] assigns 1 apart;
  }

pub loaded_by : (t : TreeValue) (prefix text : List ℕ) (assigns : List Assign) (warnings : List Warning) (w : UserValues) → IsNamed prefix
    → IsConfigReading t prefix text assigns warnings → IsLoadedFrom t prefix text w → w ≡ user_after t (no_values t) Replace assigns
loaded_by t prefix text assigns warnings w named h loaded =
    loaded.loaded
    ∙ ap (user_after t (no_values t) Replace) (one_config_reading t prefix text assigns loaded.assigns warnings loaded.warnings named h loaded.reading).0

-- ---- one left out
abbrev Split : {X Y : Type 0} → (X → Y) → List X → List Y → List Y → Type 0
Split {X} f xs before after =
    (former : List X) × (latter : List X) × (x : X) × (xs ≡ former ++ x ∷ latter) × (before ≡ map f former) × (after ≡ map f latter)

split_map : {X Y : Type 0} (f : X → Y) (xs : List X) (before after : List Y) (y : Y) → map f xs ≡ before ++ y ∷ after → Split f xs before after
split_map f [] [] after y e = absurd (omega (arith, ap length e))
split_map f [] (b ∷ bs) after y e = absurd (omega (arith, ap length e))
split_map f (x ∷ xs) [] after y e = ([], xs, x, refl, refl, sym (ap (drop 1) e))
split_map f (x ∷ xs) (b ∷ bs) after y e =
    let more = split_map f xs bs after y (ap (drop 1) e) in
    let first : b ≡ f x = ap (λ l. get_or l 0 b) (sym e) in
    (x ∷ more.0, more.1, more.2, ap (λ r. x ∷ r) more.3, (λ i. first i ∷ more.4 i), more.5)

all_without : {X : Type 0} (P : X → Type 0) (bs : List X) (a : X) (assigns : List X) → All P (bs ++ a ∷ assigns) → All P (bs ++ assigns)
all_without P [] a assigns h = All-tail P a assigns h
all_without P (b ∷ bs) a assigns h =
    All-cons P b (bs ++ assigns) (All-head P b (bs ++ a ∷ assigns) h) (all_without P bs a assigns (All-tail P b (bs ++ a ∷ assigns) h))

any_without : {X : Type 0} (p : X → Bool) (bs : List X) (a : X) (assigns : List X) → list_any p (bs ++ a ∷ assigns) ≡ false → list_any p (bs ++ assigns) ≡ false
any_without p bs a assigns h =
    let parts = or_parts (list_any p bs) (p a || list_any p assigns) (sym (list_any-append p bs (a ∷ assigns)) ∙ h) in
    list_any-append p bs assigns ∙ or_from (list_any p bs) (list_any p assigns) parts.0 (or_parts (p a) (list_any p assigns) parts.1).1

apart_without : (bs : List Assign) (a : Assign) (assigns : List Assign) → AreApart (bs ++ a ∷ assigns) → AreApart (bs ++ assigns)
apart_without [] a assigns h = h.1
apart_without (b ∷ bs) a assigns h = (any_without (names_symbol b.symbol) bs a assigns h.0, apart_without bs a assigns h.1)

module _ (t : TreeValue) (prefix : List ℕ) (accepted : IsAccepted t) (named : IsNamed prefix) (assigns : List Assign) (h : All (IsWritable t) assigns) (apart : AreApart assigns) (u : All (λ a. IsUtf8 (assign_body t prefix a)) assigns) where
  pub left_out : (before after : List (List ℕ)) (line : List ℕ) → lines_in (assigns_text t prefix assigns) ≡ before ++ line ∷ after
      → (former : List Assign) × (latter : List Assign) × (a : Assign) × (assigns ≡ former ++ a ∷ latter) × IsConfigReading t prefix (text_of_lines (before ++ after)) (former ++ latter) []
  left_out before after line e =
      let body : Assign → List ℕ = assign_body t prefix in
      let is_text : Assign → Type 0 = λ a. IsUtf8 (body a) in
      let s = split_map body assigns before after line (sym (lines_written t prefix accepted named assigns h) ∙ e) in
      let former : List Assign = s.0 in
      let latter : List Assign = s.1 in
      let text : text_of_lines (before ++ after) ≡ assigns_text t prefix (former ++ latter) =
      ap text_of_lines ((λ i. s.4 i ++ s.5 i) ∙ sym (map-append body former latter)) ∙ text_is t prefix (former ++ latter) in
      let read = written_reading t prefix accepted named (former ++ latter)
      (all_without (IsWritable t) former s.2 latter (subst (All (IsWritable t)) s.3 h))
      (apart_without former s.2 latter (subst AreApart s.3 apart))
      (all_without is_text former s.2 latter (subst (All is_text) s.3 u)) in
      (former, latter, s.2, s.3, subst (λ x. IsConfigReading t prefix x (former ++ latter) []) (sym text) read)

  pub loaded_is : (w : UserValues) → IsLoadedFrom t prefix (assigns_text t prefix assigns) w → w ≡ user_after t (no_values t) Replace assigns
  loaded_is w loaded = loaded_by t prefix (assigns_text t prefix assigns) assigns [] w named (written_reading t prefix accepted named assigns h apart u) loaded
