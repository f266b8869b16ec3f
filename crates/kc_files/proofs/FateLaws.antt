-- The table of last usable lines says what becomes of each line.
use Rattle.std.proofs.Common.{◌≡◌, ℕ, suc, zero, ◌+◌, ◌<◌, ◌≤◌, ◌==◌, Bool, true, false, not, ◌||◌, List, [], ◌∷◌, ◌++◌, Option, Some, None, length, get_or, drop, slice_set, if◌then◌else◌, refl, sym, ap, subst, ◌∙◌, ⊎_elim, arith, add-one}
use Rattle.std.specs.Prelude.{is_some, option_map, slice_get, filter_map, All}
use Rattle.std.specs.List.{cons_option, list_any}
use Rattle.std.specs.Option.{option_map_or, option_or}
use Rattle.std.proofs.lemmas.Bool.{cases_eq, eq-eqb, ne_eqb}
use Rattle.std.proofs.lemmas.List.{get_or-set_same, get_or-set_other, length-set}
use Rattle.std.proofs.lemmas.List.Elements.{All-push}
use Rattle.std.proofs.lemmas.Option.{slice_get_read}
use Rattle.kc_statement.specs.declared.id.SymId.{SymId}
use Rattle.kc_files.specs.declared.assign.Assign.{Assign}
use Rattle.kc_files.specs.declared.numbered_lines.ConfigLine.{ConfigLine}
use Rattle.kc_files.specs.declared.numbered_lines.Fate.TheVariants.{Counts, Replaced}
use Rattle.kc_files.specs.declared.numbered_lines.LineSays.{LineSays}
use Rattle.kc_files.specs.declared.numbered_lines.LineSays.TheVariants as said
use Rattle.kc_files.specs.declared.warning.WarningKind.{WarningKind}
use Rattle.kc_files.specs.ConfigReading.{counting, names_symbol}
use Rattle.kc_files.specs.Fates.{counting_at, counts, last_from, fate_at, fate_by, fate_of, fate_said, AreLast}
use Rattle.kc_files.specs.Effects.{line_names, IsSaidInside}
use Rattle.kc_files.specs.NumberedLines.{assign_of, assign_said, numbered}

-- ---- the last line that names a symbol
last_more : (i : ℕ) (s : SymId) (xs : List ConfigLine) (line : ConfigLine)
    → last_from i s (xs ++ line ∷ []) ≡ (if line_names s line then Some (i + length xs) else last_from i s xs)
last_more i s [] line = go (line_names s line)
  where
    go : (b : Bool) → (if b then Some i else None) ≡ (if b then Some (i + 0) else None)
    go true = ap Some (omega arith)
    go false = refl
last_more i s (x ∷ xs) line =
    ap (λ o. option_or o (if line_names s x then Some i else None)) (last_more (i + 1) s xs line)
    ∙ go (line_names s line)
  where
    go : (b : Bool) → option_or (if b then Some (i + 1 + length xs) else last_from (i + 1) s xs) (if line_names s x then Some i else None)
        ≡ (if b then Some (i + length (x ∷ xs)) else option_or (last_from (i + 1) s xs) (if line_names s x then Some i else None))
    go true = ap Some (omega arith)
    go false = refl

last_pushed : (s : SymId) (xs : List ConfigLine) (line : ConfigLine)
    → last_from 0 s (xs ++ line ∷ []) ≡ (if line_names s line then Some (length xs) else last_from 0 s xs)
last_pushed s xs line =
    let same : 0 + length xs ≡ length xs = omega arith in
    last_more 0 s xs line ∙ ap (λ n. if line_names s line then Some n else last_from 0 s xs) same

last_is : (i : ℕ) (s : SymId) (xs : List ConfigLine) → is_some (last_from i s xs) ≡ list_any (line_names s) xs
last_is i s [] = refl
last_is i s (x ∷ xs) = go (last_from (i + 1) s xs) (line_names s x) (last_is (i + 1) s xs)
  where
    go : (o : Option ℕ) (b : Bool) → is_some o ≡ list_any (line_names s) xs
        → is_some (option_or o (if b then Some i else None)) ≡ (b || list_any (line_names s) xs)
    go None true e = refl
    go None false e = e
    go (Some n) true e = refl
    go (Some n) false e = e

last_above : (i : ℕ) (s : SymId) (xs : List ConfigLine) (n : ℕ) → last_from i s xs ≡ Some n → i ≤ n
last_above i s [] n e = cc
last_above i s (x ∷ xs) n e = go (last_from (i + 1) s xs) (line_names s x) (last_above (i + 1) s xs) e
  where
    go : (o : Option ℕ) (b : Bool) → ((m : ℕ) → o ≡ Some m → i + 1 ≤ m) → option_or o (if b then Some i else None) ≡ Some n → i ≤ n
    go (Some m) b above f = let same : m ≡ n = cc in let more = above m refl in omega arith
    go None true above f = let same : i ≡ n = cc in omega arith
    go None false above f = cc

named_at : (s : SymId) (xs : List ConfigLine) (i : ℕ) (line : ConfigLine) → slice_get xs i ≡ Some line → line_names s line ≡ true → list_any (line_names s) xs ≡ true
named_at s [] i line is named = cc
named_at s (x ∷ xs) zero line is named =
    let same : x ≡ line = cc in
    ap (λ b. b || list_any (line_names s) xs) (ap (line_names s) same ∙ named)
named_at s (x ∷ xs) (suc i) line is named = go (line_names s x) (named_at s xs i line is named)
  where
    go : (b : Bool) → list_any (line_names s) xs ≡ true → (b || list_any (line_names s) xs) ≡ true
    go true e = refl
    go false e = e

-- ---- what becomes of a line
says_named : (a : Assign) (line : ConfigLine) → line.says ≡ said.Usable a → line_names a.symbol line ≡ true
says_named a line says = ap (λ l. option_map_or (names_symbol a.symbol) (assign_said l) false) says ∙ eq-eqb a.symbol.0 a.symbol.0 refl

or_there : (o p : Option ℕ) → is_some o ≡ true → option_or o p ≡ o
or_there None p e = cc
or_there (Some n) p e = refl

fate_from : (j i k : ℕ) (lines : List ConfigLine) (line : ConfigLine) (a : Assign) → k ≡ j + i → slice_get lines i ≡ Some line → line.says ≡ said.Usable a
    → fate_by k (last_from j a.symbol lines) ≡ fate_of (k + 1) (said.Usable a) (drop (suc i) lines)
fate_from j i k [] line a at is says = cc
fate_from j zero k (x ∷ xs) line a at is says =
    ap (λ b. fate_by k (option_or (last_from (j + 1) a.symbol xs) (if b then Some j else None))) named
    ∙ go (last_from (j + 1) a.symbol xs) refl
    ∙ ap (λ m. option_map_or (λ n. Replaced n) (last_from m a.symbol xs) Counts) next
  where
    here : j ≡ k
    here = omega arith

    next : j + 1 ≡ k + 1
    next = omega arith

    named : line_names a.symbol x ≡ true
    named = let same : x ≡ line = cc in ap (line_names a.symbol) same ∙ says_named a line says

    go : (o : Option ℕ) → last_from (j + 1) a.symbol xs ≡ o
        → fate_by k (option_or o (Some j)) ≡ option_map_or (λ n. Replaced n) o Counts
    go None e = ap (λ b. if b then Counts else Replaced j) (eq-eqb j k here)
    go (Some n) e =
        let above = last_above (j + 1) a.symbol xs n e in
        ap (λ b. if b then Counts else Replaced n) (ne_eqb n k (λ same. absurd (omega (arith, above, same, here))))
fate_from j (suc i) k (x ∷ xs) line a at is says =
    ap (fate_by k) (or_there (last_from (j + 1) a.symbol xs) (if line_names a.symbol x then Some j else None) there)
    ∙ fate_from (j + 1) i k xs line a (omega arith) is says
  where
    there : is_some (last_from (j + 1) a.symbol xs) ≡ true
    there = last_is (j + 1) a.symbol xs ∙ named_at a.symbol xs i line is (says_named a line says)

-- ---- the table
module _ (table : List (Option ℕ)) (lines : List ConfigLine) (are : AreLast table lines) where
  pub fate_is : (i : ℕ) (line : ConfigLine) (a : Assign) → slice_get lines i ≡ Some line → line.says ≡ said.Usable a → a.symbol.0 < length table
      → fate_by i (get_or table a.symbol.0 None) ≡ fate_of (i + 1) (said.Usable a) (drop (i + 1) lines)
  fate_is i line a is says inside =
      ap (fate_by i) (are.last a.symbol.0 inside)
      ∙ fate_from 0 i i lines line a (omega arith) is says
      ∙ ap (λ n. fate_of (i + 1) (said.Usable a) (drop n lines)) (sym (add-one i))

  said_is : (i : ℕ) (line : ConfigLine) (what : LineSays) → line.says ≡ what → IsSaidInside (length table) what → slice_get lines i ≡ Some line
      → fate_said table i what ≡ fate_of (i + 1) what (drop (i + 1) lines)
  said_is i line (said.Usable a) says inside is = fate_is i line a is says inside
  said_is i line (said.Warned w) says inside is = refl

  -- what becomes of a line that is there
  pub fate_here : (i : ℕ) (line : ConfigLine) → i < length lines → line ≡ get_or lines i line → Some (fate_said table i line.says) ≡ fate_at lines i
  fate_here i line within at =
      let is : slice_get lines i ≡ Some line = slice_get_read lines (length lines) i line refl within at in
      let inside = subst (λ (x : ConfigLine). IsSaidInside (length table) x.says) (sym at) (are.inside i line within) in
      ap Some (said_is i line line.says refl inside is)
      ∙ sym (ap (option_map (λ (x : ConfigLine). fate_of (i + 1) x.says (drop (i + 1) lines))) is)

  pub inside_here : (i : ℕ) (line : ConfigLine) → i < length lines → line ≡ get_or lines i line → IsSaidInside (length table) line.says
  inside_here i line within at = subst (λ (x : ConfigLine). IsSaidInside (length table) x.says) (sym at) (are.inside i line within)

  pub has_last : (s : SymId) → s.0 < length table → is_some (get_or table s.0 None) ≡ list_any (line_names s) lines
  has_last s inside = ap is_some (are.last s.0 inside) ∙ last_is 0 s lines

  pub last_noted : (number : ℕ) (a : Assign) (n : ℕ) (next : List ConfigLine) → a.symbol.0 < length table → n ≡ length lines
      → next ≡ lines ++ numbered number (said.Usable a) ∷ [] → AreLast (slice_set table a.symbol.0 (Some n)) next
  last_noted number a n next inside at is =
      subst (AreLast (slice_set table a.symbol.0 (Some n))) (sym is)
      (subst (λ m. AreLast (slice_set table a.symbol.0 (Some m)) (lines ++ numbered number (said.Usable a) ∷ [])) (sym at) noted)
    where
      line : ConfigLine
      line = numbered number (said.Usable a)

      same_size : length (slice_set table a.symbol.0 (Some (length lines))) ≡ length table
      same_size = length-set table a.symbol.0 (Some (length lines))

      after_it : (k : ℕ) (b : Bool) → (a.symbol.0 == k) ≡ b
          → last_from 0 (record { 0 = k }) (lines ++ line ∷ []) ≡ (if b then Some (length lines) else last_from 0 (record { 0 = k }) lines)
      after_it k b e = last_pushed (record { 0 = k }) lines line ∙ ap (λ v. if v then Some (length lines) else last_from 0 (record { 0 = k }) lines) e

      noted : AreLast (slice_set table a.symbol.0 (Some (length lines))) (lines ++ line ∷ [])
      noted = record {
        inside = subst (λ m. All (λ line. IsSaidInside m line.says) (lines ++ line ∷ [])) (sym same_size)
            (All-push (λ line. IsSaidInside (length table) line.says) lines line are.inside inside);
        last = λ k h.
            ⊎_elim
            (λ same. ap (λ m. get_or (slice_set table a.symbol.0 (Some (length lines))) m None) same
            ∙ get_or-set_same table a.symbol.0 (Some (length lines)) None inside
            ∙ sym (after_it k true (eq-eqb a.symbol.0 k (sym same))))
            (λ other. get_or-set_other table a.symbol.0 k (Some (length lines)) None other
            ∙ are.last k (subst (λ m. k < m) same_size h)
            ∙ sym (after_it k false (ne_eqb a.symbol.0 k (λ same. other (sym same)))))
            (cases_eq k a.symbol.0);
      }

  pub last_kept : (number : ℕ) (w : WarningKind) (next : List ConfigLine) → next ≡ lines ++ numbered number (said.Warned w) ∷ [] → AreLast table next
  last_kept number w next is = subst (AreLast table) (sym is) (record {
    inside = All-push (λ line. IsSaidInside (length table) line.says) lines (numbered number (said.Warned w)) are.inside tt;
    last = λ k h. are.last k h ∙ sym (last_pushed (record { 0 = k }) lines (numbered number (said.Warned w)));
  })

-- ---- the assignments that count
pub names_same : (s : SymId) (xs : List ConfigLine) → list_any (line_names s) xs ≡ list_any (names_symbol s) (filter_map assign_of xs)
names_same s [] = refl
names_same s (x ∷ xs) = go (assign_of x) (names_same s xs)
  where
    go : (o : Option Assign) → list_any (line_names s) xs ≡ list_any (names_symbol s) (filter_map assign_of xs)
        → (option_map_or (names_symbol s) o false || list_any (line_names s) xs) ≡ list_any (names_symbol s) (cons_option o (filter_map assign_of xs))
    go None more = more
    go (Some a) more = ap (λ b. names_symbol s a || b) more

pub cut_at : (xs : List ConfigLine) (i : ℕ) (x : ConfigLine) (ys : List ConfigLine) → drop i xs ≡ x ∷ ys → (slice_get xs i ≡ Some x) × (drop (suc i) xs ≡ ys)
cut_at [] zero x ys e = cc
cut_at [] (suc i) x ys e = cc
cut_at (z ∷ zs) zero x ys e = let first : z ≡ x = cc in let rest : zs ≡ ys = cc in (ap Some first, rest)
cut_at (z ∷ zs) (suc i) x ys e = cut_at zs i x ys e

counts_by : (o : Option ℕ) → counts (option_map_or (λ n. Replaced n) o Counts) ≡ not (is_some o)
counts_by None = refl
counts_by (Some n) = refl

module _ (table : List (Option ℕ)) (lines : List ConfigLine) (are : AreLast table lines) where
  pub counting_step : (i : ℕ) (line : ConfigLine) (later : List ConfigLine) → drop i lines ≡ line ∷ later → IsSaidInside (length table) line.says
      → counting_at table i line.says ++ counting (filter_map assign_of later) ≡ counting (filter_map assign_of (line ∷ later))
  counting_step i line later cut inside = go line.says refl inside
    where
      go : (what : LineSays) → line.says ≡ what → IsSaidInside (length table) what
          → counting_at table i what ++ counting (filter_map assign_of later) ≡ counting (cons_option (assign_said what) (filter_map assign_of later))
      go (said.Warned w) says h = refl
      go (said.Usable a) says h =
          ap (λ b. (if b then a ∷ [] else []) ++ counting (filter_map assign_of later)) counted
          ∙ by_case (list_any (names_symbol a.symbol) (filter_map assign_of later))
        where
          parts : (slice_get lines i ≡ Some line) × (drop (suc i) lines ≡ later)
          parts = cut_at lines i line later cut

          counted : counts (fate_by i (get_or table a.symbol.0 None)) ≡ not (list_any (names_symbol a.symbol) (filter_map assign_of later))
          counted =
              ap counts (ap (fate_by i) (are.last a.symbol.0 h) ∙ fate_from 0 i i lines line a (omega arith) parts.0 says)
              ∙ ap (λ l. counts (fate_of (i + 1) (said.Usable a) l)) parts.1
              ∙ counts_by (last_from (i + 1) a.symbol later)
              ∙ ap not (last_is (i + 1) a.symbol later ∙ names_same a.symbol later)

          by_case : (b : Bool) → (if not b then a ∷ [] else []) ++ counting (filter_map assign_of later)
              ≡ (if b then counting (filter_map assign_of later) else a ∷ counting (filter_map assign_of later))
          by_case true = refl
          by_case false = refl
