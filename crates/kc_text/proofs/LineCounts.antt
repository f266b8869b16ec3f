-- How many logical lines there can be: no more than bytes are read, and the end of the top file.
use Rattle.std.proofs.Common.{◌≡◌, ◌∙◌, ℕ, zero, suc, ◌+◌, ◌-◌, ◌<◌, ◌≤◌, nat_le, nat_lt, Bool, true, false, not, if◌then◌else◌, List, [], ◌∷◌, ◌++◌, length, Option, Some, None, Result, Ok, Err, refl, ap, sym, ⊎_elim, arith, length-append, length-drop}
use Rattle.std.specs.List.{position_or_len, after_first}
use Rattle.std.specs.Str.Lines.{lines}
use Rattle.std.proofs.lemmas.Bool.{cases_eq}
use Rattle.std.proofs.lemmas.Bool.Decides.{nat_tests}
use Rattle.std.proofs.lemmas.List.Sums.{prefix_len-le-length}
use Rattle.kc_text.specs.declared.line.Token.{Token}
use Rattle.kc_text.specs.declared.fault.TextProblem.TheVariants.{MissingSource}
use Rattle.kc_text.specs.declared.fault.TextFault.{TextFault}
use Rattle.kc_text.specs.declared.fault.TextFault.TheVariants.{At}
use Rattle.kc_text.specs.declared.reading.TheConstants.{MOST_LINES}
use Rattle.kc_text.specs.declared.files.TheConstants.{MAX_BYTES}
use Rattle.kc_text.specs.Bytes.{is_feed}
use Rattle.kc_text.specs.FileList.{File}
use Rattle.kc_text.specs.Sources.{text_of}
use Rattle.kc_text.specs.LineValue.{LineValue}
use Rattle.kc_text.specs.Expansion.{Environment, then_on, is_among}
use Rattle.kc_text.specs.Tokens.{line_tokens}
use Rattle.kc_text.specs.Definitions.{definition_of, defined}
use Rattle.kc_text.specs.Items.{ItemValue, first_item}
use Rattle.kc_text.specs.Reading.{ReadState, Place, Placing, nothing_read, with_lines, with_names, entered, at_place, statement, end_of_file, source_path, tokens_read, statement_read, item_read, items_read, file_read, text_placed, placed, logical_lines_of}
use Rattle.kc_text.proofs.PhysicalLines.{lines-cut, lines-one}

lines-within-n : (n : ℕ) (bs : List ℕ) → length bs ≤ n → length (lines bs) ≤ length bs
lines-within-n n [] few = omega arith
lines-within-n zero (b ∷ bs) few = absurd (omega (arith, few))
lines-within-n (suc n) (b ∷ bs) few =
    let k : ℕ = position_or_len is_feed (b ∷ bs) in
    let behind = after_first is_feed (b ∷ bs) in
    ⊎_elim
    (λ none. omega (arith, ap length (lines-one (b ∷ bs) none (omega arith))))
    (λ stops.
    let inside : k < length (b ∷ bs) = omega (arith, stops, prefix_len-le-length (λ c. not (is_feed c)) (b ∷ bs)) in
    let left : length behind ≡ length (b ∷ bs) - (k + 1) = length-drop (k + 1) (b ∷ bs) in
    omega (arith, ap length (lines-cut (b ∷ bs) inside), left, inside, lines-within-n n behind (omega (arith, left, few))))
    (cases_eq k (length (b ∷ bs)))

-- each line takes a byte at least
lines-within : (bs : List ℕ) → length (lines bs) ≤ length bs
lines-within bs = lines-within-n (length bs) bs (omega arith)

-- What was read after `s`: at most n lines more, and one for each byte that was included since then.
abbrev Grows : ReadState → ℕ → ReadState → Type 0
Grows s n t = (length t.lines + s.placed ≤ length s.lines + n + t.placed) × (s.placed ≤ 16777216 → t.placed ≤ 16777216)

abbrev Adds : ReadState → ℕ → Result ReadState TextFault → Type 0
Adds s n (Ok t) = Grows s n t
Adds s n (Err fault) = Unit {0}

adds-more : (s : ReadState) (m n : ℕ) (r : Result ReadState TextFault) → m ≤ n → Adds s m r → Adds s n r
adds-more s m n (Ok t) less h = (omega (arith, h.0, less), h.1)
adds-more s m n (Err fault) less h = tt

-- a part that changes no state comes first
adds-part : {A : Type 0} (s : ReadState) (n : ℕ) (r : Result A TextFault) (f : A → Result ReadState TextFault) → ((x : A) → Adds s n (f x)) → Adds s n (then_on r f)
adds-part s n (Ok x) f h = h x
adds-part s n (Err fault) f h = tt

adds-after : (s t : ReadState) (m n : ℕ) (r : Result ReadState TextFault) → Grows s m t → Adds t n r → Adds s (m + n) r
adds-after s t m n (Ok u) h k = (omega (arith, h.0, k.0), λ room. k.1 (h.1 room))
adds-after s t m n (Err fault) h k = tt

adds-both : (s : ReadState) (m n : ℕ) (r : Result ReadState TextFault) (f : ReadState → Result ReadState TextFault) → Adds s m r → ((t : ReadState) → Adds t n (f t)) → Adds s (m + n) (then_on r f)
adds-both s m n (Ok t) f h k = adds-after s t m n (f t) h (k t)
adds-both s m n (Err fault) f h k = tt

-- a test comes first, and a fault where it holds
adds-unless : (s : ReadState) (n : ℕ) (b : Bool) (fault : TextFault) (r : Result ReadState TextFault) → (b ≡ false → Adds s n r) → Adds s n (if b then Err fault else r)
adds-unless s n true fault r h = tt
adds-unless s n false fault r h = h refl

statement-one : (at : Place) (ts : List Token) (help : Option (List ℕ)) → length (statement at ts help) ≤ 1
statement-one at [] help = omega arith
statement-one at (t ∷ ts) help = omega arith

-- the items of a file, where including a file adds one line
module _ (outside : Environment) (place : Placing) (one : (at : Place) (wanted : List ℕ) (s : ReadState) → Adds s 1 (place at wanted s)) where
  tokens-one : (at : Place) (ts : List Token) (help : Option (List ℕ)) (s : ReadState) → Adds s 1 (tokens_read place at ts help s)
  tokens-one at ts help s =
      elim (source_path ts) as (λ o. Adds s 1 (elim o [ Some wanted ↦ place at wanted s | None ↦ Ok (with_lines (statement at ts help) s) ])) [
        | Some wanted ↦ one at wanted s
        | None ↦ (omega (arith, length-append s.lines (statement at ts help), statement-one at ts help), λ room. room)
      ]

  item-one : (at : Place) (item : ItemValue) (s : ReadState) → Adds s 1 (item_read outside place at item s)
  item-one at item s =
      adds-unless s 1 (nat_lt 65536 (length item.text)) _ _ (λ _.
      elim (definition_of item.text) as (λ o. Adds s 1 (elim o [
        | Some d ↦ then_on (at_place at (defined outside s.names d)) (λ names. Ok (with_names names s))
        | None ↦ statement_read outside place at item s
      ])) [
        | Some d ↦ adds-part s 1 (at_place at (defined outside s.names d)) _ (λ names. (omega arith, λ room. room))
        | None ↦ adds-part s 1 (at_place at (line_tokens s.names outside item.text)) _ (λ ts. tokens-one at ts item.help s)
      ])

  items-few : (path : List ℕ) (run n number : ℕ) (ls : List (List ℕ)) (s : ReadState) → Adds s (length ls) (items_read outside place path run n number ls s)
  items-few path run n number [] s = (omega arith, λ room. room)
  items-few path run (suc n) number (l ∷ ls) s = adds-more s (length ls) (suc (length ls)) _ (omega arith) (items-few path run n (suc number) ls s)
  items-few path run zero number (l ∷ ls) s =
      adds-more s (1 + length ls) (suc (length ls)) _ (omega arith)
      (adds-both s 1 (length ls) (item_read outside place (record { path = path; run = run; number = number }) (first_item (l ∷ ls)) s) _
      (item-one _ (first_item (l ∷ ls)) s)
      (λ t. items-few path run (first_item (l ∷ ls)).more (suc number) ls t))

  file-few : (path : List ℕ) (run : ℕ) (text : List ℕ) (s : ReadState) → Adds s (length text + 1) (file_read outside place path run text s)
  file-few path run text s =
      adds-more s (length (lines text) + 1) (length text + 1) _ (omega (arith, lines-within text))
      (adds-both s (length (lines text)) 1 (items_read outside place path run 0 1 (lines text) s) _
      (items-few path run 0 1 (lines text) s)
      (λ t. (omega (arith, length-append t.lines (end_of_file (record { path = path; run = run; number = length (lines text) + 1 }) ∷ [])), λ room. room)))

-- an included file
entered-one : (text : List ℕ) (s : ReadState) (r : Result ReadState TextFault) → s.placed + length text ≤ 16777216 → Adds (entered text s) (length text + 1) r → Adds s 1 r
entered-one text s (Ok t) fits h = (omega (arith, h.0), λ room. h.1 fits)
entered-one text s (Err fault) fits h = tt

text-one : (read : List ℕ → ReadState → Result ReadState TextFault) → ((text : List ℕ) (s : ReadState) → Adds s (length text + 1) (read text s))
    → (at : Place) (wanted : List ℕ) (text : Option (List ℕ)) (s : ReadState) → Adds s 1 (text_placed read at wanted text s)
text-one read few at wanted None s = tt
text-one read few at wanted (Some text) s =
    adds-unless s 1 (nat_lt 16777216 (s.placed + length text)) _ _ (λ fits.
    entered-one text s (read text (entered text s)) (grind (arith, nat_tests)) (few text (entered text s)))

placed-one : (files : List File) (outside : Environment) (n : ℕ) (around : List (List ℕ)) (at : Place) (wanted : List ℕ) (s : ReadState) → Adds s 1 (placed files outside n around at wanted s)
placed-one files outside zero around at wanted s = adds-unless s 1 (is_among wanted around) _ _ (λ _. tt)
placed-one files outside (suc n) around at wanted s =
    adds-unless s 1 (is_among wanted around) _ _ (λ _.
    adds-unless s 1 (nat_le 4096 s.followed) _ _ (λ _.
    text-one (file_read outside (placed files outside n (around ++ wanted ∷ [])) wanted (s.followed + 1))
    (λ text t. file-few outside (placed files outside n (around ++ wanted ∷ [])) (placed-one files outside n (around ++ wanted ∷ [])) wanted (s.followed + 1) text t)
    at wanted (text_of wanted files) s))

abbrev line_count : Result (List LineValue) TextFault → ℕ
line_count (Ok ls) = length ls
line_count (Err fault) = 0

few_in : (r : Result ReadState TextFault) (text : List ℕ) (ls : List LineValue) → length text ≤ MAX_BYTES → Adds nothing_read (length text + 1) r → then_on r (λ s. Ok s.lines) ≡ Ok ls → length ls ≤ MOST_LINES
few_in (Ok t) text ls within h e =
    let same : length t.lines ≡ length ls = ap line_count e in
    let put : t.placed ≤ 16777216 = h.1 (omega arith) in
    let count : length t.lines + 0 ≤ 0 + (length text + 1) + t.placed = h.0 in
    omega (arith, same, put, count, within)
few_in (Err fault) text ls within h e = cc

-- the logical lines of a top file
pub logical_lines-few : (files : List File) (outside : Environment) (top text : List ℕ) (ls : List LineValue) → text_of top files ≡ Some text → length text ≤ MAX_BYTES → logical_lines_of files outside top ≡ Ok ls → length ls ≤ MOST_LINES
logical_lines-few files outside top text ls found within e =
    few_in (file_read outside (placed files outside 63 (top ∷ [])) top 0 text nothing_read) text ls within
    (file-few outside (placed files outside 63 (top ∷ [])) (placed-one files outside 63 (top ∷ [])) top 0 text nothing_read)
    (ap (λ o. then_on (elim o [ None ↦ Err (At (MissingSource top) top 0) | Some t ↦ file_read outside (placed files outside 63 (top ∷ [])) top 0 t nothing_read ]) (λ s. Ok s.lines)) (sym found) ∙ e)
