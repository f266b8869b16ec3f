-- Files that are read item by item, and `source` lines that include files.
use Rattle.std.proofs.Common.{◌≡◌, ℕ, zero, suc, ◌+◌, ◌-◌, ◌<◌, ◌≤◌, false, ◌||◌, List, [], ◌∷◌, ◌++◌, length, drop, Option, IfSome, MatchOption, Some, None, Result, Ok, Err, Bor, refl, ap, subst, sym, ◌∙◌, arith, length-drop, length-append, drop-drop}
use Rattle.std.specs.List.{list_any}
use Rattle.std.specs.Str.{bytes_eq}
use Rattle.std.specs.Str.Lines.{lines}
use Rattle.std.proofs.lemmas.Bool.{lt-leb, le-ltb}
use Rattle.std.proofs.lemmas.List.{map-append}
use Rattle.kc_text.specs.declared.fault.TextProblem.TheVariants.{MissingSource}
use Rattle.kc_text.specs.declared.fault.TextFault.{TextFault}
use Rattle.kc_text.specs.declared.fault.TextFault.TheVariants.{At, NoMemory}
use Rattle.kc_text.specs.declared.reading.Reader.{Reader}
use Rattle.kc_text.specs.Definitions.{definition_of}
use Rattle.kc_text.specs.Expansion.{Environment, then_on, is_among}
use Rattle.kc_text.specs.Faults.{Fails}
use Rattle.kc_text.specs.FileList.{File}
use Rattle.kc_text.specs.Items.{ItemValue, first_item}
use Rattle.kc_text.specs.MoreFiles.{Extends, FailsFor, GivesOver}
use Rattle.kc_text.specs.declared.fault.LinesFault.{LinesFault}
use Rattle.kc_text.specs.declared.fault.LinesFault.TheVariants.{Text, Stopped}
use Rattle.kc_text.specs.Reading.{ReadState, Place, Placing, nothing_read, with_lines, entered, at_place, end_of_file, source_path, statement, item_read, items_read, file_read, placed, top_read}
use Rattle.kc_text.specs.Scanning.{names_of, outside_of, placing}
use Rattle.kc_text.specs.Sources.{text_of}
use Rattle.kc_text.specs.Tokens.{line_tokens}
use Rattle.kc_text.specs.declared.line.Token.{Token}
use Rattle.kc_text.proofs.ItemLines.{first_item-within}

-- a fault of a part that is one of the whole
pub fault_along : {A B : Type 0} (f : TextFault) (part : Result A TextFault) (whole : Result B TextFault) → ((g : TextFault) → part ≡ Err g → whole ≡ Err g) → Fails f part → Fails f whole
fault_along (At problem path line) part whole along h = along (At problem path line) h
fault_along NoMemory part whole along h = tt

pub fails_along : {E A B : Type 0} (fault : LinesFault E) (part : Result A TextFault) (whole : Result B TextFault) → ((g : TextFault) → part ≡ Err g → whole ≡ Err g) → FailsFor fault part → FailsFor fault whole
fails_along (Text f) part whole along h = fault_along f part whole along h
fails_along (Stopped why missing) part whole along h = (h.0, fault_along missing part whole along h.1)

-- files that extend files which extend others
pub extends_on : (files more most : List File) → Extends files more → Extends more most → Extends files most
extends_on files more most first next = λ q t found. next q t (first q t found)

-- what is so of the value that there is
pub of_some : {X : Type 0} (N : Type 0) (P : X → Type 0) (o : Option X) (x : X) → o ≡ Some x → MatchOption o N P → P x
of_some N P o x e h = subst (λ v. MatchOption v N P) e h

pub of_if_some : {X : Type 0} (P : X → Type 0) (o : Option X) (x : X) → o ≡ Some x → IfSome o P → P x
of_if_some P o x e h = subst (λ v. IfSome v P) e h

-- what a call gives is what a definition gives that is the same for any files
pub gives_as : {E A : Type 0} (result : Result (Unit {0}) (LinesFault E)) (after : A) (known : List File) (given wider : List File → Result A TextFault) → ((files : List File) → wider files ≡ given files) → GivesOver result after known given → GivesOver result after known wider
gives_as (Ok _) after known given wider same h = λ more e. same more ∙ h more e
gives_as (Err fault) after known given wider same h = fails_along fault (given known) (wider known) (λ f e. same known ∙ e) h

-- an item that is a `source` line
pub item_sources : (outside : Environment) (place : Placing) (at : Place) (item : ItemValue) (ts : List Token) (wanted : List ℕ) (s : ReadState)
    → length item.text ≤ 65536 → definition_of item.text ≡ None → at_place at (line_tokens s.names outside item.text) ≡ Ok ts → source_path ts ≡ Some wanted → item_read outside place at item s ≡ place at wanted s
item_sources outside place at item ts wanted s short none tokens source =
    rw (le-ltb 65536 (length item.text) short, none, tokens)
    (ap (λ o. elim o [ Some w ↦ place at w s | None ↦ Ok (with_lines (statement at ts item.help) s) ]) source)

-- a path is sought among those that are lent
pub is_among-names_of : (path : List ℕ) (paths : List (Bor (List ℕ))) → list_any (λ p. bytes_eq path p.now) paths ≡ is_among path (names_of paths)
is_among-names_of path [] = refl
is_among-names_of path (p ∷ ps) = ap (λ b. bytes_eq path p.now || b) (is_among-names_of path ps)

-- the items of a file
module _ (outside : Environment) (place : Placing) (path : List ℕ) (run : ℕ) where
  -- lines that belong to the item before are passed over
  items_skip : (n number : ℕ) (ls : List (List ℕ)) (s : ReadState) → items_read outside place path run n number ls s ≡ items_read outside place path run 0 (number + n) (drop n ls) s
  items_skip zero number ls s = ap (λ k. items_read outside place path run 0 k ls s) {x = number} {y = number + 0} (omega arith)
  items_skip (suc n) number [] s = refl
  items_skip (suc n) number (l ∷ ls) s =
      items_skip n (suc number) ls s ∙ ap (λ k. items_read outside place path run 0 k (drop n ls) s) {x = suc number + n} {y = number + suc n} (omega arith)

  -- an item, and then the lines behind it
  item_first : (item : ItemValue) (number : ℕ) (ls : List (List ℕ)) (s : ReadState) → 0 < length ls → item ≡ first_item ls
      → items_read outside place path run 0 number ls s
      ≡ then_on (item_read outside place (record { path = path; run = run; number = number }) item s) (λ t. items_read outside place path run item.more (suc number) (drop 1 ls) t)
  item_first item number [] s some e = absurd (omega (arith, some))
  item_first item number (l ∷ ls) s some e =
      ap (λ v. then_on (item_read outside place (record { path = path; run = run; number = number }) v s) (λ t. items_read outside place path run v.more (suc number) ls t)) (sym e)

-- the lines of a file from a number on, and one item, where the files `around` are open
abbrev lines_read : List File → Reader → List (Bor (List ℕ)) → List ℕ → ℕ → ℕ → ℕ → List (List ℕ) → ReadState → Result ReadState TextFault
lines_read files reader around path run n number ls s = items_read (outside_of reader) (placing files reader around) path run n number ls s

abbrev item_at : List File → Reader → List (Bor (List ℕ)) → List ℕ → ℕ → ℕ → ItemValue → ReadState → Result ReadState TextFault
item_at files reader around path run number item s = item_read (outside_of reader) (placing files reader around) (record { path = path; run = run; number = number }) item s

-- the item at the front of the lines `now`, which are left of the lines of a text, where the files `around` are open, as `before` were
module _ (files : List File) (reader : Reader) (before around : List (Bor (List ℕ))) (same : around ≡ before) (path : List ℕ) (run : ℕ) (text : List ℕ) (now : List (List ℕ)) (number : ℕ) (start s : ReadState) (item : ItemValue) (some : 0 < length now) (first : item ≡ first_item now)
    (reads : lines_read files reader before path run 0 1 (lines text) start ≡ lines_read files reader before path run 0 number now s) where
  item_here : lines_read files reader before path run 0 1 (lines text) start ≡ then_on (item_at files reader around path run number item s) (λ t. lines_read files reader before path run item.more (suc number) (drop 1 now) t)
  item_here =
      reads ∙ item_first (outside_of reader) (placing files reader before) path run item number now s some first
      ∙ ap (λ paths. then_on (item_at files reader paths path run number item s) (λ t. lines_read files reader before path run item.more (suc number) (drop 1 now) t)) (sym same)

  pub lines_go_on : (t : ReadState) (behind : List (List ℕ)) → behind ≡ drop (item.more + 1) now → item_at files reader around path run number item s ≡ Ok t
      → lines_read files reader before path run 0 1 (lines text) start ≡ lines_read files reader before path run 0 (number + (item.more + 1)) behind t
  lines_go_on t behind rest e =
      let back : drop item.more (drop 1 now) ≡ behind = drop-drop item.more 1 now ∙ ap (λ k. drop k now) {x = 1 + item.more} {y = item.more + 1} (omega arith) ∙ sym rest in
      let next : suc number + item.more ≡ number + (item.more + 1) = omega arith in
      item_here ∙ ap (λ r. then_on r (λ u. lines_read files reader before path run item.more (suc number) (drop 1 now) u)) e
      ∙ items_skip (outside_of reader) (placing files reader before) path run item.more (suc number) (drop 1 now) t
      ∙ (λ k. lines_read files reader before path run 0 (next k) (back k) t)

  pub lines_fail : (f : TextFault) → item_at files reader around path run number item s ≡ Err f → file_read (outside_of reader) (placing files reader before) path run text start ≡ Err f
  lines_fail f e =
      ap (λ r. then_on r (λ t. Ok (with_lines (end_of_file (record { path = path; run = run; number = length (lines text) + 1 }) ∷ []) t)))
      (item_here ∙ ap (λ r. then_on r (λ u. lines_read files reader before path run item.more (suc number) (drop 1 now) u)) e)

  -- so many lines are left
  pub lines_left : (behind : List (List ℕ)) → behind ≡ drop (item.more + 1) now → number + length now ≡ length (lines text) + 1 → number + (item.more + 1) + length behind ≡ length (lines text) + 1
  lines_left behind rest count =
      let inside : item.more < length now = subst (λ v. v.more < length now) (sym first) (first_item-within now some) in
      omega (arith, ap length rest, length-drop (item.more + 1) now, count, inside)

-- behind the last line stands the end of the file
pub lines_end : (outside : Environment) (place : Placing) (path : List ℕ) (run : ℕ) (text : List ℕ) (now : List (List ℕ)) (number : ℕ) (s t : ReadState)
    → now ≡ [] → number + length now ≡ length (lines text) + 1 → items_read outside place path run 0 1 (lines text) s ≡ items_read outside place path run 0 number now t
    → file_read outside place path run text s ≡ Ok (with_lines (end_of_file (record { path = path; run = run; number = number }) ∷ []) t)
lines_end outside place path run text now number s t none count reads =
    let last : length (lines text) + 1 ≡ number = omega (arith, count, ap length none) in
    ap (λ r. then_on r (λ u. Ok (with_lines (end_of_file (record { path = path; run = run; number = length (lines text) + 1 }) ∷ []) u)))
    (reads ∙ ap (λ ls. items_read outside place path run 0 number ls t) none)
    ∙ ap (λ n. Ok (with_lines (end_of_file (record { path = path; run = run; number = n }) ∷ []) t)) last

-- the file of a path that a `source` line names is included: `pushed` are the paths around with its own
pub source_reads : (files : List File) (reader : Reader) (around pushed : List (Bor (List ℕ))) (at : Place) (wanted : List ℕ) (path : Bor (List ℕ)) (text : List ℕ) (s : ReadState)
    → is_among wanted (names_of around) ≡ false → length around < 64 → s.followed < 4096 → path.now ≡ wanted → text_of wanted files ≡ Some text → s.placed + length text ≤ 16777216 → pushed ≡ around ++ path ∷ []
    → placing files reader around at wanted s ≡ file_read (outside_of reader) (placing files reader pushed) path.now (s.followed + 1) text (entered text s)
source_reads files reader around pushed at wanted path text s new room often same found fits grown =
    let more : names_of pushed ≡ names_of around ++ wanted ∷ [] = ap names_of grown ∙ map-append (λ t. t.now) around (path ∷ []) ∙ ap (λ p. names_of around ++ p ∷ []) same in
    let one_more : 64 - length around ≡ suc (64 - length pushed) = omega (arith, ap length grown, length-append around (path ∷ []), room) in
    let deeper : placed files (outside_of reader) (suc (64 - length pushed)) (names_of around) at wanted s
    ≡ file_read (outside_of reader) (placed files (outside_of reader) (64 - length pushed) (names_of around ++ wanted ∷ [])) wanted (s.followed + 1) text (entered text s) =
    rw (new, lt-leb 4096 s.followed often, found, le-ltb 16777216 (s.placed + length text) fits) refl in
    ap (λ n. placed files (outside_of reader) n (names_of around) at wanted s) one_more ∙ deeper
    ∙ (λ i. file_read (outside_of reader) (placed files (outside_of reader) (64 - length pushed) (sym more i)) (sym same i) (s.followed + 1) text (entered text s))

-- the top file is the only one that is open
pub top_reads : (files : List File) (reader : Reader) (top : List ℕ) (path : Bor (List ℕ)) (text : List ℕ) (around : List (Bor (List ℕ))) (s : ReadState)
    → path.now ≡ top → text_of top files ≡ Some text → around ≡ path ∷ [] → s ≡ nothing_read
    → top_read files (outside_of reader) top ≡ file_read (outside_of reader) (placing files reader around) path.now 0 text s
top_reads files reader top path text around s same found one none =
    ap (λ o. elim o [ None ↦ Err (At (MissingSource top) top 0) | Some t ↦ file_read (outside_of reader) (placed files (outside_of reader) 63 (top ∷ [])) top 0 t nothing_read ]) found
    ∙ (λ i. file_read (outside_of reader) (placed files (outside_of reader) 63 (sym same i ∷ [])) (sym same i) 0 text (sym none i))
    ∙ ap (λ paths. file_read (outside_of reader) (placing files reader paths) path.now 0 text s) (sym one)
