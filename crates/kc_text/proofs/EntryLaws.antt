-- The flat list of what is read gives what reading step by step does.
use Rattle.std.proofs.Common.{◌≡◌, ◌∙◌, ℕ, zero, suc, ◌+◌, ◌-◌, ◌<◌, ◌≤◌, nat_le, nat_lt, Bool, true, false, if◌then◌else◌, ◌⊎◌, inl, inr, List, [], ◌∷◌, ◌++◌, length, map, Option, Some, None, Result, Ok, Err, refl, ap, sym, subst, arith, append_assoc, length-append}
use Rattle.std.specs.Result.{IfOk, IfErr}
use Rattle.std.specs.Str.Lines.{lines}
use Rattle.std.proofs.lemmas.Bool.{lt-leb, le-leb}
use Rattle.std.proofs.lemmas.Bool.Decides.{nat_tests}
use Rattle.std.proofs.lemmas.Grind.{flat_map-append}
use Rattle.std.proofs.lemmas.List.{append-nil}
use Rattle.std.proofs.lemmas.List.Elements.{filter_map-append}
use Rattle.std.proofs.lemmas.List.Sums.{sum_by_push}
use Rattle.kc_text.specs.declared.line.Token.{Token}
use Rattle.kc_text.specs.declared.line.Token.TheVariants.{Quoted}
use Rattle.kc_text.specs.declared.fault.TextProblem.{TextProblem}
use Rattle.kc_text.specs.declared.fault.TextProblem.TheVariants.{Limit, MissingSource, RecursiveSource, UnclosedQuote}
use Rattle.kc_text.specs.declared.fault.TextFault.{TextFault}
use Rattle.kc_text.specs.declared.fault.TextFault.TheVariants.{At, NoMemory}
use Rattle.kc_text.specs.declared.variables.Assignment.{Assignment}
use Rattle.kc_text.specs.declared.variables.Assignment.TheVariants.{Later, AtOnce, Append}
use Rattle.kc_text.specs.declared.variables.Definition.{Definition}
use Rattle.kc_text.specs.declared.variables.Value.TheVariants.{Recursive, Simple}
use Rattle.kc_text.specs.FileList.{File}
use Rattle.kc_text.specs.Sources.{text_of}
use Rattle.kc_text.specs.LineValue.{LineValue}
use Rattle.kc_text.specs.Faults.{Fails, GivesBy}
use Rattle.kc_text.specs.References.{Piece, byte, value_pieces}
use Rattle.kc_text.specs.Lexing.{Raw, word, quoted, operator, unclosed, not_allowed, raw_tokens}
use Rattle.kc_text.specs.Expansion.{Names, Environment, then_on, is_among, start, expansion}
use Rattle.kc_text.specs.Tokens.{before, word_of, token_of, tokens_of}
use Rattle.kc_text.specs.Definitions.{definition_of, with, with_text, text_behind, appended_at_once, assigned, defined}
use Rattle.kc_text.specs.Items.{ItemValue}
use Rattle.kc_text.specs.Reading.{ReadState, nothing_read, with_lines, with_names, entered, Place, fault_at, at_place, statement, end_of_file, source_path, Placing, tokens_read, statement_read, item_read, file_read, text_placed, placed, logical_lines_of}
use Rattle.kc_text.specs.Steps.{text_steps, all_steps, text_by}
use Rattle.kc_text.specs.ItemLists.{ItemLines, lines_in, text_in, AreItems, value_of}
use Rattle.kc_text.specs.Meanings.{AreMeanings}
use Rattle.kc_text.specs.Entries.{Entry, shows, defines, places, shown_by, defined_by, is_placing, bytes_by, shown_in, definitions_in, followed_in, placed_in, file_end, Answer, entry, wants, problem_in, added_problem, value_problem, token_by, all_ok, tokens_answer, item_answer, Answers, room_answer, source_answer, Reads, ended, plain, fails, refused, stopped, sourced, TopReads, AreLines, HasOneReading, IsFirstTextFault, no_top, at_line, IsTextFault}
use Rattle.kc_text.proofs.StepLaws.{then_same, then_twice, expansion_law}
use Rattle.kc_text.proofs.ItemLaws.{some_items, items_done, items_are_done}
use Rattle.kc_text.proofs.MeaningLaws.{same_ok, then_ok, names_from, names_after, names_from-append, front_names, meanings_law}
use Rattle.kc_text.proofs.ShownLaws.{shown, only_shown}

-- what follows the text of parts
text_same : {B : Type 0} (names : Names) (outside : Environment) (ps : List Piece) (f : List ℕ → Result B TextProblem)
    → then_on (expansion names outside ps start) (λ p. f p.text) ≡ then_on (text_by names outside ps) f
text_same names outside ps f =
    ap (λ r. then_on r (λ p. f p.text)) (expansion_law outside names ps start)
    ∙ sym (then_twice (all_steps start (text_steps names outside ps)) (λ p. Ok p.text) f)

-- a token, by the steps of its text
token_same : (names : Names) (outside : Environment) (r : Raw) → token_of names outside r ≡ token_by names outside r
token_same names outside (word ps) = text_same names outside ps (λ text. Ok (word_of ps text))
token_same names outside (quoted ps) = text_same names outside ps (λ text. Ok (Quoted text))
token_same names outside (operator o) = refl
token_same names outside (unclosed ps) = text_same names outside ps (λ _. Err UnclosedQuote)
token_same names outside not_allowed = refl

before_same : {A : Type 0} (x : A) (r : Result (List A) TextProblem) → before x r ≡ then_on r (λ xs. Ok (x ∷ xs))
before_same x (Ok xs) = refl
before_same x (Err e) = refl

tokens_same : (names : Names) (outside : Environment) (rs : List Raw) → tokens_of names outside rs ≡ all_ok (map (token_by names outside) rs)
tokens_same names outside [] = refl
tokens_same names outside (r ∷ rs) =
    (λ k. then_on (token_same names outside r k) (λ t. before t (tokens_same names outside rs k)))
    ∙ then_same (token_by names outside r) _ _ (λ t. before_same t (all_ok (map (token_by names outside) rs)))

-- the problem of a definition
problem_then : {A B : Type 0} (r : Result A TextProblem) (f : A → B) → problem_in {A = B} (then_on r (λ x. Ok (f x))) ≡ problem_in r
problem_then (Ok x) f = refl
problem_then (Err e) f = refl

text_problem : (outside : Environment) (names : Names) (name text value : List ℕ) → problem_in (appended_at_once outside names name text value) ≡ added_problem outside names value (Some (Simple text))
text_problem outside names name text value =
    problem_then (text_behind outside names text value) (λ p. with name (Simple p.text) names)
    ∙ ap problem_in (expansion_law outside names (byte 32 ∷ value_pieces value) (record { text = text; followed = 0 }))

-- a definition has the problem of its value
value_law : (outside : Environment) (names : Names) (a : Assignment) (name value : List ℕ) → problem_in (assigned outside names a name value) ≡ value_problem outside names a name value
value_law outside names Later name value = refl
value_law outside names AtOnce name value =
    ap (λ r. problem_in (with_text name names r)) (expansion_law outside names (value_pieces value) start)
    ∙ problem_then (all_steps start (text_steps names outside (value_pieces value))) (λ p. with name (Simple p.text) names)
    ∙ sym (problem_then (all_steps start (text_steps names outside (value_pieces value))) (λ p. p.text))
value_law outside names Append name value =
    elim (names name) as (λ o. problem_in {A = Names} (elim o [
      | None ↦ Ok (with name (Recursive value) names)
      | Some (Recursive text) ↦ Ok (with name (Recursive (text ++ 32 ∷ value)) names)
      | Some (Simple text) ↦ appended_at_once outside names name text value
    ]) ≡ added_problem outside names value o) [
      | None ↦ refl
      | Some (Recursive text) ↦ refl
      | Some (Simple text) ↦ text_problem outside names name text value
    ]

-- reading what an item asks for
abbrev entry_read : Environment → Place → ReadState → Entry → Result ReadState TextFault
entry_read outside at s (shows ls) = Ok (with_lines ls s)
entry_read outside at s (defines d) = then_on (at_place at (defined outside s.names d)) (λ names. Ok (with_names names s))
entry_read outside at s (places text) = Ok (entered text s)

abbrev answer_read : Environment → Placing → Place → ReadState → Result Answer TextProblem → Result ReadState TextFault
answer_read outside place at s (Ok (entry e)) = entry_read outside at s e
answer_read outside place at s (Ok (wants w)) = place at w s
answer_read outside place at s (Err problem) = Err (fault_at at problem)

module _ (outside : Environment) (place : Placing) (at : Place) (s : ReadState) where
  tokens_law : (help : Option (List ℕ)) (r : Result (List Token) TextProblem)
      → then_on (at_place at r) (λ ts. tokens_read place at ts help s) ≡ answer_read outside place at s (then_on r (λ ts. Ok (tokens_answer at help ts)))
  tokens_law help (Ok ts) =
      elim (source_path ts) as (λ o. ◌≡◌ {A = Result ReadState TextFault} (elim o [ Some wanted ↦ place at wanted s | None ↦ Ok (with_lines (statement at ts help) s) ])
      (answer_read outside place at s (Ok (elim o [ Some wanted ↦ wants wanted | None ↦ entry (shows (statement at ts help)) ])))) [
        | Some wanted ↦ refl
        | None ↦ refl
      ]
  tokens_law help (Err problem) = refl

  statement_law : (item : ItemValue)
      → statement_read outside place at item s ≡ answer_read outside place at s (then_on (all_ok (map (token_by s.names outside) (raw_tokens item.text))) (λ ts. Ok (tokens_answer at item.help ts)))
  statement_law item =
      ap (λ r. then_on (at_place at r) (λ ts. tokens_read place at ts item.help s)) (tokens_same s.names outside (raw_tokens item.text))
      ∙ tokens_law item.help (all_ok (map (token_by s.names outside) (raw_tokens item.text)))

  definition_by : (d : Definition) (r : Result Names TextProblem) → defined outside s.names d ≡ r
      → then_on (at_place at r) (λ names. Ok (with_names names s)) ≡ answer_read outside place at s (elim (problem_in r) [ Some problem ↦ Err problem | None ↦ Ok (entry (defines d)) ])
  definition_by d (Ok names) e = ap (λ r. then_on (at_place at r) (λ names. Ok (with_names names s))) (sym e)
  definition_by d (Err problem) e = refl

  definition_law : (d : Definition)
      → then_on (at_place at (defined outside s.names d)) (λ names. Ok (with_names names s))
      ≡ answer_read outside place at s (elim (value_problem outside s.names d.assignment d.name d.value) [ Some problem ↦ Err problem | None ↦ Ok (entry (defines d)) ])
  definition_law d =
      definition_by d (defined outside s.names d) refl
      ∙ ap (λ o. answer_read outside place at s (elim o [ Some problem ↦ Err problem | None ↦ Ok (entry (defines d)) ])) (value_law outside s.names d.assignment d.name d.value)

  short_law : (item : ItemValue) (o : Option Definition)
      → ◌≡◌ {A = Result ReadState TextFault} (elim o [
        | Some d ↦ then_on (at_place at (defined outside s.names d)) (λ names. Ok (with_names names s))
        | None ↦ statement_read outside place at item s
      ]) (answer_read outside place at s (elim o [
        | Some d ↦ (elim (value_problem outside s.names d.assignment d.name d.value) [ Some problem ↦ Err problem | None ↦ Ok (entry (defines d)) ])
        | None ↦ then_on (all_ok (map (token_by s.names outside) (raw_tokens item.text))) (λ ts. Ok (tokens_answer at item.help ts))
      ]))
  short_law item (Some d) = definition_law d
  short_law item None = statement_law item

  item_by : (item : ItemValue) (long : Bool) (x : Result ReadState TextFault) (y : Result Answer TextProblem) → x ≡ answer_read outside place at s y
      → (if long then Err (fault_at at Limit) else x) ≡ answer_read outside place at s (if long then Err Limit else y)
  item_by item true x y h = refl
  item_by item false x y h = h

  -- an item is read as its answer says
  item_law : (item : ItemValue) → item_read outside place at item s ≡ answer_read outside place at s (item_answer outside s.names at item (raw_tokens item.text))
  item_law item = item_by item (nat_lt 65536 (length item.text)) _ _ (short_law item (definition_of item.text))

  answers_law : (i : ItemLines) (a : Result Answer TextProblem) → Answers outside s.names at i a → item_read outside place at (value_of i) s ≡ answer_read outside place at s a
  answers_law i a h =
      item_law (value_of i) ∙ ap (λ rs. answer_read outside place at s (item_answer outside s.names at (value_of i) rs)) (only_shown h.1)
      ∙ ap (answer_read outside place at s) h.2

-- a file is included as the answer of its `source` line says
abbrev source_read : List File → Environment → List (List ℕ) → Place → List ℕ → ReadState → Result (List ℕ) TextProblem → Result ReadState TextFault
source_read files outside around at w s (Ok text) = file_read outside (placed files outside (64 - length (around ++ w ∷ [])) (around ++ w ∷ [])) w (s.followed + 1) text (entered text s)
source_read files outside around at w s (Err problem) = Err (fault_at at problem)

-- what was read with some entries, where names mean `names`
abbrev read_as : Names → List Entry → ReadState
read_as names es = record { lines = shown_in es; names = names; followed = followed_in es; placed = placed_in es }

-- a test with a problem, seen in another way
unless_same : {A B E F : Type 0} (b : Bool) (e : E) (x : Result A E) (f : F) (y : Result B F) (view : Result B F → Result A E) → view (Err f) ≡ Err e → x ≡ view y
    → (if b then Err e else x) ≡ view (if b then Err f else y)
unless_same true e x f y view first h = sym first
unless_same false e x f y view first h = h

module _ (files : List File) (outside : Environment) (around : List (List ℕ)) (at : Place) (w : List ℕ) (names : Names) (es : List Entry) where
  room_law : (n : ℕ) → n ≡ 64 - length (around ++ w ∷ []) → (o : Option (List ℕ))
      → text_placed (file_read outside (placed files outside n (around ++ w ∷ [])) w (followed_in es + 1)) at w o (read_as names es)
      ≡ source_read files outside around at w (read_as names es) (room_answer es w o)
  room_law n e None = refl
  room_law n e (Some text) =
      unless_same (nat_lt 16777216 (placed_in es + length text)) (fault_at at Limit) _ Limit (Ok text) (source_read files outside around at w (read_as names es)) refl
      (ap (λ k. file_read outside (placed files outside k (around ++ w ∷ [])) w (followed_in es + 1) text (entered text (read_as names es))) e)

  source_law_at : (n : ℕ) → n ≡ 64 - length around
      → placed files outside n around at w (read_as names es) ≡ source_read files outside around at w (read_as names es) (source_answer files es around w)
  source_law_at zero e =
      unless_same (is_among w around) (fault_at at RecursiveSource) _ RecursiveSource _ (source_read files outside around at w (read_as names es)) refl
      (ap (λ b. source_read files outside around at w (read_as names es) (if b then Err Limit else (if nat_le 4096 (followed_in es) then Err Limit else room_answer es w (text_of w files)))) (sym (le-leb 64 (length around) (omega (arith, e)))))
  source_law_at (suc n) e =
      let inner : n ≡ 64 - length (around ++ w ∷ []) = omega (arith, e, length-append around (w ∷ [])) in
      unless_same (is_among w around) (fault_at at RecursiveSource) _ RecursiveSource _ (source_read files outside around at w (read_as names es)) refl
      (unless_same (nat_le 4096 (followed_in es)) (fault_at at Limit) _ Limit (room_answer es w (text_of w files)) (source_read files outside around at w (read_as names es)) refl
      (room_law n inner (text_of w files))
      ∙ ap (λ b. source_read files outside around at w (read_as names es) (if b then Err Limit else (if nat_le 4096 (followed_in es) then Err Limit else room_answer es w (text_of w files)))) (sym (lt-leb 64 (length around) (omega (arith, e)))))

  source_law : placed files outside (64 - length around) around at w (read_as names es) ≡ source_read files outside around at w (read_as names es) (source_answer files es around w)
  source_law = source_law_at (64 - length around) refl

-- what was read with one entry more
with_shown : (names : Names) (es : List Entry) (ls : List LineValue) → with_lines ls (read_as names es) ≡ read_as names (es ++ shows ls ∷ [])
with_shown names es ls =
    let all : shown_in es ++ ls ≡ shown_in (es ++ shows ls ∷ []) = ap (λ k. shown_in es ++ k) (sym (append-nil ls)) ∙ sym (flat_map-append shown_by es (shows ls ∷ [])) in
    let count : followed_in es ≡ followed_in (es ++ shows ls ∷ []) = omega (arith, sum_by_push (λ x. if is_placing x then 1 else 0) es (shows ls)) in
    let bytes : placed_in es ≡ placed_in (es ++ shows ls ∷ []) = omega (arith, sum_by_push bytes_by es (shows ls)) in
    λ k. record { lines = all k; names = names; followed = count k; placed = bytes k }

with_defined : (names after : Names) (es : List Entry) (d : Definition) → with_names after (read_as names es) ≡ read_as after (es ++ defines d ∷ [])
with_defined names after es d =
    let all : shown_in es ≡ shown_in (es ++ defines d ∷ []) = sym (append-nil (shown_in es)) ∙ sym (flat_map-append shown_by es (defines d ∷ [])) in
    let count : followed_in es ≡ followed_in (es ++ defines d ∷ []) = omega (arith, sum_by_push (λ x. if is_placing x then 1 else 0) es (defines d)) in
    let bytes : placed_in es ≡ placed_in (es ++ defines d ∷ []) = omega (arith, sum_by_push bytes_by es (defines d)) in
    λ k. record { lines = all k; names = after; followed = count k; placed = bytes k }

with_placed : (names : Names) (es : List Entry) (text : List ℕ) → entered text (read_as names es) ≡ read_as names (es ++ places text ∷ [])
with_placed names es text =
    let all : shown_in es ≡ shown_in (es ++ places text ∷ []) = sym (append-nil (shown_in es)) ∙ sym (flat_map-append shown_by es (places text ∷ [])) in
    let count : followed_in es + 1 ≡ followed_in (es ++ places text ∷ []) = sym (sum_by_push (λ x. if is_placing x then 1 else 0) es (places text)) in
    let bytes : placed_in es + length text ≡ placed_in (es ++ places text ∷ []) = sym (sum_by_push bytes_by es (places text)) in
    λ k. record { lines = all k; names = names; followed = count k; placed = bytes k }

-- what names mean after entries, by their definitions one by one
abbrev reached : Environment → List Entry → Result Names TextProblem
reached outside es = names_after outside (definitions_in es)

-- entries one after another
reached-append : (outside : Environment) (es fs : List Entry) → reached outside (es ++ fs) ≡ then_on (reached outside es) (λ m. names_from outside m (definitions_in fs))
reached-append outside es fs =
    ap (names_after outside) (filter_map-append defined_by es fs) ∙ names_from-append outside (λ _. None) (definitions_in es) (definitions_in fs)

-- a definition that an item is read as has no problem
abbrev IsDefined : Environment → Names → Entry → Type 0
IsDefined outside names (shows ls) = Unit {0}
IsDefined outside names (defines d) = (m : Names) × (defined outside names d ≡ Ok m)
IsDefined outside names (places text) = Unit {0}

abbrev IsDefinedIn : Environment → Names → Result Answer TextProblem → Type 0
IsDefinedIn outside names (Ok (entry e)) = IsDefined outside names e
IsDefinedIn outside names (Ok (wants w)) = Unit {0}
IsDefinedIn outside names (Err problem) = Unit {0}

-- what has no problem gives a value
defined_without : {A : Type 0} (r : Result A TextProblem) → problem_in r ≡ None → (x : A) × (r ≡ Ok x)
defined_without (Ok x) e = (x, refl)
defined_without (Err problem) e = cc

module _ (outside : Environment) (names : Names) (at : Place) where
  is_defined-tokens : (help : Option (List ℕ)) (r : Result (List Token) TextProblem) → IsDefinedIn outside names (then_on r (λ ts. Ok (tokens_answer at help ts)))
  is_defined-tokens help (Ok ts) = elim (source_path ts) as (λ o. IsDefinedIn outside names (Ok (elim o [ Some wanted ↦ wants wanted | None ↦ entry (shows (statement at ts help)) ]))) [ Some wanted ↦ tt | None ↦ tt ]
  is_defined-tokens help (Err problem) = tt

  is_defined-definition : (d : Definition) → IsDefinedIn outside names (elim (value_problem outside names d.assignment d.name d.value) [ Some problem ↦ Err problem | None ↦ Ok (entry (defines d)) ])
  is_defined-definition d =
      elim (value_problem outside names d.assignment d.name d.value) as (λ o. problem_in (defined outside names d) ≡ o → IsDefinedIn outside names (elim o [ Some problem ↦ Err problem | None ↦ Ok (entry (defines d)) ])) [
        | Some problem ↦ λ _. tt
        | None ↦ λ e. defined_without (defined outside names d) e
      ] (value_law outside names d.assignment d.name d.value)

  is_defined-short : (item : ItemValue) (rs : List Raw) (o : Option Definition)
      → IsDefinedIn outside names (elim o [
        | Some d ↦ (elim (value_problem outside names d.assignment d.name d.value) [ Some problem ↦ Err problem | None ↦ Ok (entry (defines d)) ])
        | None ↦ then_on (all_ok (map (token_by names outside) rs)) (λ ts. Ok (tokens_answer at item.help ts))
      ])
  is_defined-short item rs (Some d) = is_defined-definition d
  is_defined-short item rs None = is_defined-tokens item.help (all_ok (map (token_by names outside) rs))

  is_defined-unless : (long : Bool) (a : Result Answer TextProblem) → IsDefinedIn outside names a → IsDefinedIn outside names (if long then Err Limit else a)
  is_defined-unless true a h = tt
  is_defined-unless false a h = h

  is_defined : (i : ItemLines) (a : Result Answer TextProblem) → Answers outside names at i a → IsDefinedIn outside names a
  is_defined i a h =
      subst (IsDefinedIn outside names) h.2
      (is_defined-unless (nat_lt 65536 (length (text_in i))) _ (is_defined-short (value_of i) h.0 (definition_of (text_in i))))

-- what was read with an entry more: what names mean then, and the state
record OneMore (outside : Environment) (names : Names) (es : List Entry) (e : Entry) : Type 0 where
  after : Names
  reaches : reached outside (es ++ e ∷ []) ≡ Ok after
  reads : (at : Place) → entry_read outside at (read_as names es) e ≡ Ok (read_as after (es ++ e ∷ []))

-- an entry more is read
one_more : (outside : Environment) (names : Names) (es : List Entry) (e : Entry) → reached outside es ≡ Ok names → IsDefined outside names e → OneMore outside names es e
one_more outside names es (shows ls) r h = record {
  after = names;
  reaches = reached-append outside es (shows ls ∷ []) ∙ ap (λ x. then_on x (λ m. Ok m)) r;
  reads = λ at. ap Ok (with_shown names es ls);
}
one_more outside names es (defines d) r h = record {
  after = h.0;
  reaches = reached-append outside es (defines d ∷ []) ∙ ap (λ x. then_on x (λ m. then_on (defined outside m d) (λ n. Ok n))) r ∙ ap (λ x. then_on x (λ n. Ok n)) h.1;
  reads = λ at. ap (λ x. then_on (at_place at x) (λ m. Ok (with_names m (read_as names es)))) h.1 ∙ ap Ok (with_defined names h.0 es d);
}
one_more outside names es (places text) r h = record {
  after = names;
  reaches = reached-append outside es (places text ∷ []) ∙ ap (λ x. then_on x (λ m. Ok m)) r;
  reads = λ at. ap Ok (with_placed names es text);
}

-- what reading gives that ends after entries, or has a fault
abbrev ending : Names → List Entry → Option TextFault → Result ReadState TextFault
ending names es None = Ok (read_as names es)
ending names es (Some fault) = Err fault

-- `means` says what names mean after the first of some entries
abbrev Agrees : Environment → (List Entry → Names) → List Entry → Type 0
Agrees outside means whole = (front rest : List Entry) (names : Names) → whole ≡ front ++ rest → reached outside front ≡ Ok names → means front ≡ names

module _ (files : List File) (outside : Environment) (means : List Entry → Names) (whole : List Entry) (agrees : Agrees outside means whole) where
  -- reading items step by step, after entries and as far as other entries, comes to the same
  record Given (before : List Entry) (around : List (List ℕ)) (path : List ℕ) (run number : ℕ) (is : List ItemLines) (es : List Entry) (f : Option TextFault) : Type 0 where
    reads : items_done outside (placed files outside (64 - length around) around) path run number is (read_as (means before) before) ≡ ending (means es) es f
    reaches : reached outside es ≡ Ok (means es)

  given_none : (before : List Entry) (around : List (List ℕ)) (path : List ℕ) (run number : ℕ) (is : List ItemLines) (f : Option TextFault) → reached outside before ≡ Ok (means before)
      → items_done outside (placed files outside (64 - length around) around) path run number is (read_as (means before) before) ≡ ending (means before) before f
      → Given before around path run number is (before ++ []) f
  given_none before around path run number is f r h =
      subst (λ es. Given before around path run number is es f) (sym (append-nil before)) (record { reads = h; reaches = r })

  -- an entry more
  one_read : (before : List Entry) (e : Entry) (rest : List Entry) → whole ≡ (before ++ e ∷ []) ++ rest → reached outside before ≡ Ok (means before) → IsDefined outside (means before) e
      → (reached outside (before ++ e ∷ []) ≡ Ok (means (before ++ e ∷ []))) × ((at : Place) → entry_read outside at (read_as (means before) before) e ≡ Ok (read_as (means (before ++ e ∷ [])) (before ++ e ∷ [])))
  one_read before e rest w r h =
      let more = one_more outside (means before) before e r h in
      let same = agrees (before ++ e ∷ []) rest more.after w more.reaches in
      (more.reaches ∙ ap Ok (sym same), λ at. more.reads at ∙ ap (λ m. Ok (read_as m (before ++ e ∷ []))) (sym same))

  -- an included file
  file_given : (around : List (List ℕ)) (path : List ℕ) (run : ℕ) (text : List ℕ) (js : List ItemLines) (s : ReadState) (es inner : List Entry) (f : Option TextFault) → AreItems (lines text) js
      → s ≡ read_as (means es) es → Given es around path run 1 js inner f
      → file_read outside (placed files outside (64 - length around) around) path run text s
      ≡ then_on (ending (means inner) inner f) (λ t. Ok (with_lines (end_of_file (record { path = path; run = run; number = length (lines text) + 1 }) ∷ []) t))
  file_given around path run text js s es inner f are same given =
      let place = placed files outside (64 - length around) around in
      ap (λ x. then_on x (λ t. Ok (with_lines (end_of_file (record { path = path; run = run; number = length (lines text) + 1 }) ∷ []) t)))
      (items_are_done outside place path run 1 (lines text) js s are ∙ ap (items_done outside place path run 1 js) same ∙ given.reads)

  enters : (before : List Entry) (text : List ℕ) (rest : List Entry) → whole ≡ (before ++ places text ∷ []) ++ rest → reached outside before ≡ Ok (means before)
      → (reached outside (before ++ places text ∷ []) ≡ Ok (means (before ++ places text ∷ []))) × (entered text (read_as (means before) before) ≡ read_as (means (before ++ places text ∷ [])) (before ++ places text ∷ []))
  enters before text rest w r =
      let reaches : reached outside (before ++ places text ∷ []) ≡ Ok (means before) = reached-append outside before (places text ∷ []) ∙ ap (λ x. then_on x (λ m. Ok m)) r in
      let same = agrees (before ++ places text ∷ []) rest (means before) w reaches in
      (reaches ∙ ap Ok (sym same), with_placed (means before) before text ∙ ap (λ m. read_as m (before ++ places text ∷ [])) (sym same))

  -- what entries are derived is what reading gives
  gives : {before : List Entry} {around : List (List ℕ)} {path : List ℕ} {run number : ℕ} {is : List ItemLines} {es : List Entry} {f : Option TextFault}
      → Reads files outside means before around path run number is es f → (rest : List Entry) → whole ≡ (before ++ es) ++ rest → reached outside before ≡ Ok (means before)
      → Given before around path run number is (before ++ es) f
  gives {before = before} {around = around} {path = path} {run = run} {number = number} ended rest w r = given_none before around path run number [] None r refl
  gives {before = before} {around = around} {path = path} {run = run} {number = number} (plain {i = i} {is = is} {e = e} {es = es} {f = f} answer next) rest w r =
      let place = placed files outside (64 - length around) around in
      let at : Place = record { path = path; run = run; number = number } in
      let along : whole ≡ ((before ++ e ∷ []) ++ es) ++ rest = w ∙ ap (λ x. x ++ rest) (sym (append_assoc before (e ∷ []) es)) in
      let one = one_read before e (es ++ rest) (along ∙ append_assoc (before ++ e ∷ []) es rest) r (is_defined outside (means before) at i (Ok (entry e)) answer) in
      let more = gives next rest along one.0 in
      subst (λ fs. Given before around path run number (i ∷ is) fs f) (append_assoc before (e ∷ []) es)
      (record {
        reads = ap (λ x. then_on x (λ t. items_done outside place path run (number + length (lines_in i)) is t)) (answers_law outside place at (read_as (means before) before) i (Ok (entry e)) answer ∙ one.1 at) ∙ more.reads;
        reaches = more.reaches;
      })
  gives {before = before} {around = around} {path = path} {run = run} {number = number} (fails {i = i} {is = is} {problem = problem} answer) rest w r =
      let place = placed files outside (64 - length around) around in
      let at : Place = record { path = path; run = run; number = number } in
      given_none before around path run number (i ∷ is) (Some (At problem path number)) r
      (ap (λ x. then_on x (λ t. items_done outside place path run (number + length (lines_in i)) is t)) (answers_law outside place at (read_as (means before) before) i (Err problem) answer))
  gives {before = before} {around = around} {path = path} {run = run} {number = number} (refused {i = i} {is = is} {w = p} {problem = problem} answer source) rest w r =
      let place = placed files outside (64 - length around) around in
      let at : Place = record { path = path; run = run; number = number } in
      given_none before around path run number (i ∷ is) (Some (At problem path number)) r
      (ap (λ x. then_on x (λ t. items_done outside place path run (number + length (lines_in i)) is t))
      (answers_law outside place at (read_as (means before) before) i (Ok (wants p)) answer ∙ source_law files outside around at p (means before) before ∙ ap (source_read files outside around at p (read_as (means before) before)) source))
  gives {before = before} {around = around} {path = path} {run = run} {number = number} (stopped {i = i} {is = is} {w = p} {text = text} {js = js} {inner = inner} {fault = fault} answer source are next) rest w r =
      let place = placed files outside (64 - length around) around in
      let at : Place = record { path = path; run = run; number = number } in
      let along : whole ≡ ((before ++ places text ∷ []) ++ inner) ++ rest = w ∙ ap (λ x. x ++ rest) (sym (append_assoc before (places text ∷ []) inner)) in
      let one = enters before text (inner ++ rest) (along ∙ append_assoc (before ++ places text ∷ []) inner rest) r in
      let more = gives next rest along one.0 in
      let inside = file_given (around ++ p ∷ []) p (followed_in before + 1) text js (entered text (read_as (means before) before)) (before ++ places text ∷ []) ((before ++ places text ∷ []) ++ inner) (Some fault) are one.1 more in
      subst (λ fs. Given before around path run number (i ∷ is) fs (Some fault)) (append_assoc before (places text ∷ []) inner)
      (record {
        reads =
            ap (λ x. then_on x (λ t. items_done outside place path run (number + length (lines_in i)) is t))
            (answers_law outside place at (read_as (means before) before) i (Ok (wants p)) answer ∙ source_law files outside around at p (means before) before ∙ ap (source_read files outside around at p (read_as (means before) before)) source
            ∙ inside);
        reaches = more.reaches;
      })
  gives {before = before} {around = around} {path = path} {run = run} {number = number} (sourced {i = i} {is = is} {w = p} {text = text} {js = js} {inner = inner} {es = es} {f = f} answer source are next further) rest w r =
      let place = placed files outside (64 - length around) around in
      let at : Place = record { path = path; run = run; number = number } in
      let end : Entry = file_end p (followed_in before + 1) text in
      let inside : List Entry = (before ++ places text ∷ []) ++ inner in
      let taken : List Entry = before ++ places text ∷ (inner ++ end ∷ []) in
      let all : inside ++ end ∷ [] ≡ taken = simp append_assoc in
      let further_on : taken ++ es ≡ before ++ places text ∷ (inner ++ end ∷ es) = simp append_assoc in
      let along : whole ≡ (taken ++ es) ++ rest = w ∙ ap (λ x. x ++ rest) (sym further_on) in
      let at_end : whole ≡ (inside ++ end ∷ []) ++ (es ++ rest) = along ∙ append_assoc taken es rest ∙ ap (λ x. x ++ (es ++ rest)) (sym all) in
      let at_inside : whole ≡ inside ++ (end ∷ (es ++ rest)) = at_end ∙ append_assoc inside (end ∷ []) (es ++ rest) in
      let at_places : whole ≡ (before ++ places text ∷ []) ++ (inner ++ end ∷ (es ++ rest)) = at_inside ∙ append_assoc (before ++ places text ∷ []) inner (end ∷ (es ++ rest)) in
      let one = enters before text (inner ++ end ∷ (es ++ rest)) at_places r in
      let more = gives next (end ∷ (es ++ rest)) at_inside one.0 in
      let file = file_given (around ++ p ∷ []) p (followed_in before + 1) text js (entered text (read_as (means before) before)) (before ++ places text ∷ []) inside None are one.1 more in
      let last = one_read inside end (es ++ rest) at_end more.reaches tt in
      let after = gives further rest along (subst (λ fs. reached outside fs ≡ Ok (means fs)) all last.0) in
      subst (λ fs. Given before around path run number (i ∷ is) fs f) further_on
      (record {
        reads =
            ap (λ x. then_on x (λ t. items_done outside place path run (number + length (lines_in i)) is t))
            (answers_law outside place at (read_as (means before) before) i (Ok (wants p)) answer ∙ source_law files outside around at p (means before) before ∙ ap (source_read files outside around at p (read_as (means before) before)) source
            ∙ file ∙ last.1 at ∙ ap (λ fs. Ok (read_as (means fs) fs)) all)
            ∙ after.reads;
        reaches = after.reaches;
      })

-- what is derived with names that mean something is derived with names that mean the same after the first of the entries
module _ (files : List File) (outside : Environment) (means other : List Entry → Names) (whole : List Entry) (same : (front rest : List Entry) → whole ≡ front ++ rest → means front ≡ other front) where
  answers_moved : (before rest : List Entry) (at : Place) (i : ItemLines) (a : Result Answer TextProblem) → whole ≡ before ++ rest → Answers outside (means before) at i a → Answers outside (other before) at i a
  answers_moved before rest at i a w h = subst (λ names. Answers outside names at i a) (same before rest w) h

  moved : {before : List Entry} {around : List (List ℕ)} {path : List ℕ} {run number : ℕ} {is : List ItemLines} {es : List Entry} {f : Option TextFault}
      → Reads files outside means before around path run number is es f → (rest : List Entry) → whole ≡ (before ++ es) ++ rest
      → Reads files outside other before around path run number is es f
  moved ended rest w = ended
  moved {before = before} {path = path} {run = run} {number = number} (plain {i = i} {e = e} {es = es} answer next) rest w =
      plain (answers_moved before (e ∷ es ++ rest) (record { path = path; run = run; number = number }) i (Ok (entry e)) (w ∙ append_assoc before (e ∷ es) rest) answer)
      (moved next rest (w ∙ ap (λ x. x ++ rest) (sym (append_assoc before (e ∷ []) es))))
  moved {before = before} {path = path} {run = run} {number = number} (fails {i = i} {problem = problem} answer) rest w = fails (answers_moved before ([] ++ rest) (record { path = path; run = run; number = number }) i (Err problem) (w ∙ append_assoc before [] rest) answer)
  moved {before = before} {path = path} {run = run} {number = number} (refused {i = i} {w = p} answer source) rest w = refused (answers_moved before ([] ++ rest) (record { path = path; run = run; number = number }) i (Ok (wants p)) (w ∙ append_assoc before [] rest) answer) source
  moved {before = before} {path = path} {run = run} {number = number} (stopped {i = i} {w = p} {text = text} {inner = inner} answer source are next) rest w =
      stopped (answers_moved before (places text ∷ inner ++ rest) (record { path = path; run = run; number = number }) i (Ok (wants p)) (w ∙ append_assoc before (places text ∷ inner) rest) answer) source are
      (moved next rest (w ∙ ap (λ x. x ++ rest) (sym (append_assoc before (places text ∷ []) inner))))
  moved {before = before} {path = path} {run = run} {number = number} (sourced {i = i} {w = p} {text = text} {inner = inner} {es = es} answer source are next further) rest w =
      let end : Entry = file_end p (followed_in before + 1) text in
      let taken : List Entry = before ++ places text ∷ (inner ++ end ∷ []) in
      let further_on : taken ++ es ≡ before ++ places text ∷ (inner ++ end ∷ es) = simp append_assoc in
      let inside : (before ++ places text ∷ (inner ++ end ∷ es)) ++ rest ≡ ((before ++ places text ∷ []) ++ inner) ++ (end ∷ (es ++ rest)) = simp append_assoc in
      sourced (answers_moved before (places text ∷ (inner ++ end ∷ es) ++ rest) (record { path = path; run = run; number = number }) i (Ok (wants p)) (w ∙ append_assoc before (places text ∷ (inner ++ end ∷ es)) rest) answer) source are
      (moved next (end ∷ (es ++ rest)) (w ∙ inside))
      (moved further rest (w ∙ ap (λ x. x ++ rest) (sym further_on)))

-- entries that items are read as, and how they end
record Found (files : List File) (outside : Environment) (means : List Entry → Names) (before : List Entry) (around : List (List ℕ)) (path : List ℕ) (run number : ℕ) (is : List ItemLines) : Type 0 where
  entries : List Entry
  end : Option TextFault
  reads : Reads files outside means before around path run number is entries end

-- a test that went well
passed_test : {A E : Type 0} (b : Bool) (e : E) (r : Result A E) (x : A) → ◌≡◌ {A = Result A E} (if b then Err e else r) (Ok x) → (b ≡ false) × (r ≡ Ok x)
passed_test true e r x h = cc
passed_test false e r x h = (refl, h)

-- a file is included only where fewer than 64 are open
room_for : (files : List File) (es : List Entry) (around : List (List ℕ)) (w text : List ℕ) → source_answer files es around w ≡ Ok text → length around < 64
room_for files es around w text h =
    let inner = passed_test (is_among w around) RecursiveSource _ text h in
    let open_files = passed_test (nat_le 64 (length around)) Limit _ text inner.1 in
    let few : nat_le 64 (length around) ≡ false = open_files.0 in
    grind (arith, nat_tests)

err_value : {A E : Type 0} {x y : E} → ◌≡◌ {A = Result A E} (Err x) (Err y) → x ≡ y
err_value h = cc

-- the items of a file are read somehow, where each file that may be open inside it is
module _ (files : List File) (outside : Environment) (means : List Entry → Names) (around : List (List ℕ))
    (deeper : (w : List ℕ) → length around < 64 → (before : List Entry) (run : ℕ) (js : List ItemLines) → Found files outside means before (around ++ w ∷ []) w run 1 js)
    (path : List ℕ) (run : ℕ) where
  found_item : (i : ItemLines) (is : List ItemLines) (before : List Entry) (number : ℕ) → ((es : List Entry) (k : ℕ) → Found files outside means es around path run k is)
      → (a : Result Answer TextProblem) → Answers outside (means before) (record { path = path; run = run; number = number }) i a → Found files outside means before around path run number (i ∷ is)
  found_item i is before number further (Err problem) answer = record { entries = []; end = Some (At problem path number); reads = fails answer }
  found_item i is before number further (Ok (entry e)) answer =
      let more = further (before ++ e ∷ []) (number + length (lines_in i)) in
      record { entries = e ∷ more.entries; end = more.end; reads = plain answer more.reads }
  found_item i is before number further (Ok (wants w)) answer = sourced_item (source_answer files before around w) refl
    where
      file_item : (text : List ℕ) (js : List ItemLines) → source_answer files before around w ≡ Ok text → AreItems (lines text) js → (inner : List Entry) (end : Option TextFault)
          → Reads files outside means (before ++ places text ∷ []) (around ++ w ∷ []) w (followed_in before + 1) 1 js inner end → Found files outside means before around path run number (i ∷ is)
      file_item text js source are inner (Some fault) reads = record { entries = places text ∷ inner; end = Some fault; reads = stopped answer source are reads }
      file_item text js source are inner None reads =
          let more = further (before ++ places text ∷ (inner ++ file_end w (followed_in before + 1) text ∷ [])) (number + length (lines_in i)) in
          record { entries = places text ∷ (inner ++ file_end w (followed_in before + 1) text ∷ more.entries); end = more.end; reads = sourced answer source are reads more.reads }

      sourced_item : (r : Result (List ℕ) TextProblem) → source_answer files before around w ≡ r → Found files outside means before around path run number (i ∷ is)
      sourced_item (Err problem) source = record { entries = []; end = Some (At problem path number); reads = refused answer source }
      sourced_item (Ok text) source =
          let js = some_items (lines text) in
          let inside = deeper w (room_for files before around w text source) (before ++ places text ∷ []) (followed_in before + 1) js.0 in
          file_item text js.0 source js.1 inside.entries inside.end inside.reads

  found_items : (is : List ItemLines) (before : List Entry) (number : ℕ) → Found files outside means before around path run number is
  found_items [] before number = record { entries = []; end = None; reads = ended }
  found_items (i ∷ is) before number =
      found_item i is before number (λ es k. found_items is es k)
      (item_answer outside (means before) (record { path = path; run = run; number = number }) (value_of i) (raw_tokens (text_in i))) (raw_tokens (text_in i), shown (text_in i), refl)

-- the items of any file are read somehow
all_found : (files : List File) (outside : Environment) (means : List Entry → Names) (n : ℕ) (around : List (List ℕ)) → 64 - length around ≤ n
    → (path : List ℕ) (run : ℕ) (is : List ItemLines) (before : List Entry) (number : ℕ) → Found files outside means before around path run number is
all_found files outside means zero around few path run is before number =
    found_items files outside means around (λ w room es k js. absurd (omega (arith, few, room))) path run is before number
all_found files outside means (suc n) around few path run is before number =
    found_items files outside means around
    (λ w room es k js. all_found files outside means n (around ++ w ∷ []) (omega (arith, few, room, length-append around (w ∷ []))) w k js es 1)
    path run is before number

-- what names mean after entries, by their definitions one by one, where these have no fault
abbrev names_if : Result Names TextProblem → Names
names_if (Ok names) = names
names_if (Err problem) = λ _. None

abbrev reached_names : Environment → List Entry → Names
reached_names outside es = names_if (reached outside es)

reached_agrees : (outside : Environment) (whole : List Entry) → Agrees outside (reached_names outside) whole
reached_agrees outside whole front rest names w r = ap names_if r

-- meanings of all definitions say what names mean after the first of them
module _ (outside : Environment) (es : List Entry) (at : ℕ → Names) (are : AreMeanings outside (definitions_in es) at) where
  meanings_agree : Agrees outside (λ before. at (length (definitions_in before))) es
  meanings_agree front rest names w r =
      let ds : List Definition = definitions_in front in
      let split : definitions_in es ≡ ds ++ definitions_in rest = ap definitions_in w ∙ filter_map-append defined_by front rest in
      front_names outside ds (definitions_in rest) at names (subst (λ cs. AreMeanings outside cs at) split are) r

  meanings_reached : (names : Names) → reached outside es ≡ Ok names → (front rest : List Entry) → es ≡ front ++ rest → reached_names outside front ≡ at (length (definitions_in front))
  meanings_reached names r front rest w =
      let first = then_ok (reached outside front) (λ m. names_from outside m (definitions_in rest)) names (sym (reached-append outside front rest) ∙ ap (reached outside) (sym w) ∙ r) in
      ap names_if first.1 ∙ sym (meanings_agree front rest first.0 w first.1)

-- the lines of a top file that is read as entries, or the fault that ends it
abbrev lines_given : List ℕ → List ℕ → List Entry → Option TextFault → Result (List LineValue) TextFault
lines_given top text es None = Ok (shown_in (es ++ file_end top 0 text ∷ []))
lines_given top text es (Some fault) = Err fault

module _ (files : List File) (outside : Environment) (top text : List ℕ) where
  lines_of_ending : (names : Names) (es : List Entry) (f : Option TextFault)
      → ◌≡◌ {A = Result (List LineValue) TextFault} (then_on (then_on (ending names es f) (λ t. Ok (with_lines (end_of_file (record { path = top; run = 0; number = length (lines text) + 1 }) ∷ []) t))) (λ s. Ok s.lines)) (lines_given top text es f)
  lines_of_ending names es None = ap Ok (sym (flat_map-append shown_by es (file_end top 0 text ∷ [])))
  lines_of_ending names es (Some fault) = refl

  -- entries of the top file give its lines
  file_gives : (means : List Entry → Names) (es : List Entry) (f : Option TextFault) → Agrees outside means es → text_of top files ≡ Some text → (is : List ItemLines) → AreItems (lines text) is
      → Reads files outside means [] (top ∷ []) top 0 1 is es f
      → (logical_lines_of files outside top ≡ lines_given top text es f) × (reached outside es ≡ Ok (means es))
  file_gives means es f agrees found is are reads =
      let none : means [] ≡ (λ _. None) = agrees [] es (λ _. None) refl refl in
      let given = gives files outside means es agrees reads [] (sym (append-nil es)) (ap Ok (sym none)) in
      let file = file_given files outside means es agrees (top ∷ []) top 0 text is nothing_read [] es f are (ap (λ m. read_as m []) (sym none)) given in (
        ap (λ o. then_on (elim o [ None ↦ Err (At (MissingSource top) top 0) | Some t ↦ file_read outside (placed files outside 63 (top ∷ [])) top 0 t nothing_read ]) (λ s. Ok s.lines)) found
            ∙ ap (λ r. then_on r (λ s. Ok s.lines)) file ∙ lines_of_ending (means es) es f,
        given.reaches,
      )

  top_gives : (es : List Entry) (f : Option TextFault) → TopReads files outside top text es f → logical_lines_of files outside top ≡ lines_given top text es f
  top_gives es f t = (file_gives (λ before. t.at (length (definitions_in before))) es f (meanings_agree outside es t.at t.meanings) t.is_text t.items t.are t.reads).0

  -- each top file is read as some entries
  top_found : text_of top files ≡ Some text → (es : List Entry) × (f : Option TextFault) × TopReads files outside top text es f
  top_found is_text =
      let is = some_items (lines text) in
      let found = all_found files outside (reached_names outside) 63 (top ∷ []) (omega arith) top 0 is.0 [] 1 in
      let es : List Entry = found.entries in
      let given = file_gives (reached_names outside) es found.end (reached_agrees outside es) is_text is.0 is.1 found.reads in
      let meant = (meanings_law outside).meant (definitions_in es) (reached_names outside es) given.1 in (
        es,
        found.end,
        record {
          is_text = is_text;
          items = is.0;
          are = is.1;
          at = meant.0;
          meanings = meant.1;
          reads = moved files outside (reached_names outside) (λ before. meant.0 (length (definitions_in before))) es (meanings_reached outside es meant.0 meant.1 (reached_names outside es) given.1) found.reads [] (sym (append-nil es));
        },
      )

-- what reading step by step gives is what the entries give, and the other way round
pub record LinesLaw (files : List File) (outside : Environment) (top : List ℕ) : Type 0 where
  pub lines : (ls : List LineValue) → logical_lines_of files outside top ≡ Ok ls → AreLines files outside top ls
  pub only_lines : (ls : List LineValue) → AreLines files outside top ls → logical_lines_of files outside top ≡ Ok ls
  pub fault : (f : TextFault) → logical_lines_of files outside top ≡ Err f → IsFirstTextFault files outside top f
  pub only_fault : (f : TextFault) → IsFirstTextFault files outside top f → logical_lines_of files outside top ≡ Err f

module _ (files : List File) (outside : Environment) (top : List ℕ) where
  no_top_gives : text_of top files ≡ None → logical_lines_of files outside top ≡ Err (At (MissingSource top) top 0)
  no_top_gives none =
      ap (λ o. then_on (elim o [ None ↦ Err (At (MissingSource top) top 0) | Some t ↦ file_read outside (placed files outside 63 (top ∷ [])) top 0 t nothing_read ]) (λ s. Ok s.lines)) none

  lines_by : (ls : List LineValue) (text : List ℕ) (es : List Entry) (f : Option TextFault) → TopReads files outside top text es f → lines_given top text es f ≡ Ok ls → AreLines files outside top ls
  lines_by ls text es None t h = record { text = text; entries = es; reads = t; shown = sym (same_ok _ _ h) }
  lines_by ls text es (Some fault) t h = cc

  fault_by : (fault : TextFault) (text : List ℕ) (es : List Entry) (f : Option TextFault) → TopReads files outside top text es f → lines_given top text es f ≡ Err fault → IsFirstTextFault files outside top fault
  fault_by fault text es None t h = cc
  fault_by fault text es (Some first) t h = subst (IsFirstTextFault files outside top) (err_value h) (at_line t)

  lines_law-lines : (ls : List LineValue) → logical_lines_of files outside top ≡ Ok ls → (o : Option (List ℕ)) → text_of top files ≡ o → AreLines files outside top ls
  lines_law-lines ls h None none = let fault = no_top_gives none in cc
  lines_law-lines ls h (Some text) is_text =
      let found = top_found files outside top text is_text in
      lines_by ls text found.0 found.1 found.2 (sym (top_gives files outside top text found.0 found.1 found.2) ∙ h)

  lines_law-fault : (fault : TextFault) → logical_lines_of files outside top ≡ Err fault → (o : Option (List ℕ)) → text_of top files ≡ o → IsFirstTextFault files outside top fault
  lines_law-fault fault h None none = subst (IsFirstTextFault files outside top) (err_value (sym (no_top_gives none) ∙ h)) (no_top none)
  lines_law-fault fault h (Some text) is_text =
      let found = top_found files outside top text is_text in
      fault_by fault text found.0 found.1 found.2 (sym (top_gives files outside top text found.0 found.1 found.2) ∙ h)

  lines_law-only_fault : {fault : TextFault} → IsFirstTextFault files outside top fault → logical_lines_of files outside top ≡ Err fault
  lines_law-only_fault (no_top none) = no_top_gives none
  lines_law-only_fault (at_line {text = text} {es = es} {fault = fault} t) = top_gives files outside top text es (Some fault) t

  -- what reading gives is what the entries give, and the other way round
  pub lines_law : LinesLaw files outside top
  lines_law = record {
    lines = λ ls h. lines_law-lines ls h (text_of top files) refl;
    only_lines = λ ls h. top_gives files outside top h.text h.entries None h.reads ∙ ap Ok (sym h.shown);
    fault = λ f h. lines_law-fault f h (text_of top files) refl;
    only_fault = λ f h. lines_law-only_fault h;
  }

  some_reading : (r : Result (List LineValue) TextFault) → logical_lines_of files outside top ≡ r
      → ((ls : List LineValue) × AreLines files outside top ls) ⊎ ((f : TextFault) × IsFirstTextFault files outside top f)
  some_reading (Ok ls) h = inl (ls, lines_law.lines ls h)
  some_reading (Err f) h = inr (f, lines_law.fault f h)

  -- so there is one reading of the files
  pub one_reading : HasOneReading files outside top
  one_reading = record {
    some = some_reading (logical_lines_of files outside top) refl;
    one_list = λ ls ms h k. same_ok _ _ (sym (lines_law.only_lines ls h) ∙ lines_law.only_lines ms k);
    one_fault = λ f g h k. err_value (sym (lines_law.only_fault f h) ∙ lines_law.only_fault g k);
    never_both = λ ls f h k.
        let both : ◌≡◌ {A = Result (List LineValue) TextFault} (Ok ls) (Err f) = sym (lines_law.only_lines ls h) ∙ lines_law.only_fault f k in
        cc;
  }

  -- what a call gives that gives what reading gives
  pub given_lines : {X : Type 0} (view : X → List LineValue) (result : Result X TextFault) → GivesBy view result (logical_lines_of files outside top) → IfOk result (λ x. AreLines files outside top (view x))
  given_lines view (Ok x) h = lines_law.lines (view x) h
  given_lines view (Err fault) h = tt

  given_fault-at : (fault : TextFault) → Fails fault (logical_lines_of files outside top) → IsTextFault files outside top fault
  given_fault-at (At problem path line) h = lines_law.fault (At problem path line) h
  given_fault-at NoMemory h = tt

  pub given_fault : {X : Type 0} (view : X → List LineValue) (result : Result X TextFault) → GivesBy view result (logical_lines_of files outside top) → IfErr result (IsTextFault files outside top)
  given_fault view (Ok x) h = tt
  given_fault view (Err fault) h = given_fault-at fault h
