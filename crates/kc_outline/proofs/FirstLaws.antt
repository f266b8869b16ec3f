-- Symbols are first defined in the order of their numbers.
use Rattle.std.proofs.Common.{◌≡◌, ℕ, ◌+◌, ◌<◌, ◌≤◌, ◌==◌, Bool, true, false, ◌||◌, cond, if◌then◌else◌, List, [], ◌∷◌, ◌++◌, Option, Some, None, length, map, get_or, position, reverse, filter_map, refl, sym, ap, ◌∙◌, subst, inl, inr, arith}
use Rattle.std.specs.Prelude.{nat_le}
use Rattle.std.specs.List.{cons_option, list_any, range_with_len}
use Rattle.std.specs.Option.{option_map, option_map_or}
use Rattle.std.specs.Str.{bytes_eq}
use Rattle.std.proofs.lemmas.Bool.{true≢false, eq-eqb, ne_eqb, leb-true, cases_lt}
use Rattle.std.proofs.lemmas.List.{reverse-append, append_assoc, append-nil, length-append, get_or_append_left, get_or_push}
use Rattle.std.proofs.lemmas.List.Quantifiers.{position-Some}
use Rattle.std.proofs.lemmas.List.Elements.{All-from_get_or}
use Rattle.std.proofs.lemmas.List.Folds.{list_any_at, list_any_none}
use Rattle.std.proofs.lemmas.List.FromFn.{map-range_with_len_more}
use Rattle.std.proofs.lemmas.Slice.Eq.{bytes_eq-Decides}
use Rattle.std.proofs.lemmas.Option.{none-some, option_and_then_some}
use Rattle.kc_text.specs.LineValue.{LineValue}
use Rattle.kc_statement.specs.declared.id.SymId.{SymId}
use Rattle.kc_statement.specs.declared.limits.TheConstants.{MOST_SYMBOLS}
use Rattle.kc_outline.specs.declared.id.BlockId.{BlockId}
use Rattle.kc_outline.specs.declared.id.ChoiceId.{ChoiceId}
use Rattle.kc_outline.specs.declared.context.Owner.{Owner}
use Rattle.kc_outline.specs.declared.context.Owner.TheVariants as owner
use Rattle.kc_statement.specs.declared.statement.Statement.{Statement}
use Rattle.kc_statement.specs.declared.statement.Statement.TheVariants as statement
use Rattle.kc_outline.specs.declared.entry.Entry.{Entry}
use Rattle.kc_outline.specs.declared.entry.Entry.TheVariants as entry
use Rattle.kc_statement.specs.Keywords.{is_config, is_config_word}
use Rattle.kc_statement.specs.Names.{symbol_among, name_alone, defined_name, with_name, names_before}
use Rattle.kc_outline.specs.Adding.{with_some}
use Rattle.kc_outline.specs.Enclosing.{open_blocks, nearest_statement}
use Rattle.kc_outline.specs.Entries.{first_symbol, first_symbols, symbol_ids}
use Rattle.kc_outline.specs.LineFaults.{is_no_choice_default, opens_too_deep, is_past_limit}
use Rattle.kc_outline.specs.Reader.{AreReadingsBefore, IsOutlineAfter}
use Rattle.kc_outline.specs.TreeOf.{Reading, DefinitionLine, IsReading, defined_in, defines, definition_number, symbol_entry, menu_entry, choice_entry, comment_entry, entry_at}
use Rattle.kc_outline.specs.TreeValue.{TreeValue}
use Rattle.kc_outline.proofs.EntryLaws.{entries_before, entries_of}
use Rattle.kc_outline.proofs.AddingParts.{reading}
use Rattle.kc_outline.proofs.ChangeLaws.{filter_map_push}
use Rattle.kc_outline.proofs.FormLaws.{defined-form}
use Rattle.kc_outline.proofs.MemberLaws.{OwnsDefinition, is_defining}
use Rattle.kc_outline.proofs.OutlineFacts.{symbols_of_outline}
use Rattle.kc_outline.proofs.OwnerLaws.{within_limit, one_definition}
use Rattle.kc_outline.proofs.ReadingLaws.{word_of, form_word}

-- ---- the first place in a list and what is added to it
module _ {X : Type 0} (p : X → Bool) (xs ys : List X) (k : ℕ) (d : X) (is : position p (xs ++ ys) ≡ Some k) where
  found_in : list_any p xs ≡ true → k < length xs
  found_in some = elim (cases_lt k (length xs)) [
    | inl below ↦ below
    | inr past ↦
        let before = (position-Some p (xs ++ ys) k d is).2 in
        let none : list_any p xs ≡ false = list_any_none p xs (All-from_get_or (λ x. p x ≡ false) xs d (λ i h. sym (ap p (get_or_append_left xs ys d i h)) ∙ before i (omega (arith, h, past)))) in
        absurd (true≢false (sym some ∙ none))
  ]

  found_past : list_any p xs ≡ false → length xs ≤ k
  found_past none = elim (cases_lt k (length xs)) [
    | inl below ↦
        let there = (position-Some p (xs ++ ys) k d is).1 in
        let some : list_any p xs ≡ true = list_any_at p xs k d below (sym (ap p (get_or_append_left xs ys d k below)) ∙ there) in
        absurd (true≢false (sym some ∙ none))
    | inr past ↦ past
  ]

found_next : {X : Type 0} (p : X → Bool) (xs ys : List X) (y : X) (k : ℕ) → position p ((xs ++ y ∷ []) ++ ys) ≡ Some k → p y ≡ true → k ≤ length xs
found_next p xs ys y k is passes = elim (cases_lt (length xs) k) [
  | inl later ↦
      let before = (position-Some p ((xs ++ y ∷ []) ++ ys) k y is).2 (length xs) later in
      let long : length xs < length (xs ++ y ∷ []) = omega (arith, length-append xs (y ∷ [])) in
      let there : get_or ((xs ++ y ∷ []) ++ ys) (length xs) y ≡ y = get_or_append_left (xs ++ y ∷ []) ys y (length xs) long ∙ get_or_push xs y y (length xs) refl in
      absurd (true≢false (sym passes ∙ sym (ap p there) ∙ before))
  | inr past ↦ past
]

-- ---- what is known of the readings of some lines, which define the first so many symbols
abbrev numbers_of : SymId → List Reading → List ℕ
numbers_of s qs = filter_map (definition_number s) (reverse qs)

abbrev ids : ℕ → List SymId
ids m = map (λ k. record { 0 = k }) (range_with_len 0 m)

record AreFirsts (m : ℕ) (qs : List Reading) : Type 0 where
  firsts : first_symbols (entries_before qs) ≡ ids m
  undefined : (s : SymId) → m ≤ s.0 → numbers_of s qs ≡ []
  defined : (s : SymId) → s.0 < m → (j : ℕ) × (js : List ℕ) × (numbers_of s qs ≡ j ∷ js)

numbers_next : (s : SymId) (q : Reading) (qs : List Reading) → numbers_of s (q ∷ qs) ≡ with_some (numbers_of s qs) (definition_number s q)
numbers_next s q qs =
    ap (filter_map (definition_number s)) (reverse-append (q ∷ []) qs)
    ∙ filter_map_push (definition_number s) (reverse qs) q

some_more : {X : Type 0} (xs : List X) (o : Option X) (x : X) (rest : List X) → xs ≡ x ∷ rest → (y : X) × (ys : List X) × (with_some xs o ≡ y ∷ ys)
some_more xs None x rest is = (x, rest, is)
some_more xs (Some n) x rest is = (x, rest ++ n ∷ [], ap (λ zs. zs ++ n ∷ []) is)

one_more : {X : Type 0} (xs : List X) (n : X) → (y : X) × (ys : List X) × (xs ++ n ∷ [] ≡ y ∷ ys)
one_more [] n = (n, [], refl)
one_more (x ∷ xs) n = (x, xs ++ n ∷ [], refl)

stay_defined : (s : SymId) (q : Reading) (qs : List Reading) → (j : ℕ) × (js : List ℕ) × (numbers_of s qs ≡ j ∷ js) → (j : ℕ) × (js : List ℕ) × (numbers_of s (q ∷ qs) ≡ j ∷ js)
stay_defined s q qs h =
    let more = some_more (numbers_of s qs) (definition_number s q) h.0 h.1 h.2 in
    (more.0, more.1, numbers_next s q qs ∙ more.2)

stay_undefined : (s : SymId) (q : Reading) (qs : List Reading) → definition_number s q ≡ None → numbers_of s qs ≡ [] → numbers_of s (q ∷ qs) ≡ []
stay_undefined s q qs none h = numbers_next s q qs ∙ ap (with_some (numbers_of s qs)) none ∙ h

-- ---- a line that defines no symbol
of_menu : (es : List Entry) (o : Option Owner) → first_symbols (with_some es (menu_entry o)) ≡ first_symbols es
of_menu es None = refl
of_menu es (Some (owner.Definition s j)) = refl
of_menu es (Some (owner.Menu b)) = filter_map_push first_symbol es (entry.Menu b)
of_menu es (Some (owner.Choice c b)) = refl
of_menu es (Some (owner.Comment c)) = refl

of_choice : (es : List Entry) (o : Option Owner) → first_symbols (with_some es (choice_entry o)) ≡ first_symbols es
of_choice es None = refl
of_choice es (Some (owner.Definition s j)) = refl
of_choice es (Some (owner.Menu b)) = refl
of_choice es (Some (owner.Choice c b)) = filter_map_push first_symbol es (entry.Choice c)
of_choice es (Some (owner.Comment c)) = refl

of_comment : (es : List Entry) (o : Option Owner) → first_symbols (with_some es (comment_entry o)) ≡ first_symbols es
of_comment es None = refl
of_comment es (Some (owner.Definition s j)) = refl
of_comment es (Some (owner.Menu b)) = refl
of_comment es (Some (owner.Choice c b)) = refl
of_comment es (Some (owner.Comment c)) = filter_map_push first_symbol es (entry.Comment c)

of_end : (es : List Entry) (b : Option BlockId) → first_symbols (with_some es (option_map entry.EndMenu b)) ≡ first_symbols es
of_end es None = refl
of_end es (Some b) = filter_map_push first_symbol es (entry.EndMenu b)

quiet_entry : (earlier : List Reading) (es : List Entry) (st : Statement) (b : Option BlockId) (ch : Option ChoiceId) (o : Option Owner) → defined_in st ≡ None → first_symbols (with_some es (entry_at earlier (reading st b ch o))) ≡ first_symbols es
quiet_entry earlier es (statement.Config None) b ch o none = refl
quiet_entry earlier es (statement.Config (Some s)) b ch o none = absurd (none-some s (sym none))
quiet_entry earlier es (statement.Menu title) b ch o none = of_menu es o
quiet_entry earlier es statement.EndMenu b ch o none = of_end es b
quiet_entry earlier es statement.Choice b ch o none = of_choice es o
quiet_entry earlier es (statement.Comment title) b ch o none = of_comment es o
quiet_entry earlier es _ b ch o none = refl

defines_none : (s : SymId) (st : Statement) → defined_in st ≡ None → defines s st ≡ false
defines_none s (statement.Config (Some d)) none = absurd (none-some d (sym none))
defines_none s _ none = refl

quiet : (m : ℕ) (q : Reading) (qs : List Reading) → defined_in q.statement ≡ None → AreFirsts m qs → AreFirsts m (q ∷ qs)
quiet m q qs none before = record {
  firsts = quiet_entry (reverse qs) (entries_before qs) q.statement q.block q.choice q.owner none ∙ before.firsts;
  undefined = λ s late. stay_undefined s q qs (unnumbered s) (before.undefined s late);
  defined = λ s early. stay_defined s q qs (before.defined s early);
} where
  unnumbered : (s : SymId) → definition_number s q ≡ None
  unnumbered s = rw (defines_none s q.statement none) refl

-- ---- a line that defines a symbol
abbrev config_line : SymId → Option BlockId → Option ChoiceId → ℕ → Reading
config_line s b ch j = reading (statement.Config (Some s)) b ch (Some (owner.Definition s j))

module _ (s : SymId) (b : Option BlockId) (ch : Option ChoiceId) (j : ℕ) (m : ℕ) (qs : List Reading) (before : AreFirsts m qs) where
  other_number : (k : SymId) → (s.0 ≡ k.0 → ⊥) → definition_number k (config_line s b ch j) ≡ None
  other_number k other = rw (ne_eqb s.0 k.0 other) refl

  own_number : (k : SymId) → s.0 ≡ k.0 → definition_number k (config_line s b ch j) ≡ Some j
  own_number k own = rw (eq-eqb s.0 k.0 own) refl

  first_entry : numbers_of s qs ≡ [] → first_symbol (symbol_entry (reverse qs) s) ≡ Some s
  first_entry none = rw none refl

  entry_again : (i : ℕ) (is : List ℕ) → numbers_of s qs ≡ i ∷ is → first_symbol (symbol_entry (reverse qs) s) ≡ None
  entry_again i is some = rw some refl

  entry_push : first_symbols (entries_before (config_line s b ch j ∷ qs)) ≡ with_some (first_symbols (entries_before qs)) (first_symbol (symbol_entry (reverse qs) s))
  entry_push = filter_map_push first_symbol (entries_before qs) (symbol_entry (reverse qs) s)

  again : s.0 < m → AreFirsts m (config_line s b ch j ∷ qs)
  again early =
      let there = before.defined s early in
      record {
        firsts = entry_push ∙ ap (with_some (first_symbols (entries_before qs))) (entry_again there.0 there.1 there.2) ∙ before.firsts;
        undefined = λ k late. stay_undefined k (config_line s b ch j) qs (other_number k (λ e. omega (arith, e, early, late))) (before.undefined k late);
        defined = λ k e. stay_defined k (config_line s b ch j) qs (before.defined k e);
      }

  first : s.0 ≡ m → AreFirsts (m + 1) (config_line s b ch j ∷ qs)
  first new =
      let same : s ≡ record { 0 = m } = ap (λ (k : ℕ). record { 0 = k }) new in
      record {
        firsts =
            entry_push
            ∙ ap (with_some (first_symbols (entries_before qs))) (first_entry (before.undefined s (omega (arith, new))))
            ∙ ap (λ xs. xs ++ s ∷ []) before.firsts
            ∙ ap (λ x. ids m ++ x ∷ []) same
            ∙ sym (map-range_with_len_more {X = SymId} (λ k. record { 0 = k }) 0 m m (omega arith));
        undefined = λ k late. stay_undefined k (config_line s b ch j) qs (other_number k (λ e. omega (arith, e, new, late))) (before.undefined k (omega (arith, late)));
        defined = λ k early. by k early;
      }
    where
      by : (k : SymId) → k.0 < m + 1 → (i : ℕ) × (is : List ℕ) × (numbers_of k (config_line s b ch j ∷ qs) ≡ i ∷ is)
      by k early = elim (cases_lt k.0 m) [
        | inl below ↦ stay_defined k (config_line s b ch j) qs (before.defined k below)
        | inr past ↦
            let more = one_more (numbers_of k qs) j in
            let own : s.0 ≡ k.0 = omega (arith, new, early, past) in
            (more.0, more.1, numbers_next k (config_line s b ch j) qs ∙ ap (with_some (numbers_of k qs)) (own_number k own) ∙ more.2)
      ]

-- ---- what a sound line defines
config_is : (st : Statement) (s : SymId) → defined_in st ≡ Some s → st ≡ statement.Config (Some s)
config_is (statement.Config o) s e = ap statement.Config e
config_is _ s e = absurd (none-some s e)

no_word : (st : Statement) → defined_in st ≡ None → is_past_limit st ≡ false → option_map_or is_config_word (word_of st) false ≡ false
no_word st none past = by (option_map_or is_config_word (word_of st) false) (sym (one_definition None st past) ∙ ap (λ o. length (counted o)) none)
  where
    counted : Option SymId → List DefinitionLine
    counted o = cons_option (option_map (λ (d : SymId). record { symbol = d; block = None }) o) []

    by : (t : Bool) → ◌≡◌ {A = ℕ} (cond t 1 0) 0 → t ≡ false
    by true e = absurd (omega (arith, e))
    by false e = refl

number_among : (o : Option ℕ) (s : SymId) → ◌≡◌ {A = Option SymId} (option_map (λ k. record { 0 = k }) o) (Some s) → o ≡ Some s.0
number_among None s e = absurd (none-some s e)
number_among (Some k) s e = ap (λ x. option_map (λ (d : SymId). d.0) x) e

module _ (names : List (List ℕ)) (few : length names ≤ MOST_SYMBOLS) where
  module _ (earlier : List LineValue) (is_last : Bool) (l : LineValue) (q : Reading) (reads : IsReading names earlier is_last l q) where
    undefined_name : defined_in q.statement ≡ None → defined_name l ≡ None
    undefined_name none =
        let past = within_limit (is_no_choice_default (nearest_statement earlier) q.statement) (opens_too_deep (open_blocks earlier) l) (is_past_limit q.statement) reads.sound.late in
        let other : is_config l ≡ false = form_word is_config_word refl names l q.statement reads.sound.form ∙ no_word q.statement none past in
        ap (λ t. if t then name_alone l.tokens else None) other

    module _ (qs : List Reading) (before : (rest : List (List ℕ)) → names ≡ names_before earlier ++ rest → AreFirsts (length (names_before earlier)) qs) where
      abbrev ns : List (List ℕ)
      ns = names_before earlier

      -- the line of a name
      named_step : (s : SymId) (w : List ℕ) (j : ℕ) → position (bytes_eq w) names ≡ Some s.0 → (a late : Bool) → list_any (bytes_eq w) ns ≡ a → nat_le MOST_SYMBOLS (length ns) ≡ late
          → (rest : List (List ℕ)) → names ≡ (if a || late then ns else ns ++ w ∷ []) ++ rest
          → AreFirsts (length (if a || late then ns else ns ++ w ∷ [])) (config_line s q.block q.choice j ∷ qs)
      named_step s w j found true late there is_late rest is =
          let found_there : position (bytes_eq w) (ns ++ rest) ≡ Some s.0 = sym (ap (position (bytes_eq w)) is) ∙ found in
          again s q.block q.choice j (length ns) qs (before rest is) (found_in (bytes_eq w) ns rest s.0 [] found_there there)
      named_step s w j found false true there is_late rest is =
          let found_there : position (bytes_eq w) (ns ++ rest) ≡ Some s.0 = sym (ap (position (bytes_eq w)) is) ∙ found in
          let past = found_past (bytes_eq w) ns rest s.0 [] found_there there in
          let within = (position-Some (bytes_eq w) names s.0 [] found).0 in
          absurd (omega (arith, past, within, few, leb-true MOST_SYMBOLS (length ns) is_late))
      named_step s w j found false false there is_late rest is =
          let found_next_there : position (bytes_eq w) ((ns ++ w ∷ []) ++ rest) ≡ Some s.0 = sym (ap (position (bytes_eq w)) is) ∙ found in
          let is_before : names ≡ ns ++ (w ∷ rest) = is ∙ append_assoc ns (w ∷ []) rest in
          let found_there : position (bytes_eq w) (ns ++ (w ∷ rest)) ≡ Some s.0 = sym (ap (position (bytes_eq w)) is_before) ∙ found in
          let past = found_past (bytes_eq w) ns (w ∷ rest) s.0 [] found_there there in
          let next = found_next (bytes_eq w) ns rest w s.0 found_next_there ((bytes_eq-Decides w w).1 refl) in
          let count : length ns + 1 ≡ length (ns ++ w ∷ []) = sym (length-append ns (w ∷ [])) in
          subst (λ n. AreFirsts n (config_line s q.block q.choice j ∷ qs)) count
          (first s q.block q.choice j (length ns) qs (before (w ∷ rest) is_before) (omega (arith, past, next)))

      -- any line
      line_step : (o : Option SymId) → defined_in q.statement ≡ o → (rest : List (List ℕ)) → names ≡ names_before (l ∷ earlier) ++ rest → AreFirsts (length (names_before (l ∷ earlier))) (q ∷ qs)
      line_step None none rest is =
          let same : names_before (l ∷ earlier) ≡ ns = ap (λ o. option_map_or (with_name ns) o ns) (undefined_name none) in
          subst (λ xs. AreFirsts (length xs) (q ∷ qs)) (sym same)
          (quiet (length ns) q qs none (before rest (is ∙ ap (λ xs. xs ++ rest) same)))
      line_step (Some s) e rest is =
          let config = config_is q.statement s e in
          let own : OwnsDefinition (statement.Config (Some s)) q.owner = subst (λ st. OwnsDefinition st q.owner) config (is_defining names earlier is_last l q reads).owner in
          let reads_as : q ≡ config_line s q.block q.choice own.0 =
          ap (λ st. reading st q.block q.choice q.owner) config ∙ ap (λ o. reading (statement.Config (Some s)) q.block q.choice o) own.1 in
          option_and_then_some (symbol_among names) (defined_name l) s (defined-form names l q.statement reads.sound.form ∙ e)
          (λ w named among.
          let same : names_before (l ∷ earlier) ≡ with_name ns w = ap (λ o. option_map_or (with_name ns) o ns) named in
          let found : position (bytes_eq w) names ≡ Some s.0 = number_among (position (bytes_eq w) names) s among in
          subst (λ xs. AreFirsts (length xs) (q ∷ qs)) (sym same)
          (subst (λ r. AreFirsts (length (with_name ns w)) (r ∷ qs)) (sym reads_as)
          (named_step s w own.0 found (list_any (bytes_eq w) ns) (nat_le MOST_SYMBOLS (length ns)) refl refl rest (is ∙ ap (λ xs. xs ++ rest) same))))

  firsts_before : (following : ℕ) (earlier : List LineValue) (qs : List Reading) → AreReadingsBefore names following earlier qs → (rest : List (List ℕ)) → names ≡ names_before earlier ++ rest → AreFirsts (length (names_before earlier)) qs
  firsts_before following [] [] h rest is = record { firsts = refl; undefined = λ s late. refl; defined = λ s early. absurd (omega (arith, early)) }
  firsts_before following [] (q ∷ qs) h rest is = absurd h
  firsts_before following (l ∷ earlier) [] h rest is = absurd h
  firsts_before following (l ∷ earlier) (q ∷ qs) h rest is =
      line_step earlier (following == 0) l q h.0 qs (λ more same. firsts_before (following + 1) earlier qs h.1 more same) (defined_in q.statement) refl rest is

pub firsts_of_outline : (names : List (List ℕ)) (following : ℕ) (earlier : List LineValue) (t : TreeValue) → names ≡ names_before earlier → length names ≤ MOST_SYMBOLS → IsOutlineAfter names following earlier t → first_symbols t.entries ≡ symbol_ids t
firsts_of_outline names following earlier t is few after =
    let firsts = firsts_before names few following earlier (reverse after.readings) after.read [] (is ∙ sym (append-nil (names_before earlier))) in
    let count : length (names_before earlier) ≡ length t.symbols = ap length (sym is) ∙ sym (symbols_of_outline names following earlier t after) in
    ap (λ x. first_symbols x.entries) after.tree ∙ ap first_symbols (entries_of after.readings) ∙ firsts.firsts ∙ ap ids count
