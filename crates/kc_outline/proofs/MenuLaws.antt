-- Each menu ends once, after it began.
use Rattle.std.proofs.Common.{◌≡◌, ℕ, ◌+◌, ◌<◌, ◌≤◌, ◌==◌, Bool, true, false, not, ◌||◌, ◌&&◌, cond, if◌then◌else◌, List, [], ◌∷◌, ◌++◌, drop, Option, Some, None, count_by, filter_map, unwrap_or, reverse, refl, sym, ap, ◌∙◌, subst, inl, inr, ◌⊎◌, arith}
use Rattle.std.specs.List.{Contains, list_any}
use Rattle.std.specs.Option.{option_map, option_map_or}
use Rattle.std.proofs.lemmas.Bool.{true≢false, eqb-true, eq-eqb, ne_eqb, or_parts, or_from, or_left, and_from, and_left, and_right}
use Rattle.std.proofs.lemmas.List.{append_assoc}
use Rattle.std.proofs.lemmas.List.Folds.{list_any-append, list_any_at}
use Rattle.std.proofs.lemmas.List.Sums.{sum_by-cons}
use Rattle.std.proofs.lemmas.Option.{none-some}
use Rattle.kc_text.specs.LineValue.{LineValue}
use Rattle.kc_text.specs.declared.line.LineKind.{LineKind}
use Rattle.kc_text.specs.declared.line.LineKind.TheVariants.{Statement as StatementLine, EndOfFile as EndLine}
use Rattle.kc_statement.specs.declared.id.SymId.{SymId}
use Rattle.kc_statement.specs.declared.keyword.Keyword.{Keyword}
use Rattle.kc_statement.specs.declared.keyword.Keyword.TheVariants as keyword
use Rattle.kc_statement.specs.declared.symbol_type.SymbolType.{SymbolType}
use Rattle.kc_statement.specs.declared.symbol_type.SymbolType.TheVariants as kind
use Rattle.kc_statement.specs.declared.statement.Statement.{Statement}
use Rattle.kc_statement.specs.declared.statement.Statement.TheVariants as statement
use Rattle.kc_outline.specs.declared.id.BlockId.{BlockId}
use Rattle.kc_outline.specs.declared.id.ChoiceId.{ChoiceId}
use Rattle.kc_outline.specs.declared.context.OpenBlock.{OpenBlock}
use Rattle.kc_outline.specs.declared.context.Owner.{Owner}
use Rattle.kc_outline.specs.declared.context.Owner.TheVariants as owner
use Rattle.kc_outline.specs.declared.entry.Entry.{Entry}
use Rattle.kc_outline.specs.declared.entry.Entry.TheVariants as entry
use Rattle.kc_outline.specs.declared.fault.LineProblem.{LineProblem}
use Rattle.kc_outline.specs.declared.fault.LineProblem.TheVariants.{Limit, StrayAttribute, UnbalancedBlock, UnknownStatement, Unsupported}
use Rattle.kc_statement.specs.Keywords.{keyword_of, is_opener, is_closer, is_opener_word, is_closer_word, is_attribute_word, is_end_of}
use Rattle.kc_statement.specs.NestingDepth.{nests_too_deep}
use Rattle.kc_statement.specs.Statements.{HasFormOf, HasForm, type_word, default_word}
use Rattle.kc_outline.specs.Enclosing.{block_opened, open_blocks, innermost, made_by, nearest_statement, owner_at}
use Rattle.kc_outline.specs.LineFaults.{is_unsupported, is_stray, closes_wrongly, stays_open, block_problem, word_problem, kind_problem}
use Rattle.kc_outline.specs.Adding.{with_some}
use Rattle.kc_outline.specs.Entries.{is_of_menu, IsClosedIn, AreMenusClosed}
use Rattle.kc_outline.specs.Reader.{AreReadingsBefore, IsOutlineAfter}
use Rattle.kc_outline.specs.TreeOf.{Reading, IsReading, definition_number, symbol_entry, choice_entry, comment_entry, entry_at}
use Rattle.kc_outline.specs.TreeValue.{TreeValue}
use Rattle.kc_outline.proofs.AddingParts.{reading}
use Rattle.kc_outline.proofs.EntryLaws.{entries_before, entries_of}
use Rattle.kc_outline.proofs.ContextLaws.{open_blocks-cons}
use Rattle.kc_outline.proofs.ReadingLaws.{word_of, form_word}

-- ---- open blocks have numbers that grow inwards
abbrev IsStacked : ℕ → List OpenBlock → Type 0
IsStacked n [] = Unit {0}
IsStacked n (b ∷ bs) = (b.id.0 < n) × IsStacked b.id.0 bs

stacked_more : (n m : ℕ) (bs : List OpenBlock) → n ≤ m → IsStacked n bs → IsStacked m bs
stacked_more n m [] few h = tt
stacked_more n m (b ∷ bs) few h = (let here = h.0 in omega (arith, here, few), h.1)

stacked_drop : (n : ℕ) (bs : List OpenBlock) → IsStacked n bs → IsStacked n (drop 1 bs)
stacked_drop n [] h = tt
stacked_drop n (b ∷ bs) h = stacked_more b.id.0 n bs (let here = h.0 in omega (arith, here)) h.1

stacked_step : (o c : Bool) (b : OpenBlock) (n : ℕ) (bs : List OpenBlock) → b.id.0 ≡ n → IsStacked n bs → IsStacked (cond o 1 0 + n) (cond o (b ∷ bs) (cond c (drop 1 bs) bs))
stacked_step true c b n bs is h = (omega (arith, is), subst (λ k. IsStacked k bs) (sym is) h)
stacked_step false true b n bs is h = stacked_more n (0 + n) (drop 1 bs) (omega arith) (stacked_drop n bs h)
stacked_step false false b n bs is h = stacked_more n (0 + n) bs (omega arith) h

count_next : (l : LineValue) (earlier : List LineValue) → count_by is_opener (l ∷ earlier) ≡ cond (is_opener l) 1 0 + count_by is_opener earlier
count_next l earlier = sum_by-cons (λ x. cond (is_opener x) 1 0) l earlier

stacked : (earlier : List LineValue) → IsStacked (count_by is_opener earlier) (open_blocks earlier)
stacked [] = tt
stacked (l ∷ earlier) =
    subst (λ n. IsStacked n (open_blocks (l ∷ earlier))) (sym (count_next l earlier))
    (stacked_step (is_opener l) (is_closer l) (block_opened l earlier) (count_by is_opener earlier) (open_blocks earlier) refl (stacked earlier))

-- ---- the words of menus and of their ends
abbrev is_menu_word : Keyword → Bool
is_menu_word k = is_end_of keyword.EndMenu k

abbrev is_end_word : Keyword → Bool
is_end_word k = is_end_of k keyword.Menu

the_menu : (k : Option Keyword) → option_map_or is_menu_word k false ≡ true → k ≡ Some keyword.Menu
the_menu None h = cc
the_menu (Some keyword.Menu) h = refl
the_menu (Some _) h = cc

the_end : (k : Option Keyword) → option_map_or is_end_word k false ≡ true → k ≡ Some keyword.EndMenu
the_end None h = cc
the_end (Some keyword.EndMenu) h = refl
the_end (Some _) h = cc

-- a statement that neither begins nor ends a menu
abbrev is_other : Statement → Bool
is_other (statement.Menu title) = false
is_other statement.EndMenu = false
is_other _ = true

type_is_other : (k : SymbolType) → is_menu_word (type_word k) ≡ false
type_is_other kind.Bool = refl
type_is_other kind.Tristate = refl
type_is_other kind.String = refl
type_is_other kind.Int = refl
type_is_other kind.Hex = refl

default_is_other : (k : SymbolType) → option_map_or is_menu_word (default_word k) false ≡ false
default_is_other kind.Bool = refl
default_is_other kind.Tristate = refl
default_is_other kind.String = refl
default_is_other kind.Int = refl
default_is_other kind.Hex = refl

other_word : (st : Statement) → is_other st ≡ true → option_map_or is_menu_word (word_of st) false ≡ false
other_word (statement.Menu title) e = absurd (true≢false (sym e))
other_word statement.EndMenu e = absurd (true≢false (sym e))
other_word (statement.Type k) e = type_is_other k
other_word (statement.TypeAndPrompt k p) e = type_is_other k
other_word (statement.TypeAndDefault k d) e = default_is_other k
other_word _ e = refl

-- ---- what is known of a menu after some lines: none of them began it, or one did, or one more ended it
abbrev has_menu : BlockId → List OpenBlock → Bool
has_menu b bs = list_any (λ x. x.id.0 == b.0 && is_menu_word x.keyword) bs

record IsUnmade (b : BlockId) (bs : List OpenBlock) (es : List Entry) : Type 0 where
  none : list_any (is_of_menu b) es ≡ false
  gone : has_menu b bs ≡ false

record IsBegun (b : BlockId) (n : ℕ) (es : List Entry) : Type 0 where
  below : b.0 < n
  front : List Entry
  inside : List Entry
  is : es ≡ front ++ entry.Menu b ∷ inside
  front_other : list_any (is_of_menu b) front ≡ false
  inside_other : list_any (is_of_menu b) inside ≡ false

record IsEnded (b : BlockId) (n : ℕ) (bs : List OpenBlock) (es : List Entry) : Type 0 where
  below : b.0 < n
  closed : IsClosedIn es b
  gone : has_menu b bs ≡ false

IsState : BlockId → ℕ → List OpenBlock → List Entry → Type 0
IsState b n bs es = IsUnmade b bs es ⊎ (IsBegun b n es ⊎ IsEnded b n bs es)

module _ (b : BlockId) where
  any_push : (es : List Entry) (e : Entry) → list_any (is_of_menu b) es ≡ false → is_of_menu b e ≡ false → list_any (is_of_menu b) (es ++ e ∷ []) ≡ false
  any_push es e none other =
      list_any-append (is_of_menu b) es (e ∷ [])
      ∙ or_from (list_any (is_of_menu b) es) (is_of_menu b e || false) none (or_from (is_of_menu b e) false other refl)

  -- one more entry of other things
  more_by : (n : ℕ) (bs : List OpenBlock) (es : List Entry) (e : Entry) → is_of_menu b e ≡ false → IsUnmade b bs es ⊎ (IsBegun b n es ⊎ IsEnded b n bs es) → IsUnmade b bs (es ++ e ∷ []) ⊎ (IsBegun b n (es ++ e ∷ []) ⊎ IsEnded b n bs (es ++ e ∷ []))
  more_by n bs es e other (inl h) = inl (record { none = any_push es e h.none other; gone = h.gone })
  more_by n bs es e other (inr (inl h)) = inr (inl (record {
    below = h.below;
    front = h.front;
    inside = h.inside ++ e ∷ [];
    is = ap (λ xs. xs ++ e ∷ []) h.is ∙ append_assoc h.front (entry.Menu b ∷ h.inside) (e ∷ []);
    front_other = h.front_other;
    inside_other = any_push h.inside e h.inside_other other;
  }))
  more_by n bs es e other (inr (inr h)) = inr (inr (record {
    below = h.below;
    closed = record {
      front = h.closed.front;
      inside = h.closed.inside;
      back = h.closed.back ++ e ∷ [];
      is =
          ap (λ xs. xs ++ e ∷ []) h.closed.is
          ∙ append_assoc h.closed.front (entry.Menu b ∷ (h.closed.inside ++ entry.EndMenu b ∷ h.closed.back)) (e ∷ [])
          ∙ ap (λ xs. h.closed.front ++ entry.Menu b ∷ xs) (append_assoc h.closed.inside (entry.EndMenu b ∷ h.closed.back) (e ∷ []));
      front_other = h.closed.front_other;
      inside_other = h.closed.inside_other;
      back_other = any_push h.closed.back e h.closed.back_other other;
    };
    gone = h.gone;
  }))

  more : (n : ℕ) (bs : List OpenBlock) (es : List Entry) (e : Entry) → is_of_menu b e ≡ false → IsState b n bs es → IsState b n bs (es ++ e ∷ [])
  unfolding IsState
  more n bs es e other h = more_by n bs es e other h

  -- other blocks open or closed
  keep : (n m : ℕ) (bs cs : List OpenBlock) (es : List Entry) → n ≤ m → (has_menu b bs ≡ false → has_menu b cs ≡ false) → IsState b n bs es → IsState b m cs es
  unfolding IsState
  keep n m bs cs es few stay (inl h) = inl (record { none = h.none; gone = stay h.gone })
  keep n m bs cs es few stay (inr (inl h)) = inr (inl (record {
    below = (let here = h.below in omega (arith, here, few));
    front = h.front;
    inside = h.inside;
    is = h.is;
    front_other = h.front_other;
    inside_other = h.inside_other;
  }))
  keep n m bs cs es few stay (inr (inr h)) = inr (inr (record { below = (let here = h.below in omega (arith, here, few)); closed = h.closed; gone = stay h.gone }))

  -- it begins
  begin : (n : ℕ) (bs cs : List OpenBlock) (es : List Entry) → b.0 ≡ n → IsState b n bs es → IsState b (n + 1) cs (es ++ entry.Menu b ∷ [])
  unfolding IsState
  begin n bs cs es new (inl h) = inr (inl (record { below = omega (arith, new); front = es; inside = []; is = refl; front_other = h.none; inside_other = refl }))
  begin n bs cs es new (inr (inl h)) = absurd (let here = h.below in omega (arith, here, new))
  begin n bs cs es new (inr (inr h)) = absurd (let here = h.below in omega (arith, here, new))

  gone_below : (m : ℕ) (bs : List OpenBlock) → m ≤ b.0 → IsStacked m bs → has_menu b bs ≡ false
  gone_below m [] past h = refl
  gone_below m (x ∷ xs) past h =
      let here = h.0 in
      let apart : (x.id.0 == b.0) ≡ false = ne_eqb x.id.0 b.0 (λ e. omega (arith, e, here, past)) in
      or_from (x.id.0 == b.0 && is_menu_word x.keyword) (has_menu b xs) (and_left (x.id.0 == b.0) (is_menu_word x.keyword) apart) (gone_below x.id.0 xs (omega (arith, here, past)) h.1)

  is_there : (x : OpenBlock) (bs : List OpenBlock) → b.0 ≡ x.id.0 → is_menu_word x.keyword ≡ true → has_menu b (x ∷ bs) ≡ true
  is_there x bs own menu =
      or_left (x.id.0 == b.0 && is_menu_word x.keyword) (has_menu b bs) (and_from (x.id.0 == b.0) (is_menu_word x.keyword) (eq-eqb x.id.0 b.0 (sym own)) menu)

  -- it ends
  end : (n : ℕ) (x : OpenBlock) (bs : List OpenBlock) (es : List Entry) → b.0 ≡ x.id.0 → is_menu_word x.keyword ≡ true → IsStacked n (x ∷ bs) → IsState b n (x ∷ bs) es → IsState b n bs (es ++ entry.EndMenu b ∷ [])
  unfolding IsState
  end n x bs es own menu inwards (inl h) = absurd (true≢false (sym (is_there x bs own menu) ∙ h.gone))
  end n x bs es own menu inwards (inr (inl h)) = inr (inr (record {
    below = h.below;
    closed = record {
      front = h.front;
      inside = h.inside;
      back = [];
      is = ap (λ xs. xs ++ entry.EndMenu b ∷ []) h.is ∙ append_assoc h.front (entry.Menu b ∷ h.inside) (entry.EndMenu b ∷ []);
      front_other = h.front_other;
      inside_other = h.inside_other;
      back_other = refl;
    };
    gone = gone_below x.id.0 bs (omega (arith, own)) inwards.1;
  }))
  end n x bs es own menu inwards (inr (inr h)) = absurd (true≢false (sym (is_there x bs own menu) ∙ h.gone))

  -- ---- a line that begins a menu, this one or another
  menu_step : (n : ℕ) (x : OpenBlock) (bs : List OpenBlock) (es : List Entry) → x.id.0 ≡ n → IsState b n bs es → IsState b (n + 1) (x ∷ bs) (es ++ entry.Menu (record { 0 = n }) ∷ [])
  menu_step n x bs es new h = by (n == b.0) refl
    where
      by : (t : Bool) → (n == b.0) ≡ t → IsState b (n + 1) (x ∷ bs) (es ++ entry.Menu (record { 0 = n }) ∷ [])
      by true e =
          let own : n ≡ b.0 = eqb-true n b.0 e in
          let same : b ≡ record { 0 = n } = ap (λ (k : ℕ). record { 0 = k }) (sym own) in
          subst (λ c. IsState b (n + 1) (x ∷ bs) (es ++ entry.Menu c ∷ [])) same (begin n bs (x ∷ bs) es (sym own) h)
      by false e =
          let apart : (x.id.0 == b.0) ≡ false = ap (λ k. k == b.0) new ∙ e in
          more (n + 1) (x ∷ bs) es (entry.Menu (record { 0 = n })) e
          (keep n (n + 1) bs (x ∷ bs) es (omega arith) (λ none. or_from (x.id.0 == b.0 && is_menu_word x.keyword) (has_menu b bs) (and_left (x.id.0 == b.0) (is_menu_word x.keyword) apart) none) h)

  -- ---- a line that ends a menu, this one or another
  end_step : (n : ℕ) (x : OpenBlock) (bs : List OpenBlock) (es : List Entry) → is_menu_word x.keyword ≡ true → IsStacked n (x ∷ bs) → IsState b n (x ∷ bs) es → IsState b n bs (es ++ entry.EndMenu x.id ∷ [])
  end_step n x bs es menu inwards h = by (x.id.0 == b.0) refl
    where
      by : (t : Bool) → (x.id.0 == b.0) ≡ t → IsState b n bs (es ++ entry.EndMenu x.id ∷ [])
      by true e =
          let own : x.id.0 ≡ b.0 = eqb-true x.id.0 b.0 e in
          let same : b ≡ x.id = ap (λ (k : ℕ). record { 0 = k }) (sym own) in
          subst (λ c. IsState b n bs (es ++ entry.EndMenu c ∷ [])) same (end n x bs es (sym own) menu inwards h)
      by false e =
          more n bs es (entry.EndMenu x.id) e
          (keep n n (x ∷ bs) bs es (omega arith) (λ none. (or_parts (x.id.0 == b.0 && is_menu_word x.keyword) (has_menu b bs) none).1) h)

  -- ---- a line of another statement
  symbol_other : (earlier : List Reading) (s : SymId) (js : List ℕ) → filter_map (definition_number s) earlier ≡ js → is_of_menu b (symbol_entry earlier s) ≡ false
  symbol_other earlier s [] e = rw e refl
  symbol_other earlier s (j ∷ js) e = rw e refl

  module _ (n : ℕ) (bs : List OpenBlock) (es : List Entry) (h : IsState b n bs es) where
    choice_step : (o : Option Owner) → IsState b n bs (with_some es (choice_entry o))
    choice_step None = h
    choice_step (Some (owner.Definition s j)) = h
    choice_step (Some (owner.Menu m)) = h
    choice_step (Some (owner.Choice c m)) = more n bs es (entry.Choice c) refl h
    choice_step (Some (owner.Comment c)) = h

    comment_step : (o : Option Owner) → IsState b n bs (with_some es (comment_entry o))
    comment_step None = h
    comment_step (Some (owner.Definition s j)) = h
    comment_step (Some (owner.Menu m)) = h
    comment_step (Some (owner.Choice c m)) = h
    comment_step (Some (owner.Comment c)) = more n bs es (entry.Comment c) refl h

    other_entry : (earlier : List Reading) (st : Statement) (block : Option BlockId) (ch : Option ChoiceId) (o : Option Owner) → is_other st ≡ true → IsState b n bs (with_some es (entry_at earlier (reading st block ch o)))
    other_entry earlier (statement.Menu title) block ch o e = absurd (true≢false (sym e))
    other_entry earlier statement.EndMenu block ch o e = absurd (true≢false (sym e))
    other_entry earlier (statement.Config None) block ch o e = h
    other_entry earlier (statement.Config (Some s)) block ch o e =
        more n bs es (symbol_entry earlier s) (symbol_other earlier s (filter_map (definition_number s) earlier) refl) h
    other_entry earlier statement.Choice block ch o e = choice_step o
    other_entry earlier (statement.Comment title) block ch o e = comment_step o
    other_entry earlier _ block ch o e = h

  dropped : (bs : List OpenBlock) → has_menu b bs ≡ false → has_menu b (drop 1 bs) ≡ false
  dropped [] none = refl
  dropped (x ∷ xs) none = (or_parts (x.id.0 == b.0 && is_menu_word x.keyword) (has_menu b xs) none).1

  gone_after : (opens closes : Bool) (x : OpenBlock) (bs : List OpenBlock) → is_menu_word x.keyword ≡ false → has_menu b bs ≡ false → has_menu b (cond opens (x ∷ bs) (cond closes (drop 1 bs) bs)) ≡ false
  gone_after true closes x bs other none =
      or_from (x.id.0 == b.0 && is_menu_word x.keyword) (has_menu b bs) (and_right (x.id.0 == b.0) (is_menu_word x.keyword) other) none
  gone_after false true x bs other none = dropped bs none
  gone_after false false x bs other none = none

-- ---- lines
ends_menu : (p q : Bool) → not (p && q) ≡ false → p ≡ true
ends_menu true q e = refl
ends_menu false q e = absurd (true≢false e)

no_third : (a b c d : Bool) (x y z w : LineProblem) → (if a then Some x else (if b then Some y else (if c then Some z else (if d then Some w else None)))) ≡ None → c ≡ false
no_third true b c d x y z w e = absurd (none-some x (sym e))
no_third false true c d x y z w e = absurd (none-some y (sym e))
no_third false false true d x y z w e = absurd (none-some z (sym e))
no_third false false false d x y z w e = refl

module _ (b : BlockId) (names : List (List ℕ)) where
  module _ (earlier : List LineValue) (is_last : Bool) (l : LineValue) (q : Reading) (reads : IsReading names earlier is_last l q) (qs : List Reading) (before : IsState b (count_by is_opener earlier) (open_blocks earlier) (entries_before qs)) where
    abbrev After : Type 0
    After = IsState b (count_by is_opener (l ∷ earlier)) (open_blocks (l ∷ earlier)) (entries_before (q ∷ qs))

    of_menu : (title : List ℕ) → q.statement ≡ statement.Menu title → After
    of_menu title e =
        let word = the_menu (keyword_of l) (form_word is_menu_word refl names l q.statement reads.sound.form ∙ ap (λ st. option_map_or is_menu_word (word_of st) false) e) in
        let n = count_by is_opener earlier in
        let owned : q.owner ≡ Some (owner.Menu (record { 0 = n })) =
        reads.owner ∙ ap (λ k. if option_map_or is_attribute_word k false then owner_at names earlier else made_by names k l earlier) word in
        let reads_as : q ≡ reading (statement.Menu title) q.block q.choice (Some (owner.Menu (record { 0 = n }))) =
        ap (λ st. reading st q.block q.choice q.owner) e ∙ ap (λ o. reading (statement.Menu title) q.block q.choice o) owned in
        let one : ◌≡◌ {A = ℕ} (cond (is_opener l) 1 0) 1 = ap (λ k. cond (option_map_or is_opener_word k false) 1 0) word in
        let count : n + 1 ≡ count_by is_opener (l ∷ earlier) = omega (arith, one, count_next l earlier) in
        let blocks : block_opened l earlier ∷ open_blocks earlier ≡ open_blocks (l ∷ earlier) = sym (open_blocks-cons l earlier keyword.Menu word) in
        subst (λ r. IsState b (count_by is_opener (l ∷ earlier)) (open_blocks (l ∷ earlier)) (entries_before (r ∷ qs))) (sym reads_as)
        (subst (λ m. IsState b m (open_blocks (l ∷ earlier)) (entries_before qs ++ entry.Menu (record { 0 = n }) ∷ [])) count
        (subst (λ bs. IsState b (n + 1) bs (entries_before qs ++ entry.Menu (record { 0 = n }) ∷ [])) blocks
        (menu_step b n (block_opened l earlier) (open_blocks earlier) (entries_before qs) refl before)))

    well_closed : (line : LineKind) → kind_problem earlier is_last line l ≡ None → HasFormOf names line l.tokens statement.EndMenu → keyword_of l ≡ Some keyword.EndMenu → closes_wrongly (open_blocks earlier) keyword.EndMenu l.run ≡ false
    well_closed EndLine none form word = absurd (cc)
    well_closed StatementLine none form word =
        let here : word_problem earlier is_last keyword.EndMenu l ≡ None =
        sym (ap (λ k. option_map_or (λ j. word_problem earlier is_last j l) k (Some UnknownStatement)) word) ∙ none in
        let balanced : block_problem earlier is_last keyword.EndMenu l ≡ false =
        no_third (is_unsupported (open_blocks earlier) (nearest_statement earlier) keyword.EndMenu (drop 1 l.tokens)) (is_stray (nearest_statement earlier) keyword.EndMenu) (block_problem earlier is_last keyword.EndMenu l) (nests_too_deep l.tokens) Unsupported StrayAttribute UnbalancedBlock Limit here in
        (or_parts (closes_wrongly (open_blocks earlier) keyword.EndMenu l.run) (is_last && stays_open (open_blocks (l ∷ earlier))) balanced).0

    ended : (n : ℕ) (bs : List OpenBlock) (es : List Entry) → closes_wrongly bs keyword.EndMenu l.run ≡ false → IsStacked n bs → IsState b n bs es → IsState b n (drop 1 bs) (with_some es (option_map entry.EndMenu (innermost bs)))
    ended n [] es closes inwards h = absurd (true≢false closes)
    ended n (x ∷ xs) es closes inwards h = end_step b n x xs es (ends_menu (is_end_of keyword.EndMenu x.keyword) (x.run == l.run) closes) inwards h

    of_end : q.statement ≡ statement.EndMenu → After
    unfolding HasForm
    of_end e =
        let word = the_end (keyword_of l) (form_word is_end_word refl names l q.statement reads.sound.form ∙ ap (λ st. option_map_or is_end_word (word_of st) false) e) in
        let n = count_by is_opener earlier in
        let form : HasFormOf names l.kind l.tokens statement.EndMenu = subst (HasFormOf names l.kind l.tokens) e reads.sound.form in
        let closes = well_closed l.kind reads.sound.early form word in
        let reads_as : q ≡ reading statement.EndMenu (innermost (open_blocks earlier)) q.choice q.owner =
        ap (λ st. reading st q.block q.choice q.owner) e ∙ ap (λ x. reading statement.EndMenu x q.choice q.owner) reads.block in
        let none : ◌≡◌ {A = ℕ} (cond (is_opener l) 1 0) 0 = ap (λ k. cond (option_map_or is_opener_word k false) 1 0) word in
        let count : n ≡ count_by is_opener (l ∷ earlier) = omega (arith, none, count_next l earlier) in
        let blocks : drop 1 (open_blocks earlier) ≡ open_blocks (l ∷ earlier) = sym (open_blocks-cons l earlier keyword.EndMenu word) in
        let last = option_map entry.EndMenu (innermost (open_blocks earlier)) in
        subst (λ r. IsState b (count_by is_opener (l ∷ earlier)) (open_blocks (l ∷ earlier)) (entries_before (r ∷ qs))) (sym reads_as)
        (subst (λ m. IsState b m (open_blocks (l ∷ earlier)) (with_some (entries_before qs) last)) count
        (subst (λ bs. IsState b n bs (with_some (entries_before qs) last)) blocks
        (ended n (open_blocks earlier) (entries_before qs) closes (stacked earlier) before)))

    blocks_gone : option_map_or is_menu_word (keyword_of l) false ≡ false → (k : Option Keyword) → keyword_of l ≡ k → has_menu b (open_blocks earlier) ≡ false → has_menu b (open_blocks (l ∷ earlier)) ≡ false
    blocks_gone other None e none =
        let no = λ (w : Keyword → Bool). ap (λ o. option_map_or w o false) e in
        let same : open_blocks (l ∷ earlier) ≡ open_blocks earlier =
        ap (λ t. cond t (block_opened l earlier ∷ open_blocks earlier) (cond (is_closer l) (drop 1 (open_blocks earlier)) (open_blocks earlier))) (no is_opener_word)
        ∙ ap (λ t. cond t (drop 1 (open_blocks earlier)) (open_blocks earlier)) (no is_closer_word) in
        ap (has_menu b) same ∙ none
    blocks_gone other (Some k) e none =
        let keyword_other : is_menu_word (block_opened l earlier).keyword ≡ false =
        ap (λ o. is_menu_word (unwrap_or o keyword.If)) e ∙ sym (ap (λ o. option_map_or is_menu_word o false) e) ∙ other in
        ap (has_menu b) (open_blocks-cons l earlier k e)
        ∙ gone_after b (is_opener_word k) (is_closer_word k) (block_opened l earlier) (open_blocks earlier) keyword_other none

    of_other : is_other q.statement ≡ true → After
    of_other e =
        let other : option_map_or is_menu_word (keyword_of l) false ≡ false = form_word is_menu_word refl names l q.statement reads.sound.form ∙ other_word q.statement e in
        let n = count_by is_opener earlier in
        let few : n ≤ count_by is_opener (l ∷ earlier) = omega (arith, count_next l earlier) in
        keep b n (count_by is_opener (l ∷ earlier)) (open_blocks earlier) (open_blocks (l ∷ earlier)) (entries_before (q ∷ qs)) few
        (blocks_gone other (keyword_of l) refl)
        (other_entry b n (open_blocks earlier) (entries_before qs) before (reverse qs) q.statement q.block q.choice q.owner e)

    line_step : (st : Statement) → q.statement ≡ st → After
    line_step (statement.Menu title) e = of_menu title e
    line_step statement.EndMenu e = of_end e
    line_step _ e = of_other (ap is_other e)

  first_state : IsState b (count_by is_opener []) (open_blocks []) (entries_before [])
  unfolding IsState
  first_state = inl (record { none = refl; gone = refl })

  states : (following : ℕ) (earlier : List LineValue) (qs : List Reading) → AreReadingsBefore names following earlier qs → IsState b (count_by is_opener earlier) (open_blocks earlier) (entries_before qs)
  states following [] [] h = first_state
  states following [] (q ∷ qs) h = absurd h
  states following (l ∷ earlier) [] h = absurd h
  states following (l ∷ earlier) (q ∷ qs) h =
      line_step earlier (following == 0) l q h.0 qs (states (following + 1) earlier qs h.1) q.statement refl

-- ---- an end that is there
abbrev is_end : BlockId → Entry → Bool
is_end b (entry.EndMenu d) = d.0 == b.0
is_end b _ = false

module _ (b : BlockId) where
  no_end_here : (e : Entry) → is_of_menu b e ≡ false → is_end b e ≡ false
  no_end_here (entry.EndMenu d) other = other
  no_end_here _ other = refl

  no_end : (es : List Entry) → list_any (is_of_menu b) es ≡ false → list_any (is_end b) es ≡ false
  no_end [] none = refl
  no_end (e ∷ es) none =
      let parts = or_parts (is_of_menu b e) (list_any (is_of_menu b) es) none in
      or_from (is_end b e) (list_any (is_end b) es) (no_end_here e parts.0) (no_end es parts.1)

  there_is : (test : Entry → Bool) (es : List Entry) (e : Entry) → test e ≡ true → Contains es e → list_any test es ≡ true
  there_is test es e passes there = list_any_at test es there.0 e there.1 (ap test there.2 ∙ passes)

  closed_by : (n : ℕ) (bs : List OpenBlock) (es : List Entry) → Contains es (entry.EndMenu b) → IsState b n bs es → IsClosedIn es b
  unfolding IsState
  closed_by n bs es there (inl h) =
      absurd (true≢false (sym (there_is (is_of_menu b) es (entry.EndMenu b) (eq-eqb b.0 b.0 refl) there) ∙ h.none))
  closed_by n bs es there (inr (inl h)) =
      let none : list_any (is_end b) es ≡ false =
      ap (list_any (is_end b)) h.is
      ∙ list_any-append (is_end b) h.front (entry.Menu b ∷ h.inside)
      ∙ or_from (list_any (is_end b) h.front) (list_any (is_end b) h.inside) (no_end h.front h.front_other) (no_end h.inside h.inside_other) in
      absurd (true≢false (sym (there_is (is_end b) es (entry.EndMenu b) (eq-eqb b.0 b.0 refl) there) ∙ none))
  closed_by n bs es there (inr (inr h)) = h.closed

pub menus_of_outline : (names : List (List ℕ)) (following : ℕ) (earlier : List LineValue) (t : TreeValue) → IsOutlineAfter names following earlier t → AreMenusClosed t
menus_of_outline names following earlier t after =
    let qs = reverse after.readings in
    let same : t.entries ≡ entries_before qs = ap (λ x. x.entries) after.tree ∙ entries_of after.readings in
    record {
      closed = λ b there. subst (λ es. IsClosedIn es b) (sym same)
          (closed_by b (count_by is_opener earlier) (open_blocks earlier) (entries_before qs) (subst (λ es. Contains es (entry.EndMenu b)) same there)
          (states b names following earlier qs after.read));
    }
