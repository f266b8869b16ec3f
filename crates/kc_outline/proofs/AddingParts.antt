-- What one more reading changes of the definitions, the blocks and the comments.
use Rattle.std.proofs.Common.{◌≡◌, ◌≤◌, ◌<◌, ◌⊎◌, inl, inr, ℕ, suc, ◌+◌, Bool, true, false, cond, List, [], ◌∷◌, ◌++◌, Option, Some, None, option_map, get_or, length, refl, sym, ap, ◌∙◌, arith}
use Rattle.std.specs.Prelude.{if◌then◌else◌, slice_get, All, ◌||◌, ◌&&◌, filter_map}
use Rattle.std.specs.Option.{option_map_or, option_or}
use Rattle.std.proofs.lemmas.Bool.{ne_eqb, eq-eqb}
use Rattle.std.proofs.lemmas.List.{append-nil}
use Rattle.std.proofs.lemmas.List.Elements.{All-weaker}
use Rattle.std.proofs.lemmas.List.Folds.{list_any-append}
use Rattle.std.proofs.lemmas.List.Sums.{sum_by-cons, sum_by_push}
use Rattle.std.proofs.lemmas.Option.{slice_get_cases}
use Rattle.kc_statement.specs.declared.id.SymId.{SymId}
use Rattle.kc_outline.specs.declared.id.BlockId.{BlockId}
use Rattle.kc_outline.specs.declared.id.ChoiceId.{ChoiceId}
use Rattle.kc_statement.specs.declared.expr.Expr.{Expr}
use Rattle.kc_statement.specs.declared.attribute.DefaultValue.{DefaultValue}
use Rattle.kc_statement.specs.declared.attribute.Prompt.{Prompt}
use Rattle.kc_statement.specs.declared.attribute.Range.{Range}
use Rattle.kc_outline.specs.declared.block.BlockKind.TheVariants as block_kind
use Rattle.kc_outline.specs.declared.context.Owner.{Owner}
use Rattle.kc_outline.specs.declared.context.Owner.TheVariants as owner
use Rattle.kc_statement.specs.declared.statement.Statement.{Statement}
use Rattle.kc_statement.specs.declared.statement.Statement.TheVariants as statement
use Rattle.kc_outline.specs.TreeValue.{DefinitionValue, BlockValue, CommentValue}
use Rattle.kc_outline.specs.TreeOf.{Reading, said, is_said, times_said, says_select, says_imply, map_placed, is_of_definition, is_of_block, is_of_comment, depends_in, prompt_in, default_in, range_in, visible_in, defined_in, title_in, DefinitionLine, BlockLine, CommentLine, definition_line, block_line, comment_line, definition_at, definition_lines, definitions_in, block_at, block_lines, blocks_in, comment_at, comment_lines, comments_in}
use Rattle.kc_outline.specs.Outline.{IsMadeBy, IsMade, AreMade}
use Rattle.kc_outline.specs.Adding.{with_some, new_definition, change_definition, definitions_with, selects_of, implies_of, new_block, change_block, blocks_with, new_comment, change_comment, comments_with}
use Rattle.kc_outline.proofs.ChangeLaws.{at_placed, change_at_same, map_placed_push, map_placed_same, map_placed_changed, filter_map_push, with_some-append}

abbrev pub reading : Statement → Option BlockId → Option ChoiceId → Option Owner → Reading
reading st b ch o = record { statement = st; block = b; choice = ch; owner = o }

-- ---- all that a line may add to a part
-- the first one stays
abbrev pub keep_first : {A : Type 0} → Option A → Option A → Option A
keep_first None first = first
keep_first (Some x) first = option_or first (Some x)

abbrev counted_once : Bool → ℕ → ℕ
counted_once false n = n
counted_once true n = n + 1

abbrev definition_after : Option Expr → Option Prompt → Option DefaultValue → Option Range → Bool → Bool → DefinitionValue → DefinitionValue
definition_after e p v r selects implies d = record {
  symbol = d.symbol;
  block = d.block;
  depends = with_some d.depends e;
  prompts = with_some d.prompts p;
  defaults = with_some d.defaults v;
  ranges = with_some d.ranges r;
  select_count = counted_once selects d.select_count;
  imply_count = counted_once implies d.imply_count;
}

abbrev block_after : Option Expr → Option Expr → BlockValue → BlockValue
block_after e v x = record {
  kind = x.kind;
  parent = x.parent;
  depends = with_some x.depends e;
  visible = with_some x.visible v;
}

abbrev comment_after : Option Expr → CommentValue → CommentValue
comment_after e x = record { title = x.title; block = x.block; choice = x.choice; depends = with_some x.depends e }

-- ---- what an owner says
pub said_push : {A : Type 0} → (is_owner : Option Owner → Bool) (say : Statement → Option A) (rs : List Reading) (r : Reading) → said is_owner say (rs ++ r ∷ []) ≡ with_some (said is_owner say rs) (if is_owner r.owner then say r.statement else None)
said_push is_owner say rs r = filter_map_push (λ q. if is_owner q.owner then say q.statement else None) rs r

pub unsaid : {A : Type 0} → (is_owner : Option Owner → Bool) (say : Statement → Option A) (rs : List Reading) → All (λ r. is_owner r.owner ≡ false) rs → said is_owner say rs ≡ []
unsaid is_owner say [] others = refl
unsaid is_owner say (r ∷ rs) others =
    let first : is_owner r.owner ≡ false = others 0 r (omega arith) in
    rw first (unsaid is_owner say rs (λ k d inside. others (suc k) d (omega arith)))

turned : (a b : Bool) → (a || (b || false)) ≡ (b || a)
turned false false = refl
turned false true = refl
turned true false = refl
turned true true = refl

pub is_said_push : (is_owner : Option Owner → Bool) (says : Statement → Bool) (rs : List Reading) (r : Reading) → is_said is_owner says (rs ++ r ∷ []) ≡ ((is_owner r.owner && says r.statement) || is_said is_owner says rs)
is_said_push is_owner says rs r =
    list_any-append (λ q. is_owner q.owner && says q.statement) rs (r ∷ [])
    ∙ turned (is_said is_owner says rs) (is_owner r.owner && says r.statement)

pub never_said : (is_owner : Option Owner → Bool) (says : Statement → Bool) (rs : List Reading) → All (λ r. is_owner r.owner ≡ false) rs → is_said is_owner says rs ≡ false
never_said is_owner says [] others = refl
never_said is_owner says (r ∷ rs) others =
    let first : is_owner r.owner ≡ false = others 0 r (omega arith) in
    rw first (never_said is_owner says rs (λ k d inside. others (suc k) d (omega arith)))

once_more : (b : Bool) (n : ℕ) → n + cond b 1 0 ≡ counted_once b n
once_more false n = omega arith
once_more true n = refl

times_said_push : (is_owner : Option Owner → Bool) (says : Statement → Bool) (rs : List Reading) (r : Reading) → times_said is_owner says (rs ++ r ∷ []) ≡ counted_once (is_owner r.owner && says r.statement) (times_said is_owner says rs)
times_said_push is_owner says rs r =
    sum_by_push (λ q. cond (is_owner q.owner && says q.statement) 1 0) rs r
    ∙ once_more (is_owner r.owner && says r.statement) (times_said is_owner says rs)

never_times : (is_owner : Option Owner → Bool) (says : Statement → Bool) (rs : List Reading) → All (λ r. is_owner r.owner ≡ false) rs → times_said is_owner says rs ≡ 0
never_times is_owner says [] others = refl
never_times is_owner says (r ∷ rs) others =
    let first : is_owner r.owner ≡ false = others 0 r (omega arith) in
    let rest : times_said is_owner says rs ≡ 0 = never_times is_owner says rs (λ k d inside. others (suc k) d (omega arith)) in
    sum_by-cons (λ q. cond (is_owner q.owner && says q.statement) 1 0) r rs ∙ rw first (ap (λ n. 0 + n) rest)

pub none_of : {A B : Type 0} → (f : A → Option B) (xs : List A) → All (λ x. f x ≡ None) xs → filter_map f xs ≡ []
none_of f [] others = refl
none_of f (x ∷ xs) others =
    let first : f x ≡ None = others 0 x (omega arith) in
    rw first (none_of f xs (λ k d inside. others (suc k) d (omega arith)))

pub no_choice : {A : Type 0} → (b : Bool) (x : A) → (if b then x else x) ≡ x
no_choice false x = refl
no_choice true x = refl

pub first_push : {A : Type 0} → (xs : List A) (o : Option A) → slice_get (with_some xs o) 0 ≡ keep_first o (slice_get xs 0)
first_push xs None = refl
first_push [] (Some y) = refl
first_push (x ∷ xs) (Some y) = refl

-- ---- definitions
definition_at_push : (rs : List Reading) (r : Reading) (j : ℕ) (h : DefinitionLine) → definition_at (rs ++ r ∷ []) j h ≡ definition_after (if is_of_definition j r.owner then depends_in r.statement else None) (if is_of_definition j r.owner then prompt_in r.statement else None) (if is_of_definition j r.owner then default_in r.statement else None) (if is_of_definition j r.owner then range_in r.statement else None) (is_of_definition j r.owner && says_select r.statement) (is_of_definition j r.owner && says_imply r.statement) (definition_at rs j h)
definition_at_push rs r j h =
    rw (said_push (is_of_definition j) depends_in rs r, said_push (is_of_definition j) prompt_in rs r, said_push (is_of_definition j) default_in rs r, said_push (is_of_definition j) range_in rs r, times_said_push (is_of_definition j) says_select rs r, times_said_push (is_of_definition j) says_imply rs r)
    refl

change_definition_same : (o : Option Owner) (ds : List DefinitionValue) → change_definition o (λ d. d) ds ≡ ds
change_definition_same None ds = refl
change_definition_same (Some (owner.Definition s j)) ds = change_at_same ds j
change_definition_same (Some (owner.Menu m)) ds = refl
change_definition_same (Some (owner.Choice c m)) ds = refl
change_definition_same (Some (owner.Comment c)) ds = refl

abbrev definitions_of_lines : List Reading → List DefinitionLine → List DefinitionValue
definitions_of_lines rs hs = map_placed (definition_at rs) 0 hs

definitions_after : (rs : List Reading) (st : Statement) (b : Option BlockId) (ch : Option ChoiceId) (o : Option Owner) (hs : List DefinitionLine) → definitions_of_lines (rs ++ reading st b ch o ∷ []) hs ≡ change_definition o (definition_after (depends_in st) (prompt_in st) (default_in st) (range_in st) (says_select st) (says_imply st)) (definitions_of_lines rs hs)
definitions_after rs st b ch None hs =
    map_placed_same (definition_at (rs ++ reading st b ch None ∷ [])) (definition_at rs) 0 hs
    (λ j h late. definition_at_push rs (reading st b ch None) j h)
definitions_after rs st b ch (Some (owner.Menu m)) hs =
    map_placed_same (definition_at (rs ++ reading st b ch (Some (owner.Menu m)) ∷ [])) (definition_at rs) 0 hs
    (λ j h late. definition_at_push rs (reading st b ch (Some (owner.Menu m))) j h)
definitions_after rs st b ch (Some (owner.Choice c m)) hs =
    map_placed_same (definition_at (rs ++ reading st b ch (Some (owner.Choice c m)) ∷ [])) (definition_at rs) 0 hs
    (λ j h late. definition_at_push rs (reading st b ch (Some (owner.Choice c m))) j h)
definitions_after rs st b ch (Some (owner.Comment c)) hs =
    map_placed_same (definition_at (rs ++ reading st b ch (Some (owner.Comment c)) ∷ [])) (definition_at rs) 0 hs
    (λ j h late. definition_at_push rs (reading st b ch (Some (owner.Comment c))) j h)
definitions_after rs st b ch (Some (owner.Definition s i)) hs =
    map_placed_changed (definition_at (rs ++ reading st b ch (Some (owner.Definition s i)) ∷ [])) (definition_at rs) (definition_after (depends_in st) (prompt_in st) (default_in st) (range_in st) (says_select st) (says_imply st)) 0 i hs
    (λ j h other. rw (ne_eqb i j (λ e. omega arith)) at (definition_at_push rs (reading st b ch (Some (owner.Definition s i))) j h))
    (λ h. rw (eq-eqb i (0 + i) (omega arith)) at (definition_at_push rs (reading st b ch (Some (owner.Definition s i))) (0 + i) h))

-- no owner of a reading is a definition that comes next
no_definition_yet : (rs : List Reading) (o : Option Owner) → IsMadeBy rs o → is_of_definition (0 + length (definition_lines rs)) o ≡ false
no_definition_yet rs None made = refl
no_definition_yet rs (Some (owner.Definition s j)) made = ne_eqb j (0 + length (definition_lines rs)) (λ e. omega arith)
no_definition_yet rs (Some (owner.Menu m)) made = refl
no_definition_yet rs (Some (owner.Choice c m)) made = refl
no_definition_yet rs (Some (owner.Comment c)) made = refl

next_definition : (rs : List Reading) (h : DefinitionLine) → AreMade rs → definition_at rs (0 + length (definition_lines rs)) h ≡ new_definition h.symbol h.block
next_definition rs h made =
    let others : All (λ r. is_of_definition (0 + length (definition_lines rs)) r.owner ≡ false) rs =
    All-weaker (IsMade rs) (λ r. is_of_definition (0 + length (definition_lines rs)) r.owner ≡ false) (λ r m. no_definition_yet rs r.owner m.owner) rs made in
    rw (unsaid (is_of_definition (0 + length (definition_lines rs))) depends_in rs others, unsaid (is_of_definition (0 + length (definition_lines rs))) prompt_in rs others, unsaid (is_of_definition (0 + length (definition_lines rs))) default_in rs others, unsaid (is_of_definition (0 + length (definition_lines rs))) range_in rs others, never_times (is_of_definition (0 + length (definition_lines rs))) says_select rs others, never_times (is_of_definition (0 + length (definition_lines rs))) says_imply rs others) refl

pub definition_lines_push : (rs : List Reading) (st : Statement) (b : Option BlockId) (ch : Option ChoiceId) (o : Option Owner) → definition_lines (rs ++ reading st b ch o ∷ []) ≡ with_some (definition_lines rs) (definition_line b st)
definition_lines_push rs st b ch o = filter_map_push (λ r. definition_line r.block r.statement) rs (reading st b ch o)

-- where the line makes no definition
definitions_changed : (rs : List Reading) (st : Statement) (b : Option BlockId) (ch : Option ChoiceId) (o : Option Owner) → defined_in st ≡ None → definitions_in (rs ++ reading st b ch o ∷ []) ≡ change_definition o (definition_after (depends_in st) (prompt_in st) (default_in st) (range_in st) (says_select st) (says_imply st)) (definitions_in rs)
definitions_changed rs st b ch o none =
    let heads : definition_lines (rs ++ reading st b ch o ∷ []) ≡ definition_lines rs = rw none at (definition_lines_push rs st b ch o) in
    rw heads (definitions_after rs st b ch o (definition_lines rs))

definition_added : (rs : List Reading) (s : SymId) (b : Option BlockId) (ch : Option ChoiceId) (o : Option Owner) → AreMade rs → definitions_in (rs ++ reading (statement.Config (Some s)) b ch o ∷ []) ≡ definitions_in rs ++ new_definition s b ∷ []
definition_added rs s b ch o made =
    rw (definition_lines_push rs (statement.Config (Some s)) b ch o)
    (definitions_after rs (statement.Config (Some s)) b ch o (definition_lines rs ++ record { symbol = s; block = b } ∷ [])
    ∙ change_definition_same o (definitions_of_lines rs (definition_lines rs ++ record { symbol = s; block = b } ∷ []))
    ∙ map_placed_push (definition_at rs) 0 (definition_lines rs) (record { symbol = s; block = b })
    ∙ ap (λ d. definitions_in rs ++ d ∷ []) (next_definition rs (record { symbol = s; block = b }) made))

pub definitions_push : (rs : List Reading) (st : Statement) (b : Option BlockId) (ch : Option ChoiceId) (o : Option Owner) → AreMade rs → definitions_in (rs ++ reading st b ch o ∷ []) ≡ definitions_with st b o (definitions_in rs)
definitions_push rs (statement.Config (Some s)) b ch o made = definition_added rs s b ch o made
definitions_push rs (statement.TypeAndPrompt k p) b ch o made = definitions_changed rs (statement.TypeAndPrompt k p) b ch o refl
definitions_push rs (statement.TypeAndDefault k v) b ch o made = definitions_changed rs (statement.TypeAndDefault k v) b ch o refl
definitions_push rs (statement.Prompt p) b ch o made = definitions_changed rs (statement.Prompt p) b ch o refl
definitions_push rs (statement.Default v) b ch o made = definitions_changed rs (statement.Default v) b ch o refl
definitions_push rs (statement.Range v) b ch o made = definitions_changed rs (statement.Range v) b ch o refl
definitions_push rs (statement.DependsOn e) b ch o made = definitions_changed rs (statement.DependsOn e) b ch o refl
definitions_push rs (statement.Select s e) b ch o made = definitions_changed rs (statement.Select s e) b ch o refl
definitions_push rs (statement.Imply s e) b ch o made = definitions_changed rs (statement.Imply s e) b ch o refl
definitions_push rs st b ch o made = definitions_changed rs st b ch o refl ∙ change_definition_same o (definitions_in rs)

-- ---- how many lines of a definition select or imply
-- the number of a definition that no reading makes, of the owner of one
not_of_later : (rs : List Reading) (o : Option Owner) (j : ℕ) → length (definition_lines rs) ≤ j → IsMadeBy rs o → is_of_definition j o ≡ false
not_of_later rs None j later made = refl
not_of_later rs (Some (owner.Definition s i)) j later made = ne_eqb i j (λ e. omega (arith, later, made, e))
not_of_later rs (Some (owner.Menu m)) j later made = refl
not_of_later rs (Some (owner.Choice c m)) j later made = refl
not_of_later rs (Some (owner.Comment c)) j later made = refl

-- a count that a definition has is that of the lines that it owns, and without the definition there are none
counted_at : (rs : List Reading) (says : Statement → Bool) (count : DefinitionValue → ℕ) (j : ℕ) → AreMade rs → ((i : ℕ) (h : DefinitionLine) → count (definition_at rs i h) ≡ times_said (is_of_definition i) says rs) → option_map_or count (slice_get (definitions_in rs) j) 0 ≡ times_said (is_of_definition j) says rs
counted_at rs says count j made counts =
    ap (λ d. option_map_or count d 0) (at_placed (definition_at rs) 0 (definition_lines rs) j)
    ∙ of_line ((slice_get_cases (definition_lines rs) j).1)
  where
    of_line : (((h : DefinitionLine) × (j < length (definition_lines rs)) × (slice_get (definition_lines rs) j ≡ Some h) × (get_or (definition_lines rs) j h ≡ h)) ⊎ ((length (definition_lines rs) ≤ j) × (slice_get (definition_lines rs) j ≡ None))) → option_map_or count (option_map (definition_at rs (0 + j)) (slice_get (definition_lines rs) j)) 0 ≡ times_said (is_of_definition j) says rs
    of_line (inl (h, within, there, same)) =
        let place : 0 + j ≡ j = omega arith in
        ap (λ line. option_map_or count (option_map (definition_at rs (0 + j)) line) 0) there
        ∙ counts (0 + j) h
        ∙ ap (λ i. times_said (is_of_definition i) says rs) place
    of_line (inr (later, there)) =
        ap (λ line. option_map_or count (option_map (definition_at rs (0 + j)) line) 0) there
        ∙ sym (never_times (is_of_definition j) says rs (All-weaker (IsMade rs) (λ r. is_of_definition j r.owner ≡ false) (λ r m. not_of_later rs r.owner j later m.owner) rs made))

pub selects_counted : (rs : List Reading) (j : ℕ) → AreMade rs → selects_of (definitions_in rs) j ≡ times_said (is_of_definition j) says_select rs
selects_counted rs j made = counted_at rs says_select (λ d. d.select_count) j made (λ i h. refl)

pub implies_counted : (rs : List Reading) (j : ℕ) → AreMade rs → implies_of (definitions_in rs) j ≡ times_said (is_of_definition j) says_imply rs
implies_counted rs j made = counted_at rs says_imply (λ d. d.imply_count) j made (λ i h. refl)

-- ---- blocks
block_at_push : (rs : List Reading) (r : Reading) (j : ℕ) (h : BlockLine) → block_at (rs ++ r ∷ []) j h ≡ block_after (if is_of_block j r.owner then depends_in r.statement else None) (if is_of_block j r.owner then visible_in r.statement else None) (block_at rs j h)
block_at_push rs r j h =
    rw (said_push (is_of_block j) depends_in rs r, said_push (is_of_block j) visible_in rs r)
    (rw (with_some-append h.depends (said (is_of_block j) depends_in rs) (if is_of_block j r.owner then depends_in r.statement else None)) refl)

change_block_same : (o : Option Owner) (xs : List BlockValue) → change_block o (λ x. x) xs ≡ xs
change_block_same None xs = refl
change_block_same (Some (owner.Definition s j)) xs = refl
change_block_same (Some (owner.Menu m)) xs = change_at_same xs m.0
change_block_same (Some (owner.Choice c m)) xs = change_at_same xs m.0
change_block_same (Some (owner.Comment c)) xs = refl

abbrev blocks_of_lines : List Reading → List BlockLine → List BlockValue
blocks_of_lines rs hs = map_placed (block_at rs) 0 hs

blocks_after : (rs : List Reading) (st : Statement) (b : Option BlockId) (ch : Option ChoiceId) (o : Option Owner) (hs : List BlockLine) → blocks_of_lines (rs ++ reading st b ch o ∷ []) hs ≡ change_block o (block_after (depends_in st) (visible_in st)) (blocks_of_lines rs hs)
blocks_after rs st b ch None hs =
    map_placed_same (block_at (rs ++ reading st b ch None ∷ [])) (block_at rs) 0 hs
    (λ j h late. block_at_push rs (reading st b ch None) j h)
blocks_after rs st b ch (Some (owner.Definition s i)) hs =
    map_placed_same (block_at (rs ++ reading st b ch (Some (owner.Definition s i)) ∷ [])) (block_at rs) 0 hs
    (λ j h late. block_at_push rs (reading st b ch (Some (owner.Definition s i))) j h)
blocks_after rs st b ch (Some (owner.Comment c)) hs =
    map_placed_same (block_at (rs ++ reading st b ch (Some (owner.Comment c)) ∷ [])) (block_at rs) 0 hs
    (λ j h late. block_at_push rs (reading st b ch (Some (owner.Comment c))) j h)
blocks_after rs st b ch (Some (owner.Menu m)) hs =
    map_placed_changed (block_at (rs ++ reading st b ch (Some (owner.Menu m)) ∷ [])) (block_at rs) (block_after (depends_in st) (visible_in st)) 0 m.0 hs
    (λ j h other. rw (ne_eqb m.0 j (λ e. omega arith)) at (block_at_push rs (reading st b ch (Some (owner.Menu m))) j h))
    (λ h. rw (eq-eqb m.0 (0 + m.0) (omega arith)) at (block_at_push rs (reading st b ch (Some (owner.Menu m))) (0 + m.0) h))
blocks_after rs st b ch (Some (owner.Choice c m)) hs =
    map_placed_changed (block_at (rs ++ reading st b ch (Some (owner.Choice c m)) ∷ [])) (block_at rs) (block_after (depends_in st) (visible_in st)) 0 m.0 hs
    (λ j h other. rw (ne_eqb m.0 j (λ e. omega arith)) at (block_at_push rs (reading st b ch (Some (owner.Choice c m))) j h))
    (λ h. rw (eq-eqb m.0 (0 + m.0) (omega arith)) at (block_at_push rs (reading st b ch (Some (owner.Choice c m))) (0 + m.0) h))

no_block_yet : (rs : List Reading) (o : Option Owner) → IsMadeBy rs o → is_of_block (0 + length (block_lines rs)) o ≡ false
no_block_yet rs None made = refl
no_block_yet rs (Some (owner.Definition s j)) made = refl
no_block_yet rs (Some (owner.Menu m)) made = ne_eqb m.0 (0 + length (block_lines rs)) (λ e. omega arith)
no_block_yet rs (Some (owner.Choice c m)) made = ne_eqb m.0 (0 + length (block_lines rs)) (λ e. omega (arith, made.1))
no_block_yet rs (Some (owner.Comment c)) made = refl

next_block : (rs : List Reading) (h : BlockLine) → AreMade rs → block_at rs (0 + length (block_lines rs)) h ≡ new_block h.kind h.parent h.depends
next_block rs h made =
    let others : All (λ r. is_of_block (0 + length (block_lines rs)) r.owner ≡ false) rs =
    All-weaker (IsMade rs) (λ r. is_of_block (0 + length (block_lines rs)) r.owner ≡ false) (λ r m. no_block_yet rs r.owner m.owner) rs made in
    rw (unsaid (is_of_block (0 + length (block_lines rs))) depends_in rs others, unsaid (is_of_block (0 + length (block_lines rs))) visible_in rs others)
    (ap (λ es. new_block h.kind h.parent es) (append-nil h.depends))

pub block_lines_push : (rs : List Reading) (st : Statement) (b : Option BlockId) (ch : Option ChoiceId) (o : Option Owner) → block_lines (rs ++ reading st b ch o ∷ []) ≡ with_some (block_lines rs) (block_line b st)
block_lines_push rs st b ch o = filter_map_push (λ r. block_line r.block r.statement) rs (reading st b ch o)

blocks_changed : (rs : List Reading) (st : Statement) (b : Option BlockId) (ch : Option ChoiceId) (o : Option Owner) → block_line b st ≡ None → blocks_in (rs ++ reading st b ch o ∷ []) ≡ change_block o (block_after (depends_in st) (visible_in st)) (blocks_in rs)
blocks_changed rs st b ch o none =
    let heads : block_lines (rs ++ reading st b ch o ∷ []) ≡ block_lines rs = rw none at (block_lines_push rs st b ch o) in
    rw heads (blocks_after rs st b ch o (block_lines rs))

block_added : (rs : List Reading) (h : BlockLine) (st : Statement) (b : Option BlockId) (ch : Option ChoiceId) (o : Option Owner) → AreMade rs → block_line b st ≡ Some h → depends_in st ≡ None → visible_in st ≡ None → blocks_in (rs ++ reading st b ch o ∷ []) ≡ blocks_in rs ++ new_block h.kind h.parent h.depends ∷ []
block_added rs h st b ch o made opened no_depends no_visible =
    let heads : block_lines (rs ++ reading st b ch o ∷ []) ≡ block_lines rs ++ h ∷ [] = rw opened at (block_lines_push rs st b ch o) in
    let after : blocks_of_lines (rs ++ reading st b ch o ∷ []) (block_lines rs ++ h ∷ []) ≡ change_block o (block_after None None) (blocks_of_lines rs (block_lines rs ++ h ∷ [])) =
    rw (no_depends, no_visible) at (blocks_after rs st b ch o (block_lines rs ++ h ∷ [])) in
    rw heads
    (after
    ∙ change_block_same o (blocks_of_lines rs (block_lines rs ++ h ∷ []))
    ∙ map_placed_push (block_at rs) 0 (block_lines rs) h
    ∙ ap (λ x. blocks_in rs ++ x ∷ []) (next_block rs h made))

pub blocks_push : (rs : List Reading) (st : Statement) (b : Option BlockId) (ch : Option ChoiceId) (o : Option Owner) → AreMade rs → blocks_in (rs ++ reading st b ch o ∷ []) ≡ blocks_with st b o (blocks_in rs)
blocks_push rs (statement.Menu title) b ch o made = block_added rs (record { kind = block_kind.Menu title; depends = []; parent = b }) (statement.Menu title) b ch o made refl refl refl
blocks_push rs (statement.If e) b ch o made = block_added rs (record { kind = block_kind.If; depends = e ∷ []; parent = b }) (statement.If e) b ch o made refl refl refl
blocks_push rs statement.Choice b ch o made = block_added rs (record { kind = block_kind.Choice; depends = []; parent = b }) statement.Choice b ch o made refl refl refl
blocks_push rs (statement.DependsOn e) b ch o made = blocks_changed rs (statement.DependsOn e) b ch o refl
blocks_push rs (statement.VisibleIf e) b ch o made = blocks_changed rs (statement.VisibleIf e) b ch o refl
blocks_push rs st b ch o made = blocks_changed rs st b ch o refl ∙ change_block_same o (blocks_in rs)

-- ---- comments
comment_at_push : (rs : List Reading) (r : Reading) (j : ℕ) (h : CommentLine) → comment_at (rs ++ r ∷ []) j h ≡ comment_after (if is_of_comment j r.owner then depends_in r.statement else None) (comment_at rs j h)
comment_at_push rs r j h = rw (said_push (is_of_comment j) depends_in rs r) refl

change_comment_same : (o : Option Owner) (xs : List CommentValue) → change_comment o (λ x. x) xs ≡ xs
change_comment_same None xs = refl
change_comment_same (Some (owner.Definition s j)) xs = refl
change_comment_same (Some (owner.Menu m)) xs = refl
change_comment_same (Some (owner.Choice c m)) xs = refl
change_comment_same (Some (owner.Comment c)) xs = change_at_same xs c.0

abbrev comments_of_lines : List Reading → List CommentLine → List CommentValue
comments_of_lines rs hs = map_placed (comment_at rs) 0 hs

comments_after : (rs : List Reading) (st : Statement) (b : Option BlockId) (ch : Option ChoiceId) (o : Option Owner) (hs : List CommentLine) → comments_of_lines (rs ++ reading st b ch o ∷ []) hs ≡ change_comment o (comment_after (depends_in st)) (comments_of_lines rs hs)
comments_after rs st b ch None hs =
    map_placed_same (comment_at (rs ++ reading st b ch None ∷ [])) (comment_at rs) 0 hs
    (λ j h late. comment_at_push rs (reading st b ch None) j h)
comments_after rs st b ch (Some (owner.Definition s i)) hs =
    map_placed_same (comment_at (rs ++ reading st b ch (Some (owner.Definition s i)) ∷ [])) (comment_at rs) 0 hs
    (λ j h late. comment_at_push rs (reading st b ch (Some (owner.Definition s i))) j h)
comments_after rs st b ch (Some (owner.Menu m)) hs =
    map_placed_same (comment_at (rs ++ reading st b ch (Some (owner.Menu m)) ∷ [])) (comment_at rs) 0 hs
    (λ j h late. comment_at_push rs (reading st b ch (Some (owner.Menu m))) j h)
comments_after rs st b ch (Some (owner.Choice c m)) hs =
    map_placed_same (comment_at (rs ++ reading st b ch (Some (owner.Choice c m)) ∷ [])) (comment_at rs) 0 hs
    (λ j h late. comment_at_push rs (reading st b ch (Some (owner.Choice c m))) j h)
comments_after rs st b ch (Some (owner.Comment c)) hs =
    map_placed_changed (comment_at (rs ++ reading st b ch (Some (owner.Comment c)) ∷ [])) (comment_at rs) (comment_after (depends_in st)) 0 c.0 hs
    (λ j h other. rw (ne_eqb c.0 j (λ e. omega arith)) at (comment_at_push rs (reading st b ch (Some (owner.Comment c))) j h))
    (λ h. rw (eq-eqb c.0 (0 + c.0) (omega arith)) at (comment_at_push rs (reading st b ch (Some (owner.Comment c))) (0 + c.0) h))

no_comment_yet : (rs : List Reading) (o : Option Owner) → IsMadeBy rs o → is_of_comment (0 + length (comment_lines rs)) o ≡ false
no_comment_yet rs None made = refl
no_comment_yet rs (Some (owner.Definition s j)) made = refl
no_comment_yet rs (Some (owner.Menu m)) made = refl
no_comment_yet rs (Some (owner.Choice c m)) made = refl
no_comment_yet rs (Some (owner.Comment c)) made = ne_eqb c.0 (0 + length (comment_lines rs)) (λ e. omega arith)

next_comment : (rs : List Reading) (h : CommentLine) → AreMade rs → comment_at rs (0 + length (comment_lines rs)) h ≡ new_comment h.title h.block h.choice
next_comment rs h made =
    let others : All (λ r. is_of_comment (0 + length (comment_lines rs)) r.owner ≡ false) rs =
    All-weaker (IsMade rs) (λ r. is_of_comment (0 + length (comment_lines rs)) r.owner ≡ false) (λ r m. no_comment_yet rs r.owner m.owner) rs made in
    rw (unsaid (is_of_comment (0 + length (comment_lines rs))) depends_in rs others) refl

pub comment_lines_push : (rs : List Reading) (st : Statement) (b : Option BlockId) (ch : Option ChoiceId) (o : Option Owner) → comment_lines (rs ++ reading st b ch o ∷ []) ≡ with_some (comment_lines rs) (comment_line b ch st)
comment_lines_push rs st b ch o = filter_map_push (λ r. comment_line r.block r.choice r.statement) rs (reading st b ch o)

comments_changed : (rs : List Reading) (st : Statement) (b : Option BlockId) (ch : Option ChoiceId) (o : Option Owner) → title_in st ≡ None → comments_in (rs ++ reading st b ch o ∷ []) ≡ change_comment o (comment_after (depends_in st)) (comments_in rs)
comments_changed rs st b ch o none =
    let heads : comment_lines (rs ++ reading st b ch o ∷ []) ≡ comment_lines rs = rw none at (comment_lines_push rs st b ch o) in
    rw heads (comments_after rs st b ch o (comment_lines rs))

comment_added : (rs : List Reading) (title : List ℕ) (b : Option BlockId) (ch : Option ChoiceId) (o : Option Owner) → AreMade rs → comments_in (rs ++ reading (statement.Comment title) b ch o ∷ []) ≡ comments_in rs ++ new_comment title b ch ∷ []
comment_added rs title b ch o made =
    rw (comment_lines_push rs (statement.Comment title) b ch o)
    (comments_after rs (statement.Comment title) b ch o (comment_lines rs ++ record { title = title; block = b; choice = ch } ∷ [])
    ∙ change_comment_same o (comments_of_lines rs (comment_lines rs ++ record { title = title; block = b; choice = ch } ∷ []))
    ∙ map_placed_push (comment_at rs) 0 (comment_lines rs) (record { title = title; block = b; choice = ch })
    ∙ ap (λ x. comments_in rs ++ x ∷ []) (next_comment rs (record { title = title; block = b; choice = ch }) made))

pub comments_push : (rs : List Reading) (st : Statement) (b : Option BlockId) (ch : Option ChoiceId) (o : Option Owner) → AreMade rs → comments_in (rs ++ reading st b ch o ∷ []) ≡ comments_with st b ch o (comments_in rs)
comments_push rs (statement.Comment title) b ch o made = comment_added rs title b ch o made
comments_push rs (statement.DependsOn e) b ch o made = comments_changed rs (statement.DependsOn e) b ch o refl
comments_push rs st b ch o made = comments_changed rs st b ch o refl ∙ change_comment_same o (comments_in rs)
