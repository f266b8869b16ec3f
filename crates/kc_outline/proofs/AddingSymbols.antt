-- What one more reading changes of the symbols.
use Rattle.std.proofs.Common.{◌≡◌, ℕ, ◌+◌, ◌==◌, Bool, true, false, ◌||◌, ◌&&◌, List, [], ◌∷◌, ◌++◌, Option, Some, None, map, refl, sym, ap, ◌∙◌, arith}
use Rattle.std.specs.Prelude.{if◌then◌else◌, filter_map}
use Rattle.std.specs.Option.{option_or}
use Rattle.std.specs.List.{range_with_len}
use Rattle.std.proofs.Math.Bool.{and-false}
use Rattle.std.proofs.lemmas.Bool.{ne_eqb, eq-eqb}
use Rattle.std.proofs.lemmas.List.FromFn.{map-range_with_len_more}
use Rattle.kc_statement.specs.declared.id.SymId.{SymId}
use Rattle.kc_outline.specs.declared.id.BlockId.{BlockId}
use Rattle.kc_outline.specs.declared.id.ChoiceId.{ChoiceId}
use Rattle.kc_statement.specs.declared.expr.Expr.{Expr}
use Rattle.kc_statement.specs.declared.symbol_type.SymbolType.{SymbolType}
use Rattle.kc_outline.specs.declared.symbol.Reverse.{Reverse}
use Rattle.kc_outline.specs.declared.context.Owner.{Owner}
use Rattle.kc_outline.specs.declared.context.Owner.TheVariants as owner
use Rattle.kc_statement.specs.declared.statement.Statement.{Statement}
use Rattle.kc_statement.specs.declared.statement.Statement.TheVariants as statement
use Rattle.kc_outline.specs.TreeValue.{SymbolValue}
use Rattle.kc_outline.specs.TreeOf.{Reading, is_of_symbol, is_of_definition, times_said, type_in, says_select, says_imply, says_selection, says_modules, says_yes_in_allnoconfig, definition_number, choice_at_definition, selection_of, implication_of, symbol_at, symbols_in, definitions_in}
use Rattle.kc_outline.specs.Outline.{AreMade}
use Rattle.kc_outline.specs.Adding.{change_at, with_some, with_definition, standing_in, with_selection, with_implication, change_symbol, numbered, placed, selecting, selected, implied, symbols_with, new_symbol}
use Rattle.kc_outline.proofs.ChangeLaws.{change_at_same, change_at_twice, map_range_same, map_range_changed, filter_map_push, found_after_push}
use Rattle.kc_outline.proofs.AddingParts.{reading, keep_first, said_push, is_said_push, first_push, no_choice, selects_counted, implies_counted}

-- ---- of no lines
pub new_symbols_more : (n : ℕ) → symbols_in (n + 1) [] ≡ symbols_in n [] ++ new_symbol ∷ []
new_symbols_more n = map-range_with_len_more (λ k. symbol_at [] (record { 0 = k })) 0 n n (omega arith)

-- ---- one symbol
-- all that the owner of a line may get
abbrev symbol_after : Option SymbolType → Bool → Bool → Bool → SymbolValue → SymbolValue
symbol_after k selects modules always x = record {
  types = with_some x.types k;
  choice = x.choice;
  definitions = x.definitions;
  selected = x.selected;
  implied = x.implied;
  has_selections = selects || x.has_selections;
  has_modules = modules || x.has_modules;
  is_yes_in_allnoconfig = always || x.is_yes_in_allnoconfig;
}

-- all that a reading may change of a symbol
abbrev pub symbol_step : Option SymbolType → Bool → Bool → Bool → Option ℕ → Option ChoiceId → Option Reverse → Option Reverse → SymbolValue → SymbolValue
symbol_step k selects modules always number choice selection implication x = record {
  types = with_some x.types k;
  choice = keep_first choice x.choice;
  definitions = with_some x.definitions number;
  selected = with_some x.selected selection;
  implied = with_some x.implied implication;
  has_selections = selects || x.has_selections;
  has_modules = modules || x.has_modules;
  is_yes_in_allnoconfig = always || x.is_yes_in_allnoconfig;
}

symbol_at_push : (rs : List Reading) (r : Reading) (s : SymId) → symbol_at (rs ++ r ∷ []) s ≡ symbol_step (if is_of_symbol s r.owner then type_in r.statement else None) (is_of_symbol s r.owner && says_selection r.statement) (is_of_symbol s r.owner && says_modules r.statement) (is_of_symbol s r.owner && says_yes_in_allnoconfig r.statement) (definition_number s r) (choice_at_definition s r) (selection_of s rs r) (implication_of s rs r) (symbol_at rs s)
symbol_at_push rs r s =
    rw (said_push (is_of_symbol s) type_in rs r, filter_map_push (definition_number s) rs r, filter_map_push (choice_at_definition s) rs r, found_after_push (selection_of s) [] rs r, found_after_push (implication_of s) [] rs r, is_said_push (is_of_symbol s) says_selection rs r, is_said_push (is_of_symbol s) says_modules rs r, is_said_push (is_of_symbol s) says_yes_in_allnoconfig rs r)
    (rw (first_push (filter_map (choice_at_definition s) rs) (choice_at_definition s r)) refl)

-- of a statement that says at most that its owner's symbol selects
quiet_push : (rs : List Reading) (st : Statement) (b : Option BlockId) (ch : Option ChoiceId) (o : Option Owner) (s : SymId) → type_in st ≡ None → says_modules st ≡ false → says_yes_in_allnoconfig st ≡ false → symbol_at (rs ++ reading st b ch o ∷ []) s ≡ symbol_step None (is_of_symbol s o && says_selection st) false false (definition_number s (reading st b ch o)) (choice_at_definition s (reading st b ch o)) (selection_of s rs (reading st b ch o)) (implication_of s rs (reading st b ch o)) (symbol_at rs s)
quiet_push rs st b ch o s no_type no_modules no_always =
    symbol_at_push rs (reading st b ch o) s
    ∙ rw (no_type, no_modules, no_always) (rw (no_choice {A = Option SymbolType} (is_of_symbol s o) None, and-false (is_of_symbol s o)) refl)

-- ---- the symbol of the owner
change_symbol_same : (o : Option Owner) (xs : List SymbolValue) → change_symbol o (λ x. x) xs ≡ xs
change_symbol_same None xs = refl
change_symbol_same (Some (owner.Definition s j)) xs = change_at_same xs s.0
change_symbol_same (Some (owner.Menu m)) xs = refl
change_symbol_same (Some (owner.Choice c m)) xs = refl
change_symbol_same (Some (owner.Comment c)) xs = refl

-- a statement that names no symbol
pub record NamesNone (rs : List Reading) (st : Statement) (b : Option BlockId) (ch : Option ChoiceId) (o : Option Owner) : Type 0 where
  pub number : (s : SymId) → definition_number s (reading st b ch o) ≡ None
  pub choice : (s : SymId) → choice_at_definition s (reading st b ch o) ≡ None
  pub selection : (s : SymId) → selection_of s rs (reading st b ch o) ≡ None
  pub implication : (s : SymId) → implication_of s rs (reading st b ch o) ≡ None

owned_push : (rs : List Reading) (st : Statement) (b : Option BlockId) (ch : Option ChoiceId) (o : Option Owner) (s : SymId) → NamesNone rs st b ch o → symbol_at (rs ++ reading st b ch o ∷ []) s ≡ symbol_after (if is_of_symbol s o then type_in st else None) (is_of_symbol s o && says_selection st) (is_of_symbol s o && says_modules st) (is_of_symbol s o && says_yes_in_allnoconfig st) (symbol_at rs s)
owned_push rs st b ch o s names =
    symbol_at_push rs (reading st b ch o) s
    ∙ rw (names.number s, names.choice s, names.selection s, names.implication s) refl

symbols_owned : (n : ℕ) (rs : List Reading) (st : Statement) (b : Option BlockId) (ch : Option ChoiceId) (o : Option Owner) → NamesNone rs st b ch o → symbols_in n (rs ++ reading st b ch o ∷ []) ≡ change_symbol o (symbol_after (type_in st) (says_selection st) (says_modules st) (says_yes_in_allnoconfig st)) (symbols_in n rs)
symbols_owned n rs st b ch None names =
    map_range_same (λ k. symbol_at (rs ++ reading st b ch None ∷ []) (record { 0 = k })) (λ k. symbol_at rs (record { 0 = k })) 0 n
    (λ k late. owned_push rs st b ch None (record { 0 = k }) names)
symbols_owned n rs st b ch (Some (owner.Menu m)) names =
    map_range_same (λ k. symbol_at (rs ++ reading st b ch (Some (owner.Menu m)) ∷ []) (record { 0 = k })) (λ k. symbol_at rs (record { 0 = k })) 0 n
    (λ k late. owned_push rs st b ch (Some (owner.Menu m)) (record { 0 = k }) names)
symbols_owned n rs st b ch (Some (owner.Choice c m)) names =
    map_range_same (λ k. symbol_at (rs ++ reading st b ch (Some (owner.Choice c m)) ∷ []) (record { 0 = k })) (λ k. symbol_at rs (record { 0 = k })) 0 n
    (λ k late. owned_push rs st b ch (Some (owner.Choice c m)) (record { 0 = k }) names)
symbols_owned n rs st b ch (Some (owner.Comment c)) names =
    map_range_same (λ k. symbol_at (rs ++ reading st b ch (Some (owner.Comment c)) ∷ []) (record { 0 = k })) (λ k. symbol_at rs (record { 0 = k })) 0 n
    (λ k late. owned_push rs st b ch (Some (owner.Comment c)) (record { 0 = k }) names)
symbols_owned n rs st b ch (Some (owner.Definition d i)) names =
    map_range_changed (λ k. symbol_at (rs ++ reading st b ch (Some (owner.Definition d i)) ∷ []) (record { 0 = k })) (λ k. symbol_at rs (record { 0 = k })) (symbol_after (type_in st) (says_selection st) (says_modules st) (says_yes_in_allnoconfig st)) 0 d.0 n
    (λ k other. rw (ne_eqb d.0 k (λ e. omega arith)) at (owned_push rs st b ch (Some (owner.Definition d i)) (record { 0 = k }) names))
    (rw (eq-eqb d.0 (0 + d.0) (omega arith)) at (owned_push rs st b ch (Some (owner.Definition d i)) (record { 0 = 0 + d.0 }) names))

and_true : (b : Bool) → (b && true) ≡ b
and_true false = refl
and_true true = refl

-- ---- the symbol that is defined
config_push : (rs : List Reading) (d : SymId) (b : Option BlockId) (ch : Option ChoiceId) (o : Option Owner) (s : SymId) → symbol_at (rs ++ reading (statement.Config (Some d)) b ch o ∷ []) s ≡ symbol_step None false false false (definition_number s (reading (statement.Config (Some d)) b ch o)) (if d.0 == s.0 then ch else None) None None (symbol_at rs s)
config_push rs d b ch o s =
    quiet_push rs (statement.Config (Some d)) b ch o s refl refl refl ∙ rw (and-false (is_of_symbol s o)) refl

stands_in : (c : Option ChoiceId) (x : SymbolValue) → symbol_step None false false false None c None None x ≡ standing_in c x
stands_in c x = rw (first_or (x.choice) c) refl where
  first_or : (old new : Option ChoiceId) → keep_first new old ≡ option_or old new
  first_or None None = refl
  first_or None (Some y) = refl
  first_or (Some z) None = refl
  first_or (Some z) (Some y) = refl

numbered_there : (i : ℕ) (c : Option ChoiceId) (x : SymbolValue) → symbol_step None false false false (Some i) c None None x ≡ with_definition i (standing_in c x)
numbered_there i c x = ap (with_definition i) (stands_in c x)

-- where no number goes with it
symbols_placed : (n : ℕ) (rs : List Reading) (s : SymId) (b : Option BlockId) (ch : Option ChoiceId) (o : Option Owner) → ((k : SymId) → definition_number k (reading (statement.Config (Some s)) b ch o) ≡ None) → symbols_in n (rs ++ reading (statement.Config (Some s)) b ch o ∷ []) ≡ placed s ch (symbols_in n rs)
symbols_placed n rs s b ch o unnumbered =
    map_range_changed (λ k. symbol_at (rs ++ reading (statement.Config (Some s)) b ch o ∷ []) (record { 0 = k })) (λ k. symbol_at rs (record { 0 = k })) (standing_in ch) 0 s.0 n
    (λ k other. rw (unnumbered (record { 0 = k })) at (config_push rs s b ch o (record { 0 = k })) ∙ rw (ne_eqb s.0 k (λ e. omega arith)) refl)
    (rw (unnumbered (record { 0 = 0 + s.0 })) at (config_push rs s b ch o (record { 0 = 0 + s.0 })) ∙ rw (eq-eqb s.0 (0 + s.0) (omega arith)) (stands_in ch (symbol_at rs (record { 0 = 0 + s.0 }))))

symbols_numbered : (n : ℕ) (rs : List Reading) (s : SymId) (b : Option BlockId) (ch : Option ChoiceId) (o : Option Owner) → symbols_in n (rs ++ reading (statement.Config (Some s)) b ch o ∷ []) ≡ numbered s o (placed s ch (symbols_in n rs))
symbols_numbered n rs s b ch (Some (owner.Definition d i)) =
    map_range_changed (λ k. symbol_at (rs ++ reading (statement.Config (Some s)) b ch (Some (owner.Definition d i)) ∷ []) (record { 0 = k })) (λ k. symbol_at rs (record { 0 = k })) (λ x. with_definition i (standing_in ch x)) 0 s.0 n
    (λ k other. rw (ne_eqb s.0 k (λ e. omega arith)) at (config_push rs s b ch (Some (owner.Definition d i)) (record { 0 = k })))
    (rw (eq-eqb s.0 (0 + s.0) (omega arith)) at (config_push rs s b ch (Some (owner.Definition d i)) (record { 0 = 0 + s.0 }))
    ∙ numbered_there i ch (symbol_at rs (record { 0 = 0 + s.0 })))
    ∙ sym (change_at_twice (symbols_in n rs) s.0 (standing_in ch) (with_definition i))
symbols_numbered n rs s b ch None =
    symbols_placed n rs s b ch None (λ k. no_choice {A = Option ℕ} (s.0 == k.0) None)
symbols_numbered n rs s b ch (Some (owner.Menu m)) =
    symbols_placed n rs s b ch (Some (owner.Menu m)) (λ k. no_choice {A = Option ℕ} (s.0 == k.0) None)
symbols_numbered n rs s b ch (Some (owner.Choice c m)) =
    symbols_placed n rs s b ch (Some (owner.Choice c m)) (λ k. no_choice {A = Option ℕ} (s.0 == k.0) None)
symbols_numbered n rs s b ch (Some (owner.Comment c)) =
    symbols_placed n rs s b ch (Some (owner.Comment c)) (λ k. no_choice {A = Option ℕ} (s.0 == k.0) None)

-- ---- the symbol that is selected or implied
-- first it is noted that the owner's symbol selects
abbrev noted : List Reading → SymId → ℕ → SymbolValue
noted rs d k = symbol_after None (d.0 == k) false false (symbol_at rs (record { 0 = k }))

symbols_noted : (n : ℕ) (rs : List Reading) (d : SymId) → map (noted rs d) (range_with_len 0 n) ≡ change_at (symbols_in n rs) d.0 (symbol_after None true false false)
symbols_noted n rs d =
    map_range_changed (noted rs d) (λ k. symbol_at rs (record { 0 = k })) (symbol_after None true false false) 0 d.0 n
    (λ k other. rw (ne_eqb d.0 k (λ e. omega arith)) refl)
    (rw (eq-eqb d.0 (0 + d.0) (omega arith)) refl)

symbols_selected : (n : ℕ) (rs : List Reading) (s : SymId) (e : Option Expr) (b : Option BlockId) (ch : Option ChoiceId) (o : Option Owner) → AreMade rs → symbols_in n (rs ++ reading (statement.Select (Some s) e) b ch o ∷ []) ≡ selected s e o (definitions_in rs) (selecting o (symbols_in n rs))
symbols_selected n rs s e b ch (Some (owner.Definition d i)) made =
    map_range_changed (λ k. symbol_at (rs ++ reading (statement.Select (Some s) e) b ch (Some (owner.Definition d i)) ∷ []) (record { 0 = k })) (noted rs d) (with_selection (record { by = d; definition = i; number = times_said (is_of_definition i) says_select rs; condition = e })) 0 s.0 n
    (λ k other. quiet_push rs (statement.Select (Some s) e) b ch (Some (owner.Definition d i)) (record { 0 = k }) refl refl refl ∙ rw (and_true (d.0 == k), ne_eqb s.0 k (λ p. omega arith)) refl)
    (quiet_push rs (statement.Select (Some s) e) b ch (Some (owner.Definition d i)) (record { 0 = 0 + s.0 }) refl refl refl ∙ rw (and_true (d.0 == (0 + s.0)), eq-eqb s.0 (0 + s.0) (omega arith)) refl)
    ∙ ap (λ xs. change_at xs s.0 (with_selection (record { by = d; definition = i; number = times_said (is_of_definition i) says_select rs; condition = e }))) (symbols_noted n rs d)
    ∙ ap (λ count. change_at (change_at (symbols_in n rs) d.0 (symbol_after None true false false)) s.0 (with_selection (record { by = d; definition = i; number = count; condition = e }))) (sym (selects_counted rs i made))
symbols_selected n rs s e b ch None made =
    map_range_same (λ k. symbol_at (rs ++ reading (statement.Select (Some s) e) b ch None ∷ []) (record { 0 = k })) (λ k. symbol_at rs (record { 0 = k })) 0 n
    (λ k late. quiet_push rs (statement.Select (Some s) e) b ch None (record { 0 = k }) refl refl refl)
symbols_selected n rs s e b ch (Some (owner.Menu m)) made =
    map_range_same (λ k. symbol_at (rs ++ reading (statement.Select (Some s) e) b ch (Some (owner.Menu m)) ∷ []) (record { 0 = k })) (λ k. symbol_at rs (record { 0 = k })) 0 n
    (λ k late. quiet_push rs (statement.Select (Some s) e) b ch (Some (owner.Menu m)) (record { 0 = k }) refl refl refl)
symbols_selected n rs s e b ch (Some (owner.Choice c m)) made =
    map_range_same (λ k. symbol_at (rs ++ reading (statement.Select (Some s) e) b ch (Some (owner.Choice c m)) ∷ []) (record { 0 = k })) (λ k. symbol_at rs (record { 0 = k })) 0 n
    (λ k late. quiet_push rs (statement.Select (Some s) e) b ch (Some (owner.Choice c m)) (record { 0 = k }) refl refl refl)
symbols_selected n rs s e b ch (Some (owner.Comment c)) made =
    map_range_same (λ k. symbol_at (rs ++ reading (statement.Select (Some s) e) b ch (Some (owner.Comment c)) ∷ []) (record { 0 = k })) (λ k. symbol_at rs (record { 0 = k })) 0 n
    (λ k late. quiet_push rs (statement.Select (Some s) e) b ch (Some (owner.Comment c)) (record { 0 = k }) refl refl refl)

symbols_implied : (n : ℕ) (rs : List Reading) (s : SymId) (e : Option Expr) (b : Option BlockId) (ch : Option ChoiceId) (o : Option Owner) → AreMade rs → symbols_in n (rs ++ reading (statement.Imply (Some s) e) b ch o ∷ []) ≡ implied s e o (definitions_in rs) (selecting o (symbols_in n rs))
symbols_implied n rs s e b ch (Some (owner.Definition d i)) made =
    map_range_changed (λ k. symbol_at (rs ++ reading (statement.Imply (Some s) e) b ch (Some (owner.Definition d i)) ∷ []) (record { 0 = k })) (noted rs d) (with_implication (record { by = d; definition = i; number = times_said (is_of_definition i) says_imply rs; condition = e })) 0 s.0 n
    (λ k other. quiet_push rs (statement.Imply (Some s) e) b ch (Some (owner.Definition d i)) (record { 0 = k }) refl refl refl ∙ rw (and_true (d.0 == k), ne_eqb s.0 k (λ p. omega arith)) refl)
    (quiet_push rs (statement.Imply (Some s) e) b ch (Some (owner.Definition d i)) (record { 0 = 0 + s.0 }) refl refl refl ∙ rw (and_true (d.0 == (0 + s.0)), eq-eqb s.0 (0 + s.0) (omega arith)) refl)
    ∙ ap (λ xs. change_at xs s.0 (with_implication (record { by = d; definition = i; number = times_said (is_of_definition i) says_imply rs; condition = e }))) (symbols_noted n rs d)
    ∙ ap (λ count. change_at (change_at (symbols_in n rs) d.0 (symbol_after None true false false)) s.0 (with_implication (record { by = d; definition = i; number = count; condition = e }))) (sym (implies_counted rs i made))
symbols_implied n rs s e b ch None made =
    map_range_same (λ k. symbol_at (rs ++ reading (statement.Imply (Some s) e) b ch None ∷ []) (record { 0 = k })) (λ k. symbol_at rs (record { 0 = k })) 0 n
    (λ k late. quiet_push rs (statement.Imply (Some s) e) b ch None (record { 0 = k }) refl refl refl)
symbols_implied n rs s e b ch (Some (owner.Menu m)) made =
    map_range_same (λ k. symbol_at (rs ++ reading (statement.Imply (Some s) e) b ch (Some (owner.Menu m)) ∷ []) (record { 0 = k })) (λ k. symbol_at rs (record { 0 = k })) 0 n
    (λ k late. quiet_push rs (statement.Imply (Some s) e) b ch (Some (owner.Menu m)) (record { 0 = k }) refl refl refl)
symbols_implied n rs s e b ch (Some (owner.Choice c m)) made =
    map_range_same (λ k. symbol_at (rs ++ reading (statement.Imply (Some s) e) b ch (Some (owner.Choice c m)) ∷ []) (record { 0 = k })) (λ k. symbol_at rs (record { 0 = k })) 0 n
    (λ k late. quiet_push rs (statement.Imply (Some s) e) b ch (Some (owner.Choice c m)) (record { 0 = k }) refl refl refl)
symbols_implied n rs s e b ch (Some (owner.Comment c)) made =
    map_range_same (λ k. symbol_at (rs ++ reading (statement.Imply (Some s) e) b ch (Some (owner.Comment c)) ∷ []) (record { 0 = k })) (λ k. symbol_at rs (record { 0 = k })) 0 n
    (λ k late. quiet_push rs (statement.Imply (Some s) e) b ch (Some (owner.Comment c)) (record { 0 = k }) refl refl refl)

-- ---- all
pub symbols_push : (n : ℕ) (rs : List Reading) (st : Statement) (b : Option BlockId) (ch : Option ChoiceId) (o : Option Owner) → AreMade rs → symbols_in n (rs ++ reading st b ch o ∷ []) ≡ symbols_with st ch o (definitions_in rs) (symbols_in n rs)
symbols_push n rs (statement.Config (Some s)) b ch o made = symbols_numbered n rs s b ch o
symbols_push n rs (statement.Type k) b ch o made = symbols_owned n rs (statement.Type k) b ch o (record { number = λ s. refl; choice = λ s. refl; selection = λ s. refl; implication = λ s. refl })
symbols_push n rs (statement.TypeAndPrompt k p) b ch o made = symbols_owned n rs (statement.TypeAndPrompt k p) b ch o (record { number = λ s. refl; choice = λ s. refl; selection = λ s. refl; implication = λ s. refl })
symbols_push n rs (statement.TypeAndDefault k v) b ch o made = symbols_owned n rs (statement.TypeAndDefault k v) b ch o (record { number = λ s. refl; choice = λ s. refl; selection = λ s. refl; implication = λ s. refl })
symbols_push n rs (statement.Select (Some s) e) b ch o made = symbols_selected n rs s e b ch o made
symbols_push n rs (statement.Imply (Some s) e) b ch o made = symbols_implied n rs s e b ch o made
symbols_push n rs (statement.Select None e) b ch o made = symbols_owned n rs (statement.Select None e) b ch o (record { number = λ s. refl; choice = λ s. refl; selection = λ s. refl; implication = λ s. refl })
symbols_push n rs (statement.Imply None e) b ch o made = symbols_owned n rs (statement.Imply None e) b ch o (record { number = λ s. refl; choice = λ s. refl; selection = λ s. refl; implication = λ s. refl })
symbols_push n rs statement.Modules b ch o made = symbols_owned n rs statement.Modules b ch o (record { number = λ s. refl; choice = λ s. refl; selection = λ s. refl; implication = λ s. refl })
symbols_push n rs statement.AllNoConfigYes b ch o made = symbols_owned n rs statement.AllNoConfigYes b ch o (record { number = λ s. refl; choice = λ s. refl; selection = λ s. refl; implication = λ s. refl })
symbols_push n rs st b ch o made =
    symbols_owned n rs st b ch o (record { number = λ s. refl; choice = λ s. refl; selection = λ s. refl; implication = λ s. refl })
    ∙ change_symbol_same o (symbols_in n rs)
