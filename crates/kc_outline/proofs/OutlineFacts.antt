-- What is known of the outline of the lines so far.
use Rattle.std.proofs.Common.{◌≡◌, ℕ, ◌+◌, ◌-◌, ◌<◌, ◌≤◌, ◌==◌, List, [], ◌∷◌, Option, Some, None, length, take, get_or, reverse, refl, sym, ap, ◌∙◌, subst, arith}
use Rattle.std.specs.List.{All, position, filter_map, slice_get}
use Rattle.std.specs.Option.{option_map}
use Rattle.std.specs.Str.{bytes_eq}
use Rattle.std.proofs.lemmas.List.{reverse-append, reverse-reverse, take_more}
use Rattle.std.proofs.lemmas.List.Quantifiers.{position-Some}
use Rattle.std.proofs.lemmas.List.Elements.{All-push}
use Rattle.std.proofs.lemmas.List.FromFn.{length-map-range_with_len}
use Rattle.kc_text.specs.LineValue.{LineValue}
use Rattle.kc_text.specs.declared.line.LineKind.{LineKind}
use Rattle.kc_text.specs.declared.line.LineKind.TheVariants.{Statement as StatementLine, EndOfFile as EndLine}
use Rattle.kc_text.specs.declared.line.Token.{Token}
use Rattle.kc_statement.specs.declared.id.SymId.{SymId}
use Rattle.kc_outline.specs.declared.id.BlockId.{BlockId}
use Rattle.kc_outline.specs.declared.id.ChoiceId.{ChoiceId}
use Rattle.kc_outline.specs.declared.context.Owner.{Owner}
use Rattle.kc_outline.specs.declared.context.Owner.TheVariants as owner
use Rattle.kc_statement.specs.declared.statement.Statement.{Statement}
use Rattle.kc_statement.specs.declared.statement.Statement.TheVariants as statement
use Rattle.kc_outline.specs.declared.entry.Entry.{Entry}
use Rattle.kc_outline.specs.declared.entry.Entry.TheVariants as entry
use Rattle.kc_outline.specs.Adding.{with_some}
use Rattle.kc_outline.specs.Entries.{IsEntryOf}
use Rattle.kc_outline.specs.Outline.{IsNamedIn}
use Rattle.kc_outline.specs.declared.fault.LineFault.{LineFault}
use Rattle.kc_outline.specs.declared.fault.LineFault.TheVariants as fault
use Rattle.kc_outline.specs.declared.context.Context.{Context}
use Rattle.kc_outline.specs.declared.stop.Stop.{Stop}
use Rattle.kc_outline.specs.declared.fault.LineProblem.{LineProblem}
use Rattle.kc_outline.specs.Stops.{problem_in}
use Rattle.kc_outline.specs.Enclosing.{before}
use Rattle.kc_outline.specs.FirstProblem.{IsReadFault, AreRefusedFor}
use Rattle.kc_statement.specs.Names.{names_of}
use Rattle.kc_outline.specs.ContextAfter.{IsContextAfter}
use Rattle.kc_outline.specs.Reader.{AreReadingsBefore, IsOnlyProblem, IsOutlineAfter, IsStop, IsStopFor, IsReportedAs, IsReportedFor}
use Rattle.kc_statement.specs.Statements.{HasFormOf, HasForm}
use Rattle.kc_outline.specs.TreeOf.{Reading, IsOutlineOf, tree_of, symbol_at, symbol_entry, menu_entry, choice_entry, comment_entry, definition_number, entry_at}
use Rattle.kc_outline.specs.TreeValue.{TreeValue}
use Rattle.kc_outline.proofs.EntryLaws.{entries_before, entries_of}
use Rattle.kc_outline.proofs.OnlyLaws.{only_fault}
use Rattle.kc_outline.proofs.PlaceLaws.{AreRead, read_by_place, last_place}

-- before the first line
pub first_outline : (names : List (List ℕ)) (following : ℕ) → IsOutlineAfter names following [] (tree_of names [])
first_outline names following = record {
  readings = [];
  read = tt;
  only = tt;
  tree = refl;
  made = λ k d within. absurd (omega (arith, within));
}

pub first_outline_of : (names all : List (List ℕ)) (following : ℕ) (t : TreeValue) → t ≡ tree_of names [] → names ≡ all → IsOutlineAfter all following [] t
first_outline_of names all following t is same =
    subst (λ ns. IsOutlineAfter ns following [] t) same (subst (IsOutlineAfter names following []) (sym is) (first_outline names following))

-- the lines up to a place and the one at it, in reverse
pub reverse_more : (lines : List LineValue) (i : ℕ) (d : LineValue) → i < length lines → get_or lines i d ∷ reverse (take i lines) ≡ reverse (take (i + 1) lines)
reverse_more lines i d within =
    sym (ap reverse (take_more lines i d within) ∙ reverse-append (take i lines) (get_or lines i d ∷ []))

-- ---- entries name symbols of the tree
found_within : (names : List (List ℕ)) (o : Option ℕ) (s : SymId) → ((k : ℕ) → o ≡ Some k → k < length names) → Some s ≡ option_map (λ k. record { 0 = k }) o → s.0 < length names
found_within names None s h e = cc
found_within names (Some k) s h e =
    let number : s.0 ≡ k = cc in
    subst (λ n. n < length names) (sym number) (h k refl)

symbol_within : (names : List (List ℕ)) (line : LineKind) (tokens : List Token) (s : SymId) → HasFormOf names line tokens (statement.Config (Some s)) → s.0 < length names
symbol_within names EndLine tokens s h = cc
symbol_within names StatementLine [] s h = absurd h
symbol_within names StatementLine (t ∷ rest) s h =
    let form = h.2 in
    found_within names (position (bytes_eq form.2) names) s (λ k e. (position-Some (bytes_eq form.2) names k [] e).0) form.5

-- a `config` line that has its form names one of the names
pub named_by_form : (names : List (List ℕ)) (l : LineValue) (s : Statement) → HasForm names l s → IsNamedIn names s
unfolding HasForm
named_by_form names l (statement.Config (Some s)) h = symbol_within names l.kind l.tokens s h
named_by_form names l s h = tt

module _ (names : List (List ℕ)) (t : TreeValue) (same : length t.symbols ≡ length names) where
  symbol_entry_within : (earlier : List Reading) (s : SymId) (js : List ℕ) → s.0 < length t.symbols → filter_map (definition_number s) earlier ≡ js → IsEntryOf t (symbol_entry earlier s)
  symbol_entry_within earlier s [] within e = rw e within
  symbol_entry_within earlier s (j ∷ js) within e = rw e within

  menu_more : (es : List Entry) (o : Option Owner) → All (IsEntryOf t) es → All (IsEntryOf t) (with_some es (menu_entry o))
  menu_more es None all = all
  menu_more es (Some (owner.Definition s j)) all = all
  menu_more es (Some (owner.Menu b)) all = All-push (IsEntryOf t) es (entry.Menu b) all tt
  menu_more es (Some (owner.Choice c b)) all = all
  menu_more es (Some (owner.Comment c)) all = all

  choice_more : (es : List Entry) (o : Option Owner) → All (IsEntryOf t) es → All (IsEntryOf t) (with_some es (choice_entry o))
  choice_more es None all = all
  choice_more es (Some (owner.Definition s j)) all = all
  choice_more es (Some (owner.Menu b)) all = all
  choice_more es (Some (owner.Choice c b)) all = All-push (IsEntryOf t) es (entry.Choice c) all tt
  choice_more es (Some (owner.Comment c)) all = all

  comment_more : (es : List Entry) (o : Option Owner) → All (IsEntryOf t) es → All (IsEntryOf t) (with_some es (comment_entry o))
  comment_more es None all = all
  comment_more es (Some (owner.Definition s j)) all = all
  comment_more es (Some (owner.Menu b)) all = all
  comment_more es (Some (owner.Choice c b)) all = all
  comment_more es (Some (owner.Comment c)) all = All-push (IsEntryOf t) es (entry.Comment c) all tt

  end_more : (es : List Entry) (b : Option BlockId) → All (IsEntryOf t) es → All (IsEntryOf t) (with_some es (option_map entry.EndMenu b))
  end_more es None all = all
  end_more es (Some b) all = All-push (IsEntryOf t) es (entry.EndMenu b) all tt

  entry_more : (earlier : List Reading) (es : List Entry) (s : Statement) (b : Option BlockId) (ch : Option ChoiceId) (o : Option Owner) → IsNamedIn names s
      → All (IsEntryOf t) es → All (IsEntryOf t) (with_some es (entry_at earlier (record { statement = s; block = b; choice = ch; owner = o })))
  entry_more earlier es (statement.Config None) b ch o named all = all
  entry_more earlier es (statement.Config (Some s)) b ch o named all =
      let within : s.0 < length t.symbols = omega (arith, named, same) in
      All-push (IsEntryOf t) es (symbol_entry earlier s) all
      (symbol_entry_within earlier s (filter_map (definition_number s) earlier) within refl)
  entry_more earlier es (statement.Menu title) b ch o named all = menu_more es o all
  entry_more earlier es statement.EndMenu b ch o named all = end_more es b all
  entry_more earlier es statement.Choice b ch o named all = choice_more es o all
  entry_more earlier es (statement.Comment title) b ch o named all = comment_more es o all
  entry_more earlier es _ b ch o named all = all

  entries_within : (following : ℕ) (lines : List LineValue) (qs : List Reading) → AreReadingsBefore names following lines qs → All (IsEntryOf t) (entries_before qs)
  entries_within following [] [] h = λ k d within. absurd (omega (arith, within))
  entries_within following [] (q ∷ qs) h = absurd h
  entries_within following (l ∷ lines) [] h = absurd h
  entries_within following (l ∷ lines) (q ∷ qs) h =
      entry_more (reverse qs) (entries_before qs) q.statement q.block q.choice q.owner (named_by_form names l q.statement h.0.sound.form)
      (entries_within (following + 1) lines qs h.1)

-- the symbols of the outline, one for each name
pub symbols_of_outline : (names : List (List ℕ)) (following : ℕ) (lines : List LineValue) (t : TreeValue) → IsOutlineAfter names following lines t → length t.symbols ≡ length names
symbols_of_outline names following lines t after =
    ap (λ x. length x.symbols) after.tree
    ∙ length-map-range_with_len (λ k. symbol_at after.readings (record { 0 = k })) 0 (length names)

pub names_of_outline : (names : List (List ℕ)) (following : ℕ) (lines : List LineValue) (t : TreeValue) → IsOutlineAfter names following lines t → t.names ≡ names
names_of_outline names following lines t after = ap (λ x. x.names) after.tree

pub entries_of_outline : (names : List (List ℕ)) (following : ℕ) (lines : List LineValue) (t : TreeValue) → IsOutlineAfter names following lines t → All (IsEntryOf t) t.entries
entries_of_outline names following lines t after =
    subst (λ es. All (IsEntryOf t) es) (sym (ap (λ x. x.entries) after.tree ∙ entries_of after.readings))
    (entries_within names t (symbols_of_outline names following lines t after) following lines (reverse after.readings) after.read)

-- one more line than those up to a place
module _ (names : List (List ℕ)) (lines : List LineValue) (i : ℕ) (l : LineValue) (old : List (List ℕ)) where
  lines_at : i < length lines → l ≡ get_or lines i l → l ∷ reverse (take i lines) ≡ reverse (take (i + 1) lines)
  lines_at within is = ap (λ x. x ∷ reverse (take i lines)) is ∙ reverse_more lines i l within

  pub outline_at : (t : TreeValue) → i < length lines → l ≡ get_or lines i l → old ≡ names
      → IsOutlineAfter old (length lines - i - 1) (l ∷ reverse (take i lines)) t → IsOutlineAfter names (length lines - (i + 1)) (reverse (take (i + 1) lines)) t
  outline_at t within is same after =
      let count : length lines - i - 1 ≡ length lines - (i + 1) = omega arith in
      let moved = subst (λ ns. IsOutlineAfter ns (length lines - i - 1) (l ∷ reverse (take i lines)) t) same after in
      let counted = subst (λ n. IsOutlineAfter names n (l ∷ reverse (take i lines)) t) count moved in
      subst (λ ls. IsOutlineAfter names (length lines - (i + 1)) ls t) (lines_at within is) counted

  pub context_at : (p : Context) → i < length lines → l ≡ get_or lines i l → old ≡ names
      → IsContextAfter old (l ∷ reverse (take i lines)) p → IsContextAfter names (reverse (take (i + 1) lines)) p
  context_at p within is same after =
      subst (λ ls. IsContextAfter names ls p) (lines_at within is)
      (subst (λ ns. IsContextAfter ns (l ∷ reverse (take i lines)) p) same after)

-- the readings of the lines so far, by place
pub read_at : (lines : List LineValue) (i : ℕ) (t : TreeValue) → i ≤ length lines → (after : IsOutlineAfter (names_of lines) (length lines - i) (before lines i) t) → AreRead lines i after.readings
read_at lines i t few after =
    subst (AreRead lines i) (reverse-reverse after.readings) (read_by_place lines i (reverse after.readings) few after.read after.only)

-- all lines are read, and this is their tree
pub record IsWhole (lines : List LineValue) (t : TreeValue) : Type 0 where
  pub readings : List Reading
  pub read : AreRead lines (length lines) readings
  pub tree : t ≡ tree_of (names_of lines) readings

pub whole : (lines : List LineValue) (i : ℕ) (t : TreeValue) → i ≡ length lines → IsOutlineAfter (names_of lines) (length lines - i) (before lines i) t → IsWhole lines t
whole lines i t end after = record {
  readings = after.readings;
  read = subst (λ n. AreRead lines n after.readings) end (read_at lines i t (omega (arith, end)) after);
  tree = after.tree;
}

pub outline_of : (lines : List LineValue) (t : TreeValue) → IsWhole lines t → IsOutlineOf lines t
outline_of lines t all = record { readings = all.readings; read = all.read.readings; tree = all.tree }

-- the fault of the first line that is not taken, and that there is no other
pub record IsTheFault (lines : List LineValue) (f : LineFault) : Type 0 where
  pub fault : IsReadFault lines f
  pub refused : AreRefusedFor lines f

fault_of : (lines : List LineValue) (i : ℕ) (l : LineValue) (names : List (List ℕ)) (t : TreeValue) (found : Option LineProblem) (reported : LineFault)
    → slice_get lines i ≡ Some l → names ≡ names_of lines
    → IsOutlineAfter names (length lines - i) (before lines i) t
    → IsStopFor names (before lines i) (length lines - i - 1 == 0) l found
    → i < length lines → IsReportedAs found l reported → IsTheFault lines reported
fault_of lines i l names t None reported is same after stopped within tells = subst (IsTheFault lines) (sym tells) (record { fault = tt; refused = tt })
fault_of lines i l names t (Some problem) (fault.At p path number) is same after stopped within tells =
    let last : (length lines - i - 1 == 0) ≡ (i + 1 == length lines) = last_place (length lines) i within in
    let here : IsOnlyProblem names (before lines i) (i + 1 == length lines) l problem = subst (λ b. IsOnlyProblem names (before lines i) b l problem) last stopped in
    let named : IsOnlyProblem (names_of lines) (before lines i) (i + 1 == length lines) l problem = subst (λ ns. IsOnlyProblem ns (before lines i) (i + 1 == length lines) l problem) same here in
    let alone : IsOnlyProblem (names_of lines) (before lines i) (i + 1 == length lines) l p = subst (λ q. IsOnlyProblem (names_of lines) (before lines i) (i + 1 == length lines) l q) (sym tells.0) named in
    let earlier : IsOutlineAfter (names_of lines) (length lines - i) (before lines i) t = subst (λ ns. IsOutlineAfter ns (length lines - i) (before lines i) t) same after in
    let read = read_at lines i t (omega (arith, within)) earlier in
    record {
      fault = (
        i,
        record {
          line = l;
          is = is;
          path_is = tells.1;
          number_is = tells.2;
          here = alone.has;
          readings = earlier.readings;
          earlier = read.readings;
        },
      );
      refused = only_fault lines i l is p earlier.readings read alone path number tells.1 tells.2;
    }
fault_of lines i l names t (Some problem) fault.NoMemory is same after stopped within tells = record { fault = tt; refused = tt }

pub first_fault : (lines : List LineValue) (i : ℕ) (l : LineValue) (names : List (List ℕ)) (t : TreeValue) (stop : Stop) (reported : LineFault)
    → slice_get lines i ≡ Some l → names ≡ names_of lines
    → IsOutlineAfter names (length lines - i) (before lines i) t
    → IsStop names (before lines i) (length lines - i - 1 == 0) l stop
    → i < length lines → IsReportedFor stop l reported → IsTheFault lines reported
first_fault lines i l names t stop reported is same after stopped within tells = fault_of lines i l names t (problem_in stop) reported is same after stopped within tells
