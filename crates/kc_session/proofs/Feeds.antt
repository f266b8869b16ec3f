-- Which commands leave the user values without line feeds, and that the default file keeps what these changed.
use Rattle.std.proofs.Common.{◌≡◌, ◌≢◌, ℕ, ◌≤◌, ◌<◌, Bool, true, false, if◌then◌else◌, List, length, map, get_or, set, replicate, Option, Some, None, is_some, Result, Ok, Err, IfOk, OnErr, codes, sym, subst, ⊎_elim, arith}
use Rattle.std.specs.Prelude.{option_map}
use Rattle.std.specs.List.{list_any, range_with_len}
use Rattle.std.specs.Option.{option_map_or}
use Rattle.std.specs.Str.{bytes_eq}
use Rattle.std.proofs.lemmas.Bool.{cases_eq, cases_lt}
use Rattle.std.proofs.lemmas.List.{get_or-set_same, get_or-set_other, get_or-replicate, get_or_past, length-replicate, set_past}
use Rattle.std.proofs.lemmas.List.FromFn.{get_or-map-range_with_len, length-map-range_with_len}
use Rattle.std.proofs.lemmas.Option.{none-some}
use Rattle.kc_statement.specs.Numerals.{numeral_in}
use Rattle.kc_statement.specs.declared.id.SymId.{SymId}
use Rattle.kc_statement.specs.declared.symbol_type.SymbolType.{SymbolType}
use Rattle.kc_statement.specs.declared.symbol_type.SymbolType.TheVariants as kind
use Rattle.kc_statement.specs.declared.tri.Tri.{Tri}
use Rattle.kc_outline.specs.declared.id.ChoiceId.{ChoiceId}
use Rattle.kc_outline.specs.TreeValue.{TreeValue, symbol_named, choice_of}
use Rattle.kc_tree.specs.declared.user_value.UserVal.{UserVal}
use Rattle.kc_tree.specs.declared.user_value.UserVal.TheVariants.{Tri as TriVal, Text}
use Rattle.kc_value.specs.ChoiceRule.{is_symbol}
use Rattle.kc_value.specs.UserValues.{UserValues, chosen_in, with_value, with_chosen, no_values}
use Rattle.kc_files.specs.ConfigLines.{is_feed}
use Rattle.kc_tree.specs.Fits.{type_of}
use Rattle.kc_files.specs.DefaultLoading.{HasNoFeeds, KeepsChanges}
use Rattle.kc_value.specs.declared.all_values.AllValue.{AllValue}
use Rattle.kc_value.specs.declared.all_values.AllValue.TheVariants as all
use Rattle.kc_session.specs.declared.command.Command.{Command}
use Rattle.kc_session.specs.declared.command.Command.TheVariants.{Set, Unset, Reset, Load, Merge, AllNo, AllYes, Show, List as ListAll, Choices, Config, Header, Defconfig, New}
use Rattle.kc_session.specs.declared.command.Refusal.TheVariants.{UndefinedSymbol, BadValue, BadMemberValue, NoMemory}
use Rattle.kc_session.specs.declared.command.Reply.{Reply}
use Rattle.kc_session.specs.declared.command.Reply.TheVariants.{Done, Refused}
use Rattle.kc_value.specs.AllValues.{all_given, is_free_tri, tri_given, value_given}
use Rattle.kc_session.specs.DefaultReply.{HasNoFeed, IsLoad, KeepsTheChanges}
use Rattle.kc_session.specs.Effect.{Outcome, IsApplied, IsOutcome, answer, edit, give_value, perform, refuse, set_member, set_symbol, set_value, starved_or, unchosen, unset_symbol, with_symbol}
use Rattle.kc_session.specs.Session.{SessionValue}
use Rattle.kc_session.specs.ShowLine.{show_line_of}
use Rattle.kc_session.specs.Values.{bool_of, number_of, tristate_of, value_of}

-- what may be a value is no text with a line feed
abbrev IsPlain : Option UserVal → Type 0
IsPlain o = (w : List ℕ) → o ≡ Some (Text w) → list_any is_feed w ≡ false

plain_none : IsPlain None
plain_none w e = absurd (none-some (Text w) e)

plain_tri : (x : Tri) → IsPlain (Some (TriVal x))
plain_tri x w e = cc

plain_text : (text : List ℕ) → list_any is_feed text ≡ false → IsPlain (Some (Text text))
plain_text text h w e = cc

-- ---- user values
plain_slot : (values : List (Option UserVal)) (i : ℕ) (v : Option UserVal) → IsPlain v → ((k : ℕ) → IsPlain (get_or values k None))
    → (k : ℕ) → IsPlain (get_or (set values i v) k None)
plain_slot values i v h others k = ⊎_elim same other (cases_eq k i)
  where
    within : i < length values → IsPlain (get_or (set values i v) i None)
    within l = subst IsPlain (sym (get_or-set_same values i v None l)) h

    past : length values ≤ i → IsPlain (get_or (set values i v) i None)
    past l = subst (λ (xs : List (Option UserVal)). IsPlain (get_or xs i None)) (sym (set_past values i v l)) (others i)

    same : k ≡ i → IsPlain (get_or (set values i v) k None)
    same e = subst (λ (j : ℕ). IsPlain (get_or (set values i v) j None)) (sym e) (⊎_elim within past (cases_lt i (length values)))

    other : k ≢ i → IsPlain (get_or (set values i v) k None)
    other n = subst IsPlain (sym (get_or-set_other values i k v None n)) (others k)

with_value_unfed : (u : UserValues) (k : SymId) (v : Option UserVal) → IsPlain v → HasNoFeeds u → HasNoFeeds (with_value u k v)
with_value_unfed u k v h unfed s = plain_slot u.values k.0 v h (λ j. unfed (record { 0 = j })) s.0

empty_slot : (n i : ℕ) → get_or {A = Option UserVal} (replicate n None) i None ≡ None
empty_slot n i =
    ⊎_elim (λ l. get_or-replicate {A = Option UserVal} n i None None l)
    (λ past. get_or_past {X = Option UserVal} (replicate n None) i None (omega (arith, length-replicate {A = Option UserVal} n None, past)))
    (cases_lt i n)

pub no_values_unfed : (t : TreeValue) → HasNoFeeds (no_values t)
no_values_unfed t s = subst IsPlain (sym (empty_slot (length t.symbols) s.0)) plain_none

pub empty_unfed : (t : TreeValue) (u : UserValues) → u ≡ no_values t → HasNoFeeds u
empty_unfed t u is = subst HasNoFeeds (sym is) (no_values_unfed t)

plain_given : (t : TreeValue) (a : AllValue) (s : SymId) → IsPlain (value_given t a s)
plain_given t a s = go (is_free_tri t s)
  where
    go : (b : Bool) → IsPlain (if b then Some (TriVal (tri_given t a s)) else None)
    go true = plain_tri (tri_given t a s)
    go false = plain_none

all_given_unfed : (t : TreeValue) (a : AllValue) → HasNoFeeds (all_given t a)
unfolding all_given
all_given_unfed t a s = ⊎_elim inside outside (cases_lt s.0 (length t.symbols))
  where
    value : ℕ → Option UserVal
    value k = value_given t a (record { 0 = k })

    inside : s.0 < length t.symbols → IsPlain (get_or (map value (range_with_len 0 (length t.symbols))) s.0 None)
    inside l = subst IsPlain (sym (get_or-map-range_with_len value 0 (length t.symbols) s.0 s.0 None l (omega arith))) (plain_given t a s)

    outside : length t.symbols ≤ s.0 → IsPlain (get_or (map value (range_with_len 0 (length t.symbols))) s.0 None)
    outside l =
        subst IsPlain
        (sym (get_or_past (map value (range_with_len 0 (length t.symbols))) s.0 None (omega (arith, length-map-range_with_len value 0 (length t.symbols), l))))
        plain_none

-- ---- the value that a text spells
plain_mapped : (o : Option Tri) → IsPlain (option_map TriVal o)
plain_mapped None = plain_none
plain_mapped (Some x) = plain_tri x

plain_number : (k : SymbolType) (text : List ℕ) → list_any is_feed text ≡ false → IsPlain (number_of k text)
plain_number k text h = go (is_some (numeral_in k text))
  where
    go : (b : Bool) → IsPlain (if b then Some (Text text) else None)
    go true = plain_text text h
    go false = plain_none

plain_value : (k : SymbolType) (text : List ℕ) → list_any is_feed text ≡ false → IsPlain (value_of k text)
plain_value kind.Bool text h = plain_mapped (bool_of text)
plain_value kind.Tristate text h = plain_mapped (tristate_of text)
plain_value kind.String text h = plain_text text h
plain_value kind.Int text h = plain_number kind.Int text h
plain_value kind.Hex text h = plain_number kind.Hex text h

-- ---- commands
module _ (s : SessionValue) (unfed : HasNoFeeds s.user) where
  with_symbol_unfed : (name : List ℕ) (use_it : SymId → Outcome) → ((k : SymId) → HasNoFeeds (use_it k).user) → HasNoFeeds (with_symbol s name use_it).user
  with_symbol_unfed name use_it each = go (symbol_named s.tree name)
    where
      go : (o : Option SymId) → HasNoFeeds (option_map_or use_it o (refuse s UndefinedSymbol)).user
      go None = unfed
      go (Some k) = each k

  set_member_unfed : (k : SymId) (c : ChoiceId) (value : List ℕ) → HasNoFeeds (set_member s k c value).user
  set_member_unfed k c value = go (bytes_eq value (codes "y"))
    where
      go : (b : Bool) → HasNoFeeds (if b then edit (with_chosen s.user c (Some k)) else refuse s BadMemberValue).user
      go true = unfed
      go false = unfed

  give_value_unfed : (k : SymId) (o : Option UserVal) → IsPlain o → HasNoFeeds (option_map_or (give_value s k) o (refuse s BadValue)).user
  give_value_unfed k None h = unfed
  give_value_unfed k (Some v) h = with_value_unfed s.user k (Some v) h unfed

  set_symbol_unfed : (value : List ℕ) → list_any is_feed value ≡ false → (k : SymId) → HasNoFeeds (set_symbol s value k).user
  set_symbol_unfed value h k = go (choice_of s.tree k)
    where
      go : (o : Option ChoiceId) → HasNoFeeds (option_map_or (λ c. set_member s k c value) o (set_value s k value)).user
      go None = give_value_unfed k (value_of (type_of s.tree k) value) (plain_value (type_of s.tree k) value h)
      go (Some c) = set_member_unfed k c value

  unchosen_unfed : (k : SymId) (c : ChoiceId) → HasNoFeeds (unchosen s.user k c)
  unchosen_unfed k c = go (is_symbol (chosen_in s.user c) k)
    where
      go : (b : Bool) → HasNoFeeds (if b then with_chosen s.user c None else s.user)
      go true = unfed
      go false = unfed

  unset_symbol_unfed : (k : SymId) → HasNoFeeds (unset_symbol s k).user
  unset_symbol_unfed k = go (choice_of s.tree k)
    where
      go : (o : Option ChoiceId) → HasNoFeeds (option_map_or (λ c. edit (unchosen s.user k c)) o (edit (with_value s.user k None))).user
      go None = with_value_unfed s.user k None plain_none unfed
      go (Some c) = unchosen_unfed k c

  -- what is due, but for a load
  due_unfed : (c : Command) → HasNoFeed c → (IsLoad c → ⊥) → HasNoFeeds (perform s c).user
  unfolding perform
  due_unfed (Set name value) h other = with_symbol_unfed name (set_symbol s value) (set_symbol_unfed value h)
  due_unfed (Unset name) h other = with_symbol_unfed name (unset_symbol s) unset_symbol_unfed
  due_unfed Reset h other = no_values_unfed s.tree
  due_unfed (Load body) h other = absurd (other tt)
  due_unfed (Merge body) h other = absurd (other tt)
  due_unfed AllNo h other = all_given_unfed s.tree all.No
  due_unfed AllYes h other = all_given_unfed s.tree all.Yes
  due_unfed (Show name) h other = with_symbol_unfed name (λ k. answer s (show_line_of s.tree s.user k)) (λ k. unfed)
  due_unfed ListAll h other = unfed
  due_unfed Choices h other = unfed
  due_unfed Config h other = unfed
  due_unfed Header h other = unfed
  due_unfed Defconfig h other = unfed
  due_unfed New h other = unfed

  -- .. with or without its memory
  starved_unfed : (due : Outcome) → HasNoFeeds due.user → (b : Bool) → HasNoFeeds (starved_or s b due).user
  starved_unfed due h true = unfed
  starved_unfed due h false = h

  done_unfed : (due : Outcome) (r : Reply) (n : SessionValue) → HasNoFeeds due.user → IsOutcome s due r n → HasNoFeeds n.user
  done_unfed due r n h o = subst (λ (x : SessionValue). HasNoFeeds x.user) (sym o.session) (starved_unfed due h o.starved)

  -- a command that was done, where a load is known to leave none
  pub applied_unfed : (c : Command) (r : Reply) (n : SessionValue) → IsApplied s c r n → (IsLoad c → HasNoFeeds n.user) → HasNoFeed c → HasNoFeeds n.user
  applied_unfed (Load body) r n o load h = load tt
  applied_unfed (Merge body) r n o load h = load tt
  applied_unfed c r n o load h = done_unfed (perform s c) r n (due_unfed c h (λ x. x)) o

-- ---- the reply to `defconfig`
pub reply_keeps : {T E : Type 0} (bytes : T → List ℕ) (s : SessionValue) (r : Result T E) (reply : Reply) → IfOk r (λ t. reply ≡ Done (bytes t))
    → OnErr r (reply ≡ Refused NoMemory) → IfOk r (λ t. KeepsChanges s.tree s.user s.prefix (bytes t)) → KeepsTheChanges s reply
reply_keeps bytes s (Ok t) reply done starved keeps = subst (KeepsTheChanges s) (sym done) keeps
reply_keeps bytes s (Err e) reply done starved keeps = subst (KeepsTheChanges s) (sym starved) tt
