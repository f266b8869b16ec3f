-- Assignments that are merged one at a time, each place once, leave the user values that the last of them give.
use Rattle.std.proofs.Common.{◌≡◌, ◌⊎◌, inl, inr, ℕ, ◌<◌, ◌≤◌, ◌==◌, Bool, true, false, true≢false, not, ◌&&◌, ◌||◌, All, List, [], ◌∷◌, ◌++◌, length, reverse, slice_get, slice_set, slice_index_or, Option, Some, None, is_some, if◌then◌else◌, refl, sym, ap, ◌∙◌, subst, ⊎_elim, arith}
use Rattle.std.specs.List.{list_any}
use Rattle.std.specs.Option.{option_map_or, option_or}
use Rattle.std.specs.Prelude.{option_and_then}
use Rattle.std.proofs.lemmas.Bool.{cases_eq, cases_lt, eq-eqb, ne_eqb}
use Rattle.std.proofs.lemmas.List.{get_or_past, get_or-set_same, get_or-set_other, length-set, reverse-append, reverse-reverse}
use Rattle.std.proofs.lemmas.List.Elements.{All-head, All-tail}
use Rattle.std.proofs.lemmas.List.FromFn.{fill_by_all}
use Rattle.std.proofs.lemmas.Option.{none-some, same_Some, slice_get_cases}
use Rattle.kc_statement.specs.declared.id.SymId.{SymId}
use Rattle.kc_statement.specs.declared.symbol_type.SymbolType.TheVariants as kind
use Rattle.kc_outline.specs.declared.id.ChoiceId.{ChoiceId}
use Rattle.kc_outline.specs.TreeValue.{TreeValue, SymbolValue, choice_of, kind_of}
use Rattle.kc_tree.specs.declared.user_value.UserVal.{UserVal}
use Rattle.kc_tree.specs.declared.user_value.UserVal.TheVariants.{Text}
use Rattle.kc_tree.specs.Fits.{fits, fits_type}
use Rattle.kc_value.specs.Dirty.{Edits}
use Rattle.kc_value.specs.UserValues.{UserValues, user_value, chosen_in, with_value, with_chosen}
use Rattle.kc_files.specs.declared.assign.Assign.{Assign}
use Rattle.kc_files.specs.declared.loading.Load.TheVariants.{Merge}
use Rattle.kc_files.specs.DefaultLoading.{HasNoFeeds}
use Rattle.kc_files.specs.LineReading.{has_feed, IsAssignFor, IsUnfed}
use Rattle.kc_files.specs.Loading.{last_of, value_for, is_yes, member_for, value_after, chosen_after, user_after}
use Rattle.kc_session.specs.Keeping.{EditsKept}
use Rattle.kc_session.specs.Merging.{is_assign_to, is_choosing, merged_one}
use Rattle.kc_session.specs.Session.{IsSound, SessionState, SessionValue, with_user}

-- ---- what an assignment gives, its symbol takes
pub assign_fits : (t : TreeValue) (a : Assign) → IsAssignFor t a → choice_of t a.symbol ≡ None → fits t a.symbol a.value ≡ true
assign_fits t a h alone =
    ⊎_elim (λ at. found at.0 at.2) (λ past. absurd (omega (arith, h.0, past.0))) (slice_get_cases t.symbols a.symbol.0).1
  where
    both : (x : SymbolValue) → slice_get t.symbols a.symbol.0 ≡ Some x → (o : Option ChoiceId) → x.choice ≡ o → (not (is_some x.choice) && fits_type (kind_of x) a.value) ≡ true
    both x e None f =
        ap (λ (o : Option ChoiceId). not (is_some o) && fits_type (kind_of x) a.value) f
        ∙ ap (λ (o : Option SymbolValue). fits_type (option_map_or kind_of o kind.Bool) a.value) (sym e)
        ∙ h.1
    both x e (Some c) f =
        absurd (true≢false (ap is_some (sym f ∙ ap (λ (o : Option SymbolValue). option_and_then (λ z. z.choice) o) (sym e) ∙ alone)))

    found : (x : SymbolValue) → slice_get t.symbols a.symbol.0 ≡ Some x → fits t a.symbol a.value ≡ true
    found x e = ap (λ (o : Option SymbolValue). option_map_or (λ z. not (is_some z.choice) && fits_type (kind_of z) a.value) o false) e ∙ both x e x.choice refl

-- ---- one place
-- what it has by what is given: a member of a choice keeps what it had
abbrev has_by : {X : Type 0} → Bool → Option X → Option X → Option X
has_by member given had = if member then had else option_or given had

-- .. unless a later one gives something
abbrev merged_at : {X : Type 0} → Bool → Option X → Option X → Option X → Option X
merged_at member last given had = if is_some last then had else has_by member given had

-- the later ones give it what all do
same_later : {X : Type 0} (b : Bool) (last given had : Option X) → has_by b last (merged_at b last given had) ≡ has_by b (option_or last given) had
same_later true None given had = refl
same_later true (Some x) given had = refl
same_later false None given had = refl
same_later false (Some x) given had = refl

nothing_given : {X : Type 0} (b : Bool) (had : Option X) → has_by b None had ≡ had
nothing_given true had = refl
nothing_given false had = refl

-- what is given nothing stays
stays : {X : Type 0} (b later : Bool) (given had : Option X) → (b ≡ true) ⊎ (given ≡ None) → had ≡ (if later then had else has_by b given had)
stays b true given had why = refl
stays {X} b false given had why =
    ⊎_elim
    (λ (e : b ≡ true). sym (ap (λ m. has_by {X = X} m given had) e))
    (λ (e : given ≡ None). sym (ap (λ g. has_by {X = X} b g had) e ∙ nothing_given {X = X} b had))
    why

-- it was not changed yet, or is given nothing more
merged_once : {X : Type 0} (b : Bool) (last given had was : Option X) → (had ≡ was) ⊎ (option_or last given ≡ None) → (merged_at b last given had ≡ was) ⊎ (last ≡ None)
merged_once b None given had was h = inr refl
merged_once b (Some x) given had was h = ⊎_elim (λ e. inl e) (λ e. absurd (true≢false (ap is_some e))) h

stays_given : {X : Type 0} (b : Bool) (last given had : Option X) → option_or last given ≡ None → merged_at b last given had ≡ had
stays_given b None given had e = sym (stays b false given had (inr e))
stays_given b (Some x) given had e = refl

-- so it becomes another at most once
other_once : {X : Type 0} (b : Bool) (last given had was : Option X) → (had ≡ was) ⊎ (option_or last given ≡ None) → (had ≡ was) ⊎ (merged_at b last given had ≡ had)
other_once b last given had was h = ⊎_elim (λ e. inl e) (λ e. inr (stays_given b last given had e)) h

-- ---- what may be a value has no line feed
abbrev IsPlain : Option UserVal → Type 0
IsPlain o = (v : UserVal) → o ≡ Some v → has_feed v ≡ false

plain_or : (o p : Option UserVal) → IsPlain o → IsPlain p → IsPlain (option_or o p)
plain_or None p h k = k
plain_or (Some x) p h k = h

plain_merged : (b : Bool) (last given had : Option UserVal) → IsPlain given → IsPlain had → IsPlain (merged_at b last given had)
plain_merged b (Some x) given had h k = k
plain_merged true None given had h k = k
plain_merged false None given had h k = plain_or given had h k

plain_given : (b : Bool) (v : UserVal) → has_feed v ≡ false → IsPlain (if b then Some v else None)
plain_given true v h = λ x e. sym (ap has_feed (same_Some v x e)) ∙ h
plain_given false v h = λ x e. absurd (none-some x e)

plain_user : (u : UserValues) → HasNoFeeds u → (s : SymId) → IsPlain (user_value u s)
plain_user u h s (Text w) e = h s w e
plain_user u h s _ e = refl

-- ---- assignments from the last one back
last_more : {X : Type 0} (f : Assign → Option X) (bs : List Assign) (a : Assign) → last_of f (bs ++ a ∷ []) ≡ option_or (f a) (last_of f bs)
last_more f [] a = or_none (f a)
  where
    or_none : {X : Type 0} (o : Option X) → o ≡ option_or o None
    or_none None = refl
    or_none (Some x) = refl
last_more f (b ∷ bs) a = ap (λ o. option_or o (f b)) (last_more f bs a) ∙ or_assoc (f a) (last_of f bs) (f b)
  where
    or_assoc : {X : Type 0} (o p q : Option X) → option_or (option_or o p) q ≡ option_or o (option_or p q)
    or_assoc None p q = refl
    or_assoc (Some x) p q = refl

some_or : {X : Type 0} (o p : Option X) → (is_some o || is_some p) ≡ is_some (option_or o p)
some_or None p = refl
some_or (Some x) p = refl

any_last : {X : Type 0} (f : Assign → Option X) (p : Assign → Bool) → ((a : Assign) → p a ≡ is_some (f a)) → (bs : List Assign)
    → list_any p bs ≡ is_some (last_of f (reverse bs))
any_last f p same [] = refl
any_last {X} f p same (a ∷ bs) =
    ap (λ b. b || list_any p bs) (same a)
    ∙ ap (λ b. is_some (f a) || b) (any_last f p same bs)
    ∙ some_or (f a) (last_of f (reverse bs))
    ∙ ap is_some (sym (last_more f (reverse bs) a))
    ∙ ap (λ r. is_some (last_of f r)) (sym (reverse-append (a ∷ []) bs))

some_if : {X : Type 0} (b : Bool) (x : X) → b ≡ is_some (if b then Some x else None)
some_if true x = refl
some_if false x = refl

assigned_last : (s : SymId) (bs : List Assign) → list_any (is_assign_to s) bs ≡ is_some (last_of (value_for s) (reverse bs))
assigned_last s bs = any_last (value_for s) (is_assign_to s) (λ a. some_if (is_assign_to s a) a.value) bs

chosen_last : (t : TreeValue) (c : ChoiceId) (bs : List Assign) → list_any (is_choosing t c) bs ≡ is_some (last_of (member_for t c) (reverse bs))
chosen_last t c bs = any_last (member_for t c) (is_choosing t c) (λ a. some_if (is_choosing t c a) a.symbol) bs

-- ---- one assignment
module _ (t : TreeValue) (u : UserValues) (a : Assign) (later : List Assign) where
  abbrev with_member : ChoiceId → UserValues
  with_member c = if is_yes a.value && not (list_any (is_choosing t c) later) then with_chosen u c (Some a.symbol) else u

  abbrev with_own : UserValues
  with_own = if not (list_any (is_assign_to a.symbol) later) then with_value u a.symbol (Some a.value) else u

  abbrev HasSizes : UserValues → Type 0
  HasSizes w = (length w.values ≡ length u.values) × (length w.chosen ≡ length u.chosen)

  merged_sizes : HasSizes (merged_one t u a later)
  merged_sizes = go (choice_of t a.symbol)
    where
      own : (b : Bool) → HasSizes (if b then with_value u a.symbol (Some a.value) else u)
      own true = (length-set u.values a.symbol.0 (Some a.value), refl)
      own false = (refl, refl)

      member : (c : ChoiceId) (b : Bool) → HasSizes (if b then with_chosen u c (Some a.symbol) else u)
      member c true = (refl, length-set u.chosen c.0 (Some a.symbol))
      member c false = (refl, refl)

      go : (o : Option ChoiceId) → HasSizes (option_map_or with_member o with_own)
      go None = own (not (list_any (is_assign_to a.symbol) later))
      go (Some c) = member c (is_yes a.value && not (list_any (is_choosing t c) later))

  module _ (inside : a.symbol.0 < length t.symbols) (long : length u.values ≡ length t.symbols) (s : SymId) where
    abbrev had_value : Option UserVal
    had_value = user_value u s

    abbrev last_value : Option UserVal
    last_value = last_of (value_for s) (reverse later)

    abbrev is_member : Bool
    is_member = is_some (choice_of t s)

    not_given : (s.0 ≡ a.symbol.0 → ⊥) → value_for s a ≡ None
    not_given other = ap (λ b. if b then Some a.value else None) (ne_eqb a.symbol.0 s.0 (λ e. other (sym e)))

    is_given : s.0 ≡ a.symbol.0 → value_for s a ≡ Some a.value
    is_given same = ap (λ b. if b then Some a.value else None) (eq-eqb a.symbol.0 s.0 (sym same))

    choice_same : s.0 ≡ a.symbol.0 → choice_of t s ≡ choice_of t a.symbol
    choice_same same = ap (λ (n : ℕ). choice_of t (record { 0 = n })) same

    value_own : choice_of t a.symbol ≡ None → s.0 ≡ a.symbol.0 → user_value with_own s ≡ merged_at is_member last_value (value_for s a) had_value
    value_own alone same =
        ap (λ b. user_value (if not b then with_value u a.symbol (Some a.value) else u) s) asked ∙ go (is_some last_value)
      where
        asked : list_any (is_assign_to a.symbol) later ≡ is_some last_value
        asked = ap (λ (n : ℕ). list_any (is_assign_to (record { 0 = n })) later) (sym same) ∙ assigned_last s later

        go : (b : Bool) → user_value (if not b then with_value u a.symbol (Some a.value) else u) s ≡ (if b then had_value else has_by is_member (value_for s a) had_value)
        go true = refl
        go false =
            ap (λ n. slice_index_or (slice_set u.values a.symbol.0 (Some a.value)) n None) same
            ∙ get_or-set_same u.values a.symbol.0 (Some a.value) None (omega (arith, inside, long))
            ∙ sym (ap (λ m. has_by m (value_for s a) had_value) (ap is_some (choice_same same ∙ alone)) ∙ ap (λ g. option_or g had_value) (is_given same))

    value_other : (b : Bool) → (s.0 ≡ a.symbol.0 → ⊥) → user_value (if b then with_value u a.symbol (Some a.value) else u) s ≡ had_value
    value_other true other = get_or-set_other u.values a.symbol.0 s.0 (Some a.value) None other
    value_other false other = refl

    value_by_choice : (c : ChoiceId) (b : Bool) → user_value (if b then with_chosen u c (Some a.symbol) else u) s ≡ had_value
    value_by_choice c true = refl
    value_by_choice c false = refl

    merged_value : user_value (merged_one t u a later) s ≡ merged_at is_member last_value (value_for s a) had_value
    merged_value = go (choice_of t a.symbol) refl
      where
        go : (o : Option ChoiceId) → choice_of t a.symbol ≡ o
            → user_value (option_map_or with_member o with_own) s ≡ merged_at is_member last_value (value_for s a) had_value
        go None alone =
            ⊎_elim
            (λ same. value_own alone same)
            (λ other.
            value_other (not (list_any (is_assign_to a.symbol) later)) other
            ∙ stays is_member (is_some last_value) (value_for s a) had_value (inr (not_given other)))
            (cases_eq s.0 a.symbol.0)
        go (Some c) member =
            value_by_choice c (is_yes a.value && not (list_any (is_choosing t c) later))
            ∙ stays is_member (is_some last_value) (value_for s a) had_value
            (⊎_elim (λ same. inl (ap is_some (choice_same same ∙ member))) (λ other. inr (not_given other)) (cases_eq s.0 a.symbol.0))

  module _ (c : ChoiceId) (inside : c.0 < length t.choices) (wide : length u.chosen ≡ length t.choices) where
    abbrev had_member : Option SymId
    had_member = chosen_in u c

    abbrev last_member : Option SymId
    last_member = last_of (member_for t c) (reverse later)

    abbrev given_if : Bool → Option SymId
    given_if b = if b && is_yes a.value then Some a.symbol else None

    given_member : (o : Option ChoiceId) → choice_of t a.symbol ≡ o → member_for t c a ≡ given_if (option_map_or (λ d. d.0 == c.0) o false)
    given_member o e = ap (λ (x : Option ChoiceId). given_if (option_map_or (λ d. d.0 == c.0) x false)) e

    member_own : (d : ChoiceId) → choice_of t a.symbol ≡ Some d → c.0 ≡ d.0 → chosen_in (with_member d) c ≡ merged_at false last_member (member_for t c a) had_member
    member_own d member same =
        ap (λ b. chosen_in (if is_yes a.value && not b then with_chosen u d (Some a.symbol) else u) c) asked
        ∙ go (is_yes a.value) (is_some last_member)
        ∙ ap (λ g. merged_at false last_member g had_member) (sym (given_member (Some d) member ∙ ap given_if (eq-eqb d.0 c.0 (sym same))))
      where
        asked : list_any (is_choosing t d) later ≡ is_some last_member
        asked = ap (λ (n : ℕ). list_any (is_choosing t (record { 0 = n })) later) (sym same) ∙ chosen_last t c later

        go : (yes b : Bool) → chosen_in (if yes && not b then with_chosen u d (Some a.symbol) else u) c
            ≡ (if b then had_member else option_or (if true && yes then Some a.symbol else None) had_member)
        go true true = refl
        go true false =
            ap (λ n. slice_index_or (slice_set u.chosen d.0 (Some a.symbol)) n None) same
            ∙ get_or-set_same u.chosen d.0 (Some a.symbol) None (omega (arith, same, inside, wide))
        go false true = refl
        go false false = refl

    member_other : (d : ChoiceId) (b : Bool) → (c.0 ≡ d.0 → ⊥) → chosen_in (if b then with_chosen u d (Some a.symbol) else u) c ≡ had_member
    member_other d true other = get_or-set_other u.chosen d.0 c.0 (Some a.symbol) None other
    member_other d false other = refl

    member_by_value : (b : Bool) → chosen_in (if b then with_value u a.symbol (Some a.value) else u) c ≡ had_member
    member_by_value true = refl
    member_by_value false = refl

    merged_member : chosen_in (merged_one t u a later) c ≡ merged_at false last_member (member_for t c a) had_member
    merged_member = go (choice_of t a.symbol) refl
      where
        go : (o : Option ChoiceId) → choice_of t a.symbol ≡ o
            → chosen_in (option_map_or with_member o with_own) c ≡ merged_at false last_member (member_for t c a) had_member
        go None alone =
            member_by_value (not (list_any (is_assign_to a.symbol) later))
            ∙ stays false (is_some last_member) (member_for t c a) had_member (inr (given_member None alone))
        go (Some d) member =
            ⊎_elim
            (λ same. member_own d member same)
            (λ other.
            member_other d (is_yes a.value && not (list_any (is_choosing t d) later)) other
            ∙ stays false (is_some last_member) (member_for t c a) had_member
            (inr (given_member (Some d) member ∙ ap given_if (ne_eqb d.0 c.0 (λ e. other (sym e))))))
            (cases_eq c.0 d.0)

-- ---- assignments one after the other
-- those that are left give what all did; what they give was not changed yet
pub record IsMerging (old now : SessionState) (all rest : List Assign) : Type 0 where
  pub session : now.session ≡ with_user old.session now.session.user
  pub long : length now.session.user.values ≡ length old.session.tree.symbols
  pub wide : length now.session.user.chosen ≡ length old.session.tree.choices
  pub assigns : All (IsAssignFor old.session.tree) rest
  pub values : (s : SymId) → value_after old.session.tree now.session.user Merge rest s ≡ value_after old.session.tree old.session.user Merge all s
  pub chosen : (c : ChoiceId) → c.0 < length old.session.tree.choices
      → chosen_after old.session.tree now.session.user Merge rest c ≡ chosen_after old.session.tree old.session.user Merge all c
  pub value_once : (s : SymId) → (user_value now.session.user s ≡ user_value old.session.user s) ⊎ (last_of (value_for s) rest ≡ None)
  pub chosen_once : (c : ChoiceId) → c.0 < length old.session.tree.choices
      → (chosen_in now.session.user c ≡ chosen_in old.session.user c) ⊎ (last_of (member_for old.session.tree c) rest ≡ None)
  pub edits : EditsKept old now
  pub unfed : All IsUnfed all → HasNoFeeds old.session.user → All IsUnfed rest × HasNoFeeds now.session.user

merging_all : (old : SessionState) (all : List Assign) → IsSound old → EditsKept old old → All (IsAssignFor old.session.tree) all → IsMerging old old all all
merging_all old all sound stays assigns = record {
  session = refl;
  long = sound.user.values;
  wide = sound.user.chosen;
  assigns = assigns;
  values = λ s. refl;
  chosen = λ c inside. refl;
  value_once = λ s. inl refl;
  chosen_once = λ c inside. inl refl;
  edits = stays;
  unfed = λ unfed before. (unfed, before);
}

-- .. in a list that was turned round
pub merging_first : (old : SessionState) (all turned : List Assign) → IsSound old → EditsKept old old → All (IsAssignFor old.session.tree) all → turned ≡ reverse all
    → IsMerging old old all (reverse turned)
merging_first old all turned sound stays assigns is =
    subst (IsMerging old old all) (sym (ap reverse is ∙ reverse-reverse all)) (merging_all old all sound stays assigns)

module _ (old now new : SessionState) (all : List Assign) (a : Assign) (later : List Assign) (sound : IsSound old) (h : IsMerging old now all (a ∷ reverse later))
    (merged : new.session ≡ with_user now.session (merged_one now.session.tree now.session.user a later)) (edits : EditsKept now new) where
  abbrev tree : TreeValue
  tree = old.session.tree

  abbrev was : UserValues
  was = old.session.user

  abbrev user : UserValues
  user = now.session.user

  abbrev next : UserValues
  next = merged_one tree user a later

  tree_is : now.session.tree ≡ tree
  tree_is = ap (λ (s : SessionValue). s.tree) h.session

  next_is : new.session ≡ with_user old.session next
  next_is = merged ∙ ap (λ (s : SessionValue). with_user s (merged_one s.tree user a later)) h.session

  user_is : new.session.user ≡ next
  user_is = ap (λ (s : SessionValue). s.user) next_is

  inside : a.symbol.0 < length tree.symbols
  inside = (All-head (IsAssignFor tree) a (reverse later) h.assigns).0

  value_is : (s : SymId) → user_value new.session.user s ≡ merged_at (is_some (choice_of tree s)) (last_of (value_for s) (reverse later)) (value_for s a) (user_value user s)
  value_is s = ap (λ (x : UserValues). user_value x s) user_is ∙ merged_value tree user a later inside h.long s

  chosen_is : (c : ChoiceId) → c.0 < length tree.choices
      → chosen_in new.session.user c ≡ merged_at false (last_of (member_for tree c) (reverse later)) (member_for tree c a) (chosen_in user c)
  chosen_is c within = ap (λ (x : UserValues). chosen_in x c) user_is ∙ merged_member tree user a later c within h.wide

  none_past : (u : UserValues) (c : ChoiceId) → length u.chosen ≡ length tree.choices → length tree.choices ≤ c.0 → chosen_in u c ≡ None
  none_past u c wide past = get_or_past u.chosen c.0 None (omega (arith, wide, past))

  pub merging_next : IsMerging old new all (reverse later)
  merging_next = record {
    session = next_is ∙ ap (with_user old.session) (sym user_is);
    long = ap (λ (x : UserValues). length x.values) user_is ∙ (merged_sizes tree user a later).0 ∙ h.long;
    wide = ap (λ (x : UserValues). length x.chosen) user_is ∙ (merged_sizes tree user a later).1 ∙ h.wide;
    assigns = All-tail (IsAssignFor tree) a (reverse later) h.assigns;
    values = λ s.
        ap (has_by (is_some (choice_of tree s)) (last_of (value_for s) (reverse later))) (value_is s)
        ∙ same_later (is_some (choice_of tree s)) (last_of (value_for s) (reverse later)) (value_for s a) (user_value user s)
        ∙ h.values s;
    chosen = λ c within.
        ap (option_or (last_of (member_for tree c) (reverse later))) (chosen_is c within)
        ∙ same_later false (last_of (member_for tree c) (reverse later)) (member_for tree c a) (chosen_in user c)
        ∙ h.chosen c within;
    value_once = λ s.
        ⊎_elim
        (λ e. inl (value_is s ∙ e))
        (λ e. inr e)
        (merged_once (is_some (choice_of tree s)) (last_of (value_for s) (reverse later)) (value_for s a) (user_value user s) (user_value was s) (h.value_once s));
    chosen_once = λ c within.
        ⊎_elim
        (λ e. inl (chosen_is c within ∙ e))
        (λ e. inr e)
        (merged_once false (last_of (member_for tree c) (reverse later)) (member_for tree c a) (chosen_in user c) (chosen_in was c) (h.chosen_once c within));
    edits =
        sound.laws.edits_once was user new.session.user (record { values = values_once; chosen = members_once }) old.kept now.kept new.kept h.edits
        (subst (λ (x : TreeValue). Edits x user new.session.user now.kept new.kept) tree_is edits);
    unfed = λ unfed before.
        let left = h.unfed unfed before in
        (All-tail IsUnfed a (reverse later) left.0, unfed_next (All-head IsUnfed a (reverse later) left.0) left.1);
  }
    where
      values_once : (s : SymId) → (user_value user s ≡ user_value was s) ⊎ (user_value new.session.user s ≡ user_value user s)
      values_once s =
          ⊎_elim
          (λ e. inl e)
          (λ e. inr (value_is s ∙ e))
          (other_once (is_some (choice_of tree s)) (last_of (value_for s) (reverse later)) (value_for s a) (user_value user s) (user_value was s) (h.value_once s))

      members_once : (c : ChoiceId) → (chosen_in user c ≡ chosen_in was c) ⊎ (chosen_in new.session.user c ≡ chosen_in user c)
      members_once c =
          ⊎_elim
          (λ within. ⊎_elim
          (λ e. inl e)
          (λ e. inr (chosen_is c within ∙ e))
          (other_once false (last_of (member_for tree c) (reverse later)) (member_for tree c a) (chosen_in user c) (chosen_in was c) (h.chosen_once c within)))
          (λ past. inl (none_past user c h.wide past ∙ sym (none_past was c sound.user.chosen past)))
          (cases_lt c.0 (length tree.choices))

      unfed_next : IsUnfed a → HasNoFeeds user → HasNoFeeds new.session.user
      unfed_next plain before s w e =
          plain_merged (is_some (choice_of tree s)) (last_of (value_for s) (reverse later)) (value_for s a) (user_value user s)
          (plain_given (is_assign_to s a) a.value plain) (plain_user user before s) (Text w) (sym (value_is s) ∙ e)

-- .. from the end of the list that was turned round
pub merging_more : (old now new : SessionState) (all left fewer : List Assign) (a : Assign) → IsSound old → IsMerging old now all (reverse left) → left ≡ fewer ++ a ∷ []
    → new.session ≡ with_user now.session (merged_one now.session.tree now.session.user a fewer) → EditsKept now new → IsMerging old new all (reverse fewer)
merging_more old now new all left fewer a sound h is merged edits =
    merging_next old now new all a fewer sound (subst (IsMerging old now all) (ap reverse is ∙ reverse-append fewer (a ∷ [])) h) merged edits

pub first_assign : (old now : SessionState) (all left fewer : List Assign) (a : Assign) → IsMerging old now all (reverse left) → left ≡ fewer ++ a ∷ [] → IsAssignFor now.session.tree a
first_assign old now all left fewer a h is =
    let rest = subst (All (IsAssignFor old.session.tree)) (ap reverse is ∙ reverse-append fewer (a ∷ [])) h.assigns in
    subst (λ (x : TreeValue). IsAssignFor x a) (sym (ap (λ (s : SessionValue). s.tree) h.session)) (All-head (IsAssignFor old.session.tree) a (reverse fewer) rest)

-- ---- when no assignment is left
pub merging_done : (old now : SessionState) (all left : List Assign) → IsMerging old now all (reverse left) → left ≡ []
    → now.session ≡ with_user old.session (user_after old.session.tree old.session.user Merge all)
merging_done old now all left turned none =
    let h : IsMerging old now all [] = subst (λ xs. IsMerging old now all (reverse xs)) none turned in
    let t = old.session.tree in
    let is = now.session.user in
    let after = user_after t old.session.user Merge all in
    let value : (s : SymId) → user_value is s ≡ value_after t old.session.user Merge all s = λ s. sym (nothing_given (is_some (choice_of t s)) (user_value is s)) ∙ h.values s in
    let values : is.values ≡ after.values =
    fill_by_all (λ k. value_after t old.session.user Merge all (record { 0 = k })) is.values (length t.symbols) None h.long (λ k l. value (record { 0 = k })) in
    let chosen : is.chosen ≡ after.chosen =
    fill_by_all (λ k. chosen_after t old.session.user Merge all (record { 0 = k })) is.chosen (length t.choices) None h.wide (λ k l. h.chosen (record { 0 = k }) l) in
    let same : is ≡ after = λ i. record { values = values i; chosen = chosen i } in
    h.session ∙ ap (with_user old.session) same
