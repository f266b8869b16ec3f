-- What merges in turn leave of a session, and what is left where one is refused.
use Rattle.std.proofs.Common.{◌≡◌, ℕ, ◌+◌, ◌<◌, ◌&&◌, Bool, true, false, if◌then◌else◌, List, [], ◌∷◌, ◌++◌, length, take, get_or, IsTrue, refl, sym, ap, subst, ◌∙◌, arith}
use Rattle.std.specs.List.{list_all}
use Rattle.std.proofs.lemmas.Bool.{false≢true}
use Rattle.std.proofs.lemmas.List.{take_all, take_more}
use Rattle.std.proofs.lemmas.List.Folds.{list_all_more}
use Rattle.kc_outline.specs.TreeValue.{TreeValue}
use Rattle.kc_tree.specs.Nodes.{IsNodeOf}
use Rattle.kc_value.specs.Kept.{IsKept}
use Rattle.kc_value.specs.KeptLaws.{KeptLaws}
use Rattle.kc_value.specs.UserValues.{UserValues}
use Rattle.kc_files.specs.Loading.{user_after}
use Rattle.kc_files.specs.OneReading.{assigns_in}
use Rattle.kc_files.specs.declared.loading.Load.TheVariants.{Merge as MergeLoad}
use Rattle.kc_session.specs.declared.command.Command.TheVariants.{Config, Merge}
use Rattle.kc_session.specs.declared.command.Refusal.{Refusal}
use Rattle.kc_session.specs.declared.command.Refusal.TheVariants.{NoMemory, TooLong}
use Rattle.kc_session.specs.declared.command.Reply.{Reply}
use Rattle.kc_session.specs.declared.command.Reply.TheVariants.{Done, Refused}
use Rattle.kc_session.specs.Bodies.{fits_body, IsReadRefusal}
use Rattle.kc_session.specs.Effect.{config_outcome, loaded, perform, refuse, starved_or, IsApplied}
use Rattle.kc_session.specs.Keeping.{is_done, Keeps, KeepsAll}
use Rattle.kc_session.specs.MergedBodies.{config_of, session_merged, user_merged, AreMerged, IsRefusedAt}
use Rattle.kc_session.specs.Session.{SessionState, SessionValue, with_user}
use Rattle.kc_session.proofs.AskedLaws.{all_here}

-- ---- one merge
module _ (s n : SessionValue) (body : List ℕ) where
  abbrev pub after_body : SessionValue
  after_body = with_user s (user_after s.tree s.user MergeLoad (assigns_in s.tree s.prefix body))

  done_by : (starved fits : Bool) (text : List ℕ)
      → Done text ≡ (starved_or s starved (if fits then loaded s MergeLoad body else refuse s TooLong)).reply
      → n ≡ with_user s (starved_or s starved (if fits then loaded s MergeLoad body else refuse s TooLong)).user
      → (fits ≡ true) × (n ≡ after_body)
  done_by true fits text is left = cc
  done_by false true text is left = (refl, left)
  done_by false false text is left = cc

  refused_by : (starved fits : Bool) (r : Refusal)
      → fits_body body ≡ fits
      → (IsTrue starved → IsTrue (if fits then loaded s MergeLoad body else refuse s TooLong).takes_memory)
      → Refused r ≡ (starved_or s starved (if fits then loaded s MergeLoad body else refuse s TooLong)).reply
      → n ≡ with_user s (starved_or s starved (if fits then loaded s MergeLoad body else refuse s TooLong)).user
      → IsReadRefusal body r × (n ≡ s)
  refused_by true true r fits may is left =
      let same : NoMemory ≡ r = cc in
      (subst (IsReadRefusal body) same fits, left)
  refused_by true false r fits may is left = absurd (false≢true (may refl))
  refused_by false true r fits may is left = cc
  refused_by false false r fits may is left =
      let same : TooLong ≡ r = cc in
      (subst (IsReadRefusal body) same fits, left)

  done_parts : (text : List ℕ) → IsApplied s (Merge body) (Done text) n → (fits_body body ≡ true) × (n ≡ after_body)
  unfolding perform
  done_parts text h = done_by h.starved (fits_body body) text h.replied h.session

  refused_parts : (r : Refusal) → IsApplied s (Merge body) (Refused r) n → IsReadRefusal body r × (n ≡ s)
  unfolding perform
  refused_parts r h = refused_by h.starved (fits_body body) r refl h.may h.replied h.session

  pub merge_fits : (reply : Reply) (text : List ℕ) → reply ≡ Done text → IsApplied s (Merge body) reply n → fits_body body ≡ true
  merge_fits reply text is h = (done_parts text (subst (λ r. IsApplied s (Merge body) r n) is h)).0

  pub merge_leaves : (reply : Reply) (text : List ℕ) → reply ≡ Done text → IsApplied s (Merge body) reply n → n ≡ after_body
  merge_leaves reply text is h = (done_parts text (subst (λ r. IsApplied s (Merge body) r n) is h)).1

  pub merge_refused : (reply : Reply) (r : Refusal) → reply ≡ Refused r → IsApplied s (Merge body) reply n → IsReadRefusal body r
  merge_refused reply r is h = (refused_parts r (subst (λ x. IsApplied s (Merge body) x n) is h)).0

  pub merge_stays : (reply : Reply) (r : Refusal) → reply ≡ Refused r → IsApplied s (Merge body) reply n → n ≡ s
  merge_stays reply r is h = (refused_parts r (subst (λ x. IsApplied s (Merge body) x n) is h)).1

-- ---- the text after them
module _ (s n : SessionValue) where
  config_by : (starved : Bool) (text : List ℕ) → Done text ≡ (starved_or s starved (config_outcome s)).reply → text ≡ config_of s
  config_by true text is = cc
  config_by false text is = cc

  stays_by : (starved : Bool) → n ≡ with_user s (starved_or s starved (config_outcome s)).user → n ≡ s
  stays_by true left = left
  stays_by false left = left

  text_parts : (text : List ℕ) → IsApplied s Config (Done text) n → text ≡ config_of s
  unfolding perform
  text_parts text h = config_by h.starved text h.replied

  pub config_stays : (reply : Reply) → IsApplied s Config reply n → n ≡ s
  unfolding perform
  config_stays reply h = stays_by h.starved h.session

  pub config_text : (reply : Reply) (text : List ℕ) → reply ≡ Done text → IsApplied s Config reply n → text ≡ config_of s
  config_text reply text is h = text_parts text (subst (λ r. IsApplied s Config r n) is h)

pub config_keeps : (old new : SessionState) (reply : Reply) (text : List ℕ) → KeptLaws old.session.tree → IsApplied old.session Config reply new.session → reply ≡ Done text
    → Keeps old Config reply new → KeepsAll new
unfolding Keeps
config_keeps old new reply text laws applied is h n inside =
    let same = config_stays old.session new.session reply applied in
    let before : IsNodeOf old.session.tree n = subst (λ (x : SessionValue). IsNodeOf x.tree n) same inside in
    let kept : IsKept old.session.tree new.kept.values n = h.all (ap is_done is) n (all_here old.session.tree laws.numbered n before) in
    subst (λ (x : SessionValue). IsKept x.tree new.kept.values n) (sym same) kept

-- ---- several
merged_push : (t : TreeValue) (prefix : List ℕ) (u : UserValues) (bodies : List (List ℕ)) (body : List ℕ)
    → user_merged t prefix u (bodies ++ body ∷ []) ≡ user_after t (user_merged t prefix u bodies) MergeLoad (assigns_in t prefix body)
merged_push t prefix u [] body = refl
merged_push t prefix u (b ∷ bs) body = merged_push t prefix (user_after t u MergeLoad (assigns_in t prefix b)) bs body

pub merged_none : (s : SessionValue) → AreMerged s [] s
merged_none s = record { fit = refl; session = refl }

and_true : (a b : Bool) → a ≡ true → b ≡ true → (a && b) ≡ true
and_true true b e h = h
and_true false b e h = e

module _ (old : SessionValue) (bodies : List (List ℕ)) (i : ℕ) (inside : i < length bodies) (s : SessionValue) (h : AreMerged old (take i bodies) s) where
  pub merged_more : (body : List ℕ) (n : SessionValue) → body ≡ get_or bodies i [] → fits_body body ≡ true → n ≡ after_body s s body → AreMerged old (take (i + 1) bodies) n
  merged_more body n is fits left = record {
    fit = list_all_more fits_body bodies i [] inside ∙ and_true (list_all fits_body (take i bodies)) (fits_body (get_or bodies i [])) h.fit (ap fits_body (sym is) ∙ fits);
    session =
        left
        ∙ ap (λ x. after_body x x body) h.session
        ∙ ap (with_user old) (sym (merged_push old.tree old.prefix old.user (take i bodies) body))
        ∙ ap (λ x. session_merged old (take i bodies ++ x ∷ [])) is
        ∙ ap (session_merged old) (sym (take_more bodies i [] inside));
  }

  pub refused_at : (body : List ℕ) (r : Refusal) (n : SessionValue) → body ≡ get_or bodies i [] → IsReadRefusal body r → n ≡ s → IsRefusedAt old bodies i r n
  refused_at body r n is why same = record {
    inside = inside;
    refused = subst (λ b. IsReadRefusal b r) is why;
    before = subst (AreMerged old (take i bodies)) (sym same) h;
  }

pub merged_all : (old : SessionValue) (bodies : List (List ℕ)) (s : SessionValue) → AreMerged old (take (length bodies) bodies) s → AreMerged old bodies s
merged_all old bodies s h = subst (λ bs. AreMerged old bs s) (take_all (length bodies) bodies (omega arith)) h

-- ---- and the text after them
module _ (old mid new : SessionValue) (bodies : List (List ℕ)) (reply : Reply) (h : AreMerged old bodies mid) (applied : IsApplied mid Config reply new) where
  pub merged_then : AreMerged old bodies new
  merged_then = subst (AreMerged old bodies) (sym (config_stays mid new reply applied)) h

  pub merged_text : (text : List ℕ) → reply ≡ Done text → text ≡ config_of (session_merged old bodies)
  merged_text text is = config_text mid new reply text is applied ∙ ap config_of h.session
