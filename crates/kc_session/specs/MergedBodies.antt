-- Bodies that are merged one after the other: this project's own.
use Rattle.std.specs.Prelude.{◌≡◌, ◌<◌, ℕ, true, List, [], ◌∷◌, length, take, slice_index_or}
use Rattle.std.specs.List.{list_all}
use Rattle.kc_outline.specs.TreeValue.{TreeValue}
use Rattle.kc_value.specs.Solution.{solution}
use Rattle.kc_value.specs.UserValues.{UserValues}
use Rattle.kc_files.specs.ConfigText.{config_text_of}
use Rattle.kc_files.specs.Loading.{user_after}
use Rattle.kc_files.specs.OneReading.{assigns_in}
use Rattle.kc_files.specs.declared.loading.Load.TheVariants.{Merge}
use Rattle.kc_session.specs.declared.command.Refusal.{Refusal}
use Rattle.kc_session.specs.declared.merging.MergeFault.{MergeFault}
use Rattle.kc_session.specs.declared.merging.MergeFault.TheVariants.{Body, NoMemory}
use Rattle.kc_session.specs.Bodies.{fits_body, IsReadRefusal}
use Rattle.kc_session.specs.Session.{SessionValue, with_user}

-- the user values after each body was merged into those that the bodies before it left
abbrev pub user_merged : TreeValue → List ℕ → UserValues → List (List ℕ) → UserValues
user_merged t prefix u [] = u
user_merged t prefix u (body ∷ later) =
    user_merged t prefix (user_after t u Merge (assigns_in t prefix body)) later

abbrev pub session_merged : SessionValue → List (List ℕ) → SessionValue
session_merged s bodies = with_user s (user_merged s.tree s.prefix s.user bodies)

-- the text of the `.config` of a session, without a header
abbrev pub config_of : SessionValue → List ℕ
config_of s = config_text_of s.tree s.prefix [] (solution s.tree s.user)

-- no body is too long, and all were merged
pub record AreMerged (old : SessionValue) (bodies : List (List ℕ)) (new : SessionValue) : Type 0 where
  pub fit : list_all fits_body bodies ≡ true
  pub session : new ≡ session_merged old bodies

-- the body of an index was refused, and those before it were merged
pub record IsRefusedAt (old : SessionValue) (bodies : List (List ℕ)) (index : ℕ) (refusal : Refusal) (new : SessionValue) : Type 0 where
  pub inside : index < length bodies
  pub refused : IsReadRefusal (slice_index_or bodies index []) refusal
  pub before : AreMerged old (take index bodies) new

-- why bodies were not merged: the first one that was refused, or memory for the text of all of them
abbrev pub IsMergeFault : SessionValue → List (List ℕ) → MergeFault → SessionValue → Type 0
IsMergeFault old bodies (Body index refusal) new = IsRefusedAt old bodies index refusal new
IsMergeFault old bodies NoMemory new = AreMerged old bodies new
