-- This project's own: a session as contracts see it.
use Rattle.std.specs.Prelude.{ℕ, List}
use Rattle.kc_outline.specs.TreeValue.{TreeValue}
use Rattle.kc_value.specs.Kept.{KeptValue, nothing_kept, AreKept}
use Rattle.kc_value.specs.KeptLaws.{KeptLaws}
use Rattle.kc_value.specs.Solution.{solution, IsOnlySolution}
use Rattle.kc_value.specs.UserValues.{UserValues, IsUserFor, no_values}

-- the tree, the user values, and the prefix of the names in files
pub record SessionValue : Type 0 where
  pub tree : TreeValue
  pub user : UserValues
  pub prefix : List ℕ

-- a session of a tree without user values
abbrev pub new_session : TreeValue → List ℕ → SessionValue
new_session t prefix = record { tree = t; user = no_values t; prefix = prefix }

-- the same but for the user values
abbrev pub with_user : SessionValue → UserValues → SessionValue
with_user s u = record { tree = s.tree; user = u; prefix = s.prefix }

-- with the values that it keeps, and the count of evaluations
pub record SessionState : Type 0 where
  pub session : SessionValue
  pub kept : KeptValue

-- a session that keeps nothing yet
abbrev pub new_state : SessionValue → SessionState
new_state s = record { session = s; kept = nothing_kept s.tree }

-- Whatever was done before, the user values are those of a user of the tree, and what is kept is right, by the laws of
-- what is kept; whatever the user values are, the tree has one solution.
pub record IsSound (s : SessionState) : Type 0 where
  pub user : IsUserFor s.session.tree s.session.user
  pub kept : AreKept s.session.tree s.session.user s.kept.values
  pub laws : KeptLaws s.session.tree
  pub solved : (u : UserValues) → IsOnlySolution s.session.tree u (solution s.session.tree u)
