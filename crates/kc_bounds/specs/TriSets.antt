-- Which of n, m and y a value may be: this project's own.
use Rattle.std.specs.Prelude.{◌≡◌, Bool, true, Option, Some, None}
use Rattle.kc_statement.specs.declared.tri.Tri.{Tri}
use Rattle.kc_statement.specs.declared.tri.Tri.TheVariants.{No, Module, Yes}
use Rattle.kc_bounds.specs.declared.tri_set.TriSet.{TriSet}
use Rattle.kc_bounds.specs.declared.tri_choice.TriChoice.{TriChoice}

-- whether a set has a value
abbrev pub has : TriSet → Tri → Bool
has s No = s.no
has s Module = s.«module»
has s Yes = s.yes

-- the value is one of the set
pub record IsIn (s : TriSet) (v : Tri) : Type 0 where
  pub there : has s v ≡ true

-- the set of all three
abbrev pub any_tri : TriSet
any_tri = record { no = true; «module» = true; yes = true }

-- a value is one of those that there may be, and none is one where there may be none
abbrev pub IsAmong : TriChoice → Option Tri → Type 0
IsAmong s None = s.may_lack ≡ true
IsAmong s (Some v) = IsIn s.values v
