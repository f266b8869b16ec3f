-- Lines are enough where no wanted symbol lacks its value, and else not.
use Rattle.std.proofs.Common.{◌≡◌, ◌↔◌, ℕ, Bool, true, false, not, List, Option, None, Some, is_some, refl, sym}
use Rattle.std.proofs.lemmas.Bool.{false≢true}
use Rattle.kc_statement.specs.declared.tri.Tri.TheVariants.{No}
use Rattle.kc_tree.specs.declared.user_value.UserVal.TheVariants.{Tri}
use Rattle.kc_files.specs.declared.assign.Assign.{Assign}
use Rattle.kc_how.specs.Answer.{GivesEach}
use Rattle.kc_how.specs.Question.{Asked, AreEnough, IsLacking}

some_line : Assign
some_line = record { symbol = record { 0 = 0 }; value = Tri No }

pub enough_by : (q : Asked) (lines : List Assign) (found : Option ℕ) (r : Bool) → is_some found ≡ not r → IsLacking q lines found
    → (r ≡ true) ↔ AreEnough q lines
unfolding GivesEach
enough_by q lines None true e h = (λ _. h, λ _. refl)
enough_by q lines None false e h = absurd (false≢true e)
enough_by q lines (Some i) true e h = absurd (false≢true (sym e))
enough_by q lines (Some i) false e h = (λ f. absurd (false≢true f), λ enough. absurd (h.1 some_line (enough i some_line h.0)))
