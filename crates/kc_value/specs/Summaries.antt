-- What is said of a node's value: this project's own.
use Rattle.std.specs.Prelude.{Bool, true, false, Option, Some, None}
use Rattle.kc_tree.specs.declared.user_value.UserVal.TheVariants.{Tri as TriVal, Text}
use Rattle.kc_value.specs.declared.summary.Summary.{Summary}
use Rattle.kc_value.specs.declared.summary.Summary.TheVariants.{Absent, Level, Unwritten, Written, Stored}
use Rattle.kc_value.specs.declared.value.Value.{Value}
use Rattle.kc_value.specs.declared.value.Value.TheVariants.{Tri as OfTri, Shown, Member}

-- what is said of a node with this value, or without one
abbrev pub summary_of : Option Value → Summary
summary_of None = Absent
summary_of (Some (OfTri v)) = Level v
summary_of (Some (Shown (TriVal v) false)) = Unwritten v
summary_of (Some (Shown (TriVal v) true)) = Written v
summary_of (Some (Shown (Text x) w)) = Stored
summary_of (Some (Member m)) = Stored

-- whether it is said that there is a value
abbrev pub is_present : Summary → Bool
is_present Absent = false
is_present _ = true
