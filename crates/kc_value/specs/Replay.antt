-- What a node shows, as the user's own: this project's own.
use Rattle.std.specs.Prelude.{Option, Some, None}
use Rattle.kc_tree.specs.declared.user_value.UserVal.{UserVal}
use Rattle.kc_value.specs.declared.value.Value.{Value}
use Rattle.kc_value.specs.declared.value.Value.TheVariants.{Tri as Level, Shown, Member}

-- what a symbol shows, as a user value; nothing of another node
abbrev pub shown_in : Value → Option UserVal
shown_in (Level v) = None
shown_in (Shown w m) = Some w
shown_in (Member m) = None
