-- Steps: the variables that lines have defined, as contracts see them: this project's own.
use Rattle.std.specs.Prelude.{ℕ, List, map, String, string_bytes}
use Rattle.std.specs.BTreeMap.{BTreeMap}
use Rattle.std.specs.declared.alloc.Global.{Global}
use Rattle.kc_text.specs.declared.variables.Value.{Value}

-- the name and the value of an entry
abbrev pub variable_of : String Global × Value → List ℕ × Value
variable_of e = (string_bytes e.0, e.1)

-- the variables of a map, in the order of their names' bytes
abbrev pub variable_list : BTreeMap (String Global) Value → List (List ℕ × Value)
variable_list m = map variable_of m.entries
