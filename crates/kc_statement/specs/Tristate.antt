-- Tristate values and their operators: kconfig-language.rst, "Menu dependencies".
use Rattle.std.specs.Prelude.{ℕ, Bool, true, false, List, [], ◌∷◌, codes}
use Rattle.kc_statement.specs.declared.tri.Tri.{Tri}
use Rattle.kc_statement.specs.declared.tri.Tri.TheVariants.{No, Module, Yes}

-- `&&`: the lesser of two in the order n, m, y
abbrev pub least : Tri → Tri → Tri
least No b = No
least Module No = No
least Module Module = Module
least Module Yes = Module
least Yes b = b

-- `||`: the greater of two
abbrev pub greatest : Tri → Tri → Tri
greatest No b = b
greatest Module No = Module
greatest Module Module = Module
greatest Module Yes = Yes
greatest Yes b = Yes

abbrev pub is_no : Tri → Bool
is_no No = true
is_no Module = false
is_no Yes = false

-- the least of all, which is y where there is none
abbrev pub least_of : List Tri → Tri
least_of [] = Yes
least_of (x ∷ xs) = least x (least_of xs)

-- the greatest of all, which is n where there is none
abbrev pub greatest_of : List Tri → Tri
greatest_of [] = No
greatest_of (x ∷ xs) = greatest x (greatest_of xs)

-- `!`
abbrev pub complement : Tri → Tri
complement No = Yes
complement Module = Module
complement Yes = No

-- as it is written
abbrev pub letter : Tri → List ℕ
letter No = codes "n"
letter Module = codes "m"
letter Yes = codes "y"
