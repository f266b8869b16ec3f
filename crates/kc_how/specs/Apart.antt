-- Lines that are apart, so that their order does not matter: this project's own.
use Rattle.std.specs.Prelude.{◌≡◌, ◌<◌, List, [], ◌∷◌, Some, All}
use Rattle.std.specs.List.{AllPairs}
use Rattle.kc_outline.specs.declared.id.ChoiceId.{ChoiceId}
use Rattle.kc_outline.specs.TreeValue.{TreeValue, choice_of}
use Rattle.kc_files.specs.declared.assign.Assign.{Assign}

-- the two symbols are not members of one choice
abbrev pub OfOtherChoice : TreeValue → Assign → Assign → Type 0
OfOtherChoice t a b = (c : ChoiceId) → choice_of t a.symbol ≡ Some c → choice_of t b.symbol ≡ Some c → ⊥

-- the symbol of the first comes before that of the second in the tree, and the two are not members of one choice
abbrev pub IsApart : TreeValue → Assign → Assign → Type 0
IsApart t a b = (a.symbol.0 < b.symbol.0) × OfOtherChoice t a b

-- Each line and each later one are: so the lines name different symbols, in the order of the tree, and at most one member
-- of a choice.
abbrev pub AreApart : TreeValue → List Assign → Type 0
AreApart t lines = AllPairs (IsApart t) lines

-- ---- as it is tested
-- a line comes before the first of others, if there is one
abbrev pub IsBeforeFirst : Assign → List Assign → Type 0
IsBeforeFirst a [] = Unit {0}
IsBeforeFirst a (b ∷ later) = a.symbol.0 < b.symbol.0

-- each comes before the next, and is of another choice than each later one
abbrev pub AreTested : TreeValue → List Assign → Type 0
AreTested t [] = Unit {0}
AreTested t (a ∷ later) = IsBeforeFirst a later × All (OfOtherChoice t a) later × AreTested t later
