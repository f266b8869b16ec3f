-- Lines that are apart can be written and read back.
use Rattle.std.proofs.Common.{◌≡◌, ◌==◌, ◌<◌, false, List, [], ◌∷◌, refl, arith}
use Rattle.std.specs.Prelude.{All}
use Rattle.std.specs.List.{list_any}
use Rattle.std.proofs.lemmas.Bool.{or_from, eqb-true, false_from_ne_true}
use Rattle.std.proofs.lemmas.List.Elements.{All-head, All-tail, All-weaker}
use Rattle.kc_outline.specs.TreeValue.{TreeValue}
use Rattle.kc_files.specs.declared.assign.Assign.{Assign}
use Rattle.kc_files.specs.ConfigReading.{names_symbol}
use Rattle.kc_files.specs.LineReading.{IsAssignFor, IsUnfed}
use Rattle.kc_files.specs.WrittenAssigns as written
use Rattle.kc_how.specs.Answer.{IsLine}
use Rattle.kc_how.specs.Apart.{AreApart, IsApart}
use Rattle.kc_how.proofs.ApartLaws.{pairs_first, pairs_rest}

pub are_assigns : (t : TreeValue) (lines : List Assign) → All (IsLine t) lines → All (IsAssignFor t) lines
are_assigns t lines h = All-weaker (IsLine t) (IsAssignFor t) (λ a line. line.fits) lines h

pub are_unfed : (t : TreeValue) (lines : List Assign) → All (IsLine t) lines → All IsUnfed lines
are_unfed t lines h = All-weaker (IsLine t) IsUnfed (λ a line. line.unfed) lines h

-- no later line names the symbol of the first
named_once : (t : TreeValue) (a : Assign) (later : List Assign) → All (IsApart t a) later → list_any (names_symbol a.symbol) later ≡ false
named_once t a [] h = refl
named_once t a (b ∷ later) h =
    let less : a.symbol.0 < b.symbol.0 = (All-head (IsApart t a) b later h).0 in
    or_from (b.symbol.0 == a.symbol.0) (list_any (names_symbol a.symbol) later)
    (false_from_ne_true (b.symbol.0 == a.symbol.0) (λ e. omega (arith, eqb-true b.symbol.0 a.symbol.0 e, less)))
    (named_once t a later (All-tail (IsApart t a) b later h))

pub are_apart : (t : TreeValue) (lines : List Assign) → AreApart t lines → written.AreApart lines
are_apart t [] h = tt
are_apart t (a ∷ later) h =
    (named_once t a later (pairs_first (IsApart t) a later h), are_apart t later (pairs_rest (IsApart t) a later h))
