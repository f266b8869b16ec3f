-- What holds of all assignments holds of those that count.
use Rattle.std.proofs.Common.{Bool, true, false, List, [], ◌∷◌, if◌then◌else◌}
use Rattle.std.specs.Prelude.{All}
use Rattle.std.specs.List.{list_any}
use Rattle.std.proofs.lemmas.List.Elements.{All-cons, All-head, All-tail}
use Rattle.kc_files.specs.declared.assign.Assign.{Assign}
use Rattle.kc_files.specs.ConfigReading.{names_symbol, counting}

pub All-counting : (P : Assign → Type 0) (bs : List Assign) → All P bs → All P (counting bs)
All-counting P [] h = h
All-counting P (a ∷ bs) h = go (list_any (names_symbol a.symbol) bs) (All-counting P bs (All-tail P a bs h))
  where
    go : (b : Bool) → All P (counting bs) → All P (if b then counting bs else a ∷ counting bs)
    go true more = more
    go false more = All-cons P a (counting bs) (All-head P a bs h) more
