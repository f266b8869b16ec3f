-- What a writer took of some bytes, write after write.
use Rattle.std.proofs.Common.{◌≡◌, ℕ, ◌-◌, List, ◌++◌, length, take, drop, Option, sym, ap, ◌∙◌, append_assoc, arith, length-drop, take-append-drop}
use Rattle.std.specs.Io.KnownBytes.{Appends}
use Rattle.std.proofs.KnownBytes.{Appends-trans}
use Rattle.std.proofs.lemmas.List.{take_all}
use Rattle.kc_session.specs.Output.{WritesBefore, WritesPart}

-- a write took the first n bytes of the rest
pub WritesBefore-more : (old mid new : Option (List ℕ)) (bytes rest : List ℕ) (n : ℕ) → WritesBefore old mid bytes rest → Appends mid new (take n rest)
    → WritesBefore old new bytes (take (length rest - n) (drop n rest))
WritesBefore-more old mid new bytes rest n before more =
    let all : take (length rest - n) (drop n rest) ≡ drop n rest = take_all _ (drop n rest) (omega (arith, length-drop n rest)) in
    record {
      part = before.part ++ take n rest;
      split = before.split ∙ ap (λ r. before.part ++ r) (sym (take-append-drop n rest) ∙ ap (λ r. take n rest ++ r) (sym all)) ∙ sym (append_assoc before.part (take n rest) _);
      appends = Appends-trans old mid new _ _ before.appends more;
    }

-- a beginning of the first of two pieces is one of both
pub WritesPart-first : (old new : Option (List ℕ)) (first second : List ℕ) → WritesPart old new first → WritesPart old new (first ++ second)
WritesPart-first old new first second w =
    record {
      rest = w.rest ++ second;
      writes = record {
        part = w.writes.part;
        split = ap (λ bytes. bytes ++ second) w.writes.split ∙ append_assoc w.writes.part w.rest second;
        appends = w.writes.appends;
      };
    }

-- the first of two pieces, and a beginning of the second
pub WritesPart-second : (old mid new : Option (List ℕ)) (first second : List ℕ) → Appends old mid first → WritesPart mid new second → WritesPart old new (first ++ second)
WritesPart-second old mid new first second a w =
    record {
      rest = w.rest;
      writes = record {
        part = first ++ w.writes.part;
        split = ap (λ bytes. first ++ bytes) w.writes.split ∙ sym (append_assoc first w.writes.part w.rest);
        appends = Appends-trans old mid new first w.writes.part a w.writes.appends;
      };
    }
