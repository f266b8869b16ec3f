-- What was taken of a line so far, and what that is once the line ends.
use Rattle.std.proofs.Common.{◌≡◌, ℕ, ◌+◌, ◌<◌, ◌≤◌, ◌==◌, ◌||◌, Bool, false, List, [], ◌∷◌, ◌++◌, length, Option, None, Some, sym, ap, ◌∙◌, subst, append_assoc, append-nil, arith}
use Rattle.std.specs.Io.KnownBytes.{Consumes, IsAtEnd, prepend_known}
use Rattle.std.proofs.KnownBytes.{Consumes-trans}
use Rattle.std.proofs.lemmas.List.{length-append}
use Rattle.std.proofs.lemmas.List.Folds.{list_any-append}
use Rattle.kc_session.specs.Stream.{has_feed, line_feed}
use Rattle.kc_session.specs.Held.{HeldLine, held_of}
use Rattle.kc_session.specs.NextLine.{IsEndedLine, TakesEndedLine, TakesLastLine, TakesNothing}
use Rattle.kc_session.proofs.Lines.{IsEndedLine-push, IsLastLine-unended}
use Rattle.kc_session.proofs.Holding.{held_of-empty, held_of-short}

or_both : (a b : Bool) → a ≡ false → b ≡ false → (a || b) ≡ false
or_both a b p q = ap (λ x. x || b) p ∙ q

-- A beginning of a line was taken and is held. Each byte taken lowered the budget.
pub record HasTaken (left after : Option (List ℕ)) (held : HeldLine) (from to : ℕ) : Type 0 where
  pub part : List ℕ
  pub taken : Consumes left after part
  pub has_no_feed : has_feed part ≡ false
  pub holds : held ≡ held_of part
  pub spends : to + length part ≤ from

-- what `push` does with bytes, whatever line is held
abbrev pub PushesBytes : HeldLine → HeldLine → List ℕ → Type 0
PushesBytes held pushed bytes = (line : List ℕ) → held ≡ held_of line → pushed ≡ held_of (line ++ bytes)

-- the first of the unread bytes are taken
takes_front : (front behind : List ℕ) (known : Option (List ℕ)) → Consumes (prepend_known (front ++ behind) known) (prepend_known behind known) front
takes_front front behind None = tt
takes_front front behind (Some rest) = append_assoc front behind rest

-- what was taken, after no byte came, where a part of the unread bytes is taken
takes_part : (left mid known : Option (List ℕ)) (unread front behind taken : List ℕ) → Consumes left mid taken → Consumes mid (prepend_known unread known) []
    → unread ≡ front ++ behind → Consumes left (prepend_known behind known) (taken ++ front)
takes_part left mid known unread front behind taken before none cut =
    let filled_by : Consumes left (prepend_known unread known) taken =
    subst (Consumes left (prepend_known unread known)) (append-nil taken) (Consumes-trans left mid (prepend_known unread known) taken [] before none) in
    Consumes-trans left (prepend_known unread known) (prepend_known behind known) taken front filled_by
    (subst (λ bytes. Consumes (prepend_known bytes known) (prepend_known behind known) front) (sym cut) (takes_front front behind known))

-- a part without a line feed
pub HasTaken-more : (left mid known : Option (List ℕ)) (held pushed : HeldLine) (unread front behind : List ℕ) (from middle filled to : ℕ) → HasTaken left mid held from middle
    → Consumes mid (prepend_known unread known) [] → unread ≡ front ++ behind → PushesBytes held pushed front → has_feed front ≡ false → filled ≤ middle
    → to + length front ≡ filled → HasTaken left (prepend_known behind known) pushed from to
HasTaken-more left mid known held pushed unread front behind from middle filled to h none cut pushes unfed lower spent = record {
  part = h.part ++ front;
  taken = takes_part left mid known unread front behind h.part h.taken none cut;
  has_no_feed = list_any-append (λ b. b == line_feed) h.part front ∙ or_both (has_feed h.part) (has_feed front) h.has_no_feed unfed;
  holds = pushes h.part h.holds;
  spends = omega (arith, h.spends, lower, spent, length-append h.part front);
}

-- a part that ends in the first line feed
pub TakesEndedLine-part : (left mid known : Option (List ℕ)) (held pushed : HeldLine) (unread front behind text : List ℕ) (from middle : ℕ) → HasTaken left mid held from middle
    → Consumes mid (prepend_known unread known) [] → unread ≡ front ++ behind → PushesBytes held pushed front → front ≡ text ++ 10 ∷ [] → has_feed text ≡ false
    → TakesEndedLine left (prepend_known behind known) pushed
TakesEndedLine-part left mid known held pushed unread front behind text from middle h none cut pushes ends unfed =
    let same : (h.part ++ text) ++ 10 ∷ [] ≡ h.part ++ front = append_assoc h.part text (10 ∷ []) ∙ ap (λ xs. h.part ++ xs) (sym ends) in
    let none_before : has_feed (h.part ++ text) ≡ false = list_any-append (λ b. b == line_feed) h.part text ∙ or_both (has_feed h.part) (has_feed text) h.has_no_feed unfed in
    record {
      line = h.part ++ front;
      taken = takes_part left mid known unread front behind h.part h.taken none cut;
      is_line = subst IsEndedLine same (IsEndedLine-push (h.part ++ text) none_before);
      holds = pushes h.part h.holds;
    }

-- no more bytes came
HasTaken-all : (left mid after : Option (List ℕ)) (held : HeldLine) (from to : ℕ) → HasTaken left mid held from to → Consumes mid after []
    → HasTaken left after held from to
HasTaken-all left mid after held from to h none =
    record {
      part = h.part;
      taken = subst (Consumes left after) (append-nil h.part) (Consumes-trans left mid after h.part [] h.taken none);
      has_no_feed = h.has_no_feed;
      holds = h.holds;
      spends = h.spends;
    }

-- a part that is not empty is the last line
TakesLastLine-from_part : (left after : Option (List ℕ)) (held : HeldLine) (part : List ℕ) → Consumes left after part → has_feed part ≡ false → held ≡ held_of part
    → IsAtEnd after → 0 < length part → TakesLastLine left after held
TakesLastLine-from_part left after held [] taken h holds end some = absurd (omega arith)
TakesLastLine-from_part left after held (b ∷ bs) taken h holds end some =
    record { line = b ∷ bs; taken = taken; is_line = IsLastLine-unended b bs h; holds = holds; end = end }

-- what is held came from the part
part-some : (held : HeldLine) (part : List ℕ) → held ≡ held_of part → 0 < length held.kept → 0 < length part
part-some held [] holds some = absurd (omega (arith, ap (λ h. length h.kept) (holds ∙ held_of-short [] (omega arith))))
part-some held (b ∷ bs) holds some = omega arith

-- a line that is held was paid for
pub spends-some : (left after : Option (List ℕ)) (held : HeldLine) (from to : ℕ) → HasTaken left after held from to → 0 < length held.kept → to < from
spends-some left after held from to h some = omega (arith, part-some held h.part h.holds some, h.spends)

pub TakesLastLine-taken : (left mid after : Option (List ℕ)) (held : HeldLine) (from to : ℕ) → HasTaken left mid held from to → Consumes mid after [] → IsAtEnd after
    → 0 < length held.kept → TakesLastLine left after held
TakesLastLine-taken left mid after held from to h none end some =
    let all = HasTaken-all left mid after held from to h none in
    TakesLastLine-from_part left after held all.part all.taken all.has_no_feed all.holds end (part-some held all.part all.holds some)

pub TakesNothing-taken : (left mid after : Option (List ℕ)) (held : HeldLine) (from to : ℕ) → HasTaken left mid held from to → Consumes mid after [] → IsAtEnd after
    → length held.kept ≡ 0 → TakesNothing left after
TakesNothing-taken left mid after held from to h none end empty =
    let all = HasTaken-all left mid after held from to h none in
    record { taken = subst (Consumes left after) (held_of-empty held all.part all.holds empty) all.taken; end = end }
