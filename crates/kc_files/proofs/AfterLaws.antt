-- What comes after the beginning of some bytes.
use Rattle.std.proofs.Common.{◌≡◌, ◌≢◌, ℕ, ◌+◌, ◌==◌, Bool, true, false, List, [], ◌∷◌, ◌++◌, length, take, drop, Option, Some, None, MatchOption, if◌then◌else◌, refl, sym, ap, ◌∙◌, arith}
use Rattle.std.specs.Prelude.{codes, option_and_then, option_map}
use Rattle.std.specs.Borrow.{Bor}
use Rattle.std.specs.Str.{bytes_eq}
use Rattle.std.proofs.lemmas.Bool.{true≢false}
use Rattle.std.proofs.lemmas.List.{take-append-drop, take-append-le, take_all}
use Rattle.std.proofs.lemmas.Slice.Eq.{bytes_eq-Decides}
use Rattle.kc_files.specs.ReadingSteps.{after}
use Rattle.kc_files.proofs.FormSteps.{after_itself, after_some}
use Rattle.kc_files.specs.CommentWords.{unset_line}
use Rattle.kc_files.specs.DroppedBackslashes.{quoted_in}

none_after : (ps bs : List ℕ) → ((r : List ℕ) → bs ≢ ps ++ r) → after ps bs ≡ None
none_after ps bs h = go (after ps bs) refl
  where
    go : (o : Option (List ℕ)) → after ps bs ≡ o → after ps bs ≡ None
    go None e = e
    go (Some r) e = absurd (h r (after_some ps bs r e))

front : (ps bs r : List ℕ) → bs ≡ ps ++ r → take (length ps) bs ≡ ps
front ps bs r e = ap (take (length ps)) e ∙ take-append-le (length ps) ps r (omega arith) ∙ take_all (length ps) ps (omega arith)

-- what `strip_prefix` gives
abbrev pub IsStripped : List ℕ → List ℕ → Option (Bor (List ℕ)) → Type 0
IsStripped ps bs r =
    MatchOption r (bytes_eq (take (length ps) bs) ps ≡ false) (λ x. (bytes_eq (take (length ps) bs) ps ≡ true) × (x.now ≡ drop (length ps) bs) × (length x.now + length ps ≡ length bs))

pub stripped : (ps bs : List ℕ) (r : Option (Bor (List ℕ))) → IsStripped ps bs r → option_map (λ s. s.now) r ≡ after ps bs
stripped ps bs None h =
    sym (none_after ps bs (λ r e. true≢false (sym ((bytes_eq-Decides (take (length ps) bs) ps).1 (front ps bs r e)) ∙ h)))
stripped ps bs (Some x) h =
    let is : ps ++ x.now ≡ bs = (λ i. sym ((bytes_eq-Decides (take (length ps) bs) ps).0 h.0) i ++ h.1 i) ∙ take-append-drop (length ps) bs in
    sym (ap (after ps) (sym is) ∙ after_itself ps x.now)

-- one beginning after another
pub after_more : (ps qs bs : List ℕ) → after (ps ++ qs) bs ≡ option_and_then (after qs) (after ps bs)
after_more [] qs bs = refl
after_more (p ∷ ps) qs [] = refl
after_more (p ∷ ps) qs (b ∷ bs) = go (p == b) (after_more ps qs bs)
  where
    go : (x : Bool) → after (ps ++ qs) bs ≡ option_and_then (after qs) (after ps bs)
        → (if x then after (ps ++ qs) bs else None) ≡ option_and_then (after qs) (if x then after ps bs else None)
    go true more = more
    go false more = refl

abbrev pub after_mark : List ℕ → List ℕ → Option (List ℕ) → Option (List ℕ)
after_mark prefix name o = option_and_then (λ r. option_and_then (λ s. option_and_then (after (codes " is not set")) (after name s)) (after prefix r)) o

pub unset_parts : (prefix name line : List ℕ) → after (unset_line prefix name) line ≡ after_mark prefix name (after (codes "# ") line)
unset_parts prefix name line = after_more (codes "# ") (prefix ++ (name ++ codes " is not set")) line ∙ go (after (codes "# ") line)
  where
    last : (o : Option (List ℕ)) → option_and_then (after (name ++ codes " is not set")) o ≡ option_and_then (λ s. option_and_then (after (codes " is not set")) (after name s)) o
    last None = refl
    last (Some s) = after_more name (codes " is not set") s

    go : (o : Option (List ℕ)) → option_and_then (after (prefix ++ (name ++ codes " is not set"))) o ≡ after_mark prefix name o
    go None = refl
    go (Some r) = after_more prefix (name ++ codes " is not set") r ∙ last (after prefix r)

abbrev pub after_equals : List ℕ → Option (List ℕ) → Option (List ℕ)
after_equals name o = option_and_then (λ r. option_and_then (after (codes "=\"")) (after name r)) o

pub quoted_parts : (prefix name line : List ℕ) → quoted_in prefix name line ≡ after_equals name (after prefix line)
quoted_parts prefix name line = after_more prefix (name ++ codes "=\"") line ∙ go (after prefix line)
  where
    go : (o : Option (List ℕ)) → option_and_then (after (name ++ codes "=\"")) o ≡ after_equals name o
    go None = refl
    go (Some r) = after_more name (codes "=\"") r
