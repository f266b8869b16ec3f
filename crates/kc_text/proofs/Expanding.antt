-- How texts are put whole, where the definition puts them byte by byte.
use Rattle.std.proofs.Common.{◌≡◌, ℕ, zero, suc, ◌+◌, ◌-◌, ◌<◌, Bool, true, false, cond, leb, eqb, ◌||◌, List, [], ◌∷◌, ◌++◌, length, map, refl, sym, ap, ◌∙◌, append_assoc, get_or, drop, drop-cons, add-one, bytes_eq, Bor, arith, Some, Result, Ok, Err}
use Rattle.std.specs.List.{list_any}
use Rattle.std.proofs.lemmas.Bool.{ne_eqb}
use Rattle.std.proofs.lemmas.Bool.Decides.{nat_tests}
use Rattle.std.proofs.lemmas.List.{append-nil, length-append}
use Rattle.kc_text.specs.declared.fault.TextProblem.{TextProblem}
use Rattle.kc_text.specs.declared.fault.TextProblem.TheVariants.{Limit, BadReference}
use Rattle.kc_text.specs.declared.fault.LineFault.{LineFault}
use Rattle.kc_text.specs.declared.fault.LineFault.TheVariants.{Problem, NoMemory}
use Rattle.kc_text.specs.declared.expansion.Piece.{Piece as Part}
use Rattle.kc_text.specs.declared.expansion.Piece.TheVariants.{Text, Reference, Malformed}
use Rattle.kc_text.specs.Faults.{ReadsAfter}
use Rattle.kc_text.specs.declared.variables.Value.TheVariants.{Recursive}
use Rattle.kc_text.specs.References.{Piece, byte, value_pieces}
use Rattle.kc_text.specs.Expansion.{Names, Environment, Progress, then_on, put, expanded, counted, is_among, followed}
use Rattle.kc_text.specs.Scanning.{piece_of, pieces_of, names_of}

-- the text with bytes after it, if there is room for them
abbrev put_if : Bool → List ℕ → Progress → Result Progress TextProblem
put_if room s p = cond room (Ok (record { text = p.text ++ s; followed = p.followed })) (Err Limit)

put-cons : (b : ℕ) (s : List ℕ) (p : Progress) → put (b ∷ s) p ≡ put_if (leb (length p.text + suc (length s)) 65536) (b ∷ s) p
put-cons b s p =
    let some : eqb (suc (length s)) 0 ≡ false = ne_eqb (suc (length s)) 0 (λ e. absurd (omega (arith, e))) in
    ap (λ v. put_if (v || leb (length p.text + suc (length s)) 65536) (b ∷ s) p) some

-- a byte that fits
byte_fits : (b : ℕ) (p : Progress) → leb (length p.text + 1) 65536 ≡ true → put (b ∷ []) p ≡ Ok (record { text = p.text ++ b ∷ []; followed = p.followed })
byte_fits b p e = put-cons b [] p ∙ ap (λ v. put_if v (b ∷ []) p) e

-- a byte that fits, and others after it
put_after_byte : (b : ℕ) (s : List ℕ) (p : Progress) → leb (length p.text + 1) 65536 ≡ true → put s (record { text = p.text ++ b ∷ []; followed = p.followed }) ≡ put (b ∷ s) p
put_after_byte b [] p e = ap (λ t. Ok (record { text = t; followed = p.followed })) (append-nil (p.text ++ b ∷ [])) ∙ sym (byte_fits b p e)
put_after_byte b (c ∷ s) p e =
    let n : length (p.text ++ b ∷ []) + suc (length s) ≡ length p.text + suc (suc (length s)) = omega (arith, length-append p.text (b ∷ [])) in
    put-cons c s (record { text = p.text ++ b ∷ []; followed = p.followed })
    ∙ (λ i. cond (leb (n i) 65536) (Ok (record { text = append_assoc p.text (b ∷ []) (c ∷ s) i; followed = p.followed })) (Err Limit))
    ∙ sym (put-cons b (c ∷ s) p)

-- a byte that does not fit
byte_fails : (b : ℕ) (s : List ℕ) (p : Progress) → leb (length p.text + 1) 65536 ≡ false → put (b ∷ s) p ≡ Err Limit
byte_fails b s p e =
    let no : leb (length p.text + suc (length s)) 65536 ≡ false = grind (arith, nat_tests) in
    put-cons b s p ∙ ap (λ v. put_if v (b ∷ s) p) no

-- bytes that are put one by one, and other parts after them
module _ (follow : List ℕ → Progress → Result Progress TextProblem) where
  pub expanded-bytes : (s : List ℕ) (ps : List Piece) (p : Progress) → expanded follow (map byte s ++ ps) p ≡ then_on (put s p) (λ q. expanded follow ps q)
  expanded-bytes [] ps p = ap (λ t. expanded follow ps (record { text = t; followed = p.followed })) (sym (append-nil p.text))
  expanded-bytes (b ∷ s) ps p =
      elim (leb (length p.text + 1) 65536) as (λ v. leb (length p.text + 1) 65536 ≡ v → expanded follow (map byte (b ∷ s) ++ ps) p ≡ then_on (put (b ∷ s) p) (λ q. expanded follow ps q)) [
        | true ↦ λ e.
            ap (λ r. then_on r (λ q. expanded follow (map byte s ++ ps) q)) (byte_fits b p e)
            ∙ expanded-bytes s ps (record { text = p.text ++ b ∷ []; followed = p.followed })
            ∙ ap (λ r. then_on r (λ q. expanded follow ps q)) (put_after_byte b s p e)
        | false ↦ λ e.
            ap (λ r. then_on r (λ q. expanded follow (map byte s ++ ps) q)) (byte_fails b [] p e)
            ∙ ap (λ r. then_on r (λ q. expanded follow ps q)) (sym (byte_fails b s p e))
      ] refl

-- the text with that of a name after it, where these names are being expanded
abbrev pub followed_inside : Names → Environment → List (Bor (List ℕ)) → List ℕ → Progress → Result Progress TextProblem
followed_inside names outside around = followed names outside (64 - length around) (names_of around)

-- what one part does
abbrev pub part_done : (List ℕ → Progress → Result Progress TextProblem) → Part → Progress → Result Progress TextProblem
part_done follow (Text text) p = put text.now p
part_done follow (Reference name) p = follow name.now p
part_done follow Malformed p = Err BadReference

-- one part after the text so far, and others after it
module _ (follow : List ℕ → Progress → Result Progress TextProblem) where
  expanded-part : (part : Part) (ps : List Piece) (p : Progress) → expanded follow (piece_of part ++ ps) p ≡ then_on (part_done follow part p) (λ q. expanded follow ps q)
  expanded-part (Text text) ps p = expanded-bytes follow text.now ps p
  expanded-part (Reference name) ps p = refl
  expanded-part Malformed ps p = refl

  -- the part at `i` among all of them
  module _ (parts : List Part) (i : ℕ) (p : Progress) (part default : Part) (inside : i < length parts) (is : get_or parts i default ≡ part) where
    here : expanded follow (pieces_of (drop i parts)) p ≡ then_on (part_done follow part p) (λ q. expanded follow (pieces_of (drop (i + 1) parts)) q)
    here =
        let rest : drop i parts ≡ part ∷ drop (i + 1) parts = drop-cons parts i default inside ∙ (λ k. is k ∷ drop (sym (add-one i) k) parts) in
        ap (λ ps. expanded follow (pieces_of ps) p) rest ∙ expanded-part part (pieces_of (drop (i + 1) parts)) p

    pub part_goes_on : (q : Progress) → part_done follow part p ≡ Ok q → expanded follow (pieces_of (drop i parts)) p ≡ expanded follow (pieces_of (drop (i + 1) parts)) q
    part_goes_on q e = here ∙ ap (λ r. then_on r (λ q. expanded follow (pieces_of (drop (i + 1) parts)) q)) e

    pub part_fails : (f : TextProblem) → part_done follow part p ≡ Err f → expanded follow (pieces_of (drop i parts)) p ≡ Err f
    part_fails f e = here ∙ ap (λ r. then_on r (λ q. expanded follow (pieces_of (drop (i + 1) parts)) q)) e

-- a fault of a part that is one of the whole
pub fault_along : {A B : Type 0} (f : LineFault) (after_part : A) (after : B) (part : Result A TextProblem) (whole : Result B TextProblem)
    → ((problem : TextProblem) → part ≡ Err problem → whole ≡ Err problem) → ReadsAfter (Err f) after_part part → ReadsAfter (Err f) after whole
fault_along (Problem problem) after_part after part whole along h = along problem h
fault_along NoMemory after_part after part whole along h = tt

abbrev among_borrowed : List ℕ → List (Bor (List ℕ)) → Bool
among_borrowed name others = list_any (λ other. bytes_eq name other.now) others

pub is_among-names : (name : List ℕ) (others : List (Bor (List ℕ))) → among_borrowed name others ≡ is_among name (names_of others)
is_among-names name [] = refl
is_among-names name (other ∷ others) = ap (λ b. bytes_eq name other.now || b) (is_among-names name others)

names_of-push : (around : List (Bor (List ℕ))) (name : Bor (List ℕ)) → names_of (around ++ name ∷ []) ≡ names_of around ++ name.now ∷ []
names_of-push [] name = refl
names_of-push (other ∷ around) name = ap (λ ns. other.now ∷ ns) (names_of-push around name)

-- a name that stands for a text that each use expands
module _ (names : Names) (outside : Environment) (name : List ℕ) (p : Progress) (text : List ℕ) (is : names name ≡ Some (Recursive text)) (few : p.followed < 65536) where
  followed_recursive : (n more : ℕ) (around : List (List ℕ)) → n ≡ suc more → is_among name around ≡ false
      → followed names outside n around name p ≡ expanded (followed names outside more (around ++ name ∷ [])) (value_pieces text) (counted p)
  followed_recursive zero more around one new = absurd (omega (arith, one))
  followed_recursive (suc n) more around one new =
      let room : leb 65536 p.followed ≡ false = grind (arith, nat_tests) in
      let same : n ≡ more = omega (arith, one) in
      rw (new, room, is) (ap (λ k. expanded (followed names outside k (around ++ name ∷ [])) (value_pieces text) (counted p)) same)

  pub follows : (around after : List (Bor (List ℕ))) (pushed : Bor (List ℕ)) → pushed.now ≡ name → after ≡ around ++ pushed ∷ [] → length around < 64 → is_among name (names_of around) ≡ false
      → (parts : List Part) → pieces_of parts ≡ value_pieces text → followed_inside names outside around name p ≡ expanded (followed_inside names outside after) (pieces_of parts) (counted p)
  follows around after pushed same behind short new parts e =
      let one : 64 - length around ≡ suc (64 - length after) = omega (arith, ap length behind, length-append around (pushed ∷ [])) in
      followed_recursive (64 - length around) (64 - length after) (names_of around) one new
      ∙ ap (λ ns. expanded (followed names outside (64 - length after) ns) (value_pieces text) (counted p)) (sym (ap names_of behind ∙ names_of-push around pushed ∙ ap (λ q. names_of around ++ q ∷ []) same))
      ∙ ap (λ ps. expanded (followed_inside names outside after) ps (counted p)) (sym e)

  -- and holds no reference
  pub followed_plain : (n more : ℕ) → n ≡ suc more → value_pieces text ≡ map byte text → followed names outside n [] name p ≡ put text (counted p)
  followed_plain n more one plain =
      let follow = followed names outside more (name ∷ []) in
      followed_recursive n more [] one refl ∙ ap (λ ps. expanded follow ps (counted p)) (plain ∙ sym (append-nil (map byte text))) ∙ expanded-bytes follow text [] (counted p)
      ∙ after (put text (counted p))
    where
      after : (r : Result Progress TextProblem) → then_on r (λ q. Ok q) ≡ r
      after (Ok q) = refl
      after (Err e) = refl
