-- The texts of pairs, read one pair after another.
use Rattle.std.proofs.Common.{◌≡◌, ℕ, ◌+◌, ◌<◌, ◌≤◌, true, false, cond, List, [], ◌∷◌, ◌++◌, map, length, get_or, drop, reverse, Option, Some, None, option_map, Result, Ok, Err, String, string_bytes, bytes_eq, Bor, refl, ap, sym, ◌∙◌}
use Rattle.std.specs.BTreeMap.{BTreeMap, get_by_text}
use Rattle.std.specs.List.{filter_map, cons_option, slice_get}
use Rattle.std.specs.Map.{update}
use Rattle.std.specs.declared.alloc.Global.{Global}
use Rattle.std.proofs.lemmas.Bool.Decides.{same_from_decides}
use Rattle.std.proofs.lemmas.List.{at_drop_more, at_drop_all, reverse-append}
use Rattle.std.proofs.lemmas.Slice.Eq.{bytes_eq-Decides}
use Rattle.kc_text.specs.declared.fault.TextProblem.{TextProblem}
use Rattle.kc_text.specs.declared.fault.TextFault.{TextFault}
use Rattle.kc_text.specs.declared.fault.TextFault.TheVariants.{At, NoMemory}
use Rattle.kc_text.specs.Expansion.{Environment, texts_in}
use Rattle.kc_text.specs.Faults.{Fails, IsFaultAt}
use Rattle.kc_text.specs.FileList.{file_list}
use Rattle.kc_text.specs.Vars.{Pair, pair_fault, last_text, text_problem, vars_of}
use Rattle.kc_text.proofs.FileLists.{text_of-updated}

-- the texts with one for a name
abbrev given : Pair → Environment → Environment
given p texts = λ q. cond (bytes_eq p.0 q) (Some p.1) (texts q)

-- the texts after pairs, or the first fault
abbrev after_pairs : List Pair → Environment → Result Environment TextFault
after_pairs [] texts = Ok texts
after_pairs (p ∷ ps) texts = elim (pair_fault p) [ Some fault ↦ Err fault | None ↦ after_pairs ps (given p texts) ]

-- what is there, or else another
abbrev or_else : Option (List ℕ) → Option (List ℕ) → Option (List ℕ)
or_else o other = elim o [ Some text ↦ Some text | None ↦ other ]

lookup-append : (q : List ℕ) (ps : List Pair) (p : Pair) (texts : Environment) → or_else (texts_in (ps ++ p ∷ []) q) (texts q) ≡ or_else (texts_in ps q) (cond (bytes_eq q p.0) (Some p.1) (texts q))
lookup-append q [] p texts = elim (bytes_eq q p.0) as (λ b. or_else (cond b (Some p.1) None) (texts q) ≡ cond b (Some p.1) (texts q)) [ true ↦ refl | false ↦ refl ]
lookup-append q (r ∷ ps) p texts =
    elim (bytes_eq q r.0) as (λ b. or_else (cond b (Some r.1) (texts_in (ps ++ p ∷ []) q)) (texts q) ≡ or_else (cond b (Some r.1) (texts_in ps q)) (cond (bytes_eq q p.0) (Some p.1) (texts q))) [
      | true ↦ refl
      | false ↦ lookup-append q ps p texts
    ]

bytes_eq-sym : (xs ys : List ℕ) → bytes_eq xs ys ≡ bytes_eq ys xs
bytes_eq-sym xs ys =
    let there = bytes_eq-Decides ys xs in
    same_from_decides (bytes_eq xs ys) (bytes_eq ys xs) (bytes_eq-Decides xs ys) (λ e. sym (there.0 e), λ e. there.1 (sym e))

-- the text of a name: that of its last pair, or else the one before all pairs
abbrev with_pairs : List Pair → Environment → Environment
with_pairs ps texts = λ q. or_else (last_text ps q) (texts q)

with_pairs-cons : (p : Pair) (ps : List Pair) (texts : Environment) → with_pairs ps (given p texts) ≡ with_pairs (p ∷ ps) texts
with_pairs-cons p ps texts = λ i q. at_name q i where
  at_name : (q : List ℕ) → with_pairs ps (given p texts) q ≡ with_pairs (p ∷ ps) texts q
  at_name q =
      ap (λ b. or_else (last_text ps q) (cond b (Some p.1) (texts q))) (bytes_eq-sym p.0 q)
      ∙ sym (ap (λ rs. or_else (texts_in rs q) (texts q)) (reverse-append (p ∷ []) ps) ∙ lookup-append q (reverse ps) p texts)

-- the first fault of pairs, or else what comes of them
abbrev first_fault : List Pair → Environment → Result Environment TextFault
first_fault ps texts = elim (slice_get (filter_map pair_fault ps) 0) [ Some fault ↦ Err fault | None ↦ Ok texts ]

first_fault-after_pairs : (ps : List Pair) (texts : Environment) → first_fault ps (with_pairs ps texts) ≡ after_pairs ps texts
first_fault-after_pairs [] texts = refl
first_fault-after_pairs (p ∷ ps) texts =
    elim (pair_fault p) as (λ o. elim (slice_get (cons_option o (filter_map pair_fault ps)) 0) [ Some fault ↦ Err fault | None ↦ Ok (with_pairs (p ∷ ps) texts) ] ≡ elim o [ Some fault ↦ Err fault | None ↦ after_pairs ps (given p texts) ]) [
      | Some fault ↦ refl
      | None ↦ ap (first_fault ps) (sym (with_pairs-cons p ps texts)) ∙ first_fault-after_pairs ps (given p texts)
    ]

pub vars_of-after_pairs : (ps : List Pair) → vars_of ps ≡ after_pairs ps (texts_in [])
vars_of-after_pairs ps = ap (first_fault ps) (λ i q. alone q i) ∙ first_fault-after_pairs ps (texts_in []) where
  alone : (q : List ℕ) → last_text ps q ≡ with_pairs ps (texts_in []) q
  alone q = elim (last_text ps q) as (λ o. o ≡ or_else o None) [ Some text ↦ refl | None ↦ refl ]

abbrev pub LentPair : Type 0
LentPair = Bor (List ℕ) × Bor (List ℕ)

abbrev pub pair_of : LentPair → Pair
pair_of p = (p.0.now, p.1.now)

-- the texts after the pairs that are left
abbrev pub after_left : List LentPair → Environment → Result Environment TextFault
after_left ps texts = after_pairs (map pair_of ps) texts

-- the texts after a pair and more, by what is wrong with its text
abbrev after_pair : Option TextProblem → Pair → List LentPair → Environment → Result Environment TextFault
after_pair o p ps texts = elim (option_map (λ problem. At problem p.0 0) o) [ Some fault ↦ Err fault | None ↦ after_left ps (given p texts) ]

-- at the pair at `i`, where the texts are those of the pairs before it
module _ (pairs : List LentPair) (i : ℕ) (d : LentPair) (texts : Environment) (within : i < length pairs) (so_far : vars_of (map pair_of pairs) ≡ after_left (drop i pairs) texts) where
  here : vars_of (map pair_of pairs) ≡ after_pair (text_problem (get_or pairs i d).1.now) (pair_of (get_or pairs i d)) (drop (i + 1) pairs) texts
  here = so_far ∙ at_drop_more (λ ps. after_left ps texts) pairs i d within

  pub pair_goes_on : text_problem (get_or pairs i d).1.now ≡ None → (after : Environment) → after ≡ given (pair_of (get_or pairs i d)) texts → vars_of (map pair_of pairs) ≡ after_left (drop (i + 1) pairs) after
  pair_goes_on none after e =
      here ∙ ap (λ o. after_pair o (pair_of (get_or pairs i d)) (drop (i + 1) pairs) texts) none ∙ ap (after_left (drop (i + 1) pairs)) (sym e)

  pub pair_fails : (problem : TextProblem) → text_problem (get_or pairs i d).1.now ≡ Some problem → vars_of (map pair_of pairs) ≡ Err (At problem (get_or pairs i d).0.now 0)
  pair_fails problem e = here ∙ ap (λ o. after_pair o (pair_of (get_or pairs i d)) (drop (i + 1) pairs) texts) e

-- after the last pair
pub pairs_end : (pairs : List LentPair) (i : ℕ) (texts : Environment) → length pairs ≤ i → vars_of (map pair_of pairs) ≡ after_left (drop i pairs) texts → vars_of (map pair_of pairs) ≡ Ok texts
pairs_end pairs i texts h so_far = so_far ∙ at_drop_all (λ ps. after_left ps texts) pairs i h

-- the texts of a map that a text was put in
pub texts_in-updated : (p : Pair) (v : String Global) (m n : BTreeMap (String Global) (String Global)) → string_bytes v ≡ p.1 → ((q : List ℕ) → get_by_text n q ≡ update bytes_eq (get_by_text m) p.0 (Some v) q)
    → texts_in (file_list n) ≡ given p (texts_in (file_list m))
texts_in-updated p v m n e h = λ i q. text_of-updated p.0 p.1 v m n e q (h q) i

-- a fault at a line is the one that a definition gives
pub fails_at : {A : Type 0} (fault : TextFault) (problem : TextProblem) (path : List ℕ) (line : ℕ) (wanted : Result A TextFault) → IsFaultAt fault problem path line → wanted ≡ Err (At problem path line) → Fails fault wanted
fails_at (At p q n) problem path line wanted h e = e ∙ ap Err (sym h)
fails_at NoMemory problem path line wanted h e = tt
