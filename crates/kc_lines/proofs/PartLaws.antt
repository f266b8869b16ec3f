-- The line of a part is one of the lines.
use Rattle.std.proofs.Common.{◌≡◌, ℕ, zero, suc, Bool, true, false, cond, All, List, [], ◌∷◌, ◌++◌, Option, Some, None, drop, filter, slice_get, take, sym, refl, subst}
use Rattle.std.proofs.lemmas.Option.{none-some, same_Some}
use Rattle.std.specs.Prelude.{option_to_list}
use Rattle.std.specs.Option.{IfSome, option_map_or}
use Rattle.std.proofs.lemmas.List.{append-nil}
use Rattle.std.proofs.lemmas.List.Elements.{All-push}
use Rattle.std.specs.List.{take_while, prefix_len}
use Rattle.kc_text.specs.LineValue.{LineValue}
use Rattle.kc_statement.specs.Keywords.{is_attribute}
use Rattle.kc_lines.specs.declared.explanation.Remark.{Remark}
use Rattle.kc_lines.specs.declared.parts.Part.{Part}
use Rattle.kc_lines.specs.declared.parts.Part.TheVariants.{Owner, Said}
use Rattle.kc_lines.specs.declared.shown.Fault.{Fault}
use Rattle.kc_lines.specs.Attributes.{says}
use Rattle.kc_lines.specs.LineIndex.{attributes_of, begins, from_each, line_of}
use Rattle.kc_lines.specs.Named.{IsRemarkOf}
use Rattle.kc_lines.specs.Shown.{shows}

-- one of a list
abbrev IsIn : {X : Type 0} → List X → X → Type 0
IsIn xs x = (m : ℕ) × (slice_get xs m ≡ Some x)

in_after : {X : Type 0} (y : X) (xs : List X) (x : X) → IsIn xs x → IsIn (y ∷ xs) x
in_after y xs x at = (suc at.0, at.1)

in_taken : {X : Type 0} (k : ℕ) (xs : List X) (n : ℕ) (x : X) → slice_get (take k xs) n ≡ Some x → IsIn xs x
in_taken zero xs n x e = absurd (none-some x e)
in_taken (suc k) [] n x e = absurd (none-some x e)
in_taken (suc k) (y ∷ xs) zero x e = (0, e)
in_taken (suc k) (y ∷ xs) (suc n) x e = in_after y xs x (in_taken k xs n x e)

in_dropped : {X : Type 0} (k : ℕ) (xs : List X) (x : X) → IsIn (drop k xs) x → IsIn xs x
in_dropped zero xs x at = at
in_dropped (suc k) [] x at = at
in_dropped (suc k) (y ∷ xs) x at = in_after y xs x (in_dropped k xs x at)

in_rest : {X : Type 0} (b : Bool) (y : X) (xs ys : List X) (n : ℕ) (x : X)
    → ((m : ℕ) → slice_get ys m ≡ Some x → IsIn xs x) → slice_get (cond b (y ∷ ys) ys) n ≡ Some x → IsIn (y ∷ xs) x
in_rest true y xs ys zero x rest e = (0, e)
in_rest true y xs ys (suc n) x rest e = in_after y xs x (rest n e)
in_rest false y xs ys n x rest e = in_after y xs x (rest n e)

in_filtered : {X : Type 0} (test : X → Bool) (xs : List X) (n : ℕ) (x : X) → slice_get (filter test xs) n ≡ Some x → IsIn xs x
in_filtered test [] n x e = absurd (none-some x e)
in_filtered test (y ∷ xs) n x e = in_rest (test y) y xs (filter test xs) n x (λ m at. in_filtered test xs m x at) e

-- the lines from one on are those that are left after some
begun_by : (b : Bool) (line : LineValue) (lines from : List LineValue) (froms : List (List LineValue)) (n : ℕ)
    → ((m : ℕ) → slice_get froms m ≡ Some from → (k : ℕ) × (drop k lines ≡ from))
    → slice_get (cond b ((line ∷ lines) ∷ froms) froms) n ≡ Some from → (k : ℕ) × (drop k (line ∷ lines) ≡ from)
begun_by true line lines from froms zero rest e = (0, same_Some (line ∷ lines) from e)
begun_by true line lines from froms (suc n) rest e = let r = rest n e in (suc r.0, r.1)
begun_by false line lines from froms n rest e = let r = rest n e in (suc r.0, r.1)

begun : (test : LineValue → Bool) (lines from : List LineValue) (n : ℕ) → slice_get (from_each test lines) n ≡ Some from
    → (k : ℕ) × (drop k lines ≡ from)
begun test [] from n e = absurd (none-some from e)
begun test (line ∷ lines) from n e = begun_by (test line) line lines from (from_each test lines) n (λ m at. begun test lines from m at) e

in_attributes_by : (lines : List LineValue) (o : Option (List LineValue)) (x : LineValue)
    → ((from : List LineValue) → o ≡ Some from → (k : ℕ) × (drop k lines ≡ from))
    → IsIn (option_map_or (λ from. take_while is_attribute (drop 1 from)) o []) x → IsIn lines x
in_attributes_by lines None x known at = absurd (none-some x at.1)
in_attributes_by lines (Some from) x known at =
    let start = known from refl in
    let after : IsIn (drop 1 from) x = in_taken (prefix_len is_attribute (drop 1 from)) (drop 1 from) at.0 x at.1 in
    in_dropped start.0 lines x (subst (λ (ls : List LineValue). IsIn ls x) (sym start.1) (in_dropped 1 from x after))

in_attributes : (test : LineValue → Bool) (lines : List LineValue) (number : ℕ) (x : LineValue) → IsIn (attributes_of test lines number) x → IsIn lines x
in_attributes test lines number x at =
    in_attributes_by lines (slice_get (from_each test lines) number) x (λ from e. begun test lines from number e) at

line_among : (lines : List LineValue) (part : Part) (line : LineValue) → line_of lines part ≡ Some line → IsIn lines line
line_among lines (Owner f number) line e = in_filtered (begins f) lines number line e
line_among lines (Said f number a nth) line e =
    in_attributes (begins f) lines number line (in_filtered (says a) (attributes_of (begins f) lines number) nth line e)

-- so a remark with its place is a remark of the lines
pub part_shown : (fault : Fault) (lines : List LineValue) (part : Part) (line : LineValue) (remark : Remark) → line_of lines part ≡ Some line
    → shows fault line ≡ true → remark.place.path ≡ line.path → remark.place.line ≡ line.number → IsRemarkOf fault lines remark
part_shown fault lines part line remark is shown path number =
    let at = line_among lines part line is in
    record { number = at.0; line = line; line_is = at.1; shown = shown; path_is = path; number_is = number }

-- what holds of all holds of one more, if there is one
pub All_more : {A : Type 0} (P : A → Type 0) (xs : List A) (o : Option A) → All P xs → IfSome o P → All P (xs ++ option_to_list o)
All_more P xs None h p = subst (All P) (sym (append-nil xs)) h
All_more P xs (Some x) h p = All-push P xs x h p
