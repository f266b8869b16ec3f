-- An expansion comes to what its list of steps does.
use Rattle.std.proofs.Common.{◌≡◌, ℕ, zero, suc, ◌+◌, true, false, cond, leb, eqb, ◌||◌, List, [], ◌∷◌, ◌++◌, length, take, Option, Some, None, Result, Ok, Err, if◌then◌else◌, nat_le, refl, sym, ap, ◌∙◌, append_assoc, add-zero, arith, count_by, flat_map}
use Rattle.std.specs.List.{filter_map, cons_option, range_with_len, slice_get}
use Rattle.std.proofs.lemmas.List.{append-nil, length-append}
use Rattle.std.proofs.lemmas.List.Sums.{sum_by-cons}
use Rattle.kc_text.specs.declared.fault.TextProblem.{TextProblem}
use Rattle.kc_text.specs.declared.fault.TextProblem.TheVariants.{Limit, RecursiveVariable}
use Rattle.kc_text.specs.declared.variables.Value.{Value}
use Rattle.kc_text.specs.declared.variables.Value.TheVariants.{Recursive, Simple}
use Rattle.kc_text.specs.References.{Piece, byte, reference, malformed, value_pieces}
use Rattle.kc_text.specs.Expansion.{Names, Environment, Progress, meaning, then_on, is_among, put, counted, expanded, followed, expansion}
use Rattle.kc_text.specs.Steps.{Step, puts, follows, fails, piece_steps, name_steps, text_steps, put_bytes, is_follow, step_problem, problem_at, problems, outcome, all_steps}

-- what follows may be said in another way
pub then_same : {A B E : Type 0} (r : Result A E) (f g : A → Result B E) → ((x : A) → f x ≡ g x) → then_on r f ≡ then_on r g
then_same (Ok x) f g same = same x
then_same (Err e) f g same = refl

pub then_twice : {A B C E : Type 0} (r : Result A E) (f : A → Result B E) (g : B → Result C E) → then_on (then_on r f) g ≡ then_on r (λ x. then_on (f x) g)
then_twice (Ok x) f g = refl
then_twice (Err e) f g = refl

pub then_none : {A E : Type 0} (r : Result A E) → then_on r (λ x. Ok x) ≡ r
then_none (Ok x) = refl
then_none (Err e) = refl

-- what one step does to a text
abbrev pub step_done : Step → Progress → Result Progress TextProblem
step_done (puts bs) p = put bs p
step_done follows p = if nat_le 65536 p.followed then Err Limit else Ok (counted p)
step_done (fails problem) p = Err problem

-- what steps do one by one
abbrev pub runs : List Step → Progress → Result Progress TextProblem
runs [] p = Ok p
runs (s ∷ ss) p = then_on (step_done s p) (λ q. runs ss q)

pub runs-append : (ss ts : List Step) (p : Progress) → runs (ss ++ ts) p ≡ then_on (runs ss p) (λ q. runs ts q)
runs-append [] ts p = refl
runs-append (s ∷ ss) ts p =
    then_same (step_done s p) (λ q. runs (ss ++ ts) q) (λ q. then_on (runs ss q) (λ q. runs ts q)) (λ q. runs-append ss ts q)
    ∙ sym (then_twice (step_done s p) (λ q. runs ss q) (λ q. runs ts q))

-- parts run as their steps do, where the steps of a name run as it is followed
module _ (follow : List ℕ → Progress → Result Progress TextProblem) (of_name : List ℕ → List Step) (same : (name : List ℕ) (p : Progress) → follow name p ≡ runs (of_name name) p) where
  expanded-runs : (ps : List Piece) (p : Progress) → expanded follow ps p ≡ runs (piece_steps of_name ps) p
  expanded-runs [] p = refl
  expanded-runs (byte b ∷ ps) p = then_same (put (b ∷ []) p) (λ q. expanded follow ps q) (λ q. runs (piece_steps of_name ps) q) (λ q. expanded-runs ps q)
  expanded-runs (reference name ∷ ps) p =
      ap (λ r. then_on r (λ q. expanded follow ps q)) (same name p)
      ∙ then_same (runs (of_name name) p) (λ q. expanded follow ps q) (λ q. runs (piece_steps of_name ps) q) (λ q. expanded-runs ps q)
      ∙ sym (runs-append (of_name name) (piece_steps of_name ps) p)
  expanded-runs (malformed ∷ ps) p = refl

-- what a name means runs as its steps do
meant-runs : (follow : List ℕ → Progress → Result Progress TextProblem) (of_name : List ℕ → List Step) → ((name : List ℕ) (p : Progress) → follow name p ≡ runs (of_name name) p) → (value : Value) (p : Progress)
    → ◌≡◌ {A = Result Progress TextProblem} (elim value [ Recursive text ↦ expanded follow (value_pieces text) p | Simple text ↦ put text p ])
    (runs (elim value [ Recursive text ↦ piece_steps of_name (value_pieces text) | Simple text ↦ puts text ∷ [] ]) p)
meant-runs follow of_name same (Recursive text) p = expanded-runs follow of_name same (value_pieces text) p
meant-runs follow of_name same (Simple text) p = sym (then_none (put text p))

-- a name runs as its steps do
followed-runs : (names : Names) (outside : Environment) (n : ℕ) (around : List (List ℕ)) (name : List ℕ) (p : Progress) → followed names outside n around name p ≡ runs (name_steps names outside n around name) p
followed-runs names outside zero around name p =
    elim (is_among name around) as (λ b. ◌≡◌ {A = Result Progress TextProblem} (cond b (Err RecursiveVariable) (Err Limit)) (Err (cond b RecursiveVariable Limit))) [ true ↦ refl | false ↦ refl ]
followed-runs names outside (suc n) around name p =
    let follow = followed names outside n (around ++ name ∷ []) in
    let of_name = name_steps names outside n (around ++ name ∷ []) in
    let value = meaning names outside name in
    let meant : Result Progress TextProblem = elim value [ Recursive text ↦ expanded follow (value_pieces text) (counted p) | Simple text ↦ put text (counted p) ] in
    let steps : List Step = elim value [ Recursive text ↦ piece_steps of_name (value_pieces text) | Simple text ↦ puts text ∷ [] ] in
    let same : meant ≡ runs steps (counted p) = meant-runs follow of_name (followed-runs names outside n (around ++ name ∷ [])) value (counted p) in
    elim (is_among name around) as (λ b. cond b (Err RecursiveVariable) (cond (leb 65536 p.followed) (Err Limit) meant) ≡ runs (cond b (fails RecursiveVariable ∷ []) (follows ∷ steps)) p) [
      | true ↦ refl
      | false ↦ elim (leb 65536 p.followed) as (λ v. cond v (Err Limit) meant ≡ then_on (cond v (Err Limit) (Ok (counted p))) (λ q. runs steps q)) [ true ↦ refl | false ↦ same ]
    ]

-- a text after a step that has no problem
abbrev after_step : Step → Progress → Progress
after_step s p = record { text = p.text ++ put_bytes s; followed = p.followed + cond (is_follow s) 1 0 }

-- what a step does, by its problem
abbrev by_problem : Step → Progress → Option TextProblem → Result Progress TextProblem
by_problem s p found = elim found [ Some problem ↦ Err problem | None ↦ Ok (after_step s p) ]

-- a text that goes on as another one does
abbrev progress : List ℕ → ℕ → Progress
progress text followed = record { text = text; followed = followed }

step_by_problem : (s : Step) (p : Progress) → step_done s p ≡ by_problem s p (step_problem (length p.text) p.followed s)
step_by_problem (puts bs) p =
    elim (eqb (length bs) 0 || leb (length p.text + length bs) 65536) as (λ v. cond v (Ok (progress (p.text ++ bs) p.followed)) (Err Limit) ≡ by_problem (puts bs) p (cond v None (Some Limit))) [
      | true ↦ ap (λ n. Ok (progress (p.text ++ bs) n)) (sym (add-zero p.followed))
      | false ↦ refl
    ]
step_by_problem follows p =
    elim (leb 65536 p.followed) as (λ v. cond v (Err Limit) (Ok (counted p)) ≡ by_problem follows p (cond v (Some Limit) None)) [
      | true ↦ refl
      | false ↦ ap (λ t. Ok (progress t (p.followed + 1))) (sym (append-nil p.text))
    ]
step_by_problem (fails problem) p = refl

-- what is found at numbers from the next one on
filter_map-next : {X : Type 0} (f : ℕ → Option X) (a n : ℕ) → filter_map f (range_with_len (suc a) n) ≡ filter_map (λ k. f (suc k)) (range_with_len a n)
filter_map-next f a zero = refl
filter_map-next f a (suc n) =
    let next : suc a + 1 ≡ suc (a + 1) = omega arith in
    ap (λ xs. cons_option (f (suc a)) xs) (ap (λ k. filter_map f (range_with_len k n)) next ∙ filter_map-next f (a + 1) n)

module _ (s : Step) (ss : List Step) (p : Progress) where
  -- the first place
  here : problem_at p (s ∷ ss) 0 ≡ step_problem (length p.text) p.followed s
  here = ap (λ n. step_problem n (p.followed + 0) s) (add-zero (length p.text)) ∙ ap (λ n. step_problem (length p.text) n s) (add-zero p.followed)

  -- a later place is one of the steps after the first
  later : (k : ℕ) → problem_at p (s ∷ ss) (suc k) ≡ problem_at (after_step s p) ss k
  later k =
      let put_so_far = flat_map put_bytes (take k ss) in
      let bytes : length p.text + length (put_bytes s ++ put_so_far) ≡ length (p.text ++ put_bytes s) + length put_so_far =
      omega (arith, length-append (put_bytes s) put_so_far, length-append p.text (put_bytes s)) in
      let references : p.followed + count_by is_follow (s ∷ take k ss) ≡ p.followed + cond (is_follow s) 1 0 + count_by is_follow (take k ss) =
      omega (arith, sum_by-cons (λ x. cond (is_follow x) 1 0) s (take k ss)) in
      λ i. elim (slice_get ss k) [ None ↦ None | Some x ↦ step_problem (bytes i) (references i) x ]

  problems-cons : problems p (s ∷ ss) ≡ cons_option (step_problem (length p.text) p.followed s) (problems (after_step s p) ss)
  problems-cons =
      ap (λ found. cons_option found (filter_map (problem_at p (s ∷ ss)) (range_with_len 1 (length ss)))) here
      ∙ ap (λ found. cons_option (step_problem (length p.text) p.followed s) found)
      (filter_map-next (problem_at p (s ∷ ss)) 0 (length ss) ∙ (λ i. filter_map (λ k. later k i) (range_with_len 0 (length ss))))

  -- the whole, by the problem of the first step
  all_steps-cons : (found : Option TextProblem) → step_problem (length p.text) p.followed s ≡ found
      → all_steps p (s ∷ ss) ≡ then_on (by_problem s p found) (λ q. all_steps q ss)
  all_steps-cons found is =
      let text : p.text ++ (put_bytes s ++ flat_map put_bytes ss) ≡ (p.text ++ put_bytes s) ++ flat_map put_bytes ss = sym (append_assoc p.text (put_bytes s) (flat_map put_bytes ss)) in
      let references : p.followed + count_by is_follow (s ∷ ss) ≡ p.followed + cond (is_follow s) 1 0 + count_by is_follow ss =
      omega (arith, sum_by-cons (λ x. cond (is_follow x) 1 0) s ss) in
      (λ i. outcome ((problems-cons ∙ ap (λ f. cons_option f (problems (after_step s p) ss)) is) i) (text i) (references i)) ∙ by found
    where
      by : (found : Option TextProblem) → outcome (cons_option found (problems (after_step s p) ss)) ((p.text ++ put_bytes s) ++ flat_map put_bytes ss) (p.followed + cond (is_follow s) 1 0 + count_by is_follow ss)
          ≡ then_on (by_problem s p found) (λ q. all_steps q ss)
      by (Some problem) = refl
      by None = refl

-- steps run one by one come to what all of them do
pub runs-all_steps : (ss : List Step) (p : Progress) → runs ss p ≡ all_steps p ss
runs-all_steps [] p = λ i. Ok (progress (sym (append-nil p.text) i) (sym (add-zero p.followed) i))
runs-all_steps (s ∷ ss) p =
    ap (λ r. then_on r (λ q. runs ss q)) (step_by_problem s p)
    ∙ then_same (by_problem s p (step_problem (length p.text) p.followed s)) (λ q. runs ss q) (λ q. all_steps q ss) (λ q. runs-all_steps ss q)
    ∙ sym (all_steps-cons s ss p (step_problem (length p.text) p.followed s) refl)

pub expansion-runs : (names : Names) (outside : Environment) (ps : List Piece) (p : Progress) → expansion names outside ps p ≡ runs (text_steps names outside ps) p
expansion-runs names outside ps p = expanded-runs (followed names outside 64 []) (name_steps names outside 64 []) (followed-runs names outside 64 []) ps p

-- an expansion comes to what its list of steps does
pub expansion_law : (outside : Environment) (names : Names) (ps : List Piece) (p : Progress) → expansion names outside ps p ≡ all_steps p (text_steps names outside ps)
expansion_law outside names ps p = expansion-runs names outside ps p ∙ runs-all_steps (text_steps names outside ps) p
