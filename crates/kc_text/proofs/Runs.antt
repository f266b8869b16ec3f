-- Runs of bytes that pass a test: where they may be cut, and what comes behind them.
use Rattle.std.proofs.Common.{◌≡◌, ℕ, suc, ◌+◌, ◌<◌, ◌≤◌, Bool, true, false, true≢false, cond, List, [], ◌∷◌, length, drop, subst, ⊎_elim, arith, refl, sym, ap, ◌∙◌, one-add, add-zero, slice_index, get_or, get_or-drop, length-drop}
use Rattle.std.specs.List.{prefix_len}
use Rattle.std.specs.Str.{IsCharBoundary}
use Rattle.std.proofs.lemmas.Bool.{cases_eq}
use Rattle.std.proofs.lemmas.List.Sums.{prefix_len-le-length, prefix_len_passes, prefix_len_stops}
use Rattle.std.proofs.lemmas.Str.{IsCharBoundary-before_ascii, IsCharBoundary-end}

-- behind the longest run of bytes that pass a test which only ASCII bytes fail
pub boundary_before_stop : (p : ℕ → Bool) (ascii : (b : ℕ) → p b ≡ false → b < 128) (bs : List ℕ) → IsCharBoundary bs (prefix_len p bs)
boundary_before_stop p ascii bs =
    let n : ℕ = prefix_len p bs in
    let within : n ≤ length bs = prefix_len-le-length p bs in
    ⊎_elim
    (λ all. subst (IsCharBoundary bs) (sym all) (IsCharBoundary-end bs))
    (λ stops.
    let inside : n < length bs = omega (arith, stops, within) in
    IsCharBoundary-before_ascii bs n inside (ascii _ (prefix_len_stops p bs 0 inside)))
    (cases_eq n (length bs))

-- one element of a run
pub prefix_len-yes : {X : Type 0} (p : X → Bool) (b : X) (bs : List X) → p b ≡ true → prefix_len p (b ∷ bs) ≡ suc (prefix_len p bs)
prefix_len-yes p b bs e = ap (λ v. cond v (1 + prefix_len p bs) 0) e ∙ one-add (prefix_len p bs)

pub prefix_len-no : {X : Type 0} (p : X → Bool) (b : X) (bs : List X) → p b ≡ false → prefix_len p (b ∷ bs) ≡ 0
prefix_len-no p b bs e = ap (λ v. cond v (1 + prefix_len p bs) 0) e

-- nothing of a run is left behind it
pub prefix_len-past : (p : ℕ → Bool) (bs : List ℕ) → prefix_len p (drop (prefix_len p bs) bs) ≡ 0
prefix_len-past p [] = refl
prefix_len-past p (b ∷ bs) =
    elim (p b) as (λ v. p b ≡ v → prefix_len p (drop (prefix_len p (b ∷ bs)) (b ∷ bs)) ≡ 0) [
      | true ↦ λ e. ap (λ k. prefix_len p (drop k (b ∷ bs))) (prefix_len-yes p b bs e) ∙ prefix_len-past p bs
      | false ↦ λ e. ap (λ k. prefix_len p (drop k (b ∷ bs))) (prefix_len-no p b bs e) ∙ prefix_len-no p b bs e
    ] refl

-- the byte behind a run fails its test
pub first_past_run : (p : ℕ → Bool) (bs : List ℕ) → 0 < length (drop (prefix_len p bs) bs) → p (slice_index (drop (prefix_len p bs) bs) 0) ≡ false
first_past_run p bs h =
    let n : ℕ = prefix_len p bs in
    let e = get_or-drop n bs 0 0 ∙ ap (λ i. get_or bs i 0) (add-zero n) in
    ap p e ∙ prefix_len_stops p bs 0 (omega (arith, h, length-drop n bs))

-- a run that goes so far goes on over an element that passes, and ends before one that fails
module _ (p : ℕ → Bool) (bs : List ℕ) (i : ℕ) (far : i ≤ prefix_len p bs) where
  pub run_goes_on : i < length bs → p (get_or bs i 0) ≡ true → i + 1 ≤ prefix_len p bs
  run_goes_on inside passes =
      ⊎_elim
      (λ ends. absurd (true≢false (sym passes ∙ ap (λ k. p (get_or bs k 0)) ends ∙ prefix_len_stops p bs 0 (omega (arith, ends, inside)))))
      (λ more. omega (arith, far, more))
      (cases_eq i (prefix_len p bs))

  pub run_ends : p (get_or bs i 0) ≡ false → prefix_len p bs ≡ i
  run_ends fails =
      ⊎_elim (λ ends. sym ends)
      (λ more. absurd (true≢false (sym (prefix_len_passes p bs i 0 (omega (arith, far, more))) ∙ fails)))
      (cases_eq i (prefix_len p bs))
