-- What is found at the marks to which the reader comes, mark by mark.
use Rattle.std.proofs.Common.{◌≡◌, ℕ, Err, Global, Ok, Result, Vec, ◌<◌, ◌≤◌, ◌⊎◌, inl, inr, Bool, false, not, ◌&&◌, List, Option, Some, None, get_or, length, map, slice_get, take, refl, sym, ap, ◌∙◌, arith, subst}
use Rattle.std.specs.Prelude.{IfOk, option_and_then}
use denote.Ref.{Bor}
use Rattle.std.specs.declared.alloc.AllocError.{AllocError}
use Rattle.std.specs.List.{find, range_with_len}
use Rattle.std.specs.Option.{option_map_or}
use Rattle.std.proofs.lemmas.Bool.{cases_lt}
use Rattle.std.proofs.lemmas.List.{get_or_past, length-map}
use Rattle.std.proofs.lemmas.List.FromFn.{get_or-map-range_with_len, length-map-range_with_len}
use Rattle.std.proofs.lemmas.Option.{slice_get_past}
use Rattle.kc_text.specs.LineReferences.{lent_names}
use Rattle.kc_text.specs.LineValue.{LineValue}
use Rattle.kc_outline.specs.TreeValue.{TreeValue}
use Rattle.kc_line_facts.specs.declared.earlier_faults.EarlierFault.{EarlierFault}
use Rattle.kc_line_facts.specs.declared.earlier_faults.EarlierFinding.{EarlierFinding}
use Rattle.kc_line_facts.specs.declared.read_order.Mark.{Mark}
use Rattle.kc_line_facts.specs.declared.read_order.Mark.TheVariants.{Source, Use}
use Rattle.kc_line_facts.specs.declared.read_order.Reached.{Reached}
use Rattle.kc_line_facts.specs.declared.read_order.VariableFile.{VariableFile}
use Rattle.kc_line_facts.specs.declared.sourced_twice.RepeatedFile.{RepeatedFile}
use Rattle.kc_line_facts.specs.EarlierFindings.{AreEarlier, again_by, fault_by, fault_of, found_at, found_in_order, found_with, if_missing, is_missing, puts, repeats, sourced_again}
use Rattle.kc_line_facts.specs.FreshNames.{is_among, is_fresh}
use Rattle.kc_line_facts.specs.ReadingOrder.{AreReached}
use Rattle.kc_line_facts.specs.SourcedFiles.{repeated_files}

-- ---- whether a name is fresh, by a list of that
fresh_past : (names known : List (List ℕ)) (k : ℕ) → length names ≤ k → is_fresh names known k ≡ false
fresh_past names known k past = ap (λ o. option_map_or (λ n. not (is_among known n) && not (is_among (take k names) n)) o false) (slice_get_past names k past)

pub fresh_flag : (names known : List (List ℕ)) (flags : List Bool) (n k : ℕ) → n ≡ length names → flags ≡ map (is_fresh names known) (range_with_len 0 n)
    → get_or flags k false ≡ is_fresh names known k
fresh_flag names known flags n k count is = ap (λ bs. get_or bs k false) is ∙ go (cases_lt k n)
  where
    go : (k < n) ⊎ (n ≤ k) → get_or (map (is_fresh names known) (range_with_len 0 n)) k false ≡ is_fresh names known k
    go (inl within) = get_or-map-range_with_len (is_fresh names known) 0 n k k false within (omega arith)
    go (inr past) =
        get_or_past (map (is_fresh names known) (range_with_len 0 n)) k false (subst (λ m. m ≤ k) (sym (length-map-range_with_len (is_fresh names known) 0 n)) past)
        ∙ sym (fresh_past names known k (subst (λ m. m ≤ k) count past))

-- the same of names that are lent
pub fresh_with : (names known : List (List ℕ)) (lent lent_known : List (Bor (List ℕ))) (result : Result (Vec Bool Global) AllocError) → lent_names lent ≡ names → lent_names lent_known ≡ known
    → IfOk result (λ flags. flags.items ≡ map (is_fresh (lent_names lent) (lent_names lent_known)) (range_with_len 0 (length lent)))
    → IfOk result (λ flags. (k : ℕ) → get_or flags.items k false ≡ is_fresh names known k)
fresh_with names known lent lent_known (Err e) is known_is flags_are = tt
fresh_with names known lent lent_known (Ok flags) is known_is flags_are = λ k.
    fresh_flag (lent_names lent) (lent_names lent_known) flags.items (length lent) k (sym (length-map lent (λ t. t.now))) flags_are
    ∙ ap (λ ns. is_fresh ns (lent_names lent_known) k) is
    ∙ ap (λ ns. is_fresh names ns k) known_is

-- ---- what is found at one mark
again_same : (repeated others : ℕ → Option RepeatedFile) (sources found : ℕ → Option Reached) (line run : ℕ) → ((r : ℕ) → repeated r ≡ others r) → ((r : ℕ) → sources r ≡ found r)
    → again_by repeated sources line run ≡ again_by others found line run
again_same repeated others sources found line run same_r same_s =
    ap (λ o. option_and_then (λ f. sourced_again line run (sources f.first)) o) (same_r run) ∙ go (others run)
  where
    go : (o : Option RepeatedFile) → option_and_then (λ f. sourced_again line run (sources f.first)) o ≡ option_and_then (λ f. sourced_again line run (found f.first)) o
    go None = refl
    go (Some f) = ap (sourced_again line run) (same_s f.first)

pub fault_same : (missing others : ℕ → Bool) (repeated again : ℕ → Option RepeatedFile) (sources found : ℕ → Option Reached) (k : ℕ) (mark : Mark)
    → ((n : ℕ) → missing n ≡ others n) → ((r : ℕ) → repeated r ≡ again r) → ((r : ℕ) → sources r ≡ found r)
    → fault_by missing repeated sources k mark ≡ fault_by others again found k mark
fault_same missing others repeated again sources found k (Use place) same_m same_r same_s = ap (λ b. if_missing b place) (same_m k)
fault_same missing others repeated again sources found k (Source line run) same_m same_r same_s = again_same repeated again sources found line run same_r same_s

pub found_is : (files : List VariableFile) (given : List (List ℕ)) (repeated : List RepeatedFile) (reached : List Reached) (k : ℕ) (m : Reached) (fault : Option EarlierFault)
    → slice_get reached k ≡ Some m → fault ≡ fault_of files given repeated reached k m.mark
    → found_with m fault ≡ found_at files given repeated reached k
found_is files given repeated reached k m fault is fault_is =
    ap (found_with m) fault_is
    ∙ sym (ap (option_and_then (λ n. found_with n (fault_of files given repeated reached k n.mark))) is)

-- ---- all
pub are_earlier : (lines : List LineValue) (t : TreeValue) (files : List VariableFile) (given : List (List ℕ)) (repeated : List RepeatedFile) (reached : List Reached)
    (result : Result (Vec EarlierFinding Global) AllocError) → AreReached lines files reached → repeated ≡ repeated_files lines t
    → IfOk result (λ found. found.items ≡ found_in_order files given repeated reached) → IfOk result (λ found. AreEarlier lines t files given found.items)
are_earlier lines t files given repeated reached (Err e) are again is = tt
are_earlier lines t files given repeated reached (Ok found) are again is = (reached, are, is ∙ ap (λ fs. found_in_order files given fs reached) again)
