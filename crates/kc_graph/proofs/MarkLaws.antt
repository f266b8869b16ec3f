-- What a write to the marks changes, and what it takes from the steps that are left.
use Rattle.std.proofs.Common.{◌≡◌, ◌≢◌, ℕ, ◌+◌, ◌<◌, ◌⊎◌, List, [], ◌∷◌, zero, suc, length, cond, set, inl, inr, arith}
use Rattle.std.proofs.lemmas.Bool.{cases_lt}
use Rattle.std.proofs.lemmas.List.{get_or_past}
use Rattle.std.proofs.lemmas.List.Sums.{sum_by-set}
use Rattle.std.specs.List.{count_by}
use Rattle.kc_graph.proofs.ListLaws.{set_cases}
use Rattle.kc_graph.specs.Graph.{row}
use Rattle.kc_graph.specs.Search.{mark_of, is_new, IsSeen, StaysSeen, steps_of, steps_left}
use Rattle.kc_graph.specs.declared.graph.search.Mark.{Mark}
use Rattle.kc_graph.specs.declared.graph.search.Mark.TheVariants.{New, Open, Done}

-- a node that was seen has a mark
pub seen-within : (marks : List Mark) (p : ℕ) → IsSeen marks p → p < length marks
seen-within marks p seen =
    elim (cases_lt p (length marks)) [ inl h ↦ h | inr h ↦ absurd (seen (get_or_past marks p New h)) ]

pub open-within : (marks : List Mark) (p position next : ℕ) → mark_of marks p ≡ Open position next → p < length marks
open-within marks p position next e = seen-within marks p (λ new. cc)

pub done-within : (marks : List Mark) (p i : ℕ) → mark_of marks p ≡ Done i → p < length marks
done-within marks p i e = seen-within marks p (λ new. cc)

-- a mark after a write: the written one, or the one of another node, as it was
pub mark_set : (marks : List Mark) (p : ℕ) (m : Mark) (q : ℕ) → p < length marks → ((q ≡ p) × (mark_of (set marks p m) q ≡ m)) ⊎ ((q ≢ p) × (mark_of (set marks p m) q ≡ mark_of marks q))
mark_set marks p m q inside = set_cases marks p m New q inside

pub StaysSeen-set : (marks : List Mark) (p : ℕ) (m : Mark) → p < length marks → m ≢ New → StaysSeen marks (set marks p m)
StaysSeen-set marks p m inside seen =
    λ q was new. elim (mark_set marks p m q inside) [ inl h ↦ seen (cc) | inr h ↦ was (cc) ]

-- the node that is written is new no more, or is new now
pub new_count-set : (marks : List Mark) (p : ℕ) (m : Mark) → p < length marks → count_by is_new (set marks p m) + cond (is_new (mark_of marks p)) 1 0 ≡ count_by is_new marks + cond (is_new m) 1 0
new_count-set marks p m inside = sum_by-set (λ n. cond (is_new n) 1 0) marks p m New inside

-- the steps of the node that is written go from its old mark's to its new mark's
pub steps_left-set : (g : List (List ℕ)) (marks : List Mark) (p : ℕ) (m : Mark) → p < length g → p < length marks → steps_left g (set marks p m) + steps_of (row g p) (mark_of marks p) ≡ steps_left g marks + steps_of (row g p) m
steps_left-set [] marks p m h k = absurd (omega arith)
steps_left-set (uses ∷ g) [] p m h k = absurd (omega arith)
steps_left-set (uses ∷ g) (n ∷ marks) zero m h k = omega arith
steps_left-set (uses ∷ g) (n ∷ marks) (suc p) m h k = omega (arith, steps_left-set g marks p m (omega arith) (omega arith))
