-- What all faults are to the tree of the lines: the first is the fault for which there is none.
use Rattle.std.proofs.Common.{◌≡◌, inl, inr, ◌<◌, List, [], ◌∷◌, None, filter_map, length, refl, ap, arith}
use Rattle.std.specs.List.{slice_get}
use Rattle.std.proofs.lemmas.Option.{same_Some}
use Rattle.kc_text.specs.LineValue.{LineValue}
use Rattle.kc_outline.specs.TreeValue.{TreeValue}
use Rattle.kc_outline.specs.TreeOf.{IsOutlineOf}
use Rattle.kc_outline.specs.declared.fault.FaultyLine.{FaultyLine}
use Rattle.kc_outline.specs.declared.fault.LineFault.{LineFault}
use Rattle.kc_outline.specs.declared.fault.LineFault.TheVariants as line_problem
use Rattle.kc_outline.specs.FaultyLines as outline
use Rattle.kc_outline.specs.FirstProblem.{IsReadFault}
use Rattle.kc_tree.specs.declared.outline_faults.OutlineFault.{OutlineFault}
use Rattle.kc_tree.specs.declared.fault.TreeFault.{TreeFault}
use Rattle.kc_tree.specs.declared.fault.TreeFault.TheVariants.{Line, Symbol, Choice, Loop, NoMemory}
use Rattle.kc_tree.specs.AllFaults.{line_fault_at, AreFaultsOfTree, AreLoops, AreReported, IsRefusal, AreRefusedForFirst}
use Rattle.kc_tree.specs.Faults.{IsTreeProblem}
use Rattle.kc_tree.specs.OutlineFaults.{outline_fault, outline_faults}
use Rattle.kc_tree.specs.Parsed.{IsOfLines}
use Rattle.kc_tree.proofs.AllFaultLaws.{first_problem}
use Rattle.kc_tree.proofs.OneTree.{first_fault, first_line_fault}

-- ---- faults of lines
pub some_refused : (lines : List LineValue) (places : List FaultyLine) → outline.AreRefusedForFirst lines places → ((t : TreeValue) → IsOutlineOf lines t → ⊥) → 0 < length places
some_refused lines [] h treeless = absurd (treeless h.0 h.1)
some_refused lines (f ∷ fs) h treeless = omega arith

pub refused_lines : (lines : List LineValue) (places : List FaultyLine) → 0 < length places → outline.AreRefusedForFirst lines places → AreRefusedForFirst lines (filter_map (line_fault_at lines) places)
refused_lines lines [] some h = absurd (omega (arith, some))
refused_lines lines (f ∷ fs) some h = rw h.is (record {
  real = tt;
  fault = (f.place, h.first);
  first = first_line_fault lines (line_problem.At f.problem h.line.path h.line.number) h.only;
})

-- ---- faults of an outline
module _ (lines : List LineValue) (o : TreeValue) (is_outline : IsOutlineOf lines o) (one : (t : TreeValue) → IsOutlineOf lines t → t ≡ o)
    (exact : (f : LineFault) → IsReadFault lines f → f ≡ line_problem.NoMemory) where
  refusal_of : (f : TreeFault) → IsOfLines f → IsTreeProblem lines o f → IsRefusal lines f
  refusal_of (Line p path number) real is = absurd is
  refusal_of (Symbol p name) real is = record { real = tt; fault = record { tree = o; outline = is_outline; is = is }; first = first_fault lines o one exact (Symbol p name) is }
  refusal_of (Choice p path number) real is = record { real = tt; fault = record { tree = o; outline = is_outline; is = is }; first = first_fault lines o one exact (Choice p path number) is }
  refusal_of (Loop nodes) real is = record { real = tt; fault = record { tree = o; outline = is_outline; is = is }; first = first_fault lines o one exact (Loop nodes) is }
  refusal_of NoMemory real is = absurd real

  refused_loop : (faults : List TreeFault) → outline_fault o ≡ None → AreLoops o faults → AreRefusedForFirst lines faults
  refused_loop [] none loops = (o, record { outline = is_outline; faultless = none; loopless = loops })
  refused_loop (Line p path number ∷ fs) none loops = absurd loops
  refused_loop (Symbol p name ∷ fs) none loops = absurd loops
  refused_loop (Choice p path number ∷ fs) none loops = absurd loops
  refused_loop (NoMemory ∷ fs) none loops = absurd loops
  refused_loop (Loop nodes ∷ []) none loops = refusal_of (Loop nodes) tt (none, loops)
  refused_loop (Loop nodes ∷ g ∷ fs) none loops = absurd loops

  refused_first : (f : TreeFault) (fs : List TreeFault) (found : List OutlineFault) → outline_faults o ≡ found → AreReported lines o found (f ∷ fs) → IsRefusal lines f
  refused_first f fs [] is reports = absurd (omega (arith, ap length reports))
  refused_first f fs (x ∷ xs) is reports =
      let first = first_problem lines o x f (ap (λ ys. slice_get ys 0) is) (same_Some _ _ (ap (λ ys. slice_get ys 0) reports)) in refusal_of f first.0 first.1

  pub refused_tree : (faults : List TreeFault) → AreFaultsOfTree lines o faults → AreRefusedForFirst lines faults
  refused_tree [] (inl h) = absurd (let some = h.0 in omega (arith, some))
  refused_tree (f ∷ fs) (inl h) = refused_first f fs (outline_faults o) refl h.1
  refused_tree faults (inr h) = refused_loop faults (ap (λ xs. slice_get xs 0) h.0) h.1
