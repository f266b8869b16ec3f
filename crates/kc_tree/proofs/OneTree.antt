-- Lines with one outline have one tree or one first fault.
use Rattle.std.proofs.Common.{◌≡◌, ℕ, List, Some, None, subst, sym, ap, ◌∙◌, inl, inr, filter, slice_get}
use Rattle.std.specs.declared.result.Result.{Result}
use Rattle.std.specs.declared.result.Result.TheVariants.{Ok, Err}
use Rattle.std.specs.Result.{IfOk, OnOk}
use Rattle.kc_text.specs.LineValue.{LineValue}
use Rattle.kc_statement.specs.Keywords.{is_choice}
use Rattle.kc_outline.specs.TreeValue.{TreeValue, name_of}
use Rattle.kc_outline.specs.TreeOf.{IsOutlineOf}
use Rattle.kc_outline.specs.declared.id.ChoiceId.{ChoiceId}
use Rattle.kc_statement.specs.declared.id.SymId.{SymId}
use Rattle.kc_outline.specs.declared.fault.LineProblem.{LineProblem}
use Rattle.kc_outline.specs.declared.fault.LineFault.{LineFault}
use Rattle.kc_outline.specs.declared.fault.LineFault.TheVariants as line_problem
use Rattle.kc_outline.specs.FirstProblem.{IsFirstLineFault, IsReadFault, AreRefusedFor}
use Rattle.kc_outline.specs.FirstProblem as outline
use Rattle.kc_tree.specs.declared.problem.SymbolProblem.{SymbolProblem}
use Rattle.kc_tree.specs.declared.problem.ChoiceProblem.{ChoiceProblem}
use Rattle.kc_tree.specs.declared.fault.TreeFault.{TreeFault}
use Rattle.kc_tree.specs.declared.fault.TreeFault.TheVariants.{Line, Symbol, Choice, Loop, NoMemory}
use Rattle.kc_tree.specs.declared.outline_faults.OutlineFault.{OutlineFault}
use Rattle.kc_tree.specs.declared.outline_faults.OutlineFault.TheVariants as outline_problem
use Rattle.kc_tree.specs.OutlineFaults.{outline_fault}
use Rattle.kc_tree.specs.Faults.{IsSymbolFault, IsChoiceFault, IsLoopless, IsTreeProblem, line_fault}
use Rattle.kc_tree.specs.Parsed.{IsTreeOf, IsFaultOf, IsOfLines, AreOneFault, IsOnlyTree, IsOnlyFault, IsFirstFault}

-- ---- faults of one outline
symbol_is : (p q : SymbolProblem) (s r : SymId) → Some (outline_problem.Symbol p s) ≡ Some (outline_problem.Symbol q r) → s ≡ r
symbol_is p q s r e = cc

choice_is : (p q : ChoiceProblem) (c d : ChoiceId) → Some (outline_problem.Choice p c) ≡ Some (outline_problem.Choice q d) → c ≡ d
choice_is p q c d e = cc

same_symbol_fault : (t : TreeValue) (p q : SymbolProblem) (name other : List ℕ) → IsSymbolFault t p name → IsSymbolFault t q other → Symbol p name ≡ Symbol q other
same_symbol_fault t p q name other f g =
    let same : Some (outline_problem.Symbol p (record { 0 = f.symbol })) ≡ Some (outline_problem.Symbol q (record { 0 = g.symbol })) = sym f.is ∙ g.is in
    let problem : p ≡ q = cc in
    let named : name ≡ other = f.name_is ∙ ap (name_of t) (symbol_is p q _ _ same) ∙ sym g.name_is in
    ap (λ x. Symbol x name) problem ∙ ap (Symbol q) named

same_choice_fault : (lines : List LineValue) (t : TreeValue) (p q : ChoiceProblem) (path other : List ℕ) (number last : ℕ)
    → IsChoiceFault lines t p path number → IsChoiceFault lines t q other last → Choice p path number ≡ Choice q other last
same_choice_fault lines t p q path other number last f g =
    let same : Some (outline_problem.Choice p (record { 0 = f.choice })) ≡ Some (outline_problem.Choice q (record { 0 = g.choice })) = sym f.is ∙ g.is in
    let problem : p ≡ q = cc in
    let found : Some f.line ≡ Some g.line = sym f.line_is ∙ ap (λ (c : ChoiceId). slice_get (filter is_choice lines) c.0) (choice_is p q _ _ same) ∙ g.line_is in
    let line : f.line ≡ g.line = cc in
    let paths : path ≡ other = f.path_is ∙ ap (λ (l : LineValue). l.path) line ∙ sym g.path_is in
    let numbers : number ≡ last = f.number_is ∙ ap (λ (l : LineValue). l.number) line ∙ sym g.number_is in
    ap (λ x. Choice x path number) problem ∙ ap (λ x. Choice q x number) paths ∙ ap (Choice q other) numbers

symbol_or_choice : (t : TreeValue) (p : SymbolProblem) (q : ChoiceProblem) (s c : ℕ)
    → outline_fault t ≡ Some (outline_problem.Symbol p (record { 0 = s })) → outline_fault t ≡ Some (outline_problem.Choice q (record { 0 = c })) → ⊥
symbol_or_choice t p q s c f g =
    let same : Some (outline_problem.Symbol p (record { 0 = s })) ≡ Some (outline_problem.Choice q (record { 0 = c })) = sym f ∙ g in
    cc

some_or_none : (t : TreeValue) (f : OutlineFault) → outline_fault t ≡ Some f → outline_fault t ≡ None → ⊥
some_or_none t f is none =
    let same : Some f ≡ None = sym is ∙ none in
    cc

module _ (lines : List LineValue) (o : TreeValue) (one : (t : TreeValue) → IsOutlineOf lines t → t ≡ o)
    (exact : (f : LineFault) → IsReadFault lines f → f ≡ line_problem.NoMemory) where
  sound : (problem : LineProblem) (path : List ℕ) (number : ℕ) → (i : ℕ) × IsFirstLineFault lines i problem path number → ⊥
  sound problem path number h =
      let none : line_problem.At problem path number ≡ line_problem.NoMemory = exact (line_problem.At problem path number) h in
      cc

  -- what a fault of an outline of these lines is a fault of
  of_this : (P : TreeValue → Type 0) (t : TreeValue) → IsOutlineOf lines t → P t → P o
  of_this P t h p = subst P (one t h) p

  -- ---- a tree
  no_fault : outline_fault o ≡ None → IsLoopless o → (f : TreeFault) → IsOfLines f → IsFaultOf lines f → ⊥
  no_fault none loopless (Line problem path number) real h = sound problem path number h
  no_fault none loopless (Symbol problem name) real h =
      let at = of_this (λ t. IsTreeProblem lines t (Symbol problem name)) h.tree h.outline h.is in
      some_or_none o _ at.is none
  no_fault none loopless (Choice problem path number) real h =
      let at = of_this (λ t. IsTreeProblem lines t (Choice problem path number)) h.tree h.outline h.is in
      some_or_none o _ at.is none
  no_fault none loopless (Loop nodes) real h =
      let at = of_this (λ t. IsTreeProblem lines t (Loop nodes)) h.tree h.outline h.is in
      loopless _ at.1.loop
  no_fault none loopless NoMemory real h = real

  only_tree : outline_fault o ≡ None → IsLoopless o → IsOnlyTree lines o
  only_tree none loopless = record {
    one = λ s h. one s h.outline;
    faultless = no_fault none loopless;
  }

  pub linked : {E : Type 0} (r : Result TreeValue E) → IfOk r (λ t. t ≡ o) → OnOk r (outline_fault o ≡ None) → OnOk r (IsLoopless o) → IfOk r (IsOnlyTree lines)
  linked (Ok t) is none loopless = subst (IsOnlyTree lines) (sym is) (only_tree none loopless)
  linked (Err e) is none loopless = tt

  -- ---- a fault of the outline
  same_fault : (f g : TreeFault) → IsOfLines f → IsTreeProblem lines o f → IsOfLines g → IsTreeProblem lines o g → AreOneFault g f
  same_fault (Line p path number) g real is other also = absurd is
  same_fault NoMemory g real is other also = absurd real
  same_fault f (Line p path number) real is other also = absurd also
  same_fault f NoMemory real is other also = absurd other
  same_fault (Symbol p name) (Symbol q again) real is other also = same_symbol_fault o q p again name also is
  same_fault (Symbol p name) (Choice q path number) real is other also = absurd (symbol_or_choice o p q _ _ is.is also.is)
  same_fault (Symbol p name) (Loop nodes) real is other also = absurd (some_or_none o _ is.is also.0)
  same_fault (Choice p path number) (Symbol q name) real is other also = absurd (symbol_or_choice o q p _ _ also.is is.is)
  same_fault (Choice p path number) (Choice q again last) real is other also = same_choice_fault lines o q p again path last number also is
  same_fault (Choice p path number) (Loop nodes) real is other also = absurd (some_or_none o _ is.is also.0)
  same_fault (Loop nodes) (Symbol q name) real is other also = absurd (some_or_none o _ also.is is.0)
  same_fault (Loop nodes) (Choice q path number) real is other also = absurd (some_or_none o _ also.is is.0)
  same_fault (Loop nodes) (Loop others) real is other also = tt

  -- a fault of an outline of these lines is one of this outline
  of_outline : (g : TreeFault) → IsOfLines g → IsFaultOf lines g → IsTreeProblem lines o g
  of_outline (Line p path number) real h = absurd (sound p path number h)
  of_outline (Symbol p name) real h = of_this (λ t. IsTreeProblem lines t (Symbol p name)) h.tree h.outline h.is
  of_outline (Choice p path number) real h = of_this (λ t. IsTreeProblem lines t (Choice p path number)) h.tree h.outline h.is
  of_outline (Loop nodes) real h = of_this (λ t. IsTreeProblem lines t (Loop nodes)) h.tree h.outline h.is
  of_outline NoMemory real h = absurd real

  no_tree : (f : TreeFault) → IsOfLines f → IsTreeProblem lines o f → (t : TreeValue) → IsTreeOf lines t → ⊥
  no_tree (Line p path number) real is t h = is
  no_tree (Symbol p name) real is t h = some_or_none o _ is.is (ap outline_fault (sym (one t h.outline)) ∙ h.faultless)
  no_tree (Choice p path number) real is t h = some_or_none o _ is.is (ap outline_fault (sym (one t h.outline)) ∙ h.faultless)
  no_tree (Loop nodes) real is t h = of_this IsLoopless t h.outline h.loopless _ is.1.loop
  no_tree NoMemory real is t h = real

  only_fault : (f : TreeFault) → IsOfLines f → IsTreeProblem lines o f → IsOnlyFault lines f
  only_fault f real is = record {
    one = λ g other h. same_fault f g real is other (of_outline g other h);
    treeless = no_tree f real is;
  }

  pub first_fault : (f : TreeFault) → IsTreeProblem lines o f → IsFirstFault lines f
  first_fault (Line p path number) is = absurd is
  first_fault (Symbol p name) is = only_fault (Symbol p name) tt is
  first_fault (Choice p path number) is = only_fault (Choice p path number) tt is
  first_fault (Loop nodes) is = only_fault (Loop nodes) tt is
  first_fault NoMemory is = tt

-- ---- a fault of a line
module _ (lines : List LineValue) (problem : LineProblem) (path : List ℕ) (number : ℕ) (only : outline.IsOnlyFault lines (line_problem.At problem path number)) where
  same_line_fault : (p : LineProblem) (other : List ℕ) (last : ℕ) → (i : ℕ) × IsFirstLineFault lines i p other last → Line p other last ≡ Line problem path number
  same_line_fault p other last h = elim (only.alone (line_problem.At p other last) h) [
    | inl same ↦ ap line_fault same
    | inr none ↦ absurd (at_none none)
  ]
    where
      at_none : line_problem.At p other last ≡ line_problem.NoMemory → ⊥
      at_none e = cc

  one_line_fault : (g : TreeFault) → IsOfLines g → IsFaultOf lines g → AreOneFault g (Line problem path number)
  one_line_fault (Line p other last) real h = same_line_fault p other last h
  one_line_fault (Symbol p name) real h = absurd (only.treeless h.tree h.outline)
  one_line_fault (Choice p other last) real h = absurd (only.treeless h.tree h.outline)
  one_line_fault (Loop nodes) real h = absurd (only.treeless h.tree h.outline)
  one_line_fault NoMemory real h = absurd real

  only_line_fault : IsOnlyFault lines (Line problem path number)
  only_line_fault = record {
    one = one_line_fault;
    treeless = λ t h. only.treeless t h.outline;
  }

pub first_line_fault : (lines : List LineValue) (f : LineFault) → AreRefusedFor lines f → IsFirstFault lines (line_fault f)
first_line_fault lines (line_problem.At problem path number) h = only_line_fault lines problem path number h
first_line_fault lines line_problem.NoMemory h = tt
