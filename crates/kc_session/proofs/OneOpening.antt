-- Texts, variables and a `.config` give one session or one first fault.
use Rattle.std.proofs.Common.{◌≡◌, ℕ, List, true, false, refl, sym, ap, subst, ◌∙◌}
use Rattle.kc_text.specs.LineValue.{LineValue}
use Rattle.kc_text.specs.FileList.{File}
use Rattle.kc_text.specs.Names.{texts_in}
use Rattle.kc_text.specs.Entries.{AreLines, HasOneReading, IsFirstTextFault}
use Rattle.kc_text.specs.declared.fault.TextFault.{TextFault}
use Rattle.kc_tree.specs.declared.fault.TreeFault.{TreeFault}
use Rattle.kc_tree.specs.declared.fault.TreeFault.TheVariants as tree_fault
use Rattle.kc_tree.specs.Parsed.{IsTreeOf, IsFaultOf, IsOfLines, IsOnlyTree, IsOnlyFault, IsFirstFault}
use Rattle.kc_outline.specs.TreeValue.{TreeValue}
use Rattle.kc_session.specs.declared.opening.OpenFault.{OpenFault}
use Rattle.kc_session.specs.declared.opening.OpenFault.TheVariants.{Text, Tree, Limit, NoMemory}
use Rattle.kc_session.specs.Bodies.{fits_body}
use Rattle.kc_session.specs.Session.{SessionValue}
use Rattle.kc_session.specs.Opened.{user_of_config, AreEnclosed, AreTextsEnclosed, IsTextFaultOf, IsTreeFaultOf, IsConfigFault, IsOpenFault, IsOpened, IsOpenedFrom, IsFaultFrom, IsOfTexts, AreOneOpenFault, IsOnlySession, IsOnlySessionFrom, IsOnlyOpenFault, IsOnlyFaultFrom, IsOnlyTreeFault, IsFirstOpenFault, IsFirstFaultFrom}

-- ---- logical lines that were read before
module _ (lines : List LineValue) (prefix config : List ℕ) where
  -- ---- a fault of the lines
  one_tree_fault : (fault : TreeFault) → IsOnlyFault lines fault → (g : OpenFault) → IsOfTexts g → IsFaultFrom lines config g → AreOneOpenFault g (Tree fault)
  one_tree_fault fault only (Text other) real h = absurd h
  one_tree_fault fault only (Tree other) real h = only.one other h.1 h.0
  one_tree_fault fault only Limit real h = absurd (only.treeless h.tree h.tree_is)
  one_tree_fault fault only NoMemory real h = absurd real

  only_tree_fault : (fault : TreeFault) → IsOnlyFault lines fault → IsOnlyFaultFrom lines prefix config (Tree fault)
  only_tree_fault fault only = record {
    one = one_tree_fault fault only;
    sessionless = λ s h. only.treeless s.tree h.tree;
  }

  of_lines : (f : TreeFault) → IsOfLines f → IsFirstFault lines f → IsOnlyFault lines f
  of_lines (tree_fault.Line p path number) real h = h
  of_lines (tree_fault.Symbol p name) real h = h
  of_lines (tree_fault.Choice p path number) real h = h
  of_lines (tree_fault.Loop nodes) real h = h
  of_lines tree_fault.NoMemory real h = absurd real

  pub first_tree_fault : (fault : OpenFault) → IsTreeFaultOf lines fault → IsOnlyTreeFault lines fault → IsFirstFaultFrom lines prefix config fault
  first_tree_fault (Text fault) h only = absurd h
  first_tree_fault (Tree fault) h only = only_tree_fault fault (of_lines fault h.1 only)
  first_tree_fault Limit h only = absurd h
  first_tree_fault NoMemory h only = tt

  -- ---- a tree
  module _ (t : TreeValue) (only : IsOnlyTree lines t) where
    too_long : fits_body config ≡ false → fits_body config ≡ true → ⊥
    too_long is fits =
        let both : false ≡ true = sym is ∙ fits in
        cc

    one_limit : fits_body config ≡ false → (g : OpenFault) → IsOfTexts g → IsFaultFrom lines config g → AreOneOpenFault g Limit
    one_limit is (Text other) real h = absurd h
    one_limit is (Tree other) real h = absurd (only.faultless other h.1 h.0)
    one_limit is Limit real h = refl
    one_limit is NoMemory real h = absurd real

    only_limit : fits_body config ≡ false → IsOnlyFaultFrom lines prefix config Limit
    only_limit is = record {
      one = one_limit is;
      sessionless = λ s h. too_long is h.fits;
    }

    pub first_config_fault : (fault : OpenFault) → IsConfigFault config fault → IsFirstFaultFrom lines prefix config fault
    first_config_fault (Text fault) h = absurd h
    first_config_fault (Tree fault) h = absurd h
    first_config_fault Limit h = only_limit h
    first_config_fault NoMemory h = tt

    abbrev session_of : TreeValue → SessionValue
    session_of s = record { tree = s; user = user_of_config s prefix config; prefix = prefix }

    pub opened_from : IsTreeOf lines t → fits_body config ≡ true → (s : SessionValue) → s ≡ session_of t → IsOpenedFrom lines prefix config s
    opened_from tree fits s is = subst (IsOpenedFrom lines prefix config) (sym is) (record { tree = tree; session = refl; fits = fits })

    no_fault : fits_body config ≡ true → (f : OpenFault) → IsOfTexts f → IsFaultFrom lines config f → ⊥
    no_fault fits (Text fault) real h = h
    no_fault fits (Tree fault) real h = only.faultless fault h.1 h.0
    no_fault fits Limit real h = too_long h.is_long fits
    no_fault fits NoMemory real h = real

    pub only_session : fits_body config ≡ true → (s : SessionValue) → s ≡ session_of t → IsOnlySessionFrom lines prefix config s
    only_session fits s is = record {
      one = λ other h. h.session ∙ ap session_of (only.one other.tree h.tree) ∙ sym is;
      faultless = no_fault fits;
    }

-- ---- texts
module _ (files vars : List File) (top prefix config : List ℕ) (reading : HasOneReading files (texts_in vars) top) where
  -- ---- a fault of the texts
  not_both : (lines : List LineValue) (fault : TextFault) → AreLines files (texts_in vars) top lines → IsFirstTextFault files (texts_in vars) top fault → ⊥
  not_both lines fault are is = reading.never_both lines fault are is

  same_text_fault : (fault other : TextFault) → IsFirstTextFault files (texts_in vars) top fault → IsFirstTextFault files (texts_in vars) top other → Text other ≡ Text fault
  same_text_fault fault other is also = ap Text (reading.one_fault other fault also is)

  one_text_fault : (fault : TextFault) → IsFirstTextFault files (texts_in vars) top fault → (g : OpenFault) → IsOfTexts g → IsOpenFault files vars top config g → AreOneOpenFault g (Text fault)
  one_text_fault fault is (Text other) real h = same_text_fault fault other is h
  one_text_fault fault is (Tree other) real h = absurd (not_both h.lines fault h.lines_are is)
  one_text_fault fault is Limit real h = absurd (not_both h.lines fault h.lines_are is)
  one_text_fault fault is NoMemory real h = absurd real

  only_text_fault : (fault : TextFault) → IsFirstTextFault files (texts_in vars) top fault → IsOnlyOpenFault files vars top prefix config (Text fault)
  only_text_fault fault is = record {
    one = one_text_fault fault is;
    sessionless = λ s h. not_both h.lines fault h.lines_are is;
  }

  pub first_text_fault : (fault : OpenFault) → IsTextFaultOf files vars top fault → IsFirstOpenFault files vars top prefix config fault
  first_text_fault (Text fault) h = only_text_fault fault h
  first_text_fault (Tree fault) h = absurd h
  first_text_fault Limit h = absurd h
  first_text_fault NoMemory h = tt

  -- ---- what the lines of the texts say
  module _ (lines : List LineValue) (are : AreLines files (texts_in vars) top lines) where
    same_lines : (others : List LineValue) → AreLines files (texts_in vars) top others → others ≡ lines
    same_lines others also = reading.one_list others lines also are

    tree_of_lines : (others : List LineValue) (t : TreeValue) → AreLines files (texts_in vars) top others → IsTreeOf others t → IsTreeOf lines t
    tree_of_lines others t also h = subst (λ (ls : List LineValue). IsTreeOf ls t) (same_lines others also) h

    fault_of_lines : (others : List LineValue) (f : TreeFault) → AreLines files (texts_in vars) top others → IsFaultOf others f → IsFaultOf lines f
    fault_of_lines others f also h = subst (λ (ls : List LineValue). IsFaultOf ls f) (same_lines others also) h

    from_texts : (s : SessionValue) → IsOpened files vars top prefix config s → IsOpenedFrom lines prefix config s
    from_texts s h = record { tree = tree_of_lines h.lines s.tree h.lines_are h.tree; session = h.session; fits = h.fits }

    fault_from_texts : (f : OpenFault) → IsOpenFault files vars top config f → IsFaultFrom lines config f
    fault_from_texts (Text fault) h = not_both lines fault are h
    fault_from_texts (Tree fault) h = (fault_of_lines h.lines fault h.lines_are h.fault_is, h.of_lines)
    fault_from_texts Limit h = record { tree = h.tree; tree_is = tree_of_lines h.lines h.tree h.lines_are h.tree_is; is_long = h.is_long }
    fault_from_texts NoMemory h = tt

    pub enclosed_of : (t : TreeValue) → AreEnclosed lines t → AreTextsEnclosed files vars top t
    enclosed_of t h others also = subst (λ (ls : List LineValue). AreEnclosed ls t) (sym (same_lines others also)) h

    pub only_of : (s : SessionValue) → IsOnlySessionFrom lines prefix config s → IsOnlySession files vars top prefix config s
    only_of s only = record {
      one = λ other h. only.one other (from_texts other h);
      faultless = λ f real h. only.faultless f real (fault_from_texts f h);
    }

    only_fault_of : (f : OpenFault) → IsOnlyFaultFrom lines prefix config f → IsOnlyOpenFault files vars top prefix config f
    only_fault_of f only = record {
      one = λ g real h. only.one g real (fault_from_texts g h);
      sessionless = λ s h. only.sessionless s (from_texts s h);
    }

    pub first_of : (f : OpenFault) → IsFirstFaultFrom lines prefix config f → IsFirstOpenFault files vars top prefix config f
    first_of (Text fault) h = only_fault_of (Text fault) h
    first_of (Tree fault) h = only_fault_of (Tree fault) h
    first_of Limit h = only_fault_of Limit h
    first_of NoMemory h = tt
