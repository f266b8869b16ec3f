-- Why texts give no session, by the step that failed.
use Rattle.std.proofs.Common.{ℕ, List}
use Rattle.kc_text.specs.LineValue.{LineValue}
use Rattle.kc_text.specs.FileList.{File}
use Rattle.kc_text.specs.Names.{texts_in}
use Rattle.kc_text.specs.Entries.{AreLines}
use Rattle.kc_tree.specs.Parsed.{IsTreeOf}
use Rattle.kc_outline.specs.TreeValue.{TreeValue}
use Rattle.kc_session.specs.declared.opening.OpenFault.{OpenFault}
use Rattle.kc_session.specs.declared.opening.OpenFault.TheVariants.{Text, Tree, Limit, NoMemory}
use Rattle.kc_session.specs.Session.{SessionValue}
use Rattle.kc_session.specs.Opened.{IsTextFaultOf, IsTreeFaultOf, IsConfigFault, IsOpenFault, IsFaultFrom, IsOpened, IsOpenedFrom}

pub text_fault : (files vars : List File) (top config : List ℕ) (fault : OpenFault) → IsTextFaultOf files vars top fault → IsOpenFault files vars top config fault
text_fault files vars top config (Text fault) h = h
text_fault files vars top config (Tree fault) h = absurd h
text_fault files vars top config Limit h = absurd h
text_fault files vars top config NoMemory h = tt

-- ---- of lines that were read before
pub tree_fault_from : (lines : List LineValue) (config : List ℕ) (fault : OpenFault) → IsTreeFaultOf lines fault → IsFaultFrom lines config fault
tree_fault_from lines config (Text fault) h = absurd h
tree_fault_from lines config (Tree fault) h = h
tree_fault_from lines config Limit h = absurd h
tree_fault_from lines config NoMemory h = tt

pub config_fault_from : (lines : List LineValue) (config : List ℕ) (t : TreeValue) (fault : OpenFault) → IsTreeOf lines t → IsConfigFault config fault → IsFaultFrom lines config fault
config_fault_from lines config t (Text fault) tree h = absurd h
config_fault_from lines config t (Tree fault) tree h = absurd h
config_fault_from lines config t Limit tree h = record { tree = t; tree_is = tree; is_long = h }
config_fault_from lines config t NoMemory tree h = tt

-- ---- of the texts that have these lines
module _ (files vars : List File) (top config : List ℕ) (lines : List LineValue) (are : AreLines files (texts_in vars) top lines) where
  pub opened_of : (prefix : List ℕ) (s : SessionValue) → IsOpenedFrom lines prefix config s → IsOpened files vars top prefix config s
  opened_of prefix s h = record { lines = lines; lines_are = are; tree = h.tree; session = h.session; fits = h.fits }

  pub fault_of : (fault : OpenFault) → IsFaultFrom lines config fault → IsOpenFault files vars top config fault
  fault_of (Text fault) h = absurd h
  fault_of (Tree fault) h = record { lines = lines; lines_are = are; fault_is = h.0; of_lines = h.1 }
  fault_of Limit h = record { lines = lines; lines_are = are; tree = h.tree; tree_is = h.tree_is; is_long = h.is_long }
  fault_of NoMemory h = tt
