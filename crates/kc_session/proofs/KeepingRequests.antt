-- What becomes of what is kept, by what the line of a command asks for.
use Rattle.std.proofs.Common.{◌≡◌, ℕ, List, Result, Ok, Err, sym, subst}
use Rattle.kc_files.specs.declared.loading.Load.{Load}
use Rattle.kc_files.specs.declared.loading.Load.TheVariants.{Replace, Merge as MergeLoad}
use Rattle.kc_value.specs.KeptLaws.{KeptLaws}
use Rattle.kc_session.specs.declared.command.Command.{Command}
use Rattle.kc_session.specs.declared.command.Refusal.{Refusal}
use Rattle.kc_session.specs.declared.command.Reply.{Reply}
use Rattle.kc_session.specs.declared.command_line.Request.{Request}
use Rattle.kc_session.specs.declared.command_line.Request.TheVariants.{Whole, WithBody}
use Rattle.kc_session.specs.Commands.{load_command}
use Rattle.kc_session.specs.Keeping.{EditsKept, Keeps}
use Rattle.kc_session.specs.Session.{SessionState}
use Rattle.kc_session.specs.Steps.{KeepsRequest}

-- where nothing changes, it is an edit that drops nothing
pub unchanged_keeps : (old new : SessionState) → KeptLaws old.session.tree → new ≡ old → EditsKept old new
unchanged_keeps old new laws same =
    subst (λ n. EditsKept old n) (sym same) (laws.edits_nothing old.session.user old.kept)

module _ (old new : SessionState) (q : Result Request Refusal) (reply : Reply) where
  pub refused_keeps : (f : Refusal) → q ≡ Err f → new ≡ old → KeepsRequest old q reply new
  unfolding KeepsRequest
  refused_keeps f is same = subst (λ x. KeepsRequest old x reply new) (sym is) same

  pub whole_keeps : (c : Command) → q ≡ Ok (Whole c) → Keeps old c reply new → KeepsRequest old q reply new
  unfolding KeepsRequest
  whole_keeps c is keeps = subst (λ x. KeepsRequest old x reply new) (sym is) keeps

  pub load_keeps : (load : Load) (k : ℕ) → q ≡ Ok (WithBody load k) → EditsKept old new → KeepsRequest old q reply new
  unfolding KeepsRequest
  load_keeps load k is edits = subst (λ x. KeepsRequest old x reply new) (sym is) edits

-- a load is an edit
pub load_edits : (load : Load) (body : List ℕ) (old new : SessionState) (reply : Reply) → Keeps old (load_command load body) reply new → EditsKept old new
unfolding Keeps
load_edits Replace body old new reply keeps = keeps
load_edits MergeLoad body old new reply keeps = keeps
