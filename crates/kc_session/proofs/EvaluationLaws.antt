-- How many evaluations a command needs, from what it keeps and drops.
use Rattle.std.proofs.Common.{◌≡◌, ℕ, ◌+◌, ◌-◌, ◌≤◌, List, Result, Ok, Err, length, ap, subst, arith}
use Rattle.kc_tree.specs.declared.node.Node.{Node}
use Rattle.kc_tree.specs.Nodes.{node_count}
use Rattle.kc_value.specs.Counting.{raised}
use Rattle.kc_value.specs.Kept.{IsClosed, kept_count}
use Rattle.kc_value.specs.KeptLaws.{KeptLaws}
use Rattle.kc_session.specs.declared.command.Command.{Command}
use Rattle.kc_session.specs.declared.command.Command.TheVariants.{Set, Unset, Reset, Load, Merge, AllNo, AllYes, Show, List as ListAll, Choices, Config, Header, Defconfig, New}
use Rattle.kc_session.specs.declared.command.Refusal.{Refusal}
use Rattle.kc_session.specs.declared.command.Reply.{Reply}
use Rattle.kc_session.specs.declared.command_line.Request.{Request}
use Rattle.kc_session.specs.declared.command_line.Request.TheVariants.{Whole, WithBody}
use Rattle.kc_session.specs.EvaluationBound.{IsBounded, missing_count}
use Rattle.kc_session.specs.Keeping.{Asks, EditsKept, Keeps, KeepsRight}
use Rattle.kc_session.specs.Session.{SessionState}
use Rattle.kc_session.specs.Steps.{KeepsRequest}

-- where nothing changes, nothing is evaluated
unchanged_bounded : (old new : SessionState) → new ≡ old → IsBounded old new
unchanged_bounded old new same dirty has = omega (arith, ap (λ s. s.kept.evals + missing_count s) same)

-- ---- a query: each node that is added is evaluated once
added_within : (evals before after count dirty : ℕ) → before ≤ after → after ≤ count
    → raised evals (after - before) + (count - after) ≤ evals + (count - before) + dirty
added_within evals before after count dirty more within = omega arith

-- ---- a command, over a tree that stays
module _ (old new : SessionState) (laws : KeptLaws old.session.tree) (tree : new.session.tree ≡ old.session.tree) (right_before : KeepsRight old) (right : KeepsRight new) (r : Reply) where
  closed : IsClosed old.session.tree new.kept.values
  closed = subst (λ t. IsClosed t new.kept.values) tree right.closed

  -- and so does the count of what is kept
  kept : kept_count new.session.tree new.kept.values ≡ kept_count old.session.tree new.kept.values
  kept = ap (λ t. kept_count t new.kept.values) tree

  asks_bounded : (nodes : List Node) → Asks nodes old r new → IsBounded old new
  asks_bounded nodes asks dirty has =
      let count : node_count new.session.tree ≡ node_count old.session.tree = ap node_count tree in
      let before : ℕ = kept_count old.session.tree old.kept.values in
      let after : ℕ = kept_count old.session.tree new.kept.values in
      let bound : raised old.kept.evals (after - before) + (node_count old.session.tree - after) ≤ old.kept.evals + missing_count old + length dirty =
      added_within old.kept.evals before after (node_count old.session.tree) (length dirty) asks.fills.adds.more (laws.count_within new.kept.values closed) in
      let evals : new.kept.evals ≡ raised old.kept.evals (after - before) = asks.fills.counted in
      omega (arith, bound, evals, count, kept)

  -- only dirty nodes are dropped
  edits_bounded : EditsKept old new → IsBounded old new
  edits_bounded edits dirty has =
      let count : node_count new.session.tree ≡ node_count old.session.tree = ap node_count tree in
      let fewer : kept_count old.session.tree old.kept.values ≤ kept_count old.session.tree new.kept.values + length dirty =
      laws.count_dropped old.session.user new.session.user old.kept new.kept dirty right_before.closed closed has edits in
      omega (arith, fewer, edits.evals, count, kept)

  keeps_bounded : (c : Command) → Keeps old c r new → IsBounded old new
  unfolding Keeps
  keeps_bounded (Set name value) keeps = edits_bounded keeps
  keeps_bounded (Unset name) keeps = edits_bounded keeps
  keeps_bounded Reset keeps = edits_bounded keeps
  keeps_bounded (Load body) keeps = edits_bounded keeps
  keeps_bounded (Merge body) keeps = edits_bounded keeps
  keeps_bounded AllNo keeps = edits_bounded keeps
  keeps_bounded AllYes keeps = edits_bounded keeps
  keeps_bounded (Show name) keeps = asks_bounded _ keeps
  keeps_bounded ListAll keeps = asks_bounded _ keeps
  keeps_bounded Choices keeps = asks_bounded _ keeps
  keeps_bounded Config keeps = asks_bounded _ keeps
  keeps_bounded Header keeps = asks_bounded _ keeps
  keeps_bounded Defconfig keeps = asks_bounded _ keeps
  keeps_bounded New keeps = asks_bounded _ keeps

  -- .. and what its line asks for
  pub request_bounded : (q : Result Request Refusal) → KeepsRequest old q r new → IsBounded old new
  unfolding KeepsRequest
  request_bounded (Ok (Whole c)) keeps = keeps_bounded c keeps
  request_bounded (Ok (WithBody load k)) keeps = edits_bounded keeps
  request_bounded (Err f) keeps = unchanged_bounded old new keeps

-- ---- the count never falls
module _ (old new : SessionState) (r : Reply) where
  asks_counts : (nodes : List Node) → Asks nodes old r new → old.kept.evals ≤ new.kept.evals
  asks_counts nodes asks = omega (arith, asks.fills.counted)

  edits_counts : EditsKept old new → old.kept.evals ≤ new.kept.evals
  edits_counts edits = omega (arith, edits.evals)

  keeps_counts : (c : Command) → Keeps old c r new → old.kept.evals ≤ new.kept.evals
  unfolding Keeps
  keeps_counts (Set name value) keeps = edits_counts keeps
  keeps_counts (Unset name) keeps = edits_counts keeps
  keeps_counts Reset keeps = edits_counts keeps
  keeps_counts (Load body) keeps = edits_counts keeps
  keeps_counts (Merge body) keeps = edits_counts keeps
  keeps_counts AllNo keeps = edits_counts keeps
  keeps_counts AllYes keeps = edits_counts keeps
  keeps_counts (Show name) keeps = asks_counts _ keeps
  keeps_counts ListAll keeps = asks_counts _ keeps
  keeps_counts Choices keeps = asks_counts _ keeps
  keeps_counts Config keeps = asks_counts _ keeps
  keeps_counts Header keeps = asks_counts _ keeps
  keeps_counts Defconfig keeps = asks_counts _ keeps
  keeps_counts New keeps = asks_counts _ keeps

  pub request_counts : (q : Result Request Refusal) → KeepsRequest old q r new → old.kept.evals ≤ new.kept.evals
  unfolding KeepsRequest
  request_counts (Ok (Whole c)) keeps = keeps_counts c keeps
  request_counts (Ok (WithBody load k)) keeps = edits_counts keeps
  request_counts (Err f) keeps = omega (arith, ap (λ s. s.kept.evals) keeps)
