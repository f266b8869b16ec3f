-- This project's own: what the reply to `defconfig` keeps, and which commands leave the user values without line feeds, as
-- it wants them.
use Rattle.std.specs.Prelude.{◌≡◌, false, Result, Ok, Err}
use Rattle.std.specs.List.{list_any}
use Rattle.kc_files.specs.ConfigLines.{is_feed}
use Rattle.kc_files.specs.DefaultLoading.{HasNoFeeds, KeepsChanges}
use Rattle.kc_session.specs.declared.command.Command.{Command}
use Rattle.kc_session.specs.declared.command.Command.TheVariants.{Set, Load, Merge, Defconfig}
use Rattle.kc_session.specs.declared.command.Refusal.{Refusal}
use Rattle.kc_session.specs.declared.command_line.Request.{Request}
use Rattle.kc_session.specs.declared.command_line.Request.TheVariants.{Whole, WithBody}
use Rattle.kc_session.specs.declared.command.Reply.{Reply}
use Rattle.kc_session.specs.declared.command.Reply.TheVariants.{Done, Refused}
use Rattle.kc_session.specs.Session.{SessionValue}

-- the text of a reply keeps what the user changed, and has no line too many
abbrev pub KeepsTheChanges : SessionValue → Reply → Type 0
KeepsTheChanges s (Done text) = KeepsChanges s.tree s.user s.prefix text
KeepsTheChanges s (Refused r) = Unit {0}

-- that of `defconfig` does, where no text of the user has a line feed
abbrev pub IsEnough : SessionValue → Command → Reply → Type 0
IsEnough s Defconfig reply = HasNoFeeds s.user → KeepsTheChanges s reply
IsEnough s _ reply = Unit {0}

-- A command gives no text with a line feed: only `set` can. A body is cut into lines, so that no value in it has one.
abbrev pub HasNoFeed : Command → Type 0
HasNoFeed (Set name value) = list_any is_feed value ≡ false
HasNoFeed _ = Unit {0}

-- what is asked for gives no text with a line feed
abbrev pub IsUnfedRequest : Result Request Refusal → Type 0
IsUnfedRequest (Ok (Whole c)) = HasNoFeed c
IsUnfedRequest (Ok (WithBody load k)) = Unit {0}
IsUnfedRequest (Err r) = Unit {0}

-- a command that loads a body
abbrev pub IsLoad : Command → Type 0
IsLoad (Load body) = Unit {0}
IsLoad (Merge body) = Unit {0}
IsLoad _ = ⊥
