-- How a driver answers that is a command, which runs once for each content.
use Rattle.std.specs.Prelude.{◌≡◌, ◌<◌, ◌++◌, ℕ, Bool, true, false, List, [], ◌∷◌, Option, Some, None}
use Rattle.edge_kit.specs.Links.{LinkSeen, is_shut, replies_in, Replies}
use Rattle.edge_kit.specs.Links.{Left, LeftUntold, LeftAnswers}
use Rattle.edge_kit.specs.Starters.{Had, Session, StartFailed, StartOutOfMemory, SessionHad}
use Rattle.filter_words.specs.declared.reply.Caps.{Caps}
use Rattle.driver_host.specs.HostLinks.{HasText, LinkState, link_seen}
use Rattle.driver_host.specs.Works.{WorkTold}
use Rattle.one_shot.specs.Onces.{RunsListed}
use Rattle.one_shot.specs.Links.{either_seen}
use Rattle.one_shot.specs.declared.link.OnceLink.{OnceLink}
use Rattle.one_shot.specs.Works.{work_told}

-- what a host announces that runs a command
abbrev pub smudge_alone : Caps
smudge_alone = record { smudge = true; delay = false }

-- what a work tells that chooses by these runs
abbrev pub told_by : Replies → WorkTold
told_by replies = work_told (RunsListed replies.runs) replies.command

-- what is told of what is left to read, if the link tells
abbrev pub answers_of : Option Replies → Left
answers_of None = LeftUntold
answers_of (Some replies) = LeftAnswers replies

abbrev pub answers_if : Bool → WorkTold → Left
answers_if true told = answers_of told.runs
answers_if false told = LeftUntold

-- a link to a host that runs a command: it is over once it met an end of input
pub record RunState (W : Type 0) : Type 0 where
  pub link : LinkState W
  pub over : Bool
  pub faults : ℕ

-- as a link is seen: what is left is told by how its driver answers
abbrev pub run_seen : {W : Type 0} → (W → WorkTold) → RunState W → LinkSeen
run_seen told l = record (link_seen l.link) {
  left = answers_if l.link.tells (told l.link.host.talk.work);
  faults = l.faults;
}

-- a link of a starter: one of the starter below, or one to a host that runs a command
abbrev pub once_seen : {L W : Type 0} → (L → LinkSeen) → (W → WorkTold) → OnceLink L (RunState W) → LinkSeen
once_seen inner told = either_seen inner (run_seen told)

-- What was taken is a first part of a host's text of what was sent, and all of it if an end of input was met.
pub record HasTalk (told : WorkTold) (sent taken : Option (List ℕ)) (ends : ℕ) : Type 0 where
  pub sent_all : List ℕ
  pub taken_all : List ℕ
  pub left : List ℕ
  pub sent_is : sent ≡ Some sent_all
  pub taken_is : taken ≡ Some taken_all
  pub text : HasText told smudge_alone 1 sent_all (taken_all ++ left)
  pub whole : 0 < ends → left ≡ []

pub record IsRunLink {W : Type 0} (told : W → WorkTold) (l : RunState W) : Type 0 where
  pub going : l.over ≡ false → l.link.ends ≡ 0
  pub faults : 0 < l.faults → l.over ≡ true
  pub ended : l.over ≡ true → 0 < l.link.ends
  pub caps : l.link.host.talk.own ≡ smudge_alone
  pub batch : l.link.host.talk.batch ≡ 1
  pub plain : (replies : Replies) → (told l.link.host.talk.work).runs ≡ Some replies
      → told l.link.host.talk.work ≡ told_by replies
  pub text : l.link.tells ≡ true
      → HasTalk (told l.link.host.talk.work) (link_seen l.link).sent (link_seen l.link).taken l.link.ends

-- a link as its starter keeps it
abbrev pub record_of : LinkSeen → SessionHad
record_of link = record {
  sent = link.sent;
  taken = link.taken;
  replies = replies_in link.left;
  faults = link.faults;
  ends = link.ends;
  shut = is_shut link.stage;
}

-- a session whose driver's answers are told is a talk with a host that makes these choices
abbrev pub IsServed : SessionHad → Type 0
IsServed seen = (replies : Replies) → seen.replies ≡ Some replies
    → HasTalk (told_by replies) seen.sent seen.taken seen.ends × (0 < seen.faults → 0 < seen.ends)

-- no link tells how its driver answers
abbrev pub TellNoAnswers : {L : Type 0} → (L → LinkSeen) → Type 0
TellNoAnswers {L} seen = (l : L) → replies_in (seen l).left ≡ None

abbrev pub AreServed : List Had → Type 0
AreServed [] = Unit {0}
AreServed (Session seen ∷ hs) = IsServed seen × AreServed hs
AreServed (StartFailed ∷ hs) = AreServed hs
AreServed (StartOutOfMemory ∷ hs) = AreServed hs
