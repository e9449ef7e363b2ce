-- A session with a host of single runs was opened without `delay`, whatever came of its exchanges.
use Rattle.std.proofs.Common.{◌≡◌, inl, inr, false, List, [], ◌∷◌, ◌++◌, ℕ, refl, sym, ap, ◌∙◌, subst}
use Rattle.std.proofs.Common.{append_assoc, append-nil}
use Rattle.pkt_line.specs.Packets.{Packet}
use Rattle.pkt_line.specs.Spelling.{spelling_all}
use Rattle.filter_words.specs.Handshake.{handshake_step, handshake_start}
use Rattle.filter_words.specs.declared.reply.Caps.{Caps}
use Rattle.filter_words.specs.declared.handshake.HandshakePhase.{HandshakePhase}
use Rattle.edge_kit.specs.Starters.{Had, Session, StartFailed, StartOutOfMemory, SessionHad}
use Rattle.filter_proto.specs.Exchanges.{Ends, Good, Broke, OutOfMemory}
use Rattle.filter_proto.specs.Openings.{BeginsHello}
use Rattle.driver_line.specs.Conversations.{Exchange, NoStart, NoRoom, Opening, First, Listing, Second, Shutting}
use Rattle.driver_line.specs.Lines.{Paths}
use Rattle.driver_line.specs.Parts.{IsOnePart}
use Rattle.driver_line.specs.Transcripts.{IsPart, IsSession, IsOpenedSession, Matches, Spoken, MayCut}
use Rattle.driver_host.specs.declared.work.Choice.{Choice}
use Rattle.driver_host.specs.Requests.{Request, Hello, Offer, Smudge, Listing as ListRequest}
use Rattle.driver_host.specs.Answers.{hello_answer, caps_answer, both}
use Rattle.driver_host.specs.HostText.{Stage, Fresh, Greeted, HostEnd, Answers, AllAnswered}
use Rattle.driver_host.specs.Works.{WorkTold}
use Rattle.one_shot.specs.Replies.{smudge_alone}
use Rattle.host_laws.specs.HostTalks.{IsHostSession}
use Rattle.host_laws.specs.OnceTalks.{AreOnce}
use Rattle.host_laws.proofs.Good.{host_part, spelled_both}
use Rattle.host_laws.proofs.Ended.{heard_of}
use Rattle.host_laws.proofs.Opened.{told_is, hands_caps}

-- the answers of a host are a first part of ones that begin with its two handshake answers
record BeginsPlain (answers : List Packet) : Type 0 where
  caps : Caps
  plain : caps.delay ≡ false
  missing : List Packet
  more : List Packet
  whole : answers ++ missing ≡ (hello_answer ++ caps_answer caps) ++ more

abbrev plain_start : (answers : List Packet) → answers ≡ [] → BeginsPlain answers
plain_start answers none = record {
  caps = smudge_alone;
  plain = refl;
  missing = hello_answer ++ caps_answer smudge_alone;
  more = [];
  whole = ap (λ (z : List Packet). z ++ (hello_answer ++ caps_answer smudge_alone)) none
      ∙ sym (append-nil (hello_answer ++ caps_answer smudge_alone));
}

-- the answers after the first one
plain_second : (s t : Stage) (requests : List Request) (choices : List Choice) (answers : List Packet) → s ≡ Greeted
    → AllAnswered smudge_alone 1 s requests choices answers t → BeginsPlain (hello_answer ++ answers)
plain_second s t [] choices answers greeted all = record {
  caps = smudge_alone;
  plain = refl;
  missing = caps_answer smudge_alone;
  more = [];
  whole = ap (λ (z : List Packet). (hello_answer ++ z) ++ caps_answer smudge_alone) all.1
      ∙ (ap (λ (z : List Packet). z ++ caps_answer smudge_alone) (append-nil hello_answer)
      ∙ sym (append-nil (hello_answer ++ caps_answer smudge_alone)));
}
plain_second s t (r ∷ rs) choices answers greeted all =
    by r (subst (λ (z : Stage). Answers smudge_alone 1 z r all.1 all.3 all.0) greeted all.7)
  where
    by : (q : Request) → Answers smudge_alone 1 Greeted q all.1 all.3 all.0 → BeginsPlain (hello_answer ++ answers)
    by (Offer offered) is = record {
      caps = both smudge_alone offered;
      plain = refl;
      missing = [];
      more = all.4;
      whole = append-nil (hello_answer ++ answers)
          ∙ (ap (λ (z : List Packet). hello_answer ++ z) (all.6 ∙ ap (λ (z : List Packet). z ++ all.4) is.1)
          ∙ sym (append_assoc hello_answer (caps_answer (both smudge_alone offered)) all.4));
    }
    by Hello is = absurd is
    by (Smudge p d c) is = absurd is
    by ListRequest is = absurd is

begins_plain : (t : Stage) (requests : List Request) (choices : List Choice) (answers : List Packet)
    → AllAnswered smudge_alone 1 Fresh requests choices answers t → BeginsPlain answers
begins_plain t [] choices answers all = plain_start answers all.1
begins_plain t (r ∷ rs) choices answers all = by r all.7
  where
    by : (q : Request) → Answers smudge_alone 1 Fresh q all.1 all.3 all.0 → BeginsPlain answers
    by Hello is =
        subst (λ (z : List Packet). BeginsPlain z) (sym (all.6 ∙ ap (λ (z : List Packet). z ++ all.4) is.1))
        (plain_second all.0 t rs all.2 all.4 is.2 all.8)
    by (Offer offered) is = absurd is
    by (Smudge p d c) is = absurd is
    by ListRequest is = absurd is

-- each session of the exchanges was opened without `delay`
abbrev pub AllPlain : List Exchange → Type 0
AllPlain [] = Unit {0}
AllPlain (Opening p (Good caps) ∷ es) = (caps.delay ≡ false) × AllPlain es
AllPlain (Opening p (Broke why) ∷ es) = AllPlain es
AllPlain (Opening p OutOfMemory ∷ es) = AllPlain es
AllPlain (First p y c ∷ es) = AllPlain es
AllPlain (Second p y c ∷ es) = AllPlain es
AllPlain (Listing late names y ∷ es) = AllPlain es
AllPlain (NoStart p ∷ es) = AllPlain es
AllPlain (NoRoom p ∷ es) = AllPlain es
AllPlain (Shutting ∷ es) = AllPlain es

both_plain : (es fs : List Exchange) → AllPlain es → AllPlain fs → AllPlain (es ++ fs)
both_plain [] fs a b = b
both_plain (Opening p (Good caps) ∷ es) fs a b = (a.0, both_plain es fs a.1 b)
both_plain (Opening p (Broke why) ∷ es) fs a b = both_plain es fs a b
both_plain (Opening p OutOfMemory ∷ es) fs a b = both_plain es fs a b
both_plain (First p y c ∷ es) fs a b = both_plain es fs a b
both_plain (Second p y c ∷ es) fs a b = both_plain es fs a b
both_plain (Listing late names y ∷ es) fs a b = both_plain es fs a b
both_plain (NoStart p ∷ es) fs a b = both_plain es fs a b
both_plain (NoRoom p ∷ es) fs a b = both_plain es fs a b
both_plain (Shutting ∷ es) fs a b = both_plain es fs a b

-- no session is opened within one
no_opening_cut : (p : ℕ) (end : Ends Caps) → MayCut (Opening p end) → ⊥
no_opening_cut p end (inl e) = cc e
no_opening_cut p end (inr e) = cc e

within_plain : (paths : Paths) (caps : Caps) (es : List Exchange) (sent taken : List ℕ) → Spoken paths caps es sent taken
    → AllPlain es
within_plain paths caps [] sent taken spoken = tt
within_plain paths caps (Opening p end ∷ es) sent taken (inl (none, cut)) = absurd (no_opening_cut p end cut.may)
within_plain paths caps (Opening p end ∷ es) sent taken (inr s) = absurd s.5
within_plain paths caps (First p y c ∷ es) sent taken (inl (none, cut)) = subst (λ (z : List Exchange). AllPlain z) (sym none) tt
within_plain paths caps (First p y c ∷ es) sent taken (inr s) = within_plain paths caps es s.0 s.2 s.6
within_plain paths caps (Second p y c ∷ es) sent taken (inl (none, cut)) = subst (λ (z : List Exchange). AllPlain z) (sym none) tt
within_plain paths caps (Second p y c ∷ es) sent taken (inr s) = within_plain paths caps es s.0 s.2 s.6
within_plain paths caps (Listing late names y ∷ es) sent taken (inl (none, cut)) = subst (λ (z : List Exchange). AllPlain z) (sym none) tt
within_plain paths caps (Listing late names y ∷ es) sent taken (inr s) = within_plain paths caps es s.0 s.2 s.6
within_plain paths caps (NoStart p ∷ es) sent taken (inl (none, cut)) = subst (λ (z : List Exchange). AllPlain z) (sym none) tt
within_plain paths caps (NoStart p ∷ es) sent taken (inr s) = absurd s.5
within_plain paths caps (NoRoom p ∷ es) sent taken (inl (none, cut)) = subst (λ (z : List Exchange). AllPlain z) (sym none) tt
within_plain paths caps (NoRoom p ∷ es) sent taken (inr s) = absurd s.5
within_plain paths caps (Shutting ∷ es) sent taken (inl (none, cut)) = subst (λ (z : List Exchange). AllPlain z) (sym none) tt
within_plain paths caps (Shutting ∷ es) sent taken (inr s) = within_plain paths caps es s.0 s.2 s.6

-- the laws of handshakes on which this rests
pub record HandLaws : Type 0 where
  pub reads : (caps : Caps) (rest : List ℕ)
      → IsPart handshake_step handshake_start (spelling_all (hello_answer ++ caps_answer caps)) rest (Good caps) BeginsHello
  pub one : IsOnePart HandshakePhase Caps handshake_step handshake_start

module _ (laws : HandLaws) (told : WorkTold) (paths : Paths) where
  opened_plain : (caps : Caps) (es : List Exchange) (seen : SessionHad) (end : HostEnd) → IsHostSession smudge_alone 1 seen end
      → IsOpenedSession paths caps es seen → caps.delay ≡ false
  opened_plain caps es seen end h o =
      let b = begins_plain h.text.stage h.text.requests h.choices h.text.answers h.text.answered in
      let all = h.text.answers ++ b.missing in
      let ahead = h.left ++ spelling_all b.missing in
      let parts : h.taken ≡ o.used ++ o.later = told_is seen.taken h.taken o.taken h.taken_is o.taken_is ∙ o.parts in
      let output : spelling_all all ≡ h.taken ++ ahead =
      spelled_both h.text.answers b.missing
      ∙ (ap (λ (z : List ℕ). z ++ spelling_all b.missing) (sym h.text.text_is)
      ∙ append_assoc h.taken h.left (spelling_all b.missing)) in
      let same = laws.one (spelling_all all) o.used o.later (spelling_all (hello_answer ++ caps_answer b.caps)) (spelling_all b.more)
      (Good caps) (Good b.caps)
      (heard_of handshake_step handshake_start (spelling_all all) h.taken o.used o.later ahead (Good caps) BeginsHello seen
      output parts o.opened (record { settled = tt; ended = λ e. absurd (cc e) }))
      (host_part handshake_step handshake_start all (hello_answer ++ caps_answer b.caps) b.more b.caps BeginsHello b.whole
      (laws.reads b.caps (spelling_all b.more))) in
      ap (λ (c : Caps). c.delay) (hands_caps caps b.caps same.0) ∙ b.plain

  pub talk_plain : (es : List Exchange) (items : List Had) → Matches paths es items → AreOnce told items → AllPlain es
  talk_plain es [] matches hosts = subst (λ (z : List Exchange). AllPlain z) (sym matches) tt
  talk_plain es (StartFailed ∷ hs) matches hosts = absurd hosts
  talk_plain es (StartOutOfMemory ∷ hs) matches hosts =
      subst (λ (z : List Exchange). AllPlain z) (sym matches.2) (talk_plain matches.1 hs matches.3 hosts)
  talk_plain es (Session seen ∷ hs) matches hosts =
      subst (λ (z : List Exchange). AllPlain z) (sym matches.4)
      (by_end matches.1 matches.5 (talk_plain matches.3 hs matches.6 hosts.1))
    where
      alone : matches.2 ≡ [] → AllPlain matches.3 → AllPlain (matches.2 ++ matches.3)
      alone none rest = both_plain matches.2 matches.3 (subst (λ (z : List Exchange). AllPlain z) (sym none) tt) rest

      by_end : (end : Ends Caps) → IsSession paths end matches.2 seen → AllPlain matches.3
          → AllPlain (Opening matches.0 end ∷ (matches.2 ++ matches.3))
      by_end (Good caps) session rest = (
        opened_plain caps matches.2 seen hosts.0.end hosts.0.host session,
        both_plain matches.2 matches.3 (within_plain paths caps matches.2 session.more session.later session.spoken) rest,
      )
      by_end (Broke why) session rest = alone session.0 rest
      by_end OutOfMemory session rest = alone session.0 rest
