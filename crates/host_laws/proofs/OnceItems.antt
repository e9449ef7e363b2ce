-- A talk with hosts of single runs, session by session.
use Rattle.std.proofs.Common.{◌≡◌, ℕ, ◌≤◌, true, false, List, [], ◌∷◌, ◌++◌, refl, sym, ap, ◌∙◌, subst}
use Rattle.std.proofs.Common.{append_assoc, arith}
use Rattle.pkt_line.specs.Packets.{Packet, SpellAll, total}
use Rattle.pkt_line.specs.Spelling.{spelling_all}
use Rattle.filter_words.specs.Outcomes.{limit}
use Rattle.filter_words.specs.Requests.{hello_packets, caps_packets}
use Rattle.filter_words.specs.Handshake.{handshake_step, handshake_start}
use Rattle.filter_words.specs.declared.reply.Caps.{Caps}
use Rattle.filter_words.specs.declared.reply.BreakCause.{BreakCause}
use Rattle.edge_kit.specs.Starters.{Had, Session, StartFailed, StartOutOfMemory, SessionHad}
use Rattle.filter_proto.specs.Exchanges.{Ends, Good, Broke, OutOfMemory}
use Rattle.filter_proto.specs.Openings.{BeginsHello}
use Rattle.checkout_core.specs.Talks.{Talk, Between, IsOver, opened}
use Rattle.driver_line.specs.Conversations.{Exchange, NoStart, NoRoom, Opening, First, Listing, Second, Shutting, LeadsTo}
use Rattle.driver_line.specs.Lines.{Paths}
use Rattle.driver_line.specs.Transcripts.{IsSession, IsOpenedSession, IsFailedSession, Matches, Spoken}
use Rattle.driver_line.specs.SameHeard.{NoneWanting}
use Rattle.driver_host.specs.Requests.{Hello, Offer, IsRequest}
use Rattle.driver_host.specs.Answers.{hello_answer, caps_answer, both}
use Rattle.driver_host.specs.HostText.{Fresh, HostEnd}
use Rattle.driver_host.specs.Chosen.{none_asked}
use Rattle.one_shot.specs.Onces.{RunsTold}
use Rattle.one_shot.specs.Replies.{smudge_alone}
use Rattle.one_shot.specs.Works.{work_told}
use Rattle.host_laws.specs.HostTalks.{IsHostSession}
use Rattle.host_laws.specs.Exchanges.{HandshakesAreGood, offered}
use Rattle.host_laws.specs.OnceTalks.{IsOnceSession, AreOnce, AreTold}
use Rattle.host_laws.proofs.Small.{AreSmall, spelled}
use Rattle.host_laws.proofs.Good.{spelled_both}
use Rattle.host_laws.proofs.Ended.{IsQuiet, heard_of, calm}
use Rattle.host_laws.proofs.Served.{IsOutside, sent_packets, text_left}
use Rattle.host_laws.proofs.Opened.{AskForPaths, host_awaits, sent_is, small_sent, hands_are, told_is, hands_caps}
use Rattle.host_laws.proofs.Hosted.{outside_of, wants_front, asks_front, opened_start}
use Rattle.host_laws.proofs.OnceSteps.{serving, Chooses, after_hello, after_offer}
use Rattle.host_laws.proofs.OnceSessions.{OnceLaws, HearWell, AreAsked, walk}

-- the second of two parts

later_wants : (es fs : List Exchange) → NoneWanting (es ++ fs) → NoneWanting fs
later_wants [] fs h = h
later_wants (e ∷ es) fs h = later_wants es fs h.1

later_asks : (paths : Paths) (es fs : List Exchange) → AskForPaths paths (es ++ fs) → AskForPaths paths fs
later_asks paths [] fs h = h
later_asks paths (First p y c ∷ es) fs h = later_asks paths es fs h.1
later_asks paths (Second p y c ∷ es) fs h = later_asks paths es fs h.1
later_asks paths (Listing late names y ∷ es) fs h = later_asks paths es fs h
later_asks paths (NoStart p ∷ es) fs h = later_asks paths es fs h
later_asks paths (NoRoom p ∷ es) fs h = later_asks paths es fs h
later_asks paths (Opening p end ∷ es) fs h = later_asks paths es fs h
later_asks paths (Shutting ∷ es) fs h = later_asks paths es fs h

-- an opened session: its host serves from here on
record HasServing (tells : RunsTold) (command : List ℕ) (paths : Paths) (caps : Caps) (es : List Exchange) (left : List ℕ) (end : HostEnd)
    : Type 0 where
  caps_are : caps ≡ smudge_alone
  later : List Packet
  sent : List ℕ
  taken : List ℕ
  next : Chooses (work_told tells command) serving (sent_packets paths caps es) later end
  output : spelling_all later ≡ taken ++ left
  spoken : Spoken paths caps es sent taken

module _ (laws : OnceLaws) (handshakes : HandshakesAreGood) (hello : IsRequest Hello hello_packets) (offer : IsRequest (Offer offered) caps_packets) (tells : RunsTold) (command : List ℕ) (paths : Paths) where
  hands : (caps : Caps) (es : List Exchange) (seen : SessionHad) (s : IsOnceSession (work_told tells command) seen)
      → IsOpenedSession paths caps es seen → NoneWanting es → AskForPaths paths es
      → HasServing tells command paths caps es s.host.left s.end
  hands caps es seen s o wants asks =
      let h = s.host in
      let quiet : IsQuiet seen h.left = (h.unfailed, h.whole) in
      let after = sent_packets paths caps es in
      let all = (hello_packets ++ caps_packets) ++ after in
      let small : AreSmall all =
      (omega arith, (omega arith, (omega arith, (omega arith, (omega arith, (omega arith, (omega arith, small_sent paths caps es asks))))))) in
      let bytes : h.sent ≡ spelling_all all =
      told_is seen.sent h.sent o.sent h.sent_is o.sent_is
      ∙ (o.texts
      ∙ (ap (λ (z : List ℕ). z ++ o.more) hands_are
      ∙ (ap (λ (z : List ℕ). spelling_all (hello_packets ++ caps_packets) ++ z)
      (sent_is paths caps seen h.left es o.more o.later quiet o.spoken o.counts wants)
      ∙ sym (spelled_both (hello_packets ++ caps_packets) after)))) in
      let spelled_all = subst (λ (z : List ℕ). SpellAll all z) (sym bytes) (spelled laws.spells all small) in
      let waits : Chooses (work_told tells command) Fresh all h.text.answers s.end = record {
        waits = host_awaits laws.packets smudge_alone 1 seen s.end all h spelled_all;
        contents = none_asked;
        last = s.contents;
        chosen = s.chosen;
      } in
      let output : spelling_all h.text.answers ≡ h.taken ++ h.left = sym h.text.text_is in
      let parts : h.taken ≡ o.used ++ o.later = told_is seen.taken h.taken o.taken h.taken_is o.taken_is ∙ o.parts in
      let split = subst (λ (z : List Packet). Chooses (work_told tells command) Fresh z h.text.answers s.end)
      (append_assoc hello_packets caps_packets after) waits in
      let x = handshakes smudge_alone 1 after h.text.answers s.end o.used o.later (Good caps) split.waits
      (heard_of handshake_step handshake_start (spelling_all h.text.answers) h.taken o.used o.later h.left (Good caps)
      BeginsHello seen output parts o.opened (calm seen h.left (Good caps) quiet tt refl)) in
      let few : total hello_packets ≤ limit = omega arith in
      let some : total caps_packets ≤ limit = omega arith in
      let one = after_hello laws.packets (work_told tells command) hello_packets (caps_packets ++ after) h.text.answers s.end hello few split in
      let two = after_offer laws.packets (work_told tells command) caps_packets after one.later s.end offer some one.next in
      let both_are = hello_answer ++ caps_answer (both smudge_alone offered) in
      record {
        caps_are = hands_caps caps (both smudge_alone offered) x.good;
        later = two.later;
        sent = o.more;
        taken = o.later;
        next = two.next;
        output = text_left h.text.answers both_are two.later h.taken o.used o.later h.left
            (one.whole
            ∙ (ap (λ (z : List Packet). hello_answer ++ z) two.whole
            ∙ sym (append_assoc hello_answer (caps_answer (both smudge_alone offered)) two.later)))
            output parts x.used_is;
        spoken = o.spoken;
      }

  module _ (asked : List ℕ) (told : AreTold tells command paths asked) (d : ℕ) (u : Talk) (over : IsOver u) (never_fails : (seen : SessionHad) (end : HostEnd) (why : BreakCause) → IsHostSession smudge_alone 1 seen end → IsFailedSession (Broke why) seen → ⊥) where
    abbrev Hears : List ℕ → List Exchange → Type 0
    Hears rest es = HearWell laws tells command paths asked told d rest es

    abbrev Among : List ℕ → Type 0
    Among rest = AreAsked laws tells command paths asked told d rest

    opened_item : (p : ℕ) (caps : Caps) (es more : List Exchange) (seen : SessionHad) (rest : List ℕ) → Among rest
        → (s : IsOnceSession (work_told tells command) seen) → IsOpenedSession paths caps es seen → IsOutside more
        → NoneWanting (es ++ more) → AskForPaths paths (es ++ more) → (mid : Talk) → mid ≡ opened caps rest
        → LeadsTo d mid (es ++ more) u
        → ((after : List ℕ) → Among after → LeadsTo d (Between after) more u → Hears after more)
        → Hears rest (Opening p (Good caps) ∷ (es ++ more))
    opened_item p caps es more seen rest are s o outside wants asks mid mid_is leads onward =
        let h = s.host in
        let x = hands caps es seen s o (wants_front es more wants) (asks_front paths es more asks) in
        subst (λ (c : Caps). Hears rest (Opening p (Good c) ∷ (es ++ more))) (sym x.caps_are)
        (walk laws tells command paths asked told d seen h.left (h.unfailed, h.whole) s.end more outside u over es rest
        x.later x.sent x.taken are (asks_front paths es more asks)
        (subst (λ (c : Caps). Chooses (work_told tells command) serving (sent_packets paths c es) x.later s.end) x.caps_are x.next)
        x.output
        (subst (λ (c : Caps). Spoken paths c es x.sent x.taken) x.caps_are x.spoken)
        o.counts (wants_front es more wants)
        (subst (λ (t : Talk). LeadsTo d t (es ++ more) u) (mid_is ∙ ap (λ (c : Caps). opened c rest) x.caps_are) leads)
        onward)

    pub hears : (items : List Had) (es : List Exchange) (rest : List ℕ) → Among rest → Matches paths es items
        → AreOnce (work_told tells command) items → LeadsTo d (Between rest) es u → NoneWanting es
        → AskForPaths paths es → Hears rest es
    hears [] es rest are matches hosts leads wants asks = by_none rest
        (subst (λ (z : List Exchange). LeadsTo d (Between rest) z u) matches leads)
      where
        by_none : (xs : List ℕ) → Between xs ≡ u → Hears xs es
        by_none [] e p among = absurd (cc among)
        by_none (x ∷ xs) e p among = absurd (subst (λ (t : Talk). IsOver t) (sym e) over)
    hears (StartFailed ∷ hs) es rest are matches hosts leads wants asks = absurd hosts
    hears (StartOutOfMemory ∷ hs) es rest are matches hosts leads wants asks =
        let w = subst (λ (z : List Exchange). NoneWanting z) matches.2 wants in
        let no : true ≡ false = w.0 in absurd cc
    hears (Session seen ∷ hs) es rest are matches hosts leads wants asks =
        subst (λ (z : List Exchange). Hears rest z) (sym matches.4)
        (by_end matches.1 matches.5
        (subst (λ (z : List Exchange). LeadsTo d (Between rest) z u) matches.4 leads)
        (subst (λ (z : List Exchange). NoneWanting z) matches.4 wants)
        (subst (λ (z : List Exchange). AskForPaths paths z) matches.4 asks)
        (λ after among next w a. hears hs matches.3 after among matches.6 hosts.1 next w a))
      where
        by_end : (end : Ends Caps) → IsSession paths end matches.2 seen
            → LeadsTo d (Between rest) (Opening matches.0 end ∷ (matches.2 ++ matches.3)) u
            → NoneWanting (Opening matches.0 end ∷ (matches.2 ++ matches.3))
            → AskForPaths paths (Opening matches.0 end ∷ (matches.2 ++ matches.3))
            → ((after : List ℕ) → Among after → LeadsTo d (Between after) matches.3 u → NoneWanting matches.3
            → AskForPaths paths matches.3 → Hears after matches.3)
            → Hears rest (Opening matches.0 end ∷ (matches.2 ++ matches.3))
        by_end (Good agreed) session l w a go =
            opened_item matches.0 agreed matches.2 matches.3 seen rest are hosts.0 session
            (outside_of paths hs matches.3 matches.6) w.1 a l.0 (opened_start d agreed rest l.0 l.2) l.3
            (λ after among next. go after among next (later_wants matches.2 matches.3 w.1) (later_asks paths matches.2 matches.3 a))
        by_end (Broke why) session l w a go = absurd (never_fails seen hosts.0.end why hosts.0.host session.1)
        by_end OutOfMemory session l w a go = let no : true ≡ false = w.0 in absurd cc
