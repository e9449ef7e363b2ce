-- A session with a host from its handshake on.
use Rattle.std.proofs.Common.{◌≡◌, inl, inr, ℕ, ◌≤◌, Bool, true, false, cond, List, [], ◌∷◌, ◌++◌}
use Rattle.std.proofs.Common.{Option, Some, map, length, refl, sym, ap, ◌∙◌, subst, arith, append_assoc, length-append}
use Rattle.std.specs.Prelude.{codes}
use Rattle.hex.specs.Hex.{encode_lower}
use Rattle.pkt_line.specs.Packets.{Packet, Flush, Spells, SpellAll, total, pkt_len}
use Rattle.pkt_line.specs.Spelling.{spelling, spelling_all, content_packets, piece_count}
use Rattle.filter_words.specs.Outcomes.{limit}
use Rattle.filter_words.specs.Requests.{line, hello_packets, caps_packets, smudge_packets, smudge_keys, hello_text}
use Rattle.filter_words.specs.Requests.{caps_text, list_text, first_text, second_text, can_delay_line}
use Rattle.filter_words.specs.Handshake.{handshake_step, handshake_start}
use Rattle.filter_words.specs.declared.reply.Caps.{Caps}
use Rattle.edge_kit.specs.Told.{Tells}
use Rattle.edge_kit.specs.Starters.{SessionHad}
use Rattle.delay_table.specs.Table.{contains}
use Rattle.filter_proto.specs.Exchanges.{Ends, Good, Broke, OutOfMemory}
use Rattle.filter_proto.specs.Openings.{BeginsHello}
use Rattle.checkout_core.specs.declared.event.Event.TheVariants as ev
use Rattle.checkout_core.specs.Talks.{Talk, Refusing, InRound, Ended, Round, IsOver, opened}
use Rattle.driver_line.specs.Conversations.{Exchange, NoStart, NoRoom, Opening, First, Listing, Second, Shutting}
use Rattle.driver_line.specs.Conversations.{notes_of, LeadsTo}
use Rattle.driver_line.specs.Lines.{Paths}
use Rattle.driver_line.specs.Transcripts.{request_of, Spoken, AllFit, IsOpenedSession}
use Rattle.driver_line.specs.SameHeard.{NoneWanting, HaveTexts}
use Rattle.driver_host.specs.Answers.{both, hello_answer, caps_answer}
use Rattle.driver_host.specs.HostText.{Fresh, Serving, HostEnd, none_owed}
use Rattle.host_laws.specs.HostTalks.{RequestsFit, IsPath, ArePaths, IsHostSession, times_in}
use Rattle.host_laws.specs.Awaiting.{Awaits}
use Rattle.host_laws.specs.Exchanges.{RepliesAreGood, ListsAreGood, HandshakesAreGood, offered}
use Rattle.host_laws.proofs.Good.{spelled_both}
use Rattle.host_laws.proofs.Small.{AreSmall, spelled, small_pieces, both_small}
use Rattle.host_laws.proofs.OneParse.{PacketLaws, spelled_front}
use Rattle.host_laws.proofs.Ended.{IsQuiet, not_cut, heard_of, calm}
use Rattle.host_laws.proofs.Served.{Agrees, IsWell, IsOutside, AllShort, request_packets, sent_packets, session, text_left}
use Rattle.host_laws.proofs.Served.{fate_shut, both_none}
use Rattle.host_laws.proofs.Rounds.{run_cons, one_step, nothing_more}
use Rattle.filter_words.specs.declared.reply.ListReply.TheVariants as list
use Rattle.checkout_core.specs.declared.event.OpenCause.TheVariants as opening
use Rattle.checkout_core.specs.Talks.{talk_run}

-- what is asked for is a path
abbrev pub AskForPaths : Paths → List Exchange → Type 0
AskForPaths paths [] = Unit {0}
AskForPaths paths (First p y c ∷ es) = IsPath (paths.text p) (paths.name p) × AskForPaths paths es
AskForPaths paths (Second p y c ∷ es) = IsPath (paths.text p) (paths.name p) × AskForPaths paths es
AskForPaths paths (e ∷ es) = AskForPaths paths es

abbrev pub SpellsLaw : Type 0
SpellsLaw = (p : Packet) → pkt_len p ≤ 65520 → Spells p (spelling p)

-- no start is among the exchanges of a session
abbrev pub NoOpening : List Exchange → Type 0
NoOpening [] = Unit {0}
NoOpening (Opening p end ∷ es) = ⊥
NoOpening (e ∷ es) = NoOpening es

no_opening : (paths : Paths) (caps : Caps) (seen : SessionHad) (left : List ℕ) (es : List Exchange) (sent taken : List ℕ)
    → IsQuiet seen left → Spoken paths caps es sent taken → AllFit seen es → NoneWanting es → NoOpening es
no_opening paths caps seen left [] sent taken quiet spoken fit wants = tt
no_opening paths caps seen left (e ∷ es) sent taken quiet (inl cut) fit wants =
    absurd (not_cut seen left e quiet fit.0 wants.0 cut.1.may)
no_opening paths caps seen left (First p y c ∷ es) sent taken quiet (inr s) fit wants =
    no_opening paths caps seen left es s.0 s.2 quiet s.6 fit.1 wants.1
no_opening paths caps seen left (Second p y c ∷ es) sent taken quiet (inr s) fit wants =
    no_opening paths caps seen left es s.0 s.2 quiet s.6 fit.1 wants.1
no_opening paths caps seen left (Listing late names y ∷ es) sent taken quiet (inr s) fit wants =
    no_opening paths caps seen left es s.0 s.2 quiet s.6 fit.1 wants.1
no_opening paths caps seen left (Shutting ∷ es) sent taken quiet (inr s) fit wants =
    no_opening paths caps seen left es s.0 s.2 quiet s.6 fit.1 wants.1
no_opening paths caps seen left (NoStart p ∷ es) sent taken quiet (inr s) fit wants = absurd s.5
no_opening paths caps seen left (NoRoom p ∷ es) sent taken quiet (inr s) fit wants = absurd s.5
no_opening paths caps seen left (Opening p end ∷ es) sent taken quiet (inr s) fit wants = absurd s.5

-- the bytes of the requests

pub request_is : (paths : Paths) (caps : Caps) (e : Exchange)
    → request_of paths caps e ≡ spelling_all (request_packets paths caps e)
unfolding first_text second_text list_text
request_is paths caps (First p y c) = refl
request_is paths caps (Listing late names y) = refl
request_is paths caps (Second p y c) = refl
request_is paths caps (NoStart p) = refl
request_is paths caps (NoRoom p) = refl
request_is paths caps (Opening p end) = refl
request_is paths caps Shutting = refl

pub hands_are : hello_text ++ caps_text ≡ spelling_all (hello_packets ++ caps_packets)
unfolding hello_text caps_text
hands_are = sym (spelled_both hello_packets caps_packets)

pub sent_is : (paths : Paths) (caps : Caps) (seen : SessionHad) (left : List ℕ) (es : List Exchange) (sent taken : List ℕ)
    → IsQuiet seen left → Spoken paths caps es sent taken → AllFit seen es → NoneWanting es
    → sent ≡ spelling_all (sent_packets paths caps es)
sent_is paths caps seen left [] sent taken quiet spoken fit wants = spoken
sent_is paths caps seen left (e ∷ es) sent taken quiet (inl cut) fit wants =
    absurd (not_cut seen left e quiet fit.0 wants.0 cut.1.may)
sent_is paths caps seen left (e ∷ es) sent taken quiet (inr s) fit wants =
    s.3
    ∙ (ap (λ (z : List ℕ). z ++ s.0) (request_is paths caps e)
    ∙ (ap (λ (z : List ℕ). spelling_all (request_packets paths caps e) ++ z)
    (sent_is paths caps seen left es s.0 s.2 quiet s.6 fit.1 wants.1)
    ∙ sym (spelled_both (request_packets paths caps e) (sent_packets paths caps es))))

-- packets of the standard's length

small_line : (text : List ℕ) → length text ≤ 65515 → pkt_len (line text) ≤ 65520
small_line text le = let l = length-append text (10 ∷ []) in omega (arith, l, le)

small_delay : (d : Bool) → AreSmall (can_delay_line d ++ Flush ∷ [])
small_delay true = (omega arith, (omega arith, tt))
small_delay false = (omega arith, tt)

pub small_smudge : (path name : List ℕ) (d : Bool) (content : List ℕ) → IsPath path name
    → AreSmall (smudge_packets path name d content)
small_smudge path name d content is =
    let long = is.long in
    let forty = is.digits in
    let one = length-append (codes "pathname=") path in
    let two = length-append (codes "blob=") (encode_lower name) in
    both_small (smudge_keys path name d ++ content_packets content) (Flush ∷ [])
    (both_small (smudge_keys path name d) (content_packets content) (
      omega arith,
      (
        small_line (codes "pathname=" ++ path) (omega (arith, one, long)),
        (small_line (codes "blob=" ++ encode_lower name) (omega (arith, two, forty)), small_delay d),
      ),
    )
    (small_pieces (piece_count (length content)) content))
    (omega arith, tt)

pub small_sent : (paths : Paths) (caps : Caps) (es : List Exchange) → AskForPaths paths es
    → AreSmall (sent_packets paths caps es)
small_sent paths caps [] a = tt
small_sent paths caps (First p y c ∷ es) a =
    both_small (smudge_packets (paths.text p) (paths.name p) caps.delay (paths.content p)) (sent_packets paths caps es)
    (small_smudge (paths.text p) (paths.name p) caps.delay (paths.content p) a.0) (small_sent paths caps es a.1)
small_sent paths caps (Second p y c ∷ es) a =
    both_small (smudge_packets (paths.text p) (paths.name p) false []) (sent_packets paths caps es)
    (small_smudge (paths.text p) (paths.name p) false [] a.0) (small_sent paths caps es a.1)
small_sent paths caps (Listing late names y ∷ es) a = (omega arith, (omega arith, small_sent paths caps es a))
small_sent paths caps (NoStart p ∷ es) a = small_sent paths caps es a
small_sent paths caps (NoRoom p ∷ es) a = small_sent paths caps es a
small_sent paths caps (Opening p end ∷ es) a = small_sent paths caps es a
small_sent paths caps (Shutting ∷ es) a = small_sent paths caps es a

pub total_is : SpellsLaw → (ps : List Packet) → AreSmall ps → length (spelling_all ps) ≡ total ps
total_is law [] s = refl
total_is law (p ∷ ps) s =
    let one = (law p s.0).sized in
    let more = total_is law ps s.1 in
    let both = length-append (spelling p) (spelling_all ps) in
    omega (arith, one, more, both)

short_of : SpellsLaw → (paths : Paths) (caps : Caps) (e : Exchange) → AreSmall (request_packets paths caps e)
    → length (request_of paths caps e) ≤ limit → total (request_packets paths caps e) ≤ limit
short_of law paths caps e small le =
    let one = total_is law (request_packets paths caps e) small in
    let same = ap (λ (z : List ℕ). length z) (request_is paths caps e) in
    omega (arith, one, same, le)

all_short : SpellsLaw → (paths : Paths) (caps : Caps) (es : List Exchange) → AskForPaths paths es
    → NoOpening es → RequestsFit paths caps es → AllShort paths caps es
all_short law paths caps [] a none fit = tt
all_short law paths caps (First p y c ∷ es) a none fit = (
  short_of law paths caps (First p y c) (small_smudge (paths.text p) (paths.name p) caps.delay (paths.content p) a.0) fit.0,
  all_short law paths caps es a.1 none fit.1,
)
all_short law paths caps (Second p y c ∷ es) a none fit = (
  short_of law paths caps (Second p y c) (small_smudge (paths.text p) (paths.name p) false [] a.0) fit.0,
  all_short law paths caps es a.1 none fit.1,
)
all_short law paths caps (Listing late names y ∷ es) a none fit = (omega arith, all_short law paths caps es a none fit.1)
all_short law paths caps (NoStart p ∷ es) a none fit = (omega arith, all_short law paths caps es a none fit.1)
all_short law paths caps (NoRoom p ∷ es) a none fit = (omega arith, all_short law paths caps es a none fit.1)
all_short law paths caps (Opening p end ∷ es) a none fit = absurd none
all_short law paths caps (Shutting ∷ es) a none fit = (omega arith, all_short law paths caps es a none fit.1)

-- what a session tells is what it sent and took
pub told_is : (t : Option (List ℕ)) (x y : List ℕ) → t ≡ Some x → Tells t y → x ≡ y
told_is t x y e h = subst (λ (z : Option (List ℕ)). Tells z y) e h

pub hands_caps : (x y : Caps) → Good x ≡ Good y → x ≡ y
hands_caps x y e = ap (λ (z : Ends Caps). elim z [ Good c ↦ c | Broke w ↦ x | OutOfMemory ↦ x ]) e

-- the host's part of a session
abbrev pub host_awaits : PacketLaws → (own : Caps) (batch : ℕ) (seen : SessionHad) (end : HostEnd) (all : List Packet)
    → (h : IsHostSession own batch seen end) → SpellAll all h.sent → Awaits own batch Fresh all h.text.answers end
host_awaits laws own batch seen end all h spelled =
    let t = h.text in
    let f = spelled_front laws all t.packets h.sent t.read t.rest spelled t.spelled t.whole in
    record {
      requests = t.requests;
      packets = t.packets;
      more = f.more;
      rest = t.rest;
      choices = h.choices;
      stage = t.stage;
      whole = f.whole;
      spelled = f.spelled;
      are = t.are;
      answered = t.answered;
      fit = h.answers;
      ends = t.ends;
    }

-- the round that a session begins with
abbrev pub first_round : Caps → List ℕ → Round
first_round caps rest = record {
  delay = caps.delay;
  any_delayed = false;
  noting_list = false;
  rest = rest;
  late = [];
  turns = [];
}

first_agrees : (paths : Paths) (asked : List ℕ) (caps : Caps) (rest : List ℕ) → ((p : ℕ) → times_in p rest ≤ 1)
    → ((p : ℕ) → 1 ≤ times_in p rest → contains p asked ≡ true)
    → Agrees paths asked caps none_owed (first_round caps rest)
first_agrees paths asked caps rest once among = record {
  late = [];
  delayed = refl;
  listed = refl;
  alike = λ p. refl;
  once = λ p. (let o = once p in omega (arith, o));
  among = λ p some. among p (omega (arith, some));
  waits = λ e. absurd (cc e);
  none = λ e. (refl, refl);
  quiet = refl;
}

-- an opened session: its exchanges go well from the first round on
pub record HasHands (own : Caps) (batch : ℕ) (paths : Paths) (caps : Caps) (es : List Exchange) (seen : SessionHad)
    (left : List ℕ) (end : HostEnd) : Type 0 where
  pub later : List Packet
  pub sent : List ℕ
  pub taken : List ℕ
  pub next : Awaits own batch (Serving caps none_owed) (sent_packets paths caps es) later end
  pub output : spelling_all later ≡ taken ++ left
  pub spoken : Spoken paths caps es sent taken
  pub short : AllShort paths caps es

pub hands : PacketLaws → SpellsLaw → HandshakesAreGood → (own : Caps) (batch : ℕ) (paths : Paths) (caps : Caps)
    (es : List Exchange) (seen : SessionHad) (end : HostEnd) → (h : IsHostSession own batch seen end)
    → IsOpenedSession paths caps es seen → NoneWanting es → AskForPaths paths es → RequestsFit paths caps es
    → HasHands own batch paths caps es seen h.left end
hands laws law handshakes own batch paths caps es seen end h o wants asks fit =
    let quiet : IsQuiet seen h.left = (h.unfailed, h.whole) in
    let sent_packets_are = sent_packets paths caps es in
    let all = (hello_packets ++ caps_packets) ++ sent_packets_are in
    let small : AreSmall all =
    (omega arith, (omega arith, (omega arith, (omega arith, (omega arith, (omega arith, (omega arith, small_sent paths caps es asks))))))) in
    let bytes : h.sent ≡ spelling_all all =
    told_is seen.sent h.sent o.sent h.sent_is o.sent_is
    ∙ (o.texts
    ∙ (ap (λ (z : List ℕ). z ++ o.more) hands_are
    ∙ (ap (λ (z : List ℕ). spelling_all (hello_packets ++ caps_packets) ++ z)
    (sent_is paths caps seen h.left es o.more o.later quiet o.spoken o.counts wants)
    ∙ sym (spelled_both (hello_packets ++ caps_packets) sent_packets_are)))) in
    let awaits = host_awaits laws own batch seen end all h
    (subst (λ (z : List ℕ). SpellAll all z) (sym bytes) (spelled law all small)) in
    let output : spelling_all h.text.answers ≡ h.taken ++ h.left = sym h.text.text_is in
    let parts : h.taken ≡ o.used ++ o.later = told_is seen.taken h.taken o.taken h.taken_is o.taken_is ∙ o.parts in
    let x = handshakes own batch sent_packets_are h.text.answers end o.used o.later (Good caps)
    (subst (λ (z : List Packet). Awaits own batch Fresh z h.text.answers end)
    (append_assoc hello_packets caps_packets sent_packets_are) awaits)
    (heard_of handshake_step handshake_start (spelling_all h.text.answers) h.taken o.used o.later h.left (Good caps)
    BeginsHello seen output parts o.opened (calm seen h.left (Good caps) quiet tt refl)) in
    record {
      later = x.later;
      sent = o.more;
      taken = o.later;
      next = subst (λ (z : Caps). Awaits own batch (Serving z none_owed) sent_packets_are x.later end)
          (sym (hands_caps caps (both own offered) x.good)) x.next;
      output = text_left h.text.answers (hello_answer ++ caps_answer (both own offered)) x.later h.taken o.used o.later h.left x.whole output parts x.used_is;
      spoken = o.spoken;
      short = all_short law paths caps es asks
          (no_opening paths caps seen h.left es o.more o.later quiet o.spoken o.counts wants) fit;
    }

-- a driver that can't smudge

pub refusing_is : (d : ℕ) (e : Exchange) (mid : Talk) → talk_run d Refusing (notes_of d e) ≡ Some mid
    → (e ≡ Shutting) × (mid ≡ Ended)
refusing_is d Shutting mid h = (refl, sym (cc (one_step d Refusing (ev.Shut d) mid h)))
refusing_is d (NoStart p) mid h = absurd (cc (one_step d Refusing (ev.OpenFailed p opening.NotStarted) mid h))
refusing_is d (NoRoom p) mid h = absurd (cc (one_step d Refusing (ev.OpenFailed p opening.NoMemory) mid h))
refusing_is d (Opening p (Good caps)) mid h = absurd (cc (one_step d Refusing (ev.Opened d caps) mid h))
refusing_is d (Opening p (Broke why)) mid h = absurd (cc (one_step d Refusing (ev.OpenFailed p (opening.Broken why)) mid h))
refusing_is d (Opening p OutOfMemory) mid h = absurd (cc (one_step d Refusing (ev.OpenFailed p opening.NoMemory) mid h))
refusing_is d (First p r content) mid h = absurd (cc (one_step d Refusing (ev.Answered p r) mid h))
refusing_is d (Second p r content) mid h = absurd (cc (one_step d Refusing (ev.Redone p r) mid h))
refusing_is d (Listing late [] (list.Names n)) mid h = absurd (cc (one_step d Refusing (ev.Listed d (list.Names n)) mid h))
refusing_is d (Listing late (q ∷ names) (list.Names n)) mid h =
    let s = run_cons d Refusing (ev.Named q) (map ev.Named names ++ ev.Listed d (list.Names n) ∷ []) mid h in
    absurd (cc s.step)
refusing_is d (Listing late names list.Empty) mid h = absurd (cc (one_step d Refusing (ev.Listed d list.Empty) mid h))
refusing_is d (Listing late names list.Abort) mid h = absurd (cc (one_step d Refusing (ev.Listed d list.Abort) mid h))
refusing_is d (Listing late names (list.Broken why)) mid h = absurd (cc (one_step d Refusing (ev.Listed d (list.Broken why)) mid h))
refusing_is d (Listing late names list.NoMemory) mid h = absurd (cc (one_step d Refusing (ev.Listed d list.NoMemory) mid h))

refusing_well : (d : ℕ) (end : HostEnd) (es more : List Exchange) (u : Talk) (r : Round) → IsOutside more → IsOver u
    → r.turns ≡ [] → LeadsTo d Refusing (es ++ more) u → IsWell d end es more [] r
refusing_well d end [] [] u r outside over none leads = absurd (subst (λ (t : Talk). IsOver t) (sym leads) over)
refusing_well d end [] (e ∷ more) u r outside over none leads =
    let x = refusing_is d e leads.0 leads.2 in
    absurd (subst (λ (z : Exchange). IsOutside (z ∷ more)) x.0 outside)
refusing_well d end (e ∷ es) more u r outside over none leads =
    let x = refusing_is d e leads.0 leads.2 in
    let nothing = both_none es more (nothing_more d (es ++ more) leads.0 u x.1 leads.3) in
    let no_turns : (p : ℕ) → times_in p r.turns ≡ 0 = λ p. ap (λ (z : List ℕ). times_in p z) none in
    subst (λ (z : Exchange). IsWell d end (z ∷ es) more [] r) (sym x.0)
    (subst (λ (z : List Exchange). IsWell d end (Shutting ∷ z) more [] r) (sym nothing.0) (record {
      unbroken = (refl, tt);
      over = nothing.1;
      served = λ going p. (let t = no_turns p in record {
        listed = refl;
        redone = omega (arith, t);
        once = omega arith;
        told = λ f lost waiting e. lost (sym (fate_shut p d f) ∙ e);
      });
    }))

-- An opened session goes well.
pub opened_well : PacketLaws → SpellsLaw → HandshakesAreGood → RepliesAreGood → ListsAreGood → (own : Caps) (batch d : ℕ)
    (paths : Paths) (asked : List ℕ) (caps : Caps) (rest : List ℕ) (es more : List Exchange) (seen : SessionHad)
    (end : HostEnd) (u : Talk) → HaveTexts paths asked → ArePaths paths asked → ((p : ℕ) → times_in p rest ≤ 1)
    → ((p : ℕ) → 1 ≤ times_in p rest → contains p asked ≡ true) → (h : IsHostSession own batch seen end)
    → IsOpenedSession paths caps es seen → NoneWanting es → AskForPaths paths es → RequestsFit paths caps es
    → IsOutside more → IsOver u → LeadsTo d (opened caps rest) (es ++ more) u
    → IsWell d end es more [] (first_round caps rest)
unfolding first_agrees
opened_well laws law handshakes replies lists own batch d paths asked caps rest es more seen end u texts fine once among h o wants asks fit outside over leads =
    by_smudge caps.smudge refl
  where
    by_smudge : (b : Bool) → caps.smudge ≡ b → IsWell d end es more [] (first_round caps rest)
    by_smudge true e =
        let x = hands laws law handshakes own batch paths caps es seen end h o wants asks fit in
        session replies lists own batch h.text.batch_some caps e paths asked texts fine d seen h.left (h.unfailed, h.whole)
        end more outside u over es (first_round caps rest) none_owed x.later x.sent x.taken
        (first_agrees paths asked caps rest once among) x.next x.output x.spoken o.counts wants x.short
        (subst (λ (b : Bool). LeadsTo d (cond b (InRound (first_round caps rest)) Refusing) (es ++ more) u) e leads)
    by_smudge false e =
        refusing_well d end es more u (first_round caps rest) outside over refl
        (subst (λ (b : Bool). LeadsTo d (cond b (InRound (first_round caps rest)) Refusing) (es ++ more) u) e leads)
