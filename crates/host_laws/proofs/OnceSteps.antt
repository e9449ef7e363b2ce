-- What a host of a single run reads and answers next, with its choice.
use Rattle.std.proofs.Common.{◌≡◌, ℕ, ◌<◌, ◌≤◌, false, List, [], ◌∷◌, ◌++◌, refl, sym, ap, ◌∙◌, subst, append_assoc}
use Rattle.std.proofs.Common.{arith}
use Rattle.pkt_line.specs.Packets.{Packet, SpellAll, total}
use Rattle.filter_words.specs.Outcomes.{limit}
use Rattle.edge_kit.specs.Told.{Tells}
use Rattle.driver_host.specs.declared.work.Choice.{Choice}
use Rattle.driver_host.specs.Requests.{Request, Hello, Offer, Smudge, IsRequest, AreRequests}
use Rattle.driver_host.specs.Answers.{hello_answer, caps_answer, choice_answer, both}
use Rattle.driver_host.specs.HostText.{Stage, Fresh, Greeted, Serving, HostEnd, Answers, AllAnswered, EndsSo, MayChoose}
use Rattle.driver_host.specs.HostText.{none_owed, after_choice}
use Rattle.driver_host.specs.Chosen.{Contents, AreChosen, contents_after}
use Rattle.driver_host.specs.Works.{WorkTold}
use Rattle.one_shot.specs.Replies.{smudge_alone}
use Rattle.host_laws.specs.HostTalks.{AnswersFit}
use Rattle.host_laws.specs.Awaiting.{Awaits, MayCome}
use Rattle.host_laws.specs.Exchanges.{offered}
use Rattle.host_laws.proofs.OneParse.{PacketLaws, next_is, none_left}

abbrev pub serving : Stage
serving = Serving smudge_alone none_owed

-- each choice that follows is the told one
pub record Chooses (told : WorkTold) (s : Stage) (sent answers : List Packet) (end : HostEnd) : Type 0 where
  pub waits : Awaits smudge_alone 1 s sent answers end
  pub contents : Contents
  pub last : Contents
  pub chosen : AreChosen told smudge_alone 1 s contents waits.requests waits.choices waits.stage last

-- the request is answered, and then these packets are left to read
pub record HasNext (told : WorkTold) (s : Stage) (r : Request) (sent answers : List Packet) (end : HostEnd) : Type 0 where
  pub mid : Stage
  pub choices : List Choice
  pub first : List Packet
  pub later : List Packet
  pub whole : answers ≡ first ++ later
  pub is : Answers smudge_alone 1 s r choices first mid
  pub fit : total first ≤ limit
  pub next : Awaits smudge_alone 1 mid sent later end
  pub contents : Contents
  pub last : Contents
  pub chosen : AreChosen told smudge_alone 1 s contents (r ∷ next.requests) (choices ++ next.choices) next.stage last

next_at : PacketLaws → (told : WorkTold) (s t : Stage) (r : Request) (ps xs : List Packet) (end : HostEnd)
    (requests : List Request) (packets more answers : List Packet) (rest : List ℕ) (choices : List Choice)
    (contents last : Contents) → MayCome s r → IsRequest r ps → total ps ≤ limit → ps ++ xs ≡ packets ++ more
    → SpellAll more rest → AreRequests requests packets
    → (all : AllAnswered smudge_alone 1 s requests choices answers t)
    → AnswersFit smudge_alone 1 requests s t choices answers all → EndsSo t rest end
    → AreChosen told smudge_alone 1 s contents requests choices t last → HasNext told s r xs answers end
next_at laws told s t r ps xs end [] packets more answers rest choices contents last may a le whole spelled are all fit ends chosen =
    absurd (none_left laws s r ps xs rest end may a le
    (subst (λ (z : List Packet). SpellAll z rest) (sym (whole ∙ ap (λ (z : List Packet). z ++ more) are)) spelled)
    (subst (λ (z : Stage). EndsSo z rest end) (sym all.2) ends))
next_at laws told s t r ps xs end (q ∷ rs) packets more answers rest choices contents last may a le whole spelled are all fit ends chosen =
    let same = next_is smudge_alone 1 s all.0 r q all.1 all.3 ps are.0 xs (are.1 ++ more) may a are.3 all.7
    (sym (append_assoc are.0 are.1 more) ∙ (ap (λ (z : List Packet). z ++ more) (sym are.2) ∙ sym whole)) in
    record {
      mid = all.0;
      choices = all.1;
      first = all.3;
      later = all.4;
      whole = all.6;
      is = subst (λ (z : Request). Answers smudge_alone 1 s z all.1 all.3 all.0) same.0 all.7;
      fit = fit.0;
      next = record {
        requests = rs;
        packets = are.1;
        more = more;
        rest = rest;
        choices = all.2;
        stage = t;
        whole = sym same.2;
        spelled = spelled;
        are = are.5;
        answered = all.8;
        fit = fit.1;
        ends = ends;
      };
      contents = contents;
      last = last;
      chosen = subst (λ (z : Request). AreChosen told smudge_alone 1 s contents (z ∷ rs) (all.1 ++ all.2) t last) same.0
          (subst (λ (z : List Choice). AreChosen told smudge_alone 1 s contents (q ∷ rs) z t last) all.5 chosen);
    }

next : PacketLaws → (told : WorkTold) (s : Stage) (r : Request) (ps xs answers : List Packet) (end : HostEnd)
    → MayCome s r → IsRequest r ps → total ps ≤ limit → Chooses told s (ps ++ xs) answers end
    → HasNext told s r xs answers end
next laws told s r ps xs answers end may a le c =
    let w = c.waits in
    next_at laws told s w.stage r ps xs end w.requests w.packets w.more answers w.rest w.choices c.contents c.last may a le
    w.whole w.spelled w.are w.answered w.fit w.ends c.chosen

-- a request that is over the limit is never answered
long_at : PacketLaws → (told : WorkTold) (s t : Stage) (r : Request) (ps xs : List Packet) (requests : List Request)
    (packets more answers : List Packet) (choices : List Choice) → MayCome s r → IsRequest r ps → limit < total ps
    → ps ++ xs ≡ packets ++ more → AreRequests requests packets
    → AllAnswered smudge_alone 1 s requests choices answers t → answers ≡ []
long_at laws told s t r ps xs [] packets more answers choices may a long whole are all = all.1
long_at laws told s t r ps xs (q ∷ rs) packets more answers choices may a long whole are all =
    let same = next_is smudge_alone 1 s all.0 r q all.1 all.3 ps are.0 xs (are.1 ++ more) may a are.3 all.7
    (sym (append_assoc are.0 are.1 more) ∙ (ap (λ (z : List Packet). z ++ more) (sym are.2) ∙ sym whole)) in
    let size = ap (λ (z : List Packet). total z) same.1 in
    let short = are.4 in
    absurd (omega (arith, long, size, short))

pub no_answer : PacketLaws → (told : WorkTold) (s : Stage) (r : Request) (ps xs answers : List Packet) (end : HostEnd)
    → MayCome s r → IsRequest r ps → limit < total ps → Chooses told s (ps ++ xs) answers end → answers ≡ []
no_answer laws told s r ps xs answers end may a long c =
    let w = c.waits in
    long_at laws told s w.stage r ps xs w.requests w.packets w.more answers w.choices may a long w.whole w.are w.answered

-- the two requests of a handshake

pub record HasLater (told : WorkTold) (s : Stage) (first sent answers : List Packet) (end : HostEnd) : Type 0 where
  pub later : List Packet
  pub whole : answers ≡ first ++ later
  pub next : Chooses told s sent later end

pub after_hello : PacketLaws → (told : WorkTold) (ps xs answers : List Packet) (end : HostEnd) → IsRequest Hello ps
    → total ps ≤ limit → Chooses told Fresh (ps ++ xs) answers end → HasLater told Greeted hello_answer xs answers end
after_hello laws told ps xs answers end a le c =
    let n = next laws told Fresh Hello ps xs answers end tt a le c in
    record {
      later = n.later;
      whole = n.whole ∙ ap (λ (z : List Packet). z ++ n.later) n.is.1;
      next = subst (λ (z : Stage). Chooses told z xs n.later end) n.is.2 (record {
        waits = n.next;
        contents = n.contents;
        last = n.last;
        chosen = subst (λ (z : Stage). AreChosen told smudge_alone 1 z n.contents n.next.requests n.next.choices n.next.stage n.last)
            (sym n.is.2)
            (subst (λ (z : List Choice). AreChosen told smudge_alone 1 Greeted n.contents n.next.requests (z ++ n.next.choices) n.next.stage n.last)
            n.is.0 n.chosen);
      });
    }

pub after_offer : PacketLaws → (told : WorkTold) (ps xs answers : List Packet) (end : HostEnd)
    → IsRequest (Offer offered) ps → total ps ≤ limit → Chooses told Greeted (ps ++ xs) answers end
    → HasLater told serving (caps_answer (both smudge_alone offered)) xs answers end
after_offer laws told ps xs answers end a le c =
    let n = next laws told Greeted (Offer offered) ps xs answers end tt a le c in
    record {
      later = n.later;
      whole = n.whole ∙ ap (λ (z : List Packet). z ++ n.later) n.is.1;
      next = subst (λ (z : Stage). Chooses told z xs n.later end) n.is.2 (record {
        waits = n.next;
        contents = n.contents;
        last = n.last;
        chosen = subst (λ (z : Stage). AreChosen told smudge_alone 1 z n.contents n.next.requests n.next.choices n.next.stage n.last)
            (sym n.is.2)
            (subst (λ (z : List Choice). AreChosen told smudge_alone 1 serving n.contents n.next.requests (z ++ n.next.choices) n.next.stage n.last)
            n.is.0 n.chosen);
      });
    }

-- a request for a path

pub record HasChoice (told : WorkTold) (path content : List ℕ) (sent answers : List Packet) (end : HostEnd) : Type 0 where
  pub choice : Choice
  pub is : Tells (told.first path content false) choice
  pub may : MayChoose none_owed path false choice
  pub fit : total (choice_answer choice) ≤ limit
  pub later : List Packet
  pub whole : answers ≡ choice_answer choice ++ later
  pub next : Chooses told (after_choice smudge_alone none_owed path choice) sent later end

abbrev pub head_of : Choice → List Choice → Choice
head_of d [] = d
head_of d (c ∷ cs) = c

abbrev pub tail_of : List Choice → List Choice
tail_of [] = []
tail_of (c ∷ cs) = cs

pub choose : PacketLaws → (told : WorkTold) (path content : List ℕ) (ps xs answers : List Packet) (end : HostEnd)
    → IsRequest (Smudge path false content) ps → total ps ≤ limit → Chooses told serving (ps ++ xs) answers end
    → HasChoice told path content xs answers end
choose laws told path content ps xs answers end a le c =
    let n = next laws told serving (Smudge path false content) ps xs answers end (refl, refl) a le c in
    let x = n.is.2 in
    let h = n.chosen in
    let same : h.0 ∷ h.1 ≡ x.0 ∷ n.next.choices =
    sym h.2 ∙ ap (λ (z : List Choice). z ++ n.next.choices) x.1 in
    let one : h.0 ≡ x.0 = ap (λ (z : List Choice). head_of h.0 z) same in
    let others : h.1 ≡ n.next.choices = ap (λ (z : List Choice). tail_of z) same in
    let stage : n.mid ≡ after_choice smudge_alone none_owed path x.0 = x.4 in
    let contents = contents_after n.contents false path content in
    record {
      choice = x.0;
      is = subst (λ (z : Choice). Tells (told.first path content false) z) one h.3;
      may = x.2;
      fit = subst (λ (z : List Packet). total z ≤ limit) x.3 n.fit;
      later = n.later;
      whole = n.whole ∙ ap (λ (z : List Packet). z ++ n.later) x.3;
      next = subst (λ (z : Stage). Chooses told z xs n.later end) stage (record {
        waits = n.next;
        contents = contents;
        last = n.last;
        chosen = subst (λ (z : Stage). AreChosen told smudge_alone 1 z contents n.next.requests n.next.choices n.next.stage n.last)
            (sym stage)
            (subst (λ (z : Choice). AreChosen told smudge_alone 1 (after_choice smudge_alone none_owed path z) contents n.next.requests n.next.choices n.next.stage n.last)
            one
            (subst (λ (z : List Choice). AreChosen told smudge_alone 1 (after_choice smudge_alone none_owed path h.0) contents n.next.requests z n.next.stage n.last)
            others h.4));
      });
    }
