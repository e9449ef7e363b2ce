-- Packets that are taken, one after another.
use Rattle.std.proofs.Common.{◌≡◌, ℕ, ◌≤◌, ◌⊎◌, inl, inr, Bool, true, false, List, [], ◌∷◌, ◌++◌, length, take, drop}
use Rattle.std.proofs.Common.{Option, Some, None, Result, Ok, Err, refl, sym, ap, ◌∙◌, subst, append_assoc, arith}
use Rattle.std.specs.Result.{result_err}
use Rattle.std.specs.Prelude.{◌==◌}
use Rattle.std.proofs.lemmas.Grind.{common_steps}
use Rattle.std.proofs.lemmas.List.{append-nil}
use Rattle.pkt_line.specs.Packets.{Packet, Payload, Flush, Stands, IsPartial, HasFault, size}
use Rattle.pkt_line.specs.Spelling.{spelling_all}
use Rattle.filter_words.specs.declared.reply.Caps.{Caps}
use Rattle.driver_host.specs.declared.work.Choice.{Choice}
use Rattle.driver_host.specs.declared.host.HostFault.{HostFault}
use Rattle.driver_host.specs.declared.host.HostFault.TheVariants as fault
use Rattle.driver_host.specs.HostText.{Stage, Over, HostEnd, Stopped, Refused, HasPart, HasRefused, EndsSo}
use Rattle.driver_host.specs.Works.{WorkTold}
use Rattle.driver_host.specs.Chosen.{Contents, IsChosenText, none_asked}
use Rattle.driver_host.specs.Talks.{TalkSeen, IsTalkAfter, Finishes, BeginsContent, Fits, IsSameHost}
use Rattle.driver_host.specs.Hosts.{HostSeen, IsHeld, RefusedBy, GoesOn, IsHostAfter, AfterBy, TakesPiece, TakesPacket}
use Rattle.driver_host.specs.Hosts.{StepIs, TakesOn, RefusesOn, Goes, FedOn, FedAll, Feeds, IsReady, new_talk, Grown}
use Rattle.driver_host.proofs.History.{line_taken}
use Rattle.driver_host.proofs.Ends.{finished, content_begun}
use Rattle.driver_host.proofs.Held.{spell_snoc, front_off, held_part, waits, stops, stuck}

held_next : {W : Type 0} (told : W → WorkTold) (latest : W → Contents) (bytes : List ℕ) (cs ds : List Choice) (text text2 unread : List ℕ) (t u : TalkSeen W) (p : Packet)
    → (h : IsHeld told latest bytes cs text unread t) → Stands p unread → IsTalkAfter told latest (h.packets ++ p ∷ []) ds text2 u
    → IsHeld told latest bytes ds text2 (drop (size p) unread) u
held_next told latest bytes cs ds text text2 unread t u p h stands a = record {
  packets = h.packets ++ p ∷ [];
  read = h.read ++ take (size p) unread;
  spelled = spell_snoc h.packets p h.read unread h.spelled stands;
  whole = h.whole ∙ front_off (size p) h.read unread;
  talk = a;
}

-- nothing was added
held_same : {W : Type 0} (told : W → WorkTold) (latest : W → Contents) (bytes : List ℕ) (cs : List Choice) (text unread : List ℕ) (t : TalkSeen W) → IsHeld told latest bytes cs text unread t
    → IsHeld told latest bytes (cs ++ []) (text ++ []) unread t
held_same told latest bytes cs text unread t h =
    subst (λ (z : List Choice). IsHeld told latest bytes z (text ++ []) unread t) (sym (append-nil cs))
    (subst (λ (z : List ℕ). IsHeld told latest bytes cs z unread t) (sym (append-nil text)) h)

takes_none : {W : Type 0} (told : W → WorkTold) (latest : W → Contents) (bytes : List ℕ) (cs : List Choice) (text before after unread : List ℕ) (t : TalkSeen W) → after ≡ before
    → IsHeld told latest bytes cs text unread t → TakesOn told latest bytes cs text before after unread t
takes_none told latest bytes cs text before after unread t same h =
    record { more = []; added = []; grew = same ∙ sym (append-nil before); held = held_same told latest bytes cs text unread t h }

took : {W : Type 0} (told : W → WorkTold) (latest : W → Contents) (bytes : List ℕ) (cs : List Choice) (text unread : List ℕ) (t u : TalkSeen W) (p : Packet) (before after : List ℕ)
    → IsHeld told latest bytes cs text unread t → Fits t → Stands p unread → TakesPacket told latest p t u before after
    → TakesOn told latest bytes cs text before after (drop (size p) unread) u
took told latest bytes cs text unread t u (Payload line) before after h f stands x =
    takes_none told latest bytes cs text before after (drop (size (Payload line)) unread) u x.2
    (held_next told latest bytes cs cs text text unread t u (Payload line) h stands
    (subst (λ (z : TalkSeen _). IsTalkAfter told latest (h.packets ++ Payload line ∷ []) cs text z) (sym x.1)
    (line_taken told latest h.packets cs text t line u.reading h.talk
    (held_part t.stage t.reading h.talk.current f h.talk.holds) x.0.0 x.0.1)))
took told latest bytes cs text unread t u Flush before after h f stands x = by_kind x.is
  where
    by_kind : Finishes told latest t x.choices x.answers u ⊎ BeginsContent t x.choices x.answers u
        → TakesOn told latest bytes cs text before after (drop (size Flush) unread) u
    by_kind (inl y) = record {
      more = x.choices;
      added = spelling_all x.answers;
      grew = x.text;
      held = held_next told latest bytes cs (cs ++ x.choices) text (text ++ spelling_all x.answers) unread t u Flush h stands
          (finished told latest h.packets cs x.choices text x.answers t u h.talk
          (held_part t.stage t.reading h.talk.current f h.talk.holds) x.room y);
    }
    by_kind (inr y) =
        let m = y.may in
        takes_none told latest bytes cs text before after (drop (size Flush) unread) u
        (x.text ∙ (ap (λ (z : List Packet). before ++ spelling_all z) y.none.1 ∙ append-nil before))
        (held_next told latest bytes cs cs text text unread t u Flush h stands
        (subst (λ (z : TalkSeen _). IsTalkAfter told latest (h.packets ++ Flush ∷ []) cs text z) (sym y.next)
        (content_begun told latest h.packets cs text t h.talk
        (held_part t.stage t.reading h.talk.current f h.talk.holds) x.room y.list y.smudge m.0 m.1 m.2 m.3 m.4)))

refused_same : {W : Type 0} (told : W → WorkTold) (latest : W → Contents) (why : HostFault) (t u : TalkSeen W) (bytes : List ℕ) (cs : List Choice) (text : List ℕ)
    → IsSameHost told t u → RefusedBy why (told t.work) t.own t.batch bytes cs text
    → RefusedBy why (told u.work) u.own u.batch bytes (cs ++ []) (text ++ [])
refused_same told latest why t u bytes cs text same r =
    subst (λ (w : WorkTold). RefusedBy why w u.own u.batch bytes (cs ++ []) (text ++ [])) (sym same.2)
    (subst (λ (o : Caps). RefusedBy why (told t.work) o u.batch bytes (cs ++ []) (text ++ [])) (sym same.0)
    (subst (λ (b : ℕ). RefusedBy why (told t.work) t.own b bytes (cs ++ []) (text ++ [])) (sym same.1)
    (subst (λ (z : List Choice). RefusedBy why (told t.work) t.own t.batch bytes z (text ++ [])) (sym (append-nil cs))
    (subst (λ (z : List ℕ). RefusedBy why (told t.work) t.own t.batch bytes cs z) (sym (append-nil text)) r))))

-- one step
pub step_goes : {W : Type 0} (told : W → WorkTold) (latest : W → Contents) (result : Result Bool HostFault) (old new : List ℕ) (t u : TalkSeen W) (before after : List ℕ) → Fits t
    → StepIs told latest old t new u before after result → (bytes : List ℕ) (cs : List Choice) (text : List ℕ)
    → IsHeld told latest bytes cs text old t → Goes told latest result bytes cs text before after new u
step_goes told latest (Ok true) old new t u before after f s bytes cs text h =
    subst (λ (z : List ℕ). TakesOn told latest bytes cs text before after z u) (sym s.2)
    (took told latest bytes cs text old t u s.0 before after h f s.1 s.3)
step_goes told latest (Ok false) old new t u before after f s bytes cs text h =
    takes_none told latest bytes cs text before after new u s.3
    (subst (λ (z : List ℕ). IsHeld told latest bytes cs text z u) (sym s.1)
    (subst (λ (z : TalkSeen _). IsHeld told latest bytes cs text old z) (sym s.2) h))
step_goes told latest (Err why) old new t u before after f s bytes cs text h = record {
  more = [];
  added = [];
  grew = s.2 ∙ sym (append-nil before);
  refused = refused_same told latest why t u bytes cs text s.1 (stuck told latest bytes cs text old t h f why s.0);
}

-- one after another
held_assoc : {W : Type 0} (told : W → WorkTold) (latest : W → Contents) (bytes : List ℕ) (cs c d : List Choice) (text x y unread : List ℕ) (t : TalkSeen W)
    → IsHeld told latest bytes ((cs ++ c) ++ d) ((text ++ x) ++ y) unread t → IsHeld told latest bytes (cs ++ (c ++ d)) (text ++ (x ++ y)) unread t
held_assoc told latest bytes cs c d text x y unread t h =
    subst (λ (z : List Choice). IsHeld told latest bytes z (text ++ (x ++ y)) unread t) (append_assoc cs c d)
    (subst (λ (z : List ℕ). IsHeld told latest bytes ((cs ++ c) ++ d) z unread t) (append_assoc text x y) h)

refused_assoc : {W : Type 0} (told : W → WorkTold) (latest : W → Contents) (why : HostFault) (t : TalkSeen W) (bytes : List ℕ) (cs c d : List Choice) (text x y : List ℕ)
    → RefusedBy why (told t.work) t.own t.batch bytes ((cs ++ c) ++ d) ((text ++ x) ++ y)
    → RefusedBy why (told t.work) t.own t.batch bytes (cs ++ (c ++ d)) (text ++ (x ++ y))
refused_assoc told latest why t bytes cs c d text x y r =
    subst (λ (z : List Choice). RefusedBy why (told t.work) t.own t.batch bytes z (text ++ (x ++ y))) (append_assoc cs c d)
    (subst (λ (z : List ℕ). RefusedBy why (told t.work) t.own t.batch bytes ((cs ++ c) ++ d) z) (append_assoc text x y) r)

grown : (before mid after x y : List ℕ) → mid ≡ before ++ x → after ≡ mid ++ y → after ≡ before ++ (x ++ y)
grown before mid after x y e f = f ∙ (ap (λ (z : List ℕ). z ++ y) e ∙ append_assoc before x y)

pub go_on : {W : Type 0} (told : W → WorkTold) (latest : W → Contents) {A : Type 0} (result : Result A HostFault) (bytes : List ℕ) (cs : List Choice) (text : List ℕ)
    (before mid after unread unread2 : List ℕ) (t u : TalkSeen W) → (x : TakesOn told latest bytes cs text before mid unread t)
    → Goes told latest result bytes (cs ++ x.more) (text ++ x.added) mid after unread2 u
    → Goes told latest result bytes cs text before after unread2 u
go_on told latest (Ok v) bytes cs text before mid after unread unread2 t u x y = record {
  more = x.more ++ y.more;
  added = x.added ++ y.added;
  grew = grown before mid after x.added y.added x.grew y.grew;
  held = held_assoc told latest bytes cs x.more y.more text x.added y.added unread2 u y.held;
}
go_on told latest (Err why) bytes cs text before mid after unread unread2 t u x y = record {
  more = x.more ++ y.more;
  added = x.added ++ y.added;
  grew = grown before mid after x.added y.added x.grew y.grew;
  refused = refused_assoc told latest why u bytes cs x.more y.more text x.added y.added y.refused;
}

pub none_taken : {W : Type 0} (told : W → WorkTold) (latest : W → Contents) (bytes : List ℕ) (cs : List Choice) (text out unread : List ℕ) (t : TalkSeen W)
    → IsHeld told latest bytes cs text unread t → TakesOn told latest bytes cs text out out unread t
none_taken told latest bytes cs text out unread t h = takes_none told latest bytes cs text out out unread t refl h

-- more bytes

held_fed : {W : Type 0} (told : W → WorkTold) (latest : W → Contents) (bytes piece : List ℕ) (cs : List Choice) (text unread : List ℕ) (t : TalkSeen W)
    → IsHeld told latest bytes cs text unread t → IsHeld told latest (bytes ++ piece) cs text (unread ++ piece) t
held_fed told latest bytes piece cs text unread t h = record {
  packets = h.packets;
  read = h.read;
  spelled = h.spelled;
  whole = ap (λ (z : List ℕ). z ++ piece) h.whole ∙ append_assoc h.read unread piece;
  talk = h.talk;
}

abbrev pub StaysFault : Type 0
StaysFault = (bytes more : List ℕ) → HasFault bytes → HasFault (bytes ++ more)

part_fed : (s : Stage) (bytes more : List ℕ) → StaysFault → HasPart s bytes HasFault → HasPart s (bytes ++ more) HasFault
part_fed s bytes more law p = record {
  packets = p.packets;
  read = p.read;
  rest = p.rest ++ more;
  spelled = p.spelled;
  whole = ap (λ (z : List ℕ). z ++ more) p.whole ∙ append_assoc p.read p.rest more;
  unfinished = p.unfinished;
  fits = p.fits;
  ends = law p.rest more p.ends;
}

bad_fed : (s : Stage) (why : HostFault) (bytes more : List ℕ) → HasRefused s bytes why → HasRefused s (bytes ++ more) why
bad_fed s why bytes more p = record {
  packets = p.packets;
  read = p.read;
  rest = p.rest ++ more;
  spelled = p.spelled;
  whole = ap (λ (z : List ℕ). z ++ more) p.whole ∙ append_assoc p.read p.rest more;
  refused = p.refused;
}

text_fed : (told : WorkTold) (own : Caps) (batch : ℕ) (bytes more : List ℕ) (cs : List Choice) (text : List ℕ)
    (end : HostEnd) → (x : IsChosenText told own batch bytes cs text end) → EndsSo x.is.stage (x.is.rest ++ more) end
    → IsChosenText told own batch (bytes ++ more) cs text end
text_fed told own batch bytes more cs text end x e =
    let t = x.is in
    record {
      is = record {
        batch_some = t.batch_some;
        requests = t.requests;
        packets = t.packets;
        read = t.read;
        rest = t.rest ++ more;
        answers = t.answers;
        stage = t.stage;
        spelled = t.spelled;
        whole = ap (λ (z : List ℕ). z ++ more) t.whole ∙ append_assoc t.read t.rest more;
        are = t.are;
        answered = t.answered;
        text_is = t.text_is;
        ends = e;
      };
      contents = x.contents;
      chosen = x.chosen;
    }

pub stopped_fed : (told : WorkTold) (own : Caps) (batch : ℕ) (bytes more : List ℕ) (cs : List Choice) (text : List ℕ)
    → IsChosenText told own batch bytes cs text Stopped → IsChosenText told own batch (bytes ++ more) cs text Stopped
stopped_fed told own batch bytes more cs text x = text_fed told own batch bytes more cs text Stopped x x.is.ends

refused_fed : (why : HostFault) (told : WorkTold) (own : Caps) (batch : ℕ) (bytes more : List ℕ) (cs : List Choice)
    (text : List ℕ) → StaysFault → RefusedBy why told own batch bytes cs text
    → RefusedBy why told own batch (bytes ++ more) cs text
refused_fed fault.NoMemory told own batch bytes more cs text law x = record {
  front = x.front;
  after = x.after ++ more;
  cut = ap (λ (z : List ℕ). z ++ more) x.cut ∙ append_assoc x.front x.after more;
  text_is = x.text_is;
}
refused_fed fault.BadPacket told own batch bytes more cs text law x =
    text_fed told own batch bytes more cs text (Refused fault.BadPacket) x
    (part_fed x.is.stage x.is.rest more law x.is.ends)
refused_fed fault.BadHello told own batch bytes more cs text law x =
    text_fed told own batch bytes more cs text (Refused fault.BadHello) x
    (bad_fed x.is.stage fault.BadHello x.is.rest more x.is.ends)
refused_fed fault.TooLong told own batch bytes more cs text law x =
    text_fed told own batch bytes more cs text (Refused fault.TooLong) x
    (bad_fed x.is.stage fault.TooLong x.is.rest more x.is.ends)
refused_fed fault.BadRequest told own batch bytes more cs text law x =
    text_fed told own batch bytes more cs text (Refused fault.BadRequest) x
    (bad_fed x.is.stage fault.BadRequest x.is.rest more x.is.ends)

-- A piece that is fed bit by bit: these bytes of it come next.
pub fed_goes : {W : Type 0} (told : W → WorkTold) (latest : W → Contents) {A : Type 0} (result : Result A HostFault) (bytes : List ℕ) (cs : List Choice)
    (text piece rest bit rest2 before mid after unread unread2 : List ℕ) (t u : TalkSeen W)
    → (x : FedOn told latest bytes cs text piece rest before mid unread t) → rest ≡ bit ++ rest2
    → ((b : List ℕ) (c : List Choice) (y : List ℕ) → IsHeld told latest b c y (unread ++ bit) t
    → Goes told latest result b c y mid after unread2 u)
    → (piece ≡ (x.fed ++ bit) ++ rest2) × Goes told latest result (bytes ++ (x.fed ++ bit)) cs text before after unread2 u
fed_goes told latest result bytes cs text piece rest bit rest2 before mid after unread unread2 t u x cut serve =
    let on = x.on in
    let next : TakesOn told latest (bytes ++ (x.fed ++ bit)) cs text before mid (unread ++ bit) t = record {
      more = on.more;
      added = on.added;
      grew = on.grew;
      held = subst (λ (z : List ℕ). IsHeld told latest z (cs ++ on.more) (text ++ on.added) (unread ++ bit) t)
          (append_assoc bytes x.fed bit)
          (held_fed told latest (bytes ++ x.fed) bit (cs ++ on.more) (text ++ on.added) unread t on.held);
    } in (
      x.cut ∙ (ap (λ (z : List ℕ). x.fed ++ z) cut ∙ sym (append_assoc x.fed bit rest2)),
      go_on told latest result (bytes ++ (x.fed ++ bit)) cs text before mid after (unread ++ bit) unread2 t u next
          (serve (bytes ++ (x.fed ++ bit)) (cs ++ on.more) (text ++ on.added) next.held),
    )

-- and it goes on
pub fed_on : {W : Type 0} (told : W → WorkTold) (latest : W → Contents) {A : Type 0} (v : A) (bytes : List ℕ) (cs : List Choice)
    (text piece rest bit rest2 before mid after unread unread2 : List ℕ) (t u : TalkSeen W)
    → FedOn told latest bytes cs text piece rest before mid unread t → rest ≡ bit ++ rest2
    → ((b : List ℕ) (c : List Choice) (y : List ℕ) → IsHeld told latest b c y (unread ++ bit) t
    → Goes told latest (Ok v) b c y mid after unread2 u)
    → FedOn told latest bytes cs text piece rest2 before after unread2 u
fed_on told latest v bytes cs text piece rest bit rest2 before mid after unread unread2 t u x cut serve =
    let g = fed_goes told latest (Ok v) bytes cs text piece rest bit rest2 before mid after unread unread2 t u x cut serve in
    record { fed = x.fed ++ bit; cut = g.0; on = g.1 }

-- or is refused
pub fed_refused : {W : Type 0} (told : W → WorkTold) (latest : W → Contents) (why : HostFault) (bytes : List ℕ) (cs : List Choice)
    (text piece rest bit rest2 before mid after unread unread2 : List ℕ) (t u : TalkSeen W) → StaysFault
    → FedOn told latest bytes cs text piece rest before mid unread t → rest ≡ bit ++ rest2
    → ((b : List ℕ) (c : List Choice) (y : List ℕ) → IsHeld told latest b c y (unread ++ bit) t
    → Goes {A = Unit {0}} told latest (Err why) b c y mid after unread2 u)
    → RefusesOn told why (bytes ++ piece) cs text before after u
fed_refused told latest why bytes cs text piece rest bit rest2 before mid after unread unread2 t u law x cut serve =
    let g = fed_goes told latest {A = Unit {0}} (Err why) bytes cs text piece rest bit rest2 before mid after unread unread2 t u x cut serve in
    let r = g.1 in
    record {
      more = r.more;
      added = r.added;
      grew = r.grew;
      refused = subst (λ (z : List ℕ). RefusedBy why (told u.work) u.own u.batch z (cs ++ r.more) (text ++ r.added))
          (append_assoc bytes (x.fed ++ bit) rest2 ∙ ap (λ (z : List ℕ). bytes ++ z) (sym g.0))
          (refused_fed why (told u.work) u.own u.batch (bytes ++ (x.fed ++ bit)) rest2 (cs ++ r.more) (text ++ r.added) law r.refused);
    }

pub none_fed : {W : Type 0} (told : W → WorkTold) (latest : W → Contents) (bytes : List ℕ) (cs : List Choice) (text piece out unread : List ℕ) (t : TalkSeen W)
    → IsHeld told latest bytes cs text unread t → FedOn told latest bytes cs text piece piece out out unread t
none_fed told latest bytes cs text piece out unread t h = record {
  fed = [];
  cut = refl;
  on = takes_none told latest (bytes ++ []) cs text out out unread t refl
      (subst (λ (z : List ℕ). IsHeld told latest z cs text unread t) (sym (append-nil bytes)) h);
}

over_fed : {W : Type 0} (told : W → WorkTold) (latest : W → Contents) (bytes : List ℕ) (cs : List Choice) (text piece rest before after unread : List ℕ) (t : TalkSeen W)
    → FedOn told latest bytes cs text piece rest before after unread t → t.stage ≡ Over
    → FedAll told latest (bytes ++ piece) cs text before after unread t
over_fed told latest bytes cs text piece rest before after unread t x over =
    let on = x.on in
    record {
      more = on.more;
      added = on.added;
      grew = on.grew;
      on = inr (
        over,
        subst (λ (z : List ℕ). IsChosenText (told t.work) t.own t.batch z (cs ++ on.more) (text ++ on.added) Stopped)
            (append_assoc bytes x.fed rest ∙ ap (λ (z : List ℕ). bytes ++ z) (sym x.cut))
            (stopped_fed (told t.work) t.own t.batch (bytes ++ x.fed) rest (cs ++ on.more) (text ++ on.added)
            (stops told latest (bytes ++ x.fed) (cs ++ on.more) (text ++ on.added) unread t on.held over)),
      );
    }

all_fed : {W : Type 0} (told : W → WorkTold) (latest : W → Contents) (bytes : List ℕ) (cs : List Choice) (text piece rest before after unread : List ℕ) (t : TalkSeen W)
    → FedOn told latest bytes cs text piece rest before after unread t → rest ≡ [] → Fits t → IsPartial unread
    → FedAll told latest (bytes ++ piece) cs text before after unread t
all_fed told latest bytes cs text piece rest before after unread t x none f part =
    let on = x.on in
    let whole : bytes ++ x.fed ≡ bytes ++ piece =
    ap (λ (z : List ℕ). bytes ++ z) (sym (x.cut ∙ (ap (λ (z : List ℕ). x.fed ++ z) none ∙ append-nil x.fed))) in
    let held = subst (λ (z : List ℕ). IsHeld told latest z (cs ++ on.more) (text ++ on.added) unread t) whole on.held in
    record {
      more = on.more;
      added = on.added;
      grew = on.grew;
      on = inl (waits told latest (bytes ++ piece) (cs ++ on.more) (text ++ on.added) unread t held f part, held);
    }

pub fed_end : {W : Type 0} (told : W → WorkTold) (latest : W → Contents) (bytes : List ℕ) (cs : List Choice) (text piece rest before after unread : List ℕ) (t : TalkSeen W)
    → FedOn told latest bytes cs text piece rest before after unread t → IsReady t unread → (rest ≡ []) ⊎ (t.stage ≡ Over)
    → FedAll told latest (bytes ++ piece) cs text before after unread t
fed_end told latest bytes cs text piece rest before after unread t x (inr over) e = over_fed told latest bytes cs text piece rest before after unread t x over
fed_end told latest bytes cs text piece rest before after unread t x (inl r) (inl none) =
    all_fed told latest bytes cs text piece rest before after unread t x none r.0 r.1
fed_end told latest bytes cs text piece rest before after unread t x (inl r) (inr over) = over_fed told latest bytes cs text piece rest before after unread t x over

-- a host

pub took_piece : {W : Type 0} (told : W → WorkTold) (latest : W → Contents) {A : Type 0} (result : Result A HostFault) (bytes : List ℕ) (cs : List Choice)
    (text piece before after unread : List ℕ) (t : TalkSeen W)
    → Feeds told latest result (bytes ++ piece) cs text before after unread t
    → TakesPiece told latest bytes cs text piece (record { talk = t; unread = unread; fault = result_err result }) before after
took_piece told latest (Ok v) bytes cs text piece before after unread t x =
    record { more = x.more; added = x.added; grew = x.grew; host = x.on }
took_piece told latest (Err why) bytes cs text piece before after unread t x =
    record { more = x.more; added = x.added; grew = x.grew; host = x.refused }

after_same : {W : Type 0} (told : W → WorkTold) (latest : W → Contents) (bytes : List ℕ) (cs : List Choice) (text : List ℕ) (h : HostSeen W) → IsHostAfter told latest bytes cs text h
    → IsHostAfter told latest bytes (cs ++ []) (text ++ []) h
after_same told latest bytes cs text h x =
    subst (λ (z : List Choice). IsHostAfter told latest bytes z (text ++ []) h) (sym (append-nil cs))
    (subst (λ (z : List ℕ). IsHostAfter told latest bytes cs z h) (sym (append-nil text)) x)

reads_on : {W : Type 0} (told : W → WorkTold) (latest : W → Contents) (f : Option HostFault) (bytes more : List ℕ) (cs : List Choice) (text : List ℕ) (h : HostSeen W) → StaysFault
    → ((f ≡ None) → h.talk.stage ≡ Over) → AfterBy told latest f bytes cs text h → AfterBy told latest f (bytes ++ more) cs text h
reads_on told latest (Some why) bytes more cs text h law over x = refused_fed why (told h.talk.work) h.talk.own h.talk.batch bytes more cs text law x
reads_on told latest None bytes more cs text h law over (inr x) =
    inr (x.0, stopped_fed (told h.talk.work) h.talk.own h.talk.batch bytes more cs text x.1)
reads_on told latest None bytes more cs text h law over (inl x) =
    inr (over refl, stopped_fed (told h.talk.work) h.talk.own h.talk.batch bytes more cs text (stops told latest bytes cs text h.unread h.talk x.1 (over refl)))

-- a host that reads no further
pub stays : {W : Type 0} (told : W → WorkTold) (latest : W → Contents) (bytes : List ℕ) (cs : List Choice) (text piece : List ℕ) (h : HostSeen W) (out : List ℕ) → StaysFault
    → ((h.fault ≡ None) → h.talk.stage ≡ Over) → IsHostAfter told latest bytes cs text h
    → TakesPiece told latest bytes cs text piece h out out
stays told latest bytes cs text piece h out law over x = record {
  more = [];
  added = [];
  grew = sym (append-nil out);
  host = after_same told latest (bytes ++ piece) cs text h (reads_on told latest h.fault bytes piece cs text h law over x);
}

-- one that reads
pub held_host : {W : Type 0} (told : W → WorkTold) (latest : W → Contents) (bytes : List ℕ) (cs : List Choice) (text : List ℕ) (h : HostSeen W) → h.fault ≡ None
    → (h.talk.stage ≡ Over → ⊥) → IsHostAfter told latest bytes cs text h → IsHeld told latest bytes cs text h.unread h.talk
held_host told latest bytes cs text h none going x = by_kind (subst (λ (f : Option HostFault). AfterBy told latest f bytes cs text h) none x)
  where
    by_kind : GoesOn told latest bytes cs text h.unread h.talk → IsHeld told latest bytes cs text h.unread h.talk
    by_kind (inl y) = y.1
    by_kind (inr y) = absurd (going y.0)

-- one that has taken nothing
pub new_host : {W : Type 0} (told : W → WorkTold) (latest : W → Contents) (own : Caps) (batch : ℕ) (work : W) (h : HostSeen W) → 1 ≤ batch
    → h ≡ record { talk = new_talk own batch work; unread = []; fault = None } → IsHostAfter told latest [] [] [] h
new_host told latest own batch work h some e = subst (λ (z : HostSeen _). IsHostAfter told latest [] [] [] z) (sym e) (inl (
  waits told latest [] [] [] [] (new_talk own batch work) held tt (inl (omega arith)),
  held,
))
  where
    held : IsHeld told latest [] [] [] [] (new_talk own batch work)
    held = record {
      packets = [];
      read = [];
      spelled = refl;
      whole = refl;
      talk = record {
        batch_some = some;
        requests = [];
        past = [];
        current = [];
        answers = [];
        whole = refl;
        are = refl;
        answered = (refl, refl, refl);
        text_is = refl;
        holds = refl;
        fits = refl;
        contents = none_asked;
        chosen = (refl, refl, refl);
        recalls = tt;
      };
    }

-- what was appended stays

pub step_grows : {W : Type 0} (told : W → WorkTold) (latest : W → Contents) (result : Result Bool HostFault) (old new : List ℕ) (t u : TalkSeen W) (before after : List ℕ)
    → StepIs told latest old t new u before after result → Grown before after
step_grows told latest (Ok true) old new t u before after s = taken s.0 s.3
  where
    taken : (p : Packet) → TakesPacket told latest p t u before after → Grown before after
    taken (Payload line) x = ([], x.2 ∙ sym (append-nil before))
    taken Flush x = (spelling_all x.answers, x.text)
step_grows told latest (Ok false) old new t u before after s = ([], s.3 ∙ sym (append-nil before))
step_grows told latest (Err why) old new t u before after s = ([], s.2 ∙ sym (append-nil before))

pub grows_on : (before mid after : List ℕ) → Grown before mid → Grown mid after → Grown before after
grows_on before mid after x y = (x.0 ++ y.0, grown before mid after x.0 y.0 x.1 y.1)

pub none_grown : (out : List ℕ) → Grown out out
none_grown out = ([], sym (append-nil out))

pub none_left : (xs : List ℕ) (b : Bool) → b ≡ (length xs == 0) → b ≡ true → xs ≡ []
none_left [] b e f = refl
none_left (x ∷ xs) b e f = absurd (grind (arith, common_steps, sym e ∙ f))
