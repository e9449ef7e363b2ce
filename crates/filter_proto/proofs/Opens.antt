-- Openings.
use Rattle.std.proofs.Common.{◌≡◌, inl, inr, ℕ, Bool, true, false, List, Option, Result, Ok, Err, refl, sym, ap, subst, ◌∙◌}
use Rattle.std.specs.Prelude.{⊤, IfOk}
use Rattle.pkt_line.specs.Packets.{Packet}
use Rattle.filter_words.specs.Outcomes.{outcome, limit}
use Rattle.filter_words.specs.Requests.{hello_text, caps_text}
use Rattle.filter_words.specs.Handshake.{handshake_step, handshake_start}
use Rattle.filter_words.specs.declared.reply.BreakCause.{BreakCause}
use Rattle.filter_words.specs.declared.reply.BreakCause.TheVariants as cause
use Rattle.filter_words.specs.declared.reply.Caps.{Caps}
use Rattle.filter_words.specs.declared.handshake.HandshakePhase.{HandshakePhase}
use Rattle.edge_kit.specs.declared.faults.SendFault.TheVariants as send
use Rattle.edge_kit.specs.Files.{grown}
use Rattle.filter_proto.specs.Wires.{Wire, SessionSeen, IsSentPart, SendsOn}
use Rattle.edge_kit.specs.Faults.{Rose}
use Rattle.filter_proto.specs.Complete.{BeginsGood, IsComplete}
use Rattle.filter_proto.specs.Exchanges.{Ends, Good, Broke, OutOfMemory, Unsent, IsHeard, IsReading}
use Rattle.filter_proto.specs.Openings.{GoesAfter, HelloWith, EndHello, LacksHello, BeginsHello, IsOpening, IsOpened, HearsCaps, Announces, HasHello, opening_end}
use Rattle.filter_proto.specs.declared.handshake.Announced.{Announced}
use Rattle.filter_proto.specs.declared.handshake.OpenFault.{OpenFault}
use Rattle.filter_proto.specs.declared.handshake.OpenFault.TheVariants as fault
use Rattle.filter_proto.proofs.Told.{grown_both}
use Rattle.filter_proto.proofs.More.{heard_from, heard_less, stops_from, took_from, still_from, sent_nothing}

-- out of memory before anything was sent
pub unopened : (w : Wire) → IsOpening w w OutOfMemory
unopened w = inl (record { sent = sent_nothing hello_text w; why = refl; done = tt })

-- the first text was not sent whole
pub hello_fault : (old new : Wire) → SendsOn {T = ⊤} hello_text old new (Err send.Failed) → IsOpening old new (Broke cause.LinkFault)
hello_fault old new h = inl (record { sent = h.0; why = h.1; done = tt })

pub hello_memory : (old new : Wire) → SendsOn {T = ⊤} hello_text old new (Err send.NoMemory) → IsOpening old new OutOfMemory
hello_memory old new h = inl (record { sent = h.0; why = h.1; done = tt })

-- the second text was not sent whole
caps_unsent : (start old new : Wire) (room : ℕ) (p : HandshakePhase) (clean : Bool) (f : OpenFault) → old.sent ≡ start.sent → old.stage ≡ start.stage → IsReading handshake_step handshake_start start old room p (HelloWith false clean) → IsSentPart caps_text old new
    → Unsent old new (opening_end (Err f)) → GoesAfter start new (Err f)
caps_unsent start old new room p clean f se st r part why = inr (inl (record {
  mid = old;
  sent = se;
  stage = st;
  hello = record { packets = r.packets; used = r.used; spelled = r.spelled; took = r.took; gives = r.done.0; still = r.still };
  unsent = record { sent = part; why = why; done = tt };
}))

pub caps_fault : (start old new : Wire) (room : ℕ) (p : HandshakePhase) (clean : Bool) → old.sent ≡ start.sent → old.stage ≡ start.stage → IsReading handshake_step handshake_start start old room p (HelloWith false clean) → SendsOn {T = ⊤} caps_text old new (Err send.Failed)
    → GoesAfter start new (Err (fault.Broken cause.LinkFault))
caps_fault start old new room p clean se st r h = caps_unsent start old new room p clean (fault.Broken cause.LinkFault) se st r h.0 h.1

pub caps_memory : (start old new : Wire) (room : ℕ) (p : HandshakePhase) (clean : Bool) → old.sent ≡ start.sent → old.stage ≡ start.stage → IsReading handshake_step handshake_start start old room p (HelloWith false clean) → SendsOn {T = ⊤} caps_text old new (Err send.NoMemory)
    → GoesAfter start new (Err fault.NoMemory)
caps_memory start old new room p clean se st r h = caps_unsent start old new room p clean fault.NoMemory se st r h.0 h.1

-- it was, and what was read of the first answer stays
pub caps_reading : (start old mid : Wire) (room : ℕ) (p : HandshakePhase) (clean : Bool) → IsReading handshake_step handshake_start start old room p (HelloWith false clean) → mid ≡ record old { sent = grown old.sent caps_text }
    → IsReading handshake_step handshake_start start mid room p (HelloWith false clean)
caps_reading start old mid room p clean r e = rw e (record {
  packets = r.packets;
  used = r.used;
  spelled = r.spelled;
  gives = r.gives;
  fits = r.fits;
  done = r.done;
  took = record { came = r.took.came; taken = r.took.taken; left = r.took.left; unread = r.took.unread };
  still = r.still;
})

caps_heard : (start old mid new : Wire) (r : Result Announced OpenFault) → old.sent ≡ start.sent → old.stage ≡ start.stage → mid ≡ record old { sent = grown old.sent caps_text } → new.sent ≡ mid.sent → new.stage ≡ mid.stage
    → IsHeard handshake_step handshake_start start new (opening_end r) (EndHello r) → GoesAfter start new r
caps_heard start old mid new r se st e ns nst h = inr (inr (record {
  sent = ns ∙ (ap (λ (w : Wire). w.sent) e ∙ ap (λ (x : Option (List ℕ)). grown x caps_text) se);
  stage = nst ∙ (ap (λ (w : Wire). w.stage) e ∙ st);
  heard = h;
}))

pub caps_good : (start old mid new : Wire) (a : Announced) → old.sent ≡ start.sent → old.stage ≡ start.stage → mid ≡ record old { sent = grown old.sent caps_text } → new.sent ≡ mid.sent → new.stage ≡ mid.stage
    → IsHeard handshake_step handshake_start start new (Good a.caps) (HelloWith false a.clean) → GoesAfter start new (Ok a)
caps_good start old mid new a se st e ns nst h = caps_heard start old mid new (Ok a) se st e ns nst h

pub caps_broken : (start old mid new : Wire) (why : BreakCause) (clean : Bool) → old.sent ≡ start.sent → old.stage ≡ start.stage → mid ≡ record old { sent = grown old.sent caps_text } → new.sent ≡ mid.sent → new.stage ≡ mid.stage
    → IsHeard handshake_step handshake_start start new (Broke why) (HelloWith false clean) → GoesAfter start new (Err (fault.Broken why))
caps_broken start old mid new why clean se st e ns nst h =
    caps_heard start old mid new (Err (fault.Broken why)) se st e ns nst (heard_less handshake_step handshake_start start new (Broke why) (HelloWith false clean) BeginsHello h (λ ps d. d.0))

hello_from : (old mid new : Wire) → mid ≡ record old { sent = grown old.sent hello_text } → HasHello mid new → HasHello old new
hello_from old mid new e h = record {
  packets = h.packets;
  used = h.used;
  spelled = h.spelled;
  gives = h.gives;
  took = took_from old mid new h.used hello_text e h.took;
  still = still_from old mid new hello_text e h.still;
}

-- the first answer was right, whatever is known of it
end_begins : (r : Result Announced OpenFault) (ps : List Packet) → EndHello r ps → BeginsHello ps
end_begins (Ok a) ps h = h.0
end_begins (Err f) ps h = h

-- from the first text on
opened_from : (old mid new : Wire) (r : Result Announced OpenFault) → mid ≡ record old { sent = grown old.sent hello_text } → HearsCaps mid new r → IsOpened old new (opening_end r)
opened_from old mid new r e h = record {
  sent = h.sent ∙ (ap (λ (w : Wire). grown w.sent caps_text) e ∙ grown_both old.sent hello_text caps_text);
  stage = h.stage ∙ ap (λ (w : Wire). w.stage) e;
  heard = record {
    packets = h.heard.packets;
    used = h.heard.used;
    spelled = h.heard.spelled;
    took = took_from old mid new h.heard.used hello_text e h.heard.took;
    stops = stops_from (outcome handshake_step limit handshake_start h.heard.packets) old mid new hello_text (opening_end r) e h.heard.stops;
    done = end_begins r h.heard.packets h.heard.done;
  };
}

pub shaken : (old mid new : Wire) (r : Result Announced OpenFault) → mid ≡ record old { sent = grown old.sent hello_text } → GoesAfter mid new r → IsOpening old new (opening_end r)
shaken old mid new r e (inl h) = inr (inl (record {
  sent = h.sent ∙ ap (λ (w : Wire). w.sent) e;
  stage = h.stage ∙ ap (λ (w : Wire). w.stage) e;
  heard = heard_from handshake_step handshake_start old mid new hello_text (opening_end r) LacksHello e h.heard;
  broke = h.broke;
}))
shaken old mid new r e (inr (inl h)) = inr (inr (inl (record {
  mid = h.mid;
  sent = h.sent ∙ ap (λ (w : Wire). w.sent) e;
  stage = h.stage ∙ ap (λ (w : Wire). w.stage) e;
  hello = hello_from old mid h.mid e h.hello;
  unsent = h.unsent;
})))
shaken old mid new r e (inr (inr h)) = inr (inr (inr (opened_from old mid new r e h)))

-- a good handshake announces `clean` or doesn't
announced : (old mid new : Wire) (a : Announced) → mid ≡ record old { sent = grown old.sent hello_text } → GoesAfter mid new (Ok a) → Announces a.clean old new a.caps
unfolding opened_from
announced old mid new a e (inl h) = absurd (cc h.broke.1)
announced old mid new a e (inr (inl h)) = absurd h.unsent.why
announced old mid new a e (inr (inr h)) = (opened_from old mid new (Ok a) e h, h.heard.done.1)

pub announced_if : (old mid new : Wire) (r : Result Announced OpenFault) → mid ≡ record old { sent = grown old.sent hello_text } → GoesAfter mid new r → IfOk r (λ a. Announces a.clean old new a.caps)
announced_if old mid new (Ok a) e h = announced old mid new a e h
announced_if old mid new (Err f) e h = tt

pub hello_refused : (old new : Wire) (why : BreakCause) (clean : Bool) → new.sent ≡ old.sent → new.stage ≡ old.stage → IsHeard handshake_step handshake_start old new (Broke why) (HelloWith true clean) → GoesAfter old new (Err (fault.Broken why))
hello_refused old new why clean se st h = inl (record {
  sent = se;
  stage = st;
  heard = heard_less handshake_step handshake_start old new (Broke why) (HelloWith true clean) LacksHello h (λ ps d. d.0);
  broke = (why, refl);
})

-- the completeness of a handshake, as its caller sees it
pub live_gives : (w over : Wire) (mid set s : SessionSeen) (known : Caps) → over ≡ w → IsComplete handshake_step handshake_start over mid.wire (Good known) → set ≡ record mid { caps = known } → set ≡ s
    → IsComplete handshake_step handshake_start w s.wire (Good s.caps)
live_gives w over mid set s known e h c i g b =
    ap (λ (x : SessionSeen). x.caps) (sym i) ∙ (ap (λ (x : SessionSeen). x.caps) c ∙ h g (subst (λ (x : Wire). BeginsGood handshake_step handshake_start x g) (sym e) b))

-- and what it announces
pub live_announces : (w over : Wire) (mid set s : SessionSeen) (clean : Bool) (known : Caps) → over ≡ w → Announces clean over mid.wire known → set ≡ record mid { caps = known } → set ≡ s → Announces clean w s.wire s.caps
live_announces w over mid set s clean known e h c i =
    subst (λ (x : Wire). Announces clean x s.wire s.caps) e (subst (λ (x : SessionSeen). Announces clean over x.wire x.caps) (sym c ∙ i) h)

pub broken_gives : (w over mid new : Wire) (why : BreakCause) → over ≡ w → IsComplete handshake_step handshake_start over mid (Broke why) → new.faults ≡ mid.faults
    → IsComplete handshake_step handshake_start w new (Broke why)
broken_gives w over mid new why e h f g b =
    let r = h g (subst (λ (x : Wire). BeginsGood handshake_step handshake_start x g) (sym e) b) in
    (r.0, subst (λ (n : ℕ). Rose w.faults n) (sym f) (subst (λ (x : Wire). Rose x.faults mid.faults) e r.1))
