-- A run of a line, with links that tell what they sent and took.
use Rattle.std.proofs.Common.{◌≡◌, inl, inr, ℕ, List, [], ◌∷◌, ◌++◌, Option, Some, None, refl, sym, ap, subst, ◌∙◌, append_assoc}
use Rattle.std.proofs.lemmas.List.{append-nil}
use Rattle.pkt_line.specs.Packets.{Packet}
use Rattle.filter_words.specs.Outcomes.{outcome, limit}
use Rattle.filter_words.specs.Handshake.{handshake_step, handshake_start}
use Rattle.filter_words.specs.Requests.{hello_text, caps_text}
use Rattle.filter_words.specs.declared.reply.BreakCause.TheVariants as cause
use Rattle.filter_words.specs.declared.reply.Caps.{Caps}
use Rattle.filter_words.specs.declared.answer_state.AnswerState.{AnswerState}
use Rattle.filter_words.specs.declared.answer_state.AnswerState.TheVariants.{On, Done, Broken, Late}
use Rattle.edge_kit.specs.Files.{grown}
use Rattle.edge_kit.specs.Told.{Tells}
use Rattle.edge_kit.specs.Starters.{StarterSeen, Had, Session, StartFailed, StartOutOfMemory, SessionHad}
use Rattle.filter_proto.specs.Wires.{Wire, SessionSeen, IsSentPart}
use Rattle.filter_proto.specs.Exchanges.{Ends, Good, Broke, OutOfMemory, Stops, Unsent, IsHeard, IsUnsent, IsExchange}
use Rattle.filter_proto.specs.Openings.{IsOpening, HasHello}
use Rattle.filter_proto.specs.Replies.{standing_after}
use Rattle.filter_proto.specs.declared.session.Standing.{Standing}
use Rattle.filter_proto.specs.declared.session.Standing.TheVariants as standing
use Rattle.driver_line.specs.Conversations.{Exchange, NoStart, NoRoom, Opening, First, Listing, Second, Shutting}
use Rattle.driver_line.specs.Lines.{LineView, Paths, Says, RunsTo, After, IsEnded, IsFresh, IsOpenedLine, list_standing, started}
use Rattle.driver_line.specs.ToldStarts.{Fills, FillsSession}
use Rattle.driver_line.proofs.ToldStarts.{tells_more}

-- what a link sent and took
pub record Bytes (w : Wire) : Type 0 where
  pub sent : List ℕ
  pub taken : List ℕ
  pub sent_is : Tells w.sent sent
  pub taken_is : Tells w.taken taken

-- the same link, which tells it
abbrev pub full_wire : (w : Wire) → Bytes w → Wire
full_wire w k = record w { sent = Some k.sent; taken = Some k.taken }

-- a relation of two links, between those that tell
pub record Lifted (R : Wire → Wire → Type 0) (s t : Wire) (k : Bytes s) : Type 0 where
  pub bytes : Bytes t
  pub holds : R (full_wire s k) (full_wire t bytes)

-- reading

on_full : {P G : Type 0} (p : P) (s t : Wire) (k : Bytes s) (m : Bytes t) (end : Ends G) → Stops {G = G} (On p) s t end → Stops {G = G} (On p) (full_wire s k) (full_wire t m) end
on_full p s t k m (Good g) h = h
on_full p s t k m OutOfMemory h = h
on_full p s t k m (Broke cause.BadPacket) h = h
on_full p s t k m (Broke cause.Ended) h = h
on_full p s t k m (Broke cause.LinkFault) h = h
on_full p s t k m (Broke cause.BadHandshake) h = h
on_full p s t k m (Broke cause.UnknownStatus) h = h
on_full p s t k m (Broke cause.StrangeDelay) h = h
on_full p s t k m (Broke cause.TooLong) h = h
on_full p s t k m (Broke cause.StrangePath) h = h
on_full p s t k m (Broke cause.ListRefused) h = h

stops_full : {P G : Type 0} (a : AnswerState P G) (s t : Wire) (k : Bytes s) (m : Bytes t) (end : Ends G) → Stops a s t end → Stops a (full_wire s k) (full_wire t m) end
stops_full (On p) s t k m end h = on_full p s t k m end h
stops_full (Done g) s t k m end h = h
stops_full (Broken c) s t k m end h = h
stops_full Late s t k m end h = h

unsent_full : (G : Type 0) (s t : Wire) (k : Bytes s) (m : Bytes t) (end : Ends G) → Unsent s t end → Unsent (full_wire s k) (full_wire t m) end
unsent_full G s t k m (Good g) h = h
unsent_full G s t k m OutOfMemory h = h
unsent_full G s t k m (Broke cause.LinkFault) h = h
unsent_full G s t k m (Broke cause.BadPacket) h = h
unsent_full G s t k m (Broke cause.Ended) h = h
unsent_full G s t k m (Broke cause.BadHandshake) h = h
unsent_full G s t k m (Broke cause.UnknownStatus) h = h
unsent_full G s t k m (Broke cause.StrangeDelay) h = h
unsent_full G s t k m (Broke cause.TooLong) h = h
unsent_full G s t k m (Broke cause.StrangePath) h = h
unsent_full G s t k m (Broke cause.ListRefused) h = h

-- after this text was sent and an answer was taken
abbrev bytes_after : (s t : Wire) (k : Bytes s) (text came : List ℕ) → t.sent ≡ grown s.sent text → t.taken ≡ grown s.taken came → Bytes t
bytes_after s t k text came sent taken = record {
  sent = k.sent ++ text;
  taken = k.taken ++ came;
  sent_is = subst (λ (x : Option (List ℕ)). Tells x (k.sent ++ text)) (sym sent) (tells_more s.sent k.sent text k.sent_is);
  taken_is = subst (λ (x : Option (List ℕ)). Tells x (k.taken ++ came)) (sym taken) (tells_more s.taken k.taken came k.taken_is);
}

heard_full : {P G : Type 0} (step : P → Packet → AnswerState P G) (start : AnswerState P G) (s t : Wire) (end : Ends G) (extra : List Packet → Type 0) (k : Bytes s) (text : List ℕ) (sent : t.sent ≡ grown s.sent text) (h : IsHeard step start s t end extra)
    → IsHeard step start (full_wire s k) (full_wire t (bytes_after s t k text h.took.came sent h.took.taken)) end extra
heard_full step start s t end extra k text sent h = record {
  packets = h.packets;
  used = h.used;
  spelled = h.spelled;
  took = record { came = h.took.came; taken = refl; left = h.took.left; unread = h.took.unread };
  stops = stops_full (outcome step limit start h.packets) s t k (bytes_after s t k text h.took.came sent h.took.taken) end h.stops;
  done = h.done;
}

-- a request of which a part was sent
grown_none : (x : Option (List ℕ)) → x ≡ grown x []
grown_none None = refl
grown_none (Some t) = ap Some (sym (append-nil t))

abbrev part_bytes : (text : List ℕ) (s t : Wire) → Bytes s → IsSentPart text s t → Bytes t
part_bytes text s t k u = record {
  sent = k.sent ++ u.part.front;
  taken = k.taken;
  sent_is = subst (λ (x : Option (List ℕ)). Tells x (k.sent ++ u.part.front)) (sym u.part.told) (tells_more s.sent k.sent u.part.front k.sent_is);
  taken_is = subst (λ (x : Option (List ℕ)). Tells x k.taken) (sym (ap (λ (w : Wire). w.taken) u.stays)) k.taken_is;
}

part_full : (text : List ℕ) (s t : Wire) (k : Bytes s) (u : IsSentPart text s t) → IsSentPart text (full_wire s k) (full_wire t (part_bytes text s t k u))
part_full text s t k u = record {
  part = record { front = u.part.front; after = u.part.after; cut = u.part.cut; told = refl; proper = u.part.proper };
  stays = ap (λ (w : Wire). record w { sent = Some (k.sent ++ u.part.front); taken = Some k.taken }) u.stays;
}

unsent_lifts : (G : Type 0) (text : List ℕ) (s t : Wire) (end : Ends G) (extra : List Packet → Type 0) (k : Bytes s) → IsUnsent text s t end extra → Lifted (λ x y. IsUnsent text x y end extra) s t k
unsent_lifts G text s t end extra k u = record {
  bytes = part_bytes text s t k u.sent;
  holds = record { sent = part_full text s t k u.sent; why = unsent_full G s t k (part_bytes text s t k u.sent) end u.why; done = u.done };
}

exchange_lifts : {P G : Type 0} (step : P → Packet → AnswerState P G) (start : AnswerState P G) (text : List ℕ) (s t : Wire) (end : Ends G) (extra : List Packet → Type 0) (k : Bytes s) → IsExchange step start text s t end extra
    → Lifted (λ x y. IsExchange step start text x y end extra) s t k
exchange_lifts {P} {G} step start text s t end extra k (inl u) = let l = unsent_lifts G text s t end extra k u in record { bytes = l.bytes; holds = inl l.holds }
exchange_lifts step start text s t end extra k (inr a) = record {
  bytes = bytes_after s t k text a.heard.took.came a.sent a.heard.took.taken;
  holds = inr (record { sent = refl; stage = a.stage; heard = heard_full step start s t end extra k text a.sent a.heard });
}

opening_lifts : (s t : Wire) (end : Ends Caps) (k : Bytes s) → IsOpening s t end → Lifted (λ x y. IsOpening x y end) s t k
opening_lifts s t end k (inl u) = let l = unsent_lifts Caps hello_text s t end _ k u in record { bytes = l.bytes; holds = inl l.holds }
opening_lifts s t end k (inr (inl r)) = record {
  bytes = bytes_after s t k hello_text r.heard.took.came r.sent r.heard.took.taken;
  holds = inr (inl (record { sent = refl; stage = r.stage; heard = heard_full handshake_step handshake_start s t end _ k hello_text r.sent r.heard; broke = r.broke }));
}
opening_lifts s t end k (inr (inr (inl u))) =
    let m : Bytes u.mid = bytes_after s u.mid k hello_text u.hello.took.came u.sent u.hello.took.taken in
    let l = unsent_lifts Caps caps_text u.mid t end _ m u.unsent in
    record {
      bytes = l.bytes;
      holds = inr (inr (inl (record { mid = full_wire u.mid m; sent = refl; stage = u.stage; hello = hello; unsent = l.holds })));
    }
  where
    hello : HasHello (full_wire s k) (full_wire u.mid (bytes_after s u.mid k hello_text u.hello.took.came u.sent u.hello.took.taken))
    hello = record {
      packets = u.hello.packets;
      used = u.hello.used;
      spelled = u.hello.spelled;
      took = record { came = u.hello.took.came; taken = refl; left = u.hello.took.left; unread = u.hello.took.unread };
      gives = u.hello.gives;
      still = u.hello.still;
    }
opening_lifts s t end k (inr (inr (inr o))) = record {
  bytes = bytes_after s t k (hello_text ++ caps_text) o.heard.took.came o.sent o.heard.took.taken;
  holds = inr (inr (inr (record { sent = refl; stage = o.stage; heard = heard_full handshake_step handshake_start s t end _ k (hello_text ++ caps_text) o.sent o.heard })));
}

fresh_bytes : (w : Wire) → IsFresh w → Bytes w
fresh_bytes w f = record { sent = []; taken = []; sent_is = f.sent; taken_is = f.taken }

fresh_full : (w : Wire) (f : IsFresh w) → IsFresh (full_wire w (fresh_bytes w f))
unfolding fresh_bytes
fresh_full w f = record { sent = refl; taken = refl; unread = f.unread; faults = f.faults; ends = f.ends; stage = f.stage }

-- a line with links that tell

abbrev pub full_seen : (s : SessionSeen) → Bytes s.wire → SessionSeen
full_seen s k = record s { wire = full_wire s.wire k }

abbrev pub IsFullSession : Option SessionSeen → Option SessionSeen → Type 0
IsFullSession None o = o ≡ None
IsFullSession (Some s) o = (k : Bytes s.wire) × (o ≡ Some (full_seen s k))

abbrev pub full_line : LineView → List Had → Option SessionSeen → LineView
full_line v had o = record { starter = record v.starter { had = had }; session = o }

-- The line had these items more, and stands so with links that tell.
pub record Fuller (R : LineView → Type 0) (v w : LineView) (had : List Had) : Type 0 where
  pub items : List Had
  pub full : List Had
  pub fills : Fills items full
  pub grew : w.starter.had ≡ v.starter.had ++ items
  pub now : List Had
  pub now_is : now ≡ had ++ full
  pub session : Option SessionSeen
  pub is_full : IsFullSession w.session session
  pub holds : R (full_line w now session)

seen_fills : (seen : SessionHad) (last : Wire) (k : Bytes last) → seen.sent ≡ last.sent → seen.taken ≡ last.taken → FillsSession seen (record seen { sent = Some k.sent; taken = Some k.taken })
seen_fills seen last k sent taken = record {
  sent = k.sent;
  taken = k.taken;
  sent_is = subst (λ (x : Option (List ℕ)). Tells x k.sent) (sym sent) k.sent_is;
  taken_is = subst (λ (x : Option (List ℕ)). Tells x k.taken) (sym taken) k.taken_is;
  full_is = refl;
}

none_full : (v : LineView) → v.session ≡ None → IsFullSession v.session None
none_full v none = subst (λ (o : Option SessionSeen). IsFullSession o None) (sym none) refl

some_full : (v : LineView) (s : SessionSeen) (k : Bytes s.wire) → v.session ≡ Some s → IsFullSession v.session (Some (full_seen s k))
some_full v s k is = subst (λ (o : Option SessionSeen). IsFullSession o (Some (full_seen s k))) (sym is) (k, refl)

-- a session is over
ended_full : (v w : LineView) (from : StarterSeen) (had : List Had) (last : Wire) (k : Bytes last) (z : Standing) → from.had ≡ v.starter.had → IsEnded from last z w → Fuller (λ x. IsEnded (record from { had = had }) (full_wire last k) z x) v w had
ended_full v w from had last k z same h =
    let told : SessionHad = record h.seen { sent = Some k.sent; taken = Some k.taken } in
    record {
      items = Session h.seen ∷ [];
      full = Session told ∷ [];
      fills = (seen_fills h.seen last k h.sent h.taken, tt);
      grew = ap (λ (x : StarterSeen). x.had) h.kept ∙ ap (λ (x : List Had). x ++ Session h.seen ∷ []) same;
      now = had ++ Session told ∷ [];
      now_is = refl;
      session = None;
      is_full = none_full w h.none;
      holds = record {
        seen = told;
        none = refl;
        kept = ap (λ (x : StarterSeen). record x { had = had ++ Session told ∷ [] }) h.kept;
        out = h.out;
        sent = refl;
        taken = refl;
        ends = h.ends;
        replies = h.replies;
        input = h.input;
        end = h.end;
        faults = h.faults;
        shut = h.shut;
      };
    }

after_full : (v w : LineView) (had : List Had) (o : Option SessionSeen) (s : SessionSeen) (j : Bytes s.wire) (wire : Wire) (k : Bytes wire) (z : Standing) → After v s wire z w
    → Fuller (λ x. After (full_line v had o) (full_seen s j) (full_wire wire k) z x) v w had
after_full v w had o s j wire k standing.Live h =
    let next : SessionSeen = record { wire = full_wire wire k; caps = s.caps; standing = standing.Live } in
    record {
      items = [];
      full = [];
      fills = tt;
      grew = ap (λ (x : StarterSeen). x.had) h.1 ∙ sym (append-nil v.starter.had);
      now = had;
      now_is = sym (append-nil had);
      session = Some next;
      is_full = some_full w (record { wire = wire; caps = s.caps; standing = standing.Live }) k h.0;
      holds = (refl, ap (λ (x : StarterSeen). record x { had = had }) h.1);
    }
after_full v w had o s j wire k standing.Aborted h = ended_full v w v.starter had wire k standing.Aborted refl h
after_full v w had o s j wire k standing.Over h = ended_full v w v.starter had wire k standing.Over refl h

-- another relation of the line that it ends in
mapped : (R Q : LineView → Type 0) (v w : LineView) (had : List Had) (f : Fuller R v w had) → (R (full_line w f.now f.session) → Q (full_line w f.now f.session)) → Fuller Q v w had
mapped R Q v w had f to = record {
  items = f.items;
  full = f.full;
  fills = f.fills;
  grew = f.grew;
  now = f.now;
  now_is = f.now_is;
  session = f.session;
  is_full = f.is_full;
  holds = to f.holds;
}

-- one exchange

failed_opening : (paths : Paths) (v w : LineView) (had : List Had) (o : Option SessionSeen) (p : ℕ) (end : Ends Caps) (start last : Wire) → IsFullSession v.session o → IsOpenedLine v end start last → IsEnded (started v.starter) last standing.Over w
    → Fuller (λ x. (s : Wire) × (t : Wire) × IsOpenedLine (full_line v had o) end s t × IsEnded (started (full_line v had o).starter) t standing.Over x) v w had
failed_opening paths v w had o p end start last at line h =
    let fresh = fresh_full start line.fresh in
    let l = opening_lifts start last end (fresh_bytes start line.fresh) line.opening in
    let opened : IsOpenedLine (full_line v had o) end (full_wire start (fresh_bytes start line.fresh)) (full_wire last l.bytes) =
    record { closed = subst (λ (x : Option SessionSeen). IsFullSession x o) line.closed at; fresh = fresh; next = line.next; opening = l.holds } in
    mapped _ _ v w had (ended_full v w (started v.starter) had last l.bytes standing.Over refl h)
    (λ e. (full_wire start (fresh_bytes start line.fresh), full_wire last l.bytes, opened, e))

steps_full : (paths : Paths) (v w : LineView) (e : Exchange) (had : List Had) (o : Option SessionSeen) → IsFullSession v.session o → Says paths v e w → Fuller (λ x. Says paths (full_line v had o) e x) v w had
steps_full paths v w (NoStart p) had o at h = record {
  items = StartFailed ∷ [];
  full = StartFailed ∷ [];
  fills = tt;
  grew = ap (λ (x : StarterSeen). x.had) h.2.kept;
  now = had ++ StartFailed ∷ [];
  now_is = refl;
  session = None;
  is_full = none_full w h.1;
  holds = (
    subst (λ (x : Option SessionSeen). IsFullSession x o) h.0 at,
    refl,
    record { next = h.2.next; kept = ap (λ (x : StarterSeen). record x { had = had ++ StartFailed ∷ [] }) h.2.kept; rose = h.2.rose },
  );
}
steps_full paths v w (NoRoom p) had o at h = record {
  items = StartOutOfMemory ∷ [];
  full = StartOutOfMemory ∷ [];
  fills = tt;
  grew = ap (λ (x : StarterSeen). x.had) h.2;
  now = had ++ StartOutOfMemory ∷ [];
  now_is = refl;
  session = None;
  is_full = none_full w h.1;
  holds = (
    subst (λ (x : Option SessionSeen). IsFullSession x o) h.0 at,
    refl,
    ap (λ (x : StarterSeen). record x { had = had ++ StartOutOfMemory ∷ [] }) h.2,
  );
}
steps_full paths v w (Opening p (Good caps)) had o at h =
    let line = h.2 in
    let fresh = fresh_full h.1 line.fresh in
    let l = opening_lifts h.1 h.0.wire (Good caps) (fresh_bytes h.1 line.fresh) line.opening in
    let s : SessionSeen = full_seen h.0 l.bytes in
    record {
      items = [];
      full = [];
      fills = tt;
      grew = ap (λ (x : LineView). x.starter.had) h.5 ∙ sym (append-nil v.starter.had);
      now = had;
      now_is = sym (append-nil had);
      session = Some s;
      is_full = some_full w h.0 l.bytes (ap (λ (x : LineView). x.session) h.5);
      holds = (
        s,
        full_wire h.1 (fresh_bytes h.1 line.fresh),
        record { closed = subst (λ (x : Option SessionSeen). IsFullSession x o) line.closed at; fresh = fresh; next = line.next; opening = l.holds },
        h.3,
        h.4,
        ap (λ (x : LineView). full_line x had (Some s)) h.5,
      );
    }
steps_full paths v w (Opening p (Broke why)) had o at h = failed_opening paths v w had o p (Broke why) h.0 h.1 at h.2 h.3
steps_full paths v w (Opening p OutOfMemory) had o at h = failed_opening paths v w had o p OutOfMemory h.0 h.1 at h.2 h.3
steps_full paths v w (First p r content) had o at h =
    let here = subst (λ (x : Option SessionSeen). IsFullSession x o) h.1 at in
    let l = exchange_lifts _ _ _ h.0.wire h.2.wire _ _ here.0 h.2.exchange in
    mapped _ _ v w had (after_full v w had o h.0 here.0 h.2.wire l.bytes (standing_after r) h.2.after)
    (λ a. (full_seen h.0 here.0, here.1, record { wire = full_wire h.2.wire l.bytes; live = h.2.live; smudge = h.2.smudge; exchange = l.holds; after = a }))
steps_full paths v w (Listing late names r) had o at h =
    let here = subst (λ (x : Option SessionSeen). IsFullSession x o) h.1 at in
    let l = exchange_lifts _ _ _ h.0.wire h.2.wire _ _ here.0 h.2.exchange in
    mapped _ _ v w had (after_full v w had o h.0 here.0 h.2.wire l.bytes (list_standing r) h.2.after)
    (λ a. (full_seen h.0 here.0, here.1, record { wire = full_wire h.2.wire l.bytes; end = h.2.end; live = h.2.live; exchange = l.holds; is = h.2.is; after = a }))
steps_full paths v w (Second p r content) had o at h =
    let here = subst (λ (x : Option SessionSeen). IsFullSession x o) h.1 at in
    let l = exchange_lifts _ _ _ h.0.wire h.2.wire _ _ here.0 h.2.exchange in
    mapped _ _ v w had (after_full v w had o h.0 here.0 h.2.wire l.bytes (standing_after r) h.2.after)
    (λ a. (full_seen h.0 here.0, here.1, record { wire = full_wire h.2.wire l.bytes; live = h.2.live; smudge = h.2.smudge; exchange = l.holds; after = a }))
steps_full paths v w Shutting had o at h =
    let here = subst (λ (x : Option SessionSeen). IsFullSession x o) h.1 at in
    mapped _ _ v w had (ended_full v w v.starter had h.0.wire here.0 standing.Live refl h.2)
    (λ e. (full_seen h.0 here.0, here.1, e))

-- a run

fills_more : (hs fs is js : List Had) → Fills hs fs → Fills is js → Fills (hs ++ is) (fs ++ js)
fills_more [] [] is js a b = b
fills_more (Session seen ∷ hs) (Session full ∷ fs) is js a b = (a.0, fills_more hs fs is js a.1 b)
fills_more (StartFailed ∷ hs) (StartFailed ∷ fs) is js a b = fills_more hs fs is js a b
fills_more (StartOutOfMemory ∷ hs) (StartOutOfMemory ∷ fs) is js a b = fills_more hs fs is js a b
fills_more [] (f ∷ fs) is js a b = absurd a
fills_more (Session seen ∷ hs) [] is js a b = absurd a
fills_more (StartFailed ∷ hs) [] is js a b = absurd a
fills_more (StartOutOfMemory ∷ hs) [] is js a b = absurd a
fills_more (Session seen ∷ hs) (StartFailed ∷ fs) is js a b = absurd a
fills_more (Session seen ∷ hs) (StartOutOfMemory ∷ fs) is js a b = absurd a
fills_more (StartFailed ∷ hs) (Session full ∷ fs) is js a b = absurd a
fills_more (StartFailed ∷ hs) (StartOutOfMemory ∷ fs) is js a b = absurd a
fills_more (StartOutOfMemory ∷ hs) (Session full ∷ fs) is js a b = absurd a
fills_more (StartOutOfMemory ∷ hs) (StartFailed ∷ fs) is js a b = absurd a

pub runs_full : (paths : Paths) (es : List Exchange) (v w : LineView) (had : List Had) (o : Option SessionSeen) → IsFullSession v.session o → RunsTo paths v es w → Fuller (λ x. RunsTo paths (full_line v had o) es x) v w had
runs_full paths [] v w had o at r = record {
  items = [];
  full = [];
  fills = tt;
  grew = ap (λ (x : LineView). x.starter.had) (sym r) ∙ sym (append-nil v.starter.had);
  now = had;
  now_is = sym (append-nil had);
  session = o;
  is_full = subst (λ (x : LineView). IsFullSession x.session o) r at;
  holds = ap (λ (x : LineView). full_line x had o) r;
}
runs_full paths (e ∷ es) v w had o at r =
    let m = steps_full paths v r.0 e had o at r.1 in
    let k = runs_full paths es r.0 w m.now m.session m.is_full r.2 in
    record {
      items = m.items ++ k.items;
      full = m.full ++ k.full;
      fills = fills_more m.items m.full k.items k.full m.fills k.fills;
      grew = k.grew ∙ (ap (λ (x : List Had). x ++ k.items) m.grew ∙ append_assoc v.starter.had m.items k.items);
      now = k.now;
      now_is = k.now_is ∙ (ap (λ (x : List Had). x ++ k.full) m.now_is ∙ append_assoc had m.full k.full);
      session = k.session;
      is_full = k.is_full;
      holds = (full_line r.0 m.now m.session, m.holds, k.holds);
    }
