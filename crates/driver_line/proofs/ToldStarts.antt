-- A run of a line goes by the starts that its starter tells.
use Rattle.std.proofs.Common.{◌≡◌, ◌⊎◌, inl, inr, ℕ, ◌<◌, List, [], ◌∷◌, ◌++◌, Option, Some, None, refl, sym, ap, subst, ◌∙◌, append_assoc, arith}
use Rattle.std.proofs.lemmas.List.{append-nil}
use Rattle.pkt_line.specs.Packets.{Packet}
use Rattle.filter_words.specs.Outcomes.{outcome, limit}
use Rattle.filter_words.specs.Handshake.{handshake_step, handshake_start}
use Rattle.filter_words.specs.declared.reply.BreakCause.TheVariants as cause
use Rattle.filter_words.specs.declared.reply.Caps.{Caps}
use Rattle.filter_words.specs.declared.answer_state.AnswerState.{AnswerState}
use Rattle.filter_words.specs.declared.answer_state.AnswerState.TheVariants.{On, Done, Broken, Late}
use Rattle.edge_kit.specs.Files.{grown}
use Rattle.edge_kit.specs.Told.{Tells}
use Rattle.edge_kit.specs.Links.{Left, LeftUntold, LeftBytes, LeftAnswers, led, TellsLeft, replies_in}
use Rattle.edge_kit.specs.Starters.{StarterSeen, Had, Session, StartFailed, StartOutOfMemory, SessionHad, Starts, NextGives, NextFails, behind_next}
use Rattle.filter_proto.specs.Wires.{Wire, SessionSeen, Took, IsSentPart}
use Rattle.filter_proto.specs.Exchanges.{Ends, Good, Broke, OutOfMemory, Stops, IsHeard, IsExchange}
use Rattle.filter_proto.specs.Openings.{IsOpening}
use Rattle.filter_proto.specs.Replies.{standing_after}
use Rattle.filter_proto.specs.declared.session.Standing.{Standing}
use Rattle.filter_proto.specs.declared.session.Standing.TheVariants as standing
use Rattle.driver_line.specs.Conversations.{Exchange, NoStart, NoRoom, Opening, First, Listing, Second, Shutting}
use Rattle.driver_line.specs.Lines.{LineView, Paths, Says, RunsTo, After, IsEnded, IsFresh, list_standing, started}
use Rattle.driver_line.specs.ToldStarts.{TookOf, GoBy}

-- what is left of an output

led_nothing : (x : Left) → x ≡ led [] x
led_nothing LeftUntold = refl
led_nothing (LeftBytes w) = refl
led_nothing (LeftAnswers r) = refl

led_both : (a b : List ℕ) (x : Left) → led a (led b x) ≡ led (a ++ b) x
led_both a b LeftUntold = refl
led_both a b (LeftBytes w) = ap LeftBytes (sym (append_assoc a b w))
led_both a b (LeftAnswers r) = refl

replies_led : (came : List ℕ) (x : Left) → replies_in (led came x) ≡ replies_in x
replies_led came LeftUntold = refl
replies_led came (LeftBytes w) = refl
replies_led came (LeftAnswers r) = refl

pub tells_more : (t : Option (List ℕ)) (a b : List ℕ) → Tells t a → Tells (grown t b) (a ++ b)
tells_more None a b h = tt
tells_more (Some t) a b h = ap (λ (y : List ℕ). y ++ b) h

nothing_left : (a b : List ℕ) → a ++ b ≡ [] → b ≡ []
nothing_left [] b e = e
nothing_left (x ∷ xs) b e = absurd (cc e)

tells_left : (came : List ℕ) (x : Left) → TellsLeft (led came x) [] → TellsLeft x []
tells_left came LeftUntold h = tt
tells_left came (LeftBytes w) h = nothing_left came w h
tells_left came (LeftAnswers r) h = tt

-- a link took a first part of its output
pub record TakesFrom (output : Left) (wire : Wire) : Type 0 where
  pub came : List ℕ
  pub part : output ≡ led came wire.left
  pub taken : Tells wire.taken came
  pub whole : 0 < wire.ends → TellsLeft wire.left []

fresh_takes : (start : Wire) → IsFresh start → TakesFrom start.left start
fresh_takes start fresh = record {
  came = [];
  part = led_nothing start.left;
  taken = fresh.taken;
  whole = λ lt. absurd (let e = fresh.ends in omega (arith, lt, e));
}

unsent_takes : (output : Left) (text : List ℕ) (s t : Wire) → IsSentPart text s t → TakesFrom output s → TakesFrom output t
unsent_takes output text s t u h = record {
  came = h.came;
  part = h.part ∙ ap (λ (w : Wire). led h.came w.left) (sym u.stays);
  taken = subst (λ (x : Option (List ℕ)). Tells x h.came) (sym (ap (λ (w : Wire). w.taken) u.stays)) h.taken;
  whole = λ lt. subst (λ (x : Left). TellsLeft x []) (sym (ap (λ (w : Wire). w.left) u.stays)) (h.whole (subst (λ (n : ℕ). 0 < n) (ap (λ (w : Wire). w.ends) u.stays) lt));
}

took_takes : (output : Left) (s t : Wire) (used : List ℕ) → Took s t used → (t.ends ≡ s.ends) ⊎ TellsLeft t.left [] → TakesFrom output s → TakesFrom output t
took_takes output s t used k ends h = record {
  came = h.came ++ k.came;
  part = h.part ∙ (ap (λ (x : Left). led h.came x) k.left ∙ led_both h.came k.came t.left);
  taken = subst (λ (x : Option (List ℕ)). Tells x (h.came ++ k.came)) (sym k.taken) (tells_more s.taken h.came k.came h.taken);
  whole = λ lt. elim ends [
    | inl same ↦ tells_left k.came t.left (subst (λ (x : Left). TellsLeft x []) k.left (h.whole (subst (λ (n : ℕ). 0 < n) same lt)))
    | inr all ↦ all
  ];
}

-- an end of input was met only with nothing left

on_ends : {P G : Type 0} (p : P) (s t : Wire) (end : Ends G) → Stops {G = G} (On p) s t end → (t.ends ≡ s.ends) ⊎ TellsLeft t.left []
on_ends p s t (Good g) h = absurd h
on_ends p s t OutOfMemory h = absurd h
on_ends p s t (Broke cause.BadPacket) h = inl h.1.1
on_ends p s t (Broke cause.Ended) h = inr h.3
on_ends p s t (Broke cause.LinkFault) h = inl h.2
on_ends p s t (Broke cause.BadHandshake) h = absurd h
on_ends p s t (Broke cause.UnknownStatus) h = absurd h
on_ends p s t (Broke cause.StrangeDelay) h = absurd h
on_ends p s t (Broke cause.TooLong) h = absurd h
on_ends p s t (Broke cause.StrangePath) h = absurd h
on_ends p s t (Broke cause.ListRefused) h = absurd h

stops_ends : {P G : Type 0} (a : AnswerState P G) (s t : Wire) (end : Ends G) → Stops a s t end → (t.ends ≡ s.ends) ⊎ TellsLeft t.left []
stops_ends (On p) s t end h = on_ends p s t end h
stops_ends (Done g) s t end h = inl h.1.1
stops_ends (Broken c) s t end h = inl h.1.1
stops_ends Late s t end h = absurd h

heard_takes : {P G : Type 0} (step : P → Packet → AnswerState P G) (start : AnswerState P G) (output : Left) (s t : Wire) (end : Ends G) (extra : List Packet → Type 0) → IsHeard step start s t end extra → TakesFrom output s → TakesFrom output t
heard_takes step start output s t end extra a h = took_takes output s t a.used a.took (stops_ends (outcome step limit start a.packets) s t end a.stops) h

exchange_takes : {P G : Type 0} (step : P → Packet → AnswerState P G) (start : AnswerState P G) (output : Left) (text : List ℕ) (s t : Wire) (end : Ends G) (extra : List Packet → Type 0) → IsExchange step start text s t end extra → TakesFrom output s → TakesFrom output t
exchange_takes step start output text s t end extra (inl u) h = unsent_takes output text s t u.sent h
exchange_takes step start output text s t end extra (inr a) h = heard_takes step start output s t end extra a.heard h

opening_takes : (output : Left) (s t : Wire) (end : Ends Caps) → IsOpening s t end → TakesFrom output s → TakesFrom output t
opening_takes output s t end (inl u) h = unsent_takes output _ s t u.sent h
opening_takes output s t end (inr (inl r)) h = heard_takes handshake_step handshake_start output s t end _ r.heard h
opening_takes output s t end (inr (inr (inl u))) h = unsent_takes output _ u.mid t u.unsent.sent (took_takes output s u.mid u.hello.used u.hello.took (inl u.hello.still.1) h)
opening_takes output s t end (inr (inr (inr o))) h = heard_takes handshake_step handshake_start output s t end _ o.heard h

-- where a line stands among the told starts: before the next one, or in the session of one

abbrev pub StandsAt : Starts → LineView → Option SessionSeen → Type 0
StandsAt told v None = v.starter.ahead ≡ told
StandsAt told v (Some s) = (output : Left) × NextGives told output × (v.starter.ahead ≡ behind_next told) × TakesFrom output s.wire

pub record Moves (told : Starts) (v w : LineView) : Type 0 where
  pub items : List Had
  pub next : Starts
  pub had : w.starter.had ≡ v.starter.had ++ items
  pub at : StandsAt next w w.session
  pub go : (hs : List Had) (left : Starts) → GoBy next hs left → GoBy told (items ++ hs) left

none_at : (told : Starts) (w : LineView) → w.session ≡ None → w.starter.ahead ≡ told → StandsAt told w w.session
none_at told w none e = subst (λ (o : Option SessionSeen). StandsAt told w o) (sym none) e

some_at : (told : Starts) (w : LineView) (s : SessionSeen) → w.session ≡ Some s → StandsAt told w (Some s) → StandsAt told w w.session
some_at told w s is e = subst (λ (o : Option SessionSeen). StandsAt told w o) (sym is) e

took_of : (output : Left) (wire : Wire) (seen : SessionHad) → TakesFrom output wire → seen.taken ≡ wire.taken → seen.ends ≡ wire.ends → seen.replies ≡ replies_in wire.left → TookOf output seen
took_of output wire seen h taken ends replies = record {
  came = h.came;
  left = wire.left;
  part = h.part;
  taken = subst (λ (x : Option (List ℕ)). Tells x h.came) (sym taken) h.taken;
  whole = λ lt. h.whole (subst (λ (n : ℕ). 0 < n) ends lt);
  replies = replies ∙ (sym (replies_led h.came wire.left) ∙ sym (ap replies_in h.part));
}

-- a session is over
ended_moves : (told : Starts) (v w : LineView) (from : StarterSeen) (output : Left) (wire : Wire) (z : Standing) → from.had ≡ v.starter.had → from.ahead ≡ behind_next told → NextGives told output → TakesFrom output wire → IsEnded from wire z w → Moves told v w
ended_moves told v w from output wire z had ahead gives takes h = record {
  items = Session h.seen ∷ [];
  next = behind_next told;
  had = ap (λ (x : StarterSeen). x.had) h.kept ∙ ap (λ (x : List Had). x ++ Session h.seen ∷ []) had;
  at = none_at (behind_next told) w h.none (ap (λ (x : StarterSeen). x.ahead) h.kept ∙ ahead);
  go = λ hs left k. (output, gives, took_of output wire h.seen takes h.taken h.ends h.replies, k);
}

after_moves : (told : Starts) (v w : LineView) (s : SessionSeen) (output : Left) (wire : Wire) (z : Standing) → v.starter.ahead ≡ behind_next told → NextGives told output → TakesFrom output wire → After v s wire z w → Moves told v w
after_moves told v w s output wire standing.Live ahead gives takes h = record {
  items = [];
  next = told;
  had = ap (λ (x : StarterSeen). x.had) h.1 ∙ sym (append-nil v.starter.had);
  at = some_at told w (record { wire = wire; caps = s.caps; standing = standing.Live }) h.0 (output, gives, ap (λ (x : StarterSeen). x.ahead) h.1 ∙ ahead, takes);
  go = λ hs left k. k;
}
after_moves told v w s output wire standing.Aborted ahead gives takes h = ended_moves told v w v.starter output wire standing.Aborted refl ahead gives takes h
after_moves told v w s output wire standing.Over ahead gives takes h = ended_moves told v w v.starter output wire standing.Over refl ahead gives takes h

-- one exchange

moves : (paths : Paths) (told : Starts) (v w : LineView) (e : Exchange) → StandsAt told v v.session → Says paths v e w → Moves told v w
moves paths told v w (NoStart p) at h =
    let here = subst (λ (o : Option SessionSeen). StandsAt told v o) h.0 at in
    record {
      items = StartFailed ∷ [];
      next = behind_next told;
      had = ap (λ (x : StarterSeen). x.had) h.2.kept;
      at = none_at (behind_next told) w h.1 (ap (λ (x : StarterSeen). x.ahead) h.2.kept ∙ ap behind_next here);
      go = λ hs left k. (subst NextFails here h.2.next, k);
    }
moves paths told v w (NoRoom p) at h =
    let here = subst (λ (o : Option SessionSeen). StandsAt told v o) h.0 at in
    record {
      items = StartOutOfMemory ∷ [];
      next = told;
      had = ap (λ (x : StarterSeen). x.had) h.2;
      at = none_at told w h.1 (ap (λ (x : StarterSeen). x.ahead) h.2 ∙ here);
      go = λ hs left k. k;
    }
moves paths told v w (Opening p (Good caps)) at h =
    let line = h.2 in
    let here = subst (λ (o : Option SessionSeen). StandsAt told v o) line.closed at in
    let takes = opening_takes h.1.left h.1 h.0.wire (Good caps) line.opening (fresh_takes h.1 line.fresh) in
    record {
      items = [];
      next = told;
      had = ap (λ (x : LineView). x.starter.had) h.5 ∙ sym (append-nil v.starter.had);
      at = some_at told w h.0 (ap (λ (x : LineView). x.session) h.5) (h.1.left, subst (λ (x : Starts). NextGives x h.1.left) here line.next, ap (λ (x : LineView). x.starter.ahead) h.5 ∙ ap behind_next here, takes);
      go = λ hs left k. k;
    }
moves paths told v w (Opening p (Broke why)) at h =
    let line = h.2 in
    let here = subst (λ (o : Option SessionSeen). StandsAt told v o) line.closed at in
    ended_moves told v w (started v.starter) h.0.left h.1 standing.Over refl (ap behind_next here) (subst (λ (x : Starts). NextGives x h.0.left) here line.next) (opening_takes h.0.left h.0 h.1 (Broke why) line.opening (fresh_takes h.0 line.fresh)) h.3
moves paths told v w (Opening p OutOfMemory) at h =
    let line = h.2 in
    let here = subst (λ (o : Option SessionSeen). StandsAt told v o) line.closed at in
    ended_moves told v w (started v.starter) h.0.left h.1 standing.Over refl (ap behind_next here) (subst (λ (x : Starts). NextGives x h.0.left) here line.next) (opening_takes h.0.left h.0 h.1 OutOfMemory line.opening (fresh_takes h.0 line.fresh)) h.3
moves paths told v w (First p r content) at h =
    let here = subst (λ (o : Option SessionSeen). StandsAt told v o) h.1 at in
    after_moves told v w h.0 here.0 h.2.wire (standing_after r) here.2 here.1 (exchange_takes _ _ here.0 _ h.0.wire h.2.wire _ _ h.2.exchange here.3) h.2.after
moves paths told v w (Listing late names r) at h =
    let here = subst (λ (o : Option SessionSeen). StandsAt told v o) h.1 at in
    after_moves told v w h.0 here.0 h.2.wire (list_standing r) here.2 here.1 (exchange_takes _ _ here.0 _ h.0.wire h.2.wire _ _ h.2.exchange here.3) h.2.after
moves paths told v w (Second p r content) at h =
    let here = subst (λ (o : Option SessionSeen). StandsAt told v o) h.1 at in
    after_moves told v w h.0 here.0 h.2.wire (standing_after r) here.2 here.1 (exchange_takes _ _ here.0 _ h.0.wire h.2.wire _ _ h.2.exchange here.3) h.2.after
moves paths told v w Shutting at h =
    let here = subst (λ (o : Option SessionSeen). StandsAt told v o) h.1 at in
    ended_moves told v w v.starter here.0 h.0.wire standing.Live refl here.2 here.1 here.3 h.2

-- a run

pub record HasGone (told : Starts) (v w : LineView) : Type 0 where
  pub items : List Had
  pub had : w.starter.had ≡ v.starter.had ++ items
  pub go : GoBy told items w.starter.ahead

gone : (paths : Paths) (es : List Exchange) (told : Starts) (v w : LineView) → StandsAt told v v.session → w.session ≡ None → RunsTo paths v es w → HasGone told v w
gone paths [] told v w at ended r = record {
  items = [];
  had = ap (λ (x : LineView). x.starter.had) (sym r) ∙ sym (append-nil v.starter.had);
  go = subst (λ (o : Option SessionSeen). StandsAt told w o) ended (subst (λ (x : LineView). StandsAt told x x.session) r at);
}
gone paths (e ∷ es) told v w at ended r =
    let m = moves paths told v r.0 e at r.1 in
    let k = gone paths es m.next r.0 w m.at ended r.2 in
    record {
      items = m.items ++ k.items;
      had = k.had ∙ (ap (λ (x : List Had). x ++ k.items) m.had ∙ append_assoc v.starter.had m.items k.items);
      go = m.go k.items w.starter.ahead k.go;
    }

pub same_rest : (xs ys zs : List Had) → xs ++ ys ≡ xs ++ zs → ys ≡ zs
same_rest [] ys zs e = e
same_rest (x ∷ xs) ys zs e = same_rest xs ys zs (tails e)
  where
    tails : {a b : List Had} → x ∷ a ≡ x ∷ b → a ≡ b
    tails {a} {b} e = cc

pub goes_by : (paths : Paths) (v w : LineView) (es : List Exchange) (items : List Had) → v.session ≡ None → w.session ≡ None → RunsTo paths v es w → w.starter.had ≡ v.starter.had ++ items → GoBy v.starter.ahead items w.starter.ahead
goes_by paths v w es items none ended run had =
    let k = gone paths es v.starter.ahead v w (none_at v.starter.ahead v none refl) ended run in
    subst (λ (x : List Had). GoBy v.starter.ahead x w.starter.ahead) (same_rest v.starter.had k.items items (sym k.had ∙ had)) k.go
