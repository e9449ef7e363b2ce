-- A run of a line spells its sessions.
use Rattle.std.proofs.Common.{◌≡◌, inl, inr, ℕ, zero, suc, Bool, true, false, List, [], ◌∷◌, ◌++◌, length, Option, Some, None, refl, sym, ap, subst, ◌∙◌, append_assoc, ◌+◌, ◌<◌, ◌≤◌, arith}
use Rattle.std.specs.Prelude.{◌&&◌}
use Rattle.std.proofs.lemmas.List.{append-nil}
use Rattle.filter_words.specs.Requests.{hello_text, caps_text}
use Rattle.filter_words.specs.declared.reply.Caps.{Caps}
use Rattle.edge_kit.specs.Files.{grown}
use Rattle.edge_kit.specs.Told.{Tells}
use Rattle.edge_kit.specs.Starters.{StarterSeen, Had, Session, StartFailed, StartOutOfMemory, SessionHad}
use Rattle.edge_kit.specs.Links.{Open}
use Rattle.filter_proto.specs.Wires.{Wire}
use Rattle.filter_proto.specs.Exchanges.{Ends, Good, Broke, OutOfMemory}
use Rattle.filter_words.specs.Outcomes.{outcome, limit}
use Rattle.filter_words.specs.Handshake.{handshake_step, handshake_start}
use Rattle.filter_proto.specs.Openings.{IsOpening, IsOpened}
use Rattle.filter_proto.specs.declared.session.Standing.TheVariants as standing
use Rattle.driver_line.proofs.Told.{grown_both}
use Rattle.filter_proto.specs.Wires.{SessionSeen}
use Rattle.driver_line.specs.Conversations.{Exchange, NoStart, NoRoom, Opening, First, Listing, Second, Shutting}
use Rattle.driver_line.specs.Lines.{LineView, Paths, RunsTo, IsEnded, IsFresh, IsOpenedLine, started}
use Rattle.edge_kit.specs.Links.{is_shut}
use Rattle.driver_line.proofs.Failed.{opening_counts, opening_one, opening_caused, opening_stage}
use Rattle.driver_line.specs.Transcripts.{AllFit, HasOneCount, HasCauses, is_fine, all_fine, IsOpenedSession, IsSession, Matches}
use Rattle.driver_line.proofs.Spoken.{SpokenFrom, stops_good}
use Rattle.driver_line.proofs.Effects.{Goes, IsQuiet, effect, stops_still}

-- the run spells the items by which what its starter keeps grew
pub record SpellsItems (paths : Paths) (v : LineView) (es : List Exchange) (w : LineView) : Type 0 where
  pub items : List Had
  pub had : w.starter.had ≡ v.starter.had ++ items
  pub matches : Matches paths es items

-- the rest of an open session, and the run after it
pub record RestOf (paths : Paths) (s : SessionSeen) (v : LineView) (es : List Exchange) (w : LineView) : Type 0 where
  pub own : List Exchange
  pub rest : List Exchange
  pub mid : LineView
  pub seen : SessionHad
  pub split : es ≡ own ++ rest
  pub none : mid.session ≡ None
  pub had : mid.starter.had ≡ v.starter.had ++ Session seen ∷ []
  pub spoken : SpokenFrom paths s.caps s.wire own seen
  pub counts : AllFit seen own
  pub one : HasOneCount seen
  pub causes : HasCauses seen own
  pub shut : seen.shut ≡ all_fine own
  pub runs : RunsTo paths mid rest w
  pub shorter : length rest + 1 ≤ length es

true_and : (a b : Bool) → a ≡ true → (a && b) ≡ b
true_and a b e = rw e refl

and_true : (a : Bool) → (a && true) ≡ a
and_true true = refl
and_true false = refl

-- while a session is open
pub rest_of : (paths : Paths) (s : SessionSeen) (v w : LineView) (es : List Exchange) → v.session ≡ Some s → s.wire.stage ≡ Open → IsQuiet s.wire → w.session ≡ None → RunsTo paths v es w → RestOf paths s v es w
rest_of paths s v w [] is st q none r = absurd (cc (sym is ∙ (ap (λ (x : LineView). x.session) r ∙ none)))
rest_of paths s v w (e ∷ es) is st q none r =
    elim (effect paths v r.0 s e is st q r.1) [
      | inl g ↦ more g (rest_of paths g.next r.0 w es g.open_is g.stage g.quiet none r.2)
      | inr f ↦ record {
        own = e ∷ [];
        rest = es;
        mid = r.0;
        seen = f.seen;
        split = refl;
        none = f.none;
        had = f.had;
        spoken = f.spoken;
        counts = (f.counts, tt);
        one = f.one;
        causes = record { ended = λ lt. inl (f.cause.ended lt); failed = λ lt left. inl (f.cause.failed lt left) };
        shut = f.shut ∙ sym (and_true (is_fine e));
        runs = r.2;
        shorter = omega arith;
      }
    ]
  where
    more : (g : Goes paths s v e r.0) → RestOf paths g.next r.0 es w → RestOf paths s v (e ∷ es) w
    more g h = record {
      own = e ∷ h.own;
      rest = h.rest;
      mid = h.mid;
      seen = h.seen;
      split = ap (λ (x : List Exchange). e ∷ x) h.split;
      none = h.none;
      had = h.had ∙ ap (λ (x : StarterSeen). x.had ++ Session h.seen ∷ []) g.starter;
      spoken = g.spoken h.own h.seen (subst (λ (k : Caps). SpokenFrom paths k g.next.wire h.own h.seen) g.caps h.spoken);
      counts = (g.counts h.seen, h.counts);
      one = h.one;
      causes = record { ended = λ lt. inr (h.causes.ended lt); failed = λ lt left. inr (h.causes.failed lt left) };
      shut = h.shut ∙ sym (true_and (is_fine e) (all_fine h.own) g.fine);
      runs = h.runs;
      shorter = let le = h.shorter in omega (arith, le);
    }

tells_grown : (t : Option (List ℕ)) (x : List ℕ) → Tells t [] → Tells (grown t x) x
tells_grown None x h = tt
tells_grown (Some t) x h = ap (λ (y : List ℕ). y ++ x) h

opened_of : (start last : Wire) (caps : Caps) → IsOpening start last (Good caps) → IsOpened start last (Good caps)
opened_of start last caps (inl u) = absurd u.why
opened_of start last caps (inr (inl r)) = absurd (cc (r.broke.1))
opened_of start last caps (inr (inr (inl u))) = absurd u.unsent.why
opened_of start last caps (inr (inr (inr o))) = o

-- an open session from its opening on
opened_session : (paths : Paths) (start wire : Wire) (caps : Caps) (es : List Exchange) (seen : SessionHad) → IsFresh start → IsOpened start wire (Good caps) → SpokenFrom paths caps wire es seen → AllFit seen es → HasOneCount seen → HasCauses seen es → seen.shut ≡ all_fine es → IsOpenedSession paths caps es seen
opened_session paths start wire caps es seen fresh o h counts one causes shut = record {
  sent = (hello_text ++ caps_text) ++ h.more;
  taken = o.heard.took.came ++ h.came;
  sent_is = subst (λ (x : Option (List ℕ)). Tells x ((hello_text ++ caps_text) ++ h.more))
      (sym (h.sent ∙ (ap (λ (x : Option (List ℕ)). grown x h.more) o.sent ∙ grown_both start.sent (hello_text ++ caps_text) h.more)))
      (tells_grown start.sent ((hello_text ++ caps_text) ++ h.more) fresh.sent);
  taken_is = subst (λ (x : Option (List ℕ)). Tells x (o.heard.took.came ++ h.came))
      (sym (h.taken ∙ (ap (λ (x : Option (List ℕ)). grown x h.came) o.heard.took.taken ∙ grown_both start.taken o.heard.took.came h.came)))
      (tells_grown start.taken (o.heard.took.came ++ h.came) fresh.taken);
  more = h.more;
  used = o.heard.used;
  later = wire.unread ++ h.came;
  texts = refl;
  parts = ap (λ (x : List ℕ). x ++ h.came) (sym (ap (λ (x : List ℕ). x ++ o.heard.took.came) fresh.unread) ∙ o.heard.took.unread) ∙ append_assoc o.heard.used wire.unread h.came;
  opened = record { packets = o.heard.packets; spelled = o.heard.spelled; stops = stops_good (outcome handshake_step limit handshake_start o.heard.packets) start wire caps (wire.unread ++ h.came) o.heard.stops; done = o.heard.done };
  spoken = h.spoken;
  counts = counts;
  one = one;
  causes = causes;
  shut = shut;
}

one_more : (a b c : List Had) (h : Had) (hs : List Had) → b ≡ a ++ h ∷ [] → c ≡ b ++ hs → c ≡ a ++ h ∷ hs
one_more a b c h hs e i = i ∙ (ap (λ (x : List Had). x ++ hs) e ∙ append_assoc a (h ∷ []) hs)

failed_item : (paths : Paths) (v u w : LineView) (p : ℕ) (end : Ends Caps) (es : List Exchange) (start last : Wire) → IsOpenedLine v end start last → (k : IsEnded (started v.starter) last standing.Over u) → IsSession paths end [] k.seen → SpellsItems paths u es w → SpellsItems paths v (Opening p end ∷ es) w
failed_item paths v u w p end es start last o k s h = record {
  items = Session k.seen ∷ h.items;
  had = one_more v.starter.had u.starter.had w.starter.had (Session k.seen) h.items (ap (λ (x : StarterSeen). x.had) k.kept) h.had;
  matches = (p, end, [], es, refl, s, h.matches);
}

pub items_of : (paths : Paths) (n : ℕ) (v w : LineView) (es : List Exchange) → length es ≤ n → v.session ≡ None → w.session ≡ None → RunsTo paths v es w → SpellsItems paths v es w
items_of paths n v w [] le none ended r = record { items = []; had = ap (λ (x : LineView). x.starter.had) (sym r) ∙ sym (append-nil v.starter.had); matches = refl }
items_of paths zero v w (e ∷ es) le none ended r = absurd (omega (arith, le))
items_of paths (suc n) v w (NoStart p ∷ es) le none ended r =
    let h = items_of paths n r.0 w es (omega (arith, le)) r.1.1 ended r.2 in
    record { items = StartFailed ∷ h.items; had = one_more v.starter.had r.0.starter.had w.starter.had StartFailed h.items (ap (λ (x : StarterSeen). x.had) r.1.2.kept) h.had; matches = (p, es, refl, h.matches) }
items_of paths (suc n) v w (NoRoom p ∷ es) le none ended r =
    let h = items_of paths n r.0 w es (omega (arith, le)) r.1.1 ended r.2 in
    record { items = StartOutOfMemory ∷ h.items; had = one_more v.starter.had r.0.starter.had w.starter.had StartOutOfMemory h.items (ap (λ (x : StarterSeen). x.had) r.1.2) h.had; matches = (p, es, refl, h.matches) }
items_of paths (suc n) v w (Opening p (Broke c) ∷ es) le none ended r =
    let k = r.1.3 in
    failed_item paths v r.0 w p (Broke c) es r.1.0 r.1.1 r.1.2 k (
      refl,
      record {
        start = r.1.0;
        last = r.1.1;
        fresh = r.1.2.fresh;
        opening = r.1.2.opening;
        sent = k.sent;
        taken = k.taken;
        counts = opening_counts r.1.0 r.1.1 (Broke c) k.seen r.1.2.opening (r.1.2.fresh.faults, r.1.2.fresh.ends) k.faults.0 k.ends;
        one = opening_one r.1.0 r.1.1 (Broke c) k.seen r.1.2.opening (r.1.2.fresh.faults, r.1.2.fresh.ends) k.faults.0 k.ends;
        ended = λ lt. (opening_caused r.1.0 r.1.1 (Broke c) r.1.2.opening (r.1.2.fresh.faults, r.1.2.fresh.ends)).ended (subst (λ (n : ℕ). 0 < n) k.ends lt);
        failed = λ lt. (opening_caused r.1.0 r.1.1 (Broke c) r.1.2.opening (r.1.2.fresh.faults, r.1.2.fresh.ends)).failed (subst (λ (n : ℕ). 0 < n) k.faults.0 lt);
        shut = k.shut ∙ ap is_shut (opening_stage r.1.0 r.1.1 (Broke c) r.1.2.opening ∙ r.1.2.fresh.stage);
      },
    )
    (items_of paths n r.0 w es (omega (arith, le)) k.none ended r.2)
items_of paths (suc n) v w (Opening p OutOfMemory ∷ es) le none ended r =
    let k = r.1.3 in
    failed_item paths v r.0 w p OutOfMemory es r.1.0 r.1.1 r.1.2 k (
      refl,
      record {
        start = r.1.0;
        last = r.1.1;
        fresh = r.1.2.fresh;
        opening = r.1.2.opening;
        sent = k.sent;
        taken = k.taken;
        counts = opening_counts r.1.0 r.1.1 OutOfMemory k.seen r.1.2.opening (r.1.2.fresh.faults, r.1.2.fresh.ends) k.faults.0 k.ends;
        one = opening_one r.1.0 r.1.1 OutOfMemory k.seen r.1.2.opening (r.1.2.fresh.faults, r.1.2.fresh.ends) k.faults.0 k.ends;
        ended = λ lt. (opening_caused r.1.0 r.1.1 OutOfMemory r.1.2.opening (r.1.2.fresh.faults, r.1.2.fresh.ends)).ended (subst (λ (n : ℕ). 0 < n) k.ends lt);
        failed = λ lt. (opening_caused r.1.0 r.1.1 OutOfMemory r.1.2.opening (r.1.2.fresh.faults, r.1.2.fresh.ends)).failed (subst (λ (n : ℕ). 0 < n) k.faults.0 lt);
        shut = k.shut ∙ ap is_shut (opening_stage r.1.0 r.1.1 OutOfMemory r.1.2.opening ∙ r.1.2.fresh.stage);
      },
    )
    (items_of paths n r.0 w es (omega (arith, le)) k.none ended r.2)
items_of paths (suc n) v w (Opening p (Good caps) ∷ es) le none ended r =
    let s = r.1.0 in
    let line = r.1.2 in
    let o = opened_of r.1.1 s.wire caps line.opening in
    let still = stops_still (outcome handshake_step limit handshake_start o.heard.packets) r.1.1 s.wire caps o.heard.stops in
    let k = rest_of paths s r.0 w es (ap (λ (x : LineView). x.session) r.1.5) (o.stage ∙ line.fresh.stage) (still.0 ∙ line.fresh.faults, still.1 ∙ line.fresh.ends) ended r.2 in
    let short = k.shorter in
    let h = items_of paths n k.mid w k.rest (omega (arith, le, short)) k.none ended k.runs in
    record {
      items = Session k.seen ∷ h.items;
      had = one_more v.starter.had k.mid.starter.had w.starter.had (Session k.seen) h.items (k.had ∙ ap (λ (x : LineView). x.starter.had ++ Session k.seen ∷ []) r.1.5) h.had;
      matches = (
        p,
        Good caps,
        k.own,
        k.rest,
        ap (λ (x : List Exchange). Opening p (Good caps) ∷ x) k.split,
        opened_session paths r.1.1 s.wire caps k.own k.seen line.fresh o (subst (λ (c : Caps). SpokenFrom paths c s.wire k.own k.seen) r.1.3 k.spoken) k.counts k.one k.causes k.shut,
        h.matches,
      );
    }
items_of paths (suc n) v w (First p q content ∷ es) le none ended r = absurd (cc (sym none ∙ r.1.1))
items_of paths (suc n) v w (Second p q content ∷ es) le none ended r = absurd (cc (sym none ∙ r.1.1))
items_of paths (suc n) v w (Listing late names q ∷ es) le none ended r = absurd (cc (sym none ∙ r.1.1))
items_of paths (suc n) v w (Shutting ∷ es) le none ended r = absurd (cc (sym none ∙ r.1.1))
