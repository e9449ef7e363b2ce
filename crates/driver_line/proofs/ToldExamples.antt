-- A talk with a driver that ends its output at once, and then doesn't start again.
use Rattle.std.proofs.Common.{◌≡◌, ◌==◌, inl, inr, ℕ, Bool, true, false, cond, List, [], ◌∷◌, ◌++◌, Some, None, refl, sym, ◌∙◌, arith}
use Rattle.pkt_line.specs.Packets.{Packet}
use Rattle.filter_words.specs.Handshake.{IsHello}
use Rattle.filter_words.specs.Requests.{hello_text}
use Rattle.filter_words.specs.declared.reply.BreakCause.TheVariants as cause
use Rattle.edge_kit.specs.Links.{Open, LeftBytes}
use Rattle.edge_kit.specs.Starters.{Session, StartFailed, SessionHad, Fails, Gives, StartsListed}
use Rattle.filter_proto.specs.Wires.{Wire}
use Rattle.filter_proto.specs.Exchanges.{Broke}
use Rattle.filter_proto.specs.Openings.{IsOpening}
use Rattle.checkout_core.specs.declared.path.Heard.TheVariants as heard
use Rattle.checkout_core.specs.declared.verdict.FilterCause.TheVariants as filter
use Rattle.checkout_core.specs.Fates.{Fate, Untold, Known, fate_of}
use Rattle.checkout_core.specs.Talks.{Between}
use Rattle.driver_line.specs.Conversations.{Exchange, NoStart, Opening, notes_in}
use Rattle.driver_line.specs.Lines.{Paths}
use Rattle.driver_line.specs.SameHeard.{IsToldTalk, fate_in}
use Rattle.driver_line.specs.Transcripts.{IsTalk, IsFailedSession}

abbrev wire : List ℕ → ℕ → Wire
wire sent ends = record { sent = Some sent; taken = Some []; left = LeftBytes []; unread = []; faults = 0; ends = ends; stage = Open }

abbrev seen : SessionHad
seen = record { sent = Some hello_text; taken = Some []; replies = None; faults = 0; ends = 1; shut = false }

-- the same session, of a link that tells nothing
abbrev untold : SessionHad
untold = record seen { sent = None; taken = None }

abbrev exchanges : List Exchange
exchanges = Opening 7 (Broke cause.Ended) ∷ NoStart 8 ∷ []

lacks_hello : (front rest : List Packet) → [] ≡ front ++ rest → IsHello front → ⊥
lacks_hello [] rest e h = absurd (cc h)
lacks_hello (p ∷ ps) rest e h = absurd (cc e)

ends_at_once : IsOpening (wire [] 0) (wire hello_text 1) (Broke cause.Ended)
ends_at_once = inr (inl (record {
  sent = refl;
  stage = refl;
  heard = record {
    packets = [];
    used = [];
    spelled = refl;
    took = record { came = []; taken = refl; left = refl; unread = refl };
    stops = (inl (omega arith), record { kept = omega arith; risen = λ n. omega arith }, refl, refl);
    done = lacks_hello;
  };
  broke = (cause.Ended, refl);
}))

failed : IsFailedSession (Broke cause.Ended) seen
failed = record {
  start = wire [] 0;
  last = wire hello_text 1;
  fresh = record { sent = refl; taken = refl; unread = refl; faults = refl; ends = refl; stage = refl };
  opening = ends_at_once;
  sent = refl;
  taken = refl;
  counts = (omega arith, refl);
  one = inr refl;
  ended = λ lt. refl;
  failed = λ lt. absurd (omega (arith, lt));
  shut = refl;
}

talk : (paths : Paths) → IsTalk 0 paths (7 ∷ 8 ∷ []) (Session seen ∷ StartFailed ∷ []) exchanges
talk paths = record {
  spells = (7, Broke cause.Ended, [], NoStart 8 ∷ [], refl, (refl, failed), (8, [], refl, refl));
  end = Between [];
  goes = (Between (8 ∷ []), refl, refl, (Between [], tt, refl, refl));
  over = tt;
}

not_memory : (b c : Bool) (f : Fate) → f ≡ cond b (Known (heard.Refused (filter.Broken cause.Ended))) (cond c (Known (heard.Refused filter.NotStarted)) Untold)
    → f ≡ Known heard.OutOfMemory → ⊥
not_memory true c f e h = absurd (cc (sym e ∙ h))
not_memory false true f e h = absurd (cc (sym e ∙ h))
not_memory false false f e h = absurd (cc (sym e ∙ h))

both_fates : (p : ℕ) → fate_in 0 p exchanges ≡ cond (p == 7) (Known (heard.Refused (filter.Broken cause.Ended))) (cond (p == 8) (Known (heard.Refused filter.NotStarted)) Untold)
both_fates p = go (p == 7)
  where
    go : (b : Bool) → fate_of p (cond b (Known (heard.Refused (filter.Broken cause.Ended))) Untold) (notes_in 0 (NoStart 8 ∷ []))
        ≡ cond b (Known (heard.Refused (filter.Broken cause.Ended))) (cond (p == 8) (Known (heard.Refused filter.NotStarted)) Untold)
    go true = refl
    go false = refl

told : (paths : Paths) → IsToldTalk 0 paths (7 ∷ 8 ∷ []) (Gives [] ∷ Fails ∷ []) (Session untold ∷ StartFailed ∷ []) exchanges
told paths = record {
  full = Session seen ∷ StartFailed ∷ [];
  fills = (record { sent = hello_text; taken = []; sent_is = tt; taken_is = tt; full_is = refl }, tt);
  talk = talk paths;
  left = StartsListed [];
  goes = (LeftBytes [], refl, record { came = []; left = LeftBytes []; part = refl; taken = refl; whole = λ lt. refl; replies = refl }, (tt, refl));
  fine = (refl, tt);
  memory = λ p here. not_memory (p == 7) (p == 8) (fate_in 0 p exchanges) (both_fates p);
}
