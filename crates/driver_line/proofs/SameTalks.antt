-- Two talks with a driver that writes the same.
use Rattle.std.proofs.Common.{◌≡◌, ◌==◌, ◌⊎◌, inl, inr, ℕ, ◌+◌, ◌<◌, Bool, true, false, cond}
use Rattle.std.proofs.Common.{List, [], ◌∷◌, ◌++◌, Option, Some, None, refl, sym, ap, subst, ◌∙◌, arith, append_assoc}
use Rattle.std.specs.Prelude.{drop}
use Rattle.std.proofs.lemmas.Bool.{eqb-true}
use Rattle.pkt_line.specs.Packets.{Packet}
use Rattle.filter_words.specs.Outcomes.{outcome, limit}
use Rattle.filter_words.specs.Handshake.{handshake_step, handshake_start}
use Rattle.filter_words.specs.declared.reply.Caps.{Caps}
use Rattle.filter_words.specs.declared.reply.BreakCause.TheVariants as cause
use Rattle.filter_words.specs.declared.handshake.HandshakePhase.{HandshakePhase}
use Rattle.edge_kit.specs.Files.{grown}
use Rattle.edge_kit.specs.Told.{Tells}
use Rattle.edge_kit.specs.Links.{Left, LeftUntold, LeftBytes, LeftAnswers, led, TellsLeft}
use Rattle.edge_kit.specs.Starters.{Had, Session, StartFailed, StartOutOfMemory, SessionHad, StartTold, Fails, Gives, Starts, StartsListed, NextGives, NextFails}
use Rattle.delay_table.specs.Table.{contains, AreApart}
use Rattle.filter_proto.specs.Wires.{Wire}
use Rattle.filter_proto.specs.Complete.{IsSettled}
use Rattle.filter_proto.specs.Exchanges.{Ends, Good, Broke, OutOfMemory, IsHeard, Unsent}
use Rattle.filter_proto.specs.Openings.{IsOpening}
use Rattle.checkout_core.specs.declared.event.Event.{Event}
use Rattle.checkout_core.specs.declared.path.Heard.{Heard}
use Rattle.checkout_core.specs.declared.path.Heard.TheVariants as heard
use Rattle.checkout_core.specs.Fates.{Fate, Untold, Known, fate_of}
use Rattle.checkout_core.specs.Talks.{Talk, Between, IsOver}
use Rattle.driver_line.specs.Conversations.{Exchange, NoStart, NoRoom, Opening, notes_in, LeadsTo}
use Rattle.driver_line.specs.Lines.{Paths, IsFresh}
use Rattle.driver_line.specs.Parts.{IsPartOf, IsOnePart}
use Rattle.driver_line.specs.SameHeard.{NoneFailed, HaveTexts, HaveSameTexts, SameHeard}
use Rattle.driver_line.specs.ToldStarts.{GoBy, Fills}
use Rattle.driver_line.specs.Transcripts.{IsPart, IsOpenedSession, IsFailedSession, IsSession, Matches, break_in}
use Rattle.driver_line.proofs.Spoken.{stops_at}
use Rattle.driver_line.proofs.Requests.{same_requests}
use Rattle.driver_line.proofs.TalkDue.{Start, due_at, due_is}
use Rattle.driver_line.proofs.TalkFates.{count, first_due, second_due}
use Rattle.driver_line.proofs.TalkLists.{over_nothing, nothing_more}
use Rattle.driver_line.proofs.SameStates.{Stands, Spared, Alike, Runs, after, known_stays, alike_none, to_alike, both_more, no_room, no_opening}
use Rattle.driver_line.proofs.SameExchanges.{ReplyLaw, ListLaw, part_of, settled_break}
use Rattle.driver_line.proofs.SameSessions.{IsOutside, IsQuiet, no_link, all_came, same_left, same_session}

-- each session tells what it took, and its link never failed
abbrev AreFine : List Had → Type 0
AreFine [] = Unit {0}
AreFine (Session seen ∷ hs) = (seen.faults ≡ 0) × ((taken : List ℕ) × (seen.taken ≡ Some taken)) × AreFine hs
AreFine (StartFailed ∷ hs) = AreFine hs
AreFine (StartOutOfMemory ∷ hs) = AreFine hs

full_fine : (hs fs : List Had) → Fills hs fs → NoneFailed hs → AreFine fs
full_fine [] [] f h = tt
full_fine (Session seen ∷ hs) (Session full ∷ fs) f h = (
  ap (λ (x : SessionHad). x.faults) f.0.full_is ∙ h.0,
  (f.0.taken, ap (λ (x : SessionHad). x.taken) f.0.full_is),
  full_fine hs fs f.1 h.1,
)
full_fine (StartFailed ∷ hs) (StartFailed ∷ fs) f h = full_fine hs fs f h
full_fine (StartOutOfMemory ∷ hs) (StartOutOfMemory ∷ fs) f h = full_fine hs fs f h
full_fine [] (k ∷ fs) f h = absurd f
full_fine (Session seen ∷ hs) [] f h = absurd f
full_fine (StartFailed ∷ hs) [] f h = absurd f
full_fine (StartOutOfMemory ∷ hs) [] f h = absurd f
full_fine (Session seen ∷ hs) (StartFailed ∷ fs) f h = absurd f
full_fine (Session seen ∷ hs) (StartOutOfMemory ∷ fs) f h = absurd f
full_fine (StartFailed ∷ hs) (Session full ∷ fs) f h = absurd f
full_fine (StartFailed ∷ hs) (StartOutOfMemory ∷ fs) f h = absurd f
full_fine (StartOutOfMemory ∷ hs) (Session full ∷ fs) f h = absurd f
full_fine (StartOutOfMemory ∷ hs) (StartFailed ∷ fs) f h = absurd f

-- a session of a told output, whose link never failed
pub record IsToldSession (output : List ℕ) (seen : SessionHad) : Type 0 where
  pub taken : List ℕ
  pub ahead : List ℕ
  pub is : seen.taken ≡ Some taken
  pub whole : output ≡ taken ++ ahead
  pub quiet : IsQuiet seen ahead

pub told_taken : (t : Option (List ℕ)) (taken came : List ℕ) → t ≡ Some taken → Tells t came → taken ≡ came
told_taken t taken came e h = subst (λ (x : Option (List ℕ)). Tells x came) e h

told_session : (out left : Left) (output came taken : List ℕ) (seen : SessionHad) → out ≡ LeftBytes output → out ≡ led came left → Tells seen.taken came → (0 < seen.ends → TellsLeft left [])
    → seen.faults ≡ 0 → seen.taken ≡ Some taken → IsToldSession output seen
told_session out LeftUntold output came taken seen e part tells whole none is = absurd (cc (sym e ∙ part))
told_session out (LeftAnswers r) output came taken seen e part tells whole none is = absurd (cc (sym e ∙ part))
told_session out (LeftBytes l) output came taken seen e part tells whole none is = record {
  taken = taken;
  ahead = l;
  is = is;
  whole = let one : LeftBytes output ≡ LeftBytes (came ++ l) = sym e ∙ part in let two : output ≡ came ++ l = cc one in two ∙ ap (λ (x : List ℕ). x ++ l) (sym (told_taken seen.taken taken came is tells));
  quiet = record { faults = none; whole = whole };
}

-- the answer to an opening

unsent_never : (s t : Wire) (end : Ends Caps) → Unsent s t end → (end ≡ Broke cause.LinkFault → ⊥) → (end ≡ OutOfMemory → ⊥) → ⊥
unsent_never s t (Good caps) h link room = h
unsent_never s t OutOfMemory h link room = room refl
unsent_never s t (Broke cause.LinkFault) h link room = link refl
unsent_never s t (Broke cause.BadPacket) h link room = h
unsent_never s t (Broke cause.Ended) h link room = h
unsent_never s t (Broke cause.BadHandshake) h link room = h
unsent_never s t (Broke cause.UnknownStatus) h link room = h
unsent_never s t (Broke cause.StrangeDelay) h link room = h
unsent_never s t (Broke cause.TooLong) h link room = h
unsent_never s t (Broke cause.StrangePath) h link room = h
unsent_never s t (Broke cause.ListRefused) h link room = h

end_settled : (end : Ends Caps) → (end ≡ Broke cause.LinkFault → ⊥) → (end ≡ OutOfMemory → ⊥) → IsSettled end
end_settled (Good caps) link room = tt
end_settled (Broke why) link room = settled_break Caps why (λ e. link (ap Broke e))
end_settled OutOfMemory link room = room refl

pub record IsAnswerTo (taken : List ℕ) (end : Ends Caps) : Type 0 where
  pub used : List ℕ
  pub later : List ℕ
  pub parts : taken ≡ used ++ later
  pub part : IsPart handshake_step handshake_start used later end (λ ps. Unit {0})

pub all_grown : (t : Option (List ℕ)) (came taken : List ℕ) → Tells t [] → grown t came ≡ Some taken → taken ≡ came
all_grown None came taken h e = absurd (cc e)
all_grown (Some t) came taken h e = let one : t ++ came ≡ taken = cc e in sym one ∙ ap (λ (x : List ℕ). x ++ came) h

pub heard_answer : (start last : Wire) (end : Ends Caps) (extra : List Packet → Type 0) (taken : List ℕ) → IsFresh start → last.taken ≡ Some taken → IsHeard handshake_step handshake_start start last end extra
    → IsAnswerTo taken end
heard_answer start last end extra taken fresh is h = record {
  used = h.used;
  later = last.unread;
  parts = all_grown start.taken h.took.came taken fresh.taken (sym h.took.taken ∙ is) ∙ (sym (ap (λ (x : List ℕ). x ++ h.took.came) fresh.unread) ∙ h.took.unread);
  part = record { packets = h.packets; spelled = h.spelled; stops = stops_at (outcome handshake_step limit handshake_start h.packets) start last end h.stops; done = tt };
}

opening_answer : (start last : Wire) (end : Ends Caps) (taken : List ℕ) → IsFresh start → last.taken ≡ Some taken → IsOpening start last end → (end ≡ Broke cause.LinkFault → ⊥) → (end ≡ OutOfMemory → ⊥)
    → IsAnswerTo taken end
opening_answer start last end taken fresh is (inl u) link room = absurd (unsent_never start last end u.why link room)
opening_answer start last end taken fresh is (inr (inl r)) link room = heard_answer start last end _ taken fresh is r.heard
opening_answer start last end taken fresh is (inr (inr (inl u))) link room = absurd (unsent_never u.mid last end u.unsent.why link room)
opening_answer start last end taken fresh is (inr (inr (inr o))) link room = heard_answer start last end _ taken fresh is o.heard

pub record IsOpeningOf (output : List ℕ) (end : Ends Caps) : Type 0 where
  pub used : List ℕ
  pub later : List ℕ
  pub part : IsPartOf handshake_step handshake_start output used later end

pub failed_part : (output : List ℕ) (end : Ends Caps) (seen : SessionHad) → IsToldSession output seen → IsFailedSession end seen → (end ≡ OutOfMemory → ⊥) → IsOpeningOf output end
failed_part output end seen told h room =
    let link : end ≡ Broke cause.LinkFault → ⊥ = λ e. no_link seen (break_in end) told.quiet.faults h.counts (ap break_in e) in
    let a = opening_answer h.start h.last end told.taken h.fresh (sym h.taken ∙ told.is) h.opening link room in
    record {
      used = a.used;
      later = a.later;
      part = part_of handshake_step handshake_start output a.used a.later told.ahead end (λ ps. Unit {0}) a.part (told.whole ∙ ap (λ (x : List ℕ). x ++ told.ahead) a.parts)
          (λ e. all_came seen told.ahead (break_in end) told.quiet.whole h.counts (ap break_in e)) (end_settled end link room);
    }

pub opened_part : (output : List ℕ) (paths : Paths) (caps : Caps) (own : List Exchange) (seen : SessionHad) (told : IsToldSession output seen) (h : IsOpenedSession paths caps own seen)
    → IsPartOf handshake_step handshake_start output h.used h.later (Good caps)
opened_part output paths caps own seen told h =
    part_of handshake_step handshake_start output h.used h.later told.ahead (Good caps) _ h.opened
    (told.whole ∙ ap (λ (x : List ℕ). x ++ told.ahead) (told_taken seen.taken told.taken h.taken told.is h.taken_is ∙ h.parts)) (λ e. absurd (cc e)) tt

session_part : (output : List ℕ) (paths : Paths) (end : Ends Caps) (own : List Exchange) (seen : SessionHad) → IsToldSession output seen → IsSession paths end own seen → (end ≡ OutOfMemory → ⊥) → IsOpeningOf output end
session_part output paths (Good caps) own seen told h room = record { used = h.used; later = h.later; part = opened_part output paths caps own seen told h }
session_part output paths (Broke why) own seen told h room = failed_part output (Broke why) seen told h.1 room
session_part output paths OutOfMemory own seen told h room = absurd (room refl)

-- what follows an item is nothing, or a start
pub outside_of : (paths : Paths) (hs : List Had) (es : List Exchange) → Matches paths es hs → IsOutside es
outside_of paths [] es h = subst IsOutside (sym h) tt
outside_of paths (StartFailed ∷ hs) es h = subst IsOutside (sym h.2) (h.0, refl)
outside_of paths (StartOutOfMemory ∷ hs) es h = subst IsOutside (sym h.2) (h.0, refl)
outside_of paths (Session seen ∷ hs) es h = subst IsOutside (sym h.4) (h.0, refl)

-- what two starts are told to do

pub record IsSameOutput (told : List StartTold) (out1 out2 : Left) : Type 0 where
  pub output : List ℕ
  pub one : out1 ≡ LeftBytes output
  pub two : out2 ≡ LeftBytes output

same_output : (told : List StartTold) (out1 out2 : Left) → NextGives (StartsListed told) out1 → NextGives (StartsListed told) out2 → IsSameOutput told out1 out2
same_output [] out1 out2 h k = absurd h
same_output (Fails ∷ rest) out1 out2 h k = absurd h
same_output (Gives output ∷ rest) out1 out2 h k = record { output = output; one = h; two = k }

one_kind : (told : List StartTold) (out : Left) → NextGives (StartsListed told) out → NextFails (StartsListed told) → ⊥
one_kind [] out h k = h
one_kind (Fails ∷ rest) out h k = h
one_kind (Gives output ∷ rest) out h k = k

abbrev pub HandLaw : Type 0
HandLaw = IsOnePart HandshakePhase Caps handshake_step handshake_start

module _ (replies_law : ReplyLaw) (lists_law : ListLaw) (hand_law : HandLaw) (paths1 paths2 : Paths) (asked : List ℕ) (texts : HaveTexts paths1 asked) (agree : HaveSameTexts paths1 paths2 asked) (d : ℕ) where
  -- a session from its opening on
  module _ (output : List ℕ) (seen1 seen2 : SessionHad) (told1 : IsToldSession output seen1) (told2 : IsToldSession output seen2) (rest1 rest2 : List Exchange) (u v : Talk)
      (out1 : IsOutside rest1) (out2 : IsOutside rest2) (over1 : IsOver u) (over2 : IsOver v)
      (left : (t : Talk) (fate : ℕ → Fate) → Stands asked t fate → LeadsTo d t rest1 u → LeadsTo d t rest2 v → Spared d fate rest1 → Spared d fate rest2 → Alike d fate rest1 rest2) where
    no_own : (t : Talk) (fate : ℕ → Fate) (own1 own2 : List Exchange) → own1 ≡ [] → own2 ≡ [] → Stands asked t fate → Runs d t fate (own1 ++ rest1) u → Runs d t fate (own2 ++ rest2) v
        → Alike d fate (own1 ++ rest1) (own2 ++ rest2)
    no_own t fate own1 own2 e f s g h =
        let i : own1 ++ rest1 ≡ rest1 = ap (λ (z : List Exchange). z ++ rest1) e in
        let j : own2 ++ rest2 ≡ rest2 = ap (λ (z : List Exchange). z ++ rest2) f in
        let g2 : Runs d t fate rest1 u = subst (λ (z : List Exchange). Runs d t fate z u) i g in
        let h2 : Runs d t fate rest2 v = subst (λ (z : List Exchange). Runs d t fate z v) j h in
        to_alike d fate (own1 ++ rest1) (own2 ++ rest2) rest1 rest2 i j (left t fate s g2.0 h2.0 g2.1 h2.1)

    bodies : (end : Ends Caps) (t : Talk) (fate : ℕ → Fate) (own1 own2 : List Exchange) → IsSession paths1 end own1 seen1 → IsSession paths2 end own2 seen2 → Stands asked t fate
        → Runs d t fate (own1 ++ rest1) u → Runs d t fate (own2 ++ rest2) v → Alike d fate (own1 ++ rest1) (own2 ++ rest2)
    bodies (Good caps) t fate own1 own2 a b s g h =
        let p = opened_part output paths1 caps own1 seen1 told1 a in
        let q = opened_part output paths2 caps own2 seen2 told2 b in
        let w = hand_law output a.used a.later b.used b.later (Good caps) (Good caps) p q in
        let whole : (a.used ++ a.later) ++ told1.ahead ≡ (b.used ++ b.later) ++ told2.ahead =
        ap (λ (x : List ℕ). x ++ told1.ahead) (sym (told_taken seen1.taken told1.taken a.taken told1.is a.taken_is ∙ a.parts)) ∙ (sym told1.whole ∙ (told2.whole
        ∙ ap (λ (x : List ℕ). x ++ told2.ahead) (told_taken seen2.taken told2.taken b.taken told2.is b.taken_is ∙ b.parts))) in
        let same : a.later ++ told1.ahead ≡ b.later ++ told2.ahead =
        same_left a.used b.used (a.later ++ told1.ahead) (b.later ++ told2.ahead) w.2 (sym (append_assoc a.used a.later told1.ahead) ∙ (whole ∙ append_assoc b.used b.later told2.ahead)) in
        same_session replies_law lists_law paths1 paths2 asked texts agree caps d seen1 seen2 told1.ahead told2.ahead told1.quiet told2.quiet rest1 rest2 u v out1 out2 over1 over2 left
        own1 own2 t fate a.more b.more a.later b.later s a.spoken b.spoken same a.counts b.counts g.0 h.0 g.1 h.1
    bodies (Broke why) t fate own1 own2 a b s g h = no_own t fate own1 own2 a.0 b.0 s g h
    bodies OutOfMemory t fate own1 own2 a b s g h = no_own t fate own1 own2 a.0 b.0 s g h

    room_for : (t : Talk) (fate : ℕ → Fate) (p : ℕ) (end : Ends Caps) (es : List Exchange) (w : Talk) → Stands asked t fate → Runs d t fate (Opening p end ∷ es) w → end ≡ OutOfMemory → ⊥
    room_for t fate p end es w s g e =
        let k : Runs d t fate (Opening p OutOfMemory ∷ es) w = subst (λ (x : Ends Caps). Runs d t fate (Opening p x ∷ es) w) e g in
        no_opening asked d t fate p es w s k.1 k.0

    pub openings : (t : Talk) (fate : ℕ → Fate) (p q : ℕ) (end1 end2 : Ends Caps) (own1 own2 : List Exchange) → IsSession paths1 end1 own1 seen1 → IsSession paths2 end2 own2 seen2 → Stands asked t fate
        → Runs d t fate (Opening p end1 ∷ (own1 ++ rest1)) u → Runs d t fate (Opening q end2 ∷ (own2 ++ rest2)) v
        → Alike d fate (Opening p end1 ∷ (own1 ++ rest1)) (Opening q end2 ∷ (own2 ++ rest2))
    openings t fate p q end1 end2 own1 own2 a b s g h =
        let l = g.0 in
        let k = h.0 in
        let due : Start p ≡ Start q = due_is d t (Opening p end1) l.0 l.1 l.2 s.none s.turns ∙ sym (due_is d t (Opening q end2) k.0 k.1 k.2 s.none s.turns) in
        let path : p ≡ q = cc due in
        let i = session_part output paths1 end1 own1 seen1 told1 a (room_for t fate p end1 (own1 ++ rest1) u s g) in
        let j = session_part output paths2 end2 own2 seen2 told2 b (room_for t fate q end2 (own2 ++ rest2) v s h) in
        let ends : end1 ≡ end2 = (hand_law output i.used i.later j.used j.later end1 end2 i.part j.part).0 in
        let b2 : IsSession paths2 end1 own2 seen2 = subst (λ (x : Ends Caps). IsSession paths2 x own2 seen2) (sym ends) b in
        let same : Opening p end1 ≡ Opening q end2 = cc (path, ends) in
        both_more asked d t fate (Opening p end1) (Opening q end2) (own1 ++ rest1) (own2 ++ rest2) u v same s g h
        (λ mid run st x y. bodies end1 mid (after d (Opening p end1) fate) own1 own2 a b2 st x y)

  -- nothing is left of both
  pub none_left : (t : Talk) (fate : ℕ → Fate) (es fs : List Exchange) (u v : Talk) → es ≡ [] → IsOver u → LeadsTo d t es u → LeadsTo d t fs v → (es ≡ []) × (fs ≡ [])
  none_left t fate es fs u v e over l k =
      let here : t ≡ u = subst (λ (z : List Exchange). LeadsTo d t z u) e l in
      (e, nothing_more d t fs v (ap due_at here ∙ over_nothing u over) k)

  pub failed_starts : (t : Talk) (fate : ℕ → Fate) (p q : ℕ) (es fs : List Exchange) (u v : Talk) → Stands asked t fate → Runs d t fate (NoStart p ∷ es) u → Runs d t fate (NoStart q ∷ fs) v
      → ((mid : Talk) (more : ℕ → Fate) → Stands asked mid more → Runs d mid more es u → Runs d mid more fs v → Alike d more es fs) → Alike d fate (NoStart p ∷ es) (NoStart q ∷ fs)
  failed_starts t fate p q es fs u v s g h left =
      let l = g.0 in
      let k = h.0 in
      let due : Start p ≡ Start q = due_is d t (NoStart p) l.0 l.1 l.2 s.none s.turns ∙ sym (due_is d t (NoStart q) k.0 k.1 k.2 s.none s.turns) in
      let path : p ≡ q = cc due in
      both_more asked d t fate (NoStart p) (NoStart q) es fs u v (ap NoStart path) s g h (λ mid run st x y. left mid (after d (NoStart p) fate) st x y)

  pub same_items : (i j : List Had) (told : List StartTold) (es fs : List Exchange) (t : Talk) (fate : ℕ → Fate) (u v : Talk) (left1 left2 : Starts) → Stands asked t fate
      → Matches paths1 es i → Matches paths2 fs j → GoBy (StartsListed told) i left1 → GoBy (StartsListed told) j left2 → AreFine i → AreFine j → IsOver u → IsOver v
      → Runs d t fate es u → Runs d t fate fs v → Alike d fate es fs
  same_items [] j told es fs t fate u v left1 left2 s m n a b x y over1 over2 g h =
      let k = none_left t fate es fs u v m over1 g.0 h.0 in
      to_alike d fate es fs [] [] k.0 k.1 (alike_none d fate)
  same_items i [] told es fs t fate u v left1 left2 s m n a b x y over1 over2 g h =
      let k = none_left t fate fs es v u n over2 h.0 g.0 in
      to_alike d fate es fs [] [] k.1 k.0 (alike_none d fate)
  same_items (StartOutOfMemory ∷ hs) j told es fs t fate u v left1 left2 s m n a b x y over1 over2 g h =
      let k : Runs d t fate (NoRoom m.0 ∷ m.1) u = subst (λ (z : List Exchange). Runs d t fate z u) m.2 g in
      absurd (no_room asked d t fate m.0 m.1 u s k.1 k.0)
  same_items i (StartOutOfMemory ∷ ks) told es fs t fate u v left1 left2 s m n a b x y over1 over2 g h =
      let k : Runs d t fate (NoRoom n.0 ∷ n.1) v = subst (λ (z : List Exchange). Runs d t fate z v) n.2 h in
      absurd (no_room asked d t fate n.0 n.1 v s k.1 k.0)
  same_items (StartFailed ∷ hs) (StartFailed ∷ ks) told es fs t fate u v left1 left2 s m n a b x y over1 over2 g h =
      let g2 : Runs d t fate (NoStart m.0 ∷ m.1) u = subst (λ (z : List Exchange). Runs d t fate z u) m.2 g in
      let h2 : Runs d t fate (NoStart n.0 ∷ n.1) v = subst (λ (z : List Exchange). Runs d t fate z v) n.2 h in
      to_alike d fate es fs (NoStart m.0 ∷ m.1) (NoStart n.0 ∷ n.1) m.2 n.2
      (failed_starts t fate m.0 n.0 m.1 n.1 u v s g2 h2 (λ mid more st k l. same_items hs ks (drop 1 told) m.1 n.1 mid more u v left1 left2 st m.3 n.3 a.1 b.1 x y over1 over2 k l))
  same_items (StartFailed ∷ hs) (Session seen ∷ ks) told es fs t fate u v left1 left2 s m n a b x y over1 over2 g h = absurd (one_kind told b.0 b.1 a.0)
  same_items (Session seen ∷ hs) (StartFailed ∷ ks) told es fs t fate u v left1 left2 s m n a b x y over1 over2 g h = absurd (one_kind told a.0 a.1 b.0)
  same_items (Session seen1 ∷ hs) (Session seen2 ∷ ks) told es fs t fate u v left1 left2 s m n a b x y over1 over2 g h =
      let o = same_output told a.0 b.0 a.1 b.1 in
      let told1 = told_session a.0 a.2.left o.output a.2.came x.1.0 seen1 o.one a.2.part a.2.taken a.2.whole x.0 x.1.1 in
      let told2 = told_session b.0 b.2.left o.output b.2.came y.1.0 seen2 o.two b.2.part b.2.taken b.2.whole y.0 y.1.1 in
      let g2 : Runs d t fate (Opening m.0 m.1 ∷ (m.2 ++ m.3)) u = subst (λ (z : List Exchange). Runs d t fate z u) m.4 g in
      let h2 : Runs d t fate (Opening n.0 n.1 ∷ (n.2 ++ n.3)) v = subst (λ (z : List Exchange). Runs d t fate z v) n.4 h in
      to_alike d fate es fs (Opening m.0 m.1 ∷ (m.2 ++ m.3)) (Opening n.0 n.1 ∷ (n.2 ++ n.3)) m.4 n.4
      (openings o.output seen1 seen2 told1 told2 m.3 n.3 u v (outside_of paths1 hs m.3 m.6) (outside_of paths2 ks n.3 n.6) over1 over2
      (λ mid more st k l p q. same_items hs ks (drop 1 told) m.3 n.3 mid more u v left1 left2 st m.6 n.6 a.3 b.3 x.2 y.2 over1 over2 (k, p) (l, q))
      t fate m.0 n.0 m.1 n.1 m.2 n.2 m.5 n.5 s g2 h2)

-- from the beginning

-- what isn't asked counts as known
abbrev pub first_fate : List ℕ → ℕ → Fate
first_fate asked p = cond (contains p asked) Untold (Known heard.Got)

count_apart : (p : ℕ) (asked : List ℕ) → AreApart asked → ◌≡◌ {A = ℕ} (count p asked) (cond (contains p asked) 1 0)
count_apart p [] h = refl
count_apart p (q ∷ qs) h = go (p == q) refl (count_apart p qs h.1)
  where
    go : (b : Bool) → (p == q) ≡ b → ◌≡◌ {A = ℕ} (count p qs) (cond (contains p qs) 1 0) → ◌≡◌ {A = ℕ} (cond b 1 0 + count p qs) (cond (cond b true (contains p qs)) 1 0)
    go true e k =
        let same : p ≡ q = eqb-true p q e in
        let none : contains p qs ≡ false = subst (λ (x : ℕ). contains x qs ≡ false) (sym same) h.0 in
        let zero : ◌≡◌ {A = ℕ} (count p qs) 0 = k ∙ ap (λ (b : Bool). cond b 1 0) none in
        omega (arith, zero)
    go false e k = omega (arith, k)

first_counts : (b : Bool) (n : ℕ) → ◌≡◌ {A = ℕ} n (cond b 1 0) → n ≡ first_due (cond b Untold (Known heard.Got))
first_counts true n e = e
first_counts false n e = e

second_counts : (b : Bool) → second_due (cond b Untold (Known heard.Got)) ≡ 0
second_counts true = refl
second_counts false = refl

first_within : (b : Bool) → (b ≡ true) ⊎ ((h : Heard) × (cond b Untold (Known heard.Got) ≡ Known h))
first_within true = inl refl
first_within false = inr (heard.Got, refl)

pub begins : (asked : List ℕ) → AreApart asked → Stands asked (Between asked) (first_fate asked)
begins asked apart = record {
  none = tt;
  turns = tt;
  fits = λ p. (first_counts (contains p asked) (count p asked) (count_apart p asked apart), second_counts (contains p asked));
  within = λ p. first_within (contains p asked);
}

pub first_spared : (b : Bool) (p : ℕ) (es : List Event) → (b ≡ true → fate_of p Untold es ≡ Known heard.OutOfMemory → ⊥) → fate_of p (cond b Untold (Known heard.Got)) es ≡ Known heard.OutOfMemory → ⊥
first_spared true p es h e = h refl e
first_spared false p es h e = let bad : Known heard.Got ≡ Known heard.OutOfMemory = sym (known_stays p heard.Got es) ∙ e in absurd (cc bad)

pub same_first : (b : Bool) (p : ℕ) (xs ys : List Event) → b ≡ true → fate_of p (cond b Untold (Known heard.Got)) xs ≡ fate_of p (cond b Untold (Known heard.Got)) ys → fate_of p Untold xs ≡ fate_of p Untold ys
same_first true p xs ys e h = h
same_first false p xs ys e h = absurd (cc e)

pub same_heard : ReplyLaw → ListLaw → HandLaw → SameHeard
same_heard replies_law lists_law hand_law d a b asked told i j es fs apart texts agree one two =
    let k = same_items replies_law lists_law hand_law a b asked texts agree d one.full two.full told es fs (Between asked) (first_fate asked) one.talk.end two.talk.end one.left two.left (begins asked apart)
    one.talk.spells two.talk.spells one.goes two.goes (full_fine i one.full one.fills one.fine) (full_fine j two.full two.fills two.fine) one.talk.over two.talk.over
    (one.talk.goes, λ p. first_spared (contains p asked) p (notes_in d es) (one.memory p)) (two.talk.goes, λ p. first_spared (contains p asked) p (notes_in d fs) (two.memory p)) in (
      λ p here. (same_first (contains p asked) p (notes_in d es) (notes_in d fs) here (k.fates p), k.contents p),
      k.same,
      λ agree caps. same_requests a b asked agree caps d (Between asked) (first_fate asked) es one.talk.end (begins asked apart) one.talk.goes,
    )
