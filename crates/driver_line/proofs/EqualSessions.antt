-- Two talks with equal sessions.
use Rattle.std.proofs.Common.{◌≡◌, ◌⊎◌, inl, inr, ℕ, zero, suc, ◌<◌, Bool, true, false, List, [], ◌∷◌, ◌++◌, length, Option, Some, refl, sym, ap, subst, ◌∙◌, arith, append_assoc, length-append}
use Rattle.std.proofs.lemmas.List.{append-nil}
use Rattle.std.proofs.lemmas.Bool.{cases_Bool}
use Rattle.filter_words.specs.Requests.{hello_text, caps_text, list_text, first_text, second_text}
use Rattle.filter_words.specs.Handshake.{handshake_step, handshake_start}
use Rattle.filter_words.specs.declared.reply.Caps.{Caps}
use Rattle.filter_words.specs.declared.reply.BreakCause.{BreakCause}
use Rattle.filter_words.specs.declared.reply.BreakCause.TheVariants as cause
use Rattle.filter_words.specs.declared.reply.Reply.{Reply}
use Rattle.filter_words.specs.declared.reply.Reply.TheVariants as reply
use Rattle.filter_words.specs.declared.reply.ListReply.{ListReply}
use Rattle.filter_words.specs.declared.reply.ListReply.TheVariants as list
use Rattle.edge_kit.specs.Files.{grown}
use Rattle.edge_kit.specs.Told.{Tells}
use Rattle.edge_kit.specs.Starters.{Had, Session, StartFailed, StartOutOfMemory, SessionHad}
use Rattle.delay_table.specs.Table.{contains}
use Rattle.filter_proto.specs.Exchanges.{Ends, Good, Broke, OutOfMemory}
use Rattle.filter_proto.specs.Openings.{IsOpening}
use Rattle.checkout_core.specs.declared.path.Heard.{Heard}
use Rattle.checkout_core.specs.Fates.{Fate}
use Rattle.checkout_core.specs.Talks.{Talk, Between, IsOver}
use Rattle.driver_line.specs.Conversations.{Exchange, NoStart, NoRoom, Opening, First, Listing, Second, Shutting, notes_in}
use Rattle.driver_line.specs.Lines.{Paths}
use Rattle.driver_line.specs.SameHeard.{HaveTexts, HaveSameTexts, HaveSamePaths}
use Rattle.driver_line.specs.EqualSessions.{EqualSessions}
use Rattle.driver_line.specs.Parts.{IsPartOf}
use Rattle.driver_line.specs.ToldStarts.{Fills}
use Rattle.driver_line.specs.Transcripts.{AnswerIs, MayCut, HasNothing, Spoken, FitsCounts, AllFit, IsOpenedSession, IsFailedSession, IsSession, Matches, break_of, wants, request_of}
use Rattle.driver_line.proofs.Calm.{calm, calmed, Goes, part_calm, answer_calm, goes_calm, wants_calm, never_linked, calm_never, told_apart}
use Rattle.driver_line.proofs.Failed.{hand_plain}
use Rattle.driver_line.proofs.Requests.{same_due, same_request}
use Rattle.driver_line.proofs.Told.{grown_both}
use Rattle.driver_line.proofs.TalkDue.{Start, due_of, due_at, due_is}
use Rattle.driver_line.proofs.SameStates.{Stands, Alike, Runs, after, alike_none, to_alike, both_more, wanted, bare_ends, no_room, no_opening}
use Rattle.driver_line.proofs.SameExchanges.{IsRead, ReplyLaw, ListLaw, same_exchange, part_of, settled_break}
use Rattle.driver_line.proofs.SameSessions.{IsOutside, same_left, over_too}
use Rattle.driver_line.proofs.SameTalks.{IsToldSession, IsAnswerTo, HandLaw, told_taken, all_grown, heard_answer, failed_part, outside_of, failed_starts, first_fate, first_spared, same_first, begins}

-- the texts that are sent have bytes

filled : (a : List ℕ) (x : ℕ) (xs rest : List ℕ) → 0 < length ((a ++ (x ∷ xs)) ++ rest)
filled a x xs rest =
    let one = length-append (a ++ (x ∷ xs)) rest in
    let two = length-append a (x ∷ xs) in
    omega (arith, one, two)

caps_filled : 0 < length caps_text
unfolding caps_text
caps_filled = filled _ _ _ _

list_filled : 0 < length list_text
unfolding list_text
list_filled = filled _ _ _ _

first_filled : (path name : List ℕ) (d : Bool) (content : List ℕ) → 0 < length (first_text path name d content)
unfolding first_text
first_filled path name d content = filled _ _ _ _

second_filled : (path name : List ℕ) → 0 < length (second_text path name)
unfolding second_text
second_filled path name = first_filled path name false []

request_filled : (paths : Paths) (caps : Caps) (e : Exchange) → MayCut e → 0 < length (request_of paths caps e)
request_filled paths caps (First p r c) h = first_filled (paths.text p) (paths.name p) caps.delay (paths.content p)
request_filled paths caps (Second p r c) h = second_filled (paths.text p) (paths.name p)
request_filled paths caps (Listing late names r) h = list_filled
request_filled paths caps Shutting h = elim h [ inl k ↦ absurd (cc k) | inr k ↦ absurd (cc k) ]
request_filled paths caps (NoStart p) h = elim h [ inl k ↦ absurd (cc k) | inr k ↦ absurd (cc k) ]
request_filled paths caps (NoRoom p) h = elim h [ inl k ↦ absurd (cc k) | inr k ↦ absurd (cc k) ]
request_filled paths caps (Opening p end) h = elim h [ inl k ↦ absurd (cc k) | inr k ↦ absurd (cc k) ]

-- a text that was cut isn't the front of what was sent
never_whole : (text sent after more : List ℕ) → text ≡ sent ++ after → sent ≡ text ++ more → 0 < length after → ⊥
never_whole text sent after more a b lt =
    let one = length-append sent after in
    let two = length-append text more in
    let la = ap (λ (x : List ℕ). length x) a in
    let lb = ap (λ (x : List ℕ). length x) b in
    omega (arith, one, two, la, lb, lt)

first_linked : (p : ℕ) (r : Reply) (c : List ℕ) → break_of (First p r c) ≡ Some cause.LinkFault → r ≡ reply.Broken cause.LinkFault
first_linked p reply.Content c e = absurd (cc e)
first_linked p reply.Error c e = absurd (cc e)
first_linked p reply.ErrorAfter c e = absurd (cc e)
first_linked p reply.Delayed c e = absurd (cc e)
first_linked p reply.Abort c e = absurd (cc e)
first_linked p (reply.Broken why) c e = let same : why ≡ cause.LinkFault = cc e in ap reply.Broken same
first_linked p reply.NoMemory c e = absurd (cc e)

second_linked : (p : ℕ) (r : Reply) (c : List ℕ) → break_of (Second p r c) ≡ Some cause.LinkFault → r ≡ reply.Broken cause.LinkFault
second_linked p reply.Content c e = absurd (cc e)
second_linked p reply.Error c e = absurd (cc e)
second_linked p reply.ErrorAfter c e = absurd (cc e)
second_linked p reply.Delayed c e = absurd (cc e)
second_linked p reply.Abort c e = absurd (cc e)
second_linked p (reply.Broken why) c e = let same : why ≡ cause.LinkFault = cc e in ap reply.Broken same
second_linked p reply.NoMemory c e = absurd (cc e)

list_linked : (late names : List ℕ) (r : ListReply) → break_of (Listing late names r) ≡ Some cause.LinkFault → r ≡ list.Broken cause.LinkFault
list_linked late names (list.Names n) e = absurd (cc e)
list_linked late names list.Empty e = absurd (cc e)
list_linked late names list.Abort e = absurd (cc e)
list_linked late names (list.Broken why) e = let same : why ≡ cause.LinkFault = cc e in ap list.Broken same
list_linked late names list.NoMemory e = absurd (cc e)

-- two requests that were cut by a fault
both_cut : (d : ℕ) (t : Talk) (e f : Exchange) (u v : Talk) → due_of e ≡ due_of f → Goes d t e u → Goes d t f v → break_of e ≡ Some cause.LinkFault → break_of f ≡ Some cause.LinkFault → HasNothing e → HasNothing f → e ≡ f
both_cut d t (First p y c) (First q z k) u v due g h a b m n =
    let one : p ≡ q = cc due in
    let two : y ≡ z = first_linked p y c a ∙ sym (first_linked q z k b) in
    let three : c ≡ k = m ∙ sym n in
    cc (one, two, three)
both_cut d t (Second p y c) (Second q z k) u v due g h a b m n =
    let one : p ≡ q = cc due in
    let two : y ≡ z = second_linked p y c a ∙ sym (second_linked q z k b) in
    let three : c ≡ k = m ∙ sym n in
    cc (one, two, three)
both_cut d t (Listing la xs r) (Listing lb ys q) u v due g h a b m n =
    let one : la ≡ lb = g.0 ∙ sym h.0 in
    let two : r ≡ q = list_linked la xs r a ∙ sym (list_linked lb ys q b) in
    let three : xs ≡ ys = m ∙ sym n in
    cc (one, two, three)
both_cut d t (First p y c) f u v due g h a b m n = absurd (cc due)
both_cut d t (Second p y c) f u v due g h a b m n = absurd (cc due)
both_cut d t (Listing la xs r) f u v due g h a b m n = absurd (cc due)
both_cut d t Shutting f u v due g h a b m n = absurd (cc a)
both_cut d t (NoStart p) f u v due g h a b m n = absurd (cc a)
both_cut d t (NoRoom p) f u v due g h a b m n = absurd (cc a)
both_cut d t (Opening p end) f u v due g h a b m n = absurd (cc a)

-- only a fault cuts a request that wants no memory
cut_linked : (e : Exchange) → MayCut e → wants e ≡ false → break_of e ≡ Some cause.LinkFault
cut_linked e (inl k) memory = k
cut_linked e (inr k) memory = absurd (cc (sym memory ∙ k))

-- an exchange that was answered, a fault of its link read as an end of input
read_calm : (paths : Paths) (caps : Caps) (e : Exchange) (taken used later : List ℕ) → taken ≡ used ++ later → wants e ≡ false → AnswerIs paths caps e used later → IsRead paths caps (calmed e) taken used later []
read_calm paths caps e taken used later parts memory h = record {
  answer = answer_calm paths caps e used later h;
  whole = parts ∙ sym (append-nil (used ++ later));
  ended = λ k. refl;
  linked = never_linked e;
  memory = wants_calm e ∙ memory;
}

-- both go on with the same exchange, and the same bytes
record GoesOn (a b : Paths) (caps : Caps) (e f : Exchange) (es fs : List Exchange) : Type 0 where
  same : e ≡ f
  more : List ℕ
  later : List ℕ
  spoken1 : Spoken a caps es more later
  spoken2 : Spoken b caps fs more later

module _ (replies_law : ReplyLaw) (lists_law : ListLaw) (a b : Paths) (asked : List ℕ) (texts : HaveTexts a asked) (agree : HaveSamePaths a b asked) (caps : Caps) (d : ℕ) (seen : SessionHad) where
  same_texts : HaveSameTexts a b asked
  same_texts p here = (agree p here).0

  both_spoken : (t : Talk) (fate : ℕ → Fate) (e f : Exchange) (es fs : List Exchange) (sent taken : List ℕ) (u v : Talk) → Stands asked t fate → Goes d t e u → Goes d t f v → wants e ≡ false → wants f ≡ false
      → FitsCounts seen (break_of e) → FitsCounts seen (break_of f) → Spoken a caps (e ∷ es) sent taken → Spoken b caps (f ∷ fs) sent taken → GoesOn a b caps e f es fs
  both_spoken t fate e f es fs sent taken u v s g h m n i j (inl p) (inl q) = record {
    same = both_cut d t e f u v (same_due a b asked agree caps d t fate e f u v s g h) g h (cut_linked e p.1.may m) (cut_linked f q.1.may n) p.1.nothing q.1.nothing;
    more = [];
    later = [];
    spoken1 = subst (λ (x : List Exchange). Spoken a caps x [] []) (sym p.0) refl;
    spoken2 = subst (λ (x : List Exchange). Spoken b caps x [] []) (sym q.0) refl;
  }
  both_spoken t fate e f es fs sent taken u v s g h m n i j (inl p) (inr q) =
      absurd (never_whole (request_of a caps e) sent p.1.after q.0 p.1.text (q.3 ∙ ap (λ (x : List ℕ). x ++ q.0) (sym (same_request a b asked agree caps d t fate e f u v s g h))) (p.1.proper (request_filled a caps e p.1.may)))
  both_spoken t fate e f es fs sent taken u v s g h m n i j (inr p) (inl q) =
      absurd (never_whole (request_of b caps f) sent q.1.after p.0 q.1.text (p.3 ∙ ap (λ (x : List ℕ). x ++ p.0) (same_request a b asked agree caps d t fate e f u v s g h)) (q.1.proper (request_filled b caps f q.1.may)))
  both_spoken t fate e f es fs sent taken u v s g h m n i j (inr p) (inr q) =
      let w = same_exchange replies_law lists_law a b asked texts same_texts caps d t fate s taken p.1 p.2 [] q.1 q.2 [] u v (calmed e) (calmed f) (goes_calm d t e u g) (goes_calm d t f v h)
      (read_calm a caps e taken p.1 p.2 p.4 m p.5) (read_calm b caps f taken q.1 q.2 q.4 n q.5) in
      let later : q.2 ≡ p.2 = same_left q.1 p.1 q.2 p.2 (sym w.1) (sym q.4 ∙ p.4) in
      let more : q.0 ≡ p.0 = same_left (request_of b caps f) (request_of a caps e) q.0 p.0 (sym (same_request a b asked agree caps d t fate e f u v s g h)) (sym q.3 ∙ p.3) in
      record {
        same = told_apart seen e f i j w.0;
        more = p.0;
        later = p.2;
        spoken1 = p.6;
        spoken2 = subst (λ (x : List ℕ). Spoken b caps fs x p.2) more (subst (λ (x : List ℕ). Spoken b caps fs q.0 x) later q.6);
      }

  step : (t : Talk) (fate : ℕ → Fate) (e f : Exchange) (es fs xs ys : List Exchange) (sent taken : List ℕ) (u v : Talk) → Stands asked t fate → Spoken a caps (e ∷ es) sent taken → Spoken b caps (f ∷ fs) sent taken
      → FitsCounts seen (break_of e) → FitsCounts seen (break_of f) → Runs d t fate (e ∷ xs) u → Runs d t fate (f ∷ ys) v → Alike d fate (e ∷ xs) (f ∷ ys) ⊎ GoesOn a b caps e f es fs
  step t fate e f es fs xs ys sent taken u v s p q i j l k =
      elim (cases_Bool (wants e)) [
        | inl w ↦ inl (bare_ends asked d t fate e f xs ys u v s (wanted asked d t fate e xs u w s l.1 l.0) l.0 k.0 (inl w))
        | inr one ↦ elim (cases_Bool (wants f)) [
          | inl w ↦ inl (bare_ends asked d t fate e f xs ys u v s (wanted asked d t fate f ys v w s k.1 k.0) l.0 k.0 (inr w))
          | inr two ↦ inr (both_spoken t fate e f es fs sent taken l.0.0 k.0.0 s (l.0.1, l.0.2) (k.0.1, k.0.2) one two i j p q)
        ]
      ]

  -- what is left of both talks, after the session
  module _ (rest1 rest2 : List Exchange) (u v : Talk) (out1 : IsOutside rest1) (out2 : IsOutside rest2) (over1 : IsOver u) (over2 : IsOver v)
      (left : (t : Talk) (fate : ℕ → Fate) → Stands asked t fate → Runs d t fate rest1 u → Runs d t fate rest2 v → Alike d fate rest1 rest2) where
    pub equal_session : (es fs : List Exchange) (t : Talk) (fate : ℕ → Fate) (sent taken : List ℕ) → Stands asked t fate → Spoken a caps es sent taken → Spoken b caps fs sent taken → AllFit seen es → AllFit seen fs
        → Runs d t fate (es ++ rest1) u → Runs d t fate (fs ++ rest2) v → Alike d fate (es ++ rest1) (fs ++ rest2)
    equal_session [] [] t fate sent taken s p q i j l k = left t fate s l k
    equal_session [] (f ∷ fs) t fate sent taken s p q i j l k = absurd (over_too b caps asked d t fate rest1 u f fs (fs ++ rest2) v sent taken s out1 l.0 over1 q k.0)
    equal_session (e ∷ es) [] t fate sent taken s p q i j l k = absurd (over_too a caps asked d t fate rest2 v e es (es ++ rest1) u sent taken s out2 k.0 over2 p l.0)
    equal_session (e ∷ es) (f ∷ fs) t fate sent taken s p q i j l k =
        elim (step t fate e f es fs (es ++ rest1) (fs ++ rest2) sent taken u v s p q i.0 j.0 l k) [
          | inl alike ↦ alike
          | inr g ↦ both_more asked d t fate e f (es ++ rest1) (fs ++ rest2) u v g.same s l k (λ mid run st x y. equal_session es fs mid (after d e fate) g.more g.later st g.spoken1 g.spoken2 i.1 j.1 x y)
        ]

-- the opening: one with a right answer, and one that failed, didn't send and take the same

-- what a fresh link sent in all
sent_is : (old new : Option (List ℕ)) (text sent : List ℕ) → Tells old [] → new ≡ grown old text → new ≡ Some sent → sent ≡ text
sent_is old new text sent fresh h is = all_grown old text sent fresh (sym h ∙ is)

-- both texts were sent: not as a part of the first, nor as a part of the second
both_texts : (front after more : List ℕ) → hello_text ≡ front ++ after → front ≡ (hello_text ++ caps_text) ++ more → ⊥
both_texts front after more a b =
    let one = length-append front after in
    let two = length-append (hello_text ++ caps_text) more in
    let three = length-append hello_text caps_text in
    let la = ap (λ (x : List ℕ). length x) a in
    let lb = ap (λ (x : List ℕ). length x) b in
    let some = caps_filled in
    omega (arith, one, two, three, la, lb, some)

second_text_whole : (front after more : List ℕ) → caps_text ≡ front ++ after → hello_text ++ front ≡ (hello_text ++ caps_text) ++ more → 0 < length after → ⊥
second_text_whole front after more a b lt =
    never_whole caps_text front after more a (same_left hello_text hello_text front (caps_text ++ more) refl (b ∙ append_assoc hello_text caps_text more)) lt

module _ (hand_law : HandLaw) (paths : Paths) (caps : Caps) (own : List Exchange) (seen : SessionHad) (sent taken : List ℕ) (sent_told : seen.sent ≡ Some sent) (taken_told : seen.taken ≡ Some taken)
    (h : IsOpenedSession paths caps own seen) where
  texts_sent : sent ≡ (hello_text ++ caps_text) ++ h.more
  texts_sent = told_taken seen.sent sent h.sent sent_told h.sent_is ∙ h.texts

  right_answer : taken ≡ h.used ++ h.later
  right_answer = told_taken seen.taken taken h.taken taken_told h.taken_is ∙ h.parts

  never_both : (why : BreakCause) → IsAnswerTo taken (Broke why) → ⊥
  never_both why k =
      let one = part_of handshake_step handshake_start taken h.used h.later [] (Good caps) _ h.opened (right_answer ∙ sym (append-nil (h.used ++ h.later))) (λ e. refl) tt in
      let two = part_of handshake_step handshake_start taken k.used k.later [] (Broke (calm why)) _ (part_calm handshake_step handshake_start k.used k.later (Broke why) _ hand_plain tt k.part)
      (k.parts ∙ sym (append-nil (k.used ++ k.later))) (λ e. refl) (settled_break Caps (calm why) (calm_never why)) in
      let same : Good caps ≡ Broke (calm why) = (hand_law taken h.used h.later k.used k.later (Good caps) (Broke (calm why)) one two).0 in
      absurd (cc same)

  -- an opening that failed
  pub never_failed : (why : BreakCause) → IsFailedSession (Broke why) seen → ⊥
  never_failed why k = go k.opening
    where
      last_sent : k.last.sent ≡ Some sent
      last_sent = sym k.sent ∙ sent_told

      last_taken : k.last.taken ≡ Some taken
      last_taken = sym k.taken ∙ taken_told

      go : IsOpening k.start k.last (Broke why) → ⊥
      go (inl u) = both_texts u.sent.part.front u.sent.part.after h.more u.sent.part.cut (sym (sent_is k.start.sent k.last.sent u.sent.part.front sent k.fresh.sent u.sent.part.told last_sent) ∙ texts_sent)
      go (inr (inl r)) = both_texts hello_text [] h.more (sym (append-nil hello_text)) (sym (sent_is k.start.sent k.last.sent hello_text sent k.fresh.sent r.sent last_sent) ∙ texts_sent)
      go (inr (inr (inl u))) =
          let part = u.unsent.sent.part in
          let told : k.last.sent ≡ grown k.start.sent (hello_text ++ part.front) = part.told ∙ (ap (λ (x : Option (List ℕ)). grown x part.front) u.sent ∙ grown_both k.start.sent hello_text part.front) in
          second_text_whole part.front part.after h.more part.cut (sym (sent_is k.start.sent k.last.sent (hello_text ++ part.front) sent k.fresh.sent told last_sent) ∙ texts_sent) (part.proper caps_filled)
      go (inr (inr (inr o))) = never_both why (heard_answer k.start k.last (Broke why) _ taken k.fresh last_taken o.heard)

-- two openings that failed

counted : (n : ℕ) → (n ≡ 0) ⊎ (0 < n)
counted zero = inl refl
counted (suc n) = inr (omega arith)

both_failed : (hand_law : HandLaw) (x y : Ends Caps) (seen : SessionHad) (taken : List ℕ) → seen.taken ≡ Some taken → (x ≡ OutOfMemory → ⊥) → (y ≡ OutOfMemory → ⊥) → IsFailedSession x seen → IsFailedSession y seen → x ≡ y
both_failed hand_law x y seen taken told m n h k = elim (counted seen.faults) [
  | inl none ↦ (
      let session : IsToldSession taken seen = record { taken = taken; ahead = []; is = told; whole = sym (append-nil taken); quiet = record { faults = none; whole = λ lt. refl } } in
      let one = failed_part taken x seen session h m in
      let two = failed_part taken y seen session k n in
      (hand_law taken one.used one.later two.used two.later x y one.part two.part).0
      )
  | inr some ↦ h.failed some ∙ sym (k.failed some)
]

module _ (replies_law : ReplyLaw) (lists_law : ListLaw) (hand_law : HandLaw) (a b : Paths) (asked : List ℕ) (texts : HaveTexts a asked) (agree : HaveSamePaths a b asked) (d : ℕ) where
  -- a session from its opening on
  module _ (seen : SessionHad) (sent taken : List ℕ) (sent_told : seen.sent ≡ Some sent) (taken_told : seen.taken ≡ Some taken) (rest1 rest2 : List Exchange) (u v : Talk)
      (out1 : IsOutside rest1) (out2 : IsOutside rest2) (over1 : IsOver u) (over2 : IsOver v)
      (left : (t : Talk) (fate : ℕ → Fate) → Stands asked t fate → Runs d t fate rest1 u → Runs d t fate rest2 v → Alike d fate rest1 rest2) where
    first_part : (paths : Paths) (caps : Caps) (own : List Exchange) (h : IsOpenedSession paths caps own seen) → IsPartOf handshake_step handshake_start taken h.used h.later (Good caps)
    first_part paths caps own h =
        part_of handshake_step handshake_start taken h.used h.later [] (Good caps) _ h.opened
        (right_answer hand_law paths caps own seen sent taken sent_told taken_told h ∙ sym (append-nil (h.used ++ h.later))) (λ e. refl) tt

    same_ends : (x y : Ends Caps) (own1 own2 : List Exchange) → IsSession a x own1 seen → IsSession b y own2 seen → (x ≡ OutOfMemory → ⊥) → (y ≡ OutOfMemory → ⊥) → x ≡ y
    same_ends (Good c1) (Good c2) own1 own2 h k m n = (hand_law taken h.used h.later k.used k.later (Good c1) (Good c2) (first_part a c1 own1 h) (first_part b c2 own2 k)).0
    same_ends (Good c) (Broke why) own1 own2 h k m n = absurd (never_failed hand_law a c own1 seen sent taken sent_told taken_told h why k.1)
    same_ends (Broke why) (Good c) own1 own2 h k m n = absurd (never_failed hand_law b c own2 seen sent taken sent_told taken_told k why h.1)
    same_ends (Broke why) (Broke other) own1 own2 h k m n = both_failed hand_law (Broke why) (Broke other) seen taken taken_told m n h.1 k.1
    same_ends OutOfMemory y own1 own2 h k m n = absurd (m refl)
    same_ends (Good c) OutOfMemory own1 own2 h k m n = absurd (n refl)
    same_ends (Broke why) OutOfMemory own1 own2 h k m n = absurd (n refl)

    opened_bodies : (caps : Caps) (t : Talk) (fate : ℕ → Fate) (own1 own2 : List Exchange) → IsOpenedSession a caps own1 seen → IsOpenedSession b caps own2 seen → Stands asked t fate
        → Runs d t fate (own1 ++ rest1) u → Runs d t fate (own2 ++ rest2) v → Alike d fate (own1 ++ rest1) (own2 ++ rest2)
    opened_bodies caps t fate own1 own2 h k s l m =
        let used : h.used ≡ k.used = (hand_law taken h.used h.later k.used k.later (Good caps) (Good caps) (first_part a caps own1 h) (first_part b caps own2 k)).2 in
        let later : h.later ≡ k.later = same_left h.used k.used h.later k.later used
        (sym (right_answer hand_law a caps own1 seen sent taken sent_told taken_told h) ∙ right_answer hand_law b caps own2 seen sent taken sent_told taken_told k) in
        let more : h.more ≡ k.more = same_left (hello_text ++ caps_text) (hello_text ++ caps_text) h.more k.more refl
        (sym (texts_sent hand_law a caps own1 seen sent taken sent_told taken_told h) ∙ texts_sent hand_law b caps own2 seen sent taken sent_told taken_told k) in
        let spoken : Spoken a caps own1 k.more k.later = subst (λ (x : List ℕ). Spoken a caps own1 x k.later) more (subst (λ (x : List ℕ). Spoken a caps own1 h.more x) later h.spoken) in
        equal_session replies_law lists_law a b asked texts agree caps d seen rest1 rest2 u v out1 out2 over1 over2 left own1 own2 t fate k.more k.later s spoken k.spoken h.counts k.counts l m

    no_own : (t : Talk) (fate : ℕ → Fate) (own1 own2 : List Exchange) → own1 ≡ [] → own2 ≡ [] → Stands asked t fate → Runs d t fate (own1 ++ rest1) u → Runs d t fate (own2 ++ rest2) v
        → Alike d fate (own1 ++ rest1) (own2 ++ rest2)
    no_own t fate own1 own2 e f s g h =
        let i : own1 ++ rest1 ≡ rest1 = ap (λ (z : List Exchange). z ++ rest1) e in
        let j : own2 ++ rest2 ≡ rest2 = ap (λ (z : List Exchange). z ++ rest2) f in
        to_alike d fate (own1 ++ rest1) (own2 ++ rest2) rest1 rest2 i j (left t fate s (subst (λ (z : List Exchange). Runs d t fate z u) i g) (subst (λ (z : List Exchange). Runs d t fate z v) j h))

    bodies : (end : Ends Caps) (t : Talk) (fate : ℕ → Fate) (own1 own2 : List Exchange) → IsSession a end own1 seen → IsSession b end own2 seen → Stands asked t fate
        → Runs d t fate (own1 ++ rest1) u → Runs d t fate (own2 ++ rest2) v → Alike d fate (own1 ++ rest1) (own2 ++ rest2)
    bodies (Good caps) t fate own1 own2 h k s l m = opened_bodies caps t fate own1 own2 h k s l m
    bodies (Broke why) t fate own1 own2 h k s l m = no_own t fate own1 own2 h.0 k.0 s l m
    bodies OutOfMemory t fate own1 own2 h k s l m = no_own t fate own1 own2 h.0 k.0 s l m

    room_for : (t : Talk) (fate : ℕ → Fate) (p : ℕ) (end : Ends Caps) (es : List Exchange) (w : Talk) → Stands asked t fate → Runs d t fate (Opening p end ∷ es) w → end ≡ OutOfMemory → ⊥
    room_for t fate p end es w s g e =
        let k : Runs d t fate (Opening p OutOfMemory ∷ es) w = subst (λ (x : Ends Caps). Runs d t fate (Opening p x ∷ es) w) e g in
        no_opening asked d t fate p es w s k.1 k.0

    openings : (t : Talk) (fate : ℕ → Fate) (p q : ℕ) (end1 end2 : Ends Caps) (own1 own2 : List Exchange) → IsSession a end1 own1 seen → IsSession b end2 own2 seen → Stands asked t fate
        → Runs d t fate (Opening p end1 ∷ (own1 ++ rest1)) u → Runs d t fate (Opening q end2 ∷ (own2 ++ rest2)) v
        → Alike d fate (Opening p end1 ∷ (own1 ++ rest1)) (Opening q end2 ∷ (own2 ++ rest2))
    openings t fate p q end1 end2 own1 own2 h k s l m =
        let due : Start p ≡ Start q = due_is d t (Opening p end1) l.0.0 l.0.1 l.0.2 s.none s.turns ∙ sym (due_is d t (Opening q end2) m.0.0 m.0.1 m.0.2 s.none s.turns) in
        let path : p ≡ q = cc due in
        let ends : end1 ≡ end2 = same_ends end1 end2 own1 own2 h k (room_for t fate p end1 (own1 ++ rest1) u s l) (room_for t fate q end2 (own2 ++ rest2) v s m) in
        let other : IsSession b end1 own2 seen = subst (λ (x : Ends Caps). IsSession b x own2 seen) (sym ends) k in
        let same : Opening p end1 ≡ Opening q end2 = cc (path, ends) in
        both_more asked d t fate (Opening p end1) (Opening q end2) (own1 ++ rest1) (own2 ++ rest2) u v same s l m
        (λ mid run st x y. bodies end1 mid (after d (Opening p end1) fate) own1 own2 h other st x y)

  same_items : (hs fulls : List Had) (es fs : List Exchange) (t : Talk) (fate : ℕ → Fate) (u v : Talk) → Fills hs fulls → Stands asked t fate → Matches a es fulls → Matches b fs fulls
      → IsOver u → IsOver v → Runs d t fate es u → Runs d t fate fs v → Alike d fate es fs
  same_items [] [] es fs t fate u v fills s m n over1 over2 g h = to_alike d fate es fs [] [] m n (alike_none d fate)
  same_items (StartOutOfMemory ∷ hs) (StartOutOfMemory ∷ ks) es fs t fate u v fills s m n over1 over2 g h =
      let k : Runs d t fate (NoRoom m.0 ∷ m.1) u = subst (λ (z : List Exchange). Runs d t fate z u) m.2 g in
      absurd (no_room asked d t fate m.0 m.1 u s k.1 k.0)
  same_items (StartFailed ∷ hs) (StartFailed ∷ ks) es fs t fate u v fills s m n over1 over2 g h =
      let g2 : Runs d t fate (NoStart m.0 ∷ m.1) u = subst (λ (z : List Exchange). Runs d t fate z u) m.2 g in
      let h2 : Runs d t fate (NoStart n.0 ∷ n.1) v = subst (λ (z : List Exchange). Runs d t fate z v) n.2 h in
      to_alike d fate es fs (NoStart m.0 ∷ m.1) (NoStart n.0 ∷ n.1) m.2 n.2
      (failed_starts replies_law lists_law hand_law a b asked texts (λ p here. (agree p here).0) d t fate m.0 n.0 m.1 n.1 u v s g2 h2
      (λ mid more st x y. same_items hs ks m.1 n.1 mid more u v fills st m.3 n.3 over1 over2 x y))
  same_items (Session had ∷ hs) (Session seen ∷ ks) es fs t fate u v fills s m n over1 over2 g h =
      let g2 : Runs d t fate (Opening m.0 m.1 ∷ (m.2 ++ m.3)) u = subst (λ (z : List Exchange). Runs d t fate z u) m.4 g in
      let h2 : Runs d t fate (Opening n.0 n.1 ∷ (n.2 ++ n.3)) v = subst (λ (z : List Exchange). Runs d t fate z v) n.4 h in
      to_alike d fate es fs (Opening m.0 m.1 ∷ (m.2 ++ m.3)) (Opening n.0 n.1 ∷ (n.2 ++ n.3)) m.4 n.4
      (openings seen fills.0.sent fills.0.taken (ap (λ (x : SessionHad). x.sent) fills.0.full_is) (ap (λ (x : SessionHad). x.taken) fills.0.full_is) m.3 n.3 u v
      (outside_of a ks m.3 m.6) (outside_of b ks n.3 n.6) over1 over2
      (λ mid more st x y. same_items hs ks m.3 n.3 mid more u v fills.1 st m.6 n.6 over1 over2 x y)
      t fate m.0 n.0 m.1 n.1 m.2 n.2 m.5 n.5 s g2 h2)
  same_items [] (k ∷ ks) es fs t fate u v fills s m n over1 over2 g h = absurd fills
  same_items (Session had ∷ hs) [] es fs t fate u v fills s m n over1 over2 g h = absurd fills
  same_items (StartFailed ∷ hs) [] es fs t fate u v fills s m n over1 over2 g h = absurd fills
  same_items (StartOutOfMemory ∷ hs) [] es fs t fate u v fills s m n over1 over2 g h = absurd fills
  same_items (Session had ∷ hs) (StartFailed ∷ ks) es fs t fate u v fills s m n over1 over2 g h = absurd fills
  same_items (Session had ∷ hs) (StartOutOfMemory ∷ ks) es fs t fate u v fills s m n over1 over2 g h = absurd fills
  same_items (StartFailed ∷ hs) (Session seen ∷ ks) es fs t fate u v fills s m n over1 over2 g h = absurd fills
  same_items (StartFailed ∷ hs) (StartOutOfMemory ∷ ks) es fs t fate u v fills s m n over1 over2 g h = absurd fills
  same_items (StartOutOfMemory ∷ hs) (Session seen ∷ ks) es fs t fate u v fills s m n over1 over2 g h = absurd fills
  same_items (StartOutOfMemory ∷ hs) (StartFailed ∷ ks) es fs t fate u v fills s m n over1 over2 g h = absurd fills

pub equal_sessions : ReplyLaw → ListLaw → HandLaw → EqualSessions
equal_sessions replies_law lists_law hand_law d a b asked full es fs apart texts agree one two =
    let k = same_items replies_law lists_law hand_law a b asked texts agree d one.items full es fs (Between asked) (first_fate asked) one.talk.end two.talk.end one.fills (begins asked apart)
    one.talk.spells two.talk.spells one.talk.over two.talk.over
    (one.talk.goes, λ p. first_spared (contains p asked) p (notes_in d es) (one.memory p)) (two.talk.goes, λ p. first_spared (contains p asked) p (notes_in d fs) (two.memory p)) in
    (λ p here. (same_first (contains p asked) p (notes_in d es) (notes_in d fs) here (k.fates p), k.contents p), k.same)
