-- One exchange of two talks that were the same so far, with the same output ahead.
use Rattle.std.proofs.Common.{◌≡◌, inl, inr, ℕ, ◌==◌, Bool, true, false, cond}
use Rattle.std.proofs.Common.{List, [], ◌∷◌, ◌++◌, map, Some, refl, sym, ap, subst, ◌∙◌}
use Rattle.std.proofs.lemmas.Bool.{eq-eqb}
use Rattle.pkt_line.specs.Packets.{Packet}
use Rattle.filter_words.specs.SmudgeReply.{reply_step, reply_start, content_in}
use Rattle.filter_words.specs.Listing.{ListPhase, GoodList, Listed, Aborted, list_step, list_start}
use Rattle.filter_words.specs.declared.answer_state.AnswerState.{AnswerState}
use Rattle.filter_words.specs.declared.reply.Caps.{Caps}
use Rattle.filter_words.specs.declared.reply.BreakCause.{BreakCause}
use Rattle.filter_words.specs.declared.reply.BreakCause.TheVariants as cause
use Rattle.filter_words.specs.declared.reply.Reply.{Reply}
use Rattle.filter_words.specs.declared.reply.Reply.TheVariants as reply
use Rattle.filter_words.specs.declared.reply.ListReply.{ListReply}
use Rattle.filter_words.specs.declared.reply.ListReply.TheVariants as list
use Rattle.filter_words.specs.declared.smudge_reply.GoodReply.{GoodReply}
use Rattle.filter_words.specs.declared.smudge_reply.GoodReply.TheVariants as good
use Rattle.filter_words.specs.declared.smudge_reply.ReplyPhase.{ReplyPhase}
use Rattle.delay_table.specs.Table.{contains}
use Rattle.filter_proto.specs.Complete.{IsSettled}
use Rattle.filter_proto.specs.Exchanges.{Ends, Good, Broke, OutOfMemory}
use Rattle.filter_proto.specs.Replies.{reply_end}
use Rattle.checkout_core.specs.Fates.{Fate, Later}
use Rattle.checkout_core.specs.Talks.{Talk, talk_run}
use Rattle.driver_line.specs.Conversations.{Exchange, NoStart, NoRoom, Opening, First, Listing, Second, Shutting, notes_of, FitsTalk, late_of}
use Rattle.driver_line.specs.Lines.{Paths, HasContent, ListIs}
use Rattle.driver_line.specs.Parts.{IsPartOf, IsOnePart}
use Rattle.driver_line.specs.SameHeard.{HaveTexts, HaveSameTexts}
use Rattle.driver_line.specs.Transcripts.{IsPart, AnswerIs, break_of, wants}
use Rattle.driver_line.proofs.TalkDue.{due_of, due_is}
use Rattle.driver_line.proofs.TalkLists.{AllIn, or_there, name_notes, names_late, names_some, same_count}
use Rattle.driver_line.proofs.SameStates.{Stands, late_later}

-- ends that count

pub settled_break : (G : Type 0) (why : BreakCause) → (why ≡ cause.LinkFault → ⊥) → IsSettled {G = G} (Broke why)
settled_break G cause.LinkFault h = h refl
settled_break G cause.BadPacket h = tt
settled_break G cause.Ended h = tt
settled_break G cause.BadHandshake h = tt
settled_break G cause.UnknownStatus h = tt
settled_break G cause.StrangeDelay h = tt
settled_break G cause.TooLong h = tt
settled_break G cause.StrangePath h = tt
settled_break G cause.ListRefused h = tt

reply_settled : (r : Reply) → (r ≡ reply.Broken cause.LinkFault → ⊥) → (r ≡ reply.NoMemory → ⊥) → IsSettled (reply_end r)
reply_settled reply.Content h k = tt
reply_settled reply.Error h k = tt
reply_settled reply.ErrorAfter h k = tt
reply_settled reply.Delayed h k = tt
reply_settled reply.Abort h k = tt
reply_settled (reply.Broken why) h k = settled_break GoodReply why (λ e. h (ap reply.Broken e))
reply_settled reply.NoMemory h k = k refl

reply_broken : (r : Reply) → reply_end r ≡ Broke cause.Ended → r ≡ reply.Broken cause.Ended
reply_broken reply.Content e = absurd (cc e)
reply_broken reply.Error e = absurd (cc e)
reply_broken reply.ErrorAfter e = absurd (cc e)
reply_broken reply.Delayed e = absurd (cc e)
reply_broken reply.Abort e = absurd (cc e)
reply_broken (reply.Broken why) e = let same : why ≡ cause.Ended = cc e in ap reply.Broken same
reply_broken reply.NoMemory e = absurd (cc e)

-- the reply with this end
reply_back : Ends GoodReply → Reply
reply_back (Good good.Content) = reply.Content
reply_back (Good good.Error) = reply.Error
reply_back (Good good.ErrorAfter) = reply.ErrorAfter
reply_back (Good good.Delayed) = reply.Delayed
reply_back (Good good.Abort) = reply.Abort
reply_back (Broke why) = reply.Broken why
reply_back OutOfMemory = reply.NoMemory

reply_is : (r : Reply) → reply_back (reply_end r) ≡ r
unfolding reply_back
reply_is reply.Content = refl
reply_is reply.Error = refl
reply_is reply.ErrorAfter = refl
reply_is reply.Delayed = refl
reply_is reply.Abort = refl
reply_is (reply.Broken why) = refl
reply_is reply.NoMemory = refl

-- an answer that was read of this output, whatever was done with its packets
pub part_of : {P G : Type 0} (step : P → Packet → AnswerState P G) (start : AnswerState P G) (output used rest ahead : List ℕ) (end : Ends G) (extra : List Packet → Type 0)
    → IsPart step start used rest end extra → output ≡ (used ++ rest) ++ ahead → (end ≡ Broke cause.Ended → ahead ≡ []) → IsSettled end → IsPartOf step start output used rest end
part_of step start output used rest ahead end extra p whole ended settled = record {
  part = record { packets = p.packets; spelled = p.spelled; stops = p.stops; done = tt };
  ahead = ahead;
  whole = whole;
  ended = ended;
  settled = settled;
}

-- An exchange whose answer was read of this output. No fault of the link and no want of memory ended it, and an end of input
-- only where nothing was ahead.
pub record IsRead (paths : Paths) (caps : Caps) (e : Exchange) (output used rest ahead : List ℕ) : Type 0 where
  pub answer : AnswerIs paths caps e used rest
  pub whole : output ≡ (used ++ rest) ++ ahead
  pub ended : break_of e ≡ Some cause.Ended → ahead ≡ []
  pub linked : break_of e ≡ Some cause.LinkFault → ⊥
  pub memory : wants e ≡ false

-- two replies

abbrev pub ReplyLaw : Type 0
ReplyLaw = (d : Bool) → IsOnePart ReplyPhase GoodReply (reply_step d) reply_start

same_reply : (law : ReplyLaw) (d : Bool) (output u1 r1 u2 r2 : List ℕ) (y z : Reply) (c k : List ℕ) (one : IsPartOf (reply_step d) reply_start output u1 r1 (reply_end y))
    (two : IsPartOf (reply_step d) reply_start output u2 r2 (reply_end z)) → c ≡ content_in d reply_start one.part.packets → k ≡ content_in d reply_start two.part.packets
    → (y ≡ z) × (c ≡ k) × (u1 ≡ u2)
same_reply law d output u1 r1 u2 r2 y z c k one two a b =
    let w = law d output u1 r1 u2 r2 (reply_end y) (reply_end z) one two in
    (sym (reply_is y) ∙ (ap reply_back w.0 ∙ reply_is z), a ∙ (ap (λ (ps : List Packet). content_in d reply_start ps) w.1 ∙ sym b), w.2)

first_part : (paths : Paths) (caps : Caps) (p : ℕ) (y : Reply) (c output used rest ahead : List ℕ) → IsRead paths caps (First p y c) output used rest ahead
    → IsPartOf (reply_step caps.delay) reply_start output used rest (reply_end y)
first_part paths caps p y c output used rest ahead h =
    part_of (reply_step caps.delay) reply_start output used rest ahead (reply_end y) (HasContent caps.delay c) h.answer h.whole
    (λ e. h.ended (ap (λ (x : Reply). break_of (First p x c)) (reply_broken y e)))
    (reply_settled y (λ e. h.linked (ap (λ (x : Reply). break_of (First p x c)) e)) (λ e. let m = h.memory in absurd (cc (sym m ∙ ap (λ (x : Reply). wants (First p x c)) e))))

second_part : (paths : Paths) (caps : Caps) (p : ℕ) (y : Reply) (c output used rest ahead : List ℕ) → IsRead paths caps (Second p y c) output used rest ahead
    → IsPartOf (reply_step false) reply_start output used rest (reply_end y)
second_part paths caps p y c output used rest ahead h =
    part_of (reply_step false) reply_start output used rest ahead (reply_end y) (HasContent false c) h.answer h.whole
    (λ e. h.ended (ap (λ (x : Reply). break_of (Second p x c)) (reply_broken y e)))
    (reply_settled y (λ e. h.linked (ap (λ (x : Reply). break_of (Second p x c)) e)) (λ e. let m = h.memory in absurd (cc (sym m ∙ ap (λ (x : Reply). wants (Second p x c)) e))))

-- two lists

abbrev pub ListLaw : Type 0
ListLaw = (delayed : List (List ℕ)) → IsOnePart ListPhase GoodList (list_step delayed) list_start

list_settled : (paths : Paths) (names : List ℕ) (r : ListReply) (end : Ends GoodList) → ListIs paths names r end → (r ≡ list.Broken cause.LinkFault → ⊥) → (r ≡ list.NoMemory → ⊥) → IsSettled end
list_settled paths names (list.Names n) end i h k = rw i tt
list_settled paths names list.Empty end i h k = rw (i.0) tt
list_settled paths names list.Abort end i h k = rw (i.0) tt
list_settled paths names (list.Broken why) end i h k = subst IsSettled (sym i.0) (settled_break GoodList why (λ e. h (ap list.Broken e)))
list_settled paths names list.NoMemory end i h k = absurd (k refl)

list_broken : (paths : Paths) (names : List ℕ) (r : ListReply) (end : Ends GoodList) → ListIs paths names r end → end ≡ Broke cause.Ended → r ≡ list.Broken cause.Ended
list_broken paths names (list.Names n) end i e = absurd (cc (sym i ∙ e))
list_broken paths names list.Empty end i e = absurd (cc (sym i.0 ∙ e))
list_broken paths names list.Abort end i e = absurd (cc (sym i.0 ∙ e))
list_broken paths names (list.Broken why) end i e = let same : why ≡ cause.Ended = cc (sym i.0 ∙ e) in ap list.Broken same
list_broken paths names list.NoMemory end i e = absurd (cc (sym i.0 ∙ e))

-- a reply but for its number, and the names of an end
abbrev plain : ListReply → ListReply
plain (list.Names n) = list.Empty
plain list.Empty = list.Empty
plain list.Abort = list.Abort
plain (list.Broken why) = list.Broken why
plain list.NoMemory = list.NoMemory

abbrev plain_of : Ends GoodList → ListReply
plain_of (Good (Listed names)) = list.Empty
plain_of (Good Aborted) = list.Abort
plain_of (Broke why) = list.Broken why
plain_of OutOfMemory = list.NoMemory

abbrev names_of_end : Ends GoodList → List (List ℕ)
names_of_end (Good (Listed names)) = names
names_of_end end = []

plain_is : (paths : Paths) (names : List ℕ) (r : ListReply) (end : Ends GoodList) → ListIs paths names r end → plain r ≡ plain_of end
plain_is paths names (list.Names n) end i = ap plain_of (sym i)
plain_is paths names list.Empty end i = ap plain_of (sym i.0)
plain_is paths names list.Abort end i = ap plain_of (sym i.0)
plain_is paths names (list.Broken why) end i = ap plain_of (sym i.0)
plain_is paths names list.NoMemory end i = ap plain_of (sym i.0)

names_are : (paths : Paths) (names : List ℕ) (r : ListReply) (end : Ends GoodList) → ListIs paths names r end → map paths.text names ≡ names_of_end end
names_are paths names (list.Names n) end i = ap names_of_end (sym i)
names_are paths names list.Empty end i = ap (map paths.text) i.1 ∙ ap names_of_end (sym i.0)
names_are paths names list.Abort end i = ap (map paths.text) i.1 ∙ ap names_of_end (sym i.0)
names_are paths names (list.Broken why) end i = ap (map paths.text) i.1 ∙ ap names_of_end (sym i.0)
names_are paths names list.NoMemory end i = ap (map paths.text) i.1 ∙ ap names_of_end (sym i.0)

-- a list of the talk
pub record IsListAt (d : ℕ) (t : Talk) (paths : Paths) (late names : List ℕ) (r : ListReply) (end : Ends GoodList) (u : Talk) : Type 0 where
  pub run : talk_run d t (notes_of d (Listing late names r)) ≡ Some u
  pub is : ListIs paths names r end

names_in : (d : ℕ) (t : Talk) (paths : Paths) (late names : List ℕ) (r : ListReply) (end : Ends GoodList) (u : Talk) → IsListAt d t paths late names r end u → AllIn (late_of t) names
names_in d t paths late names (list.Names n) end u h = names_late d t names n u h.run
names_in d t paths late names list.Empty end u h = let i = h.is in subst (AllIn (late_of t)) (sym i.1) tt
names_in d t paths late names list.Abort end u h = let i = h.is in subst (AllIn (late_of t)) (sym i.1) tt
names_in d t paths late names (list.Broken why) end u h = let i = h.is in subst (AllIn (late_of t)) (sym i.1) tt
names_in d t paths late names list.NoMemory end u h = let i = h.is in subst (AllIn (late_of t)) (sym i.1) tt

same_names : (text : ℕ → List ℕ) (late xs ys : List ℕ) → ((p q : ℕ) → contains p late ≡ true → contains q late ≡ true → text p ≡ text q → p ≡ q) → AllIn late xs → AllIn late ys
    → map text xs ≡ map text ys → xs ≡ ys
same_names text late [] [] apart a b e = refl
same_names text late [] (y ∷ ys) apart a b e = absurd (cc e)
same_names text late (x ∷ xs) [] apart a b e = absurd (cc e)
same_names text late (x ∷ xs) (y ∷ ys) apart a b e =
    let one : text x ≡ text y = cc e in
    let more : map text xs ≡ map text ys = cc e in
    let here : x ≡ y = apart x y a.0 b.0 one in
    let there : xs ≡ ys = same_names text late xs ys apart a.1 b.1 more in
    cc (here, there)

-- the replies, once their names are the same: a list with a number has names
module _ (asked : List ℕ) (d : ℕ) (t : Talk) (fate : ℕ → Fate) (s : Stands asked t fate) (late names : List ℕ) where
  abbrev Runs : ListReply → Talk → Type 0
  Runs r u = talk_run d t (notes_of d (Listing late names r)) ≡ Some u

  no_names : (n : ℕ) (u : Talk) → names ≡ [] → Runs (list.Names n) u → ⊥
  no_names n u e h = names_some d t n u s.none (subst (λ (xs : List ℕ). talk_run d t (name_notes d xs n) ≡ Some u) e h)

  replies : (paths : Paths) (r q : ListReply) (end : Ends GoodList) (u v : Talk) → ListIs paths names r end → ListIs paths names q end → plain r ≡ plain q → Runs r u → Runs q v → r ≡ q
  replies paths (list.Names m) (list.Names n) end u v i j e h k = ap list.Names (same_count d t names m n u v h k)
  replies paths (list.Names m) list.Empty end u v i j e h k = absurd (no_names m u j.1 h)
  replies paths (list.Names m) q end u v i j e h k = absurd (cc e)
  replies paths list.Empty (list.Names n) end u v i j e h k = absurd (no_names n v i.1 k)
  replies paths list.Empty q end u v i j e h k = e
  replies paths list.Abort (list.Names n) end u v i j e h k = absurd (cc e)
  replies paths list.Abort q end u v i j e h k = e
  replies paths (list.Broken why) (list.Names n) end u v i j e h k = absurd (cc e)
  replies paths (list.Broken why) q end u v i j e h k = e
  replies paths list.NoMemory (list.Names n) end u v i j e h k = absurd (cc e)
  replies paths list.NoMemory q end u v i j e h k = e

-- the late paths are asked ones
late_asked : (asked : List ℕ) (t : Talk) (fate : ℕ → Fate) → Stands asked t fate → (p : ℕ) → contains p (late_of t) ≡ true → contains p asked ≡ true
late_asked asked t fate s p i =
    let later : fate p ≡ Later = late_later t p (fate p) i (s.fits p) in
    elim (s.within p) [ inl k ↦ k | inr k ↦ (let known = k.1 in absurd (cc (sym later ∙ known))) ]

late_apart : (paths : Paths) (asked : List ℕ) (t : Talk) (fate : ℕ → Fate) → HaveTexts paths asked → Stands asked t fate → (p q : ℕ) → contains p (late_of t) ≡ true → contains q (late_of t) ≡ true
    → paths.text p ≡ paths.text q → p ≡ q
late_apart paths asked t fate texts s p q a b e = texts p q (late_asked asked t fate s p a) (late_asked asked t fate s q b) e

-- by the texts of the other talk

same_texts : (a b : Paths) (late xs : List ℕ) → ((p : ℕ) → contains p late ≡ true → a.text p ≡ b.text p) → AllIn late xs → map a.text xs ≡ map b.text xs
same_texts a b late [] same h = refl
same_texts a b late (x ∷ xs) same h =
    let here : a.text x ≡ b.text x = same x h.0 in
    let there : map a.text xs ≡ map b.text xs = same_texts a b late xs same h.1 in
    cc (here, there)

all_more : (q : ℕ) (late xs : List ℕ) → AllIn late xs → AllIn (q ∷ late) xs
all_more q late [] h = tt
all_more q late (x ∷ xs) h = (or_there (x == q) (contains x late) h.0, all_more q late xs h.1)

all_in : (late : List ℕ) → AllIn late late
all_in [] = tt
all_in (q ∷ qs) = (ap (λ (b : Bool). cond b true (contains q qs)) (eq-eqb q q refl), all_more q qs qs (all_in qs))

other_list : (a b : Paths) (names : List ℕ) (r : ListReply) (end : Ends GoodList) → map a.text names ≡ map b.text names → ListIs b names r end → ListIs a names r end
other_list a b names (list.Names n) end e h = h ∙ ap (λ (ns : List (List ℕ)). Good (Listed ns)) (sym e)
other_list a b names list.Empty end e h = h
other_list a b names list.Abort end e h = h
other_list a b names (list.Broken why) end e h = h
other_list a b names list.NoMemory end e h = h

list_part : (paths : Paths) (caps : Caps) (late names : List ℕ) (r : ListReply) (output used rest ahead : List ℕ) (h : IsRead paths caps (Listing late names r) output used rest ahead)
    → (end : Ends GoodList) × ListIs paths names r end × IsPartOf (list_step (map paths.text late)) list_start output used rest end
list_part paths caps late names r output used rest ahead h =
    let a = h.answer in (
      a.0,
      a.1,
      part_of (list_step (map paths.text late)) list_start output used rest ahead a.0 (λ ps. Unit {0}) a.2 h.whole
          (λ e. h.ended (ap (λ (x : ListReply). break_of (Listing late names x)) (list_broken paths names r a.0 a.1 e)))
          (list_settled paths names r a.0 a.1 (λ e. h.linked (ap (λ (x : ListReply). break_of (Listing late names x)) e))
          (λ e. let m = h.memory in absurd (cc (sym m ∙ ap (λ (x : ListReply). wants (Listing late names x)) e)))),
    )

same_list : (law : ListLaw) (paths : Paths) (asked : List ℕ) (d : ℕ) (t : Talk) (fate : ℕ → Fate) → HaveTexts paths asked → Stands asked t fate → (late xs ys : List ℕ) (r q : ListReply) (u v : Talk)
    → talk_run d t (notes_of d (Listing late xs r)) ≡ Some u → talk_run d t (notes_of d (Listing late ys q)) ≡ Some v → (output u1 r1 u2 r2 : List ℕ) (x y : Ends GoodList)
    → ListIs paths xs r x → ListIs paths ys q y → IsPartOf (list_step (map paths.text late)) list_start output u1 r1 x → IsPartOf (list_step (map paths.text late)) list_start output u2 r2 y
    → (xs ≡ ys) × (r ≡ q) × (u1 ≡ u2)
same_list law paths asked d t fate texts s late xs ys r q u v h k output u1 r1 u2 r2 x y i j one two =
    let w = law (map paths.text late) output u1 r1 u2 r2 x y one two in
    let j2 : ListIs paths ys q x = subst (λ (z : Ends GoodList). ListIs paths ys q z) (sym w.0) j in
    let names : xs ≡ ys = same_names paths.text (late_of t) xs ys (late_apart paths asked t fate texts s)
    (names_in d t paths late xs r x u (record { run = h; is = i })) (names_in d t paths late ys q x v (record { run = k; is = j2 })) (names_are paths xs r x i ∙ sym (names_are paths ys q x j2)) in
    let plains : plain r ≡ plain q = plain_is paths xs r x i ∙ sym (plain_is paths ys q x j2) in
    let k2 : talk_run d t (notes_of d (Listing late xs q)) ≡ Some v = subst (λ (ns : List ℕ). talk_run d t (notes_of d (Listing late ns q)) ≡ Some v) (sym names) k in
    let j3 : ListIs paths xs q x = subst (λ (ns : List ℕ). ListIs paths ns q x) (sym names) j2 in
    (names, replies asked d t fate s late xs paths r q x u v i j3 plains h k2, w.2)

-- the same exchange, and the same bytes

module _ (replies_law : ReplyLaw) (lists_law : ListLaw) (a b : Paths) (asked : List ℕ) (texts : HaveTexts a asked) (agree : HaveSameTexts a b asked) (caps : Caps) (d : ℕ) (t : Talk) (fate : ℕ → Fate)
    (s : Stands asked t fate) (output u1 r1 a1 u2 r2 a2 : List ℕ) (u v : Talk) where
  abbrev Same : Exchange → Exchange → Type 0
  Same e f = (e ≡ f) × (u1 ≡ u2)

  abbrev Goes : Exchange → Talk → Type 0
  Goes e w = FitsTalk t e × (talk_run d t (notes_of d e) ≡ Some w)

  firsts : (p q : ℕ) (y z : Reply) (c k : List ℕ) → p ≡ q → IsRead a caps (First p y c) output u1 r1 a1 → IsRead b caps (First q z k) output u2 r2 a2 → Same (First p y c) (First q z k)
  unfolding first_part part_of
  firsts p q y z c k e m n =
      let i = m.answer in
      let j = n.answer in
      let w = same_reply replies_law caps.delay output u1 r1 u2 r2 y z c k (first_part a caps p y c output u1 r1 a1 m) (first_part b caps q z k output u2 r2 a2 n) i.done j.done in
      let one = w.0 in
      let two = w.1 in
      (cc (e, one, two), w.2)

  seconds : (p q : ℕ) (y z : Reply) (c k : List ℕ) → p ≡ q → IsRead a caps (Second p y c) output u1 r1 a1 → IsRead b caps (Second q z k) output u2 r2 a2 → Same (Second p y c) (Second q z k)
  unfolding second_part part_of
  seconds p q y z c k e m n =
      let i = m.answer in
      let j = n.answer in
      let w = same_reply replies_law false output u1 r1 u2 r2 y z c k (second_part a caps p y c output u1 r1 a1 m) (second_part b caps q z k output u2 r2 a2 n) i.done j.done in
      let one = w.0 in
      let two = w.1 in
      (cc (e, one, two), w.2)

  lists : (late xs ys : List ℕ) (r q : ListReply) → late ≡ late_of t → talk_run d t (notes_of d (Listing late xs r)) ≡ Some u → talk_run d t (notes_of d (Listing late ys q)) ≡ Some v
      → IsRead a caps (Listing late xs r) output u1 r1 a1 → IsRead b caps (Listing late ys q) output u2 r2 a2 → Same (Listing late xs r) (Listing late ys q)
  lists late xs ys r q e h k m n =
      let i = list_part a caps late xs r output u1 r1 a1 m in
      let j = list_part b caps late ys q output u2 r2 a2 n in
      let agrees : (p : ℕ) → contains p (late_of t) ≡ true → a.text p ≡ b.text p = λ p here. agree p (late_asked asked t fate s p here) in
      let all : AllIn (late_of t) late = subst (λ (z : List ℕ). AllIn (late_of t) z) (sym e) (all_in (late_of t)) in
      let delayed : map b.text late ≡ map a.text late = sym (same_texts a b (late_of t) late agrees all) in
      let two : IsPartOf (list_step (map a.text late)) list_start output u2 r2 j.0 = subst (λ (z : List (List ℕ)). IsPartOf (list_step z) list_start output u2 r2 j.0) delayed j.2 in
      let named = same_texts a b (late_of t) ys agrees (names_in d t b late ys q j.0 v (record { run = k; is = j.1 })) in
      let w = same_list lists_law a asked d t fate texts s late xs ys r q u v h k output u1 r1 u2 r2 i.0 j.0 i.1 (other_list a b ys q j.0 named j.1) i.2 two in
      let names = w.0 in
      let reply = w.1 in
      (cc (names, reply), w.2)

  any_lists : (la lb xs ys : List ℕ) (r q : ListReply) → Goes (Listing la xs r) u → Goes (Listing lb ys q) v → IsRead a caps (Listing la xs r) output u1 r1 a1
      → IsRead b caps (Listing lb ys q) output u2 r2 a2 → Same (Listing la xs r) (Listing lb ys q)
  any_lists la lb xs ys r q g h m n =
      let e : lb ≡ la = h.0 ∙ sym g.0 in
      let k : talk_run d t (notes_of d (Listing la ys q)) ≡ Some v = subst (λ (z : List ℕ). talk_run d t (notes_of d (Listing z ys q)) ≡ Some v) e h.1 in
      let n2 : IsRead b caps (Listing la ys q) output u2 r2 a2 = subst (λ (z : List ℕ). IsRead b caps (Listing z ys q) output u2 r2 a2) e n in
      let w = lists la xs ys r q g.0 g.1 k m n2 in
      (w.0 ∙ ap (λ (z : List ℕ). Listing z ys q) (sym e), w.1)

  by_due : (e f : Exchange) → due_of e ≡ due_of f → Goes e u → Goes f v → IsRead a caps e output u1 r1 a1 → IsRead b caps f output u2 r2 a2 → Same e f
  by_due (First p y c) (First q z k) due g h m n = firsts p q y z c k (cc due) m n
  by_due (Second p y c) (Second q z k) due g h m n = seconds p q y z c k (cc due) m n
  by_due (Listing la xs r) (Listing lb ys q) due g h m n = any_lists la lb xs ys r q g h m n
  by_due Shutting Shutting due g h m n = (refl, m.answer ∙ sym n.answer)
  by_due (NoStart p) f due g h m n = absurd m.answer
  by_due (NoRoom p) f due g h m n = absurd m.answer
  by_due (Opening p end) f due g h m n = absurd m.answer
  by_due (First p y c) f due g h m n = absurd (cc due)
  by_due (Second p y c) f due g h m n = absurd (cc due)
  by_due (Listing la xs r) f due g h m n = absurd (cc due)
  by_due Shutting f due g h m n = absurd (cc due)

  pub same_exchange : (e f : Exchange) → Goes e u → Goes f v → IsRead a caps e output u1 r1 a1 → IsRead b caps f output u2 r2 a2 → Same e f
  same_exchange e f g h m n =
      by_due e f (due_is d t e u g.0 g.1 s.none s.turns ∙ sym (due_is d t f v h.0 h.1 s.none s.turns)) g h m n
