-- How the answers of a session may end in which no link failed and memory never ran out.
use Rattle.std.proofs.Common.{◌≡◌, ◌<◌, inl, inr, ℕ, Bool, true, false, List, [], ◌++◌, Option, Some, None}
use Rattle.std.proofs.Common.{refl, sym, ap, ◌∙◌, subst, arith}
use Rattle.filter_words.specs.declared.reply.BreakCause.{BreakCause}
use Rattle.filter_words.specs.declared.reply.BreakCause.TheVariants as cause
use Rattle.filter_words.specs.declared.reply.Reply.{Reply}
use Rattle.filter_words.specs.declared.reply.Reply.TheVariants as reply
use Rattle.filter_words.specs.declared.reply.ListReply.{ListReply}
use Rattle.filter_words.specs.declared.reply.ListReply.TheVariants as list
use Rattle.filter_words.specs.declared.smudge_reply.GoodReply.{GoodReply}
use Rattle.filter_words.specs.declared.smudge_reply.GoodReply.TheVariants as good
use Rattle.filter_words.specs.Listing.{GoodList, Listed, Aborted}
use Rattle.edge_kit.specs.Starters.{SessionHad}
use Rattle.filter_proto.specs.Complete.{IsSettled}
use Rattle.filter_proto.specs.Exchanges.{Ends, Good, Broke, OutOfMemory}
use Rattle.filter_proto.specs.Replies.{reply_end}
use Rattle.driver_line.specs.Conversations.{Exchange, NoStart, NoRoom, Opening, First, Listing, Second, Shutting}
use Rattle.driver_line.specs.Lines.{Paths, ListIs}
use Rattle.driver_line.specs.Transcripts.{break_of, wants, MayCut, FitsCounts}
use Rattle.driver_line.specs.SameHeard.{is_wanting}
use Rattle.pkt_line.specs.Packets.{Packet}
use Rattle.filter_words.specs.declared.answer_state.AnswerState.{AnswerState}
use Rattle.driver_line.specs.Parts.{IsPartOf}
use Rattle.driver_line.specs.Transcripts.{IsPart}

-- with what cause an answer broke, if it did
abbrev pub broke_by : {G : Type 0} → Ends G → Option BreakCause
broke_by (Good g) = None
broke_by (Broke why) = Some why
broke_by OutOfMemory = None

-- no answer was cut short by a link or for want of memory
pub record IsCalm {G : Type 0} (seen : SessionHad) (left : List ℕ) (end : Ends G) : Type 0 where
  pub settled : IsSettled end
  pub ended : end ≡ Broke cause.Ended → left ≡ []

abbrev pub IsQuiet : SessionHad → List ℕ → Type 0
IsQuiet seen left = (seen.faults ≡ 0) × (0 < seen.ends → left ≡ [])

abbrev pub is_out : {G : Type 0} → Ends G → Bool
is_out (Good g) = false
is_out (Broke why) = false
is_out OutOfMemory = true

pub calm : {G : Type 0} (seen : SessionHad) (left : List ℕ) (end : Ends G) → IsQuiet seen left
    → FitsCounts seen (broke_by end) → is_out end ≡ false → IsCalm seen left end
calm seen left (Good g) quiet fits none = record { settled = tt; ended = λ e. absurd (cc e) }
calm seen left OutOfMemory quiet fits none = absurd (cc none)
calm seen left (Broke cause.Ended) quiet fits none = record { settled = tt; ended = λ e. quiet.1 fits.0 }
calm seen left (Broke cause.LinkFault) quiet fits none =
    let zero = quiet.0 in let some = fits.0 in absurd (omega (arith, zero, some))
calm seen left (Broke cause.BadPacket) quiet fits none = record { settled = tt; ended = λ e. absurd (cc e) }
calm seen left (Broke cause.BadHandshake) quiet fits none = record { settled = tt; ended = λ e. absurd (cc e) }
calm seen left (Broke cause.UnknownStatus) quiet fits none = record { settled = tt; ended = λ e. absurd (cc e) }
calm seen left (Broke cause.StrangeDelay) quiet fits none = record { settled = tt; ended = λ e. absurd (cc e) }
calm seen left (Broke cause.TooLong) quiet fits none = record { settled = tt; ended = λ e. absurd (cc e) }
calm seen left (Broke cause.StrangePath) quiet fits none = record { settled = tt; ended = λ e. absurd (cc e) }
calm seen left (Broke cause.ListRefused) quiet fits none = record { settled = tt; ended = λ e. absurd (cc e) }

-- the ends of the exchanges

pub first_calm : (seen : SessionHad) (left : List ℕ) (p : ℕ) (y : Reply) (content : List ℕ) → IsQuiet seen left
    → FitsCounts seen (break_of (First p y content)) → is_wanting (First p y content) ≡ false
    → IsCalm seen left (reply_end y)
first_calm seen left p reply.Content content quiet fits none = calm seen left (Good good.Content) quiet fits refl
first_calm seen left p reply.Error content quiet fits none = calm seen left (Good good.Error) quiet fits refl
first_calm seen left p reply.ErrorAfter content quiet fits none = calm seen left (Good good.ErrorAfter) quiet fits refl
first_calm seen left p reply.Abort content quiet fits none = calm seen left (Good good.Abort) quiet fits refl
first_calm seen left p reply.Delayed content quiet fits none = calm seen left (Good good.Delayed) quiet fits refl
first_calm seen left p (reply.Broken why) content quiet fits none = calm seen left (Broke why) quiet fits refl
first_calm seen left p reply.NoMemory content quiet fits none = absurd (cc none)

pub second_calm : (seen : SessionHad) (left : List ℕ) (p : ℕ) (y : Reply) (content : List ℕ) → IsQuiet seen left
    → FitsCounts seen (break_of (Second p y content)) → is_wanting (Second p y content) ≡ false
    → IsCalm seen left (reply_end y)
second_calm seen left p reply.Content content quiet fits none = calm seen left (Good good.Content) quiet fits refl
second_calm seen left p reply.Error content quiet fits none = calm seen left (Good good.Error) quiet fits refl
second_calm seen left p reply.ErrorAfter content quiet fits none = calm seen left (Good good.ErrorAfter) quiet fits refl
second_calm seen left p reply.Abort content quiet fits none = calm seen left (Good good.Abort) quiet fits refl
second_calm seen left p reply.Delayed content quiet fits none = calm seen left (Good good.Delayed) quiet fits refl
second_calm seen left p (reply.Broken why) content quiet fits none = calm seen left (Broke why) quiet fits refl
second_calm seen left p reply.NoMemory content quiet fits none = absurd (cc none)

to_calm : {G : Type 0} (seen : SessionHad) (left : List ℕ) (x y : Ends G) → x ≡ y → IsCalm seen left y → IsCalm seen left x
to_calm seen left x y e h = subst (λ (z : Ends _). IsCalm seen left z) (sym e) h

pub list_calm : (seen : SessionHad) (left : List ℕ) (paths : Paths) (late names : List ℕ) (y : ListReply)
    (end : Ends GoodList) → IsQuiet seen left → FitsCounts seen (break_of (Listing late names y))
    → is_wanting (Listing late names y) ≡ false → ListIs paths names y end → IsCalm seen left end
list_calm seen left paths late names (list.Names n) end quiet fits none is =
    to_calm seen left end _ is (calm seen left (Good _) quiet fits refl)
list_calm seen left paths late names list.Empty end quiet fits none is =
    to_calm seen left end _ is.0 (calm seen left (Good (Listed [])) quiet fits refl)
list_calm seen left paths late names list.Abort end quiet fits none is =
    to_calm seen left end _ is.0 (calm seen left (Good Aborted) quiet fits refl)
list_calm seen left paths late names (list.Broken why) end quiet fits none is =
    to_calm seen left end _ is.0 (calm seen left (Broke why) quiet fits refl)
list_calm seen left paths late names list.NoMemory end quiet fits none is = absurd (cc none)

-- no request was sent in part

wants_is : (e : Exchange) → wants e ≡ true → is_wanting e ≡ true
wants_is (First p reply.NoMemory content) h = refl
wants_is (Second p reply.NoMemory content) h = refl
wants_is (Listing late names list.NoMemory) h = refl
wants_is (First p reply.Content content) h = absurd (cc h)
wants_is (First p reply.Error content) h = absurd (cc h)
wants_is (First p reply.ErrorAfter content) h = absurd (cc h)
wants_is (First p reply.Abort content) h = absurd (cc h)
wants_is (First p reply.Delayed content) h = absurd (cc h)
wants_is (First p (reply.Broken why) content) h = absurd (cc h)
wants_is (Second p reply.Content content) h = absurd (cc h)
wants_is (Second p reply.Error content) h = absurd (cc h)
wants_is (Second p reply.ErrorAfter content) h = absurd (cc h)
wants_is (Second p reply.Abort content) h = absurd (cc h)
wants_is (Second p reply.Delayed content) h = absurd (cc h)
wants_is (Second p (reply.Broken why) content) h = absurd (cc h)
wants_is (Listing late names (list.Names n)) h = absurd (cc h)
wants_is (Listing late names list.Empty) h = absurd (cc h)
wants_is (Listing late names list.Abort) h = absurd (cc h)
wants_is (Listing late names (list.Broken why)) h = absurd (cc h)
wants_is (NoStart p) h = absurd (cc h)
wants_is (NoRoom p) h = absurd (cc h)
wants_is (Opening p end) h = absurd (cc h)
wants_is Shutting h = absurd (cc h)

link_fails : (seen : SessionHad) (o : Option BreakCause) → seen.faults ≡ 0 → FitsCounts seen o
    → o ≡ Some cause.LinkFault → ⊥
link_fails seen o zero fits e =
    let f = subst (λ (z : Option BreakCause). FitsCounts seen z) e fits in
    let some = f.0 in omega (arith, zero, some)

pub not_cut : (seen : SessionHad) (left : List ℕ) (e : Exchange) → IsQuiet seen left → FitsCounts seen (break_of e)
    → is_wanting e ≡ false → MayCut e → ⊥
not_cut seen left e quiet fits none (inl h) = link_fails seen (break_of e) quiet.0 fits h
not_cut seen left e quiet fits none (inr h) = let no : true ≡ false = sym (wants_is e h) ∙ none in cc

-- a client's part of a host's text
abbrev pub heard_of : {P G : Type 0} (step : P → Packet → AnswerState P G) (start : AnswerState P G)
    (output taken used later left : List ℕ) (end : Ends G) (extra : List Packet → Type 0) (seen : SessionHad)
    → output ≡ taken ++ left → taken ≡ used ++ later → IsPart step start used later end extra → IsCalm seen left end
    → IsPartOf step start output used later end
heard_of step start output taken used later left end extra seen whole parts part calm = record {
  part = record { packets = part.packets; spelled = part.spelled; stops = part.stops; done = tt };
  ahead = left;
  whole = whole ∙ ap (λ (z : List ℕ). z ++ left) parts;
  ended = calm.ended;
  settled = calm.settled;
}

-- the reply of a good answer
abbrev pub back : GoodReply → Reply
back good.Content = reply.Content
back good.Error = reply.Error
back good.ErrorAfter = reply.ErrorAfter
back good.Abort = reply.Abort
back good.Delayed = reply.Delayed

pub reply_is : (y : Reply) (g : GoodReply) → reply_end y ≡ Good g → y ≡ back g
reply_is reply.Content g e = ap (λ (x : Ends GoodReply). elim x [ Good h ↦ back h | Broke w ↦ reply.Content | OutOfMemory ↦ reply.Content ]) e
reply_is reply.Error g e = ap (λ (x : Ends GoodReply). elim x [ Good h ↦ back h | Broke w ↦ reply.Content | OutOfMemory ↦ reply.Content ]) e
reply_is reply.ErrorAfter g e = ap (λ (x : Ends GoodReply). elim x [ Good h ↦ back h | Broke w ↦ reply.Content | OutOfMemory ↦ reply.Content ]) e
reply_is reply.Abort g e = ap (λ (x : Ends GoodReply). elim x [ Good h ↦ back h | Broke w ↦ reply.Content | OutOfMemory ↦ reply.Content ]) e
reply_is reply.Delayed g e = ap (λ (x : Ends GoodReply). elim x [ Good h ↦ back h | Broke w ↦ reply.Content | OutOfMemory ↦ reply.Content ]) e
reply_is (reply.Broken why) g e = absurd (cc e)
reply_is reply.NoMemory g e = absurd (cc e)
