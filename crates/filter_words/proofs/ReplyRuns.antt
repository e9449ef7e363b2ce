-- Good replies are those of the grammar.
use Rattle.std.proofs.Common.{◌≡◌, ℕ, ◌⊎◌, inl, inr, Bool, true, false, List, [], ◌∷◌, ◌++◌, Option, Some, None, refl}
use Rattle.std.proofs.Common.{ap, subst}
use Rattle.std.specs.Prelude.{codes}
use Rattle.pkt_line.specs.Packets.{Packet, Payload, Flush}
use Rattle.filter_words.specs.Words.{status_after, last_status}
use Rattle.filter_words.specs.SmudgeReply.{reply_step, first_state, last_state}
use Rattle.filter_words.specs.Grammar.{block}
use Rattle.filter_words.specs.ReplyGrammar.{EndsShort, EndsLong, IsReply}
use Rattle.filter_words.specs.declared.words.Status.{Status}
use Rattle.filter_words.specs.declared.words.Status.TheVariants as status
use Rattle.filter_words.specs.declared.smudge_reply.GoodReply.{GoodReply}
use Rattle.filter_words.specs.declared.smudge_reply.GoodReply.TheVariants as good
use Rattle.filter_words.specs.declared.smudge_reply.ReplyPhase.{ReplyPhase}
use Rattle.filter_words.specs.declared.smudge_reply.ReplyPhase.TheVariants.{KeyList, Content, LastKeyList}
use Rattle.filter_words.specs.declared.answer_state.AnswerState.{AnswerState}
use Rattle.filter_words.specs.declared.answer_state.AnswerState.TheVariants.{On, Done, Broken, Late}
use Rattle.filter_words.proofs.Runs.{run, run-append, broken_stays}
use Rattle.filter_words.proofs.GrammarLaws.{Reads}

-- a block is read at one go

run_keys : (d : Bool) (s : Option Status) (lines : List (List ℕ)) → run (reply_step d) (On (KeyList s)) (block lines)
    ≡ first_state d (last_status s lines)
run_keys d s [] = refl
run_keys d s (l ∷ ls) = run_keys d (status_after s l) ls

run_content : (d : Bool) (lines : List (List ℕ)) → run (reply_step d) (On Content) (block lines) ≡ On (LastKeyList None)
run_content d [] = refl
run_content d (l ∷ ls) = run_content d ls

run_last : (d : Bool) (s : Option Status) (lines : List (List ℕ))
    → run (reply_step d) (On (LastKeyList s)) (block lines) ≡ last_state (last_status s lines)
run_last d s [] = refl
run_last d s (l ∷ ls) = run_last d (status_after s l) ls

keys_good : (d : Bool) (s : Option Status) (g : GoodReply) → EndsShort d s g → first_state d s ≡ Done g
keys_good d s good.Error e = rw e refl
keys_good d s good.Abort e = rw e refl
keys_good d s good.Delayed e = rw (e.0, e.1) refl
keys_good d s good.Content e = absurd e
keys_good d s good.ErrorAfter e = absurd e

last_good : (s : Option Status) (g : GoodReply) → EndsLong s g → last_state s ≡ Done g
last_good s good.Content e = elim e [ inl x ↦ rw x refl | inr x ↦ rw x refl ]
last_good s good.ErrorAfter e = rw e refl
last_good s good.Abort e = rw e refl
last_good s good.Error e = absurd e
last_good s good.Delayed e = absurd e

run_good : (d : Bool) (ps : List Packet) (g : GoodReply) → IsReply d ps g → run (reply_step d) (On (KeyList None)) ps
    ≡ Done g
run_good d ps g (inl s) = rw (s.whole, run_keys d None s.keys) (keys_good d _ g s.ends)
run_good d ps g (inr l) =
    rw (
      l.whole,
      run-append (reply_step d) (On (KeyList None)) (block l.keys) (block l.pieces ++ block l.last_keys),
      run_keys d None l.keys,
      l.success,
      run-append (reply_step d) (On Content) (block l.pieces) (block l.last_keys),
      run_content d l.pieces,
      run_last d None l.last_keys,
    )
    (last_good _ g l.ends)

-- the other way round

stops : (d : Bool) (t : AnswerState ReplyPhase GoodReply) (ps : List Packet) (g : GoodReply) → (t ≡ On Content → ⊥)
    → ((s : Option Status) → t ≡ On (KeyList s) → ⊥) → ((s : Option Status) → t ≡ On (LastKeyList s) → ⊥)
    → run (reply_step d) t ps ≡ Done g → (ps ≡ []) × (t ≡ Done g)
stops d t [] g a b c e = (refl, e)
stops d (On Content) (p ∷ ps) g a b c e = absurd (a refl)
stops d (On (KeyList s)) (p ∷ ps) g a b c e = absurd (b s refl)
stops d (On (LastKeyList s)) (p ∷ ps) g a b c e = absurd (c s refl)
stops d (Done h) (p ∷ ps) g a b c e = absurd (cc)
stops d (Broken h) (p ∷ ps) g a b c e = absurd (cc)
stops d Late (p ∷ ps) g a b c e = absurd (cc)

last_ends : (s : Option Status) (g : GoodReply) → last_state s ≡ Done g → EndsLong s g
last_ends None good.Content e = inl refl
last_ends (Some status.Success) good.Content e = inr refl
last_ends (Some status.Error) good.ErrorAfter e = refl
last_ends (Some status.Abort) good.Abort e = refl
last_ends None good.Error e = absurd (cc)
last_ends None good.ErrorAfter e = absurd (cc)
last_ends None good.Abort e = absurd (cc)
last_ends None good.Delayed e = absurd (cc)
last_ends (Some status.Success) good.Error e = absurd (cc)
last_ends (Some status.Success) good.ErrorAfter e = absurd (cc)
last_ends (Some status.Success) good.Abort e = absurd (cc)
last_ends (Some status.Success) good.Delayed e = absurd (cc)
last_ends (Some status.Error) good.Content e = absurd (cc)
last_ends (Some status.Error) good.Error e = absurd (cc)
last_ends (Some status.Error) good.Abort e = absurd (cc)
last_ends (Some status.Error) good.Delayed e = absurd (cc)
last_ends (Some status.Abort) good.Content e = absurd (cc)
last_ends (Some status.Abort) good.Error e = absurd (cc)
last_ends (Some status.Abort) good.ErrorAfter e = absurd (cc)
last_ends (Some status.Abort) good.Delayed e = absurd (cc)
last_ends (Some status.Delayed) g e = absurd (cc)
last_ends (Some status.Other) g e = absurd (cc)

last_over : (s : Option Status) → (p : ReplyPhase) → last_state s ≡ On p → ⊥
last_over None p e = cc
last_over (Some status.Success) p e = cc
last_over (Some status.Error) p e = cc
last_over (Some status.Abort) p e = cc
last_over (Some status.Delayed) p e = cc
last_over (Some status.Other) p e = cc

record LastIs (s : Option Status) (ps : List Packet) (g : GoodReply) : Type 0 where
  pub lines : List (List ℕ)
  pub whole : ps ≡ block lines
  pub ends : EndsLong (last_status s lines) g

last_takes : (d : Bool) (s : Option Status) (ps : List Packet) (g : GoodReply)
    → run (reply_step d) (On (LastKeyList s)) ps ≡ Done g → LastIs s ps g
last_takes d s [] g e = absurd (cc)
last_takes d s (Payload l ∷ ps) g e =
    let r = last_takes d (status_after s l) ps g e in
    record { lines = l ∷ r.lines; whole = ap (λ (x : List Packet). Payload l ∷ x) r.whole; ends = r.ends }
last_takes d s (Flush ∷ ps) g e =
    let r = stops d (last_state s) ps g (last_over s Content) (λ x. last_over s (KeyList x))
    (λ x. last_over s (LastKeyList x)) e in
    record { lines = []; whole = ap (λ (x : List Packet). Flush ∷ x) r.0; ends = last_ends s g r.1 }

record ContentIs (ps : List Packet) (g : GoodReply) : Type 0 where
  pub pieces : List (List ℕ)
  pub lines : List (List ℕ)
  pub whole : ps ≡ block pieces ++ block lines
  pub ends : EndsLong (last_status None lines) g

content_takes : (d : Bool) (ps : List Packet) (g : GoodReply) → run (reply_step d) (On Content) ps ≡ Done g
    → ContentIs ps g
content_takes d [] g e = absurd (cc)
content_takes d (Payload l ∷ ps) g e =
    let r = content_takes d ps g e in
    record {
      pieces = l ∷ r.pieces;
      lines = r.lines;
      whole = ap (λ (x : List Packet). Payload l ∷ x) r.whole;
      ends =
          r.ends;
    }
content_takes d (Flush ∷ ps) g e =
    let r = last_takes d None ps g e in
    record { pieces = []; lines = r.lines; whole = ap (λ (x : List Packet). Flush ∷ x) r.whole; ends = r.ends }

record KeysShort (d : Bool) (s : Option Status) (ps : List Packet) (g : GoodReply) : Type 0 where
  pub lines : List (List ℕ)
  pub whole : ps ≡ block lines
  pub ends : EndsShort d (last_status s lines) g

record KeysLong (s : Option Status) (ps : List Packet) (g : GoodReply) : Type 0 where
  pub lines : List (List ℕ)
  pub pieces : List (List ℕ)
  pub more : List (List ℕ)
  pub whole : ps ≡ block lines ++ (block pieces ++ block more)
  pub success : last_status s lines ≡ Some status.Success
  pub ends : EndsLong (last_status None more) g

keys_long : (d : Bool) (ps : List Packet) (g : GoodReply) → run (reply_step d) (On Content) ps ≡ Done g
    → KeysLong (Some status.Success) (Flush ∷ ps) g
keys_long d ps g e =
    let r = content_takes d ps g e in
    record {
      lines = [];
      pieces = r.pieces;
      more = r.lines;
      whole =
          ap (λ (x : List Packet). Flush ∷ x) r.whole;
      success = refl;
      ends = r.ends;
    }

keys_short : (d : Bool) (s : Option Status) (h : GoodReply) (ps : List Packet) (g : GoodReply) → EndsShort d s h
    → run (reply_step d) (Done h) ps ≡ Done g → KeysShort d s (Flush ∷ ps) g
keys_short d s h [] g w e =
    record { lines = []; whole = refl; ends = subst (λ (x : GoodReply). EndsShort d s x) (let f : h ≡ g = cc in f) w }
keys_short d s h (p ∷ ps) g w e = absurd (cc)

keys_flush : (d : Bool) (s : Option Status) (ps : List Packet) (g : GoodReply) → run (reply_step d) (first_state d s) ps
    ≡ Done g → KeysShort d s (Flush ∷ ps) g ⊎ KeysLong s (Flush ∷ ps) g
keys_flush d None ps g e = absurd (broken_stays (reply_step d) _ ps g e)
keys_flush d (Some status.Success) ps g e = inr (keys_long d ps g e)
keys_flush d (Some status.Error) ps g e = inl (keys_short d _ good.Error ps g refl e)
keys_flush d (Some status.Abort) ps g e = inl (keys_short d _ good.Abort ps g refl e)
keys_flush true (Some status.Delayed) ps g e = inl (keys_short true _ good.Delayed ps g (refl, refl) e)
keys_flush false (Some status.Delayed) ps g e = absurd (broken_stays (reply_step false) _ ps g e)
keys_flush d (Some status.Other) ps g e = absurd (broken_stays (reply_step d) _ ps g e)

keys_take : (d : Bool) (s : Option Status) (ps : List Packet) (g : GoodReply) → run (reply_step d) (On (KeyList s)) ps
    ≡ Done g → KeysShort d s ps g ⊎ KeysLong s ps g
keys_take d s [] g e = absurd (cc)
keys_take d s (Payload l ∷ ps) g e = elim (keys_take d (status_after s l) ps g e) [
  | inl r ↦ inl (record { lines = l ∷ r.lines; whole = ap (λ (x : List Packet). Payload l ∷ x) r.whole; ends = r.ends })
  | inr r ↦ inr (record {
    lines = l ∷ r.lines;
    pieces = r.pieces;
    more = r.more;
    whole =
        ap (λ (x : List Packet). Payload l ∷ x) r.whole;
    success = r.success;
    ends = r.ends;
  })
]
keys_take d s (Flush ∷ ps) g e = keys_flush d s ps g e

good_runs : (d : Bool) (ps : List Packet) (g : GoodReply) → run (reply_step d) (On (KeyList None)) ps ≡ Done g
    → IsReply d ps g
good_runs d ps g e = elim (keys_take d None ps g e) [
  | inl r ↦ inl (record { keys = r.lines; whole = r.whole; ends = r.ends })
  | inr r ↦ inr (record {
    keys = r.lines;
    pieces = r.pieces;
    last_keys = r.more;
    whole = r.whole;
    success =
        r.success;
    ends = r.ends;
  })
]

-- each phase can still end well
ending : ReplyPhase → List Packet
ending (KeyList s) = Payload (codes "status=error") ∷ Flush ∷ []
ending Content = Flush ∷ Flush ∷ []
ending (LastKeyList s) = Payload (codes "status=success") ∷ Flush ∷ []

ends_as : ReplyPhase → GoodReply
ends_as (KeyList s) = good.Error
ends_as Content = good.Content
ends_as (LastKeyList s) = good.Content

ends_well : (d : Bool) (p : ReplyPhase) → run (reply_step d) (On p) (ending p) ≡ Done (ends_as p)
unfolding ending ends_as
ends_well d (KeyList s) = refl
ends_well d Content = refl
ends_well d (LastKeyList s) = refl

pub reads_reply : (d : Bool) → Reads (reply_step d) (KeyList None) (IsReply d)
reads_reply d = record {
  reads = run_good d;
  was_read = good_runs d;
  can_end = λ p. (ending p, ends_as p, ends_well d p);
}
