-- Readings of answers, with no limit, and the limit beside them.
use Rattle.std.proofs.Common.{◌≡◌, ℕ, ◌-◌, ◌<◌, ◌≤◌, ◌⊎◌, inl, inr, false, ltb, List, [], ◌∷◌, ◌++◌, refl, sym, ap, ◌∙◌}
use Rattle.std.proofs.Common.{arith}
use Rattle.std.proofs.lemmas.Bool.{lt-ltb, le-ltb, cases_lt}
use Rattle.pkt_line.specs.Packets.{Packet, size, total}
use Rattle.filter_words.specs.Outcomes.{outcome}
use Rattle.filter_words.specs.declared.reply.BreakCause.{BreakCause}
use Rattle.filter_words.specs.declared.reply.BreakCause.TheVariants as cause
use Rattle.filter_words.specs.declared.answer_state.AnswerState.{AnswerState}
use Rattle.filter_words.specs.declared.answer_state.AnswerState.TheVariants.{On, Done, Broken, Late}

-- what the packets make of an answer, if no limit is checked
abbrev pub run : {P G : Type 0} → (P → Packet → AnswerState P G) → AnswerState P G → List Packet → AnswerState P G
run step state [] = state
run step (On phase) (p ∷ ps) = run step (step phase p) ps
run step (Done good) (p ∷ ps) = Late
run step (Broken why) (p ∷ ps) = Late
run step Late (p ∷ ps) = Late

pub stays_late : {P G : Type 0} (step : P → Packet → AnswerState P G) (room : ℕ) (ps : List Packet)
    → outcome step room Late ps ≡ Late
stays_late step room [] = refl
stays_late step room (p ∷ ps) = refl

-- a packet after the end
pub late_of : {P G : Type 0} (step : P → Packet → AnswerState P G) (room : ℕ) (t : AnswerState P G) (p : Packet)
    (ps : List Packet)
    → ((phase : P) → t ≡ On phase → ⊥) → outcome step room Late ps ≡ outcome step room t (p ∷ ps)
late_of step room (On phase) p ps never = absurd (never phase refl)
late_of step room (Done good) p ps never = stays_late step room ps
late_of step room (Broken why) p ps never = stays_late step room ps
late_of step room Late p ps never = stays_late step room ps

pub run-append : {P G : Type 0} (step : P → Packet → AnswerState P G) (t : AnswerState P G) (ps qs : List Packet)
    → run step t (ps ++ qs) ≡ run step (run step t ps) qs
run-append step t [] qs = refl
run-append step (On phase) (x ∷ ps) qs = run-append step (step phase x) ps qs
run-append step (Done g) (x ∷ ps) [] = refl
run-append step (Done g) (x ∷ ps) (q ∷ qs) = refl
run-append step (Broken g) (x ∷ ps) [] = refl
run-append step (Broken g) (x ∷ ps) (q ∷ qs) = refl
run-append step Late (x ∷ ps) [] = refl
run-append step Late (x ∷ ps) (q ∷ qs) = refl

-- what is broken never comes to a good end
pub broken_stays : {P G : Type 0} (step : P → Packet → AnswerState P G) (why : BreakCause) (ps : List Packet) (g : G)
    → run step (Broken why) ps ≡ Done g → ⊥
broken_stays step why [] g e = cc
broken_stays step why (p ∷ ps) g e = cc

-- what is over takes no packet more
pub over_takes : {P G : Type 0} (step : P → Packet → AnswerState P G) (h : G) (ps : List Packet) (g : G)
    → run step (Done h) ps ≡ Done g → (ps ≡ []) × (h ≡ g)
over_takes step h [] g e = (refl, cc)
over_takes step h (p ∷ ps) g e = absurd (cc)

-- within the limit it makes no difference
pub outcome-run : {P G : Type 0} (step : P → Packet → AnswerState P G) (room : ℕ) (t : AnswerState P G)
    (ps : List Packet) → total ps ≤ room → outcome step room t ps ≡ run step t ps
outcome-run step room t [] le = refl
outcome-run step room (On phase) (x ∷ ps) le =
    let fits : ltb room (size x) ≡ false = le-ltb room (size x) (omega arith) in
    rw fits (outcome-run step (room - size x) (step phase x) ps (omega arith))
outcome-run step room (Done g) (x ∷ ps) le = refl
outcome-run step room (Broken g) (x ∷ ps) le = refl
outcome-run step room Late (x ∷ ps) le = refl

late_after : {P G : Type 0} (step : P → Packet → AnswerState P G) (room : ℕ) (ps : List Packet)
    → (outcome step room (Broken cause.TooLong) ps ≡ Broken cause.TooLong)
    ⊎ (outcome step room (Broken cause.TooLong) ps ≡ Late)
late_after step room [] = inl refl
late_after step room (p ∷ ps) = inr refl

-- past the limit the outcome is TooLong, or a packet stands after the end
pub outcome-past : {P G : Type 0} (step : P → Packet → AnswerState P G) (room : ℕ) (t : AnswerState P G)
    (ps : List Packet) → room < total ps
    → (outcome step room t ps ≡ Broken cause.TooLong) ⊎ (outcome step room t ps ≡ Late)
outcome-past step room t [] lt = absurd (omega arith)
outcome-past step room (On phase) (x ∷ ps) lt =
    elim (cases_lt room (size x)) [
      | inl less ↦ rw (lt-ltb room (size x) less) (late_after step room ps)
      | inr more ↦ rw (le-ltb room (size x) more) (outcome-past step (room - size x) (step phase x) ps (omega arith))
    ]
outcome-past step room (Done g) (x ∷ ps) lt = inr refl
outcome-past step room (Broken g) (x ∷ ps) lt = inr refl
outcome-past step room Late (x ∷ ps) lt = inr refl

-- what is neither TooLong nor Late is within the limit
pub fits_of : {P G : Type 0} (step : P → Packet → AnswerState P G) (room : ℕ) (t u : AnswerState P G) (ps : List Packet)
    → outcome step room t ps ≡ u
    → (u ≡ Broken cause.TooLong → ⊥) → (u ≡ Late → ⊥) → (total ps ≤ room) × (run step t ps ≡ u)
fits_of step room t u ps e a b =
    elim (cases_lt room (total ps)) [
      | inl less ↦ elim (outcome-past step room t ps less) [
        | inl x ↦ absurd (a (sym e ∙ x))
        | inr x
            ↦ absurd (b (sym e ∙ x))
      ]
      | inr more ↦ (more, sym (outcome-run step room t ps more) ∙ e)
    ]

-- where a reading breaks
pub record BreaksAt {P G : Type 0} (step : P → Packet → AnswerState P G) (room : ℕ) (start : P) (ps : List Packet)
    (why : BreakCause) : Type 0 where
  pub before : List Packet
  pub last : Packet
  pub phase : P
  pub whole : ps ≡ before ++ last ∷ []
  pub was_on : run step (On start) before ≡ On phase
  pub fitted : total before ≤ room
  pub cause_is : ((why ≡ cause.TooLong) × (room < total ps))
      ⊎ ((total ps ≤ room) × (run step (On start) ps ≡ Broken why))

breaks_now : {P G : Type 0} (step : P → Packet → AnswerState P G) (room : ℕ) (p : P) (x : Packet) (c : BreakCause)
    → size x ≤ room → step p x ≡ Broken c → BreaksAt step room p (x ∷ []) c
breaks_now step room p x c le e = record {
  before = [];
  last = x;
  phase = p;
  whole = refl;
  was_on = refl;
  fitted = omega arith;
  cause_is = inr (omega arith, e);
}

breaks_long : {P G : Type 0} (step : P → Packet → AnswerState P G) (room : ℕ) (p : P) (x : Packet) (c : BreakCause)
    → room < size x → cause.TooLong ≡ c → BreaksAt step room p (x ∷ []) c
breaks_long step room p x c lt e = record {
  before = [];
  last = x;
  phase = p;
  whole = refl;
  was_on = refl;
  fitted = omega arith;
  cause_is = inl (sym e, omega arith);
}

breaks_later : {P G : Type 0} (step : P → Packet → AnswerState P G) (room : ℕ) (p q : P) (x : Packet) (ps : List Packet)
    (c : BreakCause)
    → size x ≤ room → step p x ≡ On q → BreaksAt step (room - size x) q ps c → BreaksAt step room p (x ∷ ps) c
breaks_later step room p q x ps c le e b = record {
  before = x ∷ b.before;
  last = b.last;
  phase = b.phase;
  whole = ap (λ (r : List Packet). x ∷ r) b.whole;
  was_on = rw e b.was_on;
  fitted = let f = b.fitted in omega arith;
  cause_is =
      elim b.cause_is [
        | inl l ↦ inl (l.0, let f = l.1 in omega arith)
        | inr r ↦ inr (let f = r.0 in omega arith, rw e r.1)
      ];
}

breaks_step : {P G : Type 0} (step : P → Packet → AnswerState P G) (room : ℕ) (p : P) (x y : Packet) (ps : List Packet)
    (c : BreakCause) (t : AnswerState P G)
    → size x ≤ room → step p x ≡ t → outcome step (room - size x) t (y ∷ ps) ≡ Broken c
    → ((r : ℕ) (q : P) → outcome step r (On q) (y ∷ ps) ≡ Broken c → BreaksAt step r q (y ∷ ps) c)
    → BreaksAt step room p (x ∷ y ∷ ps) c
breaks_step step room p x y ps c (On q) le s e again =
    breaks_later step room p q x (y ∷ ps) c le s (again (room - size x) q e)
breaks_step step room p x y ps c (Done g) le s e again = absurd (cc)
breaks_step step room p x y ps c (Broken g) le s e again = absurd (cc)
breaks_step step room p x y ps c Late le s e again = absurd (cc)

pub breaks_at : {P G : Type 0} (step : P → Packet → AnswerState P G) (room : ℕ) (p : P) (ps : List Packet)
    (c : BreakCause) → outcome step room (On p) ps ≡ Broken c → BreaksAt step room p ps c
breaks_at step room p [] c e = absurd (cc)
breaks_at step room p (x ∷ []) c e =
    elim (cases_lt room (size x)) [
      | inl less ↦ breaks_long step room p x c less (let f = rw (lt-ltb room (size x) less) at e in cc)
      | inr more ↦ breaks_now step room p x c more (rw (le-ltb room (size x) more) at e)
    ]
breaks_at step room p (x ∷ y ∷ ps) c e =
    elim (cases_lt room (size x)) [
      | inl less ↦ absurd (let f = rw (lt-ltb room (size x) less) at e in cc)
      | inr more ↦ breaks_step step room p x y ps c (step p x) more refl (rw (le-ltb room (size x) more) at e)
          (λ r q f. breaks_at step r q (y ∷ ps) c f)
    ]
