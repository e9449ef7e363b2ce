-- One session of two talks that were the same so far, with the same output ahead.
use Rattle.std.proofs.Common.{◌≡◌, ◌⊎◌, inl, inr, ℕ, ◌<◌, false}
use Rattle.std.proofs.Common.{List, [], ◌∷◌, ◌++◌, Option, Some, refl, sym, ap, subst, ◌∙◌, arith, append_assoc}
use Rattle.std.proofs.lemmas.Bool.{cases_Bool}
use Rattle.filter_words.specs.declared.reply.Caps.{Caps}
use Rattle.filter_words.specs.declared.reply.BreakCause.{BreakCause}
use Rattle.filter_words.specs.declared.reply.BreakCause.TheVariants as cause
use Rattle.edge_kit.specs.Starters.{SessionHad}
use Rattle.checkout_core.specs.Fates.{Fate}
use Rattle.checkout_core.specs.Talks.{Talk, IsOver, talk_run}
use Rattle.driver_line.specs.Conversations.{Exchange, NoStart, NoRoom, Opening, First, Listing, Second, Shutting, notes_of, FitsTalk, LeadsTo}
use Rattle.driver_line.specs.Lines.{Paths}
use Rattle.driver_line.specs.SameHeard.{HaveTexts, HaveSameTexts}
use Rattle.driver_line.specs.Transcripts.{Spoken, FitsCounts, AllFit, break_of, wants}
use Rattle.driver_line.proofs.TalkDue.{Start, due_of, due_at, due_is}
use Rattle.driver_line.proofs.TalkLists.{over_nothing, never_nothing}
use Rattle.driver_line.proofs.SameStates.{Stands, Spared, Alike, after, both_more, wanted, bare_ends}
use Rattle.driver_line.proofs.SameExchanges.{IsRead, ReplyLaw, ListLaw, same_exchange}

-- what follows a session: nothing, or a start
abbrev pub IsOutside : List Exchange → Type 0
IsOutside [] = Unit {0}
IsOutside (e ∷ es) = (p : ℕ) × (due_of e ≡ Start p)

-- an exchange of a session is no start
inside : (paths : Paths) (caps : Caps) (e : Exchange) (es : List Exchange) (sent taken : List ℕ) (p : ℕ) → Spoken paths caps (e ∷ es) sent taken → due_of e ≡ Start p → ⊥
inside paths caps (NoStart q) es sent taken p (inl h) e = let m = h.1.may in elim m [ inl k ↦ absurd (cc k) | inr k ↦ absurd (cc k) ]
inside paths caps (NoStart q) es sent taken p (inr h) e = h.5
inside paths caps (NoRoom q) es sent taken p (inl h) e = let m = h.1.may in elim m [ inl k ↦ absurd (cc k) | inr k ↦ absurd (cc k) ]
inside paths caps (NoRoom q) es sent taken p (inr h) e = h.5
inside paths caps (Opening q end) es sent taken p (inl h) e = let m = h.1.may in elim m [ inl k ↦ absurd (cc k) | inr k ↦ absurd (cc k) ]
inside paths caps (Opening q end) es sent taken p (inr h) e = h.5
inside paths caps (First q r c) es sent taken p h e = absurd (cc e)
inside paths caps (Listing late names r) es sent taken p h e = absurd (cc e)
inside paths caps (Second q r c) es sent taken p h e = absurd (cc e)
inside paths caps Shutting es sent taken p h e = absurd (cc e)

-- where one talk's session is over, the other's is
pub over_too : (paths : Paths) (caps : Caps) (asked : List ℕ) (d : ℕ) (t : Talk) (fate : ℕ → Fate) (rest : List Exchange) (u : Talk) (f : Exchange) (fs more : List Exchange) (v : Talk) (sent taken : List ℕ)
    → Stands asked t fate → IsOutside rest → LeadsTo d t rest u → IsOver u → Spoken paths caps (f ∷ fs) sent taken → LeadsTo d t (f ∷ more) v → ⊥
over_too paths caps asked d t fate [] u f fs more v sent taken s out l over h k =
    let due : due_of f ≡ due_at t = due_is d t f k.0 k.1 k.2 s.none s.turns in
    never_nothing f (due ∙ (ap due_at l ∙ over_nothing u over))
over_too paths caps asked d t fate (e ∷ es) u f fs more v sent taken s out l over h k =
    let due : due_of f ≡ due_at t = due_is d t f k.0 k.1 k.2 s.none s.turns in
    let other : due_of e ≡ due_at t = due_is d t e l.0 l.1 l.2 s.none s.turns in
    inside paths caps f fs sent taken out.0 h (due ∙ (sym other ∙ out.1))

-- the counts of a session whose link never failed

pub no_link : (seen : SessionHad) (b : Option BreakCause) → seen.faults ≡ 0 → FitsCounts seen b → b ≡ Some cause.LinkFault → ⊥
no_link seen b none h e = let lt = (subst (FitsCounts seen) e h).0 in omega (arith, lt, none)

pub all_came : (seen : SessionHad) (ahead : List ℕ) (b : Option BreakCause) → (0 < seen.ends → ahead ≡ []) → FitsCounts seen b → b ≡ Some cause.Ended → ahead ≡ []
all_came seen ahead b whole h e = whole (subst (FitsCounts seen) e h).0

-- the session of one talk: its link never failed, and an end of input came only where nothing was ahead
pub record IsQuiet (seen : SessionHad) (ahead : List ℕ) : Type 0 where
  pub faults : seen.faults ≡ 0
  pub whole : 0 < seen.ends → ahead ≡ []

-- an exchange that didn't want memory was answered
pub record IsSpoken (paths : Paths) (caps : Caps) (e : Exchange) (es : List Exchange) (taken ahead : List ℕ) : Type 0 where
  pub used : List ℕ
  pub later : List ℕ
  pub more : List ℕ
  pub parts : taken ≡ used ++ later
  pub read : IsRead paths caps e ((used ++ later) ++ ahead) used later ahead
  pub spoken : Spoken paths caps es more later

spoken_first : (paths : Paths) (caps : Caps) (seen : SessionHad) (ahead : List ℕ) (e : Exchange) (es : List Exchange) (sent taken : List ℕ) → IsQuiet seen ahead → wants e ≡ false
    → FitsCounts seen (break_of e) → Spoken paths caps (e ∷ es) sent taken → IsSpoken paths caps e es taken ahead
spoken_first paths caps seen ahead e es sent taken quiet memory fits (inl h) =
    let m = h.1.may in
    elim m [
      | inl k ↦ absurd (no_link seen (break_of e) quiet.faults fits k)
      | inr k ↦ absurd (cc (sym memory ∙ k))
    ]
spoken_first paths caps seen ahead e es sent taken quiet memory fits (inr h) = record {
  used = h.1;
  later = h.2;
  more = h.0;
  parts = h.4;
  read = record {
    answer = h.5;
    whole = refl;
    ended = all_came seen ahead (break_of e) quiet.whole fits;
    linked = no_link seen (break_of e) quiet.faults fits;
    memory = memory;
  };
  spoken = h.6;
}

pub same_left : (a b x y : List ℕ) → a ≡ b → a ++ x ≡ b ++ y → x ≡ y
same_left a b x y e h = drops b x y (sym (ap (λ (z : List ℕ). z ++ x) e) ∙ h)
  where
    tails : (p q : ℕ) (xs ys : List ℕ) → p ∷ xs ≡ q ∷ ys → xs ≡ ys
    tails p q xs ys i = cc i

    drops : (b x y : List ℕ) → b ++ x ≡ b ++ y → x ≡ y
    drops [] x y i = i
    drops (p ∷ ps) x y i = drops ps x y (tails p p (ps ++ x) (ps ++ y) i)

-- both go on with the same exchange
pub record GoesOn (a b : Paths) (caps : Caps) (e f : Exchange) (es fs : List Exchange) (ahead1 ahead2 : List ℕ) : Type 0 where
  pub same : e ≡ f
  pub later1 : List ℕ
  pub later2 : List ℕ
  pub more1 : List ℕ
  pub more2 : List ℕ
  pub spoken1 : Spoken a caps es more1 later1
  pub spoken2 : Spoken b caps fs more2 later2
  pub whole : later1 ++ ahead1 ≡ later2 ++ ahead2

module _ (replies_law : ReplyLaw) (lists_law : ListLaw) (a b : Paths) (asked : List ℕ) (texts : HaveTexts a asked) (agree : HaveSameTexts a b asked) (caps : Caps) (d : ℕ) (seen1 seen2 : SessionHad) (ahead1 ahead2 : List ℕ)
    (quiet1 : IsQuiet seen1 ahead1) (quiet2 : IsQuiet seen2 ahead2) where
  both_read : (t : Talk) (fate : ℕ → Fate) (e f : Exchange) (es fs : List Exchange) (taken1 taken2 : List ℕ) (u v : Talk) → Stands asked t fate → taken1 ++ ahead1 ≡ taken2 ++ ahead2
      → FitsTalk t e × (talk_run d t (notes_of d e) ≡ Some u) → FitsTalk t f × (talk_run d t (notes_of d f) ≡ Some v) → IsSpoken a caps e es taken1 ahead1 → IsSpoken b caps f fs taken2 ahead2
      → GoesOn a b caps e f es fs ahead1 ahead2
  both_read t fate e f es fs taken1 taken2 u v s whole g h m n =
      let out : (m.used ++ m.later) ++ ahead1 ≡ (n.used ++ n.later) ++ ahead2 =
      ap (λ (x : List ℕ). x ++ ahead1) (sym m.parts) ∙ (whole ∙ ap (λ (x : List ℕ). x ++ ahead2) n.parts) in
      let n2 : IsRead b caps f ((m.used ++ m.later) ++ ahead1) n.used n.later ahead2 = subst (λ (x : List ℕ). IsRead b caps f x n.used n.later ahead2) (sym out) n.read in
      let w = same_exchange replies_law lists_law a b asked texts agree caps d t fate s ((m.used ++ m.later) ++ ahead1) m.used m.later ahead1 n.used n.later ahead2 u v e f g h m.read n2 in
      record {
        same = w.0;
        later1 = m.later;
        later2 = n.later;
        more1 = m.more;
        more2 = n.more;
        spoken1 = m.spoken;
        spoken2 = n.spoken;
        whole = same_left m.used n.used (m.later ++ ahead1) (n.later ++ ahead2) w.1 (sym (append_assoc m.used m.later ahead1) ∙ (out ∙ append_assoc n.used n.later ahead2));
      }

  step : (t : Talk) (fate : ℕ → Fate) (e f : Exchange) (es fs xs ys : List Exchange) (sent1 sent2 taken1 taken2 : List ℕ) (u v : Talk) → Stands asked t fate
      → Spoken a caps (e ∷ es) sent1 taken1 → Spoken b caps (f ∷ fs) sent2 taken2 → taken1 ++ ahead1 ≡ taken2 ++ ahead2 → FitsCounts seen1 (break_of e) → FitsCounts seen2 (break_of f)
      → LeadsTo d t (e ∷ xs) u → LeadsTo d t (f ∷ ys) v → Spared d fate (e ∷ xs) → Spared d fate (f ∷ ys)
      → Alike d fate (e ∷ xs) (f ∷ ys) ⊎ GoesOn a b caps e f es fs ahead1 ahead2
  step t fate e f es fs xs ys sent1 sent2 taken1 taken2 u v s p q whole i j l k m n =
      elim (cases_Bool (wants e)) [
        | inl w ↦ inl (bare_ends asked d t fate e f xs ys u v s (wanted asked d t fate e xs u w s m l) l k (inl w))
        | inr one ↦ elim (cases_Bool (wants f)) [
          | inl w ↦ inl (bare_ends asked d t fate e f xs ys u v s (wanted asked d t fate f ys v w s n k) l k (inr w))
          | inr two ↦ inr (both_read t fate e f es fs taken1 taken2 l.0 k.0 s whole (l.1, l.2) (k.1, k.2)
              (spoken_first a caps seen1 ahead1 e es sent1 taken1 quiet1 one i p) (spoken_first b caps seen2 ahead2 f fs sent2 taken2 quiet2 two j q))
        ]
      ]

  -- what is left of both talks, after the session
  module _ (rest1 rest2 : List Exchange) (u v : Talk) (out1 : IsOutside rest1) (out2 : IsOutside rest2) (over1 : IsOver u) (over2 : IsOver v)
      (left : (t : Talk) (fate : ℕ → Fate) → Stands asked t fate → LeadsTo d t rest1 u → LeadsTo d t rest2 v → Spared d fate rest1 → Spared d fate rest2 → Alike d fate rest1 rest2) where
    pub same_session : (es fs : List Exchange) (t : Talk) (fate : ℕ → Fate) (sent1 sent2 taken1 taken2 : List ℕ) → Stands asked t fate → Spoken a caps es sent1 taken1 → Spoken b caps fs sent2 taken2
        → taken1 ++ ahead1 ≡ taken2 ++ ahead2 → AllFit seen1 es → AllFit seen2 fs → LeadsTo d t (es ++ rest1) u → LeadsTo d t (fs ++ rest2) v
        → Spared d fate (es ++ rest1) → Spared d fate (fs ++ rest2) → Alike d fate (es ++ rest1) (fs ++ rest2)
    same_session [] [] t fate sent1 sent2 taken1 taken2 s p q whole i j l k m n = left t fate s l k m n
    same_session [] (f ∷ fs) t fate sent1 sent2 taken1 taken2 s p q whole i j l k m n =
        absurd (over_too b caps asked d t fate rest1 u f fs (fs ++ rest2) v sent2 taken2 s out1 l over1 q k)
    same_session (e ∷ es) [] t fate sent1 sent2 taken1 taken2 s p q whole i j l k m n =
        absurd (over_too a caps asked d t fate rest2 v e es (es ++ rest1) u sent1 taken1 s out2 k over2 p l)
    same_session (e ∷ es) (f ∷ fs) t fate sent1 sent2 taken1 taken2 s p q whole i j l k m n =
        elim (step t fate e f es fs (es ++ rest1) (fs ++ rest2) sent1 sent2 taken1 taken2 u v s p q whole i.0 j.0 l k m n) [
          | inl alike ↦ alike
          | inr g ↦ both_more asked d t fate e f (es ++ rest1) (fs ++ rest2) u v g.same s (l, m) (k, n) (λ mid run st x y.
              same_session es fs mid (after d e fate) g.more1 g.more2 g.later1 g.later2 st g.spoken1 g.spoken2 g.whole i.1 j.1 x.0 y.0 x.1 y.1)
        ]
