-- The talk of a rehearsal with its driver `beta`.
use Rattle.std.proofs.Common.{◌≡◌, ℕ, ◌<◌, ◌≤◌, inl, inr, ⊎_elim, Bool, true, false, cond, List, [], ◌∷◌, ◌++◌, length, length-append, Some, None, refl, sym, ap, ◌∙◌, arith, eq-eqb, ne_eqb}
use Rattle.std.specs.Prelude.{codes, ◌==◌, ◌||◌, if◌then◌else◌, Option}
use Rattle.std.specs.List.{AllByRecursion, flat_map}
use Rattle.std.proofs.lemmas.List.{append-nil}
use Rattle.std.proofs.lemmas.Bool.{true≢false}
use Rattle.pkt_line.specs.Spelling.{spelling_all}
use Rattle.edge_kit.specs.Links.{LeftBytes}
use Rattle.edge_kit.specs.Starters.{Session, SessionHad, Gives, StartsListed}
use Rattle.filter_words.specs.Requests.{hello_text, caps_text}
use Rattle.filter_words.specs.declared.reply.Reply.TheVariants as reply
use Rattle.filter_proto.specs.Exchanges.{Good}
use Rattle.checkout_core.specs.declared.event.Event.{Event}
use Rattle.checkout_core.specs.declared.path.Heard.{Heard}
use Rattle.checkout_core.specs.declared.path.Heard.TheVariants as heard
use Rattle.checkout_core.specs.declared.verdict.FilterCause.TheVariants as cause
use Rattle.checkout_core.specs.Fates.{Fate, Untold, Known, fate_of}
use Rattle.checkout_core.specs.Talks.{Talk, Between, InRound, Ended, talk_run}
use Rattle.driver_line.specs.Conversations.{Exchange, Opening, First, Shutting, notes_of, notes_in, FitsTalk, LeadsTo}
use Rattle.driver_line.specs.Lines.{Paths}
use Rattle.driver_line.specs.SameHeard.{IsToldTalk, fate_in, content_of}
use Rattle.driver_line.specs.Transcripts.{Spoken, AnswerIs, IsTalk, IsOpenedSession, request_of, AllFit, all_fine}
use Rattle.rehearsal.specs.Paths.{kind, content, line_of}
use Rattle.rehearsal.specs.Drivers.{status, beta_first, filtered}
use Rattle.rehearsal_numbers.specs.Plans.{is_beta}
use Rattle.rehearsal_numbers.proofs.Sizes.{short_content}
use Rattle.rehearsal_numbers.proofs.Marked.{Mark, places, numbers, Among, Rises, all_at, found, other_place, self}
use Rattle.rehearsal_numbers.proofs.Replies.{SpellingSpells, good_part, error_part, beta_caps, beta_hello, beta_opens}

-- what a driver gives for a path
abbrev pub answer : List ℕ → ℕ → ℕ → List ℕ
answer driver seed i = line_of driver ++ content seed i

-- each path is asked for once: kind 6 is given, and kind 7 refused
abbrev pub asks : ℕ → Mark → Exchange
asks seed m =
    if kind seed m.number == 6 then First m.place reply.Content (answer (codes "beta") seed m.number)
    else First m.place reply.Error []

abbrev pub said : ℕ → List Mark → List Exchange
said seed [] = Shutting ∷ []
said seed (m ∷ ms) = asks seed m ∷ said seed ms

abbrev pub requests : Paths → ℕ → List Mark → List ℕ
requests paths seed [] = []
requests paths seed (m ∷ ms) = request_of paths beta_caps (asks seed m) ++ requests paths seed ms

-- nothing is asked of `beta` but its own kinds
abbrev pub AreBetas : ℕ → List Mark → Type 0
AreBetas seed ms = AllByRecursion (λ m. is_beta (kind seed m.number) ≡ true) ms

pub short_answer : (driver : List ℕ) (seed i : ℕ) → length driver ≤ 5
    → (0 < length (answer driver seed i)) × (length (answer driver seed i) ≤ 65516)
short_answer driver seed i few =
    let all = length-append (line_of driver) (content seed i) in
    let front = length-append driver (10 ∷ []) in
    let size = short_content seed i in
    (omega (arith, all, front), omega (arith, all, front, few, size))

answer_is : SpellingSpells → (paths : Paths) (seed : ℕ) (m : Mark) (rest : List ℕ) → is_beta (kind seed m.number) ≡ true
    → AnswerIs paths beta_caps (asks seed m) (beta_first seed m.number) rest
answer_is law paths seed m rest h = by (kind seed m.number == 6) (kind seed m.number == 7) h
  where
    by : (a b : Bool) → (a || b) ≡ true
        → AnswerIs paths beta_caps
        (if a then First m.place reply.Content (answer (codes "beta") seed m.number) else First m.place reply.Error [])
        (if a then filtered (codes "beta") seed m.number else if b then spelling_all (status (codes "error")) else []) rest
    by true b h =
        let size = short_answer (codes "beta") seed m.number (omega arith) in
        good_part law false (answer (codes "beta") seed m.number) rest size.0 size.1
    by false true h = error_part law rest
    by false false h = absurd (true≢false (sym h))

spoken : SpellingSpells → (paths : Paths) (seed : ℕ) (ms : List Mark) → AreBetas seed ms
    → Spoken paths beta_caps (said seed ms) (requests paths seed ms) (flat_map (beta_first seed) (numbers ms))
spoken law paths seed [] h = inr ([], [], [], refl, refl, refl, refl)
spoken law paths seed (m ∷ ms) h =
    inr (
      requests paths seed ms,
      beta_first seed m.number,
      flat_map (beta_first seed) (numbers ms),
      refl,
      refl,
      answer_is law paths seed m (flat_map (beta_first seed) (numbers ms)) h.0,
      spoken law paths seed ms h.1,
    )

-- the talk before the paths that are left
abbrev round : List ℕ → Talk
round rest = InRound (record { delay = false; any_delayed = false; noting_list = false; rest = rest; late = []; turns = [] })

fits : (t : Talk) (seed : ℕ) (m : Mark) → FitsTalk t (asks seed m)
fits t seed m = by (kind seed m.number == 6)
  where
    by : (a : Bool) → FitsTalk t (if a then First m.place reply.Content (answer (codes "beta") seed m.number) else First m.place reply.Error [])
    by true = tt
    by false = tt

goes_on : (d seed : ℕ) (m : Mark) (rest : List ℕ)
    → talk_run d (round (m.place ∷ rest)) (notes_of d (asks seed m)) ≡ Some (round rest)
goes_on d seed m rest = by (kind seed m.number == 6)
  where
    by : (a : Bool) → talk_run d (round (m.place ∷ rest))
        (notes_of d (if a then First m.place reply.Content (answer (codes "beta") seed m.number) else First m.place reply.Error []))
        ≡ Some (round rest)
    by true = rw (self m.place, talk_run) refl
    by false = rw (self m.place, talk_run) refl

shuts : (d : ℕ) → talk_run d (round []) (notes_of d Shutting) ≡ Some Ended
shuts d = rw (self d, talk_run) refl

leads : (d seed : ℕ) (ms : List Mark) → LeadsTo d (round (places ms)) (said seed ms) Ended
leads d seed [] = (Ended, tt, shuts d, refl)
leads d seed (m ∷ ms) = (round (places ms), fits (round (places (m ∷ ms))) seed m, goes_on d seed m (places ms), leads d seed ms)

abbrev pub exchanges : ℕ → Mark → List Mark → List Exchange
exchanges seed m ms = Opening m.place (Good beta_caps) ∷ said seed (m ∷ ms)

opens : (d : ℕ) (m : Mark) (ms : List Mark)
    → talk_run d (Between (places (m ∷ ms))) (notes_of d (Opening m.place (Good beta_caps))) ≡ Some (round (places (m ∷ ms)))
opens d m ms = rw (self d, talk_run) refl

leads_all : (d seed : ℕ) (m : Mark) (ms : List Mark) → LeadsTo d (Between (places (m ∷ ms))) (exchanges seed m ms) Ended
leads_all d seed m ms = (round (places (m ∷ ms)), refl, opens d m ms, leads d seed (m ∷ ms))

abbrev pub seen : Paths → ℕ → List Mark → SessionHad
seen paths seed ms = record {
  sent = Some ((hello_text ++ caps_text) ++ requests paths seed ms);
  taken = Some (spelling_all beta_hello ++ flat_map (beta_first seed) (numbers ms));
  replies = None;
  faults = 0;
  ends = 0;
  shut = true;
}

all_fit : (s : SessionHad) (seed : ℕ) (ms : List Mark) → AllFit s (said seed ms)
all_fit s seed [] = (tt, tt)
all_fit s seed (m ∷ ms) = by (kind seed m.number == 6) (all_fit s seed ms)
  where
    by : (a : Bool) → AllFit s (said seed ms)
        → AllFit s ((if a then First m.place reply.Content (answer (codes "beta") seed m.number) else First m.place reply.Error []) ∷ said seed ms)
    by true h = (tt, h)
    by false h = (tt, h)

fine : (seed : ℕ) (ms : List Mark) → all_fine (said seed ms) ≡ true
fine seed [] = refl
fine seed (m ∷ ms) = by (kind seed m.number == 6) (fine seed ms)
  where
    by : (a : Bool) → all_fine (said seed ms) ≡ true
        → all_fine ((if a then First m.place reply.Content (answer (codes "beta") seed m.number) else First m.place reply.Error []) ∷ said seed ms) ≡ true
    by true h = h
    by false h = h

session : SpellingSpells → (paths : Paths) (seed : ℕ) (ms : List Mark) → AreBetas seed ms
    → IsOpenedSession paths beta_caps (said seed ms) (seen paths seed ms)
session law paths seed ms h = record {
  sent = (hello_text ++ caps_text) ++ requests paths seed ms;
  taken = spelling_all beta_hello ++ flat_map (beta_first seed) (numbers ms);
  sent_is = refl;
  taken_is = refl;
  more = requests paths seed ms;
  used = spelling_all beta_hello;
  later = flat_map (beta_first seed) (numbers ms);
  texts = refl;
  parts = refl;
  opened = beta_opens law (flat_map (beta_first seed) (numbers ms));
  spoken = spoken law paths seed ms h;
  counts = all_fit (seen paths seed ms) seed ms;
  one = inl refl;
  causes = record { ended = λ lt. absurd (omega (arith, lt)); failed = λ lt. absurd (omega (arith, lt)) };
  shut = sym (fine seed ms);
}

pub is_talk : SpellingSpells → (d : ℕ) (paths : Paths) (seed : ℕ) (m : Mark) (ms : List Mark) → AreBetas seed (m ∷ ms)
    → IsTalk d paths (places (m ∷ ms)) (Session (seen paths seed (m ∷ ms)) ∷ []) (exchanges seed m ms)
is_talk law d paths seed m ms h = record {
  spells = (
    m.place,
    Good beta_caps,
    said seed (m ∷ ms),
    [],
    ap (λ (es : List Exchange). Opening m.place (Good beta_caps) ∷ es) (sym (append-nil (said seed (m ∷ ms)))),
    session law paths seed (m ∷ ms) h,
    refl,
  );
  end = Ended;
  goes = leads_all d seed m ms;
  over = tt;
}

-- what each path hears
abbrev pub fate_at : ℕ → ℕ → Fate
fate_at seed i = if kind seed i == 6 then Known heard.Got else Known (heard.Refused cause.Error)

abbrev pub content_at : ℕ → ℕ → Option (List ℕ)
content_at seed i = if kind seed i == 6 then Some (answer (codes "beta") seed i) else None

-- what is known stays so
pub stays : (p : ℕ) (h : Heard) (es : List Event) → fate_of p (Known h) es ≡ Known h
stays p h [] = refl
stays p h (e ∷ es) = stays p h es

passes : (d seed p : ℕ) (x : Mark) (es : List Exchange) → (p == x.place) ≡ false
    → fate_of p Untold (notes_in d (asks seed x ∷ es)) ≡ fate_of p Untold (notes_in d es)
passes d seed p x es other = by (kind seed x.number == 6)
  where
    by : (a : Bool) → fate_of p Untold (notes_in d ((if a then First x.place reply.Content (answer (codes "beta") seed x.number) else First x.place reply.Error []) ∷ es)) ≡ fate_of p Untold (notes_in d es)
    by true = ap (λ (t : Bool). fate_of p (cond t (Known heard.Got) Untold) (notes_in d es)) other
    by false = ap (λ (t : Bool). fate_of p (cond t (Known (heard.Refused cause.Error)) Untold) (notes_in d es)) other

hears : (d seed p : ℕ) (x : Mark) (es : List Exchange) → (p == x.place) ≡ true
    → fate_of p Untold (notes_in d (asks seed x ∷ es)) ≡ fate_at seed x.number
hears d seed p x es same = by (kind seed x.number == 6)
  where
    by : (a : Bool) → fate_of p Untold (notes_in d ((if a then First x.place reply.Content (answer (codes "beta") seed x.number) else First x.place reply.Error []) ∷ es))
        ≡ (if a then Known heard.Got else Known (heard.Refused cause.Error))
    by true = ap (λ (t : Bool). fate_of p (cond t (Known heard.Got) Untold) (notes_in d es)) same ∙ stays p heard.Got (notes_in d es)
    by false = ap (λ (t : Bool). fate_of p (cond t (Known (heard.Refused cause.Error)) Untold) (notes_in d es)) same ∙ stays p (heard.Refused cause.Error) (notes_in d es)

fates : (d seed : ℕ) (ms : List Mark) → Rises ms → (m : Mark) → Among m ms
    → fate_of m.place Untold (notes_in d (said seed ms)) ≡ fate_at seed m.number
fates d seed [] r m is = absurd is
fates d seed (x ∷ xs) r m is = ⊎_elim
    (λ (e : m ≡ x). hears d seed m.place x (said seed xs) (eq-eqb m.place x.place (ap (λ (y : Mark). y.place) e))
    ∙ ap (λ (y : Mark). fate_at seed y.number) (sym e))
    (λ (k : Among m xs). passes d seed m.place x (said seed xs)
    (other_place x.place m.place (all_at (λ (y : Mark). x.place < y.place) xs r.0 m k)) ∙ fates d seed xs r.1 m k)
    is

-- and what it gets
skips : (seed p : ℕ) (x : Mark) (es : List Exchange) → (p == x.place) ≡ false
    → content_of p (asks seed x ∷ es) ≡ content_of p es
skips seed p x es other = by (kind seed x.number == 6)
  where
    by : (a : Bool) → content_of p ((if a then First x.place reply.Content (answer (codes "beta") seed x.number) else First x.place reply.Error []) ∷ es) ≡ content_of p es
    by true = ap (λ (t : Bool). cond t (Some (answer (codes "beta") seed x.number)) (content_of p es)) other
    by false = refl

none_later : (seed p : ℕ) (ms : List Mark) → AllByRecursion (λ x. p < x.place) ms → content_of p (said seed ms) ≡ None
none_later seed p [] h = refl
none_later seed p (x ∷ xs) h =
    skips seed p x (said seed xs) (ne_eqb p x.place (λ e. omega (arith, h.0, e))) ∙ none_later seed p xs h.1

gets : (seed : ℕ) (x : Mark) (p : ℕ) (es : List Exchange) → (p == x.place) ≡ true → content_of p es ≡ None
    → content_of p (asks seed x ∷ es) ≡ content_at seed x.number
gets seed x p es same none = by (kind seed x.number == 6)
  where
    by : (a : Bool) → content_of p ((if a then First x.place reply.Content (answer (codes "beta") seed x.number) else First x.place reply.Error []) ∷ es)
        ≡ (if a then Some (answer (codes "beta") seed x.number) else None)
    by true = ap (λ (t : Bool). cond t (Some (answer (codes "beta") seed x.number)) (content_of p es)) same
    by false = none

contents : (seed : ℕ) (ms : List Mark) → Rises ms → (m : Mark) → Among m ms
    → content_of m.place (said seed ms) ≡ content_at seed m.number
contents seed [] r m is = absurd is
contents seed (x ∷ xs) r m is = ⊎_elim
    (λ (e : m ≡ x). gets seed x m.place (said seed xs) (eq-eqb m.place x.place (ap (λ (y : Mark). y.place) e))
    (ap (λ (y : Mark). content_of y.place (said seed xs)) e ∙ none_later seed x.place xs r.0)
    ∙ ap (λ (y : Mark). content_at seed y.number) (sym e))
    (λ (k : Among m xs). skips seed m.place x (said seed xs)
    (other_place x.place m.place (all_at (λ (y : Mark). x.place < y.place) xs r.0 m k)) ∙ contents seed xs r.1 m k)
    is

not_memory : (seed i : ℕ) → fate_at seed i ≡ Known heard.OutOfMemory → ⊥
not_memory seed i = by (kind seed i == 6)
  where
    by : (a : Bool) → (if a then Known heard.Got else Known (heard.Refused cause.Error)) ≡ Known heard.OutOfMemory → ⊥
    by true h = cc (h)
    by false h = cc (h)

pub beta_fates : (d seed : ℕ) (m : Mark) (ms : List Mark) → Rises (m ∷ ms) → (x : Mark) → Among x (m ∷ ms)
    → (fate_in d x.place (exchanges seed m ms) ≡ fate_at seed x.number)
    × (content_of x.place (exchanges seed m ms) ≡ content_at seed x.number)
beta_fates d seed m ms r x is = (fates d seed (m ∷ ms) r x is, contents seed (m ∷ ms) r x is)

-- the whole talk is what the script tells
pub beta_talk : SpellingSpells → (d : ℕ) (paths : Paths) (seed : ℕ) (m : Mark) (ms : List Mark) → AreBetas seed (m ∷ ms)
    → Rises (m ∷ ms)
    → IsToldTalk d paths (places (m ∷ ms)) (Gives (spelling_all beta_hello ++ flat_map (beta_first seed) (numbers (m ∷ ms))) ∷ [])
    (Session (seen paths seed (m ∷ ms)) ∷ []) (exchanges seed m ms)
beta_talk law d paths seed m ms h r =
    let output = spelling_all beta_hello ++ flat_map (beta_first seed) (numbers (m ∷ ms)) in
    record {
      full = Session (seen paths seed (m ∷ ms)) ∷ [];
      fills = (record { sent = (hello_text ++ caps_text) ++ requests paths seed (m ∷ ms); taken = output; sent_is = refl; taken_is = refl; full_is = refl }, tt);
      talk = is_talk law d paths seed m ms h;
      left = StartsListed [];
      goes = (LeftBytes output, refl, record { came = output; left = LeftBytes []; part = ap LeftBytes (sym (append-nil output)); taken = refl; whole = λ lt. refl; replies = refl }, refl);
      fine = (refl, tt);
      memory = λ p here bad.
          let f = found p (m ∷ ms) here in
          not_memory seed (f.0).number (sym (beta_fates d seed m ms r f.0 f.1).0 ∙ ap (λ (q : ℕ). fate_in d q (exchanges seed m ms)) (sym f.2) ∙ bad);
    }
