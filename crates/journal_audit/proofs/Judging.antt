-- What is judged of the lines after the starts is what is to be said of their text.
use Rattle.std.proofs.Common.{◌≡◌, ◌⊎◌, inl, inr, ℕ, suc, ◌+◌, ◌<◌, ◌^◌, Bool, true, false, List, [], ◌∷◌, ◌++◌, length, take, Option, Some, None, refl, sym, ◌∙◌, ap, subst, append_assoc, arith}
use Rattle.std.specs.List.{flat_map, list_all, join_with_byte}
use Rattle.byte_path.specs.Decimal.{OneDecimal}
use Rattle.checkout_core.specs.declared.event.Event.{Event}
use Rattle.checkout_core.specs.declared.event.Event.TheVariants.{Claim, Close, Opened, OpenFailed, Answered, Named}
use Rattle.checkout_core.specs.declared.event.Event.TheVariants.{Listed, Redone, HandBack, Shut}
use Rattle.checkout_core.specs.States.{Core, unclosed_count}
use Rattle.checkout_core.specs.Steps.{step_of, replay, StopsAt}
use Rattle.journal_audit.specs.declared.answer.Audit.{Audit}
use Rattle.journal_audit.specs.declared.answer.Audit.TheVariants.{Legal, Illegal, Unreadable}
use Rattle.journal_audit.specs.Journal.{line, event_words, event_line, end_words, event_fits, fits}
use Rattle.journal_audit.specs.Fronts.{IsFront, IsStuckAfter}
use Rattle.journal_audit.specs.Reading.{parts, event_of, is_end, is_last, core_after, wrong_after, judged, audit_end, audit_events}
use Rattle.journal_audit.proofs.Clean.{same_number, clean, all_clean, both_and, all_clean_cons, same_cut, no_cut, row, row_clean, row_parts, parts_row, line_row}
use Rattle.journal_audit.proofs.Fronts.{Follows, stuck_behind, stuck_here, stuck_within}
use Rattle.journal_audit.proofs.Spelled.{all_high_clean, event_high, end_high}
use Rattle.journal_audit.proofs.Readings.{event_read, event_is, end_no_event, end_read, end_is, none_is, and_true}
use Rattle.journal_audit.proofs.Heads.{small_fits}

-- The text is these events and the last line, after k events.
pub record EventsAre (k : ℕ) (h : List Event) (x : List ℕ) : Type 0 where
  pub small : list_all event_fits h ≡ true
  pub few : k + length h < 2 ^ 32
  pub text : x ≡ flat_map event_line h ++ line (end_words (k + length h))

abbrev pub Events : ℕ → List ℕ → Type 0
Events k x = (h : List Event) × EventsAre k h x

-- rows of words
pub parts_some : (ws : List (List ℕ)) → 0 < length ws → all_clean 32 ws ≡ true → parts 32 (row ws) ≡ ws
parts_some [] some plain = absurd (omega arith)
parts_some (w ∷ ws) some plain = parts_row w ws plain

event_some : (e : Event) → 0 < length (event_words e)
event_some (Claim p a) = omega arith
event_some (Close p a o) = omega arith
event_some (Opened d caps) = omega arith
event_some (OpenFailed p o) = omega arith
event_some (Answered p y) = omega arith
event_some (Named p) = omega arith
event_some (Listed d y) = omega arith
event_some (Redone p y) = omega arith
event_some (HandBack p) = omega arith
event_some (Shut d) = omega arith

pub event_row : OneDecimal → (e : Event) (r : List ℕ) → event_fits e ≡ true → r ≡ row (event_words e) → parts 32 r ≡ event_words e
event_row law e r h is =
    ap (λ (l : List ℕ). parts 32 l) is
    ∙ parts_some (event_words e) (event_some e) (all_high_clean 32 (event_words e) (omega arith) (event_high law e h))

pub end_row : OneDecimal → (k : ℕ) (r : List ℕ) → fits k ≡ true → r ≡ row (end_words k) → parts 32 r ≡ end_words k
end_row law k r h is =
    ap (λ (l : List ℕ). parts 32 l) is
    ∙ parts_some (end_words k) (omega arith) (all_high_clean 32 (end_words k) (omega arith) (end_high law k h))

pub event_clean : OneDecimal → (e : Event) → event_fits e ≡ true → clean 10 (row (event_words e)) ≡ true
event_clean law e h = row_clean (event_words e) (all_high_clean 10 (event_words e) (omega arith) (event_high law e h))

pub end_clean : OneDecimal → (k : ℕ) → fits k ≡ true → clean 10 (row (end_words k)) ≡ true
end_clean law k h = row_clean (end_words k) (all_high_clean 10 (end_words k) (omega arith) (end_high law k h))

-- the first line of events that are spelled
pub joined : (a f l : List ℕ) → ((a ++ 10 ∷ []) ++ f) ++ l ≡ a ++ 10 ∷ (f ++ l)
joined a f l = append_assoc (a ++ 10 ∷ []) f l ∙ append_assoc a (10 ∷ []) (f ++ l)

pub cons_text : (e : Event) (t : List Event) (n : ℕ) → flat_map event_line (e ∷ t) ++ line (end_words n) ≡ row (event_words e) ++ 10 ∷ (flat_map event_line t ++ line (end_words n))
cons_text e t n =
    ap (λ (l : List ℕ). (l ++ flat_map event_line t) ++ line (end_words n)) (line_row (event_words e))
    ∙ joined (row (event_words e)) (flat_map event_line t) (line (end_words n))

pub record First (k : ℕ) (r x : List ℕ) (e : Event) (t : List Event) : Type 0 where
  pub small : event_fits e ≡ true
  pub row_is : r ≡ row (event_words e)
  pub more : EventsAre (k + 1) t x

pub events_first : OneDecimal → (k : ℕ) (e : Event) (t : List Event) (r x : List ℕ) → clean 10 r ≡ true → EventsAre k (e ∷ t) (r ++ 10 ∷ x) → First k r x e t
events_first law k e t r x plain are =
    let small = both_and (event_fits e) (list_all event_fits t) are.small in
    let n = k + length (e ∷ t) in
    let cut = same_cut 10 r (row (event_words e)) x (flat_map event_line t ++ line (end_words n)) plain (event_clean law e small.0)
    (are.text ∙ cons_text e t n) in
    let count : k + length (e ∷ t) ≡ (k + 1) + length t = omega arith in
    record {
      small = small.0;
      row_is = cut.0;
      more = record {
        small = small.1;
        few = omega (arith, are.few);
        text = cut.1 ∙ ap (λ (m : ℕ). flat_map event_line t ++ line (end_words m)) count;
      };
    }

pub record Last (k : ℕ) (r x : List ℕ) : Type 0 where
  pub small : fits k ≡ true
  pub row_is : r ≡ row (end_words k)
  pub nothing : x ≡ []

pub events_last : OneDecimal → (k : ℕ) (r x : List ℕ) → clean 10 r ≡ true → EventsAre k [] (r ++ 10 ∷ x) → Last k r x
events_last law k r x plain are =
    let same : k + length {A = Event} [] ≡ k = omega arith in
    let low : fits k ≡ true = small_fits k (omega (arith, are.few)) in
    let text : r ++ 10 ∷ x ≡ row (end_words k) ++ 10 ∷ [] = are.text ∙ ap (λ (m : ℕ). line (end_words m)) same ∙ line_row (end_words k) in
    let cut = same_cut 10 r (row (end_words k)) x [] plain (end_clean law k low) text in
    record { small = low; row_is = cut.0; nothing = cut.1 }

-- nothing may be added to no event
events_empty : (k : ℕ) → k < 2 ^ 32 → EventsAre k [] (line (end_words k))
events_empty k low =
    let same : k ≡ k + length {A = Event} [] = omega arith in
    record { small = refl; few = omega arith; text = ap (λ (m : ℕ). line (end_words m)) same }

pub events_alive : (k : ℕ) → k < 2 ^ 32 → IsFront (Events k) []
events_alive k low = (line (end_words k), ([], events_empty k low))

-- a text without LF is none
pub unended : (k : ℕ) (t : List ℕ) → clean 10 t ≡ true → Events k t → ⊥
unended k t plain h =
    let n = k + length h.0 in
    let whole : t ≡ (flat_map event_line h.0 ++ row (end_words n)) ++ 10 ∷ [] =
    h.1.text ∙ ap (λ (l : List ℕ). flat_map event_line h.0 ++ l) (line_row (end_words n))
    ∙ sym (append_assoc (flat_map event_line h.0) (row (end_words n)) (10 ∷ [])) in
    no_cut 10 t (flat_map event_line h.0 ++ row (end_words n)) [] plain whole

-- a line that is an event
events_down : OneDecimal → (k : ℕ) (e : Event) (r x : List ℕ) → clean 10 r ≡ true → event_of (parts 32 r) ≡ Some e → Events k (r ++ 10 ∷ x) → Events (k + 1) x
events_down law k e r x plain is h = go h.0 h.1
  where
    go : (h : List Event) → EventsAre k h (r ++ 10 ∷ x) → Events (k + 1) x
    go [] are =
        let last = events_last law k r x plain are in
        none_is e (sym (end_no_event k) ∙ ap event_of (sym (end_row law k r last.small last.row_is)) ∙ is)
    go (d ∷ t) are = (t, (events_first law k d t r x plain are).more)

events_up : (k : ℕ) (e : Event) (r x : List ℕ) → r ≡ row (event_words e) → event_fits e ≡ true → (t : List Event) → EventsAre (k + 1) t x → EventsAre k (e ∷ t) (r ++ 10 ∷ x)
events_up k e r x row_is small t are =
    let n = k + length (e ∷ t) in
    let count : (k + 1) + length t ≡ n = omega arith in
    record {
      small = and_true (event_fits e) (list_all event_fits t) small are.small;
      few = omega (arith, are.few);
      text = ap (λ (l : List ℕ). l ++ 10 ∷ x) row_is
          ∙ ap (λ (l : List ℕ). row (event_words e) ++ 10 ∷ l) (are.text ∙ ap (λ (m : ℕ). flat_map event_line t ++ line (end_words m)) count)
          ∙ sym (cons_text e t n);
    }

-- the row of an event that was read
read_row : OneDecimal → (e : Event) (r : List ℕ) → event_of (parts 32 r) ≡ Some e → (r ≡ row (event_words e)) × (event_fits e ≡ true)
read_row law e r is =
    let read = event_is law (parts 32 r) e is in
    (sym (row_parts r) ∙ ap row (sym read.words), read.small)

events_follow : OneDecimal → (k : ℕ) (e : Event) (r : List ℕ) → clean 10 r ≡ true → event_of (parts 32 r) ≡ Some e → Follows (Events k) (Events (k + 1)) r
events_follow law k e r plain is =
    let read = read_row law e r is in
    record { down = λ x h. events_down law k e r x plain is h; up = λ x h. (e ∷ h.0, events_up k e r x read.0 read.1 h.0 h.1) }

-- a line that isn't an event is the last, or none
not_event : OneDecimal → (k : ℕ) (r x : List ℕ) → clean 10 r ≡ true → event_of (parts 32 r) ≡ None → Events k (r ++ 10 ∷ x) → Last k r x
not_event law k r x plain is h = go h.0 h.1
  where
    go : (h : List Event) → EventsAre k h (r ++ 10 ∷ x) → Last k r x
    go [] are = events_last law k r x plain are
    go (d ∷ t) are =
        let first = events_first law k d t r x plain are in
        none_is d (sym is ∙ ap event_of (event_row law d r first.small first.row_is) ∙ event_read law d first.small)

is_end_of : OneDecimal → (k : ℕ) (r x : List ℕ) → Last k r x → is_end k (parts 32 r) ≡ true
is_end_of law k r x last = ap (λ (ws : List (List ℕ)). is_end k ws) (end_row law k r last.small last.row_is) ∙ end_read law k last.small

abbrev pub Nothing : List ℕ → Type 0
Nothing x = x ≡ []

end_follows : OneDecimal → (k : ℕ) (r : List ℕ) → k < 2 ^ 32 → clean 10 r ≡ true → event_of (parts 32 r) ≡ None → r ≡ row (end_words k) → Follows (Events k) Nothing r
end_follows law k r low plain is row_is = record {
  down = λ x h. (not_event law k r x plain is h).nothing;
  up = λ x none. ([], subst (λ (l : List ℕ). EventsAre k [] l) (sym (ap (λ (l : List ℕ). l ++ 10 ∷ x) row_is ∙ ap (λ (l : List ℕ). row (end_words k) ++ 10 ∷ l) none ∙ sym (line_row (end_words k)))) (events_empty k low));
}

some_text : (b : ℕ) (t x : List ℕ) → (b ∷ t) ++ x ≡ [] → ⊥
some_text b t x is = absurd (cc (is))

pub no_line : (r x : List ℕ) → r ++ 10 ∷ x ≡ [] → ⊥
no_line [] x is = absurd (cc (is))
no_line (b ∷ r) x is = absurd (cc (is))

-- more after the last line
beyond : (next : List ℕ) (more : List (List ℕ)) → all_clean 10 (next ∷ more) ≡ true → is_last (next ∷ more) ≡ false → IsStuckAfter Nothing 0 (join_with_byte 10 (next ∷ more))
beyond [] [] plain is = absurd (cc (is))
beyond (b ∷ t) [] plain is = stuck_within Nothing (b ∷ t) (all_clean_cons 10 (b ∷ t) [] plain).0 ([], refl) (λ e. absurd (cc (e)))
beyond next (r ∷ more) plain is =
    stuck_here Nothing next (join_with_byte 10 (r ∷ more)) (all_clean_cons 10 next (r ∷ more) plain).0 ([], refl) (λ y e. no_line next y e)

-- What an answer says of a text of events, from this core on, after k events, the first on the line `here`. `wrong` is
-- the line of the first event before them that isn't a step.
abbrev pub Says : Core → Option ℕ → ℕ → ℕ → List ℕ → Audit → Type 0
Says c wrong k here text (Legal events unclosed) =
    (wrong ≡ None) × (h : List Event) × EventsAre k h text × (events ≡ k + length h)
    × (d : Core) × (replay c h ≡ Some d) × (unclosed ≡ unclosed_count d.paths)
Says c wrong k here text (Illegal n) =
    (h : List Event) × EventsAre k h text
    × ((wrong ≡ Some n) ⊎ ((wrong ≡ None) × (i : ℕ) × (n ≡ here + i) × (d : Core) × StopsAt c h d i))
Says c wrong k here text (Unreadable n) = (before : ℕ) × (n ≡ here + before) × IsStuckAfter (Events k) before text

after_none : (c : Core) (wrong : Option ℕ) (e : Event) (here : ℕ) → wrong_after wrong c e here ≡ None → (wrong ≡ None) × (step_of c e ≡ Some (core_after wrong c e))
after_none c (Some n) e here is = none_is n (sym is)
after_none c None e here is = go (step_of c e) refl is
  where
    go : (o : Option Core) → step_of c e ≡ o → (elim o as (λ _. Option ℕ) [ None ↦ Some here | Some d ↦ None ]) ≡ None
        → (◌≡◌ {A = Option ℕ} None None) × (step_of c e ≡ Some (elim (step_of c e) as (λ _. Core) [ None ↦ c | Some d ↦ d ]))
    go None at h = none_is here (sym h)
    go (Some d) at h = (refl, at ∙ ap (λ (o : Option Core). Some (elim o as (λ _. Core) [ None ↦ c | Some d ↦ d ])) (sym at))

after_some : (c : Core) (wrong : Option ℕ) (e : Event) (here n : ℕ) → wrong_after wrong c e here ≡ Some n → (wrong ≡ Some n) ⊎ ((wrong ≡ None) × (n ≡ here) × (step_of c e ≡ None))
after_some c (Some m) e here n is = inl is
after_some c None e here n is = go (step_of c e) refl is
  where
    go : (o : Option Core) → step_of c e ≡ o → (elim o as (λ _. Option ℕ) [ None ↦ Some here | Some d ↦ None ]) ≡ Some n
        → (None ≡ Some n) ⊎ ((◌≡◌ {A = Option ℕ} None None) × (n ≡ here) × (step_of c e ≡ None))
    go None at h = inr (refl, cc (h), at)
    go (Some d) at h = none_is n h

more_replay : (c d : Core) (e : Event) (h : List Event) → step_of c e ≡ Some d → replay c (e ∷ h) ≡ replay d h
more_replay c d e h is = ap (λ (o : Option Core). elim o as (λ _. Option Core) [ None ↦ None | Some x ↦ replay x h ]) is

says_event : OneDecimal → (c : Core) (wrong : Option ℕ) (k here : ℕ) (r x : List ℕ) (e : Event) (a : Audit) → clean 10 r ≡ true → event_of (parts 32 r) ≡ Some e
    → Says (core_after wrong c e) (wrong_after wrong c e here) (k + 1) (here + 1) x a → Says c wrong k here (r ++ 10 ∷ x) a
says_event law c wrong k here r x e (Legal events unclosed) plain is s =
    let read = read_row law e r is in
    let old = after_none c wrong e here s.0 in
    (old.0, e ∷ s.1, events_up k e r x read.0 read.1 s.1 s.2, omega (arith, s.3), s.4, more_replay c (core_after wrong c e) e s.1 old.1 ∙ s.5, s.6)
says_event law c wrong k here r x e (Illegal n) plain is s =
    let read = read_row law e r is in (
      e ∷ s.0,
      events_up k e r x read.0 read.1 s.0 s.1,
      elim s.2 [
        | inl at ↦ (elim (after_some c wrong e here n at) [
          | inl old ↦ inl old
          | inr old ↦ inr (old.0, 0, omega (arith, old.1), c, (refl, e, refl, old.2))
        ])
        | inr later ↦
            let old = after_none c wrong e here later.0 in
            let stops = later.4 in
            inr (old.0, suc later.1, omega (arith, later.2), later.3, (more_replay c (core_after wrong c e) e (take later.1 s.0) old.1 ∙ stops.0, stops.1, stops.2, stops.3))
      ],
    )
says_event law c wrong k here r x e (Unreadable n) plain is s =
    (suc s.0, omega (arith, s.1), stuck_behind (Events k) (Events (k + 1)) s.0 r x plain (events_follow law k e r plain is) s.2)

last_rows : (next : List ℕ) (more : List (List ℕ)) → is_last (next ∷ more) ≡ true → join_with_byte 10 (next ∷ more) ≡ []
last_rows [] [] is = refl
last_rows (b ∷ t) [] is = let some : length (b ∷ t) ≡ 0 = same_number (length (b ∷ t)) 0 is in absurd (omega (arith, some))
last_rows next (r ∷ more) is = absurd (cc (is))

end_are : (k : ℕ) (r x : List ℕ) → k < 2 ^ 32 → r ≡ row (end_words k) → x ≡ [] → EventsAre k [] (r ++ 10 ∷ x)
end_are k r x low row_is none =
    let text : r ++ 10 ∷ x ≡ line (end_words k) =
    ap (λ (l : List ℕ). l ++ 10 ∷ x) row_is ∙ ap (λ (l : List ℕ). row (end_words k) ++ 10 ∷ l) none ∙ sym (line_row (end_words k)) in
    subst (λ (l : List ℕ). EventsAre k [] l) (sym text) (events_empty k low)

says_judged : (c : Core) (wrong : Option ℕ) (k here : ℕ) (text : List ℕ) → EventsAre k [] text → Says c wrong k here text (judged wrong c k)
says_judged c None k here text are = (refl, [], are, omega arith, c, refl, refl)
says_judged c (Some n) k here text are = ([], are, inl refl)

says_end : OneDecimal → (c : Core) (wrong : Option ℕ) (k here : ℕ) (r next : List ℕ) (more : List (List ℕ)) (ends last : Bool) → k < 2 ^ 32
    → clean 10 r ≡ true → all_clean 10 (next ∷ more) ≡ true → event_of (parts 32 r) ≡ None → is_end k (parts 32 r) ≡ ends → is_last (next ∷ more) ≡ last
    → Says c wrong k here (r ++ 10 ∷ join_with_byte 10 (next ∷ more)) (audit_end ends last c wrong k here)
says_end law c wrong k here r next more false last low plain rest is ends_is last_is = (
  0,
  omega arith,
  stuck_here (Events k) r (join_with_byte 10 (next ∷ more)) plain (events_alive k low)
      (λ y h. let right = is_end_of law k r y (not_event law k r y plain is h) in absurd (cc (right, ends_is))),
)
says_end law c wrong k here r next more true false low plain rest is ends_is last_is =
    let row_is : r ≡ row (end_words k) = sym (row_parts r) ∙ ap row (end_is law k (parts 32 r) ends_is) in
    (1, refl, stuck_behind (Events k) Nothing 0 r (join_with_byte 10 (next ∷ more)) plain (end_follows law k r low plain is row_is) (beyond next more rest last_is))
says_end law c wrong k here r next more true true low plain rest is ends_is last_is =
    let row_is : r ≡ row (end_words k) = sym (row_parts r) ∙ ap row (end_is law k (parts 32 r) ends_is) in
    says_judged c wrong k here (r ++ 10 ∷ join_with_byte 10 (next ∷ more)) (end_are k r (join_with_byte 10 (next ∷ more)) low row_is (last_rows next more last_is))

pub says : OneDecimal → (rs : List (List ℕ)) (c : Core) (wrong : Option ℕ) (k here : ℕ) → all_clean 10 rs ≡ true → k + length rs < 2 ^ 32
    → Says c wrong k here (join_with_byte 10 rs) (audit_events c wrong k here rs)
says law [] c wrong k here plain few =
    (0, omega arith, stuck_within (Events k) [] refl (events_alive k (omega arith)) (unended k [] refl))
says law (r ∷ []) c wrong k here plain few =
    let alone = (all_clean_cons 10 r [] plain).0 in
    (0, omega arith, stuck_within (Events k) r alone (events_alive k (omega arith)) (unended k r alone))
says law (r ∷ next ∷ more) c wrong k here plain few =
    let p = all_clean_cons 10 r (next ∷ more) plain in
    go (event_of (parts 32 r)) refl p.0 p.1 (λ d w. says law (next ∷ more) d w (k + 1) (here + 1) p.1 (omega arith))
  where
    go : (o : Option Event) → event_of (parts 32 r) ≡ o → clean 10 r ≡ true → all_clean 10 (next ∷ more) ≡ true
        → ((d : Core) (w : Option ℕ) → Says d w (k + 1) (here + 1) (join_with_byte 10 (next ∷ more)) (audit_events d w (k + 1) (here + 1) (next ∷ more)))
        → Says c wrong k here (r ++ 10 ∷ join_with_byte 10 (next ∷ more)) (elim o as (λ _. Audit) [
          | None ↦ audit_end (is_end k (parts 32 r)) (is_last (next ∷ more)) c wrong k here
          | Some e ↦ audit_events (core_after wrong c e) (wrong_after wrong c e here) (k + 1) (here + 1) (next ∷ more)
        ])
    go None is plain_r plain_rest later =
        says_end law c wrong k here r next more (is_end k (parts 32 r)) (is_last (next ∷ more)) (omega arith) plain_r plain_rest is refl refl
    go (Some e) is plain_r plain_rest later =
        says_event law c wrong k here r (join_with_byte 10 (next ∷ more)) e (audit_events (core_after wrong c e) (wrong_after wrong c e here) (k + 1) (here + 1) (next ∷ more))
        plain_r is (later (core_after wrong c e) (wrong_after wrong c e here))
