-- A text is one journal at most, and has one audit.
use Rattle.std.proofs.Common.{◌≡◌, inl, inr, ℕ, zero, suc, ◌+◌, ◌<◌, ◌≤◌, ◌-◌, Bool, true, false, cond, List, [], ◌∷◌, ◌++◌, length, take, Option, Some, None, refl, sym, ◌∙◌, ap, subst, append_assoc, arith}
use Rattle.std.specs.Prelude.{eqb}
use Rattle.std.specs.List.{flat_map, list_all}
use Rattle.std.proofs.lemmas.Bool.{cases_lt}
use Rattle.byte_path.specs.Decimal.{OneDecimal}
use Rattle.checkout_core.specs.declared.event.Event.{Event}
use Rattle.checkout_core.specs.declared.path.Start.{Start}
use Rattle.checkout_core.specs.States.{Core, unclosed_count}
use Rattle.checkout_core.specs.Steps.{step_of, replay, StopsAt}
use Rattle.journal_audit.specs.declared.answer.Audit.{Audit}
use Rattle.journal_audit.specs.declared.answer.Audit.TheVariants.{Legal, Illegal, Unreadable}
use Rattle.journal_audit.specs.Journal.{Journal, line, head_words, start_words, start_line, start_fits, event_words, event_line, end_words, event_fits}
use Rattle.journal_audit.specs.Fronts.{IsFront, IsStuckAfter, lines_to}
use Rattle.journal_audit.specs.Audits.{Spells, IsSpelling, IsAudit, core_of}
use Rattle.journal_audit.specs.Reading.{event_of, start_of, head_of}
use Rattle.journal_audit.proofs.Clean.{both_and, row}
use Rattle.journal_audit.proofs.Readings.{none_is, some_is, event_read, end_no_event}
use Rattle.journal_audit.proofs.Heads.{start_read, head_read, head_as}
use Rattle.journal_audit.proofs.Judging.{EventsAre, events_first, events_last, event_row, event_clean, end_row, cons_text}
use Rattle.journal_audit.proofs.Whole.{StartsAre, starts_first, start_row, start_clean, cons_start, first_line, head_row, head_clean, limits_of, behind_head, head_inj, head_text}

-- events
same_event : OneDecimal → (d e : Event) (r : List ℕ) → event_fits d ≡ true → event_fits e ≡ true → r ≡ row (event_words d) → r ≡ row (event_words e) → d ≡ e
same_event law d e r fd fe is also =
    some_is d e (sym (event_read law d fd) ∙ ap event_of (sym (event_row law d r fd is) ∙ event_row law e r fe also) ∙ event_read law e fe)

first_fits : (d : Event) (s : List Event) → list_all event_fits (d ∷ s) ≡ true → event_fits d ≡ true
first_fits d s all = (both_and (event_fits d) (list_all event_fits s) all).0

ended : OneDecimal → (k : ℕ) (e : Event) (t : List Event) (x : List ℕ) → EventsAre k [] x → EventsAre k (e ∷ t) x → ⊥
ended law k e t x a b =
    let r = row (event_words e) in
    let n = k + length (e ∷ t) in
    let y = flat_map event_line t ++ line (end_words n) in
    let text : x ≡ r ++ 10 ∷ y = b.text ∙ cons_text e t n in
    let fe = first_fits e t b.small in
    let last = events_last law k r y (event_clean law e fe) (subst (λ (l : List ℕ). EventsAre k [] l) text a) in
    none_is e (sym (end_no_event k) ∙ ap event_of (sym (end_row law k r last.small last.row_is) ∙ event_row law e r fe refl) ∙ event_read law e fe)

one_history : OneDecimal → (k : ℕ) (g h : List Event) (x : List ℕ) → EventsAre k g x → EventsAre k h x → g ≡ h
one_history law k [] [] x a b = refl
one_history law k [] (e ∷ t) x a b = absurd (ended law k e t x a b)
one_history law k (d ∷ s) [] x a b = absurd (ended law k d s x b a)
one_history law k (d ∷ s) (e ∷ t) x a b =
    let r = row (event_words d) in
    let n = k + length (d ∷ s) in
    let y = flat_map event_line s ++ line (end_words n) in
    let text : x ≡ r ++ 10 ∷ y = a.text ∙ cons_text d s n in
    let fd = first_fits d s a.small in
    let plain = event_clean law d fd in
    let f = events_first law k d s r y plain (subst (λ (l : List ℕ). EventsAre k (d ∷ s) l) text a) in
    let g = events_first law k e t r y plain (subst (λ (l : List ℕ). EventsAre k (e ∷ t) l) text b) in
    let here = same_event law d e r fd g.small f.row_is g.row_is in
    let more = one_history law (k + 1) s t y f.more g.more in
    cc (here, more)

-- starts
one_run : OneDecimal → (drivers left : ℕ) (ss tt_ : List Start) (g h : List Event) (x : List ℕ) → drivers ≤ 16 → StartsAre drivers left ss g x → StartsAre drivers left tt_ h x → (ss ≡ tt_) × (g ≡ h)
one_run law drivers left [] [] g h x few a b =
    (refl, one_history law 0 g h x (subst (λ (l : List ℕ). EventsAre 0 g l) (sym a.text) a.events) (subst (λ (l : List ℕ). EventsAre 0 h l) (sym b.text) b.events))
one_run law drivers left [] (d ∷ t) g h x few a b = absurd (omega (arith, a.count, b.count))
one_run law drivers left (d ∷ s) [] g h x few a b = absurd (omega (arith, a.count, b.count))
one_run law drivers zero (d ∷ s) (e ∷ t) g h x few a b = absurd (omega (arith, a.count))
one_run law drivers (suc left) (d ∷ s) (e ∷ t) g h x few a b =
    let r = row (start_words d) in
    let y = flat_map start_line s ++ a.rest in
    let text : x ≡ r ++ 10 ∷ y = a.text ∙ cons_start d s a.rest in
    let fd = (both_and (start_fits drivers d) (list_all (λ s. start_fits drivers s) s) a.right).0 in
    let plain = start_clean law drivers d few fd in
    let f = starts_first law drivers left d s g r y few plain (subst (λ (l : List ℕ). StartsAre drivers (suc left) (d ∷ s) g l) text a) in
    let k = starts_first law drivers left e t h r y few plain (subst (λ (l : List ℕ). StartsAre drivers (suc left) (e ∷ t) h l) text b) in
    let here : d ≡ e = some_is d e (sym (start_read law drivers d few fd)
    ∙ ap (λ (ws : List (List ℕ)). start_of drivers ws) (sym (start_row law drivers d r few fd f.row_is) ∙ start_row law drivers e r few k.right k.row_is) ∙ start_read law drivers e few k.right) in
    let more = one_run law drivers left s t g h y few f.more k.more in
    let rest = more.0 in
    (cc (here, rest), more.1)

same_journal : (w v d e : ℕ) (s t : List Start) (g h : List Event) → w ≡ v → d ≡ e → s ≡ t → g ≡ h
    → ◌≡◌ {A = Journal} (record { workers = w; drivers = d; starts = s; history = g }) (record { workers = v; drivers = e; starts = t; history = h })
same_journal w v d e s t g h a b c i = cc (a, b, c, i)

pub one_journal : OneDecimal → (text : List ℕ) (j k : Journal) → Spells text j → Spells text k → j ≡ k
one_journal law text j k a b =
    let r = row (head_words j.workers j.drivers (length j.starts)) in
    let x = behind_head j in
    let is : text ≡ r ++ 10 ∷ x = a.text_is ∙ head_text j in
    let plain = head_clean law j.workers j.drivers (length j.starts) (limits_of j a.right) in
    let f = first_line law j r x plain (subst (λ (l : List ℕ). Spells l j) is a) in
    let g = first_line law k r x plain (subst (λ (l : List ℕ). Spells l k) is b) in
    let heads = head_inj (head_as j.workers j.drivers (length j.starts)) (head_as k.workers k.drivers (length k.starts))
    (sym (head_read law j.workers j.drivers (length j.starts) f.limits)
    ∙ ap head_of (sym (head_row law j.workers j.drivers (length j.starts) r f.limits f.row_is) ∙ head_row law k.workers k.drivers (length k.starts) r g.limits g.row_is)
    ∙ head_read law k.workers k.drivers (length k.starts) g.limits) in
    let other = subst (λ (d : ℕ). StartsAre d (length j.starts) k.starts k.history x) (sym heads.1)
    (subst (λ (p : ℕ). StartsAre k.drivers p k.starts k.history x) (sym heads.2) g.more) in
    let run = one_run law j.drivers (length j.starts) j.starts k.starts j.history k.history x f.limits.few_drivers f.more other in
    same_journal j.workers k.workers j.drivers k.drivers j.starts k.starts j.history k.history heads.0 heads.1 run.0 run.1

-- a history that stops
first_step : (c d : Core) (e : Event) (h : List Event) → replay c (e ∷ h) ≡ Some d → (x : Core) × (step_of c e ≡ Some x) × (replay x h ≡ Some d)
first_step c d e h is = go (step_of c e) refl is
  where
    go : (o : Option Core) → step_of c e ≡ o → (elim o as (λ _. Option Core) [ None ↦ None | Some x ↦ replay x h ]) ≡ Some d → (x : Core) × (step_of c e ≡ Some x) × (replay x h ≡ Some d)
    go None at is = none_is d is
    go (Some x) at is = (x, at, is)

stops_here : (c x : Core) (e : Event) (h : List Event) → StopsAt c (e ∷ h) x 0 → step_of c e ≡ None
stops_here c x e h s =
    let same : c ≡ x = some_is c x s.0 in
    let event : e ≡ s.1 = some_is e s.1 s.2 in
    ap (λ (y : Core). step_of y e) same ∙ ap (λ (f : Event). step_of x f) event ∙ s.3

stops_later : (c x y : Core) (e : Event) (h : List Event) (n : ℕ) → step_of c e ≡ Some y → StopsAt c (e ∷ h) x (suc n) → StopsAt y h x n
stops_later c x y e h n at s =
    let f = first_step c x e (take n h) s.0 in
    let same : f.0 ≡ y = some_is f.0 y (sym f.1 ∙ at) in
    (subst (λ (z : Core). replay z (take n h) ≡ Some x) same f.2, s.1, s.2, s.3)

stops_not : (h : List Event) (c d x : Core) (n : ℕ) → replay c h ≡ Some d → StopsAt c h x n → ⊥
stops_not [] c d x n is s = none_is s.1 s.2
stops_not (e ∷ h) c d x zero is s = let f = first_step c d e h is in none_is f.0 (sym (stops_here c x e h s) ∙ f.1)
stops_not (e ∷ h) c d x (suc n) is s =
    let f = first_step c d e h is in
    stops_not h f.0 d x n f.2 (stops_later c x f.0 e h n f.1 s)

stops_once : (h : List Event) (c x y : Core) (n m : ℕ) → StopsAt c h x n → StopsAt c h y m → n ≡ m
stops_once [] c x y n m s t = none_is s.1 s.2
stops_once (e ∷ h) c x y zero zero s t = refl
stops_once (e ∷ h) c x y zero (suc m) s t = let f = first_step c y e (take m h) t.0 in none_is f.0 (sym (stops_here c x e h s) ∙ f.1)
stops_once (e ∷ h) c x y (suc n) zero s t = let f = first_step c x e (take n h) s.0 in none_is f.0 (sym (stops_here c y e h t) ∙ f.1)
stops_once (e ∷ h) c x y (suc n) (suc m) s t =
    let f = first_step c x e (take n h) s.0 in
    ap (λ (k : ℕ). suc k) (stops_once h f.0 x y n m (stops_later c x f.0 e h n f.1 s) (stops_later c y f.0 e h m f.1 t))

-- fewer lines are a front of more
lines_more : (t : List ℕ) (n d : ℕ) → (rest : List ℕ) × (lines_to (n + d) t ≡ lines_to n t ++ rest)
lines_more t zero d = let same : 0 + d ≡ d = omega arith in (lines_to d t, ap (λ (k : ℕ). lines_to k t) same)
lines_more [] (suc n) d = let same : suc n + d ≡ suc (n + d) = omega arith in ([], ap (λ (k : ℕ). lines_to k []) same)
lines_more (b ∷ bs) (suc n) d =
    let same : suc n + d ≡ suc (n + d) = omega arith in
    let h = go (eqb b 10) (lines_more bs n d) (lines_more bs (suc n) d) in
    (h.0, ap (λ (k : ℕ). lines_to k (b ∷ bs)) same ∙ ap (λ (l : List ℕ). b ∷ l) h.1)
  where
    go : (y : Bool) → ((rest : List ℕ) × (lines_to (n + d) bs ≡ lines_to n bs ++ rest)) → ((rest : List ℕ) × (lines_to (suc n + d) bs ≡ lines_to (suc n) bs ++ rest))
        → (rest : List ℕ) × (lines_to (cond y (n + d) (suc (n + d))) bs ≡ lines_to (cond y n (suc n)) bs ++ rest)
    go true f g = f
    go false f g = let same : suc (n + d) ≡ suc n + d = omega arith in (g.0, ap (λ (k : ℕ). lines_to k bs) same ∙ g.1)

front_shorter : (K : List ℕ → Type 0) (t : List ℕ) (n m : ℕ) → n ≤ m → IsFront K (lines_to m t) → IsFront K (lines_to n t)
front_shorter K t n m le f =
    let h = lines_more t n (m - n) in
    let same : m ≡ n + (m - n) = omega arith in
    let text : lines_to m t ≡ lines_to n t ++ h.0 = ap (λ (k : ℕ). lines_to k t) same ∙ h.1 in
    (h.0 ++ f.0, subst K (ap (λ (l : List ℕ). l ++ f.0) text ∙ append_assoc (lines_to n t) h.0 f.0) f.1)

stuck_less : (K : List ℕ → Type 0) (t : List ℕ) (n m : ℕ) → n < m → IsStuckAfter K n t → IsStuckAfter K m t → ⊥
stuck_less K t n m lt a b =
    a.late (λ front. omega (arith, lt, a.early front, b.early front)) (front_shorter K t (suc n) m (omega arith) b.before)

stuck_once : (K : List ℕ → Type 0) (t : List ℕ) (n m : ℕ) → IsStuckAfter K n t → IsStuckAfter K m t → n ≡ m
stuck_once K t n m a b = elim (cases_lt n m) [
  | inl less ↦ absurd (stuck_less K t n m less a b)
  | inr more ↦ elim (cases_lt m n) [ inl less ↦ absurd (stuck_less K t m n less b a) | inr also ↦ omega (arith, more, also) ]
]

pub one_audit : OneDecimal → (text : List ℕ) (a b : Audit) → IsAudit text a → IsAudit text b → a ≡ b
one_audit law text (Legal n u) (Legal m v) a b =
    let same = one_journal law text a.0 b.0 a.1 b.1 in
    let other = subst (λ (j : Journal). replay (core_of j) j.history ≡ Some b.3) (sym same) b.4 in
    let core : a.3 ≡ b.3 = some_is a.3 b.3 (sym a.4 ∙ other) in
    let count : n ≡ m = a.2 ∙ ap (λ (j : Journal). length j.history) same ∙ sym b.2 in
    let open_ : u ≡ v = a.5 ∙ ap (λ (c : Core). unclosed_count c.paths) core ∙ sym b.5 in
    cc (count, open_)
one_audit law text (Legal n u) (Illegal m) a b =
    let same = one_journal law text a.0 b.0 a.1 b.1 in
    absurd (stops_not a.0.history (core_of a.0) a.3 b.4 b.2 a.4 (subst (λ (j : Journal). StopsAt (core_of j) j.history b.4 b.2) (sym same) b.5))
one_audit law text (Legal n u) (Unreadable m) a b = absurd (b.2.none (a.0, a.1))
one_audit law text (Illegal n) (Legal m v) a b =
    let same = one_journal law text b.0 a.0 b.1 a.1 in
    absurd (stops_not b.0.history (core_of b.0) b.3 a.4 a.2 b.4 (subst (λ (j : Journal). StopsAt (core_of j) j.history a.4 a.2) (sym same) a.5))
one_audit law text (Illegal n) (Illegal m) a b =
    let same = one_journal law text a.0 b.0 a.1 b.1 in
    let place = stops_once a.0.history (core_of a.0) a.4 b.4 a.2 b.2 a.5 (subst (λ (j : Journal). StopsAt (core_of j) j.history b.4 b.2) (sym same) b.5) in
    let count : length a.0.starts ≡ length b.0.starts = ap (λ (j : Journal). length j.starts) same in
    let here : n ≡ m = omega (arith, a.3, b.3, place, count) in
    ap (λ (l : ℕ). Illegal l) here
one_audit law text (Illegal n) (Unreadable m) a b = absurd (b.2.none (a.0, a.1))
one_audit law text (Unreadable n) (Legal m v) a b = absurd (a.2.none (b.0, b.1))
one_audit law text (Unreadable n) (Illegal m) a b = absurd (a.2.none (b.0, b.1))
one_audit law text (Unreadable n) (Unreadable m) a b =
    let here = stuck_once IsSpelling text a.0 b.0 a.2 b.2 in
    let same : n ≡ m = omega (arith, a.1, b.1, here) in
    ap (λ (l : ℕ). Unreadable l) same
