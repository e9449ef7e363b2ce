-- The audit of a text is what is to be said of it.
use Rattle.std.proofs.Common.{◌≡◌, inl, inr, ℕ, zero, suc, ◌+◌, ◌<◌, ◌≤◌, ◌^◌, true, eqb, List, [], ◌∷◌, ◌++◌, length, Option, Some, None, refl, sym, ◌∙◌, ap, subst, append_assoc, length-append, arith}
use Rattle.std.specs.List.{flat_map, list_all, join_with_byte}
use Rattle.std.proofs.lemmas.List.{append-nil}
use Rattle.std.proofs.lemmas.List.Splits.{length-slice_split, join_with_byte-slice_split}
use Rattle.std.proofs.lemmas.List.Sums.{count_by-le-length}
use Rattle.std.specs.Prelude.{Result, Ok, Err, IfOk}
use Rattle.byte_path.specs.Decimal.{OneDecimal}
use Rattle.checkout_core.specs.declared.event.Event.{Event}
use Rattle.checkout_core.specs.declared.path.Start.{Start}
use Rattle.checkout_core.specs.declared.path.Start.TheVariants.{Pool, Desk, Done}
use Rattle.checkout_core.specs.States.{Core, start, unclosed_count}
use Rattle.checkout_core.specs.Steps.{replay, StopsAt}
use Rattle.journal_audit.specs.declared.answer.Audit.{Audit}
use Rattle.journal_audit.specs.declared.answer.Audit.TheVariants.{Legal, Illegal, Unreadable}
use Rattle.journal_audit.specs.declared.line_reader.Head.{Head}
use Rattle.journal_audit.specs.Journal.{Journal, IsJournal, spelling, line, start_words, start_line, start_fits, event_line, end_words, head_words}
use Rattle.journal_audit.specs.Fronts.{IsFront, IsStuckAfter}
use Rattle.journal_audit.specs.Audits.{Spells, IsSpelling, IsAudit}
use Rattle.journal_audit.specs.Reading.{parts, start_of, head_of, IsLimited, audit_events, audit_starts, audit_head, audit_text}
use Rattle.journal_audit.proofs.Clean.{parts_all_clean, clean, all_clean, both_and, all_clean_cons, same_cut, no_cut, row, row_clean, row_parts, line_row}
use Rattle.journal_audit.proofs.Fronts.{Follows, stuck_behind, stuck_here, stuck_within, stuck_same}
use Rattle.journal_audit.proofs.Spelled.{all_high_clean}
use Rattle.journal_audit.proofs.Readings.{none_is, some_is, and_true}
use Rattle.journal_audit.proofs.Heads.{start_read, start_is, start_high, head_read, head_is, head_high, head_as}
use Rattle.journal_audit.proofs.Judging.{EventsAre, Events, Says, says, joined, parts_some, events_alive}

-- The text is so many starts, these events and the last line.
pub record StartsAre (drivers left : ℕ) (ss : List Start) (h : List Event) (x : List ℕ) : Type 0 where
  pub count : length ss ≡ left
  pub right : list_all (λ s. start_fits drivers s) ss ≡ true
  pub rest : List ℕ
  pub events : EventsAre 0 h rest
  pub text : x ≡ flat_map start_line ss ++ rest

abbrev pub Starts : ℕ → ℕ → List ℕ → Type 0
Starts drivers left x = (ss : List Start) × (h : List Event) × StartsAre drivers left ss h x

start_some : (s : Start) → 0 < length (start_words s)
start_some Pool = omega arith
start_some (Desk d b) = omega arith
start_some (Done v) = omega arith

pub start_row : OneDecimal → (drivers : ℕ) (s : Start) (r : List ℕ) → drivers ≤ 16 → start_fits drivers s ≡ true → r ≡ row (start_words s) → parts 32 r ≡ start_words s
start_row law drivers s r few right is =
    ap (λ (l : List ℕ). parts 32 l) is
    ∙ parts_some (start_words s) (start_some s) (all_high_clean 32 (start_words s) (omega arith) (start_high law drivers s few right))

pub start_clean : OneDecimal → (drivers : ℕ) (s : Start) → drivers ≤ 16 → start_fits drivers s ≡ true → clean 10 (row (start_words s)) ≡ true
start_clean law drivers s few right = row_clean (start_words s) (all_high_clean 10 (start_words s) (omega arith) (start_high law drivers s few right))

pub cons_start : (s : Start) (t : List Start) (rest : List ℕ) → flat_map start_line (s ∷ t) ++ rest ≡ row (start_words s) ++ 10 ∷ (flat_map start_line t ++ rest)
cons_start s t rest =
    ap (λ (l : List ℕ). (l ++ flat_map start_line t) ++ rest) (line_row (start_words s)) ∙ joined (row (start_words s)) (flat_map start_line t) rest

pub record FirstStart (drivers left : ℕ) (r x : List ℕ) (s : Start) (t : List Start) (h : List Event) : Type 0 where
  pub right : start_fits drivers s ≡ true
  pub row_is : r ≡ row (start_words s)
  pub more : StartsAre drivers left t h x

pub starts_first : OneDecimal → (drivers left : ℕ) (s : Start) (t : List Start) (h : List Event) (r x : List ℕ) → drivers ≤ 16 → clean 10 r ≡ true
    → StartsAre drivers (suc left) (s ∷ t) h (r ++ 10 ∷ x) → FirstStart drivers left r x s t h
starts_first law drivers left s t h r x few plain are =
    let right = both_and (start_fits drivers s) (list_all (λ s. start_fits drivers s) t) are.right in
    let cut = same_cut 10 r (row (start_words s)) x (flat_map start_line t ++ are.rest) plain (start_clean law drivers s few right.0)
    (are.text ∙ cons_start s t are.rest) in
    record {
      right = right.0;
      row_is = cut.0;
      more = record { count = omega (arith, are.count); right = right.1; rest = are.rest; events = are.events; text = cut.1 };
    }

no_starts : (drivers left : ℕ) (h : List Event) (x : List ℕ) → StartsAre drivers (suc left) [] h x → ⊥
no_starts drivers left h x are = omega (arith, are.count)

starts_up : (drivers left : ℕ) (s : Start) (r x : List ℕ) → r ≡ row (start_words s) → start_fits drivers s ≡ true → (t : List Start) (h : List Event)
    → StartsAre drivers left t h x → StartsAre drivers (suc left) (s ∷ t) h (r ++ 10 ∷ x)
starts_up drivers left s r x row_is right t h are = record {
  count = omega (arith, are.count);
  right = and_true (start_fits drivers s) (list_all (λ s. start_fits drivers s) t) right are.right;
  rest = are.rest;
  events = are.events;
  text = ap (λ (l : List ℕ). l ++ 10 ∷ x) row_is ∙ ap (λ (l : List ℕ). row (start_words s) ++ 10 ∷ l) are.text ∙ sym (cons_start s t are.rest);
}

start_read_row : OneDecimal → (drivers : ℕ) (s : Start) (r : List ℕ) → start_of drivers (parts 32 r) ≡ Some s → (r ≡ row (start_words s)) × (start_fits drivers s ≡ true)
start_read_row law drivers s r is =
    let read = start_is law drivers (parts 32 r) s is in
    (sym (row_parts r) ∙ ap row (sym read.words), read.right)

starts_follow : OneDecimal → (drivers left : ℕ) (s : Start) (r : List ℕ) → drivers ≤ 16 → clean 10 r ≡ true → start_of drivers (parts 32 r) ≡ Some s
    → Follows (Starts drivers (suc left)) (Starts drivers left) r
starts_follow law drivers left s r few plain is =
    let read = start_read_row law drivers s r is in
    record {
      down = λ x h. down x h.0 h.1 h.2;
      up = λ x h. (s ∷ h.0, h.1, starts_up drivers left s r x read.0 read.1 h.0 h.1 h.2);
    }
  where
    down : (x : List ℕ) (ss : List Start) (h : List Event) → StartsAre drivers (suc left) ss h (r ++ 10 ∷ x) → Starts drivers left x
    down x [] h are = absurd (no_starts drivers left h (r ++ 10 ∷ x) are)
    down x (d ∷ t) h are = (t, h, (starts_first law drivers left d t h r x few plain are).more)

not_start : OneDecimal → (drivers left : ℕ) (r x : List ℕ) → drivers ≤ 16 → clean 10 r ≡ true → start_of drivers (parts 32 r) ≡ None → Starts drivers (suc left) (r ++ 10 ∷ x) → ⊥
not_start law drivers left r x few plain is h = go h.0 h.1 h.2
  where
    go : (ss : List Start) (h : List Event) → StartsAre drivers (suc left) ss h (r ++ 10 ∷ x) → ⊥
    go [] h are = no_starts drivers left h (r ++ 10 ∷ x) are
    go (d ∷ t) h are =
        let first = starts_first law drivers left d t h r x few plain are in
        none_is d (sym is ∙ ap (λ (ws : List (List ℕ)). start_of drivers ws) (start_row law drivers d r few first.right first.row_is) ∙ start_read law drivers d few first.right)

starts_alive : (drivers left : ℕ) → IsFront (Starts drivers left) []
starts_alive drivers zero =
    let none = events_alive 0 (omega arith) in
    (none.0, ([], none.1.0, record { count = refl; right = refl; rest = none.0; events = none.1.1; text = refl }))
starts_alive drivers (suc left) =
    let more = starts_alive drivers left in
    (row (start_words Pool) ++ 10 ∷ more.0, (Pool ∷ more.1.0, more.1.1, starts_up drivers left Pool (row (start_words Pool)) more.0 refl refl more.1.0 more.1.1 more.1.2))

starts_unended : (drivers left : ℕ) (t : List ℕ) → clean 10 t ≡ true → Starts drivers (suc left) t → ⊥
starts_unended drivers left t plain h = go h.0 h.1 h.2
  where
    go : (ss : List Start) (h : List Event) → StartsAre drivers (suc left) ss h t → ⊥
    go [] h are = no_starts drivers left h t are
    go (d ∷ ss) h are = no_cut 10 t (row (start_words d)) (flat_map start_line ss ++ are.rest) plain (are.text ∙ cons_start d ss are.rest)

-- no start is left
no_more : (drivers : ℕ) (x : List ℕ) → Starts drivers 0 x → Events 0 x
no_more drivers x h = go h.0 h.1 h.2
  where
    go : (ss : List Start) (h : List Event) → StartsAre drivers 0 ss h x → Events 0 x
    go [] h are = (h, subst (λ (l : List ℕ). EventsAre 0 h l) (sym are.text) are.events)
    go (d ∷ ss) h are = absurd (omega (arith, are.count))

none_left : (drivers : ℕ) (h : List Event) (x : List ℕ) → EventsAre 0 h x → StartsAre drivers 0 [] h x
none_left drivers h x are = record { count = refl; right = refl; rest = x; events = are; text = refl }

-- what an answer says of a text of starts and events, after these starts
abbrev pub SaysStarts : ℕ → ℕ → ℕ → List Start → List ℕ → Audit → Type 0
SaysStarts workers drivers left acc x (Legal events unclosed) =
    (ss : List Start) × (h : List Event) × StartsAre drivers left ss h x × (events ≡ length h)
    × (d : Core) × (replay (start (acc ++ ss) workers drivers) h ≡ Some d) × (unclosed ≡ unclosed_count d.paths)
SaysStarts workers drivers left acc x (Illegal n) =
    (ss : List Start) × (h : List Event) × StartsAre drivers left ss h x × (i : ℕ) × (n ≡ length (acc ++ ss) + 2 + i)
    × (d : Core) × StopsAt (start (acc ++ ss) workers drivers) h d i
SaysStarts workers drivers left acc x (Unreadable n) =
    (before : ℕ) × (n ≡ length acc + 2 + before) × IsStuckAfter (Starts drivers left) before x

starts_none : (workers drivers : ℕ) (acc : List Start) (x : List ℕ) (a : Audit) → Says (start acc workers drivers) None 0 (length acc + 2) x a → SaysStarts workers drivers 0 acc x a
starts_none workers drivers acc x (Legal events unclosed) s = (
  [],
  s.1,
  none_left drivers s.1 x s.2,
  omega (arith, s.3),
  s.4,
  ap (λ (l : List Start). replay (start l workers drivers) s.1) (append-nil acc) ∙ s.5,
  s.6,
)
starts_none workers drivers acc x (Illegal n) s =
    elim s.2 [
      | inl old ↦ none_is n old
      | inr later ↦ (
        [],
        s.0,
        none_left drivers s.0 x s.1,
        later.1,
        later.2 ∙ ap (λ (l : List Start). length l + 2 + later.1) (sym (append-nil acc)),
        later.3,
        subst (λ (l : List Start). StopsAt (start l workers drivers) s.0 later.3 later.1) (sym (append-nil acc)) later.4,
      )
    ]
starts_none workers drivers acc x (Unreadable n) s =
    (s.0, s.1, stuck_same (Starts drivers 0) (Events 0) s.0 x (λ y h. no_more drivers y h) (λ y h. ([], h.0, none_left drivers h.0 y h.1)) s.2)

says_start : OneDecimal → (workers drivers left : ℕ) (acc : List Start) (r x : List ℕ) (s : Start) (a : Audit) → drivers ≤ 16 → clean 10 r ≡ true → start_of drivers (parts 32 r) ≡ Some s
    → SaysStarts workers drivers left (acc ++ s ∷ []) x a → SaysStarts workers drivers (suc left) acc (r ++ 10 ∷ x) a
says_start law workers drivers left acc r x s (Legal events unclosed) few plain is t =
    let read = start_read_row law drivers s r is in
    let whole = append_assoc acc (s ∷ []) t.0 in
    (s ∷ t.0, t.1, starts_up drivers left s r x read.0 read.1 t.0 t.1 t.2, t.3, t.4, ap (λ (l : List Start). replay (start l workers drivers) t.1) (sym whole) ∙ t.5, t.6)
says_start law workers drivers left acc r x s (Illegal n) few plain is t =
    let read = start_read_row law drivers s r is in
    let whole = append_assoc acc (s ∷ []) t.0 in (
      s ∷ t.0,
      t.1,
      starts_up drivers left s r x read.0 read.1 t.0 t.1 t.2,
      t.3,
      t.4 ∙ ap (λ (l : List Start). length l + 2 + t.3) whole,
      t.5,
      subst (λ (l : List Start). StopsAt (start l workers drivers) t.1 t.5 t.3) whole t.6,
    )
says_start law workers drivers left acc r x s (Unreadable n) few plain is t =
    (suc t.0, omega (arith, t.1, length-append acc (s ∷ [])), stuck_behind (Starts drivers (suc left)) (Starts drivers left) t.0 r x plain (starts_follow law drivers left s r few plain is) t.2)

pub says_starts : OneDecimal → (left : ℕ) (workers drivers : ℕ) (acc : List Start) (rs : List (List ℕ)) → drivers ≤ 16 → all_clean 10 rs ≡ true → length rs < 2 ^ 32
    → SaysStarts workers drivers left acc (join_with_byte 10 rs) (audit_starts workers drivers left acc rs)
says_starts law zero workers drivers acc rs few plain short =
    starts_none workers drivers acc (join_with_byte 10 rs) (audit_events (start acc workers drivers) None 0 (length acc + 2) rs)
    (says law rs (start acc workers drivers) None 0 (length acc + 2) plain (omega arith))
says_starts law (suc left) workers drivers acc [] few plain short =
    (0, omega arith, stuck_within (Starts drivers (suc left)) [] refl (starts_alive drivers (suc left)) (starts_unended drivers left [] refl))
says_starts law (suc left) workers drivers acc (r ∷ []) few plain short =
    let alone = (all_clean_cons 10 r [] plain).0 in
    (0, omega arith, stuck_within (Starts drivers (suc left)) r alone (starts_alive drivers (suc left)) (starts_unended drivers left r alone))
says_starts law (suc left) workers drivers acc (r ∷ next ∷ more) few plain short =
    let p = all_clean_cons 10 r (next ∷ more) plain in
    go (start_of drivers (parts 32 r)) refl p.0 (λ s. says_starts law left workers drivers (acc ++ s ∷ []) (next ∷ more) few p.1 (omega arith))
  where
    go : (o : Option Start) → start_of drivers (parts 32 r) ≡ o → clean 10 r ≡ true
        → ((s : Start) → SaysStarts workers drivers left (acc ++ s ∷ []) (join_with_byte 10 (next ∷ more)) (audit_starts workers drivers left (acc ++ s ∷ []) (next ∷ more)))
        → SaysStarts workers drivers (suc left) acc (r ++ 10 ∷ join_with_byte 10 (next ∷ more)) (elim o as (λ _. Audit) [
          | None ↦ Unreadable (length acc + 2)
          | Some s ↦ audit_starts workers drivers left (acc ++ s ∷ []) (next ∷ more)
        ])
    go None is plain_r later = (
      0,
      omega arith,
      stuck_here (Starts drivers (suc left)) r (join_with_byte 10 (next ∷ more)) plain_r (starts_alive drivers (suc left))
          (λ y h. not_start law drivers left r y few plain_r is h),
    )
    go (Some s) is plain_r later =
        says_start law workers drivers left acc r (join_with_byte 10 (next ∷ more)) s (audit_starts workers drivers left (acc ++ s ∷ []) (next ∷ more)) few plain_r is (later s)

-- the whole text
pub head_row : OneDecimal → (w d p : ℕ) (r : List ℕ) → IsLimited w d p → r ≡ row (head_words w d p) → parts 32 r ≡ head_words w d p
head_row law w d p r l is =
    ap (λ (t : List ℕ). parts 32 t) is ∙ parts_some (head_words w d p) (omega arith) (all_high_clean 32 (head_words w d p) (omega arith) (head_high law w d p l))

pub head_clean : OneDecimal → (w d p : ℕ) → IsLimited w d p → clean 10 (row (head_words w d p)) ≡ true
head_clean law w d p l = row_clean (head_words w d p) (all_high_clean 10 (head_words w d p) (omega arith) (head_high law w d p l))

pub limits_of : (j : Journal) → IsJournal j → IsLimited j.workers j.drivers (length j.starts)
limits_of j is = record { some_workers = is.some_workers; few_workers = is.few_workers; few_drivers = is.few_drivers; few_paths = is.few_paths }

pub record FirstLine (j : Journal) (r x : List ℕ) : Type 0 where
  pub row_is : r ≡ row (head_words j.workers j.drivers (length j.starts))
  pub limits : IsLimited j.workers j.drivers (length j.starts)
  pub more : StartsAre j.drivers (length j.starts) j.starts j.history x

pub behind_head : Journal → List ℕ
behind_head j = flat_map start_line j.starts ++ (flat_map event_line j.history ++ line (end_words (length j.history)))

pub head_text : (j : Journal) → spelling j ≡ row (head_words j.workers j.drivers (length j.starts)) ++ 10 ∷ behind_head j
unfolding behind_head
head_text j =
    let ws = head_words j.workers j.drivers (length j.starts) in
    ap (λ (l : List ℕ). l ++ behind_head j) (line_row ws) ∙ append_assoc (row ws) (10 ∷ []) (behind_head j)

pub first_line : OneDecimal → (j : Journal) (r x : List ℕ) → clean 10 r ≡ true → Spells (r ++ 10 ∷ x) j → FirstLine j r x
unfolding behind_head
first_line law j r x plain s =
    let limits = limits_of j s.right in
    let ws = head_words j.workers j.drivers (length j.starts) in
    let text : r ++ 10 ∷ x ≡ row ws ++ 10 ∷ behind_head j =
    s.text_is ∙ ap (λ (l : List ℕ). l ++ behind_head j) (line_row ws) ∙ append_assoc (row ws) (10 ∷ []) (behind_head j) in
    let cut = same_cut 10 r (row ws) x (behind_head j) plain (head_clean law j.workers j.drivers (length j.starts) limits) text in
    let same : length j.history ≡ 0 + length j.history = omega arith in
    record {
      row_is = cut.0;
      limits = limits;
      more = record {
        count = refl;
        right = s.right.starts_fit;
        rest = flat_map event_line j.history ++ line (end_words (length j.history));
        events = record {
          small = s.right.events_fit;
          few = omega (arith, s.right.few_events);
          text = ap (λ (m : ℕ). flat_map event_line j.history ++ line (end_words m)) same;
        };
        text = cut.1;
      };
    }

abbrev pub as_journal : Head → List Start → List Event → Journal
as_journal h ss es = record { workers = h.workers; drivers = h.drivers; starts = ss; history = es }

head_up : (h : Head) (r x : List ℕ) (ss : List Start) (es : List Event) → r ≡ row (head_words h.workers h.drivers h.paths) → IsLimited h.workers h.drivers h.paths
    → StartsAre h.drivers h.paths ss es x → Spells (r ++ 10 ∷ x) (as_journal h ss es)
head_up h r x ss es row_is l are =
    let same : 0 + length es ≡ length es = omega arith in
    let ws = head_words h.workers h.drivers h.paths in
    let count = are.count in
    let rest : are.rest ≡ flat_map event_line es ++ line (end_words (length es)) =
    are.events.text ∙ ap (λ (m : ℕ). flat_map event_line es ++ line (end_words m)) same in
    record {
      right = record {
        some_workers = l.some_workers;
        few_workers = l.few_workers;
        few_drivers = l.few_drivers;
        few_paths = omega (arith, l.few_paths, count);
        few_events = omega (arith, are.events.few);
        starts_fit = are.right;
        events_fit = are.events.small;
      };
      text_is = ap (λ (l : List ℕ). l ++ 10 ∷ x) row_is ∙ sym (append_assoc (row ws) (10 ∷ []) x) ∙ ap (λ (l : List ℕ). l ++ x) (sym (line_row ws))
          ∙ ap (λ (n : ℕ). line (head_words h.workers h.drivers n) ++ x) (sym count)
          ∙ ap (λ (l : List ℕ). line (head_words h.workers h.drivers (length ss)) ++ l) (are.text ∙ ap (λ (l : List ℕ). flat_map start_line ss ++ l) rest);
    }

pub head_inj : (a b : Head) → Some a ≡ Some b → (a.workers ≡ b.workers) × (a.drivers ≡ b.drivers) × (a.paths ≡ b.paths)
head_inj a b e = let s = some_is a b e in (ap (λ (h : Head). h.workers) s, ap (λ (h : Head). h.drivers) s, ap (λ (h : Head). h.paths) s)

read_head : OneDecimal → (h : Head) (r : List ℕ) → head_of (parts 32 r) ≡ Some h → (r ≡ row (head_words h.workers h.drivers h.paths)) × IsLimited h.workers h.drivers h.paths
read_head law h r is =
    let read = head_is law (parts 32 r) h is in
    (sym (row_parts r) ∙ ap row (sym read.words), read.limits)

head_down : OneDecimal → (h : Head) (r x : List ℕ) → clean 10 r ≡ true → head_of (parts 32 r) ≡ Some h → IsSpelling (r ++ 10 ∷ x) → Starts h.drivers h.paths x
head_down law h r x plain is s =
    let j = s.0 in
    let first = first_line law j r x plain s.1 in
    let same = head_inj (head_as j.workers j.drivers (length j.starts)) h
    (sym (ap head_of (head_row law j.workers j.drivers (length j.starts) r first.limits first.row_is) ∙ head_read law j.workers j.drivers (length j.starts) first.limits) ∙ is) in (
      j.starts,
      j.history,
      subst (λ (d : ℕ). StartsAre d h.paths j.starts j.history x) same.1
          (subst (λ (p : ℕ). StartsAre j.drivers p j.starts j.history x) same.2 first.more),
    )

head_follows : OneDecimal → (h : Head) (r : List ℕ) → clean 10 r ≡ true → head_of (parts 32 r) ≡ Some h → Follows IsSpelling (Starts h.drivers h.paths) r
head_follows law h r plain is =
    let read = read_head law h r is in
    record {
      down = λ x s. head_down law h r x plain is s;
      up = λ x s. (as_journal h s.0 s.1, head_up h r x s.0 s.1 read.0 read.1 s.2);
    }

not_head : OneDecimal → (r x : List ℕ) → clean 10 r ≡ true → head_of (parts 32 r) ≡ None → IsSpelling (r ++ 10 ∷ x) → ⊥
not_head law r x plain is s =
    let j = s.0 in
    let first = first_line law j r x plain s.1 in
    none_is (head_as j.workers j.drivers (length j.starts))
    (sym is ∙ ap head_of (head_row law j.workers j.drivers (length j.starts) r first.limits first.row_is) ∙ head_read law j.workers j.drivers (length j.starts) first.limits)

-- some journal
alive : IsFront IsSpelling []
alive =
    let h : Head = record { workers = 1; drivers = 0; paths = 0 } in
    let more = starts_alive 0 0 in
    let l : IsLimited 1 0 0 = record { some_workers = omega arith; few_workers = omega arith; few_drivers = omega arith; few_paths = omega arith } in
    (row (head_words 1 0 0) ++ 10 ∷ more.0, (as_journal h more.1.0 more.1.1, head_up h (row (head_words 1 0 0)) more.0 more.1.0 more.1.1 refl l more.1.2))

unended_head : (t : List ℕ) → clean 10 t ≡ true → IsSpelling t → ⊥
unfolding behind_head
unended_head t plain s =
    let j = s.0 in
    let ws = head_words j.workers j.drivers (length j.starts) in
    no_cut 10 t (row ws) (behind_head j) plain
    (s.1.text_is ∙ ap (λ (l : List ℕ). l ++ behind_head j) (line_row ws) ∙ append_assoc (row ws) (10 ∷ []) (behind_head j))

is_audit : OneDecimal → (h : Head) (r x : List ℕ) (a : Audit) → clean 10 r ≡ true → head_of (parts 32 r) ≡ Some h → SaysStarts h.workers h.drivers h.paths [] x a → IsAudit (r ++ 10 ∷ x) a
is_audit law h r x (Legal events unclosed) plain is s =
    let read = read_head law h r is in
    (as_journal h s.0 s.1, head_up h r x s.0 s.1 read.0 read.1 s.2, s.3, s.4, s.5, s.6)
is_audit law h r x (Illegal n) plain is s =
    let read = read_head law h r is in
    (as_journal h s.0 s.1, head_up h r x s.0 s.1 read.0 read.1 s.2, s.3, s.4, s.5, s.6)
is_audit law h r x (Unreadable n) plain is s =
    (suc s.0, omega (arith, s.1), stuck_behind IsSpelling (Starts h.drivers h.paths) s.0 r x plain (head_follows law h r plain is) s.2)

pub audited : OneDecimal → (rs : List (List ℕ)) → all_clean 10 rs ≡ true → length rs < 2 ^ 32 → IsAudit (join_with_byte 10 rs) (audit_text rs)
audited law [] plain short = (0, refl, stuck_within IsSpelling [] refl alive (unended_head [] refl))
audited law (r ∷ []) plain short =
    let alone = (all_clean_cons 10 r [] plain).0 in
    (0, refl, stuck_within IsSpelling r alone alive (unended_head r alone))
audited law (r ∷ next ∷ more) plain short =
    let p = all_clean_cons 10 r (next ∷ more) plain in
    go (head_of (parts 32 r)) refl p.0 p.1
  where
    go : (o : Option Head) → head_of (parts 32 r) ≡ o → clean 10 r ≡ true → all_clean 10 (next ∷ more) ≡ true
        → IsAudit (r ++ 10 ∷ join_with_byte 10 (next ∷ more)) (audit_head o (next ∷ more))
    go None is plain_r rest = (0, refl, stuck_here IsSpelling r (join_with_byte 10 (next ∷ more)) plain_r alive (λ y s. not_head law r y plain_r is s))
    go (Some h) is plain_r rest =
        let read = read_head law h r is in
        let limits = read.1 in
        is_audit law h r (join_with_byte 10 (next ∷ more)) (audit_starts h.workers h.drivers h.paths [] (next ∷ more)) plain_r is
        (says_starts law h.paths h.workers h.drivers [] (next ∷ more) limits.few_drivers rest (omega arith))

few_rows : (text : List ℕ) → length text ≤ 67108864 → length (parts 10 text) < 2 ^ 32
few_rows text few = omega (arith, few, length-slice_split (λ b. eqb b 10) text, count_by-le-length (λ b. eqb b 10) text)

pub right_answer : OneDecimal → (text : List ℕ) (a : Audit) → length text ≤ 67108864 → a ≡ audit_text (parts 10 text) → IsAudit text a
right_answer law text a few is =
    subst (λ (x : Audit). IsAudit text x) (sym is)
    (subst (λ (t : List ℕ). IsAudit t (audit_text (parts 10 text))) (join_with_byte-slice_split 10 text)
    (audited law (parts 10 text) (parts_all_clean 10 text) (few_rows text few)))

pub audit_of : {E : Type 0} → OneDecimal → (text : List ℕ) (r : Result Audit E) → length text ≤ 67108864 → IfOk r (λ a. a ≡ audit_text (parts 10 text)) → IfOk r (λ a. IsAudit text a)
audit_of law text (Ok a) few is = right_answer law text a few is
audit_of law text (Err e) few is = is
