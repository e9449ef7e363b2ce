-- One more line of what is judged.
use Rattle.std.proofs.Common.{◌≡◌, ℕ, zero, suc, ◌+◌, ◌-◌, ◌<◌, ◌==◌, Bool, true, false, eqb, List, [], ◌∷◌, ◌++◌, length, Option, Some, None, refl, sym, ◌∙◌, ap, ne_eqb, arith}
use Rattle.std.proofs.lemmas.List.Splits.{slice_split-cons_no, slice_split-cons_yes}
use Rattle.std.specs.List.{onto_first, list_all}
use Rattle.std.specs.Prelude.{Result, Ok, Err, IfOk}
use Rattle.checkout_core.specs.declared.path.Start.{Start}
use Rattle.checkout_core.specs.declared.event.Event.{Event}
use Rattle.checkout_core.specs.States.{Core, AreBelow}
use Rattle.journal_audit.specs.declared.answer.Audit.{Audit}
use Rattle.journal_audit.specs.declared.answer.Audit.TheVariants.{Unreadable}
use Rattle.journal_audit.specs.declared.line_reader.Head.{Head}
use Rattle.journal_audit.specs.Reading.{parts, event_of, start_of, head_of, is_end, is_last, core_after, wrong_after, audit_end, audit_events, audit_starts, audit_head, audit_text, IsNoStart, IsNextStart}
use Rattle.journal_audit.specs.Journal.{start_fits}
use Rattle.checkout_core.specs.declared.path.Start.TheVariants.{Desk}
use Rattle.journal_audit.proofs.Clean.{both_and}
use Rattle.journal_audit.proofs.Readings.{none_is, some_is, and_true}
use Rattle.journal_audit.proofs.Heads.{below_is}
use Rattle.journal_audit.proofs.Cuts.{some_parts}

pub events_step : (c : Core) (wrong : Option ℕ) (k here : ℕ) (r : List ℕ) (ps : List (List ℕ)) (e : Event) → 0 < length ps → event_of (parts 32 r) ≡ Some e
    → audit_events c wrong k here (r ∷ ps) ≡ audit_events (core_after wrong c e) (wrong_after wrong c e here) (k + 1) (here + 1) ps
events_step c wrong k here r [] e some is = absurd (omega arith)
events_step c wrong k here r (next ∷ more) e some is = ap (λ (o : Option Event). elim o as (λ _. Audit) [
  | None ↦ audit_end (is_end k (parts 32 r)) (is_last (next ∷ more)) c wrong k here
  | Some x ↦ audit_events (core_after wrong c x) (wrong_after wrong c x here) (k + 1) (here + 1) (next ∷ more)
]) is

pub events_end : (c : Core) (wrong : Option ℕ) (k here : ℕ) (r : List ℕ) (ps : List (List ℕ)) → 0 < length ps → event_of (parts 32 r) ≡ None
    → audit_events c wrong k here (r ∷ ps) ≡ audit_end (is_end k (parts 32 r)) (is_last ps) c wrong k here
events_end c wrong k here r [] some is = absurd (omega arith)
events_end c wrong k here r (next ∷ more) some is = ap (λ (o : Option Event). elim o as (λ _. Audit) [
  | None ↦ audit_end (is_end k (parts 32 r)) (is_last (next ∷ more)) c wrong k here
  | Some x ↦ audit_events (core_after wrong c x) (wrong_after wrong c x here) (k + 1) (here + 1) (next ∷ more)
]) is

pub starts_step : (workers drivers left : ℕ) (starts : List Start) (r : List ℕ) (ps : List (List ℕ)) (s : Start) → 0 < length ps → start_of drivers (parts 32 r) ≡ Some s
    → audit_starts workers drivers (suc left) starts (r ∷ ps) ≡ audit_starts workers drivers left (starts ++ s ∷ []) ps
starts_step workers drivers left starts r [] s some is = absurd (omega arith)
starts_step workers drivers left starts r (next ∷ more) s some is = ap (λ (o : Option Start). elim o as (λ _. Audit) [
  | None ↦ Unreadable (length starts + 2)
  | Some x ↦ audit_starts workers drivers left (starts ++ x ∷ []) (next ∷ more)
]) is

pub starts_end : (workers drivers left : ℕ) (starts : List Start) (r : List ℕ) (ps : List (List ℕ)) → 0 < length ps → start_of drivers (parts 32 r) ≡ None
    → audit_starts workers drivers (suc left) starts (r ∷ ps) ≡ Unreadable (length starts + 2)
starts_end workers drivers left starts r [] some is = absurd (omega arith)
starts_end workers drivers left starts r (next ∷ more) some is = ap (λ (o : Option Start). elim o as (λ _. Audit) [
  | None ↦ Unreadable (length starts + 2)
  | Some x ↦ audit_starts workers drivers left (starts ++ x ∷ []) (next ∷ more)
]) is

pub text_step : (r : List ℕ) (ps : List (List ℕ)) → 0 < length ps → audit_text (r ∷ ps) ≡ audit_head (head_of (parts 32 r)) ps
text_step r [] some = absurd (omega arith)
text_step r (next ∷ more) some = refl

more_rows : (r : List ℕ) (ps : List (List ℕ)) → 0 < length ps → is_last (r ∷ ps) ≡ false
more_rows r [] some = absurd (omega arith)
more_rows r (next ∷ more) some = refl

longer : (b : ℕ) (ps : List (List ℕ)) → is_last (onto_first b ps) ≡ false
longer b [] = refl
longer b (p ∷ []) = ne_eqb (length (b ∷ p)) 0 (λ is. omega (arith, is))
longer b (p ∷ q ∷ ps) = refl

pub last_is : (behind : List ℕ) → is_last (parts 10 behind) ≡ (length behind == 0)
last_is [] = refl
last_is (b ∷ bs) = go (eqb b 10) refl ∙ sym (ne_eqb (length (b ∷ bs)) 0 (λ is. omega (arith, is)))
  where
    go : (t : Bool) → eqb b 10 ≡ t → is_last (parts 10 (b ∷ bs)) ≡ false
    go true e = ap (λ (ps : List (List ℕ)). is_last ps) (slice_split-cons_yes (λ x. eqb x 10) b bs e) ∙ more_rows [] (parts 10 bs) (some_parts 10 bs)
    go false e = ap (λ (ps : List (List ℕ)). is_last ps) (slice_split-cons_no (λ x. eqb x 10) b bs e) ∙ longer b (parts 10 bs)

-- the same for a text and its next line
pub events_none : (c : Core) (wrong : Option ℕ) (k here : ℕ) (text r behind : List ℕ) (ends last : Bool) → parts 10 text ≡ r ∷ parts 10 behind → None ≡ event_of (parts 32 r)
    → ends ≡ is_end k (parts 32 r) → last ≡ (length behind == 0) → audit_end ends last c wrong k here ≡ audit_events c wrong k here (parts 10 text)
events_none c wrong k here text r behind ends last is none ends_is last_is_ =
    ap (λ (b : Bool). audit_end b last c wrong k here) ends_is
    ∙ ap (λ (b : Bool). audit_end (is_end k (parts 32 r)) b c wrong k here) (last_is_ ∙ sym (last_is behind))
    ∙ sym (events_end c wrong k here r (parts 10 behind) (some_parts 10 behind) (sym none))
    ∙ sym (ap (λ (ps : List (List ℕ)). audit_events c wrong k here ps) is)

pub events_some : (c : Core) (wrong : Option ℕ) (k here : ℕ) (text r behind : List ℕ) (e : Event) → parts 10 text ≡ r ∷ parts 10 behind → Some e ≡ event_of (parts 32 r)
    → audit_events (core_after wrong c e) (wrong_after wrong c e here) (k + 1) (here + 1) (parts 10 behind) ≡ audit_events c wrong k here (parts 10 text)
events_some c wrong k here text r behind e is some =
    sym (events_step c wrong k here r (parts 10 behind) e (some_parts 10 behind) (sym some))
    ∙ sym (ap (λ (ps : List (List ℕ)). audit_events c wrong k here ps) is)

pub start_none : (drivers : ℕ) (text r behind : List ℕ) → parts 10 text ≡ r ∷ parts 10 behind → None ≡ start_of drivers (parts 32 r) → IsNoStart drivers text
start_none drivers text r behind is none = λ workers left starts.
    ap (λ (ps : List (List ℕ)). audit_starts workers drivers (suc left) starts ps) is
    ∙ starts_end workers drivers left starts r (parts 10 behind) (some_parts 10 behind) (sym none)

pub start_alone : (drivers : ℕ) (text : List ℕ) → parts 10 text ≡ text ∷ [] → IsNoStart drivers text
start_alone drivers text is = λ workers left starts. ap (λ (ps : List (List ℕ)). audit_starts workers drivers (suc left) starts ps) is

pub start_next : (drivers : ℕ) (text r behind : List ℕ) (s : Start) → parts 10 text ≡ r ∷ parts 10 behind → Some s ≡ start_of drivers (parts 32 r) → IsNextStart drivers text s behind
start_next drivers text r behind s is some = λ workers left starts.
    ap (λ (ps : List (List ℕ)). audit_starts workers drivers (suc left) starts ps) is
    ∙ starts_step workers drivers left starts r (parts 10 behind) s (some_parts 10 behind) (sym some)

pub text_alone : (text : List ℕ) → parts 10 text ≡ text ∷ [] → Unreadable 1 ≡ audit_text (parts 10 text)
text_alone text is = sym (ap audit_text is)

pub text_next : (text r behind : List ℕ) (o : Option Head) → parts 10 text ≡ r ∷ parts 10 behind → o ≡ head_of (parts 32 r) → audit_head o (parts 10 behind) ≡ audit_text (parts 10 text)
text_next text r behind o is head =
    ap (λ (h : Option Head). audit_head h (parts 10 behind)) head
    ∙ sym (text_step r (parts 10 behind) (some_parts 10 behind)) ∙ sym (ap audit_text is)

pub all_push : (f : Start → Bool) (xs : List Start) (x : Start) → list_all f xs ≡ true → f x ≡ true → list_all f (xs ++ x ∷ []) ≡ true
all_push f [] x all one = and_true (f x) true one refl
all_push f (y ∷ ys) x all one = let h = both_and (f y) (list_all f ys) all in and_true (f y) (list_all f (ys ++ x ∷ [])) h.0 (all_push f ys x h.1 one)

pub below_all : (drivers : ℕ) (xs : List Start) → list_all (λ s. start_fits drivers s) xs ≡ true → AreBelow drivers xs
below_all drivers [] all p d required is = none_is (Desk d required) is
below_all drivers (x ∷ xs) all zero d required is =
    let h = both_and (start_fits drivers x) (list_all (λ s. start_fits drivers s) xs) all in
    let same : x ≡ Desk d required = some_is x (Desk d required) is in
    below_is d drivers (sym (ap (start_fits drivers) same) ∙ h.0)
below_all drivers (x ∷ xs) all (suc p) d required is =
    let h = both_and (start_fits drivers x) (list_all (λ s. start_fits drivers s) xs) all in
    below_all drivers xs h.1 p d required is

-- the next start, in a loop over their numbers
pub left_more : (workers drivers paths at : ℕ) (starts items : List Start) (text behind : List ℕ) (s : Start) → at < paths → items ≡ starts ++ s ∷ [] → IsNextStart drivers text s behind
    → audit_starts workers drivers (paths - (at + 1)) items (parts 10 behind) ≡ audit_starts workers drivers (paths - at) starts (parts 10 text)
left_more workers drivers paths at starts items text behind s lt is next =
    let step : suc (paths - (at + 1)) ≡ paths - at = omega arith in
    ap (λ (xs : List Start). audit_starts workers drivers (paths - (at + 1)) xs (parts 10 behind)) is
    ∙ sym (next workers (paths - (at + 1)) starts)
    ∙ ap (λ (n : ℕ). audit_starts workers drivers n starts (parts 10 text)) step

pub left_none : (workers drivers paths at : ℕ) (starts : List Start) (text : List ℕ) → at < paths → length starts ≡ at → IsNoStart drivers text
    → Unreadable (at + 2) ≡ audit_starts workers drivers (paths - at) starts (parts 10 text)
left_none workers drivers paths at starts text lt count none =
    let step : suc (paths - (at + 1)) ≡ paths - at = omega arith in
    ap (λ (n : ℕ). Unreadable (n + 2)) (sym count)
    ∙ sym (none workers (paths - (at + 1)) starts)
    ∙ ap (λ (n : ℕ). audit_starts workers drivers n starts (parts 10 text)) step

pub events_at : (c : Core) (wrong : Option ℕ) (k first : ℕ) (d : Core) (w : Option ℕ) (text r behind : List ℕ) (e : Event) → parts 10 text ≡ r ∷ parts 10 behind
    → Some e ≡ event_of (parts 32 r) → d ≡ core_after wrong c e → w ≡ wrong_after wrong c e (first + k)
    → audit_events d w (k + 1) (first + (k + 1)) (parts 10 behind) ≡ audit_events c wrong k (first + k) (parts 10 text)
events_at c wrong k first d w text r behind e is some core_is wrong_is =
    let here : first + (k + 1) ≡ (first + k) + 1 = omega arith in
    ap (λ (x : Core). audit_events x w (k + 1) (first + (k + 1)) (parts 10 behind)) core_is
    ∙ ap (λ (x : Option ℕ). audit_events (core_after wrong c e) x (k + 1) (first + (k + 1)) (parts 10 behind)) wrong_is
    ∙ ap (λ (n : ℕ). audit_events (core_after wrong c e) (wrong_after wrong c e (first + k)) (k + 1) n (parts 10 behind)) here
    ∙ events_some c wrong k (first + k) text r behind e is some

pub ok_by : {E : Type 0} (r : Result Audit E) (x y : Audit) → x ≡ y → IfOk r (λ a. a ≡ x) → IfOk r (λ a. a ≡ y)
ok_by (Ok a) x y same is = is ∙ same
ok_by (Err e) x y same is = is
