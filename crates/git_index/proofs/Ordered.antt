-- Entries whose checks passed one by one are in order as a whole, and the other way round.
use Rattle.std.proofs.Common.{◌≡◌, ℕ, ◌-◌, Bool, true, false, not, ◌&&◌, ◌||◌, List, [], ◌∷◌, ◌++◌, length, Option, Some, None, Result, Ok, refl, sym, ap, subst, ◌∙◌, append_assoc}
use Rattle.std.specs.Prelude.{slice_get}
use Rattle.std.specs.List.{list_all, list_any}
use Rattle.std.proofs.lemmas.Bool.{and_parts, and_from, not-true, not_from_false}
use Rattle.git_index.specs.declared.entry.Entry.{Entry}
use Rattle.git_index.specs.declared.fault.EntryKind.TheVariants.{MixedStage}
use Rattle.git_index.specs.declared.fault.IndexFault.{IndexFault}
use Rattle.git_index.specs.declared.fault.IndexFault.TheVariants.{Order, FolderClash, Entry as BadEntry}
use Rattle.git_index.specs.Spelling.{pairwise, is_below, is_alone, is_clash, is_no_clash}
use Rattle.git_index.specs.Reading.{want, last_of, is_none_or, placed_at}
use Rattle.git_index.proofs.PathOrder.{is_alone-through}
use Rattle.git_index.proofs.Stack.{pairwise-push, pairwise-front, list_all-push, list_all-both, last-splits, last-none}
use Rattle.git_index.proofs.Placed.{above_all}

-- entries in order, of which no path mixes stage 0 with another, and no folder clashes
pub record IsOrdered (es : List Entry) : Type 0 where
  pub rising : pairwise is_below es ≡ true
  pub alone : pairwise is_alone es ≡ true
  pub apart : pairwise is_no_clash es ≡ true

pub IsOrdered-nil : IsOrdered []
IsOrdered-nil = record { rising = refl; alone = refl; apart = refl }

-- a test that has passed
pub want_ok : {A : Type 0} (b : Bool) (f : IndexFault) (r : Result A IndexFault) (y : A) → want b f r ≡ Ok y → (b ≡ true) × (r ≡ Ok y)
want_ok true f r y e = (refl, e)
want_ok false f r y e = absurd cc

abbrev done : {A : Type 0} → A → Result A IndexFault
done x = Ok x

pub ok_is : {A : Type 0} (x y : A) → done x ≡ done y → x ≡ y
ok_is x y e = cc

none_all : {X : Type 0} (test : X → Bool) (xs : List X) → list_any test xs ≡ false → list_all (λ x. not (test x)) xs ≡ true
none_all test [] h = refl
none_all test (x ∷ xs) h = elim (test x) as (λ b. (b || list_any test xs) ≡ false → (not b && list_all (λ y. not (test y)) xs) ≡ true) [
  | true ↦ λ e. absurd cc
  | false ↦ λ e. none_all test xs e
] h

all_none : {X : Type 0} (test : X → Bool) (xs : List X) → list_all (λ x. not (test x)) xs ≡ true → list_any test xs ≡ false
all_none test [] h = refl
all_none test (x ∷ xs) h = elim (test x) as (λ b. (not b && list_all (λ y. not (test y)) xs) ≡ true → (b || list_any test xs) ≡ false) [
  | true ↦ λ e. absurd cc
  | false ↦ λ e. all_none test xs e
] h

alone_by : (earlier : List Entry) (e : Entry) (o : Option Entry) → slice_get earlier (length earlier - 1) ≡ o → IsOrdered earlier → is_none_or (λ b. is_below b e) o ≡ true → is_none_or (λ b. is_alone b e) o ≡ true → list_all (λ b. is_alone b e) earlier ≡ true
alone_by earlier e None g ordered above alone = ap (list_all (λ b. is_alone b e)) (last-none earlier g)
alone_by earlier e (Some t) g ordered above alone =
    let s = last-splits earlier t g in
    let p = and_parts (pairwise is_below s.0) (list_all (λ b. is_below b t) s.0) (sym (pairwise-push is_below s.0 t) ∙ ap (pairwise is_below) (sym s.1) ∙ ordered.rising) in
    let q = and_parts (pairwise is_alone s.0) (list_all (λ b. is_alone b t) s.0) (sym (pairwise-push is_alone s.0 t) ∙ ap (pairwise is_alone) (sym s.1) ∙ ordered.alone) in
    let front : list_all (λ b. is_alone b e) s.0 ≡ true = list_all-both (λ b. is_below b t) (λ b. is_alone b t) (λ b. is_alone b e) s.0 (λ b h k. is_alone-through b t e h above k) p.1 q.1 in
    ap (list_all (λ b. is_alone b e)) s.1 ∙ list_all-push (λ b. is_alone b e) s.0 t ∙ and_from _ _ front alone

pub ordered_more : (earlier : List Entry) (e made : Entry) → IsOrdered earlier → placed_at earlier e ≡ Ok made → IsOrdered (earlier ++ made ∷ [])
unfolding placed_at
ordered_more earlier e made ordered is =
    let k : ℕ = length earlier in
    let a = want_ok (is_none_or (λ b. is_below b e) (last_of earlier)) (Order k) (want (is_none_or (λ b. is_alone b e) (last_of earlier)) (BadEntry k MixedStage) (want (not (list_any (λ b. is_clash b e) earlier)) (FolderClash k) (Ok e))) made is in
    let b = want_ok (is_none_or (λ b. is_alone b e) (last_of earlier)) (BadEntry k MixedStage) (want (not (list_any (λ b. is_clash b e) earlier)) (FolderClash k) (Ok e)) made a.1 in
    let c = want_ok (not (list_any (λ b. is_clash b e) earlier)) (FolderClash k) (Ok e) made b.1 in
    let above = above_all earlier e ordered.rising a.0 in
    let alone = alone_by earlier e (last_of earlier) refl ordered a.0 b.0 in
    let apart : list_all (λ b. is_no_clash b e) earlier ≡ true = none_all (λ b. is_clash b e) earlier (not-true _ c.0) in
    subst (λ (x : Entry). IsOrdered (earlier ++ x ∷ [])) (ok_is e made c.1) (record {
      rising = pairwise-push is_below earlier e ∙ and_from _ _ ordered.rising above;
      alone = pairwise-push is_alone earlier e ∙ and_from _ _ ordered.alone alone;
      apart = pairwise-push is_no_clash earlier e ∙ and_from _ _ ordered.apart apart;
    })

pub placed_is : (earlier : List Entry) (e made : Entry) → placed_at earlier e ≡ Ok made → e ≡ made
unfolding placed_at
placed_is earlier e made is =
    let k : ℕ = length earlier in
    let r2 : Result Entry IndexFault = want (not (list_any (λ b. is_clash b e) earlier)) (FolderClash k) (Ok e) in
    let r1 : Result Entry IndexFault = want (is_none_or (λ b. is_alone b e) (last_of earlier)) (BadEntry k MixedStage) r2 in
    let a = want_ok (is_none_or (λ b. is_below b e) (last_of earlier)) (Order k) r1 made is in
    let b = want_ok (is_none_or (λ b. is_alone b e) (last_of earlier)) (BadEntry k MixedStage) r2 made a.1 in
    ok_is e made (want_ok (not (list_any (λ b. is_clash b e) earlier)) (FolderClash k) (Ok e) made b.1).1

-- what a test of each two entries says of one entry and those before it
of_earlier : (test : Entry → Entry → Bool) (earlier : List Entry) (e : Entry) (es : List Entry) → pairwise test (earlier ++ e ∷ es) ≡ true → list_all (λ b. test b e) earlier ≡ true
of_earlier test earlier e es h =
    let whole : pairwise test ((earlier ++ e ∷ []) ++ es) ≡ true = ap (pairwise test) (append_assoc earlier (e ∷ []) es) ∙ h in
    (and_parts (pairwise test earlier) (list_all (λ b. test b e) earlier) (sym (pairwise-push test earlier e) ∙ pairwise-front test (earlier ++ e ∷ []) es whole)).1

of_last : (test : Entry → Bool) (earlier : List Entry) (o : Option Entry) → slice_get earlier (length earlier - 1) ≡ o → list_all test earlier ≡ true → is_none_or test o ≡ true
of_last test earlier None g all = refl
of_last test earlier (Some t) g all =
    let s = last-splits earlier t g in (and_parts (list_all test s.0) (test t) (sym (list_all-push test s.0 t) ∙ ap (list_all test) (sym s.1) ∙ all)).1

pub placed_again : (earlier : List Entry) (e : Entry) (es : List Entry) → IsOrdered (earlier ++ e ∷ es) → placed_at earlier e ≡ Ok e
unfolding placed_at
placed_again earlier e es ordered =
    let above = of_last (λ b. is_below b e) earlier (last_of earlier) refl (of_earlier is_below earlier e es ordered.rising) in
    let alone = of_last (λ b. is_alone b e) earlier (last_of earlier) refl (of_earlier is_alone earlier e es ordered.alone) in
    let apart : not (list_any (λ b. is_clash b e) earlier) ≡ true = not_from_false _ (all_none (λ b. is_clash b e) earlier (of_earlier is_no_clash earlier e es ordered.apart)) in
    rw (above, alone, apart) refl
