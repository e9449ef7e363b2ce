-- A table's fields stay right.
use Rattle.std.proofs.Common.{◌≡◌, ℕ, zero, suc, ◌<◌, ◌≤◌, ◌^◌, Bool, true, false, List, [], ◌∷◌, ◌++◌, length}
use Rattle.std.proofs.Common.{length-append, map, Option, Some, None, refl, sym, ap, ◌∙◌, subst, arith, min}
use Rattle.std.specs.Prelude.{slice_get, slice_set, replicate}
use mathlib.Core.Logic.{dite}
use native.Mathlib.Decide.{ℕ_discrete, dec_lt}
use Rattle.std.proofs.lemmas.Option.{slice_get_within}
use Rattle.delay_table.specs.declared.place.Place.{Place}
use Rattle.delay_table.specs.declared.place.Place.TheVariants.{Idle, Delayed, Listed, Done}
use Rattle.delay_table.specs.Table.{contains, without, is_listed, is_pending, AreApart, IsRising}
use Rattle.delay_table.specs.Fields.{left_to_list, turns_of, IsKept}
use Rattle.delay_table.proofs.Places.{get_same, get_other, in_range, same_length, left_set}
use Rattle.delay_table.proofs.Turns.{contains_here, contains_else, contains_last, contains_before, apart_last}
use Rattle.delay_table.proofs.Turns.{without_it, without_others, without_apart, drop_more, drop_next, drop_at}

-- what a test says of each place, after one changed
at_places : (f : Option Place → Bool) (g : ℕ → Bool) (ps : List Place) (p : ℕ) (x : Place) → p < length ps
    → g p ≡ f (Some x) → ((q : ℕ) → (q ≡ p → ⊥) → g q ≡ f (slice_get ps q))
    → (q : ℕ) → g q ≡ f (slice_get (slice_set ps p x) q)
at_places f g ps p x lt here else q = dite (ℕ_discrete q p)
    (λ same. subst (λ (n : ℕ). g n ≡ f (slice_get (slice_set ps p x) n)) (sym same)
    (here ∙ ap f (sym (get_same ps p x lt))))
    (λ apart. else q apart ∙ ap f (sym (get_other ps p q x apart)))

not_below : (ps : List Place) (p q : ℕ) (x : Place) → is_pending (slice_get ps q) ≡ false → (q ≡ p → ⊥)
    → is_pending (slice_get (slice_set ps p x) q) ≡ false
not_below ps p q x none apart = ap is_pending (get_other ps p q x apart) ∙ none

listed_is : (x : Option Place) → is_listed x ≡ true → x ≡ Some Listed
listed_is None is = absurd (let e : true ≡ false = sym is in cc (e))
listed_is (Some Idle) is = absurd (let e : true ≡ false = sym is in cc (e))
listed_is (Some Delayed) is = absurd (let e : true ≡ false = sym is in cc (e))
listed_is (Some Listed) is = refl
listed_is (Some Done) is = absurd (let e : true ≡ false = sym is in cc (e))

module _ (names : List (List ℕ)) (ps : List Place) (order : List ℕ) (room delivered lowest : ℕ)
    (k : IsKept names ps order room delivered lowest) where
  -- a place that is pending isn't below the lowest
  above : (p : ℕ) → is_pending (slice_get ps p) ≡ true → (q : ℕ) → q < lowest → q ≡ p → ⊥
  above p pending q lt same = let e : true ≡ false = sym pending
      ∙ (ap (λ (n : ℕ). is_pending (slice_get ps n)) (sym same) ∙ k.below q lt) in cc (e)

  pub kept_delayed : (p low : ℕ) → low ≡ min lowest p → slice_get ps p ≡ Some Idle
      → IsKept names (slice_set ps p Delayed) order room delivered low
  kept_delayed p low' low_is at =
      let lt = in_range ps p Idle at in
      let left = left_set ps p Delayed Idle at in
      let fits = k.fits in
      record {
        rising = k.rising;
        few = k.few;
        same = same_length ps p Delayed ∙ k.same;
        fits = omega arith;
        within = k.within;
        low = (let l = k.low in let e = same_length ps p Delayed in omega (arith, low_is, l, e));
        below = λ q lower. not_below ps p q Delayed (k.below q (omega (arith, low_is, lower)))
            (omega (arith, low_is, lower));
        each = at_places is_listed (λ q. contains q (turns_of delivered order)) ps p Delayed lt
            (k.each p ∙ ap is_listed at) (λ q apart. k.each q);
        once = k.once;
      }

  pub kept_listed : (p : ℕ) → slice_get ps p ≡ Some Delayed
      → IsKept names (slice_set ps p Listed) (order ++ p ∷ []) room delivered lowest
  kept_listed p at =
      let lt = in_range ps p Delayed at in
      let left = left_set ps p Listed Delayed at in
      let fits = k.fits in
      let long = length-append order (p ∷ []) in
      let within = k.within in
      let turns : turns_of delivered (order ++ p ∷ []) ≡ turns_of delivered order ++ p ∷ [] =
      drop_more delivered order (p ∷ []) k.within in
      let none : contains p (turns_of delivered order) ≡ false = k.each p ∙ ap is_listed at in
      record {
        rising = k.rising;
        few = k.few;
        same = same_length ps p Listed ∙ k.same;
        fits = omega arith;
        within = omega arith;
        low = (let l = k.low in let e = same_length ps p Listed in omega arith);
        below = λ q low. not_below ps p q Listed (k.below q low) (above p (ap is_pending at) q low);
        each = at_places is_listed (λ q. contains q (turns_of delivered (order ++ p ∷ []))) ps p Listed lt
            (ap (contains p) turns ∙ contains_last p (turns_of delivered order))
            (λ q apart. ap (contains q) turns ∙ (contains_before q p (turns_of delivered order) apart ∙ k.each q));
        once = subst AreApart (sym turns) (apart_last p (turns_of delivered order) none k.once);
      }

  pub kept_delivered : (p : ℕ) (rest : List ℕ) → turns_of delivered order ≡ p ∷ rest → slice_get ps p ≡ Some Listed
      → delivered < length order → IsKept names (slice_set ps p Done) order room (suc delivered) lowest
  kept_delivered p rest turns at more =
      let lt = in_range ps p Listed at in
      let left = left_set ps p Done Listed at in
      let fits = k.fits in
      let after : turns_of (suc delivered) order ≡ rest = drop_next delivered order p rest turns in
      let once = subst AreApart turns k.once in
      record {
        rising = k.rising;
        few = k.few;
        same = same_length ps p Done ∙ k.same;
        fits = omega arith;
        within = omega arith;
        low = (let l = k.low in let e = same_length ps p Done in omega arith);
        below = λ q low. not_below ps p q Done (k.below q low) (above p (ap is_pending at) q low);
        each = at_places is_listed (λ q. contains q (turns_of (suc delivered) order)) ps p Done lt
            (ap (contains p) after ∙ once.0)
            (λ q apart. ap (contains q) after
            ∙ (sym (contains_else q p rest apart) ∙ (ap (contains q) (sym turns) ∙ k.each q)));
        once = subst AreApart (sym after) once.1;
      }

  -- no place from the lowest up to a higher one is pending
  pub kept_higher : (low : ℕ) → lowest ≤ low → low ≤ length ps
      → ((q : ℕ) → lowest ≤ q → q < low → is_pending (slice_get ps q) ≡ false)
      → IsKept names ps order room delivered low
  kept_higher low le within none = record {
    rising = k.rising;
    few = k.few;
    same = k.same;
    fits = k.fits;
    within = k.within;
    low = within;
    below = λ q lt. dite (dec_lt q lowest) (λ lower. k.below q lower) (λ not_lower. none q (omega arith) lt);
    each = k.each;
    once = k.once;
  }

  pub kept_rested : (order' : List ℕ) (x : Place) → slice_get ps lowest ≡ Some x → is_pending (Some x) ≡ true
      → turns_of delivered order' ≡ without lowest (turns_of delivered order) → delivered ≤ length order'
      → length order' ≤ length order
      → IsKept names (slice_set ps lowest Done) order' room delivered lowest
  kept_rested order' x at pending turns within shorter =
      let lt = in_range ps lowest x at in
      let left = left_set ps lowest Done x at in
      let fits = k.fits in
      record {
        rising = k.rising;
        few = k.few;
        same = same_length ps lowest Done ∙ k.same;
        fits = omega arith;
        within = within;
        low = (let l = k.low in let e = same_length ps lowest Done in omega arith);
        below = λ q low. not_below ps lowest q Done (k.below q low) (omega arith);
        each = at_places is_listed (λ q. contains q (turns_of delivered order')) ps lowest Done lt
            (ap (contains lowest) turns ∙ without_it lowest (turns_of delivered order))
            (λ q apart. ap (contains q) turns ∙ (without_others lowest q (turns_of delivered order) apart ∙ k.each q));
        once = subst AreApart (sym turns) (without_apart lowest (turns_of delivered order) k.once);
      }

  -- there is room for one more turn while a place is delayed
  pub some_left : (p : ℕ) → slice_get ps p ≡ Some Delayed → length order < room
  some_left p at = let fits = k.fits in let left = left_set ps p Listed Delayed at in omega arith

  -- the first turn is a listed place
  pub first_turn : (p : ℕ) → slice_get order delivered ≡ Some p → (rest : List ℕ)
      × (turns_of delivered order ≡ p ∷ rest) × (slice_get ps p ≡ Some Listed) × (delivered < length order)
  first_turn p at =
      let d = drop_at delivered order p at in
      let here : is_listed (slice_get ps p) ≡ true = sym (k.each p) ∙ (ap (contains p) d.1 ∙ contains_here p d.0) in
      (d.0, d.1, listed_is (slice_get ps p) here, slice_get_within order delivered p at)

-- ---- a new table

left_idle : (n : ℕ) → left_to_list (replicate n Idle) ≡ n
left_idle zero = refl
left_idle (suc n) = let e = left_idle n in omega arith

length_idle : (n : ℕ) → length (replicate n Idle) ≡ n
length_idle zero = refl
length_idle (suc n) = ap (λ k. suc k) (length_idle n)

none_listed : (n p : ℕ) → false ≡ is_listed (slice_get (replicate n Idle) p)
none_listed zero p = refl
none_listed (suc n) zero = refl
none_listed (suc n) (suc p) = none_listed n p

pub all_idle : (names : List (List ℕ)) → replicate (length names) Idle ≡ map (λ n. Idle) names
all_idle [] = refl
all_idle (n ∷ names) = ap (λ l. Idle ∷ l) (all_idle names)

pub kept_idle : (names : List (List ℕ)) (room : ℕ) → IsRising names → length names < 2 ^ 32 → length names ≤ room
    → IsKept names (replicate (length names) Idle) [] room 0 0
kept_idle names room rising few le =
    let left = left_idle (length names) in
    record {
      rising = rising;
      few = few;
      same = length_idle (length names);
      fits = omega (arith, left, le);
      within = omega arith;
      low = omega arith;
      below = λ q lt. absurd (omega (arith, lt));
      each = λ p. none_listed (length names) p;
      once = tt;
    }
