-- What each change leaves of the cursors.
use Rattle.std.proofs.Common.{◌≡◌, ◌==◌, ℕ, ◌+◌, ◌-◌, ◌<◌, ◌≤◌, min, max, ◌⊎◌, inl, inr, ⊎_elim, Bool, true, false}
use Rattle.std.proofs.Common.{cond, List, length, set, get_or, Some, refl, sym, ap, ◌∙◌, subst, eq-eqb, ne_eqb, arith}
use Rattle.std.specs.Prelude.{slice_get, ◌&&◌, ◌||◌, not, nat_lt, nat_le}
use Rattle.std.proofs.lemmas.Bool.{and_parts, and_from, lt-ltb, ltb-false, le-ltb, le-leb, lt-leb, not-true, or_cases}
use Rattle.std.proofs.lemmas.Bool.{or_parts, cases_lt}
use Rattle.std.proofs.lemmas.List.{length-set}
use Rattle.std.proofs.lemmas.Option.{slice_get_within, get_or_from_slice_get}
use Rattle.checkout_core.specs.declared.path.PathState.{PathState}
use Rattle.checkout_core.specs.declared.path.PathState.TheVariants as path
use Rattle.checkout_core.specs.declared.path.PathState.TheVariants.{Waiting, Held, Unasked, Closed}
use Rattle.checkout_core.specs.declared.path.Path.{Path}
use Rattle.checkout_core.specs.declared.path.Start.{Start}
use Rattle.checkout_core.specs.declared.path.Start.TheVariants.{Pool, Desk, Done}
use Rattle.checkout_core.specs.declared.driver.DriverState.{DriverState}
use Rattle.checkout_core.specs.declared.cursor.Cursor.{Cursor}
use Rattle.checkout_core.specs.declared.effect.Effect.{Effect}
use Rattle.checkout_core.specs.declared.effect.Effect.TheVariants.{Moves, Switches, Both}
use Rattle.checkout_core.specs.declared.effect.Sweep.TheVariants.{Keep}
use Rattle.checkout_core.specs.States.{Core, is_at, is_unasked, is_named, is_named_below, is_closed, none_of}
use Rattle.checkout_core.specs.States.{path_count, named_count, unclosed_count, with_state}
use Rattle.checkout_core.specs.Effects.{after, each, driver_after}
use Rattle.checkout_core.specs.Cursors.{is_named_at, is_noting_list, is_pending, settles, advances, Follows, AllFollow}
use Rattle.checkout_core.specs.Cursors.{IsSound, IsCursor, cursor_after, delayed_after, CanFollow, IsFollowable}
use Rattle.checkout_core.proofs.Basics.{some_is, same_or, same_number, item_within}
use Rattle.checkout_core.proofs.Counts.{num, set_cases, count_set, count_some, count_length, unclosed_set}
use Rattle.checkout_core.proofs.Follows.{lowest_turn}
use Rattle.checkout_core.proofs.Bridge.{both_set, turn_set, moves_after, map_none, kept_paths, turned_paths}

pending_named : (a : Bool) (s : PathState) → (a && is_pending s) ≡ false → num (a && is_named s) ≡ 0
pending_named false s e = refl
pending_named true (path.Named t) e = absurd (cc (e))
pending_named true path.Delayed e = refl
pending_named true Unasked e = refl
pending_named true (path.Heard h) e = refl
pending_named true (Waiting raw) e = refl
pending_named true (Held a raw) e = refl
pending_named true (Closed v) e = refl

pending_at : (t : ℕ) (a : Bool) (s : PathState) → (a && is_pending s) ≡ false → num (a && is_named_at t s) ≡ 0
pending_at t false s e = refl
pending_at t true (path.Named u) e = absurd (cc (e))
pending_at t true path.Delayed e = refl
pending_at t true Unasked e = refl
pending_at t true (path.Heard h) e = refl
pending_at t true (Waiting raw) e = refl
pending_at t true (Held a raw) e = refl
pending_at t true (Closed v) e = refl

same_count : (a b c e : ℕ) → a + b ≡ c + e → b ≡ 0 → e ≡ 0 → a ≡ c
same_count a b c e h i j = omega arith

-- a path changes that isn't in one of the driver's lists, before or after
pub follows_other : (paths : List Path) (n m : Bool) (e : ℕ) (k : Cursor) (p : ℕ) (r : Path) (s : PathState)
    → slice_get paths p ≡ Some r → (is_at e r.start && is_pending r.state) ≡ false
    → (is_at e r.start && is_pending s) ≡ false → (is_at e r.start && is_unasked s) ≡ false → (m ≡ true → n ≡ true)
    → Follows paths n e k → Follows (set paths p (with_state r s)) m e k
follows_other paths n m e k p r s there was now un0 noting_list f = record {
  unasked = λ q w i at un. ⊎_elim
      (λ (h : (q ≡ p) × (with_state r s ≡ w)).
      let z : (is_at e w.start && is_unasked w.state) ≡ false =
      subst (λ (y : Path). (is_at e y.start && is_unasked y.state) ≡ false) h.1 un0 in
      let y = and_from _ _ at un in absurd (cc (z, y)))
      (λ (h : (q ≡ p → ⊥) × (slice_get paths q ≡ Some w)). f.unasked q w h.1 at un)
      (set_cases paths p q r (with_state r s) w there i);
  unasked_fits = let l = length-set paths p (with_state r s) in let g = f.unasked_fits in omega arith;
  pending = λ q w i at pe. ⊎_elim
      (λ (h : (q ≡ p) × (with_state r s ≡ w)).
      let z : (is_at e w.start && is_pending w.state) ≡ false =
      subst (λ (y : Path). (is_at e y.start && is_pending y.state) ≡ false) h.1 now in
      let y = and_from _ _ at pe in absurd (cc (z, y)))
      (λ (h : (q ≡ p → ⊥) × (slice_get paths q ≡ Some w)). f.pending q w h.1 at pe)
      (set_cases paths p q r (with_state r s) w there i);
  end_fits = let l = length-set paths p (with_state r s) in let g = f.end_fits in omega arith;
  named = same_count (path_count e is_named (set paths p (with_state r s)))
      (num (is_at e r.start && is_named r.state)) (path_count e is_named paths) (num (is_at e r.start && is_named s))
      (count_set e is_named paths p r (with_state r s) there) (pending_named (is_at e r.start) r.state was)
      (pending_named (is_at e r.start) s now) ∙ f.named;
  turns = λ t. same_count (path_count e (is_named_at t) (set paths p (with_state r s)))
      (num (is_at e r.start && is_named_at t r.state)) (path_count e (is_named_at t) paths)
      (num (is_at e r.start && is_named_at t s))
      (count_set e (is_named_at t) paths p r (with_state r s) there) (pending_at t (is_at e r.start) r.state was)
      (pending_at t (is_at e r.start) s now) ∙ f.turns t;
  turn_fits = let l = length-set paths p (with_state r s) in let g = f.turn_fits in omega arith;
  begins = λ h. f.begins (noting_list h);
}

-- how many are named at the turn u, if n are named from the turn a on
abbrev slot : ℕ → ℕ → ℕ → ℕ
slot a n u = num (nat_le a u && nat_lt u (a + n))

slot_in : (a n u : ℕ) → a ≤ u → u < a + n → slot a n u ≡ 1
slot_in a n u h i = ap num (and_from _ _ (le-leb a u h) (lt-ltb u (a + n) i))

slot_below : (a n u : ℕ) → u < a → slot a n u ≡ 0
slot_below a n u h = ap (λ b. num (b && nat_lt u (a + n))) (lt-leb a u h)

slot_above : (a n u : ℕ) → a + n ≤ u → slot a n u ≡ 0
slot_above a n u h = ap (λ b. num (nat_le a u && b)) (le-ltb u (a + n) h) ∙ gone (nat_le a u)
  where
    gone : (b : Bool) → num (b && false) ≡ 0
    gone true = refl
    gone false = refl

slot_first : (a n u : ℕ) → (a ≡ 0) ⊎ (n ≡ 0) → slot a n u ≡ slot 0 n u
slot_first a n u (inl e) = ap (λ z. slot z n u) e
slot_first a n u (inr e) = none a ∙ sym (none 0)
  where
    none : (b : ℕ) → slot b n u ≡ 0
    none b = ⊎_elim (λ (h : u < b). slot_below b n u h) (λ (h : b ≤ u). slot_above b n u (omega arith)) (cases_lt u b)

is_num : (u t : ℕ) → u ≡ t → num (u == t) ≡ 1
is_num u t e = ap num (eq-eqb u t e)

not_num : (u t : ℕ) → (u ≡ t → ⊥) → num (u == t) ≡ 0
not_num u t e = ap num (ne_eqb u t e)

slot_more : (n u : ℕ) → slot 0 n u + num (u == n) ≡ slot 0 (n + 1) u
slot_more n u = ⊎_elim
    (λ (h : u < n). let a = slot_in 0 n u (omega arith) (omega arith) in let b =
    not_num u n (λ e. absurd (omega arith)) in let c = slot_in 0 (n + 1) u (omega arith) (omega arith) in
    omega (arith, a, b, c))
    (λ (h : n ≤ u). ⊎_elim
    (λ (e : (u ≡ n) × ((u == n) ≡ true)). let e0 = e.0 in let a = slot_above 0 n u (omega arith) in let b =
    is_num u n e.0 in let c = slot_in 0 (n + 1) u (omega arith) (omega arith) in omega (arith, a, b, c))
    (λ (e : (u == n) ≡ false). let a = slot_above 0 n u (omega arith) in let b : num (u == n) ≡ 0 = ap num e in
    let other : (u ≡ n → ⊥) = (λ i. let z = eq-eqb u n i in cc (z, e)) in let c =
    slot_above 0 (n + 1) u (let l = cases_lt n u in ⊎_elim (λ (x : n < u). omega arith)
    (λ (x : u ≤ n). absurd (other (omega arith))) l) in omega (arith, a, b, c))
    (same_or u n))
    (cases_lt u n)

slot_less : (a n u : ℕ) → 1 ≤ n → slot (a + 1) (n - 1) u + num (u == a) ≡ slot a n u
slot_less a n u some = ⊎_elim
    (λ (h : u < a). let x = slot_below (a + 1) (n - 1) u (omega arith) in let b =
    not_num u a (λ e. absurd (omega arith)) in let c = slot_below a n u h in omega (arith, x, b, c))
    (λ (h : a ≤ u). ⊎_elim
    (λ (e : (u ≡ a) × ((u == a) ≡ true)). let e0 = e.0 in let x = slot_below (a + 1) (n - 1) u (omega arith) in
    let b = is_num u a e.0 in let c = slot_in a n u (omega arith) (omega arith) in omega (arith, x, b, c))
    (λ (e : (u == a) ≡ false).
    let other : (u ≡ a → ⊥) = (λ i. let z = eq-eqb u a i in cc (z, e)) in
    let b : num (u == a) ≡ 0 = ap num e in
    let more : a < u = ⊎_elim (λ (x : a < u). x) (λ (x : u ≤ a). absurd (other (omega arith))) (cases_lt a u) in
    ⊎_elim
    (λ (l : u < a + n). let x = slot_in (a + 1) (n - 1) u (omega arith) (omega arith) in let c =
    slot_in a n u h l in omega (arith, x, b, c))
    (λ (l : a + n ≤ u). let x = slot_above (a + 1) (n - 1) u (omega arith) in let c = slot_above a n u l in
    omega (arith, x, b, c))
    (cases_lt u (a + n)))
    (same_or u a))
    (cases_lt u a)

-- the path of the driver itself advances
module _ (paths : List Path) (d : ℕ) (k : Cursor) (p : ℕ) (r : Path) (there : slice_get paths p ≡ Some r)
    (at : is_at d r.start ≡ true) where
  not_unasked : (s : PathState) → is_unasked s ≡ false → (q : ℕ) (w : Path)
      → slice_get (set paths p (with_state r s)) q ≡ Some w → is_unasked w.state ≡ true → slice_get paths q ≡ Some w
  not_unasked s off q w i un = ⊎_elim
      (λ (h : (q ≡ p) × (with_state r s ≡ w)). let z : is_unasked w.state ≡ false =
      subst (λ (y : Path). is_unasked y.state ≡ false) h.1 off in absurd (cc (z, un)))
      (λ (h : (q ≡ p → ⊥) × (slice_get paths q ≡ Some w)). h.1)
      (set_cases paths p q r (with_state r s) w there i)

  fits : (s : PathState) (n : ℕ) → n ≤ length paths → n ≤ length (set paths p (with_state r s))
  fits s n h = let l = length-set paths p (with_state r s) in omega arith

  counted : (f : PathState → Bool) (s : PathState) → path_count d f (set paths p (with_state r s)) + num
      (f r.state) ≡ path_count d f paths + num (f s)
  counted f s = subst (λ (b : Bool). path_count d f (set paths p (with_state r s)) + num
      (b && f r.state) ≡ path_count d f paths + num (b && f s)) at (count_set d f paths p r (with_state r s) there)

  counted_at : (f : PathState → Bool) (a s : PathState) → r.state ≡ a
      → path_count d f (set paths p (with_state r s)) + num (f a) ≡ path_count d f paths + num (f s)
  counted_at f a s is = subst (λ (z : PathState). path_count d f (set paths p (with_state r s)) + num
      (f z) ≡ path_count d f paths + num (f s)) is (counted f s)

  less : p < length paths
  less = slice_get_within paths p r there

  -- the range takes in the path
  pub delays : (n m : Bool) → r.state ≡ Unasked → (m ≡ true → n ≡ true) → Follows paths n d k
      → Follows (set paths p (with_state r path.Delayed)) m d (delayed_after k p)
  delays n m is noting_list f = go (nat_lt k.first k.end) refl
    where
      plain : (j : Cursor) → j.unasked ≡ k.unasked → j.named ≡ k.named → j.turn ≡ k.turn → j.end ≤ length paths
          → ((q : ℕ) → (q ≡ p) ⊎ ((k.first ≤ q) × (q < k.end)) → (j.first ≤ q) × (q < j.end))
          → Follows (set paths p (with_state r path.Delayed)) m d j
      plain j ua na tu en range = record {
        unasked = λ q w i a un. let z = f.unasked q w (not_unasked path.Delayed refl q w i un) a un in
            omega (arith, ua);
        unasked_fits = fits path.Delayed j.unasked (let g = f.unasked_fits in omega (arith, ua));
        pending = λ q w i a pe. range q (⊎_elim
            (λ (h : (q ≡ p) × (with_state r path.Delayed ≡ w)). inl h.0)
            (λ (h : (q ≡ p → ⊥) × (slice_get paths q ≡ Some w)). inr (f.pending q w h.1 a pe))
            (set_cases paths p q r (with_state r path.Delayed) w there i));
        end_fits = fits path.Delayed j.end en;
        named = same_count _ 0 _ 0 (counted_at is_named Unasked path.Delayed is) refl refl ∙ (f.named ∙ sym na);
        turns = λ t. same_count _ 0 _ 0 (counted_at (is_named_at t) Unasked path.Delayed is) refl refl
            ∙ (f.turns t ∙ (ap (λ z. num (nat_le z t && nat_lt t (z + k.named))) (sym tu)
            ∙ ap (λ z. num (nat_le j.turn t && nat_lt t (j.turn + z))) (sym na)));
        turn_fits = fits path.Delayed (j.turn + j.named) (let g = f.turn_fits in omega (arith, tu, na));
        begins = λ h. tu ∙ f.begins (noting_list h);
      }

      go : (b : Bool) → nat_lt k.first k.end ≡ b → Follows (set paths p (with_state r path.Delayed)) m d
          (cond b (record {
            unasked = k.unasked;
            first = min k.first p;
            end = max k.end (p + 1);
            named = k.named;
            turn = k.turn;
          }) (record { unasked = k.unasked; first = p; end = p + 1; named = k.named; turn = k.turn }))
      go true l = plain (record {
        unasked = k.unasked;
        first = min k.first p;
        end = max k.end (p + 1);
        named =
            k.named;
        turn = k.turn;
      }) refl refl refl
          (let g = f.end_fits in let h = less in omega arith)
          (λ q h. ⊎_elim (λ (e : q ≡ p). (omega arith, omega arith))
          (λ (e : (k.first ≤ q) × (q < k.end)). (let x = e.0 in omega arith, let x = e.1 in omega arith)) h)
      go false l = plain (record { unasked = k.unasked; first = p; end = p + 1; named = k.named; turn = k.turn })
          refl refl refl
          (let h = less in omega arith)
          (λ q h. ⊎_elim (λ (e : q ≡ p). (omega arith, omega arith))
          (λ (e : (k.first ≤ q) × (q < k.end)). absurd (let x = e.0 in let y = e.1 in let z =
          ltb-false k.first k.end l in omega arith)) h)

  -- one more is named, as the last turn
  pub names : (n m : Bool) (t : ℕ) → r.state ≡ path.Delayed → t ≡ k.named → (n ≡ true) ⊎ (k.named ≡ 0)
      → Follows paths n d k → Follows (set paths p (with_state r (path.Named t))) m d
      (record { unasked = k.unasked; first = k.first; end = k.end; named = k.named + 1; turn = 0 })
  names n m t is turn old f = record {
    unasked = λ q w i a un. f.unasked q w (not_unasked (path.Named t) refl q w i un) a un;
    unasked_fits = fits (path.Named t) k.unasked f.unasked_fits;
    pending = λ q w i a pe. ⊎_elim
        (λ (h : (q ≡ p) × (with_state r (path.Named t) ≡ w)).
        subst (λ (z : ℕ). (k.first ≤ z) × (z < k.end)) (sym h.0) (f.pending p r there at (ap is_pending is)))
        (λ (h : (q ≡ p → ⊥) × (slice_get paths q ≡ Some w)). f.pending q w h.1 a pe)
        (set_cases paths p q r (with_state r (path.Named t)) w there i);
    end_fits = fits (path.Named t) k.end f.end_fits;
    named = one (path_count d is_named (set paths p (with_state r (path.Named t))))
        (path_count d is_named paths) k.named (counted_at is_named path.Delayed (path.Named t) is) f.named;
    turns = λ u. at_turn u (path_count d (is_named_at u) (set paths p (with_state r (path.Named t))))
        (path_count d (is_named_at u) paths) (counted_at (is_named_at u) path.Delayed (path.Named t) is) (f.turns u);
    turn_fits = fits (path.Named t) (0 + (k.named + 1)) (let l =
        count_length d is_named paths p r there (ap is_named is) in let g = f.named in omega arith);
    begins = λ h. refl;
  }
    where
      one : (a b c : ℕ) → a + 0 ≡ b + 1 → b ≡ c → a ≡ c + 1
      one a b c h i = omega arith

      turn0 : (k.turn ≡ 0) ⊎ (k.named ≡ 0)
      turn0 = ⊎_elim (λ (h : n ≡ true). inl (f.begins h)) (λ (h : k.named ≡ 0). inr h) old

      at_turn : (u a b : ℕ) → a + 0 ≡ b + num (u == t) → b ≡ slot k.turn k.named u → a ≡ slot 0 (k.named + 1) u
      at_turn u a b h i =
          let x : num (u == t) ≡ num (u == k.named) = ap (λ z. num (u == z)) turn in
          let y = slot_first k.turn k.named u turn0 in
          let z = slot_more k.named u in
          omega (arith, h, i, x, y, z)

  -- the path of the lowest turn is asked for again
  pub redoes : (n m : Bool) (t : ℕ) (s : PathState) → r.state ≡ path.Named t → is_pending s ≡ false
      → is_unasked s ≡ false → t ≡ k.turn → 1 ≤ k.named → m ≡ false → Follows paths n d k
      → Follows (set paths p (with_state r s)) m d (record {
        unasked = k.unasked;
        first = k.first;
        end = k.end;
        named = k.named - 1;
        turn = k.turn + 1;
      })
  redoes n m t s is now un0 turn some off f = record {
    unasked = λ q w i a un. f.unasked q w (not_unasked s un0 q w i un) a un;
    unasked_fits = fits s k.unasked f.unasked_fits;
    pending = λ q w i a pe. ⊎_elim
        (λ (h : (q ≡ p) × (with_state r s ≡ w)). let z : is_pending w.state ≡ false =
        subst (λ (y : Path). is_pending y.state ≡ false) h.1 now in absurd (cc (z, pe)))
        (λ (h : (q ≡ p → ⊥) × (slice_get paths q ≡ Some w)). f.pending q w h.1 a pe)
        (set_cases paths p q r (with_state r s) w there i);
    end_fits = fits s k.end f.end_fits;
    named = one (path_count d is_named (set paths p (with_state r s))) (path_count d is_named paths)
        (num (is_named s)) (counted_at is_named (path.Named t) s is) (pending_named true s now) f.named;
    turns = λ u. at_turn u (path_count d (is_named_at u) (set paths p (with_state r s)))
        (path_count d (is_named_at u) paths) (num (is_named_at u s))
        (counted_at (is_named_at u) (path.Named t) s is) (pending_at u true s now) (f.turns u);
    turn_fits = fits s ((k.turn + 1) + (k.named - 1)) (let g = f.turn_fits in omega arith);
    begins = λ h. absurd (cc (h, off));
  }
    where
      one : (a b c : ℕ) → a + 1 ≡ b + c → c ≡ 0 → b ≡ k.named → a ≡ k.named - 1
      one a b c h i j = omega arith

      at_turn : (u a b c : ℕ) → a + num (u == t) ≡ b + c → c ≡ 0 → b ≡ slot k.turn k.named u
          → a ≡ slot (k.turn + 1) (k.named - 1) u
      at_turn u a b c h i j =
          let x : num (u == t) ≡ num (u == k.turn) = ap (λ z. num (u == z)) turn in
          let z = slot_less k.turn k.named u some in
          omega (arith, h, i, j, x, z)

-- the path of the driver advances, in each of the four ways
pub advance_cases : (paths : List Path) (d : ℕ) (k : Cursor) (p : ℕ) (r : Path) (n m : Bool) (a s : PathState)
    → slice_get paths p ≡ Some r → is_at d r.start ≡ true → r.state ≡ a → Follows paths n d k
    → advances (named_count d paths) n m (λ u. none_of d (is_named_below u) paths) a s ≡ true
    → Follows (set paths p (with_state r s)) m d (cursor_after k p a s)
advance_cases paths d k p r n m Unasked path.Delayed there at is f ok =
    delays paths d k p r there at n m is (noting_list m n ok) f
  where
    noting_list : (m n : Bool) → (not m || n) ≡ true → m ≡ true → n ≡ true
    noting_list true n e i = e
    noting_list false n e i = absurd (cc (i))
advance_cases paths d k p r n m Unasked (path.Heard h) there at is f ok =
    follows_other paths n m d k p r (path.Heard h) there (ap (λ b. b && is_pending r.state) at ∙ ap is_pending is)
    (ap (λ b. b && false) at) (ap (λ b. b && false) at) (noting_list m n ok) f
  where
    noting_list : (m n : Bool) → (not m || n) ≡ true → m ≡ true → n ≡ true
    noting_list true n e i = e
    noting_list false n e i = absurd (cc (i))
advance_cases paths d k p r n m path.Delayed (path.Named t) there at is f ok =
    let parts = and_parts _ _ ok in
    names paths d k p r there at n m t is (same_number t (named_count d paths) parts.0 ∙ f.named)
    (⊎_elim (λ (h : n ≡ true). inl h) (λ (h : (named_count d paths == 0) ≡ true).
    inr (sym f.named ∙ same_number (named_count d paths) 0 h)) (or_cases _ _ parts.1)) f
advance_cases paths d k p r n m (path.Named t) (path.Heard h) there at is f ok =
    let parts = and_parts _ _ ok in
    redoes paths d k p r there at n m t (path.Heard h) is refl refl
    (same_number t k.turn (lowest_turn paths n d k p t r f there at is ∙ parts.0))
    (let z = count_some d is_named paths p r there at (ap is_named is) in let g = f.named in omega arith)
    (not-true m parts.1) f
advance_cases paths d k p r n m a s there at is f ok = absurd (cc (ok))

is_at_other : (e d : ℕ) (s : Start) → is_at d s ≡ true → (e ≡ d → ⊥) → is_at e s ≡ false
is_at_other e d (Desk f b) at n = ne_eqb e f (λ i. n (i ∙ sym (same_number d f at)))
is_at_other e d Pool at n = refl
is_at_other e d (Done v) at n = refl

and_off : (a b : Bool) → a ≡ false → (a && b) ≡ false
and_off a b e = ap (λ z. z && b) e

pub advance_all : (paths : List Path) (drivers : List DriverState) (cursors : List Cursor) (p d : ℕ) (r : Path)
    (s : PathState) (x t : DriverState) (k : Cursor) → AllFollow paths drivers cursors → slice_get paths p ≡ Some r
    → is_at d r.start ≡ true → slice_get drivers d ≡ Some x → Follows (set paths p (with_state r s))
    (is_noting_list t) d k → AllFollow (set paths p (with_state r s)) (set drivers d t) (set cursors d k)
advance_all paths drivers cursors p d r s x t k all there at seat new = record {
  same_length = length-set cursors d k ∙ (all.same_length ∙ sym (length-set drivers d t));
  follow = λ e y j i g. ⊎_elim
      (λ (h : (e ≡ d) × (t ≡ y)). ⊎_elim
      (λ (f : (e ≡ d) × (k ≡ j)). subst (λ (z : ℕ). Follows (set paths p (with_state r s)) (is_noting_list y) z j)
      (sym h.0) (subst (λ (z : DriverState). Follows (set paths p (with_state r s)) (is_noting_list z) d j) h.1
      (subst (λ (z : Cursor). Follows (set paths p (with_state r s)) (is_noting_list t) d z) f.1 new)))
      (λ (f : (e ≡ d → ⊥) × (slice_get cursors e ≡ Some j)). absurd (f.0 h.0))
      (set_cases cursors d e old.0 k j old.1 g))
      (λ (h : (e ≡ d → ⊥) × (slice_get drivers e ≡ Some y)). ⊎_elim
      (λ (f : (e ≡ d) × (k ≡ j)). absurd (h.0 f.0))
      (λ (f : (e ≡ d → ⊥) × (slice_get cursors e ≡ Some j)).
      let off : is_at e r.start ≡ false = is_at_other e d r.start at h.0 in
      follows_other paths (is_noting_list y) (is_noting_list y) e j p r s there (and_off _ _ off) (and_off _ _ off)
      (and_off _ _ off) (λ z. z) (all.follow e y j h.1 f.1))
      (set_cases cursors d e old.0 k j old.1 g))
      (set_cases drivers d e x t y seat i);
}
  where
    old : (v : Cursor) × (slice_get cursors d ≡ Some v)
    old = item_within cursors d (let l = slice_get_within drivers d x seat in let s = all.same_length in omega arith)

open_counts : (a b u : ℕ) → a + 1 ≡ b + 1 → b ≡ u → a ≡ u
open_counts a b u h i = omega arith

advance_open : (n : ℕ) (o m : Bool) (f : ℕ → Bool) (a s : PathState) → advances n o m f a s ≡ true
    → (is_closed a ≡ false) × (is_closed s ≡ false)
advance_open n o m f Unasked path.Delayed e = (refl, refl)
advance_open n o m f Unasked (path.Heard h) e = (refl, refl)
advance_open n o m f path.Delayed (path.Named t) e = (refl, refl)
advance_open n o m f (path.Named t) (path.Heard h) e = (refl, refl)
advance_open n o m f a s e = absurd (cc (e))

unclosed_stays : (paths : List Path) (p : ℕ) (r : Path) (s : PathState) (u : ℕ) → slice_get paths p ≡ Some r
    → is_closed r.state ≡ false → is_closed s ≡ false → unclosed_count paths ≡ u
    → unclosed_count (set paths p (with_state r s)) ≡ u
unclosed_stays paths p r s u there was now e =
    open_counts (unclosed_count (set paths p (with_state r s))) (unclosed_count paths) u
    (ap (λ b. unclosed_count (set paths p (with_state r s)) + cond b 0 1) (sym was)
    ∙ (unclosed_set paths p r (with_state r s) there ∙ ap (λ b. unclosed_count paths + cond b 0 1) now)) e

pub advance_sound : (workers : ℕ) (paths : List Path) (drivers : List DriverState) (cursors : List Cursor)
    (unclosed p d : ℕ) (s : PathState) (t : DriverState) (k : Cursor) (was : Path)
    → IsSound workers paths drivers cursors unclosed → IsCursor
    (record { workers = workers; drivers = drivers; paths = paths }) d k
    → IsFollowable (record { workers = workers; drivers = drivers; paths = paths }) (Both p s d t Keep)
    → was ≡ get_or paths p was → IsSound workers (set paths p (with_state was s)) (set drivers d t)
    (set cursors d (cursor_after k p was.state s)) unclosed
advance_sound workers paths drivers cursors unclosed p d s t k was sound cur fol is =
    let r = fol.0 in
    let same : r ≡ was = sym (get_or_from_slice_get paths p r was fol.2) ∙ sym is in
    let seat : cur.0 ≡ fol.1 = some_is cur.0 fol.1 (sym cur.1 ∙ fol.4) in
    let f : Follows paths (is_noting_list fol.1) d k = subst (λ (z : DriverState).
    Follows paths (is_noting_list z) d k) seat cur.2 in
    let open0 = advance_open (named_count d paths) (is_noting_list fol.1) (is_noting_list t)
    (λ u. none_of d (is_named_below u) paths) r.state s fol.6 in
    subst (λ (z : Path). IsSound workers (set paths p (with_state z s)) (set drivers d t)
    (set cursors d (cursor_after k p z.state s)) unclosed) same
    (record {
      few_workers = sound.few_workers;
      few_drivers = let l = length-set drivers d t in let g = sound.few_drivers in omega arith;
      few_paths = let l = length-set paths p (with_state r s) in let g = sound.few_paths in omega arith;
      cursors_follow = advance_all paths drivers cursors p d r s fol.1 t
          (cursor_after k p r.state s) sound.cursors_follow fol.2 fol.3 fol.4
          (advance_cases paths d k p r (is_noting_list fol.1) (is_noting_list t) r.state s fol.2 fol.3 refl f fol.6);
      unclosed_is = unclosed_stays paths p r s unclosed fol.2 open0.0 open0.1 sound.unclosed_is;
    })

pub advance_fits : (workers : ℕ) (paths : List Path) (drivers : List DriverState) (cursors : List Cursor)
    (unclosed p d : ℕ) (s : PathState) (t : DriverState) (k : Cursor) (was : Path)
    → IsSound workers paths drivers cursors unclosed → IsCursor
    (record { workers = workers; drivers = drivers; paths = paths }) d k
    → IsFollowable (record { workers = workers; drivers = drivers; paths = paths }) (Both p s d t Keep)
    → was ≡ get_or paths p was → CanFollow k p was.state s
advance_fits workers paths drivers cursors unclosed p d s t k was sound cur fol is =
    let same : fol.0 ≡ was = sym (get_or_from_slice_get paths p fol.0 was fol.2) ∙ sym is in
    subst (λ (z : Path). CanFollow k p z.state s) same (go fol.0.state s refl)
  where
    r : Path
    r = fol.0

    f : Follows paths (is_noting_list cur.0) d k
    f = cur.2

    go : (a s : PathState) → r.state ≡ a → CanFollow k p a s
    go Unasked path.Delayed i = let l = slice_get_within paths p r fol.2 in let g = sound.few_paths in omega arith
    go path.Delayed (path.Named u) i = let l = count_length d is_named paths p r fol.2 (ap is_named i) in let g =
        sound.few_paths in let h = f.named in omega arith
    go (path.Named u) (path.Heard h) i =
        let z = count_some d is_named paths p r fol.2 fol.3 (ap is_named i) in let y = f.named in let x =
        f.turn_fits in let g = sound.few_paths in
        (omega arith, omega arith)
    go Unasked Unasked i = tt
    go Unasked (path.Named u) i = tt
    go Unasked (path.Heard h) i = tt
    go Unasked (Waiting raw) i = tt
    go Unasked (Held b raw) i = tt
    go Unasked (Closed v) i = tt
    go path.Delayed path.Delayed i = tt
    go path.Delayed Unasked i = tt
    go path.Delayed (path.Heard h) i = tt
    go path.Delayed (Waiting raw) i = tt
    go path.Delayed (Held b raw) i = tt
    go path.Delayed (Closed v) i = tt
    go (path.Named u) path.Delayed i = tt
    go (path.Named u) Unasked i = tt
    go (path.Named u) (path.Named h) i = tt
    go (path.Named u) (Waiting raw) i = tt
    go (path.Named u) (Held b raw) i = tt
    go (path.Named u) (Closed v) i = tt
    go (path.Heard u) s i = tt
    go (Waiting u) s i = tt
    go (Held b u) s i = tt
    go (Closed u) s i = tt

pub path_within : (workers : ℕ) (paths : List Path) (drivers : List DriverState) (p d : ℕ) (s : PathState)
    (t : DriverState) → IsFollowable (record { workers = workers; drivers = drivers; paths = paths })
    (Both p s d t Keep) → p < length paths
path_within workers paths drivers p d s t fol = slice_get_within paths p fol.0 fol.2

pub driver_within : (workers : ℕ) (paths : List Path) (drivers : List DriverState) (p d : ℕ) (s : PathState)
    (t : DriverState) → IsFollowable (record { workers = workers; drivers = drivers; paths = paths })
    (Both p s d t Keep) → d < length drivers
driver_within workers paths drivers p d s t fol = slice_get_within drivers d fol.1 fol.4

pub advance_is : (workers : ℕ) (paths : List Path) (drivers : List DriverState) (p d : ℕ) (s : PathState)
    (t : DriverState) (was : Path) → IsFollowable (record { workers = workers; drivers = drivers; paths = paths })
    (Both p s d t Keep) → was ≡ get_or paths p was → record {
      workers = workers;
      drivers = set drivers d t;
      paths =
          set paths p (with_state was s);
    } ≡ after (record { workers = workers; drivers = drivers; paths = paths })
    (Both p s d t Keep)
advance_is workers paths drivers p d s t was fol is =
    let same : fol.0 ≡ was = sym (get_or_from_slice_get paths p fol.0 was fol.2) ∙ sym is in
    subst (λ (z : Path). record {
      workers = workers;
      drivers = set drivers d t;
      paths =
          set paths p (with_state z s);
    } ≡ after (record { workers = workers; drivers = drivers; paths = paths })
    (Both p s d t Keep)) same
    (sym (ap (λ (rs : List Path). record {
      workers = workers;
      drivers =
          each (driver_after (Both p s d t Keep)) drivers;
      paths = rs;
    })
    (both_set paths p fol.0 s d t Keep fol.2 ∙ ap (λ (rs : List Path). set rs p (with_state fol.0 s))
    (kept_paths d paths))
    ∙ ap (λ (xs : List DriverState). record {
      workers = workers;
      drivers = xs;
      paths =
          set paths p (with_state fol.0 s);
    }) (turn_set drivers d fol.1 t Keep fol.4
    ∙ ap (λ (xs : List DriverState). set xs d t) (map_none drivers))))

-- a path changes outside of lists
settle_parts : (a s : PathState) → settles a s ≡ true → (is_pending a ≡ false) × (is_closed a ≡ false)
    × (is_pending s ≡ false) × (is_unasked s ≡ false)
settle_parts a s e =
    let parts = and_parts _ _ e in
    let x = or_parts _ _ (not-true _ parts.0) in
    let y = or_parts _ _ (not-true _ parts.1) in
    (x.0, x.1, y.0, y.1)

unclosed_falls : (paths : List Path) (p : ℕ) (r : Path) (s : PathState) (u : ℕ) → slice_get paths p ≡ Some r
    → is_closed r.state ≡ false → unclosed_count paths ≡ u → (cond (is_closed s) 1 0 ≤ u)
    × (unclosed_count (set paths p (with_state r s)) ≡ u - cond (is_closed s) 1 0)
unclosed_falls paths p r s u there was e =
    go (is_closed s) (unclosed_count (set paths p (with_state r s))) (unclosed_count paths) e
    (ap (λ b. unclosed_count (set paths p (with_state r s)) + cond b 0 1) (sym was)
    ∙ unclosed_set paths p r (with_state r s) there)
  where
    go : (b : Bool) (m n : ℕ) → n ≡ u → m + 1 ≡ n + cond b 0 1 → (cond b 1 0 ≤ u) × (m ≡ u - cond b 1 0)
    go true m n i h = (omega arith, omega arith)
    go false m n i h = (omega arith, omega arith)

module _ (workers : ℕ) (paths : List Path) (drivers : List DriverState) (cursors : List Cursor) (unclosed p : ℕ)
    (s : PathState) (was : Path) (sound : IsSound workers paths drivers cursors unclosed)
    (fol : IsFollowable (record { workers = workers; drivers = drivers; paths = paths }) (Moves p s)) where
  pub settle_within : p < length paths
  settle_within = slice_get_within paths p fol.0 fol.1

  same_path : was ≡ get_or paths p was → fol.0 ≡ was
  same_path is = sym (get_or_from_slice_get paths p fol.0 was fol.1) ∙ sym is

  pub settle_fits : (cond (is_closed s) 1 0 ≤ unclosed)
  settle_fits = let parts = settle_parts fol.0.state s fol.2 in
      (unclosed_falls paths p fol.0 s unclosed fol.1 parts.1 sound.unclosed_is).0

  pub settle_sound : was ≡ get_or paths p was → IsSound workers (set paths p (with_state was s)) drivers cursors
      (unclosed - cond (is_closed s) 1 0)
  settle_sound is =
      let parts = settle_parts fol.0.state s fol.2 in
      subst (λ (z : Path). IsSound workers (set paths p (with_state z s)) drivers cursors
      (unclosed - cond (is_closed s) 1 0)) (same_path is)
      (record {
        few_workers = sound.few_workers;
        few_drivers = sound.few_drivers;
        few_paths = let l = length-set paths p (with_state fol.0 s) in let g = sound.few_paths in omega arith;
        cursors_follow = record {
          same_length = sound.cursors_follow.same_length;
          follow = λ e y j i g. follows_other paths (is_noting_list y) (is_noting_list y) e j p fol.0 s fol.1
              (off (is_at e fol.0.start) (is_pending fol.0.state) parts.0)
              (off (is_at e fol.0.start) (is_pending s) parts.2) (off (is_at e fol.0.start) (is_unasked s) parts.3)
              (λ z. z) (sound.cursors_follow.follow e y j i g);
        };
        unclosed_is = (unclosed_falls paths p fol.0 s unclosed fol.1 parts.1 sound.unclosed_is).1;
      })
    where
      off : (a b : Bool) → b ≡ false → (a && b) ≡ false
      off true b e = e
      off false b e = refl

  pub settle_is : was ≡ get_or paths p was → record {
    workers = workers;
    drivers = drivers;
    paths =
        set paths p (with_state was s);
  } ≡ after (record { workers = workers; drivers = drivers; paths = paths })
      (Moves p s)
  settle_is is =
      subst (λ (z : Path). record { workers = workers; drivers = drivers; paths = set paths p (with_state z s) } ≡
      after (record { workers = workers; drivers = drivers; paths = paths }) (Moves p s)) (same_path is)
      (sym (moves_after (record { workers = workers; drivers = drivers; paths = paths }) p fol.0 s fol.1))

-- a driver turns
module _ (workers : ℕ) (paths : List Path) (drivers : List DriverState) (cursors : List Cursor) (unclosed d : ℕ)
    (t : DriverState) (sound : IsSound workers paths drivers cursors unclosed)
    (fol : IsFollowable (record { workers = workers; drivers = drivers; paths = paths }) (Switches d t Keep)) where
  pub turn_within : d < length drivers
  turn_within = slice_get_within drivers d fol.0 fol.1

  pub turn_sound : IsSound workers paths (set drivers d t) cursors unclosed
  turn_sound = record {
    few_workers = sound.few_workers;
    few_drivers = let l = length-set drivers d t in let g = sound.few_drivers in omega arith;
    few_paths = sound.few_paths;
    cursors_follow = record {
      same_length = sound.cursors_follow.same_length ∙ sym (length-set drivers d t);
      follow = λ e y j i g. ⊎_elim
          (λ (h : (e ≡ d) × (t ≡ y)).
          let f = sound.cursors_follow.follow d fol.0 j fol.1 (ap (λ z. slice_get cursors z) (sym h.0) ∙ g) in
          subst (λ (z : ℕ). Follows paths (is_noting_list y) z j) (sym h.0)
          (subst (λ (z : DriverState). Follows paths (is_noting_list z) d j) h.1
          (record {
            unasked = f.unasked;
            unasked_fits = f.unasked_fits;
            pending = f.pending;
            end_fits = f.end_fits;
            named = f.named;
            turns = f.turns;
            turn_fits = f.turn_fits;
            begins = λ n. let off = fol.2 in
                absurd (cc (n, off));
          })))
          (λ (h : (e ≡ d → ⊥) × (slice_get drivers e ≡ Some y)). sound.cursors_follow.follow e y j h.1 g)
          (set_cases drivers d e fol.0 t y fol.1 i);
    };
    unclosed_is = sound.unclosed_is;
  }

  pub turn_is : record { workers = workers; drivers = set drivers d t; paths = paths } ≡ after
      (record { workers = workers; drivers = drivers; paths = paths }) (Switches d t Keep)
  turn_is =
      sym (ap (λ (rs : List Path). record {
        workers = workers;
        drivers =
            each (driver_after (Switches d t Keep)) drivers;
        paths = rs;
      })
      (turned_paths d t Keep paths ∙ kept_paths d paths)
      ∙ ap (λ (xs : List DriverState). record { workers = workers; drivers = xs; paths = paths })
      (turn_set drivers d fol.0 t Keep fol.1 ∙ ap (λ (xs : List DriverState). set xs d t) (map_none drivers)))

-- if an effect may follow a core as it is seen, it may follow the core's fields
pub followable_in : {z w : Core} (e : Effect) → z ≡ w → IsFollowable w e → IsFollowable z e
followable_in e same may = subst (λ (x : Core). IsFollowable x e) (sym same) may
