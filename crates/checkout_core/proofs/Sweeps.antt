-- The sweep of a driver's delayed and named paths.
use Rattle.std.proofs.Common.{◌≡◌, ◌==◌, ℕ, zero, suc, ◌+◌, ◌<◌, ◌≤◌, ⊎_elim, Bool, true, false, cond, List, [], ◌∷◌}
use Rattle.std.proofs.Common.{length, set, get_or, Some, refl, sym, ap, ◌∙◌, subst, ne_eqb, arith}
use Rattle.std.specs.Prelude.{slice_get, ◌&&◌, nat_lt, nat_le, take, drop, ◌++◌}
use Rattle.std.proofs.lemmas.Grind.{common_steps}
use Rattle.std.proofs.lemmas.Bool.{cases_Bool, ltb-true, ltb-false, lt-ltb, le-ltb, cases_lt}
use Rattle.std.proofs.lemmas.List.{length-set}
use Rattle.std.proofs.lemmas.Option.{slice_get_within, get_or_from_slice_get}
use Rattle.checkout_core.specs.declared.path.PathState.{PathState}
use Rattle.checkout_core.specs.declared.path.PathState.TheVariants as path
use Rattle.checkout_core.specs.declared.path.PathState.TheVariants.{Waiting, Held, Unasked, Closed}
use Rattle.checkout_core.specs.declared.path.Path.{Path}
use Rattle.checkout_core.specs.declared.path.Start.{Start}
use Rattle.checkout_core.specs.declared.path.Start.TheVariants.{Pool, Desk, Done}
use Rattle.checkout_core.specs.declared.driver.DriverState.{DriverState}
use Rattle.checkout_core.specs.declared.cursor.Cursor.{Cursor}
use Rattle.checkout_core.specs.declared.effect.Sweep.{Sweep}
use Rattle.checkout_core.specs.declared.effect.Sweep.TheVariants.{Keep, Lose, OutOfMemory}
use Rattle.checkout_core.specs.States.{Core, is_at, is_unasked, is_named, is_closed, path_count, unclosed_count}
use Rattle.checkout_core.specs.States.{with_state}
use Rattle.checkout_core.specs.Effects.{each, swept, swept_path}
use Rattle.checkout_core.specs.Cursors.{is_named_at, is_noting_list, is_pending, IsWithin, Follows, IsSound, IsCursor}
use Rattle.checkout_core.specs.Cursors.{swept_paths, all_swept}
use Rattle.checkout_core.proofs.Basics.{none_is_some, some_is, same_or, get_each, item_within}
use Rattle.checkout_core.proofs.Bridge.{each_alike, each_step, each_nothing, each_map, kept_paths}
use Rattle.checkout_core.proofs.Counts.{num, set_cases, count_none}

not_pending : (w : Sweep) (s : PathState) → is_pending s ≡ false → swept w s ≡ s
not_pending w path.Delayed e = absurd (cc (e))
not_pending w (path.Named t) e = absurd (cc (e))
not_pending w Unasked e = refl
not_pending w (path.Heard h) e = refl
not_pending w (Waiting raw) e = refl
not_pending w (Held a raw) e = refl
not_pending w (Closed v) e = refl

pub unswept : (d : ℕ) (w : Sweep) (r : Path) → (is_at d r.start ≡ true → is_pending r.state ≡ true → ⊥)
    → swept_path d w r ≡ r
unswept d w r none = ap (λ s. with_state r s) (go (is_at d r.start) (is_pending r.state) refl refl)
  where
    go : (a b : Bool) → is_at d r.start ≡ a → is_pending r.state ≡ b → cond a (swept w r.state) r.state ≡ r.state
    go false b i j = refl
    go true false i j = not_pending w r.state j
    go true true i j = absurd (none i j)

-- the paths after those before `at` are swept
abbrev pub swept_before : ℕ → ℕ → Sweep → ℕ → Path → Path
swept_before at d w q r = cond (nat_lt q at) (swept_path d w r) r

pub sweep_begins : (rs : List Path) (d : ℕ) (w : Sweep) (first end : ℕ) → IsWithin rs d first end
    → rs ≡ each (swept_before first d w) rs
sweep_begins rs d w first end within = each_nothing (swept_before first d w) rs
    (λ q r there. go q r there (nat_lt q first) refl)
  where
    go : (q : ℕ) (r : Path) → slice_get rs q ≡ Some r → (b : Bool) → nat_lt q first ≡ b
        → cond b (swept_path d w r) r ≡ r
    go q r there false l = refl
    go q r there true l = unswept d w r (λ i j. let x = within q r there i j in let y = ltb-true q first l in
        let z = x.0 in absurd (omega arith))

pub sweep_goes_on : (rs now : List Path) (d : ℕ) (w : Sweep) (at : ℕ) (v x : Path)
    → now ≡ each (swept_before at d w) rs → at < length rs → v ≡ swept_path d w (get_or now at x)
    → set now at v ≡ each (swept_before (at + 1) d w) rs
sweep_goes_on rs now d w at v x0 same less is =
    let r = item_within rs at less in
    let here : get_or now at x0 ≡ r.0 = ap (λ (xs : List Path). get_or xs at x0) same ∙
    get_or_from_slice_get (each (swept_before at d w) rs) at r.0 x0
    (get_each (swept_before at d w) rs at r.0 r.1 ∙ ap (λ b. Some (cond b (swept_path d w r.0) r.0))
    (le-ltb at at (omega arith))) in
    ap (λ (xs : List Path). set xs at v) same ∙ each_step (swept_before at d w)
    (swept_before (at + 1) d w) rs at r.0 v r.1
    (ap (λ b. cond b (swept_path d w r.0) r.0) (lt-ltb at (at + 1) (omega arith))
    ∙ (ap (swept_path d w) (sym here) ∙ sym is))
    (λ q x n. ap (λ b. cond b (swept_path d w x) x) (other q n))
  where
    other : (q : ℕ) → (q ≡ at → ⊥) → nat_lt q (at + 1) ≡ nat_lt q at
    other q n = ⊎_elim
        (λ (i : nat_lt q at ≡ true). let l = ltb-true q at i in lt-ltb q (at + 1) (omega arith) ∙ sym i)
        (λ (i : nat_lt q at ≡ false). let l = ltb-false q at i in
        le-ltb q (at + 1) (⊎_elim (λ (j : at < q). omega arith) (λ (j : q ≤ at). absurd (n (omega arith)))
        (cases_lt at q)) ∙ sym i)
        (cases_Bool (nat_lt q at))

pub sweep_ends : (rs : List Path) (d : ℕ) (w : Sweep) (first end at : ℕ) → IsWithin rs d first end → end ≤ at
    → each (swept_before at d w) rs ≡ swept_paths d w rs
sweep_ends rs d w first end at within le =
    each_alike (swept_before at d w) (λ q r. swept_path d w r) rs (λ q r there. go q r there (nat_lt q at) refl)
    ∙ each_map (swept_path d w) (λ q r. swept_path d w r) rs (λ q r. refl)
  where
    go : (q : ℕ) (r : Path) → slice_get rs q ≡ Some r → (b : Bool) → nat_lt q at ≡ b
        → cond b (swept_path d w r) r ≡ swept_path d w r
    go q r there true l = refl
    go q r there false l = sym (unswept d w r (λ i j. let x = within q r there i j in let y = ltb-false q at l in
        let z = x.1 in absurd (omega arith)))

-- if no path is there, none is swept
pub sweep_empty : (rs : List Path) (d : ℕ) (w : Sweep) (first end : ℕ) → IsWithin rs d first end → end ≤ first
    → rs ≡ swept_paths d w rs
sweep_empty rs d w first end within le = sweep_begins rs d w first end within
    ∙ sweep_ends rs d w first end first within le

swept_pending : (w : Sweep) (s : PathState) → (w ≡ Keep → ⊥) → is_pending (swept w s) ≡ false
swept_pending Keep s n = absurd (n refl)
swept_pending Lose path.Delayed n = refl
swept_pending Lose (path.Named t) n = refl
swept_pending Lose Unasked n = refl
swept_pending Lose (path.Heard h) n = refl
swept_pending Lose (Waiting raw) n = refl
swept_pending Lose (Held a raw) n = refl
swept_pending Lose (Closed v) n = refl
swept_pending OutOfMemory path.Delayed n = refl
swept_pending OutOfMemory (path.Named t) n = refl
swept_pending OutOfMemory Unasked n = refl
swept_pending OutOfMemory (path.Heard h) n = refl
swept_pending OutOfMemory (Waiting raw) n = refl
swept_pending OutOfMemory (Held a raw) n = refl
swept_pending OutOfMemory (Closed v) n = refl

swept_closed : (w : Sweep) (s : PathState) → is_closed (swept w s) ≡ is_closed s
swept_closed Keep path.Delayed = refl
swept_closed Keep (path.Named t) = refl
swept_closed Lose path.Delayed = refl
swept_closed Lose (path.Named t) = refl
swept_closed OutOfMemory path.Delayed = refl
swept_closed OutOfMemory (path.Named t) = refl
swept_closed w Unasked = refl
swept_closed w (path.Heard h) = refl
swept_closed w (Waiting raw) = refl
swept_closed w (Held a raw) = refl
swept_closed w (Closed v) = refl

swept_unasked : (w : Sweep) (s : PathState) → is_unasked (swept w s) ≡ is_unasked s
swept_unasked Keep path.Delayed = refl
swept_unasked Keep (path.Named t) = refl
swept_unasked Lose path.Delayed = refl
swept_unasked Lose (path.Named t) = refl
swept_unasked OutOfMemory path.Delayed = refl
swept_unasked OutOfMemory (path.Named t) = refl
swept_unasked w Unasked = refl
swept_unasked w (path.Heard h) = refl
swept_unasked w (Waiting raw) = refl
swept_unasked w (Held a raw) = refl
swept_unasked w (Closed v) = refl

either : (f : PathState → Bool) (b : Bool) (s t : PathState) → f s ≡ f t → f (cond b s t) ≡ f t
either f true s t e = e
either f false s t e = refl

pub closed_swept : (d : ℕ) (w : Sweep) (rs : List Path) → unclosed_count (swept_paths d w rs) ≡ unclosed_count rs
closed_swept d w [] = refl
closed_swept d w (r ∷ rs) =
    ap (λ b. cond b 0 1 + unclosed_count (swept_paths d w rs))
    (either is_closed (is_at d r.start) (swept w r.state) r.state (swept_closed w r.state))
    ∙ ap (λ n. cond (is_closed r.state) 0 1 + n) (closed_swept d w rs)

-- another driver's paths stay
module _ (e d : ℕ) (w : Sweep) (other : e ≡ d → ⊥) where
  away : (r : Path) → is_at e r.start ≡ true → is_at d r.start ≡ false
  away r at = go r.start at
    where
      go : (s : Start) → is_at e s ≡ true → is_at d s ≡ false
      go (Desk f b) i = ne_eqb d f (λ j. other (⊎_elim (λ (h : (e ≡ f) × ((e == f) ≡ true)). h.0)
          (λ (h : (e == f) ≡ false). absurd (cc (h, i))) (same_or e f) ∙ sym j))
      go Pool i = refl
      go (Done v) i = refl

  away_same : (r : Path) → is_at e r.start ≡ true → swept_path d w r ≡ r
  away_same r at = unswept d w r (λ i j. let z = away r at in cc (z, i))

  pub count_away : (f : PathState → Bool) (rs : List Path) → path_count e f (swept_paths d w rs) ≡ path_count e f rs
  count_away f [] = refl
  count_away f (r ∷ rs) =
      ap (λ n. n + path_count e f (swept_paths d w rs)) (go (is_at e r.start) refl)
      ∙ ap (λ n. num (is_at e r.start && f r.state) + n) (count_away f rs)
    where
      go : (b : Bool) → is_at e r.start ≡ b → num (is_at e r.start && f (swept_path d w r).state) ≡ num
          (is_at e r.start && f r.state)
      go true i = ap (λ (x : Path). num (is_at e r.start && f x.state)) (away_same r i)
      go false i = ap (λ b. num (b && f (swept_path d w r).state)) i ∙ sym (ap (λ b. num (b && f r.state)) i)

swept_at : (d : ℕ) (w : Sweep) (rs : List Path) (q : ℕ) (x : Path) → slice_get (swept_paths d w rs) q ≡ Some x
    → (r : Path) × (slice_get rs q ≡ Some r) × (swept_path d w r ≡ x)
swept_at d w [] q x e = none_is_some e
swept_at d w (r ∷ rs) zero x e = (r, refl, some_is (swept_path d w r) x e)
swept_at d w (r ∷ rs) (suc q) x e = swept_at d w rs q x e

pub length_swept : (d : ℕ) (w : Sweep) (rs : List Path) → length (swept_paths d w rs) ≡ length rs
length_swept d w [] = refl
length_swept d w (r ∷ rs) = ap suc (length_swept d w rs)

follows_away : (rs : List Path) (n : Bool) (e d : ℕ) (w : Sweep) (k : Cursor) → (e ≡ d → ⊥) → Follows rs n e k
    → Follows (swept_paths d w rs) n e k
follows_away rs n e d w k other f = record {
  unasked = λ q x i at un. let r = swept_at d w rs q x i in let at0 : is_at e (r.0).start ≡ true =
      ap (λ (z : Path). is_at e z.start) r.2 ∙ at in
      f.unasked q r.0 r.1 at0 (ap (λ (z : Path). is_unasked z.state) (sym (away_same e d w other r.0 at0) ∙ r.2) ∙ un);
  unasked_fits = let l = length_swept d w rs in let g = f.unasked_fits in omega arith;
  pending = λ q x i at pe. let r = swept_at d w rs q x i in let at0 : is_at e (r.0).start ≡ true =
      ap (λ (z : Path). is_at e z.start) r.2 ∙ at in
      f.pending q r.0 r.1 at0 (ap (λ (z : Path). is_pending z.state) (sym (away_same e d w other r.0 at0) ∙ r.2) ∙ pe);
  end_fits = let l = length_swept d w rs in let g = f.end_fits in omega arith;
  named = count_away e d w other is_named rs ∙ f.named;
  turns = λ t. count_away e d w other (is_named_at t) rs ∙ f.turns t;
  turn_fits = let l = length_swept d w rs in let g = f.turn_fits in omega arith;
  begins = f.begins;
}

-- the driver's own lists are empty afterwards
follows_swept : (rs : List Path) (n : Bool) (d : ℕ) (w : Sweep) (k : Cursor) → (w ≡ Keep → ⊥) → Follows rs n d k
    → Follows (swept_paths d w rs) n d (record { unasked = k.unasked; first = 0; end = 0; named = 0; turn = 0 })
follows_swept rs n d w k ends f = record {
  unasked = λ q x i at un. let r = swept_at d w rs q x i in let at0 : is_at d (r.0).start ≡ true =
      ap (λ (z : Path). is_at d z.start) r.2 ∙ at in
      f.unasked q r.0 r.1 at0 (sym (either is_unasked (is_at d (r.0).start) (swept w (r.0).state) (r.0).state
      (swept_unasked w (r.0).state)) ∙ (ap (λ (z : Path). is_unasked z.state) r.2 ∙ un));
  unasked_fits = let l = length_swept d w rs in let g = f.unasked_fits in omega arith;
  pending = λ q x i at pe. let z = none q x i at in absurd (cc (z, pe));
  end_fits = omega arith;
  named = count_none d is_named (swept_paths d w rs) (λ q x i at. not_named x.state (none q x i at));
  turns = λ t. count_none d (is_named_at t) (swept_paths d w rs) (λ q x i at. not_at t x.state (none q x i at))
      ∙ sym (empty (nat_le 0 t) (nat_lt t (0 + 0)) (le-ltb t (0 + 0) (omega arith)));
  turn_fits = omega arith;
  begins = λ h. refl;
}
  where
    none : (q : ℕ) (x : Path) → slice_get (swept_paths d w rs) q ≡ Some x → is_at d x.start ≡ true
        → is_pending x.state ≡ false
    none q x i at =
        let r = swept_at d w rs q x i in
        let at0 : is_at d (r.0).start ≡ true = ap (λ (z : Path). is_at d z.start) r.2 ∙ at in
        ap (λ (z : Path). is_pending z.state) (sym r.2) ∙ (ap
        (λ b. is_pending (cond b (swept w (r.0).state) (r.0).state)) at0 ∙ swept_pending w (r.0).state ends)

    not_named : (s : PathState) → is_pending s ≡ false → is_named s ≡ false
    not_named (path.Named t) e = absurd (cc (e))
    not_named path.Delayed e = refl
    not_named Unasked e = refl
    not_named (path.Heard h) e = refl
    not_named (Waiting raw) e = refl
    not_named (Held a raw) e = refl
    not_named (Closed v) e = refl

    not_at : (t : ℕ) (s : PathState) → is_pending s ≡ false → is_named_at t s ≡ false
    not_at t (path.Named u) e = absurd (cc (e))
    not_at t path.Delayed e = refl
    not_at t Unasked e = refl
    not_at t (path.Heard h) e = refl
    not_at t (Waiting raw) e = refl
    not_at t (Held a raw) e = refl
    not_at t (Closed v) e = refl

    empty : (a b : Bool) → b ≡ false → num (a && b) ≡ 0
    empty true b e = ap num e
    empty false b e = refl

pub sweep_sound : (workers : ℕ) (rs : List Path) (drivers : List DriverState) (cursors : List Cursor)
    (unclosed d : ℕ) (w : Sweep) (k : Cursor) → (w ≡ Keep → ⊥) → IsSound workers rs drivers cursors unclosed
    → IsCursor (record { workers = workers; drivers = drivers; paths = rs }) d k
    → IsSound workers (swept_paths d w rs) drivers (set cursors d
    (record { unasked = k.unasked; first = 0; end = 0; named = 0; turn = 0 })) unclosed
sweep_sound workers rs drivers cursors unclosed d w k ends sound cur = record {
  few_workers = sound.few_workers;
  few_drivers = sound.few_drivers;
  few_paths = let l = length_swept d w rs in let g = sound.few_paths in omega arith;
  cursors_follow = record {
    same_length = length-set cursors d new ∙ sound.cursors_follow.same_length;
    follow = λ e y j i g. ⊎_elim
        (λ (h : (e ≡ d) × (new ≡ j)).
        let seat : cur.0 ≡ y = some_is cur.0 y (sym cur.1 ∙ (ap (λ z. slice_get drivers z) (sym h.0) ∙ i)) in
        subst (λ (z : ℕ). Follows (swept_paths d w rs) (is_noting_list y) z j) (sym h.0)
        (subst (λ (z : Cursor). Follows (swept_paths d w rs) (is_noting_list y) d z) h.1
        (follows_swept rs (is_noting_list y) d w k ends (subst
        (λ (z : DriverState). Follows rs (is_noting_list z) d k) seat cur.2))))
        (λ (h : (e ≡ d → ⊥) × (slice_get cursors e ≡ Some j)).
        follows_away rs (is_noting_list y) e d w j h.0 (sound.cursors_follow.follow e y j i h.1))
        (set_cases cursors d e old.0 new j old.1 g);
  };
  unclosed_is = closed_swept d w rs ∙ sound.unclosed_is;
}
  where
    new : Cursor
    new = record { unasked = k.unasked; first = 0; end = 0; named = 0; turn = 0 }

    old : (v : Cursor) × (slice_get cursors d ≡ Some v)
    old = item_within cursors d (let l = slice_get_within drivers d cur.0 cur.1 in let s =
        sound.cursors_follow.same_length in omega arith)

-- a slice is put back whole
pub put_back : (now items : List Path) (n : ℕ) → length now ≡ length items → n ≡ length items
    → take n (now ++ drop (length now) items) ≡ now
put_back now items n same is = grind (arith, common_steps)

pub sweep_kept : (c : Core) (d : ℕ) (w : Sweep) → w ≡ Keep → c ≡ all_swept d w c
sweep_kept c d w is = ap (λ (rs : List Path). record { workers = c.workers; drivers = c.drivers; paths = rs })
    (sym (kept_paths d c.paths)) ∙ ap (λ z. all_swept d z c) (sym is)
