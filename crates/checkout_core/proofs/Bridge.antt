-- An effect as the code makes it: a place is set, and a loop goes over all paths.
use Rattle.std.proofs.Common.{◌≡◌, ◌==◌, ℕ, zero, suc, Bool, true, false, cond, List, [], ◌∷◌, map, set, Some, refl}
use Rattle.std.proofs.Common.{sym, ap, ◌∙◌, arith}
use Rattle.std.specs.Prelude.{slice_get}
use Rattle.checkout_core.specs.declared.path.PathState.{PathState}
use Rattle.checkout_core.specs.declared.path.Path.{Path}
use Rattle.checkout_core.specs.declared.driver.DriverState.{DriverState}
use Rattle.std.specs.Prelude.{length}
use Rattle.checkout_core.specs.declared.path.PathState.TheVariants as path
use Rattle.checkout_core.specs.declared.path.PathState.TheVariants.{Waiting, Held, Unasked, Closed}
use Rattle.checkout_core.specs.declared.effect.Effect.TheVariants.{Moves, Switches, Both}
use Rattle.checkout_core.specs.declared.effect.Sweep.{Sweep}
use Rattle.checkout_core.specs.declared.effect.Sweep.TheVariants.{Keep}
use Rattle.checkout_core.specs.States.{Core, with_state, is_at}
use Rattle.checkout_core.specs.Effects.{after, each, path_after, driver_after, swept_path, swept}
use Rattle.checkout_core.proofs.Basics.{none_is_some, some_is, eqb_self, other_number}

module _ {A : Type 0} where
  pub each_map : (f : A → A) (h : ℕ → A → A) (xs : List A) → ((q : ℕ) (w : A) → h q w ≡ f w) → each h xs ≡ map f xs
  each_map f h [] same = refl
  each_map f h (x ∷ xs) same = ap (λ y. y ∷ each (λ i. h (suc i)) xs) (same zero x)
      ∙ ap (λ (ys : List A). f x ∷ ys) (each_map f (λ i. h (suc i)) xs (λ q w. same (suc q) w))

  each_set : (f : A → A) (h : ℕ → A → A) (xs : List A) (p : ℕ) (x v : A) → slice_get xs p ≡ Some x → h p x ≡ v
      → ((q : ℕ) (w : A) → (q ≡ p → ⊥) → h q w ≡ f w) → each h xs ≡ set (map f xs) p v
  each_set f h [] p x v there here same = none_is_some there
  each_set f h (y ∷ xs) zero x v there here same =
      ap (λ z. z ∷ each (λ i. h (suc i)) xs) (ap (h zero) (some_is y x there) ∙ here)
      ∙ ap (λ (ys : List A). v ∷ ys) (each_map f (λ i. h (suc i)) xs (λ q w. same (suc q) w (λ e. absurd (cc (e)))))
  each_set f h (y ∷ xs) (suc p) x v there here same =
      ap (λ z. z ∷ each (λ i. h (suc i)) xs) (same zero y (λ e. absurd (cc (e))))
      ∙ ap (λ (ys : List A). f y ∷ ys) (each_set f (λ i. h (suc i)) xs p x v there here
      (λ q w n. same (suc q) w (λ e. n (let k : q ≡ p = omega arith in k))))

pub both_set : (rs : List Path) (p : ℕ) (r : Path) (s : PathState) (d : ℕ) (t : DriverState) (w : Sweep)
    → slice_get rs p ≡ Some r → each (path_after (Both p s d t w)) rs ≡ set (map (swept_path d w) rs) p (with_state r s)
both_set rs p r s d t w there = each_set (swept_path d w) (path_after (Both p s d t w)) rs p r (with_state r s) there
    (ap (λ b. cond b (with_state r s) (swept_path d w r)) (eqb_self p))
    (λ q v n. ap (λ b. cond b (with_state v s) (swept_path d w v)) (other_number q p n))

pub turn_set : (xs : List DriverState) (d : ℕ) (x t : DriverState) (w : Sweep) → slice_get xs d ≡ Some x
    → each (driver_after (Switches d t w)) xs ≡ set (map (λ y. y) xs) d t
turn_set xs d x t w there = each_set (λ y. y) (driver_after (Switches d t w)) xs d x t there
    (ap (λ b. cond b t x) (eqb_self d)) (λ q v n. ap (λ b. cond b t v) (other_number q d n))

pub each_none : {A : Type 0} (xs : List A) → each (λ e x. x) xs ≡ xs
each_none [] = refl
each_none (x ∷ xs) = ap (λ ys. x ∷ ys) (each_none xs)

pub map_none : {A : Type 0} (xs : List A) → map (λ x. x) xs ≡ xs
map_none [] = refl
map_none (x ∷ xs) = ap (λ ys. x ∷ ys) (map_none xs)

pub swept_keep : (s : PathState) → swept Keep s ≡ s
swept_keep path.Delayed = refl
swept_keep (path.Named t) = refl
swept_keep Unasked = refl
swept_keep (path.Heard h) = refl
swept_keep (Waiting raw) = refl
swept_keep (Held a raw) = refl
swept_keep (Closed v) = refl

kept_path : (d : ℕ) (r : Path) → swept_path d Keep r ≡ r
kept_path d r = ap (λ s. with_state r s) (go (is_at d r.start))
  where
    go : (b : Bool) → cond b (swept Keep r.state) r.state ≡ r.state
    go true = swept_keep r.state
    go false = refl

pub kept_paths : (d : ℕ) (rs : List Path) → map (swept_path d Keep) rs ≡ rs
kept_paths d [] = refl
kept_paths d (r ∷ rs) = ap (λ (x : Path). x ∷ map (swept_path d Keep) rs) (kept_path d r)
    ∙ ap (λ (xs : List Path). r ∷ xs) (kept_paths d rs)

-- a driver turns: each of its paths is swept
pub turned_paths : (d : ℕ) (t : DriverState) (w : Sweep) (rs : List Path)
    → each (path_after (Switches d t w)) rs ≡ map (swept_path d w) rs
turned_paths d t w rs = each_map (swept_path d w) (path_after (Switches d t w)) rs (λ q r. refl)

swept_twice : (d : ℕ) (w : Sweep) (r : Path) → swept_path d w (swept_path d Keep r) ≡ swept_path d w r
swept_twice d w r = ap (swept_path d w) (kept_path d r)

-- the driver turns first, and then its paths are swept
pub turn_swept : (c : Core) (d : ℕ) (t : DriverState) (w : Sweep)
    → record {
      workers = c.workers;
      drivers = (after c (Switches d t Keep)).drivers;
      paths =
          map (swept_path d w) (after c (Switches d t Keep)).paths;
    } ≡ after c (Switches d t w)
turn_swept c d t w = ap (λ (rs : List Path). record {
  workers = c.workers;
  drivers =
      each (driver_after (Switches d t w)) c.drivers;
  paths = rs;
})
    (ap (map (swept_path d w)) (turned_paths d t Keep c.paths ∙ kept_paths d c.paths)
    ∙ sym (turned_paths d t w c.paths))

map_each : (f : Path → Path) (h : ℕ → Path → Path) (rs : List Path) → map f (each h rs) ≡ each (λ q r. f (h q r)) rs
map_each f h [] = refl
map_each f h (r ∷ rs) = ap (λ (xs : List Path). f (h zero r) ∷ xs) (map_each f (λ q. h (suc q)) rs)

each_same : (g h : ℕ → Path → Path) (rs : List Path) → ((q : ℕ) (r : Path) → g q r ≡ h q r) → each g rs ≡ each h rs
each_same g h [] same = refl
each_same g h (r ∷ rs) same = ap (λ (x : Path). x ∷ each (λ i. g (suc i)) rs) (same zero r)
    ∙ ap (λ (xs : List Path). h zero r ∷ xs) (each_same (λ i. g (suc i)) (λ i. h (suc i)) rs (λ q w. same (suc q) w))

-- the path and the driver move first
pub both_swept : (c : Core) (p : ℕ) (s : PathState) (d : ℕ) (t : DriverState) (w : Sweep) → swept w s ≡ s
    → record {
      workers = c.workers;
      drivers = (after c (Both p s d t Keep)).drivers;
      paths =
          map (swept_path d w) (after c (Both p s d t Keep)).paths;
    } ≡ after c (Both p s d t w)
both_swept c p s d t w stays = ap (λ (rs : List Path). record
    { workers = c.workers; drivers = each (driver_after (Both p s d t w)) c.drivers; paths = rs })
    (map_each (swept_path d w) (path_after (Both p s d t Keep)) c.paths
    ∙ each_same (λ q r. swept_path d w (path_after (Both p s d t Keep) q r))
    (path_after (Both p s d t w)) c.paths (λ q r. go r (q == p)))
  where
    same : (r : Path) (b : Bool) → cond b (swept w s) s ≡ s
    same r true = stays
    same r false = refl

    go : (r : Path) (b : Bool) → swept_path d w (cond b (with_state r s) (swept_path d Keep r)) ≡ cond b
        (with_state r s) (swept_path d w r)
    go r true = ap (λ z. with_state r z) (same r (is_at d r.start))
    go r false = swept_twice d w r

pub moves_after : (c : Core) (p : ℕ) (r : Path) (s : PathState) → slice_get c.paths p ≡ Some r
    → after c (Moves p s) ≡ record { workers = c.workers; drivers = c.drivers; paths = set c.paths p (with_state r s) }
moves_after c p r s there =
    let rows : each (path_after (Moves p s)) c.paths ≡ set (map (λ x. x) c.paths) p (with_state r s) =
    each_set (λ x. x) (path_after (Moves p s)) c.paths p r (with_state r s) there
    (ap (λ b. with_state r (cond b s r.state)) (eqb_self p))
    (λ q v n. ap (λ b. with_state v (cond b s v.state)) (other_number q p n)) in
    ap (λ (ds : List DriverState). record {
      workers = c.workers;
      drivers = ds;
      paths =
          each (path_after (Moves p s)) c.paths;
    }) (each_none c.drivers)
    ∙ ap (λ (rs : List Path). record { workers = c.workers; drivers = c.drivers; paths = rs })
    (rows ∙ ap (λ (rs : List Path). set rs p (with_state r s)) (map_none c.paths))

-- one place of a list changes
module _ {A : Type 0} where
  pub each_alike : (g h : ℕ → A → A) (xs : List A) → ((q : ℕ) (x : A) → slice_get xs q ≡ Some x → g q x ≡ h q x)
      → each g xs ≡ each h xs
  each_alike g h [] same = refl
  each_alike g h (x ∷ xs) same = ap (λ y. y ∷ each (λ i. g (suc i)) xs) (same zero x refl)
      ∙ ap (λ (ys : List A). h zero x ∷ ys) (each_alike (λ i. g (suc i)) (λ i. h (suc i)) xs
      (λ q w e. same (suc q) w e))

  pub each_step : (g h : ℕ → A → A) (xs : List A) (p : ℕ) (x v : A) → slice_get xs p ≡ Some x → h p x ≡ v
      → ((q : ℕ) (w : A) → (q ≡ p → ⊥) → h q w ≡ g q w) → set (each g xs) p v ≡ each h xs
  each_step g h [] p x v there here same = none_is_some there
  each_step g h (y ∷ xs) zero x v there here same =
      sym (ap (λ z. z ∷ each (λ i. h (suc i)) xs) (ap (h zero) (some_is y x there) ∙ here)
      ∙ ap (λ (ys : List A). v ∷ ys) (each_alike (λ i. h (suc i)) (λ i. g (suc i)) xs
      (λ q w e. same (suc q) w (λ e. absurd (cc (e))))))
  each_step g h (y ∷ xs) (suc p) x v there here same =
      ap (λ z. z ∷ set (each (λ i. g (suc i)) xs) p v) (sym (same zero y (λ e. absurd (cc (e)))))
      ∙ ap (λ (ys : List A). h zero y ∷ ys) (each_step (λ i. g (suc i)) (λ i. h (suc i)) xs p x v there here
      (λ q w n. same (suc q) w (λ e. n (let k : q ≡ p = omega arith in k))))

  pub each_nothing : (g : ℕ → A → A) (xs : List A) → ((q : ℕ) (x : A) → slice_get xs q ≡ Some x → g q x ≡ x)
      → xs ≡ each g xs
  each_nothing g xs same = sym (each_none xs) ∙ each_alike (λ q x. x) g xs (λ q x e. sym (same q x e))

  pub length_each : (g : ℕ → A → A) (xs : List A) → length (each g xs) ≡ length xs
  length_each g [] = refl
  length_each g (x ∷ xs) = ap suc (length_each (λ i. g (suc i)) xs)
