-- The cursors follow the paths as they begin.
use Rattle.std.proofs.Common.{◌≡◌, ℕ, zero, suc, ◌+◌, ◌<◌, ◌≤◌, ◌^◌, Bool, true, false, List, [], ◌∷◌, length, map}
use Rattle.std.proofs.Common.{Some, None, refl, sym, ap, ◌∙◌, subst, arith}
use Rattle.std.specs.Prelude.{slice_get, replicate, ◌&&◌, nat_lt, nat_le}
use Rattle.std.proofs.lemmas.Bool.{le-ltb}
use Rattle.std.proofs.lemmas.List.{length-replicate}
use Rattle.checkout_core.specs.declared.path.PathState.{PathState}
use Rattle.checkout_core.specs.declared.path.PathState.TheVariants.{Waiting, Unasked, Closed}
use Rattle.checkout_core.specs.declared.path.Start.{Start}
use Rattle.checkout_core.specs.declared.path.Start.TheVariants.{Pool, Desk, Done}
use Rattle.checkout_core.specs.declared.path.Path.{Path}
use Rattle.checkout_core.specs.declared.driver.DriverState.{DriverState}
use Rattle.checkout_core.specs.declared.driver.DriverState.TheVariants as driver
use Rattle.checkout_core.specs.declared.cursor.Cursor.{Cursor}
use Rattle.checkout_core.specs.States.{start, offs, path_of, is_named, unclosed_count}
use Rattle.checkout_core.specs.Cursors.{is_named_at, is_noting_list, is_pending, Follows, IsSound, new_cursor}
use Rattle.checkout_core.proofs.Basics.{none_is_some, some_is}
use Rattle.checkout_core.proofs.Counts.{num, count_none}

begins_not : (f : PathState → Bool) → f (Waiting None) ≡ false → f Unasked ≡ false
    → ((v : _) → f (Closed v) ≡ false) → (starts : List Start) (p : ℕ) (r : Path)
    → slice_get (map path_of starts) p ≡ Some r → f r.state ≡ false
begins_not f a b c [] p r e = none_is_some e
begins_not f a b c (Pool ∷ ss) zero r e = ap (λ (z : Path). f z.state) (sym (some_is (path_of Pool) r e)) ∙ a
begins_not f a b c (Desk d q ∷ ss) zero r e = ap (λ (z : Path). f z.state) (sym (some_is (path_of (Desk d q)) r e)) ∙ b
begins_not f a b c (Done v ∷ ss) zero r e = ap (λ (z : Path). f z.state) (sym (some_is (path_of (Done v)) r e)) ∙ c v
begins_not f a b c (s ∷ ss) (suc p) r e = begins_not f a b c ss p r e

pub offs_is : (n : ℕ) → replicate n driver.Off ≡ offs n
offs_is zero = refl
offs_is (suc n) = ap (λ (xs : List DriverState). driver.Off ∷ xs) (offs_is n)

get_same : {A : Type 0} (n i : ℕ) (a x : A) → slice_get (replicate n a) i ≡ Some x → a ≡ x
get_same zero i a x e = none_is_some e
get_same (suc n) zero a x e = some_is a x e
get_same (suc n) (suc i) a x e = get_same n i a x e

follows_start : (starts : List Start) (d : ℕ) → Follows (map path_of starts) false d new_cursor
follows_start starts d = record {
  unasked = λ p r i at un. omega arith;
  unasked_fits = omega arith;
  pending = λ p r i at pe. let z = begins_not is_pending refl refl (λ v. refl) starts p r i in absurd (cc (z, pe));
  end_fits = omega arith;
  named = count_none d is_named (map path_of starts) (λ p r i at.
      begins_not is_named refl refl (λ v. refl) starts p r i);
  turns = λ t. count_none d (is_named_at t) (map path_of starts)
      (λ p r i at. begins_not (is_named_at t) refl refl (λ v. refl) starts p r i)
      ∙ sym (empty (nat_le 0 t) (nat_lt t (0 + 0)) (le-ltb t (0 + 0) (omega arith)));
  turn_fits = omega arith;
  begins = λ e. refl;
}
  where
    empty : (a b : Bool) → b ≡ false → num (a && b) ≡ 0
    empty true b e = ap num e
    empty false b e = refl

length_map : (starts : List Start) → length (map path_of starts) ≡ length starts
length_map [] = refl
length_map (s ∷ ss) = ap suc (length_map ss)

pub start_sound : (workers drivers unclosed : ℕ) (starts : List Start) (paths : List Path)
    (states : List DriverState) (cursors : List Cursor) → workers ≤ 16 → drivers ≤ 16 → length starts < 2 ^ 32
    → paths ≡ map path_of starts → states ≡ replicate drivers driver.Off → cursors ≡ replicate drivers new_cursor
    → unclosed ≡ unclosed_count paths → IsSound workers paths states cursors unclosed
start_sound workers drivers unclosed starts paths states cursors few_w few_d few_p ps xs ks un = record {
  few_workers = few_w;
  few_drivers = let l = ap length xs ∙ length-replicate drivers driver.Off in omega arith;
  few_paths = let l = ap length ps ∙ length_map starts in omega arith;
  cursors_follow = record {
    same_length = ap length ks ∙ (length-replicate drivers new_cursor
        ∙ sym (ap length xs ∙ length-replicate drivers driver.Off));
    follow = λ d x k i j.
        let off : driver.Off ≡ x = get_same drivers d driver.Off x
        (ap (λ (zs : List DriverState). slice_get zs d) (sym xs) ∙ i) in
        let new : new_cursor ≡ k = get_same drivers d new_cursor k
        (ap (λ (zs : List Cursor). slice_get zs d) (sym ks) ∙ j) in
        subst (λ (z : Cursor). Follows paths (is_noting_list x) d z) new
        (subst (λ (z : DriverState). Follows paths (is_noting_list z) d new_cursor) off
        (subst (λ (z : List Path). Follows z false d new_cursor) (sym ps) (follows_start starts d)));
  };
  unclosed_is = sym un;
}

pub start_is : (workers drivers : ℕ) (starts : List Start) (paths : List Path) (states : List DriverState)
    → paths ≡ map path_of starts → states ≡ replicate drivers driver.Off
    → record { workers = workers; drivers = states; paths = paths } ≡ start starts workers drivers
start_is workers drivers starts paths states ps xs =
    ap (λ (zs : List Path). record { workers = workers; drivers = states; paths = zs }) ps
    ∙ ap (λ (zs : List DriverState). record { workers = workers; drivers = zs; paths = map path_of starts })
    (xs ∙ offs_is drivers)
