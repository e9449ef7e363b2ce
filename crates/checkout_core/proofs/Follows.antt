-- The cursors follow the paths.
use Rattle.std.proofs.Common.{◌≡◌, ◌==◌, ℕ, ◌+◌, ◌<◌, ◌≤◌, ⊎_elim, Bool, true, false, List, length, set, get_or, Some}
use Rattle.std.proofs.Common.{None, refl, sym, ap, ◌∙◌, subst, eq-eqb, ne_eqb, arith}
use Rattle.std.specs.Prelude.{slice_get, ◌&&◌, nat_lt, nat_le}
use Rattle.std.proofs.lemmas.Bool.{and_from, lt-ltb, ltb-true, leb-true, le-leb, cases_lt}
use Rattle.std.proofs.lemmas.List.{length-set}
use Rattle.std.proofs.lemmas.Option.{slice_get_within, slice_get_read}
use Rattle.checkout_core.specs.declared.path.PathState.TheVariants as path
use Rattle.checkout_core.specs.declared.path.PathState.TheVariants.{Waiting, Held, Unasked, Closed}
use Rattle.checkout_core.specs.declared.path.Path.{Path}
use Rattle.checkout_core.specs.declared.driver.DriverState.{DriverState}
use Rattle.checkout_core.specs.declared.cursor.Cursor.{Cursor}
use Rattle.checkout_core.specs.States.{Core, is_at, is_unasked, is_named_below, none_of, path_count, lowest_unasked}
use Rattle.checkout_core.specs.Cursors.{asks, is_named_at, is_noting_list, Follows, AllFollow, IsSound, IsCursor}
use Rattle.checkout_core.specs.Cursors.{HoldsAt}
use Rattle.checkout_core.proofs.Basics.{some_is, item_within}
use Rattle.checkout_core.proofs.Counts.{num, set_cases, count_some, none_count, none_false, lowest_some, lowest_none}

-- the driver d gets another cursor
pub follow_cursor : (paths : List Path) (drivers : List DriverState) (cursors : List Cursor) (d : ℕ)
    (x : DriverState) (k : Cursor) → AllFollow paths drivers cursors → slice_get drivers d ≡ Some x
    → Follows paths (is_noting_list x) d k → AllFollow paths drivers (set cursors d k)
follow_cursor paths drivers cursors d x k all there new = record {
  same_length = length-set cursors d k ∙ all.same_length;
  follow = λ e y j i g. go e y j i g;
}
  where
    less : d < length cursors
    less = let l : d < length drivers = slice_get_within drivers d x there in let s = all.same_length in omega arith

    go : (e : ℕ) (y : DriverState) (j : Cursor) → slice_get drivers e ≡ Some y
        → slice_get (set cursors d k) e ≡ Some j → Follows paths (is_noting_list y) e j
    go e y j i g = ⊎_elim
        (λ (s : (e ≡ d) × (k ≡ j)).
        let same : y ≡ x = some_is y x (sym i ∙ (ap (λ z. slice_get drivers z) s.0 ∙ there)) in
        subst (λ (z : DriverState). Follows paths (is_noting_list z) e j) (sym same)
        (subst (λ (z : ℕ). Follows paths (is_noting_list x) z j) (sym s.0)
        (subst (λ (z : Cursor). Follows paths (is_noting_list x) d z) s.1 new)))
        (λ (s : (e ≡ d → ⊥) × (slice_get cursors e ≡ Some j)). all.follow e y j i s.1)
        (set_cases cursors d e (item_within cursors d less).0 k j (item_within cursors d less).1 g)

in_turns : (a b t : ℕ) → 1 ≤ num (nat_le a t && nat_lt t b) → (a ≤ t) × (t < b)
in_turns a b t h = go (nat_le a t) (nat_lt t b) refl refl h
  where
    go : (x y : Bool) → nat_le a t ≡ x → nat_lt t b ≡ y → 1 ≤ num (x && y) → (a ≤ t) × (t < b)
    go true true i j h = (leb-true a t i, ltb-true t b j)
    go true false i j h = absurd (omega arith)
    go false y i j h = absurd (omega arith)

-- the turns of the named paths
pub turn_within : (paths : List Path) (n : Bool) (d : ℕ) (k : Cursor) (t : ℕ) → Follows paths n d k
    → 1 ≤ path_count d (is_named_at t) paths → (k.turn ≤ t) × (t < k.turn + k.named)
turn_within paths n d k t f h = in_turns k.turn (k.turn + k.named) t (subst (λ (z : ℕ). 1 ≤ z) (f.turns t) h)

pub lowest_turn : (paths : List Path) (n : Bool) (d : ℕ) (k : Cursor) (p t : ℕ) (r : Path) → Follows paths n d k
    → slice_get paths p ≡ Some r → is_at d r.start ≡ true → r.state ≡ path.Named t
    → (t == k.turn) ≡ none_of d (is_named_below t) paths
lowest_turn paths n d k p t r f there at is = go (none_of d (is_named_below t) paths) refl
  where
    mine : (k.turn ≤ t) × (t < k.turn + k.named)
    mine = turn_within paths n d k t f (count_some d (is_named_at t) paths p r there at
        (ap (is_named_at t) is ∙ eq-eqb t t refl))

    go : (b : Bool) → none_of d (is_named_below t) paths ≡ b → (t == k.turn) ≡ b
    go true none = ⊎_elim
        (λ (l : k.turn < t).
        let zero0 : path_count d (is_named_at k.turn) paths ≡ 0 = none_count d t k.turn paths l none in
        let one : path_count d (is_named_at k.turn) paths ≡ 1 = f.turns k.turn
        ∙ ap num (and_from _ _ (le-leb k.turn k.turn (omega arith))
        (lt-ltb k.turn (k.turn + k.named) (let m = mine.1 in omega arith))) in
        absurd (omega arith))
        (λ (l : t ≤ k.turn). eq-eqb t k.turn (let m = mine.0 in omega arith))
        (cases_lt k.turn t)
    go false some =
        let u = none_false d t paths some in
        let in_u = turn_within paths n d k u.0 f u.2 in
        ne_eqb t k.turn (λ e. let a = u.1 in let b = in_u.0 in absurd (omega arith))

-- the cursor that a driver has
pub cursor_of : (paths : List Path) (drivers : List DriverState) (cursors : List Cursor) (d : ℕ) (k : Cursor)
    → AllFollow paths drivers cursors → d < length drivers → k ≡ get_or cursors d k → (x : DriverState)
    × (slice_get drivers d ≡ Some x) × Follows paths (is_noting_list x) d k
cursor_of paths drivers cursors d k all less is =
    let x = item_within drivers d less in
    (x.0, x.1, all.follow d x.0 k x.1 (slice_get_read cursors (length drivers) d k (sym all.same_length) less is))

pub cursor_in : (c : Core) (workers : ℕ) (paths : List Path) (drivers : List DriverState) (cursors : List Cursor)
    (d : ℕ) (k : Cursor) → record { workers = workers; drivers = drivers; paths = paths } ≡ c
    → AllFollow paths drivers cursors → d < length c.drivers → k ≡ get_or cursors d k → IsCursor c d k
cursor_in c workers paths drivers cursors d k view all less is =
    subst (λ (z : Core). IsCursor z d k) view (cursor_of paths drivers cursors d k all
    (subst (λ (z : Core). d < length z.drivers) (sym view) less) is)

-- the cursor moves on over paths that don't have to be asked for
pub cursor_on : (c : Core) (workers : ℕ) (paths : List Path) (drivers : List DriverState) (cursors : List Cursor)
    (unclosed d : ℕ) (k : Cursor) (i : ℕ) → record { workers = workers; drivers = drivers; paths = paths } ≡ c
    → IsSound workers paths drivers cursors unclosed → IsCursor c d k → i ≤ length paths
    → ((p : ℕ) (r : Path) → k.unasked ≤ p → p < i → slice_get paths p ≡ Some r → asks d r ≡ false)
    → IsSound workers paths drivers (set cursors d (record {
      unasked = i;
      first = k.first;
      end = k.end;
      named =
          k.named;
      turn = k.turn;
    })) unclosed
cursor_on c workers paths drivers cursors unclosed d k i view s is le none =
    let here = subst (λ (z : Core). IsCursor z d k) (sym view) is in
    let f = here.2 in
    record {
      few_workers = s.few_workers;
      few_drivers = s.few_drivers;
      few_paths = s.few_paths;
      cursors_follow = follow_cursor paths drivers cursors d here.0
          (record { unasked = i; first = k.first; end = k.end; named = k.named; turn = k.turn }) s.cursors_follow
          here.1 (record {
            unasked = λ p r there at un. ⊎_elim
                (λ (l : p < i). let z = none p r (f.unasked p r there at un) l there in let a = and_from _ _ at un in
                absurd (cc (z, a)))
                (λ (l : i ≤ p). l)
                (cases_lt p i);
            unasked_fits = le;
            pending = f.pending;
            end_fits = f.end_fits;
            named = f.named;
            turns = f.turns;
            turn_fits = f.turn_fits;
            begins = f.begins;
          });
      unclosed_is = s.unclosed_is;
    }

none_before : (c : Core) (workers : ℕ) (paths : List Path) (drivers : List DriverState) (d : ℕ) (k : Cursor) (i : ℕ)
    → record { workers = workers; drivers = drivers; paths = paths } ≡ c → IsCursor c d k
    → ((p : ℕ) (r : Path) → k.unasked ≤ p → p < i → slice_get paths p ≡ Some r → asks d r ≡ false)
    → (p : ℕ) (r : Path) → p < i → slice_get paths p ≡ Some r → asks d r ≡ false
none_before c workers paths drivers d k i view is none p r l there =
    let here = subst (λ (z : Core). IsCursor z d k) (sym view) is in
    let f = here.2 in
    go (is_at d r.start) (is_unasked r.state) refl refl (λ at un. f.unasked p r there at un)
  where
    go : (a b : Bool) → is_at d r.start ≡ a → is_unasked r.state ≡ b → (a ≡ true → b ≡ true → k.unasked ≤ p)
        → (a && b) ≡ false
    go true true at un f = let z = none p r (f refl refl) l there in let a = and_from _ _ at un in absurd (cc (z, a))
    go true false at un f = refl
    go false b at un f = refl

pub lowest_found : (c : Core) (workers : ℕ) (paths : List Path) (drivers : List DriverState) (d : ℕ) (k : Cursor)
    (i : ℕ) → record { workers = workers; drivers = drivers; paths = paths } ≡ c → IsCursor c d k
    → ((p : ℕ) (r : Path) → k.unasked ≤ p → p < i → slice_get paths p ≡ Some r → asks d r ≡ false)
    → (i < length paths → HoldsAt (λ r. asks d r) paths i) → i < length paths → Some i ≡ lowest_unasked d c.paths
lowest_found c workers paths drivers d k i view is none found less =
    let h = found less in
    sym (subst (λ (z : Core). lowest_unasked d z.paths ≡ Some i) view
    (lowest_some d paths i h.0 h.1 h.2 (none_before c workers paths drivers d k i view is none)))

pub lowest_lacks : (c : Core) (workers : ℕ) (paths : List Path) (drivers : List DriverState) (d : ℕ) (k : Cursor)
    (i : ℕ) → record { workers = workers; drivers = drivers; paths = paths } ≡ c → IsCursor c d k
    → ((p : ℕ) (r : Path) → k.unasked ≤ p → p < i → slice_get paths p ≡ Some r → asks d r ≡ false)
    → length paths ≤ i → None ≡ lowest_unasked d c.paths
lowest_lacks c workers paths drivers d k i view is none le =
    sym (subst (λ (z : Core). lowest_unasked d z.paths ≡ None) view
    (lowest_none d paths (λ p w there. none_before c workers paths drivers d k i view is none p w
    (let l : p < length paths = slice_get_within paths p w there in omega arith) there)))
