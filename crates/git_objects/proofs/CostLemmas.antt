-- What becomes of the cost of the objects that are kept.
use Rattle.std.proofs.Common.{◌≡◌, ℕ, zero, suc, ◌+◌, ◌-◌, ◌≤◌, Bool, List, [], ◌∷◌, take, Option, Some, None, unwrap_or, ap, subst, arith}
use Rattle.std.specs.Option.{option_map, option_map_or}
use Rattle.std.specs.List.{slice_get}
use Rattle.std.specs.Map.{values_of, lookup, remove_entry, lookup_entry}
use Rattle.std.proofs.lemmas.List.Sums.{sum_by-cons}
use Rattle.std.proofs.lemmas.Map.Entries.{sum_by-remove_entry}
use Rattle.lru.specs.LruCache.{LruCache, lru_cache, put_entries}
use Rattle.git_objects.specs.declared.object.Object.{Object}
use Rattle.git_objects.specs.declared.bases.Spot.{Spot}
use Rattle.git_objects.specs.Costs.{object_cost, whole_cost}

-- what is taken out and what is left cost as much as before
pub cost_taken :
    (test : Spot → Bool) (entries : List (Spot × Object)) (object : Object) → lookup test entries ≡ Some object
    → whole_cost (remove_entry test entries) + object_cost object ≡ whole_cost entries
cost_taken test entries object found =
    subst (λ x. whole_cost (remove_entry test entries) + unwrap_or (option_map object_cost x) 0 ≡ whole_cost entries)
    found (sum_by-remove_entry object_cost test entries)

pub cost_left :
    (test : Spot → Bool) (entries : List (Spot × Object))
    → whole_cost (remove_entry test entries) ≤ whole_cost entries
cost_left test entries = omega (arith, sum_by-remove_entry object_cost test entries)

-- a cache out of which what was there is taken costs no more than before
pub cost_removed :
    (test : Spot → Bool) (cache after : LruCache Spot Object)
    → after ≡ lru_cache (remove_entry test cache.entries) cache.cap
    → whole_cost after.entries ≤ whole_cost cache.entries
cost_removed test cache after is =
    omega (arith, ap (λ x. whole_cost x.entries) is, cost_left test cache.entries)

-- the first entries cost no more than all, and with the next one too
pub cost_first : (n : ℕ) (entries : List (Spot × Object)) → whole_cost (take n entries) ≤ whole_cost entries
cost_first zero entries = omega arith
cost_first (suc n) [] = omega arith
cost_first (suc n) (e ∷ entries) =
    omega (
      arith,
      sum_by-cons object_cost e.1 (values_of (take n entries)),
      sum_by-cons object_cost e.1 (values_of entries),
      cost_first n entries,
    )

pub cost_popped :
    (n : ℕ) (entries : List (Spot × Object)) (e : Spot × Object) → slice_get entries n ≡ Some e
    → whole_cost (take n entries) + object_cost e.1 ≤ whole_cost entries
cost_popped zero [] e found = cc
cost_popped (suc n) [] e found = cc
cost_popped zero (f ∷ entries) e found =
    let same : f ≡ e = cc in
    omega (arith, sum_by-cons object_cost f.1 (values_of entries), ap (λ x. object_cost x.1) same)
cost_popped (suc n) (f ∷ entries) e found =
    omega (
      arith,
      sum_by-cons object_cost f.1 (values_of (take n entries)),
      sum_by-cons object_cost f.1 (values_of entries),
      cost_popped n entries e found,
    )

-- a cache into which an object is put costs at most as much more as the object
cost_after :
    (test : Spot → Bool) (entries : List (Spot × Object)) (n : ℕ) (spot : Spot) (object : Object)
    (o : Option (Spot × Object))
    → whole_cost (option_map_or (λ e. (e.0, object) ∷ remove_entry test entries) o ((spot, object) ∷ take n entries))
    ≤ whole_cost entries + object_cost object
cost_after test entries n spot object None =
    omega (arith, sum_by-cons object_cost object (values_of (take n entries)), cost_first n entries)
cost_after test entries n spot object (Some e) =
    omega (arith, sum_by-cons object_cost object (values_of (remove_entry test entries)), cost_left test entries)

pub cost_put :
    (equal : Spot → Spot → Bool) (cache after : LruCache Spot Object) (spot : Spot) (object : Object)
    → after ≡ lru_cache (put_entries equal cache spot object) cache.cap
    → whole_cost after.entries ≤ whole_cost cache.entries + object_cost object
cost_put equal cache after spot object is =
    omega (
      arith,
      ap (λ x. whole_cost x.entries) is,
      cost_after (equal spot) cache.entries (cache.cap - 1) spot object (lookup_entry (equal spot) cache.entries),
    )
