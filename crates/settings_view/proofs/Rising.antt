-- The names of the drivers: they are in order, and each is one that some setting has.
use Rattle.std.proofs.Common.{◌≡◌, ℕ, Bool, true, false, ◌||◌, List, [], ◌∷◌, map, Option, Some, None, Result, Ok, Err, Ordering, fold, refl, ap, ◌∙◌}
use Rattle.std.proofs.lemmas.Cmp.{nat_list_cmp_total}
use Rattle.std.proofs.lemmas.Map.Keys.{sorted_head, sorted_tail}
use Rattle.std.proofs.lemmas.Map.Lookups.{exact_bytes}
use Rattle.std.specs.List.{AllByRecursion, list_any}
use Rattle.std.specs.List.Sorted.{IsStrictlySortedBy}
use Rattle.std.specs.Str.{bytes_eq}
use Rattle.std.specs.Ordering.{match_ordering, ordering_reverse}
use Rattle.std.specs.declared.cmp.Ordering.TheVariants.{Less, Equal, Greater}
use Rattle.git_config.specs.declared.setting.Setting.{Setting}
use Rattle.settings_view.specs.declared.drivers.SingleRun.{SingleRun}
use Rattle.settings_view.specs.declared.view.Driver.{Driver}
use Rattle.settings_view.specs.declared.fault.SettingFault.{SettingFault}
use Rattle.settings_view.specs.Fault.{◌>>=◌}
use Rattle.settings_view.specs.Drivers.{name_order, with_name, with_driver, driver_name, is_named, speaks_of, names_of, said_of, single_of, process_by, required_driver, drivers_named, drivers_told, IsRising, StandsByName}

IsAbove : List ℕ → List (List ℕ) → Type 0
IsAbove n names = AllByRecursion (λ m. name_order n m ≡ Less) names

rising : (n : List ℕ) (names : List (List ℕ)) → IsAbove n names → IsRising names → IsRising (n ∷ names)
unfolding IsAbove IsStrictlySortedBy
rising n names above rest = (above, rest)

above_more : (a b : List ℕ) (names : List (List ℕ)) → name_order a b ≡ Less → IsAbove b names → IsAbove a names
unfolding IsAbove
above_more a b [] less above = above
above_more a b (n ∷ names) less above = (nat_list_cmp_total.trans a b n less above.0, above_more a b names less above.1)

above_head : (n : List ℕ) (names : List (List ℕ)) → IsRising (n ∷ names) → IsAbove n names
unfolding IsAbove
above_head n names r = sorted_head name_order n names r

above_at : (n name m : List ℕ) (names : List (List ℕ)) (o : Ordering) → name_order n name ≡ Less → IsAbove n (m ∷ names) → IsAbove n (with_name name names)
    → IsAbove n (match_ordering o (name ∷ m ∷ names) (m ∷ names) (m ∷ with_name name names))
unfolding IsAbove
above_at n name m names Less less above later = (less, above)
above_at n name m names Equal less above later = above
above_at n name m names Greater less above later = (above.0, later)

above_with : (n name : List ℕ) (names : List (List ℕ)) → name_order n name ≡ Less → IsAbove n names → IsAbove n (with_name name names)
unfolding IsAbove
above_with n name [] less above = (less, above)
above_with n name (m ∷ names) less above = above_at n name m names (name_order name m) less above (above_with n name names less above.1)

rises_at : (name n : List ℕ) (names : List (List ℕ)) (o : Ordering) → name_order name n ≡ o → IsRising (n ∷ names) → IsRising (with_name name names)
    → IsRising (match_ordering o (name ∷ n ∷ names) (n ∷ names) (n ∷ with_name name names))
unfolding IsAbove
rises_at name n names Less is r later = rising name (n ∷ names) (is, above_more name n names is (above_head n names r)) r
rises_at name n names Equal is r later = r
rises_at name n names Greater is r later =
    let less : name_order n name ≡ Less = nat_list_cmp_total.antisymm n name ∙ ap ordering_reverse is in
    rising n (with_name name names) (above_with n name names less (above_head n names r)) later

with_name-rises : (name : List ℕ) (names : List (List ℕ)) → IsRising names → IsRising (with_name name names)
unfolding IsStrictlySortedBy
with_name-rises name [] r = (r, r)
with_name-rises name (n ∷ names) r = rises_at name n names (name_order name n) refl r (with_name-rises name names (sorted_tail name_order n names r))

with_driver-rises : (names : List (List ℕ)) (name : Option (List ℕ)) → IsRising names → IsRising (with_driver names name)
with_driver-rises names None r = r
with_driver-rises names (Some name) r = with_name-rises name names r

fold_rises : (settings : List Setting) (names : List (List ℕ)) → IsRising names → IsRising (fold (λ ns s. with_driver ns (driver_name s)) names settings)
fold_rises [] names r = r
fold_rises (s ∷ settings) names r = fold_rises settings (with_driver names (driver_name s)) (with_driver-rises names (driver_name s) r)

none_rises : IsRising []
unfolding IsStrictlySortedBy
none_rises = tt

names_of-rises : (settings : List Setting) → IsRising (names_of settings)
unfolding names_of
names_of-rises settings = fold_rises settings [] none_rises

-- ---- the drivers have these names

named_more : (name : List ℕ) (names : List (List ℕ)) (process : Option (List ℕ)) (required : Option Bool) (rest : Result (List Driver) SettingFault) (drivers : List Driver)
    → ((ds : List Driver) → rest ≡ Ok ds → map (λ d. d.name) ds ≡ names)
    → (required_driver name process required >>= λ d. rest >>= λ ds. Ok (d ∷ ds)) ≡ Ok drivers → map (λ d. d.name) drivers ≡ name ∷ names
named_more name names process None rest drivers later is = absurd (cc)
named_more name names process (Some required) (Err f) drivers later is = absurd (cc)
named_more name names process (Some required) (Ok ds) drivers later is =
    let e : drivers ≡ record { name = name; process = process; required = required } ∷ ds = cc in
    let rest : map (λ d. d.name) ds ≡ names = later ds refl in
    rw (e, rest) refl

named : (single : SingleRun) (settings : List Setting) (names : List (List ℕ)) (drivers : List Driver) → drivers_named single settings names ≡ Ok drivers → map (λ d. d.name) drivers ≡ names
named single settings [] drivers is = let e : drivers ≡ [] = cc in rw e refl
named single settings (name ∷ names) drivers is =
    named_more name names (process_by (said_of settings name).process (single_of single (said_of settings name))) (said_of settings name).required (drivers_named single settings names) drivers (λ ds. named single settings names ds) is

pub drivers_stand_by_name : (single : SingleRun) (settings : List Setting) (drivers : List Driver) → drivers_told single settings ≡ Ok drivers → StandsByName drivers
drivers_stand_by_name single settings drivers is = rw (named single settings (names_of settings) drivers is) (names_of-rises settings)

-- ---- a name is among them if some setting has it

once : (a b : Bool) → (a || b) ≡ (a || (a || b))
once true b = refl
once false b = refl

swapped : (a b c : Bool) → (a || (b || c)) ≡ (b || (a || c))
swapped true true c = refl
swapped true false c = refl
swapped false b c = refl

turned : (a b c : Bool) → ((a || b) || c) ≡ (b || (a || c))
turned true true c = refl
turned true false c = refl
turned false b c = refl

any_at : (q n m : List ℕ) (names : List (List ℕ)) (o : Ordering) → name_order n m ≡ o → list_any (λ x. bytes_eq x q) (with_name n names) ≡ (bytes_eq n q || list_any (λ x. bytes_eq x q) names)
    → list_any (λ x. bytes_eq x q) (match_ordering o (n ∷ m ∷ names) (m ∷ names) (m ∷ with_name n names)) ≡ (bytes_eq n q || list_any (λ x. bytes_eq x q) (m ∷ names))
any_at q n m names Less is later = refl
any_at q n m names Equal is later = rw (exact_bytes n m is) (once (bytes_eq m q) (list_any (λ x. bytes_eq x q) names))
any_at q n m names Greater is later = ap (λ (b : Bool). bytes_eq m q || b) later ∙ swapped (bytes_eq m q) (bytes_eq n q) (list_any (λ x. bytes_eq x q) names)

any_with : (q n : List ℕ) (names : List (List ℕ)) → list_any (λ x. bytes_eq x q) (with_name n names) ≡ (bytes_eq n q || list_any (λ x. bytes_eq x q) names)
any_with q n [] = refl
any_with q n (m ∷ names) = any_at q n m names (name_order n m) refl (any_with q n names)

any_driver : (q : List ℕ) (names : List (List ℕ)) (o : Option (List ℕ)) → list_any (λ x. bytes_eq x q) (with_driver names o) ≡ (is_named q o || list_any (λ x. bytes_eq x q) names)
any_driver q names None = refl
any_driver q names (Some n) = any_with q n names

or_false : (a : Bool) → a ≡ (a || false)
or_false true = refl
or_false false = refl

any_fold : (q : List ℕ) (settings : List Setting) (names : List (List ℕ))
    → list_any (λ x. bytes_eq x q) (fold (λ ns s. with_driver ns (driver_name s)) names settings) ≡ (list_any (λ x. bytes_eq x q) names || list_any (speaks_of q) settings)
any_fold q [] names = or_false (list_any (λ x. bytes_eq x q) names)
any_fold q (s ∷ settings) names =
    any_fold q settings (with_driver names (driver_name s))
    ∙ ap (λ (b : Bool). b || list_any (speaks_of q) settings) (any_driver q names (driver_name s))
    ∙ turned (is_named q (driver_name s)) (list_any (λ x. bytes_eq x q) names) (list_any (speaks_of q) settings)

pub any_name : (settings : List Setting) (q : List ℕ) → list_any (λ x. bytes_eq x q) (names_of settings) ≡ list_any (speaks_of q) settings
unfolding names_of
any_name settings q = any_fold q settings []
