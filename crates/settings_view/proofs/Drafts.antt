-- What is said of each driver, setting by setting, and the drivers that this gives.
use Rattle.std.proofs.Common.{◌≡◌, ℕ, suc, ◌+◌, ◌<◌, Bool, true, false, cond, if◌then◌else◌, List, [], ◌∷◌, ◌++◌, length, map, get_or, take, codes, Option, Some, None, Result, Ok, Err, Ordering, refl, sym, ap, ◌∙◌, append_assoc, arith}
use Rattle.std.proofs.lemmas.Grind.{common_steps}
use Rattle.std.proofs.lemmas.List.{append-nil}
use Rattle.std.proofs.lemmas.List.Sums.{fold_more}
use Rattle.std.proofs.lemmas.Cmp.{nat_list_cmp_total}
use Rattle.std.proofs.lemmas.Slice.Eq.{bytes_eq-Decides}
use Rattle.std.proofs.lemmas.Map.Text.{btree_map_updates_str}
use Rattle.std.proofs.lemmas.Map.Entries.{btree_map_get_place}
use Rattle.std.specs.Borrow.{Bor}
use Rattle.std.specs.BTreeMap.{insert_entry, get_by, UpdatesBy}
use Rattle.std.specs.Cmp.{IsTotalOrder}
use Rattle.std.specs.Option.{unwrap_or}
use Rattle.std.specs.List.{slice_get}
use Rattle.std.specs.Str.{bytes_eq}
use Rattle.std.specs.Ordering.{nat_cmp, match_ordering}
use Rattle.std.specs.declared.cmp.Ordering.TheVariants.{Less, Equal, Greater}
use Rattle.std.specs.Cmp.Lexicographic.{slice_cmp}
use Rattle.git_config.specs.declared.setting.Setting.{Setting}
use Rattle.settings_view.specs.declared.drivers.Draft.{Draft}
use Rattle.settings_view.specs.declared.drivers.SingleRun.{SingleRun}
use Rattle.settings_view.specs.declared.view.Driver.{Driver}
use Rattle.settings_view.specs.declared.fault.SettingFault.{SettingFault}
use Rattle.settings_view.specs.Fault.{◌>>=◌}
use Rattle.settings_view.specs.Keys.{later, last_value}
use Rattle.settings_view.specs.Drivers.{Said, driver_name, is_driver_key, with_name, with_driver, names_of, command_told, required_told, said_of, driver_from, drivers_named, drivers_told}
use Rattle.settings_view.specs.Seen.{Drafts, IsInOrder, said_by, said_if, said_at, said_with, said_after, names_in, name_cmp, entry_seen, entries_seen, entry_of}
use Rattle.settings_view.proofs.Last.{last_value_more}

-- ---- one more setting

pub names_none : names_of [] ≡ []
unfolding names_of
names_none = refl

pub names_of_more : (xs : List Setting) (i : ℕ) (d : Setting) → i < length xs → names_of (take (i + 1) xs) ≡ with_driver (names_of (take i xs)) (driver_name (get_or xs i d))
unfolding names_of
names_of_more xs i d lt = fold_more (λ names s. with_driver names (driver_name s)) [] xs i d lt

pub said_none : (name : List ℕ) → said_of [] name ≡ said_if None
unfolding said_of last_value
said_none name = refl

process_more : (s : Setting) (name : List ℕ) (before : Option (Option (List ℕ))) (said : Said) → command_told before ≡ said.process
    → command_told (later (is_driver_key name (codes "process")) before s) ≡ (said_after s name said).process
unfolding is_driver_key
process_more s name before said e = grind (arith, common_steps)

smudge_more : (s : Setting) (name : List ℕ) (before : Option (Option (List ℕ))) (said : Said) → command_told before ≡ said.smudge
    → command_told (later (is_driver_key name (codes "smudge")) before s) ≡ (said_after s name said).smudge
unfolding is_driver_key
smudge_more s name before said e = grind (arith, common_steps)

clean_more : (s : Setting) (name : List ℕ) (before : Option (Option (List ℕ))) (said : Said) → command_told before ≡ said.clean
    → command_told (later (is_driver_key name (codes "clean")) before s) ≡ (said_after s name said).clean
unfolding is_driver_key
clean_more s name before said e = grind (arith, common_steps)

required_more : (s : Setting) (name : List ℕ) (before : Option (Option (List ℕ))) (said : Said) → required_told before ≡ said.required
    → required_told (later (is_driver_key name (codes "required")) before s) ≡ (said_after s name said).required
unfolding is_driver_key
required_more s name before said e = grind (arith, common_steps)

said_as : Option (List ℕ) → Option (List ℕ) → Option (List ℕ) → Option Bool → Said
said_as process smudge clean required = record { process = process; smudge = smudge; clean = clean; required = required }

said_is : (a b : Said) → a.process ≡ b.process → a.smudge ≡ b.smudge → a.clean ≡ b.clean → a.required ≡ b.required → a ≡ b
unfolding said_as
said_is a b p m l r =
    ap (λ (x : Option (List ℕ)). said_as x a.smudge a.clean a.required) p ∙ ap (λ (x : Option (List ℕ)). said_as b.process x a.clean a.required) m
    ∙ ap (λ (x : Option (List ℕ)). said_as b.process b.smudge x a.required) l ∙ ap (λ (x : Option Bool). said_as b.process b.smudge b.clean x) r

pub said_of_more : (xs : List Setting) (i : ℕ) (d : Setting) (name : List ℕ) → i < length xs → said_of (take (i + 1) xs) name ≡ said_after (get_or xs i d) name (said_of (take i xs) name)
unfolding said_of
said_of_more xs i d name lt =
    said_is _ _
    (ap command_told (last_value_more (is_driver_key name (codes "process")) xs i d lt) ∙ process_more (get_or xs i d) name _ (said_of (take i xs) name) refl)
    (ap command_told (last_value_more (is_driver_key name (codes "smudge")) xs i d lt) ∙ smudge_more (get_or xs i d) name _ (said_of (take i xs) name) refl)
    (ap command_told (last_value_more (is_driver_key name (codes "clean")) xs i d lt) ∙ clean_more (get_or xs i d) name _ (said_of (take i xs) name) refl)
    (ap required_told (last_value_more (is_driver_key name (codes "required")) xs i d lt) ∙ required_more (get_or xs i d) name _ (said_of (take i xs) name) refl)

-- ---- one setting put into a map

abbrev pub names_of_entries : List (Bor (List ℕ) × Draft) → List (List ℕ)
names_of_entries es = map (λ e. e.0.now) es

names_insert_at : (o : Ordering) (k : Bor (List ℕ)) (v : Draft) (e : Bor (List ℕ) × Draft) (es rest : List (Bor (List ℕ) × Draft)) (names : List (List ℕ)) → names_of_entries rest ≡ names
    → names_of_entries (match_ordering o ((k, v) ∷ e ∷ es) ((e.0, v) ∷ es) (e ∷ rest)) ≡ match_ordering o (k.now ∷ e.0.now ∷ names_of_entries es) (e.0.now ∷ names_of_entries es) (e.0.now ∷ names)
names_insert_at Less k v e es rest names is = refl
names_insert_at Equal k v e es rest names is = refl
names_insert_at Greater k v e es rest names is = ap (λ (ns : List (List ℕ)). e.0.now ∷ ns) is

names_insert : (k : Bor (List ℕ)) (v : Draft) (es : List (Bor (List ℕ) × Draft)) → names_of_entries (insert_entry name_cmp es k v) ≡ with_name k.now (names_of_entries es)
names_insert k v [] = refl
names_insert k v (e ∷ es) = names_insert_at (slice_cmp nat_cmp k.now e.0.now) k v e es (insert_entry name_cmp es k v) (with_name k.now (names_of_entries es)) (names_insert k v es)

pub names_taken : (m n : Drafts) (s : Setting) (k : Bor (List ℕ)) (v : Draft) → Some k.now ≡ driver_name s → n.entries ≡ insert_entry name_cmp m.entries k v → names_in n ≡ with_driver (names_in m) (driver_name s)
names_taken m n s k v named is = rw (is, ← named) (names_insert k v m.entries)

pub said_by-unwrap_or : (o : Option Draft) → said_by (unwrap_or o (record { process = None; smudge = None; clean = None; required = Some false })) ≡ said_if o
said_by-unwrap_or None = refl
said_by-unwrap_or (Some d) = refl

said_put : (t : Bool) (before : Option Draft) (w : Draft) (s : Setting) → (t ≡ true → said_by w ≡ said_with s (said_if before)) → said_if (cond t (Some w) before) ≡ (if t then said_with s (said_if before) else said_if before)
said_put true before w s is = is refl
said_put false before w s is = refl

pub said_taken : (m n : Drafts) (s : Setting) (name : List ℕ) (w : Draft) → Some name ≡ driver_name s → said_by w ≡ said_with s (said_at m name)
    → UpdatesBy name_cmp (λ k. slice_cmp nat_cmp name k.now) m n (Some w) → (q : List ℕ) → said_at n q ≡ said_after s q (said_at m q)
said_taken m n s name w named is updates q =
    let here : bytes_eq name q ≡ true → said_by w ≡ said_with s (said_at m q) = λ same. is ∙ ap (λ (x : List ℕ). said_with s (said_at m x)) ((bytes_eq-Decides name q).0 same) in
    let found : get_by (λ k. slice_cmp nat_cmp q k.now) n ≡ cond (bytes_eq name q) (Some w) (get_by (λ k. slice_cmp nat_cmp q k.now) m) = btree_map_updates_str name m n (Some w) updates q in
    ap said_if found ∙ said_put (bytes_eq name q) (get_by (λ k. slice_cmp nat_cmp q k.now) m) w s here ∙ rw (← named) refl

-- ---- the whole map

entries_by_place : (es : List (Bor (List ℕ) × Draft)) (said : List ℕ → Said) → ((i : ℕ) (k : Bor (List ℕ)) (v : Draft) → slice_get es i ≡ Some (k, v) → said_by v ≡ said k.now)
    → map entry_seen es ≡ map (λ name. (name, said name)) (names_of_entries es)
entries_by_place [] said at = refl
entries_by_place (e ∷ es) said at =
    let later : map entry_seen es ≡ map (λ name. (name, said name)) (names_of_entries es) = entries_by_place es said (λ i k v is. at (suc i) k v is) in
    let here : said_by e.1 ≡ said e.0.now = at 0 e.0 e.1 refl in
    rw (later, here) refl

name_cmp_total : IsTotalOrder name_cmp
name_cmp_total = record {
  antisymm = λ x y. nat_list_cmp_total.antisymm x.now y.now;
  trans = λ x y z. nat_list_cmp_total.trans x.now y.now z.now;
  congr = λ x y z. nat_list_cmp_total.congr x.now y.now z.now;
}

pub entries_are : (m : Drafts) (settings : List Setting) → IsInOrder m → names_in m ≡ names_of settings → ((name : List ℕ) → said_at m name ≡ said_of settings name)
    → entries_seen m ≡ map (entry_of settings) (names_of settings)
entries_are m settings ordered names said =
    let at : (i : ℕ) (k : Bor (List ℕ)) (v : Draft) → slice_get m.entries i ≡ Some (k, v) → said_by v ≡ said_of settings k.now =
    λ i k v is. sym (ap said_if (btree_map_get_place name_cmp_total m i k v ordered is)) ∙ said k.now in
    entries_by_place m.entries (said_of settings) at ∙ ap (map (entry_of settings)) names

-- ---- the drivers

abbrev pub drivers_seen : SingleRun → List (List ℕ × Said) → Result (List Driver) SettingFault
drivers_seen single [] = Ok []
drivers_seen single (e ∷ es) = do
  driver ← driver_from single e.0 e.1
  drivers ← drivers_seen single es
  Ok (driver ∷ drivers)

drivers_seen-map : (single : SingleRun) (settings : List Setting) (names : List (List ℕ)) → drivers_seen single (map (entry_of settings) names) ≡ drivers_named single settings names
drivers_seen-map single settings [] = refl
drivers_seen-map single settings (name ∷ names) = rw (drivers_seen-map single settings names) refl

abbrev pub drivers_behind : SingleRun → List Driver → List (List ℕ × Said) → Result (List Driver) SettingFault
drivers_behind single done es = drivers_seen single es >>= λ drivers. Ok (done ++ drivers)

behind_step : (done : List Driver) (driver : Driver) (r : Result (List Driver) SettingFault)
    → (r >>= λ drivers. Ok (driver ∷ drivers)) >>= (λ drivers. Ok (done ++ drivers)) ≡ (r >>= λ drivers. Ok ((done ++ driver ∷ []) ++ drivers))
behind_step done driver (Ok drivers) = ap Ok (sym (append_assoc done (driver ∷ []) drivers))
behind_step done driver (Err f) = refl

pub driver_more : (single : SingleRun) (done : List Driver) (driver : Driver) (e : List ℕ × Said) (es : List (List ℕ × Said)) → driver_from single e.0 e.1 ≡ Ok driver → drivers_behind single done (e ∷ es) ≡ drivers_behind single (done ++ driver ∷ []) es
driver_more single done driver e es is = rw is (behind_step done driver (drivers_seen single es))

pub driver_fails : (single : SingleRun) (done : List Driver) (f : SettingFault) (e : List ℕ × Said) (es : List (List ℕ × Said)) → driver_from single e.0 e.1 ≡ Err f → drivers_behind single done (e ∷ es) ≡ Err f
driver_fails single done f e es is = rw is refl

pub driver_done : (single : SingleRun) (done : List Driver) → drivers_behind single done [] ≡ Ok done
driver_done single done = ap Ok (append-nil done)

behind_none : (r : Result (List Driver) SettingFault) → (r >>= λ drivers. Ok ([] ++ drivers)) ≡ r
behind_none (Ok drivers) = refl
behind_none (Err f) = refl

pub driver_none : (single : SingleRun) (settings : List Setting) (names : List (List ℕ)) → drivers_named single settings names ≡ drivers_behind single [] (map (entry_of settings) names)
driver_none single settings names = sym (drivers_seen-map single settings names) ∙ sym (behind_none (drivers_seen single (map (entry_of settings) names)))

-- ---- the loop over the settings

pub names_start : (m : Drafts) → m.entries ≡ [] → names_in m ≡ names_of []
names_start m empty = rw (empty, names_none) refl

pub said_start : (m : Drafts) → m.entries ≡ [] → (name : List ℕ) → said_at m name ≡ said_of [] name
said_start m empty name = rw (empty, said_none) refl

pub names_step : (xs : List Setting) (i : ℕ) (s : Setting) (m n : Drafts) → i < length xs → s ≡ get_or xs i s → names_in m ≡ names_of (take i xs)
    → names_in n ≡ with_driver (names_in m) (driver_name s) → names_in n ≡ names_of (take (i + 1) xs)
names_step xs i s m n lt is before after =
    after ∙ ap (λ (names : List (List ℕ)). with_driver names (driver_name s)) before ∙ ap (λ (x : Setting). with_driver (names_of (take i xs)) (driver_name x)) is ∙ sym (names_of_more xs i s lt)

pub said_step : (xs : List Setting) (i : ℕ) (s : Setting) (m n : Drafts) → i < length xs → s ≡ get_or xs i s → ((name : List ℕ) → said_at m name ≡ said_of (take i xs) name)
    → ((name : List ℕ) → said_at n name ≡ said_after s name (said_at m name)) → (name : List ℕ) → said_at n name ≡ said_of (take (i + 1) xs) name
said_step xs i s m n lt is before after name =
    after name ∙ ap (said_after s name) (before name) ∙ ap (λ (x : Setting). said_after x name (said_of (take i xs) name)) is ∙ sym (said_of_more xs i s name lt)

-- ---- the loop over the map

pub driver_start : (single : SingleRun) (settings : List Setting) (m : Drafts) (es : List (Bor (List ℕ) × Draft)) (done : List Driver) → entries_seen m ≡ map (entry_of settings) (names_of settings) → es ≡ m.entries → done ≡ []
    → drivers_told single settings ≡ drivers_behind single done (map entry_seen es)
driver_start single settings m es done is all none = rw (all, none, is) (driver_none single settings (names_of settings))

pub driver_step : (single : SingleRun) (settings : List Setting) (done next : List Driver) (driver : Driver) (e : Bor (List ℕ) × Draft) (es rest : List (Bor (List ℕ) × Draft))
    → drivers_told single settings ≡ drivers_behind single done (map entry_seen es) → es ≡ e ∷ rest → driver_from single e.0.now (said_by e.1) ≡ Ok driver → next ≡ done ++ driver ∷ []
    → drivers_told single settings ≡ drivers_behind single next (map entry_seen rest)
driver_step single settings done next driver e es rest before taken is pushed =
    before ∙ ap (λ (xs : List (Bor (List ℕ) × Draft)). drivers_behind single done (map entry_seen xs)) taken ∙ driver_more single done driver (entry_seen e) (map entry_seen rest) is
    ∙ ap (λ (ds : List Driver). drivers_behind single ds (map entry_seen rest)) (sym pushed)

pub driver_end : (single : SingleRun) (settings : List Setting) (done : List Driver) (es : List (Bor (List ℕ) × Draft)) → drivers_told single settings ≡ drivers_behind single done (map entry_seen es) → es ≡ [] → drivers_told single settings ≡ Ok done
driver_end single settings done es before none = before ∙ ap (λ (xs : List (Bor (List ℕ) × Draft)). drivers_behind single done (map entry_seen xs)) none ∙ driver_done single done

pub driver_stop : (single : SingleRun) (settings : List Setting) (done : List Driver) (f : SettingFault) (e : Bor (List ℕ) × Draft) (es rest : List (Bor (List ℕ) × Draft))
    → drivers_told single settings ≡ drivers_behind single done (map entry_seen es) → es ≡ e ∷ rest → driver_from single e.0.now (said_by e.1) ≡ Err f → drivers_told single settings ≡ Err f
driver_stop single settings done f e es rest before taken is =
    before ∙ ap (λ (xs : List (Bor (List ℕ) × Draft)). drivers_behind single done (map entry_seen xs)) taken ∙ driver_fails single done f (entry_seen e) (map entry_seen rest) is
