-- Each path of an index can be looked at: it is text if its file is stored, and its driver can be asked for it.
use Rattle.std.proofs.Common.{◌≡◌, ℕ, suc, ◌+◌, ◌^◌, ◌<◌, ◌≤◌, Bool, true, false, List, [], ◌∷◌, length, map, codes, Option, Some, None, Result, Ok, Err, refl, sym, subst, ◌∙◌, arith}
use Rattle.std.specs.Prelude.{◌||◌, ◌==◌, not, nat_lt, if◌then◌else◌}
use Rattle.std.specs.List.{AllByRecursion}
use Rattle.std.specs.Str.{bytes_eq, is_utf8}
use Rattle.std.proofs.lemmas.Str.{IsUtf8-from_is_utf8}
use Rattle.byte_path.specs.Path.{path_fault, first_fault, parts}
use Rattle.byte_path.specs.declared.path.PathFault.{PathFault}
use Rattle.byte_path.specs.declared.path.PathFault.TheVariants.{Empty, TooLong}
use Rattle.git_index.specs.declared.entry.Entry.{Entry}
use Rattle.git_index.specs.declared.entry.Mode.{Mode}
use Rattle.git_index.specs.declared.entry.Mode.TheVariants as mode
use Rattle.git_index.specs.Spelling.{IsEntry}
use Rattle.attr_line.specs.declared.state.AttrState.{AttrState}
use Rattle.attr_line.specs.declared.state.AttrState.TheVariants as state
use Rattle.attr_stack.specs.declared.files.AttrFiles.{AttrFiles}
use Rattle.settings_view.specs.declared.view.Driver.{Driver}
use Rattle.settings_view.specs.declared.view.Settings.{Settings}
use Rattle.tree_encoding.specs.declared.encoding.Encoding.{Encoding}
use Rattle.tree_encoding.specs.declared.encoding.UnknownEncoding.{UnknownEncoding}
use Rattle.tree_encoding.specs.Named.{encoding_of}
use Rattle.checkout_core.specs.declared.path.Start.{Start}
use Rattle.checkout_core.specs.declared.path.Start.TheVariants as start
use Rattle.checkout_plan.specs.Paths.{start_by, start_at, start_named, filter_start, first_entries_after}
use Rattle.checkin_paths.specs.declared.path.Storing.{Storing}
use Rattle.checkin_paths.specs.declared.path.Way.TheVariants as way
use Rattle.checkin_paths.specs.Paths.{is_kept, state_at, way_by, encoded_way, way_of_mode, checkin_path, checkin_paths}
use Rattle.checkin_paths.specs.Looks.{IsAskableBy, IsOpenBy, IsOpen}
use Rattle.checkin_paths.proofs.KeptPaths.{is_gitlink, kept_is_left_out}

not_empty : (path : List ℕ) → path_fault path ≡ None → 1 ≤ length path
unfolding path_fault
not_empty [] is = absurd cc
not_empty (x ∷ xs) is = omega arith

long_by : (empty long : Bool) (rest : Option PathFault) → (if empty then Some Empty else if long then Some TooLong else rest) ≡ None → long ≡ false
long_by true long rest is = absurd cc
long_by false true rest is = absurd cc
long_by false false rest is = refl

not_long : (path : List ℕ) → path_fault path ≡ None → length path ≤ 4096
unfolding path_fault
not_long path is = let short : nat_lt 4096 (length path) ≡ false = long_by (length path == 0) (nat_lt 4096 (length path)) (first_fault (parts path)) is in grind (arith, short)

last_of : (a b c d text : Bool) → (not a || b || c || d || not text) ≡ false → text ≡ true
last_of true false false false true is = refl
last_of true false false false false is = absurd cc
last_of true false false true text is = absurd cc
last_of true false true d text is = absurd cc
last_of true true c d text is = absurd cc
last_of false b c d text is = absurd cc

named_place : (place : ℕ) (ds : List Driver) (name : List ℕ) (at : ℕ) (required : Bool) → start_named place ds name ≡ start.Desk at required → at < place + length ds
named_place place [] name at required is = absurd cc
named_place place (d ∷ ds) name at required is = by (bytes_eq d.name name) (λ later. named_place (suc place) ds name at required later) is
  where
    by_command : (process : Option (List ℕ)) (needed : Bool) → start_by place process needed ≡ start.Desk at required → at < place + length (d ∷ ds)
    by_command (Some text) needed is = let here : place ≡ at = cc in omega (arith, here)
    by_command None true is = absurd cc
    by_command None false is = absurd cc

    by : (t : Bool) → (start_named (suc place) ds name ≡ start.Desk at required → at < suc place + length ds) → (if t then start_at place d else start_named (suc place) ds name) ≡ start.Desk at required → at < place + length (d ∷ ds)
    by true rest is = by_command d.process d.required is
    by false rest is = let later : at < suc place + length ds = rest is in omega (arith, later)

filter_place : (ds : List Driver) (s : AttrState) (at : ℕ) (required : Bool) → filter_start ds s ≡ start.Desk at required → at < length ds
filter_place ds (state.Value name) at required is = let found : at < 0 + length ds = named_place 0 ds name at required is in omega (arith, found)
filter_place ds state.Set at required is = absurd cc
filter_place ds state.Unset at required is = absurd cc
filter_place ds state.Unspecified at required is = absurd cc

module _ (ds : List Driver) (path : List ℕ) (text : is_utf8 path ≡ true) (some : 1 ≤ length path) (within : length path ≤ 4096) where
  way_opens : (begin : Start) (storing : Storing) → storing.driver ≡ None → ((at : ℕ) (required : Bool) → begin ≡ start.Desk at required → at < length ds) → IsOpenBy (length ds) (way_by begin storing) path
  way_opens (start.Done v) storing none places = tt
  way_opens start.Pool storing none places = (IsUtf8-from_is_utf8 path text, subst (IsAskableBy (length ds) path) (sym none) tt)
  way_opens (start.Desk at required) storing none places = (IsUtf8-from_is_utf8 path text, record { place = places at required refl; some = some; within = within })

  encoded_opens : (encoding : Result (Option Encoding) UnknownEncoding) (begin : Start) (storing : Option Encoding → Storing) → ((x : Option Encoding) → (storing x).driver ≡ None)
      → ((at : ℕ) (required : Bool) → begin ≡ start.Desk at required → at < length ds) → IsOpenBy (length ds) (encoded_way encoding begin storing) path
  encoded_opens (Err unknown) begin storing none places = tt
  encoded_opens (Ok x) begin storing none places = way_opens begin (storing x) (none x) places

  mode_opens : (m : Mode) (files : AttrFiles) (settings : Settings) (e : Entry) → IsOpenBy (length ds) (way_of_mode m files ds settings e) path
  mode_opens mode.Link files settings e = (IsUtf8-from_is_utf8 path text, tt)
  mode_opens mode.Gitlink files settings e = tt
  mode_opens mode.Plain files settings e = encoded_opens (encoding_of (state_at files e (codes "working-tree-encoding"))) (filter_start ds (state_at files e (codes "filter"))) _ (λ x. refl) (filter_place ds (state_at files e (codes "filter")))
  mode_opens mode.Executable files settings e = encoded_opens (encoding_of (state_at files e (codes "working-tree-encoding"))) (filter_start ds (state_at files e (codes "filter"))) _ (λ x. refl) (filter_place ds (state_at files e (codes "filter")))

one_open : (files : AttrFiles) (ds : List Driver) (settings : Settings) (e : Entry) → IsEntry e → IsOpen (length ds) (checkin_path files ds settings e)
one_open files ds settings e is = at (is_kept files settings e) refl
  where
    at : (t : Bool) → is_kept files settings e ≡ t → IsOpenBy (length ds) (if t then way.Kept else way_of_mode e.mode files ds settings e) e.path
    at true kept = tt
    at false kept = mode_opens ds e.path (last_of (e.stage == 0) (is_gitlink e.mode) e.sparse e.intent (is_utf8 e.path) (sym (kept_is_left_out files settings e) ∙ kept)) (not_empty e.path is.path) (not_long e.path is.path) e.mode files settings e

all_open : (files : AttrFiles) (ds : List Driver) (settings : Settings) (before : List ℕ) (es : List Entry) → AllByRecursion IsEntry es → AllByRecursion (IsOpen (length ds)) (map (checkin_path files ds settings) (first_entries_after before es))
all_open files ds settings before [] each = tt
all_open files ds settings before (e ∷ es) each = at (bytes_eq e.path before) (all_open files ds settings before es each.1) (all_open files ds settings e.path es each.1)
  where
    at : (t : Bool) → AllByRecursion (IsOpen (length ds)) (map (checkin_path files ds settings) (first_entries_after before es)) → AllByRecursion (IsOpen (length ds)) (map (checkin_path files ds settings) (first_entries_after e.path es))
        → AllByRecursion (IsOpen (length ds)) (map (checkin_path files ds settings) (if t then first_entries_after before es else e ∷ first_entries_after e.path es))
    at true same other = same
    at false same other = (one_open files ds settings e each.0, other)

-- each path of an index can be looked at
pub paths_are_open : (files : AttrFiles) (ds : List Driver) (settings : Settings) (es : List Entry) → AllByRecursion IsEntry es → AllByRecursion (IsOpen (length ds)) (checkin_paths files ds settings es)
paths_are_open files ds settings es each = all_open files ds settings [] es each

fewer : (files : AttrFiles) (ds : List Driver) (settings : Settings) (before : List ℕ) (es : List Entry) → length (map (checkin_path files ds settings) (first_entries_after before es)) ≤ length es
fewer files ds settings before [] = omega arith
fewer files ds settings before (e ∷ es) = at (bytes_eq e.path before) (fewer files ds settings before es) (fewer files ds settings e.path es)
  where
    at : (t : Bool) → length (map (checkin_path files ds settings) (first_entries_after before es)) ≤ length es → length (map (checkin_path files ds settings) (first_entries_after e.path es)) ≤ length es
        → length (map (checkin_path files ds settings) (if t then first_entries_after before es else e ∷ first_entries_after e.path es)) ≤ length (e ∷ es)
    at true same other = omega (arith, same)
    at false same other = omega (arith, other)

-- and there are few
pub paths_are_few : (files : AttrFiles) (ds : List Driver) (settings : Settings) (es : List Entry) → length es ≤ 100000 → length (checkin_paths files ds settings es) < 2 ^ 32
paths_are_few files ds settings es few = let rest : length (checkin_paths files ds settings es) ≤ length es = fewer files ds settings [] es in omega (arith, rest, few)
