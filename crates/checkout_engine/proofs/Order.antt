-- Files join in the order of the paths, each after the others.
use Rattle.std.proofs.Common.{◌≡◌, ◌⊎◌, ℕ, zero, suc, Bool, true, false, if◌then◌else◌, Ordering, Less, Equal, Greater, List, [], ◌∷◌, ◌++◌, map, ◌==◌, Option, Some, None, Result, Ok, Err, refl, sym, ap, subst, ◌∙◌, append_assoc, append-nil, inl, inr}
use Rattle.std.specs.Prelude.{slice_get}
use Rattle.std.specs.List.{list_all, AllByRecursion}
use Rattle.std.specs.Ordering.{nat_cmp, is_lt, ordering_reverse}
use Rattle.std.specs.Cmp.Lexicographic.{slice_cmp}
use Rattle.std.specs.Str.{bytes_eq}
use Rattle.std.proofs.lemmas.Cmp.{nat_list_cmp_total}
use Rattle.std.proofs.lemmas.Bool.{and_parts, and_from}
use Rattle.std.proofs.lemmas.Option.{same_Some}
use Rattle.std.proofs.lemmas.Slice.Eq.{bytes_eq-Decides}
use Rattle.edge_kit.specs.Told.{Told}
use Rattle.edge_kit.specs.Files.{with_file}
use Rattle.edge_kit.specs.declared.leaf_state.LeafState.{LeafState}
use Rattle.edge_kit.specs.declared.leaf_state.LeafState.TheVariants.{Fresh, Partly, Sealed, Gone, Broken, Stuck}
use Rattle.edge_kit.specs.declared.tree_file.TreeFile.{TreeFile}
use Rattle.git_index.specs.declared.entry.Entry.{Entry}
use Rattle.git_index.specs.Spelling.{pairwise, is_before, is_below, PathsAreOrdered}
use Rattle.checkout_core.specs.declared.verdict.Verdict.{Verdict}
use Rattle.checkout_core.specs.declared.verdict.Verdict.TheVariants as verdict
use Rattle.checkout_core.specs.declared.verdict.FailCause.TheVariants as fail
use Rattle.checkout_plan.specs.declared.path_plan.PathPlan.{PathPlan}
use Rattle.std.specs.Str.{is_utf8}
use Rattle.git_index.specs.declared.entry.Mode.{Mode}
use Rattle.git_index.specs.declared.entry.Mode.TheVariants as mode
use Rattle.attr_stack.specs.declared.files.OuterFiles.{OuterFiles}
use Rattle.attr_stack.specs.declared.files.AttrFiles.{AttrFiles}
use Rattle.settings_view.specs.declared.view.Settings.{Settings}
use Rattle.tree_encoding.specs.declared.encoding.UnknownEncoding.{UnknownEncoding}
use Rattle.convert_plan.specs.declared.conversion.Conversion.{Conversion}
use Rattle.checkout_core.specs.declared.path.Start.{Start}
use Rattle.checkout_core.specs.declared.path.Start.TheVariants as start
use Rattle.checkout_core.specs.declared.verdict.SkipCause.TheVariants as skip
use Rattle.checkout_plan.specs.AttributeFiles.{attribute_files}
use Rattle.checkout_plan.specs.Paths.{no_conversion, path_with, closed, converted, file_path, text_path, link_path, path_of_mode, asked_path, first_entries_after, first_entries, asked_paths, path_among, plan_of}
use Rattle.convert_plan.specs.Prepared.{prepared}
use Rattle.checkout_paths.specs.Cards.{precedes}
use Rattle.checkout_engine.proofs.LeftOut.{left_out_by}
use Rattle.checkout_engine.specs.Ends.{files_of}
use Rattle.checkout_paths.specs.Outcome.{Outcome, MayLeavePart, LeavesPart, LeavesFile, HasVerdict, HasDeskVerdict, HasOutcome, AreOutcomes}
use Rattle.checkout_paths.specs.Talks.{DriverTalk}
use Rattle.checkout_paths.specs.Writing.{joined, all_joined}

abbrev entry_precedes : Entry → Entry → Bool
entry_precedes d e = is_before d.path e.path

-- the path is the entry's, or comes before it
abbrev IsUpTo : List ℕ → Entry → Type 0
IsUpTo path e = (e.path ≡ path) ⊎ (is_before path e.path ≡ true)

up_to_below : PathsAreOrdered → (e : Entry) (es : List Entry) → list_all (is_below e) es ≡ true → AllByRecursion (IsUpTo e.path) es
up_to_below law e [] h = tt
up_to_below law e (f ∷ es) h =
    let p = and_parts (is_below e f) (list_all (is_below e) es) h in
    let first : IsUpTo e.path f = elim (law.entries e f p.0) [ inl before ↦ inr before | inr tied ↦ inl (sym tied.0) ] in
    (first, up_to_below law e es p.1)

-- if an entry has another path than the last one, its path comes after the last
other_is_behind : (path : List ℕ) (e : Entry) → bytes_eq e.path path ≡ false → IsUpTo path e → is_before path e.path ≡ true
other_is_behind path e other (inl same) = let no : true ≡ false = sym ((bytes_eq-Decides e.path path).1 same) ∙ other in absurd cc
other_is_behind path e other (inr before) = before

-- the first entries after a path come after each path up to it
first_is_behind : PathsAreOrdered → (b c : List ℕ) (es : List Entry) → (b ≡ c) ⊎ (is_before b c ≡ true) → AllByRecursion (IsUpTo c) es → pairwise is_below es ≡ true
    → list_all (λ q. is_before b q.path) (first_entries_after c es) ≡ true
first_is_behind law b c [] up all rise = refl
first_is_behind law b c (e ∷ es) up all rise = elim (bytes_eq e.path c) as (λ t. bytes_eq e.path c ≡ t
    → list_all (λ q. is_before b q.path) (if t then first_entries_after c es else e ∷ first_entries_after e.path es) ≡ true) [
      | true ↦ λ same. first_is_behind law b c es up all.1 (and_parts (list_all (is_below e) es) (pairwise is_below es) rise).1
      | false ↦ λ other.
          let parts = and_parts (list_all (is_below e) es) (pairwise is_below es) rise in
          let behind : is_before b e.path ≡ true = elim up [
            | inl same ↦ subst (λ (p : List ℕ). is_before p e.path ≡ true) (sym same) (other_is_behind c e other all.0)
            | inr before ↦ law.passes b c e.path before (other_is_behind c e other all.0)
          ] in
          and_from (is_before b e.path) (list_all (λ q. is_before b q.path) (first_entries_after e.path es)) behind (first_is_behind law b e.path es (inr behind) (up_to_below law e es parts.0) parts.1)
    ] refl

first_rise : PathsAreOrdered → (c : List ℕ) (es : List Entry) → pairwise is_below es ≡ true → pairwise entry_precedes (first_entries_after c es) ≡ true
first_rise law c [] rise = refl
first_rise law c (e ∷ es) rise = elim (bytes_eq e.path c) as (λ t. bytes_eq e.path c ≡ t
    → pairwise entry_precedes (if t then first_entries_after c es else e ∷ first_entries_after e.path es) ≡ true) [
      | true ↦ λ same. first_rise law c es (and_parts (list_all (is_below e) es) (pairwise is_below es) rise).1
      | false ↦ λ other.
          let parts = and_parts (list_all (is_below e) es) (pairwise is_below es) rise in
          and_from (list_all (λ q. is_before e.path q.path) (first_entries_after e.path es)) (pairwise entry_precedes (first_entries_after e.path es))
          (first_is_behind law e.path e.path es (inl refl) (up_to_below law e es parts.0) parts.1) (first_rise law e.path es parts.1)
    ] refl

-- the plan of an entry has its path
converted-path : (e : Entry) (begin : Start) (c : Result Conversion UnknownEncoding) → (converted e begin c).path ≡ e.path
converted-path e (start.Done v) (Ok c) = refl
converted-path e start.Pool (Ok c) = refl
converted-path e (start.Desk place required) (Ok c) = refl
converted-path e (start.Done v) (Err u) = refl
converted-path e start.Pool (Err u) = refl
converted-path e (start.Desk place required) (Err u) = refl

text_path-path : (files : AttrFiles) (settings : Settings) (e : Entry) → (text_path files settings e).path ≡ e.path
text_path-path files settings e = elim (is_utf8 e.path) as (λ t. (if t then file_path files settings e else closed e (verdict.Failed fail.NameNotText)).path ≡ e.path) [
  | true ↦ converted-path e _ _
  | false ↦ refl
]

link_path-path : (e : Entry) → (link_path e).path ≡ e.path
link_path-path e = elim (is_utf8 e.path) as (λ t. (if t then path_with e no_conversion start.Pool else closed e (verdict.Failed fail.NameNotText)).path ≡ e.path) [
  | true ↦ refl
  | false ↦ refl
]

path_of_mode-path : (m : Mode) (files : AttrFiles) (settings : Settings) (e : Entry) → (path_of_mode m files settings e).path ≡ e.path
path_of_mode-path mode.Plain files settings e = left_out_by (λ p. p.path ≡ e.path) e (text_path files settings e) (λ v. refl) (text_path-path files settings e)
path_of_mode-path mode.Executable files settings e = left_out_by (λ p. p.path ≡ e.path) e (text_path files settings e) (λ v. refl) (text_path-path files settings e)
path_of_mode-path mode.Link files settings e = left_out_by (λ p. p.path ≡ e.path) e (link_path e) (λ v. refl) (link_path-path e)
path_of_mode-path mode.Gitlink files settings e = refl

asked_path-path : (files : AttrFiles) (settings : Settings) (e : Entry) → (asked_path files settings e).path ≡ e.path
asked_path-path files settings e = elim (e.stage == 0) as (λ t. (if t then path_of_mode e.mode files settings e else closed e (verdict.Skipped skip.Unmerged)).path ≡ e.path) [
  | true ↦ path_of_mode-path e.mode files settings e
  | false ↦ refl
]

-- values that are made of entries, each with its entry's path, rise as the entries do
all_behind : (f : Entry → PathPlan) → ((e : Entry) → (f e).path ≡ e.path) → (d : Entry) (es : List Entry) → list_all (entry_precedes d) es ≡ true → list_all (precedes (f d)) (map f es) ≡ true
all_behind f same d [] all = refl
all_behind f same d (e ∷ es) all =
    let parts = and_parts (entry_precedes d e) (list_all (entry_precedes d) es) all in
    and_from (precedes (f d) (f e)) (list_all (precedes (f d)) (map f es)) (rw (same d, same e) parts.0) (all_behind f same d es parts.1)

map_rises : (f : Entry → PathPlan) → ((e : Entry) → (f e).path ≡ e.path) → (es : List Entry) → pairwise entry_precedes es ≡ true → pairwise precedes (map f es) ≡ true
map_rises f same [] rise = refl
map_rises f same (e ∷ es) rise =
    let parts = and_parts (list_all (entry_precedes e) es) (pairwise entry_precedes es) rise in
    and_from (list_all (precedes (f e)) (map f es)) (pairwise precedes (map f es)) (all_behind f same e es parts.0) (map_rises f same es parts.1)

map-map : (f : PathPlan → PathPlan) (g : Entry → PathPlan) (es : List Entry) → map f (map g es) ≡ map (λ (e : Entry). f (g e)) es
map-map f g [] = refl
map-map f g (e ∷ es) = ap (λ (ps : List PathPlan). f (g e) ∷ ps) (map-map f g es)

-- the paths of a plan rise
pub plan_rises : PathsAreOrdered → (es : List Entry) (settings : Settings) (outer : OuterFiles) (contents : List (List ℕ)) → pairwise is_below es ≡ true → pairwise precedes (plan_of es settings outer contents).paths ≡ true
plan_rises law es settings outer contents rise =
    let files = attribute_files outer es contents in
    let asked = asked_paths files settings es in
    let made : Entry → PathPlan = λ e. path_among asked (asked_path files settings e) in
    unfold plan_of in
    subst (λ (ps : List PathPlan). pairwise precedes ps ≡ true) (sym (map-map (path_among asked) (asked_path files settings) (first_entries es)))
    (map_rises made (λ e. asked_path-path files settings e) (first_entries es) (first_rise law [] es rise))

-- no path comes before the file
abbrev Follow : TreeFile → List PathPlan → Type 0
Follow f ps = AllByRecursion (λ p. is_before p.path f.path ≡ false) ps

-- no path comes before any of the files
abbrev AllFollow : List TreeFile → List PathPlan → Type 0
AllFollow fs ps = AllByRecursion (λ f. Follow f ps) fs

reversed : (o p : Ordering) → p ≡ ordering_reverse o → is_lt o ≡ true → is_lt p ≡ false
reversed Less p e h = rw e refl
reversed Equal p e h = absurd cc
reversed Greater p e h = absurd cc

not_before : (p q : List ℕ) → is_before p q ≡ true → is_before q p ≡ false
not_before p q h = reversed (slice_cmp nat_cmp p q) (slice_cmp nat_cmp q p) (nat_list_cmp_total.antisymm q p) h

-- a path that comes before all others has none of their names
first_apart : (p q : PathPlan) (xs : List PathPlan) (j : ℕ) → list_all (precedes p) xs ≡ true → slice_get xs j ≡ Some q → p.path ≡ q.path → ⊥
first_apart p q [] j all at same = absurd cc
first_apart p q (x ∷ xs) zero all at same =
    let parts = and_parts (precedes p x) (list_all (precedes p) xs) all in
    let named : x.path ≡ p.path = ap (λ (y : PathPlan). y.path) (same_Some x q at) ∙ sym same in
    let self : is_before p.path p.path ≡ true = subst (λ (path : List ℕ). is_before p.path path ≡ true) named parts.0 in
    let no : true ≡ false = sym self ∙ not_before p.path p.path self in
    absurd cc
first_apart p q (x ∷ xs) (suc j) all at same = first_apart p q xs j (and_parts (precedes p x) (list_all (precedes p) xs) all).1 at same

-- two places of one path are one
pub same_place : (ps : List PathPlan) → pairwise precedes ps ≡ true → (m n : ℕ) (p q : PathPlan) → slice_get ps m ≡ Some p → slice_get ps n ≡ Some q → p.path ≡ q.path → m ≡ n
same_place [] rise m n p q at later same = absurd cc
same_place (x ∷ xs) rise zero zero p q at later same = refl
same_place (x ∷ xs) rise zero (suc n) p q at later same =
    let parts = and_parts (list_all (precedes x) xs) (pairwise precedes xs) rise in
    absurd (first_apart x q xs n parts.0 later (ap (λ (y : PathPlan). y.path) (same_Some x p at) ∙ same))
same_place (x ∷ xs) rise (suc m) zero p q at later same =
    let parts = and_parts (list_all (precedes x) xs) (pairwise precedes xs) rise in
    absurd (first_apart x p xs m parts.0 at (ap (λ (y : PathPlan). y.path) (same_Some x q later) ∙ sym same))
same_place (x ∷ xs) rise (suc m) (suc n) p q at later same =
    let parts = and_parts (list_all (precedes x) xs) (pairwise precedes xs) rise in
    ap suc (same_place xs parts.1 m n p q at later same)

with_file-last : (f : TreeFile) (fs : List TreeFile) → AllByRecursion (λ g. is_before f.path g.path ≡ false) fs → with_file f fs ≡ fs ++ f ∷ []
with_file-last f [] all = refl
with_file-last f (g ∷ gs) all = rw all.0 (ap (λ (hs : List TreeFile). g ∷ hs) (with_file-last f gs all.1))

heads : (p : PathPlan) (f : TreeFile) (fs : List TreeFile) (ps : List PathPlan) → f.path ≡ p.path → AllFollow fs (p ∷ ps) → AllByRecursion (λ g. is_before f.path g.path ≡ false) fs
heads p f [] ps is all = tt
heads p f (g ∷ fs) ps is all = (subst (λ (path : List ℕ). is_before path g.path ≡ false) (sym is) all.0.0, heads p f fs ps is all.1)

tails : (p : PathPlan) (fs : List TreeFile) (ps : List PathPlan) → AllFollow fs (p ∷ ps) → AllFollow fs ps
tails p [] ps all = tt
tails p (g ∷ fs) ps all = (all.0.1, tails p fs ps all.1)

follows : (p : PathPlan) (f : TreeFile) (ps : List PathPlan) → f.path ≡ p.path → list_all (precedes p) ps ≡ true → Follow f ps
follows p f [] is h = tt
follows p f (q ∷ ps) is h =
    let parts = and_parts (precedes p q) (list_all (precedes p) ps) h in
    (subst (λ (path : List ℕ). is_before q.path path ≡ false) (sym is) (not_before p.path q.path parts.0), follows p f ps is parts.1)

one_more : (fs : List TreeFile) (f : TreeFile) (ps : List PathPlan) → AllFollow fs ps → Follow f ps → AllFollow (fs ++ f ∷ []) ps
one_more [] f ps all one = (one, tt)
one_more (g ∷ fs) f ps all one = (all.0, one_more fs f ps all.1 one)

-- no file, or one of that path
abbrev IsAt : List ℕ → Option TreeFile → Type 0
IsAt path None = Unit {0}
IsAt path (Some f) = f.path ≡ path

part_at : (path content : List ℕ) (file : Option TreeFile) → MayLeavePart path content file → IsAt path file
part_at path content None part = tt
part_at path content (Some f) part = part.0

-- the file of a path's outcome is that path's
part_is : (p : PathPlan) (content : List ℕ) (state : LeafState) (file : Option TreeFile) → LeavesPart p.path content state file → IsAt p.path file
part_is p content Gone file part = subst (λ (x : Option TreeFile). IsAt p.path x) (sym part) tt
part_is p content Stuck file part = part_at p.path content file part
part_is p content Fresh file part = absurd part
part_is p content Partly file part = absurd part
part_is p content (Sealed mark) file part = absurd part
part_is p content Broken file part = absurd part

file_has : (told : Told) (p : PathPlan) (o : Outcome) (v : Verdict) → HasVerdict told p o v → IsAt p.path o.file
file_has told p o (verdict.Skipped cause) has = absurd has
file_has told p o (verdict.Failed fail.NameNotText) has = absurd has
file_has told p o verdict.NoMemory has = subst (λ (x : Option TreeFile). IsAt p.path x) (sym has.2) tt
file_has told p o (verdict.Failed fail.ReadFailed) has = subst (λ (x : Option TreeFile). IsAt p.path x) (sym has.3) tt
file_has told p o (verdict.Failed (fail.Object k)) has = subst (λ (x : Option TreeFile). IsAt p.path x) (sym has.3) tt
file_has told p o (verdict.Failed fail.WriteFailed) (opened, (content, gives, (state, count, failed, counts, part))) = part_is p (prepared p.conversion p.object content).bytes state o.file part
file_has told p o (verdict.Written unencoded) (opened, counts, (content, gives, flag, file)) = subst (λ (x : Option TreeFile). IsAt p.path x) (sym file) refl
file_has told p o (verdict.Unfiltered cause unencoded) has = absurd has
file_has told p o (verdict.Failed (fail.Filter cause)) has = absurd has
file_has told p o (verdict.Failed fail.Missing) has = absurd has
file_has told p o (verdict.Failed fail.NoProcess) has = absurd has
file_has told p o (verdict.Failed fail.UnknownEncoding) has = absurd has

no_file_at : (p : PathPlan) (file : Option TreeFile) → file ≡ None → IsAt p.path file
no_file_at p file none = subst (λ (x : Option TreeFile). IsAt p.path x) (sym none) tt

-- the same of a leaf that a desk gave up
left_at : (put : List ℕ → Type 0) (p : PathPlan) (state : LeafState) (file : Option TreeFile) → LeavesFile put p.path state file → IsAt p.path file
left_at put p Fresh file left = no_file_at p file left
left_at put p Gone file left = no_file_at p file left
left_at put p Stuck None left = tt
left_at put p Stuck (Some f) left = left.2.0
left_at put p Partly file left = absurd left
left_at put p (Sealed mark) file left = absurd left
left_at put p Broken file left = absurd left

desk_file : (required : Bool) (d : ℕ) (t : DriverTalk) (n : ℕ) (told : Told) (p : PathPlan) (o : Outcome) (v : Verdict) → HasDeskVerdict required d t n told p o v → IsAt p.path o.file
desk_file required d t n told p o verdict.NoMemory (state, count, failed, counts, left) = left_at _ p state o.file left
desk_file required d t n told p o (verdict.Failed fail.ReadFailed) has = no_file_at p o.file has.2
desk_file required d t n told p o (verdict.Failed (fail.Object k)) has = no_file_at p o.file has.2
desk_file required d t n told p o (verdict.Failed fail.WriteFailed) (heard, state, count, failed, begun, counts, left) = left_at _ p state o.file left
desk_file required d t n told p o (verdict.Failed fail.Missing) has = no_file_at p o.file has.2
desk_file required d t n told p o (verdict.Failed (fail.Filter cause)) has = no_file_at p o.file has.3
desk_file required d t n told p o (verdict.Unfiltered cause unencoded) (free, heard, counts, ready, prepared, flag, file) = subst (λ (x : Option TreeFile). IsAt p.path x) (sym file) refl
desk_file required d t n told p o (verdict.Written unencoded) (heard, counts, ready, prepared, flag, answer, gave, file) = subst (λ (x : Option TreeFile). IsAt p.path x) (sym file) refl
desk_file required d t n told p o (verdict.Skipped cause) has = absurd has
desk_file required d t n told p o (verdict.Failed fail.NameNotText) has = absurd has
desk_file required d t n told p o (verdict.Failed fail.NoProcess) has = absurd has
desk_file required d t n told p o (verdict.Failed fail.UnknownEncoding) has = absurd has

file_is : (object : List ℕ → Told) (talks : List DriverTalk) (n : ℕ) (p : PathPlan) (o : Outcome) (s : Start) → HasOutcome object talks s n p o → IsAt p.path o.file
file_is object talks n p o (start.Done v) has = no_file_at p o.file has.1.file
file_is object talks n p o start.Pool has = file_has (object p.object) p o o.verdict has
file_is object talks n p o (start.Desk d required) (text, t, there, has) = desk_file required d t n (object p.object) p o o.verdict has

abbrev with_part : Option TreeFile → List TreeFile → List TreeFile
with_part None fs = fs
with_part (Some f) fs = f ∷ fs

files_of-cons : (o : Outcome) (os : List Outcome) → files_of (o ∷ os) ≡ with_part o.file (files_of os)
files_of-cons o os = elim o.file as (λ file. o.file ≡ file → files_of (o ∷ os) ≡ with_part file (files_of os)) [
  | None ↦ λ is. rw is refl
  | Some f ↦ λ is. rw is refl
] refl

joined_in_order : (object : List ℕ → Told) (talks : List DriverTalk) (n : ℕ) (ps : List PathPlan) (os : List Outcome) (fs : List TreeFile) → pairwise precedes ps ≡ true → AreOutcomes object talks n ps os → AllFollow fs ps
    → all_joined os fs ≡ fs ++ files_of os
joined_in_order object talks n [] [] fs rise fit all = sym (append-nil fs)
joined_in_order object talks n [] (o ∷ os) fs rise fit all = absurd fit
joined_in_order object talks n (p ∷ ps) [] fs rise fit all = absurd fit
joined_in_order object talks n (p ∷ ps) (o ∷ os) fs rise fit all =
    let parts = and_parts (list_all (precedes p) ps) (pairwise precedes ps) rise in
    let step : (file : Option TreeFile) → IsAt p.path file → all_joined os (joined file fs) ≡ fs ++ with_part file (files_of os) = λ file. elim file as (λ x. IsAt p.path x → all_joined os (joined x fs) ≡ fs ++ with_part x (files_of os)) [
      | None ↦ λ part. joined_in_order object talks (suc n) ps os fs parts.1 fit.1 (tails p fs ps all)
      | Some f ↦ λ part.
          ap (all_joined os) (with_file-last f fs (heads p f fs ps part all))
          ∙ joined_in_order object talks (suc n) ps os (fs ++ f ∷ []) parts.1 fit.1 (one_more fs f ps (tails p fs ps all) (follows p f ps part parts.0))
          ∙ append_assoc fs (f ∷ []) (files_of os)
    ] in
    step o.file (file_is object talks n p o p.start fit.0) ∙ ap (λ (gs : List TreeFile). fs ++ gs) (sym (files_of-cons o os))

-- the files of outcomes, in the order of the paths, are what joins an empty worktree
pub all_joined-files_of : (object : List ℕ → Told) (talks : List DriverTalk) (n : ℕ) (ps : List PathPlan) (os : List Outcome) → pairwise precedes ps ≡ true → AreOutcomes object talks n ps os → all_joined os [] ≡ files_of os
all_joined-files_of object talks n ps os rise fit = joined_in_order object talks n ps os [] rise fit tt
