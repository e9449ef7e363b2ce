-- Attribute files that are read one after the other.
use Rattle.std.proofs.Common.{◌≡◌, ℕ, ◌+◌, ◌<◌, Bool, true, cond, List, [], ◌∷◌, ◌++◌, length, map, get_or, take, fold, Some, Err, Ordering, refl, sym, ap, ◌∙◌, inl, inr, append_assoc, arith}
use Rattle.std.proofs.lemmas.Grind.{fold-append}
use Rattle.std.proofs.lemmas.List.{take_more, take_all, map-append}
use Rattle.std.proofs.lemmas.List.Elements.{filter-append}
use Rattle.std.proofs.lemmas.Map.Lookups.{exact_bytes}
use Rattle.std.specs.Borrow.{Bor}
use Rattle.std.specs.BTreeMap.{insert_entry}
use Rattle.std.specs.List.{slice_get, AllZip}
use Rattle.std.specs.Ordering.{nat_cmp, match_ordering}
use Rattle.std.specs.declared.cmp.Ordering.TheVariants.{Less, Equal, Greater}
use Rattle.std.specs.Cmp.Lexicographic.{slice_cmp}
use Rattle.edge_kit.specs.Told.{Told}
use Rattle.git_index.specs.declared.entry.Entry.{Entry}
use Rattle.attr_line.specs.declared.file.AttrFile.{AttrFile}
use Rattle.attr_stack.specs.declared.files.OuterFiles.{OuterFiles}
use Rattle.attr_stack.specs.declared.files.FileAt.{FileAt}
use Rattle.settings_view.specs.declared.view.Settings.{Settings}
use Rattle.checkout_plan.specs.declared.fault.PlanFault.{PlanFault}
use Rattle.checkout_plan.specs.declared.fault.PlanFault.TheVariants as fault
use Rattle.checkout_plan.specs.AttributeFiles.{is_attribute_file, attribute_entries, folder_of, file_at, files_at, with_file, attribute_files}
use Rattle.checkout_plan.specs.Making.{HasContent, IsFirstFault, HasPlanFault, GivesBack, blobs_of, blobs_to}
use Rattle.checkout_plan.specs.Seen.{Files, file_seen, files_seen, with_blob, Reads, ReadsAll, Fails, ReturnsFile}

abbrev pub folder_cmp : Bor (List ℕ) → Bor (List ℕ) → Ordering
folder_cmp a b = slice_cmp nat_cmp a.now b.now

-- ---- one file put into a map

put_at : (o : Ordering) (k : Bor (List ℕ)) (v : AttrFile) (e : Bor (List ℕ) × AttrFile) (es rest : List (Bor (List ℕ) × AttrFile)) (files : List FileAt) → slice_cmp nat_cmp k.now e.0.now ≡ o
    → map file_seen rest ≡ files
    → map file_seen (match_ordering o ((k, v) ∷ e ∷ es) ((e.0, v) ∷ es) (e ∷ rest)) ≡ match_ordering o (file_seen (k, v) ∷ file_seen e ∷ map file_seen es) (file_seen (k, v) ∷ map file_seen es) (file_seen e ∷ files)
put_at Less k v e es rest files is later = refl
put_at Equal k v e es rest files is later = ap (λ (folder : List ℕ). record { folder = folder; file = v } ∷ map file_seen es) (sym (exact_bytes k.now e.0.now is))
put_at Greater k v e es rest files is later = ap (λ (fs : List FileAt). file_seen e ∷ fs) later

put : (k : Bor (List ℕ)) (v : AttrFile) (es : List (Bor (List ℕ) × AttrFile)) → map file_seen (insert_entry folder_cmp es k v) ≡ with_file (map file_seen es) (file_seen (k, v))
put k v [] = refl
put k v (e ∷ es) = put_at (slice_cmp nat_cmp k.now e.0.now) k v e es (insert_entry folder_cmp es k v) (with_file (map file_seen es) (file_seen (k, v))) refl (put k v es)

-- ---- one entry

pub one_read : (object : List ℕ → Told) (e : Entry) (content : List ℕ) (m n : Files) (k : Bor (List ℕ)) (v : AttrFile) → is_attribute_file e ≡ true → HasContent (object e.name) e content
    → k.now ≡ folder_of e.path → v ≡ (file_at e content).file → n.entries ≡ insert_entry folder_cmp m.entries k v → Reads object (e ∷ []) (files_seen m) (files_seen n)
one_read object e content m n k v is has folder file entries = record {
  contents = content ∷ [];
  read = rw is (has, tt);
  stand = rw (is, entries) (put k v m.entries ∙ ap (λ (f : FileAt). with_file (map file_seen m.entries) f) (ap (λ (x : List ℕ). record { folder = x; file = v }) folder ∙ ap (λ (x : AttrFile). record { folder = folder_of e.path; file = x }) file));
}

-- ---- one list of entries after another

abbrev pub Zips : (List ℕ → Told) → List Entry → List (List ℕ) → Type 0
Zips object es contents = AllZip (λ e content. HasContent (object e.name) e content) es contents

zips_append : (object : List ℕ → Told) (xs ys : List Entry) (cs ds : List (List ℕ)) → Zips object xs cs → Zips object ys ds → Zips object (xs ++ ys) (cs ++ ds)
zips_append object [] ys [] ds a b = b
zips_append object [] ys (c ∷ cs) ds a b = absurd a
zips_append object (x ∷ xs) ys [] ds a b = absurd a
zips_append object (x ∷ xs) ys (c ∷ cs) ds a b = (a.0, zips_append object xs ys cs ds a.1 b)

files_append : (object : List ℕ → Told) (xs ys : List Entry) (cs ds : List (List ℕ)) → Zips object xs cs → files_at (xs ++ ys) (cs ++ ds) ≡ files_at xs cs ++ files_at ys ds
files_append object [] ys [] ds a = refl
files_append object [] ys (c ∷ cs) ds a = absurd a
files_append object (x ∷ xs) ys [] ds a = absurd a
files_append object (x ∷ xs) ys (c ∷ cs) ds a = ap (λ (fs : List FileAt). file_at x c ∷ fs) (files_append object xs ys cs ds a.1)

entries_append : (xs ys : List Entry) → attribute_entries (xs ++ ys) ≡ attribute_entries xs ++ attribute_entries ys
entries_append xs ys = filter-append is_attribute_file xs ys

pub reads_append : (object : List ℕ → Told) (xs ys : List Entry) (fs gs hs : List FileAt) → Reads object xs fs gs → Reads object ys gs hs → Reads object (xs ++ ys) fs hs
reads_append object xs ys fs gs hs a b = record {
  contents = a.contents ++ b.contents;
  read = rw (entries_append xs ys) (zips_append object (attribute_entries xs) (attribute_entries ys) a.contents b.contents a.read b.read);
  stand = b.stand
      ∙ ap (λ (start : List FileAt). fold with_file start (files_at (attribute_entries ys) b.contents)) a.stand
      ∙ sym (fold-append with_file fs (files_at (attribute_entries xs) a.contents) (files_at (attribute_entries ys) b.contents))
      ∙ ap (fold with_file fs) (sym (files_append object (attribute_entries xs) (attribute_entries ys) a.contents b.contents a.read))
      ∙ ap (λ (es : List Entry). fold with_file fs (files_at es (a.contents ++ b.contents))) (sym (entries_append xs ys));
}

blobs_append : (xs ys : List Entry) → blobs_of (xs ++ ys) ≡ blobs_of xs ++ blobs_of ys
blobs_append xs ys = rw (entries_append xs ys) (map-append (λ (e : Entry). (e.name, 0)) (attribute_entries xs) (attribute_entries ys))

-- ---- the loop over the entries

next : (es : List Entry) (i : ℕ) (e : Entry) → i < length es → e ≡ get_or es i e → take (i + 1) es ≡ take i es ++ e ∷ []
next es i e lt is = take_more es i e lt ∙ ap (λ (x : Entry). take i es ++ x ∷ []) (sym is)

pub none_read : (object : List ℕ → Told) (m : Files) → m.entries ≡ [] → Reads object [] [] (files_seen m)
none_read object m empty = record { contents = []; read = tt; stand = ap (map file_seen) empty }

pub reads_more : (object : List ℕ → Told) (es : List Entry) (i : ℕ) (e : Entry) (fs gs : List FileAt) → i < length es → e ≡ get_or es i e → Reads object (take i es) [] fs → Reads object (e ∷ []) fs gs
    → Reads object (take (i + 1) es) [] gs
reads_more object es i e fs gs lt is a b = rw (next es i e lt is) (reads_append object (take i es) (e ∷ []) [] fs gs a b)

pub returned_more : (es : List Entry) (i : ℕ) (e : Entry) (start before after : List (List ℕ × ℕ)) → i < length es → e ≡ get_or es i e → before ≡ start ++ blobs_of (take i es) → after ≡ before ++ blobs_of (e ∷ [])
    → after ≡ start ++ blobs_of (take (i + 1) es)
returned_more es i e start before after lt is was now =
    now ∙ ap (λ (xs : List (List ℕ × ℕ)). xs ++ blobs_of (e ∷ [])) was ∙ append_assoc start (blobs_of (take i es)) (blobs_of (e ∷ []))
    ∙ ap (λ (xs : List (List ℕ × ℕ)). start ++ xs) (sym (blobs_append (take i es) (e ∷ [])) ∙ ap blobs_of (sym (next es i e lt is)))

-- ---- the first fault

abbrev first : (object : List ℕ → Told) (es : List Entry) (i k : ℕ) (e : Entry) (fs : List FileAt) → k ≡ i → slice_get es i ≡ Some e → is_attribute_file e ≡ true → Reads object (take i es) [] fs → IsFirstFault object es k
first object es i k e fs same there is reads = record {
  entry = e;
  there = ap (slice_get es) same ∙ there;
  is_file = is;
  contents = reads.contents;
  read = rw same reads.read;
}

pub fault_stands : (object : List ℕ → Told) (es : List Entry) (i : ℕ) (e : Entry) (fs : List FileAt) (f : PlanFault) → slice_get es i ≡ Some e → Reads object (take i es) [] fs → Fails object e i f
    → (outer : OuterFiles) (settings : Settings) → HasPlanFault object es outer settings f
fault_stands object es i e fs (fault.AttributeRead k) there reads fails outer settings = (first object es i k e fs fails.why.0 there fails.is_file reads, fails.why.1)
fault_stands object es i e fs (fault.Attribute k kind) there reads fails outer settings = (first object es i k e fs fails.why.0 there fails.is_file reads, fails.why.1)
fault_stands object es i e fs (fault.AttributeTooLarge k) there reads fails outer settings = (first object es i k e fs fails.why.0 there fails.is_file reads, fails.why.1)
fault_stands object es i e fs (fault.TooManyDrivers n) there reads fails outer settings = absurd fails.why
fault_stands object es i e fs fault.NoMemory there reads fails outer settings = tt

blob_last : (es : List Entry) (i k : ℕ) (e : Entry) (count : ℕ) (start before after : List (List ℕ × ℕ)) → k ≡ i → before ≡ start ++ blobs_of (take i es) → after ≡ with_blob before e.name count → after ≡ start ++ blobs_to es k e count
blob_last es i k e count start before after same was now =
    now ∙ ap (λ (xs : List (List ℕ × ℕ)). xs ++ (e.name, count) ∷ []) was ∙ append_assoc start (blobs_of (take i es)) ((e.name, count) ∷ []) ∙ ap (λ (n : ℕ). start ++ blobs_to es n e count) (sym same)

one_blob : (b : Bool) (e : Entry) → b ≡ true → map {B = List ℕ × ℕ} (λ (x : Entry). (x.name, 0)) (cond b (e ∷ []) []) ≡ (e.name, 0) ∷ []
one_blob b e is = rw is refl

blob_of_file : (e : Entry) → is_attribute_file e ≡ true → blobs_of (e ∷ []) ≡ (e.name, 0) ∷ []
blob_of_file e is = one_blob (is_attribute_file e) e is

pub fault_returns : (object : List ℕ → Told) (es : List Entry) (i : ℕ) (e : Entry) (f : PlanFault) (start before after : List (List ℕ × ℕ)) → i < length es → e ≡ get_or es i e → slice_get es i ≡ Some e
    → Fails object e i f → before ≡ start ++ blobs_of (take i es) → ReturnsFile {T = Unit {0}} e.name before after (Err f) → GivesBack es start after (Err f)
fault_returns object es i e (fault.AttributeRead k) start before after lt is there fails was now =
    (e, ap (slice_get es) fails.why.0 ∙ there, (now.0, now.1, blob_last es i k e now.0 start before after fails.why.0 was now.2))
fault_returns object es i e (fault.Attribute k kind) start before after lt is there fails was now = (e, ap (slice_get es) fails.why.0 ∙ there, blob_last es i k e 0 start before after fails.why.0 was now)
fault_returns object es i e (fault.AttributeTooLarge k) start before after lt is there fails was now = (e, ap (slice_get es) fails.why.0 ∙ there, blob_last es i k e 0 start before after fails.why.0 was now)
fault_returns object es i e (fault.TooManyDrivers n) start before after lt is there fails was now = absurd fails.why
fault_returns object es i e fault.NoMemory start before after lt is there fails was now =
    elim now [
      | inl same ↦ (i, omega arith, same ∙ was)
      | inr more ↦ (i + 1, omega arith, returned_more es i e start before after lt is was (more ∙ ap (λ (xs : List (List ℕ × ℕ)). before ++ xs) (sym (blob_of_file e fails.is_file))))
    ]

-- ---- all entries

pub all_read : (object : List ℕ → Told) (es : List Entry) (outer : OuterFiles) (fs : List FileAt) → Reads object es [] fs → ReadsAll object es outer (record { info = outer.info; base = outer.base; files = fs })
unfolding attribute_files
all_read object es outer fs a = record { contents = a.contents; read = a.read; is = ap (λ (files : List FileAt). record { info = outer.info; base = outer.base; files = files }) a.stand }

pub all_returned : (es : List Entry) (before after : List (List ℕ × ℕ)) → after ≡ before ++ blobs_of es → GivesBack es before after (Err fault.NoMemory)
all_returned es before after is = (length es, omega arith, is ∙ ap (λ (xs : List Entry). before ++ blobs_of xs) (sym (take_all (length es) es (omega arith))))
