-- What is told of a path's object, and what its driver is heard to say of it, settle its verdict and its file.
use Rattle.std.proofs.Common.{◌≡◌, ℕ, ◌<◌, Bool, true, false, cond, List, Option, Some, None, Result, Ok, Err, refl, sym, ap, ◌∙◌, subst, arith}
use Rattle.std.proofs.lemmas.Option.{same_Some}
use Rattle.edge_kit.specs.Told.{Told}
use Rattle.edge_kit.specs.declared.leaf_state.LeafState.{LeafState}
use Rattle.edge_kit.specs.declared.tree_file.TreeFile.{TreeFile}
use Rattle.object_dir.specs.declared.fault.ObjectFault.{ObjectFault}
use Rattle.object_dir.specs.declared.fault.ObjectFault.TheVariants as object
use Rattle.tree_encoding.specs.declared.prepared.Prepared.{Prepared}
use Rattle.delay_table.specs.Table.{contains}
use Rattle.convert_plan.specs.Prepared.{prepared}
use Rattle.checkout_core.specs.declared.verdict.ObjectKind.{ObjectKind}
use Rattle.checkout_core.specs.declared.verdict.FilterCause.{FilterCause}
use Rattle.checkout_core.specs.declared.verdict.Verdict.{Verdict}
use Rattle.checkout_core.specs.declared.verdict.Verdict.TheVariants as verdict
use Rattle.checkout_core.specs.declared.verdict.FailCause.TheVariants as fail
use Rattle.checkout_core.specs.declared.path.Heard.{Heard}
use Rattle.checkout_core.specs.declared.path.Heard.TheVariants as heard
use Rattle.checkout_core.specs.Fates.{heard_by, fate_of, Untold}
use Rattle.driver_line.specs.Conversations.{notes_in}
use Rattle.driver_line.specs.SameHeard.{content_of}
use Rattle.checkout_plan.specs.declared.path_plan.PathPlan.{PathPlan}
use Rattle.checkout_plan.specs.Making.{object_kind}
use Rattle.checkout_engine.specs.Alike.{IsTold}
use Rattle.checkout_engine.specs.Complete.{failed_leaves}
use Rattle.checkout_paths.specs.Outcome.{Outcome, HasVerdict, HasDeskVerdict, file_with, leaf_back}
use Rattle.checkout_paths.specs.Talks.{DriverTalk, heard_at, Gave, was_read, is_no_memory}
use Rattle.checkout_engine.proofs.ToldObjects.{found_of, gives_found, fails_found, kind_found}

-- the verdict of a path and its file
pub record PathEnd : Type 0 where
  pub verdict : Verdict
  pub file : Option TreeFile

abbrev pub end_at : Verdict → Option TreeFile → PathEnd
end_at v file = record { verdict = v; file = file }

-- an object that isn't right fails its path
abbrev pub failed_end : Option ObjectKind → PathEnd
failed_end (Some k) = end_at (verdict.Failed (fail.Object k)) None
failed_end None = end_at (verdict.Failed fail.ReadFailed) None

abbrev pub written_end : PathPlan → Prepared → List ℕ → PathEnd
written_end p ready bytes = end_at (verdict.Written ready.unencoded) (Some (file_with p bytes))

-- how a path of the pool ends
abbrev pub pool_end : PathPlan → Result (List ℕ) ObjectFault → PathEnd
pool_end p (Ok content) = written_end p (prepared p.conversion p.object content) (prepared p.conversion p.object content).bytes
pool_end p (Err f) = failed_end (object_kind f)

-- how a path ends that a driver refused
abbrev pub refused_end : Bool → FilterCause → PathPlan → Prepared → PathEnd
refused_end true why p ready = end_at (verdict.Failed (fail.Filter why)) None
refused_end false why p ready = end_at (verdict.Unfiltered why ready.unencoded) (Some (file_with p ready.bytes))

abbrev pub got_end : Option (List ℕ) → PathPlan → Prepared → PathEnd
got_end (Some answer) p ready = written_end p ready answer
got_end None p ready = end_at verdict.NoMemory None

abbrev pub heard_end : Option Heard → Bool → Option (List ℕ) → PathPlan → Prepared → PathEnd
heard_end (Some heard.Got) required answer p ready = got_end answer p ready
heard_end (Some (heard.Refused why)) required answer p ready = refused_end required why p ready
heard_end (Some heard.Lost) required answer p ready = end_at (verdict.Failed fail.Missing) None
heard_end (Some heard.OutOfMemory) required answer p ready = end_at verdict.NoMemory None
heard_end None required answer p ready = end_at verdict.NoMemory None

-- how a path of a driver ends
abbrev pub desk_end : Result (List ℕ) ObjectFault → Option Heard → Bool → Option (List ℕ) → PathPlan → PathEnd
desk_end (Ok content) h required answer p = heard_end h required answer p (prepared p.conversion p.object content)
desk_end (Err f) h required answer p = failed_end (object_kind f)

abbrev pub has_read : Result (List ℕ) ObjectFault → Bool
has_read (Ok content) = true
has_read (Err f) = false

-- a leaf that failed has a count
pub leaf_failed : (p : PathPlan) (o : Outcome) (state : LeafState) (count : ℕ) → 0 < count → o.leaf ≡ Some (state, count) → failed_leaves (leaf_back p o.leaf) ≡ 0 → ⊥
leaf_failed p o state count failed is none =
    let sum : failed_leaves (leaf_back p (Some (state, count))) ≡ 0 = subst (λ (l : Option (LeafState × ℕ)). failed_leaves (leaf_back p l) ≡ 0) is none in
    omega (arith, sum, failed)

file_is : (v : Verdict) (x y : Option TreeFile) → x ≡ y → end_at v x ≡ end_at v y
file_is v x y e = ap (end_at v) e

flag_is : (a b : Bool) (x y : Option TreeFile) → a ≡ b → x ≡ y → end_at (verdict.Written a) x ≡ end_at (verdict.Written b) y
flag_is a b x y e f = ap (λ (u : Bool). end_at (verdict.Written u) x) e ∙ ap (end_at (verdict.Written b)) f

why_is : (why : FilterCause) (a b : Bool) (x y : Option TreeFile) → a ≡ b → x ≡ y → end_at (verdict.Unfiltered why a) x ≡ end_at (verdict.Unfiltered why b) y
why_is why a b x y e f = ap (λ (u : Bool). end_at (verdict.Unfiltered why u) x) e ∙ ap (end_at (verdict.Unfiltered why b)) f

no_memory : {A : Type 0} → true ≡ false → A
no_memory e = absurd cc

module _ (told : Told) (p : PathPlan) (o : Outcome) (is : IsTold told) where
  pub pool_is : (v : Verdict) → HasVerdict told p o v → is_no_memory v ≡ false → failed_leaves (leaf_back p o.leaf) ≡ 0 → end_at v o.file ≡ pool_end p (found_of told p.object)
  pool_is (verdict.Written u) (opened, counts, (content, gives, flag, file)) memory none =
      flag_is u (prepared p.conversion p.object content).unencoded o.file (Some (file_with p (prepared p.conversion p.object content).bytes)) flag file ∙ sym (ap (pool_end p) (gives_found told p.object (Ok content) is gives))
  pool_is (verdict.Failed fail.ReadFailed) (opened, may, counts, file) memory none = file_is (verdict.Failed fail.ReadFailed) o.file None file ∙ sym (ap (pool_end p) (fails_found told p.object is may))
  pool_is (verdict.Failed (fail.Object k)) (opened, fits, counts, file) memory none =
      let kind = kind_found told p.object k is fits in
      file_is (verdict.Failed (fail.Object k)) o.file None file ∙ sym (ap (pool_end p) kind.1 ∙ ap failed_end kind.2)
  pool_is (verdict.Failed fail.WriteFailed) (opened, (content, gives, (state, count, failed, counts, part))) memory none = absurd (leaf_failed p o state count failed counts.1 none)
  pool_is verdict.NoMemory has memory none = no_memory memory
  pool_is (verdict.Unfiltered why u) has memory none = absurd has
  pool_is (verdict.Skipped cause) has memory none = absurd has
  pool_is (verdict.Failed fail.NameNotText) has memory none = absurd has
  pool_is (verdict.Failed (fail.Filter cause)) has memory none = absurd has
  pool_is (verdict.Failed fail.Missing) has memory none = absurd has
  pool_is (verdict.Failed fail.NoProcess) has memory none = absurd has
  pool_is (verdict.Failed fail.UnknownEncoding) has memory none = absurd has

-- a path that was heard of was asked for
pub asked_if_heard : (d : ℕ) (t : DriverTalk) (n : ℕ) (h : Heard) → heard_at d t n ≡ Some h → contains n t.asked ≡ true
asked_if_heard d t n h is = go (contains n t.asked) refl is
  where
    go : (b : Bool) → contains n t.asked ≡ b → cond b (heard_by (fate_of n Untold (notes_in d t.exchanges))) None ≡ Some h → contains n t.asked ≡ true
    go true e is = e
    go false e is = let no : None ≡ Some h = is in absurd cc

-- what a path that was asked for heard
pub heard_if_asked : (d : ℕ) (t : DriverTalk) (n : ℕ) → contains n t.asked ≡ true → heard_at d t n ≡ heard_by (fate_of n Untold (notes_in d t.exchanges))
heard_if_asked d t n is = ap (λ (b : Bool). cond b (heard_by (fate_of n Untold (notes_in d t.exchanges))) None) is

module _ (required : Bool) (d : ℕ) (t : DriverTalk) (n : ℕ) (told : Told) (p : PathPlan) (o : Outcome) (is : IsTold told)
    (read : contains n t.asked ≡ true → (content : List ℕ) × (found_of told p.object ≡ Ok content)) (given : (answer : List ℕ) → Gave t n answer → content_of n t.exchanges ≡ Some answer) where
  abbrev ended : PathEnd
  ended = desk_end (found_of told p.object) (heard_at d t n) required (content_of n t.exchanges) p

  -- how it ends where its object holds this
  found_is : (r : Result (List ℕ) ObjectFault) → found_of told p.object ≡ r → ended ≡ desk_end r (heard_at d t n) required (content_of n t.exchanges) p
  found_is r e = ap (λ (x : Result (List ℕ) ObjectFault). desk_end x (heard_at d t n) required (content_of n t.exchanges) p) e

  heard_is : (content : List ℕ) (h : Heard) → found_of told p.object ≡ Ok content → heard_at d t n ≡ Some h → ended ≡ heard_end (Some h) required (content_of n t.exchanges) p (prepared p.conversion p.object content)
  heard_is content h e k = found_is (Ok content) e ∙ ap (λ (x : Option Heard). heard_end x required (content_of n t.exchanges) p (prepared p.conversion p.object content)) k

  refused_is : (b : Bool) (why : FilterCause) (ready : Prepared) → required ≡ b → refused_end required why p ready ≡ refused_end b why p ready
  refused_is b why ready e = ap (λ (x : Bool). refused_end x why p ready) e

  pub desk_is : (v : Verdict) → HasDeskVerdict required d t n told p o v → is_no_memory v ≡ false → failed_leaves (leaf_back p o.leaf) ≡ 0 → end_at v o.file ≡ ended
  desk_is (verdict.Written u) (got, counts, ready, to, flag, answer, gave, file) memory none =
      let made : ready ≡ prepared p.conversion p.object to.content = to.is in
      let flag' : u ≡ (prepared p.conversion p.object to.content).unencoded = flag ∙ ap (λ (r : Prepared). r.unencoded) made in
      flag_is u (prepared p.conversion p.object to.content).unencoded o.file (Some (file_with p answer)) flag' file
      ∙ sym (heard_is to.content heard.Got (gives_found told p.object (Ok to.content) is to.object) got ∙ ap (λ (a : Option (List ℕ)). got_end a p (prepared p.conversion p.object to.content)) (given answer gave))
  desk_is (verdict.Unfiltered why u) (not, refused, counts, ready, to, flag, file) memory none =
      let made : ready ≡ prepared p.conversion p.object to.content = to.is in
      let flag' : u ≡ (prepared p.conversion p.object to.content).unencoded = flag ∙ ap (λ (r : Prepared). r.unencoded) made in
      let file' : o.file ≡ Some (file_with p (prepared p.conversion p.object to.content).bytes) = file ∙ ap (λ (r : Prepared). Some (file_with p r.bytes)) made in
      why_is why u (prepared p.conversion p.object to.content).unencoded o.file (Some (file_with p (prepared p.conversion p.object to.content).bytes)) flag' file'
      ∙ sym (heard_is to.content (heard.Refused why) (gives_found told p.object (Ok to.content) is to.object) refused ∙ refused_is false why (prepared p.conversion p.object to.content) not)
  desk_is (verdict.Failed (fail.Filter why)) (needs, refused, counts, file) memory none =
      let found = read (asked_if_heard d t n (heard.Refused why) refused) in
      file_is (verdict.Failed (fail.Filter why)) o.file None file ∙ sym (heard_is found.0 (heard.Refused why) found.1 refused ∙ refused_is true why (prepared p.conversion p.object found.0) needs)
  desk_is (verdict.Failed fail.Missing) (lost, counts, file) memory none =
      let found = read (asked_if_heard d t n heard.Lost lost) in
      file_is (verdict.Failed fail.Missing) o.file None file ∙ sym (heard_is found.0 heard.Lost found.1 lost)
  desk_is (verdict.Failed fail.ReadFailed) (may, counts, file) memory none = file_is (verdict.Failed fail.ReadFailed) o.file None file ∙ sym (found_is (Err object.ReadFailed) (fails_found told p.object is may))
  desk_is (verdict.Failed (fail.Object k)) (fits, counts, file) memory none =
      let kind = kind_found told p.object k is fits in
      file_is (verdict.Failed (fail.Object k)) o.file None file ∙ sym (found_is (Err kind.0) kind.1 ∙ ap failed_end kind.2)
  desk_is (verdict.Failed fail.WriteFailed) (told_of, state, count, failed, fresh, counts, part) memory none = absurd (leaf_failed p o state count failed counts.1 none)
  desk_is verdict.NoMemory has memory none = no_memory memory
  desk_is (verdict.Skipped cause) has memory none = absurd has
  desk_is (verdict.Failed fail.NameNotText) has memory none = absurd has
  desk_is (verdict.Failed fail.NoProcess) has memory none = absurd has
  desk_is (verdict.Failed fail.UnknownEncoding) has memory none = absurd has

-- where memory was left, no path that was asked for heard that there was none
pub not_wanting : (required : Bool) (d : ℕ) (t : DriverTalk) (n : ℕ) (told : Told) (p : PathPlan) (o : Outcome) (v : Verdict) → HasDeskVerdict required d t n told p o v → is_no_memory v ≡ false → was_read v ≡ true
    → heard_at d t n ≡ Some heard.OutOfMemory → ⊥
not_wanting required d t n told p o (verdict.Written u) has memory read wants = let no : Some heard.Got ≡ Some heard.OutOfMemory = sym has.0 ∙ wants in absurd cc
not_wanting required d t n told p o (verdict.Unfiltered why u) has memory read wants = let no : Some (heard.Refused why) ≡ Some heard.OutOfMemory = sym has.1 ∙ wants in absurd cc
not_wanting required d t n told p o (verdict.Failed (fail.Filter why)) has memory read wants = let no : Some (heard.Refused why) ≡ Some heard.OutOfMemory = sym has.1 ∙ wants in absurd cc
not_wanting required d t n told p o (verdict.Failed fail.Missing) has memory read wants = let no : Some heard.Lost ≡ Some heard.OutOfMemory = sym has.0 ∙ wants in absurd cc
not_wanting required d t n told p o (verdict.Failed fail.WriteFailed) has memory read wants = has.0.2 (same_Some has.0.0 heard.OutOfMemory (sym has.0.1 ∙ wants))
not_wanting required d t n told p o (verdict.Failed fail.ReadFailed) has memory read wants = absurd cc
not_wanting required d t n told p o (verdict.Failed (fail.Object k)) has memory read wants = absurd cc
not_wanting required d t n told p o verdict.NoMemory has memory read wants = absurd cc
not_wanting required d t n told p o (verdict.Skipped cause) has memory read wants = has
not_wanting required d t n told p o (verdict.Failed fail.NameNotText) has memory read wants = has
not_wanting required d t n told p o (verdict.Failed fail.NoProcess) has memory read wants = has
not_wanting required d t n told p o (verdict.Failed fail.UnknownEncoding) has memory read wants = has

-- the verdict of a driver's path tells whether its object was read
module _ (required : Bool) (d : ℕ) (t : DriverTalk) (n : ℕ) (told : Told) (p : PathPlan) (o : Outcome) (is : IsTold told)
    (read : contains n t.asked ≡ true → (content : List ℕ) × (found_of told p.object ≡ Ok content)) where
  read_found : (content : List ℕ) → found_of told p.object ≡ Ok content → true ≡ has_read (found_of told p.object)
  read_found content e = ap has_read (sym e)

  read_heard : (h : Heard) → heard_at d t n ≡ Some h → true ≡ has_read (found_of told p.object)
  read_heard h e = let found = read (asked_if_heard d t n h e) in read_found found.0 found.1

  pub read_by : (v : Verdict) → HasDeskVerdict required d t n told p o v → is_no_memory v ≡ false → was_read v ≡ has_read (found_of told p.object)
  read_by (verdict.Written u) has memory = read_heard heard.Got has.0
  read_by (verdict.Unfiltered why u) has memory = read_heard (heard.Refused why) has.1
  read_by (verdict.Failed (fail.Filter why)) has memory = read_heard (heard.Refused why) has.1
  read_by (verdict.Failed fail.Missing) has memory = read_heard heard.Lost has.0
  read_by (verdict.Failed fail.WriteFailed) has memory = read_heard has.0.0 has.0.1
  read_by (verdict.Failed fail.ReadFailed) has memory = ap has_read (sym (fails_found told p.object is has.0))
  read_by (verdict.Failed (fail.Object k)) has memory = ap has_read (sym (kind_found told p.object k is has.0).1)
  read_by verdict.NoMemory has memory = no_memory memory
  read_by (verdict.Skipped cause) has memory = absurd has
  read_by (verdict.Failed fail.NameNotText) has memory = absurd has
  read_by (verdict.Failed fail.NoProcess) has memory = absurd has
  read_by (verdict.Failed fail.UnknownEncoding) has memory = absurd has

-- a content counts only for a path that got one
same_heard_end : (h : Option Heard) (required : Bool) (a b : Option (List ℕ)) (p : PathPlan) (ready : Prepared) → (h ≡ Some heard.Got → a ≡ b)
    → heard_end h required a p ready ≡ heard_end h required b p ready
same_heard_end (Some heard.Got) required a b p ready same = ap (λ (x : Option (List ℕ)). got_end x p ready) (same refl)
same_heard_end (Some (heard.Refused why)) required a b p ready same = refl
same_heard_end (Some heard.Lost) required a b p ready same = refl
same_heard_end (Some heard.OutOfMemory) required a b p ready same = refl
same_heard_end None required a b p ready same = refl

-- what is heard of a path counts only if its object is right
pub same_desk_end : (r : Result (List ℕ) ObjectFault) (h k : Option Heard) (required : Bool) (a b : Option (List ℕ)) (p : PathPlan) → (has_read r ≡ true → (h ≡ k) × (h ≡ Some heard.Got → a ≡ b))
    → desk_end r h required a p ≡ desk_end r k required b p
same_desk_end (Ok content) h k required a b p same =
    let s = same refl in
    same_heard_end h required a b p (prepared p.conversion p.object content) s.1 ∙ ap (λ (x : Option Heard). desk_end (Ok content) x required b p) s.0
same_desk_end (Err f) h k required a b p same = refl
