-- What becomes of one path of a checkout.
use Rattle.std.specs.Prelude.{◌≡◌, ◌≢◌, ◌⊎◌, ℕ, ◌<◌, suc, Bool, true, false, List, [], ◌∷◌, take, Option}
use Rattle.std.specs.Prelude.{Some, None, Ok, slice_get}
use Rattle.std.specs.Str.{IsUtf8}
use Rattle.edge_kit.specs.Told.{Told, MayFail}
use Rattle.edge_kit.specs.declared.leaf_state.LeafState.{LeafState}
use Rattle.edge_kit.specs.declared.leaf_state.LeafState.TheVariants.{Fresh, Sealed, Gone, Stuck}
use Rattle.edge_kit.specs.declared.tree_file.TreeFile.{TreeFile}
use Rattle.object_dir.specs.Object.{Gives}
use Rattle.checkout_core.specs.declared.verdict.Verdict.{Verdict}
use Rattle.checkout_core.specs.declared.verdict.Verdict.TheVariants as verdict
use Rattle.checkout_core.specs.declared.verdict.FailCause.TheVariants as fail
use Rattle.checkout_core.specs.declared.path.Heard.{Heard}
use Rattle.checkout_core.specs.declared.path.Heard.TheVariants as heard
use Rattle.checkout_core.specs.declared.path.Start.{Start}
use Rattle.checkout_core.specs.declared.path.Start.TheVariants as start
use Rattle.tree_encoding.specs.declared.prepared.Prepared.{Prepared}
use Rattle.convert_plan.specs.Prepared.{prepared}
use Rattle.checkout_core.specs.declared.verdict.FilterCause.{FilterCause}
use Rattle.driver_desk.specs.Serving.{HasSent}
use Rattle.checkout_plan.specs.declared.path_plan.PathPlan.{PathPlan}
use Rattle.checkout_plan.specs.Making.{FitsKind}
use Rattle.checkout_paths.specs.Prepared.{IsPreparedTo}
use Rattle.checkout_paths.specs.Talks.{DriverTalk, heard_at, Gave}

-- What a checkout leaves of one path: its verdict, its blob's count, its leaf's state and count,
-- and its file.
pub record Outcome : Type 0 where
  pub verdict : Verdict
  pub blob : Option ℕ
  pub leaf : Option (LeafState × ℕ)
  pub file : Option TreeFile

-- nothing was made for the path
pub record IsUnmade (o : Outcome) : Type 0 where
  pub blob : o.blob ≡ None
  pub leaf : o.leaf ≡ None
  pub file : o.file ≡ None

-- a path that is read and written
pub record IsOpenPath (p : PathPlan) : Type 0 where
  pub begun : p.start ≡ start.Pool
  pub text : IsUtf8 p.path

-- no file, or a file of that path with a first part of the content
abbrev pub MayLeavePart : List ℕ → List ℕ → Option TreeFile → Type 0
MayLeavePart path content None = Unit {0}
MayLeavePart path content (Some f) = (f.path ≡ path) × ((n : ℕ) × (f.bytes ≡ take n content))

-- what remains of a leaf that was given up
abbrev pub LeavesPart : List ℕ → List ℕ → LeafState → Option TreeFile → Type 0
LeavesPart path content Gone file = file ≡ None
LeavesPart path content Stuck file = MayLeavePart path content file
LeavesPart path content state file = ⊥

-- the blob's and the leaf's counts
abbrev pub HasCounts : Outcome → ℕ → LeafState → ℕ → Type 0
HasCounts o blob state leaf = (o.blob ≡ Some blob) × (o.leaf ≡ Some (state, leaf))

-- The verdict of a path that starts in the pool, with what shows it: what its object tells, and
-- its own counts of faults. A written path's file is its object's content, converted.
abbrev pub HasVerdict : Told → PathPlan → Outcome → Verdict → Type 0
HasVerdict told p o verdict.NoMemory = IsOpenPath p × HasCounts o 0 Fresh 0 × (o.file ≡ None)
HasVerdict told p o (verdict.Failed fail.ReadFailed) =
    IsOpenPath p × MayFail told
    × ((count : ℕ) × (0 < count) × HasCounts o count Fresh 0) × (o.file ≡ None)
HasVerdict told p o (verdict.Failed (fail.Object k)) =
    IsOpenPath p × FitsKind told p.object k × HasCounts o 0 Fresh 0 × (o.file ≡ None)
HasVerdict told p o (verdict.Failed fail.WriteFailed) =
    IsOpenPath p × ((content : List ℕ) × Gives told p.object (Ok content)
    × ((state : LeafState) × (count : ℕ) × (0 < count) × HasCounts o 0 state count
    × LeavesPart p.path (prepared p.conversion p.object content).bytes state o.file))
HasVerdict told p o (verdict.Written unencoded) =
    IsOpenPath p × HasCounts o 0 (Sealed p.mark) 0
    × ((content : List ℕ) × Gives told p.object (Ok content)
    × (unencoded ≡ (prepared p.conversion p.object content).unencoded)
    × (o.file ≡ Some (record {
      path = p.path;
      bytes = (prepared p.conversion p.object content).bytes;
      mark = p.mark;
    })))
HasVerdict told p o v = ⊥

-- no file, or a file of that path with a first part of a content that may have been put
abbrev pub MayLeaveFile : (List ℕ → Type 0) → List ℕ → Option TreeFile → Type 0
MayLeaveFile put path file = (content : List ℕ) × put content × MayLeavePart path content file

-- what remains of the leaf of a driver's path that wasn't written
abbrev pub LeavesFile : (List ℕ → Type 0) → List ℕ → LeafState → Option TreeFile → Type 0
LeavesFile put path Fresh file = file ≡ None
LeavesFile put path Gone file = file ≡ None
LeavesFile put path Stuck file = MayLeaveFile put path file
LeavesFile put path state file = ⊥

-- a file of the path with these bytes
abbrev pub file_with : PathPlan → List ℕ → TreeFile
file_with p bytes = record { path = p.path; bytes = bytes; mark = p.mark }

-- The verdict of the path n, which starts at the desk of the driver d, with what shows it: what its object tells, what
-- it heard in the talk with its driver, and its own counts of faults. A written path's file is what the driver gave for
-- it. What the driver refused fails if the driver is required, and is written as its object's content, converted, if
-- not.
module _ (required : Bool) (d : ℕ) (t : DriverTalk) (n : ℕ) where
  -- what may have been put: nothing, what the driver sent for the path, or, if the driver isn't required and refused
  -- it, its object's content, converted
  abbrev pub MayBePut : Told → PathPlan → List ℕ → Type 0
  MayBePut told p content = (content ≡ []) ⊎ HasSent t.exchanges n content
      ⊎ ((required ≡ false) × (why : FilterCause) × (heard_at d t n ≡ Some (heard.Refused why))
      × (ready : Prepared) × IsPreparedTo told p ready × (content ≡ ready.bytes))

  -- A leaf of a path that ran out of memory hasn't failed, unless it couldn't be discarded, or memory ran out in the
  -- talk after it had failed.
  abbrev pub MayHaveFailed : LeafState → ℕ → Type 0
  MayHaveFailed state count = (count ≡ 0) ⊎ (state ≡ Stuck) ⊎ (heard_at d t n ≡ Some heard.OutOfMemory)

  abbrev pub HasDeskVerdict : Told → PathPlan → Outcome → Verdict → Type 0
  HasDeskVerdict told p o verdict.NoMemory = (state : LeafState) × (count : ℕ) × MayHaveFailed state count
      × HasCounts o 0 state count × LeavesFile (MayBePut told p) p.path state o.file
  HasDeskVerdict told p o (verdict.Failed fail.ReadFailed) =
      MayFail told × ((count : ℕ) × (0 < count) × HasCounts o count Fresh 0) × (o.file ≡ None)
  HasDeskVerdict told p o (verdict.Failed (fail.Object k)) =
      FitsKind told p.object k × HasCounts o 0 Fresh 0 × (o.file ≡ None)
  HasDeskVerdict told p o (verdict.Failed fail.WriteFailed) =
      ((h : Heard) × (heard_at d t n ≡ Some h) × (h ≢ heard.OutOfMemory))
      × (state : LeafState) × (count : ℕ) × (0 < count) × (state ≢ Fresh) × HasCounts o 0 state count
      × LeavesFile (MayBePut told p) p.path state o.file
  HasDeskVerdict told p o (verdict.Failed fail.Missing) =
      (heard_at d t n ≡ Some heard.Lost) × HasCounts o 0 Gone 0 × (o.file ≡ None)
  HasDeskVerdict told p o (verdict.Failed (fail.Filter why)) =
      (required ≡ true) × (heard_at d t n ≡ Some (heard.Refused why)) × HasCounts o 0 Gone 0 × (o.file ≡ None)
  HasDeskVerdict told p o (verdict.Unfiltered why unencoded) =
      (required ≡ false) × (heard_at d t n ≡ Some (heard.Refused why)) × HasCounts o 0 (Sealed p.mark) 0
      × (ready : Prepared) × IsPreparedTo told p ready × (unencoded ≡ ready.unencoded)
      × (o.file ≡ Some (file_with p ready.bytes))
  HasDeskVerdict told p o (verdict.Written unencoded) =
      (heard_at d t n ≡ Some heard.Got) × HasCounts o 0 (Sealed p.mark) 0
      × (ready : Prepared) × IsPreparedTo told p ready × (unencoded ≡ ready.unencoded)
      × (answer : List ℕ) × Gave t n answer × (o.file ≡ Some (file_with p answer))
  HasDeskVerdict told p o v = ⊥

module _ (object : List ℕ → Told) (talks : List DriverTalk) where
  -- A path that the plan closes keeps the plan's verdict, and nothing is made for it. The others have one of their own.
  abbrev pub HasOutcome : Start → ℕ → PathPlan → Outcome → Type 0
  HasOutcome (start.Done v) n p o = (o.verdict ≡ v) × IsUnmade o
  HasOutcome start.Pool n p o = HasVerdict (object p.object) p o o.verdict
  HasOutcome (start.Desk d required) n p o = IsUtf8 p.path × (t : DriverTalk) × (slice_get talks d ≡ Some t)
      × HasDeskVerdict required d t n (object p.object) p o o.verdict

  -- the outcomes of the paths from n on
  abbrev pub AreOutcomes : ℕ → List PathPlan → List Outcome → Type 0
  AreOutcomes n [] [] = Unit {0}
  AreOutcomes n (p ∷ ps) (o ∷ os) = HasOutcome p.start n p o × AreOutcomes (suc n) ps os
  AreOutcomes n [] (o ∷ os) = ⊥
  AreOutcomes n (p ∷ ps) [] = ⊥

-- what a path adds to the lists of blobs and leaves that were given back
abbrev pub blob_back : PathPlan → Option ℕ → List (List ℕ × ℕ)
blob_back p None = []
blob_back p (Some count) = (p.object, count) ∷ []

abbrev pub leaf_back : PathPlan → Option (LeafState × ℕ) → List (List ℕ × LeafState × ℕ)
leaf_back p None = []
leaf_back p (Some leaf) = (p.path, leaf.0, leaf.1) ∷ []
