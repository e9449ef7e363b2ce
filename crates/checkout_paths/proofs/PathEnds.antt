-- How the writing of a path ends, by what is given back.
use Rattle.std.proofs.Common.{◌≡◌, ◌⊎◌, ℕ, ◌<◌, List, [], ◌∷◌, take, Option, Some, None, Err, refl, sym, ap, ◌∙◌, subst, inl, inr, arith}
use Rattle.std.proofs.lemmas.Grind.{common_steps}
use Rattle.std.proofs.lemmas.Bool.{cases_order}
use Rattle.std.proofs.lemmas.List.{take-take, take_all}
use Rattle.std.specs.Option.{option_map}
use Rattle.std.specs.Str.{IsUtf8}
use Rattle.edge_kit.specs.Faults.{Rose}
use Rattle.edge_kit.specs.Told.{Told, Tells}
use Rattle.edge_kit.specs.Files.{with_file}
use Rattle.edge_kit.specs.Joins.{files_with, MayGainPart, JoinsBy, JoinsLeaf, leaf_back as leaf_given}
use Rattle.edge_kit.specs.Seen.{BlobSeen, LeafSeen, IsNewLeaf, new_blob, blob_back as blob_given}
use Rattle.edge_kit.specs.declared.leaf_state.LeafState.{LeafState}
use Rattle.edge_kit.specs.declared.leaf_state.LeafState.TheVariants.{Fresh, Sealed}
use Rattle.edge_kit.specs.declared.leaf_state.Mark.{Mark}
use Rattle.edge_kit.specs.declared.tree_file.TreeFile.{TreeFile}
use Rattle.object_dir.specs.Object.{IsObject}
use Rattle.object_dir.specs.declared.fault.ObjectFault.{ObjectFault}
use Rattle.object_dir.specs.declared.fault.ObjectFault.TheVariants as object
use Rattle.tree_encoding.specs.declared.prepared.Prepared.{Prepared}
use Rattle.convert_plan.specs.Prepared.{prepared}
use Rattle.convert_plan.specs.Card.{CardSeen}
use Rattle.checkout_core.specs.declared.path.Start.{Start}
use Rattle.checkout_core.specs.declared.path.Start.TheVariants as start
use Rattle.checkout_core.specs.declared.verdict.Own.{Own}
use Rattle.checkout_core.specs.declared.verdict.Own.TheVariants as own
use Rattle.checkout_core.specs.declared.verdict.ObjectKind.{ObjectKind}
use Rattle.checkout_core.specs.declared.verdict.Verdict.{Verdict}
use Rattle.checkout_core.specs.declared.verdict.Verdict.TheVariants as verdict
use Rattle.checkout_core.specs.declared.verdict.FailCause.TheVariants as fail
use Rattle.checkout_core.specs.Fates.{pool_verdict}
use Rattle.checkout_plan.specs.declared.path_plan.PathPlan.{PathPlan}
use Rattle.checkout_plan.specs.Making.{FitsKind}
use Rattle.driver_desk.specs.Shown.{IsGivenUp}
use Rattle.driver_desk.specs.Works.{own_of}
use Rattle.driver_desk.specs.Serving.{TellsPart}
use Rattle.card_worker.specs.Writing.{WritesCard}
use Rattle.checkout_paths.specs.Writing.{joined}
use Rattle.checkout_paths.specs.Outcome.{Outcome, IsOpenPath, MayLeavePart, LeavesPart, HasVerdict, HasOutcome, blob_back, leaf_back}
use Rattle.checkout_paths.specs.Talks.{DriverTalk}

-- the told files grow by this one, if there is one
abbrev pub FilesGrow : Option (List TreeFile) → Option TreeFile → Option (List TreeFile) → Type 0
FilesGrow old file new = (fs : List TreeFile) → Tells old fs → Tells new (joined file fs)

pub files_stay : (old new : Option (List TreeFile)) → new ≡ old → FilesGrow old None new
files_stay old new same fs tells = subst (λ (told : Option (List TreeFile)). Tells told fs) (sym same) tells

pub file_joins : (old : Option (List TreeFile)) (path : List ℕ) (told : Option (List ℕ)) (content : List ℕ) (mark : Mark) (fs : List TreeFile) → Tells told content → Tells old fs
    → Tells (files_with old path told mark) (with_file (record { path = path; bytes = content; mark = mark }) fs)
file_joins None path told content mark fs is tells = tt
file_joins (Some gs) path None content mark fs is tells = tt
file_joins (Some gs) path (Some bytes) content mark fs is tells = rw (is, tells) refl

-- a sealed leaf adds its file
pub seals : (old new : Option (List TreeFile)) (path : List ℕ) (told : Option (List ℕ)) (content : List ℕ) (mark : Mark) (state : LeafState) → state ≡ Sealed mark → Tells told content
    → JoinsBy old path told state new → FilesGrow old (Some (record { path = path; bytes = content; mark = mark })) new
seals old new path told content mark state is tells joins fs had =
    let joined_so : new ≡ files_with old path told mark = subst (λ (s : LeafState). JoinsBy old path told s new) is joins in
    subst (λ (files : Option (List TreeFile)). Tells files (with_file (record { path = path; bytes = content; mark = mark }) fs)) (sym joined_so) (file_joins old path told content mark fs tells had)

-- what remains of a leaf, and what that does to the files
record Stays (old : Option (List TreeFile)) (path content : List ℕ) (state : LeafState) (new : Option (List TreeFile)) : Type 0 where
  file : Option TreeFile
  part : LeavesPart path content state file
  grow : FilesGrow old file new

-- a path's file that remained in part, if it did, and what that does to the files
pub record Keeps (old : Option (List TreeFile)) (path content : List ℕ) (new : Option (List TreeFile)) : Type 0 where
  pub file : Option TreeFile
  pub part : MayLeavePart path content file
  pub grow : FilesGrow old file new

-- a first part of what is told
part_told : (told : Option (List ℕ)) (n : ℕ) (content : List ℕ) → Tells told content → Tells (option_map (take n) told) (take n content)
part_told None n content tells = tt
part_told (Some bytes) n content tells = ap (take n) tells

-- a first part of a first part is a first part
part_by : (n m : ℕ) (xs : List ℕ) → (n ≡ m) ⊎ ((n < m) ⊎ (m < n)) → (k : ℕ) × (take n (take m xs) ≡ take k xs)
part_by n m xs (inl same) = (n, take-take n m xs (omega arith))
part_by n m xs (inr (inl less)) = (n, take-take n m xs (omega arith))
part_by n m xs (inr (inr more)) = (m, take_all n (take m xs) (grind (arith, common_steps)))

pub gains : (old new : Option (List TreeFile)) (path : List ℕ) (told : Option (List ℕ)) (content : List ℕ) → TellsPart told content → MayGainPart old path told new → Keeps old path content new
gains old new path told content tells (inl same) = record { file = None; part = tt; grow = files_stay old new same }
gains old new path told content (m, tells) (inr (n, mark, grew)) = record {
  file = Some (record { path = path; bytes = take n (take m content); mark = mark });
  part = (refl, part_by n m content (cases_order n m));
  grow = λ fs had. subst (λ (files : Option (List TreeFile)). Tells files (with_file (record { path = path; bytes = take n (take m content); mark = mark }) fs)) (sym grew)
      (file_joins old path (option_map (take n) told) (take n (take m content)) mark fs (part_told told n (take m content) tells) had);
}

stays : (old new : Option (List TreeFile)) (path : List ℕ) (told : Option (List ℕ)) (content : List ℕ) (state : LeafState) → IsGivenUp state → TellsPart told content → JoinsBy old path told state new
    → Stays old path content state new
stays old new path told content state (inl gone) tells joins = record {
  file = None;
  part = subst (λ (s : LeafState). LeavesPart path content s None) (sym gone) refl;
  grow = files_stay old new (subst (λ (s : LeafState). JoinsBy old path told s new) gone joins);
}
stays old new path told content state (inr stuck) tells joins =
    let kept = gains old new path told content tells (subst (λ (s : LeafState). JoinsBy old path told s new) stuck joins) in
    record {
      file = kept.file;
      part = subst (λ (s : LeafState). LeavesPart path content s kept.file) (sym stuck) kept.part;
      grow = kept.grow;
    }

abbrev pub counted : LeafState → ℕ → Option (LeafState × ℕ)
counted state count = Some (state, count)

pub same_count : (s t : LeafState) (m n : ℕ) → s ≡ t → m ≡ n → counted s m ≡ counted t n
same_count s t m n first second = rw (first, second) refl

-- nothing was made for the path
abbrev pub untouched : Verdict → Outcome
untouched v = record { verdict = v; blob = None; leaf = None; file = None }

pub closed_outcome : (objects : List ℕ → Told) (talks : List DriverTalk) (n : ℕ) (p : PathPlan) (v : Verdict) → p.start ≡ start.Done v → HasOutcome objects talks p.start n p (untouched v)
closed_outcome objects talks n p v is = subst (λ (s : Start). HasOutcome objects talks s n p (untouched v)) (sym is) (refl, record { blob = refl; leaf = refl; file = refl })

-- A path that was written: what its blob and its leaf add to the lists of those that were given back, and to the files.
pub record IsPathEnd (objects : List ℕ → Told) (talks : List DriverTalk) (n : ℕ) (p : PathPlan) (v : Verdict) (blob : BlobSeen) (leaf : LeafSeen) (old new : Option (List TreeFile)) : Type 0 where
  pub outcome : Outcome
  pub same : outcome.verdict ≡ v
  pub fits : HasOutcome objects talks p.start n p outcome
  pub blob_is : blob_given blob ∷ [] ≡ blob_back p outcome.blob
  pub leaf_is : leaf_given leaf ∷ [] ≡ leaf_back p outcome.leaf
  pub grow : FilesGrow old outcome.file new

-- the card of a path as it is made, by its leaf
abbrev pub card_for : (List ℕ → Told) → ℕ → PathPlan → LeafSeen → CardSeen
card_for objects number p leaf = record {
  path = number;
  text = p.path;
  object = p.object;
  mark = p.mark;
  conversion = p.conversion;
  told = objects p.object;
  blob = new_blob p.object;
  leaf = leaf;
  ready = None;
}

-- what is known of a card that was made for a path, and of its blob and its leaf as they are given back
pub record IsWrittenCard (p : PathPlan) (made : LeafSeen) (blob : BlobSeen) (leaf : LeafSeen) (old new : Option (List TreeFile)) : Type 0 where
  pub begun : p.start ≡ start.Pool
  pub text : IsUtf8 p.path
  pub new_leaf : IsNewLeaf p.path made
  pub name : blob.name ≡ p.object
  pub path : leaf.path ≡ p.path
  pub joins : JoinsLeaf leaf old new

pub pair_is : (a b : List ℕ) (m n : ℕ) → a ≡ b → m ≡ n → ◌≡◌ {A = List (List ℕ × ℕ)} ((a, m) ∷ []) ((b, n) ∷ [])
pair_is a b m n first second = rw (first, second) refl

pub triple_is : (a b : List ℕ) (s : LeafState) (n : ℕ) → a ≡ b → ◌≡◌ {A = List (List ℕ × LeafState × ℕ)} ((a, s, n) ∷ []) ((b, s, n) ∷ [])
triple_is a b s n first = rw first refl

path_end : (objects : List ℕ → Told) (talks : List DriverTalk) (n : ℕ) (p : PathPlan) (v : Verdict) (made : LeafSeen) (blob : BlobSeen) (leaf : LeafSeen) (old new : Option (List TreeFile)) (file : Option TreeFile)
    → IsWrittenCard p made blob leaf old new → FilesGrow old file new
    → HasVerdict (objects p.object) p (record { verdict = v; blob = Some blob.faults; leaf = Some (leaf.state, leaf.faults); file = file }) v → IsPathEnd objects talks n p v blob leaf old new
path_end objects talks n p v made blob leaf old new file w grow has = record {
  outcome = record { verdict = v; blob = Some blob.faults; leaf = Some (leaf.state, leaf.faults); file = file };
  same = refl;
  fits = subst (λ (s : Start). HasOutcome objects talks s n p (record { verdict = v; blob = Some blob.faults; leaf = Some (leaf.state, leaf.faults); file = file })) (sym w.begun) has;
  blob_is = pair_is blob.name p.object blob.faults blob.faults w.name refl;
  leaf_is = triple_is leaf.path p.path leaf.state leaf.faults w.path;
  grow = grow;
}

opened : (p : PathPlan) (made : LeafSeen) (blob : BlobSeen) (leaf : LeafSeen) (old new : Option (List TreeFile)) → IsWrittenCard p made blob leaf old new → IsOpenPath p
opened p made blob leaf old new w = record { begun = w.begun; text = w.text }

joins_path : (p : PathPlan) (made : LeafSeen) (blob : BlobSeen) (leaf : LeafSeen) (old new : Option (List TreeFile)) → IsWrittenCard p made blob leaf old new → JoinsBy old p.path leaf.content leaf.state new
joins_path p made blob leaf old new w = subst (λ (path : List ℕ). JoinsBy old path leaf.content leaf.state new) w.path w.joins

-- a leaf to which nothing was put adds no file
no_file : (p : PathPlan) (made : LeafSeen) (blob : BlobSeen) (leaf : LeafSeen) (old new : Option (List TreeFile)) → IsWrittenCard p made blob leaf old new → leaf ≡ made → FilesGrow old None new
no_file p made blob leaf old new w same =
    files_stay old new (subst (λ (s : LeafState). JoinsBy old leaf.path leaf.content s new) (ap (λ (l : LeafSeen). l.state) same ∙ w.new_leaf.fresh) w.joins)

-- the count of a blob that has not failed, and that of a leaf to which nothing was put
unread : (p : PathPlan) (blob : BlobSeen) → blob ≡ new_blob p.object → blob.faults ≡ 0
unread p blob same = ap (λ (b : BlobSeen). b.faults) same

unput : (p : PathPlan) (made leaf : LeafSeen) → IsNewLeaf p.path made → leaf ≡ made → counted leaf.state leaf.faults ≡ counted Fresh 0
unput p made leaf new_leaf same =
    same_count leaf.state Fresh leaf.faults 0 (ap (λ (l : LeafSeen). l.state) same ∙ new_leaf.fresh) (ap (λ (l : LeafSeen). l.faults) same ∙ new_leaf.unfailed)

pub rose_some : (n : ℕ) → Rose 0 n → 0 < n
rose_some n rose = elim (cases_order 0 n) [
  | inl same ↦ rose.risen (λ e. omega (arith, same, e))
  | inr other ↦ elim other [
    | inl less ↦ less
    | inr more ↦ absurd (omega (arith, more))
  ]
]

-- equal outcomes of an object have equal kinds
kind_is : (k j : ObjectKind) → own.Object k ≡ own.Object j → Some j ≡ Some k
kind_is k j e = ap kind_in (sym e)
  where
    kind_in : Own → Option ObjectKind
    kind_in (own.Object x) = Some x
    kind_in o = None

-- what is wrong with an object by its fault
pub kind_of : (told : Told) (name : List ℕ) (f : ObjectFault) (k : ObjectKind) → IsObject told name (Err f) → own.Object k ≡ own_of f → FitsKind told name k
kind_of told name object.ReadFailed k is e = absurd cc
kind_of told name object.NoMemory k is e = absurd cc
kind_of told name object.Absent k is e = record { fault = object.Absent; is = kind_is k _ e; fits = is }
kind_of told name object.TooLarge k is e = record { fault = object.TooLarge; is = kind_is k _ e; fits = is }
kind_of told name object.Header k is e = record { fault = object.Header; is = kind_is k _ e; fits = is }
kind_of told name object.Size k is e = record { fault = object.Size; is = kind_is k _ e; fits = is }
kind_of told name (object.WrongName found) k is e = record { fault = object.WrongName found; is = kind_is k _ e; fits = is }

-- How the writing of a path's card ends.
pub card_ends : (objects : List ℕ → Told) (talks : List DriverTalk) (number : ℕ) (p : PathPlan) (o : Own) (made : LeafSeen) (blob : BlobSeen) (leaf : LeafSeen) (old new : Option (List TreeFile))
    → IsWrittenCard p made blob leaf old new → WritesCard (card_for objects number p made) o blob leaf → IsPathEnd objects talks number p (pool_verdict o) blob leaf old new
card_ends objects talks number p (own.Fine u) made blob leaf old new w (ready, (content, gives, is), (flag, written), same) =
    path_end objects talks number p (verdict.Written u) made blob leaf old new
    (Some (record { path = p.path; bytes = (prepared p.conversion p.object content).bytes; mark = p.mark })) w
    (seals old new p.path leaf.content (prepared p.conversion p.object content).bytes p.mark leaf.state written.sealed
    (subst (λ (r : Prepared). Tells leaf.content r.bytes) is written.content) (joins_path p made blob leaf old new w)) (
      opened p made blob leaf old new w,
      (ap Some (unread p blob same), same_count leaf.state (Sealed p.mark) leaf.faults 0 written.sealed (written.unfailed ∙ w.new_leaf.unfailed)),
      (content, gives, flag ∙ ap (λ (r : Prepared). r.unencoded) is, refl),
    )
card_ends objects talks number p own.WriteFailed made blob leaf old new w (ready, (content, gives, is), cut, same) =
    let tells : TellsPart leaf.content (prepared p.conversion p.object content).bytes = subst (λ (r : Prepared). TellsPart leaf.content r.bytes) is cut.content in
    let kept = stays old new p.path leaf.content (prepared p.conversion p.object content).bytes leaf.state cut.state tells (joins_path p made blob leaf old new w) in
    let failed : 0 < leaf.faults = rose_some leaf.faults (subst (λ (n : ℕ). Rose n leaf.faults) w.new_leaf.unfailed cut.rose) in
    path_end objects talks number p (verdict.Failed fail.WriteFailed) made blob leaf old new kept.file w kept.grow
    (opened p made blob leaf old new w, (content, gives, (leaf.state, leaf.faults, failed, (ap Some (unread p blob same), refl), kept.part)))
card_ends objects talks number p own.ReadFailed made blob leaf old new w (may, rose, same) =
    path_end objects talks number p (verdict.Failed fail.ReadFailed) made blob leaf old new None w (no_file p made blob leaf old new w same)
    (opened p made blob leaf old new w, may, (blob.faults, rose_some blob.faults rose, (refl, unput p made leaf w.new_leaf same)), refl)
card_ends objects talks number p (own.Object k) made blob leaf old new w (fault, same, kept) =
    path_end objects talks number p (verdict.Failed (fail.Object k)) made blob leaf old new None w (no_file p made blob leaf old new w kept) (
      opened p made blob leaf old new w,
      kind_of (objects p.object) p.object fault.fault k fault.object fault.own,
      (ap Some (unread p blob same), unput p made leaf w.new_leaf kept),
      refl,
    )
card_ends objects talks number p own.NoMemory made blob leaf old new w (same, kept) =
    path_end objects talks number p verdict.NoMemory made blob leaf old new None w (no_file p made blob leaf old new w kept) (
      opened p made blob leaf old new w,
      (ap Some (unread p blob same), unput p made leaf w.new_leaf kept),
      refl,
    )
