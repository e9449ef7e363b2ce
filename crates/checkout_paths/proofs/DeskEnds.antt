-- How a path of a driver ends, by what its desk or an actor that had its card from the book leaves.
use Rattle.std.proofs.Common.{◌≡◌, ℕ, Bool, true, false, cond, List, [], ◌∷◌, Option, Some, None, Err, refl, sym, ap, ◌∙◌, subst, inl, inr}
use Rattle.std.specs.Prelude.{slice_get}
use Rattle.std.specs.Str.{IsUtf8}
use Rattle.edge_kit.specs.Faults.{Rose}
use Rattle.edge_kit.specs.Told.{Told, Tells, MayFail}
use Rattle.edge_kit.specs.Joins.{JoinsBy, JoinsLeaf}
use Rattle.edge_kit.specs.Seen.{BlobSeen, LeafSeen, IsNewLeaf, new_blob}
use Rattle.edge_kit.specs.declared.leaf_state.LeafState.{LeafState}
use Rattle.edge_kit.specs.declared.leaf_state.LeafState.TheVariants.{Fresh, Sealed, Gone, Stuck}
use Rattle.edge_kit.specs.declared.tree_file.TreeFile.{TreeFile}
use Rattle.object_dir.specs.Object.{IsObject}
use Rattle.object_dir.specs.declared.fault.ObjectFault.{ObjectFault}
use Rattle.object_dir.specs.declared.fault.ObjectFault.TheVariants as object
use Rattle.tree_encoding.specs.declared.prepared.Prepared.{Prepared}
use Rattle.delay_table.specs.Table.{contains}
use Rattle.convert_plan.specs.Card.{IsPrepared}
use Rattle.checkout_core.specs.declared.path.Heard.{Heard}
use Rattle.checkout_core.specs.declared.path.Heard.TheVariants as heard
use Rattle.checkout_core.specs.declared.path.Start.{Start}
use Rattle.checkout_core.specs.declared.path.Start.TheVariants as start
use Rattle.checkout_core.specs.declared.verdict.FilterCause.{FilterCause}
use Rattle.checkout_core.specs.declared.verdict.Own.{Own}
use Rattle.checkout_core.specs.declared.verdict.Own.TheVariants as own
use Rattle.checkout_core.specs.declared.verdict.Verdict.{Verdict}
use Rattle.checkout_core.specs.declared.verdict.Verdict.TheVariants as verdict
use Rattle.checkout_core.specs.declared.verdict.FailCause.TheVariants as fail
use Rattle.checkout_core.specs.Fates.{Fate, Untold, Later, Known, fate_of, heard_by, desk_verdict}
use Rattle.driver_line.specs.Conversations.{Exchange, NoStart, NoRoom, Opening, First, Listing, Second, Shutting, notes_in}
use Rattle.filter_words.specs.declared.reply.Reply.TheVariants as reply
use Rattle.driver_desk.specs.Serving.{IsAnswer, HasAnswer, HasPart, Holds, TellsPart}
use Rattle.driver_desk.specs.Shown.{IsGivenUp, IsDropped, ShowsRead, ShowsUnread, MayClose}
use Rattle.driver_desk.specs.Works.{own_of}
use Rattle.checkout_plan.specs.declared.path_plan.PathPlan.{PathPlan}
use Rattle.writer_pool.specs.Closing.{closed_card}
use Rattle.card_worker.specs.Writing.{WritesCard}
use Rattle.checkout_paths.specs.Outcome.{Outcome, LeavesFile, MayBePut, MayHaveFailed, HasDeskVerdict, HasOutcome, file_with}
use Rattle.checkout_paths.specs.Prepared.{IsPreparedTo}
use Rattle.checkout_paths.specs.Talks.{DriverTalk, heard_at}
use Rattle.checkout_paths.proofs.PathEnds.{FilesGrow, files_stay, gains, seals, rose_some, kind_of, counted, same_count, pair_is, triple_is, IsPathEnd, card_for}

-- what remains of a leaf that a desk gave up, and what that does to the files
record Leaves (put : List ℕ → Type 0) (old : Option (List TreeFile)) (path : List ℕ) (state : LeafState) (new : Option (List TreeFile)) : Type 0 where
  file : Option TreeFile
  left : LeavesFile put path state file
  grow : FilesGrow old file new

-- what is told of it, if it is stuck
abbrev HasPut : (List ℕ → Type 0) → LeafSeen → Type 0
HasPut put leaf = leaf.state ≡ Stuck → (content : List ℕ) × put content × TellsPart leaf.content content

given_up : (put : List ℕ → Type 0) (old new : Option (List TreeFile)) (path : List ℕ) (leaf : LeafSeen) → IsGivenUp leaf.state → HasPut put leaf → JoinsBy old path leaf.content leaf.state new → Leaves put old path leaf.state new
given_up put old new path leaf (inl gone) has joins = record {
  file = None;
  left = subst (λ (s : LeafState). LeavesFile put path s None) (sym gone) refl;
  grow = files_stay old new (subst (λ (s : LeafState). JoinsBy old path leaf.content s new) gone joins);
}
given_up put old new path leaf (inr stuck) has joins =
    let c = has stuck in
    let kept = gains old new path leaf.content c.0 c.2 (subst (λ (s : LeafState). JoinsBy old path leaf.content s new) stuck joins) in
    record { file = kept.file; left = subst (λ (s : LeafState). LeavesFile put path s kept.file) (sym stuck) (c.0, c.1, kept.part); grow = kept.grow }

begun_leaf : (state : LeafState) → IsGivenUp state → state ≡ Fresh → ⊥
begun_leaf state (inl gone) fresh = let no : Gone ≡ Fresh = sym gone ∙ fresh in cc
begun_leaf state (inr stuck) fresh = let no : Stuck ≡ Fresh = sym stuck ∙ fresh in cc

-- the answer of a driver for a path, of which this is told
answer_of : (es : List Exchange) (n : ℕ) (told : Option (List ℕ)) → HasAnswer es n told → (answer : List ℕ) × HasAnswer es n (Some answer) × Tells told answer
answer_of [] n told has = absurd has
answer_of (e ∷ es) n told (inl here) = let r = one e here in (r.0, inl r.1, r.2)
  where
    content_told : (q : ℕ) (content : List ℕ) → (q ≡ n) × Tells told content → (answer : List ℕ) × ((q ≡ n) × Tells (Some answer) content) × Tells told answer
    content_told q content (same, tells) = (content, (same, refl), tells)

    one : (e : Exchange) → IsAnswer e n told → (answer : List ℕ) × IsAnswer e n (Some answer) × Tells told answer
    one (First q reply.Content content) here = content_told q content here
    one (Second q reply.Content content) here = content_told q content here
    one (First q reply.Error content) here = absurd here
    one (First q reply.ErrorAfter content) here = absurd here
    one (First q reply.Delayed content) here = absurd here
    one (First q reply.Abort content) here = absurd here
    one (First q (reply.Broken b) content) here = absurd here
    one (First q reply.NoMemory content) here = absurd here
    one (Second q reply.Error content) here = absurd here
    one (Second q reply.ErrorAfter content) here = absurd here
    one (Second q reply.Delayed content) here = absurd here
    one (Second q reply.Abort content) here = absurd here
    one (Second q (reply.Broken b) content) here = absurd here
    one (Second q reply.NoMemory content) here = absurd here
    one (NoStart q) here = absurd here
    one (NoRoom q) here = absurd here
    one (Opening q end) here = absurd here
    one (Listing late names r) here = absurd here
    one Shutting here = absurd here
answer_of (e ∷ es) n told (inr later) = let r = answer_of es n told later in (r.0, inr r.1, r.2)

read_failed : (told : Told) (name : List ℕ) (f : ObjectFault) → IsObject told name (Err f) → own.ReadFailed ≡ own_of f → MayFail told
read_failed told name object.ReadFailed is e = is
read_failed told name object.NoMemory is e = absurd cc
read_failed told name object.Absent is e = absurd cc
read_failed told name object.TooLarge is e = absurd cc
read_failed told name object.Header is e = absurd cc
read_failed told name object.Size is e = absurd cc
read_failed told name (object.WrongName found) is e = absurd cc

pub not_fine : (u : Bool) (f : ObjectFault) → own.Fine u ≡ own_of f → ⊥
not_fine u object.ReadFailed e = absurd cc
not_fine u object.NoMemory e = absurd cc
not_fine u object.Absent e = absurd cc
not_fine u object.TooLarge e = absurd cc
not_fine u object.Header e = absurd cc
not_fine u object.Size e = absurd cc
not_fine u (object.WrongName found) e = absurd cc

pub not_write_failed : (f : ObjectFault) → own.WriteFailed ≡ own_of f → ⊥
not_write_failed object.ReadFailed e = absurd cc
not_write_failed object.NoMemory e = absurd cc
not_write_failed object.Absent e = absurd cc
not_write_failed object.TooLarge e = absurd cc
not_write_failed object.Header e = absurd cc
not_write_failed object.Size e = absurd cc
not_write_failed (object.WrongName found) e = absurd cc

-- whether something was written, or was to be
abbrev pub wrote : Own → Bool
wrote (own.Fine u) = true
wrote own.WriteFailed = true
wrote o = false

-- the own outcomes that decide the verdict alone
object_verdict : (required : Bool) (f : Fate) → desk_verdict required f own.ReadFailed ≡ verdict.Failed fail.ReadFailed
object_verdict required (Known h) = refl
object_verdict required Later = refl
object_verdict required Untold = refl

kind_verdict : (required : Bool) (f : Fate) (k : _) → desk_verdict required f (own.Object k) ≡ verdict.Failed (fail.Object k)
kind_verdict required (Known h) k = refl
kind_verdict required Later k = refl
kind_verdict required Untold k = refl

memory_verdict : (required : Bool) (f : Fate) → desk_verdict required f own.NoMemory ≡ verdict.NoMemory
memory_verdict required (Known h) = refl
memory_verdict required Later = refl
memory_verdict required Untold = refl

-- a desk that closes a refused card has a required driver
must : (required : Bool) (why : FilterCause) (u : Bool) → MayClose required (heard.Refused why) (own.Fine u) → required ≡ true
must true why u may = refl
must false why u may = absurd may

module _ (objects : List ℕ → Told) (talks : List DriverTalk) (n : ℕ) (p : PathPlan) (d : ℕ) (required : Bool) (t : DriverTalk) where
  -- what is known of the card of a driver's path, and of its blob and its leaf as they are given back
  pub record IsDeskCard (made : LeafSeen) (blob : BlobSeen) (leaf : LeafSeen) (old new : Option (List TreeFile)) : Type 0 where
    pub begun : p.start ≡ start.Desk d required
    pub talk : slice_get talks d ≡ Some t
    pub text : IsUtf8 p.path
    pub new_leaf : IsNewLeaf p.path made
    pub name : blob.name ≡ p.object
    pub path : leaf.path ≡ p.path
    pub joins : JoinsLeaf leaf old new

  module _ (made : LeafSeen) (blob : BlobSeen) (leaf : LeafSeen) (old new : Option (List TreeFile)) (w : IsDeskCard made blob leaf old new) where
    abbrev outcome : Verdict → Option TreeFile → Outcome
    outcome v file = record { verdict = v; blob = Some blob.faults; leaf = Some (leaf.state, leaf.faults); file = file }

    desk_end : (v : Verdict) (file : Option TreeFile) → FilesGrow old file new → HasDeskVerdict required d t n (objects p.object) p (outcome v file) v → IsPathEnd objects talks n p v blob leaf old new
    desk_end v file grow has = record {
      outcome = outcome v file;
      same = refl;
      fits = subst (λ (s : Start). HasOutcome objects talks s n p (outcome v file)) (sym w.begun) (w.text, t, w.talk, has);
      blob_is = pair_is blob.name p.object blob.faults blob.faults w.name refl;
      leaf_is = triple_is leaf.path p.path leaf.state leaf.faults w.path;
      grow = grow;
    }

    joins_path : JoinsBy old p.path leaf.content leaf.state new
    joins_path = subst (λ (path : List ℕ). JoinsBy old path leaf.content leaf.state new) w.path w.joins

    -- the leaf as it was made
    as_made : leaf ≡ made → counted leaf.state leaf.faults ≡ counted Fresh 0
    as_made same = same_count leaf.state Fresh leaf.faults 0 (ap (λ (l : LeafSeen). l.state) same ∙ w.new_leaf.fresh) (ap (λ (l : LeafSeen). l.faults) same ∙ w.new_leaf.unfailed)

    no_file : leaf ≡ made → FilesGrow old None new
    no_file same = files_stay old new (subst (λ (s : LeafState). JoinsBy old p.path leaf.content s new) (ap (λ (l : LeafSeen). l.state) same ∙ w.new_leaf.fresh) joins_path)

    gone_file : leaf.state ≡ Gone → FilesGrow old None new
    gone_file gone = files_stay old new (subst (λ (s : LeafState). JoinsBy old p.path leaf.content s new) gone joins_path)

    -- what the desk put into it
    put_part : HasPart t.exchanges n leaf.content → (content : List ℕ) × MayBePut required d t n (objects p.object) p content × TellsPart leaf.content content
    put_part (inl none) = ([], inl refl, (0, none))
    put_part (inr (sent, has, part)) = (sent, inr (inl has), part)

    put_there : Holds t.exchanges n leaf → HasPut (MayBePut required d t n (objects p.object) p) leaf
    put_there holds stuck = put_part (holds.stuck stuck)

    dropped_up : IsDropped made leaf → IsGivenUp leaf.state
    dropped_up (inl gone) = inl gone.0
    dropped_up (inr stuck) = inr stuck.0

    dropped_count : IsDropped made leaf → MayHaveFailed required d t n leaf.state leaf.faults
    dropped_count (inl gone) = inl (gone.1 ∙ w.new_leaf.unfailed)
    dropped_count (inr stuck) = inr (inl stuck.0)

    -- no content was read
    pub unread_ends : (f : Fate) (o : Own) → Holds t.exchanges n leaf → ShowsUnread (card_for objects n p made) o (closed_card (card_for objects n p made) blob leaf) → IsPathEnd objects talks n p (desk_verdict required f o) blob leaf old new
    unread_ends f own.ReadFailed holds shows =
        subst (λ (v : Verdict). IsPathEnd objects talks n p v blob leaf old new) (sym (object_verdict required f))
        (desk_end (verdict.Failed fail.ReadFailed) None (no_file shows.leaf)
        (read_failed (objects p.object) p.object shows.reads.fault shows.reads.object shows.reads.own, (blob.faults, rose_some blob.faults shows.counts, (refl, as_made shows.leaf)), refl))
    unread_ends f (own.Object k) holds shows =
        subst (λ (v : Verdict). IsPathEnd objects talks n p v blob leaf old new) (sym (kind_verdict required f k))
        (desk_end (verdict.Failed (fail.Object k)) None (no_file shows.leaf)
        (kind_of (objects p.object) p.object shows.reads.fault k shows.reads.object shows.reads.own, (ap Some shows.counts, as_made shows.leaf), refl))
    unread_ends f own.NoMemory holds shows =
        let kept = given_up (MayBePut required d t n (objects p.object) p) old new p.path leaf (dropped_up shows.leaf) (put_there holds) joins_path in
        subst (λ (v : Verdict). IsPathEnd objects talks n p v blob leaf old new) (sym (memory_verdict required f))
        (desk_end verdict.NoMemory kept.file kept.grow (leaf.state, leaf.faults, dropped_count shows.leaf, (ap Some shows.counts, refl), kept.left))
    unread_ends f (own.Fine u) holds shows = absurd (not_fine u shows.reads.fault shows.reads.own)
    unread_ends f own.WriteFailed holds shows = absurd (not_write_failed shows.reads.fault shows.reads.own)

    -- what the path heard
    hears : (h : Heard) → contains n t.asked ≡ true → fate_of n Untold (notes_in d t.exchanges) ≡ Known h → heard_at d t n ≡ Some h
    hears h asked fate = ap (λ (b : Bool). cond b (heard_by (fate_of n Untold (notes_in d t.exchanges))) None) asked ∙ ap heard_by fate

    unfailed : blob ≡ new_blob p.object → Some blob.faults ≡ Some 0
    unfailed same = ap (λ (b : BlobSeen). Some b.faults) same

    prepares : (ready : Prepared) → IsPrepared (card_for objects n p made) ready → IsPreparedTo (objects p.object) p ready
    prepares ready (content, gives, is) = record { content = content; object = gives; is = is }

    -- a leaf that failed and was given up
    write_failed : (h : Heard) → heard_at d t n ≡ Some h → (h ≡ heard.OutOfMemory → ⊥) → blob ≡ new_blob p.object → IsGivenUp leaf.state → HasPut (MayBePut required d t n (objects p.object) p) leaf → Rose 0 leaf.faults
        → IsPathEnd objects talks n p (verdict.Failed fail.WriteFailed) blob leaf old new
    write_failed h told memory same up has rose =
        let kept = given_up (MayBePut required d t n (objects p.object) p) old new p.path leaf up has joins_path in
        desk_end (verdict.Failed fail.WriteFailed) kept.file kept.grow
        ((h, told, memory), leaf.state, leaf.faults, rose_some leaf.faults rose, begun_leaf leaf.state up, (unfailed same, refl), kept.left)

    gave_up : blob ≡ new_blob p.object → IsGivenUp leaf.state → HasPut (MayBePut required d t n (objects p.object) p) leaf → MayHaveFailed required d t n leaf.state leaf.faults
        → IsPathEnd objects talks n p verdict.NoMemory blob leaf old new
    gave_up same up has failed =
        let kept = given_up (MayBePut required d t n (objects p.object) p) old new p.path leaf up has joins_path in
        desk_end verdict.NoMemory kept.file kept.grow (leaf.state, leaf.faults, failed, (unfailed same, refl), kept.left)

    -- The card never left its desk and was read: it ends by what its driver told.
    pub read_ends : (h : Heard) (o : Own) → fate_of n Untold (notes_in d t.exchanges) ≡ Known h → (wrote o ≡ true → contains n t.asked ≡ true)
        → Holds t.exchanges n leaf → ShowsRead required h (card_for objects n p made) o (closed_card (card_for objects n p made) blob leaf) → IsPathEnd objects talks n p (desk_verdict required (Known h) o) blob leaf old new
    read_ends heard.Got (own.Fine u) fate asked holds shows =
        let got = answer_of t.exchanges n leaf.content (holds.sealed p.mark shows.leaf.1) in
        desk_end (verdict.Written u) (Some (file_with p got.0))
        (seals old new p.path leaf.content got.0 p.mark leaf.state shows.leaf.1 got.2 joins_path) (
          hears heard.Got (asked refl) fate,
          (unfailed shows.blob, same_count leaf.state (Sealed p.mark) leaf.faults 0 shows.leaf.1 (shows.leaf.2 ∙ w.new_leaf.unfailed)),
          shows.ready,
          prepares shows.ready shows.is_prepared,
          shows.leaf.0,
          got.0,
          got.1,
          refl,
        )
    read_ends (heard.Refused why) (own.Fine u) fate asked holds shows =
        let is : required ≡ true = must required why u shows.may in
        subst (λ (r : Bool). IsPathEnd objects talks n p (desk_verdict r (Known (heard.Refused why)) (own.Fine u)) blob leaf old new) (sym is)
        (desk_end (verdict.Failed (fail.Filter why)) None (gone_file shows.leaf.1) (
          is,
          hears (heard.Refused why) (asked refl) fate,
          (unfailed shows.blob, same_count leaf.state Gone leaf.faults 0 shows.leaf.1 (shows.leaf.2 ∙ w.new_leaf.unfailed)),
          refl,
        ))
    read_ends heard.Lost (own.Fine u) fate asked holds shows =
        desk_end (verdict.Failed fail.Missing) None (gone_file shows.leaf.1)
        (hears heard.Lost (asked refl) fate, (unfailed shows.blob, same_count leaf.state Gone leaf.faults 0 shows.leaf.1 (shows.leaf.2 ∙ w.new_leaf.unfailed)), refl)
    read_ends heard.OutOfMemory (own.Fine u) fate asked holds shows = gave_up shows.blob (inl shows.leaf.1) (put_there holds) (inl (shows.leaf.2 ∙ w.new_leaf.unfailed))
    read_ends heard.Got own.WriteFailed fate asked holds shows = write_failed heard.Got (hears heard.Got (asked refl) fate) (λ e. absurd cc) shows.blob shows.leaf.0 (put_there holds) (subst (λ (k : ℕ). Rose k leaf.faults) w.new_leaf.unfailed shows.leaf.1)
    read_ends (heard.Refused why) own.WriteFailed fate asked holds shows =
        write_failed (heard.Refused why) (hears (heard.Refused why) (asked refl) fate) (λ e. absurd cc) shows.blob shows.leaf.0 (put_there holds) (subst (λ (k : ℕ). Rose k leaf.faults) w.new_leaf.unfailed shows.leaf.1)
    read_ends heard.Lost own.WriteFailed fate asked holds shows = write_failed heard.Lost (hears heard.Lost (asked refl) fate) (λ e. absurd cc) shows.blob shows.leaf.0 (put_there holds) (subst (λ (k : ℕ). Rose k leaf.faults) w.new_leaf.unfailed shows.leaf.1)
    read_ends heard.OutOfMemory own.WriteFailed fate asked holds shows = gave_up shows.blob shows.leaf.0 (put_there holds) (inr (inr (hears heard.OutOfMemory (asked refl) fate)))
    read_ends h own.NoMemory fate asked holds shows = gave_up shows.blob (dropped_up shows.leaf) (put_there holds) (dropped_count shows.leaf)
    read_ends h (own.Object k) fate asked holds shows = absurd shows.leaf
    read_ends h own.ReadFailed fate asked holds shows = absurd shows.leaf

    -- An actor had the card from the book: the driver isn't required and refused the path.
    pub book_ends : (why : FilterCause) (o : Own) → required ≡ false → fate_of n Untold (notes_in d t.exchanges) ≡ Known (heard.Refused why) → (wrote o ≡ true → contains n t.asked ≡ true)
        → WritesCard (card_for objects n p made) o blob leaf → IsPathEnd objects talks n p (desk_verdict required (Known (heard.Refused why)) o) blob leaf old new
    book_ends why (own.Fine u) free fate asked (ready, is, (flag, written), same) =
        subst (λ (r : Bool). IsPathEnd objects talks n p (desk_verdict r (Known (heard.Refused why)) (own.Fine u)) blob leaf old new) (sym free)
        (desk_end (verdict.Unfiltered why u) (Some (file_with p ready.bytes)) (seals old new p.path leaf.content ready.bytes p.mark leaf.state written.sealed written.content joins_path) (
          free,
          hears (heard.Refused why) (asked refl) fate,
          (unfailed same, same_count leaf.state (Sealed p.mark) leaf.faults 0 written.sealed (written.unfailed ∙ w.new_leaf.unfailed)),
          ready,
          prepares ready is,
          flag,
          refl,
        ))
    book_ends why own.WriteFailed free fate asked (ready, is, cut, same) =
        write_failed (heard.Refused why) (hears (heard.Refused why) (asked refl) fate) (λ e. absurd cc) same cut.state
        (λ stuck. (ready.bytes, inr (inr (free, why, hears (heard.Refused why) (asked refl) fate, ready, prepares ready is, refl)), cut.content)) (subst (λ (k : ℕ). Rose k leaf.faults) w.new_leaf.unfailed cut.rose)
    book_ends why own.NoMemory free fate asked (same, kept) =
        desk_end verdict.NoMemory None (no_file kept) (Fresh, 0, inl refl, (unfailed same, as_made kept), refl)
    book_ends why own.ReadFailed free fate asked (may, rose, kept) =
        desk_end (verdict.Failed fail.ReadFailed) None (no_file kept) (may, (blob.faults, rose_some blob.faults rose, (refl, as_made kept)), refl)
    book_ends why (own.Object k) free fate asked (fault, same, kept) =
        desk_end (verdict.Failed (fail.Object k)) None (no_file kept) (kind_of (objects p.object) p.object fault.fault k fault.object fault.own, (unfailed same, as_made kept), refl)
