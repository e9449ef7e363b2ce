-- What a card's own outcome shows of its blob and its leaf, where the actor that closes it had claimed it.
use Rattle.std.specs.Prelude.{◌≡◌, ℕ, List, [], Some, Result, Ok, Err}
use Rattle.edge_kit.specs.Told.{Tells, MayFail}
use Rattle.edge_kit.specs.Faults.{Rose}
use Rattle.edge_kit.specs.Files.{grown}
use Rattle.edge_kit.specs.Seen.{BlobSeen, LeafSeen, IsPutCut}
use Rattle.edge_kit.specs.declared.faults.SendFault.{SendFault}
use Rattle.edge_kit.specs.declared.faults.SendFault.TheVariants as send
use Rattle.edge_kit.specs.declared.leaf_state.LeafState.TheVariants.{Fresh, Sealed}
use Rattle.edge_kit.specs.declared.leaf_state.Mark.{Mark}
use Rattle.tree_encoding.specs.declared.prepared.Prepared.{Prepared}
use Rattle.checkout_core.specs.declared.verdict.Own.{Own}
use Rattle.checkout_core.specs.declared.verdict.Own.TheVariants as own
use Rattle.convert_plan.specs.Card.{CardSeen, IsPrepared}
use Rattle.driver_desk.specs.Works.{IsUnread}
use Rattle.driver_desk.specs.Serving.{TellsPart}
use Rattle.driver_desk.specs.Shown.{IsGivenUp}

-- the content was put and the leaf sealed, or a first part was put and the leaf failed, or memory ran out and nothing
-- has changed
abbrev pub PutsWhole : {T : Type 0} → Mark → List ℕ → LeafSeen → LeafSeen → Result T SendFault → Type 0
PutsWhole mark content old new (Ok x) = new ≡ record old { content = grown old.content content; state = Sealed mark }
PutsWhole mark content old new (Err send.Failed) = IsPutCut content old new
PutsWhole mark content old new (Err send.NoMemory) = new ≡ old

-- the leaf is sealed under the mark with this content, and has not failed
pub record IsWritten (mark : Mark) (bytes : List ℕ) (old new : LeafSeen) : Type 0 where
  pub path : new.path ≡ old.path
  pub sealed : new.state ≡ Sealed mark
  pub content : Tells new.content bytes
  pub unfailed : new.faults ≡ old.faults

-- the leaf failed and was given up, with a first part of this content
pub record IsCutOff (bytes : List ℕ) (old new : LeafSeen) : Type 0 where
  pub path : new.path ≡ old.path
  pub state : IsGivenUp new.state
  pub content : TellsPart new.content bytes
  pub rose : Rose old.faults new.faults

-- how the writing of a prepared content ends
abbrev pub WritesContent : Mark → Prepared → LeafSeen → Own → LeafSeen → Type 0
WritesContent mark ready old (own.Fine unencoded) new =
    (unencoded ≡ ready.unencoded) × IsWritten mark ready.bytes old new
WritesContent mark ready old own.WriteFailed new = IsCutOff ready.bytes old new
WritesContent mark ready old own.NoMemory new = new ≡ old
WritesContent mark ready old o new = ⊥

-- A card that may be written: its leaf is fresh and empty, and what was prepared is its own content prepared.
pub record IsToWrite (card : CardSeen) : Type 0 where
  pub fresh : card.leaf.state ≡ Fresh
  pub empty : Tells card.leaf.content []
  pub ready : (p : Prepared) → card.ready ≡ Some p → IsPrepared card p

-- the writing of what the card's object is prepared to ended so, and the blob has not failed
abbrev pub WritesRead : CardSeen → Own → BlobSeen → LeafSeen → Type 0
WritesRead card o blob leaf = (ready : Prepared) × IsPrepared card ready
    × WritesContent card.mark ready card.leaf o leaf × (blob ≡ card.blob)

-- How the writing of a card ends, by its own outcome: what is seen of its blob and its leaf. An object is at fault
-- before anything is written.
abbrev pub WritesCard : CardSeen → Own → BlobSeen → LeafSeen → Type 0
WritesCard card (own.Fine unencoded) blob leaf = WritesRead card (own.Fine unencoded) blob leaf
WritesCard card own.WriteFailed blob leaf = WritesRead card own.WriteFailed blob leaf
WritesCard card own.ReadFailed blob leaf =
    MayFail card.told × Rose card.blob.faults blob.faults × (leaf ≡ card.leaf)
WritesCard card (own.Object kind) blob leaf =
    IsUnread card (own.Object kind) × (blob ≡ card.blob) × (leaf ≡ card.leaf)
WritesCard card own.NoMemory blob leaf = (blob ≡ card.blob) × (leaf ≡ card.leaf)
