-- What is seen of blobs, of leaves and so of cards.
use Rattle.edge_kit.specs.Told.{Told}
use Rattle.edge_kit.specs.Seen.{BlobSeen, LeafSeen}
use Rattle.convert_plan.specs.declared.card.Card.{Card}
use Rattle.convert_plan.specs.Card.{CardSeen, card_seen}
use Rattle.checkout_book.specs.declared.plan.Parts.{Parts}

-- what a blob tells, and what is seen of a blob and of a leaf
pub record Sight (B L : Type 0) : Type 0 where
  pub told : B → Told
  pub blob : B → BlobSeen
  pub leaf : L → LeafSeen

module _ {B L : Type 0} where
  abbrev pub sight : (B → Told) → (B → BlobSeen) → (L → LeafSeen) → Sight B L
  sight told blob leaf = record { told = told; blob = blob; leaf = leaf }

  abbrev pub seen : Sight B L → Card B L → CardSeen
  seen see card = card_seen see.told see.blob see.leaf card

-- what an entry of a Close has
abbrev pub parts_seen : BlobSeen → LeafSeen → Parts
parts_seen blob leaf = record {
  path = leaf.path;
  content = leaf.content;
  state = leaf.state;
  leaf_faults = leaf.faults;
  name = blob.name;
  blob_faults = blob.faults;
}

module _ {B L : Type 0} where
  abbrev pub tell : Sight B L → B → L → Parts
  tell see b l = parts_seen (see.blob b) (see.leaf l)
