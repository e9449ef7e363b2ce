-- The cards of a plan, as they are made, and the drivers of its desks.
use Rattle.std.specs.Prelude.{◌≡◌, ℕ, ◌<◌, ◌≤◌, Bool, true, List, [], ◌∷◌, length, map}
use Rattle.std.specs.Prelude.{Option, Some, None, slice_get}
use Rattle.std.specs.List.{filter, AllByRecursion}
use Rattle.std.specs.Str.{IsUtf8}
use Rattle.git_index.specs.Spelling.{pairwise, is_before}
use Rattle.edge_kit.specs.Told.{Told}
use Rattle.edge_kit.specs.Joins.{JoinsLeaf}
use Rattle.edge_kit.specs.Seen.{LeafSeen, IsNewLeaf, new_blob}
use Rattle.edge_kit.specs.declared.tree_file.TreeFile.{TreeFile}
use Rattle.convert_plan.specs.declared.card.Card.{Card}
use Rattle.convert_plan.specs.Card.{CardSeen}
use Rattle.checkout_core.specs.declared.path.Start.{Start}
use Rattle.checkout_core.specs.declared.path.Start.TheVariants as start
use Rattle.checkout_core.specs.Desks.{paths_of}
use Rattle.checkout_core.specs.States.{is_at, AreBelow}
use Rattle.settings_view.specs.declared.view.Driver.{Driver}
use Rattle.checkout_book.specs.Sights.{Sight, seen}
use Rattle.checkout_plan.specs.declared.path_plan.PathPlan.{PathPlan}
use Rattle.checkout_paths.specs.Workers.{is_pool, starts_of}

-- the card of a path as it is made: its leaf is new, and so is its blob, which tells what the repository tells
pub record IsCardFor (object : List ℕ → Told) (number : ℕ) (p : PathPlan) (card : CardSeen) : Type 0 where
  pub new_leaf : IsNewLeaf p.path card.leaf
  pub same : card ≡ record {
    path = number;
    text = p.path;
    object = p.object;
    mark = p.mark;
    conversion = p.conversion;
    told = object p.object;
    blob = new_blob p.object;
    leaf = card.leaf;
    ready = None;
  }

-- whether a path that starts so is the pool's, or is at the desk of that driver
abbrev pub is_of : Option ℕ → Start → Bool
is_of None s = is_pool s
is_of (Some d) s = is_at d s

-- Each card is that of a path of the pool, or of the desk. Each such path has its card, and the paths rise.
pub record AreCards {B L : Type 0} (owner : Option ℕ) (see : Sight B L) (object : List ℕ → Told) (paths : List PathPlan)
    (cards : List (Card B L)) : Type 0 where
  pub there : (k : ℕ) (c : Card B L) → slice_get cards k ≡ Some c
      → (p : PathPlan) × (slice_get paths c.path ≡ Some p) × (is_of owner p.start ≡ true)
      × IsCardFor object c.path p (seen see c)
  pub all : (n : ℕ) (p : PathPlan) → slice_get paths n ≡ Some p → is_of owner p.start ≡ true
      → (k : ℕ) × (c : Card B L) × (slice_get cards k ≡ Some c) × (c.path ≡ n)
  pub rises : (i j : ℕ) (a b : Card B L) → i < j → slice_get cards i ≡ Some a → slice_get cards j ≡ Some b
      → a.path < b.path
  pub count : length cards ≡ length (filter (λ p. is_of owner p.start) paths)
  pub numbers : (d : ℕ) → owner ≡ Some d → map (λ c. c.path) cards ≡ paths_of d (starts_of paths)

-- a path that is read and written is text of 1 to 4,096 bytes
pub record IsText (path : List ℕ) : Type 0 where
  pub text : IsUtf8 path
  pub some : 0 < length path
  pub within : length path ≤ 4096

abbrev pub IsTextIn : Start → List ℕ → Type 0
IsTextIn (start.Done v) path = Unit {0}
IsTextIn s path = IsText path

abbrev pub AreTexts : List PathPlan → Type 0
AreTexts paths = AllByRecursion (λ p. IsTextIn p.start p.path) paths

-- each path that starts at a desk is at that of a driver in use, and is as required as its driver
abbrev pub HasDriver : List Driver → Start → Type 0
HasDriver drivers (start.Desk d required) = (x : Driver) × (slice_get drivers d ≡ Some x) × (x.required ≡ required)
HasDriver drivers s = Unit {0}

-- Each path at a desk has its driver, and each driver has its command.
pub record AreDrivers (drivers : List Driver) (paths : List PathPlan) : Type 0 where
  pub of_paths : AllByRecursion (λ p. HasDriver drivers p.start) paths
  pub commands : AllByRecursion (λ (x : Driver). (command : List ℕ) × (x.process ≡ Some command)) drivers
  pub few : length drivers ≤ 16

-- whether one path comes before another
abbrev pub precedes : PathPlan → PathPlan → Bool
precedes p q = is_before p.path q.path

-- each path comes before all later ones
abbrev pub AreOrdered : List PathPlan → Type 0
AreOrdered paths = pairwise precedes paths ≡ true

-- each driver that a path begins with is one of those in use
abbrev pub DriversAreInUse : Type 0
DriversAreInUse = (drivers : List Driver) (paths : List PathPlan) → AreDrivers drivers paths
    → AreBelow (length drivers) (starts_of paths)

-- the told files after leaves were given back, one after the other
abbrev pub JoinAll : List LeafSeen → Option (List TreeFile) → Option (List TreeFile) → Type 0
JoinAll [] old new = new ≡ old
JoinAll (l ∷ ls) old new = (mid : Option (List TreeFile)) × JoinsLeaf l old mid × JoinAll ls mid new
