-- The rule of the lock, and what its steps tell.
use Rattle.std.specs.Prelude.{◌≡◌, ◌≢◌, ◌==◌, ℕ, ◌+◌, ◌<◌, ◌≤◌, max, List, [], ◌∷◌, ◌++◌, ◌⊎◌, length, slice_index}
use Rattle.std.specs.Prelude.{Option, Some, None, MatchBool}
use mathlib.Core.Option.{some}
use lib.ListN.{get_elem?}
use Rattle.atomic_table.specs.Table.{State, Me, Step, rest}
use Rattle.turn_lock.specs.declared.view.SeatPlace.{SeatPlace}
use Rattle.turn_lock.specs.declared.view.SeatPlace.TheVariants.{Out, Inside}
use Rattle.turn_lock.specs.declared.view.Old.{Old}
use Rattle.turn_lock.specs.declared.view.View.{View}
use Rattle.turn_lock.specs.declared.view.Knows.{Knows}
use Rattle.turn_lock.specs.declared.view.Knows.TheVariants.{Spent, Seated}
use Rattle.turn_lock.specs.History.{own, longer, Begins}

module _ {E : Type 0} where
  abbrev pub IsOld : Old E → List (Old E) → Type 0
  IsOld o olds = (i : ℕ) × (get_elem? olds i ≡ some o)

  abbrev pub InPlace : ℕ → List (ℕ × E) → SeatPlace E → Type 0
  InPlace word log Out = Unit {0}
  InPlace word log (Inside found) = (word ≡ 1) × (found ≡ log)

module _ {E D : Type 0} where
  -- what the rule says of one view by itself
  pub record Fits (told : D) (log : List (ℕ × E)) (given : ℕ) (v : View E D) : Type 0 where
    pub told_is : v.told ≡ told
    pub begins : Begins v.seen log
    pub receipts : own v.number v.seen ≡ own v.number log
    pub mine_is : v.mine ≡ own v.number log
    pub below : v.number < given
    pub maker : 0 < v.made → v.made ≡ given
    pub old : (o : Old E) → IsOld o v.olds
        → (o.number < given) × Begins o.seen log × (o.mine ≡ own o.number log)

  abbrev pub Live : List (Knows E D) → ℕ → View E D → Type 0
  Live views id v = get_elem? views id ≡ some (Seated v)

  -- a seat that is left has this number, or took in one that had it
  abbrev pub IsHeld : List (Knows E D) → ℕ → Type 0
  IsHeld views k = (id : ℕ) × (v : View E D) × Live views id v
      × ((v.number ≡ k) ⊎ ((o : Old E) × IsOld o v.olds × (o.number ≡ k)))

  -- the first view
  abbrev pub opened : D → Knows E D
  opened told = Seated (record {
    number = 0;
    place = Out;
    turns = 0;
    seen = [];
    mine = [];
    told = told;
    made = 1;
    olds = [];
  })

  -- a turn begins
  abbrev pub entering : List (ℕ × E) → View E D → View E D
  entering found v = record v { place = Inside found; turns = v.turns + 1 }

  abbrev pub leaving : List (ℕ × E) → View E D → View E D
  leaving seen v = record v { place = Out; seen = seen; mine = own v.number seen }

  -- one more number was given
  abbrev pub risen : View E D → View E D
  risen v = record v { made = v.made + 1 }

  -- the seat that gets the number
  abbrev pub new_seat : View E D → View E D
  new_seat v = record {
    number = v.made;
    place = Out;
    turns = 0;
    seen = v.seen;
    mine = [];
    told = v.told;
    made = 0;
    olds = [];
  }

  abbrev pub gave : Knows E D → Knows E D
  gave Spent = Spent
  gave (Seated v) = Seated (risen v)

  abbrev pub newcomer : Knows E D → Knows E D
  newcomer Spent = Spent
  newcomer (Seated v) = Seated (new_seat v)

  abbrev pub old_of : View E D → Old E
  old_of w = record { number = w.number; seen = w.seen; mine = w.mine }

  -- the first seat, after it has taken in the second
  abbrev pub with_other : View E D → View E D → View E D
  with_other v w = record {
    number = v.number;
    place = v.place;
    turns = v.turns;
    seen = longer v.seen w.seen;
    mine = v.mine;
    told = v.told;
    made = max v.made w.made;
    olds = old_of w ∷ (w.olds ++ v.olds);
  }

  abbrev pub joined : Knows E D → Knows E D → Knows E D
  joined Spent k = Spent
  joined (Seated v) Spent = Seated v
  joined (Seated v) (Seated w) = Seated (with_other v w)

module _ {T E D : Type 0} (hist : T → List (ℕ × E)) where
  module _ (fits : T → D → Type 0) where
    -- What is true between any two steps. `log` is the whole history, and `given` how many numbers were given.
    pub record Ruled (told : D) (s : State (Option T) (Knows E D)) : Type 0 where
      pub log : List (ℕ × E)
      pub given : ℕ
      pub one_word : length s.words ≡ 1
      pub each : (id : ℕ) (v : View E D) → Live s.views id v → Fits told log given v
      -- a seat that is inside found the history, and at most one is inside
      pub placed : (id : ℕ) (v : View E D) → Live s.views id v → InPlace (slice_index s.words 0) log v.place
      pub alone : (i j : ℕ) (v w : View E D) (f g : List (ℕ × E)) → Live s.views i v → Live s.views j w
          → v.place ≡ Inside f → w.place ≡ Inside g → i ≡ j
      -- the word is 0 exactly while none is inside, and then the value is in its slot, and its history is the whole
      -- history
      pub taken : slice_index s.words 0 ≢ 0
          → (id : ℕ) × (v : View E D) × (f : List (ℕ × E)) × Live s.views id v × (v.place ≡ Inside f)
      pub home : slice_index s.words 0 ≡ 0
          → (value : T) × (get_elem? s.homes 0 ≡ some (some (Some value))) × (hist value ≡ log) × fits value told
      -- some seat saw the whole history
      pub top : (id : ℕ) × (v : View E D) × Live s.views id v × (v.seen ≡ log)
      -- numbers differ, exactly one seat gives them, and a number that was never given, or was joined away, isn't used
      pub apart : (i j : ℕ) (v w : View E D) → Live s.views i v → Live s.views j w
          → v.number ≡ w.number → i ≡ j
      pub makers : (i j : ℕ) (v w : View E D) → Live s.views i v → Live s.views j w
          → 0 < v.made → 0 < w.made → i ≡ j
      pub giver : (id : ℕ) × (v : View E D) × Live s.views id v × (0 < v.made)
      pub fresh : (k : ℕ) → given ≤ k → own k log ≡ []
      -- the numbers below `given` are those that were given: a seat has each, or took in the one that had it
      pub held : (k : ℕ) → k < given → IsHeld s.views k
      pub gone : (i j : ℕ) (v w : View E D) (o : Old E) → Live s.views i v → Live s.views j w
          → IsOld o v.olds → w.number ≢ o.number

    -- what a try tells if it succeeds
    abbrev pub Enters : View E D → Me (Option T) (Knows E D) → Type 0
    Enters v m = (value : T) × (m ≡ (Seated (entering (hist value) v), (0, Some value) ∷ [])) × fits value v.told
        × Begins v.seen (hist value) × (own v.number v.seen ≡ own v.number (hist value))
        × (v.mine ≡ own v.number (hist value))

    abbrev pub tried_by : Knows E D → ℕ → Me (Option T) (Knows E D) → Type 0
    tried_by Spent found m = Unit {0}
    tried_by (Seated v) found m = MatchBool (found == 0) (Enters v m) (m ≡ (Seated v, []))

    abbrev pub tried : Step (Option T) → Me (Option T) (Knows E D) → ℕ → Me (Option T) (Knows E D) → Type 0
    tried st m found n = tried_by m.0 found n

  abbrev pub left_by : Knows E D → List (ℕ × Option T) → Knows E D
  left_by (Seated v) ((k, Some value) ∷ more) = Seated (leaving (hist value) v)
  left_by known held = known

  abbrev pub passed : Step (Option T) → Me (Option T) (Knows E D) → ℕ → Me (Option T) (Knows E D) → Type 0
  passed st m found n = n ≡ (left_by m.0 m.1, rest m.1)

module _ {E D : Type 0} where
  -- each number that was given is the seat's own or that of one that it took in
  abbrev pub Covers : View E D → Type 0
  Covers v = (0 < v.made)
      × ((k : ℕ) → k < v.made → k ≢ v.number → (o : Old E) × IsOld o v.olds × (o.number ≡ k))

module _ {T E D : Type 0} where
  -- a seat that is out, with this view
  abbrev pub IsOut : Me (Option T) (Knows E D) → View E D → Type 0
  IsOut m v = (m ≡ (Seated v, [])) × (v.place ≡ Out)

  -- a seat that is inside, with this view
  abbrev pub IsIn : Me (Option T) (Knows E D) → View E D → List (ℕ × E) → Type 0
  IsIn m v found = (m ≡ (Seated v, (0, None) ∷ [])) × (v.place ≡ Inside found)

module _ {T E D : Type 0} (hist : T → List (ℕ × E)) (fits : T → D → Type 0) where
  -- The value of a lock that was closed with the view v. Its history is what the seat and those that it took in saw and
  -- made, and nothing else.
  pub record Closes (v : View E D) (value : T) : Type 0 where
    pub history : hist value ≡ v.seen
    pub fitting : fits value v.told
    pub mine : own v.number (hist value) ≡ v.mine
    pub olds : (o : Old E) → IsOld o v.olds → Begins o.seen (hist value) × (own o.number (hist value) ≡ o.mine)
    pub none : (k : ℕ) → v.made ≤ k → own k (hist value) ≡ []
