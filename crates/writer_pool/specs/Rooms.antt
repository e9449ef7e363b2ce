-- The room for what a pool leaves.
use Rattle.std.specs.Prelude.{◌≡◌, ◌≤◌, ℕ, [], vec_capacity}
use Rattle.writer_pool.specs.declared.back.Back.{Back}
use Rattle.writer_pool.specs.declared.path_ends.PathEnds.{PathEnds}

-- it is empty, and has room for so many paths
pub record HasRoom {B L : Type 0} (paths : ℕ) (room : PathEnds B L) : Type 0 where
  pub no_verdict : room.verdicts.items ≡ []
  pub no_leaf : room.leaves.items ≡ []
  pub no_blob : room.blobs.items ≡ []
  pub all_verdicts : paths ≤ vec_capacity room.verdicts
  pub all_leaves : paths ≤ vec_capacity room.leaves
  pub all_blobs : paths ≤ vec_capacity room.blobs

-- it is empty, and has room for so many passes, and for what so many desks leave
pub record HasRoomBack {P S : Type 0} (passes desks : ℕ) (room : Back P S) : Type 0 where
  pub no_pass : room.passes.items ≡ []
  pub no_starter : room.starters.items ≡ []
  pub no_talk : room.talks.items ≡ []
  pub all_passes : passes ≤ vec_capacity room.passes
  pub all_starters : desks ≤ vec_capacity room.starters
  pub all_talks : desks ≤ vec_capacity room.talks
