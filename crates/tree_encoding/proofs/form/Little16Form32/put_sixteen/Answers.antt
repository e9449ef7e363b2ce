use Rattle.std.proofs.Common.{ℕ, List, ◌++◌, replicate, refl, ◌∙◌, [], ◌∷◌}
use Rattle.std.proofs.lemmas.Simd.{put_chunk_whole}
use Rattle.std.specs.Simd.Lanes.{pick_l}
use Rattle.tree_encoding.specs.Encode.{little16_of}
use Rattle.tree_encoding.proofs.Ascii.{picked_of, little16-ascii}
use Rattle.tree_encoding.proofs.form.Little16Form32.put_sixteen.Goals as goal

abbrev places : List ℕ
places = 0 ∷ 16 ∷ 1 ∷ 16 ∷ 2 ∷ 16 ∷ 3 ∷ 16 ∷ 4 ∷ 16 ∷ 5 ∷ 16 ∷ 6 ∷ 16 ∷ 7 ∷ 16 ∷ 8 ∷ 16 ∷ 9 ∷ 16 ∷ 10 ∷ 16 ∷ 11 ∷ 16 ∷ 12 ∷ 16 ∷ 13 ∷ 16 ∷ 14 ∷ 16 ∷ 15 ∷ 16 ∷ []

pub returns : goal.returns
returns c =
    put_chunk_whole c.args.block.now (pick_l 0 (c.args.ascii.now ++ replicate 16 0) places) c.told-block
    ∙ picked_of little16_of (λ b. b ∷ 0 ∷ []) places c.args.ascii.now little16-ascii (λ ys. refl) c.told-ascii c.requires
