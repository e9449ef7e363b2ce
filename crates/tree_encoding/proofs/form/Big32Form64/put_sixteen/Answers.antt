use Rattle.std.proofs.Common.{ℕ, List, ◌++◌, replicate, refl, ◌∙◌, [], ◌∷◌}
use Rattle.std.proofs.lemmas.Simd.{put_chunk_whole}
use Rattle.std.specs.Simd.Lanes.{pick_l}
use Rattle.tree_encoding.specs.Encode.{big32}
use Rattle.tree_encoding.proofs.Ascii.{picked_of, big32-ascii}
use Rattle.tree_encoding.proofs.form.Big32Form64.put_sixteen.Goals as goal

abbrev places : List ℕ
places = 16 ∷ 16 ∷ 16 ∷ 0 ∷ 16 ∷ 16 ∷ 16 ∷ 1 ∷ 16 ∷ 16 ∷ 16 ∷ 2 ∷ 16 ∷ 16 ∷ 16 ∷ 3 ∷ 16 ∷ 16 ∷ 16 ∷ 4 ∷ 16 ∷ 16 ∷ 16 ∷ 5 ∷ 16 ∷ 16 ∷ 16 ∷ 6 ∷ 16 ∷ 16 ∷ 16 ∷ 7 ∷ 16 ∷ 16 ∷ 16 ∷ 8 ∷ 16 ∷ 16 ∷ 16 ∷ 9 ∷ 16 ∷ 16 ∷ 16 ∷ 10 ∷ 16 ∷ 16 ∷ 16 ∷ 11 ∷ 16 ∷ 16 ∷ 16 ∷ 12 ∷ 16 ∷ 16 ∷ 16 ∷ 13 ∷ 16 ∷ 16 ∷ 16 ∷ 14 ∷ 16 ∷ 16 ∷ 16 ∷ 15 ∷ []

pub returns : goal.returns
returns c =
    put_chunk_whole c.args.block.now (pick_l 0 (c.args.ascii.now ++ replicate 16 0) places) c.told-block
    ∙ picked_of big32 (λ b. 0 ∷ 0 ∷ 0 ∷ b ∷ []) places c.args.ascii.now big32-ascii (λ ys. refl) c.told-ascii c.requires
