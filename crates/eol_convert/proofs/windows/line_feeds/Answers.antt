use Rattle.std.proofs.Common.{arith, w8, List, Bool, ap, ◌∙◌, eqb, replicate, map, ◌%◌, ◌^◌}
use Rattle.std.proofs.lemmas.List.{length-map}
use Rattle.std.proofs.lemmas.Simd.{mask_l-mod, tops_compared, zip2_splat}
use Rattle.std.specs.Simd.Lanes.{mask_l}
use Rattle.memchr.specs.Find.{is_byte}
use Rattle.eol_convert.proofs.windows.line_feeds.Goals as goal

pub returns : goal.returns
returns c =
    let v = c.args.window in
    ap (λ (bs : List Bool). mask_l bs % 2 ^ 64) (tops_compared w8 eqb v (replicate 32 10) ∙ zip2_splat eqb v 32 10 c.fits-window.0)
    ∙ mask_l-mod (map (is_byte 10) v) 64 (omega (arith, length-map v (is_byte 10), c.fits-window.0))
