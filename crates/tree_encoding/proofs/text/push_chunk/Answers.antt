use Rattle.std.proofs.Common.{◌<◌, ◌*◌, ◌/◌, ℕ, List, [], length, get_or, sym, ap, ◌∙◌, arith, rules}
use Rattle.std.specs.Char.{is_ascii}
use Rattle.std.specs.List.{list_all}
use Rattle.tree_encoding.proofs.Chunks.{all_in_chunk, four_chunks}
use Rattle.tree_encoding.proofs.text.push_chunk.Goals as goal

pub put_sixteen-requires : goal.put_sixteen-requires
put_sixteen-requires g c =
    let small : g.row.WIDE * 1 < 9223372036854775808 = omega (arith, g.met.F.Form.few) in (
      small,
      ap (λ (cs : List (List ℕ)). list_all is_ascii (get_or cs 0 [])) c.as_chunks.ensures.front
          ∙ all_in_chunk is_ascii 16 (length c.args.ascii.now / 16) 0 c.args.ascii.now c.requires,
    )

pub put_sixteen-requires-2 : goal.put_sixteen-requires-2
put_sixteen-requires-2 g c =
    let small : g.row.WIDE * 1 < 9223372036854775808 = omega (arith, g.met.F.Form.few) in (
      small,
      ap (λ (cs : List (List ℕ)). list_all is_ascii (get_or cs 1 [])) c.as_chunks.ensures.front
          ∙ all_in_chunk is_ascii 16 (length c.args.ascii.now / 16) 1 c.args.ascii.now c.requires,
    )

pub put_sixteen-requires-3 : goal.put_sixteen-requires-3
put_sixteen-requires-3 g c =
    let small : g.row.WIDE * 1 < 9223372036854775808 = omega (arith, g.met.F.Form.few) in (
      small,
      ap (λ (cs : List (List ℕ)). list_all is_ascii (get_or cs 2 [])) c.as_chunks.ensures.front
          ∙ all_in_chunk is_ascii 16 (length c.args.ascii.now / 16) 2 c.args.ascii.now c.requires,
    )

pub put_sixteen-requires-4 : goal.put_sixteen-requires-4
put_sixteen-requires-4 g c =
    let small : g.row.WIDE * 1 < 9223372036854775808 = omega (arith, g.met.F.Form.few) in (
      small,
      ap (λ (cs : List (List ℕ)). list_all is_ascii (get_or cs 3 [])) c.as_chunks.ensures.front
          ∙ all_in_chunk is_ascii 16 (length c.args.ascii.now / 16) 3 c.args.ascii.now c.requires,
    )

pub returns : goal.returns
returns g c =
    let same = four_chunks g.F.Form.bytes_of c.args.ascii.now c.as_chunks.result.0.now c.told-ascii c.as_chunks.ensures.front in
    rw (sym same, sym c.put_sixteen.ensures, sym c.put_sixteen-2.ensures, sym c.put_sixteen-3.ensures, sym c.put_sixteen-4.ensures, sym c.as_flattened.ensures.value) (search rules)
