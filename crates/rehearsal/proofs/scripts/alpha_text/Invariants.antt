use Rattle.std.proofs.Common.{◌≡◌, ◌++◌, ◌∷◌, [], take}
use Rattle.std.specs.Prelude.{codes}
use Rattle.std.specs.List.{flat_map}
use Rattle.pkt_line.specs.Packets.{Flush}
use Rattle.pkt_line.specs.Spelling.{spelling_all}
use Rattle.filter_words.specs.Requests.{line}
use Rattle.rehearsal.specs.Drivers.{hello, alpha_first}
use Rattle.rehearsal.proofs.scripts.alpha_text.Given as goal

abbrev pub invariant-loop-number : goal.invariant-loop-number
invariant-loop-number l =
    l.out.items ≡ spelling_all (hello ++ line (codes "capability=smudge") ∷ line (codes "capability=delay") ∷ Flush ∷ [])
    ++ flat_map (alpha_first l.seed) (take l.number-index l.numbers)
