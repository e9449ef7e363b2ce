use Rattle.std.proofs.Common.{◌≡◌, ◌++◌, ℕ, List, [], ◌∷◌, sym, ap, ◌∙◌}
use Rattle.std.proofs.lemmas.List.{append-nil}
use Rattle.std.specs.Prelude.{codes}
use Rattle.pkt_line.specs.Packets.{Packet, Flush}
use Rattle.pkt_line.specs.Spelling.{spelling_all}
use Rattle.filter_words.specs.Requests.{line}
use Rattle.rehearsal.specs.Drivers.{hello}
use Rattle.rehearsal.proofs.Spelled.{one_more}
use Rattle.rehearsal.proofs.scripts.beta_text.Goals as goal

pub loop-number-init : goal.loop-number-init
loop-number-init c =
    let smudge : Packet = line (codes "capability=smudge") in
    let first : c.push_hello.new.out.items ≡ spelling_all hello =
    c.in_ok-push_hello.ensures ∙ ap (λ (z : List ℕ). z ++ spelling_all hello) c.new-out.ensures.items in
    let second = one_more c.push_hello.new.out.items c.push_line.new.out.items hello smudge first
    c.in_ok-push_line.ensures.ok in
    one_more c.push_line.new.out.items c.push_flush.new.out.items (hello ++ smudge ∷ []) Flush second
    c.in_ok-push_flush.ensures.ok
    ∙ sym (append-nil (spelling_all (hello ++ smudge ∷ Flush ∷ [])))
