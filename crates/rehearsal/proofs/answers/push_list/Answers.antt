use Rattle.std.proofs.Common.{◌≡◌, ◌++◌, ℕ, List, ◌∷◌, map, take, get_or, refl, sym, ap, ◌∙◌}
use Rattle.std.specs.Prelude.{codes}
use Rattle.std.proofs.lemmas.List.{take_all}
use Rattle.pkt_line.specs.Packets.{Packet, Flush}
use Rattle.pkt_line.specs.Spelling.{spelling, spelling_all}
use Rattle.rehearsal.specs.Drivers.{pathname, status, list_text}
use Rattle.rehearsal.proofs.Spelled.{on_ok, two_texts, next_name, in_parts}
use Rattle.rehearsal.proofs.answers.push_list.Goals as goal

pub loop-number-preserved : goal.loop-number-preserved
loop-number-preserved c =
    let k : ℕ = c.loop-number.number-index in
    let js : List ℕ = c.args.numbers.now in
    let j : ℕ = get_or js k 0 in
    two_texts c.args.out.now.items c.loop-number.out.items c.push_pathname.new.out.items
    (spelling_all (map (pathname c.args.seed) (take k js))) (spelling (pathname c.args.seed j))
    c.loop-number.invariant c.in_ok-push_pathname.ensures
    ∙ ap (λ (z : List ℕ). c.args.out.now.items ++ z) (sym (next_name c.args.seed js k j c.loop-number-test.true refl))

pub returns : goal.returns
returns c =
    let js : List ℕ = c.args.numbers.now in
    let names : List Packet = map (pathname c.args.seed) js in
    let all : c.loop-number.out.items ≡ c.args.out.now.items ++ spelling_all names =
    c.loop-number.invariant
    ∙ ap (λ (is : List ℕ). c.args.out.now.items ++ spelling_all (map (pathname c.args.seed) is))
    (take_all c.loop-number.number-index js c.loop-number-test.false) in
    on_ok c.push_status.result
    (c.push_status.new.out.items ≡ c.push_flush.new.out.items ++ spelling_all (status (codes "success")))
    (c.push_status.new.out.items ≡ c.args.out.now.items ++ list_text c.args.seed js)
    (λ h. two_texts c.args.out.now.items c.loop-number.out.items c.push_status.new.out.items (spelling_all names)
    (spelling Flush ++ spelling_all (status (codes "success"))) all
    (two_texts c.loop-number.out.items c.push_flush.new.out.items c.push_status.new.out.items (spelling Flush)
    (spelling_all (status (codes "success"))) c.in_ok-push_flush.ensures.ok h)
    ∙ ap (λ (z : List ℕ). c.args.out.now.items ++ z) (sym (in_parts names (Flush ∷ status (codes "success")))))
    c.push_status.ensures
