use Rattle.std.proofs.Common.{◌≡◌, ◌++◌, take, sym, ◌∙◌, ap, append_assoc}
use Rattle.byte_path.specs.Quote.{quoted}
use Rattle.git_listings.specs.Answer.{line, answer}
use Rattle.git_listings.proofs.Answers.{answer-take}
use Rattle.git_listings.proofs.answer.push_answer.Goals as goal

pub loop-place-preserved : goal.loop-place-preserved
loop-place-preserved c =
    let shown = quoted c.args.path.now in
    let name = c.index-names-place.result in
    let state = c.index-states-place.result in
    let before = answer shown (take c.loop-place.place c.args.names.now) (take c.loop-place.place c.args.states.now) in
    let more = answer-take shown c.args.names.now c.args.states.now c.loop-place.place name state c.index-names-place.is c.index-states-place.is c.loop-place-test.true c.requires in
    let pushed : c.push_line.new.text.items ≡ c.loop-place.text.items ++ line shown name state =
    c.in_ok-push_line.ensures
    ∙ ap (λ xs. c.loop-place.text.items ++ line xs c.as_slice.result.now state) (c.deref.ensures.value ∙ c.in_ok-shown.ensures)
    ∙ ap (λ xs. c.loop-place.text.items ++ line shown xs state) c.as_slice.ensures in
    pushed
    ∙ ap (λ xs. xs ++ line shown name state) c.loop-place.invariant
    ∙ append_assoc c.args.text.now.items before (line shown name state)
    ∙ ap (λ xs. c.args.text.now.items ++ xs) (sym more)
