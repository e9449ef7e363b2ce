use Rattle.std.proofs.Common.{◌++◌, ℕ, List, [], ◌∷◌, get_or, map, take, refl, ap, ◌∙◌, subst}
use Rattle.rehearsal.specs.Repository.{File, file, files, attributes}
use Rattle.rehearsal.specs.Stored.{IsStored, seen_object}
use Rattle.rehearsal.proofs.Storing.{next_file}
use Rattle.rehearsal.proofs.files.store_files.Goals as goal

pub loop-number-init : goal.loop-number-init
unfolding attributes
loop-number-init c =
    c.in_ok-store.ensures [] record { entries = c.new.ensures.items; objects = ap (map seen_object) c.new-2.ensures.items }

pub loop-number-preserved : goal.loop-number-preserved
loop-number-preserved c =
    let k : ℕ = c.loop-number.number-index in
    let js : List ℕ = c.args.numbers.now in
    let j : ℕ = get_or js k 0 in
    let before : List File = files c.args.seed (take k js) in
    let one : IsStored c.store-in-loop-number.new.stored (before ++ file c.args.seed j ∷ []) =
    subst (λ (f : File). IsStored c.store-in-loop-number.new.stored (before ++ f ∷ []))
    (λ i. record {
      path = (c.deref.ensures.value ∙ c.in_ok-path.ensures) i;
      content = (c.deref-in-loop-number.ensures.value ∙ c.in_ok-content.ensures) i;
    })
    (c.in_ok-store-2.ensures before c.loop-number.invariant) in
    subst (λ (fs : List File). IsStored c.store-in-loop-number.new.stored fs)
    (next_file c.args.seed js k j c.loop-number-test.true refl) one
