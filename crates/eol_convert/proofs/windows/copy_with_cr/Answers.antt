use Rattle.std.proofs.Common.{◌+◌, ◌++◌, take, drop, replicate, List, ℕ, sym, ap, ◌∙◌, append_assoc, arith}
use Rattle.std.proofs.lemmas.List.{length-take-le}
use Rattle.eol_convert.proofs.Copies.{cr_set}
use Rattle.eol_convert.proofs.windows.copy_with_cr.Goals as goal

pub returns-clause-written : goal.returns-clause-written
returns-clause-written c =
    let a = c.args in
    let text : List ℕ = drop a.reach.from a.content.now in
    let done : List ℕ = take a.reach.at a.block.now in
    let next : List ℕ = take 32 (drop (a.reach.from + a.place) a.content.now) in
    let set = cr_set c.copy_window.new.block done text a.reach.at a.place a.more c.copy_window.ensures.written (sym (length-take-le a.reach.at a.block.now (omega arith)))
    (omega arith) (omega arith) (omega (arith, c.copy_window.ensures.len)) in
    c.copy_window-2.ensures.written ∙ ap (λ (xs : List ℕ). xs ++ next) set ∙ append_assoc done (take a.place text ++ replicate a.more 13) next
    ∙ ap (λ (xs : List ℕ). done ++ xs) (append_assoc (take a.place text) (replicate a.more 13) next)
