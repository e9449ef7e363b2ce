use Rattle.std.proofs.Common.{◌≡◌, ℕ, suc, List, ◌++◌, length, subst, sym, refl, arith}
use Rattle.std.proofs.lemmas.Bool.{eqb-true}
use Rattle.std.proofs.lemmas.List.{nil_from_length}
use Rattle.git_objects.specs.Delta.{Instruction, HasInstruction, Adds, Makes}
use Rattle.git_objects.proofs.delta.add_all.Goals as goal

Makes-more :
    (base : List ℕ) (n : ℕ) (i : Instruction) (bytes mid piece before grown after : List ℕ)
    → HasInstruction i bytes mid → Adds i base piece → grown ≡ before ++ piece → Makes base n mid grown after
    → Makes base (suc n) bytes before after
Makes-more base n i bytes mid piece before grown after has adds is makes =
    (i, mid, piece, has, adds, subst (λ x. Makes base n mid x after) is makes)

pub loop-rest-preserved : goal.loop-rest-preserved
loop-rest-preserved c =
    let has = c.in-Some.ensures.instruction in
    let grown = c.in_ok-extend_from_slice.ensures in
    record {
      within = omega (arith, grown.len);
      back = λ n after makes.
          c.loop-rest.invariant.back (suc n) after
          (Makes-more c.args.base.now n has.0 c.loop-rest.rest.now c.in-Some.behind.now c.in-Some.piece.now
          c.loop-rest.content.items c.extend_from_slice.new.self.items after has.1 has.2 grown.items makes);
    }

pub returns-clause-made : goal.returns-clause-made
returns-clause-made c =
    c.loop-rest.invariant.back 0 c.loop-rest.content.items
    (nil_from_length c.loop-rest.rest.now (eqb-true (length c.loop-rest.rest.now) 0 (sym c.loop-rest-test.ensures)), refl)
