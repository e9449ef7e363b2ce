use Rattle.std.proofs.Common.{◌≡◌, ℕ, ◌+◌, ◌<◌, ◌||◌, length, sym, subst, arith, rules}
use Rattle.std.proofs.lemmas.Grind.{common_steps}
use Rattle.wild_match.specs.Steps.{IsClose}
use Rattle.wild_match.specs.Members.{has}
use Rattle.wild_match.proofs.ReadMembers.{goes_on, close-later, not-closed, now-found}
use Rattle.wild_match.proofs.sets.is_in_members.Goals as goal
use Rattle.wild_match.proofs.sets.is_in_members.Goals.{then-found, else-found}

pub members-preserved : goal.members-preserved
members-preserved c =
    let rest = c.split_at.result.1.now in
    let hit : c.if-found.found ≡ (c.members.found || has c.in-Some.member c.args.byte) =
    elim c.if-found.branch [
      | then-found w ↦ now-found c.members.found c.if-found.found (has c.in-Some.member c.args.byte) (λ h. search rules) (λ h. cc)
      | else-found w ↦ now-found c.members.found c.if-found.found (has c.in-Some.member c.args.byte) (λ h. cc) (λ h. search rules)
    ] in
    let there : 0 < length rest = omega (arith, c.in-Some.ensures.within.0, c.in-Some.ensures.within.1) in
    let later : (c.members.place + 2) + c.in-Some.len ≡ (c.members.place + c.in-Some.len) + 2 = omega arith in
    let P : ℕ → Type 0 = λ start. IsClose c.args.text.now start c.next_close-close.result in
    record {
      read = rw hit (goes_on c.args.byte c.args.text.now rest c.members.found c.members.place c.in-Some.member c.in-Some.len c.members.invariant.read c.split_at.ensures.back there
          (not-closed rest c.members.place (search rules)) (sym c.in-Some.ensures.value) c.in-Some.ensures.within.0 (grind (arith, common_steps, c.in-Some.ensures.within)));
      known = subst P later (close-later c.args.text.now (c.members.place + 2) c.next_close-close.result c.in-Some.len c.next_close-close.ensures.known);
    }
