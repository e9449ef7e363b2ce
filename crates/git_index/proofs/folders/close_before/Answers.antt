use Rattle.std.proofs.Common.{◌≡◌, ◌++◌, ◌∷◌, [], List, ℕ, sym, subst, rules, true}
use Rattle.git_index.specs.Folders.{are_numbers}
use Rattle.git_index.proofs.Numbers.{top_is, closes_one, numbers-front}
use Rattle.git_index.proofs.folders.close_before.Goals as goal

pub loop-last-preserved : goal.loop-last-preserved
loop-last-preserved c =
    let parts : c.loop-last.stack.items ≡ c.pop.new.self.items ++ c.in-Some.last.now ∷ [] = top_is c.loop-last.stack.items c.pop.new.self.items c.in-Some.last.now _ (search rules) c.pop.ensures.rest (search rules) in
    record {
      so_far = closes_one c.args.entries.now c.args.path.now c.path_of-open.result.now c.args.stack.now.items c.loop-last.stack.items c.pop.new.self.items c.in-Some.last.now parts c.path_of-open.ensures (sym c.if-starts_with.ensures.value) c.loop-last.invariant.so_far;
      known = λ all. numbers-front c.args.entries.now c.pop.new.self.items c.in-Some.last.now (subst (λ (ks : List ℕ). are_numbers c.args.entries.now ks ≡ true) parts (c.loop-last.invariant.known all));
    }
