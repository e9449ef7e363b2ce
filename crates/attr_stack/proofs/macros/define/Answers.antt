use Rattle.std.proofs.Common.{◌≡◌, ◌++◌, ◌∷◌, [], ℕ, List, Some, cond, length, ◌∙◌, ap, rules}
use Rattle.std.specs.Str.{bytes_eq}
use Rattle.attr_stack.specs.declared.macros.Body.{Body}
use Rattle.attr_stack.proofs.Maps.{owned, owned-updates, defines}
use Rattle.attr_stack.proofs.macros.define.Goals as goal

pub returns : goal.returns
returns c = λ lines are.
    let old = c.args.macros.now in
    let name = c.args.name.now in
    let body : Body = record { name = name; pairs = c.args.pairs.items } in
    let counted : c.len-number.result ≡ length old.bodies.items = search rules in
    let puts : (other : List ℕ) → owned c.insert.new.self other ≡ cond (bytes_eq name other) (Some (length old.bodies.items)) (owned old.numbers other) =
    λ other. owned-updates c.in_ok-key.key.items old.numbers c.insert.new.self _ c.in_ok-insert.ensures.updates other
    ∙ ap (λ (n : List ℕ). cond (bytes_eq n other) (Some c.len-number.result) (owned old.numbers other)) c.in_ok-key.ensures.items
    ∙ ap (λ (k : ℕ). cond (bytes_eq name other) (Some k) (owned old.numbers other)) counted in
    let is : c.push.new.self.items ≡ old.bodies.items ++ body ∷ [] = search rules in
    defines old (record { numbers = c.insert.new.self; bodies = c.push.new.self }) name c.args.pairs.items puts is lines are
