use Rattle.std.proofs.Common.{◌∙◌, sym, ap, subst}
use Rattle.checkout_core.specs.declared.effect.Effect.{Effect}
use Rattle.checkout_core.specs.Effects.{after}
use Rattle.checkout_core.specs.Cursors.{IsFollowable}
use Rattle.checkout_core.proofs.Applies.{turn_seat, both_seat, turns_whole, both_whole}
use Rattle.checkout_core.proofs.state.State.apply.Goals as goal

pub sweep-requires : goal.sweep-requires
sweep-requires c =
    turn_seat c.args.self.now c.turn.new.self c.in-Switches.driver c.in-Switches.state c.in-Switches.sweep
    (subst (λ (m : Effect). IsFollowable c.args.self.now m) c.in-Switches.is c.requires) c.turn.ensures

pub sweep-requires-in-Both : goal.sweep-requires-in-Both
sweep-requires-in-Both c =
    both_seat c.args.self.now c.advance.new.self c.in-Both.path c.in-Both.state c.in-Both.driver c.in-Both.next
    c.in-Both.sweep (subst (λ (m : Effect). IsFollowable c.args.self.now m) c.in-Both.is c.requires)
    c.advance.ensures

pub returns-in-Switches : goal.returns-in-Switches
returns-in-Switches c =
    turns_whole c.args.self.now c.turn.new.self c.sweep.new.self c.in-Switches.driver c.in-Switches.state
    c.in-Switches.sweep c.turn.ensures c.sweep.ensures ∙ ap (after c.args.self.now) (sym c.in-Switches.is)

pub returns-in-Both : goal.returns-in-Both
returns-in-Both c =
    both_whole c.args.self.now c.advance.new.self c.sweep-in-Both.new.self c.in-Both.path c.in-Both.state
    c.in-Both.driver c.in-Both.next c.in-Both.sweep (subst
    (λ (m : Effect). IsFollowable c.args.self.now m) c.in-Both.is c.requires) c.advance.ensures
    c.sweep-in-Both.ensures ∙ ap (after c.args.self.now) (sym c.in-Both.is)
