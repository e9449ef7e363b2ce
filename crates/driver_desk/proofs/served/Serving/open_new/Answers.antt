use Rattle.std.proofs.Common.{refl}
use Rattle.driver_desk.proofs.Calls.{opens, opens_not}
use Rattle.driver_desk.proofs.OnDesk.{on_closed, on_away, opens_live, opens_failed}
use Rattle.driver_desk.proofs.served.Serving.open_new.Goals as goal

pub note_down-requires-clause-next : goal.note_down-requires-clause-next
note_down-requires-clause-next g c =
    let h = c.requires in
    (opens c.desk_laws.ensures _ _ c.args.self.now.seat.driver _ _ _ c.in-Live.caps c.args.path _ refl h.on.driver c.in-Live.ensures.session refl (on_closed _ _ _ _ h.on h.going h.none) (on_away _ _ _ _ h.on)).0

pub note_down-requires-in-Failed-clause-next : goal.note_down-requires-in-Failed-clause-next
note_down-requires-in-Failed-clause-next g c =
    let h = c.requires in
    let e = c.in-Failed.ensures.says c.args.path in
    (opens_not c.desk_laws.ensures _ _ _ c.in-Failed.cause c.args.path _ e.0 e.1 refl (on_closed _ _ _ _ h.on h.going h.none) (on_away _ _ _ _ h.on)).0

pub note_down-requires-clause-noting : goal.note_down-requires-clause-noting
note_down-requires-clause-noting g c = c.requires.on.noting

pub note_down-requires-in-Failed-clause-noting : goal.note_down-requires-in-Failed-clause-noting
note_down-requires-in-Failed-clause-noting g c = c.requires.on.noting

pub returns-in-Live : goal.returns-in-Live
returns-in-Live g c =
    let h = c.requires in
    record { opens = opens_live _ _ _ _ h.on h.going h.none c.desk_laws.ensures _ _ _ c.in-Live.caps c.in-Live.ensures.session c.open.ensures.starts c.in-Live.ensures.says c.note_down.ensures.gave c.note_down.ensures.noting }

pub returns-in-Failed : goal.returns-in-Failed
returns-in-Failed g c =
    let h = c.requires in
    record { opens = opens_failed _ _ _ _ h.on h.going h.none c.desk_laws.ensures _ _ _ c.in-Failed.cause c.in-Failed.ensures.session c.open.ensures.starts c.in-Failed.ensures.says c.note_down-in-Failed.ensures.gave c.note_down-in-Failed.ensures.noting }
