-- The links that are out after a run of exchanges.
use Rattle.std.proofs.Common.{◌≡◌, ◌+◌, List, [], ◌∷◌, Some, None, ap, arith}
use Rattle.filter_proto.specs.Wires.{Wire, SessionSeen}
use Rattle.filter_proto.specs.Exchanges.{Good, Broke, OutOfMemory}
use Rattle.filter_proto.specs.Replies.{standing_after}
use Rattle.filter_proto.specs.declared.session.Standing.{Standing}
use Rattle.filter_proto.specs.declared.session.Standing.TheVariants as standing
use Rattle.edge_kit.specs.Starters.{StarterSeen}
use Rattle.driver_line.specs.Conversations.{Exchange, NoStart, NoRoom, Opening, First, Listing, Second, Shutting}
use Rattle.driver_line.specs.Lines.{LineView, Paths, Says, RunsTo, After, IsEnded, list_standing, started, weight}

-- a link is out while a session is open, besides those that were out before
abbrev pub KeepsOut : LineView → LineView → Type 0
KeepsOut v w = w.starter.out + weight v.session ≡ v.starter.out + weight w.session

ended_out : (v w : LineView) (s : SessionSeen) (wire : Wire) (z : Standing) → v.session ≡ Some s → IsEnded v.starter wire z w → KeepsOut v w
ended_out v w s wire z is h =
    let a : w.starter.out + 1 ≡ v.starter.out = h.out in
    let b : weight v.session ≡ 1 = ap weight is in
    let c : weight w.session ≡ 0 = ap weight h.none in
    omega (arith, a, b, c)

asked_out : (z : Standing) (v w : LineView) (s : SessionSeen) (wire : Wire) → v.session ≡ Some s → After v s wire z w → KeepsOut v w
asked_out standing.Live v w s wire is h =
    let a = ap (λ (x : StarterSeen). x.out) h.1 in
    let b : weight v.session ≡ 1 = ap weight is in
    let c : weight w.session ≡ 1 = ap weight h.0 in
    omega (arith, a, b, c)
asked_out standing.Aborted v w s wire is h = ended_out v w s wire standing.Aborted is h
asked_out standing.Over v w s wire is h = ended_out v w s wire standing.Over is h

failed_out : (v w : LineView) (last : Wire) (z : Standing) → v.session ≡ None → IsEnded (started v.starter) last z w → KeepsOut v w
failed_out v w last z none h =
    let a : w.starter.out + 1 ≡ v.starter.out + 1 = h.out in
    let b : weight v.session ≡ 0 = ap weight none in
    let c : weight w.session ≡ 0 = ap weight h.none in
    omega (arith, a, b, c)

none_out : (v w : LineView) → v.session ≡ None → w.session ≡ None → w.starter.out ≡ v.starter.out → KeepsOut v w
none_out v w none ended same =
    let b : weight v.session ≡ 0 = ap weight none in
    let c : weight w.session ≡ 0 = ap weight ended in
    omega (arith, same, b, c)

out_after : (paths : Paths) (v w : LineView) (e : Exchange) → Says paths v e w → KeepsOut v w
out_after paths v w (NoStart p) h = none_out v w h.0 h.1 (ap (λ (x : StarterSeen). x.out) h.2.kept)
out_after paths v w (NoRoom p) h = none_out v w h.0 h.1 (ap (λ (x : StarterSeen). x.out) h.2)
out_after paths v w (Opening p (Good caps)) h =
    let a : w.starter.out ≡ v.starter.out + 1 = ap (λ (x : LineView). x.starter.out) h.5 in
    let b : weight v.session ≡ 0 = ap weight h.2.closed in
    let c : weight w.session ≡ 1 = ap (λ (x : LineView). weight x.session) h.5 in
    omega (arith, a, b, c)
out_after paths v w (Opening p (Broke why)) h = failed_out v w h.1 standing.Over h.2.closed h.3
out_after paths v w (Opening p OutOfMemory) h = failed_out v w h.1 standing.Over h.2.closed h.3
out_after paths v w (First p r content) h = asked_out (standing_after r) v w h.0 h.2.wire h.1 h.2.after
out_after paths v w (Listing late names r) h = asked_out (list_standing r) v w h.0 h.2.wire h.1 h.2.after
out_after paths v w (Second p r content) h = asked_out (standing_after r) v w h.0 h.2.wire h.1 h.2.after
out_after paths v w Shutting h = ended_out v w h.0 h.0.wire standing.Live h.1 h.2

pub out_after_all : (paths : Paths) (v w : LineView) (es : List Exchange) → RunsTo paths v es w → KeepsOut v w
out_after_all paths v w [] h =
    let a = ap (λ (x : LineView). x.starter.out) h in
    let b = ap (λ (x : LineView). weight x.session) h in
    omega (arith, a, b)
out_after_all paths v w (e ∷ es) h =
    let a : h.0.starter.out + weight v.session ≡ v.starter.out + weight h.0.session = out_after paths v h.0 e h.1 in
    let b : w.starter.out + weight h.0.session ≡ h.0.starter.out + weight w.session = out_after_all paths h.0 w es h.2 in
    omega (arith, a, b)
