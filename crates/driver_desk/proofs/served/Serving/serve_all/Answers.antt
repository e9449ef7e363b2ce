use Rattle.std.proofs.Common.{◌≡◌, ◌∷◌, ◌++◌, [], List, map, drop, refl, ap, sym, subst, ◌∙◌, ◌+◌, ◌≤◌, arith, length}
use Rattle.std.proofs.lemmas.List.{append-nil}
use Rattle.delay_table.specs.Table.{AreApart}
use Rattle.convert_plan.specs.Card.{CardSeen, card_seen}
use Rattle.convert_plan.specs.declared.card.Card.{Card}
use Rattle.driver_desk.specs.On.{IsOn}
use Rattle.driver_desk.specs.Recorders.{Standing}
use Rattle.driver_desk.specs.Works.{cards_in, card_paths}
use Rattle.driver_desk.proofs.CardLists.{all_next, here_is, read_push, len_push, place_below, new_next, next_planned}
use Rattle.driver_desk.proofs.OnDesk.{behind_is, keeps_both, keeps_same, moves_both, moves_same, on_card, on_rest, many_cards}
use Rattle.driver_desk.proofs.Serves.{asked_more, fit_done}
use Rattle.driver_desk.proofs.Ties.{works_push}
use Rattle.driver_desk.proofs.served.Serving.serve_all.Goals as goal

-- no card is left
none_left : {A : Type 0} (xs ys : List A) → xs ≡ ys → ys ≡ drop 1 xs → xs ≡ []
none_left [] ys e i = refl
none_left {A} (x ∷ xs) ys e i = let k = ap (λ (zs : List A). length zs) (e ∙ i) in absurd (omega (arith, k))

pub loop-card-init : goal.loop-card-init
loop-card-init g c = record {
  on = c.requires.on;
  new = c.requires.new;
  idle = c.requires.late.idle;
  keeps = keeps_same _ _ _ c.requires.late.idle;
  serves = ([], refl, refl, tt, (λ paths fit. moves_same paths _ _), refl);
}

pub serve_one-requires-clause-on : goal.serve_one-requires-clause-on
serve_one-requires-clause-on g c κs within =
    let h = c.loop-card.invariant in
    let card : CardSeen = (λ (k : Card g.row.B.Denot g.row.L.Denot). card_seen g.B.Blob.told g.B.Blob.seen g.L.Leaf.seen k) c.in-Some.card in
    let next : map (λ (k : Card g.row.B.Denot g.row.L.Denot). card_seen g.B.Blob.told g.B.Blob.seen g.L.Leaf.seen k) c.loop-card.cards.items ≡ card ∷ map (λ (k : Card g.row.B.Denot g.row.L.Denot). card_seen g.B.Blob.told g.B.Blob.seen g.L.Leaf.seen k) c.pop_front.new.self.items = ap (map (λ (k : Card g.row.B.Denot g.row.L.Denot). card_seen g.B.Blob.told g.B.Blob.seen g.L.Leaf.seen k)) c.in-Some.ensures.items in
    let behind = behind_is c.loop-card.self.late _ (cards_in h.serves.0) _ card (h.keeps.names.1 ∙ c.requires.late.numbers) (subst AreApart (sym h.keeps.names.1) c.requires.late.apart) (h.serves.1 ∙ ap (λ (x : List CardSeen). cards_in h.serves.0 ++ x) next) in
    on_card _ _ _ _ card next behind h.on

pub serve_one-requires-clause-hand : goal.serve_one-requires-clause-hand
serve_one-requires-clause-hand g c κs within =
    let h = c.loop-card.invariant in
    let card : CardSeen = (λ (k : Card g.row.B.Denot g.row.L.Denot). card_seen g.B.Blob.told g.B.Blob.seen g.L.Leaf.seen k) c.in-Some.card in
    let next : map (λ (k : Card g.row.B.Denot g.row.L.Denot). card_seen g.B.Blob.told g.B.Blob.seen g.L.Leaf.seen k) c.loop-card.cards.items ≡ card ∷ map (λ (k : Card g.row.B.Denot g.row.L.Denot). card_seen g.B.Blob.told g.B.Blob.seen g.L.Leaf.seen k) c.pop_front.new.self.items = ap (map (λ (k : Card g.row.B.Denot g.row.L.Denot). card_seen g.B.Blob.told g.B.Blob.seen g.L.Leaf.seen k)) c.in-Some.ensures.items in
    record {
      here = here_is _ _ h.serves.0 _ _ card c.loop-card.place (h.keeps.names.1 ∙ c.requires.late.numbers) h.serves.1 next h.serves.2;
      idle = h.idle;
      planned = next_planned (g.C.Recorder.seen c.loop-card.recorder).standing _ h.serves.0 _ _ card (ap (λ (s : Standing). s.cards) h.keeps.standing ∙ c.requires.cards) h.serves.1 next (new_next _ _ card next h.new).0;
    }

pub overflow_add-place : goal.overflow_add-place
overflow_add-place g c =
    let h = c.loop-card.invariant in
    let lt : c.loop-card.place + 1 ≤ length c.args.cards.items = place_below (λ (k : Card g.row.B.Denot g.row.L.Denot). card_seen g.B.Blob.told g.B.Blob.seen g.L.Leaf.seen k) _ _ _ _ h.serves.0 c.loop-card.place h.serves.1 c.in-Some.ensures.items h.serves.2 in
    let most = c.requires.on.few in
    let many = many_cards (λ (k : Card g.row.B.Denot g.row.L.Denot). card_seen g.B.Blob.told g.B.Blob.seen g.L.Leaf.seen k) c.args.cards.items in
    omega (arith, lt, most, many)

pub loop-card-preserved : goal.loop-card-preserved
loop-card-preserved g c =
    let h = c.loop-card.invariant in
    let card : CardSeen = (λ (k : Card g.row.B.Denot g.row.L.Denot). card_seen g.B.Blob.told g.B.Blob.seen g.L.Leaf.seen k) c.in-Some.card in
    let next : map (λ (k : Card g.row.B.Denot g.row.L.Denot). card_seen g.B.Blob.told g.B.Blob.seen g.L.Leaf.seen k) c.loop-card.cards.items ≡ card ∷ map (λ (k : Card g.row.B.Denot g.row.L.Denot). card_seen g.B.Blob.told g.B.Blob.seen g.L.Leaf.seen k) c.pop_front.new.self.items = ap (map (λ (k : Card g.row.B.Denot g.row.L.Denot). card_seen g.B.Blob.told g.B.Blob.seen g.L.Leaf.seen k)) c.in-Some.ensures.items in
    let behind = behind_is c.loop-card.self.late _ (cards_in h.serves.0) _ card (h.keeps.names.1 ∙ c.requires.late.numbers) (subst AreApart (sym h.keeps.names.1) c.requires.late.apart) (h.serves.1 ∙ ap (λ (x : List CardSeen). cards_in h.serves.0 ++ x) next) in
    let e = c.serve_one.ensures in
    let w = e.served.0 in
    record {
      on = on_rest c.loop-card.self.late _ _ card.path _ behind e.on;
      new = (new_next _ _ card next h.new).1;
      idle = e.keeps.idle;
      keeps = keeps_both _ _ _ _ _ _ c.loop-card.place h.keeps e.keeps;
      serves = (
        h.serves.0 ++ w ∷ [],
        all_next _ h.serves.0 _ _ w card h.serves.1 next e.served.1,
        len_push h.serves.0 w c.loop-card.place h.serves.2,
        read_push h.serves.0 w h.serves.3 e.served.2,
        (λ paths fit. let k = fit_done paths h.serves.0 w fit in
            moves_both paths _ _ _ _ _ _ _ _ _ h.keeps.seat (asked_more [] h.serves.0 w) (h.serves.4 paths k.0) (e.served.3 paths k.1)),
        works_push h.serves.0 w _ _ _ h.serves.5 e.served.4,
      );
    }

pub returns-clause-keeps : goal.returns-clause-keeps
returns-clause-keeps g c = (c.loop-card.place, c.loop-card.invariant.keeps)

pub returns-clause-on : goal.returns-clause-on
returns-clause-on g c =
    let e = c.in_default.ensures in
    subst (λ (xs : List (Card g.row.B.Denot g.row.L.Denot)). IsOn c.loop-card.self (g.C.Recorder.seen c.loop-card.recorder) [] (card_paths (map (λ (k : Card g.row.B.Denot g.row.L.Denot). card_seen g.B.Blob.told g.B.Blob.seen g.L.Leaf.seen k) xs)))
    (none_left _ _ e.items e.rest) c.loop-card.invariant.on

pub returns-clause-serves : goal.returns-clause-serves
returns-clause-serves g c =
    let e = c.in_default.ensures in
    let v = c.loop-card.invariant.serves in (
      v.0,
      v.1 ∙ (ap (λ (xs : List (Card g.row.B.Denot g.row.L.Denot)). cards_in v.0 ++ map (λ (k : Card g.row.B.Denot g.row.L.Denot). card_seen g.B.Blob.told g.B.Blob.seen g.L.Leaf.seen k) xs)
          (none_left _ _ e.items e.rest) ∙ append-nil (cards_in v.0)),
      v.3,
      v.4,
      v.5,
    )
