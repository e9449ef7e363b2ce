-- The starter of a line stays the same one.
use Rattle.std.proofs.Common.{◌≡◌, inl, inr, ◌≤◌, ℕ, List, [], ◌∷◌, ap, ◌∙◌, arith, subst, sym, refl}
use Rattle.std.proofs.lemmas.Bool.{cases_Bool}
use Rattle.std.proofs.lemmas.Bool.{cases_order}
use Rattle.filter_proto.specs.Wires.{Wire, SessionSeen}
use Rattle.filter_proto.specs.Exchanges.{Good, Broke, OutOfMemory}
use Rattle.filter_proto.specs.Replies.{standing_after}
use Rattle.filter_proto.specs.declared.session.Standing.{Standing}
use Rattle.filter_proto.specs.declared.session.Standing.TheVariants as standing
use Rattle.edge_kit.specs.Faults.{Rose}
use Rattle.edge_kit.specs.Starters.{StarterSeen}
use Rattle.driver_line.specs.Conversations.{Exchange, NoStart, NoRoom, Opening, First, Listing, Second, Shutting}
use Rattle.driver_line.specs.Lines.{LineView, Paths, Says, RunsTo, After, IsEnded, list_standing, started}
use Rattle.driver_line.specs.Starters.{IsSameStarter, has_failed_start}

-- one exchange keeps the command, and the count but for a failed start
pub record Keeps (old new : StarterSeen) : Type 0 where
  pub command : new.command ≡ old.command
  pub faults : new.faults ≡ old.faults

kept : (old new : StarterSeen) → new.command ≡ old.command → new.faults ≡ old.faults → Keeps old new
kept old new a b = record { command = a; faults = b }

ended_keeps : (old : StarterSeen) (last : Wire) (how : Standing) (new : LineView) → IsEnded old last how new
    → Keeps old new.starter
ended_keeps old last how new h =
    kept old new.starter (ap (λ (x : StarterSeen). x.command) h.kept) (ap (λ (x : StarterSeen). x.faults) h.kept)

after_keeps : (z : Standing) (v w : LineView) (s : SessionSeen) (wire : Wire) → After v s wire z w
    → Keeps v.starter w.starter
after_keeps standing.Live v w s wire h = kept v.starter w.starter (ap (λ (x : StarterSeen). x.command) h.1)
    (ap (λ (x : StarterSeen). x.faults) h.1)
after_keeps standing.Aborted v w s wire h = ended_keeps v.starter wire standing.Aborted w h
after_keeps standing.Over v w s wire h = ended_keeps v.starter wire standing.Over w h

then_rose : (old mid new : StarterSeen) → Keeps old mid → Rose mid.faults new.faults → Rose old.faults new.faults
then_rose old mid new k h = subst (λ (n : ℕ). Rose n new.faults) k.faults h

-- the count never falls
least : (es : List Exchange) (old new : StarterSeen) → IsSameStarter es old new → old.faults ≤ new.faults
least es old new h = elim (cases_Bool (has_failed_start es)) [
  | inl failed ↦ (h.rose failed).kept
  | inr none ↦ (let same = h.still none in omega (arith, same))
]

one_more : (old mid new : StarterSeen) (es rest : List Exchange) → Keeps old mid → IsSameStarter rest mid new
    → has_failed_start es ≡ has_failed_start rest → IsSameStarter es old new
one_more old mid new es rest k h same = record {
  command = h.command ∙ k.command;
  rose = λ f. then_rose old mid new k (h.rose (sym same ∙ f));
  still = λ f. h.still (sym same ∙ f) ∙ k.faults;
}

rose_then : (old mid new : StarterSeen) → Rose old.faults mid.faults → mid.faults ≤ new.faults
    → Rose old.faults new.faults
rose_then old mid new h most =
    let least = h.kept in
    record {
      kept = omega (arith, least, most);
      risen = λ n. elim (cases_order mid.faults new.faults) [
        | inl same ↦ (let less = h.risen (λ e. n (omega (arith, e, same))) in omega (arith, less, same))
        | inr other ↦ elim other [
          | inl less ↦ omega (arith, least, less)
          | inr more ↦ absurd (omega (arith, most, more))
        ]
      ];
    }

opened_keeps : (old new : StarterSeen) → Keeps (started old) new → Keeps old new
opened_keeps old new k = kept old new k.command k.faults

-- a run of exchanges
pub same_starter : (paths : Paths) (v w : LineView) (es : List Exchange) → RunsTo paths v es w
    → IsSameStarter es v.starter w.starter
same_starter paths v w [] h = record {
  command = sym (ap (λ (x : LineView). x.starter.command) h);
  rose = λ e. absurd (cc (e));
  still = λ e. sym (ap (λ (x : LineView). x.starter.faults) h);
}
same_starter paths v w (e ∷ es) h = go e h.1 (same_starter paths h.0 w es h.2)
  where
    plain : (e : Exchange) → has_failed_start (e ∷ es) ≡ has_failed_start es → Keeps v.starter (h.0).starter
        → IsSameStarter es (h.0).starter w.starter → IsSameStarter (e ∷ es) v.starter w.starter
    plain e same k i = one_more v.starter (h.0).starter w.starter (e ∷ es) es k i same

    go : (e : Exchange) → Says paths v e h.0 → IsSameStarter es (h.0).starter w.starter
        → IsSameStarter (e ∷ es) v.starter w.starter
    go (NoStart p) s i = record {
      command = i.command ∙ ap (λ (x : StarterSeen). x.command) s.2.kept;
      rose = λ f. rose_then v.starter (h.0).starter w.starter s.2.rose (least es (h.0).starter w.starter i);
      still = λ f. absurd (cc (f));
    }
    go (NoRoom p) s i = plain (NoRoom p) refl (kept v.starter (h.0).starter (ap (λ (x : StarterSeen). x.command) s.2)
        (ap (λ (x : StarterSeen). x.faults) s.2)) i
    go (Opening p (Good caps)) s i = plain (Opening p (Good caps)) refl (kept v.starter (h.0).starter
        (ap (λ (x : LineView). x.starter.command) s.5) (ap (λ (x : LineView). x.starter.faults) s.5)) i
    go (Opening p (Broke why)) s i = plain (Opening p (Broke why)) refl (opened_keeps v.starter (h.0).starter
        (ended_keeps (started v.starter) s.1 standing.Over h.0 s.3)) i
    go (Opening p OutOfMemory) s i = plain (Opening p OutOfMemory) refl (opened_keeps v.starter (h.0).starter
        (ended_keeps (started v.starter) s.1 standing.Over h.0 s.3)) i
    go (First p r content) s i = plain (First p r content) refl
        (after_keeps (standing_after r) v h.0 s.0 s.2.wire s.2.after) i
    go (Listing late names r) s i = plain (Listing late names r) refl
        (after_keeps (list_standing r) v h.0 s.0 s.2.wire s.2.after) i
    go (Second p r content) s i = plain (Second p r content) refl
        (after_keeps (standing_after r) v h.0 s.0 s.2.wire s.2.after) i
    go Shutting s i = plain Shutting refl (ended_keeps v.starter s.0.wire standing.Live h.0 s.2) i
