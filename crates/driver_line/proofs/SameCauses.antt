-- How a session broke, by its counts.
use Rattle.std.proofs.Common.{◌≡◌, inl, inr, ℕ, ◌<◌, Bool, true, false, List, [], ◌∷◌, Some, refl, sym, ap, subst, ◌∙◌}
use Rattle.std.specs.Prelude.{◌&&◌}
use Rattle.filter_words.specs.declared.reply.BreakCause.{BreakCause}
use Rattle.filter_words.specs.declared.reply.BreakCause.TheVariants as cause
use Rattle.filter_words.specs.declared.reply.Caps.{Caps}
use Rattle.edge_kit.specs.Starters.{SessionHad}
use Rattle.filter_proto.specs.Exchanges.{Ends, Good, Broke, OutOfMemory}
use Rattle.driver_line.specs.Conversations.{Exchange}
use Rattle.driver_line.specs.Lines.{Paths}
use Rattle.driver_line.specs.SameCauses.{BreaksWith, SameCauses}
use Rattle.driver_line.specs.Transcripts.{FitsCounts, HasBreak, AllFit, IsSession, IsFailedSession, break_in, wants, fine_of, is_fine, all_fine}

fits_of : (seen : SessionHad) (why : BreakCause) (es : List Exchange) → AllFit seen es → HasBreak why es → FitsCounts seen (Some why)
fits_of seen why [] h k = absurd k
fits_of seen why (e ∷ es) h (inl k) = subst (FitsCounts seen) k h.0
fits_of seen why (e ∷ es) h (inr k) = fits_of seen why es h.1 k

and_false : (a b : Bool) → b ≡ false → (a && b) ≡ false
and_false true b e = e
and_false false b e = refl

not_fine : (why : BreakCause) (es : List Exchange) → HasBreak why es → all_fine es ≡ false
not_fine why [] k = absurd k
not_fine why (e ∷ es) (inl k) = ap (λ o. fine_of o (wants e) && all_fine es) k
not_fine why (e ∷ es) (inr k) = and_false (is_fine e) (all_fine es) (not_fine why es k)

-- each way between the counts and the causes
record ByCounts (x : Ends Caps) (es : List Exchange) (seen : SessionHad) : Type 0 where
  failed : BreaksWith cause.LinkFault x es → (0 < seen.faults) × (seen.shut ≡ false)
  ended : BreaksWith cause.Ended x es → 0 < seen.ends
  by_fault : 0 < seen.faults → seen.shut ≡ false → BreaksWith cause.LinkFault x es
  by_end : 0 < seen.ends → BreaksWith cause.Ended x es

failed_counts : (x : Ends Caps) (es : List Exchange) (seen : SessionHad) → es ≡ [] → IsFailedSession x seen → ByCounts x es seen
failed_counts x es seen none h = record {
  failed = λ k. elim k [
    | inl e ↦ ((subst (FitsCounts seen) e h.counts).0, h.shut)
    | inr k ↦ absurd (subst (HasBreak cause.LinkFault) none k)
  ];
  ended = λ k. elim k [
    | inl e ↦ (subst (FitsCounts seen) e h.counts).0
    | inr k ↦ absurd (subst (HasBreak cause.Ended) none k)
  ];
  by_fault = λ lt left. inl (ap break_in (h.failed lt));
  by_end = λ lt. inl (ap break_in (h.ended lt));
}

by_counts : (paths : Paths) (x : Ends Caps) (es : List Exchange) (seen : SessionHad) → IsSession paths x es seen → ByCounts x es seen
by_counts paths (Good caps) es seen h = record {
  failed = λ k. elim k [
    | inl e ↦ absurd (cc e)
    | inr k ↦ ((fits_of seen cause.LinkFault es h.counts k).0, h.shut ∙ not_fine cause.LinkFault es k)
  ];
  ended = λ k. elim k [
    | inl e ↦ absurd (cc e)
    | inr k ↦ (fits_of seen cause.Ended es h.counts k).0
  ];
  by_fault = λ lt left. inr (h.causes.failed lt left);
  by_end = λ lt. inr (h.causes.ended lt);
}
by_counts paths (Broke why) es seen h = failed_counts (Broke why) es seen h.0 h.1
by_counts paths OutOfMemory es seen h = failed_counts OutOfMemory es seen h.0 h.1

pub same_causes : SameCauses
same_causes a b x y es fs s t h k faults ends shut =
    let one = by_counts a x es s h in
    let two = by_counts b y fs t k in (
      (λ m. let n = one.failed m in two.by_fault (subst (λ (n : ℕ). 0 < n) faults n.0) (sym shut ∙ n.1)),
      (λ m. two.by_end (subst (λ (n : ℕ). 0 < n) ends (one.ended m))),
    )
