-- What the leaf of a closed card holds, by what was put into it.
use Rattle.std.proofs.Common.{◌≡◌, inl, inr, ℕ, List, [], ◌++◌, length, take, Option, Some, None, Result, Ok, sym, ap, subst, ◌∙◌}
use Rattle.std.specs.Prelude.{⊤}
use Rattle.std.proofs.Math.Seq.{take-append_seam}
use Rattle.edge_kit.specs.Files.{grown}
use Rattle.edge_kit.specs.Seen.{LeafSeen}
use Rattle.edge_kit.specs.Told.{Tells}
use Rattle.edge_kit.specs.declared.faults.SendFault.{SendFault}
use Rattle.edge_kit.specs.declared.leaf_state.LeafState.TheVariants.{Sealed, Stuck}
use Rattle.edge_kit.specs.declared.leaf_state.Mark.{Mark}
use Rattle.filter_proto.specs.Replies.{IsFrontPut}
use Rattle.filter_words.specs.declared.reply.Reply.{Reply}
use Rattle.filter_words.specs.declared.reply.Reply.TheVariants as reply
use Rattle.driver_line.specs.Lines.{IsLeafAfter}
use Rattle.driver_desk.specs.Progress.{IsUnsealed, EndsPut, EndsAsked}
use Rattle.driver_desk.specs.Serving.{TellsPart}
use Rattle.driver_desk.specs.Shown.{IsGivenUp}
use Rattle.driver_desk.proofs.Closings.{gone_sealed}

-- a leaf into which nothing was put before has what was put, or a first part of what was to be put
tells_grown : (o : Option (List ℕ)) (content : List ℕ) → Tells o [] → Tells (grown o content) content
tells_grown None content t = tt
tells_grown (Some w) content t = ap (λ (x : List ℕ). x ++ content) t

tells_front : (o : Option (List ℕ)) (content front after : List ℕ) → content ≡ front ++ after → Tells o []
    → TellsPart (grown o front) content
tells_front None content front after e t = (length front, tt)
tells_front (Some w) content front after e t = (
  length front,
  ap (λ (x : List ℕ). x ++ front) t
      ∙ (sym (take-append_seam front after) ∙ ap (λ (x : List ℕ). take (length front) x) (sym e)),
)

front_told : (old new : LeafSeen) (content : List ℕ) → Tells old.content [] → IsFrontPut old new content
    → TellsPart new.content content
front_told old new content bare h = subst (λ (o : Option (List ℕ)). TellsPart o content) (sym h.grew)
    (tells_front old.content content h.front h.after h.cut bare)

-- the leaf of a card for which its driver was asked
pub asked_put : (r : Reply) (put : Result ⊤ SendFault) (p path : ℕ) (content : Option (List ℕ)) (old new : LeafSeen)
    (sent : List ℕ) → path ≡ p → content ≡ new.content → Tells old.content [] → IsLeafAfter old new put r sent
    → (q : ℕ) (leaf : LeafSeen) → EndsPut r put path content q leaf → EndsAsked r p sent q leaf
asked_put r put p path content old new sent same is bare h q leaf k = (
  (λ m e. sealed (k.0 m e)),
  (λ e. elim (k.1 e) [
    | inl none ↦ inl none
    | inr x ↦ inr (
      x.0 ∙ same,
      subst (λ (o : Option (List ℕ)). TellsPart o sent) (sym (x.1 ∙ is))
          (front_told old new sent bare h.part),
    )
  ]),
)
  where
    sealed : (r ≡ reply.Content) × (put ≡ Ok tt) × (q ≡ path) × (leaf.content ≡ content)
        → (r ≡ reply.Content) × (q ≡ p) × Tells leaf.content sent
    sealed x = (
      x.0,
      x.2 ∙ same,
      subst (λ (o : Option (List ℕ)). Tells o sent) (sym (x.3 ∙ (is ∙ h.holds x.0 x.1)))
          (tells_grown old.content sent bare),
    )

-- one that was given up, and one that was sealed or given up
pub ends_unsealed : (path : ℕ) (content : Option (List ℕ)) (l : LeafSeen) → IsGivenUp l.state
    → (l.state ≡ Stuck → l.content ≡ content) → (q : ℕ) (leaf : LeafSeen) → (q ≡ path) × (leaf ≡ l)
    → IsUnsealed path content q leaf
ends_unsealed path content l up stuck q leaf k = (
  (λ m e. gone_sealed l.state m up (sym (ap (λ (x : LeafSeen). x.state) k.1) ∙ e)),
  (λ e. (k.0, ap (λ (x : LeafSeen). x.content) k.1 ∙ stuck (sym (ap (λ (x : LeafSeen). x.state) k.1) ∙ e))),
)

pub ends_got : (put : Result ⊤ SendFault) (path : ℕ) (content : Option (List ℕ)) (l : LeafSeen)
    → ((m : Mark) → l.state ≡ Sealed m → (put ≡ Ok tt) × (l.content ≡ content))
    → (l.state ≡ Stuck → l.content ≡ content) → (r : Reply) → r ≡ reply.Content
    → (q : ℕ) (leaf : LeafSeen) → (q ≡ path) × (leaf ≡ l) → EndsPut r put path content q leaf
ends_got put path content l sealed stuck r is q leaf k = (
  (λ m e. let w = sealed m (sym (ap (λ (x : LeafSeen). x.state) k.1) ∙ e) in
      (is, w.0, k.0, ap (λ (x : LeafSeen). x.content) k.1 ∙ w.1)),
  (λ e. inr (k.0, ap (λ (x : LeafSeen). x.content) k.1 ∙ stuck (sym (ap (λ (x : LeafSeen). x.state) k.1) ∙ e))),
)
