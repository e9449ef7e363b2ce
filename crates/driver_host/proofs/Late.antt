-- What the sample work keeps.
use Rattle.std.proofs.Common.{◌≡◌, ℕ, Bool, true, false, cond, List, Option, Some, refl, sym, ◌∙◌, ap, subst}
use Rattle.std.specs.Prelude.{◌≢◌}
use Rattle.std.specs.Map.{lookup, IsKeyTest, AreApart, KeepsOthers}
use Rattle.std.specs.Global.{Vec}
use Rattle.std.specs.Cmp.{eq_by_cmp_equiv}
use Rattle.std.specs.Cmp.Lexicographic.{nat_list_cmp_total, slice_cmp}
use Rattle.std.specs.Ordering.{is_eq, nat_cmp}
use Rattle.std.specs.BTreeMap as tree
use Rattle.std.specs.BTreeMap.{BTreeMap}
use Rattle.std.specs.Str.{bytes_eq}
use Rattle.std.proofs.lemmas.Map.Text.{is_eq-slice_cmp}
use Rattle.std.proofs.lemmas.Slice.Eq.{bytes_eq-Decides}
use Rattle.std.proofs.lemmas.Bool.{false_from_ne_true}
use Rattle.edge_kit.specs.Told.{Tells}
use Rattle.driver_host.specs.declared.work.Choice.TheVariants as choice
use Rattle.driver_host.specs.Works.{RemembersOne, Retains}
use Rattle.driver_host.specs.LateWorks.{late_told}
use Rattle.std.specs.Prelude.{Ok}
use Rattle.std.proofs.Common.{inr}
use Rattle.driver_host.specs.LateWorks.{kept_at}

apart : (name other key : List ℕ) → bytes_eq name other ≡ false → is_eq (slice_cmp nat_cmp name key) ≡ true
    → is_eq (slice_cmp nat_cmp other key) ≡ false
apart name other key differ same =
    let is : name ≡ key = (bytes_eq-Decides name key).0 (sym (is_eq-slice_cmp name key) ∙ same) in
    is_eq-slice_cmp other key ∙ false_from_ne_true (bytes_eq other key) (λ h.
    let no : true ≡ false = sym ((bytes_eq-Decides name other).1 (is ∙ sym ((bytes_eq-Decides other key).0 h))) ∙ differ in cc)

other_entries : {X : Type 0} (eq : Vec ℕ → Vec ℕ → Bool) (test : Vec ℕ → Bool) (old new : List (Vec ℕ × X))
    → KeepsOthers eq test old new → (other : Vec ℕ → Bool) → IsKeyTest eq other → AreApart test other
    → lookup other new ≡ lookup other old
unfolding KeepsOthers
other_entries eq test old new keeps = keeps

-- what is kept after an entry was put or taken
pub kept_after : (name : List ℕ) (m n : BTreeMap (Vec ℕ) (List ℕ)) (w : Option (List ℕ))
    → tree.UpdatesBy (λ (x y : Vec ℕ). slice_cmp nat_cmp x.items y.items) (λ (key : Vec ℕ). slice_cmp nat_cmp name key.items) m n w
    → (other : List ℕ) → kept_at n other ≡ cond (bytes_eq name other) w (kept_at m other)
kept_after name m n w updates other =
    elim (bytes_eq name other) as (λ b. bytes_eq name other ≡ b → kept_at n other ≡ cond b w (kept_at m other)) [
      | true ↦ λ same. ap (λ (q : List ℕ). kept_at n q) (sym ((bytes_eq-Decides name other).0 same)) ∙ updates.1
      | false ↦ λ differ. other_entries _ _ _ _ updates.3 _ (λ x y. (eq_by_cmp_equiv nat_list_cmp_total).congr other x.items y.items)
          (λ key. apart name other key.items differ)
    ] refl

-- other paths keep theirs
pub others_keep : (old new : List ℕ → Option (List ℕ)) (path : List ℕ) (w : Option (List ℕ))
    → ((q : List ℕ) → new q ≡ cond (bytes_eq path q) w (old q)) → (q : List ℕ) → q ≢ path → new q ≡ old q
others_keep old new path w set q differ =
    set q ∙ ap (λ (b : Bool). cond b w (old q))
    (false_from_ne_true (bytes_eq path q) (λ h. differ (sym ((bytes_eq-Decides path q).0 h))))

pub remembers_later : (old new : List ℕ → Option (List ℕ)) (path content : List ℕ)
    → ((q : List ℕ) → new q ≡ cond (bytes_eq path q) (Some content) (old q))
    → RemembersOne old path content new choice.Later
remembers_later old new path content set = record {
  kept = λ e. subst (λ (o : Option (List ℕ)). Tells o content)
      (sym (set path ∙ ap (λ (b : Bool). cond b (Some content) (old path)) ((bytes_eq-Decides path path).1 refl))) refl;
  others = others_keep old new path (Some content) set;
}

pub retains_later : (E : Type 0) (old new : List ℕ → Option (List ℕ)) (path content : List ℕ)
    → ((q : List ℕ) → new q ≡ cond (bytes_eq path q) (Some content) (old q))
    → Retains {E = E} late_told path content (new path) (Ok choice.Later)
retains_later E old new path content set e =
    inr (set path ∙ ap (λ (b : Bool). cond b (Some content) (old path)) ((bytes_eq-Decides path path).1 refl))
