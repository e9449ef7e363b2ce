-- An entry after the earlier ones.
use Rattle.std.proofs.Common.{◌≡◌, ℕ, ◌-◌, true, false, List, [], ◌∷◌, ◌++◌, length, Option, Some, None, Ok, Err, refl, sym, ap, ◌∙◌}
use Rattle.std.specs.Prelude.{slice_get}
use Rattle.std.specs.List.{list_all}
use Rattle.std.proofs.lemmas.Bool.{and_parts, and_from}
use Rattle.git_index.specs.declared.entry.Entry.{Entry}
use Rattle.git_index.specs.declared.fault.EntryKind.TheVariants.{MixedStage}
use Rattle.git_index.specs.declared.fault.IndexFault.TheVariants.{Order, FolderClash, Entry as BadEntry}
use Rattle.git_index.specs.Spelling.{pairwise, is_below, is_alone}
use Rattle.git_index.specs.Reading.{last_of, is_none_or, placed_at}
use Rattle.git_index.specs.Folders.{AreOpen, Opens}
use Rattle.git_index.proofs.PathOrder.{is_below-trans}
use Rattle.git_index.proofs.Stack.{pairwise-push, list_all-push, list_all-each, last-splits, last-none, told}

rises_by : (earlier : List Entry) (e : Entry) (o : Option Entry) → slice_get earlier (length earlier - 1) ≡ o → pairwise is_below earlier ≡ true → is_none_or (λ b. is_below b e) o ≡ true → list_all (λ b. is_below b e) earlier ≡ true
rises_by earlier e None g rising above = ap (list_all (λ b. is_below b e)) (last-none earlier g)
rises_by earlier e (Some t) g rising above =
    let s = last-splits earlier t g in
    let p = and_parts (pairwise is_below s.0) (list_all (λ b. is_below b t) s.0) (sym (pairwise-push is_below s.0 t) ∙ ap (pairwise is_below) (sym s.1) ∙ rising) in
    let front : list_all (λ b. is_below b e) s.0 ≡ true = list_all-each (λ b. is_below b t) (λ b. is_below b e) s.0 (λ b h. is_below-trans b t e h above) p.1 in
    ap (list_all (λ b. is_below b e)) s.1 ∙ list_all-push (λ b. is_below b e) s.0 t ∙ and_from _ _ front above

-- an entry above the last is above all
pub above_all : (earlier : List Entry) (e : Entry) → pairwise is_below earlier ≡ true → is_none_or (λ b. is_below b e) (last_of earlier) ≡ true → list_all (λ b. is_below b e) earlier ≡ true
above_all earlier e rising above = rises_by earlier e (last_of earlier) refl rising above

-- an entry in its place, and the stack after it
pub record IsPlaced (earlier : List Entry) (e : Entry) (new : List (List ℕ)) : Type 0 where
  pub placed : placed_at earlier e ≡ Ok e
  pub known : AreOpen (earlier ++ e ∷ []) new

pub placed-ok : (earlier : List Entry) (old new : List (List ℕ)) (e : Entry) → AreOpen earlier old → is_none_or (λ b. is_below b e) (last_of earlier) ≡ true → is_none_or (λ b. is_alone b e) (last_of earlier) ≡ true → Opens e old new false → IsPlaced earlier e new
unfolding placed_at
placed-ok earlier old new e known above alone step =
    let t = told earlier old new e false known (above_all earlier e known.rising above) step in
    record { placed = rw (above, alone, t.told) refl; known = t.still refl }

pub placed-clash : (earlier : List Entry) (old new : List (List ℕ)) (e : Entry) → AreOpen earlier old → is_none_or (λ b. is_below b e) (last_of earlier) ≡ true → is_none_or (λ b. is_alone b e) (last_of earlier) ≡ true → Opens e old new true → placed_at earlier e ≡ Err (FolderClash (length earlier))
unfolding placed_at
placed-clash earlier old new e known above alone step =
    let t = told earlier old new e true known (above_all earlier e known.rising above) step in
    rw (above, alone, t.told) refl

pub placed-order : (earlier : List Entry) (e : Entry) → is_none_or (λ b. is_below b e) (last_of earlier) ≡ false → placed_at earlier e ≡ Err (Order (length earlier))
unfolding placed_at
placed-order earlier e above = rw above refl

pub placed-mixed : (earlier : List Entry) (e : Entry) → is_none_or (λ b. is_below b e) (last_of earlier) ≡ true → is_none_or (λ b. is_alone b e) (last_of earlier) ≡ false → placed_at earlier e ≡ Err (BadEntry (length earlier) MixedStage)
unfolding placed_at
placed-mixed earlier e above alone = rw (above, alone) refl

pub ruleset placing = (placed-order, placed-mixed, placed-clash, placed-ok)
