-- Macros that are read by their numbers.
use Rattle.std.proofs.Common.{◌≡◌, ℕ, zero, suc, ◌+◌, ◌<◌, ◌≤◌, List, [], ◌∷◌, ◌++◌, map, length, get_or, slice_get, Option, Some, None, refl, sym, ◌∙◌, ap, arith, length-append}
use Rattle.std.proofs.lemmas.List.{reverse-append}
use Rattle.std.specs.List.{flat_map}
use Rattle.std.specs.Option.{option_map}
use Rattle.std.specs.Global.{Vec}
use Rattle.attr_line.specs.declared.file.Pair.{Pair}
use Rattle.attr_stack.specs.declared.linked_macros.Frame.{Frame}
use Rattle.attr_stack.specs.declared.macros.Body.{Body}
use Rattle.attr_stack.specs.declared.macros.Macros.{Macros}
use Rattle.attr_stack.specs.Decided.{Names}
use Rattle.attr_stack.specs.Links.{links_of, frame_pairs, left_of, AreLinks}
use Rattle.attr_stack.specs.Macros.{MacroLine}
use Rattle.attr_stack.specs.Numbers.{body_pairs, number_pairs}
use Rattle.attr_stack.proofs.Decisions.{room}

-- ---- what is left

pub left-push : (macros : Macros) (frames next : List Frame) (frame : Frame) → next ≡ frames ++ frame ∷ [] → left_of macros next ≡ frame_pairs macros frame ++ left_of macros frames
left-push macros frames next frame is = ap (left_of macros) is ∙ ap (flat_map (frame_pairs macros)) (reverse-append frames (frame ∷ []))

-- nothing is left of the macro that is read
pub left-none : (macros : Macros) (frames before : List Frame) (frame : Frame) → frames ≡ before ++ frame ∷ [] → frame_pairs macros frame ≡ [] → left_of macros frames ≡ left_of macros before
left-none macros frames before frame is none = left-push macros before frames frame is ∙ ap (λ (ps : List Pair). ps ++ left_of macros before) none

-- a pair is left of it
pub left-next : (macros : Macros) (frames before next : List Frame) (frame rest : Frame) (pair : Pair) → frames ≡ before ++ frame ∷ [] → next ≡ before ++ rest ∷ []
    → frame_pairs macros frame ≡ pair ∷ frame_pairs macros rest → left_of macros frames ≡ pair ∷ left_of macros next
left-next macros frames before next frame rest pair is so first =
    left-push macros before frames frame is ∙ ap (λ (ps : List Pair). ps ++ left_of macros before) first
    ∙ ap (λ (ps : List Pair). pair ∷ ps) (sym (left-push macros before next rest so))

pub as-many : (frames before next : List Frame) (frame rest : Frame) → frames ≡ before ++ frame ∷ [] → next ≡ before ++ rest ∷ [] → length next ≡ length frames
as-many frames before next frame rest is so =
    ap length so ∙ length-append before (rest ∷ []) ∙ sym (length-append before (frame ∷ [])) ∙ ap length (sym is)

-- ---- what is to be done

-- twice the pairs that may still be read, and the macros
abbrev pub work : List MacroLine → Macros → List Frame → Names → ℕ
work lines macros frames names = room lines (left_of macros frames) names + room lines (left_of macros frames) names + length frames

pub work-less : (lines : List MacroLine) (macros : Macros) (old new : List Frame) (before after : Names) → room lines (left_of macros new) after + 1 ≤ room lines (left_of macros old) before
    → length new ≤ length old + 1 → work lines macros new after < work lines macros old before
work-less lines macros old new before after less len = omega (arith, less, len)

-- ---- the numbers of a macro's pairs

linked : (links : List (Vec (Option ℕ))) (bodies : List Body) (macros : Macros) (n : ℕ)
    → map (λ (numbers : Vec (Option ℕ)). numbers.items) links ≡ map (λ (body : Body). links_of macros body.pairs) bodies
    → option_map (λ (numbers : Vec (Option ℕ)). numbers.items) (slice_get links n) ≡ option_map (λ (body : Body). links_of macros body.pairs) (slice_get bodies n)
linked [] [] macros n are = refl
linked [] (body ∷ bodies) macros n are = absurd (cc)
linked (numbers ∷ links) [] macros n are = absurd (cc)
linked (numbers ∷ links) (body ∷ bodies) macros zero are = let first : numbers.items ≡ links_of macros body.pairs = cc in ap Some first
linked (numbers ∷ links) (body ∷ bodies) macros (suc n) are =
    linked links bodies macros n (let later : map (λ (numbers : Vec (Option ℕ)). numbers.items) links ≡ map (λ (body : Body). links_of macros body.pairs) bodies = cc in later)

pub at-place : {X : Type 0} (xs : List X) (n : ℕ) (x : X) → n < length xs → x ≡ get_or xs n x → slice_get xs n ≡ Some x
at-place [] n x within is = absurd (let no : n < 0 = within in omega (arith, no))
at-place (y ∷ xs) zero x within is = ap Some (sym is)
at-place (y ∷ xs) (suc n) x within is = at-place xs n x (omega (arith, within)) is

abbrev pub items_of : Option (Vec (Option ℕ)) → List (Option ℕ)
items_of None = []
items_of (Some numbers) = numbers.items

pub links-at : (macros : Macros) (links : List (Vec (Option ℕ))) (n : ℕ) → AreLinks macros links → items_of (slice_get links n) ≡ links_of macros (number_pairs macros (Some n))
links-at macros links n are = by (slice_get links n) (slice_get macros.bodies.items n) refl (linked links macros.bodies.items macros n are)
  where
    by : (numbers : Option (Vec (Option ℕ))) (body : Option Body) → body ≡ slice_get macros.bodies.items n
        → option_map (λ (numbers : Vec (Option ℕ)). numbers.items) numbers ≡ option_map (λ (body : Body). links_of macros body.pairs) body
        → items_of numbers ≡ links_of macros (number_pairs macros (Some n))
    by None None is same = ap (λ (o : Option Body). links_of macros (body_pairs o)) is
    by None (Some body) is same = absurd (cc)
    by (Some numbers) None is same = absurd (cc)
    by (Some numbers) (Some body) is same = (let one : numbers.items ≡ links_of macros body.pairs = cc in one) ∙ ap (λ (o : Option Body). links_of macros (body_pairs o)) is
