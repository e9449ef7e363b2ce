-- A read takes bytes from the front of what is left.
use Rattle.std.proofs.Common.{arith, ◌≡◌, ◌≤◌, ◌<◌, ◌+◌, ◌-◌, ℕ, List, [], ◌++◌, length, take, drop}
use Rattle.std.proofs.Common.{Some, refl, sym, ◌∙◌, ap}
use Rattle.std.proofs.lemmas.List.{take-append-drop, drop-drop, drop-take, take-take, length-drop}
use Rattle.edge_kit.specs.Links.{LinkSeen, LeftBytes, IsRead}

-- this many bytes from a place on, and what follows them
pub left_behind : (output : List ℕ) (at count : ℕ) →
    drop at output ≡ take count (drop at output) ++ drop (at + count) output
left_behind output at count =
    sym (take-append-drop count (drop at output))
    ∙ ap (λ rest. take count (drop at output) ++ rest) (drop-drop count at output)

-- what comes before them, and they
pub taken_before : (output : List ℕ) (at count : ℕ) →
    take (at + count) output ≡ take at output ++ take count (drop at output)
taken_before output at count =
    let front : take at (take (at + count) output) ≡ take at output = take-take at (at + count) output (omega arith) in
    sym (take-append-drop at (take (at + count) output))
    ∙ ap (λ rest. take at (take (at + count) output) ++ rest) (drop-take at count output)
    ∙ ap (λ first. first ++ take count (drop at output)) front

-- a link that has given so much of its output
abbrev pub given : LinkSeen → List ℕ → ℕ → LinkSeen
given link output at = record link { taken = Some (take at output); left = LeftBytes (drop at output) }

-- a read that gives some
pub reads_some : (link : LinkSeen) (output into : List ℕ) (at count : ℕ) →
    0 < count → at + count ≤ length output → count ≤ length into →
    take count into ≡ take count (drop at output) →
    IsRead count into (given link output at) (given link output (at + count))
reads_some link output into at count some within fits same = record {
  within = fits;
  left = ap LeftBytes (left_behind output at count
      ∙ ap (λ part. part ++ drop (at + count) output) (sym same));
  kept = ap (λ bytes. record link { taken = Some bytes; left = LeftBytes (drop (at + count) output) })
      (taken_before output at count ∙ ap (λ part. take at output ++ part) (sym same));
  ended = λ none. absurd (omega arith);
  going = λ _. refl;
  all_taken = λ nothing.
      let none : drop at output ≡ [] = cc in
      let no_length : length (drop at output) ≡ 0 = ap length none in
      let rest : length (drop at output) ≡ length output - at = length-drop at output in
      absurd (omega arith);
}
