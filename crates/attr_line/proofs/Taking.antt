-- Taking the words of a line and the lines of a file one by one, as the loops do.
use Rattle.std.proofs.Common.{◌≡◌, ℕ, ◌+◌, Bool, true, false, cond, ◌&&◌, List, [], ◌∷◌, ◌++◌, map, min, count_by, refl, sym, ap, ◌∙◌, append_assoc, arith}
use Rattle.std.proofs.lemmas.List.Elements.{filter_map-append}
use Rattle.std.proofs.lemmas.List.Sums.{sum_by-append}
use Rattle.std.specs.List.{list_all, filter_map}
use Rattle.std.specs.Option.{option_to_list}
use Rattle.attr_line.specs.declared.file.Pair.{Pair}
use Rattle.attr_line.specs.declared.file.AttrRow.{AttrRow}
use Rattle.attr_line.specs.declared.file.Skipped.{Skipped}
use Rattle.attr_line.specs.declared.outcome.Outcome.{Outcome}
use Rattle.attr_line.specs.declared.outcome.Outcome.TheVariants.{Nothing, Row, Skip}
use Rattle.attr_line.specs.declared.outcome.LineFault.TheVariants.{Long, Negative, Name, Place}
use Rattle.attr_line.specs.Text.{words}
use Rattle.attr_line.specs.Pairs.{has_name, pair_at}
use Rattle.attr_line.specs.File.{counted, row_of, is_long, is_negative, is_bad_name, is_bad_place, skipped_of}
use Rattle.attr_line.specs.Seen.{one_more, with_outcome}

-- ---- the words of a line

-- the pairs of the words before the rest, all of whose names are good
pub record IsTaking (text : List ℕ) (pairs : List Pair) (rest : List ℕ) : Type 0 where
  pub names : list_all has_name (words text) ≡ list_all has_name (words rest)
  pub same : map pair_at (words text) ≡ pairs ++ map pair_at (words rest)

pub pairs-more : (text word rest behind : List ℕ) (pairs new : List Pair) → IsTaking text pairs rest → words rest ≡ word ∷ words behind
    → has_name word ≡ true → new ≡ pairs ++ pair_at word ∷ [] → IsTaking text new behind
pairs-more text word rest behind pairs new p next good new_is = record {
  names = p.names ∙ ap (list_all has_name) next ∙ ap (λ (b : Bool). b && list_all has_name (words behind)) good;
  same = p.same ∙ ap (λ (ws : List (List ℕ)). pairs ++ map pair_at ws) next
      ∙ sym (append_assoc pairs (pair_at word ∷ []) (map pair_at (words behind)))
      ∙ ap (λ (ps : List Pair). ps ++ map pair_at (words behind)) (sym new_is);
}

-- ---- the lines of a file

-- what came of the lines before the rest
pub record IsReading (all : List Outcome) (rows : List AttrRow) (skipped : Skipped) (left : List Outcome) : Type 0 where
  pub done : List Outcome
  pub whole : all ≡ done ++ left
  pub rows_are : rows ≡ filter_map row_of done
  pub skipped_are : skipped ≡ skipped_of done

abbrev count_behind : Bool → ℕ → ℕ
count_behind true count = one_more count
count_behind false count = count

count_one : (b : Bool) (n : ℕ) → min (n + (0 + cond b 1 0)) 4294967295 ≡ count_behind b (min n 4294967295)
count_one true n = omega arith
count_one false n = omega arith

counted-push : (test : Outcome → Bool) (done : List Outcome) (x : Outcome) → counted test (done ++ x ∷ []) ≡ count_behind (test x) (counted test done)
counted-push test done x = ap (λ (n : ℕ). min n 4294967295) (sum_by-append (λ y. cond (test y) 1 0) done (x ∷ [])) ∙ count_one (test x) (count_by test done)

abbrev counts_behind : Skipped → Outcome → Skipped
counts_behind skipped x = record {
  long = count_behind (is_long x) skipped.long;
  negative = count_behind (is_negative x) skipped.negative;
  name = count_behind (is_bad_name x) skipped.name;
  place = count_behind (is_bad_place x) skipped.place;
}

skipped_of-push : (done : List Outcome) (x : Outcome) → skipped_of (done ++ x ∷ []) ≡ counts_behind (skipped_of done) x
skipped_of-push done x = rw (counted-push is_long done x, counted-push is_negative done x, counted-push is_bad_name done x, counted-push is_bad_place done x) refl

counts_behind-is : (skipped : Skipped) (x : Outcome) → counts_behind skipped x ≡ with_outcome skipped x
counts_behind-is skipped Nothing = refl
counts_behind-is skipped (Row row) = refl
counts_behind-is skipped (Skip Long) = refl
counts_behind-is skipped (Skip Negative) = refl
counts_behind-is skipped (Skip Name) = refl
counts_behind-is skipped (Skip Place) = refl

rows-one : (x : Outcome) → filter_map row_of (x ∷ []) ≡ option_to_list (row_of x)
rows-one Nothing = refl
rows-one (Row row) = refl
rows-one (Skip fault) = refl

pub lines-more : (all left : List Outcome) (x : Outcome) (rows new : List AttrRow) (skipped now : Skipped) → IsReading all rows skipped (x ∷ left)
    → new ≡ rows ++ option_to_list (row_of x) → now ≡ with_outcome skipped x → IsReading all new now left
lines-more all left x rows new skipped now p new_is now_is = record {
  done = p.done ++ x ∷ [];
  whole = p.whole ∙ sym (append_assoc p.done (x ∷ []) left);
  rows_are = new_is ∙ ap (λ (rs : List AttrRow). rs ++ option_to_list (row_of x)) p.rows_are
      ∙ ap (λ (rs : List AttrRow). filter_map row_of p.done ++ rs) (sym (rows-one x))
      ∙ sym (filter_map-append row_of p.done (x ∷ []));
  skipped_are = now_is ∙ ap (λ (s : Skipped). with_outcome s x) p.skipped_are ∙ sym (counts_behind-is (skipped_of p.done) x) ∙ sym (skipped_of-push p.done x);
}
