-- An index with one more extension that may be passed over has the same entries.
use Rattle.std.proofs.Common.{◌≡◌, ℕ, ◌+◌, ◌-◌, ◌<◌, ◌^◌, true, List, [], ◌∷◌, ◌++◌, length, take, replicate, refl, sym, ap, subst, ◌∙◌, append_assoc, arith, inl, inr}
use Rattle.std.specs.List.{AllByRecursion, flat_map}
use Rattle.std.specs.Str.{bytes_eq}
use Rattle.std.proofs.lemmas.List.{length-append, append-nil}
use Rattle.std.proofs.lemmas.Bool.{or_cases, or_right}
use Rattle.std.proofs.Math.Seq.{take-append_seam}
use Rattle.std.proofs.lemmas.Grind.{flat_map-append}
use Rattle.std.proofs.lemmas.Slice.Eq.{bytes_eq-Decides}
use Rattle.sha1.specs.Sha1.{sha1, digest_bytes}
use Rattle.git_index.specs.declared.entry.Entry.{Entry}
use Rattle.git_index.specs.Spelling.{IsIndexText, Extension, IsPassedOver, spelled_extension, body, header, all_spelled, is_hash_of}
use Rattle.tree_cache.specs.Extension.{tree_extension, extended_body, with_extension}

length-sha1 : (m : List ℕ) → length (sha1 m) ≡ 20
unfolding digest_bytes sha1
length-sha1 m = refl

length-hash : (text hash : List ℕ) → is_hash_of text hash ≡ true → length hash ≡ 20
length-hash text hash h =
    elim (or_cases (bytes_eq hash (replicate 20 0)) (bytes_eq hash (sha1 text)) h) [
      | inl zeros ↦ ap (length {A = ℕ}) ((bytes_eq-Decides hash (replicate 20 0)).0 zeros)
      | inr right ↦ ap (length {A = ℕ}) ((bytes_eq-Decides hash (sha1 text)).0 right) ∙ length-sha1 text
    ]

own_hash : (text : List ℕ) → is_hash_of text (sha1 text) ≡ true
own_hash text = or_right _ _ ((bytes_eq-Decides (sha1 text) (sha1 text)).1 refl)

-- what stands before the last bytes
front : (t b h : List ℕ) (n : ℕ) → t ≡ b ++ h → length h ≡ n → take (length t - n) t ≡ b
front t b h n parts len =
    let total : length t ≡ length b + n = omega (arith, ap (length {A = ℕ}) parts, length-append b h) in
    let at : length t - n ≡ length b = omega arith in
    ap (λ (k : ℕ). take k t) at ∙ ap (take (length b)) parts ∙ take-append_seam b h

one_passed : (cache : List ℕ) → length cache < 2 ^ 32 → IsPassedOver (tree_extension cache)
one_passed cache small = record { signature = refl; optional = refl; size = small }

all_passed : (xs : List Extension) (x : Extension) → AllByRecursion IsPassedOver xs → IsPassedOver x → AllByRecursion IsPassedOver (xs ++ x ∷ [])
all_passed [] x passed one = (one, tt)
all_passed (y ∷ xs) x passed one = (passed.0, all_passed xs x passed.1 one)

one_more : (xs : List Extension) (x : Extension) → flat_map spelled_extension (xs ++ x ∷ []) ≡ flat_map spelled_extension xs ++ spelled_extension x
one_more xs x = flat_map-append spelled_extension xs (x ∷ []) ∙ ap (λ (r : List ℕ). flat_map spelled_extension xs ++ r) (append-nil (spelled_extension x))

body_is : (index cache : List ℕ) (es : List Entry) → (t : IsIndexText index es) → extended_body index cache ≡ body t.version t.written (t.extensions ++ tree_extension cache ∷ [])
body_is index cache es t =
    let x = tree_extension cache in
    let before = header t.version (length t.written) ++ all_spelled t.version [] t.written in
    ap (λ (b : List ℕ). b ++ spelled_extension x) (front index (body t.version t.written t.extensions) t.hash 20 t.spelled_so (length-hash _ t.hash t.hashed))
    ∙ append_assoc before (flat_map spelled_extension t.extensions) (spelled_extension x)
    ∙ ap (λ (r : List ℕ). before ++ r) (sym (one_more t.extensions x))

pub same_entries : (index cache : List ℕ) (es : List Entry) → length cache < 2 ^ 32 → IsIndexText index es → IsIndexText (with_extension index cache) es
same_entries index cache es small t =
    let same = body_is index cache es t in
    record {
      version = t.version;
      written = t.written;
      extensions = t.extensions ++ tree_extension cache ∷ [];
      hash = sha1 (extended_body index cache);
      spelled_so = ap (λ (b : List ℕ). b ++ sha1 (extended_body index cache)) same;
      same = t.same;
      fit = t.fit;
      passed = all_passed t.extensions (tree_extension cache) t.passed (one_passed cache small);
      hashed = subst (λ (b : List ℕ). is_hash_of b (sha1 (extended_body index cache)) ≡ true) same (own_hash (extended_body index cache));
      few = t.few;
      rising = t.rising;
      alone = t.alone;
      apart = t.apart;
    }
