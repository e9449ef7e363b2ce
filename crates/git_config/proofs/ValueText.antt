-- What a reader keeps of a value is the text of its parts.
use Rattle.std.proofs.Common.{◌≡◌, ℕ, suc, ◌+◌, ◌≤◌, Bool, true, false, cond, List, [], ◌∷◌, ◌++◌, length, take, refl, sym, ap, ◌∙◌, append_assoc, arith}
use Rattle.std.specs.List.{flat_map, list_all}
use Rattle.std.proofs.lemmas.List.{length-append, append-nil, take_all, take-append-le}
use Rattle.git_config.specs.Text.{is_blank}
use Rattle.git_config.specs.Value.{with_blank}
use Rattle.git_config.specs.Spelling.{Part, Bare, Quoted, Nothing, is_bare_blank, bytes_of, without_last_blanks, text_of}

-- the bytes that are kept, part by part
abbrev pub kept_of : List Part → List ℕ → ℕ → List ℕ
kept_of [] bytes kept = take kept bytes
kept_of (Bare b ∷ ps) bytes kept = cond (is_blank b) (kept_of ps (with_blank bytes b) kept) (kept_of ps (bytes ++ b ∷ []) (length bytes + 1))
kept_of (Quoted b ∷ ps) bytes kept = kept_of ps (bytes ++ b ∷ []) (length bytes + 1)
kept_of (Nothing ∷ ps) bytes kept = kept_of ps bytes (length bytes)

-- what is kept after bytes that stay
abbrev pub behind_some : List Part → List ℕ → ℕ → List ℕ
behind_some ps bytes kept = cond (list_all is_bare_blank ps) (take kept bytes) (bytes ++ flat_map bytes_of (without_last_blanks ps))

whole : (bytes : List ℕ) (n : ℕ) → n ≡ length bytes → take n bytes ≡ bytes
whole bytes n is = take_all n bytes (omega arith)

none_last : (ps : List Part) → list_all is_bare_blank ps ≡ true → without_last_blanks ps ≡ []
none_last [] is = refl
none_last (p ∷ ps) is = rw is refl

-- one more byte that stays
more : (ps : List Part) (bytes : List ℕ) (b : ℕ) → behind_some ps (bytes ++ b ∷ []) (length bytes + 1) ≡ bytes ++ (b ∷ flat_map bytes_of (without_last_blanks ps))
more ps bytes b = at (list_all is_bare_blank ps) refl
  where
    at : (t : Bool) → list_all is_bare_blank ps ≡ t → behind_some ps (bytes ++ b ∷ []) (length bytes + 1) ≡ bytes ++ (b ∷ flat_map bytes_of (without_last_blanks ps))
    at true every = rw (every, none_last ps every) (whole (bytes ++ b ∷ []) (length bytes + 1) (omega (arith, length-append bytes (b ∷ []))))
    at false every = rw every (append_assoc bytes (b ∷ []) (flat_map bytes_of (without_last_blanks ps)))

-- one more blank, which stays if something follows
blank_more : (ps : List Part) (bytes : List ℕ) (b kept : ℕ) → kept ≤ length bytes → is_blank b ≡ true → behind_some ps (bytes ++ b ∷ []) kept ≡ behind_some (Bare b ∷ ps) bytes kept
blank_more ps bytes b kept le is = at (list_all is_bare_blank ps) refl
  where
    at : (t : Bool) → list_all is_bare_blank ps ≡ t → behind_some ps (bytes ++ b ∷ []) kept ≡ behind_some (Bare b ∷ ps) bytes kept
    at true every = rw (is, every) (take-append-le kept bytes (b ∷ []) le)
    at false every = rw (is, every) (append_assoc bytes (b ∷ []) (flat_map bytes_of (without_last_blanks ps)))

-- nothing, but what is before it stays
nothing_more : (ps : List Part) (bytes : List ℕ) → behind_some ps bytes (length bytes) ≡ bytes ++ flat_map bytes_of (without_last_blanks ps)
nothing_more ps bytes = at (list_all is_bare_blank ps) refl
  where
    at : (t : Bool) → list_all is_bare_blank ps ≡ t → behind_some ps bytes (length bytes) ≡ bytes ++ flat_map bytes_of (without_last_blanks ps)
    at true every = rw (every, none_last ps every) (whole bytes (length bytes) refl ∙ sym (append-nil bytes))
    at false every = rw every refl

bare_more : (ps : List Part) (v : ℕ) (vs : List ℕ) (b kept : ℕ) → kept ≤ length (v ∷ vs)
    → (kept_of ps (v ∷ (vs ++ b ∷ [])) kept ≡ behind_some ps (v ∷ (vs ++ b ∷ [])) kept)
    → (kept_of ps (v ∷ (vs ++ b ∷ [])) (suc (length vs) + 1) ≡ behind_some ps (v ∷ (vs ++ b ∷ [])) (suc (length vs) + 1))
    → kept_of (Bare b ∷ ps) (v ∷ vs) kept ≡ behind_some (Bare b ∷ ps) (v ∷ vs) kept
bare_more ps v vs b kept le if_blank if_not = at (is_blank b) refl
  where
    at : (t : Bool) → is_blank b ≡ t → kept_of (Bare b ∷ ps) (v ∷ vs) kept ≡ behind_some (Bare b ∷ ps) (v ∷ vs) kept
    at true is = let e = blank_more ps (v ∷ vs) b kept le is in ap (λ (t : Bool). cond t (kept_of ps (v ∷ (vs ++ b ∷ [])) kept) (kept_of ps (v ∷ (vs ++ b ∷ [])) (suc (length vs) + 1))) is ∙ if_blank ∙ e
    at false is = let e = more ps (v ∷ vs) b in ap (λ (t : Bool). cond t (kept_of ps (v ∷ (vs ++ b ∷ [])) kept) (kept_of ps (v ∷ (vs ++ b ∷ [])) (suc (length vs) + 1))) is ∙ if_not ∙ e ∙ rw is refl

kept_behind : (ps : List Part) (v : ℕ) (vs : List ℕ) (kept : ℕ) → kept ≤ length (v ∷ vs) → kept_of ps (v ∷ vs) kept ≡ behind_some ps (v ∷ vs) kept
kept_behind [] v vs kept le = refl
kept_behind (Bare b ∷ ps) v vs kept le =
    bare_more ps v vs b kept le (kept_behind ps v (vs ++ b ∷ []) kept (omega (arith, length-append vs (b ∷ []))))
    (kept_behind ps v (vs ++ b ∷ []) (suc (length vs) + 1) (omega (arith, length-append vs (b ∷ []))))
kept_behind (Quoted b ∷ ps) v vs kept le =
    kept_behind ps v (vs ++ b ∷ []) (suc (length vs) + 1) (omega (arith, length-append vs (b ∷ []))) ∙ more ps (v ∷ vs) b
kept_behind (Nothing ∷ ps) v vs kept le = kept_behind ps v vs (suc (length vs)) (omega arith) ∙ nothing_more ps (v ∷ vs)

-- the first byte that stays
first : (ps : List Part) (b : ℕ) → kept_of ps (b ∷ []) 1 ≡ b ∷ flat_map bytes_of (without_last_blanks ps)
first ps b = kept_behind ps b [] 1 (omega arith) ∙ more ps [] b

first_bare : (ps : List Part) (b : ℕ) → kept_of ps [] 0 ≡ text_of ps → kept_of (Bare b ∷ ps) [] 0 ≡ text_of (Bare b ∷ ps)
first_bare ps b later = at (is_blank b) refl
  where
    rest : (t : Bool) → list_all is_bare_blank ps ≡ t → is_blank b ≡ true → text_of ps ≡ text_of (Bare b ∷ ps)
    rest true every is = rw (is, every, none_last ps every) refl
    rest false every is = rw (is, every, is) refl

    at : (t : Bool) → is_blank b ≡ t → kept_of (Bare b ∷ ps) [] 0 ≡ text_of (Bare b ∷ ps)
    at true is = ap (λ (t : Bool). cond t (kept_of ps [] 0) (kept_of ps (b ∷ []) 1)) is ∙ later ∙ rest (list_all is_bare_blank ps) refl is
    at false is = ap (λ (t : Bool). cond t (kept_of ps [] 0) (kept_of ps (b ∷ []) 1)) is ∙ first ps b ∙ rw (is, is) refl

pub kept_is_text : (ps : List Part) → kept_of ps [] 0 ≡ text_of ps
kept_is_text [] = refl
kept_is_text (Bare b ∷ ps) = first_bare ps b (kept_is_text ps)
kept_is_text (Quoted b ∷ ps) = first ps b
kept_is_text (Nothing ∷ ps) = kept_is_text ps
