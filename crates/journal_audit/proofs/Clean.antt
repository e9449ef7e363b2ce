-- Texts without a byte of some value, and how such texts are joined by it.
use Rattle.std.proofs.Common.{◌≡◌, ◌==◌, ℕ, suc, Bool, true, false, cond, eqb, List, [], ◌∷◌, ◌++◌, get_or, drop, refl, sym, ◌∙◌, ap, append_assoc, eq-eqb, arith, ◌&&◌}
use Rattle.std.proofs.lemmas.Grind.{common_steps}
use Rattle.std.proofs.lemmas.List.{append-nil}
use Rattle.std.proofs.lemmas.List.Splits.{slice_split-cons_no, slice_split-cons_yes, join_with_byte-slice_split}
use Rattle.std.specs.List.{onto_first, join_with_byte}
use Rattle.journal_audit.specs.Journal.{line, ends}
use Rattle.journal_audit.specs.Fronts.{lines_to, line_ends}
use Rattle.journal_audit.specs.Reading.{parts}

-- the words of a line with one space between
abbrev pub further : List (List ℕ) → List ℕ
further [] = []
further (w ∷ ws) = 32 ∷ (w ++ further ws)

abbrev pub row : List (List ℕ) → List ℕ
row [] = []
row (w ∷ ws) = w ++ further ws

abbrev pub clean : ℕ → List ℕ → Bool
clean c [] = true
clean c (b ∷ bs) = cond (eqb b c) false (clean c bs)

abbrev pub all_clean : ℕ → List (List ℕ) → Bool
all_clean c [] = true
all_clean c (r ∷ rs) = cond (clean c r) (all_clean c rs) false

pub not_and : (t x : Bool) → cond t false x ≡ true → (t ≡ false) × (x ≡ true)
not_and true x e = absurd (cc (e))
not_and false x e = (refl, e)

pub both : (t x : Bool) → cond t x false ≡ true → (t ≡ true) × (x ≡ true)
both true x e = (refl, e)
both false x e = absurd (cc (e))

pub both_and : (t x : Bool) → (t && x) ≡ true → (t ≡ true) × (x ≡ true)
both_and true x e = (refl, e)
both_and false x e = absurd (cc (e))

pub clean_cons : (c b : ℕ) (bs : List ℕ) → clean c (b ∷ bs) ≡ true → (eqb b c ≡ false) × (clean c bs ≡ true)
clean_cons c b bs e = not_and (eqb b c) (clean c bs) e

pub all_clean_cons : (c : ℕ) (r : List ℕ) (rs : List (List ℕ)) → all_clean c (r ∷ rs) ≡ true → (clean c r ≡ true) × (all_clean c rs ≡ true)
all_clean_cons c r rs e = both (clean c r) (all_clean c rs) e

pub clean_append : (c : ℕ) (a b : List ℕ) → clean c a ≡ true → clean c b ≡ true → clean c (a ++ b) ≡ true
clean_append c [] b x y = y
clean_append c (z ∷ a) b x y = let h = clean_cons c z a x in rw h.0 (clean_append c a b h.1 y)

pub eqb_self : (c : ℕ) → eqb c c ≡ true
eqb_self c = eq-eqb c c refl

-- the parts of such texts
pub parts_clean : (c : ℕ) (w : List ℕ) → clean c w ≡ true → parts c w ≡ w ∷ []
parts_clean c [] e = refl
parts_clean c (b ∷ w) e =
    let h = clean_cons c b w e in
    slice_split-cons_no (λ x. eqb x c) b w h.0 ∙ ap (λ (ps : List (List ℕ)). onto_first b ps) (parts_clean c w h.1)

pub parts_at : (c : ℕ) (w rest : List ℕ) → clean c w ≡ true → parts c (w ++ c ∷ rest) ≡ w ∷ parts c rest
parts_at c [] rest e = slice_split-cons_yes (λ x. eqb x c) c rest (eqb_self c)
parts_at c (b ∷ w) rest e =
    let h = clean_cons c b w e in
    slice_split-cons_no (λ x. eqb x c) b (w ++ c ∷ rest) h.0 ∙ ap (λ (ps : List (List ℕ)). onto_first b ps) (parts_at c w rest h.1)

onto_clean : (c b : ℕ) (ps : List (List ℕ)) → eqb b c ≡ false → all_clean c ps ≡ true → all_clean c (onto_first b ps) ≡ true
onto_clean c b [] e h = rw e refl
onto_clean c b (p ∷ ps) e h = rw e h

pub parts_all_clean : (c : ℕ) (text : List ℕ) → all_clean c (parts c text) ≡ true
parts_all_clean c [] = refl
parts_all_clean c (b ∷ text) = go (eqb b c) refl (parts_all_clean c text)
  where
    go : (t : Bool) → eqb b c ≡ t → all_clean c (parts c text) ≡ true → all_clean c (parts c (b ∷ text)) ≡ true
    go true e rest = ap (λ (ps : List (List ℕ)). all_clean c ps) (slice_split-cons_yes (λ x. eqb x c) b text e) ∙ rest
    go false e rest =
        ap (λ (ps : List (List ℕ)). all_clean c ps) (slice_split-cons_no (λ x. eqb x c) b text e) ∙ onto_clean c b (parts c text) e rest

-- two texts that are cut at the same byte
pub same_cut : (c : ℕ) (a b x y : List ℕ) → clean c a ≡ true → clean c b ≡ true → a ++ c ∷ x ≡ b ++ c ∷ y → (a ≡ b) × (x ≡ y)
same_cut c [] [] x y p q e = (refl, ap (λ (l : List ℕ). drop 1 l) e)
same_cut c [] (b ∷ bs) x y p q e =
    let h = clean_cons c b bs q in
    let s : b ≡ c = sym (ap (λ (l : List ℕ). get_or l 0 0) e) in
    let t : eqb b c ≡ true = eq-eqb b c s in
    absurd (cc (h.0, t))
same_cut c (a ∷ az) [] x y p q e =
    let h = clean_cons c a az p in
    let s : a ≡ c = ap (λ (l : List ℕ). get_or l 0 0) e in
    let t : eqb a c ≡ true = eq-eqb a c s in
    absurd (cc (h.0, t))
same_cut c (a ∷ az) (b ∷ bs) x y p q e =
    let r = same_cut c az bs x y (clean_cons c a az p).1 (clean_cons c b bs q).1 (ap (λ (l : List ℕ). drop 1 l) e) in
    let s : a ≡ b = ap (λ (l : List ℕ). get_or l 0 0) e in
    let u = r.0 in
    (cc (s, u), r.1)

-- a text without the byte has nothing behind it
pub no_cut : (c : ℕ) (t b y : List ℕ) → clean c t ≡ true → t ≡ b ++ c ∷ y → ⊥
no_cut c [] [] y p e = absurd (cc (e))
no_cut c [] (b ∷ bs) y p e = absurd (cc (e))
no_cut c (a ∷ t) [] y p e =
    let h = clean_cons c a t p in
    let s : a ≡ c = ap (λ (l : List ℕ). get_or l 0 0) e in
    let u : eqb a c ≡ true = eq-eqb a c s in
    absurd (cc (h.0, u))
no_cut c (a ∷ t) (b ∷ bs) y p e = no_cut c t bs y (clean_cons c a t p).1 (ap (λ (l : List ℕ). drop 1 l) e)

-- words and their line
row_joined : (w : List ℕ) (ws : List (List ℕ)) → row (w ∷ ws) ≡ join_with_byte 32 (w ∷ ws)
row_joined w [] = append-nil w
row_joined w (v ∷ ws) = ap (λ (l : List ℕ). w ++ 32 ∷ l) (row_joined v ws)

row_is_joined : (ws : List (List ℕ)) → row ws ≡ join_with_byte 32 ws
row_is_joined [] = refl
row_is_joined (w ∷ ws) = row_joined w ws

pub row_parts : (r : List ℕ) → row (parts 32 r) ≡ r
row_parts r = row_is_joined (parts 32 r) ∙ join_with_byte-slice_split 32 r

pub parts_row : (w : List ℕ) (ws : List (List ℕ)) → all_clean 32 (w ∷ ws) ≡ true → parts 32 (row (w ∷ ws)) ≡ w ∷ ws
parts_row w [] e = ap (λ (l : List ℕ). parts 32 l) (append-nil w) ∙ parts_clean 32 w (all_clean_cons 32 w [] e).0
parts_row w (v ∷ ws) e =
    let h = all_clean_cons 32 w (v ∷ ws) e in
    parts_at 32 w (row (v ∷ ws)) h.0 ∙ ap (λ (l : List (List ℕ)). w ∷ l) (parts_row v ws h.1)

further_clean : (ws : List (List ℕ)) → all_clean 10 ws ≡ true → clean 10 (further ws) ≡ true
further_clean [] e = refl
further_clean (w ∷ ws) e = let h = all_clean_cons 10 w ws e in clean_append 10 w (further ws) h.0 (further_clean ws h.1)

pub row_clean : (ws : List (List ℕ)) → all_clean 10 ws ≡ true → clean 10 (row ws) ≡ true
row_clean [] e = refl
row_clean (w ∷ ws) e = let h = all_clean_cons 10 w ws e in clean_append 10 w (further ws) h.0 (further_clean ws h.1)

-- lines
pub lines_to_line : (n : ℕ) (r x : List ℕ) → clean 10 r ≡ true → lines_to (suc n) (r ++ 10 ∷ x) ≡ r ++ 10 ∷ lines_to n x
lines_to_line n [] x e = refl
lines_to_line n (b ∷ r) x e = let h = clean_cons 10 b r e in rw h.0 (ap (λ (l : List ℕ). b ∷ l) (lines_to_line n r x h.1))

pub lines_to_clean : (n : ℕ) (t : List ℕ) → clean 10 t ≡ true → lines_to (suc n) t ≡ t
lines_to_clean n [] e = refl
lines_to_clean n (b ∷ t) e = let h = clean_cons 10 b t e in rw h.0 (ap (λ (l : List ℕ). b ∷ l) (lines_to_clean n t h.1))

pub line_ends_line : (r x : List ℕ) → clean 10 r ≡ true → line_ends (r ++ 10 ∷ x) ≡ suc (line_ends x)
line_ends_line [] x e = refl
line_ends_line (b ∷ r) x e = let h = clean_cons 10 b r e in rw h.0 (line_ends_line r x h.1)

pub line_ends_clean : (t : List ℕ) → clean 10 t ≡ true → line_ends t ≡ 0
line_ends_clean [] e = refl
line_ends_clean (b ∷ t) e = let h = clean_cons 10 b t e in rw h.0 (line_ends_clean t h.1)

ends_further : (ws : List (List ℕ)) → ends ws ≡ further ws ++ 10 ∷ []
ends_further [] = refl
ends_further (w ∷ ws) = ap (λ (l : List ℕ). 32 ∷ (w ++ l)) (ends_further ws) ∙ ap (λ (l : List ℕ). 32 ∷ l) (sym (append_assoc w (further ws) (10 ∷ [])))

pub line_row : (ws : List (List ℕ)) → line ws ≡ row ws ++ 10 ∷ []
line_row [] = refl
line_row (w ∷ ws) = ap (λ (l : List ℕ). w ++ l) (ends_further ws) ∙ sym (append_assoc w (further ws) (10 ∷ []))

pub same_number : (a b : ℕ) → (a == b) ≡ true → a ≡ b
same_number a b is = grind (arith, common_steps)
