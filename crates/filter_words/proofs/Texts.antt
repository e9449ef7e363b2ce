-- Texts that are written one after another.
use Rattle.std.proofs.Common.{◌≡◌, ℕ, List, [], ◌∷◌, ◌++◌, Result, Ok, Err, refl, sym, ap, ◌∙◌, append_assoc}
use Rattle.std.specs.Prelude.{OnOk}
use Rattle.std.proofs.lemmas.List.{append-nil}
use Rattle.pkt_line.specs.Packets.{Packet, Flush}
use Rattle.pkt_line.specs.Spelling.{spelling, spelling_all, content_packets}

on_ok : {A E : Type 0} (r : Result A E) (P Q : Type 0) → (P → Q) → OnOk r P → OnOk r Q
on_ok (Ok a) P Q f p = f p
on_ok (Err e) P Q f p = p

pub spelling_all-append : (ps qs : List Packet) → spelling_all (ps ++ qs) ≡ spelling_all ps ++ spelling_all qs
spelling_all-append [] qs = refl
spelling_all-append (p ∷ ps) qs =
    ap (λ (z : List ℕ). spelling p ++ z) (spelling_all-append ps qs)
    ∙ sym (append_assoc (spelling p) (spelling_all ps) (spelling_all qs))

-- a key list, and then a content up to its flush packet
pub in_parts : (keys : List Packet) (content : List ℕ) → spelling_all (keys ++ content_packets content ++ Flush ∷ [])
    ≡ spelling_all keys ++ spelling_all (content_packets content ++ Flush ∷ [])
in_parts keys content =
    ap spelling_all (append_assoc keys (content_packets content) (Flush ∷ []))
    ∙ spelling_all-append keys (content_packets content ++ Flush ∷ [])

four_texts : (old one two three new a b c d : List ℕ) → one ≡ old ++ a → two ≡ one ++ b → three ≡ two ++ c
    → new ≡ three ++ d
    → new ≡ old ++ (a ++ (b ++ (c ++ d)))
four_texts old one two three new a b c d f g h k =
    k
    ∙ (ap (λ (z : List ℕ). z ++ d) (h ∙ ap (λ (z : List ℕ). z ++ c) (g ∙ ap (λ (z : List ℕ). z ++ b) f))
    ∙ (append_assoc ((old ++ a) ++ b) c d ∙ (append_assoc (old ++ a) b (c ++ d) ∙ append_assoc old a (b ++ (c ++ d)))))

-- four packets
pub four_packets : {A E : Type 0} (r : Result A E) (old one two three new : List ℕ) (p q s t : Packet)
    → one ≡ old ++ spelling p → two ≡ one ++ spelling q → three ≡ two ++ spelling s → OnOk r (new ≡ three ++ spelling t)
    → OnOk r (new ≡ old ++ spelling_all (p ∷ q ∷ s ∷ t ∷ []))
four_packets r old one two three new p q s t f g h =
    on_ok r _ _ (λ (k : new ≡ three ++ spelling t). four_texts old one two three new (spelling p) (spelling q)
    (spelling s) (spelling t ++ []) f g h (k ∙ ap (λ (z : List ℕ). three ++ z) (sym (append-nil (spelling t)))))

-- three packets
pub three_packets : {A E : Type 0} (r : Result A E) (old one two new : List ℕ) (p q s : Packet)
    → one ≡ old ++ spelling p → two ≡ one ++ spelling q → OnOk r (new ≡ two ++ spelling s)
    → OnOk r (new ≡ old ++ spelling_all (p ∷ q ∷ s ∷ []))
three_packets r old one two new p q s f g =
    on_ok r _ _
    (λ (k : new ≡ two ++ spelling s).
    k
    ∙ (ap (λ (z : List ℕ). z ++ spelling s) (g ∙ ap (λ (z : List ℕ). z ++ spelling q) f)
    ∙ (append_assoc (old ++ spelling p) (spelling q) (spelling s)
    ∙ (append_assoc old (spelling p) (spelling q ++ spelling s)
    ∙ ap (λ (z : List ℕ). old ++ (spelling p ++ (spelling q ++ z))) (sym (append-nil (spelling s)))))))

-- packets, then packets, and then one
pub three_texts : {A E : Type 0} (r : Result A E) (old one two new : List ℕ) (ps qs : List Packet) (p : Packet)
    → one ≡ old ++ spelling_all ps → two ≡ one ++ spelling_all qs → OnOk r (new ≡ two ++ spelling p)
    → OnOk r (new ≡ old ++ spelling_all (ps ++ qs ++ p ∷ []))
three_texts r old one two new ps qs p f g =
    on_ok r _ _
    (λ (k : new ≡ two ++ spelling p).
    k
    ∙ (ap (λ (z : List ℕ). z ++ spelling p) (g ∙ ap (λ (z : List ℕ). z ++ spelling_all qs) f)
    ∙ (append_assoc (old ++ spelling_all ps) (spelling_all qs) (spelling p)
    ∙ (append_assoc old (spelling_all ps) (spelling_all qs ++ spelling p)
    ∙ ap (λ (z : List ℕ). old ++ z)
    (ap (λ (z : List ℕ). spelling_all ps ++ (spelling_all qs ++ z)) (sym (append-nil (spelling p)))
    ∙ (sym (append_assoc (spelling_all ps) (spelling_all qs) (spelling_all (p ∷ [])))
    ∙ (ap (λ (z : List ℕ). z ++ spelling_all (p ∷ [])) (sym (spelling_all-append ps qs))
    ∙ sym (spelling_all-append (ps ++ qs) (p ∷ [])))))))))

-- three packets, then packets, and then one
pub keys_texts : {A E : Type 0} (r : Result A E) (old one two three four new : List ℕ) (p q s t : Packet)
    (ps : List Packet)
    → one ≡ old ++ spelling p → two ≡ one ++ spelling q → three ≡ two ++ spelling s → four ≡ three ++ spelling_all ps
    → OnOk r (new ≡ four ++ spelling t)
    → OnOk r (new ≡ old ++ spelling_all (p ∷ q ∷ s ∷ ps ++ t ∷ []))
keys_texts r old one two three four new p q s t ps f g h i =
    on_ok r _ _
    (λ (k : new ≡ four ++ spelling t).
    four_texts one two three four new (spelling q) (spelling s) (spelling_all ps) (spelling t ++ []) g h i
    (k ∙ ap (λ (z : List ℕ). four ++ z) (sym (append-nil (spelling t))))
    ∙ (ap (λ (z : List ℕ). z ++ (spelling q ++ (spelling s ++ (spelling_all ps ++ (spelling t ++ []))))) f
    ∙ (append_assoc old (spelling p) (spelling q ++ (spelling s ++ (spelling_all ps ++ (spelling t ++ []))))
    ∙ ap (λ (z : List ℕ). old ++ (spelling p ++ (spelling q ++ (spelling s ++ z))))
    (sym (spelling_all-append ps (t ∷ []))))))
