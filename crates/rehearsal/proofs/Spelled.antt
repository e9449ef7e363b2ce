-- Texts of packets that are written one after another.
use Rattle.std.proofs.Common.{◌≡◌, ℕ, ◌+◌, ◌<◌, List, [], ◌∷◌, ◌++◌, Result, Ok, Err, length, map, take, get_or}
use Rattle.std.proofs.Common.{append_assoc, add-one, refl, sym, ap, ◌∙◌}
use Rattle.std.proofs.Math.Seq.{take-suc}
use Rattle.std.proofs.lemmas.List.{append-nil, map-append}
use Rattle.std.proofs.lemmas.Bool.{true≢false}
use Rattle.std.specs.Prelude.{OnOk, codes, false, ◌==◌}
use Rattle.std.specs.List.{flat_map}
use Rattle.pkt_line.specs.Packets.{Packet, Flush}
use Rattle.pkt_line.specs.Spelling.{spelling, spelling_all}
use Rattle.rehearsal.specs.Drivers.{pathname, list_text, given_text, filtered}

pub on_ok : {A E : Type 0} (r : Result A E) (P Q : Type 0) → (P → Q) → OnOk r P → OnOk r Q
on_ok (Ok a) P Q f p = f p
on_ok (Err e) P Q f p = p

pub in_parts : (ps qs : List Packet) → spelling_all (ps ++ qs) ≡ spelling_all ps ++ spelling_all qs
in_parts [] qs = refl
in_parts (p ∷ ps) qs =
    ap (λ (z : List ℕ). spelling p ++ z) (in_parts ps qs)
    ∙ sym (append_assoc (spelling p) (spelling_all ps) (spelling_all qs))

pub two_texts : (a b c x y : List ℕ) → b ≡ a ++ x → c ≡ b ++ y → c ≡ a ++ (x ++ y)
two_texts a b c x y f g = g ∙ (ap (λ (z : List ℕ). z ++ y) f ∙ append_assoc a x y)

-- packets, then packets, and then two flushes
pub good_texts : (old one two three new : List ℕ) (s p : List Packet) → one ≡ old ++ spelling_all s
    → two ≡ one ++ spelling_all p → three ≡ two ++ spelling Flush → new ≡ three ++ spelling Flush
    → new ≡ old ++ spelling_all (s ++ p ++ Flush ∷ Flush ∷ [])
good_texts old one two three new s p f g h k =
    let ends : List Packet = Flush ∷ Flush ∷ [] in
    let last : new ≡ two ++ spelling_all ends = two_texts two three new (spelling Flush) (spelling Flush) h k
    ∙ ap (λ (z : List ℕ). two ++ (spelling Flush ++ z)) (sym (append-nil (spelling Flush))) in
    let rest : new ≡ one ++ (spelling_all p ++ spelling_all ends) =
    two_texts one two new (spelling_all p) (spelling_all ends) g last in
    two_texts old one new (spelling_all s) (spelling_all p ++ spelling_all ends) f rest
    ∙ ap (λ (z : List ℕ). old ++ z)
    (sym (append_assoc (spelling_all s) (spelling_all p) (spelling_all ends))
    ∙ (ap (λ (z : List ℕ). z ++ spelling_all ends) (sym (in_parts s p)) ∙ sym (in_parts (s ++ p) ends)))

-- the names of paths, with one more
pub next_name : (seed : ℕ) (is : List ℕ) (k i : ℕ) → k < length is → i ≡ get_or is k 0
    → spelling_all (map (pathname seed) (take (k + 1) is))
    ≡ spelling_all (map (pathname seed) (take k is)) ++ spelling (pathname seed i)
next_name seed is k i lt at =
    let next : take (k + 1) is ≡ take k is ++ i ∷ [] = ap (λ (n : ℕ). take n is) (add-one k)
    ∙ (take-suc is k 0 lt ∙ ap (λ (x : ℕ). take k is ++ x ∷ []) (sym at)) in
    ap (λ (js : List ℕ). spelling_all (map (pathname seed) js)) next
    ∙ (ap spelling_all (map-append (pathname seed) (take k is) (i ∷ []))
    ∙ (in_parts (map (pathname seed) (take k is)) (pathname seed i ∷ [])
    ∙ ap (λ (z : List ℕ). spelling_all (map (pathname seed) (take k is)) ++ z)
    (append-nil (spelling (pathname seed i)))))

-- one packet more
pub one_more : (text next : List ℕ) (ps : List Packet) (p : Packet) → text ≡ spelling_all ps
    → next ≡ text ++ spelling p → next ≡ spelling_all (ps ++ p ∷ [])
one_more text next ps p f g =
    g
    ∙ (ap (λ (z : List ℕ). z ++ spelling p) f
    ∙ (ap (λ (z : List ℕ). spelling_all ps ++ z) (sym (append-nil (spelling p))) ∙ sym (in_parts ps (p ∷ []))))

-- a list that isn't empty, and what each of its paths gets
pub given_full : (seed : ℕ) (is : List ℕ) → (length is == 0) ≡ false
    → given_text seed is ≡ list_text seed is ++ flat_map (filtered (codes "alpha") seed) is
given_full seed [] h = absurd (true≢false h)
given_full seed (i ∷ is) h = refl
