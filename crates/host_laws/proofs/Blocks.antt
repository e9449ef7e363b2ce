-- Requests at the front of the same packets.
use Rattle.std.proofs.Common.{◌≡◌, ℕ, Bool, true, false, List, [], ◌∷◌, ◌++◌, map, Option, Some, None}
use Rattle.std.proofs.Common.{refl, sym, ap, ◌∙◌, subst, append_assoc}
use Rattle.std.specs.Prelude.{codes}
use Rattle.std.specs.Str.{bytes_eq}
use Rattle.std.proofs.lemmas.Slice.Eq.{bytes_eq-Decides}
use Rattle.pkt_line.specs.Packets.{Packet, Payload, Flush}
use Rattle.filter_words.specs.Grammar.{block}
use Rattle.filter_words.specs.HandshakeGrammar.{caps_in}
use Rattle.filter_words.specs.ReplyGrammar.{joined}
use Rattle.filter_words.specs.declared.reply.Caps.{Caps}
use Rattle.driver_host.specs.Requests.{Smudge, IsHello, IsOffer, IsSmudge}
use Rattle.driver_host.specs.Requests.{IsListing, asks_smudge, asks_list, value_in, may_wait, is_text}

abbrev pub payload_in : Packet → List ℕ
payload_in (Payload bytes) = bytes
payload_in Flush = []

abbrev pub head_or : Packet → List Packet → Packet
head_or other [] = other
head_or other (p ∷ ps) = p

abbrev pub tail_of : List Packet → List Packet
tail_of [] = []
tail_of (p ∷ ps) = ps

pub tails : (p q : Packet) (xs ys : List Packet) → p ∷ xs ≡ q ∷ ys → xs ≡ ys
tails p q xs ys e = ap (λ (z : List Packet). tail_of z) e

pub heads : (p q : Packet) (xs ys : List Packet) → p ∷ xs ≡ q ∷ ys → p ≡ q
heads p q xs ys e = ap (λ (z : List Packet). head_or p z) e

pub same_lines : (k l : List ℕ) (xs ys : List Packet) → Payload k ∷ xs ≡ Payload l ∷ ys → k ≡ l
same_lines k l xs ys e = ap (λ (z : Packet). payload_in z) (heads (Payload k) (Payload l) xs ys e)

pub no_flush : (k : List ℕ) (xs ys : List Packet) → Flush ∷ xs ≡ Payload k ∷ ys → ⊥
no_flush k xs ys e = let h : Flush ≡ Payload k = heads Flush (Payload k) xs ys e in cc

pub block_same : (ks ls : List (List ℕ)) (xs ys : List Packet) → block ks ++ xs ≡ block ls ++ ys → (ks ≡ ls) × (xs ≡ ys)
block_same [] [] xs ys e = (refl, tails Flush Flush xs ys e)
block_same [] (l ∷ ls) xs ys e = absurd (no_flush l xs (block ls ++ ys) e)
block_same (k ∷ ks) [] xs ys e = absurd (no_flush k ys (block ks ++ xs) (sym e))
block_same (k ∷ ks) (l ∷ ls) xs ys e =
    let r = block_same ks ls xs ys (tails (Payload k) (Payload l) (block ks ++ xs) (block ls ++ ys) e) in (
      ap (λ (z : List ℕ). z ∷ ks) (same_lines k l (block ks ++ xs) (block ls ++ ys) e)
          ∙ ap (λ (z : List (List ℕ)). l ∷ z) r.0,
      r.1,
    )

-- lines have no flush packet
pub no_block : (ks ls : List (List ℕ)) (ys : List Packet) → block ks ++ ys ≡ map Payload ls → ⊥
no_block [] [] ys e = cc
no_block [] (l ∷ ls) ys e = no_flush l ys (map Payload ls) e
no_block (k ∷ ks) [] ys e = cc
no_block (k ∷ ks) (l ∷ ls) ys e =
    no_block ks ls ys (tails (Payload k) (Payload l) (block ks ++ ys) (map Payload ls) e)

pub same_bytes : (xs ys : List ℕ) → bytes_eq xs ys ≡ true → xs ≡ ys
same_bytes xs ys e = (bytes_eq-Decides xs ys).0 e

asks_value : (o : Option (List ℕ)) → is_text o (codes "smudge") ≡ true
    → is_text o (codes "list_available_blobs") ≡ true → ⊥
asks_value None a b = cc
asks_value (Some v) a b =
    let no : false ≡ true =
    subst (λ (z : List ℕ). bytes_eq z (codes "list_available_blobs") ≡ true) (same_bytes v (codes "smudge") a) b in cc

-- no key list asks for both
pub asks_both : (lines : List (List ℕ)) → asks_smudge lines ≡ true → asks_list lines ≡ true → ⊥
asks_both lines a b = asks_value (value_in (codes "command") lines) a b

pub fronts : (ps qs a b xs ys : List Packet) → ps ≡ a → qs ≡ b → ps ++ xs ≡ qs ++ ys → a ++ xs ≡ b ++ ys
fronts ps qs a b xs ys e f g = ap (λ (z : List Packet). z ++ xs) (sym e) ∙ (g ∙ ap (λ (z : List Packet). z ++ ys) f)

-- two requests of one kind at the front

pub hello_same : (ps qs xs ys : List Packet) → IsHello ps → IsHello qs → ps ++ xs ≡ qs ++ ys → (ps ≡ qs) × (xs ≡ ys)
hello_same ps qs xs ys a b e =
    let f = fronts ps qs (Payload a.client ∷ block a.lines) (Payload b.client ∷ block b.lines) xs ys a.whole b.whole e in
    let r = block_same a.lines b.lines xs ys
    (tails (Payload a.client) (Payload b.client) (block a.lines ++ xs) (block b.lines ++ ys) f) in (
      a.whole
          ∙ (ap (λ (z : List ℕ). Payload z ∷ block a.lines)
          (same_lines a.client b.client (block a.lines ++ xs) (block b.lines ++ ys) f)
          ∙ (ap (λ (z : List (List ℕ)). Payload b.client ∷ block z) r.0 ∙ sym b.whole)),
      r.1,
    )

pub offer_same : (c d : Caps) (ps qs xs ys : List Packet) → IsOffer c ps → IsOffer d qs → ps ++ xs ≡ qs ++ ys
    → (c ≡ d) × (ps ≡ qs) × (xs ≡ ys)
offer_same c d ps qs xs ys a b e =
    let r = block_same a.lines b.lines xs ys (fronts ps qs (block a.lines) (block b.lines) xs ys a.whole b.whole e) in (
      a.offers ∙ (ap (λ (z : List (List ℕ)). caps_in z) r.0 ∙ sym b.offers),
      a.whole ∙ (ap (λ (z : List (List ℕ)). block z) r.0 ∙ sym b.whole),
      r.1,
    )

pub listing_same : (ps qs xs ys : List Packet) → IsListing ps → IsListing qs → ps ++ xs ≡ qs ++ ys
    → (ps ≡ qs) × (xs ≡ ys)
listing_same ps qs xs ys a b e =
    let r = block_same a.keys b.keys xs ys (fronts ps qs (block a.keys) (block b.keys) xs ys a.whole b.whole e) in
    (a.whole ∙ (ap (λ (z : List (List ℕ)). block z) r.0 ∙ sym b.whole), r.1)

-- the key list, and what stands after it
pub keys_of : (path : List ℕ) (d : Bool) (content : List ℕ) (ps xs : List Packet) → (a : IsSmudge path d content ps)
    → ps ++ xs ≡ block a.keys ++ (block a.pieces ++ xs)
keys_of path d content ps xs a =
    ap (λ (z : List Packet). z ++ xs) a.whole ∙ append_assoc (block a.keys) (block a.pieces) xs

abbrev pub bytes_in : Option (List ℕ) → List ℕ
bytes_in None = []
bytes_in (Some xs) = xs

pub smudge_same : (p q : List ℕ) (d e : Bool) (c f : List ℕ) (ps qs xs ys : List Packet) → IsSmudge p d c ps
    → IsSmudge q e f qs → ps ++ xs ≡ qs ++ ys → (Smudge p d c ≡ Smudge q e f) × (ps ≡ qs) × (xs ≡ ys)
smudge_same p q d e c f ps qs xs ys a b same =
    let r = block_same a.keys b.keys (block a.pieces ++ xs) (block b.pieces ++ ys)
    (sym (keys_of p d c ps xs a) ∙ (same ∙ keys_of q e f qs ys b)) in
    let s = block_same a.pieces b.pieces xs ys r.1 in
    let path : p ≡ q = ap (λ (o : Option (List ℕ)). bytes_in o)
    (sym a.names ∙ (ap (λ (z : List (List ℕ)). value_in (codes "pathname") z) r.0 ∙ b.names)) in
    let waits : d ≡ e = a.waits ∙ (ap (λ (z : List (List ℕ)). may_wait z) r.0 ∙ sym b.waits) in
    let content : c ≡ f = a.content_is ∙ (ap (λ (z : List (List ℕ)). joined z) s.0 ∙ sym b.content_is) in (
      ap (λ (z : List ℕ). Smudge z d c) path ∙ (ap (λ (z : Bool). Smudge q z c) waits
          ∙ ap (λ (z : List ℕ). Smudge q e z) content),
      a.whole
          ∙ (ap (λ (z : List (List ℕ)). block z ++ block a.pieces) r.0
          ∙ (ap (λ (z : List (List ℕ)). block b.keys ++ block z) s.0 ∙ sym b.whole)),
      s.1,
    )

pub mixed : (p : List ℕ) (d : Bool) (c : List ℕ) (ps qs xs ys : List Packet) → IsSmudge p d c ps → IsListing qs
    → ps ++ xs ≡ qs ++ ys → ⊥
mixed p d c ps qs xs ys a b same =
    let r = block_same a.keys b.keys (block a.pieces ++ xs) ys
    (sym (keys_of p d c ps xs a) ∙ (same ∙ ap (λ (z : List Packet). z ++ ys) b.whole)) in
    asks_both b.keys (subst (λ (z : List (List ℕ)). asks_smudge z ≡ true) r.0 a.command) b.command
