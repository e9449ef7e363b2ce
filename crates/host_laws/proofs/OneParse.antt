-- The request that a host reads next is the one that its client sent next.
use Rattle.std.proofs.Common.{◌≡◌, ◌⊎◌, inl, inr, ℕ, ◌+◌, ◌<◌, ◌≤◌, Bool, true, false, List, [], ◌∷◌, ◌++◌, map, length}
use Rattle.std.proofs.Common.{Option, Some, None, refl, sym, ap, ◌∙◌, subst, append_assoc, append-nil, arith, length-append}
use Rattle.std.specs.Prelude.{codes}
use Rattle.std.specs.Str.{bytes_eq}
use Rattle.pkt_line.specs.Packets.{Packet, Payload, Flush, Spells, SpellAll, IsPartial, HasFault, HasNoPacket, size, total}
use Rattle.filter_words.specs.Outcomes.{limit}
use Rattle.filter_words.specs.Words.{without_lf}
use Rattle.filter_words.specs.Grammar.{block}
use Rattle.filter_words.specs.HandshakeGrammar.{has_line}
use Rattle.filter_words.specs.Listing.{name_in}
use Rattle.filter_words.specs.declared.reply.Caps.{Caps}
use Rattle.driver_host.specs.declared.work.Choice.{Choice}
use Rattle.driver_host.specs.declared.host.HostFault.{HostFault}
use Rattle.driver_host.specs.declared.host.HostFault.TheVariants as fault
use Rattle.driver_host.specs.Requests.{Request, Hello, Offer, Smudge, Listing, IsRequest, IsHello}
use Rattle.driver_host.specs.Requests.{AreRequests, asks_smudge, asks_list, value_in}
use Rattle.driver_host.specs.HostText.{Stage, Fresh, Greeted, Serving, Over, Owed, HostEnd, Waits, Stopped, Refused}
use Rattle.driver_host.specs.HostText.{Answers, AllAnswered, EndsSo, HasPart, IsUnfinished}
use Rattle.driver_host.specs.HostText.{IsBad, IsRefused, HasNoClient, HasNoVersion, IsBadKeyList, IsBadSmudge}
use Rattle.host_laws.specs.HostTalks.{AnswersFit}
use Rattle.host_laws.specs.Awaiting.{Awaits, MayCome, IsTaken}
use Rattle.host_laws.proofs.Blocks.{tails, heads, same_lines, no_flush, block_same, no_block, asks_both, hello_same}
use Rattle.host_laws.proofs.Blocks.{offer_same, listing_same, smudge_same, mixed, keys_of}

-- the laws of packets on which this rests
pub record PacketLaws : Type 0 where
  pub prefix : (p q : Packet) (a b x y : List ℕ) → Spells p a → Spells q b → a ++ x ≡ b ++ y → (p ≡ q) × (a ≡ b) × (x ≡ y)
  pub reading : (ps qs : List Packet) (a b x y : List ℕ) → SpellAll ps a → SpellAll qs b → a ++ x ≡ b ++ y
      → HasNoPacket x → HasNoPacket y → (ps ≡ qs) × (a ≡ b) × (x ≡ y)

never : {b : Bool} → b ≡ false → b ≡ true → ⊥
never e f = let no : true ≡ false = sym f ∙ e in cc

-- the next request

pub next_is : (own : Caps) (batch : ℕ) (s mid : Stage) (r q : Request) (cs : List Choice)
    (answers ps qs xs ys : List Packet) → MayCome s r → IsRequest r ps → IsRequest q qs
    → Answers own batch s q cs answers mid → qs ++ ys ≡ ps ++ xs → (q ≡ r) × (qs ≡ ps) × (ys ≡ xs)
next_is own batch Fresh mid Hello Hello cs answers ps qs xs ys may a b x e =
    let r = hello_same qs ps ys xs b a e in (refl, r.0, r.1)
next_is own batch Fresh mid Hello (Offer d) cs answers ps qs xs ys may a b x e = absurd x
next_is own batch Fresh mid Hello (Smudge p d c) cs answers ps qs xs ys may a b x e = absurd x
next_is own batch Fresh mid Hello Listing cs answers ps qs xs ys may a b x e = absurd x
next_is own batch Greeted mid (Offer c) (Offer d) cs answers ps qs xs ys may a b x e =
    let r = offer_same d c qs ps ys xs b a e in (ap (λ (z : Caps). Offer z) r.0, r.1, r.2)
next_is own batch Greeted mid (Offer c) Hello cs answers ps qs xs ys may a b x e = absurd x
next_is own batch Greeted mid (Offer c) (Smudge p d f) cs answers ps qs xs ys may a b x e = absurd x
next_is own batch Greeted mid (Offer c) Listing cs answers ps qs xs ys may a b x e = absurd x
next_is own batch (Serving agreed owed) mid Listing Listing cs answers ps qs xs ys may a b x e =
    let r = listing_same qs ps ys xs b a e in (refl, r.0, r.1)
next_is own batch (Serving agreed owed) mid Listing (Smudge p d c) cs answers ps qs xs ys may a b x e =
    absurd (mixed p d c qs ps ys xs b a e)
next_is own batch (Serving agreed owed) mid (Smudge p d c) Listing cs answers ps qs xs ys may a b x e =
    absurd (mixed p d c ps qs xs ys a b (sym e))
next_is own batch (Serving agreed owed) mid (Smudge p d c) (Smudge q f g) cs answers ps qs xs ys may a b x e =
    smudge_same q p f d g c qs ps ys xs b a e
next_is own batch (Serving agreed owed) mid Listing Hello cs answers ps qs xs ys may a b x e = absurd x
next_is own batch (Serving agreed owed) mid Listing (Offer d) cs answers ps qs xs ys may a b x e = absurd x
next_is own batch (Serving agreed owed) mid (Smudge p d c) Hello cs answers ps qs xs ys may a b x e = absurd x
next_is own batch (Serving agreed owed) mid (Smudge p d c) (Offer f) cs answers ps qs xs ys may a b x e = absurd x
next_is own batch Fresh mid (Offer c) q cs answers ps qs xs ys may a b x e = absurd may
next_is own batch Fresh mid (Smudge p d c) q cs answers ps qs xs ys may a b x e = absurd may
next_is own batch Fresh mid Listing q cs answers ps qs xs ys may a b x e = absurd may
next_is own batch Greeted mid Hello q cs answers ps qs xs ys may a b x e = absurd may
next_is own batch Greeted mid (Smudge p d c) q cs answers ps qs xs ys may a b x e = absurd may
next_is own batch Greeted mid Listing q cs answers ps qs xs ys may a b x e = absurd may
next_is own batch (Serving agreed owed) mid Hello q cs answers ps qs xs ys may a b x e = absurd may
next_is own batch (Serving agreed owed) mid (Offer c) q cs answers ps qs xs ys may a b x e = absurd may
next_is own batch Over mid r q cs answers ps qs xs ys may a b x e = absurd may

-- a whole request is no part of one

not_unfinished : (s : Stage) (r : Request) (ps xs part : List Packet) → MayCome s r → IsRequest r ps
    → ps ++ xs ≡ part → IsUnfinished s part → ⊥
not_unfinished Fresh Hello ps xs part may a e (inl none) =
    let f : (Payload a.client ∷ block a.lines) ++ xs ≡ [] =
    ap (λ (z : List Packet). z ++ xs) (sym a.whole) ∙ (e ∙ none) in cc
not_unfinished Fresh Hello ps xs part may a e (inr u) =
    no_block a.lines u.1 xs
    (tails (Payload a.client) (Payload u.0) (block a.lines ++ xs) (map Payload u.1)
    (ap (λ (z : List Packet). z ++ xs) (sym a.whole) ∙ (e ∙ u.2)))
not_unfinished Greeted (Offer c) ps xs part may a e u =
    no_block a.lines u.0 xs (ap (λ (z : List Packet). z ++ xs) (sym a.whole) ∙ (e ∙ u.1))
not_unfinished (Serving agreed owed) Listing ps xs part may a e (inl u) =
    no_block a.keys u.0 xs (ap (λ (z : List Packet). z ++ xs) (sym a.whole) ∙ (e ∙ u.1))
not_unfinished (Serving agreed owed) Listing ps xs part may a e (inr u) =
    let r = block_same a.keys u.keys xs (map Payload u.pieces)
    (ap (λ (z : List Packet). z ++ xs) (sym a.whole) ∙ (e ∙ u.whole)) in
    asks_both u.keys u.command (subst (λ (z : List (List ℕ)). asks_list z ≡ true) r.0 a.command)
not_unfinished (Serving agreed owed) (Smudge p d c) ps xs part may a e (inl u) =
    no_block a.keys u.0 (block a.pieces ++ xs) (sym (keys_of p d c ps xs a) ∙ (e ∙ u.1))
not_unfinished (Serving agreed owed) (Smudge p d c) ps xs part may a e (inr u) =
    let r = block_same a.keys u.keys (block a.pieces ++ xs) (map Payload u.pieces)
    (sym (keys_of p d c ps xs a) ∙ (e ∙ u.whole)) in
    no_block a.pieces u.pieces xs r.1
not_unfinished Fresh (Offer c) ps xs part may a e u = may
not_unfinished Fresh (Smudge p d c) ps xs part may a e u = may
not_unfinished Fresh Listing ps xs part may a e u = may
not_unfinished Greeted Hello ps xs part may a e u = may
not_unfinished Greeted (Smudge p d c) ps xs part may a e u = may
not_unfinished Greeted Listing ps xs part may a e u = may
not_unfinished (Serving agreed owed) Hello ps xs part may a e u = may
not_unfinished (Serving agreed owed) (Offer c) ps xs part may a e u = may
not_unfinished Over r ps xs part may a e u = may

-- nor is it bad

no_client : (ps xs : List Packet) (c : List ℕ) (lines : List (List ℕ)) → without_lf c ≡ codes "git-filter-client"
    → Payload c ∷ block lines ≡ ps ++ xs → HasNoClient ps → ⊥
no_client [] xs c lines is e h = h
no_client (Payload line ∷ []) xs c lines is e h =
    let same : bytes_eq (without_lf c) (codes "git-filter-client") ≡ false =
    subst (λ (z : List ℕ). bytes_eq (without_lf z) (codes "git-filter-client") ≡ false)
    (sym (same_lines c line (block lines) xs e)) h in
    let no : true ≡ false = subst (λ (z : List ℕ). bytes_eq z (codes "git-filter-client") ≡ false) is same in cc
no_client (Payload line ∷ p ∷ ps) xs c lines is e h = h
no_client (Flush ∷ []) xs c lines is e h = no_flush c xs (block lines) (sym e)
no_client (Flush ∷ p ∷ ps) xs c lines is e h = h

bad_hello : (ps part xs : List Packet) → IsHello ps → ps ≡ part ++ xs → HasNoClient part ⊎ HasNoVersion part → ⊥
bad_hello ps part xs a e (inl h) = no_client part xs a.client a.lines a.client_is (sym a.whole ∙ e) h
bad_hello ps part xs a e (inr h) =
    let f : Payload a.client ∷ (block a.lines ++ []) ≡ Payload h.client ∷ (block h.lines ++ xs) =
    ap (λ (z : List Packet). Payload a.client ∷ z) (append-nil (block a.lines))
    ∙ (sym a.whole ∙ (e ∙ ap (λ (z : List Packet). z ++ xs) h.whole)) in
    let r = block_same a.lines h.lines [] xs
    (tails (Payload a.client) (Payload h.client) (block a.lines ++ []) (block h.lines ++ xs) f) in
    never h.no_version (subst (λ (z : List (List ℕ)). has_line z (codes "version=2") ≡ true) r.0 a.version_in)

bad_path : (agreed : Caps) (owed : Owed) (o : Option (List ℕ)) (path : List ℕ) → o ≡ Some path
    → agreed.smudge ≡ true → name_in owed.delayed path ≡ false → IsBadSmudge agreed owed o → ⊥
bad_path agreed owed None path is smudge free h = let no : None ≡ Some path = is in cc
bad_path agreed owed (Some q) path is smudge free (inl h) = never h smudge
bad_path agreed owed (Some q) path is smudge free (inr h) =
    never free (subst (λ (z : List ℕ). name_in owed.delayed z ≡ true)
    (ap (λ (o : Option (List ℕ)). elim o [ None ↦ q | Some v ↦ v ]) is) h)

bad_listing : (agreed : Caps) (owed : Owed) (keys : List (List ℕ)) → agreed.delay ≡ true → asks_list keys ≡ true
    → IsBadKeyList agreed owed keys → ⊥
bad_listing agreed owed keys delay list (inl h) = never h.1 list
bad_listing agreed owed keys delay list (inr (inl h)) = asks_both keys h.0 list
bad_listing agreed owed keys delay list (inr (inr h)) = never h.1 delay

bad_smudge : (agreed : Caps) (owed : Owed) (keys : List (List ℕ)) (path : List ℕ) → agreed.smudge ≡ true
    → name_in owed.delayed path ≡ false → asks_smudge keys ≡ true → value_in (codes "pathname") keys ≡ Some path
    → IsBadKeyList agreed owed keys → ⊥
bad_smudge agreed owed keys path smudge free asks names (inl h) = never h.0 asks
bad_smudge agreed owed keys path smudge free asks names (inr (inl h)) =
    bad_path agreed owed (value_in (codes "pathname") keys) path names smudge free h.1
bad_smudge agreed owed keys path smudge free asks names (inr (inr h)) = asks_both keys asks h.0

not_bad : (s : Stage) (why : HostFault) (r : Request) (ps part xs : List Packet) → MayCome s r → IsRequest r ps
    → ps ≡ part ++ xs → IsBad s why part → ⊥
not_bad Fresh fault.BadHello Hello ps part xs may a e h = bad_hello ps part xs a e h
not_bad (Serving agreed owed) fault.BadRequest Listing ps part xs may a e h =
    let r = block_same a.keys h.0 [] xs
    (append-nil (block a.keys) ∙ (sym a.whole ∙ (e ∙ ap (λ (z : List Packet). z ++ xs) h.1))) in
    bad_listing agreed owed h.0 may (subst (λ (z : List (List ℕ)). asks_list z ≡ true) r.0 a.command) h.2
not_bad (Serving agreed owed) fault.BadRequest (Smudge p d c) ps part xs may a e h =
    let r = block_same a.keys h.0 (block a.pieces) xs
    (sym a.whole ∙ (e ∙ ap (λ (z : List Packet). z ++ xs) h.1)) in
    bad_smudge agreed owed h.0 p may.0 may.1 (subst (λ (z : List (List ℕ)). asks_smudge z ≡ true) r.0 a.command)
    (subst (λ (z : List (List ℕ)). value_in (codes "pathname") z ≡ Some p) r.0 a.names) h.2
not_bad Fresh why (Offer c) ps part xs may a e h = may
not_bad Fresh why (Smudge p d c) ps part xs may a e h = may
not_bad Fresh why Listing ps part xs may a e h = may
not_bad (Serving agreed owed) why Hello ps part xs may a e h = may
not_bad (Serving agreed owed) why (Offer c) ps part xs may a e h = may
not_bad Greeted why r ps part xs may a e h = h
not_bad Over why r ps part xs may a e h = may
not_bad Fresh fault.BadPacket Hello ps part xs may a e h = h
not_bad Fresh fault.TooLong Hello ps part xs may a e h = h
not_bad Fresh fault.BadRequest Hello ps part xs may a e h = h
not_bad Fresh fault.NoMemory Hello ps part xs may a e h = h
not_bad (Serving agreed owed) fault.BadPacket r ps part xs may a e h = h
not_bad (Serving agreed owed) fault.TooLong r ps part xs may a e h = h
not_bad (Serving agreed owed) fault.BadHello r ps part xs may a e h = h
not_bad (Serving agreed owed) fault.NoMemory r ps part xs may a e h = h

-- packets at the front of others

pub record Front (ps all : List Packet) (after : List ℕ) : Type 0 where
  pub more : List Packet
  pub whole : all ≡ ps ++ more
  pub spelled : SpellAll more after

pub size_some : (p : Packet) → 4 ≤ size p
size_some (Payload bytes) = omega arith
size_some Flush = omega arith

pub spelled_front : PacketLaws → (all ps : List Packet) (bytes read after : List ℕ) → SpellAll all bytes → SpellAll ps read
    → bytes ≡ read ++ after → Front ps all after
spelled_front laws all [] bytes read after a b e = record {
  more = all;
  whole = refl;
  spelled = subst (λ (z : List ℕ). SpellAll all z) (e ∙ ap (λ (z : List ℕ). z ++ after) b) a;
}
spelled_front laws [] (p ∷ ps) bytes read after a b e =
    let none : length bytes ≡ 0 = ap (λ (z : List ℕ). length z) a in
    let all : length bytes ≡ length (read ++ after) = ap (λ (z : List ℕ). length z) e in
    let whole : length read ≡ length (b.0 ++ b.1) = ap (λ (z : List ℕ). length z) b.4 in
    let head = b.2 in
    let sized = head.sized in
    absurd (omega (arith, none, all, whole, sized, size_some p, length-append read after, length-append b.0 b.1))
spelled_front laws (q ∷ qs) (p ∷ ps) bytes read after a b e =
    let same = laws.prefix q p a.0 b.0 a.1 (b.1 ++ after) a.2 b.2
    (sym a.4 ∙ (e ∙ (ap (λ (z : List ℕ). z ++ after) b.4 ∙ append_assoc b.0 b.1 after))) in
    let f = spelled_front laws qs ps a.1 b.1 after a.3 b.3 same.2 in
    record {
      more = f.more;
      whole = ap (λ (z : Packet). z ∷ qs) same.0 ∙ ap (λ (z : List Packet). p ∷ z) f.whole;
      spelled = f.spelled;
    }

abbrev Cut : List Packet → List Packet → List Packet → List Packet → Type 0
Cut xs ys zs ws = ((more : List Packet) × (xs ++ more ≡ zs))
    ⊎ ((more : List Packet) × (xs ≡ zs ++ more) × (more ++ ys ≡ ws))

cut : (xs ys zs ws : List Packet) → xs ++ ys ≡ zs ++ ws → Cut xs ys zs ws
cut [] ys zs ws e = inl (zs, refl)
cut (x ∷ xs) ys [] ws e = inr (x ∷ xs, refl, e)
cut (x ∷ xs) ys (z ∷ zs) ws e = longer (cut xs ys zs ws (tails x z (xs ++ ys) (zs ++ ws) e))
  where
    longer : Cut xs ys zs ws → Cut (x ∷ xs) ys (z ∷ zs) ws
    longer (inl m) = inl (
      m.0,
      ap (λ (p : Packet). p ∷ (xs ++ m.0)) (heads x z (xs ++ ys) (zs ++ ws) e) ∙ ap (λ (p : List Packet). z ∷ p) m.1,
    )
    longer (inr m) = inr (
      m.0,
      ap (λ (p : Packet). p ∷ xs) (heads x z (xs ++ ys) (zs ++ ws) e) ∙ ap (λ (p : List Packet). z ∷ p) m.1,
      m.2,
    )

pub total_both : (ps qs : List Packet) → total (ps ++ qs) ≡ total ps + total qs
total_both [] qs = omega arith
total_both (p ∷ ps) qs = let e = total_both ps qs in omega (arith, e)

-- A whole request is left, so the bytes don't end in any of these ways.

nothing : HasNoPacket []
nothing = inl (inl (omega arith))

ends_in_part : PacketLaws → (s : Stage) (r : Request) (ps xs : List Packet) (rest : List ℕ) (after : List ℕ → Type 0)
    → ((bytes : List ℕ) → after bytes → HasNoPacket bytes) → MayCome s r → IsRequest r ps → SpellAll (ps ++ xs) rest
    → HasPart s rest after → ⊥
ends_in_part laws s r ps xs rest after bare may a spelled h =
    let same = laws.reading (ps ++ xs) h.packets rest h.read [] h.rest spelled h.spelled (append-nil rest ∙ h.whole)
    nothing (bare h.rest h.ends) in
    not_unfinished s r ps xs h.packets may a same.0 h.unfinished

refused_at : (s : Stage) (why : HostFault) (r : Request) (ps xs part more : List Packet) → MayCome s r → IsRequest r ps
    → total ps ≤ limit → ps ++ xs ≡ part ++ more → IsRefused s part why → ⊥
refused_at s why r ps xs part more may a le e h = by_cut (cut ps xs h.before (h.last ∷ more)
    (e ∙ (ap (λ (z : List Packet). z ++ more) h.whole ∙ append_assoc h.before (h.last ∷ []) more)))
  where
    by_cause : (beyond : List Packet) → ps ≡ part ++ beyond
        → ((why ≡ fault.TooLong) × (limit < total part)) ⊎ ((total part ≤ limit) × IsBad s why part) → ⊥
    by_cause beyond f (inl x) =
        let long = x.1 in
        let sum : total ps ≡ total (part ++ beyond) = ap (λ (z : List Packet). total z) f in
        omega (arith, le, long, sum, total_both part beyond)
    by_cause beyond f (inr x) = not_bad s why r ps part beyond may a f x.1

    whole : (p : Packet) (m : List Packet) → ps ≡ h.before ++ p ∷ m → p ≡ h.last → ps ≡ part ++ m
    whole p m f same =
        f ∙ (ap (λ (z : Packet). h.before ++ z ∷ m) same
        ∙ (sym (append_assoc h.before (h.last ∷ []) m) ∙ ap (λ (z : List Packet). z ++ m) (sym h.whole)))

    with_last : (m : List Packet) → ps ≡ h.before ++ m → m ++ xs ≡ h.last ∷ more → ⊥
    with_last [] f g =
        not_unfinished s r ps [] h.before may a (append-nil ps ∙ (f ∙ append-nil h.before)) h.unfinished
    with_last (p ∷ m) f g = by_cause m (whole p m f (heads p h.last (m ++ xs) more g)) h.cause_is

    by_cut : Cut ps xs h.before (h.last ∷ more) → ⊥
    by_cut (inl m) = not_unfinished s r ps m.0 h.before may a m.1 h.unfinished
    by_cut (inr m) = with_last m.0 m.1 m.2

pub none_left : PacketLaws → (s : Stage) (r : Request) (ps xs : List Packet) (rest : List ℕ) (end : HostEnd) → MayCome s r
    → IsRequest r ps → total ps ≤ limit → SpellAll (ps ++ xs) rest → EndsSo s rest end → ⊥
none_left laws s r ps xs rest Waits may a le spelled h =
    ends_in_part laws s r ps xs rest IsPartial (λ bytes x. inl x) may a spelled h
none_left laws s r ps xs rest Stopped may a le spelled h = subst (λ (z : Stage). MayCome z r) h may
none_left laws s r ps xs rest (Refused fault.BadPacket) may a le spelled h =
    ends_in_part laws s r ps xs rest HasFault (λ bytes x. inr x) may a spelled h
none_left laws s r ps xs rest (Refused fault.NoMemory) may a le spelled h = h
none_left laws s r ps xs rest (Refused fault.TooLong) may a le spelled h =
    let f = spelled_front laws (ps ++ xs) h.packets rest h.read h.rest spelled h.spelled h.whole in
    refused_at s fault.TooLong r ps xs h.packets f.more may a le f.whole h.refused
none_left laws s r ps xs rest (Refused fault.BadHello) may a le spelled h =
    let f = spelled_front laws (ps ++ xs) h.packets rest h.read h.rest spelled h.spelled h.whole in
    refused_at s fault.BadHello r ps xs h.packets f.more may a le f.whole h.refused
none_left laws s r ps xs rest (Refused fault.BadRequest) may a le spelled h =
    let f = spelled_front laws (ps ++ xs) h.packets rest h.read h.rest spelled h.spelled h.whole in
    refused_at s fault.BadRequest r ps xs h.packets f.more may a le f.whole h.refused

-- the next request is read, and answered

taken_at : PacketLaws → (own : Caps) (batch : ℕ) (s t : Stage) (r : Request) (ps xs : List Packet) (end : HostEnd)
    (requests : List Request) (packets more answers : List Packet) (rest : List ℕ) (choices : List Choice)
    → MayCome s r → IsRequest r ps → total ps ≤ limit → ps ++ xs ≡ packets ++ more → SpellAll more rest
    → AreRequests requests packets → (all : AllAnswered own batch s requests choices answers t)
    → AnswersFit own batch requests s t choices answers all → EndsSo t rest end → IsTaken own batch s r xs answers end
taken_at laws own batch s t r ps xs end [] packets more answers rest choices may a le whole spelled are all fit ends =
    absurd (none_left laws s r ps xs rest end may a le
    (subst (λ (z : List Packet). SpellAll z rest) (sym (whole ∙ ap (λ (z : List Packet). z ++ more) are)) spelled)
    (subst (λ (z : Stage). EndsSo z rest end) (sym all.2) ends))
taken_at laws own batch s t r ps xs end (q ∷ rs) packets more answers rest choices may a le whole spelled are all fit ends =
    let same = next_is own batch s all.0 r q all.1 all.3 ps are.0 xs (are.1 ++ more) may a are.3 all.7
    (sym (append_assoc are.0 are.1 more) ∙ (ap (λ (z : List Packet). z ++ more) (sym are.2) ∙ sym whole)) in
    record {
      mid = all.0;
      choices = all.1;
      first = all.3;
      later = all.4;
      whole = all.6;
      is = subst (λ (z : Request). Answers own batch s z all.1 all.3 all.0) same.0 all.7;
      fit = fit.0;
      next = record {
        requests = rs;
        packets = are.1;
        more = more;
        rest = rest;
        choices = all.2;
        stage = t;
        whole = sym same.2;
        spelled = spelled;
        are = are.5;
        answered = all.8;
        fit = fit.1;
        ends = ends;
      };
    }

pub taken : PacketLaws → (own : Caps) (batch : ℕ) (s : Stage) (r : Request) (ps xs answers : List Packet) (end : HostEnd)
    → MayCome s r → IsRequest r ps → total ps ≤ limit → Awaits own batch s (ps ++ xs) answers end
    → IsTaken own batch s r xs answers end
taken laws own batch s r ps xs answers end may a le w =
    taken_at laws own batch s w.stage r ps xs end w.requests w.packets w.more answers w.rest w.choices may a le w.whole
    w.spelled w.are w.answered w.fit w.ends
