-- How the members of a set are read one by one.
use Rattle.std.proofs.Common.{◌≡◌, ℕ, zero, suc, ◌+◌, ◌-◌, ◌<◌, ◌≤◌, Bool, true, false, ◌&&◌, ◌||◌, not, List, [], ◌∷◌, ◌++◌, cond, length, get_or, drop, eqb, ltb, Option, Some, None, refl, sym, ◌∙◌, ap, arith, append_assoc}
use Rattle.std.specs.List.{position, position_or_len}
use Rattle.std.proofs.lemmas.Bool.{ne_eqb, eq-eqb, eqb-true, ltb-true, ltb-false, lt-ltb, and_parts, and_from, both_ways}
use Rattle.std.proofs.lemmas.List.{drop-drop}
use Rattle.std.proofs.lemmas.List.Sums.{prefix_len-le-length}
use Rattle.wild_match.specs.Steps.{IsClose}
use Rattle.wild_match.specs.declared.sets.Member.{Member}
use Rattle.wild_match.specs.Members.{has, is_close, closes, member_at, behind, with_member, members_behind, is_member, seen}

-- what a set reads to
abbrev pub Read : Type 0
Read = Option (List Member × ℕ)

behind-none : (r : Read) → behind 0 [] r ≡ r
behind-none None = refl
behind-none (Some set) = let size : 0 + set.1 ≡ set.1 = omega arith in rw size refl

behind-behind : (a b : List Member) (m n : ℕ) (r : Read) → behind m a (behind n b r) ≡ behind (m + n) (a ++ b) r
behind-behind a b m n None = refl
behind-behind a b m n (Some set) =
    let members : a ++ (b ++ set.0) ≡ (a ++ b) ++ set.0 = sym (append_assoc a b set.0) in
    let size : m + (n + set.1) ≡ (m + n) + set.1 = omega arith in
    rw (members, size) refl

members-skip : (skip : ℕ) (first : Bool) (text : List ℕ) → members_behind skip first text ≡ behind skip [] (members_behind 0 first (drop skip text))
members-skip zero first text = sym (behind-none (members_behind 0 first text))
members-skip (suc skip) first [] = refl
members-skip (suc skip) first (b ∷ text) =
    ap (behind 1 []) (members-skip skip first text)
    ∙ behind-behind [] [] 1 skip (members_behind 0 first (drop skip text))
    ∙ (let size : 1 + skip ≡ suc skip = omega arith in ap (λ (k : ℕ). behind k [] (members_behind 0 first (drop skip text))) size)

-- one member, and the others after it
members-step_at : (m : Member) (n b : ℕ) (text : List ℕ) → 0 < n
    → with_member (Some (m, n)) (λ skip. members_behind skip false text) ≡ behind n (m ∷ []) (members_behind 0 false (drop n (b ∷ text)))
members-step_at m zero b text some = absurd (omega arith)
members-step_at m (suc n) b text some =
    let less : suc n - 1 ≡ n = omega arith in
    let size : 1 + n ≡ suc n = omega arith in
    ap (λ (k : ℕ). behind 1 (m ∷ []) (members_behind k false text)) less
    ∙ ap (behind 1 (m ∷ [])) (members-skip n false text)
    ∙ behind-behind (m ∷ []) [] 1 n (members_behind 0 false (drop n text))
    ∙ ap (λ (k : ℕ). behind k (m ∷ []) (members_behind 0 false (drop n text))) size

members-step : (first : Bool) (text : List ℕ) (m : Member) (n : ℕ) → 0 < length text → (is_close (get_or text 0 0) && not first) ≡ false → member_at text ≡ Some (m, n) → 0 < n
    → members_behind 0 first text ≡ behind n (m ∷ []) (members_behind 0 false (drop n text))
members-step first [] m n there going is some = absurd (omega arith)
members-step first (b ∷ text) m n there going is some = rw (going, is) (members-step_at m n b text some)

-- a set with a member that doesn't read, or without its end
members-bad : (first : Bool) (text : List ℕ) → (is_close (get_or text 0 0) && not first) ≡ false → member_at text ≡ None → members_behind 0 first text ≡ None
members-bad first [] going is = refl
members-bad first (b ∷ text) going is = rw (going, is) refl

members-close : (text : List ℕ) → 0 < length text → get_or text 0 0 ≡ 93 → members_behind 0 false text ≡ Some ([], 1)
members-close [] there is = absurd (omega arith)
members-close (b ∷ text) there is = rw is refl

-- what was found so far, and what the rest of the set says
abbrev pub joined : Bool → ℕ → Option (Bool × ℕ) → Option (Bool × ℕ)
joined found n None = None
joined found n (Some rest) = Some (found || rest.0, n + rest.1)

or-assoc : (a b c : Bool) → ((a || b) || c) ≡ (a || (b || c))
or-assoc true b c = refl
or-assoc false b c = refl

or-false : (a : Bool) → (a || false) ≡ a
or-false true = refl
or-false false = refl

seen-behind : (byte : ℕ) (found : Bool) (place n : ℕ) (m : Member) (r : Read) → joined found place (seen byte (behind n (m ∷ []) r)) ≡ joined (found || has m byte) (place + n) (seen byte r)
seen-behind byte found place n m None = refl
seen-behind byte found place n m (Some set) =
    let size : place + (n + set.1) ≡ (place + n) + set.1 = omega arith in
    rw (or-assoc found (has m byte) (is_member set.0 byte), size) refl

-- what holds before each member
pub record IsReading (byte : ℕ) (text : List ℕ) (found : Bool) (place : ℕ) : Type 0 where
  pub within : place ≤ length text
  pub same : seen byte (members_behind 0 true text) ≡ joined found place (seen byte (members_behind 0 (eqb place 0) (drop place text)))

joined-none : (r : Option (Bool × ℕ)) → joined false 0 r ≡ r
joined-none None = refl
joined-none (Some x) = let size : 0 + x.1 ≡ x.1 = omega arith in rw size refl

pub starts : (byte : ℕ) (text : List ℕ) → IsReading byte text false 0
starts byte text = record { within = omega arith; same = sym (joined-none (seen byte (members_behind 0 true text))) }

open-at : (place b : ℕ) → (0 < place → b ≡ 93 → ⊥) → (is_close b && not (eqb place 0)) ≡ false
open-at zero b other = elim (is_close b) as (λ c. (c && false) ≡ false) [ true ↦ refl | false ↦ refl ]
open-at (suc n) b other = let no : is_close b ≡ false = ne_eqb b 93 (other (omega arith)) in rw no refl

pub goes_on : (byte : ℕ) (text rest : List ℕ) (found : Bool) (place : ℕ) (m : Member) (n : ℕ) → IsReading byte text found place → rest ≡ drop place text → 0 < length rest
    → (0 < place → get_or rest 0 0 ≡ 93 → ⊥) → member_at rest ≡ Some (m, n) → 0 < n → n + place ≤ length text → IsReading byte text (found || has m byte) (place + n)
goes_on byte text rest found place m n so_far is there other reads some room =
    let later : eqb (place + n) 0 ≡ false = ne_eqb (place + n) 0 (λ same. absurd (omega arith)) in
    let after : drop n rest ≡ drop (place + n) text = ap (drop n) is ∙ drop-drop n place text in
    let step : members_behind 0 (eqb place 0) rest ≡ behind n (m ∷ []) (members_behind 0 false (drop n rest)) =
    members-step (eqb place 0) rest m n there (open-at place (get_or rest 0 0) other) reads some in
    record {
      within = omega arith;
      same = so_far.same
          ∙ ap (λ (xs : List ℕ). joined found place (seen byte (members_behind 0 (eqb place 0) xs))) (sym is)
          ∙ ap (λ (r : Read). joined found place (seen byte r)) step
          ∙ seen-behind byte found place n m (members_behind 0 false (drop n rest))
          ∙ ap (λ (xs : List ℕ). joined (found || has m byte) (place + n) (seen byte (members_behind 0 false xs))) after
          ∙ ap (λ (first : Bool). joined (found || has m byte) (place + n) (seen byte (members_behind 0 first (drop (place + n) text)))) (sym later);
    }

pub fails : (byte : ℕ) (text rest : List ℕ) (found : Bool) (place : ℕ) → IsReading byte text found place → rest ≡ drop place text → (0 < place → get_or rest 0 0 ≡ 93 → ⊥) → member_at rest ≡ None
    → seen byte (members_behind 0 true text) ≡ None
fails byte text rest found place so_far is other reads =
    so_far.same
    ∙ ap (λ (xs : List ℕ). joined found place (seen byte (members_behind 0 (eqb place 0) xs))) (sym is)
    ∙ ap (λ (r : Read). joined found place (seen byte r)) (members-bad (eqb place 0) rest (open-at place (get_or rest 0 0) other) reads)

pub ends : (byte : ℕ) (text rest : List ℕ) (found : Bool) (place : ℕ) → IsReading byte text found place → rest ≡ drop place text → 0 < place → 0 < length rest → get_or rest 0 0 ≡ 93
    → seen byte (members_behind 0 true text) ≡ Some (found, place + 1)
ends byte text rest found place so_far is some there close =
    let later : eqb place 0 ≡ false = ne_eqb place 0 (λ same. absurd (omega arith)) in
    so_far.same
    ∙ ap (λ (first : Bool). joined found place (seen byte (members_behind 0 first (drop place text)))) later
    ∙ ap (λ (xs : List ℕ). joined found place (seen byte (members_behind 0 false xs))) (sym is)
    ∙ ap (λ (r : Read). joined found place (seen byte r)) (members-close rest there close)
    ∙ ap (λ (c : Bool). Some (c, place + 1)) (or-false found)

pub closed : (text : List ℕ) (place : ℕ) → closes text place ≡ true → (0 < place) × (0 < length text) × (get_or text 0 0 ≡ 93)
closed text place h =
    let outer = and_parts (ltb 0 place && ltb 0 (length text)) (is_close (get_or text 0 0)) h in
    let inner = and_parts (ltb 0 place) (ltb 0 (length text)) outer.0 in
    (ltb-true 0 place inner.0, ltb-true 0 (length text) inner.1, eqb-true (get_or text 0 0) 93 outer.1)

pub not-closed : (text : List ℕ) (place : ℕ) → closes text place ≡ false → 0 < place → get_or text 0 0 ≡ 93 → ⊥
not-closed [] place h some is = absurd (omega arith)
not-closed (b ∷ text) place h some is =
    both_ways (closes (b ∷ text) place) h
    (and_from (ltb 0 place && ltb 0 (length (b ∷ text))) (is_close b) (and_from (ltb 0 place) (ltb 0 (length (b ∷ text))) (lt-ltb 0 place some) (lt-ltb 0 (length (b ∷ text)) (omega arith))) (eq-eqb b 93 is))

-- what was found, one member later
pub now-found : (found now hit : Bool) → (found ≡ true → now ≡ true) → (found ≡ false → now ≡ hit) → now ≡ (found || hit)
now-found true now hit there none = there refl
now-found false now hit there none = none refl

-- the first `]` is nearer from a later place
close-drop_at : (c : Bool) (d n m : ℕ) → suc d ≤ cond (not c) (1 + n) 0 → (d ≤ n → m + d ≡ n) → m + suc d ≡ cond (not c) (1 + n) 0
close-drop_at true d n m le later = absurd (omega arith)
close-drop_at false d n m le later = omega (arith, later (omega arith))

close-drop : (d : ℕ) (text : List ℕ) → d ≤ position_or_len is_close text → position_or_len is_close (drop d text) + d ≡ position_or_len is_close text
close-drop zero text le = omega arith
close-drop (suc d) [] le = absurd (omega arith)
close-drop (suc d) (b ∷ text) le = close-drop_at (is_close b) d (position_or_len is_close text) (position_or_len is_close (drop d text)) le (close-drop d text)

pub close-later : (text : List ℕ) (start known n : ℕ) → IsClose text start known → IsClose text (start + n) known
close-later text start known n is far =
    let here : known ≡ start + position_or_len is_close (drop start text) = is (omega arith) in
    let room : n ≤ position_or_len is_close (drop start text) = omega arith in
    omega (arith, here, close-drop n (drop start text) room, ap (λ (u : List ℕ). position_or_len is_close u) (drop-drop n start text))

none-close : (c : Bool) (n : ℕ) → None ≡ cond c (Some n) None → c ≡ false
none-close true n is = absurd (cc)
none-close false n is = refl

some-close : (c : Bool) (n k : ℕ) → Some k ≡ cond c (Some n) None → k ≡ n
some-close true n k is = cc
some-close false n k is = absurd (cc)

pub close-none : (text : List ℕ) → None ≡ position is_close text → length text ≡ position_or_len is_close text
close-none text is =
    let over = ltb-false (position_or_len is_close text) (length text) (none-close (ltb (position_or_len is_close text) (length text)) (position_or_len is_close text) is) in
    omega (arith, over, prefix_len-le-length (λ (b : ℕ). not (is_close b)) text)

pub close-some : (text : List ℕ) (k : ℕ) → Some k ≡ position is_close text → k ≡ position_or_len is_close text
close-some text k is = some-close (ltb (position_or_len is_close text) (length text)) (position_or_len is_close text) k is
