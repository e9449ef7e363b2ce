-- What is read as an entry or an extension has that spelling.
use Rattle.std.proofs.Common.{◌≡◌, ℕ, zero, suc, ◌+◌, ◌-◌, ◌*◌, ◌/◌, ◌%◌, ◌^◌, ◌<◌, ◌≤◌, min, Bool, true, false, not, cond, eqb, leb, List, [], ◌∷◌, ◌++◌, length, get_or, take, drop, replicate, Option, Some, None, Result, Ok, Err, refl, sym, ap, subst, ◌∙◌, append_assoc, arith, inl, inr}
use Rattle.std.specs.Prelude.{ok_or, position}
use Rattle.std.specs.List.{list_all, prefix_len}
use Rattle.std.specs.Int.{w16, w32, to_be_bytes, from_be_bytes}
use Rattle.std.proofs.lemmas.Bool.{leb-true, ltb-true, lt-ltb, le-ltb, and_parts, and_from, eqb-true, cases_lt}
use Rattle.std.proofs.lemmas.List.Folds.{list_all-append}
use Rattle.std.proofs.lemmas.List.{take-append-drop, take_at, drop_at, length-append, length-take, length-drop, drop-drop, get_or-drop, get_or-take, get_or_past}
use Rattle.std.proofs.lemmas.Nat.{be_bytes_2, be_bytes_4}
use Rattle.byte_path.specs.declared.path.PathFault.{PathFault}
use Rattle.byte_path.specs.Path.{path_fault}
use Rattle.git_index.specs.declared.entry.Entry.{Entry}
use Rattle.git_index.specs.declared.entry.Mode.{Mode}
use Rattle.git_index.specs.declared.entry.Mode.TheVariants.{Plain, Executable, Link, Gitlink}
use Rattle.git_index.specs.declared.fault.EntryKind.TheVariants.{Extended, Name, Padding}
use Rattle.git_index.specs.declared.fault.IndexFault.{IndexFault}
use Rattle.git_index.specs.declared.fault.IndexFault.TheVariants.{Short, Entry as BadEntry, Mode as BadMode}
use Rattle.git_index.specs.declared.fault.EntryKind.TheVariants.{ExtendedBits, Prefix}
use Rattle.git_index.specs.declared.version.Version.{Version}
use Rattle.git_index.specs.declared.version.Version.TheVariants.{Two, Three, Four}
use Rattle.git_index.specs.Spelling.{Written, IsWritten, IsChanged, IsCount, mode_number, padding, flags, bit, more, more_flags, head_length, path_part, spelled, is_nul, is_not_nul}
use Rattle.git_index.specs.Reading.{◌>>=◌, want, length_at, sized_at, path_at, count_at, added_at, changed_at, prefixed_at, part_at, mode_at, want_path, made_at, is_known, is_two, extended_at, more_at, headed_at, flagged_at, entry_at}
use Rattle.git_index.proofs.Ordered.{want_ok, ok_is}

abbrev pub IsBytes : List ℕ → Type 0
IsBytes bytes = (i : ℕ) → get_or bytes i 0 < 256

pub IsBytes-drop : (n : ℕ) (bytes : List ℕ) → IsBytes bytes → IsBytes (drop n bytes)
IsBytes-drop n bytes h i = rw get_or-drop (h (n + i))

pub IsBytes-take : (n : ℕ) (bytes : List ℕ) → IsBytes bytes → IsBytes (take n bytes)
IsBytes-take n bytes h i =
    elim (cases_lt i n) [
      | inl lt ↦ rw (get_or-take n bytes i 0 lt) (h i)
      | inr le ↦ rw (get_or_past (take n bytes) i 0 (omega (arith, length-take n bytes))) (omega arith)
    ]

IsBytes-rest : (bytes text rest : List ℕ) → bytes ≡ text ++ rest → IsBytes bytes → IsBytes rest
IsBytes-rest bytes text rest e fits =
    subst IsBytes (ap (drop (length text)) e ∙ drop_at text rest (length text) refl) (IsBytes-drop (length text) bytes fits)

-- the value of a step that did not fail
pub bind_ok : {A B : Type 0} (r : Result A IndexFault) (f : A → Result B IndexFault) (y : B) → (r >>= f) ≡ Ok y → (x : A) × (r ≡ Ok x) × (f x ≡ Ok y)
bind_ok (Ok x) f y e = (x, refl, e)
bind_ok (Err d) f y e = absurd cc

pub some_of : {A : Type 0} (o : Option A) (f : IndexFault) (x : A) → ok_or {E = IndexFault} o f ≡ Ok x → o ≡ Some x
some_of None f x e = absurd cc
some_of (Some y) f x e = let same : y ≡ x = cc in ap (λ (z : _). Some z) same

some_is : (x y : ℕ) → Some x ≡ Some y → x ≡ y
some_is x y e = cc

zeros : (xs : List ℕ) → list_all is_nul xs ≡ true → xs ≡ replicate (length xs) 0
zeros [] e = refl
zeros (x ∷ xs) e =
    let p = and_parts (eqb x 0) (list_all is_nul xs) e in
    let first : x ≡ 0 = eqb-true x 0 p.0 in
    let rest : xs ≡ replicate (length xs) 0 = zeros xs p.1 in
    ap (λ (y : ℕ). y ∷ xs) first ∙ ap (λ (ys : List ℕ). 0 ∷ ys) rest

told_length : (told n : ℕ) (tail : List ℕ) → told < 4096 → length_at told tail ≡ Some n → told ≤ n → told ≡ min n 4095
told_length told n tail small e le =
    elim (cases_lt told 4095) [
      | inl lt ↦
          let same : told ≡ n = some_is told n (sym (rw (lt-ltb told 4095 lt) refl) ∙ e) in omega arith
      | inr ge ↦ omega arith
    ]

-- a path and its padding
pub record TakesPath (head told : ℕ) (tail path rest : List ℕ) : Type 0 where
  pub parts : tail ≡ path ++ (replicate (padding (head + length path)) 0 ++ rest)
  pub told_is : told ≡ min (length path) 4095
  pub no_nul : list_all is_not_nul path ≡ true

sized_takes : (k head told n : ℕ) (tail : List ℕ) (x : List ℕ × List ℕ) → sized_at k head told n tail ≡ Ok x
    → (told ≤ n) × (length x.0 ≡ n) × (tail ≡ x.0 ++ (replicate (padding (head + n)) 0 ++ x.1)) × (list_all is_not_nul x.0 ≡ true)
unfolding sized_at
sized_takes k head told n tail x e =
    let made : List ℕ × List ℕ = (take n tail, drop (padding (head + n)) (drop n tail)) in
    let r3 : Result (List ℕ × List ℕ) IndexFault = want (list_all is_nul (take (padding (head + n)) (drop n tail))) (BadEntry k Padding) (Ok made) in
    let r2 : Result (List ℕ × List ℕ) IndexFault = want (list_all is_not_nul (take n tail)) (BadEntry k Name) r3 in
    let r1 : Result (List ℕ × List ℕ) IndexFault = want (leb told n) (BadEntry k Name) r2 in
    let a = want_ok (leb (n + padding (head + n)) (length tail)) Short r1 x e in
    let b = want_ok (leb told n) (BadEntry k Name) r2 x a.1 in
    let c = want_ok (list_all is_not_nul (take n tail)) (BadEntry k Name) r3 x b.1 in
    let d = want_ok (list_all is_nul (take (padding (head + n)) (drop n tail))) (BadEntry k Padding) (Ok made) x c.1 in
    let long : n + padding (head + n) ≤ length tail = leb-true (n + padding (head + n)) (length tail) a.0 in
    let size : length (take (padding (head + n)) (drop n tail)) ≡ padding (head + n) = omega (arith, length-take (padding (head + n)) (drop n tail), length-drop n tail) in
    let zero_part : take (padding (head + n)) (drop n tail) ≡ replicate (padding (head + n)) 0 = zeros _ d.0 ∙ ap (λ (k : ℕ). replicate k 0) size in
    let whole : tail ≡ take n tail ++ (replicate (padding (head + n)) 0 ++ drop (padding (head + n)) (drop n tail)) =
    sym (take-append-drop n tail) ∙ ap (λ (r : List ℕ). take n tail ++ r) (sym (take-append-drop (padding (head + n)) (drop n tail)) ∙ ap (λ (r : List ℕ). r ++ drop (padding (head + n)) (drop n tail)) zero_part) in
    subst (λ (y : List ℕ × List ℕ). (told ≤ n) × (length y.0 ≡ n) × (tail ≡ y.0 ++ (replicate (padding (head + n)) 0 ++ y.1)) × (list_all is_not_nul y.0 ≡ true)) (ok_is made x d.1)
    (leb-true told n b.0, omega (arith, length-take n tail), whole, c.0)

path_takes : (k head told : ℕ) (tail path rest : List ℕ) → told < 4096 → path_at k head told tail ≡ Ok (path, rest) → TakesPath head told tail path rest
unfolding path_at
path_takes k head told tail path rest small e =
    let a = bind_ok (ok_or (length_at told tail) Short) (λ n. sized_at k head told n tail) (path, rest) e in
    let b = sized_takes k head told a.0 tail (path, rest) a.2 in
    let at : length_at told tail ≡ Some a.0 = some_of (length_at told tail) Short a.0 a.1 in
    record {
      parts = rw b.1 b.2;
      told_is = rw b.1 (told_length told a.0 tail small at b.0);
      no_nul = b.3;
    }

-- a number in bytes of seven bits
record TakesCount (carry : ℕ) (bytes : List ℕ) (n : ℕ) (rest : List ℕ) : Type 0 where
  pub count : List ℕ
  pub is : IsCount carry count n
  pub parts : bytes ≡ count ++ rest

one_byte_more : (carry b n : ℕ) (bs rest : List ℕ) (cs : List ℕ) → 128 ≤ b → b < 256 → IsCount (carry * 128 + (b - 128) + 1) cs n → bs ≡ cs ++ rest → TakesCount carry (b ∷ bs) n rest
one_byte_more carry b n bs rest [] le lt is parts = absurd is
one_byte_more carry b n bs rest (c ∷ cs) le lt is parts = record { count = b ∷ c ∷ cs; is = (le, lt, is); parts = ap (λ (r : List ℕ). b ∷ r) parts }

some_pair : (x y : ℕ × List ℕ) → Some x ≡ Some y → x ≡ y
some_pair x y e = cc

count_takes : (carry : ℕ) (bytes : List ℕ) (x : ℕ × List ℕ) → IsBytes bytes → count_at carry bytes ≡ Some x → TakesCount carry bytes x.0 x.1
count_takes carry [] x fits e = absurd cc
count_takes carry (b ∷ bs) x fits e =
    elim (cases_lt b 128) [
      | inl lt ↦
          let same : (carry * 128 + b, bs) ≡ x = some_pair _ x (sym (rw (lt-ltb b 128 lt) refl) ∙ e) in
          subst (λ (y : ℕ × List ℕ). TakesCount carry (b ∷ bs) y.0 y.1) same record { count = b ∷ []; is = (lt, refl); parts = refl }
      | inr ge ↦
          let r = count_takes (carry * 128 + (b - 128) + 1) bs x (λ i. fits (suc i)) (sym (rw (le-ltb b 128 ge) refl) ∙ e) in
          one_byte_more carry b x.0 bs x.1 r.count ge (fits 0) r.is r.parts
    ]

-- what stands up to the first NUL
record NulAt (bytes : List ℕ) (n : ℕ) : Type 0 where
  pub front : List ℕ
  pub after : List ℕ
  pub parts : bytes ≡ front ++ 0 ∷ after
  pub size : length front ≡ n
  pub good : list_all is_not_nul front ≡ true

abbrev not_nul_len : List ℕ → ℕ
not_nul_len bytes = prefix_len (λ x. not (is_nul x)) bytes

nul_behind : (x : ℕ) (xs : List ℕ) (b : Bool) → eqb x 0 ≡ b → (not_nul_len xs < length xs → NulAt xs (not_nul_len xs)) → not_nul_len (x ∷ xs) < length (x ∷ xs) → NulAt (x ∷ xs) (not_nul_len (x ∷ xs))
nul_behind x xs true is others lt = rw is record { front = []; after = xs; parts = ap (λ (y : ℕ). y ∷ xs) (eqb-true x 0 is); size = refl; good = refl }
nul_behind x xs false is others lt =
    let less = rw is at lt in
    let r = others (omega arith) in
    rw is record {
      front = x ∷ r.front;
      after = r.after;
      parts = ap (λ (ys : List ℕ). x ∷ ys) r.parts;
      size = omega (arith, r.size);
      good = and_from (not (eqb x 0)) (list_all is_not_nul r.front) (ap not is) r.good;
    }

nul_first : (xs : List ℕ) → not_nul_len xs < length xs → NulAt xs (not_nul_len xs)
nul_first [] lt = absurd (omega arith)
nul_first (x ∷ xs) lt = nul_behind x xs (eqb x 0) refl (nul_first xs) lt

nul_takes : (xs : List ℕ) (n : ℕ) → position is_nul xs ≡ Some n → NulAt xs n
nul_takes xs n e =
    elim (cases_lt (not_nul_len xs) (length xs)) [
      | inl lt ↦ subst (NulAt xs) (some_is (not_nul_len xs) n (sym (rw (lt-ltb _ _ lt) refl) ∙ e)) (nul_first xs lt)
      | inr ge ↦ let none : None ≡ Some n = sym (rw (le-ltb _ _ ge) refl) ∙ e in absurd cc
    ]

-- the path's part: what any entry with this path and this number spells
pub record TakesPart (version : Version) (head : ℕ) (last : List ℕ) (told : ℕ) (tail path rest : List ℕ) : Type 0 where
  pub cut : ℕ
  pub count : List ℕ
  pub parts : (w : Written) → w.entry.path ≡ path → w.cut ≡ cut → w.count ≡ count → head ≡ head_length w.extended → tail ≡ path_part version last w ++ rest
  pub told_is : told ≡ min (length path) 4095
  pub no_nul : list_all is_not_nul path ≡ true
  pub changed : (w : Written) → w.entry.path ≡ path → w.cut ≡ cut → w.count ≡ count → version ≡ Four → IsChanged last w

whole_parts : (head : ℕ) (tail path rest : List ℕ) (x : Bool) (p : List ℕ) → tail ≡ path ++ (replicate (padding (head + length path)) 0 ++ rest) → p ≡ path → head ≡ head_length x
    → tail ≡ (p ++ replicate (padding (head_length x + length p)) 0) ++ rest
whole_parts head tail path rest x p parts ep eh = parts ∙ (rw (sym ep, eh) (sym (append_assoc p (replicate (padding (head_length x + length p)) 0) rest)))

all_kept : (n : ℕ) (p : List ℕ) → list_all is_not_nul p ≡ true → list_all is_not_nul (take n p) ≡ true
all_kept zero p h = refl
all_kept (suc n) [] h = refl
all_kept (suc n) (x ∷ p) h = let a = and_parts (is_not_nul x) (list_all is_not_nul p) h in and_from _ _ a.0 (all_kept n p a.1)

-- a path that is spelled by what it changes
record TakesChanged (last : List ℕ) (told : ℕ) (tail path rest : List ℕ) : Type 0 where
  pub cut : ℕ
  pub count : List ℕ
  pub is : IsCount 0 count cut
  pub within : cut ≤ length last
  pub same : take (length last - cut) path ≡ take (length last - cut) last
  pub told_is : told ≡ min (length path) 4095
  pub no_nul : list_all is_not_nul path ≡ true
  pub parts : tail ≡ count ++ (drop (length last - cut) path ++ 0 ∷ rest)

changed_takes : (k told : ℕ) (last tail : List ℕ) (x : List ℕ × List ℕ) → IsBytes tail → list_all is_not_nul last ≡ true → prefixed_at k told last tail ≡ Ok x → TakesChanged last told tail x.0 x.1
unfolding prefixed_at changed_at added_at
changed_takes k told last tail x fits good e =
    let a = bind_ok (ok_or (count_at 0 tail) Short) (changed_at k told last) x e in
    let counted = count_takes 0 tail a.0 fits (some_of (count_at 0 tail) Short a.0 a.1) in
    let n : ℕ = length last - a.0.0 in
    let kept : List ℕ = take n last in
    let b = want_ok (leb a.0.0 (length last)) (BadEntry k Prefix) (ok_or (position is_nul a.0.1) Short >>= λ m. added_at k told kept m a.0.1) x a.2 in
    let c = bind_ok (ok_or (position is_nul a.0.1) Short) (λ m. added_at k told kept m a.0.1) x b.1 in
    let nul = nul_takes a.0.1 c.0 (some_of (position is_nul a.0.1) Short c.0 c.1) in
    let d = want_ok (eqb told (min (length kept + c.0) 4095)) (BadEntry k Name) (Ok (kept ++ take c.0 a.0.1, drop (c.0 + 1) a.0.1)) x c.2 in
    let within : a.0.0 ≤ length last = leb-true _ _ b.0 in
    let kept_len : length kept ≡ n = omega (arith, length-take n last) in
    let front_is : take c.0 a.0.1 ≡ nul.front = ap (take c.0) nul.parts ∙ take_at nul.front (0 ∷ nul.after) c.0 nul.size in
    let after_is : drop (c.0 + 1) a.0.1 ≡ nul.after = sym (drop-drop 1 c.0 a.0.1) ∙ ap (drop 1) (ap (drop c.0) nul.parts ∙ drop_at nul.front (0 ∷ nul.after) c.0 nul.size) in
    let made : List ℕ × List ℕ = (kept ++ nul.front, nul.after) in
    let is : made ≡ x = (λ i. (kept ++ sym front_is i, sym after_is i)) ∙ ok_is _ x d.1 in
    let all : list_all is_not_nul (kept ++ nul.front) ≡ true = list_all-append is_not_nul kept nul.front ∙ and_from _ _ (all_kept n last good) nul.good in
    let size : length (kept ++ nul.front) ≡ length kept + c.0 = length-append kept nul.front ∙ ap (λ (m : ℕ). length kept + m) nul.size in
    let taken : TakesChanged last told tail (kept ++ nul.front) nul.after = record {
      cut = a.0.0;
      count = counted.count;
      is = counted.is;
      within = within;
      same = take_at kept nul.front n kept_len;
      told_is = eqb-true _ _ d.0 ∙ ap (λ (m : ℕ). min m 4095) (sym size);
      no_nul = all;
      parts = counted.parts ∙ ap (λ (r : List ℕ). counted.count ++ r) (nul.parts ∙ ap (λ (r : List ℕ). r ++ 0 ∷ nul.after) (sym (drop_at kept nul.front n kept_len)));
    } in
    subst (λ (y : List ℕ × List ℕ). TakesChanged last told tail y.0 y.1) is taken

whole_part : (version : Version) (head : ℕ) (last : List ℕ) (told : ℕ) (tail path rest : List ℕ) → ((w : Written) → path_part version last w ≡ w.entry.path ++ replicate (padding (head_length w.extended + length w.entry.path)) 0) → (version ≡ Four → ⊥) → TakesPath head told tail path rest → TakesPart version head last told tail path rest
whole_part version head last told tail path rest spells never p = record {
  cut = 0;
  count = [];
  parts = λ w ep ec en eh. whole_parts head tail path rest w.extended w.entry.path p.parts ep eh ∙ ap (λ (r : List ℕ). r ++ rest) (sym (spells w));
  told_is = p.told_is;
  no_nul = p.no_nul;
  changed = λ w ep ec en four. absurd (never four);
}

pub part_takes : (version : Version) (k head : ℕ) (last : List ℕ) (told : ℕ) (tail : List ℕ) (x : List ℕ × List ℕ) → IsBytes tail → list_all is_not_nul last ≡ true → told < 4096 → part_at version k head last told tail ≡ Ok x → TakesPart version head last told tail x.0 x.1
part_takes Two k head last told tail x fits good small e = whole_part Two head last told tail x.0 x.1 (λ w. refl) (λ four. cc) (path_takes k head told tail x.0 x.1 small e)
part_takes Three k head last told tail x fits good small e = whole_part Three head last told tail x.0 x.1 (λ w. refl) (λ four. cc) (path_takes k head told tail x.0 x.1 small e)
part_takes Four k head last told tail x fits good small e =
    let p = changed_takes k told last tail x fits good e in record {
      cut = p.cut;
      count = p.count;
      parts = λ w ep ec en eh.
          let text : p.count ++ (drop (length last - p.cut) x.0 ++ 0 ∷ x.1) ≡ w.count ++ (drop (length last - w.cut) w.entry.path ++ 0 ∷ x.1) = λ i. sym en i ++ (drop (length last - sym ec i) (sym ep i) ++ 0 ∷ x.1) in
          p.parts ∙ text ∙ sym (append_assoc w.count (drop (length last - w.cut) w.entry.path ++ 0 ∷ []) x.1 ∙ ap (λ (r : List ℕ). w.count ++ r) (append_assoc (drop (length last - w.cut) w.entry.path) (0 ∷ []) x.1));
      told_is = p.told_is;
      no_nul = p.no_nul;
      changed = λ w ep ec en four. record {
        count = subst (λ (z : List ℕ × ℕ). IsCount 0 z.0 z.1) (λ i. (sym en i, sym ec i)) p.is;
        within = subst (λ (n : ℕ). n ≤ length last) (sym ec) p.within;
        same = subst (λ (z : ℕ × List ℕ). take (length last - z.0) z.1 ≡ take (length last - z.0) last) (λ i. (sym ec i, sym ep i)) p.same;
      };
    }

mode_takes : (n : ℕ) (m : Mode) → mode_at n ≡ Some m → n ≡ mode_number m
mode_takes n m e =
    elim (eqb n 0x81A4) as (λ b. eqb n 0x81A4 ≡ b → cond b (Some Plain) (cond (eqb n 0x81ED) (Some Executable) (cond (eqb n 0xA000) (Some Link) (cond (eqb n 0xE000) (Some Gitlink) None))) ≡ Some m → n ≡ mode_number m) [
      | true ↦ λ is h. let same : Plain ≡ m = cc in eqb-true n 0x81A4 is ∙ ap mode_number same
      | false ↦ λ not_plain. elim (eqb n 0x81ED) as (λ b. eqb n 0x81ED ≡ b → cond b (Some Executable) (cond (eqb n 0xA000) (Some Link) (cond (eqb n 0xE000) (Some Gitlink) None)) ≡ Some m → n ≡ mode_number m) [
        | true ↦ λ is h. let same : Executable ≡ m = cc in eqb-true n 0x81ED is ∙ ap mode_number same
        | false ↦ λ not_executable. elim (eqb n 0xA000) as (λ b. eqb n 0xA000 ≡ b → cond b (Some Link) (cond (eqb n 0xE000) (Some Gitlink) None) ≡ Some m → n ≡ mode_number m) [
          | true ↦ λ is h. let same : Link ≡ m = cc in eqb-true n 0xA000 is ∙ ap mode_number same
          | false ↦ λ not_link. elim (eqb n 0xE000) as (λ b. eqb n 0xE000 ≡ b → cond b (Some Gitlink) None ≡ Some m → n ≡ mode_number m) [
            | true ↦ λ is h. let same : Gitlink ≡ m = cc in eqb-true n 0xE000 is ∙ ap mode_number same
            | false ↦ λ not_gitlink h. absurd cc
          ] refl
        ] refl
      ] refl
    ] refl e

-- an entry's fixed part, cut into its fields
head_parts : (bytes : List ℕ) → bytes ≡ take 24 bytes ++ (take 4 (drop 24 bytes) ++ (take 12 (drop 28 bytes) ++ (take 20 (drop 40 bytes) ++ (take 2 (drop 60 bytes) ++ drop 62 bytes))))
head_parts bytes =
    let a = sym (take-append-drop 24 bytes) in
    let b : drop 24 bytes ≡ take 4 (drop 24 bytes) ++ drop 28 bytes = sym (take-append-drop 4 (drop 24 bytes)) ∙ ap (λ (r : List ℕ). take 4 (drop 24 bytes) ++ r) (drop-drop 4 24 bytes) in
    let c : drop 28 bytes ≡ take 12 (drop 28 bytes) ++ drop 40 bytes = sym (take-append-drop 12 (drop 28 bytes)) ∙ ap (λ (r : List ℕ). take 12 (drop 28 bytes) ++ r) (drop-drop 12 28 bytes) in
    let d : drop 40 bytes ≡ take 20 (drop 40 bytes) ++ drop 60 bytes = sym (take-append-drop 20 (drop 40 bytes)) ∙ ap (λ (r : List ℕ). take 20 (drop 40 bytes) ++ r) (drop-drop 20 40 bytes) in
    let f : drop 60 bytes ≡ take 2 (drop 60 bytes) ++ drop 62 bytes = sym (take-append-drop 2 (drop 60 bytes)) ∙ ap (λ (r : List ℕ). take 2 (drop 60 bytes) ++ r) (drop-drop 2 60 bytes) in
    a ∙ ap (λ (r : List ℕ). take 24 bytes ++ r) (b ∙ ap (λ (r : List ℕ). take 4 (drop 24 bytes) ++ r) (c ∙ ap (λ (r : List ℕ). take 12 (drop 28 bytes) ++ r) (d ∙ ap (λ (r : List ℕ). take 20 (drop 40 bytes) ++ r) f)))

-- what the fixed part says of the entry
record TakesMade (fl bits : ℕ) (bytes path : List ℕ) (e : Entry) : Type 0 where
  pub same_path : e.path ≡ path
  pub stage : e.stage ≡ fl / 2 ^ 12 % 4
  pub mode : from_be_bytes w32 (take 4 (drop 24 bytes)) ≡ mode_number e.mode
  pub name : e.name ≡ take 20 (drop 40 bytes)
  pub sparse : e.sparse ≡ eqb (bits / 2 ^ 14 % 2) 1
  pub intent : e.intent ≡ eqb (bits / 2 ^ 13 % 2) 1
  pub good : path_fault path ≡ None

want_path_ok : {A : Type 0} (k : ℕ) (o : Option PathFault) (r : Result A IndexFault) (y : A) → want_path k o r ≡ Ok y → (o ≡ None) × (r ≡ Ok y)
want_path_ok k None r y e = (refl, e)
want_path_ok k (Some f) r y e = absurd cc

made_takes : (k fl bits : ℕ) (bytes path : List ℕ) (y : Entry) → made_at k fl bits bytes path ≡ Ok y → TakesMade fl bits bytes path y
unfolding made_at
made_takes k fl bits bytes path y e =
    let number : ℕ = from_be_bytes w32 (take 4 (drop 24 bytes)) in
    let a = bind_ok (ok_or (mode_at number) (BadMode k)) (λ m. want_path k (path_fault path) (Ok record { path = path; stage = fl / 2 ^ 12 % 4; mode = m; name = take 20 (drop 40 bytes); sparse = eqb (bits / 2 ^ 14 % 2) 1; intent = eqb (bits / 2 ^ 13 % 2) 1 })) y e in
    let made : Entry = record { path = path; stage = fl / 2 ^ 12 % 4; mode = a.0; name = take 20 (drop 40 bytes); sparse = eqb (bits / 2 ^ 14 % 2) 1; intent = eqb (bits / 2 ^ 13 % 2) 1 } in
    let b = want_path_ok k (path_fault path) (Ok made) y a.2 in
    let mode : number ≡ mode_number a.0 = mode_takes number a.0 (some_of (mode_at number) (BadMode k) a.0 a.1) in
    let taken : TakesMade fl bits bytes path made = record { same_path = refl; stage = refl; mode = mode; name = refl; sparse = refl; intent = refl; good = b.0 } in
    subst (TakesMade fl bits bytes path) (ok_is made y b.1) taken

bit_takes : (n : ℕ) → n < 2 → n ≡ bit (eqb n 1)
bit_takes zero small = refl
bit_takes (suc zero) small = refl
bit_takes (suc (suc n)) small = absurd (omega arith)

-- 16 more bits of which only those are set that mean something
known_takes : (m : ℕ) → is_known m ≡ true → m ≡ bit (eqb (m / 2 ^ 14 % 2) 1) * 2 ^ 14 + bit (eqb (m / 2 ^ 13 % 2) 1) * 2 ^ 13
known_takes m known =
    let p = and_parts _ _ known in
    let small : m < 2 ^ 15 = ltb-true _ _ p.0 in
    let low : m % 2 ^ 13 ≡ 0 = eqb-true _ _ p.1 in
    let s = bit_takes (m / 2 ^ 14 % 2) (omega arith) in
    let i = bit_takes (m / 2 ^ 13 % 2) (omega arith) in
    rw (sym s, sym i) (omega arith)

-- the fixed part
record TakesHead (version : Version) (fl : ℕ) (bytes : List ℕ) (head bits : ℕ) : Type 0 where
  pub extended : Bool
  pub head_is : head ≡ head_length extended
  pub flag : fl % 2 ^ 15 / 2 ^ 14 ≡ bit extended
  pub two : version ≡ Two → extended ≡ false
  pub none : extended ≡ false → bits ≡ 0
  pub text : (e : Entry) → e.sparse ≡ eqb (bits / 2 ^ 14 % 2) 1 → e.intent ≡ eqb (bits / 2 ^ 13 % 2) 1 → drop 62 bytes ≡ more extended e ++ drop head bytes

extended_takes : (version : Version) (k fl : ℕ) (bytes : List ℕ) (x : ℕ × ℕ) → IsBytes bytes → 2 ^ 14 ≤ fl % 2 ^ 15 → (version ≡ Two → ⊥) → extended_at k bytes ≡ Ok x → TakesHead version fl bytes x.0 x.1
unfolding extended_at
extended_takes version k fl bytes x fits high never e =
    let two : List ℕ = take 2 (drop 62 bytes) in
    let m : ℕ = from_be_bytes w16 two in
    let a = want_ok (leb 64 (length bytes)) Short (want (is_known m) (BadEntry k ExtendedBits) (Ok (64, m))) x e in
    let b = want_ok (is_known m) (BadEntry k ExtendedBits) (Ok (64, m)) x a.1 in
    let long : 64 ≤ length bytes = leb-true _ _ a.0 in
    let two_len : length two ≡ 2 = omega (arith, length-take 2 (drop 62 bytes), length-drop 62 bytes) in
    let two_fits : IsBytes two = IsBytes-take 2 (drop 62 bytes) (IsBytes-drop 62 bytes fits) in
    let value = known_takes m b.0 in
    let taken : TakesHead version fl bytes 64 m = record {
      extended = true;
      head_is = refl;
      flag = omega arith;
      two = λ e. absurd (never e);
      none = λ e. absurd cc;
      text = λ y s i.
          let is : m ≡ more_flags y = value ∙ (λ j. bit (sym s j) * 2 ^ 14 + bit (sym i j) * 2 ^ 13) in
          sym (take-append-drop 2 (drop 62 bytes)) ∙ ap (λ (r : List ℕ). two ++ r) (drop-drop 2 62 bytes) ∙ ap (λ (r : List ℕ). r ++ drop 64 bytes) (sym (be_bytes_2 two (more_flags y) two_len two_fits (sym is)));
    } in
    subst (λ (y : ℕ × ℕ). TakesHead version fl bytes y.0 y.1) (ok_is (64, m) x b.1) taken

not_two_takes : (version : Version) → not (is_two version) ≡ true → version ≡ Two → ⊥
not_two_takes Two h e = cc
not_two_takes Three h e = cc
not_two_takes Four h e = cc

head_takes : (version : Version) (k fl : ℕ) (bytes : List ℕ) (x : ℕ × ℕ) → IsBytes bytes → more_at version k fl bytes ≡ Ok x → TakesHead version fl bytes x.0 x.1
unfolding more_at
head_takes version k fl bytes x fits e =
    elim (cases_lt (fl % 2 ^ 15) (2 ^ 14)) [
      | inl lt ↦
          let same : (62, 0) ≡ x = ok_is (62, 0) x (sym (rw (lt-ltb _ _ lt) refl) ∙ e) in
          subst (λ (y : ℕ × ℕ). TakesHead version fl bytes y.0 y.1) same record {
            extended = false;
            head_is = refl;
            flag = omega arith;
            two = λ e. refl;
            none = λ e. refl;
            text = λ y s i. refl;
          }
      | inr ge ↦
          let a = want_ok (not (is_two version)) (BadEntry k Extended) (extended_at k bytes) x (sym (rw (le-ltb _ _ ge) refl) ∙ e) in
          extended_takes version k fl bytes x fits ge (not_two_takes version a.0) a.1
    ]

-- what is read as an entry
pub record TakesEntry (version : Version) (last bytes : List ℕ) (entry : Entry) (rest : List ℕ) : Type 0 where
  pub written : Written
  pub same : written.entry ≡ entry
  pub fits : IsWritten version last written
  pub parts : bytes ≡ spelled version last written ++ rest
  pub rest_fits : IsBytes rest

flags_split : (f told stage : ℕ) → told ≡ f % 2 ^ 12 → stage ≡ f / 2 ^ 12 % 4 → f ≡ (f / 2 ^ 15) * 2 ^ 15 + f % 2 ^ 15 / 2 ^ 14 * 2 ^ 14 + stage * 2 ^ 12 + told
flags_split f told stage is st = omega arith

joined : (b m m' a n n' f f' t x p r : List ℕ) → m ≡ m' → n ≡ n' → f ≡ f' → t ≡ x ++ (p ++ r)
    → b ++ (m ++ (a ++ (n ++ (f ++ t)))) ≡ (b ++ m' ++ a ++ n' ++ f' ++ x ++ p) ++ r
joined b m m' a n n' f f' t x p r em en ef et = rw (em, en, ef, et) (simp append_assoc)

marks_none : (x : Bool) (e : Entry) (bits : ℕ) → (x ≡ false → bits ≡ 0) → e.sparse ≡ eqb (bits / 2 ^ 14 % 2) 1 → e.intent ≡ eqb (bits / 2 ^ 13 % 2) 1 → x ≡ false → (e.sparse ≡ false) × (e.intent ≡ false)
marks_none x e bits none s i is = let z : bits ≡ 0 = none is in (s ∙ ap (λ (n : ℕ). eqb (n / 2 ^ 14 % 2) 1) z, i ∙ ap (λ (n : ℕ). eqb (n / 2 ^ 13 % 2) 1) z)

pub entry_takes : (version : Version) (k : ℕ) (last bytes : List ℕ) (e : Entry) (rest : List ℕ) → IsBytes bytes → list_all is_not_nul last ≡ true → entry_at version k last bytes ≡ Ok (e, rest) → TakesEntry version last bytes e rest
unfolding entry_at flagged_at headed_at
entry_takes version k last bytes e rest fits good is =
    let two : List ℕ = take 2 (drop 60 bytes) in
    let fl : ℕ = from_be_bytes w16 two in
    let a = want_ok (leb 62 (length bytes)) Short (flagged_at version k last fl bytes) (e, rest) is in
    let b = bind_ok (more_at version k fl bytes) (λ head. headed_at version k last fl head bytes) (e, rest) a.1 in
    let c = bind_ok (part_at version k b.0.0 last (fl % 2 ^ 12) (drop b.0.0 bytes)) (λ x. made_at k fl b.0.1 bytes x.0 >>= λ y. Ok (y, x.1)) (e, rest) b.2 in
    let d = bind_ok (made_at k fl b.0.1 bytes c.0.0) (λ y. Ok (y, c.0.1)) (e, rest) c.2 in
    let last_is : (d.0, c.0.1) ≡ (e, rest) = ok_is _ _ d.2 in
    let e_is : d.0 ≡ e = ap (λ (z : Entry × List ℕ). z.0) last_is in
    let rest_is : c.0.1 ≡ rest = ap (λ (z : Entry × List ℕ). z.1) last_is in
    let h = head_takes version k fl bytes b.0 fits b.1 in
    let p = part_takes version k b.0.0 last (fl % 2 ^ 12) (drop b.0.0 bytes) c.0 (IsBytes-drop b.0.0 bytes fits) good (omega arith) c.1 in
    let m : TakesMade fl b.0.1 bytes c.0.0 e = subst (TakesMade fl b.0.1 bytes c.0.0) e_is (made_takes k fl b.0.1 bytes c.0.0 d.0 d.1) in
    let long : 62 ≤ length bytes = leb-true 62 (length bytes) a.0 in
    let w : Written = record { before = take 24 bytes; after = take 12 (drop 28 bytes); valid = fl / 2 ^ 15; extended = h.extended; cut = p.cut; count = p.count; entry = e } in
    let told_is : min (length e.path) 4095 ≡ fl % 2 ^ 12 = ap (λ (q : List ℕ). min (length q) 4095) m.same_path ∙ sym p.told_is in
    let flag : fl ≡ flags w = flags_split fl (min (length e.path) 4095) e.stage told_is m.stage ∙ ap (λ (n : ℕ). (fl / 2 ^ 15) * 2 ^ 15 + n * 2 ^ 14 + e.stage * 2 ^ 12 + min (length e.path) 4095) h.flag in
    let two_len : length two ≡ 2 = omega (arith, length-take 2 (drop 60 bytes), length-drop 60 bytes) in
    let two_fits : IsBytes two = IsBytes-take 2 (drop 60 bytes) (IsBytes-drop 60 bytes fits) in
    let two_is : two ≡ to_be_bytes w16 (flags w) = sym (be_bytes_2 two (flags w) two_len two_fits (sym flag)) in
    let small_fl : fl < 2 ^ 16 = omega (arith, two_fits 0, two_fits 1) in
    let four : List ℕ = take 4 (drop 24 bytes) in
    let four_len : length four ≡ 4 = omega (arith, length-take 4 (drop 24 bytes), length-drop 24 bytes) in
    let four_is : four ≡ to_be_bytes w32 (mode_number e.mode) = sym (be_bytes_4 four (mode_number e.mode) four_len (IsBytes-take 4 (drop 24 bytes) (IsBytes-drop 24 bytes fits)) (sym m.mode)) in
    let tail : drop 62 bytes ≡ more h.extended e ++ (path_part version last w ++ rest) = h.text e m.sparse m.intent ∙ ap (λ (r : List ℕ). more h.extended e ++ r) (p.parts w m.same_path refl refl h.head_is ∙ ap (λ (r : List ℕ). path_part version last w ++ r) rest_is) in
    let whole : bytes ≡ spelled version last w ++ rest = head_parts bytes ∙ joined (take 24 bytes) four (to_be_bytes w32 (mode_number e.mode)) (take 12 (drop 28 bytes)) (take 20 (drop 40 bytes)) e.name two (to_be_bytes w16 (flags w)) (drop 62 bytes) (more h.extended e) (path_part version last w) rest four_is (sym m.name) two_is tail in
    let written : IsWritten version last w = record {
      before = omega (arith, length-take 24 bytes);
      after = omega (arith, length-take 12 (drop 28 bytes), length-drop 28 bytes);
      name = ap (length {A = ℕ}) m.name ∙ omega (arith, length-take 20 (drop 40 bytes), length-drop 40 bytes);
      valid = omega (arith, small_fl);
      stage = omega (arith, m.stage);
      path = ap path_fault m.same_path ∙ m.good;
      no_nul = ap (list_all is_not_nul) m.same_path ∙ p.no_nul;
      bits = h.two;
      none = marks_none h.extended e b.0.1 h.none m.sparse m.intent;
      changed = p.changed w m.same_path refl refl;
    } in
    record { written = w; same = refl; fits = written; parts = whole; rest_fits = IsBytes-rest bytes (spelled version last w) rest whole fits }
