-- What is read as an entry has that spelling.
use Rattle.std.proofs.Common.{◌≡◌, ℕ, suc, ◌+◌, ◌<◌, ◌≤◌, Bool, true, false, not, cond, eqb, leb, List, [], ◌∷◌, ◌++◌, length, take, drop, Option, Some, None, Result, Ok, Err, refl, sym, ap, subst, ◌∙◌, append_assoc, arith, inl, inr, ◌⊎◌}
use Rattle.std.specs.Prelude.{ok_or, position}
use Rattle.std.specs.List.{list_all, position_or_len}
use Rattle.std.proofs.lemmas.Bool.{leb-true, lt-ltb, le-ltb, and_from, eqb-true, cases_lt, not_from_false}
use Rattle.std.proofs.lemmas.List.{take-append-drop, length-take}
use Rattle.byte_path.specs.declared.path.PathFault.{PathFault}
use Rattle.byte_path.specs.Path.{path_fault}
use Rattle.git_trees.specs.declared.entry.TreeEntry.{TreeEntry}
use Rattle.git_trees.specs.declared.entry.TreeMode.{TreeMode}
use Rattle.git_trees.specs.declared.entry.TreeMode.TheVariants.{Plain, Executable, Link, Gitlink, Folder}
use Rattle.git_trees.specs.declared.fault.NameKind.TheVariants.{Slash}
use Rattle.git_trees.specs.declared.fault.TreeFault.{TreeFault}
use Rattle.git_trees.specs.declared.fault.TreeFault.TheVariants.{Short, Mode as BadMode, Name as BadName}
use Rattle.git_trees.specs.Format.{is_mode, is_space, ends_name, is_name_byte, Written, IsWritten, spelled}
use Rattle.git_trees.specs.Reading.{◌>>=◌, want, mode_at, mode_fault, want_part, is_no_slash, named_at, moded_at, spaced_at, entry_at}
use Rattle.git_trees.proofs.Ordered.{want_ok, ok_is, or_not}

-- the value of a step that did not fail
pub bind_ok : {A B : Type 0} (r : Result A TreeFault) (f : A → Result B TreeFault) (y : B) → (r >>= f) ≡ Ok y → (x : A) × (r ≡ Ok x) × (f x ≡ Ok y)
bind_ok (Ok x) f y e = (x, refl, e)
bind_ok (Err d) f y e = absurd cc

some_of : {A : Type 0} (o : Option A) (f : TreeFault) (x : A) → ok_or {E = TreeFault} o f ≡ Ok x → o ≡ Some x
some_of None f x e = absurd cc
some_of (Some y) f x e = let same : y ≡ x = cc in ap (λ (z : _). Some z) same

some_is : (x y : ℕ) → Some x ≡ Some y → x ≡ y
some_is x y e = cc

-- a text that is cut before the first byte that passes a test
record Cut (test : ℕ → Bool) (xs : List ℕ) (n : ℕ) : Type 0 where
  pub byte : ℕ
  pub behind : List ℕ
  pub rest : drop n xs ≡ byte ∷ behind
  pub is : test byte ≡ true
  pub none : list_all (λ b. not (test b)) (take n xs) ≡ true

cut_one : (t : Bool) (test : ℕ → Bool) (x : ℕ) (xs : List ℕ) (m : ℕ) → test x ≡ t → cond (not t) (1 + m) 0 < suc (length xs) → (m < length xs → Cut test xs m) → Cut test (x ∷ xs) (cond (not t) (1 + m) 0)
cut_one true test x xs m e less others = record { byte = x; behind = xs; rest = refl; is = e; none = refl }
cut_one false test x xs m e less others =
    let o : Cut test xs m = others (omega arith) in
    let next : suc m ≡ 1 + m = omega arith in
    subst (Cut test (x ∷ xs)) next (record { byte = o.byte; behind = o.behind; rest = o.rest; is = o.is; none = and_from (not (test x)) (list_all (λ b. not (test b)) (take m xs)) (not_from_false _ e) o.none })

cut_at : (test : ℕ → Bool) (xs : List ℕ) → position_or_len test xs < length xs → Cut test xs (position_or_len test xs)
cut_at test [] less = absurd (omega arith)
cut_at test (x ∷ xs) less = cut_one (test x) test x xs (position_or_len test xs) refl less (cut_at test xs)

some_cut : (test : ℕ → Bool) (xs : List ℕ) (n : ℕ) → position test xs ≡ Some n → Cut test xs n
some_cut test xs n e = elim (cases_lt (position_or_len test xs) (length xs)) [
  | inl less ↦
      let same : position_or_len test xs ≡ n = some_is (position_or_len test xs) n (sym (rw (lt-ltb (position_or_len test xs) (length xs) less) refl) ∙ e) in
      subst (Cut test xs) same (cut_at test xs less)
  | inr more ↦
      let no : None ≡ Some n = sym (rw (le-ltb (position_or_len test xs) (length xs) more) refl) ∙ e in absurd cc
]

pick : (b : Bool) (m : TreeMode) (o : Option TreeMode) (mode : TreeMode) → cond b (Some m) o ≡ Some mode → ((b ≡ true) × (m ≡ mode)) ⊎ (o ≡ Some mode)
pick true m o mode e = let same : m ≡ mode = cc in inl (refl, same)
pick false m o mode e = inr e

picked : (mode m : TreeMode) (digits : List ℕ) → (is_mode m digits ≡ true) × (m ≡ mode) → is_mode mode digits ≡ true
picked mode m digits p = subst (λ (x : TreeMode). is_mode x digits ≡ true) p.1 p.0

mode_takes : (digits : List ℕ) (mode : TreeMode) → mode_at digits ≡ Some mode → is_mode mode digits ≡ true
mode_takes digits mode e =
    let o4 : Option TreeMode = cond (is_mode Folder digits) (Some Folder) None in
    let o3 : Option TreeMode = cond (is_mode Gitlink digits) (Some Gitlink) o4 in
    let o2 : Option TreeMode = cond (is_mode Link digits) (Some Link) o3 in
    let o1 : Option TreeMode = cond (is_mode Executable digits) (Some Executable) o2 in
    elim (pick (is_mode Plain digits) Plain o1 mode e) [
      | inl p ↦ picked mode Plain digits p
      | inr e1 ↦ elim (pick (is_mode Executable digits) Executable o2 mode e1) [
        | inl p ↦ picked mode Executable digits p
        | inr e2 ↦ elim (pick (is_mode Link digits) Link o3 mode e2) [
          | inl p ↦ picked mode Link digits p
          | inr e3 ↦ elim (pick (is_mode Gitlink digits) Gitlink o4 mode e3) [
            | inl p ↦ picked mode Gitlink digits p
            | inr e4 ↦ elim (pick (is_mode Folder digits) Folder None mode e4) [
              | inl p ↦ picked mode Folder digits p
              | inr none ↦ absurd cc
            ]
          ]
        ]
      ]
    ]

part_ok : {A : Type 0} (k : ℕ) (o : Option PathFault) (r : Result A TreeFault) (y : A) → want_part k o r ≡ Ok y → (o ≡ None) × (r ≡ Ok y)
part_ok k None r y e = (refl, e)
part_ok k (Some f) r y e = absurd cc

-- an entry by its parts
record TakesNamed (mode : TreeMode) (name tail : List ℕ) (e : TreeEntry) (rest : List ℕ) : Type 0 where
  pub mode_is : e.mode ≡ mode
  pub name_is : e.name ≡ name
  pub good : path_fault name ≡ None
  pub size : length e.object ≡ 20
  pub parts : tail ≡ 0 ∷ (e.object ++ rest)

named_takes : (k : ℕ) (mode : TreeMode) (name : List ℕ) (b : ℕ) (behind : List ℕ) (x : TreeEntry × List ℕ) → ends_name b ≡ true → named_at k mode name (b ∷ behind) ≡ Ok x → TakesNamed mode name (b ∷ behind) x.0 x.1
unfolding named_at
named_takes k mode name b behind x ends e =
    let made : TreeEntry × List ℕ = (record { mode = mode; name = name; object = take 20 behind }, drop 20 behind) in
    let r2 : Result (TreeEntry × List ℕ) TreeFault = want (leb 21 (suc (length behind))) (Short k) (Ok made) in
    let r1 : Result (TreeEntry × List ℕ) TreeFault = want_part k (path_fault name) r2 in
    let s = want_ok (is_no_slash (b ∷ behind)) (BadName k Slash) r1 x e in
    let p = part_ok k (path_fault name) r2 x s.1 in
    let l = want_ok (leb 21 (suc (length behind))) (Short k) (Ok made) x p.1 in
    let long : 21 ≤ suc (length behind) = leb-true 21 (suc (length behind)) l.0 in
    let nul : b ≡ 0 = eqb-true b 0 (or_not (eqb b 0) (eqb b 47) ends s.0) in
    subst (λ (y : TreeEntry × List ℕ). TakesNamed mode name (b ∷ behind) y.0 y.1) (ok_is made x l.1) (record {
      mode_is = refl;
      name_is = refl;
      good = p.0;
      size = omega (arith, length-take 20 behind);
      parts = ap (λ (n : ℕ). n ∷ behind) nul ∙ ap (λ (xs : List ℕ). 0 ∷ xs) (sym (take-append-drop 20 behind));
    })

-- an entry whose mode is known
record TakesModed (mode : TreeMode) (text : List ℕ) (e : TreeEntry) (rest : List ℕ) : Type 0 where
  pub mode_is : e.mode ≡ mode
  pub good : path_fault e.name ≡ None
  pub plain : list_all is_name_byte e.name ≡ true
  pub size : length e.object ≡ 20
  pub parts : text ≡ e.name ++ 0 ∷ (e.object ++ rest)

moded_takes : (k : ℕ) (mode : TreeMode) (text : List ℕ) (x : TreeEntry × List ℕ) → moded_at k mode text ≡ Ok x → TakesModed mode text x.0 x.1
unfolding moded_at
moded_takes k mode text x e =
    let a = bind_ok (ok_or (position ends_name text) (Short k)) (λ n. named_at k mode (take n text) (drop n text)) x e in
    let n : ℕ = a.0 in
    let cut : Cut ends_name text n = some_cut ends_name text n (some_of (position ends_name text) (Short k) n a.1) in
    let read : named_at k mode (take n text) (cut.byte ∷ cut.behind) ≡ Ok x = ap (named_at k mode (take n text)) (sym cut.rest) ∙ a.2 in
    let named : TakesNamed mode (take n text) (cut.byte ∷ cut.behind) x.0 x.1 = named_takes k mode (take n text) cut.byte cut.behind x cut.is read in
    let entry : TreeEntry = x.0 in
    record {
      mode_is = named.mode_is;
      good = ap path_fault named.name_is ∙ named.good;
      plain = ap (list_all is_name_byte) named.name_is ∙ cut.none;
      size = named.size;
      parts = sym (take-append-drop n text) ∙ ap (λ (xs : List ℕ). take n text ++ xs) (cut.rest ∙ named.parts) ∙ ap (λ (name : List ℕ). name ++ 0 ∷ (entry.object ++ x.1)) (sym named.name_is);
    }

-- an entry, and the bytes after it
pub record TakesEntry (bytes : List ℕ) (e : TreeEntry) (rest : List ℕ) : Type 0 where
  pub written : Written
  pub same : written.entry ≡ e
  pub fits : IsWritten written
  pub parts : bytes ≡ spelled written ++ rest

regrouped : (d n o rest : List ℕ) → d ++ 32 ∷ (n ++ 0 ∷ (o ++ rest)) ≡ (d ++ 32 ∷ (n ++ 0 ∷ o)) ++ rest
regrouped d n o rest = simp append_assoc

spaced_takes : (k : ℕ) (digits : List ℕ) (b : ℕ) (behind : List ℕ) (x : TreeEntry × List ℕ) → is_space b ≡ true → spaced_at k digits (b ∷ behind) ≡ Ok x → TakesEntry (digits ++ b ∷ behind) x.0 x.1
unfolding spaced_at
spaced_takes k digits b behind x space e =
    let a = bind_ok (ok_or (mode_at digits) (BadMode k)) (λ mode. moded_at k mode behind) x e in
    let mode : TreeMode = a.0 in
    let entry : TreeEntry = x.0 in
    let moded : TakesModed mode behind x.0 x.1 = moded_takes k mode behind x a.2 in
    let is : is_mode mode digits ≡ true = mode_takes digits mode (some_of (mode_at digits) (BadMode k) mode a.1) in
    record {
      written = record { digits = digits; entry = entry };
      same = refl;
      fits = record { digits = ap (λ (m : TreeMode). is_mode m digits) moded.mode_is ∙ is; name = moded.good; plain = moded.plain; object = moded.size };
      parts = ap (λ (n : ℕ). digits ++ n ∷ behind) (eqb-true b 32 space) ∙ ap (λ (xs : List ℕ). digits ++ 32 ∷ xs) moded.parts ∙ regrouped digits entry.name entry.object x.1;
    }

pub entry_takes : (k : ℕ) (bytes : List ℕ) (x : TreeEntry × List ℕ) → entry_at k bytes ≡ Ok x → TakesEntry bytes x.0 x.1
unfolding entry_at
entry_takes k bytes x e =
    let a = bind_ok (ok_or (position is_space bytes) (mode_fault k bytes)) (λ n. spaced_at k (take n bytes) (drop n bytes)) x e in
    let n : ℕ = a.0 in
    let cut : Cut is_space bytes n = some_cut is_space bytes n (some_of (position is_space bytes) (mode_fault k bytes) n a.1) in
    let read : spaced_at k (take n bytes) (cut.byte ∷ cut.behind) ≡ Ok x = ap (spaced_at k (take n bytes)) (sym cut.rest) ∙ a.2 in
    let whole : take n bytes ++ cut.byte ∷ cut.behind ≡ bytes = ap (λ (xs : List ℕ). take n bytes ++ xs) (sym cut.rest) ∙ take-append-drop n bytes in
    subst (λ (xs : List ℕ). TakesEntry xs x.0 x.1) whole (spaced_takes k (take n bytes) cut.byte cut.behind x cut.is read)
