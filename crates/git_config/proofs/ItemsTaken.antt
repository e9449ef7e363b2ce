-- What is read is spelled, item by item.
use Rattle.std.proofs.Common.{◌≡◌, ℕ, zero, suc, ◌+◌, ◌≤◌, Bool, true, false, not, cond, eqb, leb, ltb, List, [], ◌∷◌, ◌++◌, length, take, drop, map, Option, Some, None, Result, Ok, Err, refl, sym, ap, subst, ◌∙◌, append_assoc, arith}
use Rattle.std.specs.List.{flat_map, list_all, position_or_len}
use Rattle.std.specs.Char.{is_ascii_alphabetic}
use Rattle.std.proofs.lemmas.Bool.{leb-true, lt-ltb}
use Rattle.std.proofs.lemmas.List.{length-append, append-nil, take-append-drop}
use Rattle.std.proofs.lemmas.List.Concat.{flat_map-cons}
use Rattle.std.proofs.lemmas.Grind.{common_steps}
use Rattle.byte_path.specs.Front.{begins, unmarked}
use Rattle.git_config.specs.declared.fault.ConfigFault.{ConfigFault}
use Rattle.git_config.specs.declared.fault.ConfigFault.TheVariants.{TooLarge, Line}
use Rattle.git_config.specs.declared.fault.LineKind.TheVariants as kind
use Rattle.git_config.specs.declared.setting.Head.{Head}
use Rattle.git_config.specs.declared.setting.Setting.{Setting}
use Rattle.git_config.specs.Text.{is_blank, is_line_end, is_comment_mark, is_key_byte, is_name_byte, ends_blanks, ends_key, ends_name, behind_blanks, line_end, ◌>>=◌, want, without_cr}
use Rattle.git_config.specs.Header.{is_close, is_quote, lowered, plain_head, sub_at, head_with, quoted_head_at, named_at, header_at}
use Rattle.git_config.specs.Value.{value_at}
use Rattle.git_config.specs.Reading.{is_equals, setting_of, keyed_at, under_head, setting_at, Place, after_header, after_setting, step_from, step_at, settings_at, text_at, config_at}
use Rattle.git_config.specs.Spelling.{spelled_stretch, spelled_ending}
use Rattle.git_config.specs.Spelling.{SubByte, AsItIs, BehindBackslash, spelled_sub_byte, sub_byte, is_sub_byte, Item, Space, Comment, Header, SubHeader, Key, KeyValue}
use Rattle.git_config.specs.Spelling.{spelled_item, is_name, is_key, is_item, ends_or_begins, is_at_end, may_stand_before, head_behind, Says, Say, IsConfig}
use Rattle.git_config.proofs.Bytes.{same}
use Rattle.git_config.proofs.ItemsAgain.{sub_parts, value_parts, spelled_some}
use Rattle.git_config.proofs.ValueAgain.{cons_first}
use Rattle.git_config.proofs.ValueTaken.{Oks, ok_is, none_before, first_stops, value_takes}

-- what a test that has to pass says
pub want_ok : {A : Type 0} (t : Bool) (f : ConfigFault) (r : Result A ConfigFault) (x : A) → want t f r ≡ Ok x → (t ≡ true) × (r ≡ Ok x)
want_ok true f r x e = (refl, e)
want_ok false f r x e = absurd cc

pub bind_ok : {A B : Type 0} (r : Result A ConfigFault) (f : A → Result B ConfigFault) (y : B) → (r >>= f) ≡ Ok y → (x : A) × (r ≡ Ok x) × (f x ≡ Ok y)
bind_ok (Ok x) f y e = (x, refl, e)
bind_ok (Err d) f y e = absurd cc

same_test : (test : ℕ → Bool) (xs : List ℕ) → list_all (λ b. not (not (test b))) xs ≡ true → list_all test xs ≡ true
same_test test [] all = refl
same_test test (x ∷ xs) all = at (test x) refl all (same_test test xs)
  where
    at : (t : Bool) → test x ≡ t → list_all (λ b. not (not (test b))) (x ∷ xs) ≡ true → (list_all (λ b. not (not (test b))) xs ≡ true → list_all test xs ≡ true) → list_all test (x ∷ xs) ≡ true
    at true is all later = rw is (later (rw is at all))
    at false is all later = let e : false ≡ true = rw is at all in absurd cc

-- the blanks in front
record TakesBlanks (text rest : List ℕ) : Type 0 where
  pub blanks : List ℕ
  pub all : list_all is_blank blanks ≡ true
  pub parts : text ≡ blanks ++ rest
  pub stop : ends_or_begins ends_blanks rest ≡ true

blanks_take : (text : List ℕ) → TakesBlanks text (behind_blanks text)
unfolding behind_blanks
blanks_take text = record {
  blanks = take (position_or_len ends_blanks text) text;
  all = same_test is_blank (take (position_or_len ends_blanks text) text) (none_before ends_blanks text);
  parts = sym (take-append-drop (position_or_len ends_blanks text) text);
  stop = first_stops ends_blanks text;
}

-- a subsection
record TakesSub (text sub behind : List ℕ) (before : List ℕ) : Type 0 where
  pub bytes : List SubByte
  pub good : list_all is_sub_byte bytes ≡ true
  pub parts : text ≡ flat_map spelled_sub_byte bytes ++ 34 ∷ behind
  pub sub_is : sub ≡ before ++ map sub_byte bytes

sub_in_front : (b : SubByte) (text sub behind before : List ℕ) → is_sub_byte b ≡ true → TakesSub text sub behind (before ++ sub_byte b ∷ []) → TakesSub (spelled_sub_byte b ++ text) sub behind before
sub_in_front b text sub behind before ok t = record {
  bytes = b ∷ t.bytes;
  good = rw ok t.good;
  parts = ap (λ (x : List ℕ). spelled_sub_byte b ++ x) t.parts ∙ sym (cons_first spelled_sub_byte b t.bytes (34 ∷ behind));
  sub_is = t.sub_is ∙ append_assoc before (sub_byte b ∷ []) (map sub_byte t.bytes);
}

sub_takes : (n line : ℕ) (before text sub behind : List ℕ) → length text ≤ n → sub_at line false before text ≡ Ok (sub, behind) → TakesSub text sub behind before
unfolding sub_at
sub_takes n line before [] sub behind le e = absurd cc
sub_takes zero line before (b ∷ text) sub behind le e = absurd (omega arith)
sub_takes (suc n) line before (b ∷ text) sub behind le e = at (eqb b 10) refl (eqb b 34) refl (eqb b 92) refl text le e (sub_takes n line)
  where
    escaped : (t : List ℕ) → length t ≤ n → b ≡ 92 → sub_at line true before t ≡ Ok (sub, behind)
        → ((before text sub behind : List ℕ) → length text ≤ n → sub_at line false before text ≡ Ok (sub, behind) → TakesSub text sub behind before) → TakesSub (b ∷ t) sub behind before
    escaped [] le is e later = absurd cc
    escaped (x ∷ t) le is e later =
        let both = want_ok (not (eqb x 10)) (Line line kind.Section) (sub_at line false (before ++ x ∷ []) t) (sub, behind) e in
        subst (λ (y : ℕ). TakesSub (y ∷ x ∷ t) sub behind before) (sym is) (sub_in_front (BehindBackslash x) t sub behind before both.0 (later (before ++ x ∷ []) t sub behind (omega arith) both.1))

    at : (lf : Bool) → eqb b 10 ≡ lf → (q : Bool) → eqb b 34 ≡ q → (s : Bool) → eqb b 92 ≡ s → (t : List ℕ) → length (b ∷ t) ≤ suc n → sub_at line false before (b ∷ t) ≡ Ok (sub, behind)
        → ((before text sub behind : List ℕ) → length text ≤ n → sub_at line false before text ≡ Ok (sub, behind) → TakesSub text sub behind before) → TakesSub (b ∷ t) sub behind before
    at true is q iq s iis t le e later = let none = rw is at e in absurd cc
    at false is true iq s iis t le e later =
        let found : Oks (before, t) ≡ Oks (sub, behind) = rw (is, iq) at e in
        let eq : (before, t) ≡ (sub, behind) = ok_is (before, t) (sub, behind) found in
        record {
          bytes = [];
          good = refl;
          parts = ap (λ (y : ℕ). y ∷ t) (same b 34 iq) ∙ ap (λ (x : List ℕ × List ℕ). 34 ∷ x.1) eq;
          sub_is = sym (ap (λ (x : List ℕ × List ℕ). x.0) eq) ∙ sym (append-nil before);
        }
    at false is false iq true iis t le e later = escaped t (omega arith) (same b 92 iis) (rw (is, iq, iis) at e) later
    at false is false iq false iis t le e later = sub_in_front (AsItIs b) t sub behind before (rw (is, iq, iis) refl) (later (before ++ b ∷ []) t sub behind (omega arith) (rw (is, iq, iis) at e))

some_blanks : (blanks rest : List ℕ) (b : ℕ) (text : List ℕ) → b ∷ text ≡ blanks ++ rest → is_blank b ≡ true → ends_or_begins ends_blanks rest ≡ true → ltb 0 (length blanks) ≡ true
some_blanks [] rest b text parts blank stop =
    let here : ends_blanks b ≡ true = subst (λ (r : List ℕ). ends_or_begins ends_blanks r ≡ true) (sym parts) stop in
    let none : not true ≡ true = rw blank at here in absurd cc
some_blanks (x ∷ blanks) rest b text parts blank stop = lt-ltb 0 (suc (length blanks)) (omega arith)

-- an item in front, what it says, and the section after it
pub record TakesItem (text : List ℕ) (head next : Option Head) (said : List Setting) (rest : List ℕ) : Type 0 where
  pub item : Item
  pub good : is_item item ≡ true
  pub stop : may_stand_before item rest ≡ true
  pub says : Says head item said
  pub next_is : next ≡ head_behind head item
  pub parts : text ≡ spelled_item item ++ rest

quoted_takes : (line : ℕ) (head : Option Head) (name blanks text : List ℕ) (x : Head × List ℕ) → is_name name ≡ true → ltb 0 (length blanks) ≡ true → list_all is_blank blanks ≡ true
    → quoted_head_at line name text ≡ Ok x → TakesItem (91 ∷ (name ++ (blanks ++ text))) head (Some x.0) [] x.1
unfolding quoted_head_at
quoted_takes line head name blanks [] x good some all e = absurd cc
quoted_takes line head name blanks (q ∷ text) x good some all e =
    let a = want_ok (is_quote q) (Line line kind.Section) (sub_at line false [] text >>= λ y. want (begins is_close y.1) (Line line kind.Section) (Ok (head_with name y))) x e in
    let b = bind_ok (sub_at line false [] text) (λ y. want (begins is_close y.1) (Line line kind.Section) (Ok (head_with name y))) x a.1 in
    closes b.0.0 b.0.1 (sub_takes (length text) line [] text b.0.0 b.0.1 (omega arith) b.1) (same q 34 a.0) b.2
  where
    closes : (sub behind : List ℕ) → TakesSub text sub behind [] → q ≡ 34 → want (begins is_close behind) (Line line kind.Section) (Ok (head_with name (sub, behind))) ≡ Ok x → TakesItem (91 ∷ (name ++ (blanks ++ q ∷ text))) head (Some x.0) [] x.1
    closes sub [] t is e = absurd cc
    closes sub (c ∷ behind) t is e =
        let both = want_ok (is_close c) (Line line kind.Section) (Ok (head_with name (sub, c ∷ behind))) x e in
        let found : head_with name (sub, c ∷ behind) ≡ x = ok_is (head_with name (sub, c ∷ behind)) x both.1 in
        let close : c ≡ 93 = same c 93 both.0 in
        let spelled : text ≡ flat_map spelled_sub_byte t.bytes ++ 34 ∷ 93 ∷ behind = t.parts ∙ ap (λ (y : ℕ). flat_map spelled_sub_byte t.bytes ++ 34 ∷ y ∷ behind) close in
        let whole : q ∷ text ≡ 34 ∷ (flat_map spelled_sub_byte t.bytes ++ 34 ∷ 93 ∷ behind) = ap (λ (y : ℕ). y ∷ text) is ∙ ap (λ (y : List ℕ). 34 ∷ y) spelled in
        subst (λ (y : Head × List ℕ). TakesItem (91 ∷ (name ++ (blanks ++ q ∷ text))) head (Some y.0) [] y.1) found (record {
          item = SubHeader name blanks t.bytes;
          good = rw (good, some, all) t.good;
          stop = refl;
          says = refl;
          next_is = ap (λ (y : List ℕ). Some (record { section = lowered name; sub = Some y })) t.sub_is;
          parts = ap (λ (y : List ℕ). 91 ∷ y) (ap (λ (y : List ℕ). name ++ (blanks ++ y)) whole ∙ sym (sub_parts name blanks (flat_map spelled_sub_byte t.bytes) behind));
        })

named_takes : (line : ℕ) (head : Option Head) (name text : List ℕ) (x : Head × List ℕ) → list_all is_name_byte name ≡ true → named_at line name text ≡ Ok x → TakesItem (91 ∷ (name ++ text)) head (Some x.0) [] x.1
unfolding named_at
named_takes line head name text x all e =
    let a = want_ok (ltb 0 (length name)) (Line line kind.Section) (cond (begins is_close text) (Ok (plain_head name, drop 1 text)) (want (begins is_blank text) (Line line kind.Section) (quoted_head_at line name (behind_blanks text)))) x e in
    by_first text (rw a.0 all) a.1
  where
    by_first : (t : List ℕ) → is_name name ≡ true → cond (begins is_close t) (Ok (plain_head name, drop 1 t)) (want (begins is_blank t) (Line line kind.Section) (quoted_head_at line name (behind_blanks t))) ≡ Ok x → TakesItem (91 ∷ (name ++ t)) head (Some x.0) [] x.1
    by_first [] good e = absurd cc
    by_first (c ∷ t) good e = at (is_close c) refl e
      where
        at : (b : Bool) → is_close c ≡ b → cond b (Ok (plain_head name, t)) (want (is_blank c) (Line line kind.Section) (quoted_head_at line name (behind_blanks (c ∷ t)))) ≡ Ok x → TakesItem (91 ∷ (name ++ c ∷ t)) head (Some x.0) [] x.1
        at true is e =
            let found : (plain_head name, t) ≡ x = ok_is (plain_head name, t) x e in
            subst (λ (y : Head × List ℕ). TakesItem (91 ∷ (name ++ c ∷ t)) head (Some y.0) [] y.1) found (record {
              item = Header name;
              good = good;
              stop = refl;
              says = refl;
              next_is = refl;
              parts = ap (λ (y : List ℕ). 91 ∷ y) (ap (λ (y : ℕ). name ++ y ∷ t) (same c 93 is) ∙ sym (append_assoc name (93 ∷ []) t));
            })
        at false is e =
            let both = want_ok (is_blank c) (Line line kind.Section) (quoted_head_at line name (behind_blanks (c ∷ t))) x e in
            let b = blanks_take (c ∷ t) in
            subst (λ (y : List ℕ). TakesItem (91 ∷ (name ++ y)) head (Some x.0) [] x.1) (sym b.parts)
            (quoted_takes line head name b.blanks (behind_blanks (c ∷ t)) x good (some_blanks b.blanks (behind_blanks (c ∷ t)) c t b.parts both.0 b.stop) b.all both.1)

header_takes : (line : ℕ) (head : Option Head) (text : List ℕ) (x : Head × List ℕ) → header_at line text ≡ Ok x → TakesItem (91 ∷ text) head (Some x.0) [] x.1
unfolding header_at
header_takes line head text x e =
    let n : ℕ = position_or_len ends_name text in
    subst (λ (y : List ℕ). TakesItem (91 ∷ y) head (Some x.0) [] x.1) (take-append-drop n text)
    (named_takes line head (take n text) (drop n text) x (same_test is_name_byte (take n text) (none_before ends_name text)) e)

-- a key with its value
bare_key : (head : Head) (key blanks text : List ℕ) (x : Setting × ℕ × List ℕ) → is_key key ≡ true → list_all is_blank blanks ≡ true → is_at_end text ≡ true → Oks (setting_of head key None, 0, text) ≡ Oks x
    → TakesItem (key ++ (blanks ++ text)) (Some head) (Some head) (x.0 ∷ []) x.2
bare_key head key blanks text x good all stop e =
    let found : (setting_of head key None, 0, text) ≡ x = ok_is (setting_of head key None, 0, text) x e in
    subst (λ (y : Setting × ℕ × List ℕ). TakesItem (key ++ (blanks ++ text)) (Some head) (Some head) (y.0 ∷ []) y.2) found (record {
      item = Key key blanks;
      good = rw good all;
      stop = stop;
      says = refl;
      next_is = refl;
      parts = sym (append_assoc key blanks text);
    })

value_key : (line : ℕ) (head : Head) (key blanks text : List ℕ) (x : Setting × ℕ × List ℕ) → is_key key ≡ true → list_all is_blank blanks ≡ true
    → (value_at line text >>= λ v. Ok (setting_of head key (Some v.0), v.1, v.2)) ≡ Ok x → TakesItem (key ++ (blanks ++ 61 ∷ text)) (Some head) (Some head) (x.0 ∷ []) x.2
value_key line head key blanks text x good all e =
    let b = bind_ok (value_at line text) (λ v. Ok (setting_of head key (Some v.0), v.1, v.2)) x e in
    let t = value_takes line text b.0.0 b.0.2 b.0.1 b.1 in
    let found : (setting_of head key (Some b.0.0), b.0.1, b.0.2) ≡ x = ok_is (setting_of head key (Some b.0.0), b.0.1, b.0.2) x b.2 in
    subst (λ (y : Setting × ℕ × List ℕ). TakesItem (key ++ (blanks ++ 61 ∷ text)) (Some head) (Some head) (y.0 ∷ []) y.2) found (record {
      item = KeyValue key blanks t.stretches t.ending;
      good = rw (good, all, t.good) t.ends_well;
      stop = t.stop;
      says = ap (λ (v : List ℕ). setting_of head key (Some v) ∷ []) t.value_is;
      next_is = refl;
      parts = ap (λ (y : List ℕ). key ++ (blanks ++ 61 ∷ y)) t.parts ∙ sym (value_parts key blanks (flat_map spelled_stretch t.stretches) (spelled_ending t.ending) b.0.2);
    })

keyed_takes : (line : ℕ) (head : Head) (key blanks text : List ℕ) (x : Setting × ℕ × List ℕ) → is_key key ≡ true → list_all is_blank blanks ≡ true → keyed_at line head key text ≡ Ok x
    → TakesItem (key ++ (blanks ++ text)) (Some head) (Some head) (x.0 ∷ []) x.2
unfolding keyed_at
keyed_takes line head key blanks [] x good all e = bare_key head key blanks [] x good all refl e
keyed_takes line head key blanks (c ∷ text) x good all e = at (is_line_end c) refl (rw some at e)
  where
    some : eqb (suc (length text)) 0 ≡ false
    some = grind (arith, common_steps)

    at : (b : Bool) → is_line_end c ≡ b → cond (is_line_end c) (Ok (setting_of head key None, 0, c ∷ text)) (want (is_equals c) (Line line kind.Key) (value_at line text >>= λ v. Ok (setting_of head key (Some v.0), v.1, v.2))) ≡ Ok x → TakesItem (key ++ (blanks ++ c ∷ text)) (Some head) (Some head) (x.0 ∷ []) x.2
    at true is e = bare_key head key blanks (c ∷ text) x good all is (rw is at e)
    at false is e =
        let both = want_ok (is_equals c) (Line line kind.Key) (value_at line text >>= λ v. Ok (setting_of head key (Some v.0), v.1, v.2)) x (rw is at e) in
        subst (λ (y : ℕ). TakesItem (key ++ (blanks ++ y ∷ text)) (Some head) (Some head) (x.0 ∷ []) x.2) (sym (same c 61 both.0)) (value_key line head key blanks text x good all both.1)

letter_goes_on : (k : ℕ) → is_ascii_alphabetic k ≡ true → ends_key k ≡ false
letter_goes_on k is = grind (arith, common_steps)

key_front : (k : ℕ) (text : List ℕ) → ends_key k ≡ false → begins is_ascii_alphabetic (take (position_or_len ends_key (k ∷ text)) (k ∷ text)) ≡ is_ascii_alphabetic k
key_front k text goes_on = let e : 1 + position_or_len ends_key text ≡ suc (position_or_len ends_key text) = omega arith in rw (goes_on, e) refl

setting_takes : (line : ℕ) (head : Option Head) (k : ℕ) (text : List ℕ) (x : Setting × ℕ × List ℕ) → setting_at line head (k ∷ text) ≡ Ok x → TakesItem (k ∷ text) head head (x.0 ∷ []) x.2
unfolding setting_at
setting_takes line None k text x e =
    let n : ℕ = position_or_len ends_key (k ∷ text) in
    let both = want_ok (is_ascii_alphabetic k) (Line line kind.Key) (under_head line None (take n (k ∷ text)) (behind_blanks (drop n (k ∷ text)))) x e in
    absurd cc
setting_takes line (Some head) k text x e =
    let n : ℕ = position_or_len ends_key (k ∷ text) in
    let key : List ℕ = take n (k ∷ text) in
    let b = blanks_take (drop n (k ∷ text)) in
    let both = want_ok (is_ascii_alphabetic k) (Line line kind.Key) (keyed_at line head key (behind_blanks (drop n (k ∷ text)))) x e in
    let first : begins is_ascii_alphabetic key ≡ true = key_front k text (letter_goes_on k both.0) ∙ both.0 in
    let all : list_all is_key_byte key ≡ true = same_test is_key_byte key (none_before ends_key (k ∷ text)) in
    let good : is_key key ≡ true = rw first all in
    let parts : key ++ (b.blanks ++ behind_blanks (drop n (k ∷ text))) ≡ k ∷ text = ap (λ (y : List ℕ). key ++ y) (sym b.parts) ∙ take-append-drop n (k ∷ text) in
    subst (λ (y : List ℕ). TakesItem y (Some head) (Some head) (x.0 ∷ []) x.2) parts (keyed_takes line head key b.blanks (behind_blanks (drop n (k ∷ text))) x good b.all both.1)

-- one step
record TakesStep (text : List ℕ) (place next : Place) : Type 0 where
  pub said : List Setting
  pub item : TakesItem text place.head next.head said next.rest
  pub settings : next.settings ≡ place.settings ++ said

space_takes : (place next : Place) (b : ℕ) (text : List ℕ) (line : ℕ) → is_item (Space b) ≡ true → Oks (record { line = line; head = place.head; settings = place.settings; rest = text }) ≡ Oks next → TakesStep (b ∷ text) place next
space_takes place next b text line good e =
    subst (TakesStep (b ∷ text) place) (ok_is (record { line = line; head = place.head; settings = place.settings; rest = text }) next e) (record {
      said = [];
      item = record { item = Space b; good = good; stop = refl; says = refl; next_is = refl; parts = refl };
      settings = sym (append-nil place.settings);
    })

comment_takes : (place next : Place) (b : ℕ) (text : List ℕ) → is_comment_mark b ≡ true → Oks (record place { rest = line_end text }) ≡ Oks next → TakesStep (b ∷ text) place next
unfolding line_end
comment_takes place next b text mark e =
    let n : ℕ = position_or_len is_line_end text in
    subst (TakesStep (b ∷ text) place) (ok_is (record place { rest = line_end text }) next e) (record {
      said = [];
      item = record {
        item = Comment b (take n text);
        good = rw mark (none_before is_line_end text);
        stop = first_stops is_line_end text;
        says = refl;
        next_is = refl;
        parts = ap (λ (y : List ℕ). b ∷ y) (sym (take-append-drop n text));
      };
      settings = sym (append-nil place.settings);
    })

head_takes : (place next : Place) (text : List ℕ) → after_header (record place { rest = text }) ≡ Ok next → TakesStep (91 ∷ text) place next
unfolding after_header
head_takes place next text e =
    let b = bind_ok (header_at place.line text) (λ x. Ok (record place { head = Some x.0; rest = x.1 })) next e in
    subst (TakesStep (91 ∷ text) place) (ok_is (record place { head = Some b.0.0; rest = b.0.1 }) next b.2) (record {
      said = [];
      item = header_takes place.line place.head text b.0 b.1;
      settings = sym (append-nil place.settings);
    })

key_takes : (place next : Place) (k : ℕ) (text : List ℕ) → after_setting (record place { rest = k ∷ text }) ≡ Ok next → TakesStep (k ∷ text) place next
unfolding after_setting
key_takes place next k text e =
    let b = bind_ok (setting_at place.line place.head (k ∷ text)) (λ x. Ok (record place { line = place.line + x.1; settings = place.settings ++ x.0 ∷ []; rest = x.2 })) next e in
    subst (TakesStep (k ∷ text) place) (ok_is (record place { line = place.line + b.0.1; settings = place.settings ++ b.0.0 ∷ []; rest = b.0.2 }) next b.2) (record {
      said = b.0.0 ∷ [];
      item = setting_takes place.line place.head k text b.0 b.1;
      settings = refl;
    })

step_takes : (place next : Place) (b : ℕ) (text : List ℕ) → step_from place b text ≡ Ok next → TakesStep (b ∷ text) place next
unfolding step_from
step_takes place next b text e = at_end (eqb b 10) refl e
  where
    at_bracket : (t : Bool) → eqb b 91 ≡ t → cond (eqb b 91) (after_header (record place { rest = text })) (after_setting (record place { rest = b ∷ text })) ≡ Ok next → TakesStep (b ∷ text) place next
    at_bracket true is e = subst (λ (y : ℕ). TakesStep (y ∷ text) place next) (sym (same b 91 is)) (head_takes place next text (rw is at e))
    at_bracket false is e = key_takes place next b text (rw is at e)

    at_comment : (t : Bool) → is_comment_mark b ≡ t → cond (is_comment_mark b) (Ok (record place { rest = line_end text })) (cond (eqb b 91) (after_header (record place { rest = text })) (after_setting (record place { rest = b ∷ text }))) ≡ Ok next → TakesStep (b ∷ text) place next
    at_comment true is e = comment_takes place next b text is (rw is at e)
    at_comment false is e = at_bracket (eqb b 91) refl (rw is at e)

    at_blank : (t : Bool) → is_blank b ≡ t → cond (is_blank b) (Ok (record place { rest = text })) (cond (is_comment_mark b) (Ok (record place { rest = line_end text })) (cond (eqb b 91) (after_header (record place { rest = text })) (after_setting (record place { rest = b ∷ text })))) ≡ Ok next → TakesStep (b ∷ text) place next
    at_blank true is e = space_takes place next b text place.line (rw is refl) (rw is at e)
    at_blank false is e = at_comment (is_comment_mark b) refl (rw is at e)

    at_end : (t : Bool) → eqb b 10 ≡ t → cond (eqb b 10) (Ok (record place { line = place.line + 1; rest = text })) (cond (is_blank b) (Ok (record place { rest = text })) (cond (is_comment_mark b) (Ok (record place { rest = line_end text })) (cond (eqb b 91) (after_header (record place { rest = text })) (after_setting (record place { rest = b ∷ text }))))) ≡ Ok next → TakesStep (b ∷ text) place next
    at_end true is e = space_takes place next b text (place.line + 1) (let lf : b ≡ 10 = same b 10 is in rw lf refl) (rw is at e)
    at_end false is e = at_blank (is_blank b) refl (rw is at e)

-- all steps
record TakesItems (text : List ℕ) (head : Option Head) (before settings : List Setting) : Type 0 where
  pub items : List Item
  pub said : List Setting
  pub spelled_so : text ≡ flat_map spelled_item items
  pub say : Say head items said
  pub settings_are : settings ≡ before ++ said

no_items : (head : Option Head) (before settings : List Setting) → Oks before ≡ Oks settings → TakesItems [] head before settings
no_items head before settings e = record { items = []; said = []; spelled_so = refl; say = refl; settings_are = sym (ok_is before settings e) ∙ sym (append-nil before) }

settings_take : (n line : ℕ) (head : Option Head) (before : List Setting) (text : List ℕ) (settings : List Setting) → length text ≤ n → settings_at n (record { line = line; head = head; settings = before; rest = text }) ≡ Ok settings → TakesItems text head before settings
unfolding settings_at step_at
settings_take zero line head before [] settings enough e = no_items head before settings e
settings_take (suc n) line head before [] settings enough e = settings_take n line head before [] settings (omega arith) e
settings_take zero line head before (b ∷ text) settings enough e = absurd (omega arith)
settings_take (suc n) line head before (b ∷ text) settings enough e =
    let place : Place = record { line = line; head = head; settings = before; rest = b ∷ text } in
    let s = bind_ok (step_from place b text) (λ next. settings_at n next) settings e in
    let next : Place = s.0 in
    let t : TakesStep (b ∷ text) place next = step_takes place next b text s.1 in
    let fewer : length next.rest ≤ n = omega (arith, spelled_some t.item.item t.item.good, ap (length {A = ℕ}) t.item.parts, length-append (spelled_item t.item.item) next.rest) in
    let later : TakesItems next.rest next.head next.settings settings = settings_take n next.line next.head next.settings next.rest settings fewer s.2 in
    record {
      items = t.item.item ∷ later.items;
      said = t.said ++ later.said;
      spelled_so = t.item.parts ∙ ap (λ (y : List ℕ). spelled_item t.item.item ++ y) later.spelled_so ∙ sym (flat_map-cons spelled_item t.item.item later.items);
      say = (
        t.said,
        later.said,
        t.item.good,
        subst (λ (y : List ℕ). may_stand_before t.item.item y ≡ true) later.spelled_so t.item.stop,
        t.item.says,
        subst (λ (h : Option Head). Say h later.items later.said) t.item.next_is later.say,
        refl,
      );
      settings_are = later.settings_are ∙ ap (λ (y : List Setting). y ++ later.said) t.settings ∙ append_assoc before t.said later.said;
    }

pub config_takes : (bytes : List ℕ) (settings : List Setting) → config_at bytes ≡ Ok settings → IsConfig bytes settings
unfolding config_at text_at
config_takes bytes settings e =
    let text : List ℕ = without_cr (unmarked bytes) in
    let a = want_ok (leb (length bytes) 1048576) TooLarge (text_at text) settings e in
    let t : TakesItems text None [] settings = settings_take (length text) 1 None [] text settings (omega arith) a.1 in
    record { items = t.items; spelled_so = t.spelled_so; say = subst (Say None t.items) (sym t.settings_are) t.say; small = leb-true (length bytes) 1048576 a.0 }
