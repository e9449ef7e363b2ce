-- What is spelled is read, item by item.
use Rattle.std.proofs.Common.{◌≡◌, ℕ, zero, suc, ◌+◌, ◌≤◌, ◌<◌, Bool, true, false, ◌&&◌, ◌||◌, not, eqb, ltb, List, [], ◌∷◌, ◌++◌, length, take, drop, map, Option, Some, None, Result, Ok, refl, sym, ap, subst, ◌∙◌, append_assoc, inl, inr, arith}
use Rattle.std.specs.List.{flat_map, list_all, position_or_len}
use Rattle.std.specs.Char.{is_ascii_alphabetic}
use Rattle.std.proofs.lemmas.Bool.{and_parts, or_cases, le-leb}
use Rattle.std.proofs.lemmas.List.{length-append, append-nil}
use Rattle.std.proofs.lemmas.List.Concat.{flat_map-cons}
use Rattle.std.proofs.lemmas.Grind.{common_steps}
use Rattle.git_config.specs.declared.fault.ConfigFault.{ConfigFault}
use Rattle.git_config.specs.declared.setting.Head.{Head}
use Rattle.git_config.specs.declared.setting.Setting.{Setting}
use Rattle.git_config.specs.Text.{is_blank, is_line_end, is_comment_mark, is_key_byte, is_name_byte, ends_blanks, ends_key, ends_name, behind_blanks, line_end, ◌>>=◌}
use Rattle.git_config.specs.Header.{is_close, lowered, plain_head, sub_at, quoted_head_at, named_at, header_at}
use Rattle.git_config.specs.Value.{value_at}
use Rattle.git_config.specs.Reading.{setting_of, keyed_at, setting_at, Place, after_header, after_setting, step_from, step_at, settings_at, text_at, config_at}
use Rattle.git_config.specs.Spelling.{Stretch, Ending, spelled_stretch, is_stretch, parts_of, spelled_ending, ending_parts, is_ending, is_comment, text_of}
use Rattle.git_config.specs.Spelling.{SubByte, AsItIs, BehindBackslash, spelled_sub_byte, sub_byte, is_sub_byte, Item, Space, Comment, Header, SubHeader, Key, KeyValue}
use Rattle.git_config.specs.Spelling.{spelled_item, is_name, is_key, is_item, ends_or_begins, is_at_end, is_ended_by, may_stand_before, head_behind, Says, Say, IsConfig}
use Rattle.git_config.proofs.Bytes.{same}
use Rattle.git_config.proofs.ValueAgain.{cons_first, taken_behind, left_behind, line_end_behind, value_again}

-- the same test, turned twice
not_others : (test : ℕ → Bool) (xs : List ℕ) → list_all test xs ≡ true → list_all (λ b. not (not (test b))) xs ≡ true
not_others test [] all = refl
not_others test (x ∷ xs) all =
    let both = and_parts (test x) (list_all test xs) all in
    rw both.0 (not_others test xs both.1)

-- what stands after blanks stops what blanks stop too
behind_stops : (stops : ℕ → Bool) → ((b : ℕ) → is_blank b ≡ true → stops b ≡ true) → (blanks rest : List ℕ) → list_all is_blank blanks ≡ true → ends_or_begins stops rest ≡ true → ends_or_begins stops (blanks ++ rest) ≡ true
behind_stops stops here [] rest all stop = stop
behind_stops stops here (b ∷ blanks) rest all stop = here b (and_parts (is_blank b) (list_all is_blank blanks) all).0

end_stops : (stops : ℕ → Bool) → stops 10 ≡ true → (rest : List ℕ) → is_at_end rest ≡ true → ends_or_begins stops rest ≡ true
end_stops stops here [] stop = refl
end_stops stops here (b ∷ rest) stop = subst (λ (x : ℕ). stops x ≡ true) (sym (same b 10 stop)) here

blank_is : (P : ℕ → Type 0) → P 32 → P 9 → (b : ℕ) → is_blank b ≡ true → P b
blank_is P space tab b is =
    elim (or_cases (eqb b 32) (eqb b 9) is) [
      | inl e ↦ subst P (sym (same b 32 e)) space
      | inr e ↦ subst P (sym (same b 9 e)) tab
    ]

blank_ends_key : (b : ℕ) → is_blank b ≡ true → ends_key b ≡ true
blank_ends_key b is = blank_is (λ x. ends_key x ≡ true) refl refl b is

blank_ends_name : (b : ℕ) → is_blank b ≡ true → ends_name b ≡ true
blank_ends_name b is = blank_is (λ x. ends_name x ≡ true) refl refl b is

blank_is_not_close : (b : ℕ) → is_blank b ≡ true → is_close b ≡ false
blank_is_not_close b is = blank_is (λ x. is_close x ≡ false) refl refl b is

behind_blanks_is : (blanks rest : List ℕ) → list_all is_blank blanks ≡ true → ends_or_begins ends_blanks rest ≡ true → behind_blanks (blanks ++ rest) ≡ rest
unfolding behind_blanks
behind_blanks_is blanks rest all stop = left_behind ends_blanks blanks rest (not_others is_blank blanks all) stop

three : (a b c : Bool) → not (a || b || c) ≡ true → (a ≡ false) × (b ≡ false) × (c ≡ false)
three false false false e = (refl, refl, refl)
three true b c e = absurd cc
three false true c e = absurd cc
three false false true e = absurd cc

turned : (a : Bool) → not a ≡ true → a ≡ false
turned true e = absurd cc
turned false e = refl

-- a subsection
sub_again : (line : ℕ) (ss : List SubByte) (sub text : List ℕ) → list_all is_sub_byte ss ≡ true → sub_at line false sub (flat_map spelled_sub_byte ss ++ 34 ∷ text) ≡ Ok (sub ++ map sub_byte ss, text)
unfolding sub_at
sub_again line [] sub text ok = ap (λ (x : List ℕ). Ok (x, text)) (sym (append-nil sub))
sub_again line (AsItIs b ∷ ss) sub text ok =
    let both = and_parts (is_sub_byte (AsItIs b)) (list_all is_sub_byte ss) ok in
    let not3 = three (eqb b 10) (eqb b 34) (eqb b 92) both.0 in
    ap (sub_at line false sub) (cons_first spelled_sub_byte (AsItIs b) ss (34 ∷ text)) ∙ rw (not3.0, not3.1, not3.2) (sub_again line ss (sub ++ b ∷ []) text both.1)
    ∙ ap (λ (x : List ℕ). Ok (x, text)) (append_assoc sub (b ∷ []) (map sub_byte ss))
sub_again line (BehindBackslash b ∷ ss) sub text ok =
    let both = and_parts (is_sub_byte (BehindBackslash b)) (list_all is_sub_byte ss) ok in
    let not1 : eqb b 10 ≡ false = turned (eqb b 10) both.0 in
    ap (sub_at line false sub) (cons_first spelled_sub_byte (BehindBackslash b) ss (34 ∷ text)) ∙ rw not1 (sub_again line ss (sub ++ b ∷ []) text both.1)
    ∙ ap (λ (x : List ℕ). Ok (x, text)) (append_assoc sub (b ∷ []) (map sub_byte ss))

quoted_head_again : (line : ℕ) (name : List ℕ) (sub : List SubByte) (rest : List ℕ) → list_all is_sub_byte sub ≡ true
    → quoted_head_at line name (34 ∷ (flat_map spelled_sub_byte sub ++ 34 ∷ 93 ∷ rest)) ≡ Ok (record { section = lowered name; sub = Some (map sub_byte sub) }, rest)
unfolding quoted_head_at
quoted_head_again line name sub rest ok = rw (sub_again line sub [] (93 ∷ rest) ok) refl

named_sub_again : (line : ℕ) (name blanks : List ℕ) (sub : List SubByte) (rest : List ℕ) → ltb 0 (length name) ≡ true → ltb 0 (length blanks) ≡ true → list_all is_blank blanks ≡ true → list_all is_sub_byte sub ≡ true
    → named_at line name (blanks ++ 34 ∷ (flat_map spelled_sub_byte sub ++ 34 ∷ 93 ∷ rest)) ≡ Ok (record { section = lowered name; sub = Some (map sub_byte sub) }, rest)
unfolding named_at
named_sub_again line name [] sub rest some blank all ok = absurd cc
named_sub_again line name (b ∷ blanks) sub rest some blank all ok =
    let first : is_blank b ≡ true = (and_parts (is_blank b) (list_all is_blank blanks) all).0 in
    let close : is_close b ≡ false = blank_is_not_close b first in
    let quoted : List ℕ = 34 ∷ (flat_map spelled_sub_byte sub ++ 34 ∷ 93 ∷ rest) in
    let behind : behind_blanks ((b ∷ blanks) ++ quoted) ≡ quoted = behind_blanks_is (b ∷ blanks) quoted all refl in
    rw (some, close, first) (ap (quoted_head_at line name) behind ∙ quoted_head_again line name sub rest ok)

named_plain_again : (line : ℕ) (name rest : List ℕ) → ltb 0 (length name) ≡ true → named_at line name (93 ∷ rest) ≡ Ok (plain_head name, rest)
unfolding named_at
named_plain_again line name rest some = rw some refl

header_from : (line : ℕ) (name text : List ℕ) (x : Head × List ℕ) → list_all is_name_byte name ≡ true → ends_or_begins ends_name text ≡ true → named_at line name text ≡ Ok x → header_at line (name ++ text) ≡ Ok x
unfolding header_at
header_from line name text x all stop named =
    let front : take (position_or_len ends_name (name ++ text)) (name ++ text) ≡ name = taken_behind ends_name name text (not_others is_name_byte name all) stop in
    let behind : drop (position_or_len ends_name (name ++ text)) (name ++ text) ≡ text = left_behind ends_name name text (not_others is_name_byte name all) stop in
    rw (front, behind) named

-- a key
keyed_none : (line : ℕ) (head : Head) (key rest : List ℕ) → is_at_end rest ≡ true → keyed_at line head key rest ≡ Ok (setting_of head key None, 0, rest)
unfolding keyed_at
keyed_none line head key [] stop = refl
keyed_none line head key (b ∷ rest) stop = let e : is_line_end b ≡ true = stop in let some : eqb (suc (length rest)) 0 ≡ false = grind (arith, common_steps) in rw (some, e) refl

keyed_value : (line : ℕ) (head : Head) (key text value rest : List ℕ) (lines : ℕ) → value_at line text ≡ Ok (value, lines, rest) → keyed_at line head key (61 ∷ text) ≡ Ok (setting_of head key (Some value), lines, rest)
unfolding keyed_at
keyed_value line head key text value rest lines read = let some : eqb (suc (length text)) 0 ≡ false = grind (arith, common_steps) in rw (some, read) refl

setting_from : (line : ℕ) (head : Head) (key blanks text : List ℕ) (x : Setting × ℕ × List ℕ) → is_key key ≡ true → list_all is_blank blanks ≡ true → ends_or_begins ends_key text ≡ true → ends_or_begins ends_blanks text ≡ true
    → keyed_at line head key text ≡ Ok x → setting_at line (Some head) (key ++ (blanks ++ text)) ≡ Ok x
unfolding setting_at
setting_from line head [] blanks text x good all stop_key stop_blanks read = absurd cc
setting_from line head (k ∷ key) blanks text x good all stop_key stop_blanks read =
    let both = and_parts (is_ascii_alphabetic k) (list_all is_key_byte (k ∷ key)) good in
    let first : is_ascii_alphabetic k ≡ true = both.0 in
    let others : list_all (λ b. not (ends_key b)) (k ∷ key) ≡ true = not_others is_key_byte (k ∷ key) both.1 in
    let stop : ends_or_begins ends_key (blanks ++ text) ≡ true = behind_stops ends_key blank_ends_key blanks text all stop_key in
    let t : List ℕ = k ∷ (key ++ (blanks ++ text)) in
    let front : take (position_or_len ends_key t) t ≡ k ∷ key = taken_behind ends_key (k ∷ key) (blanks ++ text) others stop in
    let behind : drop (position_or_len ends_key t) t ≡ blanks ++ text = left_behind ends_key (k ∷ key) (blanks ++ text) others stop in
    let value : behind_blanks (blanks ++ text) ≡ text = behind_blanks_is blanks text all stop_blanks in
    rw (first, front, behind, value) read

-- one step over an item
abbrev pub StepsOver : Place → Item → List ℕ → List Setting → Type 0
StepsOver place i rest said = (line : ℕ) × (step_at place (spelled_item i ++ rest) ≡ Ok (record { line = line; head = head_behind place.head i; settings = place.settings ++ said; rest = rest }))

no_more : (place : Place) (line : ℕ) (head : Option Head) (rest : List ℕ) (r : Result Place ConfigFault) → r ≡ Ok (record { line = line; head = head; settings = place.settings; rest = rest })
    → r ≡ Ok (record { line = line; head = head; settings = place.settings ++ []; rest = rest })
no_more place line head rest r is = is ∙ ap (λ (s : List Setting). Ok (record { line = line; head = head; settings = s; rest = rest })) (sym (append-nil place.settings))

over_space : (place : Place) (b : ℕ) (rest : List ℕ) → is_item (Space b) ≡ true → StepsOver place (Space b) rest []
unfolding step_at step_from
over_space place b rest ok = at (eqb b 10) refl
  where
    at : (t : Bool) → eqb b 10 ≡ t → StepsOver place (Space b) rest []
    at true is = (place.line + 1, no_more place (place.line + 1) place.head rest (step_at place (b ∷ rest)) (rw is refl))
    at false is = let both : is_blank b ≡ true = elim (or_cases (is_blank b) (is_line_end b) ok) [ inl e ↦ e | inr e ↦ absurd cc ] in
        (place.line, no_more place place.line place.head rest (step_at place (b ∷ rest)) (rw (is, both) refl))

mark_is : (P : ℕ → Type 0) → P 35 → P 59 → (b : ℕ) → is_comment_mark b ≡ true → P b
mark_is P hash semicolon b is =
    elim (or_cases (eqb b 35) (eqb b 59) is) [
      | inl e ↦ subst P (sym (same b 35 e)) hash
      | inr e ↦ subst P (sym (same b 59 e)) semicolon
    ]

over_comment : (place : Place) (mark : ℕ) (comment rest : List ℕ) → is_comment mark comment ≡ true → is_at_end rest ≡ true → StepsOver place (Comment mark comment) rest []
unfolding step_at step_from
over_comment place mark comment rest ok stop =
    let both = and_parts (is_comment_mark mark) (list_all (λ b. not (is_line_end b)) comment) ok in
    let lf : eqb mark 10 ≡ false = mark_is (λ x. eqb x 10 ≡ false) refl refl mark both.0 in
    let bl : is_blank mark ≡ false = mark_is (λ x. is_blank x ≡ false) refl refl mark both.0 in
    let behind : line_end (comment ++ rest) ≡ rest = line_end_behind comment rest both.1 stop in
    (place.line, no_more place place.line place.head rest (step_at place (mark ∷ (comment ++ rest))) (rw (lf, bl, both.0, behind) refl))

-- a header is read after its `[`
over_header : (place : Place) (text rest : List ℕ) (head : Head) → header_at place.line text ≡ Ok (head, rest)
    → step_at place (91 ∷ text) ≡ Ok (record { line = place.line; head = Some head; settings = place.settings ++ []; rest = rest })
unfolding step_at step_from after_header
over_header place text rest head read = no_more place place.line (Some head) rest (step_at place (91 ∷ text)) (rw read refl)

plain_header : (place : Place) (name rest : List ℕ) → is_name name ≡ true → StepsOver place (Header name) rest []
plain_header place name rest ok =
    let both = and_parts (ltb 0 (length name)) (list_all is_name_byte name) ok in
    let parts : (name ++ 93 ∷ []) ++ rest ≡ name ++ 93 ∷ rest = append_assoc name (93 ∷ []) rest in
    let read : header_at place.line (name ++ 93 ∷ rest) ≡ Ok (plain_head name, rest) = header_from place.line name (93 ∷ rest) (plain_head name, rest) both.1 refl (named_plain_again place.line name rest both.0) in
    (place.line, over_header place ((name ++ 93 ∷ []) ++ rest) rest (plain_head name) (ap (header_at place.line) parts ∙ read))

pub sub_parts : (name blanks sub rest : List ℕ) → (name ++ (blanks ++ 34 ∷ (sub ++ 34 ∷ 93 ∷ []))) ++ rest ≡ name ++ (blanks ++ 34 ∷ (sub ++ 34 ∷ 93 ∷ rest))
sub_parts name blanks sub rest = simp append_assoc

sub_header : (place : Place) (name blanks : List ℕ) (sub : List SubByte) (rest : List ℕ) → is_item (SubHeader name blanks sub) ≡ true → StepsOver place (SubHeader name blanks sub) rest []
sub_header place name blanks sub rest ok =
    let a = and_parts (is_name name) (ltb 0 (length blanks) && (list_all is_blank blanks && list_all is_sub_byte sub)) ok in
    let n = and_parts (ltb 0 (length name)) (list_all is_name_byte name) a.0 in
    let b = and_parts (ltb 0 (length blanks)) (list_all is_blank blanks && list_all is_sub_byte sub) a.1 in
    let d = and_parts (list_all is_blank blanks) (list_all is_sub_byte sub) b.1 in
    let head : Head = record { section = lowered name; sub = Some (map sub_byte sub) } in
    let quoted : List ℕ = 34 ∷ (flat_map spelled_sub_byte sub ++ 34 ∷ 93 ∷ rest) in
    let stop : ends_or_begins ends_name (blanks ++ quoted) ≡ true = behind_stops ends_name blank_ends_name blanks quoted d.0 refl in
    let read : header_at place.line (name ++ (blanks ++ quoted)) ≡ Ok (head, rest) = header_from place.line name (blanks ++ quoted) (head, rest) n.1 stop (named_sub_again place.line name blanks sub rest n.0 b.0 d.0 d.1) in
    (place.line, over_header place ((name ++ (blanks ++ 34 ∷ (flat_map spelled_sub_byte sub ++ 34 ∷ 93 ∷ []))) ++ rest) rest head (ap (header_at place.line) (sub_parts name blanks (flat_map spelled_sub_byte sub) rest) ∙ read))

letter_is : (k : ℕ) → is_ascii_alphabetic k ≡ true → (eqb k 10 ≡ false) × (is_blank k ≡ false) × (is_comment_mark k ≡ false) × (eqb k 91 ≡ false)
letter_is k is = (grind (arith, common_steps), grind (arith, common_steps), grind (arith, common_steps), grind (arith, common_steps))

-- a key with its value
over_key : (place : Place) (head : Head) (key text rest : List ℕ) (s : Setting) (lines : ℕ) → place.head ≡ Some head → is_key key ≡ true → setting_at place.line (Some head) (key ++ text) ≡ Ok (s, lines, rest)
    → step_at place (key ++ text) ≡ Ok (record { line = place.line + lines; head = place.head; settings = place.settings ++ s ∷ []; rest = rest })
unfolding step_at step_from after_setting
over_key place head [] text rest s lines under good read = absurd cc
over_key place head (k ∷ key) text rest s lines under good read =
    let first = letter_is k (and_parts (is_ascii_alphabetic k) (list_all is_key_byte (k ∷ key)) good).0 in
    let whole : setting_at place.line place.head (k ∷ (key ++ text)) ≡ Ok (s, lines, rest) = ap (λ (h : Option Head). setting_at place.line h (k ∷ (key ++ text))) under ∙ read in
    rw (first.0, first.1, first.2, first.3, whole) refl

bare_key : (place : Place) (head : Head) (key blanks rest : List ℕ) → place.head ≡ Some head → is_item (Key key blanks) ≡ true → is_at_end rest ≡ true → StepsOver place (Key key blanks) rest (setting_of head key None ∷ [])
bare_key place head key blanks rest under ok stop =
    let both = and_parts (is_key key) (list_all is_blank blanks) ok in
    let read : setting_at place.line (Some head) (key ++ (blanks ++ rest)) ≡ Ok (setting_of head key None, 0, rest) =
    setting_from place.line head key blanks rest (setting_of head key None, 0, rest) both.0 both.1 (end_stops ends_key refl rest stop) (end_stops ends_blanks refl rest stop) (keyed_none place.line head key rest stop) in
    (place.line + 0, ap (step_at place) (append_assoc key blanks rest) ∙ over_key place head key (blanks ++ rest) rest (setting_of head key None) 0 under both.0 read)

pub value_parts : (key blanks value ending rest : List ℕ) → (key ++ (blanks ++ 61 ∷ (value ++ ending))) ++ rest ≡ key ++ (blanks ++ 61 ∷ (value ++ (ending ++ rest)))
value_parts key blanks value ending rest = simp append_assoc

value_key : (place : Place) (head : Head) (key blanks : List ℕ) (value : List Stretch) (ending : Ending) (rest : List ℕ) → place.head ≡ Some head → is_item (KeyValue key blanks value ending) ≡ true → is_ended_by ending rest ≡ true
    → StepsOver place (KeyValue key blanks value ending) rest (setting_of head key (Some (text_of (flat_map parts_of value ++ ending_parts ending))) ∷ [])
value_key place head key blanks value ending rest under ok stop =
    let a = and_parts (is_key key) (list_all is_blank blanks && (list_all is_stretch value && is_ending ending)) ok in
    let b = and_parts (list_all is_blank blanks) (list_all is_stretch value && is_ending ending) a.1 in
    let d = and_parts (list_all is_stretch value) (is_ending ending) b.1 in
    let text : List ℕ = flat_map spelled_stretch value ++ (spelled_ending ending ++ rest) in
    let said : List ℕ = text_of (flat_map parts_of value ++ ending_parts ending) in
    let v = value_again place.line value ending rest d.0 d.1 stop in
    let read : setting_at place.line (Some head) (key ++ (blanks ++ 61 ∷ text)) ≡ Ok (setting_of head key (Some said), v.0, rest) =
    setting_from place.line head key blanks (61 ∷ text) (setting_of head key (Some said), v.0, rest) a.0 b.0 refl refl (keyed_value place.line head key text said rest v.0 v.1) in
    (place.line + v.0, ap (step_at place) (value_parts key blanks (flat_map spelled_stretch value) (spelled_ending ending) rest) ∙ over_key place head key (blanks ++ 61 ∷ text) rest (setting_of head key (Some said)) v.0 under a.0 read)

keyed_over : (place : Place) (head : Option Head) (i : Item) (rest : List ℕ) (said : List Setting) → place.head ≡ head → is_item i ≡ true → may_stand_before i rest ≡ true → Says head i said → StepsOver place i rest said
keyed_over place head (Space b) rest said under ok stop says = subst (StepsOver place (Space b) rest) (sym says) (over_space place b rest ok)
keyed_over place head (Comment mark comment) rest said under ok stop says = subst (StepsOver place (Comment mark comment) rest) (sym says) (over_comment place mark comment rest ok stop)
keyed_over place head (Header name) rest said under ok stop says = subst (StepsOver place (Header name) rest) (sym says) (plain_header place name rest ok)
keyed_over place head (SubHeader name blanks sub) rest said under ok stop says = subst (StepsOver place (SubHeader name blanks sub) rest) (sym says) (sub_header place name blanks sub rest ok)
keyed_over place None (Key key blanks) rest said under ok stop says = absurd says
keyed_over place (Some head) (Key key blanks) rest said under ok stop says = subst (StepsOver place (Key key blanks) rest) (sym says) (bare_key place head key blanks rest under ok stop)
keyed_over place None (KeyValue key blanks value ending) rest said under ok stop says = absurd says
keyed_over place (Some head) (KeyValue key blanks value ending) rest said under ok stop says = subst (StepsOver place (KeyValue key blanks value ending) rest) (sym says) (value_key place head key blanks value ending rest under ok stop)

-- an item has a byte
pub spelled_some : (i : Item) → is_item i ≡ true → 0 < length (spelled_item i)
spelled_some (Space b) ok = omega arith
spelled_some (Comment mark comment) ok = omega arith
spelled_some (Header name) ok = omega arith
spelled_some (SubHeader name blanks sub) ok = omega arith
spelled_some (Key [] blanks) ok = absurd cc
spelled_some (Key (k ∷ key) blanks) ok = omega arith
spelled_some (KeyValue [] blanks value ending) ok = absurd cc
spelled_some (KeyValue (k ∷ key) blanks value ending) ok = omega arith

settings_again : (n : ℕ) (line : ℕ) (head : Option Head) (before : List Setting) (items : List Item) (said : List Setting) → length (flat_map spelled_item items) ≤ n → Say head items said
    → settings_at n (record { line = line; head = head; settings = before; rest = flat_map spelled_item items }) ≡ Ok (before ++ said)
unfolding settings_at step_at
settings_again zero line head before [] said enough say = ap (λ (s : List Setting). Ok s) (sym (append-nil before) ∙ ap (λ (s : List Setting). before ++ s) (sym say))
settings_again (suc n) line head before [] said enough say = settings_again n line head before [] said (omega arith) say
settings_again zero line head before (i ∷ items) said enough say =
    absurd (omega (arith, spelled_some i say.2, ap (length {A = ℕ}) (flat_map-cons spelled_item i items), length-append (spelled_item i) (flat_map spelled_item items)))
settings_again (suc n) line head before (i ∷ items) said enough say =
    let rest : List ℕ = flat_map spelled_item items in
    let step = keyed_over (record { line = line; head = head; settings = before; rest = flat_map spelled_item (i ∷ items) }) head i rest say.0 refl say.2 say.3 say.4 in
    let parts : flat_map spelled_item (i ∷ items) ≡ spelled_item i ++ rest = flat_map-cons spelled_item i items in
    let fewer : length rest ≤ n = omega (arith, spelled_some i say.2, ap (length {A = ℕ}) parts, length-append (spelled_item i) rest) in
    let later = settings_again n step.0 (head_behind head i) (before ++ say.0) items say.1 fewer say.5 in
    ap (λ (r : Result Place ConfigFault). r >>= λ next. settings_at n next) step.1 ∙ later
    ∙ ap (λ (s : List Setting). Ok s) (append_assoc before say.0 say.1 ∙ ap (λ (s : List Setting). before ++ s) (sym say.6))

pub config_again : (bytes : List ℕ) (settings : List Setting) → IsConfig bytes settings → config_at bytes ≡ Ok settings
unfolding config_at text_at
config_again bytes settings config =
    let read : text_at (flat_map spelled_item config.items) ≡ Ok settings = settings_again (length (flat_map spelled_item config.items)) 1 None [] config.items settings (omega arith) config.say in
    rw (le-leb (length bytes) 1048576 config.small) (ap text_at config.spelled_so ∙ read)
