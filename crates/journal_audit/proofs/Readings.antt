-- The words of an event are read as that event, and no other words are.
use Rattle.std.proofs.Common.{◌≡◌, ℕ, Bool, true, false, cond, ◌&&◌, List, [], ◌∷◌, Option, Some, None, refl, sym, ◌∙◌, ap, subst, arith}
use Rattle.std.specs.Prelude.{codes}
use Rattle.std.specs.Str.{bytes_eq}
use Rattle.std.specs.Fmt.{decimal}
use Rattle.std.specs.Str.Parse.{digits_value}
use Rattle.std.proofs.lemmas.Grind.{common_steps}
use Rattle.std.proofs.lemmas.Slice.Eq.{bytes_eq-Decides}
use Rattle.byte_path.specs.Decimal.{OneDecimal, is_decimal}
use Rattle.filter_words.specs.declared.reply.BreakCause.{BreakCause}
use Rattle.filter_words.specs.declared.reply.BreakCause.TheVariants as break
use Rattle.filter_words.specs.declared.reply.Reply.{Reply}
use Rattle.filter_words.specs.declared.reply.Reply.TheVariants as reply
use Rattle.filter_words.specs.declared.reply.ListReply.{ListReply}
use Rattle.filter_words.specs.declared.reply.ListReply.TheVariants as list
use Rattle.filter_words.specs.declared.reply.Caps.{Caps}
use Rattle.checkout_core.specs.declared.verdict.ObjectKind.TheVariants as object
use Rattle.checkout_core.specs.declared.verdict.Own.{Own}
use Rattle.checkout_core.specs.declared.verdict.Own.TheVariants as own
use Rattle.checkout_core.specs.declared.event.OpenCause.{OpenCause}
use Rattle.checkout_core.specs.declared.event.OpenCause.TheVariants as opening
use Rattle.checkout_core.specs.declared.event.Event.{Event}
use Rattle.checkout_core.specs.declared.event.Event.TheVariants.{Claim, Close, Opened, OpenFailed, Answered, Named}
use Rattle.checkout_core.specs.declared.event.Event.TheVariants.{Listed, Redone, HandBack, Shut}
use Rattle.filter_words.specs.BreakWords.{break_word}
use Rattle.journal_audit.specs.Words.{own_word, opening_word, reply_word}
use Rattle.journal_audit.specs.Journal.{event_words, event_fits, fits, list_fits, list_words, word_if, end_words}
use Rattle.journal_audit.specs.Reading.{number, on, word_in, list_word, all_owns, all_openings, all_replies, all_lists}
use Rattle.journal_audit.specs.Reading.{flag, event_two, event_three, event_four, event_of, close_of, opened_of, names_of}
use Rattle.journal_audit.specs.Reading.{is_end, end_two, same_number}
use Rattle.journal_audit.proofs.Clean.{both, both_and, eqb_self}
use Rattle.journal_audit.proofs.Spelled.{fits_le}

-- options and tests
pub on_some : {A B : Type 0} (o : Option A) (x : A) (f : A → Option B) → o ≡ Some x → on o f ≡ f x
on_some o x f e = ap (λ (y : Option _). on y f) e

pub record Found {A B : Type 0} (o : Option A) (f : A → Option B) (y : B) : Type 0 where
  pub value : A
  pub is : o ≡ Some value
  pub gives : f value ≡ Some y

pub on_is : {A B : Type 0} (o : Option A) (f : A → Option B) (y : B) → on o f ≡ Some y → Found o f y
on_is None f y e = absurd (cc (e))
on_is (Some x) f y e = record { value = x; is = refl; gives = e }

pub some_is : {A : Type 0} (a b : A) → Some a ≡ Some b → a ≡ b
some_is a b e = cc (e)

pub chain : {A P : Type 0} (b : Bool) (x y : Option A) (v : A) → cond b x y ≡ Some v → (b ≡ true → x ≡ Some v → P) → (y ≡ Some v → P) → P
chain true x y v e here later = here refl e
chain false x y v e here later = later e

pub none_is : {A P : Type 0} (v : A) → None ≡ Some v → P
none_is v e = absurd (cc (e))

pub same_bytes : (xs ys : List ℕ) → bytes_eq xs ys ≡ true → xs ≡ ys
same_bytes xs ys e = grind (arith, common_steps, bytes_eq-Decides xs ys)

-- numbers
number_right : (w : List ℕ) (n : ℕ) → is_decimal w ≡ true → digits_value 10 w ≡ n → fits n ≡ true → number w ≡ Some n
number_right w n right value low = grind (arith, common_steps)

pub number_decimal : OneDecimal → (n : ℕ) → fits n ≡ true → number (decimal n) ≡ Some n
number_decimal law n e =
    number_right (decimal n) n (law.right n (omega (arith, fits_le n e))) (law.number n (omega (arith, fits_le n e))) e

number_parts : (w : List ℕ) (n : ℕ) → number w ≡ Some n → (is_decimal w ≡ true) × (digits_value 10 w ≡ n) × (fits n ≡ true)
number_parts w n is = grind (arith, common_steps)

pub number_is : OneDecimal → (w : List ℕ) (n : ℕ) → number w ≡ Some n → (decimal n ≡ w) × (fits n ≡ true)
number_is law w n is =
    let p : (is_decimal w ≡ true) × (digits_value 10 w ≡ n) × (fits n ≡ true) = number_parts w n is in
    (ap decimal (sym p.1) ∙ law.only w p.0 (omega (arith, p.1, fits_le n p.2)), p.2)

-- words
pub word_in_is : {A : Type 0} (word : A → List ℕ) (all : List A) (w : List ℕ) (x : A) → word_in word all w ≡ Some x → word x ≡ w
word_in_is word [] w x e = none_is x e
word_in_is word (y ∷ ys) w x e =
    chain (bytes_eq (word y) w) (Some y) (word_in word ys w) x e
    (λ same hit. sym (ap word (some_is y x hit)) ∙ same_bytes (word y) w same)
    (λ later. word_in_is word ys w x later)

own_read : (o : Own) → word_in own_word all_owns (own_word o) ≡ Some o
own_read (own.Fine true) = refl
own_read (own.Fine false) = refl
own_read own.ReadFailed = refl
own_read own.WriteFailed = refl
own_read own.NoMemory = refl
own_read (own.Object object.Absent) = refl
own_read (own.Object object.Header) = refl
own_read (own.Object object.Size) = refl
own_read (own.Object object.WrongName) = refl
own_read (own.Object object.TooLarge) = refl

opening_read : (o : OpenCause) → word_in opening_word all_openings (opening_word o) ≡ Some o
opening_read opening.NotStarted = refl
opening_read opening.NoMemory = refl
opening_read (opening.Broken break.Ended) = refl
opening_read (opening.Broken break.LinkFault) = refl
opening_read (opening.Broken break.BadPacket) = refl
opening_read (opening.Broken break.BadHandshake) = refl
opening_read (opening.Broken break.UnknownStatus) = refl
opening_read (opening.Broken break.StrangeDelay) = refl
opening_read (opening.Broken break.TooLong) = refl
opening_read (opening.Broken break.StrangePath) = refl
opening_read (opening.Broken break.ListRefused) = refl

reply_read : (y : Reply) → word_in reply_word all_replies (reply_word y) ≡ Some y
reply_read reply.Content = refl
reply_read reply.Delayed = refl
reply_read reply.Error = refl
reply_read reply.ErrorAfter = refl
reply_read reply.Abort = refl
reply_read reply.NoMemory = refl
reply_read (reply.Broken break.Ended) = refl
reply_read (reply.Broken break.LinkFault) = refl
reply_read (reply.Broken break.BadPacket) = refl
reply_read (reply.Broken break.BadHandshake) = refl
reply_read (reply.Broken break.UnknownStatus) = refl
reply_read (reply.Broken break.StrangeDelay) = refl
reply_read (reply.Broken break.TooLong) = refl
reply_read (reply.Broken break.StrangePath) = refl
reply_read (reply.Broken break.ListRefused) = refl

smudge_read : (b : Bool) → flag (codes "smudge") (word_if b (codes "smudge")) ≡ Some b
unfolding flag
smudge_read true = refl
smudge_read false = refl

delay_read : (b : Bool) → flag (codes "delay") (word_if b (codes "delay")) ≡ Some b
unfolding flag
delay_read true = refl
delay_read false = refl

flag_is : (there w : List ℕ) (b : Bool) → flag there w ≡ Some b → word_if b there ≡ w
unfolding flag
flag_is there w b e =
    chain (bytes_eq w there) (Some true) (cond (bytes_eq w (codes "-")) (Some false) None) b e
    (λ same hit. ap (λ (x : Bool). word_if x there) (sym (some_is true b hit)) ∙ sym (same_bytes w there same))
    (λ later. chain (bytes_eq w (codes "-")) (Some false) None b later
    (λ same hit. ap (λ (x : Bool). word_if x there) (sym (some_is false b hit)) ∙ sym (same_bytes w (codes "-") same))
    (λ none. none_is b none))

-- an event is read
claim_read : OneDecimal → (p a : ℕ) → fits a ≡ true → event_three (codes "claim") p (decimal a) ≡ Some (Claim p a)
unfolding event_three
claim_read law p a h = on_some (number (decimal a)) a (λ (x : ℕ). Some (Claim p x)) (number_decimal law a h)

failed_read : (p : ℕ) (o : OpenCause) → event_three (codes "open-failed") p (opening_word o) ≡ Some (OpenFailed p o)
unfolding event_three
failed_read p o = on_some (word_in opening_word all_openings (opening_word o)) o (λ (x : OpenCause). Some (OpenFailed p x)) (opening_read o)

answered_read : (p : ℕ) (y : Reply) → event_three (codes "answered") p (reply_word y) ≡ Some (Answered p y)
unfolding event_three
answered_read p y = on_some (word_in reply_word all_replies (reply_word y)) y (λ (x : Reply). Some (Answered p x)) (reply_read y)

redone_read : (p : ℕ) (y : Reply) → event_three (codes "redone") p (reply_word y) ≡ Some (Redone p y)
unfolding event_three
redone_read p y = on_some (word_in reply_word all_replies (reply_word y)) y (λ (x : Reply). Some (Redone p x)) (reply_read y)

close_read : OneDecimal → (p a : ℕ) (o : Own) → fits a ≡ true → event_four (codes "close") p (decimal a) (own_word o) ≡ Some (Close p a o)
unfolding event_four
close_read law p a o h =
    on_some (number (decimal a)) a (λ (x : ℕ). on (word_in own_word all_owns (own_word o)) (λ (y : Own). Some (Close p x y))) (number_decimal law a h)
    ∙ on_some (word_in own_word all_owns (own_word o)) o (λ (y : Own). Some (Close p a y)) (own_read o)

opened_read : (d : ℕ) (caps : Caps) → event_four (codes "opened") d (word_if caps.smudge (codes "smudge")) (word_if caps.delay (codes "delay")) ≡ Some (Opened d caps)
unfolding event_four
opened_read d caps =
    on_some (flag (codes "smudge") (word_if caps.smudge (codes "smudge"))) caps.smudge
    (λ (x : Bool). on (flag (codes "delay") (word_if caps.delay (codes "delay"))) (λ (y : Bool). Some (Opened d (record { smudge = x; delay = y }))))
    (smudge_read caps.smudge)
    ∙ on_some (flag (codes "delay") (word_if caps.delay (codes "delay"))) caps.delay
    (λ (y : Bool). Some (Opened d (record { smudge = caps.smudge; delay = y }))) (delay_read caps.delay)

names_read : OneDecimal → (d n : ℕ) → fits n ≡ true → event_four (codes "listed") d (codes "names") (decimal n) ≡ Some (Listed d (list.Names n))
unfolding event_four names_of
names_read law d n h = on_some (number (decimal n)) n (λ (x : ℕ). Some (Listed d (list.Names x))) (number_decimal law n h)

pub after_number : OneDecimal → (p : ℕ) (f : ℕ → Option Event) (e : Event) → fits p ≡ true → f p ≡ Some e → on (number (decimal p)) f ≡ Some e
after_number law p f e h is = on_some (number (decimal p)) p f (number_decimal law p h) ∙ is

named_read : (p : ℕ) → event_two (codes "named") p ≡ Some (Named p)
unfolding event_two
named_read p = refl

hand_read : (p : ℕ) → event_two (codes "hand-back") p ≡ Some (HandBack p)
unfolding event_two
hand_read p = refl

shut_read : (p : ℕ) → event_two (codes "shut") p ≡ Some (Shut p)
unfolding event_two
shut_read p = refl

listed_read : OneDecimal → (d : ℕ) (y : ListReply) → fits d ≡ true → list_fits y ≡ true → event_of (event_words (Listed d y)) ≡ Some (Listed d y)
unfolding event_three
listed_read law d (list.Names n) h k = after_number law d (λ (x : ℕ). event_four (codes "listed") x (codes "names") (decimal n)) (Listed d (list.Names n)) h (names_read law d n k)
listed_read law d list.Empty h k = after_number law d (λ (x : ℕ). event_three (codes "listed") x (codes "empty")) (Listed d list.Empty) h refl
listed_read law d list.Abort h k = after_number law d (λ (x : ℕ). event_three (codes "listed") x (codes "abort")) (Listed d list.Abort) h refl
listed_read law d list.NoMemory h k = after_number law d (λ (x : ℕ). event_three (codes "listed") x (codes "no-memory")) (Listed d list.NoMemory) h refl
listed_read law d (list.Broken b) h k = after_number law d (λ (x : ℕ). event_three (codes "listed") x (break_word b)) (Listed d (list.Broken b)) h (broken b)
  where
    broken : (b : BreakCause) → event_three (codes "listed") d (break_word b) ≡ Some (Listed d (list.Broken b))
    broken break.Ended = refl
    broken break.LinkFault = refl
    broken break.BadPacket = refl
    broken break.BadHandshake = refl
    broken break.UnknownStatus = refl
    broken break.StrangeDelay = refl
    broken break.TooLong = refl
    broken break.StrangePath = refl
    broken break.ListRefused = refl

pub event_read : OneDecimal → (e : Event) → event_fits e ≡ true → event_of (event_words e) ≡ Some e
event_read law (Claim p a) h =
    let k = both_and (fits p) (fits a) h in
    after_number law p (λ (x : ℕ). event_three (codes "claim") x (decimal a)) (Claim p a) k.0 (claim_read law p a k.1)
event_read law (Close p a o) h =
    let k = both_and (fits p) (fits a) h in
    after_number law p (λ (x : ℕ). event_four (codes "close") x (decimal a) (own_word o)) (Close p a o) k.0 (close_read law p a o k.1)
event_read law (Opened d caps) h =
    after_number law d (λ (x : ℕ). event_four (codes "opened") x (word_if caps.smudge (codes "smudge")) (word_if caps.delay (codes "delay"))) (Opened d caps) h (opened_read d caps)
event_read law (OpenFailed p o) h = after_number law p (λ (x : ℕ). event_three (codes "open-failed") x (opening_word o)) (OpenFailed p o) h (failed_read p o)
event_read law (Answered p y) h = after_number law p (λ (x : ℕ). event_three (codes "answered") x (reply_word y)) (Answered p y) h (answered_read p y)
event_read law (Named p) h = after_number law p (λ (x : ℕ). event_two (codes "named") x) (Named p) h (named_read p)
event_read law (Listed d y) h = let k = both_and (fits d) (list_fits y) h in listed_read law d y k.0 k.1
event_read law (Redone p y) h = after_number law p (λ (x : ℕ). event_three (codes "redone") x (reply_word y)) (Redone p y) h (redone_read p y)
event_read law (HandBack p) h = after_number law p (λ (x : ℕ). event_two (codes "hand-back") x) (HandBack p) h (hand_read p)
event_read law (Shut d) h = after_number law d (λ (x : ℕ). event_two (codes "shut") x) (Shut d) h (shut_read d)

-- what is read as an event is its words
pub record IsReadAs (ws : List (List ℕ)) (e : Event) : Type 0 where
  pub words : event_words e ≡ ws
  pub small : event_fits e ≡ true

same_two : (a b x y : List ℕ) → a ≡ b → x ≡ y → (a ∷ x ∷ []) ≡ (b ∷ y ∷ [])
same_two a b x y e f = cc (e, f)

same_three : (a b x y v w : List ℕ) → a ≡ b → x ≡ y → v ≡ w → (a ∷ x ∷ v ∷ []) ≡ (b ∷ y ∷ w ∷ [])
same_three a b x y v w e f g = cc (e, f, g)

same_four : (a b x y v w s t : List ℕ) → a ≡ b → x ≡ y → v ≡ w → s ≡ t → (a ∷ x ∷ v ∷ s ∷ []) ≡ (b ∷ y ∷ w ∷ t ∷ [])
same_four a b x y v w s t e f g h = cc (e, f, g, h)

pub and_true : (a b : Bool) → a ≡ true → b ≡ true → (a && b) ≡ true
and_true true b e f = f
and_true false b e f = absurd (cc (e))

two_is : (head : List ℕ) (p : ℕ) (e : Event) → fits p ≡ true → event_two head p ≡ Some e → IsReadAs (head ∷ decimal p ∷ []) e
unfolding event_two
two_is head p e h is =
    let as_event : (x : Event) → event_words x ≡ head ∷ decimal p ∷ [] → event_fits x ≡ true → Some x ≡ Some e → IsReadAs (head ∷ decimal p ∷ []) e =
    λ x words small hit. subst (λ (y : Event). IsReadAs (head ∷ decimal p ∷ []) y) (some_is x e hit) (record { words = words; small = small }) in
    let two : (w : List ℕ) → bytes_eq head w ≡ true → (w ∷ decimal p ∷ []) ≡ (head ∷ decimal p ∷ []) =
    λ w same. same_two w head (decimal p) (decimal p) (sym (same_bytes head w same)) refl in
    chain (bytes_eq head (codes "named")) _ _ e is (λ same hit. as_event (Named p) (two (codes "named") same) h hit) (λ is.
    chain (bytes_eq head (codes "hand-back")) _ _ e is (λ same hit. as_event (HandBack p) (two (codes "hand-back") same) h hit) (λ is.
    chain (bytes_eq head (codes "shut")) _ _ e is (λ same hit. as_event (Shut p) (two (codes "shut") same) h hit) (λ none. none_is e none)))

three_as : (head w : List ℕ) (p : ℕ) (e x : Event) → event_words x ≡ head ∷ decimal p ∷ w ∷ [] → event_fits x ≡ true → Some x ≡ Some e → IsReadAs (head ∷ decimal p ∷ w ∷ []) e
three_as head w p e x words small hit =
    subst (λ (y : Event). IsReadAs (head ∷ decimal p ∷ w ∷ []) y) (some_is x e hit) (record { words = words; small = small })

three_words : (head w : List ℕ) (p : ℕ) (u v : List ℕ) → bytes_eq head u ≡ true → v ≡ w → (u ∷ decimal p ∷ v ∷ []) ≡ (head ∷ decimal p ∷ w ∷ [])
three_words head w p u v same is = same_three u head (decimal p) (decimal p) v w (sym (same_bytes head u same)) refl is

claim_is : OneDecimal → (head w : List ℕ) (p : ℕ) (e : Event) → fits p ≡ true → bytes_eq head (codes "claim") ≡ true → on (number w) (λ a. Some (Claim p a)) ≡ Some e → IsReadAs (head ∷ decimal p ∷ w ∷ []) e
claim_is law head w p e h same hit =
    let f = on_is (number w) (λ (a : ℕ). Some (Claim p a)) e hit in
    let n = number_is law w f.value f.is in
    three_as head w p e (Claim p f.value) (three_words head w p (codes "claim") (decimal f.value) same n.0) (and_true (fits p) (fits f.value) h n.1) f.gives

failed_is : (head w : List ℕ) (p : ℕ) (e : Event) → fits p ≡ true → bytes_eq head (codes "open-failed") ≡ true → on (word_in opening_word all_openings w) (λ o. Some (OpenFailed p o)) ≡ Some e → IsReadAs (head ∷ decimal p ∷ w ∷ []) e
failed_is head w p e h same hit =
    let f = on_is (word_in opening_word all_openings w) (λ (o : OpenCause). Some (OpenFailed p o)) e hit in
    let n = word_in_is opening_word all_openings w f.value f.is in
    three_as head w p e (OpenFailed p f.value) (three_words head w p (codes "open-failed") (opening_word f.value) same n) h f.gives

answered_is : (head w : List ℕ) (p : ℕ) (e : Event) → fits p ≡ true → bytes_eq head (codes "answered") ≡ true → on (word_in reply_word all_replies w) (λ y. Some (Answered p y)) ≡ Some e → IsReadAs (head ∷ decimal p ∷ w ∷ []) e
answered_is head w p e h same hit =
    let f = on_is (word_in reply_word all_replies w) (λ (o : Reply). Some (Answered p o)) e hit in
    let n = word_in_is reply_word all_replies w f.value f.is in
    three_as head w p e (Answered p f.value) (three_words head w p (codes "answered") (reply_word f.value) same n) h f.gives

redone_is : (head w : List ℕ) (p : ℕ) (e : Event) → fits p ≡ true → bytes_eq head (codes "redone") ≡ true → on (word_in reply_word all_replies w) (λ y. Some (Redone p y)) ≡ Some e → IsReadAs (head ∷ decimal p ∷ w ∷ []) e
redone_is head w p e h same hit =
    let f = on_is (word_in reply_word all_replies w) (λ (o : Reply). Some (Redone p o)) e hit in
    let n = word_in_is reply_word all_replies w f.value f.is in
    three_as head w p e (Redone p f.value) (three_words head w p (codes "redone") (reply_word f.value) same n) h f.gives

-- a list's reply that was read from one word isn't names
one_word : (w : List ℕ) (y : ListReply) → word_in list_word all_lists w ≡ Some y → (list_words y ≡ list_word y ∷ []) × (list_fits y ≡ true)
one_word w (list.Names n) e = absurd (no_names all_lists refl e)
  where
    no_name : ListReply → Bool
    no_name (list.Names m) = false
    no_name _ = true

    none_names : List ListReply → Bool
    none_names [] = true
    none_names (y ∷ ys) = cond (no_name y) (none_names ys) false

    no_names : (ys : List ListReply) → none_names ys ≡ true → word_in list_word ys w ≡ Some (list.Names n) → ⊥
    no_names [] all is = none_is (list.Names n) is
    no_names (y ∷ ys) all is =
        let k = both (no_name y) (none_names ys) all in
        chain (bytes_eq (list_word y) w) (Some y) (word_in list_word ys w) (list.Names n) is
        (λ same hit. let s : no_name (list.Names n) ≡ true = sym (ap no_name (some_is y (list.Names n) hit)) ∙ k.0 in absurd (cc (s)))
        (λ later. no_names ys k.1 later)
one_word w list.Empty e = (refl, refl)
one_word w list.Abort e = (refl, refl)
one_word w list.NoMemory e = (refl, refl)
one_word w (list.Broken b) e = (refl, refl)

listed_is : (head w : List ℕ) (p : ℕ) (e : Event) → fits p ≡ true → bytes_eq head (codes "listed") ≡ true → on (word_in list_word all_lists w) (λ y. Some (Listed p y)) ≡ Some e → IsReadAs (head ∷ decimal p ∷ w ∷ []) e
listed_is head w p e h same hit =
    let f = on_is (word_in list_word all_lists w) (λ (o : ListReply). Some (Listed p o)) e hit in
    let n = word_in_is list_word all_lists w f.value f.is in
    let one = one_word w f.value f.is in
    let words : event_words (Listed p f.value) ≡ head ∷ decimal p ∷ w ∷ [] =
    ap (λ (ws : List (List ℕ)). codes "listed" ∷ decimal p ∷ ws) one.0 ∙ three_words head w p (codes "listed") (list_word f.value) same n in
    three_as head w p e (Listed p f.value) words (and_true (fits p) (list_fits f.value) h one.1) f.gives

three_is : OneDecimal → (head w : List ℕ) (p : ℕ) (e : Event) → fits p ≡ true → event_three head p w ≡ Some e → IsReadAs (head ∷ decimal p ∷ w ∷ []) e
unfolding event_three
three_is law head w p e h is =
    chain (bytes_eq head (codes "claim")) _ _ e is (λ same hit. claim_is law head w p e h same hit) (λ is.
    chain (bytes_eq head (codes "open-failed")) _ _ e is (λ same hit. failed_is head w p e h same hit) (λ is.
    chain (bytes_eq head (codes "answered")) _ _ e is (λ same hit. answered_is head w p e h same hit) (λ is.
    chain (bytes_eq head (codes "listed")) _ _ e is (λ same hit. listed_is head w p e h same hit) (λ is.
    chain (bytes_eq head (codes "redone")) _ _ e is (λ same hit. redone_is head w p e h same hit) (λ none. none_is e none)))))

four_as : (head v w : List ℕ) (p : ℕ) (e x : Event) → event_words x ≡ head ∷ decimal p ∷ v ∷ w ∷ [] → event_fits x ≡ true → Some x ≡ Some e → IsReadAs (head ∷ decimal p ∷ v ∷ w ∷ []) e
four_as head v w p e x words small hit =
    subst (λ (y : Event). IsReadAs (head ∷ decimal p ∷ v ∷ w ∷ []) y) (some_is x e hit) (record { words = words; small = small })

four_words : (head v w : List ℕ) (p : ℕ) (u x y : List ℕ) → bytes_eq head u ≡ true → x ≡ v → y ≡ w → (u ∷ decimal p ∷ x ∷ y ∷ []) ≡ (head ∷ decimal p ∷ v ∷ w ∷ [])
four_words head v w p u x y same is also = same_four u head (decimal p) (decimal p) x v y w (sym (same_bytes head u same)) refl is also

close_is : OneDecimal → (head v w : List ℕ) (p : ℕ) (e : Event) → fits p ≡ true → bytes_eq head (codes "close") ≡ true → close_of p v w ≡ Some e → IsReadAs (head ∷ decimal p ∷ v ∷ w ∷ []) e
close_is law head v w p e h same hit =
    let f = on_is (number v) (λ (a : ℕ). on (word_in own_word all_owns w) (λ (o : Own). Some (Close p a o))) e hit in
    let n = number_is law v f.value f.is in
    let g = on_is (word_in own_word all_owns w) (λ (o : Own). Some (Close p f.value o)) e f.gives in
    let o = word_in_is own_word all_owns w g.value g.is in
    four_as head v w p e (Close p f.value g.value) (four_words head v w p (codes "close") (decimal f.value) (own_word g.value) same n.0 o)
    (and_true (fits p) (fits f.value) h n.1) g.gives

opened_is : (head v w : List ℕ) (p : ℕ) (e : Event) → fits p ≡ true → bytes_eq head (codes "opened") ≡ true → opened_of p v w ≡ Some e → IsReadAs (head ∷ decimal p ∷ v ∷ w ∷ []) e
opened_is head v w p e h same hit =
    let f = on_is (flag (codes "smudge") v) (λ (x : Bool). on (flag (codes "delay") w) (λ (y : Bool). Some (Opened p (record { smudge = x; delay = y })))) e hit in
    let n = flag_is (codes "smudge") v f.value f.is in
    let g = on_is (flag (codes "delay") w) (λ (y : Bool). Some (Opened p (record { smudge = f.value; delay = y }))) e f.gives in
    let o = flag_is (codes "delay") w g.value g.is in
    four_as head v w p e (Opened p (record { smudge = f.value; delay = g.value }))
    (four_words head v w p (codes "opened") (word_if f.value (codes "smudge")) (word_if g.value (codes "delay")) same n o) h g.gives

names_is : OneDecimal → (head v w : List ℕ) (p : ℕ) (e : Event) → fits p ≡ true → bytes_eq head (codes "listed") ≡ true → names_of p v w ≡ Some e → IsReadAs (head ∷ decimal p ∷ v ∷ w ∷ []) e
unfolding names_of
names_is law head v w p e h same is =
    chain (bytes_eq v (codes "names")) _ _ e is (λ here hit.
    let f = on_is (number w) (λ (n : ℕ). Some (Listed p (list.Names n))) e hit in
    let n = number_is law w f.value f.is in
    four_as head v w p e (Listed p (list.Names f.value))
    (four_words head v w p (codes "listed") (codes "names") (decimal f.value) same (sym (same_bytes v (codes "names") here)) n.0)
    (and_true (fits p) (fits f.value) h n.1) f.gives) (λ none. none_is e none)

four_is : OneDecimal → (head v w : List ℕ) (p : ℕ) (e : Event) → fits p ≡ true → event_four head p v w ≡ Some e → IsReadAs (head ∷ decimal p ∷ v ∷ w ∷ []) e
unfolding event_four
four_is law head v w p e h is =
    chain (bytes_eq head (codes "close")) _ _ e is (λ same hit. close_is law head v w p e h same hit) (λ is.
    chain (bytes_eq head (codes "opened")) _ _ e is (λ same hit. opened_is head v w p e h same hit) (λ is.
    chain (bytes_eq head (codes "listed")) _ _ e is (λ same hit. names_is law head v w p e h same hit) (λ none. none_is e none)))

pub event_is : OneDecimal → (ws : List (List ℕ)) (e : Event) → event_of ws ≡ Some e → IsReadAs ws e
event_is law [] e is = none_is e is
event_is law (head ∷ []) e is = none_is e is
event_is law (head ∷ n ∷ []) e is =
    let f = on_is (number n) (λ (x : ℕ). event_two head x) e is in
    let k = number_is law n f.value f.is in
    subst (λ (x : List ℕ). IsReadAs (head ∷ x ∷ []) e) k.0 (two_is head f.value e k.1 f.gives)
event_is law (head ∷ n ∷ v ∷ []) e is =
    let f = on_is (number n) (λ (x : ℕ). event_three head x v) e is in
    let k = number_is law n f.value f.is in
    subst (λ (x : List ℕ). IsReadAs (head ∷ x ∷ v ∷ []) e) k.0 (three_is law head v f.value e k.1 f.gives)
event_is law (head ∷ n ∷ v ∷ w ∷ []) e is =
    let f = on_is (number n) (λ (x : ℕ). event_four head x v w) e is in
    let k = number_is law n f.value f.is in
    subst (λ (x : List ℕ). IsReadAs (head ∷ x ∷ v ∷ w ∷ []) e) k.0 (four_is law head v w f.value e k.1 f.gives)
event_is law (head ∷ n ∷ v ∷ w ∷ x ∷ ws) e is = none_is e is

-- the last line
end_none : (o : Option ℕ) → on o (λ n. event_two (codes "end") n) ≡ None
unfolding event_two
end_none None = refl
end_none (Some n) = refl

pub end_no_event : (n : ℕ) → event_of (end_words n) ≡ None
end_no_event n = end_none (number (decimal n))

pub end_read : OneDecimal → (k : ℕ) → fits k ≡ true → is_end k (end_words k) ≡ true
unfolding end_two
end_read law k h = ap (λ (o : Option ℕ). same_number o k) (number_decimal law k h) ∙ eqb_self k

pub end_is : OneDecimal → (k : ℕ) (ws : List (List ℕ)) → is_end k ws ≡ true → ws ≡ end_words k
unfolding end_two
end_is law k [] is = absurd (cc (is))
end_is law k (head ∷ []) is = absurd (cc (is))
end_is law k (head ∷ n ∷ []) is =
    let h = both_and (bytes_eq head (codes "end")) (same_number (number n) k) is in
    same_two head (codes "end") n (decimal k) (same_bytes head (codes "end") h.0) (go (number n) refl h.1)
  where
    go : (o : Option ℕ) → number n ≡ o → same_number o k ≡ true → n ≡ decimal k
    go None at same = absurd (cc (same))
    go (Some m) at same = let here : m ≡ k = grind (arith, common_steps) in sym (number_is law n m at).0 ∙ ap decimal here
end_is law k (head ∷ n ∷ v ∷ ws) is = absurd (cc (is))
