-- The words of a journal have no space and no LF.
use Rattle.std.proofs.Common.{◌≡◌, ◌≤◌, ℕ, ◌<◌, Bool, true, false, cond, eqb, nat_lt, List, [], ◌∷◌, refl, ne_eqb, arith}
use Rattle.std.proofs.lemmas.Grind.{common_steps}
use Rattle.std.specs.Prelude.{codes}
use Rattle.std.specs.List.{list_all}
use Rattle.std.specs.Char.{is_ascii_digit}
use Rattle.std.specs.Fmt.{decimal}
use Rattle.byte_path.specs.Decimal.{OneDecimal}
use Rattle.filter_words.specs.declared.reply.BreakCause.{BreakCause}
use Rattle.filter_words.specs.declared.reply.BreakCause.TheVariants as break
use Rattle.filter_words.specs.declared.reply.Reply.{Reply}
use Rattle.filter_words.specs.declared.reply.Reply.TheVariants as reply
use Rattle.filter_words.specs.declared.reply.ListReply.{ListReply}
use Rattle.filter_words.specs.declared.reply.ListReply.TheVariants as list
use Rattle.checkout_core.specs.declared.verdict.ObjectKind.TheVariants as object
use Rattle.checkout_core.specs.declared.verdict.Own.{Own}
use Rattle.checkout_core.specs.declared.verdict.Own.TheVariants as own
use Rattle.checkout_core.specs.declared.event.OpenCause.{OpenCause}
use Rattle.checkout_core.specs.declared.event.OpenCause.TheVariants as opening
use Rattle.checkout_core.specs.declared.event.Event.{Event}
use Rattle.checkout_core.specs.declared.event.Event.TheVariants.{Claim, Close, Opened, OpenFailed, Answered, Named}
use Rattle.checkout_core.specs.declared.event.Event.TheVariants.{Listed, Redone, HandBack, Shut}
use Rattle.filter_words.specs.BreakWords.{break_word}
use Rattle.journal_audit.specs.Words.{own_word, opening_word, reply_word}
use Rattle.journal_audit.specs.Journal.{event_words, event_fits, fits, list_fits, list_words, word_if, end_words}
use Rattle.journal_audit.proofs.Clean.{clean, all_clean, both, both_and}

abbrev pub high : List ℕ → Bool
high [] = true
high (b ∷ bs) = cond (nat_lt 32 b) (high bs) false

abbrev pub all_high : List (List ℕ) → Bool
all_high [] = true
all_high (w ∷ ws) = cond (high w) (all_high ws) false

above : (c b : ℕ) → c ≤ 32 → nat_lt 32 b ≡ true → eqb b c ≡ false
above c b low e = let lt : 32 < b = grind (arith, common_steps) in ne_eqb b c (λ (is : b ≡ c). omega arith)

high_clean : (c : ℕ) (w : List ℕ) → c ≤ 32 → high w ≡ true → clean c w ≡ true
high_clean c [] low e = refl
high_clean c (b ∷ w) low e = let h = both (nat_lt 32 b) (high w) e in rw (above c b low h.0) (high_clean c w low h.1)

pub all_high_clean : (c : ℕ) (ws : List (List ℕ)) → c ≤ 32 → all_high ws ≡ true → all_clean c ws ≡ true
all_high_clean c [] low e = refl
all_high_clean c (w ∷ ws) low e = let h = both (high w) (all_high ws) e in rw (high_clean c w low h.0) (all_high_clean c ws low h.1)

digit_high : (b : ℕ) → is_ascii_digit b ≡ true → nat_lt 32 b ≡ true
digit_high b e = grind (arith, common_steps)

digits_high : (ds : List ℕ) → list_all is_ascii_digit ds ≡ true → high ds ≡ true
digits_high [] e = refl
digits_high (d ∷ ds) e =
    let h : (is_ascii_digit d ≡ true) × (list_all is_ascii_digit ds ≡ true) = both_and (is_ascii_digit d) (list_all is_ascii_digit ds) e in
    rw (digit_high d h.0) (digits_high ds h.1)

pub fits_le : (n : ℕ) → fits n ≡ true → n ≤ 4294967295
fits_le n e = grind (arith, common_steps)

pub decimal_high : OneDecimal → (n : ℕ) → fits n ≡ true → high (decimal n) ≡ true
decimal_high law n e = digits_high (decimal n) (law.digits (decimal n) (law.right n (omega (arith, fits_le n e))))

break_high : (b : BreakCause) → high (break_word b) ≡ true
break_high break.Ended = refl
break_high break.LinkFault = refl
break_high break.BadPacket = refl
break_high break.BadHandshake = refl
break_high break.UnknownStatus = refl
break_high break.StrangeDelay = refl
break_high break.TooLong = refl
break_high break.StrangePath = refl
break_high break.ListRefused = refl

own_high : (o : Own) → high (own_word o) ≡ true
own_high (own.Fine true) = refl
own_high (own.Fine false) = refl
own_high own.ReadFailed = refl
own_high own.WriteFailed = refl
own_high own.NoMemory = refl
own_high (own.Object object.Absent) = refl
own_high (own.Object object.Header) = refl
own_high (own.Object object.Size) = refl
own_high (own.Object object.WrongName) = refl
own_high (own.Object object.TooLarge) = refl

opening_high : (o : OpenCause) → high (opening_word o) ≡ true
opening_high opening.NotStarted = refl
opening_high opening.NoMemory = refl
opening_high (opening.Broken b) = break_high b

reply_high : (y : Reply) → high (reply_word y) ≡ true
reply_high reply.Content = refl
reply_high reply.Error = refl
reply_high reply.ErrorAfter = refl
reply_high reply.Abort = refl
reply_high reply.Delayed = refl
reply_high reply.NoMemory = refl
reply_high (reply.Broken b) = break_high b

pub one_high : (w : List ℕ) (ws : List (List ℕ)) → high w ≡ true → all_high ws ≡ true → all_high (w ∷ ws) ≡ true
one_high w ws e h = rw e h

pub last_high : (w : List ℕ) → high w ≡ true → all_high (w ∷ []) ≡ true
last_high w e = rw e refl

list_high : OneDecimal → (y : ListReply) → list_fits y ≡ true → all_high (list_words y) ≡ true
list_high law (list.Names n) e = last_high (decimal n) (decimal_high law n e)
list_high law list.Empty e = refl
list_high law list.Abort e = refl
list_high law list.NoMemory e = refl
list_high law (list.Broken b) e = last_high (break_word b) (break_high b)

smudge_high : (b : Bool) → high (word_if b (codes "smudge")) ≡ true
smudge_high true = refl
smudge_high false = refl

delay_high : (b : Bool) → high (word_if b (codes "delay")) ≡ true
delay_high true = refl
delay_high false = refl

pub event_high : OneDecimal → (e : Event) → event_fits e ≡ true → all_high (event_words e) ≡ true
event_high law (Claim p a) e =
    let h = both_and (fits p) (fits a) e in
    one_high (decimal p) (decimal a ∷ []) (decimal_high law p h.0) (last_high (decimal a) (decimal_high law a h.1))
event_high law (Close p a o) e =
    let h = both_and (fits p) (fits a) e in
    one_high (decimal p) (decimal a ∷ own_word o ∷ []) (decimal_high law p h.0)
    (one_high (decimal a) (own_word o ∷ []) (decimal_high law a h.1) (last_high (own_word o) (own_high o)))
event_high law (Opened d caps) e =
    one_high (decimal d) (word_if caps.smudge (codes "smudge") ∷ word_if caps.delay (codes "delay") ∷ []) (decimal_high law d e)
    (one_high (word_if caps.smudge (codes "smudge")) (word_if caps.delay (codes "delay") ∷ []) (smudge_high caps.smudge)
    (last_high (word_if caps.delay (codes "delay")) (delay_high caps.delay)))
event_high law (OpenFailed p o) e =
    one_high (decimal p) (opening_word o ∷ []) (decimal_high law p e) (last_high (opening_word o) (opening_high o))
event_high law (Answered p y) e =
    one_high (decimal p) (reply_word y ∷ []) (decimal_high law p e) (last_high (reply_word y) (reply_high y))
event_high law (Named p) e = last_high (decimal p) (decimal_high law p e)
event_high law (Listed d y) e =
    let h = both_and (fits d) (list_fits y) e in
    one_high (decimal d) (list_words y) (decimal_high law d h.0) (list_high law y h.1)
event_high law (Redone p y) e =
    one_high (decimal p) (reply_word y ∷ []) (decimal_high law p e) (last_high (reply_word y) (reply_high y))
event_high law (HandBack p) e = last_high (decimal p) (decimal_high law p e)
event_high law (Shut d) e = last_high (decimal d) (decimal_high law d e)

pub end_high : OneDecimal → (n : ℕ) → fits n ≡ true → all_high (end_words n) ≡ true
end_high law n e = last_high (decimal n) (decimal_high law n e)
