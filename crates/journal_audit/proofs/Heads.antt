-- The first line and the starts are read as what they spell, and no other words are.
use Rattle.std.proofs.Common.{◌≡◌, ℕ, ◌<◌, ◌≤◌, Bool, true, false, cond, ◌&&◌, nat_le, nat_lt, List, [], ◌∷◌, Some, None, refl, sym, ◌∙◌, ap, subst, arith}
use Rattle.std.specs.Prelude.{codes}
use Rattle.std.specs.Str.{bytes_eq}
use Rattle.std.specs.Fmt.{decimal}
use Rattle.std.proofs.lemmas.Grind.{common_steps}
use Rattle.byte_path.specs.Decimal.{OneDecimal}
use Rattle.checkout_core.specs.declared.verdict.Verdict.{Verdict}
use Rattle.checkout_core.specs.declared.verdict.Verdict.TheVariants as verdict
use Rattle.checkout_core.specs.declared.verdict.FailCause.TheVariants as fail
use Rattle.checkout_core.specs.declared.verdict.SkipCause.TheVariants as skip
use Rattle.checkout_core.specs.declared.path.Start.{Start}
use Rattle.checkout_core.specs.declared.path.Start.TheVariants.{Pool, Desk, Done}
use Rattle.journal_audit.specs.declared.line_reader.Head.{Head}
use Rattle.journal_audit.specs.Journal.{start_words, start_fits, done_word, is_planned, need_word, fits, head_words}
use Rattle.journal_audit.specs.Reading.{number, on, word_in, all_planned, need, start_one, start_two, start_three, start_of, done_of, below, IsLimited}
use Rattle.journal_audit.specs.Reading.{is_head, limited_head, head_four, head_of}
use Rattle.journal_audit.proofs.Clean.{both_and}
use Rattle.journal_audit.proofs.Spelled.{high, all_high, decimal_high, one_high, last_high}
use Rattle.journal_audit.proofs.Readings.{on_some, on_is, some_is, chain, none_is, same_bytes, number_decimal, number_is, word_in_is, and_true}

pub small_fits : (n : ℕ) → n ≤ 4294967295 → fits n ≡ true
small_fits n low = grind (arith, common_steps)

pub below_is : (e d : ℕ) → nat_lt e d ≡ true → e < d
below_is e d h = grind (arith, common_steps)

le_is : (e d : ℕ) → nat_le e d ≡ true → e ≤ d
le_is e d h = grind (arith, common_steps)

is_le : (e d : ℕ) → e ≤ d → nat_le e d ≡ true
is_le e d h = grind (arith, common_steps)

pub limits_is : (w d p : ℕ) → is_head w d p ≡ true → IsLimited w d p
unfolding is_head
limits_is w d p e =
    let a = both_and (nat_le 1 w && nat_le w 16 && nat_le d 16) (nat_le p 100000) e in
    let b = both_and (nat_le 1 w && nat_le w 16) (nat_le d 16) a.0 in
    let c = both_and (nat_le 1 w) (nat_le w 16) b.0 in
    record { some_workers = le_is 1 w c.0; few_workers = le_is w 16 c.1; few_drivers = le_is d 16 b.1; few_paths = le_is p 100000 a.1 }

is_limits : (w d p : ℕ) → IsLimited w d p → is_head w d p ≡ true
unfolding is_head
is_limits w d p l =
    and_true (nat_le 1 w && nat_le w 16 && nat_le d 16) (nat_le p 100000)
    (and_true (nat_le 1 w && nat_le w 16) (nat_le d 16)
    (and_true (nat_le 1 w) (nat_le w 16) (is_le 1 w l.some_workers) (is_le w 16 l.few_workers)) (is_le d 16 l.few_drivers))
    (is_le p 100000 l.few_paths)

-- starts
need_read : (b : Bool) → need (need_word b) ≡ Some b
unfolding need
need_read true = refl
need_read false = refl

need_is : (w : List ℕ) (b : Bool) → need w ≡ Some b → need_word b ≡ w
unfolding need
need_is w b e =
    chain (bytes_eq w (codes "required")) (Some true) (cond (bytes_eq w (codes "optional")) (Some false) None) b e
    (λ same hit. ap need_word (sym (some_is true b hit)) ∙ sym (same_bytes w (codes "required") same))
    (λ later. chain (bytes_eq w (codes "optional")) (Some false) None b later
    (λ same hit. ap need_word (sym (some_is false b hit)) ∙ sym (same_bytes w (codes "optional") same))
    (λ none. none_is b none))

planned_read : (v : Verdict) → is_planned v ≡ true → done_of (done_word v) ≡ Some (Done v)
planned_read (verdict.Skipped skip.Gitlink) e = refl
planned_read (verdict.Skipped skip.Unmerged) e = refl
planned_read (verdict.Skipped skip.Sparse) e = refl
planned_read (verdict.Skipped skip.Intent) e = refl
planned_read (verdict.Failed fail.NameNotText) e = refl
planned_read (verdict.Failed fail.UnknownEncoding) e = refl
planned_read (verdict.Failed fail.NoProcess) e = refl
planned_read (verdict.Failed (fail.Filter c)) e = absurd (cc (e))
planned_read (verdict.Failed fail.Missing) e = absurd (cc (e))
planned_read (verdict.Failed (fail.Object k)) e = absurd (cc (e))
planned_read (verdict.Failed fail.ReadFailed) e = absurd (cc (e))
planned_read (verdict.Failed fail.WriteFailed) e = absurd (cc (e))
planned_read (verdict.Written u) e = absurd (cc (e))
planned_read (verdict.Unfiltered c u) e = absurd (cc (e))
planned_read verdict.NoMemory e = absurd (cc (e))

done_high : (v : Verdict) → is_planned v ≡ true → high (done_word v) ≡ true
done_high (verdict.Skipped skip.Gitlink) e = refl
done_high (verdict.Skipped skip.Unmerged) e = refl
done_high (verdict.Skipped skip.Sparse) e = refl
done_high (verdict.Skipped skip.Intent) e = refl
done_high (verdict.Failed fail.NameNotText) e = refl
done_high (verdict.Failed fail.UnknownEncoding) e = refl
done_high (verdict.Failed fail.NoProcess) e = refl
done_high (verdict.Failed (fail.Filter c)) e = absurd (cc (e))
done_high (verdict.Failed fail.Missing) e = refl
done_high (verdict.Failed (fail.Object k)) e = absurd (cc (e))
done_high (verdict.Failed fail.ReadFailed) e = refl
done_high (verdict.Failed fail.WriteFailed) e = refl
done_high (verdict.Written u) e = refl
done_high (verdict.Unfiltered c u) e = refl
done_high verdict.NoMemory e = refl

all_planned_are : List Verdict → Bool
all_planned_are [] = true
all_planned_are (v ∷ vs) = is_planned v && all_planned_are vs

found_planned : (vs : List Verdict) (w : List ℕ) (v : Verdict) → all_planned_are vs ≡ true → word_in done_word vs w ≡ Some v → is_planned v ≡ true
unfolding all_planned_are
found_planned [] w v all e = none_is v e
found_planned (x ∷ xs) w v all e =
    let k = both_and (is_planned x) (all_planned_are xs) all in
    chain (bytes_eq (done_word x) w) (Some x) (word_in done_word xs w) v e
    (λ same hit. sym (ap is_planned (some_is x v hit)) ∙ k.0)
    (λ later. found_planned xs w v k.1 later)

all_are : all_planned_are all_planned ≡ true
unfolding all_planned_are
all_are = refl

desk_read : OneDecimal → (drivers d : ℕ) (b : Bool) → drivers ≤ 16 → nat_lt d drivers ≡ true → start_three drivers (codes "desk") (decimal d) (need_word b) ≡ Some (Desk d b)
unfolding start_three
desk_read law drivers d b few lt =
    on_some (number (decimal d)) d (λ (x : ℕ). on (need (need_word b)) (λ (r : Bool). below drivers x r))
    (number_decimal law d (small_fits d (omega (arith, below_is d drivers lt))))
    ∙ on_some (need (need_word b)) b (λ (r : Bool). below drivers d r) (need_read b)
    ∙ rw lt refl

done_read : (v : Verdict) → is_planned v ≡ true → start_two (codes "done") (done_word v) ≡ Some (Done v)
unfolding start_two
done_read v e = planned_read v e

pool_read : start_one (codes "pool") ≡ Some Pool
unfolding start_one
pool_read = refl

pub start_read : OneDecimal → (drivers : ℕ) (s : Start) → drivers ≤ 16 → start_fits drivers s ≡ true → start_of drivers (start_words s) ≡ Some s
start_read law drivers Pool few e = pool_read
start_read law drivers (Desk d b) few e = desk_read law drivers d b few e
start_read law drivers (Done v) few e = done_read v e

need_high : (b : Bool) → high (need_word b) ≡ true
need_high true = refl
need_high false = refl

pub start_high : OneDecimal → (drivers : ℕ) (s : Start) → drivers ≤ 16 → start_fits drivers s ≡ true → all_high (start_words s) ≡ true
start_high law drivers Pool few e = refl
start_high law drivers (Desk d b) few e =
    one_high (decimal d) (need_word b ∷ []) (decimal_high law d (small_fits d (omega (arith, below_is d drivers e)))) (last_high (need_word b) (need_high b))
start_high law drivers (Done v) few e = last_high (done_word v) (done_high v e)

pub record IsStartRead (drivers : ℕ) (ws : List (List ℕ)) (s : Start) : Type 0 where
  pub words : start_words s ≡ ws
  pub right : start_fits drivers s ≡ true

start_as : (drivers : ℕ) (ws : List (List ℕ)) (s x : Start) → start_words x ≡ ws → start_fits drivers x ≡ true → Some x ≡ Some s → IsStartRead drivers ws s
start_as drivers ws s x words right hit = subst (λ (y : Start). IsStartRead drivers ws y) (some_is x s hit) (record { words = words; right = right })

one_is : (drivers : ℕ) (head : List ℕ) (s : Start) → start_one head ≡ Some s → IsStartRead drivers (head ∷ []) s
unfolding start_one
one_is drivers head s e =
    chain (bytes_eq head (codes "pool")) (Some Pool) None s e
    (λ same hit. start_as drivers (head ∷ []) s Pool (ap (λ (w : List ℕ). w ∷ []) (sym (same_bytes head (codes "pool") same))) refl hit)
    (λ none. none_is s none)

two_is : (drivers : ℕ) (head w : List ℕ) (s : Start) → start_two head w ≡ Some s → IsStartRead drivers (head ∷ w ∷ []) s
unfolding start_two
two_is drivers head w s e =
    chain (bytes_eq head (codes "done")) (done_of w) None s e
    (λ same hit.
    let f = on_is (word_in done_word all_planned w) (λ (v : Verdict). Some (Done v)) s hit in
    let is = word_in_is done_word all_planned w f.value f.is in
    let first = same_bytes head (codes "done") same in
    start_as drivers (head ∷ w ∷ []) s (Done f.value) (cc (is, first)) (found_planned all_planned w f.value all_are f.is) f.gives)
    (λ none. none_is s none)

three_is : OneDecimal → (drivers : ℕ) (head n w : List ℕ) (s : Start) → start_three drivers head n w ≡ Some s → IsStartRead drivers (head ∷ n ∷ w ∷ []) s
unfolding start_three
three_is law drivers head n w s e =
    chain (bytes_eq head (codes "desk")) (on (number n) (λ (d : ℕ). on (need w) (λ (r : Bool). below drivers d r))) None s e
    (λ same hit.
    let f = on_is (number n) (λ (d : ℕ). on (need w) (λ (r : Bool). below drivers d r)) s hit in
    let g = on_is (need w) (λ (r : Bool). below drivers f.value r) s f.gives in
    let k = number_is law n f.value f.is in
    let i = k.0 in
    let j = need_is w g.value g.is in
    let first = same_bytes head (codes "desk") same in
    chain (nat_lt f.value drivers) (Some (Desk f.value g.value)) None s g.gives
    (λ lt at. start_as drivers (head ∷ n ∷ w ∷ []) s (Desk f.value g.value) (cc (first, i, j)) lt at)
    (λ none. none_is s none))
    (λ none. none_is s none)

pub start_is : OneDecimal → (drivers : ℕ) (ws : List (List ℕ)) (s : Start) → start_of drivers ws ≡ Some s → IsStartRead drivers ws s
start_is law drivers [] s e = none_is s e
start_is law drivers (a ∷ []) s e = one_is drivers a s e
start_is law drivers (a ∷ b ∷ []) s e = two_is drivers a b s e
start_is law drivers (a ∷ b ∷ c ∷ []) s e = three_is law drivers a b c s e
start_is law drivers (a ∷ b ∷ c ∷ d ∷ ws) s e = none_is s e

-- the first line
abbrev pub head_as : ℕ → ℕ → ℕ → Head
head_as w d p = record { workers = w; drivers = d; paths = p }

limited_read : (w d p : ℕ) → IsLimited w d p → limited_head w d p ≡ Some (head_as w d p)
unfolding limited_head
limited_read w d p l = rw (is_limits w d p l) refl

pub head_read : OneDecimal → (w d p : ℕ) → IsLimited w d p → head_of (head_words w d p) ≡ Some (head_as w d p)
unfolding head_four
head_read law w d p l =
    on_some (number (decimal w)) w (λ (x : ℕ). on (number (decimal d)) (λ (y : ℕ). on (number (decimal p)) (λ (z : ℕ). limited_head x y z)))
    (number_decimal law w (small_fits w (omega (arith, l.few_workers))))
    ∙ on_some (number (decimal d)) d (λ (y : ℕ). on (number (decimal p)) (λ (z : ℕ). limited_head w y z))
    (number_decimal law d (small_fits d (omega (arith, l.few_drivers))))
    ∙ on_some (number (decimal p)) p (λ (z : ℕ). limited_head w d z) (number_decimal law p (small_fits p (omega (arith, l.few_paths))))
    ∙ limited_read w d p l

pub head_high : OneDecimal → (w d p : ℕ) → IsLimited w d p → all_high (head_words w d p) ≡ true
head_high law w d p l =
    one_high (decimal w) (decimal d ∷ decimal p ∷ []) (decimal_high law w (small_fits w (omega (arith, l.few_workers))))
    (one_high (decimal d) (decimal p ∷ []) (decimal_high law d (small_fits d (omega (arith, l.few_drivers))))
    (last_high (decimal p) (decimal_high law p (small_fits p (omega (arith, l.few_paths))))))

pub record IsHeadRead (ws : List (List ℕ)) (h : Head) : Type 0 where
  pub words : head_words h.workers h.drivers h.paths ≡ ws
  pub limits : IsLimited h.workers h.drivers h.paths

limited_is : (w d p : ℕ) (h : Head) → limited_head w d p ≡ Some h → (h ≡ head_as w d p) × IsLimited w d p
unfolding limited_head
limited_is w d p h e =
    chain (is_head w d p) (Some (head_as w d p)) None h e (λ same hit. (sym (some_is (head_as w d p) h hit), limits_is w d p same)) (λ none. none_is h none)

four_is : OneDecimal → (a b c d : List ℕ) (h : Head) → head_four a b c d ≡ Some h → IsHeadRead (a ∷ b ∷ c ∷ d ∷ []) h
unfolding head_four
four_is law a b c d h e =
    chain (bytes_eq a (codes "journal")) _ None h e
    (λ same hit.
    let f = on_is (number b) (λ (x : ℕ). on (number c) (λ (y : ℕ). on (number d) (λ (z : ℕ). limited_head x y z))) h hit in
    let g = on_is (number c) (λ (y : ℕ). on (number d) (λ (z : ℕ). limited_head f.value y z)) h f.gives in
    let k = on_is (number d) (λ (z : ℕ). limited_head f.value g.value z) h g.gives in
    let i = limited_is f.value g.value k.value h k.gives in
    let x = (number_is law b f.value f.is).0 in
    let y = (number_is law c g.value g.is).0 in
    let z = (number_is law d k.value k.is).0 in
    let first = same_bytes a (codes "journal") same in
    let words : head_words f.value g.value k.value ≡ a ∷ b ∷ c ∷ d ∷ [] = cc (first, x, y, z) in
    subst (λ (v : Head). IsHeadRead (a ∷ b ∷ c ∷ d ∷ []) v) (sym i.0) (record { words = words; limits = i.1 }))
    (λ none. none_is h none)

pub head_is : OneDecimal → (ws : List (List ℕ)) (h : Head) → head_of ws ≡ Some h → IsHeadRead ws h
head_is law [] h e = none_is h e
head_is law (a ∷ []) h e = none_is h e
head_is law (a ∷ b ∷ []) h e = none_is h e
head_is law (a ∷ b ∷ c ∷ []) h e = none_is h e
head_is law (a ∷ b ∷ c ∷ d ∷ []) h e = four_is law a b c d h e
head_is law (a ∷ b ∷ c ∷ d ∷ x ∷ ws) h e = none_is h e
