use Rattle.std.proofs.Common.{◌≡◌, ◌≤◌, ◌<◌, ℕ, List, [], ◌∷◌, length, map, string_bytes, None, refl, arith}
use Rattle.std.proofs.lemmas.List.{length-map}
use Rattle.journal_run.specs.Words.{named_task}
use Rattle.journal_run.proofs.words.named_task.Goals as goal

one_word : (name : List ℕ) (tail : List (List ℕ)) → 1 ≤ length tail → length tail < 2 → None ≡ named_task name tail
one_word name [] some few = absurd (omega arith)
one_word name (seed ∷ []) some few = refl
one_word name (seed ∷ paths ∷ more) some few = absurd (omega arith)

more_words : (name : List ℕ) (tail : List (List ℕ)) → 3 ≤ length tail → None ≡ named_task name tail
more_words name [] many = absurd (omega arith)
more_words name (seed ∷ []) many = absurd (omega arith)
more_words name (seed ∷ paths ∷ []) many = absurd (omega arith)
more_words name (seed ∷ paths ∷ other ∷ more) many = refl

pub returns-in_default-2 : goal.returns-in_default-2
returns-in_default-2 c =
    let words = map string_bytes c.args.tail.now in
    one_word c.args.name.now words (omega (arith, length-map c.args.tail.now string_bytes, c.in_default.len_at_least))
    (omega (arith, length-map c.args.tail.now string_bytes, c.in_default.len_below))

pub returns-in_default-4 : goal.returns-in_default-4
returns-in_default-4 c =
    more_words c.args.name.now (map string_bytes c.args.tail.now)
    (omega (arith, length-map c.args.tail.now string_bytes, c.in_default.len_at_least))
