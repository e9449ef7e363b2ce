use Rattle.std.proofs.Common.{◌≡◌, ℕ, ◌+◌, ◌<◌, length, drop, Some, None, sym, ap, subst, ◌∙◌, arith}
use Rattle.std.proofs.lemmas.List.{length-drop, drop-drop}
use Rattle.ident_convert.specs.Ident.{keyword_len}
use Rattle.ident_convert.proofs.Keywords.{quiet-dollars, quiet-more, has_keyword-nowhere, first-is, IsQuiet}
use Rattle.ident_convert.proofs.keyword.first_keyword.Goals as goal

pub returns-in_default : goal.returns-in_default
returns-in_default c =
    let none = rw c.split_at.ensures.back at c.in_default.ensures in
    let text = c.args.text.now in
    let quiet = quiet-dollars text c.dollars.place (length (drop c.dollars.place text)) c.dollars.invariant (omega arith) none in
    has_keyword-nowhere text (c.dollars.place + length (drop c.dollars.place text)) quiet (omega (arith, length-drop c.dollars.place text))

pub returns-in-Some-keyword_len : goal.returns-in-Some-keyword_len
returns-in-Some-keyword_len c =
    let found = rw c.split_at.ensures.back at c.in-Some.ensures in
    let text = c.args.text.now in
    let quiet = quiet-dollars text c.dollars.place c.in-Some.at c.dollars.invariant (omega (arith, found.0.high)) found.0.before in
    let rest = c.split_at-in-dollars.ensures.back ∙ ap (drop c.in-Some.at) c.split_at.ensures.back ∙ drop-drop c.in-Some.at c.dollars.place text in
    let here : keyword_len (drop (c.dollars.place + c.in-Some.at) text) ≡ Some c.in-Some-keyword_len.len =
    sym (ap keyword_len rest) ∙ sym c.keyword_len.ensures ∙ c.in-Some-keyword_len.is in
    first-is text (c.dollars.place + c.in-Some.at) c.in-Some-keyword_len.len quiet here

pub dollars-preserved : goal.dollars-preserved
dollars-preserved c =
    let found = rw c.split_at.ensures.back at c.in-Some.ensures in
    let text = c.args.text.now in
    let quiet = quiet-dollars text c.dollars.place c.in-Some.at c.dollars.invariant (omega (arith, found.0.high)) found.0.before in
    let rest = c.split_at-in-dollars.ensures.back ∙ ap (drop c.in-Some.at) c.split_at.ensures.back ∙ drop-drop c.in-Some.at c.dollars.place text in
    let here : keyword_len (drop (c.dollars.place + c.in-Some.at) text) ≡ None =
    sym (ap keyword_len rest) ∙ sym c.keyword_len.ensures ∙ c.in_default-keyword_len.is in
    let low : c.dollars.place + c.in-Some.at < length text = omega (arith, found.0.high, length-drop c.dollars.place text) in
    let next : c.dollars.place + c.in-Some.at + 1 ≡ c.dollars.place + (c.in-Some.at + 1) = omega arith in
    let P : ℕ → Type 0 = λ n. IsQuiet text n in
    subst P next (quiet-more text (c.dollars.place + c.in-Some.at) quiet low here)
