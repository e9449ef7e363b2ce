use Rattle.std.proofs.Common.{◌≡◌, ◌++◌, true, ℕ, List, length, sym, ap, ◌∙◌, arith}
use Rattle.std.proofs.lemmas.Grind.{common_steps}
use Rattle.std.proofs.lemmas.Str.{IsUtf8-from_ascii, chars-IsAscii}
use Rattle.std.specs.Char.{is_ascii}
use Rattle.std.specs.List.{flat_map, list_all}
use Rattle.tree_encoding.proofs.Encoded.{not_text, text}
use Rattle.tree_encoding.proofs.Fronts.{all_below}
use Rattle.tree_encoding.proofs.encoded_text.text_in.Goals as goal

pub returns-then-is_ascii-clause-exact : goal.returns-then-is_ascii-clause-exact
returns-then-is_ascii-clause-exact g c =
    let content : List ℕ = c.args.content.now in
    let all : list_all is_ascii content ≡ true = sym c.is_ascii.ensures ∙ c.if-is_ascii.true in
    sym (text content (IsUtf8-from_ascii content (all_below content all)) (λ none. grind (arith, common_steps, c.is_empty.ensures, c.if-is_empty.false, ap length none)))

pub returns-then-is_ascii-clause-text : goal.returns-then-is_ascii-clause-text
returns-then-is_ascii-clause-text g c =
    let content : List ℕ = c.args.content.now in
    let all : list_all is_ascii content ≡ true = sym c.is_ascii.ensures ∙ c.if-is_ascii.true in
    c.in_ok-ascii_in.ensures ∙ ap (λ (xs : List ℕ). c.args.mark.now ++ flat_map g.F.Form.bytes_of xs) (sym (chars-IsAscii content (all_below content all)))

pub returns-in-Err-clause-exact : goal.returns-in-Err-clause-exact
returns-in-Err-clause-exact g c = sym (not_text c.args.content.now c.in-Err.ensures.cases.0)

pub returns-in_ok-characters_in-in-Ok-clause-exact : goal.returns-in_ok-characters_in-in-Ok-clause-exact
returns-in_ok-characters_in-in-Ok-clause-exact g c =
    let utf8 = c.in-Ok.ensures.cases in
    sym (text c.args.content.now utf8.1 (λ none. grind (arith, common_steps, c.is_empty.ensures, c.if-is_empty.false, ap length none)))
