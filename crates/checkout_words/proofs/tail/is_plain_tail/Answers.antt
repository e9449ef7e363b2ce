use Rattle.std.proofs.Common.{map, codes, string_bytes, ◌∙◌, arith}
use Rattle.std.proofs.lemmas.List.{length-map}
use Rattle.std.specs.Str.{bytes_eq}
use Rattle.clap.proofs.WalkLemmas.{list_any-map}
use Rattle.checkout_words.proofs.Tails.{short_plain}
use Rattle.checkout_words.proofs.tail.is_plain_tail.Goals as goal

pub returns-then-tail-le2 : goal.returns-then-tail-le2
returns-then-tail-le2 c = short_plain (map string_bytes c.args.tail.now) c.has_end.result
    (omega (arith, length-map c.args.tail.now string_bytes, c.if-tail-le2.true))
    (c.has_end.ensures ∙ list_any-map (λ word. bytes_eq word (codes "--")) string_bytes c.args.tail.now)
