use Rattle.std.proofs.Common.{◌≡◌, ◌++◌, true, false, ℕ, List, Option, Vec, Global, IfSome, is_some, chars, sym, ap, ◌∙◌, subst}
use Rattle.std.specs.List.{flat_map}
use Rattle.tree_encoding.specs.declared.prepared.Prepared.{Prepared}
use Rattle.tree_encoding.specs.Encode.{bytes_of, mark_of, is_encodable}
use Rattle.tree_encoding.proofs.Encoded.{encoded_of, kept_of}
use Rattle.tree_encoding.proofs.encoded_text.encode_text.Goals as goal

abbrev whole : List ℕ → Prepared
whole bytes = record { bytes = bytes; unencoded = false }

pub returns-in-Some-clause-encoded : goal.returns-in-Some-clause-encoded
returns-in-Some-clause-encoded c =
    let content : List ℕ = c.args.content.now in
    let e = c.args.encoding in
    let can : is_encodable content ≡ true = sym c.in_ok-text.ensures.exact ∙ ap is_some c.in-Some.is in
    let same = subst (λ (o : Option (Vec ℕ Global)). IfSome o (λ v. v.items ≡ mark_of e ++ flat_map (bytes_of e) (chars content))) c.in-Some.is c.in_ok-text.ensures.text in
    encoded_of content e can ∙ ap whole (sym same)

pub returns-in-None-clause-kept : goal.returns-in-None-clause-kept
returns-in-None-clause-kept c = kept_of c.args.content.now c.args.encoding (sym c.in_ok-text.ensures.exact ∙ ap is_some c.in-None.is)
