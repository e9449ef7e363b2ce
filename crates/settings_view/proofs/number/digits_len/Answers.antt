use Rattle.std.proofs.Common.{◌≡◌, ℕ, Option, length, ap, ◌∙◌}
use Rattle.std.specs.Option.{unwrap_or}
use Rattle.std.specs.Char.{is_ascii_digit}
use Rattle.std.specs.List.{prefix_len}
use Rattle.settings_view.proofs.Digits.{prefix_len-is, prefix_len-digits}
use Rattle.settings_view.proofs.number.digits_len.Goals as goal

pub returns-clause-value : goal.returns-clause-value
returns-clause-value c = c.unwrap_or.ensures ∙ ap (λ (o : Option ℕ). unwrap_or o (length c.args.text.now)) c.digits_end.ensures.value ∙ prefix_len-is c.args.text.now

pub returns-clause-digits : goal.returns-clause-digits
returns-clause-digits c =
    let e : c.unwrap_or.result ≡ prefix_len is_ascii_digit c.args.text.now = c.unwrap_or.ensures ∙ ap (λ (o : Option ℕ). unwrap_or o (length c.args.text.now)) c.digits_end.ensures.value ∙ prefix_len-is c.args.text.now in
    rw e (prefix_len-digits c.args.text.now)
