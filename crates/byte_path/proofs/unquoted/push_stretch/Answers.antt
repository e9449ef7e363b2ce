use Rattle.std.proofs.Common.{◌≡◌, ◌+◌, [], ◌∷◌, ◌++◌, take, drop, arith, rules}
use Rattle.byte_path.proofs.Stretches.{stretch-unclosed, stretch-closed, stretch-bad, stretch-escaped, escape_of}
use Rattle.byte_path.specs.Unquote.{escape_at}
use Rattle.byte_path.proofs.unquoted.push_stretch.Goals as goal

pub returns-in_default : goal.returns-in_default
returns-in_default c = stretch-unclosed c.args.text.now c.in_default.ensures

pub returns-then-text-end-eq34 : goal.returns-then-text-end-eq34
returns-then-text-end-eq34 c =
    let found = c.in-Some.ensures in
    let closed = stretch-closed c.args.bytes.now.items c.args.text.now c.in-Some.end found.0.high found.0.before c.if-text-end-eq34.true in
    let bytes : c.extend_from_slice.new.self.items ≡ c.args.bytes.now.items ++ take c.in-Some.end c.args.text.now = search rules in
    (omega (arith, found.0.high), rw bytes closed)

pub returns-in_ok-push-in-Some-escape_at : goal.returns-in_ok-push-in-Some-escape_at
returns-in_ok-push-in-Some-escape_at c =
    let found = c.in-Some.ensures in
    let is : escape_of c.in-Some-escape_at.byte c.in-Some-escape_at.len ≡ escape_at (drop (c.in-Some.end + 1) c.args.text.now) = search rules in
    let bytes : c.push.new.self.items ≡ (c.args.bytes.now.items ++ take c.in-Some.end c.args.text.now) ++ c.in-Some-escape_at.byte ∷ [] = search rules in
    rw bytes (stretch-escaped c.args.bytes.now.items c.args.text.now c.in-Some.end c.in-Some-escape_at.byte c.in-Some-escape_at.len
    found.0.high found.0.before found.1 c.if-text-end-eq34.false is)

pub returns-in-None : goal.returns-in-None
returns-in-None c =
    let found = c.in-Some.ensures in
    stretch-bad c.args.text.now c.in-Some.end found.0.high found.0.before found.1 c.if-text-end-eq34.false (search rules)
