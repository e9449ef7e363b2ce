use Rattle.std.proofs.Common.{◌++◌, ℕ, [], List, ap, ◌∙◌}
use Rattle.std.specs.Int.{w16, w32, to_be_bytes}
use Rattle.git_index.specs.Spelling.{mode_number, flags, written, before_of, after_of, more, is_flagged, path_part}
use Rattle.git_index.proofs.Pieces.{pieces, part_alone}
use Rattle.git_index.proofs.spelling.push_entry.Goals as goal

pub returns : goal.returns
returns c =
    let e = c.args.entry.now in
    let s = c.args.stat in
    let v = c.args.before.now.version in
    let last : List ℕ = c.args.before.now.path.now in
    pieces c.args.text.now.items _ _ _ _ _ _ _ (before_of s) (to_be_bytes w32 (mode_number e.mode)) (after_of s) e.name (to_be_bytes w16 (flags (written [] s e))) (more (is_flagged e) e) (path_part v last (written last s e))
    c.in_ok-push_before.ensures
    (c.in_ok-push_number.ensures ∙ ap (λ (n : ℕ). c.push_before.new.text.items ++ to_be_bytes w32 n) c.number_of.ensures)
    c.in_ok-push_after.ensures
    c.in_ok-extend_from_slice.ensures.items
    (c.in_ok-extend_from_slice-2.ensures.items ∙ ap (λ (r : List ℕ). c.extend_from_slice.new.self.items ++ r) (c.to_be_bytes.ensures ∙ ap (to_be_bytes w16) c.flags_of.ensures))
    c.in_ok-push_more.ensures
    (c.in_ok-push_path.ensures ∙ ap (λ (r : List ℕ). c.push_more.new.text.items ++ r) (part_alone v last s e))
