use Rattle.std.proofs.Common.{◌≡◌, ◌∙◌, [], List, ℕ, Ok, Err, ap, subst}
use Rattle.std.proofs.lemmas.Result.{err_from_is_err_and}
use Rattle.git_index.specs.declared.entry.Entry.{Entry}
use Rattle.git_index.specs.Reading.{last_of, path_or_none, entry_at, entries_at}
use Rattle.git_index.specs.Folders.{paths}
use Rattle.git_index.proofs.Loop.{goes_on, fails_reading, fails_placing, is_done}
use Rattle.git_index.proofs.index_body.entries_of.Goals as goal

pub returns-in_err-found : goal.returns-in_err-found
returns-in_err-found c =
    let p = err_from_is_err_and c.from_residual.result c.from_residual.ensures.1 in
    let last : c.last_path.result.now ≡ path_or_none (last_of c.loop-k.entries.items) = c.last_path.ensures ∙ ap (λ (es : List Entry). path_or_none (last_of es)) c.deref.ensures.value in
    rw (p.1, p.2) (λ some. fails_reading c.args.version c.args.count c.loop-k.k c.loop-k.entries.items c.loop-k.rest.now (paths c.loop-k.entries.items c.loop-k.stack.items) c.in_err-found.field-0.0 (entries_at c.args.version c.args.count [] [] c.args.bytes.now) c.loop-k-test.true c.loop-k.invariant.reading
    (subst (λ (path : List ℕ). entry_at c.args.version c.loop-k.k path c.loop-k.rest.now ≡ Err c.in_err-found.field-0.0) last (c.in_err-found.ensures some)))

pub returns-in_err-place : goal.returns-in_err-place
returns-in_err-place c =
    let p = err_from_is_err_and c.from_residual-in_err-place.result c.from_residual-in_err-place.ensures.1 in
    let last : c.last_path.result.now ≡ path_or_none (last_of c.loop-k.entries.items) = c.last_path.ensures ∙ ap (λ (es : List Entry). path_or_none (last_of es)) c.deref.ensures.value in
    let found : Entry = c.in_ok-found.found.entry in
    rw (p.1, p.2) (λ some. fails_placing c.args.version c.args.count c.loop-k.k c.loop-k.entries.items c.loop-k.rest.now c.in_ok-found.found.rest.now (paths c.loop-k.entries.items c.loop-k.stack.items) found c.in_err-place.field-0.0 (entries_at c.args.version c.args.count [] [] c.args.bytes.now) c.loop-k-test.true c.loop-k.invariant.reading
    (subst (λ (path : List ℕ). entry_at c.args.version c.loop-k.k path c.loop-k.rest.now ≡ Ok (found, c.in_ok-found.found.rest.now)) last c.in_ok-found.ensures) c.in_err-place.ensures.refused some)

pub loop-k-preserved : goal.loop-k-preserved
loop-k-preserved c =
    let last : c.last_path.result.now ≡ path_or_none (last_of c.loop-k.entries.items) = c.last_path.ensures ∙ ap (λ (es : List Entry). path_or_none (last_of es)) c.deref.ensures.value in
    let found : Entry = c.in_ok-found.found.entry in
    record {
      numbers = c.in_ok-place.ensures.numbered;
      reading = goes_on c.args.version c.args.count c.loop-k.k c.loop-k.entries.items c.place.new.entries.items c.loop-k.rest.now c.in_ok-found.found.rest.now (paths c.loop-k.entries.items c.loop-k.stack.items) (paths c.place.new.entries.items c.place.new.stack.items) found (entries_at c.args.version c.args.count [] [] c.args.bytes.now) c.loop-k-test.true c.loop-k.invariant.reading
          (subst (λ (path : List ℕ). entry_at c.args.version c.loop-k.k path c.loop-k.rest.now ≡ Ok (found, c.in_ok-found.found.rest.now)) last c.in_ok-found.ensures) c.in_ok-place.ensures.placed c.in_ok-place.ensures.grown c.in_ok-place.ensures.still;
    }

pub returns : goal.returns
returns c = is_done c.args.version c.args.count c.loop-k.k c.loop-k.entries.items c.loop-k.rest.now (paths c.loop-k.entries.items c.loop-k.stack.items) (entries_at c.args.version c.args.count [] [] c.args.bytes.now) c.loop-k-test.false c.loop-k.invariant.reading
