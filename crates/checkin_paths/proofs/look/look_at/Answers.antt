use Rattle.std.proofs.Common.{refl}
use Rattle.checkin_paths.specs.declared.path.Way.TheVariants.{Kept, UnknownEncoding as Unknown, NoProcess}
use Rattle.checkin_paths.proofs.Looked.{untaken_looks, found_comes, found_leaves}
use Rattle.checkin_paths.proofs.look.look_at.Goals as goal

pub returns-in-Kept-clause-looks : goal.returns-in-Kept-clause-looks
returns-in-Kept-clause-looks g c = untaken_looks _ _ _ c.args.visit.now.path.now Kept _ _ _ _ c.in-Kept.is (c.without_content.ensures.fate, refl) (λ o counts. counts)

pub returns-in-UnknownEncoding-clause-looks : goal.returns-in-UnknownEncoding-clause-looks
returns-in-UnknownEncoding-clause-looks g c = untaken_looks _ _ _ c.args.visit.now.path.now Unknown _ _ _ _ c.in-UnknownEncoding.is (c.failed.ensures.fate, refl) (λ o counts. counts)

pub returns-in-NoProcess-clause-looks : goal.returns-in-NoProcess-clause-looks
returns-in-NoProcess-clause-looks g c = untaken_looks _ _ _ c.args.visit.now.path.now NoProcess _ _ _ _ c.in-NoProcess.is (c.failed-in-NoProcess.ensures.fate, refl) (λ o counts. counts)

pub returns-clause-looks : goal.returns-clause-looks
returns-clause-looks g c =
    found_comes _ _ _ c.args.visit.now.path.now c.in-Stored.storing c.in-Stored.is _ _ _ _ _ _ _ c.in_ok-found.found c.found_fate.result c.in_ok-found.ensures.finds c.found_fate.ensures.becomes

pub returns-clause-unfailed : goal.returns-clause-unfailed
returns-clause-unfailed g c =
    (found_leaves _ _ _ c.args.visit.now.path.now c.in-Stored.storing c.in-Stored.is _ _ _ _ _ _ _ c.in_ok-found.found c.found_fate.result c.in_ok-found.ensures.finds c.found_fate.ensures.vain).0

pub returns-clause-left : goal.returns-clause-left
returns-clause-left g c =
    (found_leaves _ _ _ c.args.visit.now.path.now c.in-Stored.storing c.in-Stored.is _ _ _ _ _ _ _ c.in_ok-found.found c.found_fate.result c.in_ok-found.ensures.finds c.found_fate.ensures.vain).1
