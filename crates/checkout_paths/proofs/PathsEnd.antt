-- How all paths end, by what the pool leaves.
use Rattle.std.proofs.Common.{◌≡◌, ℕ, suc, ◌+◌, ◌≤◌, Bool, true, List, [], ◌∷◌, ◌++◌, length, map, Option, Some, None, refl, sym, ap, ◌∙◌, subst, arith}
use Rattle.std.specs.Prelude.{slice_get}
use Rattle.std.proofs.lemmas.List.{length-map}
use Rattle.std.proofs.lemmas.Option.{same_Some, slice_get-map, slice_get_past}
use Rattle.std.specs.Option.{option_map}
use Rattle.edge_kit.specs.Told.{Told, Tells}
use Rattle.edge_kit.specs.Joins.{JoinsLeaf, leaf_back as leaf_given}
use Rattle.edge_kit.specs.Seen.{RepoSeen, TreeSeen, blob_back as blob_given}
use Rattle.edge_kit.specs.declared.leaf_state.LeafState.{LeafState}
use Rattle.edge_kit.specs.declared.tree_file.TreeFile.{TreeFile}
use Rattle.convert_plan.specs.declared.card.Card.{Card}
use Rattle.checkout_core.specs.declared.event.Event.{Event}
use Rattle.checkout_core.specs.declared.path.Start.{Start}
use Rattle.checkout_core.specs.declared.path.Start.TheVariants as start
use Rattle.checkout_core.specs.declared.verdict.Verdict.{Verdict}
use Rattle.checkout_core.specs.Steps.{IsLegal}
use Rattle.checkout_core.specs.Closes.{IsComplete}
use Rattle.checkout_core.specs.Fates.{told_verdict}
use Rattle.checkout_core.specs.States.{AreBelow, Core, verdict_at, verdict_of}
use Rattle.checkout_core.specs.declared.path.Path.{Path}
use Rattle.checkout_book.specs.Sights.{Sight}
use Rattle.checkout_plan.specs.declared.path_plan.PathPlan.{PathPlan}
use Rattle.writer_pool.specs.Ends.{IsEndOf, AreEnds, IsRun}
use Rattle.writer_pool.specs.Sealing.{leaf_at}
use Rattle.checkout_paths.specs.Cards.{JoinAll}
use Rattle.checkout_paths.specs.Made.{is_open, open_paths}
use Rattle.checkout_paths.specs.Outcome.{Outcome, AreOutcomes}
use Rattle.checkout_paths.specs.Talks.{DriverTalk, AreDriverTalks, with_talks}
use Rattle.edge_kit.specs.Starters.{Starts, SpawnerSeen}
use Rattle.settings_view.specs.declared.view.Driver.{Driver}
use Rattle.checkout_paths.specs.Paths.{with_blobs, after_leaves, GotLeaves, blobs_back, leaves_back}
use Rattle.checkout_paths.specs.Workers.{starts_of}
use Rattle.checkout_paths.specs.Writing.{all_joined, joined, ArePathsDone}
use Rattle.checkout_paths.proofs.PathEnds.{untouched, closed_outcome, IsPathEnd}

-- the verdicts of the outcomes from the path n on
abbrev AreVerdicts : Core → ℕ → List Outcome → Type 0
AreVerdicts core n [] = Unit {0}
AreVerdicts core n (o ∷ os) = (verdict_at core n ≡ Some o.verdict) × AreVerdicts core (suc n) os

-- as many outcomes as paths
outcomes_length : (object : List ℕ → Told) (talks : List DriverTalk) (n : ℕ) (ps : List PathPlan) (os : List Outcome) → AreOutcomes object talks n ps os → length ps ≡ length os
outcomes_length object talks n [] [] all = refl
outcomes_length object talks n [] (o ∷ os) all = absurd all
outcomes_length object talks n (p ∷ ps) [] all = absurd all
outcomes_length object talks n (p ∷ ps) (o ∷ os) all = ap suc (outcomes_length object talks (suc n) ps os all.1)

-- verdicts by their places are those of the outcomes
same_verdicts : (core : Core) (n : ℕ) (os : List Outcome) (vs : List Verdict) → ((i : ℕ) → slice_get vs i ≡ verdict_at core (n + i)) → AreVerdicts core n os
    → verdict_at core (n + length os) ≡ None → map (λ o. o.verdict) os ≡ vs
same_verdicts core n [] [] each are past = refl
same_verdicts core n [] (v ∷ vs) each are past = absurd (let e : Some v ≡ None = each 0 ∙ past in cc e)
same_verdicts core n (o ∷ os) [] each are past =
    absurd (let e : None ≡ Some o.verdict = each 0 ∙ (ap (verdict_at core) (omega arith) ∙ are.0) in cc e)
same_verdicts core n (o ∷ os) (v ∷ vs) each are past =
    let first : v ≡ o.verdict = same_Some v o.verdict (each 0 ∙ (ap (verdict_at core) (omega arith) ∙ are.0)) in
    let rest : map (λ o. o.verdict) os ≡ vs = same_verdicts core (suc n) os vs (λ i. each (suc i) ∙ ap (verdict_at core) (omega arith)) are.1
    (ap (verdict_at core) (omega arith) ∙ past) in
    rw (first, rest) refl

-- past the last path there is no verdict
pub past_verdict : (core : Core) (n : ℕ) → length core.paths ≤ n → verdict_at core n ≡ None
past_verdict core n past = ap (λ (o : Option Path). elim o [ None ↦ None | Some r ↦ verdict_of r.state ]) (slice_get_past core.paths n past)

module _ {B L : Type 0} (see : Sight B L) (objects : List ℕ → Told) (talks : List DriverTalk) (paths : List PathPlan) (history : List Event) (cards : List (Card B L)) (core : Core) (leaf_of : ℕ → Option L) where
  abbrev given_blobs : List B → List (List ℕ × ℕ)
  given_blobs bs = map (λ b. blob_given (see.blob b)) bs

  abbrev given_leaves : List L → List (List ℕ × LeafState × ℕ)
  given_leaves ls = map (λ l. leaf_given (see.leaf l)) ls

  -- how the paths from n on end
  record Ended (n : ℕ) (ps : List PathPlan) (bs : List B) (ls : List L) (old new : Option (List TreeFile)) : Type 0 where
    outcomes : List Outcome
    fit : AreOutcomes objects talks n ps outcomes
    verdicts : AreVerdicts core n outcomes
    blobs : given_blobs bs ≡ blobs_back ps outcomes
    leaves : given_leaves ls ≡ leaves_back ps outcomes
    files : (fs : List TreeFile) → Tells old fs → Tells new (all_joined outcomes fs)

  -- what the run tells of verdicts
  pub record IsTold : Type 0 where
    pub told : (p : ℕ) (s : Start) → slice_get (starts_of paths) p ≡ Some s → verdict_at core p ≡ told_verdict (starts_of paths) history p s

  pub start_at : (n : ℕ) (p : PathPlan) → slice_get paths n ≡ Some p → slice_get (starts_of paths) n ≡ Some p.start
  start_at n p at = slice_get-map (λ (x : PathPlan). x.start) paths n ∙ ap (option_map (λ (x : PathPlan). x.start)) at

  -- an open path ends so, by what its blob and its leaf are
  pub record IsOpenEnd (n : ℕ) (p : PathPlan) (b : B) (l : L) (old new : Option (List TreeFile)) : Type 0 where
    pub verdict : Verdict
    pub end : IsPathEnd objects talks n p verdict (see.blob b) (see.leaf l) old new
    pub told : verdict_at core n ≡ Some verdict

  -- each open path does
  abbrev pub OpenPathsEnd : Type 0
  OpenPathsEnd = (n : ℕ) (p : PathPlan) (b : B) (l : L) (old new : Option (List TreeFile)) → slice_get paths n ≡ Some p → is_open p.start ≡ true → IsEndOf see (starts_of paths) history cards n b l
      → leaf_of n ≡ Some l → JoinsLeaf (see.leaf l) old new → IsOpenEnd n p b l old new

  -- one path that the plan closes
  closed_first : (n : ℕ) (p : PathPlan) (ps : List PathPlan) (v : Verdict) (bs : List B) (ls : List L) (old new : Option (List TreeFile)) → IsTold → slice_get paths n ≡ Some p
      → p.start ≡ start.Done v → Ended (suc n) ps bs ls old new → Ended n (p ∷ ps) bs ls old new
  closed_first n p ps v bs ls old new law at is rest = record {
    outcomes = untouched v ∷ rest.outcomes;
    fit = (closed_outcome objects talks n p v is, rest.fit);
    verdicts = (law.told n (start.Done v) (start_at n p at ∙ ap Some is), rest.verdicts);
    blobs = rest.blobs;
    leaves = rest.leaves;
    files = rest.files;
  }

  -- one open path
  open_first : (n : ℕ) (p : PathPlan) (ps : List PathPlan) (b : B) (l : L) (bs : List B) (ls : List L) (old mid new : Option (List TreeFile)) → IsOpenEnd n p b l old mid → Ended (suc n) ps bs ls mid new
      → Ended n (p ∷ ps) (b ∷ bs) (l ∷ ls) old new
  open_first n p ps b l bs ls old mid new one rest =
      let end = one.end in record {
        outcomes = end.outcome ∷ rest.outcomes;
        fit = (end.fits, rest.fit);
        verdicts = (one.told ∙ ap Some (sym end.same), rest.verdicts);
        blobs = ap (λ (xs : List (List ℕ × ℕ)). blob_given (see.blob b) ∷ xs) rest.blobs ∙ ap (λ (xs : List (List ℕ × ℕ)). xs ++ blobs_back ps rest.outcomes) end.blob_is;
        leaves = ap (λ (xs : List (List ℕ × LeafState × ℕ)). leaf_given (see.leaf l) ∷ xs) rest.leaves
            ∙ ap (λ (xs : List (List ℕ × LeafState × ℕ)). xs ++ leaves_back ps rest.outcomes) end.leaf_is;
        files = λ fs tells. rest.files (joined end.outcome.file fs) (end.grow fs tells);
      }

  first : (n : ℕ) (p : PathPlan) (ps : List PathPlan) (s : Start) (bs : List B) (ls : List L) (old new : Option (List TreeFile)) → OpenPathsEnd → IsTold
      → slice_get paths n ≡ Some p → p.start ≡ s → AreEnds see (starts_of paths) history cards n (s ∷ starts_of ps) bs ls → ((i : ℕ) → leaf_at (s ∷ starts_of ps) ls i ≡ leaf_of (n + i)) → JoinAll (map see.leaf ls) old new
      → ((bs : List B) (ls : List L) (mid : Option (List TreeFile)) → AreEnds see (starts_of paths) history cards (suc n) (starts_of ps) bs ls → ((i : ℕ) → leaf_at (starts_of ps) ls i ≡ leaf_of (suc n + i)) → JoinAll (map see.leaf ls) mid new → Ended (suc n) ps bs ls mid new)
      → Ended n (p ∷ ps) bs ls old new
  first n p ps (start.Done v) bs ls old new each law at is ends same joins rest = closed_first n p ps v bs ls old new law at is (rest bs ls old ends (λ i. same (suc i) ∙ ap leaf_of (omega arith)) joins)
  first n p ps start.Pool [] ls old new each law at is ends same joins rest = absurd ends
  first n p ps start.Pool (b ∷ bs) [] old new each law at is ends same joins rest = absurd ends
  first n p ps start.Pool (b ∷ bs) (l ∷ ls) old new each law at is ends same (mid, joins, more) rest =
      open_first n p ps b l bs ls old mid new (each n p b l old mid at (ap is_open is) ends.0 (ap leaf_of (omega arith) ∙ sym (same 0)) joins) (rest bs ls mid ends.1 (λ i. same (suc i) ∙ ap leaf_of (omega arith)) more)
  first n p ps (start.Desk d required) [] ls old new each law at is ends same joins rest = absurd ends
  first n p ps (start.Desk d required) (b ∷ bs) [] old new each law at is ends same joins rest = absurd ends
  first n p ps (start.Desk d required) (b ∷ bs) (l ∷ ls) old new each law at is ends same (mid, joins, more) rest =
      open_first n p ps b l bs ls old mid new (each n p b l old mid at (ap is_open is) ends.0 (ap leaf_of (omega arith) ∙ sym (same 0)) joins) (rest bs ls mid ends.1 (λ i. same (suc i) ∙ ap leaf_of (omega arith)) more)

  ended : (n : ℕ) (ps : List PathPlan) (bs : List B) (ls : List L) (old new : Option (List TreeFile)) → OpenPathsEnd → IsTold
      → ((i : ℕ) (p : PathPlan) → slice_get ps i ≡ Some p → slice_get paths (n + i) ≡ Some p)
      → AreEnds see (starts_of paths) history cards n (starts_of ps) bs ls → ((i : ℕ) → leaf_at (starts_of ps) ls i ≡ leaf_of (n + i)) → JoinAll (map see.leaf ls) old new → Ended n ps bs ls old new
  ended n [] [] [] old new each law at ends same joins = record {
    outcomes = [];
    fit = tt;
    verdicts = tt;
    blobs = refl;
    leaves = refl;
    files = λ fs tells. subst (λ (x : Option (List TreeFile)). Tells x fs) (sym joins) tells;
  }
  ended n [] [] (l ∷ ls) old new each law at ends same joins = absurd ends
  ended n [] (b ∷ bs) ls old new each law at ends same joins = absurd ends
  ended n (p ∷ ps) bs ls old new each law at ends same joins =
      first n p ps p.start bs ls old new each law (ap (slice_get paths) (omega arith) ∙ at 0 p refl) refl ends same joins
      (λ bs' ls' mid ends' same' joins'. ended (suc n) ps bs' ls' mid new each law (λ i q is. ap (slice_get paths) (omega arith) ∙ at (suc i) q is) ends' same' joins')

  -- as many blobs and leaves as open paths
  pub counts : (n : ℕ) (ps : List PathPlan) (bs : List B) (ls : List L) → AreEnds see (starts_of paths) history cards n (starts_of ps) bs ls
      → (length bs ≡ length (open_paths ps)) × (length ls ≡ length (open_paths ps))
  counts n [] [] [] ends = (refl, refl)
  counts n [] [] (l ∷ ls) ends = absurd ends
  counts n [] (b ∷ bs) ls ends = absurd ends
  counts n (p ∷ ps) bs ls ends =
      one p.start refl bs ls ends (λ bs' ls' ends'. counts (suc n) ps bs' ls' ends')
    where
      one : (s : Start) → p.start ≡ s → (bs : List B) (ls : List L) → AreEnds see (starts_of paths) history cards n (s ∷ starts_of ps) bs ls
          → ((bs : List B) (ls : List L) → AreEnds see (starts_of paths) history cards (suc n) (starts_of ps) bs ls
          → (length bs ≡ length (open_paths ps)) × (length ls ≡ length (open_paths ps)))
          → (length bs ≡ length (open_paths (p ∷ ps))) × (length ls ≡ length (open_paths (p ∷ ps)))
      one (start.Done v) is bs ls ends rest = rw (ap is_open is) (rest bs ls ends)
      one start.Pool is [] ls ends rest = absurd ends
      one start.Pool is (b ∷ bs) [] ends rest = absurd ends
      one start.Pool is (b ∷ bs) (l ∷ ls) ends rest = let r = rest bs ls ends.1 in rw (ap is_open is) (ap suc r.0, ap suc r.1)
      one (start.Desk d required) is [] ls ends rest = absurd ends
      one (start.Desk d required) is (b ∷ bs) [] ends rest = absurd ends
      one (start.Desk d required) is (b ∷ bs) (l ∷ ls) ends rest = let r = rest bs ls ends.1 in rw (ap is_open is) (ap suc r.0, ap suc r.1)

-- what is seen of a worktree by its parts
tree_is : (t : TreeSeen) (faults out : ℕ) (returned : List (List ℕ × LeafState × ℕ)) → t.faults ≡ faults → t.out ≡ out → t.returned ≡ returned
    → t ≡ record { empty = t.empty; files = t.files; faults = faults; out = out; returned = returned }
tree_is t faults out returned a b c =
    ap (λ (n : ℕ). record t { faults = n }) a
    ∙ ap (λ (n : ℕ). record t { faults = faults; out = n }) b
    ∙ ap (λ (l : List (List ℕ × LeafState × ℕ)). record t { faults = faults; out = out; returned = l }) c

-- blobs that were made and given back
pub blobs_got : (old mid new : RepoSeen) (n : ℕ) (xs ys : List (List ℕ × ℕ)) → mid ≡ record old { out = mid.out } → mid.out ≡ old.out + n → new.out + n ≡ mid.out
    → new ≡ record mid { out = new.out; returned = mid.returned ++ xs } → xs ≡ ys → new ≡ with_blobs old ys
blobs_got old mid new n xs ys made up down back same =
    let out : new.out ≡ old.out = omega (arith, up, down) in
    back ∙ ap (λ (m : RepoSeen). record m { out = new.out; returned = m.returned ++ xs }) made
    ∙ ap (λ (k : ℕ). record old { out = k; returned = old.returned ++ xs }) out
    ∙ ap (λ (l : List (List ℕ × ℕ)). with_blobs old l) same

-- it stays if there are no leaves
after_none : {A : Type 0} (leaves : List (List ℕ × LeafState × ℕ)) (old new : A) → (leaves ≡ [] → new ≡ old)
    → new ≡ after_leaves leaves old new
after_none [] old new stays = stays refl
after_none (l ∷ ls) old new stays = refl

no_items : {A C : Type 0} (f : A → C) (xs : List A) → map f xs ≡ [] → xs ≡ []
no_items f [] e = refl
no_items f (x ∷ xs) e = absurd (omega (arith, ap length e))

-- leaves that were made and given back
pub leaves_got : (old mid new : TreeSeen) (n : ℕ) (xs ys : List (List ℕ × LeafState × ℕ)) → mid ≡ record old { out = mid.out } → mid.out ≡ old.out + n → new.out + n ≡ mid.out
    → new.faults ≡ mid.faults → new.returned ≡ mid.returned ++ xs → (xs ≡ [] → new ≡ mid) → xs ≡ ys → GotLeaves old ys new
leaves_got old mid new n xs ys made up down faults back none same =
    tree_is new old.faults old.out (old.returned ++ ys) (faults ∙ ap (λ (t : TreeSeen). t.faults) made) (omega (arith, up, down))
    (back ∙ ap (λ (t : TreeSeen). t.returned ++ xs) made ∙ ap (λ (l : List (List ℕ × LeafState × ℕ)). old.returned ++ l) same)
    ∙ ap (λ (e : Option Bool). record old { empty = e; files = new.files; returned = old.returned ++ ys })
    (after_none ys old.empty new.empty (λ e. ap (λ (t : TreeSeen). t.empty) (none (same ∙ e)) ∙ ap (λ (t : TreeSeen). t.empty) made))
    ∙ ap (λ (fs : Option (List TreeFile)). record old { empty = after_leaves ys old.empty new.empty; files = fs; returned = old.returned ++ ys })
    (after_none ys old.files new.files (λ e. ap (λ (t : TreeSeen). t.files) (none (same ∙ e)) ∙ ap (λ (t : TreeSeen). t.files) made))

-- the laws of the core that are used here
abbrev pub VerdictsAreTold : Type 0
VerdictsAreTold = (starts : List Start) (workers drivers : ℕ) (history : List Event) (x : Core) → AreBelow drivers starts → IsLegal starts workers drivers history x → IsComplete x
    → (p : ℕ) (s : Start) → slice_get starts p ≡ Some s → verdict_at x p ≡ told_verdict starts history p s

abbrev pub KeepsSize : Type 0
KeepsSize = (starts : List Start) (workers drivers : ℕ) (history : List Event) (x : Core) → IsLegal starts workers drivers history x
    → (x.workers ≡ workers) × (length x.drivers ≡ drivers) × (length x.paths ≡ length starts)

-- what was made for all open paths, and given back
pub record AreBack {B L : Type 0} (see : Sight B L) (count : ℕ) (blobs : List B) (leaves : List L) (repo repo' : RepoSeen) (tree tree' : TreeSeen) : Type 0 where
  pub mid : RepoSeen
  pub mid_tree : TreeSeen
  pub repo_made : mid ≡ record repo { out = repo.out + count }
  pub tree_made : mid_tree ≡ record tree { out = tree.out + count }
  pub blobs_out : repo'.out + length blobs ≡ mid.out
  pub blobs_back : repo' ≡ record mid { out = repo'.out; returned = mid.returned ++ map (λ b. blob_given (see.blob b)) blobs }
  pub faults : tree'.faults ≡ mid_tree.faults
  pub leaves_out : tree'.out + length leaves ≡ mid_tree.out
  pub leaves_back : tree'.returned ≡ mid_tree.returned ++ map (λ l. leaf_given (see.leaf l)) leaves
  pub files : JoinAll (map see.leaf leaves) mid_tree.files tree'.files
  pub none : leaves ≡ [] → tree' ≡ mid_tree

-- all paths are done once the pool was left and the blobs, the leaves and the starters were given back
pub paths_done : {B L : Type 0} (see : Sight B L) (ahead : List ℕ → Starts) (objects : List ℕ → Told) (talks : List DriverTalk) (paths : List PathPlan) (drivers : List Driver) (history : List Event)
    (cards : List (Card B L)) (verdicts : List Verdict) (workers : ℕ) (blobs : List B) (leaves : List L) (repo repo' : RepoSeen) (tree tree' : TreeSeen) (spawner spawner' : SpawnerSeen)
    → VerdictsAreTold → KeepsSize → AreBelow (length drivers) (starts_of paths) → (run : IsRun (starts_of paths) workers (length drivers) history verdicts)
    → OpenPathsEnd see objects talks paths history cards run.core (leaf_at (starts_of paths) leaves) → AreEnds see (starts_of paths) history cards 0 (starts_of paths) blobs leaves
    → AreDriverTalks ahead objects paths verdicts history 0 drivers talks → spawner' ≡ with_talks spawner talks → AreBack see (length (open_paths paths)) blobs leaves repo repo' tree tree'
    → ArePathsDone ahead objects paths drivers verdicts history repo repo' tree tree' spawner spawner'
paths_done see ahead objects talks paths drivers history cards verdicts workers blobs leaves repo repo' tree tree' spawner spawner' told size below run each ends conversations starters back =
    let leaf_of = leaf_at (starts_of paths) leaves in
    let law : IsTold see objects talks paths history cards run.core leaf_of = record {
      told = told (starts_of paths) workers (length drivers) history run.core below run.legal run.complete;
    } in
    let end = ended see objects talks paths history cards run.core leaf_of 0 paths blobs leaves back.mid_tree.files tree'.files each law (λ i p at. ap (slice_get paths) (omega arith) ∙ at) ends
    (λ i. ap leaf_of (omega arith)) back.files in
    let count = counts see objects talks paths history cards run.core leaf_of 0 paths blobs leaves ends in
    let sizes = size (starts_of paths) workers (length drivers) history run.core run.legal in
    let blobs_made : back.mid.out ≡ repo.out + length (open_paths paths) = ap (λ (r : RepoSeen). r.out) back.repo_made in
    let leaves_made : back.mid_tree.out ≡ tree.out + length (open_paths paths) = ap (λ (t : TreeSeen). t.out) back.tree_made in
    let same : map (λ (o : Outcome). o.verdict) end.outcomes ≡ verdicts = same_verdicts run.core 0 end.outcomes verdicts (λ i. run.each i ∙ ap (verdict_at run.core) (omega arith)) end.verdicts
    (past_verdict run.core (0 + length end.outcomes) (omega (arith, outcomes_length objects talks 0 paths end.outcomes end.fit, sizes.2, length-map paths (λ (p : PathPlan). p.start)))) in
    record {
      talks = talks;
      outcomes = end.outcomes;
      same = same;
      count = outcomes_length objects talks 0 paths end.outcomes end.fit ∙ sym (length-map end.outcomes (λ (o : Outcome). o.verdict)) ∙ ap length same;
      fit = end.fit;
      conversations = conversations;
      starters = starters;
      blobs = blobs_got repo back.mid repo' (length blobs) _ _ (back.repo_made ∙ ap (λ (k : ℕ). record repo { out = k }) (sym blobs_made)) (omega (arith, blobs_made, count.0)) back.blobs_out back.blobs_back end.blobs;
      leaves = leaves_got tree back.mid_tree tree' (length leaves) _ _ (back.tree_made ∙ ap (λ (k : ℕ). record tree { out = k }) (sym leaves_made)) (omega (arith, leaves_made, count.1)) back.leaves_out back.faults back.leaves_back (λ e. back.none (no_items (λ l. leaf_given (see.leaf l)) leaves e)) end.leaves;
      files = λ fs tells. end.files fs (subst (λ (x : Option (List TreeFile)). Tells x fs) (sym (ap (λ (t : TreeSeen). t.files) back.tree_made)) tells);
    }
