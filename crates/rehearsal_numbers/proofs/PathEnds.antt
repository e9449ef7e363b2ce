-- What becomes of one path of a checkout that nothing disturbed, if its object is right.
use Rattle.std.proofs.Common.{◌≡◌, ℕ, ◌<◌, Bool, true, false, cond, List, length, Option, Some, None, Ok, Err, refl, sym, ap, ◌∙◌, subst, arith}
use Rattle.std.specs.Prelude.{nat_lt}
use Rattle.std.proofs.lemmas.Bool.{true≢false, lt-ltb}
use Rattle.edge_kit.specs.Told.{Told, Raw, MayFail, TellsNone, TellsLong}
use Rattle.edge_kit.specs.declared.leaf_state.LeafState.{LeafState}
use Rattle.object_dir.specs.Object.{object_of, stored_content, max_stored, Gives, IsObject}
use Rattle.object_dir.specs.declared.fault.ObjectFault.{ObjectFault}
use Rattle.object_dir.specs.declared.fault.ObjectFault.TheVariants as object
use Rattle.checkout_core.specs.declared.verdict.Verdict.{Verdict}
use Rattle.checkout_core.specs.declared.verdict.Verdict.TheVariants as verdict
use Rattle.checkout_core.specs.declared.verdict.FailCause.TheVariants as fail
use Rattle.checkout_core.specs.declared.verdict.FilterCause.{FilterCause}
use Rattle.checkout_core.specs.declared.verdict.ObjectKind.{ObjectKind}
use Rattle.checkout_core.specs.declared.path.Heard.{Heard}
use Rattle.checkout_core.specs.declared.path.Heard.TheVariants as heard
use Rattle.convert_plan.specs.Prepared.{prepared}
use Rattle.checkout_plan.specs.declared.path_plan.PathPlan.{PathPlan}
use Rattle.checkout_plan.specs.Making.{FitsKind, object_kind}
use Rattle.checkout_paths.specs.Outcome.{Outcome, HasVerdict, HasDeskVerdict, HasCounts, file_with}
use Rattle.checkout_paths.specs.Talks.{DriverTalk, heard_at, was_read, Gave, is_no_memory}
use Rattle.rehearsal_numbers.proofs.Read.{told_bytes, one_content}

-- the leaf of a path has not failed
abbrev pub leaf_count : Option (LeafState × ℕ) → ℕ
leaf_count None = 0
leaf_count (Some leaf) = leaf.1

no_count : (o : Outcome) (blob : ℕ) (state : LeafState) (count : ℕ) → leaf_count o.leaf ≡ 0 → HasCounts o blob state count → 0 < count → ⊥
no_count o blob state count none h some =
    let e : leaf_count o.leaf ≡ count = ap leaf_count h.1 in
    omega (arith, none, e, some)

module _ (told : Told) (p : PathPlan) (raw content : List ℕ) (is : told ≡ Raw raw) (right : object_of raw p.object ≡ Ok content) where
  cannot_fail : MayFail told → ⊥
  cannot_fail h = subst MayFail is h

  gives_no_fault : (fault : ObjectFault) → Gives told p.object (Err fault) → ⊥
  gives_no_fault fault h =
      let stored : h.0 ≡ raw = told_bytes told raw h.0 is h.1 in
      let same : Err fault ≡ Ok content = sym h.2 ∙ ap (λ (b : List ℕ). object_of b p.object) stored ∙ right in
      cc (same)

  not_long : max_stored < length raw → ⊥
  not_long lt = by (nat_lt max_stored (length raw)) (lt-ltb max_stored (length raw) lt) right
    where
      by : (t : Bool) → t ≡ true → cond t (Err object.TooLarge) (stored_content raw p.object) ≡ Ok content → ⊥
      by true e h = cc (h)
      by false e h = absurd (true≢false (sym e))

  fits_none : (kind : ObjectKind) → FitsKind told p.object kind → ⊥
  fits_none kind h = by h.fault h.is h.fits
    where
      by : (fault : ObjectFault) → object_kind fault ≡ Some kind → IsObject told p.object (Err fault) → ⊥
      by object.ReadFailed e f = cc (e)
      by object.Absent e f = subst TellsNone is f
      by object.TooLarge e f = not_long (subst (λ (t : Told). TellsLong t max_stored) is f)
      by object.Header e f = gives_no_fault object.Header f
      by object.Size e f = gives_no_fault object.Size f
      by (object.WrongName found) e f = gives_no_fault (object.WrongName found) f
      by object.NoMemory e f = cc (e)

  -- a path of the workers is written, converted
  abbrev pub WrittenSo : Outcome → Type 0
  WrittenSo o = (flag : Bool) × (o.verdict ≡ verdict.Written flag)
      × (o.file ≡ Some (file_with p (prepared p.conversion p.object content).bytes))

  pub pool_ends : (o : Outcome) → leaf_count o.leaf ≡ 0 → is_no_memory o.verdict ≡ false → HasVerdict told p o o.verdict → WrittenSo o
  pool_ends o none memory h = by o.verdict refl memory h
    where
      by : (v : Verdict) → o.verdict ≡ v → is_no_memory v ≡ false → HasVerdict told p o v → WrittenSo o
      by verdict.NoMemory e m h = absurd (true≢false m)
      by (verdict.Failed fail.ReadFailed) e m h = absurd (cannot_fail h.1)
      by (verdict.Failed (fail.Object k)) e m h = absurd (fits_none k h.1)
      by (verdict.Failed fail.WriteFailed) e m h =
          absurd (no_count o 0 (h.1).2.0 (h.1).2.1 none (h.1).2.3 (h.1).2.2)
      by (verdict.Failed (fail.Filter why)) e m h = absurd h
      by (verdict.Failed fail.Missing) e m h = absurd h
      by (verdict.Failed fail.NoProcess) e m h = absurd h
      by (verdict.Failed fail.UnknownEncoding) e m h = absurd h
      by (verdict.Failed fail.NameNotText) e m h = absurd h
      by (verdict.Unfiltered why u) e m h = absurd h
      by (verdict.Skipped why) e m h = absurd h
      by (verdict.Written flag) e m h =
          let same : h.2.0 ≡ content = one_content told raw p.object content h.2.0 is right h.2.1 in
          (flag, e, h.2.3 ∙ ap (λ (c : List ℕ). Some (file_with p (prepared p.conversion p.object c).bytes)) same)

  -- a path of a driver ends by what it heard
  module _ (required : Bool) (d : ℕ) (t : DriverTalk) (n : ℕ) (o : Outcome) (none : leaf_count o.leaf ≡ 0)
      (memory : is_no_memory o.verdict ≡ false) (has : HasDeskVerdict required d t n told p o o.verdict) where
    pub read_is : was_read o.verdict ≡ true
    read_is = by o.verdict memory has
      where
        by : (v : Verdict) → is_no_memory v ≡ false → HasDeskVerdict required d t n told p o v → was_read v ≡ true
        by verdict.NoMemory m h = absurd (true≢false m)
        by (verdict.Failed fail.ReadFailed) m h = absurd (cannot_fail h.0)
        by (verdict.Failed (fail.Object k)) m h = absurd (fits_none k h.0)
        by (verdict.Failed fail.WriteFailed) m h = refl
        by (verdict.Failed (fail.Filter why)) m h = refl
        by (verdict.Failed fail.Missing) m h = refl
        by (verdict.Failed fail.NoProcess) m h = refl
        by (verdict.Failed fail.UnknownEncoding) m h = refl
        by (verdict.Failed fail.NameNotText) m h = refl
        by (verdict.Unfiltered why u) m h = refl
        by (verdict.Skipped why) m h = refl
        by (verdict.Written flag) m h = refl

    pub had_memory : heard_at d t n ≡ Some heard.OutOfMemory → ⊥
    had_memory bad = by o.verdict memory has
      where
        other : (h : Heard) → (h ≡ heard.OutOfMemory → ⊥) → heard_at d t n ≡ Some h → ⊥
        other h not_so e = let same : Some h ≡ Some heard.OutOfMemory = sym e ∙ bad in not_so (cc (same))

        by : (v : Verdict) → is_no_memory v ≡ false → HasDeskVerdict required d t n told p o v → ⊥
        by verdict.NoMemory m h = true≢false m
        by (verdict.Failed fail.ReadFailed) m h = cannot_fail h.0
        by (verdict.Failed (fail.Object k)) m h = fits_none k h.0
        by (verdict.Failed fail.WriteFailed) m h = no_count o 0 h.1 h.2 none h.5 h.3
        by (verdict.Failed (fail.Filter why)) m h = other (heard.Refused why) (λ e. cc (e)) h.1
        by (verdict.Failed fail.Missing) m h = other heard.Lost (λ e. cc (e)) h.0
        by (verdict.Failed fail.NoProcess) m h = h
        by (verdict.Failed fail.UnknownEncoding) m h = h
        by (verdict.Failed fail.NameNotText) m h = h
        by (verdict.Unfiltered why u) m h = other (heard.Refused why) (λ e. cc (e)) h.1
        by (verdict.Skipped why) m h = h
        by (verdict.Written flag) m h = other heard.Got (λ e. cc (e)) h.0

    -- what was got is written
    abbrev pub GotSo : Type 0
    GotSo = (flag : Bool) × (o.verdict ≡ verdict.Written flag)
        × (answer : List ℕ) × Gave t n answer × (o.file ≡ Some (file_with p answer))

    pub got_ends : heard_at d t n ≡ Some heard.Got → GotSo
    got_ends got = by o.verdict refl memory has
      where
        other : (h : Heard) → (h ≡ heard.Got → ⊥) → heard_at d t n ≡ Some h → ⊥
        other h not_so e = let same : Some h ≡ Some heard.Got = sym e ∙ got in not_so (cc (same))

        by : (v : Verdict) → o.verdict ≡ v → is_no_memory v ≡ false → HasDeskVerdict required d t n told p o v → GotSo
        by verdict.NoMemory e m h = absurd (true≢false m)
        by (verdict.Failed fail.ReadFailed) e m h = absurd (cannot_fail h.0)
        by (verdict.Failed (fail.Object k)) e m h = absurd (fits_none k h.0)
        by (verdict.Failed fail.WriteFailed) e m h = absurd (no_count o 0 h.1 h.2 none h.5 h.3)
        by (verdict.Failed (fail.Filter why)) e m h = absurd (other (heard.Refused why) (λ e. cc (e)) h.1)
        by (verdict.Failed fail.Missing) e m h = absurd (other heard.Lost (λ e. cc (e)) h.0)
        by (verdict.Failed fail.NoProcess) e m h = absurd h
        by (verdict.Failed fail.UnknownEncoding) e m h = absurd h
        by (verdict.Failed fail.NameNotText) e m h = absurd h
        by (verdict.Unfiltered why u) e m h = absurd (other (heard.Refused why) (λ e. cc (e)) h.1)
        by (verdict.Skipped why) e m h = absurd h
        by (verdict.Written flag) e m h = (flag, e, h.5, h.6, h.7)

    -- what was lost failed
    abbrev pub LostSo : Type 0
    LostSo = (o.verdict ≡ verdict.Failed fail.Missing) × (o.file ≡ None)

    pub lost_ends : heard_at d t n ≡ Some heard.Lost → LostSo
    lost_ends lost = by o.verdict refl memory has
      where
        other : (h : Heard) → (h ≡ heard.Lost → ⊥) → heard_at d t n ≡ Some h → ⊥
        other h not_so e = let same : Some h ≡ Some heard.Lost = sym e ∙ lost in not_so (cc (same))

        by : (v : Verdict) → o.verdict ≡ v → is_no_memory v ≡ false → HasDeskVerdict required d t n told p o v → LostSo
        by verdict.NoMemory e m h = absurd (true≢false m)
        by (verdict.Failed fail.ReadFailed) e m h = absurd (cannot_fail h.0)
        by (verdict.Failed (fail.Object k)) e m h = absurd (fits_none k h.0)
        by (verdict.Failed fail.WriteFailed) e m h = absurd (no_count o 0 h.1 h.2 none h.5 h.3)
        by (verdict.Failed (fail.Filter why)) e m h = absurd (other (heard.Refused why) (λ e. cc (e)) h.1)
        by (verdict.Failed fail.Missing) e m h = (e, h.2)
        by (verdict.Failed fail.NoProcess) e m h = absurd h
        by (verdict.Failed fail.UnknownEncoding) e m h = absurd h
        by (verdict.Failed fail.NameNotText) e m h = absurd h
        by (verdict.Unfiltered why u) e m h = absurd (other (heard.Refused why) (λ e. cc (e)) h.1)
        by (verdict.Skipped why) e m h = absurd h
        by (verdict.Written flag) e m h = absurd (other heard.Got (λ e. cc (e)) h.0)

    -- what a driver that isn't required refused is written as it is, converted
    abbrev pub RefusedSo : FilterCause → Type 0
    RefusedSo why = (flag : Bool) × (o.verdict ≡ verdict.Unfiltered why flag)
        × (o.file ≡ Some (file_with p (prepared p.conversion p.object content).bytes))

    pub refused_ends : (why : FilterCause) → required ≡ false → heard_at d t n ≡ Some (heard.Refused why) → RefusedSo why
    refused_ends why optional refused = by o.verdict refl memory has
      where
        other : (h : Heard) → (h ≡ heard.Refused why → ⊥) → heard_at d t n ≡ Some h → ⊥
        other h not_so e = let same : Some h ≡ Some (heard.Refused why) = sym e ∙ refused in not_so (cc (same))

        by : (v : Verdict) → o.verdict ≡ v → is_no_memory v ≡ false → HasDeskVerdict required d t n told p o v → RefusedSo why
        by verdict.NoMemory e m h = absurd (true≢false m)
        by (verdict.Failed fail.ReadFailed) e m h = absurd (cannot_fail h.0)
        by (verdict.Failed (fail.Object k)) e m h = absurd (fits_none k h.0)
        by (verdict.Failed fail.WriteFailed) e m h = absurd (no_count o 0 h.1 h.2 none h.5 h.3)
        by (verdict.Failed (fail.Filter w)) e m h = absurd (true≢false (sym h.0 ∙ optional))
        by (verdict.Failed fail.Missing) e m h = absurd (other heard.Lost (λ e. cc (e)) h.0)
        by (verdict.Failed fail.NoProcess) e m h = absurd h
        by (verdict.Failed fail.UnknownEncoding) e m h = absurd h
        by (verdict.Failed fail.NameNotText) e m h = absurd h
        by (verdict.Unfiltered w u) e m h =
            let same : Some (heard.Refused w) ≡ Some (heard.Refused why) = sym h.1 ∙ refused in
            let cause : w ≡ why = cc (same) in
            let one : (h.4).content ≡ content = one_content told raw p.object content (h.4).content is right (h.4).object in (
              u,
              e ∙ ap (λ (c : FilterCause). verdict.Unfiltered c u) cause,
              h.6 ∙ ap (λ r. Some (file_with p r.bytes)) (h.4).is
                  ∙ ap (λ (c : List ℕ). Some (file_with p (prepared p.conversion p.object c).bytes)) one,
            )
        by (verdict.Skipped w) e m h = absurd h
        by (verdict.Written flag) e m h = absurd (other heard.Got (λ e. cc (e)) h.0)
