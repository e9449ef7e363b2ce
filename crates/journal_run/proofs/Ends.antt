-- How words end, by the status.
use Rattle.std.proofs.Common.{◌⊎◌, ◌≡◌, ◌==◌, ◌<◌, ℕ, if◌then◌else◌, List, Option, Some, None, refl, sym, ap, ◌∙◌, subst, inl, inr, arith}
use Rattle.edge_kit.specs.Faults.{Rose}
use Rattle.edge_kit.specs.Seen.{BlobSeen, SinkSeen}
use Rattle.edge_kit.specs.Told.{Told}
use Rattle.journal_audit.specs.declared.answer.Audit.TheVariants.{Legal, Illegal, Unreadable}
use Rattle.exit_status.specs.declared.status.ExitStatus.{ExitStatus}
use Rattle.exit_status.specs.declared.status.ExitStatus.TheVariants as status
use Rattle.exit_status.specs.Output.{with_text}
use Rattle.exit_status.specs.Said.{Says, Unsaid}
use Rattle.exit_status.specs.Said as said
use Rattle.exit_status.specs.Status.{number_of}
use Rattle.journal_run.specs.declared.finding.Finding.{Finding}
use Rattle.journal_run.specs.declared.finding.Finding.TheVariants.{Absent, TooLarge, Audited}
use Rattle.journal_run.specs.declared.words.JournalTask.{JournalTask}
use Rattle.journal_run.specs.declared.words.JournalTask.TheVariants.{Rehearsal, Audit}
use Rattle.journal_run.specs.Ends.{IsAnswered, IsAnsweredBy, IsCutOff, IsUnread, EndsForm, Ends}
use Rattle.journal_run.specs.Findings.{IsFinding, finding_line, status_of}
use Rattle.journal_run.specs.Rehearsed.{IsJournalOf}

-- ---- a status by its number

status_at : ℕ → ExitStatus
status_at n =
    if n == 0 then status.Done
    else if n == 1 then status.DoneWithFailures
    else if n == 2 then status.Usage
    else if n == 3 then status.Refused
    else if n == 4 then status.OutputNotWritten
    else if n == 5 then status.OutOfMemory
    else if n == 6 then status.ReadFault
    else status.NotEmpty

at : (s : ExitStatus) → status_at (number_of s) ≡ s
unfolding status_at
at status.Done = refl
at status.DoneWithFailures = refl
at status.Usage = refl
at status.Refused = refl
at status.OutputNotWritten = refl
at status.OutOfMemory = refl
at status.ReadFault = refl
at status.NotEmpty = refl

-- the status of the line of a finding that is cut off
line_cut : (f : Finding) → said.cut_off (status_of f) ≡ status.OutputNotWritten
line_cut Absent = refl
line_cut TooLarge = refl
line_cut (Audited (Unreadable n)) = refl
line_cut (Audited (Illegal n)) = refl
line_cut (Audited (Legal events unclosed)) = refl

module _ (told : Told) (file file' : BlobSeen) (sink sink' : SinkSeen) where
  -- ---- an answer that is written

  answered : (f : Finding) (answer : List ℕ) → IsFinding told f → answer ≡ finding_line f → sink' ≡ with_text answer sink → EndsForm Audit told file file' sink sink' (status_of f)
  answered Absent answer found line written = (refl, (answer, (Absent, found, refl, line), written))
  answered TooLarge answer found line written = (refl, (answer, (TooLarge, found, refl, line), written))
  answered (Audited (Unreadable n)) answer found line written = (refl, (answer, (Audited (Unreadable n), found, refl, line), written))
  answered (Audited (Illegal n)) answer found line written = (refl, (answer, (Audited (Illegal n), found, refl, line), written))
  answered (Audited (Legal events unclosed)) answer found line written = (answer, (Audited (Legal events unclosed), found, refl, line), written)

  pub audit_ends : (f : Finding) (answer : List ℕ) (end : ExitStatus) → IsFinding told f → answer ≡ finding_line f → Says Unsaid answer (status_of f) sink sink' end → EndsForm Audit told file file' sink sink' end
  audit_ends f answer end found line w =
      let P : ExitStatus → Type 0 = λ s. EndsForm Audit told file file' sink sink' s in
      elim w [
        | inl h ↦ subst P (sym h.0) (answered f answer found line h.1)
        | inr k ↦ elim k [
          | inl h ↦ subst P (sym (h.0 ∙ line_cut f)) (record { status = status_of f; answer = answer; is = (f, found, refl, line); cut = h.1 })
          | inr h ↦ subst P (sym h.0) h.1
        ]
      ]

  pub journal_ends : (seed paths : ℕ) (answer : List ℕ) (end : ExitStatus) → IsJournalOf seed paths answer → Says Unsaid answer status.Done sink sink' end → EndsForm (Rehearsal seed paths) told file file' sink sink' end
  journal_ends seed paths answer end is w =
      let P : ExitStatus → Type 0 = λ s. EndsForm (Rehearsal seed paths) told file file' sink sink' s in
      elim w [
        | inl h ↦ subst P (sym h.0) (answer, (refl, is), h.1)
        | inr k ↦ elim k [
          | inl h ↦ subst P (sym h.0) (record { status = status.Done; answer = answer; is = (refl, is); cut = h.1 })
          | inr h ↦ subst P (sym h.0) h.1
        ]
      ]

  -- ---- the clauses of words

  -- how they end at the status of this number
  ends_at : (o : Option JournalTask) (s : ExitStatus) (n : ℕ) → number_of s ≡ n → Ends o told file file' sink sink' s → Ends o told file file' sink sink' (status_at n)
  ends_at o s n is ends = subst (λ (t : ExitStatus). Ends o told file file' sink sink' t) (sym (at s) ∙ ap status_at is) ends

  of_form : (o : Option JournalTask) (form : JournalTask) (s : ExitStatus) → o ≡ Some form → Ends o told file file' sink sink' s → EndsForm form told file file' sink sink' s
  of_form o form s is ends = subst (λ (x : Option JournalTask). Ends x told file file' sink sink' s) is ends

  pub done : (o : Option JournalTask) (form : JournalTask) (s : ExitStatus) → Ends o told file file' sink sink' s → o ≡ Some form → number_of s ≡ 0 → IsAnswered form told status.Done sink sink'
  unfolding status_at
  done o form s ends is n = of_form o form status.Done is (ends_at o s 0 n ends)

  pub illegal : (o : Option JournalTask) (s : ExitStatus) → Ends o told file file' sink sink' s → number_of s ≡ 1 → (o ≡ Some Audit) × IsAnswered Audit told status.DoneWithFailures sink sink'
  unfolding status_at
  illegal o s ends n = by o (ends_at o s 1 n ends)
    where
      by : (o : Option JournalTask) → Ends o told file file' sink sink' status.DoneWithFailures → (o ≡ Some Audit) × IsAnswered Audit told status.DoneWithFailures sink sink'
      by None none = absurd (cc none.0)
      by (Some form) one = (ap Some one.0, one.1)

  pub unreadable : (o : Option JournalTask) (s : ExitStatus) → Ends o told file file' sink sink' s → number_of s ≡ 3 → (o ≡ Some Audit) × IsAnswered Audit told status.Refused sink sink'
  unfolding status_at
  unreadable o s ends n = by o (ends_at o s 3 n ends)
    where
      by : (o : Option JournalTask) → Ends o told file file' sink sink' status.Refused → (o ≡ Some Audit) × IsAnswered Audit told status.Refused sink sink'
      by None none = absurd (cc none.0)
      by (Some form) one = (ap Some one.0, one.1)

  pub cut_off : (o : Option JournalTask) (form : JournalTask) (s : ExitStatus) → Ends o told file file' sink sink' s → o ≡ Some form → number_of s ≡ 4 → IsCutOff form told sink sink'
  unfolding status_at
  cut_off o form s ends is n = of_form o form status.OutputNotWritten is (ends_at o s 4 n ends)

  pub out_of_memory : (o : Option JournalTask) (s : ExitStatus) → Ends o told file file' sink sink' s → number_of s ≡ 5 → sink' ≡ sink
  unfolding status_at
  out_of_memory o s ends n = by o (ends_at o s 5 n ends)
    where
      by : (o : Option JournalTask) → Ends o told file file' sink sink' status.OutOfMemory → sink' ≡ sink
      by None none = none.2
      by (Some form) one = one

  pub read_fault : (o : Option JournalTask) (s : ExitStatus) → Ends o told file file' sink sink' s → number_of s ≡ 6 → (o ≡ Some Audit) × IsUnread told file file' × (sink' ≡ sink)
  unfolding status_at
  read_fault o s ends n = by o (ends_at o s 6 n ends)
    where
      by : (o : Option JournalTask) → Ends o told file file' sink sink' status.ReadFault → (o ≡ Some Audit) × IsUnread told file file' × (sink' ≡ sink)
      by None none = absurd (cc none.0)
      by (Some form) one = (ap Some one.0, one.1, one.2)

  pub unused : (o : Option JournalTask) (s : ExitStatus) → Ends o told file file' sink sink' s → number_of s ≡ 2 → o ≡ None
  unfolding status_at
  unused o s ends n = by o (ends_at o s 2 n ends)
    where
      by : (o : Option JournalTask) → Ends o told file file' sink sink' status.Usage → o ≡ None
      by None none = refl
      by (Some form) one = absurd one

  -- the number is one of the seven
  pub number_few : (o : Option JournalTask) (s : ExitStatus) → Ends o told file file' sink sink' s → number_of s < 7
  number_few None s none = subst (λ (t : ExitStatus). number_of t < 7) (sym none.0) (omega arith)
  number_few (Some form) status.Done one = omega arith
  number_few (Some form) status.DoneWithFailures one = omega arith
  number_few (Some form) status.Usage one = absurd one
  number_few (Some form) status.Refused one = omega arith
  number_few (Some form) status.OutputNotWritten one = omega arith
  number_few (Some form) status.OutOfMemory one = omega arith
  number_few (Some form) status.ReadFault one = omega arith
  number_few (Some form) status.NotEmpty one = absurd one

  -- where the words are neither form
  pub nothing : (o : Option JournalTask) (s : ExitStatus) → Ends o told file file' sink sink' s → o ≡ None → (s ≡ status.Usage) × (file' ≡ file) × (sink' ≡ sink)
  nothing o s ends is = subst (λ (x : Option JournalTask). Ends x told file file' sink sink' s) is ends

  -- where nothing fails
  pub complete : (o : Option JournalTask) (form : JournalTask) (s : ExitStatus) (n : ℕ) → Ends o told file file' sink sink' s → o ≡ Some form → n ≡ number_of s
      → (Rose file.faults file'.faults → ⊥) → (Rose sink.faults sink'.faults → ⊥) → (n ≡ 5) ⊎ IsAnsweredBy form told n sink sink'
  complete o form s n ends is number read written = by s number (of_form o form s is ends)
    where
      audited : (t : ExitStatus) → form ≡ Audit → IsAnswered Audit told t sink sink' → IsAnswered form told t sink sink'
      audited t same answer = subst (λ (f : JournalTask). IsAnswered f told t sink sink') (sym same) answer

      by : (s : ExitStatus) → n ≡ number_of s → EndsForm form told file file' sink sink' s → (n ≡ 5) ⊎ IsAnsweredBy form told n sink sink'
      by status.Done number answer = inr (status.Done, number, answer)
      by status.DoneWithFailures number answer = inr (status.DoneWithFailures, number, audited status.DoneWithFailures answer.0 answer.1)
      by status.Usage number none = absurd none
      by status.Refused number answer = inr (status.Refused, number, audited status.Refused answer.0 answer.1)
      by status.OutputNotWritten number cut = absurd (written (cut.cut).rose)
      by status.OutOfMemory number same = inl number
      by status.ReadFault number unread = absurd (read (unread.1).rose)
      by status.NotEmpty number none = absurd none
