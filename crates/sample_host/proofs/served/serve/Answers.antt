use Rattle.std.proofs.Common.{rules, ℕ, List, inl, inr, Ok, refl, sym, ◌∙◌, subst, take}
use Rattle.std.specs.Io.KnownBytes.{Consumes}
use Rattle.driver_host.specs.declared.host.HostState.{HostState}
use Rattle.driver_host.specs.Hosts.{AnswerIs}
use Rattle.sample_host.proofs.Pieces.{nothing_answered, answered_on, end_answered}
use Rattle.sample_host.proofs.served.serve.Goals as goal

pub loop-init : goal.loop-init
loop-init g c = record {
  answers = λ bytes cs text is. nothing_answered g.A.Work.told g.A.Work.latest bytes cs text _ _ _ is;
  same = (refl, refl, refl);
}

pub returns-then-count-eq0-clause-serves : goal.returns-then-count-eq0-clause-serves
returns-then-count-eq0-clause-serves g c bytes cs text is = record {
  answers = end_answered g.A.Work.told g.A.Work.latest bytes cs text _ _ _ _ _ _
      (c.loop.invariant.answers bytes cs text is)
      (subst (λ (n : ℕ).
      Consumes (g.R.Read.remaining c.loop.input) (g.R.Read.remaining c.read.new.self)
      (take n c.read.new.buf))
      c.if-count-eq0.true c.in_ok-count.ensures.bytes.0);
  whole = inl (c.in_ok-count.ensures.bytes.1 c.if-count-eq0.true (search rules));
}

pub returns-in-Stopped-clause-serves : goal.returns-in-Stopped-clause-serves
returns-in-Stopped-clause-serves g c bytes cs text is = record {
  answers = answered_on g.A.Work.told g.A.Work.latest bytes cs text _ _ _ _ _ _ _ _ _
      (c.loop.invariant.answers bytes cs text is)
      (subst (λ (z : List ℕ).
      Consumes (g.R.Read.remaining c.loop.input) (g.R.Read.remaining c.read.new.self) z)
      (sym c.split_at.ensures.front) c.in_ok-count.ensures.bytes.0)
      c.in_ok-answer_piece.ensures.answers;
  whole = inr (subst (λ (s : HostState). AnswerIs (Ok s) c.answer_piece.new.host)
      c.in-Stopped.is c.in_ok-answer_piece.ensures.state).1;
}

pub loop-preserved : goal.loop-preserved
loop-preserved g c = record {
  answers = λ bytes cs text is.
      answered_on g.A.Work.told g.A.Work.latest bytes cs text _ _ _ _ _ _ _ _ _
      (c.loop.invariant.answers bytes cs text is)
      (subst (λ (z : List ℕ).
      Consumes (g.R.Read.remaining c.loop.input) (g.R.Read.remaining c.read.new.self) z)
      (sym c.split_at.ensures.front) c.in_ok-count.ensures.bytes.0)
      c.in_ok-answer_piece.ensures.answers;
  same = (
    c.answer_piece.ensures.same.0 ∙ c.loop.invariant.same.0,
    c.answer_piece.ensures.same.1 ∙ c.loop.invariant.same.1,
    c.answer_piece.ensures.same.2 ∙ c.loop.invariant.same.2,
  );
}
