use Rattle.std.proofs.Common.{ℕ}
use Rattle.turn_lock.specs.Seat.{number_of}
use Rattle.checkout_book.specs.declared.plan.BookPlan.{BookPlan}
use Rattle.checkout_book.specs.Reserving.{HasNothing}
use Rattle.bench_books.proofs.work.work.Given as goal

abbrev pub invariant-loop-turn : goal.invariant-loop-turn
invariant-loop-turn g l = (d : BookPlan g.row.B.Denot g.row.L.Denot) (made : ℕ)
    → HasNothing l.fn.book d (number_of l.fn.pass) made l.fn.pass
    → HasNothing l.fn.book d (number_of l.fn.pass) made l.pass
