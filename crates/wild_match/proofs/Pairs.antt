-- The parts of equal pairs.
use Rattle.std.proofs.Common.{◌≡◌, ℕ, List, ap}

pub first_same : {p q : List ℕ × List ℕ} → p ≡ q → p.0 ≡ q.0
first_same same = ap (λ (x : List ℕ × List ℕ). x.0) same

pub second_same : {p q : List ℕ × List ℕ} → p ≡ q → p.1 ≡ q.1
second_same same = ap (λ (x : List ℕ × List ℕ). x.1) same
