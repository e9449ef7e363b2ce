pub mod CostLemmas
pub mod DeltaLemmas
