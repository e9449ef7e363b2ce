mod PlanFaults
mod CutShort
mod Stopped
