mod FirstRows
mod Fronts
mod Joined
mod Texts
