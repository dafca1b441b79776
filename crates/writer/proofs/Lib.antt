mod Left
mod Lent
mod Outcomes
