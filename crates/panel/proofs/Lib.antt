-- What the proofs of several functions use.
mod Outcome
mod Sentences
