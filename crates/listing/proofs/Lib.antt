mod Answers
mod Fitting
mod Follows
mod Lengths
mod Links
mod Naming
mod RecordIndex
mod ThreadIndex
