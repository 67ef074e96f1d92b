mod Lengths
mod Fitting
mod Back
mod Spelled
