mod Longest
mod Loops
mod Lengths
mod Named
mod Handles
mod Arguments
mod Guids
