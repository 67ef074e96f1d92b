mod Distances
mod Relevant
mod Examples
