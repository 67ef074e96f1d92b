mod Dying
mod Playing
