pub mod Accepted
mod Reaches
mod Told
mod Shifting
mod Pairing
mod Looks
mod Renewing
mod Lawful
mod PairsAfter
mod Turning
mod Subjects
mod Rising
mod Seeing
mod Listing
mod Gathered
mod HeldLists
