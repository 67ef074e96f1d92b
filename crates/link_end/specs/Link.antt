-- What one end keeps of the packets that it sends and takes.
use Rattle.std.specs.Prelude.{ℕ, List, Bool, Option}
use Rattle.ack_book.specs.Book.{Book}

-- after so many ticks without a packet an empty one asks what became of those that are open
abbrev pub silence_most : ℕ
silence_most = 8

-- the packets of the tick under way: the number of the first, the bytes of those that are whole, oldest first, the
-- bits of the current one, and whether an item found no room
pub record Begun : Type 0 where
  pub first : ℕ
  pub whole : List (List ℕ)
  pub current : Option (List Bool)
  pub full : Bool

-- the book of numbers, the budget in bits a tick, the ticks since that of the last packet, at most 8, whether version
-- Two owes an answer to a packet taken since the last tick, and the tick under way; spent by a want of memory
pub record Link : Type 0 where
  pub book : Book
  pub budget : ℕ
  pub silent : ℕ
  pub heard : Bool
  pub begun : Option Begun
  pub spent : Bool
