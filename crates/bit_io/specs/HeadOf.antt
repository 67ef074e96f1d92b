use Rattle.std.specs.Prelude.{◌≡◌, ◌≤◌, ◌-◌, take, drop, replicate}
use Rattle.protocol_model.specs.Packet.{Head}
use Rattle.bit_io.specs.declared.head.Head.{Head as HeadValue}

-- the history that a head value stands for: its top, and as many of its words as it counts
abbrev pub head_of : HeadValue → Head
head_of h = record { top = h.top; words = take h.count h.words }

-- there are at most eight words, and those past the count are 0
pub record IsHead (h : HeadValue) : Type 0 where
  pub count : h.count ≤ 8
  pub past : drop h.count h.words ≡ replicate (8 - h.count) 0
