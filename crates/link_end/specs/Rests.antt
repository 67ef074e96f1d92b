-- How what a link keeps follows from all that the end did, between two ticks.
use Rattle.std.specs.Prelude.{◌≡◌, ℕ, ◌-◌, ◌≤◌, length, min, None, true, false, unwrap_or}
use Rattle.protocol_model.specs.Search.{newest_of}
use Rattle.connection_model.specs.Feed.{End, Past, tick_count}
use Rattle.connection_model.specs.Fates.{last_sent, high_of}
use Rattle.connection_model.specs.Pack.{last_packet_in, owes_head}
use Rattle.connection_model.specs.Past.{sent_bytes}
use Rattle.ack_book.specs.Keeps.{Keeps}
use Rattle.link_end.specs.Link.{Link, silence_most}

-- the tick of the last packet, 0 at first
abbrev pub last_tick : Past → ℕ
last_tick past = unwrap_or (newest_of last_packet_in past) 0

-- how many ticks there were since
abbrev pub silence : Past → ℕ
silence past = tick_count past - last_tick past

-- between two ticks a link is right about the past; packets are numbered from 1 on, and what moved was sent
pub record Rests (l : Link) (end : End) (past : Past) : Type 0 where
  pub book : Keeps l.book end.version past
  pub budget : l.budget ≡ end.budget
  pub silent : l.silent ≡ min silence_most (silence past)
  pub last : last_tick past ≤ tick_count past
  pub count : length (sent_bytes end past) ≡ last_sent past
  pub high : high_of past ≤ last_sent past
  pub heard : l.heard ≡ owes_head end.version past
  pub idle : l.begun ≡ None
  pub kept : l.spent ≡ false

-- want of memory ended the link
abbrev pub IsSpent : Link → Type 0
IsSpent l = l.spent ≡ true
