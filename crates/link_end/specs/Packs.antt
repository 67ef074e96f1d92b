-- How what a link keeps follows from the tick under way.
use Rattle.std.specs.Prelude.{◌≡◌, ℕ, ◌+◌, ◌%◌, ◌<◌, ◌≤◌, List, [], ◌∷◌, ◌++◌, map, length, min, drop, reverse, Bool, false, Some, slice_get}
use Rattle.std.specs.List.{flat_map}
use Rattle.protocol_model.specs.Limits.{packet_modulus, unresolved_limit}
use Rattle.protocol_model.specs.Packet.{start_bits, rec_bits}
use Rattle.connection_model.specs.Feed.{End, Past, Item, deeds_since_tick, tick_count}
use Rattle.connection_model.specs.Fates.{last_sent, head_of, high_of, taken_of, unresolved_count}
use Rattle.connection_model.specs.Pack.{Packing, rec_of, owes_head}
use Rattle.connection_model.specs.Past.{sent_bytes}
use Rattle.ack_book.specs.Keeps.{Keeps}
use Rattle.packing_laws.specs.Sendings.{sent_all}
use Rattle.link_end.specs.Link.{Link, Begun, silence_most}
use Rattle.link_end.specs.Begun.{closed_bytes}
use Rattle.link_end.specs.Rests.{last_tick, silence}

-- the past as it would be if the tick were to end now
abbrev pub sent_now : Packing → Past
sent_now p = sent_all p.past p.packets

-- a packet's bits without the end bit
abbrev pub packet_bits : End → Past → (number : ℕ) → List Item → List Bool
packet_bits end past number items =
    start_bits end.version (number % packet_modulus) (head_of end.version past)
    ++ flat_map (λ item. rec_bits end.version (rec_of item)) items

-- the bits of the packets begun, the newest first
abbrev pub bits_begun : End → Past → List (List Item) → List (List Bool)
bits_begun end past [] = []
bits_begun end past (items ∷ before) =
    packet_bits end past (last_sent past + 1 + length before) items ∷ bits_begun end past before

-- what is kept of the packets begun
abbrev pub begun_of : End → Packing → Begun
begun_of end p = record {
  first = last_sent p.past + 1;
  whole = reverse (map closed_bytes (drop 1 (bits_begun end p.past p.packets)));
  current = slice_get (bits_begun end p.past p.packets) 0;
  full = p.full;
}

-- in a tick that began after `before`, a link is right about what was packed by now: the book as if it were sent, and
-- the packets begun; a fate was free as the tick began
pub record Packs (l : Link) (end : End) (before : Past) (p : Packing) : Type 0 where
  pub book : Keeps l.book end.version (sent_now p)
  pub budget : l.budget ≡ end.budget
  pub silent : l.silent ≡ min silence_most (silence p.past)
  pub last : last_tick p.past ≤ tick_count p.past
  pub count : length (sent_bytes end p.past) ≡ last_sent p.past
  pub high : high_of p.past ≤ last_sent p.past
  pub few : unresolved_count p.past < unresolved_limit
  pub in_tick : taken_of (deeds_since_tick p.past) ≡ []
  pub heard : l.heard ≡ owes_head end.version before
  pub begun : l.begun ≡ Some (begun_of end p)
  pub kept : l.spent ≡ false
