-- What has come, at one end, of what the other sent.
use Rattle.std.specs.Prelude.{◌≡◌, ◌<◌, ℕ, length, ◌≤◌, ◌%◌, ◌==◌, ◌&&◌, List, [], ◌∷◌, Bool, false, map, reverse, filter, Option, None, Ok, true, pos, filter_map}
use Rattle.std.specs.List.{range_with_len, list_any, AllByRecursion}
use Rattle.std.specs.Bool.{then_some, MatchBool}
use Rattle.protocol_model.specs.Bits.{near}
use Rattle.protocol_model.specs.Packet.{Bunch}
use Rattle.protocol_model.specs.Payload.{Message, message_bits}
use Rattle.protocol_model.specs.Search.{is_among, newest_of}
use Rattle.protocol_model.specs.Limits.{packet_modulus, held_limit, payload_bits}
use Rattle.connection_model.specs.Feed.{End, Past, Deed, Made, Ended, ByCause, Delivered}
use Rattle.connection_model.specs.Fates.{taken_of, top_of, moved_of, last_sent}
use Rattle.connection_model.specs.Bunches.{made_count, made_bunch}
use Rattle.connection_model.specs.Items.{made_as}
use Rattle.connection_model.specs.Windows.{received_on, applied_of, numbers_of, as_number, wholes_of, next_of, held_count, part_fault, ends_payload}
use Rattle.connection_model.specs.Copies.{delivered_of}
use Rattle.connection_model.specs.PayloadReading.{payload_at}
use Rattle.replication_model.specs.Headline.{IsPrefix}
use Rattle.connection_laws.specs.Link.{MayCome, done_of}

-- a packet that may come is read by its own number; what was taken was sent; what the sender knows to have
-- arrived was taken to its end; and a bunch that was received was made, as it was received
pub record ReadsRight (from to : Past) : Type 0 where
  pub packet : (k : ℕ) → MayCome to from k → near (k % packet_modulus) (pos (top_of to)) packet_modulus ≡ pos k
  pub taken : (k : ℕ) → is_among k (taken_of to) ≡ true → (1 ≤ k) × (k ≤ last_sent from)
  pub moved : (k : ℕ) → is_among k (moved_of from) ≡ true → is_among k (done_of to) ≡ true
  pub received : (ch n : ℕ) → is_among n (numbers_of (received_on to ch)) ≡ true
      → (1 ≤ n) × (n ≤ made_count from ch)
      × (newest_of (as_number n) (received_on to ch) ≡ newest_of (made_as ch n) from)

-- the reliable bunches made on an index, the oldest first
abbrev pub bunches_made : Past → (ch : ℕ) → List Bunch
bunches_made past ch = filter_map (λ n. newest_of (made_as ch n) past) (range_with_len 1 (made_count past ch))

-- on each index, the run of bunches applied is a prefix of those made
abbrev pub AppliesPrefixes : (from to : Past) → Type 0
AppliesPrefixes from to = (ch : ℕ) → IsPrefix (applied_of (received_on to ch)) (bunches_made from ch)

-- a message made on an index, with the number of its first bunch
abbrev pub Numbered : Type 0
Numbered = ℕ × Message

-- the message whose first bunch a deed made on the index
abbrev pub numbered_in : ℕ → Deed → Option Numbered
numbered_in ch (Made channel number message i) = then_some (channel == ch && i == 0) (number, message)
numbered_in ch deed = None

-- the messages made on an index, the newest first
abbrev pub on_index : ℕ → Past → List Numbered
on_index ch past = filter_map (numbered_in ch) past

-- and the oldest first
abbrev pub messages_on : Past → (ch : ℕ) → List Numbered
messages_on past ch = reverse (on_index ch past)

-- a message as it is joined again: its first bunch and its bits
abbrev pub payload_of : (ch : ℕ) → Numbered → Bunch × List Bool
payload_of ch made = (made_bunch ch made.0 made.1 0, message_bits made.1)

-- on each index, the whole payloads received are a prefix of the messages made
abbrev pub ReceivesPrefixes : (from to : Past) → Type 0
ReceivesPrefixes from to = (ch : ℕ) → IsPrefix (wholes_of to ch) (map (payload_of ch) (messages_on from ch))

-- what was handed on was read from this whole payload, at some past of the end
pub record ReadFrom (end : End) (d : Delivered) (whole : Bunch × List Bool) : Type 0 where
  pub past : Past
  pub left : List Bool
  pub read : payload_at end past whole.0 whole.1 ≡ Ok (d.message, left)
  pub channel : d.channel ≡ whole.0.channel
  pub reliable : d.reliable ≡ whole.0.reliable

-- each was read from the whole payload in its place
abbrev pub ReadEach : End → List Delivered → List (Bunch × List Bool) → Type 0
ReadEach end [] [] = Unit {0}
ReadEach end [] (w ∷ wholes) = ⊥
ReadEach end (d ∷ ds) [] = ⊥
ReadEach end (d ∷ ds) (w ∷ wholes) = ReadFrom end d w × ReadEach end ds wholes

-- the reliable payloads that were handed on from an index, the oldest first
abbrev pub handed_reliably : Past → (ch : ℕ) → List Delivered
handed_reliably past ch = reverse (filter (λ (d : Delivered). d.channel == ch && d.reliable) (delivered_of past))

-- the deed is a close of the end for what a datagram said
abbrev pub is_closing : Deed → Bool
is_closing (Ended (ByCause cause)) = true
is_closing deed = false

-- a datagram closed the end
abbrev pub is_closed_by : Past → Bool
is_closed_by past = list_any is_closing past

-- the reliable payloads handed on from each index are those received whole on it, read one by one
abbrev pub HandsReceived : End → Past → Type 0
HandsReceived end past = (ch : ℕ) → ReadEach end (handed_reliably past ch) (wholes_of past ch)

-- a bunch that was made, comes before its turn and is new finds room among those that are held
abbrev pub NeverOverruns : (from to : Past) → Type 0
NeverOverruns from to =
    (ch n : ℕ) → next_of (received_on to ch) < n → n ≤ made_count from ch
    → is_among n (numbers_of (received_on to ch)) ≡ false → held_count to < held_limit

-- no part of the run breaks a rule of joining, where these parts are kept
abbrev pub JoinsFrom : (kept : List Bunch) → List Bunch → Type 0
JoinsFrom kept [] = Unit {0}
JoinsFrom kept (b ∷ run) =
    (part_fault kept b b.part ≡ None)
    × MatchBool (ends_payload b) (JoinsFrom [] run) (JoinsFrom (b ∷ kept) run)

-- so on every index, over the run that was applied there
abbrev pub AllJoin : Past → Type 0
AllJoin past = (ch : ℕ) → JoinsFrom [] (applied_of (received_on past ch))

-- where each message made on an index has at most as many bits as a payload may have, joining refuses no
-- part that is applied
abbrev pub NeverMisjoins : (from to : Past) → Type 0
NeverMisjoins from to =
    (ch : ℕ)
    → AllByRecursion (λ (made : Numbered). length (message_bits made.1) ≤ payload_bits) (messages_on from ch)
    → JoinsFrom [] (applied_of (received_on to ch))
