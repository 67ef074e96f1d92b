-- What holds of packets under way, as they are kept.
use Rattle.std.specs.Prelude.{◌≡◌, ℕ, ◌+◌, ◌*◌, ◌<◌, ◌≤◌, ◌^◌, List, map, length, Option, Some, None, ⊤}
use Rattle.std.specs.List.{sum_by}
use Rattle.protocol_model.specs.Limits.{packet_bytes, unresolved_limit}
use Rattle.bit_io.specs.Written.{Written}
use Rattle.link_end.specs.declared.sent.Sent.{Sent}
use Rattle.link_end.specs.Answers.{numbered, sent_value}

-- the bits of room that a put asks for
abbrev pub put_room : ℕ
put_room = 320

-- the current packet has a bit left for its end, and room for what each put asks beyond a whole packet
abbrev pub HasRoom : Option Written → Type 0
HasRoom None = ⊤
HasRoom (Some w) = (length w.bits < 8 * packet_bytes) × (8 * packet_bytes + put_room ≤ length w.bits + w.spare)

-- whole packets have their numbers and their size, and are few and small
pub record Holds (first : ℕ) (packets : List Sent) (total : ℕ) (current : Option Written) : Type 0 where
  pub numbers : map sent_value packets ≡ numbered first (map (λ (s : Sent). s.bytes) packets)
  pub size : total ≡ sum_by length (map (λ (s : Sent). s.bytes) packets)
  pub small : total ≤ packet_bytes * length packets
  pub few : length packets ≤ unresolved_limit
  pub below : first < 2 ^ 62
  pub room : HasRoom current
