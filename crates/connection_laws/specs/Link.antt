-- Two ends over a network that loses, repeats and reorders packets and alters none.
use Rattle.std.specs.Prelude.{◌≡◌, ℕ, ◌+◌, ◌≤◌, ◌%◌, ◌==◌, List, [], ◌∷◌, ◌++◌, map, reverse, false, pos, if◌then◌else◌}
use Rattle.protocol_model.specs.declared.Version.{Version}
use Rattle.protocol_model.specs.declared.Version.TheVariants.{One, Two}
use Rattle.protocol_model.specs.Bits.{near}
use Rattle.protocol_model.specs.Packet.{Head}
use Rattle.protocol_model.specs.Limits.{packet_modulus, late_distance}
use Rattle.connection_model.specs.Feed.{End, Past, Sent, Took, Ended, Entry, Told, Item, has_ended}
use Rattle.connection_model.specs.Fates.{top_of, last_sent, head_of, taken_of}
use Rattle.connection_model.specs.Pack.{rec_of}
use Rattle.connection_model.specs.Verdict.{entry_of}
use Rattle.connection_laws.specs.Run.{Move, Ticks, Makes, Defers, Sends, Takes, Hears, Hands, Ends, after_move, May}

-- what a packet says: its head in version Two, then its items
pub data Said : Type 0 where
  SaysHead : (head : Head) → Said
  SaysItem : (item : Item) → Said

-- the entry as which it is heard
abbrev pub entry_said : Said → Entry
entry_said (SaysHead head) = Told head
entry_said (SaysItem item) = entry_of (rec_of item)

-- what a packet with these items says, if it is sent after this past
abbrev pub all_said : Version → Past → List Item → List Said
all_said One past items = map (λ (item : Item). SaysItem item) items
all_said Two past items = SaysHead (head_of Two past) ∷ map (λ (item : Item). SaysItem item) items

-- what packet k said; nothing where none was sent by that number
abbrev pub said_by : Version → Past → (k : ℕ) → List Said
said_by v [] k = []
said_by v (Sent number t items ∷ past) k = if number == k then all_said v past items else said_by v past k
said_by v (deed ∷ past) k = said_by v past k

-- packet k of the other end may come: it was sent, and isn't too far below the last one taken
pub record MayCome (me other : Past) (k : ℕ) : Type 0 where
  pub first : 1 ≤ k
  pub sent : k ≤ last_sent other
  pub recent : top_of me ≤ k + late_distance

-- the packet under way, if there is one, was heard to its end
abbrev pub IsWhole : Version → (other me : Past) → Type 0
IsWhole v other (Took n entries handed ∷ past) = entries ≡ reverse (map entry_said (said_by v other n))
IsWhole v other past = Unit {0}

-- the entry is the next one of the packet under way
abbrev pub IsNext : Version → (other me : Past) → Entry → Type 0
IsNext v other (Took n entries handed ∷ past) entry =
    (before : List Said) × (said : Said) × (after : List Said) × (said_by v other n ≡ before ++ said ∷ after)
    × (entries ≡ reverse (map entry_said before)) × (entry ≡ entry_said said)
IsNext v other past entry = Unit {0}

-- the move is one over a network that alters nothing: a packet is taken that the other end sent, by the
-- number that is read of it, and is heard entry by entry, to its end unless this end ends before
abbrev pub IsFaithful : Version → (other me : Past) → Move → Type 0
IsFaithful v other me (Takes n) =
    IsWhole v other me
    × ((k : ℕ) × MayCome me other k × (near (k % packet_modulus) (pos (top_of me)) packet_modulus ≡ pos n))
IsFaithful v other me (Hears entry) = IsNext v other me entry
IsFaithful v other me (Hands d) = Unit {0}
IsFaithful v other me (Ends ending) = Unit {0}
IsFaithful v other me (Ticks sight) = IsWhole v other me
IsFaithful v other me (Makes ch message) = IsWhole v other me
IsFaithful v other me (Defers message) = IsWhole v other me
IsFaithful v other me (Sends items) = IsWhole v other me

-- the pasts that two ends come to by such moves, either of them at a time
pub data IsLink (left right : End) : Past → Past → Type 0 where
  start : IsLink left right [] []
  left_does : {l r : Past} (move : Move) → IsLink left right l r → has_ended l ≡ false → May left l move
      → IsFaithful left.version r l move
      → IsLink left right (after_move l move) r
  right_does : {l r : Past} (move : Move) → IsLink left right l r → has_ended r ≡ false → May right r move
      → IsFaithful right.version l r move
      → IsLink left right l (after_move r move)

-- this holds of two pasts both ways: of what the one sent and the other did, and the other way round
abbrev pub BothWays : (Past → Past → Type 0) → (l r : Past) → Type 0
BothWays P l r = P l r × P r l

-- the numbers of the packets that were taken, but for the one under way
abbrev pub done_of : Past → List ℕ
done_of (Took n entries handed ∷ past) = taken_of past
done_of (Ended ending ∷ past) = done_of past
done_of past = taken_of past
