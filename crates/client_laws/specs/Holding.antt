-- Who holds a client's channels, after whatever it took: by its copies, and by the opens and closes handed on.
use Rattle.std.specs.Prelude.{◌≡◌, ℕ, ◌==◌, List, [], ◌∷◌, Bool, true, false, Some, is_some, ⊤}
use Rattle.std.specs.List.{AllByRecursion}
use Rattle.protocol_model.specs.Packet.{Bunch}
use Rattle.connection_model.specs.Feed.{Past}
use Rattle.connection_model.specs.Windows.{Received, received_on, applied_of, kept_of, first_of}
use Rattle.connection_model.specs.Copies.{copy_channel, copy_on}
use Rattle.receiving_laws.specs.Holders.{is_copied_on}
use Rattle.receiving_laws.specs.Receiving.{Raw, copied_after, copied_through}

-- ---- bunches

-- a bunch opens or closes or does neither, and an open is reliable
pub record IsProper (b : Bunch) : Type 0 where
  pub one : b.opens ≡ true → b.closes ≡ false
  pub reliable : b.opens ≡ true → b.reliable ≡ true

-- and channel 0 has neither
pub record IsSound (b : Bunch) : Type 0 where
  pub one : b.opens ≡ true → b.closes ≡ false
  pub reliable : b.opens ≡ true → b.reliable ≡ true
  pub control : (b.channel == 0) ≡ true → (b.opens ≡ false) × (b.closes ≡ false)

-- the parts that are kept began with a bunch that opens
abbrev pub opens_first : List Bunch → Bool
opens_first [] = false
opens_first (b ∷ kept) = (first_of kept b).opens

-- the parts that are kept began with a bunch that closes
abbrev pub closes_first : List Bunch → Bool
closes_first [] = false
closes_first (b ∷ kept) = (first_of kept b).closes

-- parts are kept of a payload that may go on: an open where no copy holds the channel, and no close
pub record Begun (copied : Bool) (kept : List Bunch) : Type 0 where
  pub opens : opens_first kept ≡ true → copied ≡ false
  pub closes : closes_first kept ≡ false

-- ---- pasts

-- the copies and what was handed on agree on who holds a channel, and no two copies hold one
pub record Agrees (past : Past) : Type 0 where
  pub holder : (ch : ℕ) → is_some (copy_on past ch) ≡ is_copied_on past ch
  pub apart : (ch a b : ℕ) → copy_channel past a ≡ Some ch → copy_channel past b ≡ Some ch → a ≡ b

-- the same between two entries, with the bunches that were received sound and the parts kept such as may go on
pub record Holds (past : Past) : Type 0 where
  pub agrees : Agrees past
  pub begun : (ch : ℕ) → Begun (is_copied_on past ch) (kept_of (applied_of (received_on past ch)))
  pub sound : (ch : ℕ) → AllByRecursion (λ (r : Received). IsSound r.1) (received_on past ch)

-- ---- whole payloads

-- a payload on the channel may be read: it opens where no copy holds the channel, and closes where one does
pub record MayCome (ch : ℕ) (copied : Bool) (first : Bunch) : Type 0 where
  pub channel : first.channel ≡ ch
  pub sound : IsSound first
  pub opens : first.opens ≡ true → copied ≡ false
  pub closes : first.closes ≡ true → copied ≡ true

-- and so one after another
abbrev pub ComeInTurn : (ch : ℕ) → (copied : Bool) → List Raw → Type 0
ComeInTurn ch copied [] = ⊤
ComeInTurn ch copied (raw ∷ raws) = MayCome ch copied raw.0 × ComeInTurn ch (copied_after copied raw.0) raws

-- the payloads of an entry were read one by one, and left this of who holds its channel
pub record AllCame (past later : Past) (ch : ℕ) (raws : List Raw) : Type 0 where
  pub agrees : Agrees later
  pub here : is_copied_on later ch ≡ copied_through (is_copied_on past ch) raws
  pub others : (c : ℕ) → (ch == c) ≡ false → is_copied_on later c ≡ is_copied_on past c
