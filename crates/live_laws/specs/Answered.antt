-- Where a client stands in a turn that goes on.
use Rattle.std.specs.Prelude.{◌≡◌, List, [], Bool, true, false, Option, Some, None, find}
use Rattle.protocol_model.specs.Value.{Table}
use Rattle.live_model.specs.Outside.{Heard}
use Rattle.live_model.specs.Caller.{Caller, welcomes, is_answer}
use Rattle.live_laws.specs.Stepwise.{caller_still, caller_hears}

-- the client as it is after a part of a turn
abbrev pub after_part_of : Table → Caller → (part : List Heard) → Caller
after_part_of table c part = (caller_hears table (caller_still [] c, []) part).0

-- where a client stands in a turn that goes on: it was welcomed before, nothing answered it, or a Welcome did
pub data Goes (table : Table) (c : Caller) (part : List Heard) : Type 0 where
  WasWelcomed : c.welcomed ≡ true → (after_part_of table c part).welcomed ≡ true
      → (after_part_of table c part).refused ≡ None → Goes table c part
  Unanswered : c.welcomed ≡ false → c.refused ≡ None → find (is_answer c) part ≡ None
      → after_part_of table c part ≡ caller_still [] c → Goes table c part
  IsWelcomed : c.welcomed ≡ false → (a : Heard) → find (is_answer c) part ≡ Some a → welcomes c a ≡ true
      → (after_part_of table c part).welcomed ≡ true → (after_part_of table c part).refused ≡ None
      → Goes table c part
