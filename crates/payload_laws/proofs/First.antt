-- The bunches that begin a message have its flags.
use Rattle.std.proofs.Common.{◌≡◌, ℕ, ◌+◌, ◌<◌, ◌≤◌, ◌==◌, List, [], ◌++◌, Bool, true, false, ◌&&◌, Ok, refl}
use Rattle.protocol_model.specs.Packet.{Bunch}
use Rattle.protocol_model.specs.Payload.{Message, Opens, Closes, Updates, Calls, Gone, message_bits, parts_of}
use Rattle.connection_model.specs.Feed.{End, Past}
use Rattle.connection_model.specs.Bunches.{made_bunch, is_opening, has_exports}
use Rattle.connection_model.specs.Items.{loose_bunch}
use Rattle.payload_laws.specs.Passing.{Begins, Passes, is_gone, is_reliable}
use Rattle.payload_laws.specs.Parts.{bunches_from, kept_parts}
use Rattle.connection_model.specs.PayloadReading.{payload_at}
use Rattle.connection_model.specs.Verdict.{lacks_copy, delivery_of, bunches_result, with_handed}
use Rattle.payload_laws.proofs.ReadBack.{payload_back}
use Rattle.payload_laws.proofs.Handing.{handed_on}

and_true : (x : Bool) → (x && true) ≡ x
and_true true = refl
and_true false = refl

-- the first part of a reliable message
made_begins : (ch n : ℕ) (message : Message) → is_reliable message ≡ true → (ch == 0) ≡ is_gone message → Begins message (made_bunch ch n message 0)
made_begins ch n message r c = record {
  opens = and_true (is_opening message);
  closes = refl;
  sleeps = refl;
  exports = and_true (has_exports message);
  reliable = rw r refl;
  channel = c;
}

-- an unreliable message
loose_begins : (ch : ℕ) (message : Message) → is_reliable message ≡ false → (ch == 0) ≡ false → Begins message (loose_bunch ch message)
loose_begins ch (Opens exports actor class values) r c = absurd (cc)
loose_begins ch (Closes actor sleeps) r c = absurd (cc)
loose_begins ch (Updates actor class values) r c = record { opens = refl; closes = refl; sleeps = refl; exports = refl; reliable = refl; channel = c }
loose_begins ch (Calls actor number call args) r c = record { opens = refl; closes = refl; sleeps = refl; exports = refl; reliable = rw r refl; channel = c }
loose_begins ch (Gone actor) r c = absurd (cc)

-- a reliable message, by its first bunch
pub made_back : (end : End) (past : Past) (ch n : ℕ) (message : Message) → is_reliable message ≡ true → (ch == 0) ≡ is_gone message → Passes end past ch message → payload_at end past (made_bunch ch n message 0) (message_bits message) ≡ Ok (message, [])
made_back end past ch n message r c h = payload_back end past (made_bunch ch n message 0) message (made_begins ch n message r c) h

-- an unreliable message, by its bunch
pub loose_back : (end : End) (past : Past) (ch : ℕ) (message : Message) → is_reliable message ≡ false → (ch == 0) ≡ false → Passes end past ch message → payload_at end past (loose_bunch ch message) (message_bits message) ≡ Ok (message, [])
loose_back end past ch message r c h = payload_back end past (loose_bunch ch message) message (loose_begins ch message r c) h

-- the parts of a reliable message hand it on
pub made_handed : (end : End) (past : Past) (ch first : ℕ) (message : Message) (more : List Bunch) (i count : ℕ) → i + count ≡ parts_of message → 0 < count → parts_of message ≤ 10
    → is_reliable message ≡ true → (ch == 0) ≡ is_gone message → lacks_copy end.side past [] (made_bunch ch first message 0) ≡ false → Passes end past ch message
    → bunches_result end past (kept_parts ch first message i) (bunches_from ch first message i count ++ more) ≡ bunches_result end (with_handed (delivery_of end past (made_bunch ch first message 0) message) past) [] more
made_handed end past ch first message more i count e s m r c l h = handed_on end past ch first message more i count e s m l (made_back end past ch first message r c h)
