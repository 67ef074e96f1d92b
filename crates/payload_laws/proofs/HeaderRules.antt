-- The bunches of messages have headers that can be spelled, and they are in their place.
use Rattle.std.proofs.Common.{◌≡◌, ℕ, ◌<◌, ◌%◌, ◌==◌, List, [], ◌∷◌, Bool, true, false, cond, not, ◌&&◌, ◌||◌, nat_lt, length, refl, arith}
use Rattle.std.proofs.lemmas.Bool.{and_from, lt-ltb}
use Rattle.protocol_model.specs.declared.Version.{Version}
use Rattle.protocol_model.specs.Side.{Side, AtServer, AtClient}
use Rattle.protocol_model.specs.Value.{Call, Arg}
use Rattle.protocol_model.specs.Packet.{implies, is_partial, channel_limit, is_bunch}
use Rattle.protocol_model.specs.Payload.{Message, Opens, Closes, Updates, Calls, Gone, message_bits, piece_at, parts_of, part_at}
use Rattle.connection_model.specs.Bunches.{made_bunch, is_opening, is_closing, is_sleeping, has_exports}
use Rattle.connection_model.specs.Items.{loose_bunch}
use Rattle.connection_model.specs.Verdict.{is_misplaced}
use Rattle.payload_laws.specs.Passing.{is_gone}
use Rattle.payload_laws.proofs.Pieces.{piece_most}

implies_true : (x : Bool) → implies x true ≡ true
implies_true true = refl
implies_true false = refl

-- an open doesn't close
one_control : (message : Message) (z : Bool) → not ((is_opening message && z) && is_closing message) ≡ true
one_control (Opens exports actor class values) true = refl
one_control (Opens exports actor class values) false = refl
one_control (Closes actor sleeps) z = refl
one_control (Updates actor class values) z = refl
one_control (Calls actor number call args) z = refl
one_control (Gone actor) z = refl

-- only a close sleeps
sleeps_closed : (message : Message) → implies (is_sleeping message) (is_closing message) ≡ true
sleeps_closed (Opens exports actor class values) = refl
sleeps_closed (Closes actor true) = refl
sleeps_closed (Closes actor false) = refl
sleeps_closed (Updates actor class values) = refl
sleeps_closed (Calls actor number call args) = refl
sleeps_closed (Gone actor) = refl

-- only an open exports
exports_opened : (message : Message) (z : Bool) → implies (has_exports message && z) (is_opening message && z) ≡ true
exports_opened (Opens [] actor class values) z = refl
exports_opened (Opens (s ∷ exports) actor class values) true = refl
exports_opened (Opens (s ∷ exports) actor class values) false = refl
exports_opened (Closes actor sleeps) z = refl
exports_opened (Updates actor class values) z = refl
exports_opened (Calls actor number call args) z = refl
exports_opened (Gone actor) z = refl

-- the kind of a reliable bunch is 1 or 2
kind_ok : (c : Bool) → (cond c 1 2 == 1 || cond c 1 2 == 2) ≡ true
kind_ok true = refl
kind_ok false = refl

-- its number is below 1,024
seq_ok : (n : ℕ) → nat_lt (n % 1024) 1024 ≡ true
seq_ok n = lt-ltb (n % 1024) 1024 (omega arith)

-- each part of a message on an index of the version has a header
pub made_is_bunch : (version : Version) (ch n : ℕ) (message : Message) (i : ℕ) → ch < channel_limit version → is_bunch version (made_bunch ch n message i) ≡ true
made_is_bunch version ch n message i h =
    let z : Bool = i == 0 in
    and_from _ _ (and_from _ _ (and_from _ _ (and_from _ _ (and_from _ _ (and_from _ _ (and_from _ _ (one_control message z) (sleeps_closed message)) (implies_true ((is_opening message && z) || is_closing message))) (lt-ltb ch (channel_limit version) h)) (exports_opened message z)) (implies_true (is_partial (part_at (parts_of message) i)))) (and_from _ _ (seq_ok n) (kind_ok (ch == 0))))
    (lt-ltb (length (piece_at (message_bits message) i)) 8192 (omega (arith, piece_most (message_bits message) i)))

-- an unreliable message of fewer than 8,192 bits has one
pub loose_is_bunch : (version : Version) (ch : ℕ) (message : Message) → ch < channel_limit version → length (message_bits message) < 8192 → is_bunch version (loose_bunch ch message) ≡ true
loose_is_bunch version ch message h l = rw (lt-ltb ch (channel_limit version) h, lt-ltb (length (message_bits message)) 8192 l) refl

-- at the client each message is in its place: a Gone on channel 0, all others elsewhere
pub client_placed : (ch n : ℕ) (message : Message) (i : ℕ) → (ch == 0) ≡ is_gone message → is_misplaced AtClient (made_bunch ch n message i) ≡ false
client_placed ch n (Opens exports actor class values) i c = rw c refl
client_placed ch n (Closes actor sleeps) i c = rw c refl
client_placed ch n (Updates actor class values) i c = rw c refl
client_placed ch n (Calls actor number call args) i c = rw c refl
client_placed ch n (Gone actor) i c = rw c refl

-- at the server a call is, on an actor's channel
pub server_placed : (ch n : ℕ) (actor number : ℕ) (call : Call) (args : List Arg) (i : ℕ) → (ch == 0) ≡ false → is_misplaced AtServer (made_bunch ch n (Calls actor number call args) i) ≡ false
server_placed ch n actor number call args i c = rw c refl

-- and so is an unreliable message on either side
pub loose_placed : (side : Side) (ch : ℕ) (message : Message) → (ch == 0) ≡ false → is_misplaced side (loose_bunch ch message) ≡ false
loose_placed AtServer ch message c = rw c refl
loose_placed AtClient ch message c = rw c refl
