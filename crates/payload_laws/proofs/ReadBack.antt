-- A payload is read as the message that it spells, at either end.
use Rattle.std.proofs.Common.{◌≡◌, ℕ, List, [], ◌∷◌, Bool, false, Option, Ok, refl, sym, ap, ◌∙◌}
use Rattle.protocol_model.specs.declared.Cause.{Cause}
use Rattle.protocol_model.specs.Side.{Side, AtServer, AtClient}
use Rattle.protocol_model.specs.Value.{Segment, Class, Call, Arg, Pair}
use Rattle.protocol_model.specs.Packet.{Bunch}
use Rattle.protocol_model.specs.Payload.{Message, Opens, Closes, Updates, Calls, Gone, message_bits}
use Rattle.connection_model.specs.Feed.{End, Past}
use Rattle.connection_model.specs.Bunches.{has_exports}
use Rattle.connection_model.specs.PayloadReading.{plain_at, payload_at}
use Rattle.payload_laws.specs.Passing.{Begins, UpdatePasses, CallPasses, Passes}
use Rattle.payload_laws.proofs.Fields.{Answer}
use Rattle.payload_laws.proofs.Segments.{are_some}
use Rattle.payload_laws.proofs.Messages.{open_read, client_call_read, server_call_read, update_read, gone_read}

-- an open's flag says whether it exports
pub some_exports : (exports : List Segment) (actor : ℕ) (class : Class) (values : List Pair) → has_exports (Opens exports actor class values) ≡ are_some exports
some_exports [] actor class values = refl
some_exports (s ∷ exports) actor class values = refl

plain_call : (past : Past) (first : Bunch) (actor number : ℕ) (call : Call) (args : List Arg) → first.reliable ≡ call.reliable → CallPasses AtClient past actor number call args
    → plain_at past first (message_bits (Calls actor number call args)) ≡ Ok (Calls actor number call args, [])
plain_call past first actor number call args r h = client_call_read past first actor number call args r h

plain_update : (past : Past) (first : Bunch) (actor : ℕ) (class : Class) (values : List Pair) → first.reliable ≡ false → UpdatePasses past first.channel actor class values
    → plain_at past first (message_bits (Updates actor class values)) ≡ Ok (Updates actor class values, [])
plain_update past first actor class values r h = rw r (update_read past first actor class values h)

-- a call at one side
call_back : (side : Side) (end : End) (past : Past) (first : Bunch) (actor number : ℕ) (call : Call) (args : List Arg) → end.side ≡ side → Begins (Calls actor number call args) first → CallPasses side past actor number call args
    → payload_at end past first (message_bits (Calls actor number call args)) ≡ Ok (Calls actor number call args, [])
call_back AtServer end past first actor number call args s b h = rw s (server_call_read past first actor number call args b.channel b.reliable h)
call_back AtClient end past first actor number call args s b h = rw (s, b.channel, b.closes, b.opens) (plain_call past first actor number call args b.reliable h)

-- a payload is read as the message that it spells
pub payload_back : (end : End) (past : Past) (first : Bunch) (message : Message) → Begins message first → Passes end past first.channel message → payload_at end past first (message_bits message) ≡ Ok (message, [])
payload_back end past first (Opens exports actor class values) b h =
    rw (h.0, b.channel, b.closes, b.opens) (open_read end.table past first exports actor class values (b.exports ∙ some_exports exports actor class values) h.1)
payload_back end past first (Closes actor sleeps) b h = rw (h.0, b.channel, b.closes, h.1, b.sleeps) refl
payload_back end past first (Updates actor class values) b h = rw (h.0, b.channel, b.closes, b.opens) (plain_update past first actor class values b.reliable h.1)
payload_back end past first (Calls actor number call args) b h = call_back end.side end past first actor number call args refl b h
payload_back end past first (Gone actor) b h = rw (h.0, b.channel) (gone_read past actor h.1 h.2)

same_ok : (a b : Message) → ◌≡◌ {A = Answer (Option Cause) Message} (Ok (a, [])) (Ok (b, [])) → a ≡ b
same_ok a b e = let p : ◌≡◌ {A = Message × List Bool} (a, []) (b, []) = cc in ap (λ (q : Message × List Bool). q.0) p

-- at one reader the bits tell the message
pub one_message : (end : End) (past : Past) (first : Bunch) (one other : Message) → Begins one first → Passes end past first.channel one → Begins other first → Passes end past first.channel other → message_bits one ≡ message_bits other → one ≡ other
one_message end past first one other b p c q e = same_ok one other (sym (payload_back end past first one b p) ∙ ap (payload_at end past first) e ∙ payload_back end past first other c q)
