-- The flags of the bunch in which a message is read are those of the message.
use Rattle.std.proofs.Common.{◌≡◌, ◌==◌, List, Bool, true, false, not, ◌&&◌, ◌||◌, cond, nat_lt, Ok, refl, sym}
use Rattle.std.proofs.lemmas.Bool.{and_parts, not-true, or_right}
use Rattle.protocol_model.specs.declared.Version.{Version}
use Rattle.protocol_model.specs.Side.{Side, AtServer, AtClient}
use Rattle.protocol_model.specs.Value.{Table}
use Rattle.protocol_model.specs.Packet.{Bunch, implies, channel_limit, is_bunch}
use Rattle.protocol_model.specs.Payload.{Message, Opens, Closes, Updates, Calls, Gone}
use Rattle.connection_model.specs.Feed.{End, Past}
use Rattle.connection_model.specs.Verdict.{is_misplaced}
use Rattle.connection_model.specs.PayloadReading.{payload_at}
use Rattle.payload_laws.specs.Passing.{Begins}
use Rattle.payload_laws.specs.Spelling.{KnowsLimits, Spells}
use Rattle.payload_laws.proofs.MessagesSpelled.{told, payload_spelled, payload_told}

neither_left : (x y : Bool) → (x || y) ≡ false → x ≡ false
neither_left true y h = h
neither_left false y h = refl

neither_right : (x y : Bool) → (x || y) ≡ false → y ≡ false
neither_right true y h = absurd (cc)
neither_right false y h = h

-- where the second fails the first does
implied_not : (x y : Bool) → implies x y ≡ true → y ≡ false → x ≡ false
implied_not true true h e = cc
implied_not true false h e = cc
implied_not false y h e = refl

implied : (x y : Bool) → implies x y ≡ true → x ≡ true → y ≡ true
implied true y h e = h
implied false y h e = absurd (cc)

-- the rules of headers that matter here
record Header (first : Bunch) : Type 0 where
  pub control : not (first.opens && first.closes) ≡ true
  pub dormant : implies first.sleeps first.closes ≡ true
  pub sure : implies (first.opens || first.closes) first.reliable ≡ true
  pub exports : implies first.exports first.opens ≡ true
  pub zero : (first.channel == 0 && (not first.reliable || first.opens || first.closes)) ≡ false

-- what the rules of headers say
header_of : (version : Version) (side : Side) (b : Bunch) → is_bunch version b ≡ true → is_misplaced side b ≡ false → Header b
header_of version side b h m =
    let to_p = (and_parts _ _ (and_parts _ _ h).0).0 in
    let to_e = (and_parts _ _ to_p).0 in
    let to_c = (and_parts _ _ to_e).0 in
    let to_r = (and_parts _ _ to_c).0 in
    let to_d = (and_parts _ _ to_r).0 in
    record {
      control = (and_parts _ _ to_d).0;
      dormant = (and_parts (not (b.opens && b.closes)) _ to_d).1;
      sure = (and_parts (not (b.opens && b.closes) && implies b.sleeps b.closes) _ to_r).1;
      exports = (and_parts (not (b.opens && b.closes) && implies b.sleeps b.closes && implies (b.opens || b.closes) b.reliable && nat_lt b.channel (channel_limit version)) _ to_e).1;
      zero = neither_right (b.reliable && not (b.kind == cond (b.channel == 0) 1 2)) _ (neither_left _ _ m);
    }

-- at the server nothing opens or closes
server_plain : (b : Bunch) → is_misplaced AtServer b ≡ false → (b.opens ≡ false) × (b.closes ≡ false)
server_plain b m =
    let none : (b.opens || b.closes) ≡ false = neither_right ((b.reliable && not (b.kind == cond (b.channel == 0) 1 2)) || (b.channel == 0 && (not b.reliable || b.opens || b.closes))) _ m in
    (neither_left b.opens b.closes none, neither_right b.opens b.closes none)

-- the channel and two flags, from which message they tell
open_told : (z c o : Bool) → cond z false (cond c false (cond o true false)) ≡ true → (z ≡ false) × (c ≡ false) × (o ≡ true)
open_told false false true h = (refl, refl, refl)
open_told false false false h = absurd (cc)
open_told false true o h = absurd (cc)
open_told true c o h = absurd (cc)

-- a bunch that closes is read as a close alone
close_told : (z c o : Bool) → cond z false (cond c true (cond o false false)) ≡ true → (z ≡ false) × (c ≡ true)
close_told false true o h = (refl, refl)
close_told false false true h = absurd (cc)
close_told false false false h = absurd (cc)
close_told true c o h = absurd (cc)

-- a plain bunch is read as an update or a call
plain_told : (z c o : Bool) → cond z false (cond c false (cond o false true)) ≡ true → (z ≡ false) × (c ≡ false) × (o ≡ false)
plain_told false false false h = (refl, refl, refl)
plain_told false false true h = absurd (cc)
plain_told false true o h = absurd (cc)
plain_told true c o h = absurd (cc)

-- a bunch on channel 0 is read as a Gone
gone_told : (z c o : Bool) → cond z true (cond c false (cond o false false)) ≡ true → z ≡ true
gone_told true c o h = refl
gone_told false true o h = absurd (cc)
gone_told false false true h = absurd (cc)
gone_told false false false h = absurd (cc)

closed_alone : (o c : Bool) → not (o && c) ≡ true → c ≡ true → o ≡ false
closed_alone true true h e = cc
closed_alone true false h e = absurd (cc)
closed_alone false c h e = refl

-- on channel 0 a bunch is reliable, and neither opens nor closes
zero_rules : (z r o c : Bool) → z ≡ true → (z && (not r || o || c)) ≡ false → (r ≡ true) × (o ≡ false) × (c ≡ false)
zero_rules true true false false e h = (refl, refl, refl)
zero_rules true true true c e h = absurd (cc)
zero_rules true true false true e h = absurd (cc)
zero_rules true false o c e h = absurd (cc)
zero_rules false r o c e h = absurd (cc)

-- the flags, where nothing opens or closes
plain_begins : (first : Bunch) → Header first → first.opens ≡ false → first.closes ≡ false → (first.sleeps ≡ false) × (first.exports ≡ false)
plain_begins first h o c = (implied_not first.sleeps first.closes h.dormant c, implied_not first.exports first.opens h.exports o)

-- at a client
client_begins : (table : Table) (past : Past) (first : Bunch) (bits : List Bool) (message : Message) → Header first → told AtClient first message ≡ true → Spells AtClient table past first bits message → Begins message first
client_begins table past first bits (Opens exports actor class values) h t s =
    let f = open_told (first.channel == 0) first.closes first.opens t in
    record { opens = f.2; closes = f.1; sleeps = implied_not first.sleeps first.closes h.dormant f.1; exports = s.0; reliable = implied (first.opens || first.closes) first.reliable h.sure (rw f.2 refl); channel = f.0 }
client_begins table past first bits (Closes actor sleeps) h t s =
    let f = close_told (first.channel == 0) first.closes first.opens t in
    let o : first.opens ≡ false = closed_alone first.opens first.closes h.control f.1 in
    record { opens = o; closes = f.1; sleeps = sym s.2; exports = implied_not first.exports first.opens h.exports o; reliable = implied (first.opens || first.closes) first.reliable h.sure (or_right first.opens first.closes f.1); channel = f.0 }
client_begins table past first bits (Updates actor class values) h t s =
    let f = plain_told (first.channel == 0) first.closes first.opens t in
    let p = plain_begins first h f.2 f.1 in
    record { opens = f.2; closes = f.1; sleeps = p.0; exports = p.1; reliable = s.1; channel = f.0 }
client_begins table past first bits (Calls actor number call args) h t s =
    let f = plain_told (first.channel == 0) first.closes first.opens t in
    let p = plain_begins first h f.2 f.1 in
    record { opens = f.2; closes = f.1; sleeps = p.0; exports = p.1; reliable = s.1; channel = f.0 }
client_begins table past first bits (Gone actor) h t s =
    let z = gone_told (first.channel == 0) first.closes first.opens t in
    let r = zero_rules (first.channel == 0) first.reliable first.opens first.closes z h.zero in
    let p = plain_begins first h r.1 r.2 in
    record { opens = r.1; closes = r.2; sleeps = p.0; exports = p.1; reliable = r.0; channel = z }

-- at a server
server_begins : (table : Table) (past : Past) (first : Bunch) (bits : List Bool) (message : Message) → Header first → first.opens ≡ false → first.closes ≡ false → told AtServer first message ≡ true → Spells AtServer table past first bits message → Begins message first
server_begins table past first bits (Opens exports actor class values) h o c t s = let no : false ≡ true = (and_parts (not (first.channel == 0)) false t).1 in absurd (cc)
server_begins table past first bits (Closes actor sleeps) h o c t s = let no : false ≡ true = (and_parts (not (first.channel == 0)) false t).1 in absurd (cc)
server_begins table past first bits (Gone actor) h o c t s = let no : false ≡ true = (and_parts (not (first.channel == 0)) false t).1 in absurd (cc)
server_begins table past first bits (Updates actor class values) h o c t s =
    let p = plain_begins first h o c in
    record { opens = o; closes = c; sleeps = p.0; exports = p.1; reliable = s.1; channel = not-true (first.channel == 0) (and_parts _ _ t).0 }
server_begins table past first bits (Calls actor number call args) h o c t s =
    let p = plain_begins first h o c in
    record { opens = o; closes = c; sleeps = p.0; exports = p.1; reliable = s.1; channel = not-true (first.channel == 0) (and_parts _ _ t).0 }

-- at either
begins_at : (side : Side) (table : Table) (past : Past) (first : Bunch) (bits : List Bool) (message : Message) (version : Version) → is_bunch version first ≡ true → is_misplaced side first ≡ false → told side first message ≡ true → Spells side table past first bits message → Begins message first
begins_at AtClient table past first bits message version b m t s = client_begins table past first bits message (header_of version AtClient first b m) t s
begins_at AtServer table past first bits message version b m t s = let p = server_plain first m in server_begins table past first bits message (header_of version AtServer first b m) p.0 p.1 t s

-- the flags are the message's
pub flags_told : (version : Version) (end : End) (past : Past) (first : Bunch) (bits rest : List Bool) (message : Message) → KnowsLimits end.side end.table past → is_bunch version first ≡ true → is_misplaced end.side first ≡ false → payload_at end past first bits ≡ Ok (message, rest) → Begins message first
flags_told version end past first bits rest message limits b m read =
    begins_at end.side end.table past first bits message version b m (payload_told end past first bits rest message limits read) (payload_spelled end past first bits rest message limits read).1
