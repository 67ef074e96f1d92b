-- Receiving a bunch is making whole payloads of it, and then reading them: at the server, without a premise.
use Rattle.std.proofs.Common.{◌≡◌, ℕ, List, [], ◌∷◌, length, Bool, true, false, Option, Some, None, Result, Ok, Err, refl, if◌then◌else◌}
use Rattle.protocol_model.specs.Side.{AtServer}
use Rattle.protocol_model.specs.Value.{Table}
use Rattle.protocol_model.specs.declared.Version.{Version}
use Rattle.protocol_model.specs.Packet.{Bunch}
use Rattle.protocol_model.specs.Payload.{Message}
use Rattle.protocol_model.specs.Reading.{Fault}
use Rattle.protocol_model.specs.declared.Cause.{Cause}
use Rattle.protocol_model.specs.declared.Cause.TheVariants.{BadPart}
use Rattle.protocol_model.specs.declared.PartWhy.{PartWhy}
use Rattle.connection_model.specs.Feed.{End, Past}
use Rattle.connection_model.specs.Windows.{Received, received_on, Offer, Repeat, Ready, Held, offer_of, number_as, ready_bunches, applied_of, kept_of, part_fault, ends_payload, first_of, joined_bits}
use Rattle.connection_model.specs.PayloadReading.{payload_at}
use Rattle.connection_model.specs.Verdict.{Progress, bunch_result, payload_result, bunches_result, bunch_heard, reliable_result, is_misplaced, delivery_of, payload_cause}
use Rattle.receiving_laws.specs.Receiving.{Raws, raws_of, raws_heard, reliable_raws, read_from, read_raws}
use Rattle.receiving_laws.specs.Holders.{is_copied_on}

-- the server's end
abbrev pub server : Version → (budget : ℕ) → Table → End
server version budget table = record { side = AtServer; version = version; budget = budget; table = table }

-- what is to be shown of these bunches, after this past and where these parts are kept
abbrev pub Agrees : End → Past → (copied : Bool) → (kept bunches : List Bunch) → Type 0
Agrees end past copied kept bunches =
    bunches_result end past kept bunches ≡ read_raws end past (raws_of AtServer copied kept bunches)

-- the parts that the bunch joins
abbrev pub joining : List Bunch → Bunch → List Bunch
joining kept b = if b.reliable then kept else []

bunch_faulty : (v : Version) (budget : ℕ) (table : Table) (past : Past) (kept : List Bunch) (b : Bunch)
    (why : PartWhy)
    → part_fault kept b b.part ≡ Some why
    → bunch_result (server v budget table) past kept b ≡ Err (BadPart b.channel why)
bunch_faulty v budget table past kept b why e = rw e refl

bunch_more : (v : Version) (budget : ℕ) (table : Table) (past : Past) (kept : List Bunch) (b : Bunch)
    → part_fault kept b b.part ≡ None → ends_payload b ≡ false
    → bunch_result (server v budget table) past kept b ≡ Ok None
bunch_more v budget table past kept b e f = rw (e, f) refl

bunch_last : (v : Version) (budget : ℕ) (table : Table) (past : Past) (kept : List Bunch) (b : Bunch)
    → part_fault kept b b.part ≡ None → ends_payload b ≡ true
    → bunch_result (server v budget table) past kept b
    ≡ payload_result (server v budget table) past (first_of (joining kept b) b)
    (joined_bits (joining kept b) b)
bunch_last v budget table past kept b e f = rw (e, f) refl

read_last : (v : Version) (budget : ℕ) (table : Table) (past : Past) (copied : Bool) (kept : List Bunch)
    (b : Bunch) (more : List Bunch)
    → ((after : Past) (copied : Bool) → Agrees (server v budget table) after copied [] more)
    → part_fault kept b b.part ≡ None → ends_payload b ≡ true
    → (got : Result (Message × List Bool) (Fault (Option Cause)))
    → payload_at (server v budget table) past (first_of (joining kept b) b) (joined_bits (joining kept b) b) ≡
    got
    → Agrees (server v budget table) past copied kept (b ∷ more)
read_last v budget table past copied kept b more next e f (Err fault) g =
    let end = server v budget table in
    let bad : payload_result end past (first_of (joining kept b) b) (joined_bits (joining kept b) b)
    ≡ Err (payload_cause (first_of (joining kept b) b).channel (length (joined_bits (joining kept b) b)) fault) =
    rw (g, payload_result) refl in
    rw (bunch_last v budget table past kept b e f, bad, bunches_result, e, f, bad, read_from) refl
read_last v budget table past copied kept b more next e f (Ok got) g =
    let end = server v budget table in
    let good : payload_result end past (first_of (joining kept b) b) (joined_bits (joining kept b) b)
    ≡ Ok (Some (delivery_of end past (first_of (joining kept b) b) got.0)) = rw (g, payload_result) refl in
    rw (bunch_last v budget table past kept b e f, good, bunches_result, e, f, good, read_from) (next _ _)

read_whole : (v : Version) (budget : ℕ) (table : Table) (past : Past) (copied : Bool) (kept : List Bunch)
    (b : Bunch) (more : List Bunch)
    → ((after : Past) (copied : Bool) → Agrees (server v budget table) after copied [] more)
    → Agrees (server v budget table) past copied (b ∷ kept) more
    → part_fault kept b b.part ≡ None → (last : Bool) → ends_payload b ≡ last
    → Agrees (server v budget table) past copied kept (b ∷ more)
read_whole v budget table past copied kept b more next joined e false f =
    rw (bunch_more v budget table past kept b e f, bunches_result, e, f) joined
read_whole v budget table past copied kept b more next joined e true f =
    read_last v budget table past copied kept b more next e f
    (payload_at (server v budget table) past (first_of (joining kept b) b) (joined_bits (joining kept b) b))
    refl

read_part : (v : Version) (budget : ℕ) (table : Table) (past : Past) (copied : Bool) (kept : List Bunch)
    (b : Bunch) (more : List Bunch)
    → ((after : Past) (copied : Bool) → Agrees (server v budget table) after copied [] more)
    → Agrees (server v budget table) past copied (b ∷ kept) more
    → (fault : Option PartWhy) → part_fault kept b b.part ≡ fault
    → Agrees (server v budget table) past copied kept (b ∷ more)
read_part v budget table past copied kept b more next joined (Some why) e =
    rw (bunch_faulty v budget table past kept b why e, bunches_result, e) refl
read_part v budget table past copied kept b more next joined None e =
    read_whole v budget table past copied kept b more next joined e (ends_payload b) refl

pub read_in_turn : (v : Version) (budget : ℕ) (table : Table) (past : Past) (copied : Bool)
    (kept bunches : List Bunch)
    → Agrees (server v budget table) past copied kept bunches
read_in_turn v budget table past copied kept [] = refl
read_in_turn v budget table past copied kept (b ∷ more) =
    read_part v budget table past copied kept b more
    (λ after copied. read_in_turn v budget table after copied [] more)
    (read_in_turn v budget table past copied (b ∷ kept) more)
    (part_fault kept b b.part) refl

by_case : (f : Raws → Progress) (m r : Bool) (x a b : Progress) (x' a' b' : Raws) → x ≡ f x' → a ≡ f a'
    → b ≡ f b'
    → (if m then x else if r then a else b) ≡ f (if m then x' else if r then a' else b')
by_case f true r x a b x' a' b' hx ha hb = hx
by_case f false true x a b x' a' b' hx ha hb = ha
by_case f false false x a b x' a' b' hx ha hb = hb

offered : (v : Version) (budget : ℕ) (table : Table) (past : Past) (b : Bunch) (got : List Received)
    (o : Offer)
    → reliable_result (server v budget table) past b got o
    ≡ read_raws (server v budget table) past (reliable_raws AtServer past b got o)
offered v budget table past b got Repeat = refl
offered v budget table past b got (Held n) = refl
offered v budget table past b got Ready =
    read_in_turn v budget table past (is_copied_on past b.channel) (kept_of (applied_of got))
    (ready_bunches got b)

-- what a bunch does at the server is what its payloads do, read one by one
pub heard_is_read : (v : Version) (budget : ℕ) (table : Table) (past : Past) (b : Bunch)
    → bunch_heard (server v budget table) past b ≡ read_raws (server v budget table) past
    (raws_heard AtServer past b)
heard_is_read v budget table past b =
    by_case (λ raws. read_raws (server v budget table) past raws) (is_misplaced AtServer b) b.reliable _ _ _ _
    _ _ refl
    (offered v budget table past b (received_on past b.channel)
    (offer_of (received_on past b.channel) (number_as (received_on past b.channel) b)))
    (read_in_turn v budget table past (is_copied_on past b.channel)
    (kept_of (applied_of (received_on past b.channel))) (b ∷ []))
