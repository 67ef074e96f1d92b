-- Bunches at the client do what their whole payloads do, read one by one.
use Rattle.std.proofs.Common.{◌≡◌, ℕ, ◌==◌, List, [], ◌∷◌, length, Bool, true, false, cond, not, ◌&&◌, nat_lt, is_some, is_none, Option, Some, None, Result, Ok, Err, refl, ap, sym, ◌∙◌}
use Rattle.std.specs.List.{AllByRecursion}
use Rattle.protocol_model.specs.Side.{AtClient}
use Rattle.protocol_model.specs.Value.{Table}
use Rattle.protocol_model.specs.declared.Version.{Version}
use Rattle.protocol_model.specs.Packet.{Bunch}
use Rattle.protocol_model.specs.Payload.{Message}
use Rattle.protocol_model.specs.Reading.{Fault}
use Rattle.protocol_model.specs.declared.Cause.{Cause}
use Rattle.protocol_model.specs.declared.Cause.TheVariants.{BadPart, BadChannel}
use Rattle.protocol_model.specs.declared.PartWhy.{PartWhy}
use Rattle.connection_model.specs.Feed.{End, Past, Entry, Delivered}
use Rattle.connection_model.specs.Copies.{copy_on}
use Rattle.connection_model.specs.Windows.{part_fault, ends_payload, first_of, joined_bits}
use Rattle.connection_model.specs.PayloadReading.{payload_at}
use Rattle.connection_model.specs.Verdict.{lacks_copy, bunch_result, payload_result, bunches_result, with_handed, delivery_of, payload_cause}
use Rattle.receiving_laws.specs.Receiving.{is_astray, raws_of, read_from, read_raws, copied_after}
use Rattle.receiving_laws.specs.Holders.{is_copied_on}
use Rattle.client_laws.specs.Holding.{Agrees, Begun}
use Rattle.client_laws.proofs.Payloads.{taking, client, came}
use Rattle.client_laws.proofs.Parts.{IsOf, joining, may_come, none_begun, more_begun, goes_on_open}
use Rattle.client_laws.proofs.Raws.{raws_astray, raws_faulty, raws_more, raws_last}

-- ---- a copy is lacking where the channel is held wrong

lacking : (z o h n k copied : Bool) → h ≡ copied → n ≡ not copied
    → (not z && cond o h (n && not k)) ≡ (not z && cond o copied (not copied && not k))
lacking z o h n k copied e f = rw (e, f) refl

is_lacking : (held : Option ℕ) → is_none held ≡ not (is_some held)
is_lacking None = refl
is_lacking (Some a) = refl

pub lacks_as : (past : Past) (copied : Bool) (kept : List Bunch) (b : Bunch)
    → is_some (copy_on past b.channel) ≡ copied
    → lacks_copy AtClient past kept b ≡ is_astray AtClient copied kept b
lacks_as past copied kept b e =
    lacking (b.channel == 0) b.opens (is_some (copy_on past b.channel)) (is_none (copy_on past b.channel))
    (b.reliable && nat_lt 0 (length kept)) copied e
    (is_lacking (copy_on past b.channel) ∙ ap not e)

-- ---- one bunch

result_astray : (v : Version) (budget : ℕ) (table : Table) (past : Past) (kept : List Bunch) (b : Bunch)
    → lacks_copy AtClient past kept b ≡ true
    → bunch_result (client v budget table) past kept b ≡ Err (BadChannel b.channel)
result_astray v budget table past kept b e = rw e refl

result_faulty : (v : Version) (budget : ℕ) (table : Table) (past : Past) (kept : List Bunch) (b : Bunch)
    (why : PartWhy)
    → lacks_copy AtClient past kept b ≡ false → part_fault kept b b.part ≡ Some why
    → bunch_result (client v budget table) past kept b ≡ Err (BadPart b.channel why)
result_faulty v budget table past kept b why a e = rw (a, e) refl

result_more : (v : Version) (budget : ℕ) (table : Table) (past : Past) (kept : List Bunch) (b : Bunch)
    → lacks_copy AtClient past kept b ≡ false → part_fault kept b b.part ≡ None → ends_payload b ≡ false
    → bunch_result (client v budget table) past kept b ≡ Ok None
result_more v budget table past kept b a e f = rw (a, e, f) refl

result_last : (v : Version) (budget : ℕ) (table : Table) (past : Past) (kept : List Bunch) (b : Bunch)
    → lacks_copy AtClient past kept b ≡ false → part_fault kept b b.part ≡ None → ends_payload b ≡ true
    → bunch_result (client v budget table) past kept b ≡ payload_result (client v budget table) past
    (first_of (joining kept b) b) (joined_bits (joining kept b) b)
result_last v budget table past kept b a e f = rw (a, e, f) refl

-- ---- all of them

-- what is to be shown of these bunches, after this past and where these parts are kept
abbrev pub Same : End → Past → (copied : Bool) → (kept bunches : List Bunch) → Type 0
Same end past copied kept bunches =
    bunches_result end past kept bunches ≡ read_raws end past (raws_of AtClient copied kept bunches)

-- what stands before each bunch
pub record Turn (ch : ℕ) (past : Past) (copied : Bool) : Type 0 where
  pub agrees : Agrees past
  pub same : is_copied_on past ch ≡ copied

then_stops : (end : End) (past : Past) (kept : List Bunch) (b : Bunch) (more : List Bunch) (cause : Cause)
    → bunch_result end past kept b ≡ Err cause
    → bunches_result end past kept (b ∷ more) ≡ record { past = past; cause = Some cause }
then_stops end past kept b more cause e = rw (e, bunches_result) refl

then_more : (end : End) (past : Past) (kept : List Bunch) (b : Bunch) (more : List Bunch)
    → bunch_result end past kept b ≡ Ok None
    → bunches_result end past kept (b ∷ more) ≡ bunches_result end past (b ∷ kept) more
then_more end past kept b more e = rw (e, bunches_result) refl

then_ends : (end : End) (past : Past) (kept : List Bunch) (b : Bunch) (more : List Bunch) (d : Delivered)
    → bunch_result end past kept b ≡ Ok (Some d)
    → bunches_result end past kept (b ∷ more) ≡ bunches_result end (with_handed d past) [] more
then_ends end past kept b more d e = rw (e, bunches_result) refl

pub in_turn : (v : Version) (budget : ℕ) (table : Table) (m : ℕ) (entries : List Entry)
    (handed : List Delivered) (before : Past) (ch : ℕ) (copied : Bool) (kept bunches : List Bunch)
    → AllByRecursion (IsOf ch) kept → AllByRecursion (IsOf ch) bunches → Begun copied kept
    → Turn ch (taking m entries handed before) copied
    → Same (client v budget table) (taking m entries handed before) copied kept bunches
in_turn v budget table m entries handed before ch copied kept [] k h begun turn = refl
in_turn v budget table m entries handed before ch copied kept (b ∷ more) k h begun turn =
    by_astray (is_astray AtClient copied kept b) refl
    (λ d t. in_turn v budget table m entries (d ∷ handed) before ch (copied_after copied first) [] more tt h.1
    (none_begun _) t)
    (λ g. in_turn v budget table m entries handed before ch copied (b ∷ kept) more (h.0, k) h.1 g turn)
  where
    past : Past
    past = taking m entries handed before

    end : End
    end = client v budget table

    first : Bunch
    first = first_of (joining kept b) b

    bits : List Bool
    bits = joined_bits (joining kept b) b

    Last : Type 0
    Last =
        (d : Delivered) → Turn ch (taking m entries (d ∷ handed) before) (copied_after copied first) → Same
        end (taking m entries (d ∷ handed) before) (copied_after copied first) [] more

    More : Type 0
    More = Begun copied (b ∷ kept) → Same end past copied (b ∷ kept) more

    lacks : (t : Bool) → is_astray AtClient copied kept b ≡ t → lacks_copy AtClient past kept b ≡ t
    lacks t e =
        lacks_as past copied kept b
        (turn.agrees.holder b.channel ∙ ap (is_copied_on past) h.0.channel ∙ turn.same) ∙ e

    by_read : (got : Result (Message × List Bool) (Fault (Option Cause)))
        → payload_at end past first bits ≡ got
        → is_astray AtClient copied kept b ≡ false → part_fault kept b b.part ≡ None → ends_payload b ≡ true
        → Last → Same end past copied kept (b ∷ more)
    by_read (Err fault) g a f e last =
        let bad : payload_result end past first bits ≡ Err (payload_cause first.channel (length bits) fault) =
        rw (g, payload_result) refl in
        then_stops end past kept b more _ (result_last v budget table past kept b (lacks false a) f e ∙ bad)
        ∙ sym (ap (read_raws end past) (raws_last copied kept b more a f e) ∙ rw (read_from, bad) refl)
    by_read (Ok got) g a f e last =
        let good : payload_result end past first bits ≡ Ok (Some (delivery_of end past first got.0)) = rw
        (g, payload_result) refl in
        let may = may_come ch copied kept b k h.0 begun a in
        let there : is_copied_on past first.channel ≡ copied = ap (is_copied_on past) may.channel
        ∙ turn.same in
        let left = came v budget table m entries handed before first copied bits got.0 got.1 turn.agrees there
        (record { channel = refl; sound = may.sound; opens = may.opens; closes = may.closes }) g in
        then_ends end past kept b more _ (result_last v budget table past kept b (lacks false a) f e ∙ good)
        ∙ last (delivery_of end past first got.0) (record {
          agrees = left.leaves.agrees;
          same = ap
              (is_copied_on (with_handed (delivery_of end past first got.0) past)) (sym may.channel) ∙
              left.leaves.here;
        })
        ∙ sym (ap (read_raws end past) (raws_last copied kept b more a f e) ∙ rw (read_from, good) refl)

    by_end : (e : Bool) → ends_payload b ≡ e → is_astray AtClient copied kept b ≡ false
        → part_fault kept b b.part ≡ None → Last → More → Same end past copied kept (b ∷ more)
    by_end true e a f last on = by_read (payload_at end past first bits) refl a f e last
    by_end false e a f last on =
        then_more end past kept b more (result_more v budget table past kept b (lacks false a) f e)
        ∙ on (more_begun copied kept b h.0.sound begun a (goes_on_open kept b f e))
        ∙ sym (ap (read_raws end past) (raws_more copied kept b more a f e))

    by_fault : (o : Option PartWhy) → part_fault kept b b.part ≡ o → is_astray AtClient copied kept b ≡ false
        → Last → More → Same end past copied kept (b ∷ more)
    by_fault (Some why) f a last on =
        then_stops end past kept b more _ (result_faulty v budget table past kept b why (lacks false a) f)
        ∙ sym (ap (read_raws end past) (raws_faulty copied kept b more why a f))
    by_fault None f a last on = by_end (ends_payload b) refl a f last on

    by_astray : (t : Bool) → is_astray AtClient copied kept b ≡ t → Last → More
        → Same end past copied kept (b ∷ more)
    by_astray true a last on =
        then_stops end past kept b more _ (result_astray v budget table past kept b (lacks true a))
        ∙ sym (ap (read_raws end past) (raws_astray copied kept b more a))
    by_astray false a last on = by_fault (part_fault kept b b.part) refl a last on
