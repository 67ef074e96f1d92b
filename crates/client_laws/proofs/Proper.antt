-- The bunches of a packet that was read are proper.
use Rattle.std.proofs.Common.{◌≡◌, ℕ, ◌-◌, ◌*◌, ◌==◌, List, [], ◌∷◌, length, Bool, true, false, cond, not, ◌&&◌, ◌||◌, nat_lt, Result, Ok, Err, refl, map}
use Rattle.std.specs.Prelude.{slice_index_or}
use Rattle.std.specs.List.{list_all, AllByRecursion}
use Rattle.protocol_model.specs.declared.Version.{Version}
use Rattle.protocol_model.specs.declared.Version.TheVariants.{One, Two}
use Rattle.protocol_model.specs.declared.Why.{Why}
use Rattle.protocol_model.specs.declared.Why.TheVariants.{Empty, TooLong, NoEnd}
use Rattle.protocol_model.specs.Reading.{Fault, place_of}
use Rattle.protocol_model.specs.Packet.{Bunch, Rec, Ack, Sends, Packet, is_bunch, is_rec, implies}
use Rattle.protocol_model.specs.PacketReading.{packet_of, packet_at, content_read, content_of, Refusal, why_of}
use Rattle.connection_model.specs.Feed.{Entry, Told, Acked, Heard}
use Rattle.connection_model.specs.Verdict.{entry_of, entries_in}
use Rattle.protocol_laws.proofs.PacketSpelled.{content_spelled}
use Rattle.client_laws.specs.Holding.{IsProper}

left_of : (x y : Bool) → (x && y) ≡ true → x ≡ true
left_of true y h = refl
left_of false y h = cc

right_of : (x y : Bool) → (x && y) ≡ true → y ≡ true
right_of true y h = h
right_of false y h = cc

one_control : (o c : Bool) → not (o && c) ≡ true → o ≡ true → c ≡ false
one_control true true h e = absurd (cc)
one_control true false h e = refl
one_control false c h e = absurd (cc)

opens_reliable : (o c r : Bool) → implies (o || c) r ≡ true → o ≡ true → r ≡ true
opens_reliable true c r h e = h
opens_reliable false c r h e = absurd (cc)

bunch_proper : (version : Version) (b : Bunch) → is_bunch version b ≡ true → IsProper b
bunch_proper version b h =
    let three = left_of _ _ (left_of _ _ (left_of _ _ (left_of _ _ (left_of _ _ h)))) in
    record {
      one = one_control b.opens b.closes (left_of _ _ (left_of _ _ three));
      reliable = opens_reliable b.opens b.closes b.reliable (right_of _ _ three);
    }

-- the bunch of an entry is proper
abbrev pub IsProperIn : Entry → Type 0
IsProperIn (Heard b) = IsProper b
IsProperIn (Told head) = Unit {0}
IsProperIn (Acked number) = Unit {0}

rec_proper : (version : Version) (rec : Rec) → is_rec version rec ≡ true → IsProperIn (entry_of rec)
rec_proper version (Ack number) h = tt
rec_proper One (Sends b) h = bunch_proper One b h
rec_proper Two (Sends b) h = bunch_proper Two b h

recs_proper : (version : Version) (recs : List Rec) → list_all (λ rec. is_rec version rec) recs ≡ true
    → AllByRecursion IsProperIn (map entry_of recs)
recs_proper version [] h = tt
recs_proper version (rec ∷ recs) h =
    (rec_proper version rec (left_of _ _ h), recs_proper version recs (right_of _ _ h))

entries_by : (version : Version) (p : Packet) → list_all (λ rec. is_rec version rec) p.recs ≡ true
    → AllByRecursion IsProperIn (entries_in version p)
entries_by One p h = recs_proper One p.recs h
entries_by Two p h = (tt, recs_proper Two p.recs h)

read_recs : (version : Version) (content : List Bool) (p : Packet) → content_read version content ≡ Ok p
    → list_all (λ rec. is_rec version rec) p.recs ≡ true
read_recs version content p h = by (packet_at version content) refl h
  where
    same : (p q : Packet) → ◌≡◌ {A = Result Packet Refusal} (Ok p) (Ok q) → p ≡ q
    same p q e = cc

    by : (got : Result (Packet × List Bool) (Fault Why)) → packet_at version content ≡ got
        → ◌≡◌ {A = Result Packet Refusal}
        (elim got [ Ok got ↦ Ok got.0 | Err fault ↦ Err (place_of (length content) fault, why_of fault) ])
        (Ok p)
        → list_all (λ rec. is_rec version rec) p.recs ≡ true
    by (Ok got) e h = rw (← same got.0 p h) (content_spelled version content got.0 got.1 e).recs
    by (Err fault) e h = absurd (cc)

of_bytes : (version : Version) (bytes : List ℕ) (p : Packet) (a b c : Bool) (x y z : Refusal)
    → cond a (Err x) (cond b (Err y) (cond c (Err z) (content_read version (content_of bytes)))) ≡ Ok p
    → content_read version (content_of bytes) ≡ Ok p
of_bytes version bytes p true b c x y z h = absurd (cc)
of_bytes version bytes p false true c x y z h = absurd (cc)
of_bytes version bytes p false false true x y z h = absurd (cc)
of_bytes version bytes p false false false x y z h = h

-- each bunch of a packet that was read is proper
pub entries_are_proper : (version : Version) (bytes : List ℕ) (p : Packet) → packet_of version bytes ≡ Ok p
    → AllByRecursion IsProperIn (entries_in version p)
entries_are_proper version bytes p h =
    entries_by version p (read_recs version (content_of bytes) p (of_bytes version bytes p (length bytes == 0)
    (nat_lt 1024 (length bytes)) (slice_index_or bytes (length bytes - 1) 0 == 0) (0, Empty) (8192, TooLong)
    (8 * (length bytes - 1), NoEnd) h))
