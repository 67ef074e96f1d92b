-- As a tick begins, all acknowledgements owed go into one packet.
use Rattle.std.proofs.Common.{◌≡◌, ℕ, ◌+◌, ◌*◌, ◌%◌, ◌<◌, ◌≤◌, List, [], ◌∷◌, ◌++◌, map, take, length, true, false, nat_lt, nat_le, refl, sym, ap, ◌∙◌, subst, arith, append_assoc, fold}
use Rattle.std.specs.List.{flat_map}
use Rattle.std.proofs.lemmas.Bool.{le-leb, lt-ltb}
use Rattle.std.proofs.lemmas.List.{length-append, length-reverse, length-take, append-nil, map-append}
use Rattle.protocol_model.specs.declared.Version.{Version}
use Rattle.protocol_model.specs.declared.Version.TheVariants.{One, Two}
use Rattle.protocol_model.specs.Bits.{int_bits}
use Rattle.protocol_model.specs.Packet.{start_bits, rec_bits}
use Rattle.protocol_model.specs.Sight.{Seen}
use Rattle.connection_model.specs.Feed.{End, Past, Item, Owed, deeds_since_tick}
use Rattle.connection_model.specs.Fates.{taken_of, owed_of, head_of, unresolved_count}
use Rattle.connection_model.specs.Pack.{Packing, rec_of, packet_length, after_offer}
use Rattle.protocol_laws.proofs.FieldLengths.{power_width}
use Rattle.packing_laws.specs.Beginning.{ticked, beginning, in_one, begun}

-- the bits of acknowledgements
acks_bits : (ns : List ℕ) → length (flat_map (λ item. rec_bits One (rec_of item)) (map Owed ns)) ≡ 15 * length ns
acks_bits [] = refl
acks_bits (n ∷ ns) =
    omega (
      arith,
      length-append (int_bits 16384 (n % 16384)) (flat_map (λ item. rec_bits One (rec_of item))
          (map Owed ns)),
      power_width 14 (n % 16384) (omega arith),
      acks_bits ns,
    )

acks_length : (end : End) (past : Past) (ns : List ℕ) → end.version ≡ One
    → packet_length end past (map Owed ns) ≡ 14 + 15 * length ns
acks_length end past ns e =
    ap (λ (v : Version). length (start_bits v 0 (head_of v past) ++ flat_map (λ item. rec_bits v (rec_of item))
    (map Owed ns))) e
    ∙ omega (
      arith,
      length-append (int_bits 16384 0) (flat_map (λ item. rec_bits One (rec_of item))
          (map Owed ns)),
      power_width 14 0 (omega arith),
      acks_bits ns,
    )

-- an offer that fits into the current packet
pub offer_fits : (end : End) (past : Past) (current : List Item) (packets : List (List Item)) (item : Item)
    → packet_length end past (current ++ item ∷ []) + 1 ≤ 8192
    → after_offer end (record { past = past; packets = current ∷ packets; full = false }) item
    ≡ record { past = past; packets = (current ++ item ∷ []) ∷ packets; full = false }
offer_fits end past current packets item le =
    let size : ℕ = packet_length end past (current ++ item ∷ []) + 1 in
    let e : nat_le (packet_length end past (current ++ item ∷ []) + 1) 8192 ≡ true = le-leb size 8192 le in
    rw e refl

-- the first offer of a tick begins a packet
pub offer_begins : (end : End) (past : Past) (item : Item) → 1 ≤ end.budget → unresolved_count past < 4096
    → after_offer end (record { past = past; packets = []; full = false }) item ≡ record {
      past = past;
      packets =
          (item ∷ []) ∷ [];
      full = false;
    }
offer_begins end past item some few =
    let budget : nat_lt 0 end.budget ≡ true = lt-ltb 0 end.budget some in
    let room : nat_lt (unresolved_count past + 0) 4096 ≡ true = lt-ltb (unresolved_count past + 0) 4096
    (omega arith) in
    rw (budget, room) refl

rest_fits : (end : End) (past : Past) (before ns : List ℕ) → end.version ≡ One → length before + length ns ≤ 512
    → fold (after_offer end) (record { past = past; packets = map Owed before ∷ []; full = false }) (map Owed ns)
    ≡ record { past = past; packets = map Owed (before ++ ns) ∷ []; full = false }
rest_fits end past before [] e few = ap (λ
    (ms : List ℕ). record { past = past; packets = map Owed ms ∷ []; full = false }) (sym (append-nil before))
rest_fits end past before (n ∷ ns) e few =
    let more : map Owed (before ++ n ∷ []) ≡ map Owed before ++ Owed n ∷ [] = map-append Owed before (n ∷ []) in
    let small : packet_length end past (map Owed before ++ Owed n ∷ []) + 1 ≤ 8192 =
    subst (λ (items : List Item). packet_length end past items + 1 ≤ 8192) more (omega (
      arith,
      acks_length end past
          (before ++ n ∷ []) e,
      length-append before (n ∷ []),
    )) in
    ap (λ (q : Packing). fold (after_offer end) q (map Owed ns)) (offer_fits end past (map Owed before) []
    (Owed n) small)
    ∙ ap (λ (items : List Item). fold (after_offer end)
    (record { past = past; packets = items ∷ []; full = false }) (map Owed ns)) (sym more)
    ∙ rest_fits end past (before ++ n ∷ []) ns e (omega (arith, length-append before (n ∷ [])))
    ∙ ap (λ (ms : List ℕ). record { past = past; packets = map Owed ms ∷ []; full = false }) (append_assoc before
    (n ∷ []) ns)

all_fit : (end : End) (past : Past) (ns : List ℕ) → end.version ≡ One → length ns ≤ 512 → 1 ≤ end.budget
    → unresolved_count past < 4096
    → fold (after_offer end) (record { past = past; packets = []; full = false })
    (map Owed ns) ≡ record { past = past; packets = in_one (map Owed ns); full = false }
all_fit end past [] e few some open_few = refl
all_fit end past (n ∷ ns) e few some open_few =
    ap (λ (q : Packing). fold (after_offer end) q (map Owed ns)) (offer_begins end past (Owed n) some open_few)
    ∙ rest_fits end past (n ∷ []) ns e (omega arith)

pub few_owed : (v : Version) (past : Past) → length (owed_of v past) ≤ 512
few_owed One past = omega (
  arith,
  length-reverse (take 512 (taken_of (deeds_since_tick past))),
  length-take 512
      (taken_of (deeds_since_tick past)),
)
few_owed Two past = omega arith

pub beginning_is : (end : End) (past : Past) (sight : List Seen) → 1 ≤ end.budget → unresolved_count past < 4096
    → beginning end past sight ≡ begun end past sight
beginning_is end past sight some few = by end.version refl
  where
    by : (v : Version) → end.version ≡ v → beginning end past sight ≡ begun end past sight
    by One e = all_fit end (ticked past sight) (owed_of end.version past) e (few_owed end.version past) some few
    by Two e =
        let none : owed_of end.version past ≡ [] = ap (λ (v : Version). owed_of v past) e in
        let P : List ℕ → Type 0 = λ ns. fold (after_offer end)
        (record { past = ticked past sight; packets = []; full = false }) (map Owed ns)
        ≡ record { past = ticked past sight; packets = in_one (map Owed ns); full = false } in
        subst P (sym none) refl
