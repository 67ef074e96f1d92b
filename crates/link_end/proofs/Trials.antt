-- Links as tests drive them.
use Rattle.std.proofs.Common.{◌≡◌, ◌⊎◌, inl, inr, ℕ, ◌≤◌, ◌<◌, [], ◌∷◌, List, reverse, None, Bool, true, false, nat_le, Result, Ok, Err, refl, sym, ap, ◌∙◌}
use Rattle.std.proofs.lemmas.Bool.{false≢true, leb-false}
use Rattle.protocol_model.specs.Limits.{unresolved_limit}
use Rattle.protocol_model.specs.Side.{AtServer}
use Rattle.protocol_model.specs.declared.Version.{Version}
use Rattle.protocol_model.specs.declared.Version.TheVariants.{One, Two}
use Rattle.protocol_model.specs.Packet.{Bunch, Sends, Packet}
use Rattle.protocol_model.specs.PacketReading.{packet_of}
use Rattle.protocol_model.specs.Sight.{Seen}
use Rattle.connection_model.specs.Feed.{End, Past, Item, Carries, Took, Delivered}
use Rattle.connection_model.specs.Fates.{unresolved_count}
use Rattle.connection_model.specs.Pack.{Packing, has_room, after_offer, after_packing, rec_of}
use Rattle.connection_model.specs.Verdict.{entries_in}
use Rattle.packing_laws.proofs.Beginnings.{beginning_is}
use Rattle.link_end.specs.Answers.{beginning, IsTake}
use Rattle.link_end.specs.Begun.{IsPackable}
use Rattle.link_end.specs.Link.{Link}
use Rattle.link_end.specs.Packs.{Packs}
use Rattle.link_end.specs.Rests.{Rests, IsSpent}
use Rattle.link_end.specs.Trials.{IsIdle, IsEnding, IsTicking}
use Rattle.link_end.specs.declared.arrival.Arrival.{Arrival}
use Rattle.link_end.specs.declared.arrival.OfferRefusal.{OfferRefusal}
use Rattle.link_end.specs.declared.arrival.OfferRefusal.TheVariants.{NoRoom, Memory}
use Rattle.link_end.proofs.Offers.{offer_some}

-- whether a link is stalled, as it answers
abbrev pub TellsStall : Link → Bool → Type 0
TellsStall l stalled =
    (end : End) (past : Past) → Rests l end past → stalled ≡ nat_le unresolved_limit (unresolved_count past)

pub new_idle : (l : Link) (v : Version) (budget : ℕ) → 1 ≤ budget
    → ((end : End) → end.budget ≡ budget → end.version ≡ v → Rests l end []) → IsIdle l
new_idle l v budget some h =
    let end : End = record { side = AtServer; version = v; budget = budget; table = [] } in
    inr (end, [], h end refl refl, some)

pub idle_begins : (l : Link) (stalled : Bool) → IsIdle l → TellsStall l stalled → stalled ≡ false
    → IsSpent l ⊎ ((end : End) × (past : Past) × Rests l end past × (unresolved_count past < unresolved_limit))
idle_begins l stalled (inl s) h e = inl s
idle_begins l stalled (inr i) h e =
    inr (i.0, i.1, i.2, leb-false unresolved_limit (unresolved_count i.1) (sym (h i.0 i.1 i.2) ∙ e))

pub begun_ticks : (l later : Link) (stalled : Bool) → IsIdle l → (IsSpent l → (let b : Bool = false in b) ≡ true)
    → TellsStall l stalled → stalled ≡ false
    → ((end : End) (past : Past) (sight : List Seen) → Rests l end past
    → Packs later end past (beginning end past sight))
    → IsTicking later
begun_ticks l later stalled (inl s) after h e stands = absurd (false≢true (after s))
begun_ticks l later stalled (inr i) after h e stands =
    let few : unresolved_count i.1 < unresolved_limit =
    leb-false unresolved_limit (unresolved_count i.1) (sym (h i.0 i.1 i.2) ∙ e) in
    let open_still = ap (λ (p : Packing). p.full) (beginning_is i.0 i.1 [] i.3 few) in
    inr (i.0, i.1, beginning i.0 i.1 [], stands i.0 i.1 [] i.2, open_still, i.3)

pub offer_may : (l : Link) (b : Bunch) → IsTicking l → IsPackable One (Sends b) → IsPackable Two (Sends b)
    → IsSpent l ⊎ ((end : End) × (before : Past) × (p : Packing) × Packs l end before p × (p.full ≡ false)
    × IsPackable end.version (Sends b))
offer_may l b (inl s) one two = inl s
offer_may l b (inr t) one two = inr (t.0, t.1, t.2, t.3, t.4, by t.0.version)
  where
    by : (v : Version) → IsPackable v (Sends b)
    by One = one
    by Two = two

pub offered_ticks : (l later : Link) (b : Bunch) → IsTicking l → (IsSpent l → ⊥)
    → ((end : End) (before : Past) (p : Packing) (item : Item) → Packs l end before p → rec_of item ≡ Sends b
    → has_room end p item ≡ true)
    → ((end : End) (before : Past) (p : Packing) (item : Item) → Packs l end before p → rec_of item ≡ Sends b
    → Packs later end before (after_offer end p item)) → IsTicking later
offered_ticks l later b (inl s) after room stands = absurd (after s)
offered_ticks l later b (inr t) after room stands =
    let item : Item = Carries 0 1 b in
    inr (
      t.0,
      t.1,
      after_offer t.0 t.2 item,
      stands t.0 t.1 t.2 item t.3 refl,
      ap (λ (p : Packing). p.full) (offer_some t.0 t.2 item t.4 (room t.0 t.1 t.2 item t.3 refl)) ∙ t.4,
      t.5,
    )

pub refused_ends : (l later : Link) (b : Bunch) → IsTicking l → (IsSpent l → ⊥)
    → ((end : End) (before : Past) (p : Packing) (item : Item) → Packs l end before p → rec_of item ≡ Sends b
    → (has_room end p item ≡ false) × Packs later end before (record p { full = true })) → IsEnding later
refused_ends l later b (inl s) after none = absurd (after s)
refused_ends l later b (inr t) after none =
    inr (t.0, t.1, record t.2 { full = true }, (none t.0 t.1 t.2 (Carries 0 1 b) t.3 refl).1, t.5)

pub ticking_ends : (l : Link) → IsTicking l → IsEnding l
ticking_ends l (inl s) = inl s
ticking_ends l (inr t) = inr (t.0, t.1, t.2, t.3, t.5)

pub ending_may : (l : Link) → IsEnding l
    → IsSpent l ⊎ ((end : End) × (before : Past) × (p : Packing) × Packs l end before p)
ending_may l (inl s) = inl s
ending_may l (inr t) = inr (t.0, t.1, t.2, t.3)

pub ended_idles : (l later : Link) → IsEnding l → (IsSpent l → (let b : Bool = false in b) ≡ true)
    → ((end : End) (before : Past) (p : Packing) → Packs l end before p
    → Rests later end (after_packing end before p))
    → IsIdle later
ended_idles l later (inl s) after stands = absurd (false≢true (after s))
ended_idles l later (inr t) after stands = inr (t.0, after_packing t.0 t.1 t.2, stands t.0 t.1 t.2 t.3, t.4)

pub idle_may : (l : Link) → IsIdle l → IsSpent l ⊎ ((end : End) × (past : Past) × Rests l end past)
idle_may l (inl s) = inl s
idle_may l (inr i) = inr (i.0, i.1, i.2)

pub taken_idles : (l later : Link) (bytes : List ℕ) (a : Arrival) → IsIdle l → (IsSpent l → ⊥)
    → ((end : End) (past : Past) → Rests l end past → IsTake end past bytes (Ok a))
    → ((end : End) (past : Past) (p : Packet) (handed : List Delivered) → Rests l end past
    → packet_of end.version bytes ≡ Ok p → a.bad ≡ None
    → Rests later end (Took a.number (reverse (entries_in end.version p)) handed ∷ past)) → a.bad ≡ None
    → IsIdle later
taken_idles l later bytes a (inl s) after answer stands none = absurd (after s)
taken_idles l later bytes a (inr i) after answer stands none =
    let t = answer i.0 i.1 i.2 in
    inr (i.0, Took a.number (reverse (entries_in i.0.version t.0)) [] ∷ i.1, stands i.0 i.1 t.0 [] i.2 t.1 none, i.3)

pub ok_no_err : {A E : Type 0} (x : A) (e : E) → (let r : Result A E = Ok x in r) ≡ Err e → ⊥
ok_no_err x e q = cc

pub room_no_memory : (let r : Result ℕ OfferRefusal = Err NoRoom in r) ≡ Err Memory → ⊥
room_no_memory q = cc
