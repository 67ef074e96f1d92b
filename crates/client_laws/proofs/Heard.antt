-- A bunch that is heard at the client: what it does, and what stands after it.
use Rattle.std.proofs.Common.{◌≡◌, ℕ, ◌==◌, List, [], ◌∷◌, Bool, true, false, cond, not, ◌&&◌, ◌||◌, refl, sym, subst}
use Rattle.std.specs.List.{AllByRecursion}
use Rattle.std.proofs.lemmas.Bool.{cond_both}
use Rattle.protocol_model.specs.Side.{AtClient}
use Rattle.protocol_model.specs.Value.{Table}
use Rattle.protocol_model.specs.declared.Version.{Version}
use Rattle.protocol_model.specs.Packet.{Bunch}
use Rattle.connection_model.specs.Feed.{Past, Entry, Delivered}
use Rattle.connection_model.specs.Windows.{Received, received_on, Offer, Repeat, Ready, Held, offer_of, number_as, with_offer, with_bunch, ready_bunches, applied_of, kept_of}
use Rattle.connection_model.specs.Verdict.{Progress, bunch_heard, reliable_result, is_misplaced}
use Rattle.receiving_laws.specs.Holders.{is_copied_on}
use Rattle.receiving_laws.specs.Receiving.{Raws, raws_heard, reliable_raws, read_raws}
use Rattle.connection_laws.proofs.Applied.{kept_after, kept_is, applied_held, applied_ready, offer_cases, received_are_on, run_on, kept_on}
use Rattle.connection_laws.proofs.Applied as Applied
use Rattle.client_laws.specs.Holding.{Holds, IsProper, IsSound, ComeInTurn}
use Rattle.client_laws.proofs.Payloads.{taking, client}
use Rattle.client_laws.proofs.Parts.{IsOf}
use Rattle.client_laws.proofs.Raws.{come}
use Rattle.client_laws.proofs.Reading.{in_turn}

differ : {B : Type 0} → true ≡ false → B
differ e = absurd (cc)

-- ---- bunches of a channel are sound

joined_facts : (ch : ℕ) (b : Bunch) → Applied.IsOn ch b → IsSound b → IsOf ch b
joined_facts ch b on sound = record { channel = on.channel; sound = sound }

both_facts : (ch : ℕ) (got : List Received) → AllByRecursion (λ (r : Received). Applied.IsOn ch r.1) got
    → AllByRecursion (λ (r : Received). IsSound r.1) got → AllByRecursion (λ (r : Received). IsOf ch r.1) got
both_facts ch [] on sound = tt
both_facts ch (r ∷ got) on sound = (joined_facts ch r.1 on.0 sound.0, both_facts ch got on.1 sound.1)

pub received_are_of : (past : Past) (ch : ℕ) → Holds past
    → AllByRecursion (λ (r : Received). IsOf ch r.1) (received_on past ch)
received_are_of past ch h = both_facts ch (received_on past ch) (received_are_on past ch) (h.sound ch)

pub offered_of : (ch : ℕ) (got : List Received) (b : Bunch) (o : Offer) → IsOf ch b
    → AllByRecursion (λ (r : Received). IsOf ch r.1) got
    → AllByRecursion (λ (r : Received). IsOf ch r.1) (with_offer got b o)
offered_of ch got b Repeat p h = h
offered_of ch got b Ready p h = (p, h)
offered_of ch got b (Held n) p h = (p, h)

pub kept_of_are : (ch : ℕ) (got : List Received) → AllByRecursion (λ (r : Received). IsOf ch r.1) got
    → AllByRecursion (IsOf ch) (kept_of (applied_of got))
kept_of_are ch got h =
    subst (AllByRecursion (IsOf ch)) (sym (kept_is (applied_of got)))
    (kept_on (IsOf ch) (applied_of got) [] tt (run_on (IsOf ch) got 1 _ h))

-- ---- what it does

by_case : (f : Raws → Progress) (m r : Bool) (x a b : Progress) (x' a' b' : Raws) → x ≡ f x'
    → (m ≡ false → a ≡ f a') → (m ≡ false → b ≡ f b')
    → cond m x (cond r a b) ≡ f (cond m x' (cond r a' b'))
by_case f true r x a b x' a' b' hx ha hb = hx
by_case f false true x a b x' a' b' hx ha hb = ha refl
by_case f false false x a b x' a' b' hx ha hb = hb refl

-- a proper bunch that isn't misplaced is sound
no_control : (a z r o c s : Bool) → ((a || (z && ((not r || o) || c))) || s) ≡ false → z ≡ true
    → (o ≡ false) × (c ≡ false)
no_control true z r o c s h e = differ h
no_control false false r o c s h e = differ (sym e)
no_control false true false o c s h e = differ h
no_control false true true true c s h e = differ h
no_control false true true false true s h e = differ h
no_control false true true false false s h e = (refl, refl)

pub is_sound : (b : Bunch) → IsProper b → is_misplaced AtClient b ≡ false → IsSound b
is_sound b p h = record { one = p.one; reliable = p.reliable; control = no_control _ (b.channel == 0) b.reliable b.opens b.closes _ h }

offered : (v : Version) (budget : ℕ) (table : Table) (m : ℕ) (entries : List Entry) (handed : List Delivered)
    (before : Past) (b : Bunch) (o : Offer)
    → Holds (taking m entries handed before) → IsSound b
    → reliable_result (client v budget table) (taking m entries handed before) b
    (received_on (taking m entries handed before) b.channel) o
    ≡ read_raws (client v budget table) (taking m entries handed before) (reliable_raws AtClient
    (taking m entries handed before) b (received_on (taking m entries handed before) b.channel) o)
offered v budget table m entries handed before b Repeat h sound = refl
offered v budget table m entries handed before b (Held n) h sound = refl
offered v budget table m entries handed before b Ready h sound =
    let past : Past = taking m entries handed before in
    let got : List Received = received_on past b.channel in
    let of = received_are_of past b.channel h in
    in_turn v budget table m entries handed before b.channel (is_copied_on past b.channel)
    (kept_of (applied_of got)) (ready_bunches got b)
    (kept_of_are b.channel got of) (run_on (IsOf b.channel) (with_bunch got b) _ _ (offered_of b.channel got b
    (offer_of got (number_as got b)) (record { channel = refl; sound = sound }) of))
    (h.begun b.channel) (record { agrees = h.agrees; same = refl })

-- what a bunch does at the client is what its payloads do, read one by one
pub heard_at_client : (v : Version) (budget : ℕ) (table : Table) (m : ℕ) (entries : List Entry)
    (handed : List Delivered) (before : Past) (b : Bunch)
    → Holds (taking m entries handed before) → IsProper b
    → bunch_heard (client v budget table) (taking m entries handed before) b ≡ read_raws
    (client v budget table) (taking m entries handed before)
    (raws_heard AtClient (taking m entries handed before) b)
heard_at_client v budget table m entries handed before b h proper =
    let past : Past = taking m entries handed before in
    let got : List Received = received_on past b.channel in
    by_case (λ raws. read_raws (client v budget table) past raws) (is_misplaced AtClient b) b.reliable _ _ _ _
    _ _ refl
    (λ e. offered v budget table m entries handed before b (offer_of got (number_as got b)) h
    (is_sound b proper e))
    (λ e. in_turn v budget table m entries handed before b.channel (is_copied_on past b.channel)
    (kept_of (applied_of got)) (b ∷ [])
    (kept_of_are b.channel got (received_are_of past b.channel h))
    (record { channel = refl; sound = is_sound b proper e }, tt) (h.begun b.channel)
    (record { agrees = h.agrees; same = refl }))

-- ---- its payloads come in turn

offered_turns : (m : ℕ) (entries : List Entry) (handed : List Delivered) (before : Past) (b : Bunch)
    (o : Offer)
    → Holds (taking m entries handed before) → IsSound b
    → ComeInTurn b.channel (is_copied_on (taking m entries handed before) b.channel) (reliable_raws AtClient
    (taking m entries handed before) b (received_on (taking m entries handed before) b.channel) o).whole
offered_turns m entries handed before b Repeat h sound = tt
offered_turns m entries handed before b (Held n) h sound = tt
offered_turns m entries handed before b Ready h sound =
    let past : Past = taking m entries handed before in
    let got : List Received = received_on past b.channel in
    let of = received_are_of past b.channel h in
    (come b.channel (is_copied_on past b.channel) (kept_of (applied_of got)) (ready_bunches got b)
    (kept_of_are b.channel got of)
    (run_on (IsOf b.channel) (with_bunch got b) _ _ (offered_of b.channel got b
    (offer_of got (number_as got b)) (record { channel = refl; sound = sound }) of)) (h.begun
    b.channel)).turns

pub heard_in_turn : (m : ℕ) (entries : List Entry) (handed : List Delivered) (before : Past) (b : Bunch)
    → Holds (taking m entries handed before) → IsProper b
    → ComeInTurn b.channel (is_copied_on (taking m entries handed before) b.channel)
    (raws_heard AtClient (taking m entries handed before) b).whole
heard_in_turn m entries handed before b h proper =
    let past : Past = taking m entries handed before in
    let got : List Received = received_on past b.channel in
    let P : Raws → Type 0 = λ raws. ComeInTurn b.channel (is_copied_on past b.channel) raws.whole in
    cond_both (is_misplaced AtClient b) _ _ P (λ e. tt)
    (λ e. cond_both b.reliable _ _ P
    (λ r. offered_turns m entries handed before b (offer_of got (number_as got b)) h (is_sound b proper e))
    (λ r. (come b.channel (is_copied_on past b.channel) (kept_of (applied_of got)) (b ∷ [])
    (kept_of_are b.channel got (received_are_of past b.channel h))
    (record { channel = refl; sound = is_sound b proper e }, tt) (h.begun b.channel)).turns))
