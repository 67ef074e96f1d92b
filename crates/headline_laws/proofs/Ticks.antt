-- A tick, a call and a datagram leave all that was done such that its packets can be spelled.
use Rattle.std.proofs.Common.{◌≡◌, inl, inr, ℕ, ◌+◌, ◌<◌, ◌≤◌, List, [], ◌∷◌, ◌++◌, map, fold, Bool, true, false, ◌&&◌, nat_le, nat_lt, ◌%◌, length, refl, sym, ap, ◌∙◌, subst, arith, Option, Some, None}
use Rattle.std.specs.List.{filter_map, AllByRecursion}
use Rattle.std.specs.Bool.{then_some}
use Rattle.std.specs.Prelude.{option_and_then}
use Rattle.std.proofs.lemmas.Bool.{lt-ltb, cases_Bool, cond_both, and_parts}
use Rattle.protocol_model.specs.declared.Version.{Version}
use Rattle.protocol_model.specs.declared.Version.TheVariants.{One, Two}
use Rattle.protocol_model.specs.Packet.{channel_limit}
use Rattle.protocol_model.specs.Value.{Arg, Call, Class, call_at, args_fit}
use Rattle.protocol_model.specs.Payload.{Message, Calls, message_bits}
use Rattle.protocol_model.specs.Sight.{Seen}
use Rattle.protocol_model.specs.Side.{Side}
use Rattle.connection_model.specs.Feed.{End, Past, Ticked, Waits, Ended, ByStall, Owed, has_ended, tick_count}
use Rattle.connection_model.specs.Fates.{owed_of, unresolved_count}
use Rattle.connection_model.specs.Bunches.{after_making}
use Rattle.connection_model.specs.State.{free_index, opened_actors}
use Rattle.connection_model.specs.Items.{first_items, due_items, call_item, actors_by_score}
use Rattle.connection_model.specs.CallAnswers.{waiting_of, call_class, call_channel, goes_from, fitting_call, call_of, queued_for, answer_of, after_answer, after_call}
use Rattle.protocol_model.specs.declared.CallAnswer.{CallAnswer}
use Rattle.protocol_model.specs.declared.CallAnswer.TheVariants.{Queued, Dead, NotOpen, NotOwner, WindowFull}
use Rattle.connection_model.specs.Pack.{Packing, after_closes, after_offer, after_actor, packing_of, packets_to_send, after_sending, after_stall, after_packing, after_tick}
use Rattle.connection_laws.specs.Run.{IsRun, Ticks}
use Rattle.connection_laws.specs.Run.IsRun.{does}
use Rattle.connection_laws.proofs.LiveRuns.{IsDone, runs_go}
use Rattle.connection_laws.proofs.Items.{all_append, all_weaker}
use Rattle.connection_laws.proofs.Fates.{fates_fit}
use Rattle.connection_laws.proofs.Spans.{spans_fit}
use Rattle.connection_laws.proofs.Packing.{PacksOn, offers_past, actor_packs, actor_sight}
use Rattle.connection_laws.proofs.ActorsShown.{SeenNow, seen_like, actors_seen_now}
use Rattle.connection_laws.proofs.Ticking.{IsTicking, closes_tick, first_packs, packing_packs}
use Rattle.payload_laws.specs.Limits.{HasLimits}
use Rattle.table_model.specs.Rules.{args_limit}
use Rattle.std.proofs.lemmas.Nat.{mod_below}
use Rattle.protocol_laws.proofs.FieldLengths.{power_width}
use Rattle.payload_laws.proofs.Bounds.{call_most}
use Rattle.headline_laws.specs.Fits.{SeenFits, ItemFits, start_length, PastFits}
use Rattle.headline_laws.proofs.ChannelsFit.{due_fits, waiting_short, calls_fit, call_fits, free_below}
use Rattle.headline_laws.proofs.PacketsFit.{fits_made, closes_fit, PackingFits, offers_fit, actor_fits, actors_seen, SentFits, all_fit, to_send_fit}

-- how many bits a message takes
abbrev length_of : Message → ℕ
length_of m = length (message_bits m)

-- ---- the first items

mod_low : (n : ℕ) → nat_lt (n % 16384) 16384 ≡ true
mod_low n = lt-ltb (n % 16384) 16384 (mod_below n 16384 (omega arith))

-- an acknowledgement fits
owed_one : (n : ℕ) → ItemFits One (Owed n)
owed_one n = (mod_low n, omega (arith, power_width 14 (n % 16384) (omega arith)))

-- so do acknowledgements
owed_fit_in : (ns : List ℕ) → AllByRecursion (ItemFits One) (map (λ (n : ℕ). Owed n) ns)
owed_fit_in [] = tt
owed_fit_in (n ∷ ns) = (owed_one n, owed_fit_in ns)

-- so do those that are owed
owed_fits : (v : Version) (past : Past) → AllByRecursion (ItemFits v) (map (λ (n : ℕ). Owed n) (owed_of v past))
owed_fits One past = owed_fit_in (owed_of One past)
owed_fits Two past = tt

-- so do the first items of a tick
first_fit : (end : End) (before now : Past) → PastFits end before → PastFits end now → AllByRecursion (ItemFits end.version) (first_items end before now)
first_fit end before now b n =
    all_append (ItemFits end.version) (map (λ (k : ℕ). Owed k) (owed_of end.version before) ++ due_items now) (filter_map (call_item end.side now) (waiting_of before))
    (all_append (ItemFits end.version) (map (λ (k : ℕ). Owed k) (owed_of end.version before)) (due_items now) (owed_fits end.version before) (due_fits end now n))
    (calls_fit end now (waiting_of before) n (waiting_short end before b))

-- ---- actors

-- 8,705 indexes can be spelled
limit_high : (v : Version) (n : ℕ) → n ≤ 8705 → n < channel_limit v
limit_high One n h = omega (arith, h)
limit_high Two n h = omega (arith, h)

-- the free index can be spelled
low_index : (end : End) (past : Past) → IsRun end past → PastFits end past → free_index past < channel_limit end.version
low_index end past run f = limit_high end.version (free_index past) (free_below end past 8192 refl f (spans_fit end past run).sum)

-- so do the items of actors
actors_fit : (end : End) (start : ℕ) (p : Packing) (actors : List Seen) → AllByRecursion (SeenNow p.past) actors → PacksOn end (IsRun end) p [] → PackingFits end start p → AllByRecursion SeenFits actors → PackingFits end start (fold (after_actor end) p actors)
actors_fit end start p [] now packs h s = h
actors_fit end start p (seen ∷ actors) now packs h s =
    actors_fit end start (after_actor end p seen) actors
    (all_weaker (SeenNow p.past) (SeenNow (after_actor end p seen).past) (λ s q. seen_like p.past (after_actor end p seen).past (actor_sight end (IsRun end) (runs_go end) p seen) s q) actors now.1)
    (actor_packs end (IsRun end) (runs_go end) p seen [] now.0 packs)
    (actor_fits end start p seen h s.0 (low_index end p.past packs.run h.fits)) s.1

-- ---- the tick

-- a tick leaves a past that fits
pub tick_fits : (end : End) (past : Past) (sight : List Seen) → IsDone (IsRun end) past → AllByRecursion SeenFits sight → PastFits end past → PastFits end (after_tick end past sight)
tick_fits end past sight done seen f = elim (cases_Bool (has_ended past)) [
  | inl e ↦ rw e f
  | inr e ↦ rw e (ticked e)
]
  where
    ticked : has_ended past ≡ false → PastFits end (after_packing end past (packing_of end past (after_closes (Ticked (tick_count past + 1) sight ∷ past))))
    ticked e =
        let begin : Past = Ticked (tick_count past + 1) sight ∷ past in
        let begun : IsTicking end (IsRun end) past begin = record { run = does (Ticks sight) done.run e tt; alive = e; in_tick = refl; taken = refl; told = refl; unresolved = refl; waits = refl } in
        let now : Past = after_closes begin in
        let closed : IsTicking end (IsRun end) past now = closes_tick end (IsRun end) (runs_go end) past begin (opened_actors begin) begun in
        let now_fits : PastFits end now = closes_fit end begin (opened_actors begin) (seen, f) in
        let empty : Packing = record { past = now; packets = []; full = false } in
        let start : ℕ = start_length end now in
        let first : PackingFits end start (fold (after_offer end) empty (first_items end past now)) =
        offers_fit end start empty (first_items end past now) (record { fits = now_fits; start_is = refl; each = tt }) (first_fit end past now f now_fits) in
        let packs : PacksOn end (IsRun end) (fold (after_offer end) empty (first_items end past now)) [] =
        first_packs end (IsRun end) (runs_go end) past now done.run closed (done.few e) in
        let packing : Packing = packing_of end past now in
        let packed : PackingFits end start packing =
        actors_fit end start (fold (after_offer end) empty (first_items end past now)) (actors_by_score now)
        (subst (λ (past : Past). AllByRecursion (SeenNow past) (actors_by_score now)) (sym (offers_past end (IsRun end) (runs_go end) empty (first_items end past now))) (actors_seen_now now)) packs first (actors_seen end now now_fits) in
        let all : PacksOn end (IsRun end) packing [] = packing_packs end (IsRun end) (runs_go end) past now done.run closed (done.few e) in
        let ready : SentFits end start packing.past = record { fits = packed.fits; start_is = packed.start_is; high = (fates_fit end packing.past all.run).high } in
        stalled (fold after_sending packing.past (packets_to_send end past packing)) (all_fit end start packing.past (packets_to_send end past packing) ready (to_send_fit end start past packing packed)).fits
      where
        stalled : (later : Past) → PastFits end later → PastFits end (after_stall later)
        stalled later h = cond_both (nat_le 4096 (unresolved_count later)) (Ended ByStall ∷ later) later (PastFits end) (λ t. (tt, h)) (λ t. h)

-- ---- a call

-- each class by which a call is made has limits
abbrev pub CallsKnow : Side → Past → Type 0
CallsKnow side past = (a : ℕ) (class : Class) → call_class side past a ≡ Some class → HasLimits class

-- a call that fits is one of a class that is known
pub meant : (side : Side) (n : ℕ) (args : List Arg) (o : Option Class) (call : Call) → option_and_then (fitting_call side n args) o ≡ Some call → (class : Class) × (o ≡ Some class) × (fitting_call side n args class ≡ Some call)
meant side n args None call e = absurd (let no : (let o : Option Call = None in o) ≡ Some call = e in cc)
meant side n args (Some class) call e = (class, refl, e)

-- a call that fits is one of the class, with arguments that fit
fitting : (side : Side) (n : ℕ) (args : List Arg) (class : Class) (call : Call) → fitting_call side n args class ≡ Some call → (call_at class n ≡ Some call) × (args_fit call.args args ≡ true)
fitting side n args class call e = by (call_at class n) refl e
  where
    inner : (c : Call) (b : Bool) → (goes_from side c.way && args_fit c.args args) ≡ b → then_some b c ≡ Some call → (c ≡ call) × (args_fit c.args args ≡ true)
    inner c true q h = ((let same : c ≡ call = cc in same), (and_parts (goes_from side c.way) (args_fit c.args args) q).1)
    inner c false q h = absurd (let no : (let o : Option Call = None in o) ≡ Some call = h in cc)

    by : (o : Option Call) → call_at class n ≡ o → option_and_then (λ (call : Call). then_some (goes_from side call.way && args_fit call.args args) call) o ≡ Some call → (call_at class n ≡ Some call) × (args_fit call.args args ≡ true)
    by None q h = absurd (let no : (let o : Option Call = None in o) ≡ Some call = h in cc)
    by (Some c) q h =
        let r = inner c (goes_from side c.way && args_fit c.args args) refl h in
        (q ∙ ap (λ (x : Call). Some x) r.0, subst (λ (x : Call). args_fit x.args args ≡ true) r.0 r.1)

-- any call is short enough for ten parts, an unreliable one for one
call_short : (side : Side) (past : Past) (a n : ℕ) (args : List Arg) (call : Call) → CallsKnow side past → call_of side past a n args ≡ Some call → length_of (Calls a n call args) ≤ 70000
call_short side past a n args call know e =
    let m = meant side n args (call_class side past a) call e in
    let f = fitting side n args m.0 call m.2 in
    let bits = call_most m.0 a n call args (know a m.0 m.1) f.0 f.1 in
    let most : args_limit call.reliable ≤ 60000 = limit_most call.reliable in
    omega (arith, bits, most)
  where
    limit_most : (r : Bool) → args_limit r ≤ 60000
    limit_most true = omega arith
    limit_most false = omega arith

-- an unreliable call has one part
loose_short : (side : Side) (past : Past) (a n : ℕ) (args : List Arg) (call : Call) → CallsKnow side past → call_of side past a n args ≡ Some call → call.reliable ≡ false → length_of (Calls a n call args) ≤ 7000
loose_short side past a n args call know e loose =
    let m = meant side n args (call_class side past a) call e in
    let f = fitting side n args m.0 call m.2 in
    let bits = call_most m.0 a n call args (know a m.0 m.1) f.0 f.1 in
    let short : length_of (Calls a n call args) ≤ 49 + 6900 = subst (λ (r : Bool). length_of (Calls a n call args) ≤ 49 + args_limit r) loose bits in
    omega (arith, short)

-- a past fits after a call is queued
queued_fits : (end : End) (side : Side) (past : Past) (a n : ℕ) (args : List Arg) → PastFits end past → CallsKnow side past → (o : Option ℕ) → call_channel side past a ≡ o → (c : Option Call) → call_of side past a n args ≡ c → PastFits end (queued_for past a n args o c)
queued_fits end side past a n args f know None q c e = f
queued_fits end side past a n args f know (Some ch) q None e = f
queued_fits end side past a n args f know (Some ch) q (Some call) e =
    cond_both call.reliable (after_making past ch (Calls a n call args)) (Waits (Calls a n call args) ∷ past) (PastFits end)
    (λ r. fits_made end past ch (Calls a n call args) f (call_fits end side past a ch f q) tt (call_short side past a n args call know e))
    (λ r. (loose_short side past a n args call know e r, f))

-- a past fits after a call is answered
answer_fits : (end : End) (past : Past) (a n : ℕ) (args : List Arg) → PastFits end past → CallsKnow end.side past → (answer : CallAnswer) → PastFits end (after_answer end.side past a n args answer)
answer_fits end past a n args f know Queued = queued_fits end end.side past a n args f know (call_channel end.side past a) refl (call_of end.side past a n args) refl
answer_fits end past a n args f know Dead = f
answer_fits end past a n args f know NotOpen = f
answer_fits end past a n args f know NotOwner = f
answer_fits end past a n args f know WindowFull = f

-- a call leaves a past that fits
pub event_call_fits : (end : End) (past : Past) (a n : ℕ) (args : List Arg) → PastFits end past → CallsKnow end.side past → PastFits end (after_call end.side past a n args)
event_call_fits end past a n args f know = answer_fits end past a n args f know (answer_of end.side past a n args)
