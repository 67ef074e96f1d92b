-- A tick ends an end exactly where as many packets are open as may be.
use Rattle.std.proofs.Common.{◌≡◌, ◌+◌, List, [], ◌∷◌, false, refl, sym, ◌∙◌, fold}
use Rattle.std.specs.Prelude.{nat_le}
use Rattle.std.proofs.lemmas.Bool.{cond_both}
use Rattle.protocol_model.specs.Limits.{unresolved_limit}
use Rattle.protocol_model.specs.Sight.{Seen}
use Rattle.connection_model.specs.Feed.{End, Past, Ticked, Ended, ByStall, has_ended, tick_count}
use Rattle.connection_model.specs.Fates.{unresolved_count}
use Rattle.connection_model.specs.State.{opened_actors}
use Rattle.connection_model.specs.Pack.{Packing, after_closes, after_sending, packets_to_send, packing_of, after_stall, after_packing, after_tick}
use Rattle.connection_laws.specs.Run.{Ticks, IsRun}
use Rattle.connection_laws.specs.Run.IsRun.{does}
use Rattle.connection_laws.proofs.LiveRuns.{IsDone, runs_go}
use Rattle.connection_laws.proofs.Ticking.{IsTicking, Sendable, closes_tick, packing_packs, sendable, all_sent}

stalled : (past : Past) → has_ended past ≡ false
    → has_ended (after_stall past) ≡ nat_le unresolved_limit (unresolved_count (after_stall past))
stalled past alive =
    cond_both (nat_le unresolved_limit (unresolved_count past)) (Ended ByStall ∷ past) past
    (λ (later : Past). has_ended later ≡ nat_le unresolved_limit (unresolved_count later))
    (λ e. sym e) (λ e. alive ∙ sym e)

pub tick_stalls : (end : End) (past : Past) (sight : List Seen) → IsDone (IsRun end) past → has_ended past ≡ false
    → has_ended (after_tick end past sight) ≡ nat_le unresolved_limit (unresolved_count (after_tick end past sight))
tick_stalls end past sight h alive = rw alive by_parts
  where
    begin : Past
    begin = Ticked (tick_count past + 1) sight ∷ past

    by_parts : has_ended (after_packing end past (packing_of end past
        (after_closes (Ticked (tick_count past + 1) sight ∷ past))))
        ≡ nat_le unresolved_limit (unresolved_count (after_packing end past
        (packing_of end past (after_closes (Ticked (tick_count past + 1) sight ∷ past)))))
    by_parts =
        let closed : IsTicking end (IsRun end) past (after_closes begin) =
        closes_tick end (IsRun end) (runs_go end) past begin (opened_actors begin) (record {
          run = does (Ticks sight) h.run alive tt;
          alive = alive;
          in_tick = refl;
          taken = refl;
          told = refl;
          unresolved = refl;
          waits = refl;
        }) in
        let packing : Packing = packing_of end past (after_closes begin) in
        let sent : Sendable end (IsRun end) (fold after_sending packing.past (packets_to_send end past packing)) [] =
        all_sent end (IsRun end) (runs_go end) packing.past (packets_to_send end past packing)
        (sendable end (IsRun end) (runs_go end) past packing
        (packing_packs end (IsRun end) (runs_go end) past (after_closes begin) h.run closed (h.few alive))) in
        stalled (fold after_sending packing.past (packets_to_send end past packing)) sent.alive
