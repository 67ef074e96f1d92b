-- What a tick does outside: each packet with its line, and whether the end stalled.
use Rattle.std.proofs.Common.{◌≡◌, List, [], ◌∷◌, ◌++◌, map, Bool, true, false, refl, ap, sym, ◌∙◌, subst}
use Rattle.std.specs.List.{flat_map}
use Rattle.std.proofs.lemmas.List.Concat.{flat_map-append}
use Rattle.protocol_model.specs.Value.{Table}
use Rattle.protocol_model.specs.World.{Edits}
use Rattle.replication_model.specs.Story.{Player}
use Rattle.link_end.specs.declared.sent.Sent.{Sent as SentValue}
use Rattle.replay_places.specs.Doing.{IsTicked, sent_report, stalled_reports}
use Rattle.replay_places.proofs.Ticked.{told_of}
use Rattle.live_model.specs.Outside.{Act}
use Rattle.live_model.specs.Server.{acts_of, after_live_tick}
use Rattle.live_acts.specs.declared.act.Act.{Act as ActCode}
use Rattle.live_acts.specs.Acts.{AddsActs}
use Rattle.live_telling.specs.declared.ticking.Teller.{Teller}
use Rattle.live_telling.specs.Ticked.{side_of, packet_acts, stall_acts, Tells}
use Rattle.live_telling.proofs.Adding.{adds_both}

-- each packet with its line is what its report does
packets_do : (t : Teller) (sent : List SentValue)
    → flat_map (packet_acts t) sent
    ≡ flat_map (acts_of t.end t.to) (map (sent_report (side_of t.side) t.player) sent)
packets_do t [] = refl
packets_do t (s ∷ sent) = ap (λ (l : List Act). packet_acts t s ++ l) (packets_do t sent)

stall_does : (t : Teller) (stalled : Bool)
    → stall_acts t stalled ≡ flat_map (acts_of t.end t.to) (stalled_reports (side_of t.side) t.player stalled)
stall_does t true = refl
stall_does t false = refl

-- both are what the reports of the tick do
tick_does : (table : Table) (edits : Edits) (t : Teller) (p : Player) (sent : List SentValue) (stalled : Bool)
    → t.player ≡ p.number → IsTicked table edits (side_of t.side) p sent stalled
    → flat_map (packet_acts t) sent ++ stall_acts t stalled
    ≡ (after_live_tick table edits (side_of t.side) t.end t.to p).1
tick_does table edits t p sent stalled who ticked =
    let side = side_of t.side in
    let does = acts_of t.end t.to in
    both _ _ _ _ (packets_do t sent) (stall_does t stalled)
    ∙ sym (flat_map-append does (map (sent_report side t.player) sent) (stalled_reports side t.player stalled))
    ∙ ap (flat_map does)
    (ap (λ n. map (sent_report side n) sent ++ stalled_reports side n stalled) who
    ∙ told_of table edits side p sent stalled ticked)
  where
    both : (xs ys us vs : List Act) → xs ≡ us → ys ≡ vs → xs ++ ys ≡ us ++ vs
    both xs ys us vs e f = rw (e, f) refl

-- packets, and then whether the end stalled
pub tick_told : (table : Table) (edits : Edits) (t : Teller) (p : Player) (sent : List SentValue) (stalled : Bool)
    (before mid after : List ActCode) → AddsActs before mid (flat_map (packet_acts t) sent)
    → AddsActs mid after (stall_acts t stalled) → Tells table edits t sent stalled before after p
tick_told table edits t p sent stalled before mid after one two = λ who ticked.
    subst (AddsActs before after) (tick_does table edits t p sent stalled who ticked)
    (adds_both before mid after (flat_map (packet_acts t) sent) (stall_acts t stalled) one two)
