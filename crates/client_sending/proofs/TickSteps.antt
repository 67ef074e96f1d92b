-- A client's tick closes nothing, and no actor has a turn in it.
use Rattle.std.proofs.Common.{◌≡◌, ◌∙◌, ℕ, List, [], ◌++◌, map, Bool, false, cond, refl, sym, ap, fold}
use Rattle.std.specs.List.{filter_map}
use Rattle.protocol_model.specs.Search.{ascending_numbers}
use Rattle.protocol_model.specs.Side.{Side, AtClient}
use Rattle.connection_model.specs.CallAnswers.{waiting_of}
use Rattle.connection_model.specs.Feed.{End, Past, Owed, has_ended}
use Rattle.connection_model.specs.Fates.{owed_of}
use Rattle.connection_model.specs.Items.{due_items, call_item, first_items, actors_by_score}
use Rattle.connection_model.specs.Pack.{Packing, after_close, after_closes, after_offer, after_actor, packing_of, after_packing, after_tick}
use Rattle.packing_laws.specs.Beginning.{ticked, nothing_packed, after_offers, beginning}
use Rattle.packing_laws.proofs.Making.{first_offers}
use Rattle.bunch_packing.proofs.Tick.{offers_past}
use Rattle.client_sending.specs.Stands.{OpensNone}
use Rattle.client_sending.specs.Ticking.{call_items, after_firsts}

-- it begins with this past
pub begins_past : (end : End) (past : Past) → (beginning end past []).past ≡ ticked past []
begins_past end past = offers_past end (nothing_packed (ticked past [])) (map Owed (owed_of end.version past))

-- and offers nothing besides
pub firsts_past : (end : End) (before : Past) (p : Packing) → (after_firsts end before p).past ≡ p.past
firsts_past end before p = offers_past end p (due_items p.past ++ call_items before p.past)

-- no actor was opened
closes_none : (past : Past) → OpensNone past → after_closes (ticked past []) ≡ ticked past []
closes_none past none = ap (λ (xs : List ℕ). fold after_close (ticked past []) (ascending_numbers xs)) none

-- what is offered first is all
firsts_are : (end : End) (past : Past) → end.side ≡ AtClient
    → fold (after_offer end) (nothing_packed (ticked past [])) (first_items end past (ticked past []))
    ≡ after_firsts end past (beginning end past [])
firsts_are end past side =
    first_offers end past (ticked past []) [] refl refl
    ∙ ap (λ (s : Side). after_offers end (record (beginning end past []) { past = ticked past [] })
    (due_items (ticked past []) ++ filter_map (call_item s (ticked past [])) (waiting_of past))) side
    ∙ ap (λ (l : Past). after_offers end (record (beginning end past []) { past = l })
    (due_items l ++ call_items past l)) (sym (begins_past end past))

no_turns : (end : End) (past : Past) (p : Packing) → fold (after_actor end) p (actors_by_score (ticked past [])) ≡ p
no_turns end past p = refl

packs : (end : End) (past : Past) → end.side ≡ AtClient
    → packing_of end past (ticked past []) ≡ after_firsts end past (beginning end past [])
packs end past side =
    no_turns end past
    (fold (after_offer end) (nothing_packed (ticked past [])) (first_items end past (ticked past [])))
    ∙ firsts_are end past side

-- a tick of a client that is alive
pub client_tick : (end : End) (past : Past) → end.side ≡ AtClient → has_ended past ≡ false → OpensNone past
    → after_tick end past [] ≡ after_packing end past (after_firsts end past (beginning end past []))
client_tick end past side alive none =
    ap (λ (b : Bool). cond b past (after_packing end past (packing_of end past (after_closes (ticked past []))))) alive
    ∙ ap (λ (now : Past). after_packing end past (packing_of end past now)) (closes_none past none)
    ∙ ap (after_packing end past) (packs end past side)
