-- A tick in steps: closes, what comes before the first turn, turns, and the packets.
use Rattle.std.proofs.Common.{◌≡◌, ◌<◌, ◌≤◌, List, [], ◌∷◌, ◌++◌, Bool, true, false, cond, refl, sym, ap, ◌∙◌, subst, fold}
use Rattle.std.specs.List.{filter_map}
use Rattle.protocol_model.specs.Limits.{unresolved_limit}
use Rattle.protocol_model.specs.Sight.{Seen}
use Rattle.connection_model.specs.Feed.{End, Past, has_ended, sight_of}
use Rattle.connection_model.specs.Fates.{head_of, unresolved_count}
use Rattle.connection_model.specs.Items.{due_items, call_item, first_items, actors_by_score}
use Rattle.connection_model.specs.CallAnswers.{waiting_of}
use Rattle.connection_model.specs.Pack.{Packing, after_offer, after_actor, packing_of, after_packing, after_tick}
use Rattle.packing_laws.specs.Beginning.{ticked, nothing_packed, after_offers, begun}
use Rattle.packing_laws.proofs.Beginnings.{beginning_is}
use Rattle.packing_laws.proofs.Making.{head_making, unresolved_making, first_offers}
use Rattle.sender_laws.proofs.Makes.{sight_under}
use Rattle.sight_laws.specs.Sights.{IsSight}
use Rattle.turn_laws.specs.Turns.{turns_of, after_turn, after_turns, closed_up, before_turns}
use Rattle.turn_laws.proofs.Closed.{closes_keep}
use Rattle.turn_laws.proofs.Untouched.{offers_past}
use Rattle.turn_laws.proofs.Serving.{turns_serve}

-- closes leave the sight, the head and the count of open packets
pub closed_sight : (past : Past) (sight : List Seen) → sight_of (closed_up past sight) ≡ sight
closed_sight past sight =
    closes_keep (λ (l : Past). sight_of l ≡ sight) (λ l ch m h. sight_under [] l ch m ∙ h) (ticked past sight) refl

closed_head : (end : End) (past : Past) (sight : List Seen)
    → head_of end.version (closed_up past sight) ≡ head_of end.version (ticked past sight)
closed_head end past sight =
    closes_keep (λ (l : Past). head_of end.version l ≡ head_of end.version (ticked past sight))
    (λ l ch m h. head_making end.version l ch m ∙ h) (ticked past sight) refl

closed_count : (past : Past) (sight : List Seen) → unresolved_count (closed_up past sight)
    ≡ unresolved_count (ticked past sight)
closed_count past sight =
    closes_keep (λ (l : Past). unresolved_count l ≡ unresolved_count (ticked past sight))
    (λ l ch m h. unresolved_making l ch m ∙ h) (ticked past sight) refl

-- what is offered first is what is packed before the first turn
pub firsts_are : (end : End) (past : Past) (sight : List Seen) → 1 ≤ end.budget
    → unresolved_count past < unresolved_limit
    → fold (after_offer end) (nothing_packed (closed_up past sight)) (first_items end past (closed_up past sight))
    ≡ before_turns end past sight
firsts_are end past sight some few =
    first_offers end past (closed_up past sight) sight (closed_head end past sight) (closed_count past sight)
    ∙ ap (λ (p : Packing). after_offers end (record p { past = closed_up past sight })
    (due_items (closed_up past sight) ++ filter_map (call_item end.side (closed_up past sight))
    (waiting_of past)))
    (beginning_is end past sight some few)

before_past : (end : End) (past : Past) (sight : List Seen) → (before_turns end past sight).past ≡ closed_up past sight
before_past end past sight =
    offers_past end (due_items (closed_up past sight) ++ filter_map (call_item end.side (closed_up past sight))
    (waiting_of past))
    (record (begun end past sight) { past = closed_up past sight })

-- turns over a packing whose past is given
turns_at : (end : End) (p : Packing) (now : Past) → p.past ≡ now → IsSight (sight_of now)
    → fold (after_actor end) p (actors_by_score now) ≡ after_turns end now p (turns_of now)
turns_at end p now e order =
    ap (λ (l : Past). fold (after_actor end) p (actors_by_score l)) (sym e)
    ∙ turns_serve end p (subst (λ (l : Past). IsSight (sight_of l)) (sym e) order)
    ∙ ap (λ (l : Past). after_turns end l p (turns_of l)) e

-- a tick
pub tick_steps : (end : End) (past : Past) (sight : List Seen) → has_ended past ≡ false → IsSight sight → 1 ≤ end.budget
    → unresolved_count past < unresolved_limit
    → after_tick end past sight
    ≡ after_packing end past (after_turns end (closed_up past sight) (before_turns end past sight)
    (turns_of (closed_up past sight)))
tick_steps end past sight alive order some few =
    ap (λ (b : Bool). cond b past (after_packing end past (packing_of end past (closed_up past sight)))) alive
    ∙ ap (after_packing end past)
    (ap (λ (p : Packing). fold (after_actor end) p (actors_by_score (closed_up past sight)))
    (firsts_are end past sight some few)
    ∙ turns_at end (before_turns end past sight) (closed_up past sight) (before_past end past sight)
    (subst IsSight (sym (closed_sight past sight)) order))

-- once something found no room, no turn does anything
pub full_stays : (end : End) (now : Past) (p : Packing) (turns : List Seen) → p.full ≡ true
    → after_turns end now p turns ≡ p
full_stays end now p [] e = refl
full_stays end now p (seen ∷ turns) e =
    ap (λ (q : Packing). after_turns end now q turns) (passed end now p seen e) ∙ full_stays end now p turns e
  where
    passed : (end : End) (now : Past) (p : Packing) (seen : Seen) → p.full ≡ true → after_turn end now p seen ≡ p
    passed end now p seen e = rw e refl
