-- Bunches that are made while a tick packs change no head, no count of open packets, and so no offer.
use Rattle.std.proofs.Common.{◌≡◌, ℕ, ◌+◌, ◌-◌, List, [], ◌∷◌, ◌++◌, map, true, false, refl, ap, ◌∙◌, sym, arith, fold, append_assoc}
use Rattle.std.specs.List.{filter_map}
use Rattle.std.proofs.lemmas.List.Sums.{fold-append}
use Rattle.protocol_model.specs.declared.Version.{Version}
use Rattle.protocol_model.specs.Payload.{Message}
use Rattle.protocol_model.specs.Sight.{Seen}
use Rattle.connection_model.specs.Feed.{End, Past, Made, Item, Owed}
use Rattle.connection_model.specs.Fates.{head_of, high_of, top_when, owed_of, unresolved_count}
use Rattle.connection_model.specs.Bunches.{made_count, after_making}
use Rattle.connection_model.specs.CallAnswers.{waiting_of}
use Rattle.connection_model.specs.Items.{due_items, call_item, first_items}
use Rattle.connection_model.specs.Pack.{Packing, after_offer}
use Rattle.connection_laws.proofs.Moves.{making_keeps}
use Rattle.connection_laws.proofs.LiveRuns.{unresolved_made}
use Rattle.packing_laws.specs.Beginning.{ticked, beginning}
use Rattle.packing_laws.proofs.Sendings.{head_same}
use Rattle.packing_laws.proofs.Packings.{offers_past_after}

pub head_made : (v : Version) (past : Past) (ch n : ℕ) (m : Message) (i : ℕ)
    → head_of v (Made ch n m i ∷ past) ≡ head_of v past
head_made v past ch n m i = head_same v past (Made ch n m i ∷ past) refl refl

pub head_making : (v : Version) (past : Past) (ch : ℕ) (m : Message)
    → head_of v (after_making past ch m) ≡ head_of v past
head_making v past ch m =
    making_keeps (λ i before. head_of v before ≡ head_of v past) past ch m refl
    (λ i before lt e. head_made v before ch (made_count past ch + 1 + i) m i ∙ e)

pub unresolved_making : (past : Past) (ch : ℕ) (m : Message)
    → unresolved_count (after_making past ch m) ≡ unresolved_count past
unresolved_making past ch m = unresolved_made past ch m

-- a tick's first items are offered to what was packed as it began, whatever closes were made since
pub first_offers : (end : End) (before now : Past) (sight : List Seen)
    → head_of end.version now ≡ head_of end.version (ticked before sight)
    → unresolved_count now ≡ unresolved_count (ticked before sight)
    → fold (after_offer end) (record { past = now; packets = []; full = false }) (first_items end before now)
    ≡ fold (after_offer end) (record (beginning end before sight) { past = now }) (due_items now ++ filter_map
    (call_item end.side now) (waiting_of before))
first_offers end before now sight head count =
    let owed : List Item = map Owed (owed_of end.version before) in
    let calls : List Item = filter_map (call_item end.side now) (waiting_of before) in
    let start : Packing = record { past = ticked before sight; packets = []; full = false } in
    ap (fold (after_offer end) (record start { past = now })) (append_assoc owed (due_items now) calls)
    ∙ fold-append (after_offer end) (record start { past = now }) owed (due_items now ++ calls)
    ∙ ap (λ (p : Packing). fold (after_offer end) p (due_items now ++ calls))
    (offers_past_after end start now owed head count)
