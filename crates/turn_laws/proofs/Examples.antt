-- Two Pawns, of which one was opened: which of them have a turn, and in which order.
use Rattle.std.specs.Prelude.{◌≡◌, refl, ℕ, ℤ, List, [], ◌∷◌, map, true, false, pos}
use Rattle.protocol_model.specs.Bits.{digits, packed_in}
use Rattle.protocol_model.specs.BuiltIn.{pawn}
use Rattle.protocol_model.specs.Payload.{Opens}
use Rattle.protocol_model.specs.Sight.{Seen}
use Rattle.connection_model.specs.Feed.{Past, Ticked, Made, Sent, Took, Acked, Carries}
use Rattle.connection_model.specs.Bunches.{made_bunch}
use Rattle.connection_model.specs.Items.{actors_by_score}
use Rattle.turn_laws.specs.Turns.{turns_of}

-- a relevant Pawn with one value
relevant_pawn : (actor : ℕ) → ℤ → Seen
relevant_pawn a v = record {
  actor = a;
  class = pawn;
  owns = false;
  relevant = true;
  destroyed = false;
  dormant = false;
  flush = 0;
  values = record { handle = 4; value = v } ∷ [];
}

-- Pawn 2 was opened with value 7 in the first tick, and that has arrived
opened : Past
opened =
    Took 1 (Acked 1 ∷ []) []
    ∷ Sent 1 1 (Carries 1 1 (made_bunch 1 1 (Opens [] 2 pawn (relevant_pawn 2 (pos 7)).values) 0) ∷ [])
    ∷ Made 1 1 (Opens [] 2 pawn (relevant_pawn 2 (pos 7)).values) 0 ∷ Ticked 1 (relevant_pawn 2 (pos 7) ∷ []) ∷ []

-- two ticks later Pawn 4 is seen too
seen_later : ℤ → Past
seen_later v =
    Ticked 3 (relevant_pawn 2 v ∷ relevant_pawn 4 (pos 7) ∷ []) ∷ Ticked 2 (relevant_pawn 2 (pos 7) ∷ []) ∷ opened

actors_in : List Seen → List ℕ
actors_in sight = map (λ (seen : Seen). seen.actor) sight

-- nothing is due of Pawn 2 while its value is the one that arrived, and so Pawn 4 alone has a turn
same_value : actors_in (turns_of (seen_later (pos 7))) ≡ 4 ∷ []
unfolding seen_later opened relevant_pawn actors_in pawn digits packed_in
same_value = refl

-- once its value is another one Pawn 2, served two ticks ago, goes before Pawn 4, first seen now
other_value : actors_in (turns_of (seen_later (pos 8))) ≡ 2 ∷ 4 ∷ []
unfolding seen_later opened relevant_pawn actors_in pawn digits packed_in
other_value = refl

-- both are relevant either way
both_are_relevant : actors_in (actors_by_score (seen_later (pos 7))) ≡ 2 ∷ 4 ∷ []
unfolding seen_later opened relevant_pawn actors_in pawn digits packed_in
both_are_relevant = refl

-- of two that wait as long the lower guid goes first
lower_guid_first : actors_in (turns_of (Ticked 1 (relevant_pawn 2 (pos 7) ∷ relevant_pawn 4 (pos 7) ∷ []) ∷ []))
    ≡ 2 ∷ 4 ∷ []
unfolding relevant_pawn actors_in pawn
lower_guid_first = refl
