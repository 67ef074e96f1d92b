-- Packets sent behind a past.
use Rattle.std.specs.Prelude.{◌≡◌, ℕ, ◌<◌, List, [], ◌∷◌, reverse, true, false, ⊤}
use Rattle.std.specs.List.{fold, list_any}
use Rattle.connection_model.specs.Feed.{Past, Sent, Item}
use Rattle.connection_model.specs.Fates.{high_of}
use Rattle.connection_model.specs.Bunches.{is_carried_as, has_arrived}
use Rattle.connection_model.specs.Pack.{after_sending}

-- no bunch that these items carry has arrived
abbrev pub CarriesUnarrived : Past → List Item → Type 0
CarriesUnarrived past items =
    (ch n : ℕ) → list_any (is_carried_as ch n) items ≡ true → has_arrived past ch n ≡ false

-- the deeds sent packets that carry no bunch that has arrived, with numbers above each that moved
abbrev pub AreSendings : (past sent : Past) → Type 0
AreSendings past [] = ⊤
AreSendings past (Sent number t items ∷ sent) =
    (high_of past < number) × CarriesUnarrived past items × AreSendings past sent
AreSendings past (deed ∷ sent) = ⊥

-- packets, the newest of which stands first, sent one after another
abbrev pub sent_all : Past → List (List Item) → Past
sent_all past packets = fold after_sending past (reverse packets)

-- no bunch that these packets carry has arrived
abbrev pub CarryUnarrived : Past → List (List Item) → Type 0
CarryUnarrived past [] = ⊤
CarryUnarrived past (items ∷ packets) = CarriesUnarrived past items × CarryUnarrived past packets
