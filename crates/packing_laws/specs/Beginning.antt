-- What is packed as a tick begins.
use Rattle.std.specs.Prelude.{◌+◌, List, [], ◌∷◌, map, false}
use Rattle.std.specs.List.{fold}
use Rattle.protocol_model.specs.Sight.{Seen}
use Rattle.connection_model.specs.Feed.{End, Past, Item, Owed, Ticked, tick_count}
use Rattle.connection_model.specs.Fates.{owed_of}
use Rattle.connection_model.specs.Pack.{Packing, after_offer}

-- the past as a tick begins
abbrev pub ticked : Past → List Seen → Past
ticked past sight = Ticked (tick_count past + 1) sight ∷ past

-- no packet is begun
abbrev pub nothing_packed : Past → Packing
nothing_packed past = record { past = past; packets = []; full = false }

-- items are offered one after another
abbrev pub after_offers : End → Packing → List Item → Packing
after_offers end p items = fold (after_offer end) p items

-- the acknowledgements owed are offered first
abbrev pub beginning : End → Past → List Seen → Packing
beginning end past sight =
    after_offers end (nothing_packed (ticked past sight)) (map Owed (owed_of end.version past))

-- these items in one packet, where there are any
abbrev pub in_one : List Item → List (List Item)
in_one [] = []
in_one (item ∷ items) = (item ∷ items) ∷ []

-- and they stand in one packet
abbrev pub begun : End → Past → List Seen → Packing
begun end past sight = record {
  past = ticked past sight;
  packets = in_one (map Owed (owed_of end.version past));
  full = false;
}
