-- Values that can be written.
use Rattle.std.specs.Prelude.{List, Bool}
use Rattle.std.specs.List.{list_all}
use Rattle.protocol_model.specs.Value.{Class}
use Rattle.protocol_model.specs.Payload.{kind_at}
use Rattle.value_codec.specs.Values.{value_fits}
use Rattle.value_codec.specs.declared.pair.Pair.{Pair as PairValue}

-- the value has the tag of its handle's kind, and is one of the kind's numbers
abbrev pub pair_fits : Class → PairValue → Bool
pair_fits class p = value_fits (kind_at class p.prop) p.value

-- so it is with each
abbrev pub pairs_fit : Class → List PairValue → Bool
pairs_fit class pairs = list_all (pair_fits class) pairs
