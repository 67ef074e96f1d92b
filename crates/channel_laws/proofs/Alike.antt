-- What follows from bunches alone is the same in pasts that tell the same of bunches.
use Rattle.std.proofs.Common.{◌≡◌, ℕ, List, [], ◌∷◌, false, refl, sym, ap, ◌∙◌, arith, Option, Some, None}
use Rattle.std.specs.List.{filter_map, list_any, slice_get, flat_map, range_with_len}
use Rattle.protocol_model.specs.Search.{newest_of, ascending_numbers, is_among}
use Rattle.connection_model.specs.Feed.{Past, Ticked, Waits, Sent, Took, Ended, Entry, Heard, Delivered, Item, Ending}
use Rattle.protocol_model.specs.Packet.{Bunch}
use Rattle.protocol_model.specs.Payload.{Message}
use Rattle.protocol_model.specs.Sight.{Seen}
use Rattle.connection_model.specs.Fates.{high_of, sent_in}
use Rattle.connection_model.specs.Bunches.{made_count, has_arrived, is_due, carrier_of, carrier_in, is_carried_as, least_unarrived, span, span_sum, room, channel_in}
use Rattle.connection_laws.specs.Fates.{CarriesMade}
use Rattle.connection_laws.proofs.Searches.{newest_miss}
use Rattle.connection_laws.proofs.Arrivals.{arrival_same}
use Rattle.connection_laws.proofs.Spans.{span_like, least_like, span_sum_is}
use Rattle.connection_laws.proofs.Sums.{sum_once, sum_falls}
use Rattle.channel_laws.specs.Known.{known, known_by}
use Rattle.channel_laws.specs.Alike.{SameMade, Alike}
use Rattle.channel_laws.specs.Known.{needed_by}
use Rattle.channel_laws.proofs.Known.{due_is}
use Rattle.protocol_laws.proofs.Greatest.{greatest_of-cons}

pub same_arrived : (one other : Past) → Alike one other → (ch n : ℕ) → has_arrived other ch n ≡ has_arrived one ch n
same_arrived one other h ch n = arrival_same one other ch n (h.made.carriers ch n) h.moved

pub same_known : (one other : Past) → Alike one other → (p : ℕ) → known other p ≡ known one p
same_known one other h p = ap (λ ms. known_by ms p) h.moved

pub same_due : (one other : Past) → Alike one other → (ch n : ℕ) → is_due other ch n ≡ is_due one ch n
same_due one other h ch n =
    due_is other ch n ∙ by (carrier_of other ch n) (carrier_of one ch n) (h.made.carriers ch n) ∙ sym (due_is one ch n)
  where
    by : (x y : Option ℕ) → x ≡ y → needed_by (known other) x ≡ needed_by (known one) y
    by x y e = rw e (go y)
      where
        go : (z : Option ℕ) → needed_by (known other) z ≡ needed_by (known one) z
        go None = refl
        go (Some p) = ap (λ f. needed_by (λ q. f) (Some p)) (same_known one other h p)

pub same_high : (one other : Past) → Alike one other → high_of other ≡ high_of one
same_high one other h = ap (λ ms. Rattle.protocol_model.specs.Search.greatest_of ms) h.moved

pub same_least : (one other : Past) → Alike one other → (ch : ℕ) → least_unarrived other ch ≡ least_unarrived one ch
same_least one other h ch =
    least_like _ _ (λ n. ap Rattle.std.specs.Prelude.not (same_arrived one other h ch n)) (made_count other ch) 1
    ∙ ap (λ k. Rattle.protocol_model.specs.Search.least_from (λ n. Rattle.std.specs.Prelude.not (has_arrived one ch n)) k 1) (h.made.count ch)

pub same_span : (one other : Past) → Alike one other → (ch : ℕ) → span other ch ≡ span one ch
same_span one other h ch = span_like one other ch (h.made.count ch) (same_arrived one other h ch)

-- the sums of equal spans are equal
pub sum_same : (one other : Past) → filter_map channel_in other ≡ filter_map channel_in one
    → ((ch : ℕ) → span other ch ≡ span one ch) → span_sum other ≡ span_sum one
sum_same one other c h =
    let a : sum_once (span other) (filter_map channel_in other) ≡ sum_once (span other) (filter_map channel_in one) = ap (sum_once (span other)) c in
    omega (
      arith,
      a,
      span_sum_is one,
      span_sum_is other,
      sum_falls (span other) (span one) (filter_map channel_in one) (λ ch. omega (arith, h ch)),
      sum_falls (span one) (span other) (filter_map channel_in one) (λ ch. omega (arith, h ch)),
    )

pub same_sum : (one other : Past) → Alike one other → span_sum other ≡ span_sum one
same_sum one other h = sum_same one other h.made.channels (same_span one other h)

pub same_room : (one other : Past) → Alike one other → (ch : ℕ) → room other ch ≡ room one ch
same_room one other h ch = omega (arith, same_span one other h ch, same_sum one other h)

pub same_carries : (one other : Past) → SameMade one other → CarriesMade one → CarriesMade other
same_carries one other h c = λ ch n k e.
    let was = c ch n k (sym (h.carriers ch n) ∙ e) in
    (was.0, omega (arith, was.1, h.count ch), was.2, omega (arith, was.3, h.last))

-- ---- deeds that say nothing of bunches

pub alike_self : (past : Past) → Alike past past
alike_self past = record {
  made = record {
    count = λ ch. refl;
    made = λ ch n. refl;
    channels = refl;
    carriers = λ ch n. refl;
    last = omega arith;
  };
  moved = refl;
}

pub alike_ticked : (t : ℕ) (sight : List Seen) (past : Past) → Alike past (Ticked t sight ∷ past)
alike_ticked t sight past = record {
  made = record {
    count = λ ch. refl;
    made = λ ch n. refl;
    channels = refl;
    carriers = λ ch n. refl;
    last = omega arith;
  };
  moved = refl;
}

pub alike_waits : (m : Message) (past : Past) → Alike past (Waits m ∷ past)
alike_waits m past = record {
  made = record {
    count = λ ch. refl;
    made = λ ch n. refl;
    channels = refl;
    carriers = λ ch n. refl;
    last = omega arith;
  };
  moved = refl;
}

pub alike_ended : (e : Ending) (past : Past) → Alike past (Ended e ∷ past)
alike_ended e past = record {
  made = record {
    count = λ ch. refl;
    made = λ ch n. refl;
    channels = refl;
    carriers = λ ch n. refl;
    last = omega arith;
  };
  moved = refl;
}

pub alike_handed : (n : ℕ) (es : List Entry) (ds more : List Delivered) (past : Past)
    → Alike (Took n es ds ∷ past) (Took n es more ∷ past)
alike_handed n es ds more past = record {
  made = record {
    count = λ ch. refl;
    made = λ ch n. refl;
    channels = refl;
    carriers = λ ch n. refl;
    last = omega arith;
  };
  moved = refl;
}

-- a packet is taken, before its entries
pub alike_taken : (n : ℕ) (ds : List Delivered) (past : Past) → Alike past (Took n [] ds ∷ past)
alike_taken n ds past = record {
  made = record {
    count = λ ch. refl;
    made = λ ch n. refl;
    channels = refl;
    carriers = λ ch n. refl;
    last = omega arith;
  };
  moved = refl;
}

-- a packet tells a bunch
pub alike_heard : (n : ℕ) (es : List Entry) (ds more : List Delivered) (b : Bunch) (past : Past)
    → Alike (Took n es ds ∷ past) (Took n (Heard b ∷ es) more ∷ past)
alike_heard n es ds more b past = record {
  made = record {
    count = λ ch. refl;
    made = λ ch n. refl;
    channels = refl;
    carriers = λ ch n. refl;
    last = omega arith;
  };
  moved = refl;
}

-- a packet is sent that carries no bunch that was made
pub alike_sent : (number t : ℕ) (items : List Item) (past : Past)
    → ((ch n : ℕ) → list_any (is_carried_as ch n) items ≡ false)
    → Alike past (Sent number t items ∷ past)
alike_sent number t items past none = record {
  made = record {
    count = λ ch. refl;
    made = λ ch n. refl;
    channels = refl;
    carriers = λ ch n. newest_miss (carrier_in ch n) (Sent number t items) past (ap (λ b. Rattle.std.specs.Bool.then_some b number) (none ch n));
    last = omega (arith, greatest_of-cons number (filter_map sent_in past));
  };
  moved = refl;
}
