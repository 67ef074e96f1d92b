-- A move of fates, and acknowledgements that were spelled otherwise.
use Rattle.std.proofs.Common.{◌≡◌, ℕ, [], ◌∷◌, refl, sym, ap, ◌∙◌, arith, Option}
use Rattle.std.specs.List.{filter_map, cons_option, slice_get}
use Rattle.protocol_model.specs.Search.{greatest_of}
use Rattle.connection_model.specs.Feed.{Past, Deed, Ticked, Made, Waits, Sent, Took, Ended}
use Rattle.connection_model.specs.Fates.{moved_of, high_of, last_sent, sent_in}
use Rattle.connection_model.specs.Bunches.{made_on, channel_in, carrier_in}
use Rattle.connection_model.specs.Items.{made_as}
use Rattle.channel_laws.specs.Moves.{IsMove, SameNews, but_fates, without_fates}
use Rattle.channel_laws.specs.Known.{known, known_by, known_then}
use Rattle.channel_laws.specs.Alike.{SameMade, Alike}
use Rattle.channel_laws.proofs.Known.{known_more}
use Rattle.protocol_laws.proofs.Greatest.{greatest_of-cons}

-- what ignores acknowledgements finds the same without them
pub fates_ignored : {B : Type 0} (f : Deed → Option B) → ((d : Deed) → f (without_fates d) ≡ f d)
    → (past : Past) → filter_map f (but_fates past) ≡ filter_map f past
fates_ignored f h [] = refl
fates_ignored f h (d ∷ past) =
    ap (λ o. cons_option o (filter_map f (but_fates past))) (h d) ∙ ap (cons_option (f d)) (fates_ignored f h past)

same_found : {B : Type 0} (f : Deed → Option B) → ((d : Deed) → f (without_fates d) ≡ f d)
    → (one other : Past) → but_fates other ≡ but_fates one → filter_map f other ≡ filter_map f one
same_found f h one other e = sym (fates_ignored f h other) ∙ ap (filter_map f) e ∙ fates_ignored f h one

made_on_ignores : (ch : ℕ) (d : Deed) → made_on ch (without_fates d) ≡ made_on ch d
made_on_ignores ch (Ticked t s) = refl
made_on_ignores ch (Made c n m i) = refl
made_on_ignores ch (Waits m) = refl
made_on_ignores ch (Sent n t items) = refl
made_on_ignores ch (Took n es ds) = refl
made_on_ignores ch (Ended e) = refl

made_as_ignores : (ch k : ℕ) (d : Deed) → made_as ch k (without_fates d) ≡ made_as ch k d
made_as_ignores ch k (Ticked t s) = refl
made_as_ignores ch k (Made c n m i) = refl
made_as_ignores ch k (Waits m) = refl
made_as_ignores ch k (Sent n t items) = refl
made_as_ignores ch k (Took n es ds) = refl
made_as_ignores ch k (Ended e) = refl

channel_ignores : (d : Deed) → channel_in (without_fates d) ≡ channel_in d
channel_ignores (Ticked t s) = refl
channel_ignores (Made c n m i) = refl
channel_ignores (Waits m) = refl
channel_ignores (Sent n t items) = refl
channel_ignores (Took n es ds) = refl
channel_ignores (Ended e) = refl

carrier_ignores : (ch k : ℕ) (d : Deed) → carrier_in ch k (without_fates d) ≡ carrier_in ch k d
carrier_ignores ch k (Ticked t s) = refl
carrier_ignores ch k (Made c n m i) = refl
carrier_ignores ch k (Waits m) = refl
carrier_ignores ch k (Sent n t items) = refl
carrier_ignores ch k (Took n es ds) = refl
carrier_ignores ch k (Ended e) = refl

sent_ignores : (d : Deed) → sent_in (without_fates d) ≡ sent_in d
sent_ignores (Ticked t s) = refl
sent_ignores (Made c n m i) = refl
sent_ignores (Waits m) = refl
sent_ignores (Sent n t items) = refl
sent_ignores (Took n es ds) = refl
sent_ignores (Ended e) = refl

-- pasts that differ in acknowledgements alone
pub same_made : (one other : Past) → but_fates other ≡ but_fates one → SameMade one other
same_made one other e = record {
  count = λ ch. ap greatest_of (same_found (made_on ch) (made_on_ignores ch) one other e);
  made = λ ch n. ap (λ xs. slice_get xs 0) (same_found (made_as ch n) (made_as_ignores ch n) one other e);
  channels = same_found channel_in channel_ignores one other e;
  carriers = λ ch n. ap (λ xs. slice_get xs 0) (same_found (carrier_in ch n) (carrier_ignores ch n) one other e);
  last = (let same : last_sent other ≡ last_sent one = ap greatest_of (same_found sent_in sent_ignores one other e) in omega arith);
}

pub news_alike : (one other : Past) → SameNews one other → Alike one other
news_alike one other h = record { made = same_made one other h.rest; moved = h.moved }

pub move_made : (from to : ℕ) (past after : Past) → IsMove from to past after → SameMade past after
move_made from to past after h = same_made past after h.rest

pub move_high : (from to : ℕ) (past after : Past) → IsMove from to past after → high_of after ≡ to
move_high from to past after h =
    let high : high_of after ≡ greatest_of (to ∷ moved_of past) = ap greatest_of h.moved in
    omega (arith, high, greatest_of-cons to (moved_of past), h.high, h.above)

-- what is known of packets after it
pub move_known : (from to : ℕ) (past after : Past) → IsMove from to past after → (p : ℕ)
    → known after p ≡ known_then to p (known past p)
move_known from to past after h p =
    ap (λ ms. known_by ms p) h.moved ∙ known_more from to p (moved_of past) h.high h.above
