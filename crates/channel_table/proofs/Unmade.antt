-- What wasn't made hasn't arrived.
use Rattle.std.proofs.Common.{◌≡◌, ℕ, ◌<◌, List, [], ◌∷◌, ◌++◌, true, false, Option, None, Some, refl, sym, ap, subst, ◌∙◌}
use Rattle.protocol_model.specs.Side.{Side}
use Rattle.protocol_model.specs.Search.{newest_of}
use Rattle.connection_model.specs.Feed.{Past}
use Rattle.connection_model.specs.Bunches.{made_count, carrier_in, carrier_of, has_arrived, shows_arrival, option_fate}
use Rattle.connection_laws.proofs.Searches.{newest_hit, newest_miss}
use Rattle.channel_laws.specs.Sendings.{are_sendings}
use Rattle.channel_laws.proofs.Growing.{uncarried_above}
use Rattle.channel_laws.proofs.Sendings.{count_below}
use Rattle.channel_table.specs.Channels.{Channels}
use Rattle.channel_table.specs.Keeps.{Keeps}

not_carried : (past : Past) (ch n : ℕ) → carrier_of past ch n ≡ None → has_arrived past ch n ≡ false
not_carried past ch n e = ap (λ o. shows_arrival (option_fate past o)) e

pub unmade : (t : Channels) (side : Side) (past : Past) → Keeps t side past → (ch n : ℕ)
    → made_count past ch < n → has_arrived past ch n ≡ false
unmade t side past h ch n above = not_carried past ch n (uncarried_above past h.made.carried ch n above)

-- where nothing is found there is nothing among the older ones
none_behind : {A B : Type 0} (f : A → Option B) (x : A) (xs : List A) → newest_of f (x ∷ xs) ≡ None
    → newest_of f xs ≡ None
none_behind f x xs e = by (f x) refl
  where
    by : (o : Option _) → f x ≡ o → newest_of f xs ≡ None
    by None is = sym (newest_miss f x xs is) ∙ e
    by (Some y) is = absurd (let never = sym (newest_hit f x xs y is) ∙ e in cc)

none_below : {A B : Type 0} (f : A → Option B) (front back : List A) → newest_of f (front ++ back) ≡ None
    → newest_of f back ≡ None
none_below f [] back e = e
none_below f (x ∷ front) back e = none_below f front back (none_behind f x (front ++ back) e)

pub unmade_in_tick : (t : Channels) (side : Side) (sent past : Past) → Keeps t side (sent ++ past)
    → are_sendings sent ≡ true → (ch n : ℕ) → made_count past ch < n → has_arrived past ch n ≡ false
unmade_in_tick t side sent past h s ch n above = not_carried past ch n (none_below (carrier_in ch n) sent past
    (uncarried_above (sent ++ past) h.made.carried ch n
    (subst (λ k. k < n) (sym (count_below sent past s ch)) above)))
