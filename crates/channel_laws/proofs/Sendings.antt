-- A tick puts what it makes below the packets that it sends.
use Rattle.std.proofs.Common.{◌≡◌, ℕ, ◌+◌, List, [], ◌∷◌, ◌++◌, true, refl, sym, ap, ◌∙◌, arith, Option, None, fold}
use Rattle.std.specs.List.{filter_map, cons_option, slice_get, range_with_len}
use Rattle.std.proofs.lemmas.List.Elements.{filter_map-append}
use Rattle.protocol_model.specs.Payload.{Message, parts_of}
use Rattle.protocol_model.specs.Search.{greatest_of}
use Rattle.connection_model.specs.Feed.{Past, Deed, Ticked, Made, Waits, Sent, Took, Ended, Item}
use Rattle.connection_model.specs.Fates.{moved_by, last_sent, sent_in, entries_in, entries_of}
use Rattle.connection_model.specs.Bunches.{made_count, made_on, channel_in, carrier_in, after_making}
use Rattle.connection_model.specs.Items.{made_as}
use Rattle.connection_laws.proofs.Moves.{made_ignored, made_ignored_all}
use Rattle.channel_laws.specs.Alike.{Alike}
use Rattle.channel_laws.specs.Sendings.{are_sendings}

-- parts of a message that are made, from the number after k on
abbrev pub with_parts : (k ch : ℕ) → Message → Past → List ℕ → Past
with_parts k ch m past is = fold (λ (before : Past) (i : ℕ). Made ch (k + 1 + i) m i ∷ before) past is

-- what finds nothing in a packet that was sent finds nothing in several
pub none_sent : {B : Type 0} (f : Deed → Option B) → ((n t : ℕ) (items : List Item) → f (Sent n t items) ≡ None)
    → (sent : Past) → are_sendings sent ≡ true → filter_map f sent ≡ []
none_sent f none [] h = refl
none_sent f none (Sent n t items ∷ sent) h =
    ap (λ o. cons_option o (filter_map f sent)) (none n t items) ∙ none_sent f none sent h
none_sent f none (Ticked t s ∷ sent) h = absurd cc
none_sent f none (Made c n m i ∷ sent) h = absurd cc
none_sent f none (Waits m ∷ sent) h = absurd cc
none_sent f none (Took n es ds ∷ sent) h = absurd cc
none_sent f none (Ended e ∷ sent) h = absurd cc

-- so what is below is found
pub found_below : {B : Type 0} (f : Deed → Option B) → ((n t : ℕ) (items : List Item) → f (Sent n t items) ≡ None)
    → (sent past : Past) → are_sendings sent ≡ true → filter_map f (sent ++ past) ≡ filter_map f past
found_below f none sent past h =
    filter_map-append f sent past ∙ ap (λ xs. xs ++ filter_map f past) (none_sent f none sent h)

-- what is found in the parts goes before what is found below
found_parts : {B : Type 0} (f : Deed → Option B) (k ch : ℕ) (m : Message) (is : List ℕ) (past : Past)
    → filter_map f (with_parts k ch m past is) ≡ fold (λ (found : List B) (i : ℕ). cons_option (f (Made ch (k + 1 + i) m i)) found) (filter_map f past) is
found_parts f k ch m [] past = refl
found_parts f k ch m (i ∷ is) past = found_parts f k ch m is (Made ch (k + 1 + i) m i ∷ past)

made_below : {B : Type 0} (f : Deed → Option B) → ((n t : ℕ) (items : List Item) → f (Sent n t items) ≡ None)
    → (sent past : Past) → are_sendings sent ≡ true → (ch : ℕ) (m : Message) → made_count (sent ++ past) ch ≡ made_count past ch
    → filter_map f (sent ++ after_making past ch m) ≡ filter_map f (after_making (sent ++ past) ch m)
made_below {B} f none sent past h ch m same =
    found_below f none sent (after_making past ch m) h
    ∙ found_parts f (made_count past ch) ch m (range_with_len 0 (parts_of m)) past
    ∙ ap (λ (found : List B). fold (λ (found : List B) (i : ℕ). cons_option (f (Made ch (made_count past ch + 1 + i) m i)) found) found (range_with_len 0 (parts_of m)))
    (sym (found_below f none sent past h))
    ∙ sym (found_parts f (made_count past ch) ch m (range_with_len 0 (parts_of m)) (sent ++ past))
    ∙ ap (λ k. filter_map f (with_parts k ch m (sent ++ past) (range_with_len 0 (parts_of m)))) (sym same)

-- what finds nothing in a part finds the same above
sent_above : {B : Type 0} (f : Deed → Option B) → ((c n : ℕ) (m : Message) (i : ℕ) → f (Made c n m i) ≡ None)
    → (sent past : Past) (ch : ℕ) (m : Message)
    → filter_map f (sent ++ after_making past ch m) ≡ filter_map f (after_making (sent ++ past) ch m)
sent_above f none sent past ch m =
    filter_map-append f sent (after_making past ch m)
    ∙ ap (λ xs. filter_map f sent ++ xs) (made_ignored f none past ch m)
    ∙ sym (filter_map-append f sent past)
    ∙ sym (made_ignored f none (sent ++ past) ch m)

pub entries_below : (sent past : Past) → are_sendings sent ≡ true → entries_of (sent ++ past) ≡ entries_of past
entries_below [] past h = refl
entries_below (Sent n t items ∷ sent) past h = entries_below sent past h
entries_below (Ticked t s ∷ sent) past h = absurd cc
entries_below (Made c n m i ∷ sent) past h = absurd cc
entries_below (Waits m ∷ sent) past h = absurd cc
entries_below (Took n es ds ∷ sent) past h = absurd cc
entries_below (Ended e ∷ sent) past h = absurd cc

pub entries_made : (past : Past) (ch : ℕ) (m : Message) → entries_of (after_making past ch m) ≡ entries_of past
entries_made past ch m = made_ignored_all entries_in (λ c n m i. refl) past ch m

pub count_below : (sent past : Past) → are_sendings sent ≡ true → (ch : ℕ)
    → made_count (sent ++ past) ch ≡ made_count past ch
count_below sent past h ch = ap greatest_of (found_below (made_on ch) (λ n t items. refl) sent past h)

-- what a tick makes may stand below the packets that it sends, or above them
pub making_below : (sent past : Past) → are_sendings sent ≡ true → (ch : ℕ) (m : Message)
    → Alike (after_making (sent ++ past) ch m) (sent ++ after_making past ch m)
making_below sent past h ch m = record {
  made = record {
    count = λ c. ap greatest_of (made_below (made_on c) (λ n t items. refl) sent past h ch m same);
    made = λ c n. ap (λ xs. slice_get xs 0) (made_below (made_as c n) (λ n t items. refl) sent past h ch m same);
    channels = made_below channel_in (λ n t items. refl) sent past h ch m same;
    carriers = λ c n. ap (λ xs. slice_get xs 0) (sent_above (carrier_in c n) (λ c n m i. refl) sent past ch m);
    last = (let e : last_sent (sent ++ after_making past ch m) ≡ last_sent (after_making (sent ++ past) ch m) = ap greatest_of (sent_above sent_in (λ c n m i. refl) sent past ch m) in omega arith);
  };
  moved = ap moved_by (entries_below sent (after_making past ch m) h ∙ entries_made past ch m ∙ sym (entries_below sent past h) ∙ sym (entries_made (sent ++ past) ch m));
}
  where
    same : made_count (sent ++ past) ch ≡ made_count past ch
    same = count_below sent past h ch
