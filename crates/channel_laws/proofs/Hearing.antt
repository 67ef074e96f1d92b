-- What was received is the same whatever is made, sent and acknowledged.
use Rattle.std.proofs.Common.{◌≡◌, ℕ, List, [], ◌∷◌, ◌++◌, filter, length, nat_lt, true, refl, sym, ap, ◌∙◌, arith}
use Rattle.std.specs.List.{filter_map}
use Rattle.std.proofs.lemmas.List.Elements.{filter-append}
use Rattle.protocol_model.specs.Payload.{Message}
use Rattle.protocol_model.specs.Search.{each_once}
use Rattle.connection_model.specs.Feed.{Past, Ticked, Made, Waits, Sent, Took, Ended, Entry, Told, Acked, Heard, Item}
use Rattle.connection_model.specs.Fates.{entries_of}
use Rattle.connection_model.specs.Bunches.{after_making}
use Rattle.connection_model.specs.Windows.{Received, next_of, received_by, channel_heard, held_on, held_count}
use Rattle.connection_model.specs.Copies.{delivered_of, handed_in}
use Rattle.channel_laws.specs.Moves.{is_heard, but_fates}
use Rattle.connection_laws.proofs.Moves.{made_ignored_all}
use Rattle.connection_laws.proofs.Sums.{sum_once, sum_falls, sum_in_order}
use Rattle.channel_laws.specs.Alike.{SameHeard}
use Rattle.channel_laws.specs.Sendings.{are_sendings}
use Rattle.channel_laws.proofs.Sendings.{entries_below, entries_made}

-- ---- acknowledgements

received_heard : (es : List Entry) (ch : ℕ) → received_by (filter is_heard es) ch ≡ received_by es ch
received_heard [] ch = refl
received_heard (Told head ∷ es) ch = received_heard es ch
received_heard (Acked n ∷ es) ch = received_heard es ch
received_heard (Heard b ∷ es) ch = rw (received_heard es ch) refl

channels_heard : (es : List Entry) → filter_map channel_heard (filter is_heard es) ≡ filter_map channel_heard es
channels_heard [] = refl
channels_heard (Told head ∷ es) = channels_heard es
channels_heard (Acked n ∷ es) = channels_heard es
channels_heard (Heard b ∷ es) = ap (λ ns. b.channel ∷ ns) (channels_heard es)

entries_heard : (past : Past) → entries_of (but_fates past) ≡ filter is_heard (entries_of past)
entries_heard [] = refl
entries_heard (Ticked t s ∷ past) = entries_heard past
entries_heard (Made c n m i ∷ past) = entries_heard past
entries_heard (Waits m ∷ past) = entries_heard past
entries_heard (Sent n t items ∷ past) = entries_heard past
entries_heard (Ended e ∷ past) = entries_heard past
entries_heard (Took n es ds ∷ past) =
    ap (λ xs. filter is_heard es ++ xs) (entries_heard past) ∙ sym (filter-append is_heard es (entries_of past))

handed_heard : (past : Past) → delivered_of (but_fates past) ≡ delivered_of past
handed_heard [] = refl
handed_heard (Ticked t s ∷ past) = handed_heard past
handed_heard (Made c n m i ∷ past) = handed_heard past
handed_heard (Waits m ∷ past) = handed_heard past
handed_heard (Sent n t items ∷ past) = handed_heard past
handed_heard (Ended e ∷ past) = handed_heard past
handed_heard (Took n es ds ∷ past) = ap (λ xs. ds ++ xs) (handed_heard past)

pub heard_fates : (one other : Past) → but_fates other ≡ but_fates one → SameHeard one other
heard_fates one other e = record {
  received = λ ch. sym (received_heard (entries_of other) ch) ∙ ap (λ es. received_by es ch) entries ∙ received_heard (entries_of one) ch;
  channels = sym (channels_heard (entries_of other)) ∙ ap (filter_map channel_heard) entries ∙ channels_heard (entries_of one);
  handed = sym (handed_heard other) ∙ ap delivered_of e ∙ handed_heard one;
}
  where
    entries : filter is_heard (entries_of other) ≡ filter is_heard (entries_of one)
    entries = sym (entries_heard other) ∙ ap entries_of e ∙ entries_heard one

-- ---- what is made and sent

handed_below : (sent past : Past) → are_sendings sent ≡ true → delivered_of (sent ++ past) ≡ delivered_of past
handed_below [] past h = refl
handed_below (Sent n t items ∷ sent) past h = handed_below sent past h
handed_below (Ticked t s ∷ sent) past h = absurd cc
handed_below (Made c n m i ∷ sent) past h = absurd cc
handed_below (Waits m ∷ sent) past h = absurd cc
handed_below (Took n es ds ∷ sent) past h = absurd cc
handed_below (Ended e ∷ sent) past h = absurd cc

pub heard_made : (sent past : Past) → are_sendings sent ≡ true → (ch : ℕ) (m : Message)
    → SameHeard (sent ++ past) (sent ++ after_making past ch m)
heard_made sent past h ch m = record {
  received = λ c. ap (λ es. received_by es c) entries;
  channels = ap (filter_map channel_heard) entries;
  handed = handed_below sent (after_making past ch m) h ∙ made_ignored_all handed_in (λ c n m i. refl) past ch m ∙ sym (handed_below sent past h);
}
  where
    entries : entries_of (sent ++ after_making past ch m) ≡ entries_of (sent ++ past)
    entries = entries_below sent (after_making past ch m) h ∙ entries_made past ch m ∙ sym (entries_below sent past h)

pub heard_sent : (number t : ℕ) (items more : List Item) (past : Past)
    → SameHeard (Sent number t items ∷ past) (Sent number t more ∷ past)
heard_sent number t items more past = record { received = λ ch. refl; channels = refl; handed = refl }

-- ---- how many are held

pub held_same : (one other : Past) → SameHeard one other → held_count other ≡ held_count one
held_same one other h =
    let a : sum_once (held_on other) (filter_map channel_heard (entries_of other)) ≡ sum_once (held_on other) (filter_map channel_heard (entries_of one)) = ap (sum_once (held_on other)) h.channels in
    omega (
      arith,
      a,
      count_is one,
      count_is other,
      sum_falls (held_on other) (held_on one) (filter_map channel_heard (entries_of one)) (λ ch. omega (arith, each ch)),
      sum_falls (held_on one) (held_on other) (filter_map channel_heard (entries_of one)) (λ ch. omega (arith, each ch)),
    )
  where
    count_is : (past : Past) → held_count past ≡ sum_once (held_on past) (filter_map channel_heard (entries_of past))
    count_is past = sum_in_order (held_on past) nat_lt (each_once (filter_map channel_heard (entries_of past)))

    each : (ch : ℕ) → held_on other ch ≡ held_on one ch
    each ch = ap (λ got. length (filter (λ (r : Received). nat_lt (next_of got) r.0) got)) (h.received ch)
