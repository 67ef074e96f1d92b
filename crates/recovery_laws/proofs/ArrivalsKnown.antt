-- What a server knows to have arrived was handed on.
use Rattle.std.proofs.Common.{◌≡◌, ◌⊎◌, inl, inr, ℕ, suc, ◌+◌, ◌<◌, ◌≤◌, List, [], ◌∷◌, ◌++◌, map, reverse, length, Bool, true, false, refl, sym, ap, ◌∙◌, subst, arith}
use Rattle.std.specs.List.{flat_map}
use Rattle.std.proofs.lemmas.Bool.{cases_lt}
use Rattle.std.proofs.lemmas.List.{length-append, length-reverse, reverse-append}
use Rattle.std.proofs.lemmas.List.Concat.{flat_map-append}
use Rattle.protocol_model.specs.declared.Version.{Version}
use Rattle.protocol_model.specs.Packet.{Bunch}
use Rattle.protocol_model.specs.Payload.{parts_of}
use Rattle.connection_model.specs.Feed.{End, Past, Deed, Ticked, Made, Waits, Sent, Took, Ended, Item, Entry, Delivered, has_ended, tick_count}
use Rattle.connection_model.specs.Fates.{last_sent}
use Rattle.connection_model.specs.Bunches.{has_arrived, made_count}
use Rattle.connection_model.specs.Windows.{received_on, next_of, applied_of, wholes_from, wholes_of}
use Rattle.connection_model.specs.Verdict.{with_told, with_handed}
use Rattle.connection_model.specs.Pack.{after_sending}
use Rattle.connection_laws.specs.Run.{Move, Ticks, Makes, Defers, Sends, Takes, Hears, Hands, Ends, after_move, May, IsRun}
use Rattle.connection_laws.specs.Delivered.{on_index, Numbered, messages_on, payload_of, bunches_made, AppliesPrefixes, ReadEach}
use Rattle.connection_laws.proofs.Moves.{making_keeps}
use Rattle.connection_laws.proofs.Deeds.{always}
use Rattle.connection_laws.proofs.Fates.{moves_sent}
use Rattle.connection_laws.proofs.Arrivals.{arrival_sent, arrival_told, arrival_handed}
use Rattle.connection_laws.proofs.Prefixes.{bunches_of, cut_in_parts}
use Rattle.connection_laws.proofs.PartsJoin.{all_join}
use Rattle.connection_laws.proofs.Applied.{kept_after, wholes_split}
use Rattle.connection_laws.proofs.Receiving.{has, below_next}
use Rattle.connection_laws.proofs.Transfer.{Transfers}
use Rattle.headline_laws.specs.Whole.{ArrivedBelow}
use Rattle.headline_laws.specs.Follows.{parts_in}
use Rattle.headline_laws.proofs.WholeMessages.{InRow, rows, longer, map_length, applied_length, bunches_length, joined, arrived_below}
use Rattle.headline_laws.proofs.ReceivedFirst.{row_at, parts_reverse}

-- ---- what had arrived when a packet was sent has arrived

-- what is known to have arrived when a packet is sent is known ever after
abbrev StayArrived : Past → Type 0
StayArrived past = (more : Past) (k t : ℕ) (items : List Item) (before : Past) → past ≡ more ++ Sent k t items ∷ before → (ch i : ℕ) → has_arrived before ch i ≡ true → has_arrived past ch i ≡ true

-- the packet stands first, or further behind
behind : (deed : Deed) (past more : Past) (found : Deed) (before : Past) → deed ∷ past ≡ more ++ found ∷ before → ((deed ≡ found) × (past ≡ before)) ⊎ ((rest : Past) × (past ≡ rest ++ found ∷ before))
behind deed past [] found before e = inl ((let q : deed ≡ found = cc in q), (let q : past ≡ before = cc in q))
behind deed past (x ∷ more) found before e = inr (more, cc)

-- so it is over a deed that sends nothing
stay_behind : (deed : Deed) (past : Past) → ((k t : ℕ) (items : List Item) → deed ≡ Sent k t items → ⊥) → ((ch i : ℕ) → has_arrived past ch i ≡ true → has_arrived (deed ∷ past) ch i ≡ true) → StayArrived past → StayArrived (deed ∷ past)
stay_behind deed past never grows h more k t items before e ch i a = elim (behind deed past more (Sent k t items) before e) [
  | inl q ↦ absurd (never k t items q.0)
  | inr q ↦ grows ch i (h q.0 k t items before q.1 ch i a)
]

-- and over one that sends
stay_sent : (end : End) (past : Past) (items : List Item) → IsRun end past → May end past (Sends items) → StayArrived past → StayArrived (after_sending past items)
stay_sent end past items run may h more k t other before e ch i a =
    let same : has_arrived (after_sending past items) ch i ≡ has_arrived past ch i = arrival_sent end past items (λ n q. (moves_sent end past run n q).1) may.each ch i in
    elim (behind (Sent (last_sent past + 1) (tick_count past) items) past more (Sent k t other) before e) [
      | inl q ↦ same ∙ ap (λ (p : Past). has_arrived p ch i) q.1 ∙ a
      | inr q ↦ same ∙ h q.0 k t other before q.1 ch i a
    ]

-- and with one more entry told
stay_told : (entry : Entry) (past : Past) → StayArrived past → StayArrived (with_told entry past)
stay_told entry (Took n es ds ∷ past) h = λ more k t items before e ch i a. elim (behind (Took n (entry ∷ es) ds) past more (Sent k t items) before e) [
  | inl q ↦ absurd (let no : Took n (entry ∷ es) ds ≡ Sent k t items = q.0 in cc)
  | inr q ↦ arrival_told entry (Took n es ds ∷ past) ch i (h (Took n es ds ∷ q.0) k t items before (ap (λ (l : Past). Took n es ds ∷ l) q.1) ch i a)
]
stay_told entry [] h = h
stay_told entry (Ticked t s ∷ past) h = h
stay_told entry (Made c n m i ∷ past) h = h
stay_told entry (Waits m ∷ past) h = h
stay_told entry (Sent n t items ∷ past) h = h
stay_told entry (Ended g ∷ past) h = h

-- and with one more payload handed on
stay_handed : (d : Delivered) (past : Past) → StayArrived past → StayArrived (with_handed d past)
stay_handed d (Took n es ds ∷ past) h = λ more k t items before e ch i a. elim (behind (Took n es (d ∷ ds)) past more (Sent k t items) before e) [
  | inl q ↦ absurd (let no : Took n es (d ∷ ds) ≡ Sent k t items = q.0 in cc)
  | inr q ↦ arrival_handed d (Took n es ds ∷ past) ch i ∙ h (Took n es ds ∷ q.0) k t items before (ap (λ (l : Past). Took n es ds ∷ l) q.1) ch i a
]
stay_handed d [] h = h
stay_handed d (Ticked t s ∷ past) h = h
stay_handed d (Made c n m i ∷ past) h = h
stay_handed d (Waits m ∷ past) h = h
stay_handed d (Sent n t items ∷ past) h = h
stay_handed d (Ended g ∷ past) h = h

-- what is known to have arrived stays known
pub arrivals_stay : (end : End) (past : Past) → IsRun end past → StayArrived past
arrivals_stay end past run = always end StayArrived (λ more k t items before e ch i a. absurd (none more k t items before e)) step past run
  where
    none : (more : Past) (k t : ℕ) (items : List Item) (before : Past) → [] ≡ more ++ Sent k t items ∷ before → ⊥
    none [] k t items before e = cc
    none (x ∷ more) k t items before e = cc

    step : (past : Past) (move : Move) → IsRun end past → has_ended past ≡ false → May end past move → StayArrived past → StayArrived (after_move past move)
    step past (Ticks sight) run alive may h = stay_behind (Ticked (tick_count past + 1) sight) past (λ k t items q. cc) (λ ch i a. a) h
    step past (Makes c m) run alive may h = making_keeps (λ j now. StayArrived now) past c m h (λ j now lt g. stay_behind (Made c (made_count past c + 1 + j) m j) now (λ k t items q. cc) (λ ch i a. a) g)
    step past (Defers m) run alive may h = stay_behind (Waits m) past (λ k t items q. cc) (λ ch i a. a) h
    step past (Sends items) run alive may h = stay_sent end past items run may h
    step past (Takes n) run alive may h = stay_behind (Took n [] []) past (λ k t items q. cc) (λ ch i a. a) h
    step past (Hears entry) run alive may h = stay_told entry past h
    step past (Hands d) run alive may h = stay_handed d past h
    step past (Ends g) run alive may h = stay_behind (Ended g) past (λ k t items q. cc) (λ ch i a. a) h

-- ---- as many payloads as messages

-- as many payloads as were read
pub read_lengths : (end : End) (ds : List Delivered) (ws : List (Bunch × List Bool)) → ReadEach end ds ws → length ds ≡ length ws
read_lengths end [] [] h = refl
read_lengths end [] (w ∷ ws) h = absurd h
read_lengths end (d ∷ ds) [] h = absurd h
read_lengths end (d ∷ ds) (w ∷ ws) h = ap suc (read_lengths end ds ws h.1)

module _ (v : Version) (end : End) (from to : Past) (run : IsRun end from) (core : Transfers v from to) (applies : AppliesPrefixes from to) (ch : ℕ)
    (newer : List Numbered) (made : Numbered) (older : List Numbered) (split : on_index ch from ≡ newer ++ made ∷ older) where
  row : made.0 ≡ parts_in older + 1
  row = row_at newer made older (subst InRow split (rows end from run ch).row)

  -- what has arrived whole, with all before it, is among the payloads received
  pub received_count : ArrivedBelow from ch (made.0 + parts_of made.1) → length older < length (wholes_of to ch)
  received_count arrived =
      let order : messages_on from ch ≡ reverse (made ∷ older) ++ reverse newer = ap reverse split ∙ reverse-append newer (made ∷ older) in
      let below = arrived_below v end from to run core ch (parts_in (reverse (made ∷ older))) (λ i lo hi. arrived i lo (omega (arith, parts_reverse (made ∷ older), row, hi))) in
      let whole = joined end from to run applies ch (reverse (made ∷ older)) (reverse newer) order below in
      omega (
        arith,
        ap length whole.whole,
        length-append (map (payload_of ch) (reverse (made ∷ older))) whole.rest,
        map_length (payload_of ch) (reverse (made ∷ older)),
        length-reverse (made ∷ older),
      )

  -- and where it is, its first bunch was received
  pub first_received : length older < length (wholes_of to ch) → has (received_on to ch) made.0 ≡ true
  first_received few = elim (cases_lt made.0 (next_of (received_on to ch))) [
    | inl lt ↦ below_next (received_on to ch) made.0 (omega (arith, row)) lt
    | inr ge ↦ absurd (short ge)
  ]
    where
      run_of_bunches : List Bunch
      run_of_bunches = applied_of (received_on to ch)

      short : next_of (received_on to ch) ≤ made.0 → ⊥
      short ge =
          let first : List Bunch = flat_map (bunches_of ch) (reverse older) in
          let order : messages_on from ch ≡ reverse older ++ reverse (newer ++ made ∷ []) = turned in
          let cut : bunches_made from ch ≡ first ++ flat_map (bunches_of ch) (reverse (newer ++ made ∷ [])) =
          cut_in_parts end from run ch ∙ ap (flat_map (bunches_of ch)) order ∙ flat_map-append (bunches_of ch) (reverse older) (reverse (newer ++ made ∷ [])) in
          let p = applies ch in
          let l = longer first (flat_map (bunches_of ch) (reverse (newer ++ made ∷ []))) run_of_bunches p.0 (sym cut ∙ p.1)
          (omega (arith, bunches_length ch (reverse older), applied_length (received_on to ch), parts_reverse older, row, ge)) in
          let wholes : map (payload_of ch) (reverse older) ≡ wholes_of to ch ++ wholes_from (kept_after [] run_of_bunches) l.0 =
          sym (all_join ch (reverse older)) ∙ ap (wholes_from []) l.1 ∙ wholes_split run_of_bunches l.0 [] in
          omega (
            arith,
            few,
            ap length wholes,
            length-append (wholes_of to ch) (wholes_from (kept_after [] run_of_bunches) l.0),
            map_length (payload_of ch) (reverse older),
            length-reverse older,
          )
        where
          turned : messages_on from ch ≡ reverse older ++ reverse (newer ++ made ∷ [])
          turned = ap reverse (split ∙ again newer) ∙ reverse-append (newer ++ made ∷ []) older
            where
              again : (xs : List Numbered) → xs ++ made ∷ older ≡ (xs ++ made ∷ []) ++ older
              again [] = refl
              again (x ∷ xs) = ap (λ (l : List Numbered). x ∷ l) (again xs)
