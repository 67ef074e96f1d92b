-- A past grows: what was made on an index stays, and what has arrived.
use Rattle.std.proofs.Common.{◌≡◌, inl, inr, ℕ, ◌+◌, ◌==◌, List, [], ◌∷◌, ◌++◌, Bool, true, false, cond, refl, sym, ap, ◌∙◌, subst, append_assoc, ◌⊎◌}
use Rattle.std.specs.List.{AllByRecursion}
use Rattle.std.proofs.lemmas.Bool.{eqb-true}
use Rattle.protocol_model.specs.declared.Version.{Version}
use Rattle.protocol_model.specs.Payload.{Message, Opens, Closes, Updates, Calls, Gone, parts_of}
use Rattle.connection_model.specs.Feed.{End, Past, Deed, Ticked, Made, Waits, Sent, Took, Ended, Entry, Delivered, Item, has_ended, tick_count}
use Rattle.connection_model.specs.Bunches.{made_count, after_making, has_arrived}
use Rattle.connection_model.specs.Exports.{is_known}
use Rattle.connection_model.specs.Verdict.{with_told, with_handed}
use Rattle.connection_laws.specs.Run.{Move, Ticks, Makes, Defers, Sends, Takes, Hears, Hands, Ends, after_move, May, MayMake, MaySendAll, OpensSeen, IsRun}
use Rattle.connection_laws.specs.Link.{SaysItem, all_said, said_by}
use Rattle.connection_laws.specs.Delivered.{on_index, Numbered, numbered_in}
use Rattle.connection_laws.proofs.Moves.{making_keeps, told_ignored, handed_ignored}
use Rattle.connection_laws.proofs.Deeds.{always}
use Rattle.connection_laws.proofs.Arrivals.{arrival_made, arrival_sent, arrival_told, arrival_handed}
use Rattle.connection_laws.proofs.Fates.{moves_sent}
use Rattle.connection_laws.proofs.Items.{all_weaker}
use Rattle.connection_laws.proofs.Prefixes.{messages_made}
use Rattle.connection_laws.proofs.PacketsSay.{IsIn, said_item}
use Rattle.headline_laws.specs.Whole.{ArrivedBelow, MadeAt}
use Rattle.headline_laws.specs.Tells.{ExportArrived, OpenExports, OpensExport}
use Rattle.headline_laws.proofs.ReceivedFirst.{known_in, exports_open, open_arrived}
use Rattle.connection_model.specs.Fates.{last_sent}

-- what was made on an index, and what arrived, is there later
pub record Grows (past later : Past) : Type 0 where
  pub made : (ch : ℕ) → (newer : List Numbered) × (on_index ch later ≡ newer ++ on_index ch past)
  pub arrived : (ch i : ℕ) → has_arrived past ch i ≡ true → has_arrived later ch i ≡ true

-- it goes on growing
pub grows_on : (past later last : Past) → Grows past later → Grows later last → Grows past last
grows_on past later last g h = record {
  made = λ ch. ((h.made ch).0 ++ (g.made ch).0, (h.made ch).1 ∙ ap (λ (l : List Numbered). (h.made ch).0 ++ l) (g.made ch).1 ∙ sym (append_assoc (h.made ch).0 (g.made ch).0 (on_index ch past)));
  arrived = λ ch i e. h.arrived ch i (g.arrived ch i e);
}

-- it grows where messages stay and arrivals do
grows_like : (past later : Past) → ((ch : ℕ) → on_index ch later ≡ on_index ch past) → ((ch i : ℕ) → has_arrived past ch i ≡ true → has_arrived later ch i ≡ true) → Grows past later
grows_like past later n a = record { made = λ ch. ([], n ch); arrived = a }

-- a message lets it grow
grows_made : (past : Past) (c : ℕ) (m : Message) → Grows past (after_making past c m)
grows_made past c m = record {
  made = λ ch. (cond (c == ch) ((made_count past c + 1, m) ∷ []) [], messages_made past ch c m ∙ by ch (c == ch));
  arrived = λ ch i e. arrival_made past c m ch i ∙ e;
}
  where
    by : (ch : ℕ) (b : Bool) → cond b ((made_count past c + 1, m) ∷ on_index ch past) (on_index ch past) ≡ cond b ((made_count past c + 1, m) ∷ []) [] ++ on_index ch past
    by ch true = refl
    by ch false = refl

-- each move lets it grow
pub grows_by : (end : End) (past : Past) (move : Move) → IsRun end past → May end past move → Grows past (after_move past move)
grows_by end past (Ticks sight) run may = grows_like past (after_move past (Ticks sight)) (λ ch. refl) (λ ch i e. e)
grows_by end past (Makes c m) run may = grows_made past c m
grows_by end past (Defers m) run may = grows_like past (after_move past (Defers m)) (λ ch. refl) (λ ch i e. e)
grows_by end past (Sends items) run may = grows_like past (after_move past (Sends items)) (λ ch. refl) (λ ch i e. arrival_sent end past items (λ n q. (moves_sent end past run n q).1) may.each ch i ∙ e)
grows_by end past (Takes n) run may = grows_like past (after_move past (Takes n)) (λ ch. refl) (λ ch i e. e)
grows_by end past (Hears entry) run may = grows_like past (with_told entry past) (λ ch. told_ignored (numbered_in ch) (λ n e es ds. refl) entry past) (λ ch i e. arrival_told entry past ch i e)
grows_by end past (Hands d) run may = grows_like past (with_handed d past) (λ ch. handed_ignored (numbered_in ch) (λ n es d ds. refl) d past) (λ ch i e. arrival_handed d past ch i ∙ e)
grows_by end past (Ends g) run may = grows_like past (after_move past (Ends g)) (λ ch. refl) (λ ch i e. e)

-- a message stays in its place
pub made_grows : (past later : Past) → Grows past later → (ch : ℕ) (made : Numbered) → MadeAt past ch made → MadeAt later ch made
made_grows past later g ch made at = record {
  newer = (g.made ch).0 ++ at.newer;
  older = at.older;
  split = (g.made ch).1 ∙ ap (λ (l : List Numbered). (g.made ch).0 ++ l) at.split ∙ sym (append_assoc (g.made ch).0 at.newer (made ∷ at.older));
}

-- what has arrived below a number stays so
pub below_grows : (past later : Past) → Grows past later → (ch n : ℕ) → ArrivedBelow past ch n → ArrivedBelow later ch n
below_grows past later g ch n h i lo hi = g.arrived ch i (h i lo hi)

-- ---- what opens export

-- an export that arrived stays so
export_grows : (past later : Past) → Grows past later → (guid : ℕ) → ExportArrived past guid → ExportArrived later guid
export_grows past later g guid e = record {
  channel = e.channel;
  made = e.made;
  exports = e.exports;
  at = made_grows past later g e.channel e.made e.at;
  arrived = below_grows past later g e.channel (e.made.0 + parts_of e.made.1) e.arrived;
}

-- an open exports the rest later too
open_grows : (past later : Past) → Grows past later → (m : Message) → OpenExports past m → OpenExports later m
open_grows past later g (Opens exports a class values) o = record { known = o.known; is = o.is; arrived = λ guid k. export_grows past later g guid (o.arrived guid k) }
open_grows past later g (Closes a sleeps) o = tt
open_grows past later g (Updates a class values) o = tt
open_grows past later g (Calls a n call args) o = tt
open_grows past later g (Gone a) o = tt

-- a known segment was exported by an open that arrived
known_arrived : (end : End) (past : Past) → IsRun end past → (guid : ℕ) → is_known past guid ≡ true → ExportArrived past guid
known_arrived end past run guid h =
    let k = known_in past past guid h in
    record {
      channel = k.channel;
      made = k.made;
      exports = k.exports;
      at = k.at;
      arrived = open_arrived end past run k.channel k.made k.at (exports_open guid k.made.1 k.exports) k.arrived;
    }

-- an open that is made exports the rest
exports_made : (end : End) (past : Past) (c : ℕ) (m : Message) → IsRun end past → MayMake end past c m → OpenExports (after_making past c m) m
exports_made end past c (Opens exports a class values) run may = by may.place.4
  where
    by : OpensSeen past (Opens exports a class values) → OpenExports (after_making past c (Opens exports a class values)) (Opens exports a class values)
    by o = subst (OpenExports (after_making past c (Opens exports a class values))) (sym o.says) (record {
      known = λ guid. is_known past guid;
      is = refl;
      arrived = λ guid k. export_grows past (after_making past c (Opens exports a class values)) (grows_made past c (Opens exports a class values)) guid (known_arrived end past run guid k);
    })
exports_made end past c (Closes a sleeps) run may = tt
exports_made end past c (Updates a class values) run may = tt
exports_made end past c (Calls a n call args) run may = tt
exports_made end past c (Gone a) run may = tt

-- each open exports what had not arrived
pub opens_export : (end : End) (past : Past) → IsRun end past → OpensExport past
opens_export end past run = always end OpensExport (λ ch. tt) step past run
  where
    like : (past later : Past) → Grows past later → ((ch : ℕ) → on_index ch later ≡ on_index ch past) → OpensExport past → OpensExport later
    like past later g n h ch =
        subst (AllByRecursion (λ (made : Numbered). OpenExports later made.1)) (sym (n ch))
        (all_weaker (λ (made : Numbered). OpenExports past made.1) (λ (made : Numbered). OpenExports later made.1) (λ made o. open_grows past later g made.1 o) (on_index ch past) (h ch))

    made : (past : Past) (c : ℕ) (m : Message) → IsRun end past → MayMake end past c m → OpensExport past → OpensExport (after_making past c m)
    made past c m run may h ch = subst (AllByRecursion (λ (made : Numbered). OpenExports (after_making past c m) made.1)) (sym (messages_made past ch c m)) (by (c == ch))
      where
        older : AllByRecursion (λ (made : Numbered). OpenExports (after_making past c m) made.1) (on_index ch past)
        older = all_weaker (λ (made : Numbered). OpenExports past made.1) (λ (made : Numbered). OpenExports (after_making past c m) made.1) (λ made o. open_grows past (after_making past c m) (grows_made past c m) made.1 o) (on_index ch past) (h ch)

        by : (b : Bool) → AllByRecursion (λ (made : Numbered). OpenExports (after_making past c m) made.1) (cond b ((made_count past c + 1, m) ∷ on_index ch past) (on_index ch past))
        by true = (exports_made end past c m run may, older)
        by false = older

    step : (past : Past) (move : Move) → IsRun end past → has_ended past ≡ false → May end past move → OpensExport past → OpensExport (after_move past move)
    step past (Ticks sight) run alive may h = like past (after_move past (Ticks sight)) (grows_by end past (Ticks sight) run may) (λ ch. refl) h
    step past (Makes c m) run alive may h = made past c m run may h
    step past (Defers m) run alive may h = like past (after_move past (Defers m)) (grows_by end past (Defers m) run may) (λ ch. refl) h
    step past (Sends items) run alive may h = like past (after_move past (Sends items)) (grows_by end past (Sends items) run may) (λ ch. refl) h
    step past (Takes n) run alive may h = like past (after_move past (Takes n)) (grows_by end past (Takes n) run may) (λ ch. refl) h
    step past (Hears entry) run alive may h = like past (with_told entry past) (grows_by end past (Hears entry) run may) (λ ch. told_ignored (numbered_in ch) (λ n e es ds. refl) entry past) h
    step past (Hands d) run alive may h = like past (with_handed d past) (grows_by end past (Hands d) run may) (λ ch. handed_ignored (numbered_in ch) (λ n es d ds. refl) d past) h
    step past (Ends g) run alive may h = like past (after_move past (Ends g)) (grows_by end past (Ends g) run may) (λ ch. refl) h

-- ---- the past by the time that a packet was sent

-- these items were sent after this past
pub record SentAt (end : End) (past s : Past) (items : List Item) : Type 0 where
  pub run : IsRun end s
  pub may : MaySendAll end s items
  pub grows : Grows s past

module _ (k t : ℕ) (items : List Item) (s : Past) where
  -- the packet's deed stands in the past
  abbrev Stands : Past → Type 0
  Stands past = (later : List Deed) × (past ≡ later ++ Sent k t items ∷ s)

  head_of : (x y : Deed) (xs ys : Past) → x ∷ xs ≡ y ∷ ys → x ≡ y
  head_of x y xs ys e = cc

  tail_of : (x y : Deed) (xs ys : Past) → x ∷ xs ≡ y ∷ ys → xs ≡ ys
  tail_of x y xs ys e = cc

  -- it is the newest, or stands below it
  under : (deed : Deed) (past : Past) → Stands (deed ∷ past) → ((deed ≡ Sent k t items) × (past ≡ s)) ⊎ Stands past
  under deed past ([], e) = inl (head_of deed (Sent k t items) past s e, tail_of deed (Sent k t items) past s e)
  under deed past (x ∷ later, e) = inr (later, tail_of deed x past (later ++ Sent k t items ∷ s) e)

  over : (deed : Deed) (past : Past) → Stands past → Stands (deed ∷ past)
  over deed past h = (deed ∷ h.0, ap (λ (l : Past). deed ∷ l) h.1)

  under_other : (deed : Deed) (past : Past) → (deed ≡ Sent k t items → ⊥) → Stands (deed ∷ past) → Stands past
  under_other deed past ne h = elim (under deed past h) [ inl e ↦ absurd (ne e.0) | inr q ↦ q ]

  under_made : (past : Past) (c : ℕ) (m : Message) → Stands (after_making past c m) → Stands past
  under_made past c m = making_keeps (λ i before. Stands before → Stands past) past c m (λ h. h) (λ i before lt ih h. ih (under_other (Made c (made_count past c + 1 + i) m i) before (λ e. never i e) h))
    where
      never : (i : ℕ) → Made c (made_count past c + 1 + i) m i ≡ Sent k t items → ⊥
      never i e = cc

  under_told : (entry : Entry) (past : Past) → Stands (with_told entry past) → Stands past
  under_told entry (Took n es ds ∷ past) h = over (Took n es ds) past (under_other (Took n (entry ∷ es) ds) past (λ e. never e) h)
    where
      never : Took n (entry ∷ es) ds ≡ Sent k t items → ⊥
      never e = cc
  under_told entry [] h = h
  under_told entry (Ticked n x ∷ past) h = h
  under_told entry (Made c n m i ∷ past) h = h
  under_told entry (Waits m ∷ past) h = h
  under_told entry (Sent n x xs ∷ past) h = h
  under_told entry (Ended g ∷ past) h = h

  under_handed : (d : Delivered) (past : Past) → Stands (with_handed d past) → Stands past
  under_handed d (Took n es ds ∷ past) h = over (Took n es ds) past (under_other (Took n es (d ∷ ds)) past (λ e. never e) h)
    where
      never : Took n es (d ∷ ds) ≡ Sent k t items → ⊥
      never e = cc
  under_handed d [] h = h
  under_handed d (Ticked n x ∷ past) h = h
  under_handed d (Made c n m i ∷ past) h = h
  under_handed d (Waits m ∷ past) h = h
  under_handed d (Sent n x xs ∷ past) h = h
  under_handed d (Ended g ∷ past) h = h

  sent_there : (end : End) (past : Past) → IsRun end past → Stands past → SentAt end past s items
  sent_there end past run = always end (λ p. Stands p → SentAt end p s items) first step past run
    where
      first : Stands [] → SentAt end [] s items
      first ([], e) = absurd (let no : [] ≡ Sent k t items ∷ s = e in cc)
      first (x ∷ later, e) = absurd (let no : [] ≡ x ∷ (later ++ Sent k t items ∷ s) = e in cc)

      on : (past : Past) (move : Move) → IsRun end past → May end past move → SentAt end past s items → SentAt end (after_move past move) s items
      on past move run may a = record { run = a.run; may = a.may; grows = grows_on s past (after_move past move) a.grows (grows_by end past move run may) }

      sends : (past : Past) (xs : List Item) → IsRun end past → May end past (Sends xs) → (Stands past → SentAt end past s items) → Stands (after_move past (Sends xs)) → SentAt end (after_move past (Sends xs)) s items
      sends past xs run may h q = elim (under (Sent (last_sent past + 1) (tick_count past) xs) past q) [
        | inl e ↦ (
            let same : xs ≡ items = items_of (last_sent past + 1) (tick_count past) e.0 in
            record {
              run = subst (IsRun end) e.1 run;
              may = subst (λ (p : Past). MaySendAll end p items) e.1 (subst (MaySendAll end past) same may);
              grows = subst (λ (p : Past). Grows p (after_move past (Sends xs))) e.1 (grows_by end past (Sends xs) run may);
            })
        | inr r ↦ on past (Sends xs) run may (h r)
      ]
        where
          items_of : (n y : ℕ) → Sent n y xs ≡ Sent k t items → xs ≡ items
          items_of n y e = cc

      step : (past : Past) (move : Move) → IsRun end past → has_ended past ≡ false → May end past move → (Stands past → SentAt end past s items) → Stands (after_move past move) → SentAt end (after_move past move) s items
      step past (Ticks sight) run alive may h q = on past (Ticks sight) run may (h (under_other (Ticked (tick_count past + 1) sight) past (λ e. absurd (let no : Ticked (tick_count past + 1) sight ≡ Sent k t items = e in cc)) q))
      step past (Makes c m) run alive may h q = on past (Makes c m) run may (h (under_made past c m q))
      step past (Defers m) run alive may h q = on past (Defers m) run may (h (under_other (Waits m) past (λ e. absurd (let no : Waits m ≡ Sent k t items = e in cc)) q))
      step past (Sends xs) run alive may h q = sends past xs run may h q
      step past (Takes n) run alive may h q = on past (Takes n) run may (h (under_other (Took n [] []) past (λ e. absurd (let no : Took n [] [] ≡ Sent k t items = e in cc)) q))
      step past (Hears entry) run alive may h q = on past (Hears entry) run may (h (under_told entry past q))
      step past (Hands d) run alive may h q = on past (Hands d) run may (h (under_handed d past q))
      step past (Ends g) run alive may h q = on past (Ends g) run may (h (under_other (Ended g) past (λ e. absurd (let no : Ended g ≡ Sent k t items = e in cc)) q))

-- a packet that said something was sent
pub record SaidAt (end : End) (past : Past) (k : ℕ) (item : Item) : Type 0 where
  pub before : Past
  pub items : List Item
  pub at : SentAt end past before items
  pub among : IsIn item items
  pub later : List Deed
  pub t : ℕ
  pub is : past ≡ later ++ Sent k t items ∷ before

-- what a packet says was among its items
said_in : (v : Version) (past : Past) (k : ℕ) (item : Item) → IsIn (SaysItem item) (said_by v past k)
    → (before : Past) × (items : List Item) × (later : List Deed) × (t : ℕ) × (past ≡ later ++ Sent k t items ∷ before) × IsIn item items
said_in v [] k item h = absurd h
said_in v (Ticked n x ∷ past) k item h = (let r = said_in v past k item h in (r.0, r.1, Ticked n x ∷ r.2, r.3, ap (λ (l : Past). Ticked n x ∷ l) r.4, r.5))
said_in v (Made c n m i ∷ past) k item h = (let r = said_in v past k item h in (r.0, r.1, Made c n m i ∷ r.2, r.3, ap (λ (l : Past). Made c n m i ∷ l) r.4, r.5))
said_in v (Waits m ∷ past) k item h = (let r = said_in v past k item h in (r.0, r.1, Waits m ∷ r.2, r.3, ap (λ (l : Past). Waits m ∷ l) r.4, r.5))
said_in v (Took n es ds ∷ past) k item h = (let r = said_in v past k item h in (r.0, r.1, Took n es ds ∷ r.2, r.3, ap (λ (l : Past). Took n es ds ∷ l) r.4, r.5))
said_in v (Ended g ∷ past) k item h = (let r = said_in v past k item h in (r.0, r.1, Ended g ∷ r.2, r.3, ap (λ (l : Past). Ended g ∷ l) r.4, r.5))
said_in v (Sent n t items ∷ past) k item h = by (n == k) refl h (λ q. said_in v past k item q)
  where
    by : (b : Bool) → (n == k) ≡ b → IsIn (SaysItem item) (cond b (all_said v past items) (said_by v past k))
        → (IsIn (SaysItem item) (said_by v past k) → (before : Past) × (items : List Item) × (later : List Deed) × (t : ℕ) × (past ≡ later ++ Sent k t items ∷ before) × IsIn item items)
        → (before : Past) × (xs : List Item) × (later : List Deed) × (y : ℕ) × (Sent n t items ∷ past ≡ later ++ Sent k y xs ∷ before) × IsIn item xs
    by true e h ih = (past, items, [], t, ap (λ (x : ℕ). Sent x t items ∷ past) (eqb-true n k e), said_item v past items item h)
    by false e h ih = (let r = ih h in (r.0, r.1, Sent n t items ∷ r.2, r.3, ap (λ (l : Past). Sent n t items ∷ l) r.4, r.5))

-- what a packet says was an item of one that was sent
pub said_at : (v : Version) (end : End) (past : Past) → IsRun end past → (k : ℕ) (item : Item) → IsIn (SaysItem item) (said_by v past k) → SaidAt end past k item
said_at v end past run k item h =
    let r = said_in v past k item h in
    record { before = r.0; items = r.1; at = sent_there k r.3 r.1 r.0 end past run (r.2, r.4); among = r.5; later = r.2; t = r.3; is = r.4 }
