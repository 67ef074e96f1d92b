-- What is handed on is what was received, read one by one.
use Rattle.std.proofs.Common.{◌≡◌, inl, inr, ℕ, ◌-◌, ◌<◌, ◌==◌, ◌&&◌, List, [], ◌∷◌, ◌++◌, reverse, filter, fold, length, Bool, true, false, cond, refl, sym, ap, ◌∙◌, subst, arith, Option, Some, None, Result, Ok, Err, append_assoc, append-nil, if◌then◌else◌}
use Rattle.std.specs.Prelude.{unsigned_abs}
use Rattle.std.specs.List.{AllByRecursion}
use Rattle.std.proofs.lemmas.Bool.{false≢true, cases_eq, cond_both, and_from, and_left, and_right, eq-eqb, ne_eqb}
use Rattle.std.proofs.lemmas.List.{reverse-append, reverse-reverse}
use Rattle.std.proofs.lemmas.List.Elements.{filter-append}
use Rattle.protocol_model.specs.declared.Cause.{Cause}
use Rattle.protocol_model.specs.declared.Cause.TheVariants.{BadChannel, BadPart}
use Rattle.protocol_model.specs.declared.PartWhy.{PartWhy}
use Rattle.protocol_model.specs.declared.Why.{Why}
use Rattle.protocol_model.specs.Packet.{Bunch, Packet}
use Rattle.protocol_model.specs.PacketReading as Reading
use Rattle.protocol_model.specs.Payload.{Message}
use Rattle.protocol_model.specs.Reading.{Fault}
use Rattle.connection_model.specs.Feed.{End, Past, Event, Tick, Got, Call, Deed, Took, Ended, ByCause, Entry, Told, Acked, Heard, Delivered, has_ended}
use Rattle.connection_model.specs.Past.{past_of, after_event}
use Rattle.connection_model.specs.Fates.{entries_of, number_near, is_new}
use Rattle.connection_model.specs.Fates as Fates
use Rattle.connection_model.specs.Copies.{delivered_of, handed_in}
use Rattle.connection_model.specs.Windows.{Received, received_on, received_by, next_of, number_as, Offer, Repeat, Ready, Held, offer_of, with_offer, with_bunch, with_entry, applied_of, ready_bunches, run_of, ends_payload, kept_of, part_fault, first_of, joined_bits, wholes_from, wholes_of}
use Rattle.connection_model.specs.PayloadReading.{payload_at}
use Rattle.connection_model.specs.Verdict.{is_misplaced, lacks_copy, delivery_of, payload_cause, payload_result, bunch_result, with_handed, with_told, Progress, bunches_result, reliable_result, bunch_heard, entry_result, after_entries, entries_in, after_packet, after_reading}
use Rattle.connection_laws.specs.Run.{Move, Ticks, Makes, Defers, Sends, Takes, Hears, Hands, Ends, after_move, May, IsRun}
use Rattle.connection_laws.specs.Run.IsRun.{does}
use Rattle.connection_laws.specs.Delivered.{ReadFrom, ReadEach, handed_reliably, is_closed_by, HandsReceived}
use Rattle.connection_laws.proofs.Moves.{made_ignored_all}
use Rattle.connection_laws.proofs.LiveRuns.{IsQuiet, Goes, IsDone}
use Rattle.connection_laws.proofs.Calling.{call_runs}
use Rattle.connection_laws.proofs.Ticking.{tick_runs}
use Rattle.connection_laws.proofs.Feeds.{feed_done, ended_stays}
use Rattle.connection_laws.proofs.Hearing.{entry_runs}
use Rattle.connection_laws.proofs.Receiving.{has}
use Rattle.connection_laws.proofs.Applied.{offer_cases, applied_held, applied_ready, wholes_split, kept_is, IsOn, received_are_on, run_on, kept_on, first_on}

-- ---- a bunch whose turn it is

-- what a bunch says: nothing yet, or a payload that was read
abbrev Says : End → Past → (kept : List Bunch) → Bunch → Option Delivered → Type 0
Says end past kept b None = ends_payload b ≡ false
Says end past kept b (Some d) = (ends_payload b ≡ true) × ReadFrom end d (first_of kept b, joined_bits kept b)

-- a whole payload is handed on as it is read
payload_says : (end : End) (past : Past) (kept : List Bunch) (b : Bunch) → ends_payload b ≡ true → (o : Option Delivered) → payload_result end past (first_of kept b) (joined_bits kept b) ≡ Ok o → Says end past kept b o
payload_says end past kept b ends o e = by (payload_at end past (first_of kept b) (joined_bits kept b)) refl e
  where
    read : (got : Message × List Bool) → payload_at end past (first_of kept b) (joined_bits kept b) ≡ Ok got → (o : Option Delivered) → Ok (Some (delivery_of end past (first_of kept b) got.0)) ≡ (let r : Result (Option Delivered) Cause = Ok o in r) → Says end past kept b o
    read got q None e = absurd (let never : (let r : Result (Option Delivered) Cause = Ok (Some (delivery_of end past (first_of kept b) got.0)) in r) ≡ Ok None = e in cc)
    read got q (Some d) e = (
      ends,
      subst (λ (x : Delivered). ReadFrom end x (first_of kept b, joined_bits kept b)) (same (delivery_of end past (first_of kept b) got.0) d e)
          (record { past = past; left = got.1; read = q; channel = refl; reliable = refl }),
    )
      where
        same : (x y : Delivered) → (let r : Result (Option Delivered) Cause = Ok (Some x) in r) ≡ Ok (Some y) → x ≡ y
        same x y e = cc

    by : (r : Result (Message × List Bool) (Fault (Option Cause))) → payload_at end past (first_of kept b) (joined_bits kept b) ≡ r
        → (let x : Result (Option Delivered) Cause = elim r [ Ok got ↦ Ok (Some (delivery_of end past (first_of kept b) got.0)) | Err fault ↦ Err (payload_cause (first_of kept b).channel (length (joined_bits kept b)) fault) ] in x) ≡ Ok o
        → Says end past kept b o
    by (Ok got) q e = read got q o e
    by (Err fault) q e = absurd (let never : (let x : Result (Option Delivered) Cause = Err (payload_cause (first_of kept b).channel (length (joined_bits kept b)) fault) in x) ≡ Ok o = e in cc)

-- what a bunch says, by the parts kept and what is wrong with it
abbrev body : End → Past → (kept : List Bunch) → (own : List Bunch) → Bunch → Option PartWhy → Result (Option Delivered) Cause
body end past kept own b o = elim o [
  | Some why ↦ Err (BadPart b.channel why)
  | None ↦ if ends_payload b then payload_result end past (first_of own b) (joined_bits own b) else Ok None
]

-- it says nothing yet, or a payload that was read
body_says : (end : End) (past : Past) (kept own : List Bunch) (b : Bunch) (f : Option PartWhy) (o : Option Delivered) → body end past kept own b f ≡ Ok o → Says end past own b o
body_says end past kept own b (Some why) o e = absurd (let never : (let x : Result (Option Delivered) Cause = Err (BadPart b.channel why) in x) ≡ Ok o = e in cc)
body_says end past kept own b None o e = by (ends_payload b) refl e
  where
    none : (o : Option Delivered) → ends_payload b ≡ false → (let x : Result (Option Delivered) Cause = Ok None in x) ≡ Ok o → Says end past own b o
    none None q e = q
    none (Some d) q e = absurd (let never : (let x : Result (Option Delivered) Cause = Ok None in x) ≡ Ok (Some d) = e in cc)

    by : (t : Bool) → ends_payload b ≡ t → cond t (payload_result end past (first_of own b) (joined_bits own b)) (Ok None) ≡ Ok o → Says end past own b o
    by true q e = payload_says end past own b q o e
    by false q e = none o q e

-- so a bunch does
bunch_says : (end : End) (past : Past) (kept : List Bunch) (b : Bunch) (o : Option Delivered) → bunch_result end past kept b ≡ Ok o → Says end past (cond b.reliable kept []) b o
bunch_says end past kept b o e = by (lacks_copy end.side past kept b) e
  where
    by : (t : Bool) → cond t (Err (BadChannel b.channel)) (body end past kept (cond b.reliable kept []) b (part_fault kept b b.part)) ≡ Ok o → Says end past (cond b.reliable kept []) b o
    by true e = absurd (let never : (let x : Result (Option Delivered) Cause = Err (BadChannel b.channel) in x) ≡ Ok o = e in cc)
    by false e = body_says end past kept (cond b.reliable kept []) b (part_fault kept b b.part) o e

-- ---- bunches one after another

-- the past with these handed on, the first of them first
abbrev handing : Past → List Delivered → Past
handing past news = fold (λ (p : Past) (d : Delivered). with_handed d p) past news

-- these whole payloads were handed on between two pasts
pub record Handed (end : End) (past later : Past) (wholes : List (Bunch × List Bool)) : Type 0 where
  pub news : List Delivered
  pub is : later ≡ handing past news
  pub each : ReadEach end news wholes

-- bunches of an index hand on the payloads that they end
bunches_hand : (end : End) (past : Past) (ch : ℕ) (kept bunches : List Bunch) → AllByRecursion (IsOn ch) kept → AllByRecursion (IsOn ch) bunches → (bunches_result end past kept bunches).cause ≡ None
    → Handed end past (bunches_result end past kept bunches).past (wholes_from kept bunches)
bunches_hand end past ch kept [] k h e = record { news = []; is = refl; each = tt }
bunches_hand end past ch kept (b ∷ bunches) k h e =
    by (bunch_result end past kept b) refl e (λ q. bunches_hand end past ch (b ∷ kept) bunches (h.0, k) h.1 q) (λ d q. bunches_hand end (with_handed d past) ch [] bunches tt h.1 q)
  where
    own : cond b.reliable kept [] ≡ kept
    own = ap (λ (t : Bool). cond t kept []) h.0.reliable

    goes_on : ends_payload b ≡ false → wholes_from kept (b ∷ bunches) ≡ wholes_from (b ∷ kept) bunches
    goes_on q = ap (λ (t : Bool). cond t ((first_of kept b, joined_bits kept b) ∷ wholes_from [] bunches) (wholes_from (b ∷ kept) bunches)) q

    stops : ends_payload b ≡ true → wholes_from kept (b ∷ bunches) ≡ (first_of kept b, joined_bits kept b) ∷ wholes_from [] bunches
    stops q = ap (λ (t : Bool). cond t ((first_of kept b, joined_bits kept b) ∷ wholes_from [] bunches) (wholes_from (b ∷ kept) bunches)) q

    by : (r : Result (Option Delivered) Cause) → bunch_result end past kept b ≡ r
        → (let p : Progress = elim r [
          | Err cause ↦ record { past = past; cause = Some cause }
          | Ok None ↦ bunches_result end past (b ∷ kept) bunches
          | Ok (Some d) ↦ bunches_result end (with_handed d past) [] bunches
        ] in p).cause ≡ None
        → ((bunches_result end past (b ∷ kept) bunches).cause ≡ None → Handed end past (bunches_result end past (b ∷ kept) bunches).past (wholes_from (b ∷ kept) bunches))
        → ((d : Delivered) → (bunches_result end (with_handed d past) [] bunches).cause ≡ None → Handed end (with_handed d past) (bunches_result end (with_handed d past) [] bunches).past (wholes_from [] bunches))
        → Handed end past (let p : Progress = elim r [
          | Err cause ↦ record { past = past; cause = Some cause }
          | Ok None ↦ bunches_result end past (b ∷ kept) bunches
          | Ok (Some d) ↦ bunches_result end (with_handed d past) [] bunches
        ] in p).past (wholes_from kept (b ∷ bunches))
    by (Err cause) q e f g = absurd (let never : (let o : Option Cause = Some cause in o) ≡ None = e in cc)
    by (Ok None) q e f g =
        let says : Says end past kept b None = subst (λ (l : List Bunch). Says end past l b None) own (bunch_says end past kept b None q) in
        subst (Handed end past (bunches_result end past (b ∷ kept) bunches).past) (sym (goes_on says)) (f e)
    by (Ok (Some d)) q e f g =
        let says : Says end past kept b (Some d) = subst (λ (l : List Bunch). Says end past l b (Some d)) own (bunch_says end past kept b (Some d) q) in
        let rest = g d e in
        subst (Handed end past (bunches_result end (with_handed d past) [] bunches).past) (sym (stops says.0))
        (record { news = d ∷ rest.news; is = rest.is; each = (says.1, rest.each) })

-- ---- what was handed on from an index

-- what is handed on stands with the packet under way
handing_took : (n : ℕ) (es : List Entry) (past : Past) (news ds : List Delivered) → handing (Took n es ds ∷ past) news ≡ Took n es (reverse news ++ ds) ∷ past
handing_took n es past [] ds = refl
handing_took n es past (d ∷ news) ds =
    handing_took n es past news (d ∷ ds)
    ∙ ap (λ (l : List Delivered). Took n es l ∷ past) (sym (ap (λ (l : List Delivered). l ++ ds) (reverse-append (d ∷ []) news) ∙ append_assoc (reverse news) (d ∷ []) ds))

-- the payload is a reliable one of the index
abbrev is_from : ℕ → Delivered → Bool
is_from ch d = d.channel == ch && d.reliable

-- all of these come from the index, or none does
all_from_index : (ch : ℕ) (news : List Delivered) → AllByRecursion (λ (d : Delivered). is_from ch d ≡ true) news → filter (is_from ch) news ≡ news
all_from_index ch [] h = refl
all_from_index ch (d ∷ news) h = rw (h.0, all_from_index ch news h.1) refl

-- payloads of other indexes are none of this one
none_from_index : (ch : ℕ) (news : List Delivered) → AllByRecursion (λ (d : Delivered). is_from ch d ≡ false) news → filter (is_from ch) news ≡ []
none_from_index ch [] h = refl
none_from_index ch (d ∷ news) h = rw (h.0, none_from_index ch news h.1) refl

-- filtering a list reversed
filter_reverse : (t : Delivered → Bool) (xs : List Delivered) → filter t (reverse xs) ≡ reverse (filter t xs)
filter_reverse t [] = refl
filter_reverse t (x ∷ xs) =
    ap (filter t) (reverse-append (x ∷ []) xs) ∙ filter-append t (reverse xs) (x ∷ []) ∙ ap (λ (l : List Delivered). l ++ filter t (x ∷ [])) (filter_reverse t xs) ∙ by (t x)
  where
    by : (b : Bool) → reverse (filter t xs) ++ cond b (x ∷ []) [] ≡ reverse (cond b (x ∷ filter t xs) (filter t xs))
    by true = sym (reverse-append (x ∷ []) (filter t xs))
    by false = append-nil (reverse (filter t xs))

-- what was handed on by then, and the new ones
handed_more : (ch : ℕ) (news old : List Delivered) → reverse (filter (is_from ch) (reverse news ++ old)) ≡ reverse (filter (is_from ch) old) ++ filter (is_from ch) news
handed_more ch news old =
    ap reverse (filter-append (is_from ch) (reverse news) old)
    ∙ reverse-append (filter (is_from ch) (reverse news)) (filter (is_from ch) old)
    ∙ ap (λ (l : List Delivered). reverse (filter (is_from ch) old) ++ l) (ap reverse (filter_reverse (is_from ch) news) ∙ reverse-reverse (filter (is_from ch) news))

-- payloads read in a row are read from wholes in a row
reads_append : (end : End) (ds es : List Delivered) (ws vs : List (Bunch × List Bool)) → ReadEach end ds ws → ReadEach end es vs → ReadEach end (ds ++ es) (ws ++ vs)
reads_append end [] es [] vs h g = g
reads_append end [] es (w ∷ ws) vs h g = absurd h
reads_append end (d ∷ ds) es [] vs h g = absurd h
reads_append end (d ∷ ds) es (w ∷ ws) vs h g = (h.0, reads_append end ds es ws vs h.1 g)

-- what is joined of an index's bunches begins with one of them
wholes_on : (ch : ℕ) (xs kept : List Bunch) → AllByRecursion (IsOn ch) kept → AllByRecursion (IsOn ch) xs → AllByRecursion (λ (w : Bunch × List Bool). IsOn ch w.0) (wholes_from kept xs)
wholes_on ch [] kept k h = tt
wholes_on ch (x ∷ xs) kept k h =
    cond_both (ends_payload x) ((first_of kept x, joined_bits kept x) ∷ wholes_from [] xs) (wholes_from (x ∷ kept) xs) (AllByRecursion (λ (w : Bunch × List Bool). IsOn ch w.0))
    (λ e. (first_on (IsOn ch) kept x k h.0, wholes_on ch xs [] tt h.1)) (λ e. wholes_on ch xs (x ∷ kept) (h.0, k) h.1)

-- and what is read of it comes from the index
reads_here : (end : End) (ch : ℕ) (ds : List Delivered) (ws : List (Bunch × List Bool)) → ReadEach end ds ws → AllByRecursion (λ (w : Bunch × List Bool). IsOn ch w.0) ws → AllByRecursion (λ (d : Delivered). is_from ch d ≡ true) ds
reads_here end ch [] ws h k = tt
reads_here end ch (d ∷ ds) [] h k = absurd h
reads_here end ch (d ∷ ds) (w ∷ ws) h k =
    (and_from (d.channel == ch) d.reliable (eq-eqb d.channel ch (h.0.channel ∙ k.0.channel)) (h.0.reliable ∙ k.0.reliable), reads_here end ch ds ws h.1 k.1)

-- what is read on another index is none of this one
reads_elsewhere : (end : End) (ch other : ℕ) (ds : List Delivered) (ws : List (Bunch × List Bool)) → (ch ≡ other → ⊥) → ReadEach end ds ws → AllByRecursion (λ (w : Bunch × List Bool). IsOn ch w.0) ws
    → AllByRecursion (λ (d : Delivered). is_from other d ≡ false) ds
reads_elsewhere end ch other [] ws ne h k = tt
reads_elsewhere end ch other (d ∷ ds) [] ne h k = absurd h
reads_elsewhere end ch other (d ∷ ds) (w ∷ ws) ne h k =
    (and_left (d.channel == other) d.reliable (ne_eqb d.channel other (λ e. ne (sym (h.0.channel ∙ k.0.channel) ∙ e))), reads_elsewhere end ch other ds ws ne h.1 k.1)

-- ---- one bunch is heard

-- a reliable bunch of the index is received there
pub entry_here : (got : List Received) (ch : ℕ) (b : Bunch) → b.reliable ≡ true → b.channel ≡ ch → with_entry got ch (Heard b) ≡ with_bunch got b
entry_here got ch b r c = ap (λ (t : Bool). cond t (with_bunch got b) got) (and_from b.reliable (b.channel == ch) r (eq-eqb b.channel ch c))

-- a bunch of another index is not
pub entry_elsewhere : (got : List Received) (ch : ℕ) (b : Bunch) → (b.channel ≡ ch → ⊥) → with_entry got ch (Heard b) ≡ got
entry_elsewhere got ch b ne = ap (λ (t : Bool). cond t (with_bunch got b) got) (and_right b.reliable (b.channel == ch) (ne_eqb b.channel ch ne))

-- an unreliable bunch is not
pub entry_loose : (got : List Received) (ch : ℕ) (b : Bunch) → b.reliable ≡ false → with_entry got ch (Heard b) ≡ got
entry_loose got ch b r = ap (λ (t : Bool). cond t (with_bunch got b) got) (and_left b.reliable (b.channel == ch) r)

module _ (end : End) (n : ℕ) (es : List Entry) (ds : List Delivered) (rest : Past) (y : HandsReceived end (Took n es ds ∷ rest)) (b : Bunch) where
  -- these were handed on, and the bunch is heard
  told_hands : (news : List Delivered) (later : Past) → later ≡ handing (Took n es ds ∷ rest) news
      → ((ch : ℕ) → ReadEach end (handed_reliably (Took n es ds ∷ rest) ch ++ filter (is_from ch) news) (wholes_from [] (applied_of (with_entry (received_on (Took n es ds ∷ rest) ch) ch (Heard b)))))
      → HandsReceived end (with_told (Heard b) later)
  told_hands news later e h =
      subst (λ (p : Past). HandsReceived end (with_told (Heard b) p)) (sym (e ∙ handing_took n es rest news ds))
      (λ ch. subst (λ (l : List Delivered). ReadEach end l (wholes_from [] (applied_of (with_entry (received_on (Took n es ds ∷ rest) ch) ch (Heard b)))))
      (sym (ap (λ (l : List Delivered). reverse (filter (is_from ch) l)) (append_assoc (reverse news) ds (delivered_of rest)) ∙ handed_more ch news (ds ++ delivered_of rest))) (h ch))

  -- nothing reliable was handed on, and nothing more is applied
  nothing_more : (news : List Delivered) (later : Past) → later ≡ handing (Took n es ds ∷ rest) news → ((ch : ℕ) → filter (is_from ch) news ≡ [])
      → ((ch : ℕ) → applied_of (with_entry (received_on (Took n es ds ∷ rest) ch) ch (Heard b)) ≡ applied_of (received_on (Took n es ds ∷ rest) ch)) → HandsReceived end (with_told (Heard b) later)
  nothing_more news later e f a =
      told_hands news later e (λ ch.
      subst (λ (l : List Bunch). ReadEach end (handed_reliably (Took n es ds ∷ rest) ch ++ filter (is_from ch) news) (wholes_from [] l)) (sym (a ch))
      (subst (λ (l : List Delivered). ReadEach end l (wholes_of (Took n es ds ∷ rest) ch)) (sym (ap (λ (l : List Delivered). handed_reliably (Took n es ds ∷ rest) ch ++ l) (f ch) ∙ append-nil (handed_reliably (Took n es ds ∷ rest) ch))) (y ch)))

  abbrev got : List Received
  got = received_on (Took n es ds ∷ rest) b.channel

  -- an unreliable one
  loose_hands : b.reliable ≡ false → (kept : List Bunch) → (bunches_result end (Took n es ds ∷ rest) kept (b ∷ [])).cause ≡ None → HandsReceived end (with_told (Heard b) (bunches_result end (Took n es ds ∷ rest) kept (b ∷ [])).past)
  loose_hands loose kept e = by (bunch_result end (Took n es ds ∷ rest) kept b) refl e
    where
      same : (ch : ℕ) → applied_of (with_entry (received_on (Took n es ds ∷ rest) ch) ch (Heard b)) ≡ applied_of (received_on (Took n es ds ∷ rest) ch)
      same ch = ap applied_of (entry_loose (received_on (Took n es ds ∷ rest) ch) ch b loose)

      by : (r : Result (Option Delivered) Cause) → bunch_result end (Took n es ds ∷ rest) kept b ≡ r
          → (let p : Progress = elim r [
            | Err cause ↦ record { past = Took n es ds ∷ rest; cause = Some cause }
            | Ok None ↦ bunches_result end (Took n es ds ∷ rest) (b ∷ kept) []
            | Ok (Some d) ↦ bunches_result end (with_handed d (Took n es ds ∷ rest)) [] []
          ] in p).cause ≡ None
          → HandsReceived end (with_told (Heard b) (let p : Progress = elim r [
            | Err cause ↦ record { past = Took n es ds ∷ rest; cause = Some cause }
            | Ok None ↦ bunches_result end (Took n es ds ∷ rest) (b ∷ kept) []
            | Ok (Some d) ↦ bunches_result end (with_handed d (Took n es ds ∷ rest)) [] []
          ] in p).past)
      by (Err cause) q e = absurd (let never : (let o : Option Cause = Some cause in o) ≡ None = e in cc)
      by (Ok None) q e = nothing_more [] (Took n es ds ∷ rest) refl (λ ch. refl) same
      by (Ok (Some d)) q e =
          let says : Says end (Took n es ds ∷ rest) [] b (Some d) =
          subst (λ (l : List Bunch). Says end (Took n es ds ∷ rest) l b (Some d)) (ap (λ (t : Bool). cond t kept []) loose) (bunch_says end (Took n es ds ∷ rest) kept b (Some d) q) in
          nothing_more (d ∷ []) (with_handed d (Took n es ds ∷ rest)) refl
          (λ ch. ap (λ (t : Bool). cond t (d ∷ []) []) (and_right (d.channel == ch) d.reliable (says.1.reliable ∙ loose))) same

  -- a reliable one, by what becomes of it
  reliable_hands : b.reliable ≡ true → (o : Offer) → ((k : ℕ) → o ≡ Held k → (next_of got < k) × (has got k ≡ false)) → with_bunch got b ≡ with_offer got b o
      → (reliable_result end (Took n es ds ∷ rest) b got o).cause ≡ None → HandsReceived end (with_told (Heard b) (reliable_result end (Took n es ds ∷ rest) b got o).past)
  reliable_hands r Repeat f w e = nothing_more [] (Took n es ds ∷ rest) refl (λ ch. refl) (λ ch. elim (cases_eq b.channel ch) [
    | inl c ↦ subst (λ (x : ℕ). applied_of (with_entry (received_on (Took n es ds ∷ rest) x) x (Heard b)) ≡ applied_of (received_on (Took n es ds ∷ rest) x)) c (ap applied_of (entry_here got b.channel b r refl ∙ w))
    | inr ne ↦ ap applied_of (entry_elsewhere (received_on (Took n es ds ∷ rest) ch) ch b ne)
  ])
  reliable_hands r (Held k) f w e = nothing_more [] (Took n es ds ∷ rest) refl (λ ch. refl) (λ ch. elim (cases_eq b.channel ch) [
    | inl c ↦ subst (λ (x : ℕ). applied_of (with_entry (received_on (Took n es ds ∷ rest) x) x (Heard b)) ≡ applied_of (received_on (Took n es ds ∷ rest) x)) c
        (ap applied_of (entry_here got b.channel b r refl ∙ w) ∙ applied_held got b k (f k refl).0 (f k refl).1)
    | inr ne ↦ ap applied_of (entry_elsewhere (received_on (Took n es ds ∷ rest) ch) ch b ne)
  ])
  reliable_hands r Ready f w e =
      let on : AllByRecursion (λ (x : Received). IsOn b.channel x.1) got = received_are_on (Took n es ds ∷ rest) b.channel in
      let mine : IsOn b.channel b = record { channel = refl; reliable = r } in
      let kept : AllByRecursion (IsOn b.channel) (kept_of (applied_of got)) =
      subst (AllByRecursion (IsOn b.channel)) (sym (kept_is (applied_of got))) (kept_on (IsOn b.channel) (applied_of got) [] tt (run_on (IsOn b.channel) got 1 (next_of got - 1) on)) in
      let run : AllByRecursion (IsOn b.channel) (ready_bunches got b) =
      run_on (IsOn b.channel) (with_bunch got b) (next_of got) (next_of (with_bunch got b) - next_of got) (subst (AllByRecursion (λ (x : Received). IsOn b.channel x.1)) (sym w) (mine, on)) in
      let h : Handed end (Took n es ds ∷ rest) (bunches_result end (Took n es ds ∷ rest) (kept_of (applied_of got)) (ready_bunches got b)).past (wholes_from (kept_of (applied_of got)) (ready_bunches got b)) =
      bunches_hand end (Took n es ds ∷ rest) b.channel (kept_of (applied_of got)) (ready_bunches got b) kept run e in
      let wholes : AllByRecursion (λ (x : Bunch × List Bool). IsOn b.channel x.0) (wholes_from (kept_of (applied_of got)) (ready_bunches got b)) = wholes_on b.channel (ready_bunches got b) (kept_of (applied_of got)) kept run in
      told_hands h.news (bunches_result end (Took n es ds ∷ rest) (kept_of (applied_of got)) (ready_bunches got b)).past h.is (λ ch. elim (cases_eq b.channel ch) [
        | inl c ↦ subst (λ (x : ℕ). ReadEach end (handed_reliably (Took n es ds ∷ rest) x ++ filter (is_from x) h.news) (wholes_from [] (applied_of (with_entry (received_on (Took n es ds ∷ rest) x) x (Heard b))))) c
            (here h.news h.each (reads_here end b.channel h.news (wholes_from (kept_of (applied_of got)) (ready_bunches got b)) h.each wholes))
        | inr ne ↦ elsewhere ch ne h.news (reads_elsewhere end b.channel ch h.news (wholes_from (kept_of (applied_of got)) (ready_bunches got b)) ne h.each wholes)
      ])
    where
      all : wholes_from [] (applied_of (with_entry got b.channel (Heard b))) ≡ wholes_from [] (applied_of got) ++ wholes_from (kept_of (applied_of got)) (ready_bunches got b)
      all =
          ap (λ (l : List Received). wholes_from [] (applied_of l)) (entry_here got b.channel b r refl ∙ w)
          ∙ ap (wholes_from []) (applied_ready got b)
          ∙ wholes_split (applied_of got) (run_of ((next_of got, b) ∷ got) (next_of got) (next_of ((next_of got, b) ∷ got) - next_of got)) []
          ∙ ap (λ (l : List Bunch). wholes_from [] (applied_of got) ++ wholes_from l (run_of ((next_of got, b) ∷ got) (next_of got) (next_of ((next_of got, b) ∷ got) - next_of got))) (sym (kept_is (applied_of got)))
          ∙ ap (λ (l : List Received). wholes_from [] (applied_of got) ++ wholes_from (kept_of (applied_of got)) (run_of l (next_of got) (next_of l - next_of got))) (sym w)

      here : (news : List Delivered) → ReadEach end news (wholes_from (kept_of (applied_of got)) (ready_bunches got b)) → AllByRecursion (λ (d : Delivered). is_from b.channel d ≡ true) news
          → ReadEach end (handed_reliably (Took n es ds ∷ rest) b.channel ++ filter (is_from b.channel) news) (wholes_from [] (applied_of (with_entry got b.channel (Heard b))))
      here news each mine =
          subst (λ (ws : List (Bunch × List Bool)). ReadEach end (handed_reliably (Took n es ds ∷ rest) b.channel ++ filter (is_from b.channel) news) ws) (sym all)
          (reads_append end (handed_reliably (Took n es ds ∷ rest) b.channel) (filter (is_from b.channel) news) (wholes_from [] (applied_of got)) (wholes_from (kept_of (applied_of got)) (ready_bunches got b)) (y b.channel)
          (subst (λ (l : List Delivered). ReadEach end l (wholes_from (kept_of (applied_of got)) (ready_bunches got b))) (sym (all_from_index b.channel news mine)) each))

      elsewhere : (ch : ℕ) → (b.channel ≡ ch → ⊥) → (news : List Delivered) → AllByRecursion (λ (d : Delivered). is_from ch d ≡ false) news
          → ReadEach end (handed_reliably (Took n es ds ∷ rest) ch ++ filter (is_from ch) news) (wholes_from [] (applied_of (with_entry (received_on (Took n es ds ∷ rest) ch) ch (Heard b))))
      elsewhere ch ne news none =
          subst (λ (l : List Received). ReadEach end (handed_reliably (Took n es ds ∷ rest) ch ++ filter (is_from ch) news) (wholes_from [] (applied_of l))) (sym (entry_elsewhere (received_on (Took n es ds ∷ rest) ch) ch b ne))
          (subst (λ (l : List Delivered). ReadEach end l (wholes_of (Took n es ds ∷ rest) ch)) (sym (ap (λ (l : List Delivered). handed_reliably (Took n es ds ∷ rest) ch ++ l) (none_from_index ch news none) ∙ append-nil (handed_reliably (Took n es ds ∷ rest) ch))) (y ch))

  heard_hands : (bunch_heard end (Took n es ds ∷ rest) b).cause ≡ None → HandsReceived end (with_told (Heard b) (bunch_heard end (Took n es ds ∷ rest) b).past)
  heard_hands =
      cond_both (is_misplaced end.side b) (record { past = Took n es ds ∷ rest; cause = Some (BadChannel b.channel) })
      (cond b.reliable (reliable_result end (Took n es ds ∷ rest) b got (offer_of got (number_as got b))) (bunches_result end (Took n es ds ∷ rest) (kept_of (applied_of got)) (b ∷ [])))
      (λ (p : Progress). p.cause ≡ None → HandsReceived end (with_told (Heard b) p.past))
      (λ t e. absurd (let never : (let o : Option Cause = Some (BadChannel b.channel) in o) ≡ None = e in cc))
      (λ t. cond_both b.reliable (reliable_result end (Took n es ds ∷ rest) b got (offer_of got (number_as got b))) (bunches_result end (Took n es ds ∷ rest) (kept_of (applied_of got)) (b ∷ []))
      (λ (p : Progress). p.cause ≡ None → HandsReceived end (with_told (Heard b) p.past))
      (λ r. offer_cases got (number_as got b) (λ (o : Offer). with_bunch got b ≡ with_offer got b o → (reliable_result end (Took n es ds ∷ rest) b got o).cause ≡ None → HandsReceived end (with_told (Heard b) (reliable_result end (Took n es ds ∷ rest) b got o).past))
      (λ w e. reliable_hands r Repeat (λ k q. absurd (not_held k q)) w e) (λ w e. reliable_hands r Ready (λ k q. absurd (not_ready k q)) w e)
      (λ k above new w e. reliable_hands r (Held k) (λ j q. held k j above new q) w e) refl)
      (λ r e. loose_hands r (kept_of (applied_of got)) e))
    where
      not_held : (k : ℕ) → (let o : Offer = Repeat in o) ≡ Held k → ⊥
      not_held k q = cc

      not_ready : (k : ℕ) → (let o : Offer = Ready in o) ≡ Held k → ⊥
      not_ready k q = cc

      held : (k j : ℕ) → next_of got < k → has got k ≡ false → Held k ≡ Held j → (next_of got < j) × (has got j ≡ false)
      held k j above new q = (let e : k ≡ j = cc in (omega (arith, above), ap (has got) (sym e) ∙ new))

-- ---- a datagram

-- an end that a datagram closed is closed
closes : (cause : Cause) (past : Past) → is_closed_by (Ended (ByCause cause) ∷ past) ≡ false → ⊥
closes cause past e = false≢true (sym e)

-- the packet stays under way
abbrev Under : ℕ → Past → Past → Type 0
Under n rest now = (es : List Entry) × ((ds : List Delivered) × (now ≡ Took n es ds ∷ rest))

-- the packet under way stays when a payload is handed on
under_handed : (n : ℕ) (rest : Past) (d : Delivered) (now : Past) → Under n rest now → Under n rest (with_handed d now)
under_handed n rest d now u = (u.0, (d ∷ u.1.0, ap (with_handed d) u.1.1))

-- and when an entry is heard
under_told : (n : ℕ) (rest : Past) (entry : Entry) (now : Past) → Under n rest now → Under n rest (with_told entry now)
under_told n rest entry now u = (entry ∷ u.0, (u.1.0, ap (with_told entry) u.1.1))

-- one entry that breaks no rule
pub one_entry : (end : End) (n : ℕ) (rest : Past) (entry : Entry) (es : List Entry) (ds : List Delivered) → HandsReceived end (Took n es ds ∷ rest) → (entry_result end (Took n es ds ∷ rest) entry).cause ≡ None
    → HandsReceived end (with_told entry (entry_result end (Took n es ds ∷ rest) entry).past)
one_entry end n rest (Told head) es ds y e = y
one_entry end n rest (Acked k) es ds y e = y
one_entry end n rest (Heard b) es ds y e = heard_hands end n es ds rest y b e

-- a packet under way, whatever it has told and handed on by then
entries_hand : (end : End) (n : ℕ) (rest : Past) (entries : List Entry) (now : Past) → Under n rest now → HandsReceived end now
    → is_closed_by (after_entries end now entries) ≡ false → HandsReceived end (after_entries end now entries)
entries_hand end n rest [] now u y e = y
entries_hand end n rest (entry ∷ more) now u y e =
    by (entry_result end now entry).cause refl e (λ q o. entries_hand end n rest more (with_told entry (entry_result end now entry).past) (under_told n rest entry (entry_result end now entry).past stays) q o)
  where
    stays : Under n rest (entry_result end now entry).past
    stays = entry_runs end (Under n rest) (λ d p q. under_handed n rest d p q) now entry u

    one : (entry_result end now entry).cause ≡ None → HandsReceived end (with_told entry (entry_result end now entry).past)
    one = subst (λ (p : Past). (entry_result end p entry).cause ≡ None → HandsReceived end (with_told entry (entry_result end p entry).past)) (sym u.1.1)
        (one_entry end n rest entry u.0 u.1.0 (subst (HandsReceived end) u.1.1 y))

    by : (c : Option Cause) → (entry_result end now entry).cause ≡ c
        → is_closed_by (let later : Past = elim c [ None ↦ after_entries end (with_told entry (entry_result end now entry).past) more | Some cause ↦ Ended (ByCause cause) ∷ (entry_result end now entry).past ] in later) ≡ false
        → (HandsReceived end (with_told entry (entry_result end now entry).past) → is_closed_by (after_entries end (with_told entry (entry_result end now entry).past) more) ≡ false → HandsReceived end (after_entries end (with_told entry (entry_result end now entry).past) more))
        → HandsReceived end (let later : Past = elim c [ None ↦ after_entries end (with_told entry (entry_result end now entry).past) more | Some cause ↦ Ended (ByCause cause) ∷ (entry_result end now entry).past ] in later)
    by (Some cause) q o next = absurd (closes cause (entry_result end now entry).past o)
    by None q o next = next (one q) o

-- a datagram hands on what it completes
reading_hands : (end : End) (past : Past) (r : Result Packet (ℕ × Why)) → HandsReceived end past → is_closed_by (after_reading end past r) ≡ false → HandsReceived end (after_reading end past r)
reading_hands end past (Err bad) y e = y
reading_hands end past (Ok p) y e =
    cond_both (is_new past p.number) (after_packet end past p) past (λ (later : Past). is_closed_by later ≡ false → HandsReceived end later)
    (λ q e. entries_hand end (unsigned_abs (number_near past p.number)) past (entries_in end.version p) (Took (unsigned_abs (number_near past p.number)) [] [] ∷ past) ([], ([], refl)) y e) (λ q e. y) e

-- ---- events that hand on nothing

-- nothing more was heard or handed on
pub record Still (before past : Past) : Type 0 where
  pub delivered : delivered_of past ≡ delivered_of before
  pub entries : entries_of past ≡ entries_of before

-- a move that hears nothing hands nothing on
still_goes : (end : End) (before past : Past) (move : Move) → IsQuiet move → IsRun end past × Still before past → has_ended past ≡ false → May end past move → IsRun end (after_move past move) × Still before (after_move past move)
still_goes end before past (Ticks sight) quiet h alive may = (does (Ticks sight) h.0 alive may, record { delivered = h.1.delivered; entries = h.1.entries })
still_goes end before past (Makes ch m) quiet h alive may = (
  does (Makes ch m) h.0 alive may,
  record {
    delivered = made_ignored_all handed_in (λ c n m i. refl) past ch m ∙ h.1.delivered;
    entries = made_ignored_all Fates.entries_in (λ c n m i. refl) past ch m ∙ h.1.entries;
  },
)
still_goes end before past (Defers m) quiet h alive may = (does (Defers m) h.0 alive may, record { delivered = h.1.delivered; entries = h.1.entries })
still_goes end before past (Sends items) quiet h alive may = (does (Sends items) h.0 alive may, record { delivered = h.1.delivered; entries = h.1.entries })
still_goes end before past (Takes n) quiet h alive may = absurd quiet
still_goes end before past (Hears entry) quiet h alive may = absurd quiet
still_goes end before past (Hands d) quiet h alive may = absurd quiet
still_goes end before past (Ends g) quiet h alive may = (does (Ends g) h.0 alive may, record { delivered = h.1.delivered; entries = h.1.entries })

-- so do moves in a row
stills : (end : End) (before : Past) → Goes end (λ (past : Past). IsRun end past × Still before past)
stills end before = record { is_run = λ past h. h.0; goes = still_goes end before }

-- what was handed on stays, while nothing is received
pub still_hands : (end : End) (before past : Past) → Still before past → HandsReceived end before → HandsReceived end past
still_hands end before past s y ch =
    subst (λ (es : List Entry). ReadEach end (handed_reliably past ch) (wholes_from [] (applied_of (received_by es ch)))) (sym s.entries)
    (subst (λ (ds : List Delivered). ReadEach end (reverse (filter (is_from ch) ds)) (wholes_of before ch)) (sym s.delivered) (y ch))

-- ---- every feed

-- an end that is closed stays so
stays_closed : (end : End) (past : Past) (event : Event) → is_closed_by past ≡ true → is_closed_by (after_event end past event) ≡ true
stays_closed end past event e = ap is_closed_by (ended_stays end past event (ended past e)) ∙ e
  where
    ended : (past : Past) → is_closed_by past ≡ true → has_ended past ≡ true
    ended [] e = e
    ended (Ended g ∷ past) e = refl
    ended (Took n es ds ∷ past) e = ended past e
    ended (Deed.Ticked t s ∷ past) e = ended past e
    ended (Deed.Made c n m i ∷ past) e = ended past e
    ended (Deed.Waits m ∷ past) e = ended past e
    ended (Deed.Sent n t items ∷ past) e = ended past e

-- each event hands on what it completes
event_hands : (end : End) (past : Past) (event : Event) → IsDone (IsRun end) past → HandsReceived end past → is_closed_by (after_event end past event) ≡ false → HandsReceived end (after_event end past event)
event_hands end past (Tick sight) h y e =
    still_hands end past (after_event end past (Tick sight)) (tick_runs end (λ (p : Past). IsRun end p × Still past p) (stills end past) past sight
    (λ q alive. (does (Ticks sight) q.0 alive tt, record { delivered = q.1.delivered; entries = q.1.entries }))
    (record { run = (h.run, record { delivered = refl; entries = refl }); few = h.few })).run.1 y
event_hands end past (Call a n args) h y e =
    still_hands end past (after_event end past (Call a n args)) (call_runs end (λ (p : Past). IsRun end p × Still past p) (stills end past) past
    (record { run = (h.run, record { delivered = refl; entries = refl }); few = h.few }) a n args).run.1 y
event_hands end past (Got bytes) h y e =
    cond_both (has_ended past) past (after_reading end past (Reading.packet_of end.version bytes)) (λ (later : Past). is_closed_by later ≡ false → HandsReceived end later)
    (λ q e. y) (λ q e. reading_hands end past (Reading.packet_of end.version bytes) y e) e

-- what is handed on is what was received
pub hands_received : (end : End) (feed : List Event) → is_closed_by (past_of end feed) ≡ false → HandsReceived end (past_of end feed)
hands_received end [] e = λ ch. tt
hands_received end (event ∷ feed) e =
    event_hands end (past_of end feed) event (feed_done end feed) (hands_received end feed (still_open (is_closed_by (past_of end feed)) refl)) e
  where
    still_open : (b : Bool) → is_closed_by (past_of end feed) ≡ b → is_closed_by (past_of end feed) ≡ false
    still_open false q = q
    still_open true q = absurd (false≢true (sym e ∙ stays_closed end (past_of end feed) event q))
