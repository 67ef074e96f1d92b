-- Bunches that are due, as the past tells before the packets of the tick and after them.
use Rattle.std.proofs.Common.{◌≡◌, inl, inr, ℕ, ◌+◌, ◌-◌, ◌<◌, ◌≤◌, List, [], ◌∷◌, length, Bool, true, false, not, ◌&&◌, ◌||◌, ◌==◌, nat_lt, Option, Some, None, refl, sym, ap, ◌∙◌, subst, arith, if◌then◌else◌}
use Rattle.std.specs.Bool.{then_some}
use Rattle.std.specs.List.{list_any}
use Rattle.std.proofs.lemmas.Bool.{false≢true, cases_Bool, eqb-true, le-ltb, ltb-true, ltb-false, and_parts}
use Rattle.std.proofs.lemmas.Option.{slice_get_cases}
use Rattle.protocol_model.specs.declared.Version.{Version}
use Rattle.protocol_model.specs.Packet.{Bunch, Sends, channel_limit}
use Rattle.protocol_model.specs.Payload.{Message}
use Rattle.protocol_model.specs.Search.{newest_of}
use Rattle.connection_model.specs.Feed.{Past, Ticked, Made, Waits, Sent, Took, Ended, Item, tick_count}
use Rattle.connection_model.specs.Fates.{last_sent, high_of}
use Rattle.connection_model.specs.Bunches.{made_count, made_bunch, has_arrived, is_due, is_carried_as, least_unarrived}
use Rattle.connection_model.specs.Items.{made_as}
use Rattle.connection_laws.proofs.Searches.{newest_hit, newest_miss, least_below}
use Rattle.connection_laws.proofs.Items.{due_unarrived}
use Rattle.packing_laws.specs.Sendings.{sent_all}
use Rattle.packing_laws.proofs.Packings.{sending_keeps, last_sent_all, high_all, unseen_all}
use Rattle.packing_laws.proofs.Sendings.{due_sent}
use Rattle.outgoing_channels.specs.Made.{Made as Outgoings, out_at, bunch_made}
use Rattle.outgoing_channels.specs.Keeps.{KeepsMade, kept_bunch}
use Rattle.link_end.specs.Begun.{IsPackable}
use Rattle.bunch_packing.specs.Both.{IsLow, is_packed}
use Rattle.bunch_packing.proofs.Packable.{made_packable}

-- ---- what is made

pub record IsPart (ch n : ℕ) (b : Bunch) : Type 0 where
  pub message : Message
  pub i : ℕ
  pub is : b ≡ made_bunch ch n message i

some_is : (x y : Bunch) → ◌≡◌ {A = Option Bunch} (Some x) (Some y) → x ≡ y
some_is x y e = cc

-- what is found by a number is a part of a message
pub found_part : (past : Past) (ch n : ℕ) (b : Bunch) → newest_of (made_as ch n) past ≡ Some b → IsPart ch n b
found_part [] ch n b e = absurd cc
found_part (Made c k m i ∷ past) ch n b e = by (c == ch && k == n) refl (found_part past ch n b)
  where
    by : (t : Bool) → (c == ch && k == n) ≡ t → (newest_of (made_as ch n) past ≡ Some b → IsPart ch n b)
        → IsPart ch n b
    by true t rest =
        let same = and_parts (c == ch) (k == n) t in
        let channel : c ≡ ch = eqb-true c ch same.0 in
        let number : k ≡ n = eqb-true k n same.1 in
        let hit = newest_hit (made_as ch n) (Made c k m i) past (made_bunch c k m i)
        (ap (λ b. then_some b (made_bunch c k m i)) t) in
        record {
          message = m;
          i = i;
          is = sym (some_is (made_bunch c k m i) b (sym hit ∙ e)) ∙ ap (λ x. made_bunch x k m i) channel
              ∙ ap (λ x. made_bunch ch x m i) number;
        }
    by false t rest =
        rest (sym (newest_miss (made_as ch n) (Made c k m i) past (ap (λ b. then_some b
        (made_bunch c k m i)) t)) ∙ e)
found_part (Ticked t s ∷ past) ch n b e = found_part past ch n b e
found_part (Waits m ∷ past) ch n b e = found_part past ch n b e
found_part (Sent k t items ∷ past) ch n b e = found_part past ch n b e
found_part (Took k es ds ∷ past) ch n b e = found_part past ch n b e
found_part (Ended g ∷ past) ch n b e = found_part past ch n b e

-- so it has a spelling
pub found_packable : (v : Version) (past : Past) (ch n : ℕ) (b : Bunch) → IsLow v past → 1 ≤ n → n ≤ made_count past ch
    → newest_of (made_as ch n) past ≡ Some b → IsPackable v (Sends b)
found_packable v past ch n b low some made e =
    let part = found_part past ch n b e in
    subst (λ (b : Bunch). IsPackable v (Sends b)) (sym part.is) (made_packable v ch n part.message part.i below)
  where
    below : ch < channel_limit v
    below = elim (cases_Bool (nat_lt ch (channel_limit v))) [
      | inl t ↦ ltb-true ch (channel_limit v) t
      | inr t ↦ absurd (omega (arith, low ch (ltb-false ch (channel_limit v) t), some, made))
    ]

-- ---- what is due is kept

-- it isn't below the least that hasn't arrived
due_from_least : (past : Past) (ch n : ℕ) → 1 ≤ n → is_due past ch n ≡ true → least_unarrived past ch ≤ n
due_from_least past ch n some due = elim (cases_Bool (nat_lt n (least_unarrived past ch))) [
  | inr t ↦ ltb-false n (least_unarrived past ch) t
  | inl t ↦ (
      let below = least_below (λ n. not (has_arrived past ch n)) (made_count past ch) 1 n some
      (ltb-true n (least_unarrived past ch) t) in
      absurd (contrary (has_arrived past ch n) below (due_unarrived past ch n due)))
]
  where
    contrary : (b : Bool) → not b ≡ false → b ≡ false → ⊥
    contrary true e f = false≢true (sym f)
    contrary false e f = false≢true (sym e)

pub record Kept (past : Past) (ch n : ℕ) : Type 0 where
  pub bunch : Bunch
  pub made : newest_of (made_as ch n) past ≡ Some bunch
  pub kept : kept_bunch past ch n ≡ Some bunch

-- a due bunch that was made is kept
pub due_kept : (t : Outgoings) (past : Past) (ch n : ℕ) → KeepsMade t past
    → is_due past ch n ≡ true → 1 ≤ n → n ≤ made_count past ch → Kept past ch n
due_kept t past ch n h due some made =
    let least : least_unarrived past ch ≤ n = due_from_least past ch n some due in
    let o = out_at t.out ch in
    let k = h.out ch in
    let within : n - least_unarrived past ch < length o.kept = omega (arith, k.count, least, made) in
    elim (slice_get_cases o.kept (n - least_unarrived past ch)).1 [
      | inl found ↦ (
          let each = k.each (n - least_unarrived past ch) found.0 found.2 in
          let number : least_unarrived past ch + (n - least_unarrived past ch) ≡ n = omega (arith, least) in
          let is : newest_of (made_as ch n) past ≡ Some (bunch_made found.0.item) =
          sym (ap (λ (k : ℕ). newest_of (made_as ch k) past) number) ∙ each.bunch in
          record {
            bunch = bunch_made found.0.item;
            made = is;
            kept = ap (λ (b : Bool). if b then None else newest_of (made_as ch n) past)
                (le-ltb n (least_unarrived past ch) least)
                ∙ is;
          })
      | inr past ↦ absurd (omega (arith, past.0, within))
    ]

-- ---- behind the packets begun

pub made_behind : (past : Past) (packets : List (List Item)) (ch n : ℕ)
    → newest_of (made_as ch n) (sent_all past packets) ≡ newest_of (made_as ch n) past
made_behind past packets ch n = unseen_all (newest_of (made_as ch n)) (λ before items. refl) past packets

-- a bunch that one of them carries isn't due any more, and all others are due as before
pub due_behind : (past : Past) (packets : List (List Item)) → high_of past ≤ last_sent past → (ch n : ℕ)
    → is_due (sent_all past packets) ch n ≡ (if is_packed packets ch n then false else is_due past ch n)
due_behind past packets high ch n =
    sending_keeps (λ packets later. is_due later ch n ≡ (if is_packed packets ch n then false else is_due past ch n))
    past refl (λ items packets before e h.
    due_sent before (last_sent before + 1) (tick_count before) items ch n
    (omega (arith, ap high_of e, ap last_sent e, last_sent_all past packets, high_all past packets, high))
    ∙ ap (λ (b : Bool). if list_any (is_carried_as ch n) items then false else b) h
    ∙ either (list_any (is_carried_as ch n) items) (is_packed packets ch n) (is_due past ch n)) packets
  where
    either : (a b c : Bool) → (if a then false else if b then false else c) ≡ (if a || b then false else c)
    either true b c = refl
    either false b c = refl

-- what is due behind them was due before
pub due_before : (past : Past) (packets : List (List Item)) → high_of past ≤ last_sent past → (ch n : ℕ)
    → is_due (sent_all past packets) ch n ≡ true → is_due past ch n ≡ true
due_before past packets high ch n e =
    by (is_packed packets ch n) (is_due past ch n) (sym (due_behind past packets high ch n) ∙ e)
  where
    by : (a b : Bool) → (if a then false else b) ≡ true → b ≡ true
    by true b e = absurd (false≢true e)
    by false b e = e
