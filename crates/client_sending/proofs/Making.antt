-- What stands once a call is made, or waits.
use Rattle.std.proofs.Common.{◌≡◌, ◌∙◌, ℕ, zero, suc, ◌+◌, ◌<◌, ◌≤◌, List, [], ◌∷◌, ◌++◌, map, length, true, false, Option, Some, slice_get, refl, sym, ap, subst, arith}
use Rattle.std.specs.Prelude.{nat_lt}
use Rattle.std.specs.List.{filter_map}
use Rattle.std.proofs.lemmas.Bool.Decides.{nat_tests}
use Rattle.std.proofs.lemmas.List.{length-map, map-append, reverse-append}
use Rattle.std.proofs.lemmas.Option.{none-some}
use Rattle.protocol_model.specs.Limits.{part_bits, waiting_limit}
use Rattle.protocol_model.specs.Packet.{channel_limit}
use Rattle.protocol_model.specs.Payload.{Message, Calls, message_bits}
use Rattle.protocol_model.specs.Side.{AtClient}
use Rattle.protocol_model.specs.Value.{Call, Arg}
use Rattle.connection_model.specs.Bunches.{after_making}
use Rattle.connection_model.specs.CallAnswers.{waiting_of, waits_in}
use Rattle.connection_model.specs.Copies.{delivered_of, copy_channel}
use Rattle.connection_model.specs.Feed.{End, Past, Made, Waits, has_ended, deeds_since_tick}
use Rattle.connection_model.specs.State.{opened_in}
use Rattle.connection_laws.proofs.Counts.{made_count_elsewhere}
use Rattle.connection_laws.proofs.Moves.{making_keeps}
use Rattle.packing_laws.proofs.Making.{unresolved_making}
use Rattle.link_end.specs.Link.{Link}
use Rattle.link_end.specs.Rests.{Rests}
use Rattle.channel_table.specs.Channels.{Channels, WaitingCall}
use Rattle.channel_table.specs.Keeps.{Keeps}
use Rattle.channel_table.specs.Stands.{waiting_call, channel_bound, IsPaired}
use Rattle.client_sending.specs.Stands.{Stands, WaitShort}
use Rattle.client_sending.proofs.Ticked.{same_channels}

-- ---- a call that is made

module _ (past : Past) (ch actor number : ℕ) (call : Call) (args : List Arg) where
  made : Past
  made = after_making past ch (Calls actor number call args)

  made_same : {A : Type 0} (F : Past → A)
      → ((n i : ℕ) (before : Past) → F (Made ch n (Calls actor number call args) i ∷ before) ≡ F before)
      → F (after_making past ch (Calls actor number call args)) ≡ F past
  made_same F h =
      making_keeps (λ i before. F before ≡ F past) past ch (Calls actor number call args) refl
      (λ i before lt e. h _ i before ∙ e)

  made_alive : has_ended (after_making past ch (Calls actor number call args)) ≡ has_ended past
  made_alive = made_same has_ended (λ n i before. refl)

  made_waits : waiting_of (after_making past ch (Calls actor number call args)) ≡ waiting_of past
  made_waits = made_same waiting_of (λ n i before. refl)

  made_opens : filter_map opened_in (after_making past ch (Calls actor number call args)) ≡ filter_map opened_in past
  made_opens = made_same (λ (q : Past). filter_map opened_in q) (λ n i before. refl)

  made_delivers : delivered_of (after_making past ch (Calls actor number call args)) ≡ delivered_of past
  made_delivers = made_same delivered_of (λ n i before. refl)

link_made : (l : Link) (end : End) (past : Past) (ch : ℕ) (m : Message)
    → ((before : Past) (n i : ℕ) → Rests l end before → Rests l end (Made ch n m i ∷ before))
    → Rests l end past → Rests l end (after_making past ch m)
link_made l end past ch m unseen h = making_keeps (λ i before. Rests l end before) past ch m h
    (λ i before lt r. unseen before _ i r)

pub waits_as : (past later : Past) → waiting_of later ≡ waiting_of past → WaitShort past → WaitShort later
waits_as past later e h = record {
  few = omega (arith, h.few, ap length e);
  short = λ i call at. h.short i call (ap (λ (ms : List Message). slice_get ms i) (sym e) ∙ at);
}

pub call_made : (l : Link) (t later : Channels) (end : End) (past : Past) (ch actor number : ℕ) (call : Call)
    (args : List Arg) → Stands l t end past → ch < channel_limit end.version
    → ((before : Past) (n i : ℕ) → Rests l end before → Rests l end
    (Made ch n (Calls actor number call args) i ∷ before))
    → Keeps later AtClient (after_making past ch (Calls actor number call args)) → later.bound ≡ t.bound
    → later.waiting ≡ t.waiting
    → Stands l later end (after_making past ch (Calls actor number call args))
call_made l t later end past ch actor number call args h low unseen keeps bound waiting = record {
  side = h.side;
  budget = h.budget;
  alive = made_alive past ch actor number call args ∙ h.alive;
  link = link_made l end past ch (Calls actor number call args) unseen h.link;
  table = record {
    bunches = keeps;
    bound = λ a. ap (λ b. channel_bound b a) bound ∙ h.table.bound a ∙ sym (channels a);
    paired = subst IsPaired (sym bound) h.table.paired;
    waiting = waiting ∙ h.table.waiting ∙ ap (map waiting_call) (sym (made_waits past ch actor number call args));
  };
  held = λ a c e. h.held a c (sym (channels a) ∙ e);
  may = record {
    few = omega (arith, h.may.few, unresolved_making past ch (Calls actor number call args));
    low = λ c le. made_count_elsewhere past c ch (Calls actor number call args)
        (λ e. absurd (omega (arith, e, low, le))) ∙ h.may.low c le;
    opens = made_opens past ch actor number call args ∙ h.may.opens;
    waits = waits_as past (after_making past ch (Calls actor number call args))
        (made_waits past ch actor number call args) h.may.waits;
  };
}
  where
    channels : (a : ℕ) → copy_channel (after_making past ch (Calls actor number call args)) a ≡ copy_channel past a
    channels a =
        same_channels past (after_making past ch (Calls actor number call args)) a
        (made_delivers past ch actor number call args)

-- ---- a call that waits

pub waits_more : (past : Past) (m : Message) → waiting_of (Waits m ∷ past) ≡ waiting_of past ++ m ∷ []
waits_more past m = reverse-append (m ∷ []) (filter_map waits_in (deeds_since_tick past))

more_short : (ms : List Message) (m : Message) → length (message_bits m) ≤ part_bits
    → ((i : ℕ) (call : Message) → slice_get ms i ≡ Some call → length (message_bits call) ≤ part_bits)
    → (i : ℕ) (call : Message) → slice_get (ms ++ m ∷ []) i ≡ Some call → length (message_bits call) ≤ part_bits
more_short [] m le h zero call e = subst (λ (m : Message). length (message_bits m) ≤ part_bits) (same m call e) le
  where
    same : (x y : Message) → ◌≡◌ {A = Option Message} (Some x) (Some y) → x ≡ y
    same x y e = cc
more_short [] m le h (suc i) call e = absurd (none-some call e)
more_short (x ∷ ms) m le h zero call e = h 0 call e
more_short (x ∷ ms) m le h (suc i) call e = more_short ms m le (λ i. h (suc i)) i call e

one_more_length : (ms : List Message) (m : Message) → length (ms ++ m ∷ []) ≡ length ms + 1
one_more_length [] m = refl
one_more_length (x ∷ ms) m = (let e = one_more_length ms m in omega (arith, e))

pub call_waits : (l : Link) (t later : Channels) (end : End) (past : Past) (m : Message) (w : WaitingCall)
    → Stands l t end past → length (message_bits m) ≤ part_bits → length (waiting_of past) < waiting_limit
    → Rests l end (Waits m ∷ past) → Keeps later AtClient (Waits m ∷ past)
    → later.bound ≡ t.bound → later.waiting ≡ t.waiting ++ w ∷ [] → w ≡ waiting_call m
    → Stands l later end (Waits m ∷ past)
call_waits l t later end past m w h short room link keeps bound waiting is = record {
  side = h.side;
  budget = h.budget;
  alive = h.alive;
  link = link;
  table = record {
    bunches = keeps;
    bound = λ a. ap (λ b. channel_bound b a) bound ∙ h.table.bound a;
    paired = subst IsPaired (sym bound) h.table.paired;
    waiting = waiting ∙ ap (λ (ws : List WaitingCall). ws ++ w ∷ []) h.table.waiting
        ∙ ap (λ (w : WaitingCall). map waiting_call (waiting_of past) ++ w ∷ []) is
        ∙ sym (map-append waiting_call (waiting_of past) (m ∷ []))
        ∙ ap (map waiting_call) (sym (waits_more past m));
  };
  held = h.held;
  may = record {
    few = h.may.few;
    low = h.may.low;
    opens = h.may.opens;
    waits = record {
      few = omega (arith, room, ap length (waits_more past m), one_more_length (waiting_of past) m);
      short = λ i call e. more_short (waiting_of past) m short h.may.waits.short i call
          (ap (λ (ms : List Message). slice_get ms i) (sym (waits_more past m)) ∙ e);
    };
  };
}

-- calls that wait are nothing to bunches
pub waiting_ignored : (t later : Channels) (ws : List WaitingCall) (past : Past) → later ≡ record t { waiting = ws }
    → Keeps t AtClient past → Keeps later AtClient past
waiting_ignored t later ws past e h = subst (λ (t : Channels). Keeps t AtClient past) (sym e) (record {
  made = h.made;
  got = h.got;
  high = h.high;
})

-- ---- numbers

pub few_is : (past : Past) (ws : List WaitingCall) → ws ≡ map waiting_call (waiting_of past)
    → nat_lt (length ws) waiting_limit ≡ nat_lt (length (waiting_of past)) waiting_limit
few_is past ws e =
    ap (λ (n : ℕ). nat_lt n waiting_limit) (ap length e ∙ length-map (waiting_of past) waiting_call)

pub below : (x y : ℕ) → nat_lt x y ≡ true → x < y
below x y e = grind (arith, nat_tests, e)

pub more : (a b x y : ℕ) → a ≡ x → b ≡ y → a < b → nat_lt x y ≡ true
more a b x y e f h = above x y (omega (arith, e, f, h))
  where
    above : (x y : ℕ) → x < y → nat_lt x y ≡ true
    above x y h = grind (arith, nat_tests)

pub no_more : (a b x y : ℕ) → a ≡ x → b ≡ y → b ≤ a → nat_lt x y ≡ false
no_more a b x y e f h = from x y (omega (arith, e, f, h))
  where
    from : (x y : ℕ) → y ≤ x → nat_lt x y ≡ false
    from x y h = grind (arith, nat_tests)
