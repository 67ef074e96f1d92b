-- What a call at a living end is answered, and what it leaves.
use Rattle.std.proofs.Common.{◌≡◌, ◌≢◌, ℕ, ◌+◌, ◌/◌, ◌<◌, ◌≤◌, List, [], ◌∷◌, ◌++◌, map, length, Bool, true, false, not, cond, Option, Some, None, refl, sym, ap, ◌∙◌, subst, arith}
use Rattle.std.specs.Prelude.{filter_map, nat_lt, nat_le, if◌then◌else◌}
use Rattle.std.proofs.lemmas.Bool.{false≢true}
use Rattle.std.proofs.lemmas.Option.{same_Some}
use Rattle.std.proofs.lemmas.Bool.Decides.{nat_tests}
use Rattle.std.proofs.lemmas.List.{length-map, map-append, reverse-append}
use Rattle.protocol_model.specs.Side.{AtServer}
use Rattle.protocol_model.specs.Value.{Call, Arg}
use Rattle.protocol_model.specs.Payload.{Message, Calls, message_bits, part_count, parts_of}
use Rattle.protocol_model.specs.declared.CallAnswer.{CallAnswer}
use Rattle.protocol_model.specs.declared.CallAnswer.TheVariants.{Queued, Dead, NotOpen, NotOwner, WindowFull}
use Rattle.connection_model.specs.Feed.{End, Past, Made, Waits, has_ended, deeds_since_tick}
use Rattle.connection_model.specs.Bunches.{room, after_making}
use Rattle.connection_model.specs.State.{ActorState, Closed, Opening, Opened, Closing, Asleep, state_of, index_of, is_opened}
use Rattle.connection_model.specs.CallAnswers.{answer_of, after_call, after_answer, call_channel, call_of, is_not_owner, is_full, waiting_of, waits_in}
use Rattle.connection_laws.proofs.Moves.{making_keeps}
use Rattle.link_end.specs.Link.{Link}
use Rattle.link_end.specs.Rests.{Rests}
use Rattle.channel_table.specs.Channels.{Channels, WaitingCall}
use Rattle.channel_table.specs.Keeps.{Keeps as KeepsTable}
use Rattle.channel_table.specs.Stands.{Stands as StandsTable, waiting_call, channel_bound, IsPaired}
use Rattle.sender_laws.specs.States.{is_pending}
use Rattle.sender_steps.proofs.Unseen.{call_index}

-- ---- answers

pub channel_is : (past : Past) (a : ℕ) (b : Bool) → b ≡ is_opened (state_of past a) → (o : Option ℕ)
    → o ≡ index_of past a
    → cond b o None ≡ call_channel AtServer past a
channel_is past a b e o f = rw (e, f) refl

pub not_open : (past : Past) (a n : ℕ) (args : List Arg) → has_ended past ≡ false → call_channel AtServer past a ≡ None
    → answer_of AtServer past a n args ≡ NotOpen
not_open past a n args alive none = rw (alive, none) refl

-- where the channel and the call that are meant are known
pub answered : (past : Past) (a n : ℕ) (args : List Arg) (ch : ℕ) (call : Call) → has_ended past ≡ false
    → call_channel AtServer past a ≡ Some ch → call_of AtServer past a n args ≡ Some call
    → answer_of AtServer past a n args
    ≡ (if is_not_owner AtServer past a call then NotOwner else if is_full past ch call.reliable
    (Calls a n call args) then WindowFull else Queued)
answered past a n args ch call alive channel meant = rw (alive, channel, meant) refl

pub after_refused : (past : Past) (a n : ℕ) (args : List Arg) (answer : CallAnswer) → answer ≢ Queued
    → answer_of AtServer past a n args ≡ answer → after_call AtServer past a n args ≡ past
after_refused past a n args answer other e = ap (after_answer AtServer past a n args) e ∙ go answer other
  where
    go : (answer : CallAnswer) → answer ≢ Queued → after_answer AtServer past a n args answer ≡ past
    go Queued other = absurd (other refl)
    go Dead other = refl
    go NotOpen other = refl
    go NotOwner other = refl
    go WindowFull other = refl

pub after_queued : (past : Past) (a n : ℕ) (args : List Arg) (ch : ℕ) (call : Call)
    → answer_of AtServer past a n args ≡ Queued
    → call_channel AtServer past a ≡ Some ch → call_of AtServer past a n args ≡ Some call
    → after_call AtServer past a n args
    ≡ (if call.reliable then after_making past ch (Calls a n call args) else Waits (Calls a n call args) ∷ past)
after_queued past a n args ch call e channel meant = ap (after_answer AtServer past a n args) e
    ∙ rw (channel, meant) refl

-- ---- what stands after it

pub link_made : (l : Link) (end : End) (past : Past) (ch : ℕ) (m : Message)
    → ((before : Past) (n i : ℕ) → Rests l end before → Rests l end (Made ch n m i ∷ before))
    → Rests l end past → Rests l end (after_making past ch m)
link_made l end past ch m unseen h = making_keeps (λ i before. Rests l end before) past ch m h
    (λ i before lt r. unseen before _ i r)

waiting_made : (past : Past) (ch : ℕ) (m : Message) → waiting_of (after_making past ch m) ≡ waiting_of past
waiting_made past ch m = making_keeps (λ i before. waiting_of before ≡ waiting_of past) past ch m refl
    (λ i before lt e. e)

-- channels whose bunches stand for the past with a call made, and which else stayed
pub table_made : (t later : Channels) (past : Past) (ch actor number : ℕ) (call : Call) (args : List Arg)
    → StandsTable t AtServer past
    → KeepsTable later AtServer (after_making past ch (Calls actor number call args)) → later.bound ≡ t.bound
    → later.waiting ≡ t.waiting
    → StandsTable later AtServer (after_making past ch (Calls actor number call args))
table_made t later past ch actor number call args h keeps bound waiting =
    let index = call_index past ch actor number call args in
    record {
      bunches = keeps;
      bound = λ a. ap (λ (b : List (ℕ × ℕ)). channel_bound b a) bound ∙ h.bound a ∙ sym (index a);
      paired = subst IsPaired (sym bound) h.paired;
      waiting = waiting ∙ h.waiting ∙ ap (map waiting_call) (sym (waiting_made past ch (Calls actor number call args)));
    }

-- channels with one more call that waits
pub table_waits : (t later : Channels) (past : Past) (m : Message) (w : WaitingCall) → StandsTable t AtServer past
    → KeepsTable later AtServer (Waits m ∷ past) → later.bound ≡ t.bound → later.waiting ≡ t.waiting ++ w ∷ []
    → w ≡ waiting_call m
    → ((a : ℕ) → index_of (Waits m ∷ past) a ≡ index_of past a)
    → StandsTable later AtServer (Waits m ∷ past)
table_waits t later past m w h keeps bound waiting is index = record {
  bunches = keeps;
  bound = λ a. ap (λ (b : List (ℕ × ℕ)). channel_bound b a) bound ∙ h.bound a ∙ sym (index a);
  paired = subst IsPaired (sym bound) h.paired;
  waiting = waiting ∙ ap (λ (ws : List WaitingCall). ws ++ w ∷ []) h.waiting
      ∙ ap (λ (w : WaitingCall). map waiting_call (waiting_of past) ++ w ∷ []) is
      ∙ sym (map-append waiting_call (waiting_of past) (m ∷ []))
      ∙ ap (map waiting_call) (sym (reverse-append (m ∷ []) (filter_map waits_in (deeds_since_tick past))));
}

pub few_is : (past : Past) (ws : List WaitingCall) → ws ≡ map waiting_call (waiting_of past)
    → nat_lt (length ws) 256 ≡ nat_lt (length (waiting_of past)) 256
few_is past ws e = ap (λ (n : ℕ). nat_lt n 256) (ap length e ∙ length-map (waiting_of past) waiting_call)

pub full_is : (n : ℕ) → nat_le 256 n ≡ not (nat_lt n 256)
full_is n = grind (arith, nat_tests)

pub more : (a b x y : ℕ) → a ≡ x → b ≡ y → a < b → nat_lt x y ≡ true
more a b x y e f h = below x y (omega (arith, e, f, h))
  where
    below : (x y : ℕ) → x < y → nat_lt x y ≡ true
    below x y h = grind (arith, nat_tests)

pub no_more : (a b x y : ℕ) → a ≡ x → b ≡ y → b ≤ a → nat_lt x y ≡ false
no_more a b x y e f h = from x y (omega (arith, e, f, h))
  where
    from : (x y : ℕ) → y ≤ x → nat_lt x y ≡ false
    from x y h = grind (arith, nat_tests)

-- ---- a call whose channel and meaning are known

pub opened_by : (past : Past) (a ch : ℕ) → call_channel AtServer past a ≡ Some ch
    → (is_opened (state_of past a) ≡ true) × (index_of past a ≡ Some ch)
opened_by past a ch e = go (is_opened (state_of past a)) refl e
  where
    go : (b : Bool) → is_opened (state_of past a) ≡ b → cond b (index_of past a) None ≡ Some ch
        → (is_opened (state_of past a) ≡ true) × (index_of past a ≡ Some ch)
    go true q f = (q, f)
    go false q f = absurd (let none : (let o : Option ℕ = None in o) ≡ Some ch = f in cc)

pub record IsMeant (past : Past) (a n : ℕ) (args : List Arg) (ch : ℕ) (call : Call) : Type 0 where
  pub alive : has_ended past ≡ false
  pub channel : call_channel AtServer past a ≡ Some ch
  pub meant : call_of AtServer past a n args ≡ Some call

pub barred : (past : Past) (a n : ℕ) (args : List Arg) (ch : ℕ) (call : Call) → IsMeant past a n args ch call
    → is_not_owner AtServer past a call ≡ true → answer_of AtServer past a n args ≡ NotOwner
barred past a n args ch call h e = answered past a n args ch call h.alive h.channel h.meant ∙ rw e refl

decided : (past : Past) (a n : ℕ) (args : List Arg) (ch : ℕ) (call : Call) → IsMeant past a n args ch call
    → is_not_owner AtServer past a call ≡ false
    → answer_of AtServer past a n args
    ≡ (if is_full past ch call.reliable (Calls a n call args) then WindowFull else Queued)
decided past a n args ch call h e = answered past a n args ch call h.alive h.channel h.meant ∙ rw e refl

no_queue : WindowFull ≢ Queued
no_queue e = cc

-- a reliable one
full_reliable : (past : Past) (ch : ℕ) (reliable : Bool) (m : Message) → reliable ≡ true
    → is_full past ch reliable m ≡ nat_lt (room past ch) (parts_of m)
full_reliable past ch reliable m e = rw e refl

pub reliable_answer : (past : Past) (a n : ℕ) (args : List Arg) (ch : ℕ) (call : Call) (payload : List Bool)
    → IsMeant past a n args ch call
    → is_not_owner AtServer past a call ≡ false → call.reliable ≡ true → message_bits (Calls a n call args) ≡ payload
    → answer_of AtServer past a n args
    ≡ (if nat_lt (room past ch) (part_count (length payload)) then WindowFull else Queued)
reliable_answer past a n args ch call payload h e r bits =
    decided past a n args ch call h e
    ∙ ap (λ (b : Bool). if b then WindowFull else Queued)
    (full_reliable past ch call.reliable (Calls a n call args) r
    ∙ ap (λ (p : List Bool). nat_lt (room past ch) (part_count (length p))) bits)

pub reliable_after : (past : Past) (a n : ℕ) (args : List Arg) (ch : ℕ) (call : Call) (payload : List Bool)
    → IsMeant past a n args ch call
    → is_not_owner AtServer past a call ≡ false → call.reliable ≡ true → message_bits (Calls a n call args) ≡ payload
    → after_call AtServer past a n args
    ≡ (if nat_lt (room past ch) (part_count (length payload)) then past else after_making past ch (Calls a n call args))
reliable_after past a n args ch call payload h e r bits =
    go (nat_lt (room past ch) (part_count (length payload))) (reliable_answer past a n args ch call payload h e r bits)
  where
    go : (b : Bool) → answer_of AtServer past a n args ≡ (if b then WindowFull else Queued)
        → after_call AtServer past a n args ≡ (if b then past else after_making past ch (Calls a n call args))
    go true q = after_refused past a n args WindowFull no_queue q
    go false q = after_queued past a n args ch call q h.channel h.meant ∙ rw r refl

-- and one that isn't
full_loose : (past : Past) (ch : ℕ) (reliable : Bool) (m : Message) → reliable ≡ false
    → is_full past ch reliable m ≡ not (nat_lt (length (waiting_of past)) 256)
full_loose past ch reliable m e = rw e (full_is (length (waiting_of past)))

turned : (b : Bool) → (if not b then WindowFull else Queued) ≡ (if b then Queued else WindowFull)
turned true = refl
turned false = refl

pub loose_answer : (past : Past) (a n : ℕ) (args : List Arg) (ch : ℕ) (call : Call) → IsMeant past a n args ch call
    → is_not_owner AtServer past a call ≡ false → call.reliable ≡ false
    → answer_of AtServer past a n args ≡ (if nat_lt (length (waiting_of past)) 256 then Queued else WindowFull)
loose_answer past a n args ch call h e r =
    decided past a n args ch call h e
    ∙ ap (λ (b : Bool). if b then WindowFull else Queued) (full_loose past ch call.reliable (Calls a n call args) r)
    ∙ turned (nat_lt (length (waiting_of past)) 256)

pub loose_after : (past : Past) (a n : ℕ) (args : List Arg) (ch : ℕ) (call : Call) → IsMeant past a n args ch call
    → is_not_owner AtServer past a call ≡ false → call.reliable ≡ false
    → after_call AtServer past a n args
    ≡ (if nat_lt (length (waiting_of past)) 256 then Waits (Calls a n call args) ∷ past else past)
loose_after past a n args ch call h e r =
    go (nat_lt (length (waiting_of past)) 256) (loose_answer past a n args ch call h e r)
  where
    go : (b : Bool) → answer_of AtServer past a n args ≡ (if b then Queued else WindowFull)
        → after_call AtServer past a n args ≡ (if b then Waits (Calls a n call args) ∷ past else past)
    go true q = after_queued past a n args ch call q h.channel h.meant ∙ rw r refl
    go false q = after_refused past a n args WindowFull no_queue q

-- calls that wait are nothing to bunches
pub waiting_ignored : (t later : Channels) (ws : List WaitingCall) (past : Past) → later ≡ record t { waiting = ws }
    → KeepsTable t AtServer past → KeepsTable later AtServer past
waiting_ignored t later ws past e h = subst (λ (t : Channels). KeepsTable t AtServer past) (sym e) (record {
  made = h.made;
  got = h.got;
  high = h.high;
})

-- nothing is under way on the index of an actor that is opened
pub nothing_pends : (t : Channels) (past : Past) (ch actor : ℕ) → StandsTable t AtServer past
    → is_opened (state_of past actor) ≡ true → index_of past actor ≡ Some ch
    → (a : ℕ) → is_pending (state_of past a) ≡ true → index_of past a ≢ Some ch
nothing_pends t past ch actor h opened at a pends there =
    no (state_of past a) (subst (λ (b : ℕ). is_opened (state_of past b) ≡ true) same opened) pends
  where
    same : actor ≡ a
    same = same_Some actor a
        (sym (h.paired.forth actor ch (h.bound actor ∙ at)) ∙ h.paired.forth a ch (h.bound a ∙ there))

    no : (s : ActorState) → is_opened s ≡ true → is_pending s ≡ true → ⊥
    no Opened o p = false≢true p
    no Closed o p = false≢true o
    no Opening o p = false≢true o
    no Closing o p = false≢true o
    no Asleep o p = false≢true o

-- a payload of a call has few parts
pub few_parts : (n : ℕ) → n ≤ 70000 → part_count n ≤ 256
few_parts n le = go (nat_le n 7000)
  where
    go : (b : Bool) → (if b then 1 else (n + 6999) / 7000) ≤ 256
    go true = omega arith
    go false = omega (arith, le)
