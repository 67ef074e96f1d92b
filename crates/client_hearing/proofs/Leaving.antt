-- What stands after one more payload of each kind.
use Rattle.std.proofs.Common.{◌≡◌, ℕ, ◌==◌, List, [], ◌∷◌, ◌++◌, length, Bool, true, false, cond, not, Option, Some, None, is_some, option_map, unwrap_or, Ok, refl, sym, ap, ◌∙◌, subst}
use Rattle.std.proofs.lemmas.Bool.{eqb-true}
use Rattle.std.specs.List.{fold}
use Rattle.protocol_model.specs.Limits.{budget_limit}
use Rattle.protocol_model.specs.Payload.{Message as MessageSpec, Opens, Closes, Updates, Calls, Gone}
use Rattle.protocol_model.specs.Value.{Segment}
use Rattle.protocol_model.specs.World.{class_at}
use Rattle.protocol_model.specs.declared.Version.{Version}
use Rattle.connection_model.specs.Feed.{Past, Delivered}
use Rattle.connection_model.specs.Copies.{copy_channel, copy_class, copy_on, is_on}
use Rattle.connection_model.specs.Handed.{client_verdict}
use Rattle.connection_model.specs.Names.{names_of, names_in, names_with}
use Rattle.connection_model.specs.PayloadReading.{is_elsewhere, is_other_class}
use Rattle.class_layout.specs.Tables.{Layout, table_in}
use Rattle.value_codec.specs.declared.pair.Pair.{Pair}
use Rattle.payload_reading.specs.Values.{pair_values}
use Rattle.value_codec.specs.declared.handed.Handed.{Handed}
use Rattle.handovers.specs.Handovers.{handover_in, handover_of}
use Rattle.payload_laws.specs.Applied.{Applied}
use Rattle.payload_laws.proofs.CopiesAfter.{names_after}
use Rattle.receiving_laws.specs.Holders.{is_copied_on}
use Rattle.receiving_laws.specs.Receiving.{Raw, copied_after}
use Rattle.client_laws.specs.Holding.{Agrees, MayCome}
use Rattle.client_laws.proofs.Channels.{holds_on, holder_on}
use Rattle.client_laws.proofs.Payloads.{Came, came}
use Rattle.incoming_channels.specs.declared.message.Message.{Message}
use Rattle.netguid_map.specs.declared.names.Learnt.{Learnt}
use Rattle.netguid_map.specs.Names.{Stands as StandNames}
use Rattle.actor_copies.specs.declared.copy.ActorCopy.{ActorCopy}
use Rattle.actor_copies.specs.declared.copy.ReadOpen.{ReadOpen}
use Rattle.actor_copies.specs.Applied.{WasOpened, WasHanded, Follow, open_message, update_message}
use Rattle.actor_copies.specs.Kept.{kept_on, copy_actor, ArePlaced}
use Rattle.actor_copies.specs.Stands.{Stands as StandCopies}
use Rattle.actor_copies.proofs.CopyLists.{holder_known}
use Rattle.actor_copies.proofs.Following.{call_follows}
use Rattle.client_payloads.specs.Readings.{holder_kept}
use Rattle.client_payloads.specs.Messages.{class_held, update_payload, call_payload}
use Rattle.client_payloads.specs.declared.payloads.ReadPeerCall.{ReadPeerCall}
use Rattle.channel_table.specs.Holders.{Bound, channel_bound, actor_bound, IsPaired, other_than}
use Rattle.client_hearing.specs.Moments.{Moment, past_at, handing, AreHanded, Reads, IsComing}
use Rattle.client_hearing.specs.Hearing.{result_of, delivery}
use Rattle.client_hearing.proofs.Results.{WasRead, was_read}
use Rattle.client_hearing.proofs.Told.{Tells, payload_tells}
use Rattle.client_hearing.proofs.Channels.{opened_channels, closed_channels, updated_channels, called_channels, gone_channels, asleep_channel, low_same, low_opened, low_closed}
use Rattle.client_hearing.proofs.Handing.{no_call_handed, call_handed}

-- ---- whatever it was

-- a payload that was handed on: what it told before, and what it left
pub record WasHandedOn (layout : Layout) (version : Version) (w : Moment) (raw : Raw) (held : Bool)
    (m : MessageSpec) : Type 0 where
  pub tells : Tells (past_at w) raw.0 m
  pub agrees : Agrees (past_at (handing (delivery layout version (past_at w) raw m) w))
  pub came : Came (past_at w) (past_at (handing (delivery layout version (past_at w) raw m) w)) raw.0 held
      (delivery layout version (past_at w) raw m)

-- the payload comes on its own channel
pub may_come : (layout : Layout) (version : Version) (bound : Bound) (names : List (ℕ × Learnt))
    (copies : List ActorCopy) (calls : List Handed) (w : Moment) (m : Message) (raw : Raw) (held : Bool)
    → IsComing layout version bound names copies calls w m raw held
    → MayCome raw.0.channel held raw.0
may_come layout version bound names copies calls w m raw held h =
    subst (λ (ch : ℕ). MayCome ch held raw.0) (sym h.may.channel) h.may

pub same_here : (layout : Layout) (version : Version) (bound : Bound) (names : List (ℕ × Learnt))
    (copies : List ActorCopy) (calls : List Handed) (w : Moment) (m : Message) (raw : Raw) (held : Bool)
    → IsComing layout version bound names copies calls w m raw held
    → is_copied_on (past_at w) raw.0.channel ≡ held
same_here layout version bound names copies calls w m raw held h =
    ap (is_copied_on (past_at w)) h.may.channel ∙ h.same

pub handed_on : (layout : Layout) (version : Version) (bound : Bound) (names : List (ℕ × Learnt))
    (copies : List ActorCopy) (calls : List Handed) (w : Moment) (m : Message) (raw : Raw) (held : Bool)
    (d : Delivered) → IsComing layout version bound names copies calls w m raw held
    → (was : WasRead layout version (past_at w) raw d)
    → WasHandedOn layout version w raw held was.message
handed_on layout version bound names copies calls w m raw held d h was = record {
  tells = payload_tells (table_in layout) (past_at w) raw.0 raw.1 was.message was.rest was.read;
  agrees = all.leaves.agrees;
  came = all;
}
  where
    all : Came (past_at w) (past_at (handing (delivery layout version (past_at w) raw was.message) w)) raw.0 held
        (delivery layout version (past_at w) raw was.message)
    all = came version budget_limit (table_in layout) w.taking.number w.entries w.handed w.taking.before raw.0
        held raw.1 was.message was.rest h.reads.agrees (same_here layout version bound names copies calls w m raw
        held h) (may_come layout version bound names copies calls w m raw held h) was.read

-- names stay where nothing is exported
names_stay : (names : List (ℕ × Learnt)) (past later : Past) (d : Delivered) → Applied past later d
    → names_in d ≡ [] → StandNames names (names_of past) → StandNames names (names_of later)
names_stay names past later d e none h =
    subst (StandNames names)
    (sym (names_after past later d e ∙ ap (λ (more : List Segment). fold names_with (names_of past) more) none)) h

-- ---- payloads that leave what is bound

-- a payload that says nothing of channels, to which the copies were changed
pub record Quiet (layout : Layout) (w : Moment) (d : Delivered) (new : List ActorCopy)
    (calls after : List Handed) : Type 0 where
  pub channels : (a : ℕ) → copy_channel (past_at (handing d w)) a ≡ copy_channel (past_at w) a
  pub names : names_in d ≡ []
  pub copied : StandCopies layout new (past_at (handing d w))
  pub placed : ArePlaced (length layout.classes) new
  pub told : AreHanded layout calls w.handed → AreHanded layout after (d ∷ w.handed)

pub quiet_reads : (layout : Layout) (version : Version) (bound : Bound) (names : List (ℕ × Learnt))
    (old new : List ActorCopy) (calls after : List Handed) (w : Moment) (d : Delivered)
    → Reads layout version bound names old calls w → Agrees (past_at (handing d w))
    → Quiet layout w d new calls after
    → Reads layout version bound names new after (handing d w)
quiet_reads layout version bound names old new calls after w d r agrees q = record {
  held = λ a. r.held a ∙ sym (q.channels a);
  paired = r.paired;
  learnt = names_stay names (past_at w) (past_at (handing d w)) d refl q.names r.learnt;
  copied = q.copied;
  placed = q.placed;
  agrees = agrees;
  low = low_same version (past_at w) (past_at (handing d w)) q.channels r.low;
  told = q.told r.told;
}

-- ---- opens

-- an open is of an actor that holds no channel, on a channel that no copy holds
pub open_is_free : (layout : Layout) (version : Version) (bound : Bound) (names : List (ℕ × Learnt))
    (copies : List ActorCopy) (calls : List Handed) (w : Moment) (m : Message) (raw : Raw) (held : Bool)
    → IsComing layout version bound names copies calls w m raw held → raw.0.opens ≡ true
    → (copy_on (past_at w) m.channel ≡ None) × (kept_on copies m.channel ≡ None)
open_is_free layout version bound names copies calls w m raw held h o =
    let free = none (copy_on (past_at w) m.channel)
    (h.reads.agrees.holder m.channel ∙ h.same ∙ h.may.opens o) in (
      free,
      unkept (kept_on copies m.channel) (holder_known layout copies (past_at w) m.channel h.reads.copied.shows
          ∙ free),
    )
  where
    none : (o : Option ℕ) → is_some o ≡ false → o ≡ None
    none None e = refl
    none (Some n) e = absurd (cc)

    unkept : (o : Option ActorCopy) → option_map copy_actor o ≡ None → o ≡ None
    unkept None e = refl
    unkept (Some c) e = absurd (cc)

-- its actor holds none
pub actor_is_free : (past : Past) (ch actor : ℕ) → Agrees past → copy_on past ch ≡ None
    → is_elsewhere ch (copy_channel past actor) ≡ false → copy_channel past actor ≡ None
actor_is_free past ch actor agrees free here = by (copy_channel past actor) refl here
  where
    back : (b : Bool) → not b ≡ false → b ≡ true
    back true h = refl
    back false h = absurd (cc)

    by : (o : Option ℕ) → copy_channel past actor ≡ o → is_elsewhere ch o ≡ false → o ≡ None
    by None e h = refl
    by (Some other) e h =
        let on : copy_channel past actor ≡ Some ch =
        e ∙ ap (λ (n : ℕ). Some n) (eqb-true other ch (back (other == ch) h)) in
        let no : None ≡ Some actor = sym free ∙ holds_on past ch actor agrees.apart on in
        absurd (cc)

-- and nothing is bound to the channel
pub channel_is_free : (past : Past) (bound : Bound) (ch : ℕ) → Agrees past → IsPaired bound
    → ((a : ℕ) → channel_bound bound a ≡ copy_channel past a) → copy_on past ch ≡ None
    → actor_bound bound ch ≡ None
channel_is_free past bound ch agrees paired held free = by (actor_bound bound ch) refl
  where
    by : (o : Option ℕ) → actor_bound bound ch ≡ o → o ≡ None
    by None e = refl
    by (Some a) e =
        let no : None ≡ Some a =
        sym free ∙ holds_on past ch a agrees.apart (sym (held a) ∙ paired.back a ch e) in
        absurd (cc)

-- after an open
pub open_reads : (layout : Layout) (version : Version) (old bound : Bound)
    (names after : List (ℕ × Learnt)) (copies new : List ActorCopy) (calls : List Handed) (w : Moment)
    (m : Message) (raw : Raw) (held : Bool) (exports : List Segment) (o : ReadOpen)
    → IsComing layout version old names copies calls w m raw held
    → result_of layout version (past_at w) raw
    ≡ Ok (Some (delivery layout version (past_at w) raw (open_message layout exports o)))
    → StandNames after (fold names_with (names_of (past_at w)) exports)
    → ((a : ℕ) → channel_bound bound a ≡ cond (a == o.actor) (Some m.channel) (channel_bound old a))
    → IsPaired bound → Follow layout copies new (WasOpened layout m.channel o)
    → ArePlaced (length layout.classes) new
    → Reads layout version bound after new calls
    (handing (delivery layout version (past_at w) raw (open_message layout exports o)) w)
open_reads layout version old bound names after copies new calls w m raw held exports o h result learnt channels
    paired follows placed = record {
      held = λ a. channels a ∙ ap (λ (x : Option ℕ). cond (a == o.actor) (Some m.channel) x) (h.reads.held a)
          ∙ sym (later_channels a);
      paired = paired;
      learnt = subst (StandNames after) (sym (names_after (past_at w) later d refl)) learnt;
      copied = follows (past_at w) later h.reads.copied (record {
        exports = exports;
        handed = d;
        applied = refl;
        message = refl;
        channel = h.may.channel;
        same = tells.1;
      });
      placed = placed;
      agrees = on.agrees;
      low = low_opened version (past_at w) later o.actor m.channel later_channels h.fits h.reads.low;
      told = no_call_handed layout calls d w.handed refl h.reads.told;
    }
  where
    d : Delivered
    d = delivery layout version (past_at w) raw (open_message layout exports o)

    later : Past
    later = past_at (handing d w)

    was : WasRead layout version (past_at w) raw d
    was = was_read layout version (past_at w) raw d result

    same_message : was.message ≡ open_message layout exports o
    same_message = sym (ap (λ (x : Delivered). x.message) was.is)

    on : WasHandedOn layout version w raw held (open_message layout exports o)
    on = subst (WasHandedOn layout version w raw held) same_message
        (handed_on layout version old names copies calls w m raw held d h was)

    tells : (is_elsewhere raw.0.channel (copy_channel (past_at w) o.actor) ≡ false)
        × (is_other_class (class_at (table_in layout) o.class) (copy_class (past_at w) o.actor) ≡ false)
    tells = on.tells

    later_channels : (a : ℕ)
        → copy_channel later a ≡ cond (a == o.actor) (Some m.channel) (copy_channel (past_at w) a)
    later_channels a =
        opened_channels (past_at w) later d exports o.actor (class_at (table_in layout) o.class)
        (pair_values o.values) a refl refl
        ∙ ap (λ (n : ℕ). cond (a == o.actor) (Some n) (copy_channel (past_at w) a)) h.may.channel

-- what an open that was read tells of its actor
pub open_is_here : (layout : Layout) (version : Version) (bound : Bound) (names : List (ℕ × Learnt))
    (copies : List ActorCopy) (calls : List Handed) (w : Moment) (m : Message) (raw : Raw) (held : Bool)
    (exports : List Segment) (o : ReadOpen)
    → IsComing layout version bound names copies calls w m raw held
    → result_of layout version (past_at w) raw
    ≡ Ok (Some (delivery layout version (past_at w) raw (open_message layout exports o)))
    → is_elsewhere m.channel (copy_channel (past_at w) o.actor) ≡ false
open_is_here layout version bound names copies calls w m raw held exports o h result =
    ap (λ (ch : ℕ). is_elsewhere ch (copy_channel (past_at w) o.actor)) (sym h.may.channel) ∙ told.0
  where
    d : Delivered
    d = delivery layout version (past_at w) raw (open_message layout exports o)

    was : WasRead layout version (past_at w) raw d
    was = was_read layout version (past_at w) raw d result

    told : Tells (past_at w) raw.0 (open_message layout exports o)
    told = subst (Tells (past_at w) raw.0) (sym (ap (λ (x : Delivered). x.message) was.is))
        (payload_tells (table_in layout) (past_at w) raw.0 raw.1 was.message was.rest was.read)

-- ---- payloads that don't open

-- one was read, and handed on
pub unopened_on : (layout : Layout) (version : Version) (bound : Bound) (names : List (ℕ × Learnt))
    (copies : List ActorCopy) (calls : List Handed) (w : Moment) (m : Message) (raw : Raw) (held : Bool)
    (message : MessageSpec) → IsComing layout version bound names copies calls w m raw held
    → result_of layout version (past_at w) raw
    ≡ Ok (Some (delivery layout version (past_at w) raw message))
    → WasHandedOn layout version w raw held message
unopened_on layout version bound names copies calls w m raw held message h result =
    let d = delivery layout version (past_at w) raw message in
    let was = was_read layout version (past_at w) raw d result in
    subst (WasHandedOn layout version w raw held) (sym (ap (λ (x : Delivered). x.message) was.is))
    (handed_on layout version bound names copies calls w m raw held d h was)

-- the copy that holds the channel, where the past tells that there is one
pub holder_is : (layout : Layout) (copies : List ActorCopy) (past : Past) (ch : ℕ)
    → StandCopies layout copies past → is_some (copy_on past ch) ≡ true
    → (x : ActorCopy) × (kept_on copies ch ≡ Some x) × (copy_on past ch ≡ Some x.actor)
holder_is layout copies past ch stands some =
    by (kept_on copies ch) refl (holder_known layout copies past ch stands.shows)
  where
    by : (o : Option ActorCopy) → kept_on copies ch ≡ o → option_map copy_actor o ≡ copy_on past ch
        → (x : ActorCopy) × (kept_on copies ch ≡ Some x) × (copy_on past ch ≡ Some x.actor)
    by None e known = let no : false ≡ true = ap is_some known ∙ some in absurd (cc)
    by (Some x) e known = (x, e, sym known)

pub gone_reads : (layout : Layout) (version : Version) (bound : Bound) (names : List (ℕ × Learnt))
    (copies new : List ActorCopy) (calls : List Handed) (w : Moment) (m : Message) (raw : Raw)
    (held : Bool) (actor : ℕ) → IsComing layout version bound names copies calls w m raw held
    → result_of layout version (past_at w) raw
    ≡ Ok (Some (delivery layout version (past_at w) raw (Gone actor)))
    → Follow layout copies new (WasHanded (Gone actor))
    → ArePlaced (length layout.classes) new
    → Reads layout version bound names new calls
    (handing (delivery layout version (past_at w) raw (Gone actor)) w)
gone_reads layout version bound names copies new calls w m raw held actor h result follows placed =
    let d = delivery layout version (past_at w) raw (Gone actor) in
    let on = unopened_on layout version bound names copies calls w m raw held (Gone actor) h result in
    quiet_reads layout version bound names copies new calls calls w d h.reads on.agrees (record {
      channels = λ a. gone_channels (past_at w) (past_at (handing d w)) d actor a refl refl
          (asleep_channel (past_at w) actor on.tells);
      names = refl;
      copied = follows (past_at w) (past_at (handing d w)) h.reads.copied
          (record { handed = d; applied = refl; message = refl });
      placed = placed;
      told = λ told. no_call_handed layout calls d w.handed refl told;
    })

pub update_reads : (layout : Layout) (version : Version) (bound : Bound) (names : List (ℕ × Learnt))
    (copies new : List ActorCopy) (calls : List Handed) (w : Moment) (m : Message) (raw : Raw)
    (held : Bool) (values : List Pair) → IsComing layout version bound names copies calls w m raw held
    → result_of layout version (past_at w) raw
    ≡ Ok (Some (delivery layout version (past_at w) raw (update_payload layout copies m.channel values)))
    → ((x : ActorCopy) → kept_on copies m.channel ≡ Some x
    → Follow layout copies new (WasHanded (update_message layout x values)))
    → ArePlaced (length layout.classes) new
    → Reads layout version bound names new calls
    (handing (delivery layout version (past_at w) raw (update_payload layout copies m.channel values)) w)
update_reads layout version bound names copies new calls w m raw held values h result follows placed =
    let message = update_payload layout copies m.channel values in
    let d = delivery layout version (past_at w) raw message in
    let on = unopened_on layout version bound names copies calls w m raw held message h result in
    let x = holder_is layout copies (past_at w) m.channel h.reads.copied
    (ap (λ (ch : ℕ). is_some (copy_on (past_at w) ch)) (sym h.may.channel) ∙ on.tells) in
    quiet_reads layout version bound names copies new calls calls w d h.reads on.agrees (record {
      channels = λ a. updated_channels (past_at w) (past_at (handing d w)) d (holder_kept copies m.channel)
          (class_held layout copies m.channel) (pair_values values) a refl refl;
      names = refl;
      copied = follows x.0 x.1 (past_at w) (past_at (handing d w)) h.reads.copied
          (record { handed = d; applied = refl; message = named x.0 x.1 });
      placed = placed;
      told = λ told. no_call_handed layout calls d w.handed refl told;
    })
  where
    named : (x : ActorCopy) → kept_on copies m.channel ≡ Some x
        → update_payload layout copies m.channel values ≡ update_message layout x values
    named x e = rw e refl

pub call_reads : (layout : Layout) (version : Version) (bound : Bound) (names : List (ℕ × Learnt))
    (copies : List ActorCopy) (calls after : List Handed) (w : Moment) (m : Message) (raw : Raw)
    (held : Bool) (c : ReadPeerCall) (one : Handed)
    → IsComing layout version bound names copies calls w m raw held
    → result_of layout version (past_at w) raw
    ≡ Ok (Some (delivery layout version (past_at w) raw (call_payload layout c)))
    → after ≡ calls ++ one ∷ [] → one.actor ≡ c.actor → one.class ≡ c.class → one.call ≡ c.call.number
    → one.verdict ≡ client_verdict (is_on m.channel (channel_bound bound c.actor))
    → one.args ≡ c.call.args
    → Reads layout version bound names copies after
    (handing (delivery layout version (past_at w) raw (call_payload layout c)) w)
call_reads layout version bound names copies calls after w m raw held c one h result is a k n v g =
    let message = call_payload layout c in
    let d = delivery layout version (past_at w) raw message in
    let on = unopened_on layout version bound names copies calls w m raw held message h result in
    quiet_reads layout version bound names copies copies calls after w d h.reads on.agrees (record {
      channels = λ x. called_channels (past_at w) (past_at (handing d w)) d c.actor c.call.number _ _ x refl refl;
      names = refl;
      copied = call_follows layout copies c.actor c.call.number _ _ (past_at w) (past_at (handing d w))
          h.reads.copied (record { handed = d; applied = refl; message = refl });
      placed = h.reads.placed;
      told = λ told. subst (λ (x : List Handed). AreHanded layout x (d ∷ w.handed)) (sym is)
          (call_handed layout calls one d w.handed same told);
    })
  where
    held_now : is_on m.channel (channel_bound bound c.actor) ≡ is_on raw.0.channel (copy_channel (past_at w) c.actor)
    held_now =
        ap (is_on m.channel) (h.reads.held c.actor)
        ∙ ap (λ (ch : ℕ). is_on ch (copy_channel (past_at w) c.actor)) (sym h.may.channel)

    same : handover_in (λ actor held. client_verdict held)
        (delivery layout version (past_at w) raw (call_payload layout c)) ≡ Some (handover_of layout one)
    same = rw (a, k, n, v, g, held_now) refl

pub close_reads : (layout : Layout) (version : Version) (old bound : Bound) (names : List (ℕ × Learnt))
    (copies new : List ActorCopy) (calls : List Handed) (w : Moment) (m : Message) (raw : Raw)
    (held : Bool) → IsComing layout version old names copies calls w m raw held
    → result_of layout version (past_at w) raw ≡ Ok (Some (delivery layout version (past_at w) raw
    (Closes (holder_kept copies m.channel) m.sleeps)))
    → ((x : ActorCopy) → kept_on copies m.channel ≡ Some x
    → Follow layout copies new (WasHanded (Closes x.actor m.sleeps)))
    → ArePlaced (length layout.classes) new
    → ((a : ℕ) → channel_bound bound a ≡ other_than m.channel (channel_bound old a)) → IsPaired bound
    → Reads layout version bound names new calls (handing (delivery layout version (past_at w) raw
    (Closes (holder_kept copies m.channel) m.sleeps)) w)
close_reads layout version old bound names copies new calls w m raw held h result follows placed unbound
    paired = record {
      held = λ a. unbound a ∙ ap (other_than m.channel) (h.reads.held a) ∙ sym (later_channels a);
      paired = paired;
      learnt = names_stay names (past_at w) later d refl refl h.reads.learnt;
      copied = follows x.0 x.1 (past_at w) later h.reads.copied
          (record { handed = d; applied = refl; message = named });
      placed = placed;
      agrees = on.agrees;
      low = low_closed version (past_at w) later m.channel later_channels h.reads.low;
      told = no_call_handed layout calls d w.handed refl h.reads.told;
    }
  where
    message : MessageSpec
    message = Closes (holder_kept copies m.channel) m.sleeps

    d : Delivered
    d = delivery layout version (past_at w) raw message

    later : Past
    later = past_at (handing d w)

    on : WasHandedOn layout version w raw held message
    on = unopened_on layout version old names copies calls w m raw held message h result

    closes : raw.0.closes ≡ true
    closes = sym on.came.closes

    x : (x : ActorCopy) × (kept_on copies m.channel ≡ Some x) × (copy_on (past_at w) m.channel ≡ Some x.actor)
    x = holder_is layout copies (past_at w) m.channel h.reads.copied
        (h.reads.agrees.holder m.channel ∙ h.same ∙ h.may.closes closes)

    named : Closes (holder_kept copies m.channel) m.sleeps ≡ Closes x.0.actor m.sleeps
    named = ap (λ (o : Option ActorCopy). Closes (unwrap_or (option_map copy_actor o) 0) m.sleeps) x.1

    later_channels : (a : ℕ)
        → copy_channel later a ≡ other_than m.channel (copy_channel (past_at w) a)
    later_channels a =
        closed_channels (past_at w) later d x.0.actor m.channel m.sleeps a refl named
        (holder_on (past_at w) m.channel x.0.actor x.2) (h.reads.agrees.apart m.channel)
