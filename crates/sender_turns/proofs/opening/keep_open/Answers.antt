use Rattle.std.proofs.Common.{inr, ◌∙◌, ◌≤◌, ◌==◌, ◌||◌, ◌++◌, ◌∷◌, [], ℕ, List, Bool, false, length, slice_index_or, ap, sym, subst}
use Rattle.protocol_model.specs.Payload.{Message, Opens}
use Rattle.protocol_model.specs.Search.{is_among}
use Rattle.connection_model.specs.Bunches.{after_making}
use Rattle.connection_laws.specs.Run.{Ascends}
use Rattle.shadow_changes.specs.Samples.{samples_of}
use Rattle.sender_laws.proofs.Makes.{ticks_sent}
use Rattle.sender_records.specs.declared.actor.ActorRecord.{ActorRecord}
use Rattle.sender_records.specs.Actors.{KeepsActor}
use Rattle.sender_records.specs.Handles.{pairs_of}
use Rattle.sender_steps.specs.declared.sent.OpenSent.{OpenSent}
use Rattle.sender_turns.specs.Opening.{with_open}
use Rattle.sender_steps.specs.Sender.{record_in}
use Rattle.sender_steps.specs.Stands.{Keeps}
use Rattle.sender_turns.proofs.Entering.{Enters, keeps_entered, bound_opened, none_bound}
use Rattle.sender_turns.proofs.opening.keep_open.Goals as goal

pub returns-clause-keeps : goal.returns-clause-keeps
returns-clause-keeps c = λ s sent past samples exports shown told may rs ps ls ks os.
    let a : ℕ = c.args.seen.now.actor in
    let o : OpenSent = c.args.made in
    let m : Message = Opens exports a shown (pairs_of c.args.seen.now.values) in
    let enters : Enters s sent past samples a m o c.open_in.new.records.entries c.insert_live.new.live.items
    c.note_open.new.known.items c.note_open.new.opens.items = record {
      others = λ b ne. c.in_ok-open_in.ensures.others b ne
          ∙ ap (λ (r : List (ℕ × ActorRecord)). record_in r b) (sym rs);
      own = c.in_ok-open_in.ensures.keeps sent past samples exports shown
          (subst (λ (r : List (ℕ × ActorRecord)). KeepsActor (sent ++ past) (samples_of samples a) a (record_in r a)) rs
          (told.sender.each a))
          (subst (λ (r : List (ℕ × ActorRecord)). 1 ≤ (record_in r a).service.relevant_at) rs told.relevant) may;
      state = c.in_ok-open_in.ensures.state;
      unsent = λ h. c.in_ok-open_in.ensures.unsent (sent ++ past) (samples_of samples a)
          (may.now ∙ sym (ap length (ticks_sent sent past may.sends))) may.sampled may.turn h;
      among = λ b. c.in_ok-insert_live.ensures.among b
          ∙ ap (λ (ns : List ℕ). (a == b) || is_among b ns) (sym ls);
      ascends = c.in_ok-insert_live.ensures.ascends told.actor_is (subst (Ascends 0) ls told.sender.ascends);
      places = c.in_ok-note_open.ensures.places;
      longer = subst (λ (xs : List Bool). length xs ≤ length c.note_open.new.known.items) (sym ks)
          c.in_ok-note_open.ensures.longer;
      known_is = λ g. c.in_ok-note_open.ensures.known g
          ∙ ap (λ (xs : List Bool). slice_index_or xs g false) (sym ks);
      opens_are = c.in_ok-note_open.ensures.opens ∙ ap (λ (xs : List OpenSent). with_open xs o) (sym os);
    } in
    subst (λ (ns : List ℕ). Keeps (record s {
      records = c.open_in.new.records.entries;
      pending = ns;
      live = c.insert_live.new.live.items;
      known = c.note_open.new.known.items;
      opens = c.note_open.new.opens.items;
    }) (sent ++ after_making past o.channel m) samples)
    (sym (c.in_ok-push.ensures.items ∙ ap (λ (ns : List ℕ). ns ++ a ∷ []) (sym ps)))
    (keeps_entered s sent past samples a c.args.tick exports shown (pairs_of c.args.seen.now.values)
    c.args.seen.now.values c.args.sampled o told may c.open_in.new.records.entries c.insert_live.new.live.items
    c.note_open.new.known.items c.note_open.new.opens.items enters)

pub bind-requires-clause-channel_free : goal.bind-requires-clause-channel_free
bind-requires-clause-channel_free c =
    inr (none_bound c.args.table.now.bound c.requires.stands.0 c.args.made.channel c.requires.stands.1
    c.requires.stands.2)

pub bind-requires-clause-actor_free : goal.bind-requires-clause-actor_free
bind-requires-clause-actor_free c = inr (c.requires.stands.1.index c.args.seen.now.actor ∙ c.requires.stands.3)

pub returns-clause-bound : goal.returns-clause-bound
returns-clause-bound c = λ sent past exports shown bound sends.
    bound_opened sent past c.args.seen.now.actor c.args.made.channel exports shown
    (pairs_of c.args.seen.now.values) sends c.args.table.now.bound c.bind.new.self.bound bound
    c.in_ok-bind.ensures.channels c.in_ok-bind.ensures.pairs

pub returns-clause-others : goal.returns-clause-others
returns-clause-others c = λ a ne. c.in_ok-open_in.ensures.others a ne

pub returns-clause-places : goal.returns-clause-places
returns-clause-places c = c.in_ok-note_open.ensures.known
