-- A client that follows its server hears whatever a packet of it says, and still follows it.
use Rattle.std.proofs.Common.{◌≡◌, inl, inr, ℕ, ◌<◌, ◌≤◌, ◌==◌, ◌&&◌, List, [], ◌∷◌, ◌++◌, map, reverse, Bool, true, false, cond, not, length, refl, sym, ap, ◌∙◌, subst, arith, Option, Some, None}
use Rattle.std.specs.Prelude.{is_some, is_none}
use Rattle.std.specs.List.{AllByRecursion, filter_map, cons_option}
use Rattle.std.specs.Bool.{then_some}
use Rattle.std.proofs.lemmas.Bool.{false≢true, cases_eq}
use Rattle.protocol_model.specs.declared.Cause.{Cause}
use Rattle.protocol_model.specs.declared.Cause.TheVariants.{BadChannel}
use Rattle.protocol_model.specs.Packet.{Bunch}
use Rattle.protocol_model.specs.Payload.{Message, Opens, Closes, Updates, Calls, Gone, parts_of, message_bits}
use Rattle.protocol_model.specs.Side.{Side, AtServer, AtClient}
use Rattle.protocol_model.specs.Value.{Class}
use Rattle.table_model.specs.Facts.{IsTable}
use Rattle.table_model.specs.Rules.{Entry, segments_of}
use Rattle.table_model.specs.Grammar.{table_of}
use Rattle.connection_model.specs.Feed.{End, Past, Took, Sent, Told, Acked, Heard, Delivered, Item, Owed, Carries, Loose, has_ended}
use Rattle.connection_model.specs.Feed as Feed
use Rattle.connection_model.specs.Fates.{top_of}
use Rattle.connection_model.specs.Bunches.{made_bunch, is_closing}
use Rattle.connection_model.specs.CallAnswers.{call_channel}
use Rattle.connection_model.specs.Copies.{copy_class, copy_on}
use Rattle.connection_model.specs.Items.{loose_bunch}
use Rattle.connection_model.specs.State.{Mark, is_opened, is_mark, state_of, index_of}
use Rattle.connection_model.specs.Windows.{Received, received_on, applied_of, kept_of, wholes_from, wholes_of}
use Rattle.connection_model.specs.Verdict.{is_misplaced, lacks_copy, delivery_of, bunches_result, bunch_heard, entry_result, ack_cause}
use Rattle.connection_laws.specs.Run.{Hears, Hands, HasLoosePlace, MaySend}
use Rattle.connection_laws.specs.Link.{Said, SaysHead, SaysItem, entry_said, said_by, IsNext, IsLink}
use Rattle.connection_laws.specs.Link.IsLink.{right_does}
use Rattle.connection_laws.specs.Deeds.{EachDeed}
use Rattle.connection_laws.specs.Delivered.{Numbered, messages_on, payload_of}
use Rattle.connection_laws.proofs.LinkLaws.{applies_there}
use Rattle.connection_laws.proofs.Deeds.{deeds_fit, each_at}
use Rattle.connection_laws.proofs.HandingOn.{entry_loose}
use Rattle.connection_laws.proofs.Items.{all_weaker}
use Rattle.connection_laws.proofs.LinkedEnds.{right_names, left_run}
use Rattle.connection_laws.proofs.PacketsSay.{IsIn, in_middle, all_at, carried_facts}
use Rattle.payload_laws.specs.Passing.{is_reliable, CallPasses, Passes}
use Rattle.payload_laws.proofs.First.{made_back, loose_back}
use Rattle.payload_laws.proofs.OthersPassing.{call_passes}
use Rattle.payload_laws.proofs.Updates.{update_most}
use Rattle.headline_laws.specs.Agree.{user_at}
use Rattle.headline_laws.specs.Fits.{PastFits}
use Rattle.headline_laws.specs.Follows.{HandsOnWhole, IsDone, Follows}
use Rattle.headline_laws.specs.Marks.{marks_of, without_newest}
use Rattle.headline_laws.specs.Tells.{MessageTells, ItemTells, DeedTells}
use Rattle.headline_laws.specs.Whole.{IsReceived}
use Rattle.headline_laws.proofs.CopiesGoOn.{holder_is_user}
use Rattle.headline_laws.proofs.BunchHandsOn.{Steps, CarriedHeard}
use Rattle.headline_laws.proofs.CarriedBunches.{dir_there, hears_carried, whole_after, whole_else}
use Rattle.headline_laws.proofs.ReceivedFirst.{whole_there}
use Rattle.headline_laws.proofs.Following.{follows_alike, alike_done}
use Rattle.headline_laws.proofs.PastGrows.{SaidAt, said_at}
use Rattle.headline_laws.proofs.HandedOn.{Handed1, handed_one, loose_follows, loose_done}
use Rattle.headline_laws.proofs.LooseMessages.{loose_handed, fits_back, waited_short}
use Rattle.headline_laws.proofs.NextPasses.{ServerFacts, Ready, can_hand, spawned_actor}
use Rattle.headline_laws.proofs.Placed.{placed_at_client, loose_above}
use Rattle.headline_laws.proofs.Reopened.{closes_received}
use Rattle.headline_laws.proofs.ServerSays.{known_limits}
use Rattle.headline_laws.proofs.LooseUsers.{received_low, loose_user}
use Rattle.payload_laws.specs.Limits.{HasLimits}
use Rattle.connection_model.specs.Carry.{due_pairs}

-- the message of a thing said, if it is unreliable
abbrev pub loose_said : Said → Option Message
loose_said (SaysHead head) = None
loose_said (SaysItem (Owed number)) = None
loose_said (SaysItem (Carries channel number bunch)) = None
loose_said (SaysItem (Loose message bunch)) = Some message

-- the messages of the unreliable payloads among these
abbrev pub loosely : List Delivered → List Message
loosely ds = filter_map (λ (d : Delivered). then_some (not d.reliable) d.message) ds

-- a client that is linked to its server follows it, and all that it received whole was handed on
pub record Follower (entries : List Entry) (classes : ℕ → Class) (left right : End) (l r : Past) : Type 0 where
  pub link : IsLink left right l r
  pub follows : Follows (segments_of entries) classes l r
  pub whole : HandsOnWhole l r follows.hands

-- what arrived was handed on
pub ready_of : (entries : List Entry) (classes : ℕ → Class) (left right : End) (l r : Past) → left.version ≡ right.version → (f : Follower entries classes left right l r) → Ready l r f.follows.hands
ready_of entries classes left right l r same f = record {
  closed = λ a. all_weaker (λ (mark : Mark). is_closing mark.message ≡ true → IsReceived l r mark.channel (mark.number, mark.message)) (λ (mark : Mark). is_closing mark.message ≡ true → IsDone l r f.follows.hands mark)
      (λ mark h q. received_low left l r (left_run left right l r f.link) f.follows.hands f.whole mark.channel (mark.number, mark.message) (h q)) (without_newest (marks_of l a)) (closes_received left right l r same f.link a);
  exported = λ guid e. record {
    channel = e.channel;
    made = e.made;
    exports = e.exports;
    at = e.at;
    done = received_low left l r (left_run left right l r f.link) f.follows.hands f.whole e.channel e.made (whole_there left right l r same f.link e.channel e.made e.at e.arrived);
  };
}

module _ (entries : List Entry) (is : IsTable entries) (classes : ℕ → Class) (left right : End) (same : left.version ≡ right.version) (client : right.side ≡ AtClient) (table : right.table ≡ table_of entries)
    (l : Past) (facts : ServerFacts entries classes left l) (fits : PastFits left l) (few : (ch : ℕ) → AllByRecursion (λ (made : Numbered). parts_of made.1 ≤ 10) (messages_on l ch))
    (k : ℕ) (past : Past) (alive : has_ended past ≡ false) (fresh : top_of past < k) where
  abbrev Keeps : List Feed.Entry → List Delivered → Type 0
  Keeps es ds = Follower entries classes left right l (Took k es ds ∷ past)

  -- what is heard of one thing that a packet says
  pub record HeardOne (es : List Feed.Entry) (ds : List Delivered) (s : Said) : Type 0 where
    pub news : List Delivered
    pub ok : entry_result right (Took k es ds ∷ past) (entry_said s) ≡ record { past = Took k es news ∷ past; cause = None }
    pub keeps : Follower entries classes left right l (Took k (entry_said s ∷ es) news ∷ past)
    pub loose : loosely news ≡ cons_option (loose_said s) (loosely ds)

  module _ (es : List Feed.Entry) (s : Said) (before after : List Said) (said : said_by left.version l k ≡ before ++ s ∷ after) (told : es ≡ reverse (map entry_said before)) where
    next : (ds : List Delivered) → IsNext right.version l (Took k es ds ∷ past) (entry_said s)
    next ds = subst (λ v. IsNext v l (Took k es ds ∷ past) (entry_said s)) same (before, s, after, said, told, refl)

    among : IsIn s (said_by left.version l k)
    among = subst (IsIn s) (sym said) (in_middle s before after)

    names : (ds : List Delivered) → IsLink left right l (Took k es ds ∷ past) → ack_cause (Took k es ds ∷ past) (entry_said s) ≡ None
    names ds link = right_names left right l k es ds past (entry_said s) same link (before, s, after, said, told, refl)

    hears : (ds : List Delivered) → IsLink left right l (Took k es ds ∷ past) → IsLink left right l (Took k (entry_said s ∷ es) ds ∷ past)
    hears ds link = right_does (Hears (entry_said s)) link alive (names ds link) (next ds)

    -- once it is heard
    told_keeps : (ds : List Delivered) → IsLink left right l (Took k es ds ∷ past) → (f : Follows (segments_of entries) classes l (Took k es ds ∷ past))
        → ((c : ℕ) → wholes_of (Took k (entry_said s ∷ es) ds ∷ past) c ≡ map (payload_of c) (f.hands c).done) → Follower entries classes left right l (Took k (entry_said s ∷ es) ds ∷ past)
    told_keeps ds link f whole = record {
      link = hears ds link;
      follows = follows_alike (segments_of entries) classes l (Took k es ds ∷ past) (Took k (entry_said s ∷ es) ds ∷ past) refl f;
      whole = λ c. whole c ∙ ap (map (payload_of c)) (sym (alike_done (segments_of entries) classes l (Took k es ds ∷ past) (Took k (entry_said s ∷ es) ds ∷ past) refl f c));
    }

  -- ---- an acknowledgement

  told_one : (es : List Feed.Entry) (ds : List Delivered) (s : Said) (before after : List Said) (said : said_by left.version l k ≡ before ++ s ∷ after) (told : es ≡ reverse (map entry_said before)) → Keeps es ds
      → loose_said s ≡ None → entry_result right (Took k es ds ∷ past) (entry_said s) ≡ record { past = Took k es ds ∷ past; cause = ack_cause (Took k es ds ∷ past) (entry_said s) }
      → ((c : ℕ) → wholes_of (Took k (entry_said s ∷ es) ds ∷ past) c ≡ wholes_of (Took k es ds ∷ past) c) → HeardOne es ds s
  told_one es ds s before after said told f q e w = record {
    news = ds;
    ok = e ∙ ap (λ (o : Option Cause). record { past = Took k es ds ∷ past; cause = o }) (names es s before after said told ds f.link);
    keeps = told_keeps es s before after said told ds f.link f.follows (λ c. w c ∙ f.whole c);
    loose = ap (λ (o : Option Message). cons_option o (loosely ds)) (sym q);
  }

  -- ---- a reliable bunch

  record Mid (es : List Feed.Entry) (ch : ℕ) (base : ℕ → List Numbered) (from : List Delivered) (ds : List Delivered) : Type 0 where
    link : IsLink left right l (Took k es ds ∷ past)
    follows : Follows (segments_of entries) classes l (Took k es ds ∷ past)
    ready : Ready l (Took k es ds ∷ past) follows.hands
    others : (c : ℕ) → (ch ≡ c → ⊥) → (follows.hands c).done ≡ base c
    loose : loosely ds ≡ loosely from

  abbrev mid_done : (es : List Feed.Entry) (ch : ℕ) (base : ℕ → List Numbered) (from : List Delivered) (ds : List Delivered) → Mid es ch base from ds → List Numbered
  mid_done es ch base from ds m = (m.follows.hands ch).done

  mid_steps : (es : List Feed.Entry) (ch : ℕ) (base : ℕ → List Numbered) (from : List Delivered) (ds : List Delivered) (m : Mid es ch base from ds) (made : Numbered) (later : List Numbered) → messages_on l ch ≡ (m.follows.hands ch).done ++ made ∷ later
      → Steps right k es past ch (messages_on l ch) (few ch) (Mid es ch base from) (mid_done es ch base from) ds m made
  mid_steps es ch base from ds m made later split =
      let can = can_hand entries is classes left right l (Took k es ds ∷ past) facts m.follows m.ready client table ch made (record { later = later; split = split }) in
      let d : Delivered = delivery_of right (Took k es ds ∷ past) (made_bunch ch made.0 made.1 0) made.1 in
      let h : Handed1 entries classes l (Took k es ds ∷ past) (Took k es (d ∷ ds) ∷ past) ch made m.follows.hands =
      handed_one entries is classes left right l (Took k es ds ∷ past) (Took k es (d ∷ ds) ∷ past) facts m.follows m.ready ch made (record { later = later; split = split }) can d refl refl refl refl in
      record {
        lacks = ap (λ (x : Side). lacks_copy x (Took k es ds ∷ past) [] (made_bunch ch made.0 made.1 0)) client ∙ can.there;
        read = made_back right (Took k es ds ∷ past) ch made.0 made.1 can.reliable can.place can.passes;
        next = record { link = right_does (Hands d) m.link alive tt tt; follows = h.follows; ready = h.ready; others = λ c ne. h.others c ne ∙ m.others c ne; loose = m.loose };
        more = h.here;
      }

  carries_one : (es : List Feed.Entry) (ds : List Delivered) (ch n : ℕ) (b : Bunch) (before after : List Said) → said_by left.version l k ≡ before ++ SaysItem (Carries ch n b) ∷ after → es ≡ reverse (map entry_said before) → Keeps es ds → HeardOne es ds (SaysItem (Carries ch n b))
  carries_one es ds ch n b before after said told f =
      let s : Said = SaysItem (Carries ch n b) in
      let here : IsIn (SaysItem (Carries ch n b)) (said_by left.version l k) = among es (SaysItem (Carries ch n b)) before after said told in
      let base : ℕ → List Numbered = λ c. (f.follows.hands c).done in
      let start : Mid es ch (λ c. (f.follows.hands c).done) ds ds = record { link = f.link; follows = f.follows; ready = ready_of entries classes left right l (Took k es ds ∷ past) same f; others = λ c ne. refl; loose = refl } in
      let placed : is_misplaced right.side b ≡ false = ap (λ (x : Side). is_misplaced x b) client ∙ (placed_at_client left l facts.side facts.run).made ch n b (carried_facts left left.version l (deeds_fit left l facts.run) ch n k b here).made in
      let dir = dir_there left right l (Took k es ds ∷ past) same f.link in
      let after_told = applies_there left right l (Took k (Heard b ∷ es) ds ∷ past) same (hears es (SaysItem (Carries ch n b)) before after said told ds f.link) in
      let c : CarriedHeard right k es past ch (messages_on l ch) (few ch) (Mid es ch (λ c. (f.follows.hands c).done) ds) (mid_done es ch (λ c. (f.follows.hands c).done) ds) (mid_steps es ch (λ c. (f.follows.hands c).done) ds) ds b =
      hears_carried left.version left right l k es past fresh ch n b here (few ch) placed (Mid es ch (λ c. (f.follows.hands c).done) ds) (mid_done es ch (λ c. (f.follows.hands c).done) ds) (mid_steps es ch (λ c. (f.follows.hands c).done) ds) ds start dir after_told (f.whole ch)
      ((f.follows.hands ch).later, (f.follows.hands ch).split) in
      record {
        news = c.news;
        ok = c.ok;
        keeps = told_keeps es (SaysItem (Carries ch n b)) before after said told c.news c.state.link c.state.follows (λ x. elim (cases_eq ch x) [
          | inl e ↦ subst (λ (y : ℕ). wholes_of (Took k (Heard b ∷ es) c.news ∷ past) y ≡ map (payload_of y) (c.state.follows.hands y).done) e
              (whole_after left.version left right l k es past fresh ch n b here (few ch) placed (Mid es ch (λ c. (f.follows.hands c).done) ds) (mid_done es ch (λ c. (f.follows.hands c).done) ds) (mid_steps es ch (λ c. (f.follows.hands c).done) ds) ds start dir after_told (f.whole ch)
              ((f.follows.hands ch).later, (f.follows.hands ch).split) c.news c.state c.whole)
          | inr ne ↦ whole_else left.version left right l k es past fresh ch n b here (few ch) placed (Mid es ch (λ c. (f.follows.hands c).done) ds) (mid_done es ch (λ c. (f.follows.hands c).done) ds) (mid_steps es ch (λ c. (f.follows.hands c).done) ds) ds start dir after_told (f.whole ch)
              ((f.follows.hands ch).later, (f.follows.hands ch).split) c.news x ne ∙ f.whole x ∙ ap (map (payload_of x)) (sym (c.state.others x ne))
        ]);
        loose = c.state.loose;
      }

  -- ---- an unreliable one

  -- what is known of its message
  record LooseFacts (es : List Feed.Entry) (ds : List Delivered) (ch : ℕ) (m : Message) : Type 0 where
    passes : Passes right (Took k es ds ∷ past) ch m
    holder : is_none (copy_on (Took k es ds ∷ past) ch) ≡ false
    reliable : is_reliable m ≡ false
    short : length (message_bits m) ≤ 7000
    plain : is_mark m ≡ false
    above : (ch == 0) ≡ false

  loose_one : (es : List Feed.Entry) (ds : List Delivered) (m : Message) (b : Bunch) (before after : List Said) → said_by left.version l k ≡ before ++ SaysItem (Loose m b) ∷ after → es ≡ reverse (map entry_said before) → Keeps es ds → HeardOne es ds (SaysItem (Loose m b))
  loose_one es ds m b before after said told f = by m refl p.2 tells
    where
      now : Past
      now = Took k es ds ∷ past

      at : SaidAt left l k (Loose m b)
      at = said_at left.version left l facts.run k (Loose m b) (among es (SaysItem (Loose m b)) before after said told)

      p : (ch : ℕ) × (b ≡ loose_bunch ch m) × HasLoosePlace left at.before ch m
      p = all_at (MaySend left at.before) (Loose m b) at.items at.at.may.each at.among

      tells : MessageTells entries classes AtServer m
      tells = all_at (ItemTells entries classes AtServer) (Loose m b) at.items (each_at (DeedTells entries classes AtServer) at.later (Sent k at.t at.items) at.before (subst (EachDeed (DeedTells entries classes AtServer)) at.is facts.tells)) at.among

      older : PastFits left at.before
      older = (fits_back left at.later (Sent k at.t at.items ∷ at.before) (subst (PastFits left) at.is fits)).1

      user : (a : ℕ) → is_opened (state_of at.before a) ≡ true → index_of at.before a ≡ Some p.0 → user_at (Took k es ds ∷ past) p.0 ≡ Some a
      user a o i = loose_user left right l k es ds past facts.side same f.link fresh f.follows.hands f.whole (Loose m b) at a p.0 o i

      held : (a : ℕ) → user_at (Took k es ds ∷ past) p.0 ≡ Some a → copy_on (Took k es ds ∷ past) p.0 ≡ Some a
      held a u = holder_is_user (Took k es ds ∷ past) f.follows.agree p.0 ∙ u

      class : (a : ℕ) → user_at (Took k es ds ∷ past) p.0 ≡ Some a → copy_class (Took k es ds ∷ past) a ≡ Some (classes a)
      class a u = known (copy_class (Took k es ds ∷ past) a) refl (f.follows.agree.holds p.0 a u).0
        where
          known : (o : Option Class) → copy_class (Took k es ds ∷ past) a ≡ o → is_some o ≡ true → copy_class (Took k es ds ∷ past) a ≡ Some (classes a)
          known None e h = absurd (false≢true h)
          known (Some c) e h = e ∙ ap (λ (x : Class). Some x) (f.follows.known a c e).0

      none : (a : ℕ) → copy_on (Took k es ds ∷ past) p.0 ≡ Some a → is_none (copy_on (Took k es ds ∷ past) p.0) ≡ false
      none a e = ap (λ (o : Option ℕ). is_none o) e

      above : HasLoosePlace left at.before p.0 m → (p.0 == 0) ≡ false
      above h = loose_above left at.before p.0 m facts.side at.at.run h

      done : LooseFacts es ds p.0 m → HeardOne es ds (SaysItem (Loose m b))
      done g =
          let ch : ℕ = p.0 in
          let d : Delivered = delivery_of right (Took k es ds ∷ past) (loose_bunch p.0 m) m in
          let lacks : lacks_copy right.side (Took k es ds ∷ past) (kept_of (applied_of (received_on (Took k es ds ∷ past) p.0))) (loose_bunch p.0 m) ≡ false =
          ap (λ (x : Side). lacks_copy x (Took k es ds ∷ past) (kept_of (applied_of (received_on (Took k es ds ∷ past) p.0))) (loose_bunch p.0 m)) client ∙ lacks_by (p.0 == 0) (is_none (copy_on (Took k es ds ∷ past) p.0)) g.holder in
          let placed : is_misplaced right.side (loose_bunch p.0 m) ≡ false = ap (λ (x : Side). is_misplaced x (loose_bunch p.0 m)) client ∙ (placed_at_client left at.before facts.side at.at.run).loose p.0 m p.2 in
          let heard : bunch_heard right (Took k es ds ∷ past) (loose_bunch p.0 m) ≡ record { past = Took k es (d ∷ ds) ∷ past; cause = None } =
          ap (λ (t : Bool). cond t (record { past = Took k es ds ∷ past; cause = Some (BadChannel p.0) }) (bunches_result right (Took k es ds ∷ past) (kept_of (applied_of (received_on (Took k es ds ∷ past) p.0))) (loose_bunch p.0 m ∷ []))) placed
          ∙ loose_handed right (Took k es ds ∷ past) (kept_of (applied_of (received_on (Took k es ds ∷ past) p.0))) p.0 m lacks g.short (loose_back right (Took k es ds ∷ past) p.0 m g.reliable g.above g.passes) in
          let link : IsLink left right l (Took k es (d ∷ ds) ∷ past) = right_does (Hands d) f.link alive tt tt in
          record {
            news = d ∷ ds;
            ok = ap (bunch_heard right (Took k es ds ∷ past)) p.1 ∙ heard;
            keeps = told_keeps es (SaysItem (Loose m b)) before after said told (d ∷ ds) link (loose_follows (segments_of entries) classes l (Took k es ds ∷ past) (Took k es (d ∷ ds) ∷ past) f.follows d refl refl g.plain)
                (λ c. ap (λ (got : List Received). wholes_from [] (applied_of got)) (entry_loose (received_on (Took k es ds ∷ past) c) c b (ap (λ (x : Bunch). x.reliable) p.1)) ∙ f.whole c
                ∙ ap (map (payload_of c)) (sym (loose_done (segments_of entries) classes l (Took k es ds ∷ past) (Took k es (d ∷ ds) ∷ past) f.follows d refl refl g.plain c)));
            loose = refl;
          }
        where
          lacks_by : (x y : Bool) → y ≡ false → (not x && (y && true)) ≡ false
          lacks_by true y e = refl
          lacks_by false false e = refl
          lacks_by false true e = absurd (false≢true (sym e))

      by : (w : Message) → m ≡ w → HasLoosePlace left at.before p.0 m → MessageTells entries classes AtServer m → HeardOne es ds (SaysItem (Loose m b))
      by (Opens exports a c values) e h t = absurd (subst (HasLoosePlace left at.before p.0) e h)
      by (Closes a sleeps) e h t = absurd (subst (HasLoosePlace left at.before p.0) e h)
      by (Gone a) e h t = absurd (subst (HasLoosePlace left at.before p.0) e h)
      by (Updates a c values) e h t =
          let place = subst (HasLoosePlace left at.before p.0) e h in
          let say = subst (MessageTells entries classes AtServer) e t in
          let u = user a place.0 place.1 in
          let limits = known_limits entries is (classes a) say.0.known.stands in
          done (record {
            passes = subst (Passes right (Took k es ds ∷ past) p.0) (sym e) (
              client,
              record {
                holds = held a u;
                known = class a u ∙ ap (λ (x : Class). Some x) (sym say.0.same);
                limits = subst HasLimits (sym say.0.same) limits;
                some = say.1;
                all_fit = say.0.all_fit;
              },
            );
            holder = none a (held a u);
            reliable = ap is_reliable e;
            short = subst (λ (w : Message). length (message_bits w) ≤ 7000) (sym (e ∙ place.2.says)) (omega (arith, update_most place.2.seen (due_pairs place.2.at place.2.seen)));
            plain = ap is_mark e;
            above = above h;
          })
      by (Calls a n call args) e h t =
          let place = subst (HasLoosePlace left at.before p.0) e h in
          let say = subst (MessageTells entries classes AtServer) e t in
          let o = opened_by a (subst (λ (x : Side). call_channel x at.before a ≡ Some p.0) facts.side place.1) in
          let u = user a o.0 o.1 in
          done (record {
            passes = subst (Passes right (Took k es ds ∷ past) p.0) (sym e) (subst (λ (x : Side). CallPasses x (Took k es ds ∷ past) a n call args) (sym client)
                (call_passes AtServer (Took k es ds ∷ past) a n call args (classes a) (known_limits entries is (classes a) say.known.stands) (spawned_actor a say.known.spawned) say.fits (class a u)));
            holder = none a (held a u);
            reliable = ap is_reliable e ∙ place.0;
            short = subst (λ (w : Message). length (message_bits w) ≤ 7000) (sym e) (waited_short left at.before (Calls a n call args) older place.2.0 place.2.1 place.2.2);
            plain = ap is_mark e;
            above = above h;
          })
        where
          opened_by : (a : ℕ) → call_channel AtServer at.before a ≡ Some p.0 → (is_opened (state_of at.before a) ≡ true) × (index_of at.before a ≡ Some p.0)
          opened_by a q = cases (is_opened (state_of at.before a)) refl q
            where
              cases : (x : Bool) → is_opened (state_of at.before a) ≡ x → cond x (index_of at.before a) None ≡ Some p.0 → (is_opened (state_of at.before a) ≡ true) × (index_of at.before a ≡ Some p.0)
              cases true e q = (e, q)
              cases false e q = absurd (let no : (let o : Option ℕ = None in o) ≡ Some p.0 = q in cc)

  -- ---- whatever it says

  pub hears_one : (es : List Feed.Entry) (ds : List Delivered) (s : Said) (before after : List Said) → said_by left.version l k ≡ before ++ s ∷ after → es ≡ reverse (map entry_said before) → Keeps es ds → HeardOne es ds s
  hears_one es ds (SaysHead head) before after said told f = told_one es ds (SaysHead head) before after said told f refl refl (λ c. refl)
  hears_one es ds (SaysItem (Owed n)) before after said told f = told_one es ds (SaysItem (Owed n)) before after said told f refl refl (λ c. refl)
  hears_one es ds (SaysItem (Carries ch n b)) before after said told f = carries_one es ds ch n b before after said told f
  hears_one es ds (SaysItem (Loose m b)) before after said told f = loose_one es ds m b before after said told f
