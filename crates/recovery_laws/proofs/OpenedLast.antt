-- The open that a copy came of last, and its initial-only properties.
use Rattle.std.proofs.Common.{◌≡◌, inl, inr, ℕ, List, [], ◌∷◌, ◌++◌, Bool, true, false, cond, ◌==◌, refl, sym, ap, ◌∙◌, subst, Some, None, ℤ, append_assoc}
use Rattle.std.specs.Prelude.{slice_get}
use Rattle.std.specs.List.{AllByRecursion}
use Rattle.std.proofs.lemmas.Bool.{eq-eqb, and_from}
use Rattle.protocol_model.specs.Value.{Table, Segment, Class, Pair, value_among}
use Rattle.protocol_model.specs.World.{Edits, class_of, value_of}
use Rattle.protocol_model.specs.Sight.{Seen, seen_of}
use Rattle.protocol_model.specs.Payload.{Message, Opens}
use Rattle.connection_model.specs.Feed.{End, Event, Past, Made, Item, Delivered, sight_of}
use Rattle.connection_model.specs.Past.{past_of}
use Rattle.connection_model.specs.Carry.{value_in_update}
use Rattle.connection_model.specs.Items.{open_message}
use Rattle.connection_model.specs.Copies.{delivered_of, removes, value_applied, copy_channel, copy_value}
use Rattle.table_model.specs.Facts.{IsTable}
use Rattle.table_model.specs.Rules.{Entry}
use Rattle.table_model.specs.Grammar.{table_of}
use Rattle.connection_laws.specs.Run.{OpensSeen, HasPlace}
use Rattle.connection_laws.specs.Delivered.{on_index, Numbered}
use Rattle.connection_laws.proofs.Deeds.{each_at}
use Rattle.connection_laws.proofs.InTurn.{brackets_fit}
use Rattle.connection_laws.proofs.Items.{all_append, all_weaker}
use Rattle.connection_laws.proofs.PacketsSay.{IsIn, all_at, in_middle, in_right}
use Rattle.payload_laws.specs.Accepted.{AreAccepted}
use Rattle.headline_laws.specs.Sights.{sights_of, Seeing}
use Rattle.recovery_laws.specs.Faithful.{items_of, IsFaithfulTalk}
use Rattle.recovery_laws.specs.Initial.{IsInitial, LastOpen}
use Rattle.recovery_laws.proofs.LooseValues.{IsPlain, value_said, IsOneOf, items_plain, loose_say}
use Rattle.recovery_laws.proofs.NewestPayloads.{value_is, class_is, quiet_stays, removes_said}
use Rattle.recovery_laws.proofs.HandedTrail.{all_handed, all_first, among_from}
use Rattle.recovery_laws.proofs.MadeInPlace.{DeedPlaced, EachPlaced, each_placed, MadeIn, made_in}
use Rattle.recovery_laws.proofs.CarriedValues.{all_by_among, NoUpdate, reliables, says_one}
use Rattle.recovery_laws.proofs.MarksAfterOpen.{ChannelBy, channel_by, loosely_all, plainly_handed}
use Rattle.recovery_laws.proofs.SightsAgree.{SightOf, seen_at}
use Rattle.recovery_laws.proofs.SettledCopies.{run, fit, trails}
use Rattle.recovery_laws.proofs.InitialValues.{nothing_initial, entry_has, relevant_seen}

-- a message that was made on the index
record IsMadeOn (past : Past) (ch : ℕ) (m : Message) : Type 0 where
  made : Numbered
  among : IsIn made (on_index ch past)
  is : m ≡ made.1

-- an open that the sight shows
pub record ShownOpen (past : Past) (a : ℕ) (class : Class) (values : List Pair) : Type 0 where
  pub i : ℕ
  pub seen : Seen
  pub there : slice_get (sight_of past) i ≡ Some seen
  pub relevant : seen.relevant ≡ true
  pub actor : a ≡ seen.actor
  pub class_is : class ≡ seen.class
  pub values_are : values ≡ seen.values

-- an open shows its class and values
shown_open : (past : Past) (exports : List Segment) (a : ℕ) (class : Class) (values : List Pair) → OpensSeen past (Opens exports a class values) → ShownOpen past a class values
shown_open past exports a class values o = record {
  i = o.shown.0;
  seen = o.seen;
  there = o.shown.1;
  relevant = o.relevant;
  actor = actor_same o.seen o.says;
  class_is = class_same o.seen o.says;
  values_are = values_same o.seen o.says;
}
  where
    actor_same : (seen : Seen) → Opens exports a class values ≡ open_message past seen → a ≡ seen.actor
    actor_same seen e = cc

    class_same : (seen : Seen) → Opens exports a class values ≡ open_message past seen → class ≡ seen.class
    class_same seen e = cc

    values_same : (seen : Seen) → Opens exports a class values ≡ open_message past seen → values ≡ seen.values
    values_same seen e = cc

module _ (entries : List Entry) (is : IsTable entries) (left right : End) (l r : List Event) (player : ℕ) (edits : Edits) (segments : List Segment) (ok : AreAccepted (table_of entries) edits)
    (same : left.table ≡ table_of entries) (t : IsFaithfulTalk left right l r player edits segments) (a : ℕ) where
  seeing : Seeing (table_of entries) player edits (sights_of (past_of left l))
  seeing = subst (λ (x : Table). Seeing x player edits (sights_of (past_of left l))) same t.seeing

  pub shown_at : (newer older : Past) (ch n : ℕ) (exports : List Segment) (class : Class) (values : List Pair) → past_of left l ≡ newer ++ Made ch n (Opens exports a class values) 0 ∷ older → ShownOpen older a class values
  shown_at newer older ch n exports class values e =
      let placed : HasPlace left older ch (Opens exports a class values) =
      each_at (DeedPlaced left) newer (Made ch n (Opens exports a class values) 0) older (subst (EachPlaced left) e (each_placed left (past_of left l) (run left right l r player edits segments t))) refl in
      shown_open older exports a class values placed.4

  -- a copy with a channel came of such an open
  pub last_open : (ch : ℕ) → copy_channel (past_of right r) a ≡ Some ch → LastOpen (table_of entries) player edits (past_of left l) (past_of right r) a ch
  last_open ch at = by (channel_by a ch (delivered_of (past_of right r)) at)
    where
      made_on : (c : ChannelBy a ch (delivered_of (past_of right r))) → (b : Bool) → c.delivered.reliable ≡ b → IsMadeOn (past_of left l) ch c.delivered.message
      made_on c false q =
          absurd (subst IsPlain c.opens (all_at (λ (d : Delivered). d.reliable ≡ false → IsPlain d.message) c.delivered (delivered_of (past_of right r))
          (plainly_handed left (past_of left l) (fit left right l r player edits segments t) (past_of right r) t.faithful.loose)
          (subst (IsIn c.delivered) (sym c.split) (in_middle c.delivered c.after c.before)) q))
      made_on c true q =
          among_from (λ (d : Delivered). IsMadeOn (past_of left l) ch d.message) ch (delivered_of (past_of right r))
          (all_handed (IsMadeOn (past_of left l) ch) (past_of left l) (past_of right r) ch (trails left right l r player edits segments t ch)
          (all_by_among (λ (x : Numbered). IsMadeOn (past_of left l) ch x.1) (on_index ch (past_of left l)) (λ x h. record { made = x; among = h; is = refl })))
          c.delivered (subst (IsIn c.delivered) (sym c.split) (in_middle c.delivered c.after c.before))
          (and_from (c.delivered.channel == ch) c.delivered.reliable (eq-eqb c.delivered.channel ch c.channel) q)

      by : ChannelBy a ch (delivered_of (past_of right r)) → LastOpen (table_of entries) player edits (past_of left l) (past_of right r) a ch
      by c =
          let m : IsMadeOn (past_of left l) ch c.delivered.message = made_on c c.delivered.reliable refl in
          let there : MadeIn (past_of left l) ch m.made = made_in (past_of left l) ch m.made m.among in
          let made : past_of left l ≡ there.newer ++ Made ch m.made.0 (Opens c.exports a c.class c.values) 0 ∷ there.older =
          there.split ∙ ap (λ (x : Message). there.newer ++ Made ch m.made.0 x 0 ∷ there.older) (sym m.is ∙ c.opens) in
          let shown : ShownOpen there.older a c.class c.values = shown_at there.newer there.older ch m.made.0 c.exports c.class c.values made in
          let front : Past = there.newer ++ Made ch m.made.0 (Opens c.exports a c.class c.values) 0 ∷ [] in
          let see : Seeing (table_of entries) player edits (sights_of (front ++ there.older)) =
          subst (λ (p : Past). Seeing (table_of entries) player edits (sights_of p)) (made ∙ sym (append_assoc there.newer (Made ch m.made.0 (Opens c.exports a c.class c.values) 0 ∷ []) there.older)) seeing in
          let s : SightOf (table_of entries) player edits (sight_of there.older) = seen_at (table_of entries) player edits front there.older see shown.i shown.seen shown.there in
          record {
            after = c.after;
            delivered = c.delivered;
            before = c.before;
            split = c.split;
            quiet = c.quiet;
            number = m.made.0;
            exports = c.exports;
            class = c.class;
            values = c.values;
            opens = c.opens;
            newer = there.newer;
            older = there.older;
            made = made;
            more = s.more;
            world = s.before;
            earlier = s.earlier;
            grown = s.grown;
            seen = s.is;
          }

  -- and has the initial-only values of its world
  pub initial_value : (ch : ℕ) (o : LastOpen (table_of entries) player edits (past_of left l) (past_of right r) a ch) (h : ℕ) → IsInitial (class_of (table_of entries) edits a) h → copy_value (past_of right r) a h ≡ value_of (table_of entries) o.world a h
  initial_value ch o h initial =
      let v : ℤ = value_of (table_of entries) o.world a h in
      let shown : ShownOpen o.older a o.class o.values = shown_at o.newer o.older ch o.number o.exports o.class o.values o.made in
      let entry : shown.seen ≡ seen_of (table_of entries) o.world player a =
      relevant_seen (table_of entries) o.world player o.earlier shown.i shown.seen (ap (λ (ss : List Seen). slice_get ss shown.i) (sym o.seen) ∙ shown.there) shown.relevant ∙ ap (seen_of (table_of entries) o.world player) (sym shown.actor) in
      let class_known : o.class ≡ class_of (table_of entries) edits a =
      (t.faithful.follows.known a o.class (class_is (past_of right r) a o.after o.delivered o.before o.split o.quiet o.exports o.class o.values o.opens)).0 ∙ ap (λ (x : Table). class_of x edits a) same in
      let class_then : class_of (table_of entries) edits a ≡ class_of (table_of entries) o.world a = sym class_known ∙ shown.class_is ∙ ap (λ (s : Seen). s.class) entry in
      let has : value_among o.values h ≡ Some (value_of (table_of entries) o.world a h) =
      ap (λ (ps : List Pair). value_among ps h) (shown.values_are ∙ ap (λ (s : Seen). s.values) entry) ∙ entry_has (table_of entries) o.world player a h (subst (λ (c : Class). IsInitial c h) class_then initial) in
      let says : value_applied a h o.delivered ≡ Some (value_of (table_of entries) o.world a h) = ap (value_said a h) o.opens ∙ ap (λ (b : Bool). cond b (value_among o.values h) None) (eq-eqb a a refl) ∙ has in
      let loose : AllByRecursion (λ (d : Delivered). d.reliable ≡ false → IsOneOf v (value_said a h d.message)) (delivered_of (past_of right r)) =
      loosely_all (λ (m : Message). IsOneOf v (value_said a h m)) (past_of left l)
      (λ k. loose_say (IsOneOf v) a h (items_of (past_of left l) k) (items_plain left (past_of left l) (fit left right l r player edits segments t) k)
      (all_weaker (λ (item : Item). value_in_update a h item ≡ None) (λ (item : Item). IsOneOf v (value_in_update a h item)) (λ item e. inl e) (items_of (past_of left l) k)
      (nothing_initial entries is player edits ok left a h initial [] (past_of left l) (fit left right l r player edits segments t) seeing k)))
      (past_of right r) t.faithful.loose in
      let sure = reliables (past_of left l) (past_of right r) (brackets_fit left t.side (past_of left l) (run left right l r player edits segments t)) (trails left right l r player edits segments t) in
      value_is (past_of right r) a h v (o.after ++ o.delivered ∷ []) o.before (o.split ∙ sym (append_assoc o.after (o.delivered ∷ []) o.before))
      (all_append (λ (d : Delivered). removes a d ≡ false) o.after (o.delivered ∷ []) (quiet_stays a o.after o.quiet) (ap (removes_said a) o.opens, tt))
      (all_append (λ (d : Delivered). IsOneOf v (value_applied a h d)) o.after (o.delivered ∷ [])
      (says_one a h v o.after o.quiet
      (all_first (λ (x : Delivered). x.reliable ≡ true → NoUpdate x.message) o.after (o.delivered ∷ o.before) (subst (AllByRecursion (λ (x : Delivered). x.reliable ≡ true → NoUpdate x.message)) o.split sure))
      (all_first (λ (d : Delivered). d.reliable ≡ false → IsOneOf v (value_said a h d.message)) o.after (o.delivered ∷ o.before) (subst (AllByRecursion (λ (d : Delivered). d.reliable ≡ false → IsOneOf v (value_said a h d.message))) o.split loose)))
      (inr says, tt))
      o.delivered (in_right o.delivered o.after (o.delivered ∷ []) (inl refl)) says
