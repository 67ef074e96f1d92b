-- The last mark of an actor that is opened, and the copy that a client has of it.
use Rattle.std.proofs.Common.{◌≡◌, inl, inr, ℕ, ◌<◌, List, [], ◌∷◌, ◌++◌, length, Bool, true, false, cond, ◌==◌, ◌&&◌, refl, sym, ap, ◌∙◌, subst, arith, Option, Some, None, append_assoc}
use Rattle.std.specs.Prelude.{unwrap_or}
use Rattle.std.specs.List.{filter_map, cons_option, slice_get, AllByRecursion}
use Rattle.std.specs.Bool.{then_some}
use Rattle.std.proofs.lemmas.Bool.{false≢true, cases_lt, eq-eqb, eqb-true, and_parts, and_from}
use Rattle.std.proofs.lemmas.List.{length-append}
use Rattle.protocol_model.specs.Value.{Segment, Class, Pair}
use Rattle.protocol_model.specs.Payload.{Message, Opens, Closes, Updates, Calls, Gone, actor_of}
use Rattle.protocol_model.specs.Search.{newest_of, items_since}
use Rattle.connection_model.specs.Feed.{End, Past, Deed, Ticked, Made, Waits, Sent, Took, Ended, Delivered}
use Rattle.connection_model.specs.State.{Mark, is_mark, mark_in, last_mark, state_at, state_after, is_opened}
use Rattle.connection_model.specs.Copies.{delivered_of, removes, class_opened, channel_said, copy_channel}
use Rattle.connection_laws.specs.Deeds.{DeedsFit}
use Rattle.connection_laws.specs.Delivered.{on_index, Numbered}
use Rattle.connection_laws.proofs.PacketsSay.{IsIn, in_left, in_right, all_at}
use Rattle.connection_laws.proofs.Items.{all_append}
use Rattle.headline_laws.proofs.WholeMessages.{longer}
use Rattle.recovery_laws.specs.Faithful.{items_of, loose_of, AppliesLoose}
use Rattle.recovery_laws.proofs.FoundOpens.{begins_open, OpenedAt}
use Rattle.recovery_laws.proofs.LooseValues.{IsPlain, items_plain, loose_plain, handed_all}
use Rattle.recovery_laws.specs.Initial.{IsQuietOf}
use Rattle.recovery_laws.proofs.NewestPayloads.{opens_said}
use Rattle.recovery_laws.proofs.HandedInOrder.{unopened}
use Rattle.recovery_laws.proofs.HandedTrail.{is_from, from_index, Trail, later_handed, all_first, among_from}

-- ---- at the server

-- the last mark is the open
pub record OpenLast (past : Past) (a : ℕ) : Type 0 where
  pub made : OpenedAt past a
  pub last : last_mark past a ≡ Some (record { channel = made.channel; number = made.number; message = Opens made.exports a made.class made.values })
  pub unmarked : AllByRecursion (λ (d : Deed). mark_in a d ≡ None) made.newer

open_behind : (past : Past) (a : ℕ) (deed : Deed) → mark_in a deed ≡ None → begins_open a deed ≡ false → OpenLast past a → OpenLast (deed ∷ past) a
open_behind past a deed m b o = record {
  made = record {
    channel = o.made.channel;
    number = o.made.number;
    exports = o.made.exports;
    class = o.made.class;
    values = o.made.values;
    newer = deed ∷ o.made.newer;
    older = o.made.older;
    split = ap (λ (l : Past). deed ∷ l) o.made.split;
    none = (b, o.made.none);
  };
  last = ap (λ (x : Option Mark). slice_get (cons_option x (filter_map (mark_in a) past)) 0) m ∙ o.last;
  unmarked = (m, o.unmarked);
}

-- where an actor is opened, its last mark is an open
pub open_last : (whole past : Past) (a : ℕ) → is_opened (state_at whole (last_mark past a)) ≡ true → OpenLast past a
open_last whole [] a h = absurd (false≢true h)
open_last whole (Ticked t s ∷ past) a h = open_behind past a (Ticked t s) refl refl (open_last whole past a h)
open_last whole (Waits m ∷ past) a h = open_behind past a (Waits m) refl refl (open_last whole past a h)
open_last whole (Sent n t items ∷ past) a h = open_behind past a (Sent n t items) refl refl (open_last whole past a h)
open_last whole (Took n es ds ∷ past) a h = open_behind past a (Took n es ds) refl refl (open_last whole past a h)
open_last whole (Ended g ∷ past) a h = open_behind past a (Ended g) refl refl (open_last whole past a h)
open_last whole (Made c n m i ∷ past) a h = by ((actor_of m == a) && is_mark m && (i == 0)) refl h (λ q. open_last whole past a q)
  where
    begun : (m : Message) (t : Bool) → ((actor_of m == a) && is_mark m && (i == 0)) ≡ false → begins_open a (Made c n m i) ≡ false
    begun (Opens es b k vs) t e = first (b == a) (i == 0) e
      where
        first : (x y : Bool) → ((x && true) && y) ≡ false → (x && y) ≡ false
        first true y e = e
        first false y e = refl
    begun (Closes b s) t e = refl
    begun (Updates b k vs) t e = refl
    begun (Calls b x k vs) t e = refl
    begun (Gone b) t e = refl

    here : (m : Message) → ((actor_of m == a) && is_mark m && (i == 0)) ≡ true → is_opened (state_after whole (record { channel = c; number = n; message = m }) m) ≡ true → OpenLast (Made c n m i ∷ past) a
    here (Opens es b k vs) t q =
        let p = and_parts ((b == a) && true) (i == 0) t in
        let actor : b ≡ a = eqb-true b a (and_parts (b == a) true p.0).0 in
        let part : i ≡ 0 = eqb-true i 0 p.1 in
        subst (λ (x : ℕ). OpenLast (Made c n (Opens es b k vs) x ∷ past) a) (sym part)
        (subst (λ (x : ℕ). OpenLast (Made c n (Opens es x k vs) 0 ∷ past) a) (sym actor)
        (record {
          made = record { channel = c; number = n; exports = es; class = k; values = vs; newer = []; older = past; split = refl; none = tt };
          last = ap (λ (x : Bool). slice_get (cons_option (then_some ((x && true) && true) (let mark : Mark = record { channel = c; number = n; message = Opens es a k vs } in mark)) (filter_map (mark_in a) past)) 0) (eq-eqb a a refl);
          unmarked = tt;
        }))
    here (Closes b s) t q = absurd (false≢true (sym (unopened whole (record { channel = c; number = n; message = Closes b s }) (Closes b s) (λ es x k vs e. cc)) ∙ q))
    here (Updates b k vs) t q = absurd (false≢true q)
    here (Calls b x k vs) t q = absurd (false≢true q)
    here (Gone b) t q = absurd (false≢true q)

    by : (t : Bool) → ((actor_of m == a) && is_mark m && (i == 0)) ≡ t
        → is_opened (state_at whole (slice_get (cons_option (then_some t (let mark : Mark = record { channel = c; number = n; message = m } in mark)) (filter_map (mark_in a) past)) 0)) ≡ true
        → (is_opened (state_at whole (last_mark past a)) ≡ true → OpenLast past a) → OpenLast (Made c n m i ∷ past) a
    by false t q ih = open_behind past a (Made c n m i) (ap (λ (x : Bool). then_some x (let mark : Mark = record { channel = c; number = n; message = m } in mark)) t) (begun m false t) (ih q)
    by true t q ih = here m t q

-- no open of the actor was made on the index after the last one
index_free : (a ch : ℕ) (past : Past) → AllByRecursion (λ (d : Deed). begins_open a d ≡ false) past → AllByRecursion (λ (x : Numbered). opens_said a x.1 ≡ None) (on_index ch past)
index_free a ch [] h = tt
index_free a ch (Ticked t s ∷ past) h = index_free a ch past h.1
index_free a ch (Waits m ∷ past) h = index_free a ch past h.1
index_free a ch (Sent n t items ∷ past) h = index_free a ch past h.1
index_free a ch (Took n es ds ∷ past) h = index_free a ch past h.1
index_free a ch (Ended g ∷ past) h = index_free a ch past h.1
index_free a ch (Made c n m i ∷ past) h = by ((c == ch) && (i == 0)) refl (index_free a ch past h.1)
  where
    says : (m : Message) → begins_open a (Made c n m i) ≡ false → (i == 0) ≡ true → opens_said a m ≡ None
    says (Opens es b k vs) e z = ap (λ (t : Bool). then_some t k) (first (b == a) (i == 0) e z)
      where
        first : (x y : Bool) → (x && y) ≡ false → y ≡ true → x ≡ false
        first true y e z = absurd (false≢true (sym e ∙ z))
        first false y e z = refl
    says (Closes b s) e z = refl
    says (Updates b k vs) e z = refl
    says (Calls b x k vs) e z = refl
    says (Gone b) e z = refl

    by : (t : Bool) → ((c == ch) && (i == 0)) ≡ t → AllByRecursion (λ (x : Numbered). opens_said a x.1 ≡ None) (on_index ch past)
        → AllByRecursion (λ (x : Numbered). opens_said a x.1 ≡ None) (cons_option (then_some t (let x : Numbered = (n, m) in x)) (on_index ch past))
    by false t ih = ih
    by true t ih = (says m h.0 (and_parts (c == ch) (i == 0) t).1, ih)

-- ---- at the client

-- what holds of each unreliable message sent holds of each that was handed on
pub loosely_all : (Q : Message → Type 0) (server : Past) → ((k : ℕ) → AllByRecursion Q (loose_of server k)) → (client : Past) → AppliesLoose server client → AllByRecursion (λ (d : Delivered). d.reliable ≡ false → Q d.message) (delivered_of client)
loosely_all Q server all [] loose = tt
loosely_all Q server all (Ticked t s ∷ past) loose = loosely_all Q server all past loose.1
loosely_all Q server all (Made c n m i ∷ past) loose = loosely_all Q server all past loose.1
loosely_all Q server all (Waits m ∷ past) loose = loosely_all Q server all past loose.1
loosely_all Q server all (Sent n t items ∷ past) loose = loosely_all Q server all past loose.1
loosely_all Q server all (Ended g ∷ past) loose = loosely_all Q server all past loose.1
loosely_all Q server all (Took k es ds ∷ past) loose =
    all_append (λ (d : Delivered). d.reliable ≡ false → Q d.message) ds (delivered_of past) (handed_all Q ds (loose_of server k) loose.0 (all k)) (loosely_all Q server all past loose.1)

-- what is unreliable is plain
pub plainly_handed : (end : End) (server : Past) → DeedsFit end server → (client : Past) → AppliesLoose server client → AllByRecursion (λ (d : Delivered). d.reliable ≡ false → IsPlain d.message) (delivered_of client)
plainly_handed end server fit client loose = loosely_all IsPlain server (λ k. loose_plain (items_of server k) (items_plain end server fit k)) client loose

-- the open that gave the copy its channel, with neither an open nor a removal after it
pub record ChannelBy (a ch : ℕ) (ds : List Delivered) : Type 0 where
  pub after : List Delivered
  pub delivered : Delivered
  pub before : List Delivered
  pub split : ds ≡ after ++ delivered ∷ before
  pub quiet : AllByRecursion (IsQuietOf a) after
  pub exports : List Segment
  pub class : Class
  pub values : List Pair
  pub opens : delivered.message ≡ Opens exports a class values
  pub channel : delivered.channel ≡ ch

-- what a message says of the channel
abbrev channel_of : (a channel : ℕ) → Message → Option (Option ℕ)
channel_of a channel m = elim m [
  | Opens exports actor class values ↦ then_some (actor == a) (Some channel)
  | Closes actor sleeps ↦ then_some (actor == a) None
  | _ ↦ None
]

-- the channel of a copy comes of the payload that opened it last
pub channel_by : (a ch : ℕ) (ds : List Delivered) → unwrap_or (newest_of (channel_said a) (items_since (removes a) ds)) None ≡ Some ch → ChannelBy a ch ds
channel_by a ch [] e = absurd (let never : (let o : Option ℕ = None in o) ≡ Some ch = e in cc)
channel_by a ch (d ∷ ds) e = by (removes a d) refl e (λ q. channel_by a ch ds q)
  where
    more : List (Option ℕ)
    more = filter_map (channel_said a) (items_since (removes a) ds)

    later : removes a d ≡ false → class_opened a d ≡ None → ChannelBy a ch ds → ChannelBy a ch (d ∷ ds)
    later r c h = record {
      after = d ∷ h.after;
      delivered = h.delivered;
      before = h.before;
      split = ap (λ (l : List Delivered). d ∷ l) h.split;
      quiet = ((r, c), h.quiet);
      exports = h.exports;
      class = h.class;
      values = h.values;
      opens = h.opens;
      channel = h.channel;
    }

    none_some : (let o : Option ℕ = None in o) ≡ Some ch → ⊥
    none_some q = cc

    some_is : (x y : ℕ) → (let o : Option ℕ = Some x in o) ≡ Some y → x ≡ y
    some_is x y q = cc

    said : (m : Message) → d.message ≡ m → removes a d ≡ false → unwrap_or (slice_get (cons_option (channel_of a d.channel m) (filter_map (channel_said a) (items_since (removes a) ds))) 0) None ≡ Some ch
        → (unwrap_or (newest_of (channel_said a) (items_since (removes a) ds)) None ≡ Some ch → ChannelBy a ch ds) → ChannelBy a ch (d ∷ ds)
    said (Opens es b k vs) s r e ih = opened (b == a) refl e
      where
        opened : (t : Bool) → (b == a) ≡ t → unwrap_or (slice_get (cons_option (then_some t (let o : Option ℕ = Some d.channel in o)) (filter_map (channel_said a) (items_since (removes a) ds))) 0) None ≡ Some ch → ChannelBy a ch (d ∷ ds)
        opened true t e = record {
          after = [];
          delivered = d;
          before = ds;
          split = refl;
          quiet = tt;
          exports = es;
          class = k;
          values = vs;
          opens = s ∙ ap (λ (x : ℕ). Opens es x k vs) (eqb-true b a t);
          channel = some_is d.channel ch e;
        }
        opened false t e = later r (ap (opens_said a) s ∙ ap (λ (x : Bool). then_some x k) t) (ih e)
    said (Closes b sleeps) s r e ih = closed (b == a) e
      where
        closed : (t : Bool) → unwrap_or (slice_get (cons_option (then_some t (let o : Option ℕ = None in o)) (filter_map (channel_said a) (items_since (removes a) ds))) 0) None ≡ Some ch → ChannelBy a ch (d ∷ ds)
        closed true e = absurd (none_some e)
        closed false e = later r (ap (opens_said a) s) (ih e)
    said (Updates b k vs) s r e ih = later r (ap (opens_said a) s) (ih e)
    said (Calls b x k vs) s r e ih = later r (ap (opens_said a) s) (ih e)
    said (Gone b) s r e ih = later r (ap (opens_said a) s) (ih e)

    by : (t : Bool) → removes a d ≡ t → unwrap_or (newest_of (channel_said a) (cond t [] (d ∷ items_since (removes a) ds))) None ≡ Some ch
        → (unwrap_or (newest_of (channel_said a) (items_since (removes a) ds)) None ≡ Some ch → ChannelBy a ch ds) → ChannelBy a ch (d ∷ ds)
    by true r e ih = absurd (none_some e)
    by false r e ih = said d.message refl r e ih

-- where the copy has the channel on which the actor was last opened, nothing came after that open
pub nothing_fresh : (end : End) (server client : Past) → DeedsFit end server → AppliesLoose server client → (a : ℕ) (o : OpenedAt server a) → Trail server client o.channel
    → on_index o.channel server ≡ on_index o.channel o.newer ++ (o.number, Opens o.exports a o.class o.values) ∷ on_index o.channel o.older → copy_channel client a ≡ Some o.channel
    → (newer older : List Delivered) → delivered_of client ≡ newer ++ older → length (on_index o.channel o.older) < length (from_index o.channel older) → AllByRecursion (IsQuietOf a) newer
nothing_fresh end server client fit loose a o t index at newer older e few =
    let c : ChannelBy a o.channel (delivered_of client) = channel_by a o.channel (delivered_of client) at in
    elim (cases_lt (length c.after) (length newer)) [
      | inr ge ↦ (let l = longer c.after (c.delivered ∷ c.before) newer older (sym c.split ∙ e) ge in all_first (IsQuietOf a) newer l.0 (subst (AllByRecursion (IsQuietOf a)) l.1 c.quiet))
      | inl lt ↦ absurd (against c (longer newer older c.after (c.delivered ∷ c.before) (sym e ∙ c.split) (omega (arith, lt))) lt)
    ]
  where
    free : AllByRecursion (λ (d : Delivered). opens_said a d.message ≡ None) (from_index o.channel newer)
    free = later_handed (λ (m : Message). opens_said a m ≡ None) server client o.channel t (on_index o.channel o.newer) (o.number, Opens o.exports a o.class o.values) (on_index o.channel o.older) index
        (index_free a o.channel o.newer o.none) newer older e few

    inside : (c : ChannelBy a o.channel (delivered_of client)) (more : List Delivered) → newer ≡ c.after ++ more → length c.after < length newer → IsIn c.delivered newer
    inside c [] q lt = absurd (omega (arith, lt, ap length q, length-append c.after (let nil : List Delivered = [] in nil)))
    inside c (d ∷ more) q lt =
        let whole : c.after ++ c.delivered ∷ c.before ≡ c.after ++ d ∷ (more ++ older) = sym c.split ∙ e ∙ ap (λ (l : List Delivered). l ++ older) q ∙ append_assoc c.after (d ∷ more) older in
        subst (IsIn c.delivered) (sym q) (in_right c.delivered c.after (d ∷ more) (inl (sym (head c.after whole))))
      where
        head : (xs : List Delivered) → xs ++ c.delivered ∷ c.before ≡ xs ++ d ∷ (more ++ older) → c.delivered ≡ d
        head [] q = cc
        head (x ∷ xs) q = head xs (let r : xs ++ c.delivered ∷ c.before ≡ xs ++ d ∷ (more ++ older) = cc in r)

    against : (c : ChannelBy a o.channel (delivered_of client)) → (more : List Delivered) × (newer ≡ c.after ++ more) → length c.after < length newer → ⊥
    against c m lt =
        let there : IsIn c.delivered newer = inside c m.0 m.1 lt in
        let plain : c.delivered.reliable ≡ false → IsPlain c.delivered.message =
        all_at (λ (d : Delivered). d.reliable ≡ false → IsPlain d.message) c.delivered (delivered_of client) (plainly_handed end server fit client loose) (subst (IsIn c.delivered) (sym e) (in_left c.delivered newer older there)) in
        reliably c there c.delivered.reliable refl plain
      where
        reliably : (c : ChannelBy a o.channel (delivered_of client)) → IsIn c.delivered newer → (t : Bool) → c.delivered.reliable ≡ t → (c.delivered.reliable ≡ false → IsPlain c.delivered.message) → ⊥
        reliably c there false r plain = absurd (subst IsPlain c.opens (plain r))
        reliably c there true r plain =
            let on : is_from o.channel c.delivered ≡ true = and_from (c.delivered.channel == o.channel) c.delivered.reliable (eq-eqb c.delivered.channel o.channel c.channel) r in
            let none : opens_said a c.delivered.message ≡ None = among_from (λ (d : Delivered). opens_said a d.message ≡ None) o.channel newer free c.delivered there on in
            let some : opens_said a c.delivered.message ≡ Some c.class = ap (opens_said a) c.opens ∙ ap (λ (t : Bool). then_some t c.class) (eq-eqb a a refl) in
            absurd (let no_class : Some c.class ≡ None = sym some ∙ none in cc)
