-- What is packed before the first turn: due bunches, and calls that wait.
use Rattle.std.proofs.Common.{◌≡◌, ◌∙◌, ℕ, zero, suc, ◌+◌, ◌==◌, List, [], ◌∷◌, ◌++◌, Bool, true, false, ◌&&◌, ap, sym, refl, subst, Option, Some, None, option_map}
use Rattle.std.specs.List.{AllByRecursion, cons_option, filter, filter_map, range_with_len}
use Rattle.std.proofs.lemmas.Bool.{and_parts, cond_both, eqb-true, false≢true}
use Rattle.std.proofs.lemmas.List.Sums.{fold-append}
use Rattle.protocol_model.specs.Packet.{Bunch}
use Rattle.protocol_model.specs.Payload.{Message, Opens, Closes, Updates, Calls, Gone, actor_of}
use Rattle.protocol_model.specs.Search.{newest_of}
use Rattle.protocol_model.specs.Side.{Side, AtServer}
use Rattle.protocol_model.specs.Sight.{Seen}
use Rattle.connection_model.specs.Feed.{End, Past, Item, Carries, Loose}
use Rattle.connection_model.specs.Fates.{last_sent, high_of}
use Rattle.connection_model.specs.Bunches.{channels_of, made_count, has_arrived, is_due}
use Rattle.connection_model.specs.CallAnswers.{call_channel, waiting_of}
use Rattle.connection_model.specs.Exports.{is_known}
use Rattle.connection_model.specs.Items.{made_as, carrying_item, due_on, due_items, loose_bunch, call_item, is_update_of}
use Rattle.connection_model.specs.Pack.{Packing, after_offer}
use Rattle.connection_model.specs.State.{index_of}
use Rattle.connection_laws.proofs.Items.{all_flat, all_weaker, due_unarrived, WaitsLoose}
use Rattle.packing_laws.specs.Beginning.{after_offers}
use Rattle.turn_laws.specs.Turns.{closed_up, before_turns}
use Rattle.turn_laws.proofs.Untouched.{offers_past}
use Rattle.link_end.specs.Link.{Link}
use Rattle.channel_table.specs.Channels.{Channels}
use Rattle.channel_table.specs.Holders.{Bound, channel_bound, IsPaired}
use Rattle.bunch_packing.specs.Both.{PacksBoth}
use Rattle.shadow_changes.specs.Samples.{Samples}
use Rattle.sender_steps.specs.Sender.{Sender}
use Rattle.sender_turns.specs.Ticking.{InTick, IsUnseen, IsUnserved}
use Rattle.sender_turns.proofs.Offered.{keeps_offers, unserved_offers}
use Rattle.actor_sender.specs.Serving.{first_packing}
use Rattle.actor_sender.proofs.Begins.{index_now}

-- ---- due bunches aren't seen

due_one : (past : Past) (ch n : ℕ) (rest : List Item) → is_due past ch n ≡ true → AllByRecursion (IsUnseen past) rest
    → AllByRecursion (IsUnseen past) (cons_option (carrying_item past ch n) rest)
due_one past ch n rest due all = by (newest_of (made_as ch n) past)
  where
    by : (o : Option Bunch) → AllByRecursion (IsUnseen past)
        (cons_option (option_map (λ (bunch : Bunch). Carries ch n bunch) o) rest)
    by None = all
    by (Some b) = (
      record {
        other = λ a. refl;
        awaited = λ c k e. (
            let same = and_parts (ch == c) (n == k) e in
            subst (λ (x : ℕ). has_arrived past x k ≡ false) (eqb-true ch c same.0)
            (subst (λ (x : ℕ). has_arrived past ch x ≡ false) (eqb-true n k same.1) (due_unarrived past ch n due)));
      },
      all,
    )

due_range : (past : Past) (ch from count : ℕ) → AllByRecursion (IsUnseen past)
    (filter_map (carrying_item past ch) (filter (is_due past ch) (range_with_len from count)))
due_range past ch from zero = tt
due_range past ch from (suc count) =
    cond_both (is_due past ch from) (from ∷ filter (is_due past ch) (range_with_len (from + 1) count))
    (filter (is_due past ch) (range_with_len (from + 1) count))
    (λ (ns : List ℕ). AllByRecursion (IsUnseen past) (filter_map (carrying_item past ch) ns))
    (λ e. due_one past ch from
    (filter_map (carrying_item past ch) (filter (is_due past ch) (range_with_len (from + 1) count))) e
    (due_range past ch (from + 1) count))
    (λ e. due_range past ch (from + 1) count)

pub due_unseen : (past : Past) → AllByRecursion (IsUnseen past) (due_items past)
due_unseen past =
    all_flat (IsUnseen past) (due_on past) (λ ch. due_range past ch 1 (made_count past ch)) (channels_of past)

-- ---- nor are calls

no_update : (before : Past) (m : Message) (b : Bunch) → WaitsLoose before m → (a : ℕ)
    → is_update_of a (Loose m b) ≡ false
no_update before (Opens exports c class values) b w a = refl
no_update before (Closes c sleeps) b w a = refl
no_update before (Gone c) b w a = refl
no_update before (Updates c class values) b w a = absurd w
no_update before (Calls c number call args) b w a = refl

pub calls_unseen : (side : Side) (before past : Past) (ms : List Message) → AllByRecursion (WaitsLoose before) ms
    → AllByRecursion (IsUnseen past) (filter_map (call_item side past) ms)
calls_unseen side before past [] h = tt
calls_unseen side before past (m ∷ ms) h =
    by (call_channel side past (actor_of m)) (calls_unseen side before past ms h.1)
  where
    by : (o : Option ℕ) → AllByRecursion (IsUnseen past) (filter_map (call_item side past) ms)
        → AllByRecursion (IsUnseen past) (cons_option (option_map (λ (ch : ℕ). Loose m (loose_bunch ch m)) o)
        (filter_map (call_item side past) ms))
    by None all = all
    by (Some ch) all = (
      record {
        other = λ a. no_update before m (loose_bunch ch m) h.0 a;
        awaited = λ c k e. absurd (false≢true e);
      },
      all,
    )

-- ---- after them

pub offered : (s : Sender) (l later : Link) (t told : Channels) (end : End) (before : Past) (p : Packing)
    (samples : Samples) (items : List Item) → InTick s l t end before p samples
    → AllByRecursion (IsUnseen p.past) items → PacksBoth later told end AtServer before (after_offers end p items)
    → told.bound ≡ t.bound → told.waiting ≡ t.waiting
    → InTick s later told end before (after_offers end p items) samples
offered s l later t told end before p samples items h unseen both bound waiting =
    let past : (after_offers end p items).past ≡ p.past = offers_past end items p in
    record {
      sender = keeps_offers end s samples p items h.both.link.high h.both.unarrived unseen h.sender;
      both = both;
      bound = record {
        index = λ a.
            ap (λ (b : Bound). channel_bound b a) bound ∙ h.bound.index a
            ∙ index_now l t end before p h.both a ∙ ap (λ (x : Past). index_of x a) (sym past)
            ∙ sym (index_now later told end before (after_offers end p items) both a);
        paired = subst IsPaired (sym bound) h.bound.paired;
      };
      known = λ g. ap (λ (x : Past). is_known x g) past ∙ h.known g;
      waiting = waiting ∙ h.waiting;
    }

pub others_in : (past : Past) (items : List Item) (a : ℕ) → AllByRecursion (IsUnseen past) items
    → AllByRecursion (λ item. is_update_of a item ≡ false) items
others_in past items a all =
    all_weaker (IsUnseen past) (λ item. is_update_of a item ≡ false) (λ item u. u.other a) items all

-- due bunches and calls are all that comes before the first turn
pub before_is : (end : End) (past : Past) (sight : List Seen) → end.side ≡ AtServer
    → after_offers end (after_offers end (first_packing end past sight) (due_items (closed_up past sight)))
    (filter_map (call_item AtServer (closed_up past sight)) (waiting_of past))
    ≡ before_turns end past sight
before_is end past sight side =
    let now : Past = closed_up past sight in
    sym (fold-append (after_offer end) (first_packing end past sight) (due_items now)
    (filter_map (call_item AtServer now) (waiting_of past)))
    ∙ ap (λ (x : Side). after_offers end (first_packing end past sight)
    (due_items now ++ filter_map (call_item x now) (waiting_of past))) (sym side)
