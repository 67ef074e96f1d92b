-- One turn after the other.
use Rattle.std.proofs.Common.{◌≡◌, ◌≢◌, ◌⊎◌, ◌∙◌, inl, inr, ℕ, zero, suc, ◌+◌, ◌*◌, ◌<◌, ◌≤◌, ◌==◌, List, [], ◌∷◌, ◌++◌, map, take, drop, length, Bool, true, false, not, cond, ap, sym, refl, subst, arith, Option, Some, None}
use Rattle.std.specs.List.{fold, slice_get, AllByRecursion}
use Rattle.std.proofs.lemmas.Bool.{cond_both, false≢true, ne_eqb}
use Rattle.std.proofs.lemmas.List.Sums.{fold-append}
use Rattle.protocol_model.specs.Limits.{part_limit}
use Rattle.protocol_model.specs.Sight.{Seen}
use Rattle.protocol_model.specs.Value.{Pair}
use Rattle.connection_model.specs.Carry.{due_pairs}
use Rattle.connection_model.specs.Exports.{needed_segments}
use Rattle.connection_model.specs.Feed.{End, Past, Item}
use Rattle.connection_model.specs.Bunches.{after_making}
use Rattle.connection_model.specs.Items.{is_update_of, loose_item, update_message, update_pairs, wants_open, open_message}
use Rattle.connection_model.specs.Pack.{Packing, after_open, after_update}
use Rattle.connection_model.specs.State.{index_of, free_index, is_opened, state_of}
use Rattle.class_layout.specs.Tables.{Layout}
use Rattle.link_end.specs.Link.{Link}
use Rattle.channel_table.specs.Channels.{Channels}
use Rattle.shadow_changes.specs.Samples.{Shadows, Samples, samples_of, Keeps as KeepsChanges}
use Rattle.sender_records.specs.declared.actor.ActorRecord.{ActorRecord}
use Rattle.turn_laws.specs.Turns.{after_turn, after_turns}
use Rattle.turn_laws.proofs.Stepping.{full_stays}
use Rattle.turn_laws.proofs.Untouched.{Untouched, untouched_self, other_opens, wants_stays, open_past, update_past}
use Rattle.sender_steps.specs.declared.sight.Seen.{Seen as SeenValue}
use Rattle.sender_steps.specs.Sender.{Sender, record_at}
use Rattle.sender_steps.specs.Sights.{seen_value}
use Rattle.sender_turns.specs.declared.turns.Turn.{Turn}
use Rattle.sender_turns.specs.Ticking.{InTick, IsUnserved}
use Rattle.sender_turns.specs.Turning.{IsCompared, turn_entry}
use Rattle.sender_turns.proofs.Offered.{unserved_offers, unserved_open}
use Rattle.actor_sender.specs.Serving.{InTurns, IsNext, IsServable, IsServed}
use Rattle.actor_sender.proofs.Ready.{entry_at}

-- ---- a turn leaves other actors

others_untouched : (end : End) (now : Past) (p : Packing) (seen : Seen) (b : ℕ) → (seen.actor ≡ b → ⊥)
    → Untouched p.past (after_turn end now p seen).past b
others_untouched end now p seen b ne =
    cond_both p.full p (cond (wants_open now seen) opened updated) (λ (q : Packing). Untouched p.past q.past b)
    (λ e. untouched_self p.past b)
    (λ e. cond_both (wants_open now seen) opened updated (λ (q : Packing). Untouched p.past q.past b)
    (λ r. by (open_past end p (free_index p.past) (open_message p.past seen)))
    (λ r. subst (λ (l : Past). Untouched p.past l b)
    (sym (update_past end p seen (index_of now seen.actor) (due_pairs now seen))) (untouched_self p.past b)))
  where
    opened : Packing
    opened = after_open end p (free_index p.past) (open_message p.past seen)

    updated : Packing
    updated = after_update end p seen (index_of now seen.actor) (due_pairs now seen)

    by : (opened.past ≡ p.past) ⊎ (opened.past ≡ after_making p.past (free_index p.past) (open_message p.past seen))
        → Untouched p.past opened.past b
    by (inl e) = subst (λ (l : Past). Untouched p.past l b) (sym e) (untouched_self p.past b)
    by (inr e) = subst (λ (l : Past). Untouched p.past l b) (sym e)
        (other_opens p.past (free_index p.past) seen (needed_segments p.past seen.class) b ne)

others_unserved : (end : End) (now : Past) (p : Packing) (seen : Seen) (b : ℕ) → (seen.actor ≡ b → ⊥)
    → IsUnserved b p.packets → IsUnserved b (after_turn end now p seen).packets
others_unserved end now p seen b ne none =
    cond_both p.full p (cond (wants_open now seen) opened updated) (λ (q : Packing). IsUnserved b q.packets)
    (λ e. none)
    (λ e. cond_both (wants_open now seen) opened updated (λ (q : Packing). IsUnserved b q.packets)
    (λ r. unserved_open end p (free_index p.past) (open_message p.past seen) b none)
    (λ r. by (index_of now seen.actor) (due_pairs now seen)))
  where
    opened : Packing
    opened = after_open end p (free_index p.past) (open_message p.past seen)

    updated : Packing
    updated = after_update end p seen (index_of now seen.actor) (due_pairs now seen)

    by : (o : Option ℕ) (due : List Pair) → IsUnserved b (after_update end p seen o due).packets
    by None due = none
    by (Some ch) [] = none
    by (Some ch) (pair ∷ due) =
        unserved_offers end p (loose_item (update_message seen (update_pairs seen (pair ∷ due))) ch ∷ []) b
        (ne_eqb seen.actor b ne, tt) none

-- an actor that is left can be served as before
still_servable : (layout : Layout) (end : End) (now : Past) (p : Packing) (samples : Samples) (s later : Sender)
    (opens : Bool) (e x : SeenValue) → (e.actor ≡ x.actor → ⊥)
    → record_at later x.actor ≡ record_at s x.actor
    → IsServable layout now p samples s opens x
    → IsServable layout now (after_turn end now p (seen_value layout e)) samples later opens x
still_servable layout end now p samples s later opens e x ne same h =
    let u = others_untouched end now p (seen_value layout e) x.actor ne in
    record {
      has = h.has;
      opens_is = h.opens_is;
      wants = wants_stays p.past (after_turn end now p (seen_value layout e)).past (seen_value layout x) u ∙ h.wants;
      index = u.index ∙ h.index;
      unserved = others_unserved end now p (seen_value layout e) x.actor ne h.unserved;
      shown = subst (λ (r : ActorRecord). 1 ≤ r.service.relevant_at) (sym same) h.shown;
      compared = λ opened. subst (λ (r : ActorRecord). IsCompared layout now (samples_of samples x.actor) x r.handles)
          (sym same) (h.compared opened);
      entry = h.entry;
    }

-- ---- all so far

taken_more : {A B : Type 0} (f : A → B) (xs : List A) (i : ℕ) (x : A) → slice_get xs i ≡ Some x
    → map f (take (i + 1) xs) ≡ map f (take i xs) ++ f x ∷ []
taken_more {A} f [] i x at = absurd (let no : (let o : Option A = None in o) ≡ Some x = at in cc)
taken_more {A} f (y ∷ xs) zero x at = (let same : y ≡ x = cc in ap (λ (z : A). f z ∷ []) same)
taken_more {A} {B} f (y ∷ xs) (suc i) x at =
    let up : suc i + 1 ≡ suc (i + 1) = omega arith in
    rw up (ap (λ (zs : List B). f y ∷ zs) (taken_more f xs i x at))

split_at : {A B : Type 0} (f : A → B) (xs : List A) (i : ℕ) → map f xs ≡ map f (take i xs) ++ map f (drop i xs)
split_at f [] zero = refl
split_at f [] (suc i) = refl
split_at f (x ∷ xs) zero = refl
split_at {A} {B} f (x ∷ xs) (suc i) = ap (λ (zs : List B). f x ∷ zs) (split_at f xs i)

-- what the first so many turns packed
abbrev pub so_far : Layout → List SeenValue → List Turn → End → (now : Past) → Packing → ℕ → Packing
so_far layout sight turns end now p i = after_turns end now p (map (turn_entry layout sight) (take i turns))

-- these were served, and the others are left
pub record LeftFrom (layout : Layout) (sight : List SeenValue) (turns : List Turn) (i : ℕ) (s : Sender) (l : Link)
    (t : Channels) (end : End) (before now : Past) (q : Packing) (samples : Samples) : Type 0 where
  pub stands : InTick s l t end before q samples
  pub is_ready : q.full ≡ false
  pub each : (j : ℕ) (turn : Turn) → i ≤ j → slice_get turns j ≡ Some turn
      → IsNext layout sight now q samples s turn

pub record ServedSoFar (layout : Layout) (changes : Shadows) (sight : List SeenValue) (turns : List Turn) (i : ℕ)
    (s0 : Sender) (l0 : Link) (t0 : Channels) (s : Sender) (l : Link) (t : Channels) : Type 0 where
  pub stands : (end : End) (before now : Past) (p : Packing) (samples : Samples)
      → InTurns layout changes sight s0 l0 t0 end before now p samples turns
      → LeftFrom layout sight turns i s l t end before now (so_far layout sight turns end now p i) samples
  pub made : t.made.count ≤ t0.made.count + part_limit * i

pub none_served : (layout : Layout) (changes : Shadows) (sight : List SeenValue) (turns : List Turn) (s : Sender)
    (l : Link) (t : Channels) → ServedSoFar layout changes sight turns 0 s l t s l t
none_served layout changes sight turns s l t = record {
  stands = λ end before now p samples h. record {
    stands = h.stands;
    is_ready = h.is_ready;
    each = λ j turn le at. h.next.each j turn at;
  };
  made = omega arith;
}

module _ (layout : Layout) (changes : Shadows) (sight : List SeenValue) (turns : List Turn) (i : ℕ)
    (s0 : Sender) (l0 : Link) (t0 : Channels) (s : Sender) (l : Link) (t : Channels)
    (so : ServedSoFar layout changes sight turns i s0 l0 t0 s l t) (turn : Turn)
    (at : slice_get turns i ≡ Some turn) where
  module _ (end : End) (before now : Past) (p : Packing) (samples : Samples)
      (h : InTurns layout changes sight s0 l0 t0 end before now p samples turns) where
    abbrev q : Packing
    q = so_far layout sight turns end now p i

    left : LeftFrom layout sight turns i s l t end before now q samples
    left = so.stands end before now p samples h

    next : IsNext layout sight now q samples s turn
    next = left.each i turn (omega arith) at

    pub there : slice_get sight turn.place ≡ None → ⊥
    there none = no (sym none ∙ next.place)
      where
        no : (let o : Option SeenValue = None in o) ≡ Some next.entry → ⊥
        no e = cc

    pub served : (e : SeenValue) → slice_get sight turn.place ≡ Some e
        → IsServed layout changes e turn.opens s l t end before now q samples
    served e e_at =
        let same : next.entry ≡ e = (let r : Some next.entry ≡ Some e = sym next.place ∙ e_at in cc) in
        record {
          stands = left.stands;
          is_ready = left.is_ready;
          noted = h.noted;
          turn = subst (λ (x : SeenValue). IsServable layout now q samples s turn.opens x) same next.may;
        }

    pub one_more : (e : SeenValue) → slice_get sight turn.place ≡ Some e
        → so_far layout sight turns end now p (i + 1) ≡ after_turn end now q (seen_value layout e)
    one_more e e_at =
        ap (after_turns end now p) (taken_more (turn_entry layout sight) turns i turn at)
        ∙ fold-append (after_turn end now) p (map (turn_entry layout sight) (take i turns))
        (turn_entry layout sight turn ∷ [])
        ∙ ap (after_turn end now q) (entry_at layout sight turn.place e e_at)

    -- the rest after it
    module _ (e : SeenValue) (e_at : slice_get sight turn.place ≡ Some e) (later : Sender) (link : Link)
        (table : Channels) (room : Bool)
        (told : room ≡ not (after_turn end now q (seen_value layout e)).full)
        (stands : InTick later link table end before (after_turn end now q (seen_value layout e)) samples)
        (others : (a : ℕ) → e.actor ≢ a → record_at later a ≡ record_at s a) where
      not_true : (b : Bool) → true ≡ not b → b ≡ false
      not_true true e = absurd (false≢true (sym e))
      not_true false e = refl

      not_false : (b : Bool) → false ≡ not b → b ≡ true
      not_false true e = refl
      not_false false e = absurd (false≢true e)

      apart : (j : ℕ) (other : Turn) → i + 1 ≤ j → slice_get turns j ≡ Some other
          → (n : IsNext layout sight now q samples s other) → e.actor ≡ n.entry.actor → ⊥
      apart j other le at_j n same =
          h.next.apart i j turn other (omega (arith, le)) at at_j
          (next.actor ∙ (let r : Some next.entry ≡ Some e = sym next.place ∙ e_at in
          let is : next.entry ≡ e = cc in ap (λ (x : SeenValue). x.actor) is) ∙ same ∙ sym n.actor)

      pub goes_on : room ≡ true → LeftFrom layout sight turns (i + 1) later link table end before now
          (so_far layout sight turns end now p (i + 1)) samples
      goes_on is = subst
          (λ (r : Packing). LeftFrom layout sight turns (i + 1) later link table end before now r samples)
          (sym (one_more e e_at)) (record {
            stands = stands;
            is_ready = not_true (after_turn end now q (seen_value layout e)).full (sym is ∙ told);
            each = λ j other le at_j. (
                let n : IsNext layout sight now q samples s other = left.each j other (omega (arith, le)) at_j in
                let ne = apart j other le at_j n in
                record {
                  entry = n.entry;
                  place = n.place;
                  actor = n.actor;
                  may = still_servable layout end now q samples s later other.opens e n.entry ne
                      (others n.entry.actor ne) n.may;
                });
          })

      pub stops : room ≡ false → InTick later link table end before
          (after_turns end now p (map (turn_entry layout sight) turns)) samples
      stops is = subst (λ (r : Packing). InTick later link table end before r samples)
          (sym (ap (after_turns end now p) (split_at (turn_entry layout sight) turns (i + 1))
          ∙ fold-append (after_turn end now) p (map (turn_entry layout sight) (take (i + 1) turns))
          (map (turn_entry layout sight) (drop (i + 1) turns))
          ∙ ap (λ (r : Packing). after_turns end now r (map (turn_entry layout sight) (drop (i + 1) turns)))
          (one_more e e_at)
          ∙ full_stays end now (after_turn end now q (seen_value layout e))
          (map (turn_entry layout sight) (drop (i + 1) turns))
          (not_false (after_turn end now q (seen_value layout e)).full (sym is ∙ told)))) stands
