-- What a client takes and hears, calls and ticks of its own don't change.
use Rattle.std.proofs.Common.{◌≡◌, ◌∙◌, ℕ, List, [], ◌∷◌, false, Option, Some, None, refl, ap}
use Rattle.std.proofs.lemmas.Bool.{cond_both}
use Rattle.protocol_model.specs.Payload.{Message, Calls}
use Rattle.protocol_model.specs.Side.{Side, AtClient}
use Rattle.protocol_model.specs.Value.{Arg, Call}
use Rattle.protocol_model.specs.declared.CallAnswer.{CallAnswer}
use Rattle.protocol_model.specs.declared.CallAnswer.TheVariants.{Queued, Dead, NotOpen, NotOwner, WindowFull}
use Rattle.connection_model.specs.Bunches.{after_making}
use Rattle.connection_model.specs.CallAnswers.{answer_of, after_answer, after_call, call_channel, call_of, queued_for}
use Rattle.connection_model.specs.Fates.{top_of, entries_of}
use Rattle.connection_model.specs.Feed.{End, Past, Ticked, Made, Waits, Sent, Ended, ByStall, Item, has_ended}
use Rattle.connection_model.specs.Pack.{after_tick}
use Rattle.connection_laws.proofs.Moves.{making_keeps}
use Rattle.client_sending.specs.Stands.{OpensNone}
use Rattle.client_sending.proofs.TickSteps.{client_tick}
use Rattle.client_sending.proofs.Ticked.{kept_by_packing, packed, packed_past}

-- what neither a bunch made nor a call that waits tells
module _ {A : Type 0} (F : Past → A)
    (made : (ch n : ℕ) (m : Message) (i : ℕ) (q : Past) → F (Made ch n m i ∷ q) ≡ F q)
    (waits : (m : Message) (q : Past) → F (Waits m ∷ q) ≡ F q) where
  queued : (past : Past) (a n : ℕ) (args : List Arg) (channel : Option ℕ) (call : Option Call)
      → F (queued_for past a n args channel call) ≡ F past
  queued past a n args (Some ch) (Some call) =
      cond_both call.reliable (after_making past ch (Calls a n call args)) (Waits (Calls a n call args) ∷ past)
      (λ (q : Past). F q ≡ F past)
      (λ e. making_keeps (λ i before. F before ≡ F past) past ch (Calls a n call args) refl
      (λ i before lt q. made ch _ (Calls a n call args) i before ∙ q))
      (λ e. waits (Calls a n call args) past)
  queued past a n args (Some ch) None = refl
  queued past a n args None call = refl

  pub call_keeps : (side : Side) (past : Past) (a n : ℕ) (args : List Arg) → F (after_call side past a n args) ≡ F past
  call_keeps side past a n args = by (answer_of side past a n args)
    where
      by : (answer : CallAnswer) → F (after_answer side past a n args answer) ≡ F past
      by Queued = queued past a n args (call_channel side past a) (call_of side past a n args)
      by Dead = refl
      by NotOpen = refl
      by NotOwner = refl
      by WindowFull = refl

pub call_top : (past : Past) (a n : ℕ) (args : List Arg) → top_of (after_call AtClient past a n args) ≡ top_of past
call_top past a n args = call_keeps top_of (λ ch n m i q. refl) (λ m q. refl) AtClient past a n args

pub call_entries : (past : Past) (a n : ℕ) (args : List Arg)
    → entries_of (after_call AtClient past a n args) ≡ entries_of past
call_entries past a n args = call_keeps entries_of (λ ch n m i q. refl) (λ m q. refl) AtClient past a n args

-- what neither a tick, nor a packet, nor a stall tells
tick_keeps : {A : Type 0} (F : Past → A) → ((n t : ℕ) (items : List Item) (q : Past) → F (Sent n t items ∷ q) ≡ F q)
    → ((q : Past) → F (Ended ByStall ∷ q) ≡ F q) → ((t : ℕ) (q : Past) → F (Ticked t [] ∷ q) ≡ F q)
    → (end : End) (past : Past) → end.side ≡ AtClient → has_ended past ≡ false → OpensNone past
    → F (after_tick end past []) ≡ F past
tick_keeps F sent ended ticked end past side alive opens =
    ap F (client_tick end past side alive opens)
    ∙ kept_by_packing F sent ended end past (packed end past)
    ∙ ap F (packed_past end past) ∙ ticked _ past

pub tick_top : (end : End) (past : Past) → end.side ≡ AtClient → has_ended past ≡ false → OpensNone past
    → top_of (after_tick end past []) ≡ top_of past
tick_top end past side alive opens =
    tick_keeps top_of (λ n t items q. refl) (λ q. refl) (λ t q. refl) end past side alive opens

pub tick_entries : (end : End) (past : Past) → end.side ≡ AtClient → has_ended past ≡ false → OpensNone past
    → entries_of (after_tick end past []) ≡ entries_of past
tick_entries end past side alive opens =
    tick_keeps entries_of (λ n t items q. refl) (λ q. refl) (λ t q. refl) end past side alive opens
