-- A call opens nobody and ends nothing.
use Rattle.std.proofs.Common.{◌≡◌, ℕ, List, ◌∷◌, Bool, true, false, cond, Option, Some, None, refl, sym, subst}
use Rattle.std.proofs.lemmas.Bool.{cond_both}
use Rattle.protocol_model.specs.Side.{AtServer}
use Rattle.protocol_model.specs.Value.{Call, Arg}
use Rattle.protocol_model.specs.Payload.{Message, Calls}
use Rattle.protocol_model.specs.declared.CallAnswer.{CallAnswer}
use Rattle.protocol_model.specs.declared.CallAnswer.TheVariants.{Queued, Dead, NotOpen, NotOwner, WindowFull}
use Rattle.connection_model.specs.Feed.{Past, Waits, has_ended}
use Rattle.connection_model.specs.Bunches.{after_making}
use Rattle.connection_model.specs.State.{opened_class}
use Rattle.connection_model.specs.CallAnswers.{answer_of, answer_for, after_call, after_answer, call_channel, call_of, is_not_owner, is_full, queued_for}
use Rattle.connection_laws.proofs.Moves.{making_keeps}

-- the end is as alive as before, and each actor was opened as before
pub record OpensNone (past later : Past) : Type 0 where
  pub alive : has_ended later ≡ has_ended past
  pub opened : (a : ℕ) → opened_class later a ≡ opened_class past a

same : (past : Past) → OpensNone past past
same past = record { alive = refl; opened = λ a. refl }

made : (past : Past) (ch a n : ℕ) (call : Call) (args : List Arg)
    → OpensNone past (after_making past ch (Calls a n call args))
made past ch a n call args = record {
  alive = making_keeps (λ i before. has_ended before ≡ has_ended past) past ch m refl (λ i before lt e. e);
  opened = λ a. making_keeps (λ i before. opened_class before a ≡ opened_class past a) past ch m refl
      (λ i before lt e. e);
}
  where
    m : Message
    m = Calls a n call args

queued : (past : Past) (a n : ℕ) (args : List Arg) (ch : ℕ) (call : Call) (reliable : Bool)
    → OpensNone past (cond reliable (after_making past ch (Calls a n call args)) (Waits (Calls a n call args) ∷ past))
queued past a n args ch call true = made past ch a n call args
queued past a n args ch call false = record { alive = refl; opened = λ a. refl }

-- ---- what a call leaves

abbrev left : Past → (a n : ℕ) → List Arg → Option ℕ → Option Call → CallAnswer → Past
left past a n args o c Queued = queued_for past a n args o c
left past a n args o c Dead = past
left past a n args o c NotOpen = past
left past a n args o c NotOwner = past
left past a n args o c WindowFull = past

left_is : (past : Past) (a n : ℕ) (args : List Arg) (answer : CallAnswer)
    → after_answer AtServer past a n args answer
    ≡ left past a n args (call_channel AtServer past a) (call_of AtServer past a n args) answer
left_is past a n args Queued = refl
left_is past a n args Dead = refl
left_is past a n args NotOpen = refl
left_is past a n args NotOwner = refl
left_is past a n args WindowFull = refl

none_left : (past : Past) (a n : ℕ) (args : List Arg) (o : Option ℕ) (c : Option Call)
    → OpensNone past (left past a n args o c (answer_for AtServer past a n args o c))
none_left past a n args None c = same past
none_left past a n args (Some ch) None = same past
none_left past a n args (Some ch) (Some call) =
    let full : Bool = is_full past ch call.reliable (Calls a n call args) in
    cond_both (is_not_owner AtServer past a call) NotOwner (cond full WindowFull Queued)
    (λ answer. OpensNone past (left past a n args (Some ch) (Some call) answer)) (λ e. same past)
    (λ e. cond_both full WindowFull Queued
    (λ answer. OpensNone past (left past a n args (Some ch) (Some call) answer)) (λ e. same past)
    (λ e. queued past a n args ch call call.reliable))

pub call_opens_none : (past : Past) (a n : ℕ) (args : List Arg) → has_ended past ≡ false
    → OpensNone past (after_call AtServer past a n args)
call_opens_none past a n args alive =
    subst (OpensNone past) (sym (left_is past a n args (answer_of AtServer past a n args)))
    (rw alive (none_left past a n args (call_channel AtServer past a) (call_of AtServer past a n args)))
