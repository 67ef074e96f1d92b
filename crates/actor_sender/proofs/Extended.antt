-- A sender is right about later samples too.
use Rattle.std.proofs.Common.{◌≡◌, ◌≤◌, ◌==◌, ℕ, List, [], ◌∷◌, ◌++◌, Bool, true, false, ap, refl, subst, sym, ◌∙◌, arith}
use Rattle.std.specs.Bool.{then_some}
use Rattle.std.specs.List.{cons_option}
use Rattle.change_model.specs.Changes.{Sample}
use Rattle.connection_model.specs.Feed.{Past}
use Rattle.shadow_changes.specs.Samples.{Samples, samples_of}
use Rattle.sender_laws.specs.Values.{AreAbove, tick_now}
use Rattle.sender_records.specs.Actors.{KeepsActor}
use Rattle.sender_records.proofs.Frames.{actor_sampled}
use Rattle.sender_steps.specs.Sender.{Sender, record_in}
use Rattle.sender_steps.specs.Stands.{Keeps, Extends}

samples_behind : (later before : Samples) (a : ℕ)
    → samples_of (later ++ before) a ≡ samples_of later a ++ samples_of before a
samples_behind [] before a = refl
samples_behind (s ∷ later) before a =
    ap (cons_option (then_some (s.0 == a) s.1)) (samples_behind later before a) ∙ by (s.0 == a)
  where
    by : (b : Bool) → cons_option (then_some b s.1) (samples_of later a ++ samples_of before a)
        ≡ cons_option (then_some b s.1) (samples_of later a) ++ samples_of before a
    by true = refl
    by false = refl

grows : (later samples : List Sample) → AreAbove (tick_now samples) later
    → tick_now samples ≤ tick_now (later ++ samples)
grows [] samples h = omega arith
grows (s ∷ later) samples h = omega (arith, h.0)

pub extended : (s : Sender) (past : Past) (before samples : Samples) → Extends before samples → Keeps s past before
    → Keeps s past samples
extended s past before samples x k = record {
  each = λ a. subst (λ (ss : List Sample). KeepsActor past ss a (record_in s.records a))
      (sym (samples_behind x.later before a) ∙ ap (λ (all : Samples). samples_of all a) (sym x.behind))
      (actor_sampled past (samples_of x.later a) (samples_of before a) a (record_in s.records a) (x.newer a)
      (grows (samples_of x.later a) (samples_of before a) (x.newer a)) (k.each a));
  under_way = k.under_way;
  pending = k.pending;
  live = k.live;
  opened = k.opened;
  ascends = k.ascends;
  known = k.known;
  opens = k.opens;
  low = k.low;
  below = k.below;
  ticks = k.ticks;
  kept = k.kept;
}
