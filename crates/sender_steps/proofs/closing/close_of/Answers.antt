use Rattle.std.proofs.Common.{◌≡◌, ◌∙◌, ℕ, List, Bool, true, false, cond, ◌&&◌, ◌||◌, nat_le, ap, sym, refl, Option, Some, None, option_map}
use Rattle.std.specs.Option.{option_copied}
use Rattle.std.proofs.lemmas.Bool.{false≢true}
use Rattle.change_model.specs.Changes.{Sample}
use Rattle.connection_model.specs.Feed.{Past, tick_count}
use Rattle.connection_model.specs.State.{ActorState, state_of, is_open, is_asleep}
use Rattle.connection_model.specs.Settled.{is_settled_as}
use Rattle.connection_model.specs.Pack.{idle_ticks, is_shown}
use Rattle.sender_records.specs.Actors.{KeepsActor}
use Rattle.sender_steps.specs.declared.closing.Close.{Close}
use Rattle.sender_steps.specs.declared.closing.Close.TheVariants as close
use Rattle.sender_steps.specs.Closing.{is_destroyed}
use Rattle.sender_steps.specs.Sights.{seen_value}
use Rattle.sender_steps.proofs.closing.close_of.Goals as goal

abbrev picks : (b1 b2 b3 : Bool) → Option Close
picks b1 b2 b3 = cond b1 (Some close.Plain) (cond b2 (Some close.Dormant) (cond b3 (Some close.Gone) None))

plain : (b1 b2 b3 : Bool) → b1 ≡ true → Some close.Plain ≡ picks b1 b2 b3
plain true b2 b3 e = refl
plain false b2 b3 e = absurd (false≢true e)

dormant : (b1 b2 b3 : Bool) → b1 ≡ false → b2 ≡ true → Some close.Dormant ≡ picks b1 b2 b3
dormant false true b3 e f = refl
dormant false false b3 e f = absurd (false≢true f)
dormant true b2 b3 e f = absurd (false≢true (sym e))

neither : (b1 b2 x d : Bool) → b1 ≡ false → b2 ≡ false → d ≡ false → None ≡ picks b1 b2 (x && d)
neither false false true false e f g = refl
neither false false false false e f g = refl
neither false false x true e f g = absurd (false≢true (sym g))
neither false true x d e f g = absurd (false≢true (sym f))
neither true b2 x d e f g = absurd (false≢true (sym e))

awake : (b1 b2 x d : Bool) → b1 ≡ false → b2 ≡ false → x ≡ false → None ≡ picks b1 b2 (x && d)
awake false false false d e f g = refl
awake false false true d e f g = absurd (false≢true (sym g))
awake false true x d e f g = absurd (false≢true (sym f))
awake true b2 x d e f g = absurd (false≢true (sym e))

gone : (b1 b2 x d : Bool) → b1 ≡ false → b2 ≡ false → x ≡ true → d ≡ true → Some close.Gone ≡ picks b1 b2 (x && d)
gone false false true true e f g h = refl
gone false false true false e f g h = absurd (false≢true h)
gone false false false d e f g h = absurd (false≢true g)
gone false true x d e f g h = absurd (false≢true (sym f))
gone true b2 x d e f g h = absurd (false≢true (sym e))

pub returns-then-is_dropped : goal.returns-then-is_dropped
returns-then-is_dropped c = λ past samples actor k t tick entry.
    plain (is_open (state_of past actor) && (is_destroyed (option_map (seen_value c.args.classes.now)
    (option_copied c.args.seen)) || nat_le 5 (idle_ticks past actor)))
    (is_shown (λ s. s.dormant && is_settled_as past s) (option_map (seen_value c.args.classes.now)
    (option_copied c.args.seen)))
    (is_asleep (state_of past actor) && is_destroyed (option_map (seen_value c.args.classes.now)
    (option_copied c.args.seen)))
    (sym (c.is_dropped.ensures past samples actor k tick ∙ ap
    (λ (d : Bool). is_open (state_of past actor) && (d || nat_le 5 (idle_ticks past actor)))
    (c.is_destroyed-destroyed.ensures c.args.classes.now)) ∙ c.if-is_dropped.true)

pub returns-then-falls_asleep : goal.returns-then-falls_asleep
returns-then-falls_asleep c = λ past samples actor k t tick entry.
    dormant (is_open (state_of past actor) && (is_destroyed (option_map (seen_value c.args.classes.now)
    (option_copied c.args.seen)) || nat_le 5 (idle_ticks past actor)))
    (is_shown (λ s. s.dormant && is_settled_as past s) (option_map (seen_value c.args.classes.now)
    (option_copied c.args.seen)))
    (is_asleep (state_of past actor) && is_destroyed (option_map (seen_value c.args.classes.now)
    (option_copied c.args.seen)))
    (sym (c.is_dropped.ensures past samples actor k tick ∙ ap
    (λ (d : Bool). is_open (state_of past actor) && (d || nat_le 5 (idle_ticks past actor)))
    (c.is_destroyed-destroyed.ensures c.args.classes.now)) ∙ c.if-is_dropped.false)
    (sym (c.falls_asleep.ensures past samples actor k t entry) ∙ c.if-falls_asleep.true)

pub returns-then-not-destroyed : goal.returns-then-not-destroyed
returns-then-not-destroyed c = λ past samples actor k t tick entry.
    neither (is_open (state_of past actor) && (is_destroyed (option_map (seen_value c.args.classes.now)
    (option_copied c.args.seen)) || nat_le 5 (idle_ticks past actor)))
    (is_shown (λ s. s.dormant && is_settled_as past s) (option_map (seen_value c.args.classes.now)
    (option_copied c.args.seen)))
    (is_asleep (state_of past actor)) (is_destroyed (option_map (seen_value c.args.classes.now)
    (option_copied c.args.seen)))
    (sym (c.is_dropped.ensures past samples actor k tick ∙ ap
    (λ (d : Bool). is_open (state_of past actor) && (d || nat_le 5 (idle_ticks past actor)))
    (c.is_destroyed-destroyed.ensures c.args.classes.now)) ∙ c.if-is_dropped.false)
    (sym (c.falls_asleep.ensures past samples actor k t entry) ∙ c.if-falls_asleep.false)
    (sym (c.is_destroyed-destroyed.ensures c.args.classes.now) ∙ c.if-not-destroyed.true)

pub returns-then-not-is_asleep : goal.returns-then-not-is_asleep
returns-then-not-is_asleep c = λ past samples actor k t tick entry.
    awake (is_open (state_of past actor) && (is_destroyed (option_map (seen_value c.args.classes.now)
    (option_copied c.args.seen)) || nat_le 5 (idle_ticks past actor)))
    (is_shown (λ s. s.dormant && is_settled_as past s) (option_map (seen_value c.args.classes.now)
    (option_copied c.args.seen)))
    (is_asleep (state_of past actor)) (is_destroyed (option_map (seen_value c.args.classes.now)
    (option_copied c.args.seen)))
    (sym (c.is_dropped.ensures past samples actor k tick ∙ ap
    (λ (d : Bool). is_open (state_of past actor) && (d || nat_le 5 (idle_ticks past actor)))
    (c.is_destroyed-destroyed.ensures c.args.classes.now)) ∙ c.if-is_dropped.false)
    (sym (c.falls_asleep.ensures past samples actor k t entry) ∙ c.if-falls_asleep.false)
    (ap is_asleep (sym k.life.state) ∙ sym c.is_asleep.ensures ∙ c.if-not-is_asleep.true)

pub returns : goal.returns
returns c = λ past samples actor k t tick entry.
    gone (is_open (state_of past actor) && (is_destroyed (option_map (seen_value c.args.classes.now)
    (option_copied c.args.seen)) || nat_le 5 (idle_ticks past actor)))
    (is_shown (λ s. s.dormant && is_settled_as past s) (option_map (seen_value c.args.classes.now)
    (option_copied c.args.seen)))
    (is_asleep (state_of past actor)) (is_destroyed (option_map (seen_value c.args.classes.now)
    (option_copied c.args.seen)))
    (sym (c.is_dropped.ensures past samples actor k tick ∙ ap
    (λ (d : Bool). is_open (state_of past actor) && (d || nat_le 5 (idle_ticks past actor)))
    (c.is_destroyed-destroyed.ensures c.args.classes.now)) ∙ c.if-is_dropped.false)
    (sym (c.falls_asleep.ensures past samples actor k t entry) ∙ c.if-falls_asleep.false)
    (ap is_asleep (sym k.life.state) ∙ sym c.is_asleep.ensures ∙ c.if-not-is_asleep.false)
    (sym (c.is_destroyed-destroyed.ensures c.args.classes.now) ∙ c.if-not-destroyed.false)
