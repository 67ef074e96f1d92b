-- A sender that keeps nothing stands for a past in which nothing was done.
use Rattle.std.proofs.Common.{◌≡◌, ◌∙◌, ℕ, List, [], Bool, false, ◌||◌, ap, sym, refl, subst, arith, unwrap_or, Option, Some, None}
use Rattle.std.specs.Map.{lookup}
use Rattle.std.specs.Prelude.{nat_eq, slice_index_or}
use Rattle.std.specs.List.{list_any, slice_get}
use Rattle.std.proofs.lemmas.Bool.{false≢true}
use Rattle.change_model.specs.Changes.{Sample}
use Rattle.protocol_model.specs.Search.{is_among}
use Rattle.connection_model.specs.State.{is_open, is_closed}
use Rattle.connection_laws.specs.Run.{Ascends}
use Rattle.sender_laws.specs.States.{is_pending}
use Rattle.sender_records.specs.declared.actor.ActorRecord.{ActorRecord}
use Rattle.sender_records.specs.Life.{state_value}
use Rattle.sender_records.specs.Actors.{KeepsActor, fresh_actor}
use Rattle.sender_steps.specs.declared.sent.OpenSent.{OpenSent}
use Rattle.sender_steps.specs.Sender.{Sender, record_at}
use Rattle.sender_steps.specs.Stands.{Keeps, makes_known}
use Rattle.sender_steps.proofs.KnownMade.{known_makes}

fresh_keeps : (samples : List Sample) (a : ℕ) → KeepsActor [] samples a (fresh_actor a)
fresh_keeps samples a = record {
  life = record { state = refl; index = refl; opened = refl; flush = refl; pends = λ p. absurd (false≢true p) };
  service = record {
    relevant = refl;
    first = refl;
    served = refl;
    unserved = λ z. refl;
    owned = refl;
    before =
        omega arith;
  };
  handles = λ o. absurd (false≢true o);
}

pub new_keeps : (s : Sender) → s.records ≡ [] → s.live ≡ [] → s.known ≡ [] → s.opens ≡ [] → s.ticks ≡ 0
    → s.spent ≡ false → Keeps s [] []
new_keeps s records live known opens ticks spent = record {
  each = λ a. subst (KeepsActor [] [] a) (sym (none a)) (fresh_keeps [] a);
  under_way = λ a h o new. absurd (false≢true (sym (ap (λ (r : ActorRecord). is_open (state_value r.life.state))
      (none a)) ∙ o));
  pending = λ a p. absurd (false≢true (sym (ap (λ (r : ActorRecord). is_pending (state_value r.life.state)) (none a))
      ∙ p));
  live = λ a p. absurd (false≢true (sym p ∙ ap (λ (r : ActorRecord). is_closed (state_value r.life.state)) (none a)));
  opened = λ a e. absurd (false≢true (sym (ap (is_among a) live) ∙ e));
  ascends = subst (Ascends 0) (sym live) tt;
  known = λ later made grows g.
      known_makes later [] made later g
      ∙ sym (ap (λ (ks : List Bool). slice_index_or ks g false || list_any (makes_known later g) s.opens) known
      ∙ ap (λ (os : List OpenSent). list_any (makes_known later g) os) opens);
  opens = λ i o at. absurd (let no : (let q : Option OpenSent = None in q) ≡ Some o =
      sym (ap (λ (os : List OpenSent). slice_get os i) opens) ∙ at in cc);
  low = λ a ch e. absurd (let no : (let o : Option ℕ = None in o) ≡ Some ch = e in cc);
  below = λ ch le. refl;
  ticks = ticks;
  kept = spent;
}
  where
    none : (a : ℕ) → record_at s a ≡ fresh_actor a
    none a = ap (λ (rs : List (ℕ × ActorRecord)). unwrap_or (lookup (nat_eq a) rs) (fresh_actor a)) records
