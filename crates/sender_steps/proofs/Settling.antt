-- When an actor is settled, by its record.
use Rattle.std.proofs.Common.{◌≡◌, ◌∙◌, ℕ, List, Bool, true, false, ◌&&◌, not, ap, sym, refl, Option}
use Rattle.std.specs.List.{list_all}
use Rattle.std.proofs.lemmas.Bool.{false≢true}
use Rattle.protocol_model.specs.Sight.{Seen}
use Rattle.change_model.specs.Changes.{Sample}
use Rattle.connection_model.specs.Feed.{Past}
use Rattle.connection_model.specs.State.{ActorState, Closed, Opening, Opened, Closing, Asleep, is_open, is_opened, state_of, index_of}
use Rattle.connection_model.specs.Carry.{is_carried, updatable_pairs}
use Rattle.connection_model.specs.Settled.{is_clear, is_settled_as}
use Rattle.sender_records.specs.declared.actor.ActorRecord.{ActorRecord}
use Rattle.sender_records.specs.Life.{state_value}
use Rattle.sender_records.specs.Handles.{KeepsHandles}
use Rattle.sender_records.specs.Actors.{KeepsActor}

unclear : (o r c a : Bool) → c ≡ false → false ≡ (o && r && c && a)
unclear true true c a e = ap (λ (b : Bool). b && a) (sym e)
unclear true false c a e = refl
unclear false r c a e = refl

all_but : (o r c a x : Bool) → o ≡ true → r ≡ true → c ≡ true → x ≡ a → x ≡ (o && r && c && a)
all_but o r c a x e f g h =
    h ∙ sym (ap (λ (b : Bool). b && r && c && a) e ∙ ap (λ (b : Bool). b && c && a) f ∙ ap (λ (b : Bool). b && a) g)

open_of : (s : ActorState) → is_opened s ≡ true → is_open s ≡ true
open_of Opened e = refl
open_of Closed e = absurd (false≢true e)
open_of Opening e = absurd (false≢true e)
open_of Closing e = absurd (false≢true e)
open_of Asleep e = absurd (false≢true e)

pub opened_there : (past : Past) (samples : List Sample) (a : ℕ) (r : ActorRecord) → KeepsActor past samples a r
    → is_opened (state_value r.life.state) ≡ true
    → (KeepsHandles past samples a r.handles) × (is_opened (state_of past a) ≡ true)
opened_there past samples a r k e = (
  k.handles (open_of (state_value r.life.state) e),
  ap is_opened (sym k.life.state)
      ∙ e,
)

pub settled_unclear : (past : Past) (samples : List Sample) (r : ActorRecord) (seen : Seen)
    → KeepsActor past samples seen.actor r
    → (clear : Bool) → clear ≡ is_clear past r.life.index → clear ≡ false → false ≡ is_settled_as past seen
settled_unclear past samples r seen k clear is e =
    unclear (is_opened (state_of past seen.actor)) seen.relevant (is_clear past (index_of past seen.actor))
    (list_all (is_carried past seen.actor) (updatable_pairs seen))
    (ap (is_clear past) (sym k.life.index) ∙ sym is ∙ e)

pub settled_all : (past : Past) (samples : List Sample) (r : ActorRecord) (seen : Seen)
    → KeepsActor past samples seen.actor r
    → is_opened (state_value r.life.state) ≡ true → seen.relevant ≡ true
    → (clear : Bool) → clear ≡ is_clear past r.life.index → clear ≡ true
    → (all : Bool) → all ≡ list_all (is_carried past seen.actor) (updatable_pairs seen) → all ≡ is_settled_as past seen
settled_all past samples r seen k opened relevant clear is e all all_is =
    all_but (is_opened (state_of past seen.actor)) seen.relevant (is_clear past (index_of past seen.actor))
    (list_all (is_carried past seen.actor) (updatable_pairs seen)) all
    (ap is_opened (sym k.life.state) ∙ opened) relevant (ap (is_clear past) (sym k.life.index) ∙ sym is ∙ e) all_is
