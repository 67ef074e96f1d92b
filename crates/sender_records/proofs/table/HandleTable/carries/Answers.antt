use Rattle.std.proofs.Common.{◌≡◌, ◌⊎◌, ◌∙◌, inl, inr, ℕ, ◌++◌, ◌∷◌, [], map, ap, sym, subst, Option, Some, None, ℤ}
use Rattle.protocol_model.specs.Payload.{Updates}
use Rattle.protocol_model.specs.Value.{value_among}
use Rattle.connection_model.specs.Feed.{Sent, Loose}
use Rattle.sender_laws.specs.Values.{IsCurrent}
use Rattle.sender_records.specs.declared.handle.HandleRecord.{HandleRecord}
use Rattle.sender_records.specs.Handles.{HandlesKept, handle_in, handle_carried, by_value, pair_value, KeepsHandle, KeepsHandles}
use Rattle.sender_records.proofs.HandleSteps.{updated_keeps}
use Rattle.sender_records.proofs.TableSteps.{agreed_by}
use Rattle.sender_records.proofs.table.HandleTable.carries.Goals as goal

pub returns-clause-keeps : goal.returns-clause-keeps
returns-clause-keeps c = λ t items class bunch past actor samples h none new apart agrees now.
    let k : KeepsHandles (Sent c.args.packet t items ∷ past) samples actor
    (record { compared = c.self.inside.compared; last = c.self.inside.last; handles = c.self.inside.handles.items }) =
    subst (KeepsHandles (Sent c.args.packet t items ∷ past) samples actor) (sym c.self.view_is) h in
    let n : IsCurrent samples c.self.inside.compared = subst (λ (t : HandlesKept). IsCurrent samples t.compared)
    (sym c.self.view_is) now in
    record {
      each = λ h.
          subst (KeepsHandle (Sent c.args.packet t (items ++ Loose
          (Updates actor class (map pair_value c.args.values.now)) bunch ∷ []) ∷ past) samples actor
          c.self.inside.compared c.self.inside.last h)
          (sym (c.carry_all.ensures.each h apart))
          (updated_keeps c.args.packet t items class (map pair_value c.args.values.now) bunch past samples actor
          c.self.inside.compared c.self.inside.last h
          (handle_in c.self.inside.handles.items h) none new
          (agreed_by samples (map pair_value c.args.values.now) c.self.inside.compared h agrees n) (k.each h));
      compared = k.compared;
      some = k.some;
      now = k.now;
    }

-- a handle goes into the packet where a value of it goes
went : (packet m : ℕ) (k later : HandleRecord) (o : Option ℤ) → later ≡ by_value (handle_carried packet) k o
    → k.packet ≡ m → (later.packet ≡ packet) ⊎ (later.packet ≡ m)
went packet m k later None e f = inr (ap (λ (x : HandleRecord). x.packet) e ∙ f)
went packet m k later (Some v) e f = inl (ap (λ (x : HandleRecord). x.packet) e)

pub returns-clause-packets : goal.returns-clause-packets
returns-clause-packets c = λ apart h.
    went c.args.packet (handle_in c.args.self.now.handles h).packet (handle_in c.self.inside.handles.items h)
    (handle_in c.carry_all.new.handles.items h) (value_among (map pair_value c.args.values.now) h)
    (c.carry_all.ensures.each h apart) (ap (λ (t : HandlesKept). (handle_in t.handles h).packet) c.self.view_is)
