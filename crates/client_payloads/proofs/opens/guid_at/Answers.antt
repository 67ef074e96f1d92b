use Rattle.std.proofs.Common.{ℕ, List, sym, ap, ◌∙◌}
use Rattle.protocol_model.specs.Value.{Class, class_guid}
use Rattle.client_payloads.specs.Messages.{last_of}
use Rattle.client_payloads.proofs.Tables.{guid_is_last}
use Rattle.client_payloads.proofs.opens.guid_at.Goals as goal

pub returns : goal.returns
returns c =
    c.last_guid.ensures ∙ ap (λ (path : List ℕ). last_of path) c.as_slice.ensures
    ∙ sym (guid_is_last c.args.classes.now.segments c.class_at.result.now)
    ∙ ap (λ (class : Class). class_guid class) c.class_at.ensures.class
