use Rattle.std.proofs.Common.{◌≡◌, ◌∙◌, ◌<◌, ◌||◌, List, ℕ, false, not, length, slice_index_or, ap, rules, sym, subst}
use Rattle.std.specs.List.{filter, list_any}
use Rattle.std.proofs.lemmas.Fn.{filter_same}
use Rattle.protocol_model.specs.Side.{AtServer}
use Rattle.connection_model.specs.Feed.{Past}
use Rattle.channel_table.specs.Keeps.{Keeps}
use Rattle.sender_steps.specs.declared.sent.OpenSent.{OpenSent}
use Rattle.sender_steps.specs.Stands.{has_known, is_open_gone, is_known_by, makes_known, AreOpensMade}
use Rattle.sender_steps.proofs.Learning.{left_made, learnt, none_left}
use Rattle.sender_steps.proofs.taking.learn.Goals as goal

pub returns : goal.returns
returns c = record {
  made = λ past k made. subst (AreOpensMade past c.note_arrived.new.known.items) (sym (left past k))
      (left_made c.args.table.now past c.args.known.now.items c.note_arrived.new.known.items c.args.opens.now.items k
      made c.note_arrived.ensures.length (places past k));
  known = λ past later k grows made g. subst (λ (os : List OpenSent). is_known_by later c.note_arrived.new.known.items
      os g ≡ is_known_by later c.args.known.now.items c.args.opens.now.items g) (sym (left past k))
      (learnt c.args.table.now past c.args.known.now.items c.note_arrived.new.known.items c.args.opens.now.items k made
      c.note_arrived.ensures.length (places past k) later grows g);
  rest = λ past k made g. subst (λ (os : List OpenSent). list_any (makes_known past g) os ≡ false) (sym (left past k))
      (none_left past g c.args.known.now.items c.args.opens.now.items made);
}
  where
    places : (past : Past) → Keeps c.args.table.now AtServer past → (g : ℕ) → g < length c.args.known.now.items
        → slice_index_or c.note_arrived.new.known.items g false ≡
        (list_any (has_known past g) c.args.opens.now.items || slice_index_or c.args.known.now.items g false)
    places past k g lt = c.note_arrived.ensures.known past k g lt
        ∙ ap (λ (os : List OpenSent). list_any (has_known past g) os || slice_index_or c.args.known.now.items g false)
        c.as_slice.ensures.value

    left : (past : Past) → Keeps c.args.table.now AtServer past
        → c.retain.new.self.items ≡ filter (λ (o : OpenSent). not (is_open_gone past o)) c.args.opens.now.items
    left past k = filter_same _ _ _ (λ x b f' h. (
      h.called.met.1 past k ∙ ap (λ (o : OpenSent). not (is_open_gone past o)) h.shows,
      search (h.called.met.0, rules),
    )) _ _ c.retain.ensures.filtered
