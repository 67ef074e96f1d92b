use Rattle.std.proofs.Common.{List, map, ap, ◌∙◌}
use Rattle.protocol_model.specs.Value.{Class, Pair}
use Rattle.protocol_model.specs.Sight.{Seen, seen_of}
use Rattle.class_members.specs.Members.{prop_of}
use Rattle.class_layout.specs.Tables.{table_in}
use Rattle.sender_records.specs.Handles.{pairs_of}
use Rattle.actor_sights.proofs.Looks.{built_in_first}
use Rattle.actor_sights.proofs.showing.seen.Goals as goal

pub returns-clause-entry : goal.returns-clause-entry
returns-clause-entry c = λ edits stands look class values.
    let table = table_in c.args.world.now.layout in
    let asleep = c.seen_asleep-seen.ensures.entry c.args.world.now.layout edits look in
    let mine = ap (λ (s : Seen). s.owns) asleep in
    ap (λ (s : Seen). record s { values = pairs_of c.put_own.new.pairs }) asleep
    ∙ ap (λ (ps : List Pair). record (seen_of table edits c.args.player c.args.actor) { values = ps })
    (c.in_ok-put_own.ensures.pairs edits c.args.player stands mine class values
    ∙ built_in_first table edits c.args.player c.args.actor c.args.look.now c.seen_asleep-seen.result.owns
    (map prop_of c.args.class.now.props)
    c.from_vec-pairs.result c.put_built_in.new.pairs look mine
    (ap (λ (k : Class). k.props) class) (ap pairs_of (c.from_vec-pairs.ensures ∙ c.in_ok-room.ensures.items))
    c.in_ok-put_built_in.ensures.pairs)
