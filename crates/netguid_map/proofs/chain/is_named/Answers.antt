use Rattle.table_model.specs.Rules.{segments_of}
use Rattle.class_layout.specs.Tables.{entries_in}
use Rattle.netguid_map.proofs.Within.{segment_told}
use Rattle.netguid_map.proofs.chain.is_named.Goals as goal

pub returns-in-None : goal.returns-in-None
returns-in-None c =
    absurd (segment_told c.args.classes.now.segments (segments_of (entries_in c.args.classes.now)) c.args.guid
    c.keeps_rules.ensures.layout.segments c.requires c.in-None.ensures.absent)
