use Rattle.std.proofs.Common.{◌≡◌, Option, Some, Bor, IfSome, subst}
use Rattle.table_model.specs.Rules.{guid_in, segments_of}
use Rattle.class_layout.specs.Tables.{entries_in}
use Rattle.class_layout.specs.declared.class.Segment.{Segment}
use Rattle.payload_writing.proofs.Guids.{is_found, segment_is}
use Rattle.payload_writing.proofs.Named.{name_short}
use Rattle.payload_writing.proofs.segments.segment_of.Goals as goal

pub unwrap-requires : goal.unwrap-requires
unwrap-requires c =
    is_found c.args.classes.now c.args.guid c.keeps_rules.ensures.layout c.requires c.segment.result
    c.segment.ensures.absent

pub returns-clause-segment : goal.returns-clause-segment
returns-clause-segment c =
    let known = segments_of (entries_in c.args.classes.now) in
    segment_is c.args.classes.now c.args.guid c.unwrap.result.now.outer c.unwrap.result.now.name
    c.keeps_rules.ensures.layout
    (subst (λ (o : Option (Bor Segment)). IfSome o (λ s. guid_in known s.now.outer s.now.name ≡ Some c.args.guid))
    c.unwrap.ensures c.segment.ensures.found)

pub returns-clause-short : goal.returns-clause-short
returns-clause-short c =
    let known = segments_of (entries_in c.args.classes.now) in
    name_short (entries_in c.args.classes.now) c.unwrap.result.now.outer c.args.guid c.unwrap.result.now.name
    c.keeps_rules.ensures.rules
    (subst (λ (o : Option (Bor Segment)). IfSome o (λ s. guid_in known s.now.outer s.now.name ≡ Some c.args.guid))
    c.unwrap.ensures c.segment.ensures.found)
