use Rattle.std.proofs.Common.{◌∙◌, ap, subst, slice_get}
use Rattle.class_layout.specs.Tables.{Layout, IsLayout}
use Rattle.class_layout.proofs.Segments.{segment_found, segment_absent, no_segment}
use Rattle.class_layout.proofs.classes.Classes.segment.Goals as goal

pub returns-in-Some-clause-found : goal.returns-in-Some-clause-found
returns-in-Some-clause-found c =
    segment_found (subst IsLayout c.self.view_is c.self.invariant).segments c.args.g c.in-Some.i c.in-Some.ensures.found
    c.item.result (c.item.ensures ∙ ap (λ s. slice_get s c.in-Some.i) (c.as_slice.ensures
    ∙ ap (λ (l : Layout). l.segments) c.self.view_is))

pub returns-in-Some-clause-absent : goal.returns-in-Some-clause-absent
returns-in-Some-clause-absent c =
    segment_absent (subst IsLayout c.self.view_is c.self.invariant).segments c.args.g c.in-Some.i
    c.in-Some.ensures.found
    c.item.result (c.item.ensures ∙ ap (λ s. slice_get s c.in-Some.i) (c.as_slice.ensures
    ∙ ap (λ (l : Layout). l.segments) c.self.view_is))

pub returns-in-None-clause-absent : goal.returns-in-None-clause-absent
returns-in-None-clause-absent c =
    no_segment (subst IsLayout c.self.view_is c.self.invariant).segments c.args.g c.in-None.ensures.absent
