use Rattle.std.proofs.Common.{◌≡◌, ◌-◌, List, ℕ, Some, length, slice_get, subst}
use Rattle.payload_writing.proofs.Guids.{last_is}
use Rattle.payload_writing.proofs.segments.class_guid.Goals as goal

pub returns-in-Some : goal.returns-in-Some
returns-in-Some c = λ segments.
    last_is segments c.args.class.now.path c.in-Some.guid.now
    (subst (λ (path : List ℕ). Some c.in-Some.guid.now ≡ slice_get path (length path - 1)) c.as_slice.ensures
    c.in-Some.ensures.value)
