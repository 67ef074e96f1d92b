-- Edits that change the record of one actor alone.
use Rattle.std.specs.Prelude.{ℕ, ◌+◌, true, false, Result, Ok, Err, nat_le, if◌then◌else◌}
use Rattle.protocol_model.specs.Limits.{team_limit}
use Rattle.world_table.specs.declared.actor.Actor.{Actor}
use Rattle.world_table.specs.declared.change.Change.{Change}
use Rattle.world_table.specs.declared.edit.Edit.{Edit}
use Rattle.world_table.specs.declared.edit.EditRefusal.{EditRefusal}
use Rattle.world_table.specs.Answers.{may_own}

-- the edit that changes the actor's record so
abbrev pub change_edit : (actor : ℕ) → Change → Edit
change_edit a Change.End = Edit.Destroy a
change_edit a (Change.Owner player) = Edit.Own a player
change_edit a (Change.Dormant true) = Edit.Dormant a
change_edit a (Change.Dormant false) = Edit.Wake a
change_edit a Change.Flush = Edit.Flush a
change_edit a (Change.Given team) = Edit.Give a team

-- the record after the change, or why the change isn't taken
abbrev pub record_after : Actor → Change → Result Actor EditRefusal
record_after r Change.End = Ok (record r { look = record r.look { alive = false } })
record_after r (Change.Owner player) =
    if may_own player then Ok (record r { look = record r.look { owner = player } }) else Err EditRefusal.OutOfRange
record_after r (Change.Dormant dormant) = Ok (record r { look = record r.look { dormant = dormant } })
record_after r Change.Flush = Ok (record r { look = record r.look { flush = r.look.flush + 1 } })
record_after r (Change.Given team) =
    if nat_le team team_limit then Ok (record r { given = team }) else Err EditRefusal.OutOfRange
