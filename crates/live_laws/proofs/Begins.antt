-- What a run did stays in front of what it does later.
use Rattle.std.proofs.Common.{ℕ, zero, suc, List, [], ◌++◌, Bool, true, false, sym, ◌∙◌, append_assoc, append-nil}
use Rattle.std.specs.Prelude.{is_some, if◌then◌else◌}
use Rattle.protocol_model.specs.Value.{Table}
use Rattle.replication_model.specs.Headline.{IsPrefix}
use Rattle.live_model.specs.Server.{Served, after_server_turn}
use Rattle.live_model.specs.Caller.{Called, after_caller_turn}
use Rattle.live_model.specs.Runs.{Both, after_server_turns, after_caller_turns, after_turns}

-- a list begins itself
pub begins_itself : {A : Type 0} → (xs : List A) → IsPrefix xs xs
begins_itself xs = ([], sym (append-nil xs))

-- what begins a front begins the whole
pub begins_further : {A : Type 0} → (xs more all : List A) → IsPrefix (xs ++ more) all → IsPrefix xs all
begins_further xs more all is = (more ++ is.0, is.1 ∙ append_assoc xs more is.0)

-- a server's turns
pub server_turns_begin : (table : Table) (digest : List ℕ) (turns : ℕ) (served : Served)
    → IsPrefix served.1 (after_server_turns table digest turns served).1
server_turns_begin table digest zero served = begins_itself served.1
server_turns_begin table digest (suc turns) served =
    let next = after_server_turn table digest served.0 in
    begins_further served.1 next.1 _ (server_turns_begin table digest turns (next.0, served.1 ++ next.1))

-- a client's turns
pub caller_turns_begin : (table : Table) (digest : List ℕ) (turns : ℕ) (called : Called)
    → IsPrefix called.1 (after_caller_turns table digest turns called).1
caller_turns_begin table digest zero called = begins_itself called.1
caller_turns_begin table digest (suc turns) called =
    let next = after_caller_turn table digest called.0 in
    one (is_some called.0.refused) _ (begins_further called.1 next.1 _
    (caller_turns_begin table digest turns (next.0, called.1 ++ next.1)))
  where
    one : (ended : Bool) (on : Called) → IsPrefix called.1 on.1
        → IsPrefix called.1 (if ended then called else on).1
    one true on is = begins_itself called.1
    one false on is = is

-- turns of both ends
pub turns_begin : (table : Table) (digest : List ℕ) (turns : ℕ) (both : Both)
    → IsPrefix both.1 (after_turns table digest turns both).1
turns_begin table digest zero both = begins_itself both.1
turns_begin table digest (suc turns) both =
    let served = after_server_turn table digest both.0.0 in
    let called = after_caller_turn table digest both.0.1 in
    one (is_some both.0.1.refused) _ (begins_further both.1 served.1 _
    (begins_further (both.1 ++ served.1) called.1 _
    (turns_begin table digest turns ((served.0, called.0), both.1 ++ served.1 ++ called.1))))
  where
    one : (ended : Bool) (on : Both) → IsPrefix both.1 on.1 → IsPrefix both.1 (if ended then both else on).1
    one true on is = begins_itself both.1
    one false on is = is
