-- A line that no reason refuses may follow.
use Rattle.std.proofs.Common.{◌≡◌, ℕ, ◌≤◌, ◌<◌, List, length, Bool, true, false, not, ◌&&◌, cond, nat_le, ℤ, pos, negsuc, refl, sym, ◌∙◌, subst, arith, Option, Some, None, is_some, is_none}
use Rattle.std.proofs.lemmas.Bool.Decides.{nat_tests}
use Rattle.std.proofs.lemmas.Bool.{not-false, not-true}
use Rattle.protocol_model.specs.declared.LineWhy.TheVariants as why
use Rattle.protocol_model.specs.declared.Way.{Way}
use Rattle.protocol_model.specs.declared.Way.TheVariants.{Server, Client, Multicast}
use Rattle.protocol_model.specs.Limits.{player_limit, budget_limit, connection_limit}
use Rattle.protocol_model.specs.Payload.{natural}
use Rattle.protocol_model.specs.Side.{AtServer, AtClient}
use Rattle.protocol_model.specs.Value.{Table, Call, goes_up}
use Rattle.protocol_model.specs.World.{Edits}
use Rattle.script_model.specs.Lines.{Text}
use Rattle.script_model.specs.Script.{Spelled, Join, Spawn, Destroy, Set, Own, View, Add, Dormant, Wake, Flush, Switch, Team, Give, Tick, ClientTick, Deliver, DeliverNew, CallTo, CallAll, Dump, AskSettled, Forge}
use Rattle.script_model.specs.ScriptRules.{Before, is_from_to, is_in_range, if_there, is_actor, actor_in, class_named, class_in, guid_of, named_in, goes_right, call_in, call_number, call_args, has_value, is_past_last, has_joined, player_in, joining_player, is_player, refusal_of, line_of}
use Rattle.replication_model.specs.Story.{Story}
use Rattle.protocol_laws.proofs.Booleans.{left_of, right_of}
use Rattle.following_laws.specs.Following.{has_player, MayCall, Follows}
use Rattle.following_laws.proofs.Players.{Agrees}
use Rattle.following_laws.proofs.Arguments.{may_call}
use Rattle.following_laws.proofs.FollowingEdits.{EditFollows}

-- ---- a line that no reason refuses

-- no reason refuses the line
record Allows (table : Table) (before : Before) (line : Spelled) : Type 0 where
  range : is_in_range line ≡ true
  player : if_there (has_joined before) (player_in line) ≡ true
  new : (is_some (joining_player line) && if_there (has_joined before) (joining_player line)) ≡ false
  actor : if_there (is_actor before.edits) (actor_in line) ≡ true
  named : is_none (named_in table before line) ≡ false
  way : if_there (λ (call : Call). goes_right line call.way) (call_in table before line) ≡ true
  value : has_value table before line ≡ true
  few : is_past_last before line ≡ false

-- a test that refuses nothing failed, and so did the rest
past_test : {A : Type 0} (t : Bool) (x : A) (rest : Option A) → cond t (Some x) rest ≡ None
    → (t ≡ false) × (rest ≡ None)
past_test true x rest h = absurd (cc)
past_test false x rest h = (refl, h)

-- a line without a refusal has none of these reasons
allows : (table : Table) (before : Before) (line : Spelled) → refusal_of table false before line ≡ None
    → Allows table before line
allows table before line h =
    let place = past_test false why.Place _ h in
    let range = past_test (not (is_in_range line)) why.Range _ place.1 in
    let player = past_test (not (if_there (has_joined before) (player_in line))) why.NoPlayer _ range.1 in
    let joins = is_some (joining_player line) && if_there (has_joined before) (joining_player line) in
    let taken = past_test joins why.Taken _ player.1 in
    let known = if_there (λ name. is_some (class_named table name)) (class_in line) in
    let class = past_test (not known) why.NoClass _ taken.1 in
    let actor = past_test (not (if_there (is_actor before.edits) (actor_in line))) why.NoActor _ class.1 in
    let named = past_test (is_none (named_in table before line)) why.NoName _ actor.1 in
    let right = if_there (λ (call : Call). goes_right line call.way) (call_in table before line) in
    let way = past_test (not right) why.Kind _ named.1 in
    let value = past_test (not (has_value table before line)) why.Value _ way.1 in
    let few = past_test (is_past_last before line) why.Full None value.1 in
    record {
      range = not-false _ range.0;
      player = not-false _ player.0;
      new = taken.0;
      actor = not-false _ actor.0;
      named = named.0;
      way = not-false _ way.0;
      value = not-false _ value.0;
      few = few.0;
    }

-- ---- numbers

-- a number from one to another, as a natural
from_to : (low high : ℕ) (z : ℤ) → is_from_to low high z ≡ true → (low ≤ natural z) × (natural z ≤ high)
from_to low high (pos n) h = by low n high h
  where
    by : (low n high : ℕ) → (nat_le low n && nat_le n high) ≡ true → (low ≤ n) × (n ≤ high)
    by low n high h =
        (at_most low n (left_of (nat_le low n) _ h), at_most n high (right_of (nat_le low n) _ h))
      where
        at_most : (a b : ℕ) → nat_le a b ≡ true → a ≤ b
        at_most a b h = grind (arith, nat_tests)
from_to low high (negsuc n) h = absurd (cc)

-- fewer than the limit
below_limit : (limit n : ℕ) → nat_le limit n ≡ false → n < limit
below_limit limit n h = grind (arith, nat_tests)

-- ---- one line

-- a player who joined before is there
is_there : (before : Before) (story : Story) (player : ℤ) → Agrees before story → has_joined before player ≡ true
    → has_player story.players (natural player) ≡ true
is_there before story player a h = a.joined (natural player) ∙ h

-- what goes to clients doesn't go up
goes_down : (way : Way) → not (goes_up way) ≡ true → goes_up way ≡ false
goes_down way h = not-true (goes_up way) h

-- nor does what goes to all of them
goes_to_all : (actor : ℤ) (name : Text) (args : List Text) (way : Way) → goes_right (CallAll actor name args) way ≡ true
    → goes_up way ≡ false
goes_to_all actor name args Multicast h = refl
goes_to_all actor name args Client h = refl
goes_to_all actor name args Server h = absurd (cc)

-- the server may make the call that a line is
abbrev MayBeCalled : Table → Before → Edits → (actor : ℤ) → Spelled → List Text → Type 0
MayBeCalled table before edits actor line args =
    MayCall table edits (guid_of actor) (call_number table before line) (call_args table before line args)

-- so it may for one player
calls_one : (table : Table) (before : Before) (story : Story) (player actor : ℤ) (name : Text) (args : List Text)
    → Agrees before story → Allows table before (CallTo AtServer player actor name args)
    → MayBeCalled table before story.edits actor (CallTo AtServer player actor name args) args
calls_one table before story player actor name args a h =
    let line : Spelled = CallTo AtServer player actor name args in
    subst (λ (edits : Edits). MayBeCalled table before edits actor line args) (sym a.edits)
    (may_call table before.edits (guid_of actor) name args (λ way. not (goes_up way)) goes_down h.actor h.named h.way
    h.value)

-- and for each player
calls_all : (table : Table) (before : Before) (story : Story) (actor : ℤ) (name : Text) (args : List Text)
    → Agrees before story → Allows table before (CallAll actor name args)
    → MayBeCalled table before story.edits actor (CallAll actor name args) args
calls_all table before story actor name args a h =
    let line : Spelled = CallAll actor name args in
    subst (λ (edits : Edits). MayBeCalled table before edits actor line args) (sym a.edits)
    (may_call table before.edits (guid_of actor) name args (goes_right line) (goes_to_all actor name args) h.actor
    h.named h.way h.value)

-- a line that no reason refuses may follow
follows_by : (table : Table) (before : Before) (story : Story) (line : Spelled) → Agrees before story
    → Allows table before line → EditFollows table story (line_of table before line)
    → Follows table story (line_of table before line)
follows_by table before story (Join version player budget) a h edit =
    let number = from_to 1 player_limit player (left_of (is_player player) _ h.range) in
    let room = from_to 1 budget_limit budget (right_of (is_player player) _ h.range) in
    record {
      least = number.0;
      most = number.1;
      some_budget = room.0;
      most_budget = room.1;
      new = a.joined (natural player) ∙ h.new;
      few = subst (λ n. n < connection_limit) (sym a.count) (below_limit connection_limit (length before.joined) h.few);
    }
follows_by table before story (Spawn class x y) a h edit = edit
follows_by table before story (Destroy actor) a h edit = edit
follows_by table before story (Set actor name value) a h edit = edit
follows_by table before story (Own actor player) a h edit = edit
follows_by table before story (View player x y) a h edit = edit
follows_by table before story (Add on actor player) a h edit = edit
follows_by table before story (Dormant actor) a h edit = edit
follows_by table before story (Wake actor) a h edit = edit
follows_by table before story (Flush actor) a h edit = edit
follows_by table before story (Switch actor name on) a h edit = edit
follows_by table before story (Team player team) a h edit = edit
follows_by table before story (Give actor team) a h edit = edit
follows_by table before story Tick a h edit = tt
follows_by table before story (ClientTick player) a h edit = is_there before story player a h.player
follows_by table before story (Deliver side player number) a h edit =
    (is_there before story player a h.player, (from_to 1 1000000 number (right_of (is_player player) _ h.range)).0)
follows_by table before story (DeliverNew side player every) a h edit = is_there before story player a h.player
follows_by table before story (CallTo AtServer player actor name args) a h edit =
    (is_there before story player a h.player, calls_one table before story player actor name args a h)
follows_by table before story (CallTo AtClient player actor name args) a h edit =
    is_there before story player a h.player
follows_by table before story (CallAll actor name args) a h edit = calls_all table before story actor name args a h
follows_by table before story (Dump player) a h edit = is_there before story player a h.player
follows_by table before story (AskSettled player actor) a h edit = is_there before story player a h.player
follows_by table before story (Forge side player bytes) a h edit = is_there before story player a h.player

-- a line without a refusal may follow
pub line_follows : (table : Table) (before : Before) (story : Story) (line : Spelled) → Agrees before story
    → refusal_of table false before line ≡ None → EditFollows table story (line_of table before line)
    → Follows table story (line_of table before line)
line_follows table before story line a h edit = follows_by table before story line a (allows table before line h) edit
