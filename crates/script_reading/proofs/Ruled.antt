-- What each line comes to by what is kept is what the rules of every script say of it.
use Rattle.std.proofs.Common.{◌≡◌, ℕ, List, [], length, refl, ◌∙◌, Bool, true, false, not, ◌&&◌, ◌||◌, nat_le, Option, Some, None, is_some, is_none, unwrap_or, option_and_then, Result, Ok, ℤ, pos}
use Rattle.std.specs.Bool.{then_some}
use Rattle.std.specs.Option.{ok_or}
use Rattle.protocol_model.specs.declared.LineWhy.{LineWhy}
use Rattle.protocol_model.specs.declared.LineWhy.TheVariants.{Place, Range, NoPlayer, Taken, NoClass, NoActor, NoName, Full}
use Rattle.protocol_model.specs.declared.LineWhy.TheVariants as why
use Rattle.protocol_model.specs.declared.Way.{Way}
use Rattle.protocol_model.specs.declared.Way.TheVariants.{Server, Client, Multicast}
use Rattle.protocol_model.specs.Limits.{budget_limit, connection_limit, player_limit, spawn_limit, team_limit}
use Rattle.protocol_model.specs.Payload.{natural}
use Rattle.protocol_model.specs.Search.{is_among}
use Rattle.protocol_model.specs.Side.{AtServer, AtClient}
use Rattle.protocol_model.specs.Value.{Table, Class, Prop, Call, Arg, fits, prop_at, call_at, goes_up}
use Rattle.protocol_model.specs.World as world
use Rattle.protocol_model.specs.World.{spawn_count}
use Rattle.script_model.specs.Lines as story
use Rattle.script_model.specs.Lines.{Line, Text}
use Rattle.script_model.specs.Script.{Spelled, Join, Spawn, Destroy, Set, Own, View, Add, Dormant, Wake, Flush, Switch, Team, Give, Tick, ClientTick, Deliver, DeliverNew, CallTo, CallAll, Dump, AskSettled, Forge, number_of}
use Rattle.script_model.specs.ScriptRules as rules
use Rattle.script_model.specs.ScriptRules.{Before, is_from_to, is_player, is_coordinate, guid_of, is_actor, class_named, class_at_line, settable_handle, switchable_handle, call_named, args_of, goes_right, refusal_of, line_of, if_there}
use Rattle.script_reading.specs.Kept.{Kept}
use Rattle.script_reading.specs.Judging.{judged, must, not_live, player_of, within, coordinate_of, must_join, may_join, may_spawn, joined_in, numbered_in, class_of, settable_of, value_of, switchable_of, called_of, args_in, is_multicast, ◌>>=◌}
use Rattle.script_reading.specs.Stands.{Stands}
use Rattle.script_reading.proofs.Judged.{chain, outcome, ruled, found, ranged, edit_rule, ranged_edit_rule, two_ranged_rule, view_rule, spawn_rule, join_rule, joined_rule, numbered_rule, settled_rule, switch_rule}
use Rattle.script_reading.proofs.Named.{Is_there, settable_there, call_there}
use Rattle.script_reading.proofs.Standing.{actor_is}

-- ---- values

-- a property that can be set, and its value
set_tail : (class : Class) (name text : Text) (make : ℕ → ℤ → Line)
    → (settable_of class name >>= (λ h. value_of h.1 text >>= (λ v. Ok (make h.0 v))))
    ≡ outcome (chain false false false false false false (is_none (settable_handle class name)) false
    (not (is_some (rules.value_of class name text))) false)
    (make (unwrap_or (settable_handle class name) 0) (unwrap_or (rules.value_of class name text) (pos 0)))
unfolding settable_of value_of
set_tail class name text make = by_handle (settable_handle class name) refl
  where
    by_fit : (h : ℕ) (v : ℤ) (t : Bool)
        → (ok_or (then_some t v) why.Value >>= (λ v. Ok (make h v)))
        ≡ outcome (chain false false false false false false false false (not (is_some (then_some t v))) false)
        (make h (unwrap_or (then_some t v) (pos 0)))
    by_fit h v true = refl
    by_fit h v false = refl

    by_number : (h : ℕ) (p : Prop) (o : Option ℤ)
        → (ok_or o why.Value >>= (λ v. ok_or (then_some (fits p.kind v) v) why.Value) >>= (λ v. Ok (make h v)))
        ≡ outcome (chain false false false false false false false false
        (not (is_some (option_and_then (λ v. then_some (fits p.kind v) v) o))) false)
        (make h (unwrap_or (option_and_then (λ v. then_some (fits p.kind v) v) o) (pos 0)))
    by_number h p None = refl
    by_number h p (Some v) = by_fit h v (fits p.kind v)

    by_prop : (h : ℕ) → settable_handle class name ≡ Some h → Is_there (prop_at class h)
        → (settable_of class name >>= (λ h. value_of h.1 text >>= (λ v. Ok (make h.0 v))))
        ≡ outcome (chain false false false false false false (is_none (settable_handle class name)) false
        (not (is_some (rules.value_of class name text))) false)
        (make (unwrap_or (settable_handle class name) 0) (unwrap_or (rules.value_of class name text) (pos 0)))
    by_prop h e there = rw (e, there.1) (by_number h there.0 (number_of text))

    by_handle : (o : Option ℕ) → settable_handle class name ≡ o
        → (settable_of class name >>= (λ h. value_of h.1 text >>= (λ v. Ok (make h.0 v))))
        ≡ outcome (chain false false false false false false (is_none (settable_handle class name)) false
        (not (is_some (rules.value_of class name text))) false)
        (make (unwrap_or (settable_handle class name) 0) (unwrap_or (rules.value_of class name text) (pos 0)))
    by_handle None e = rw e refl
    by_handle (Some h) e = by_prop h e (settable_there class name h e)

-- after the actor was found, or not
set_rule : (l a : Bool) (g : ℕ) (c : Class) (name text : Text) (make : ℕ → ℕ → ℤ → Line)
    → (found a g c >>= (λ x. settable_of x.1 name >>= (λ h. value_of h.1 text >>= (λ v. Ok (make x.0 h.0 v)))))
    ≡ outcome (chain (l && false) false (not l && false) false false (not a) (is_none (settable_handle c name)) false
    (not (is_some (rules.value_of c name text))) false)
    (make g (unwrap_or (settable_handle c name) 0) (unwrap_or (rules.value_of c name text) (pos 0)))
set_rule true true g c name text make = set_tail c name text (make g)
set_rule true false g c name text make = refl
set_rule false true g c name text make = set_tail c name text (make g)
set_rule false false g c name text make = refl

-- ---- calls

-- the call of a name, which goes the right way, and its arguments
abbrev called_and : Class → Text → List Text → (goes : Way → Bool) → (make : ℕ → List Arg → Line) → Result Line LineWhy
called_and class name args goes make =
    called_of class name (length args) >>= (λ called. must (goes called.1.way) why.Kind >>= (λ _.
    args_in called.1 args >>= (λ values. Ok (make called.0 values))))

-- what the rules say of it, after the place, the range, the player and the actor
abbrev call_outcome : (place range player actor : Bool) → Class → Text → List Text → (right : Way → Bool)
    → (make : ℕ → List Arg → Line) → Result Line LineWhy
call_outcome a b c f class name args right make =
    outcome (chain a b c false false f (is_none (call_named class name (length args)))
    (not (if_there (λ (call : Call). right call.way)
    (option_and_then (call_at class) (call_named class name (length args)))))
    (not (if_there (λ (call : Call). is_some (args_of call.args args))
    (option_and_then (call_at class) (call_named class name (length args))))) false)
    (make (unwrap_or (call_named class name (length args)) 0)
    (unwrap_or (option_and_then (λ (call : Call). args_of call.args args)
    (option_and_then (call_at class) (call_named class name (length args)))) []))

call_tail : (class : Class) (name : Text) (args : List Text) (goes right : Way → Bool) (make : ℕ → List Arg → Line)
    → ((way : Way) → goes way ≡ right way)
    → called_and class name args goes make ≡ call_outcome false false false false class name args right make
unfolding called_of args_in
call_tail class name args goes right make same = by_name (call_named class name (length args)) refl
  where
    by_args : (n : ℕ) (r : Bool) (o : Option (List Arg))
        → (must r why.Kind >>= (λ _. ok_or o why.Value >>= (λ values. Ok (make n values))))
        ≡ outcome (chain false false false false false false false (not r) (not (is_some o)) false)
        (make n (unwrap_or o []))
    by_args n true None = refl
    by_args n true (Some values) = refl
    by_args n false o = refl

    by_call : (n : ℕ) → call_named class name (length args) ≡ Some n → Is_there (call_at class n)
        → called_and class name args goes make ≡ call_outcome false false false false class name args right make
    by_call n e there = rw (e, there.1, same there.0.way) (by_args n (right there.0.way) (args_of there.0.args args))

    by_name : (o : Option ℕ) → call_named class name (length args) ≡ o
        → called_and class name args goes make ≡ call_outcome false false false false class name args right make
    by_name None e = rw e refl
    by_name (Some n) e = by_call n e (call_there class name (length args) n e)

-- after the actor was found, or not
multi_rule : (l a : Bool) (g : ℕ) (c : Class) (name : Text) (args : List Text) (goes right : Way → Bool)
    (make : ℕ → ℕ → List Arg → Line) → ((way : Way) → goes way ≡ right way)
    → (found a g c >>= (λ x. called_and x.1 name args goes (make x.0)))
    ≡ call_outcome (l && false) false (not l && false) (not a) c name args right (make g)
multi_rule true true g c name args goes right make same = call_tail c name args goes right (make g) same
multi_rule true false g c name args goes right make same = refl
multi_rule false true g c name args goes right make same = call_tail c name args goes right (make g) same
multi_rule false false g c name args goes right make same = refl

-- and the player joined before, or not
joined_call : (j a : Bool) (n g : ℕ) (c : Class) (name : Text) (args : List Text) (goes right : Way → Bool)
    (make : ℕ → ℕ → ℕ → List Arg → Line) → ((way : Way) → goes way ≡ right way)
    → (must j NoPlayer >>= (λ _. found a g c >>= (λ x. called_and x.1 name args goes (make n x.0))))
    ≡ call_outcome false false (not j) (not a) c name args right (make n g)
joined_call false a n g c name args goes right make same = refl
joined_call true a n g c name args goes right make same = multi_rule false a g c name args goes right (make n) same

-- a server's call may be of any player in a live script
call_rule : (l r a : Bool) (kept_in in_before : ℕ → Bool) (n g : ℕ) (c : Class) (name : Text) (args : List Text)
    (goes right : Way → Bool) (make : ℕ → ℕ → ℕ → List Arg → Line) → kept_in n ≡ in_before n
    → ((way : Way) → goes way ≡ right way)
    → (ranged r n >>= (λ p. must (l || kept_in p) NoPlayer
    >>= (λ _. found a g c >>= (λ x. called_and x.1 name args goes (make p x.0)))))
    ≡ call_outcome (l && false) (not r) (not l && not (in_before n)) (not a) c name args right (make n g)
call_rule true false a ki ib n g c name args goes right make joined same = refl
call_rule true true a ki ib n g c name args goes right make joined same =
    multi_rule true a g c name args goes right (make n) same
call_rule false false a ki ib n g c name args goes right make joined same = refl
call_rule false true a ki ib n g c name args goes right make joined same =
    rw joined (joined_call (ib n) a n g c name args goes right make same)

must_then : {A : Type 0} (j : Bool) (n : ℕ) (after : ℕ → Result A LineWhy)
    → (must j NoPlayer >>= (λ _. Ok n) >>= after) ≡ (must j NoPlayer >>= (λ _. after n))
must_then true n after = refl
must_then false n after = refl

client_call_rule : (l r a : Bool) (kept_in in_before : ℕ → Bool) (n g : ℕ) (c : Class) (name : Text) (args : List Text)
    (goes right : Way → Bool) (make : ℕ → ℕ → ℕ → List Arg → Line) → kept_in n ≡ in_before n
    → ((way : Way) → goes way ≡ right way)
    → (must (not l) Place >>= (λ _. ranged r n >>= (λ p. must (l || kept_in p) NoPlayer >>= (λ _. Ok p)))
    >>= (λ p. found a g c >>= (λ x. called_and x.1 name args goes (make p x.0))))
    ≡ call_outcome (l && true) (not r) (not l && not (in_before n)) (not a) c name args right (make n g)
client_call_rule true r a ki ib n g c name args goes right make joined same = refl
client_call_rule false false a ki ib n g c name args goes right make joined same = refl
client_call_rule false true a ki ib n g c name args goes right make joined same =
    rw joined (must_then (ib n) n (λ p. found a g c >>= (λ x. called_and x.1 name args goes (make p x.0)))
    ∙ joined_call (ib n) a n g c name args goes right make same)

-- a call to every player is a multicast
multicasts : (actor : ℤ) (name : Text) (args : List Text) (way : Way)
    → is_multicast way ≡ goes_right (CallAll actor name args) way
multicasts actor name args Server = refl
multicasts actor name args Client = refl
multicasts actor name args Multicast = refl

-- ---- every kind

pub judged_is : (table : Table) (live : Bool) (kept : Kept) (before : Before) (line : Spelled)
    → Stands table kept before
    → judged table live kept line ≡ ruled table live before line
unfolding not_live player_of within coordinate_of must_join may_join may_spawn joined_in numbered_in class_of
    switchable_of
judged_is table live kept before (Join version player budget) s =
    rw s.joined (join_rule live (is_player player) (is_from_to 1 budget_limit budget) (λ p. is_among p kept.players)
    (λ p. is_among p before.joined) (nat_le connection_limit (length before.joined)) (natural player) (natural budget)
    (λ p b. story.Join p b version) (s.players (natural player)))
judged_is table live kept before (Spawn class x y) s =
    rw s.count (spawn_rule live (is_coordinate x) (is_coordinate y) (nat_le spawn_limit (spawn_count before.edits))
    (class_named table class) x y (λ n x y. story.ApplyEdit (world.Spawn n x y)))
judged_is table live kept before (Destroy actor) s =
    rw (actor_is table kept before false actor s)
    (edit_rule live (is_actor before.edits (actor, false)) (guid_of actor)
    (class_at_line table before actor) world.Destroy)
judged_is table live kept before (Dormant actor) s =
    rw (actor_is table kept before false actor s)
    (edit_rule live (is_actor before.edits (actor, false)) (guid_of actor)
    (class_at_line table before actor) world.Dormant)
judged_is table live kept before (Wake actor) s =
    rw (actor_is table kept before false actor s)
    (edit_rule live (is_actor before.edits (actor, false)) (guid_of actor)
    (class_at_line table before actor) world.Wake)
judged_is table live kept before (Flush actor) s =
    rw (actor_is table kept before false actor s)
    (edit_rule live (is_actor before.edits (actor, false)) (guid_of actor)
    (class_at_line table before actor) world.Flush)
judged_is table live kept before (Set actor name text) s =
    rw (actor_is table kept before false actor s)
    (set_rule live (is_actor before.edits (actor, false)) (guid_of actor) (class_at_line table before actor) name text
    (λ a h v. story.ApplyEdit (world.Set a h v)))
judged_is table live kept before (Switch actor name on) s =
    rw (actor_is table kept before false actor s)
    (switch_rule live (is_actor before.edits (actor, false)) (guid_of actor) (class_at_line table before actor)
    (λ class. switchable_handle class name) (λ a h. story.ApplyEdit (world.Switch a h on)))
judged_is table live kept before (Own actor player) s =
    rw (actor_is table kept before false actor s)
    (ranged_edit_rule live (is_from_to 0 player_limit player) (is_actor before.edits (actor, false)) (natural player)
    (guid_of actor) (class_at_line table before actor) (λ p a. world.Own a p))
judged_is table live kept before (View player x y) s =
    view_rule live (is_player player) (is_coordinate x) (is_coordinate y) (natural player) x y
    (λ p x y. story.ApplyEdit (world.View p x y))
judged_is table live kept before (Add on actor player) s =
    rw (actor_is table kept before false actor s)
    (ranged_edit_rule live (is_player player) (is_actor before.edits (actor, false)) (natural player)
    (guid_of actor) (class_at_line table before actor) (λ p a. world.Add a p on))
judged_is table live kept before (Team player team) s =
    two_ranged_rule live (is_player player) (is_from_to 0 team_limit team) (natural player) (natural team)
    (λ p t. story.ApplyEdit (world.Team p t))
judged_is table live kept before (Give actor team) s =
    rw (actor_is table kept before false actor s)
    (ranged_edit_rule live (is_from_to 0 team_limit team) (is_actor before.edits (actor, false)) (natural team)
    (guid_of actor) (class_at_line table before actor) (λ t a. world.Give a t))
judged_is table true kept before Tick s = refl
judged_is table false kept before Tick s = refl
judged_is table live kept before (ClientTick player) s =
    joined_rule live (is_player player) (λ p. is_among p kept.players) (λ p. is_among p before.joined) (natural player)
    (λ p. story.TickClient p) (s.players (natural player))
judged_is table live kept before (Dump player) s =
    joined_rule live (is_player player) (λ p. is_among p kept.players) (λ p. is_among p before.joined) (natural player)
    (λ p. story.Dump p) (s.players (natural player))
judged_is table live kept before (Forge to player bytes) s =
    joined_rule live (is_player player) (λ p. is_among p kept.players) (λ p. is_among p before.joined) (natural player)
    (λ p. story.Forge to p bytes) (s.players (natural player))
judged_is table live kept before (Deliver to player number) s =
    numbered_rule live (is_player player) (is_from_to 1 1000000 number) (λ p. is_among p kept.players)
    (λ p. is_among p before.joined) (natural player) (natural number) (λ p n. story.Deliver to p n)
    (s.players (natural player))
judged_is table live kept before (DeliverNew to player every) s =
    numbered_rule live (is_player player) (is_from_to 0 1000 every) (λ p. is_among p kept.players)
    (λ p. is_among p before.joined) (natural player) (natural every) (λ p n. story.DeliverNew to p n)
    (s.players (natural player))
judged_is table live kept before (AskSettled player actor) s =
    rw (actor_is table kept before true actor s)
    (settled_rule live (is_player player) (is_actor before.edits (actor, true)) (λ p. is_among p kept.players)
    (λ p. is_among p before.joined) (natural player) (guid_of actor) (class_at_line table before actor)
    (λ p a. story.AskSettled p a) (s.players (natural player)))
judged_is table live kept before (CallTo AtServer player actor name args) s =
    rw (actor_is table kept before false actor s)
    (call_rule live (is_player player) (is_actor before.edits (actor, false)) (λ p. is_among p kept.players)
    (λ p. is_among p before.joined) (natural player) (guid_of actor) (class_at_line table before actor) name args
    (λ way. not (goes_up way)) (λ way. not (goes_up way)) (λ p a n values. story.CallTo AtServer p a n values)
    (s.players (natural player)) (λ way. refl))
judged_is table live kept before (CallTo AtClient player actor name args) s =
    rw (actor_is table kept before true actor s)
    (client_call_rule live (is_player player) (is_actor before.edits (actor, true)) (λ p. is_among p kept.players)
    (λ p. is_among p before.joined) (natural player) (guid_of actor) (class_at_line table before actor) name args
    goes_up goes_up (λ p a n values. story.CallTo AtClient p a n values) (s.players (natural player)) (λ way. refl))
judged_is table live kept before (CallAll actor name args) s =
    rw (actor_is table kept before false actor s)
    (multi_rule live (is_actor before.edits (actor, false)) (guid_of actor) (class_at_line table before actor) name args
    is_multicast (goes_right (CallAll actor name args)) (λ a n values. story.CallAll a n values)
    (multicasts actor name args))
