-- What a server makes and sends is in its place at the client.
use Rattle.std.proofs.Common.{◌≡◌, ℕ, ◌==◌, ◌&&◌, [], ◌∷◌, Bool, true, false, cond, subst, Option, Some, None}
use Rattle.std.specs.List.{filter_map, cons_option, slice_get}
use Rattle.std.specs.Bool.{then_some}
use Rattle.std.proofs.lemmas.Bool.{eq-eqb}
use Rattle.protocol_model.specs.Packet.{Bunch}
use Rattle.protocol_model.specs.Payload.{Message, Opens, Closes, Updates, Calls, Gone}
use Rattle.protocol_model.specs.Search.{newest_of}
use Rattle.protocol_model.specs.Side.{Side, AtServer, AtClient}
use Rattle.connection_model.specs.Feed.{End, Past, Deed, Ticked, Made, Waits, Sent, Took, Ended, has_ended}
use Rattle.connection_model.specs.Bunches.{made_bunch}
use Rattle.connection_model.specs.State.{state_of, is_opened, index_of}
use Rattle.connection_model.specs.CallAnswers.{call_channel}
use Rattle.connection_model.specs.Items.{made_as}
use Rattle.connection_model.specs.Verdict.{is_misplaced}
use Rattle.connection_laws.specs.Run.{Move, Ticks, Makes, Defers, Sends, Takes, Hears, Hands, Ends, after_move, May, MayMake, HasLoosePlace, IsRun}
use Rattle.connection_laws.specs.Deeds.{EachDeed}
use Rattle.connection_laws.proofs.Moves.{making_keeps, told_keeps, handed_keeps}
use Rattle.connection_laws.proofs.Deeds.{always}
use Rattle.connection_laws.proofs.ActorMarks.{holds_fit}
use Rattle.payload_laws.specs.Passing.{is_gone}
use Rattle.payload_laws.proofs.HeaderRules.{client_placed, loose_placed}
use Rattle.headline_laws.specs.Placed.{PlacedAtClient}
use Rattle.protocol_laws.proofs.Bounds.{not_zero}

-- a Gone goes on channel 0, and all else elsewhere
abbrev pub Rule : Past → Deed → Type 0
Rule past (Made ch n m i) = (ch == 0) ≡ is_gone m
Rule past (Ticked t sight) = Unit {0}
Rule past (Waits m) = Unit {0}
Rule past (Sent n t items) = Unit {0}
Rule past (Took n es ds) = Unit {0}
Rule past (Ended g) = Unit {0}

-- an index that is held is above 0
index_above : (end : End) (past : Past) (a ch : ℕ) → IsRun end past → index_of past a ≡ Some ch → (ch == 0) ≡ false
index_above end past a ch run e = not_zero ch ((holds_fit end past run).above a ch e)

-- a call's channel is above 0
call_above : (end : End) (past : Past) (a ch : ℕ) → IsRun end past → call_channel AtServer past a ≡ Some ch → (ch == 0) ≡ false
call_above end past a ch run e = by (is_opened (state_of past a)) e
  where
    by : (b : Bool) → cond b (index_of past a) None ≡ Some ch → (ch == 0) ≡ false
    by true e = index_above end past a ch run e
    by false e = absurd (let no : (let o : Option ℕ = None in o) ≡ Some ch = e in cc)

-- a message is made on index 0 if it is a Gone
pub rule_made : (end : End) (past : Past) (ch : ℕ) (m : Message) → end.side ≡ AtServer → IsRun end past → MayMake end past ch m → (ch == 0) ≡ is_gone m
rule_made end past ch (Opens exports a class values) s run may = not_zero ch may.place.0
rule_made end past ch (Closes a sleeps) s run may = index_above end past a ch run may.place.0
rule_made end past ch (Updates a class values) s run may = absurd may.place
rule_made end past ch (Calls a n call args) s run may = call_above end past a ch run (subst (λ (x : Side). call_channel x past a ≡ Some ch) s may.place.0)
rule_made end past ch (Gone a) s run may = eq-eqb ch 0 may.place.0

-- each message was
pub rules : (end : End) (past : Past) → end.side ≡ AtServer → IsRun end past → EachDeed Rule past
rules end past s run = always end (EachDeed Rule) tt step past run
  where
    step : (past : Past) (move : Move) → IsRun end past → has_ended past ≡ false → May end past move → EachDeed Rule past → EachDeed Rule (after_move past move)
    step past (Ticks sight) run alive may h = (tt, h)
    step past (Makes c m) run alive may h = making_keeps (λ i before. EachDeed Rule before) past c m h (λ i before lt q. (rule_made end past c m s run may, q))
    step past (Defers m) run alive may h = (tt, h)
    step past (Sends items) run alive may h = (tt, h)
    step past (Takes n) run alive may h = (tt, h)
    step past (Hears entry) run alive may h = told_keeps (EachDeed Rule) entry past h (λ n es ds before q. (tt, q.1))
    step past (Hands d) run alive may h = handed_keeps (EachDeed Rule) d past h (λ n es ds before q. (tt, q.1))
    step past (Ends g) run alive may h = (tt, h)

-- a bunch that was made is in its place
found_placed : (past : Past) (ch n : ℕ) (b : Bunch) → EachDeed Rule past → newest_of (made_as ch n) past ≡ Some b → is_misplaced AtClient b ≡ false
found_placed [] ch n b f e = absurd (let no : (let o : Option Bunch = None in o) ≡ Some b = e in cc)
found_placed (Made c k m i ∷ past) ch n b f e = by ((c == ch) && (k == n)) e (λ q. found_placed past ch n b f.1 q)
  where
    same : (x y : Bunch) → (let o : Option Bunch = Some x in o) ≡ Some y → x ≡ y
    same x y q = cc

    by : (t : Bool) → slice_get (cons_option (then_some t (made_bunch c k m i)) (filter_map (made_as ch n) past)) 0 ≡ Some b → (newest_of (made_as ch n) past ≡ Some b → is_misplaced AtClient b ≡ false) → is_misplaced AtClient b ≡ false
    by true q ih = subst (λ (x : Bunch). is_misplaced AtClient x ≡ false) (same (made_bunch c k m i) b q) (client_placed c k m i f.0)
    by false q ih = ih q
found_placed (Ticked t s ∷ past) ch n b f e = found_placed past ch n b f.1 e
found_placed (Waits m ∷ past) ch n b f e = found_placed past ch n b f.1 e
found_placed (Sent k t items ∷ past) ch n b f e = found_placed past ch n b f.1 e
found_placed (Took k es ds ∷ past) ch n b f e = found_placed past ch n b f.1 e
found_placed (Ended g ∷ past) ch n b f e = found_placed past ch n b f.1 e

-- an unreliable message is not sent on index 0
pub loose_above : (end : End) (past : Past) (ch : ℕ) (m : Message) → end.side ≡ AtServer → IsRun end past → HasLoosePlace end past ch m → (ch == 0) ≡ false
loose_above end past ch (Opens exports a class values) s run p = absurd p
loose_above end past ch (Closes a sleeps) s run p = absurd p
loose_above end past ch (Gone a) s run p = absurd p
loose_above end past ch (Updates a class values) s run p = index_above end past a ch run p.1
loose_above end past ch (Calls a n call args) s run p = call_above end past a ch run (subst (λ (x : Side). call_channel x past a ≡ Some ch) s p.1)

-- what a server sends is in its place
pub placed_at_client : (end : End) (past : Past) → end.side ≡ AtServer → IsRun end past → PlacedAtClient end past
placed_at_client end past s run = record {
  made = λ ch n b e. found_placed past ch n b (rules end past s run) e;
  loose = λ ch m p. loose_placed AtClient ch m (loose_above end past ch m s run p);
}
