-- An end that is alive hears what the definitions say, and a dead one nothing.
use Rattle.std.proofs.Common.{◌≡◌, ◌∷◌, Bool, true, false, refl, sym}
use Rattle.std.proofs.lemmas.Bool.{false≢true}
use Rattle.protocol_model.specs.Value.{Table}
use Rattle.connection_model.specs.Feed.{End, Event, Past, has_ended}
use Rattle.connection_model.specs.Feed as feed
use Rattle.connection_model.specs.Past.{after_event, past_of}
use Rattle.net_driver.specs.Served.{Seat, heard, past_for, past_as, end_for}

after_ended : (end : End) (past : Past) (event : Event) → has_ended past ≡ true → after_event end past event ≡ past
after_ended end past (feed.Tick sight) e = rw e refl
after_ended end past (feed.Got bytes) e = rw e refl
after_ended end past (feed.Call a n args) e = rw e refl

pub ignored : (table : Table) (t : Seat) (event : Event) → has_ended (past_for table t) ≡ true
    → past_for table (heard event t) ≡ past_for table t
ignored table t event e = go t.lost refl e
  where
    go : (b : Bool) → t.lost ≡ b → has_ended (past_as b (end_for table t) t.feed) ≡ true
        → past_as t.lost (end_for table t) (event ∷ t.feed) ≡ past_as t.lost (end_for table t) t.feed
    go true q e = rw q refl
    go false q e = rw q (after_ended (end_for table t) (past_of (end_for table t) t.feed) event e)

-- a living end hears what the definitions say
pub hears : (table : Table) (t : Seat) (event : Event) → has_ended (past_for table t) ≡ false
    → past_for table (heard event t) ≡ after_event (end_for table t) (past_for table t) event
hears table t event e = go t.lost refl e
  where
    go : (b : Bool) → t.lost ≡ b → has_ended (past_as b (end_for table t) t.feed) ≡ false
        → past_as t.lost (end_for table t) (event ∷ t.feed)
        ≡ after_event (end_for table t) (past_as t.lost (end_for table t) t.feed) event
    go true q e = absurd (false≢true (sym e))
    go false q e = rw q refl
