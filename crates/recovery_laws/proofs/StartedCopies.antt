-- Each copy with a channel started in a line of the script, a tick.
use Rattle.std.proofs.Common.{◌≡◌, ℕ, List, [], ◌∷◌, ◌++◌, refl, sym, subst, ◌∙◌, Option, Some, None, append_assoc}
use Rattle.std.specs.Prelude.{unwrap_or, slice_get}
use Rattle.std.specs.List.{AllByRecursion}
use Rattle.std.proofs.lemmas.List.Elements.{filter_map-append}
use Rattle.protocol_model.specs.Payload.{Opens}
use Rattle.protocol_model.specs.Side.{AtServer, AtClient}
use Rattle.protocol_model.specs.Sight.{Seen}
use Rattle.protocol_model.specs.Value.{Table}
use Rattle.script_model.specs.Lines.{Line}
use Rattle.connection_model.specs.Feed.{Past, Made, sight_of}
use Rattle.replication_model.specs.Headline.{HasJoined, IsHonest}
use Rattle.replication_model.specs.Story.{Player, story_of, end_of, past_at}
use Rattle.table_model.specs.Facts.{IsTable}
use Rattle.table_model.specs.Rules.{Entry, segments_of}
use Rattle.table_model.specs.Grammar.{table_of}
use Rattle.payload_laws.specs.Accepted.{AreAccepted}
use Rattle.headline_laws.specs.Read.{AreRead}
use Rattle.headline_laws.specs.Sights.{sight_in, sights_of}
use Rattle.headline_laws.proofs.ReadLines.{Stands, stands}
use Rattle.recovery_laws.specs.Initial.{LastOpen}
use Rattle.recovery_laws.specs.Started.{StartsCopies}
use Rattle.recovery_laws.proofs.HandedTrail.{all_second}
use Rattle.recovery_laws.proofs.OpenedLast.{ShownOpen, shown_at}
use Rattle.recovery_laws.proofs.Players.{talks_faithfully, initials_open, initials_value}
use Rattle.recovery_laws.proofs.TickedLines.{TickedAt, shown_in_lines, feed_all}

-- what holds of each sight holds of the last one, if it has an entry
last_holds : (T : List Seen → Type 0) (later past : Past) → AllByRecursion T (sights_of (later ++ past))
    → (i : ℕ) (seen : Seen) → slice_get (sight_of past) i ≡ Some seen → T (sight_of past)
last_holds T later past all i seen e =
    by (sights_of past)
    (all_second T (sights_of later) (sights_of past)
    (subst (AllByRecursion T) (filter_map-append sight_in later past) all)) e
  where
    by : (ss : List (List Seen)) → AllByRecursion T ss → slice_get (unwrap_or (slice_get ss 0) []) i ≡ Some seen
        → T (unwrap_or (slice_get ss 0) [])
    by [] h e = absurd (let never : (let o : Option Seen = None in o) ≡ Some seen = e in cc)
    by (s ∷ ss) h e = h.0

module _ (entries : List Entry) (lines : List Line) (p : Player) (is : IsTable entries)
    (ok : AreAccepted (table_of entries) (story_of (table_of entries) lines).0.edits)
    (joined : HasJoined (story_of (table_of entries) lines).0 p) (honest : IsHonest lines p.number) where
  -- the sight that the open's tick showed was that of a line
  ticked : (a ch : ℕ)
      (o : LastOpen (table_of entries) p.number (story_of (table_of entries) lines).0.edits
      (past_at (table_of entries) AtServer p) (past_at (table_of entries) AtClient p) a ch)
      → TickedAt (table_of entries) lines p.number (sight_of o.older)
  ticked a ch o =
      let all : AllByRecursion (TickedAt (table_of entries) lines p.number)
      (sights_of (past_at (table_of entries) AtServer p)) =
      feed_all (TickedAt (table_of entries) lines p.number) (end_of (table_of entries) AtServer p) p.server_feed
      (shown_in_lines (table_of entries) lines p joined) in
      let shown : ShownOpen o.older a o.class o.values =
      shown_at entries is (end_of (table_of entries) AtServer p) (end_of (table_of entries) AtClient p) p.server_feed
      p.client_feed p.number (story_of (table_of entries) lines).0.edits (segments_of entries) ok refl
      (talks_faithfully entries lines p is ok joined honest) a o.newer o.older ch o.number o.exports o.class o.values
      o.made in
      last_holds (TickedAt (table_of entries) lines p.number)
      (o.newer ++ Made ch o.number (Opens o.exports a o.class o.values) 0 ∷ []) o.older
      (subst (λ (l : Past). AllByRecursion (TickedAt (table_of entries) lines p.number) (sights_of l))
      (o.made ∙ sym (append_assoc o.newer (Made ch o.number (Opens o.exports a o.class o.values) 0 ∷ []) o.older))
      all)
      shown.i shown.seen shown.there

  started : StartsCopies (table_of entries) lines p
  started a ch at =
      let o = initials_open entries lines p is ok joined honest a ch at in
      let t = ticked a ch o in
      let opened : LastOpen (table_of entries) p.number (story_of (table_of entries) lines).0.edits
      (past_at (table_of entries) AtServer p) (past_at (table_of entries) AtClient p) a ch = record {
        after = o.after;
        delivered = o.delivered;
        before = o.before;
        split = o.split;
        quiet = o.quiet;
        number = o.number;
        exports = o.exports;
        class = o.class;
        values = o.values;
        opens = o.opens;
        newer = o.newer;
        older = o.older;
        made = o.made;
        more = t.more;
        world = (story_of (table_of entries) t.before).0.edits;
        earlier = t.earlier;
        grown = t.grown;
        seen = t.is;
      } in record {
        before = t.before;
        after = t.after;
        tick = t.tick;
        opened = opened;
        world = refl;
        values = λ h i. initials_value entries lines p is ok joined honest a ch opened h i;
      }

-- so over the lines of accepted scripts
pub read_started : (table : Table) (lines : List Line) → AreRead table lines → (p : Player)
    → HasJoined (story_of table lines).0 p → IsHonest lines p.number → StartsCopies table lines p
read_started table lines r p joined honest =
    let s : Stands table lines = stands table lines r in
    subst (λ (x : Table). HasJoined (story_of x lines).0 p → StartsCopies x lines p) (sym s.same)
    (λ j. started s.entries lines p s.is s.ok j honest) joined
