-- A call that was made at the end under a key: the driver stands for it, and the answer is the definitions'.
use Rattle.std.proofs.Common.{◌≡◌, ◌≢◌, ℕ, ◌+◌, ◌≤◌, ◌<◌, ◌^◌, List, map, Option, Some, sym, ap, ◌∙◌, subst, arith}
use Rattle.std.proofs.lemmas.Option.{same_Some}
use Rattle.protocol_model.specs.Side.{AtServer}
use Rattle.protocol_model.specs.Value.{call_at}
use Rattle.protocol_model.specs.World.{class_of}
use Rattle.protocol_model.specs.declared.CallAnswer.{CallAnswer}
use Rattle.table_model.specs.Facts.{IsTable}
use Rattle.connection_model.specs.Feed.{End, Past}
use Rattle.connection_model.specs.Feed as feed
use Rattle.connection_model.specs.CallAnswers.{answer_of, after_call}
use Rattle.class_layout.specs.Tables.{table_in, entries_in}
use Rattle.class_members.specs.Members.{call_of}
use Rattle.value_codec.specs.Values.{arg_of}
use Rattle.value_codec.specs.declared.args.Arg.{Arg as ArgValue}
use Rattle.class_members.specs.declared.members.Call.{Call as CallValue}
use Rattle.shadow_changes.specs.Samples.{Samples}
use Rattle.server_end.specs.declared.server_end.ServerEnd.{ServerEnd}
use Rattle.net_driver.specs.declared.chair.Place.{Place}
use Rattle.net_driver.specs.declared.chair.Place.TheVariants.{Living}
use Rattle.net_driver.specs.Chairs.{place_in, living_key}
use Rattle.server_end.specs.Calls.{IsCalled}
use Rattle.net_driver.specs.Served.{Seat, Served, seat_of, with_seat, heard, past_for, end_for, answer_for}
use Rattle.server_end.specs.Stands.{StandsEnd}
use Rattle.net_driver.specs.Ends.{end_at, IsPlace}
use Rattle.net_driver.specs.Serves.{Drive, Serves}
use Rattle.net_driver.proofs.Placing.{for_place, living_is}
use Rattle.net_driver.proofs.Fitting.{fits_call}
use Rattle.net_driver.proofs.CallHeard.{heard_by, call_living}
use Rattle.net_driver.proofs.Meaning.{living_called, short_call, IsFitting}

-- the call is known, and fits what the world has for its actor
pub record IsReady (d : Drive) (s : Served) (player a n key : ℕ) (called : CallValue)
    (args : List ArgValue) : Type 0 where
  pub serves : Serves d s
  pub key_is : living_key (place_in d.chairs player) ≡ Some key
  pub tables : IsTable (entries_in d.layout)
  pub fits : IsFitting (table_in d.layout) s.edits a n args
  pub found : Some (call_of called) ≡ call_at (class_of (table_in d.layout) s.edits a) n
  pub few : d.greatest < 2 ^ 61

-- at the player's end
pub record IsReadyEnd (d : Drive) (s : Served) (player a n key : ℕ) (called : CallValue)
    (args : List ArgValue) : Type 0 where
  pub end : ServerEnd
  pub seat : Seat
  pub at : end_at d.ends key ≡ Some end
  pub seat_at : seat_of s player ≡ Some seat
  pub samples : Samples
  pub is : IsCalled end (end_for (table_in d.layout) seat) (past_for (table_in d.layout) seat) samples a n called args

pub ready_end : (d : Drive) (s : Served) (player a n key : ℕ) (called : CallValue) (args : List ArgValue)
    → IsReady d s player a n key called args
    → IsReadyEnd d s player a n key called args
ready_end d s player a n key called args r =
    let f = for_place d s player (Living key) r.serves (living_is (place_in d.chairs player) key r.key_is) in
    record {
      end = f.is.0;
      seat = f.seat;
      at = f.is.1;
      seat_at = f.at;
      samples = f.is.2.before;
      is = living_called d.layout s.edits s.samples d.greatest f.is.0 f.seat a n called args f.is.2 r.tables r.fits
          r.found r.few;
    }

pub served : (d : Drive) (s : Served) (player a n key : ℕ) (called : CallValue) (args : List ArgValue)
    (later : List (Option ServerEnd))
    → IsReady d s player a n key called args
    → ((k : ℕ) → k ≢ key → end_at later k ≡ end_at d.ends k)
    → ((e : ServerEnd) (end : End) (past : Past) (samples : Samples) → end_at d.ends key ≡ Some e
    → IsCalled e end past samples a n called args
    → (x : ServerEnd) × (end_at later key ≡ Some x) × (x.player ≡ e.player)
    × StandsEnd x end (after_call AtServer past a n (map arg_of args)) samples
    × (x.table.made.count ≤ e.table.made.count + 4096))
    → Serves (record d { ends = later; greatest = d.greatest + 8192 })
    (with_seat (heard (feed.Call a n (map arg_of args))) player s)
served d s player a n key called args later r others does =
    heard_by d s player (d.greatest + 8192) (feed.Call a n (map arg_of args)) later r.serves
    (record { more = omega arith; others = λ k ne. others k (λ q. ne (r.key_is ∙ ap (λ (m : ℕ). Some m) (sym q))) }) own
    (λ t nt fit. fits_call (table_in d.layout) s.edits d.graves t a n (map arg_of args) fit
    (short_call d.layout s.edits d.graves t a n args fit r.tables r.fits))
  where
    at_key : (t : Seat) → IsPlace (table_in d.layout) s.edits s.samples d.greatest d.ends t (Living key)
        → IsPlace (table_in d.layout) s.edits s.samples (d.greatest + 8192) later
        (heard (feed.Call a n (map arg_of args)) t) (Living key)
    at_key t (e, at, lives) =
        let x = does e (end_for (table_in d.layout) t) (past_for (table_in d.layout) t) lives.before at
        (living_called d.layout
        s.edits s.samples d.greatest e t a n called args lives r.tables r.fits r.found r.few) in (
          x.0,
          x.1,
          call_living (table_in d.layout) s.edits s.samples d.greatest e x.0 t a n
              (map arg_of args) lives x.2 x.3 x.4,
        )

    own : (k : ℕ) (t : Seat) → t.number ≡ player → place_in d.chairs player ≡ Some (Living k)
        → IsPlace (table_in d.layout) s.edits s.samples d.greatest d.ends t (Living k)
        → (p : Place) × (p ≡ Living k)
        × IsPlace (table_in d.layout) s.edits s.samples (d.greatest + 8192) later
        (heard (feed.Call a n (map arg_of args)) t) p
    own k t nt f i =
        let is : key ≡ k = same_Some key k (sym r.key_is ∙ ap living_key f) in (
          Living key,
          ap Living is,
          at_key t
              (subst (λ (k : ℕ). IsPlace (table_in d.layout) s.edits s.samples d.greatest d.ends t (Living k))
              (sym is) i),
        )

pub answers : (d : Drive) (s : Served) (player a n key : ℕ) (called : CallValue) (args : List ArgValue)
    (answer : CallAnswer) (seat : Seat)
    → IsReady d s player a n key called args → seat_of s player ≡ Some seat
    → ((e : ServerEnd) (end : End) (past : Past) (samples : Samples) → end_at d.ends key ≡ Some e
    → IsCalled e end past samples a n called args
    → answer ≡ answer_of AtServer past a n (map arg_of args))
    → answer ≡ answer_for (table_in d.layout) seat a n (map arg_of args)
answers d s player a n key called args answer seat r at says =
    let x = ready_end d s player a n key called args r in
    says x.end _ _ x.samples x.at x.is
    ∙ ap (λ (t : Seat). answer_for (table_in d.layout) t a n (map arg_of args)) (same_Some x.seat seat (sym x.seat_at
    ∙ at))
