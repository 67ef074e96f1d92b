-- Link and channels as tests drive them.
use Rattle.std.proofs.Common.{◌≡◌, ℕ, ◌<◌, List, [], Bool, false, nat_le, sym, ap, ◌∙◌, arith, Option, Some}
use Rattle.std.proofs.lemmas.Bool.{leb-false}
use Rattle.protocol_model.specs.declared.Version.{Version}
use Rattle.protocol_model.specs.declared.Version.TheVariants.{One, Two}
use Rattle.protocol_model.specs.Packet.{channel_limit}
use Rattle.protocol_model.specs.Limits.{unresolved_limit}
use Rattle.protocol_model.specs.Sight.{Seen}
use Rattle.connection_model.specs.Feed.{End, Past, Item}
use Rattle.connection_model.specs.Fates.{unresolved_count}
use Rattle.connection_model.specs.Pack.{Packing, after_offer, after_packing}
use Rattle.packing_laws.proofs.Beginnings.{beginning_is}
use Rattle.link_end.specs.Link.{Link}
use Rattle.link_end.specs.Rests.{Rests}
use Rattle.link_end.specs.Packs.{Packs}
use Rattle.link_end.specs.Answers.{beginning}
use Rattle.link_end.proofs.Offers.{offer_some}
use Rattle.channel_table.specs.Channels.{Channels}
use Rattle.bunch_packing.specs.Both.{PacksBoth, packet_for}
use Rattle.bunch_packing.specs.Trials.{AreIdle, AreFresh, ArePacking, AreEnding}
use Rattle.bunch_packing.proofs.Tick.{begins, none_at_first, ends, ends_made}
use Rattle.bunch_packing.proofs.Carrying.{had_room}

pub low_index : (v : Version) (ch : ℕ) → ch < 10240 → ch < channel_limit v
low_index One ch h = h
low_index Two ch h = omega (arith, h)

pub begun_fresh : (l later : Link) (t : Channels) (stalled : Bool) (r : AreIdle l t)
    → ((end : End) (past : Past) → Rests l end past → stalled ≡ nat_le unresolved_limit (unresolved_count past))
    → stalled ≡ false
    → ((end : End) (past : Past) (sight : List Seen) → Rests l end past
    → Packs later end past (beginning end past sight))
    → AreFresh later t
begun_fresh l later t stalled r told idle f =
    let few : unresolved_count r.2 < unresolved_limit =
    leb-false unresolved_limit (unresolved_count r.2) (sym (told r.0 r.2 r.3) ∙ idle) in (
      r.0,
      r.1,
      r.2,
      beginning r.0 r.2 [],
      begins later t r.0 r.1 r.2 [] (f r.0 r.2 [] r.3) r.4 r.5,
      r.6,
      ap (λ (p : Packing). p.full) (beginning_is r.0 r.2 [] r.6 few),
      none_at_first r.0 r.2 [],
    )

pub ended_idle : (l later : Link) (t : Channels) → AreEnding l t
    → ((end : End) (before : Past) (p : Packing) → Packs l end before p → Rests later end (after_packing end before p))
    → AreIdle later t
ended_idle l later t r f = (
  r.0,
  r.1,
  after_packing r.0 r.2 r.3,
  f r.0 r.2 r.3 r.4.link,
  ends t r.0 r.1 r.2 r.3 r.4.table,
  λ ch le. ends_made r.0 r.2 r.3 ch ∙ r.4.low ch le,
  r.5,
)

-- an offer that found room leaves room for more
pub still_packing : (l later : Link) (t : Channels) (r : ArePacking l t) (item : Item) (packet : Option ℕ)
    → packet ≡ packet_for r.0 r.3 item → (n : ℕ) → packet ≡ Some n
    → PacksBoth later t r.0 r.1 r.2 (after_offer r.0 r.3 item) → ArePacking later t
still_packing l later t r item packet e n some both = (
  r.0,
  r.1,
  r.2,
  after_offer r.0 r.3 item,
  both,
  r.5,
  ap (λ (p : Packing). p.full) (offer_some r.0 r.3 item r.6 (had_room r.0 r.3 item n (sym some ∙ e)).0) ∙ r.6,
)
