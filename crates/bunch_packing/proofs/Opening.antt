-- What becomes of an open, case by case.
use Rattle.std.proofs.Common.{◌≡◌, ℕ, ◌+◌, Bool, true, false, not, ◌||◌, nat_lt, Option, Some, None, ap, ◌∙◌, if◌then◌else◌}
use Rattle.protocol_model.specs.Payload.{Message, parts_of}
use Rattle.protocol_model.specs.Side.{Side}
use Rattle.connection_model.specs.Feed.{End, Past}
use Rattle.connection_model.specs.Bunches.{made_count, room, after_making}
use Rattle.connection_model.specs.Pack.{Packing, part_item, has_room, after_open}
use Rattle.packing_laws.specs.Beginning.{after_offers}
use Rattle.link_end.specs.Link.{Link}
use Rattle.link_end.specs.Packs.{Packs}
use Rattle.channel_table.specs.Channels.{Channels}
use Rattle.bunch_packing.specs.Both.{PacksBoth}
use Rattle.bunch_packing.specs.Opens.{part_items, open_first}

module _ (end : End) (p : Packing) (ch : ℕ) (m : Message) where
  -- its parts, once it is made
  abbrev made : Packing
  made = after_offers end (record p { past = after_making p.past ch m })
      (part_items ch (made_count p.past ch + 1) m (parts_of m))

  abbrev fits : Bool
  fits = has_room end p (part_item ch (made_count p.past ch + 1) m 0)

  abbrev cases : (over fits : Bool) → Packing
  cases over fits = if over then p else if not fits then record p { full = true } else made

  abbrev numbers : (over fits : Bool) → Option ℕ
  numbers over fits = if over || not fits then None else Some (made_count p.past ch + 1)

  -- more parts than room
  pub open_over : nat_lt (room p.past ch) (parts_of m) ≡ true
      → (after_open end p ch m ≡ p) × (open_first end p ch m ≡ None)
  open_over e = (ap (λ (b : Bool). cases b fits) e, ap (λ (b : Bool). numbers b fits) e)

  -- no room for the first part
  pub open_none : nat_lt (room p.past ch) (parts_of m) ≡ false
      → has_room end p (part_item ch (made_count p.past ch + 1) m 0) ≡ false
      → (after_open end p ch m ≡ record p { full = true }) × (open_first end p ch m ≡ None)
  open_none e r = (
    ap (λ (b : Bool). cases b fits) e ∙ ap (cases false) r,
    ap (λ (b : Bool). numbers b fits) e ∙ ap (numbers false) r,
  )

  pub open_made : nat_lt (room p.past ch) (parts_of m) ≡ false
      → has_room end p (part_item ch (made_count p.past ch + 1) m 0) ≡ true
      → (after_open end p ch m ≡ after_offers end (record p { past = after_making p.past ch m })
      (part_items ch (made_count p.past ch + 1) m (parts_of m)))
      × (open_first end p ch m ≡ Some (made_count p.past ch + 1))
  open_made e r = (
    ap (λ (b : Bool). cases b fits) e ∙ ap (cases false) r,
    ap (λ (b : Bool). numbers b fits) e ∙ ap (numbers false) r,
  )

-- the channels aren't asked about a bunch that finds no room
pub both_full : (l later : Link) (t : Channels) (end : End) (side : Side) (before : Past) (p : Packing)
    → PacksBoth l t end side before p → Packs later end before (record p { full = true })
    → PacksBoth later t end side before (record p { full = true })
both_full l later t end side before p h link =
    record { link = link; table = h.table; unarrived = h.unarrived; low = h.low }
