-- A client's tick under way.
use Rattle.std.specs.Prelude.{◌≡◌, ◌++◌, ℕ, List, map, filter_map, false}
use Rattle.protocol_model.specs.Side.{AtClient}
use Rattle.connection_model.specs.CallAnswers.{waiting_of}
use Rattle.connection_model.specs.Copies.{copy_channel}
use Rattle.connection_model.specs.Feed.{End, Past, Item}
use Rattle.connection_model.specs.Items.{due_items, call_item}
use Rattle.connection_model.specs.Pack.{Packing}
use Rattle.packing_laws.specs.Beginning.{after_offers}
use Rattle.link_end.specs.Link.{Link}
use Rattle.channel_table.specs.Channels.{Channels}
use Rattle.channel_table.specs.Stands.{waiting_call, channel_bound}
use Rattle.bunch_packing.specs.Both.{PacksBoth}
use Rattle.client_sending.specs.Stands.{AreSpelled, WaitShort}

-- in a tick that began after `before`, and in which each item found room: link and channels are
-- right about what was packed by now, and the calls wait that waited before it
pub record IsTicking (l : Link) (t : Channels) (end : End) (before : Past) (p : Packing)
    : Type 0 where
  pub both : PacksBoth l t end AtClient before p
  pub is_ready : p.full ≡ false
  pub bound : (a : ℕ) → channel_bound t.bound a ≡ copy_channel p.past a
  pub held : AreSpelled end.version p.past
  pub waiting : t.waiting ≡ map waiting_call (waiting_of before)
  pub waits : WaitShort before

-- the calls that waited, each on the channel of its actor's copy
abbrev pub call_items : (before now : Past) → List Item
call_items before now = filter_map (call_item AtClient now) (waiting_of before)

-- what is offered after the acknowledgements: what is due, and then the calls that waited
abbrev pub after_firsts : End → (before : Past) → Packing → Packing
after_firsts end before p =
    after_offers end p (due_items p.past ++ call_items before p.past)
