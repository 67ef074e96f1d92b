-- What a client keeps stands for what it did, with each of its calls.
use Rattle.std.proofs.Common.{◌≡◌, ◌∙◌, inl, inr, ℕ, ◌+◌, ◌≤◌, List, [], flat_map, reverse, fold, Bool, true, false, ◌||◌, refl, sym, ap, subst, arith}
use Rattle.protocol_model.specs.Side.{AtClient}
use Rattle.protocol_model.specs.declared.Version.{Version}
use Rattle.connection_model.specs.Copies.{delivered_of}
use Rattle.connection_model.specs.Fates.{top_of, entries_of}
use Rattle.connection_model.specs.Feed.{End, Past, Delivered, Entry, has_ended}
use Rattle.connection_model.specs.Names.{names_in, names_with}
use Rattle.connection_model.specs.Windows.{received_by, received_on}
use Rattle.class_layout.specs.Tables.{Layout}
use Rattle.link_end.specs.Link.{Link}
use Rattle.link_end.specs.Rests.{Rests}
use Rattle.channel_table.specs.Channels.{Channels}
use Rattle.channel_table.specs.Stands.{Stands as StandsTable}
use Rattle.netguid_map.specs.declared.names.Learnt.{Learnt}
use Rattle.netguid_map.specs.Names.{Stands as StandNames}
use Rattle.actor_copies.specs.declared.copy.ActorCopy.{ActorCopy}
use Rattle.actor_copies.specs.Stands.{Stands as StandCopies}
use Rattle.client_laws.specs.Holding.{Holds}
use Rattle.client_hearing.specs.Keeping.{Keeps, end_as}
use Rattle.client_hearing.specs.Hearing.{Lives}
use Rattle.client_sending.specs.Stands.{Stands, MaySend}
use Rattle.client_sending.proofs.Starting.{may_send_first, spelled_first}
use Rattle.client_world.specs.Played.{Play, Plays, IsLost, IsReady, end_of}

-- ---- whether it is dead

pub ended_of : (c : Play) (past : Past) → Plays c past → (c.dead || c.lost) ≡ true → has_ended past ≡ true
ended_of c past p over = sym p.dead ∙ by c.dead c.lost p.kept over
  where
    by : (d l : Bool) → l ≡ false → (d || l) ≡ true → d ≡ true
    by true l kept over = refl
    by false l kept over = absurd (cc)

pub alive_of : (c : Play) (past : Past) → Plays c past → (c.dead || c.lost) ≡ false → has_ended past ≡ false
alive_of c past p on = sym p.dead ∙ by c.dead c.lost on
  where
    by : (d l : Bool) → (d || l) ≡ false → d ≡ false
    by true l on = on
    by false l on = refl

pub not_lost : (c : Play) → IsLost c → (c.dead || c.lost) ≡ false → ⊥
not_lost c lost on = by c.dead c.lost lost on
  where
    by : (d l : Bool) → l ≡ true → (d || l) ≡ false → ⊥
    by true l lost on = cc
    by false l lost on = cc

-- ---- the parts of a client, which are seen as it

-- what is told of the parts of a client that is alive is told of the client
module _ (v c : Play) (e : v ≡ c) (on : (c.dead || c.lost) ≡ false) where
  on_parts : (v.dead || v.lost) ≡ false
  on_parts = subst (λ (x : Play). (x.dead || x.lost) ≡ false) (sym e) on

  -- it stands for some past, in which it didn't die
  pub played : IsReady c → (past : Past) × Plays v past × (has_ended past ≡ false)
  played ready = by (subst IsReady (sym e) ready)
    where
      by : IsReady v → (past : Past) × Plays v past × (has_ended past ≡ false)
      by (inl lost) = absurd (not_lost v lost on_parts)
      by (inr p) = (p.0, p.1, alive_of v p.0 p.1 on_parts)

  pub told : (G : Play → Past → Type 0) → ((past : Past) → Plays v past → has_ended past ≡ false → G v past)
      → (past : Past) → Plays c past → G c past
  told G h =
      subst (λ (x : Play). (past : Past) → Plays x past → G x past) e (λ past p. h past p (alive_of v past p on_parts))

  pub goes_on : (n : Play) (later : End → Past → Past)
      → ((past : Past) → Plays v past → has_ended past ≡ false → Plays n (later (end_of v) past))
      → (past : Past) → Plays c past → Plays n (later (end_of c) past)
  goes_on n later h = told (λ (x : Play) (past : Past). Plays n (later (end_of x) past)) h

-- ---- what a call and a tick begin with, and what they leave

pub stands_of : (c : Play) (past : Past) → Plays c past → has_ended past ≡ false
    → Stands c.link c.table (end_of c) past
stands_of c past p alive =
    let l = p.lives alive in
    record {
      side = refl;
      budget = omega arith;
      alive = alive;
      link = l.rests;
      table = l.keeps.channels;
      held = l.keeps.low;
      may = p.may alive;
    }

module _ (still : (past later : Past) → delivered_of later ≡ delivered_of past
    → ((ch : ℕ) → received_on later ch ≡ received_on past ch) → Holds past → Holds later)
    (layout : Layout) (version : Version) (names : List (ℕ × Learnt)) (copies : List ActorCopy)
    (past later : Past) (delivers : delivered_of later ≡ delivered_of past)
    (hears : entries_of later ≡ entries_of past) where
  lives_on : (l : Link) (t told : Channels) → Keeps layout version told names copies past
      → StandCopies layout copies later → Stands l t (end_as layout version) later
      → Lives layout version l t names copies later
  lives_on l t told k copied s = record {
    rests = s.link;
    keeps = record {
      channels = s.table;
      learnt = subst (λ (ds : List Delivered). StandNames names (fold names_with [] (flat_map names_in (reverse ds))))
          (sym delivers) k.learnt;
      copied = copied;
      placed = k.placed;
      holds = still past later delivers (λ ch. ap (λ (es : List Entry). received_by es ch) hears) k.holds;
      low = s.held;
    };
    alive = s.alive;
  }

-- ---- a client that did nothing

pub plays_first : (layout : Layout) (version : Version) (l : Link) (t : Channels) (names : List (ℕ × Learnt))
    (copies : List ActorCopy) → ((layout : Layout) → StandCopies layout [] []) → Holds []
    → Rests l (end_as layout version) [] → StandsTable t AtClient [] → StandNames names [] → copies ≡ []
    → t.made.count ≡ 0
    → Plays (record {
      layout = layout;
      version = version;
      link = l;
      table = t;
      names = names;
      copies = copies;
      dead = false;
      top = 0;
      most_made = 0;
      lost = false;
    }) []
plays_first layout version l t names copies none holds rests table learnt empty count =
    let copied : StandCopies layout copies [] = subst (λ (cs : List ActorCopy). StandCopies layout cs []) (sym empty) (none layout) in
    record {
      dead = refl;
      top = refl;
      copies = copied;
      lives = λ alive. record {
        rests = rests;
        keeps = record {
          channels = table;
          learnt = learnt;
          copied = copied;
          placed = rw empty tt;
          holds = holds;
          low = spelled_first version;
        };
        alive = refl;
      };
      may = λ alive. may_send_first version;
      count = omega arith;
      kept = refl;
    }

-- ---- a client that is dead

pub plays_still : (c : Play) (past later : Past) → later ≡ past → Plays c past → Plays c later
plays_still c past later e p = subst (Plays c) (sym e) p

-- ---- a datagram

pub plays_got : (c : Play) (past later : Past) (l : Link) (t : Channels) (names : List (ℕ × Learnt))
    (copies : List ActorCopy) (dead : Bool) (top : ℕ) → Plays c past
    → dead ≡ has_ended later → top ≡ top_of later → StandCopies c.layout copies later
    → (has_ended later ≡ false → Lives c.layout c.version l t names copies later) → MaySend c.version later
    → t.made.count ≡ c.table.made.count
    → Plays (record c { link = l; table = t; names = names; copies = copies; dead = dead; top = top }) later
plays_got c past later l t names copies dead top p dies takes copied lives may same = record {
  dead = dies;
  top = takes;
  copies = copied;
  lives = lives;
  may = λ alive. may;
  count = (let was = p.count in omega arith);
  kept = p.kept;
}

-- ---- a call and a tick

module _ (still : (past later : Past) → delivered_of later ≡ delivered_of past
    → ((ch : ℕ) → received_on later ch ≡ received_on past ch) → Holds past → Holds later)
    (c : Play) (past later : Past) (p : Plays c past) (alive : has_ended past ≡ false)
    (copied : StandCopies c.layout c.copies later) (delivers : delivered_of later ≡ delivered_of past)
    (takes : top_of later ≡ top_of past) (hears : entries_of later ≡ entries_of past) where
  pub plays_called : (t : Channels) (n : ℕ) → Stands c.link t (end_of c) later
      → t.made.count ≤ c.table.made.count + 4096 → n ≡ c.most_made + 4096
      → Plays (record c { table = t; most_made = n }) later
  plays_called t n s most count = record {
    dead = p.dead ∙ alive ∙ sym s.alive;
    top = p.top ∙ sym takes;
    copies = copied;
    lives = λ on. lives_on still c.layout c.version c.names c.copies past later delivers hears c.link t c.table
        (p.lives alive).keeps copied s;
    may = λ on. s.may;
    count = (let was = p.count in omega arith);
    kept = p.kept;
  }

  pub plays_ticked : (l : Link) (t : Channels) (stalled : Bool) → stalled ≡ has_ended later
      → (stalled ≡ false → Stands l t (end_of c) later) → t.made.count ≡ c.table.made.count
      → Plays (record c { link = l; table = t; dead = stalled }) later
  plays_ticked l t stalled stalls s same = record {
    dead = stalls;
    top = p.top ∙ sym takes;
    copies = copied;
    lives = λ on. lives_on still c.layout c.version c.names c.copies past later delivers hears l t c.table
        (p.lives alive).keeps copied (s (stalls ∙ on));
    may = λ on. (s (stalls ∙ on)).may;
    count = (let was = p.count in omega arith);
    kept = p.kept;
  }
