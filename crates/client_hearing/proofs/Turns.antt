-- The payloads of a bunch, heard one after another.
use Rattle.std.specs.Prelude.{Result, IsErrAnd}
use Rattle.std.proofs.Common.{◌≡◌, ℕ, ◌==◌, ◌<◌, List, [], ◌∷◌, Bool, false, Option, Some, None, Ok, Err, refl, sym, ap, ◌∙◌, subst}
use Rattle.protocol_model.specs.declared.Cause.{Cause}
use Rattle.protocol_model.specs.declared.Version.{Version}
use Rattle.protocol_model.specs.Packet.{channel_limit}
use Rattle.connection_model.specs.Feed.{Past, Delivered}
use Rattle.connection_model.specs.Bunches.{is_opening, is_closing}
use Rattle.class_layout.specs.Tables.{Layout}
use Rattle.value_codec.specs.declared.handed.Handed.{Handed}
use Rattle.receiving_laws.specs.Holders.{is_copied_on}
use Rattle.receiving_laws.specs.Receiving.{Raw, read_from, copied_after, copied_through}
use Rattle.receiving_laws.specs.Readings.{AreRead}
use Rattle.client_laws.specs.Holding.{MayCome, ComeInTurn, AllCame}
use Rattle.client_laws.proofs.Payloads.{Came}
use Rattle.incoming_channels.specs.Messages.{AreRaws}
use Rattle.incoming_channels.specs.declared.message.Message.{Message}
use Rattle.netguid_map.specs.declared.names.Learnt.{Learnt}
use Rattle.actor_copies.specs.declared.copy.ActorCopy.{ActorCopy}
use Rattle.channel_table.specs.Channels.{Channels}
use Rattle.channel_table.specs.Holders.{Bound}
use Rattle.client_hearing.specs.declared.halt.Halt.{Halt}
use Rattle.client_hearing.specs.Keeping.{end_as}
use Rattle.client_hearing.specs.Moments.{Moment, past_at, handing, IsComing, AreComing}
use Rattle.client_hearing.specs.Hearing.{result_of, delivery, IsHeard, with_payloads, AreHeard}
use Rattle.client_hearing.proofs.Results.{WasRead, was_read}
use Rattle.client_hearing.proofs.Leaving.{handed_on}

-- payloads from the first on were heard, and these are left
pub record Going (layout : Layout) (version : Version) (bound : Bound) (names : List (ℕ × Learnt))
    (copies : List ActorCopy) (calls : List Handed) (w : Moment) (ch : ℕ) (raws : List Raw)
    (left : List Message) : Type 0 where
  pub payloads : List Delivered
  pub held : Bool
  pub rest : List Raw
  pub coming : AreComing layout version bound names copies calls (with_payloads payloads w) ch held rest left
  pub reading : (cause : Option Cause) → read_from (end_as layout version) (past_at w) raws cause
      ≡ read_from (end_as layout version) (past_at (with_payloads payloads w)) rest cause
  pub read : (after : List Delivered) → AreRead rest payloads after → AreRead raws w.handed after
  pub came : (later : Past) → AllCame (past_at (with_payloads payloads w)) later ch rest
      → AllCame (past_at w) later ch raws

pub going_first : (layout : Layout) (version : Version) (bound : Bound) (names : List (ℕ × Learnt))
    (copies : List ActorCopy) (calls : List Handed) (w : Moment) (ch : ℕ) (held : Bool)
    (raws : List Raw) (messages : List Message)
    → AreComing layout version bound names copies calls w ch held raws messages
    → Going layout version bound names copies calls w ch raws messages
going_first layout version bound names copies calls w ch held raws messages h = record {
  payloads = w.handed;
  held = held;
  rest = raws;
  coming = h;
  reading = λ cause. refl;
  read = λ after are. are;
  came = λ later came. came;
}

-- the next payload of those left
pub record Next (layout : Layout) (version : Version) (bound : Bound) (names : List (ℕ × Learnt))
    (copies : List ActorCopy) (calls : List Handed) (w : Moment) (ch : ℕ) (held : Bool)
    (raws : List Raw) (m : Message) (left : List Message) : Type 0 where
  pub raw : Raw
  pub rest : List Raw
  pub is : raws ≡ raw ∷ rest
  pub coming : IsComing layout version bound names copies calls w m raw held
  pub channel : raw.0.channel ≡ ch
  pub are_raws : AreRaws rest left
  pub turns : ComeInTurn ch (copied_after held raw.0) rest

pub next_of : (layout : Layout) (version : Version) (bound : Bound) (names : List (ℕ × Learnt))
    (copies : List ActorCopy) (calls : List Handed) (w : Moment) (ch : ℕ) (held : Bool)
    (raws : List Raw) (m : Message) (left : List Message)
    → AreComing layout version bound names copies calls w ch held raws (m ∷ left)
    → Next layout version bound names copies calls w ch held raws m left
next_of layout version bound names copies calls w ch held [] m left h = absurd h.are_raws
next_of layout version bound names copies calls w ch held (raw ∷ rest) m left h = record {
  raw = raw;
  rest = rest;
  is = refl;
  coming = record {
    reads = h.reads;
    is_raw = h.are_raws.0;
    may = subst (λ (c : ℕ). MayCome c held raw.0) (sym here) h.turns.0;
    same = ap (is_copied_on (past_at w)) here ∙ h.same;
    fits = subst (λ (c : ℕ). c < channel_limit version) (sym here) h.fits;
  };
  channel = h.turns.0.channel;
  are_raws = h.are_raws.1;
  turns = h.turns.1;
}
  where
    here : m.channel ≡ ch
    here = h.are_raws.0.channel ∙ h.turns.0.channel

-- the payload was handed on
on_reading : (layout : Layout) (version : Version) (w : Moment) (raw : Raw) (rest : List Raw)
    (d : Delivered) (cause : Option Cause) → result_of layout version (past_at w) raw ≡ Ok (Some d)
    → read_from (end_as layout version) (past_at w) (raw ∷ rest) cause
    ≡ read_from (end_as layout version) (past_at (handing d w)) rest cause
on_reading layout version w raw rest d cause e = rw (e, read_from) refl

came_through : (past mid later : Past) (ch : ℕ) (raw : Raw) (rest : List Raw)
    → raw.0.channel ≡ ch → is_copied_on mid ch ≡ copied_after (is_copied_on past ch) raw.0
    → ((c : ℕ) → (ch == c) ≡ false → is_copied_on mid c ≡ is_copied_on past c)
    → AllCame mid later ch rest → AllCame past later ch (raw ∷ rest)
came_through past mid later ch raw rest on here others came = record {
  agrees = came.agrees;
  here = came.here ∙ ap (λ (b : Bool). copied_through b rest) here;
  others = λ c e. came.others c e ∙ others c e;
}

pub going_on : (layout : Layout) (version : Version) (bound bound' : Bound)
    (names names' : List (ℕ × Learnt)) (copies copies' : List ActorCopy) (calls calls' : List Handed)
    (w : Moment) (ch : ℕ) (raws : List Raw) (m : Message) (left : List Message)
    → (g : Going layout version bound names copies calls w ch raws (m ∷ left))
    → (n : Next layout version bound names copies calls (with_payloads g.payloads w) ch g.held g.rest m left)
    → IsHeard layout version bound' names' copies' calls' (with_payloads g.payloads w) n.raw (Ok tt)
    → Going layout version bound' names' copies' calls' w ch raws left
going_on layout version bound bound' names names' copies copies' calls calls' w ch raws m left g n heard = record {
  payloads = d ∷ g.payloads;
  held = copied_after g.held n.raw.0;
  rest = n.rest;
  coming = record {
    reads = heard.2;
    are_raws = n.are_raws;
    turns = n.turns;
    same = here;
    fits = g.coming.fits;
  };
  reading = λ cause.
      g.reading cause
      ∙ ap (λ (raws : List Raw). read_from (end_as layout version) (past_at now) raws cause) n.is
      ∙ on_reading layout version now n.raw n.rest d cause heard.1;
  read = λ after are. g.read after (subst (λ (raws : List Raw). AreRead raws g.payloads after) (sym n.is) (
    d,
    record {
      channel = ap (λ (x : Delivered). x.channel) was.is;
      opens = ap (λ (x : Delivered). is_opening x.message) was.is ∙ came.opens;
      closes = ap (λ (x : Delivered). is_closing x.message) was.is ∙ came.closes;
    },
    are,
  ));
  came = λ later all. g.came later (subst (λ (raws : List Raw). AllCame (past_at now) later ch raws) (sym n.is)
      (came_through (past_at now) (past_at (handing d now)) later ch n.raw n.rest n.channel
      (here ∙ ap (λ (b : Bool). copied_after b n.raw.0) (sym g.coming.same))
      others all));
}
  where
    now : Moment
    now = with_payloads g.payloads w

    d : Delivered
    d = heard.0

    was : WasRead layout version (past_at now) n.raw d
    was = was_read layout version (past_at now) n.raw d heard.1

    came : Came (past_at now) (past_at (handing (delivery layout version (past_at now) n.raw was.message) now))
        n.raw.0 g.held (delivery layout version (past_at now) n.raw was.message)
    came = (handed_on layout version bound names copies calls now m n.raw g.held d n.coming was).came

    here_there : is_copied_on (past_at (handing d now)) n.raw.0.channel ≡ copied_after g.held n.raw.0
    here_there =
        ap (λ (x : Delivered). is_copied_on (past_at (handing x now)) n.raw.0.channel) was.is ∙ came.leaves.here

    here : is_copied_on (past_at (handing d now)) ch ≡ copied_after g.held n.raw.0
    here = ap (is_copied_on (past_at (handing d now))) (sym n.channel) ∙ here_there

    others : (c : ℕ) → (ch == c) ≡ false
        → is_copied_on (past_at (handing d now)) c ≡ is_copied_on (past_at now) c
    others c e =
        ap (λ (x : Delivered). is_copied_on (past_at (handing x now)) c) was.is
        ∙ came.leaves.others c (ap (λ (x : ℕ). x == c) n.channel ∙ e)

-- it broke a rule
stop_reading : (layout : Layout) (version : Version) (w : Moment) (raw : Raw) (rest : List Raw)
    (bad : Cause) (cause : Option Cause) → result_of layout version (past_at w) raw ≡ Err bad
    → read_from (end_as layout version) (past_at w) (raw ∷ rest) cause
    ≡ record { past = past_at w; cause = Some bad }
stop_reading layout version w raw rest bad cause e = rw (e, read_from) refl

pub going_stops : (layout : Layout) (version : Version) (bound bound' : Bound)
    (names names' : List (ℕ × Learnt)) (copies copies' : List ActorCopy) (calls calls' : List Handed)
    (w : Moment) (ch : ℕ) (raws : List Raw) (m : Message) (left : List Message) (halt : Halt)
    → (g : Going layout version bound names copies calls w ch raws (m ∷ left))
    → (n : Next layout version bound names copies calls (with_payloads g.payloads w) ch g.held g.rest m left)
    → IsHeard layout version bound' names' copies' calls' (with_payloads g.payloads w) n.raw (Err halt)
    → AreHeard layout version bound' names' copies' calls' w ch raws (Err halt)
going_stops layout version bound bound' names names' copies copies' calls calls' w ch raws m left
    (Halt.Broken bad) g n heard = (
      g.payloads,
      λ cause.
          g.reading cause
          ∙ ap (λ (raws : List Raw). read_from (end_as layout version)
          (past_at (with_payloads g.payloads w)) raws cause) n.is
          ∙ stop_reading layout version (with_payloads g.payloads w) n.raw n.rest bad cause heard.0,
      heard.1,
      heard.2,
    )
going_stops layout version bound bound' names names' copies copies' calls calls' w ch raws m left
    Halt.Memory g n heard = tt

-- all were handed on
no_raws : (raws : List Raw) → AreRaws raws [] → raws ≡ []
no_raws [] h = refl
no_raws (raw ∷ raws) h = absurd h

pub going_done : (layout : Layout) (version : Version) (bound : Bound) (names : List (ℕ × Learnt))
    (copies : List ActorCopy) (calls : List Handed) (w : Moment) (ch : ℕ) (raws : List Raw)
    → Going layout version bound names copies calls w ch raws []
    → AreHeard layout version bound names copies calls w ch raws (Ok tt)
going_done layout version bound names copies calls w ch raws g =
    let none = no_raws g.rest g.coming.are_raws in (
      g.payloads,
      λ cause.
          g.reading cause
          ∙ ap (λ (raws : List Raw). read_from (end_as layout version)
          (past_at (with_payloads g.payloads w)) raws cause) none,
      g.coming.reads,
      g.read g.payloads (subst (λ (raws : List Raw). AreRead raws g.payloads g.payloads) (sym none) refl),
      g.came (past_at (with_payloads g.payloads w))
          (subst (λ (raws : List Raw). AllCame (past_at (with_payloads g.payloads w))
          (past_at (with_payloads g.payloads w)) ch raws) (sym none)
          (record { agrees = g.coming.reads.agrees; here = refl; others = λ c e. refl })),
    )

-- ---- as the code goes on

-- what holds of the answer that is handed up
pub carried : (P : Result Unit Halt → Type 0) (r : Result Unit Halt) (halt : Halt)
    → IsErrAnd r (λ e. e ≡ halt) → P (Err halt) → P r
carried P (Ok done) halt is h = absurd is
carried P (Err e) halt is h = subst (λ (e : Halt). P (Err e)) (sym is) h

-- but for what is bound the table stays
pub carried_table : (old mid new : Channels) → mid ≡ record old { bound = mid.bound }
    → new ≡ record mid { bound = new.bound } → new ≡ record old { bound = new.bound }
carried_table old mid new e f = f ∙ ap (λ (t : Channels). record t { bound = new.bound }) e
