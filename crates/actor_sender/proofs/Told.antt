-- A tick that was given a sight is one of the sight that is shown.
use Rattle.std.proofs.Common.{◌≡◌, ◌∙◌, ℕ, ◌+◌, List, drop, length, ap, sym, subst}
use Rattle.protocol_model.specs.Sight.{Seen}
use Rattle.connection_model.specs.Feed.{End, Past}
use Rattle.connection_model.specs.Pack.{after_packing, after_tick}
use Rattle.connection_model.specs.Past.{sent_bytes}
use Rattle.class_layout.specs.Tables.{Layout}
use Rattle.link_end.specs.Link.{Link}
use Rattle.link_end.specs.Answers.{numbered, new_packets}
use Rattle.channel_table.specs.Channels.{Channels}
use Rattle.shadow_changes.specs.Samples.{Shadows, Samples}
use Rattle.sight_laws.specs.Sights.{IsSight, Shows}
use Rattle.sight_laws.specs.Differing.{SameButSights}
use Rattle.sight_laws.proofs.Scoring.{given_ascends}
use Rattle.sight_laws.proofs.Sending.{tick_same}
use Rattle.sight_laws.proofs.Feeds.{bytes_same, same_self, same_sym}
use Rattle.turn_laws.proofs.Stepping.{tick_steps}
use Rattle.sender_steps.specs.declared.sight.Seen.{Seen as SeenValue}
use Rattle.sender_steps.specs.Sender.{Sender}
use Rattle.sender_steps.specs.Sights.{sight_value}
use Rattle.sender_steps.specs.Stands.{Stands}
use Rattle.actor_sender.specs.Given.{IsGiven}
use Rattle.actor_sender.specs.Serving.{MayBegin, after_serving}
use Rattle.actor_sender.proofs.Extended.{extended}
use Rattle.actor_sender.proofs.Unsighted.{all_kept}

module _ (s : Sender) (l : Link) (t : Channels) (layout : Layout) (changes : Shadows) (sight : List SeenValue)
    (end : End) (past : Past) (before samples : Samples) (shown : List Seen)
    (h : IsGiven s l t layout changes sight end past before samples shown) where
  abbrev given : List Seen
  given = sight_value layout sight

  is_given : IsSight given
  is_given = given_ascends past 0 h.is_sight h.shows

  pub begins_of : MayBegin s l t layout changes sight end past samples
  begins_of = record {
    fed = record {
      side = h.side;
      budget = h.budget;
      run = h.run;
      few = h.few;
      noted = h.noted;
      is_sight = is_given;
      entries = h.entries;
    };
    stands = record {
      sender = extended s past before samples h.extends h.stands.sender;
      link = h.stands.link;
      table = h.stands.table;
    };
    may = h.waiting;
  }

  -- the steps are the tick of the sight given
  tick_is : after_packing end past (after_serving end past given) ≡ after_tick end past given
  tick_is = sym (tick_steps end past given h.alive is_given h.budget h.few)

  -- which is the same but for its sight
  same : SameButSights (after_tick end past shown) (after_tick end past given)
  same = tick_same end past past shown given (same_self past) h.is_sight h.shows

  pub sends_as_shown : new_packets end past (after_packing end past (after_serving end past given))
      ≡ new_packets end past (after_tick end past shown)
  sends_as_shown =
      ap (new_packets end past) tick_is
      ∙ ap (λ (all : List (List ℕ)). numbered (length (sent_bytes end past) + 1)
      (drop (length (sent_bytes end past)) all))
      (bytes_same end (after_tick end past shown) (after_tick end past given) same)

  pub stands_as_shown : (later : Sender) (link : Link) (table : Channels)
      → Stands later link table end (after_packing end past (after_serving end past given)) samples
      → Stands later link table end (after_tick end past shown) samples
  stands_as_shown later link table k =
      all_kept (after_tick end past given) (after_tick end past shown)
      (same_sym (after_tick end past shown) (after_tick end past given) same) later link table end samples
      (subst (λ (x : Past). Stands later link table end x samples) tick_is k)
