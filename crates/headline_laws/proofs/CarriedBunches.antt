-- A bunch that the other end carries, whichever end hears it.
use Rattle.std.proofs.Common.{◌≡◌, ℕ, ◌<◌, ◌≤◌, List, [], ◌∷◌, ◌++◌, map, false, refl, sym, ap, ◌∙◌, arith, pos}
use Rattle.std.specs.List.{AllByRecursion}
use Rattle.protocol_model.specs.declared.Version.{Version}
use Rattle.protocol_model.specs.Packet.{Bunch}
use Rattle.protocol_model.specs.Payload.{parts_of}
use Rattle.protocol_model.specs.Search.{newest_of}
use Rattle.connection_model.specs.Feed.{End, Past, Took, Entry, Heard, Delivered, Carries}
use Rattle.connection_model.specs.Fates.{top_of, taken_of}
use Rattle.connection_model.specs.Bunches.{made_count}
use Rattle.connection_model.specs.Items.{made_as}
use Rattle.replication_model.specs.Headline.{IsPrefix}
use Rattle.connection_model.specs.Windows.{received_on, number_as, applied_of, with_bunch, wholes_of, wholes_from, Received}
use Rattle.connection_model.specs.Verdict.{is_misplaced}
use Rattle.connection_laws.specs.Run.{IsRun}
use Rattle.connection_laws.specs.Link.{SaysItem, said_by, IsLink}
use Rattle.connection_laws.specs.Delivered.{Numbered, messages_on, payload_of, AppliesPrefixes, NeverOverruns}
use Rattle.connection_laws.proofs.LinkLaws.{applies_there, applies_back, overruns_there, overruns_back}
use Rattle.connection_laws.proofs.Transfer.{Transfers, good, in_span_of}
use Rattle.connection_laws.proofs.Deeds.{deeds_fit}
use Rattle.connection_laws.proofs.HandingOn.{entry_here, entry_elsewhere}
use Rattle.connection_laws.proofs.LinkedEnds.{both, turned, left_run, right_run}
use Rattle.connection_laws.proofs.Prefixes.{cut_in_parts}
use Rattle.connection_laws.proofs.Receiving.{MadeFacts, made_facts, seq_read}
use Rattle.connection_laws.proofs.PacketsSay.{IsIn, CarriedFacts, carried_facts}
use Rattle.connection_laws.proofs.Searches.{among_most}
use Rattle.headline_laws.specs.Position.{all_bunches}
use Rattle.headline_laws.proofs.BunchHandsOn.{Steps, CarriedHeard, carried_heard}
use Rattle.headline_laws.proofs.RunPosition.{applied_at}

-- what holds from an end to the other, in either direction
pub record Dir (v : Version) (sender : End) (from to : Past) : Type 0 where
  pub run : IsRun sender from
  pub core : Transfers v from to
  pub applies : AppliesPrefixes from to
  pub overruns : NeverOverruns from to

-- what the left end sends the right one
pub dir_there : (left right : End) (l r : Past) → left.version ≡ right.version → IsLink left right l r → Dir left.version left l r
dir_there left right l r same link = record {
  run = left_run left right l r link;
  core = (both left.version left right refl (sym same) l r link).out;
  applies = applies_there left right l r same link;
  overruns = overruns_there left right l r same link;
}

-- what the right end sends the left one
pub dir_back : (left right : End) (l r : Past) → left.version ≡ right.version → IsLink left right l r → Dir left.version right r l
dir_back left right l r same link = record {
  run = right_run left right l r link;
  core = (turned left.version l r (both left.version left right refl (sym same) l r link)).out;
  applies = applies_back left right l r same link;
  overruns = overruns_back left right l r same link;
}

module _ (v : Version) (sender end : End) (from : Past) (k : ℕ) (es : List Entry) (past : Past) (fresh : top_of past < k) (ch n : ℕ) (b : Bunch) (said : IsIn (SaysItem (Carries ch n b)) (said_by v from k))
    (few : AllByRecursion (λ (made : Numbered). parts_of made.1 ≤ 10) (messages_on from ch)) (placed : is_misplaced end.side b ≡ false) (State : List Delivered → Type 0) (done : (ds : List Delivered) → State ds → List Numbered)
    (steps : (ds : List Delivered) (s : State ds) (made : Numbered) (later : List Numbered) → messages_on from ch ≡ done ds s ++ made ∷ later → Steps end k es past ch (messages_on from ch) few State done ds s made)
    (ds : List Delivered) (s : State ds) (dir : Dir v sender from (Took k es ds ∷ past)) (told : AppliesPrefixes from (Took k (Heard b ∷ es) ds ∷ past))
    (whole : wholes_of (Took k es ds ∷ past) ch ≡ map (payload_of ch) (done ds s)) (split : (later : List Numbered) × (messages_on from ch ≡ done ds s ++ later)) where
  carried : CarriedFacts from ch n k b
  carried = carried_facts sender v from (deeds_fit sender from dir.run) ch n k b said

  made : MadeFacts ch n b
  made = made_facts ch n from b carried.made

  number : number_as (received_on (Took k es ds ∷ past) ch) b ≡ pos n
  number =
      seq_read (λ i. newest_of (made_as ch i) from) (made_count from ch) (received_on (Took k es ds ∷ past) ch) b n (good v sender from (Took k es ds ∷ past) dir.run dir.core ch)
      (in_span_of v sender from (Took k es ds ∷ past) dir.run dir.core k (λ x h. (let le : x ≤ top_of past = among_most (taken_of past) x h in omega (arith, le, fresh))) ch n b said) made.seq

  applies : IsPrefix (applied_of (with_bunch (received_on (Took k es ds ∷ past) ch) b)) (all_bunches ch (messages_on from ch))
  applies = (
    (told ch).0,
    sym (cut_in_parts sender from dir.run ch) ∙ (told ch).1
        ∙ ap (λ (g : List Received). applied_of g ++ (told ch).0) (entry_here (received_on (Took k es ds ∷ past) ch) ch b made.reliable made.channel),
  )

  pub hears_carried : CarriedHeard end k es past ch (messages_on from ch) few State done steps ds b
  hears_carried =
      carried_heard end k es past ch (messages_on from ch) few State done steps ds s b n placed made.reliable made.channel number whole (applied_at sender from (Took k es ds ∷ past) dir.run dir.applies ch) split applies
      (λ lo new. dir.overruns ch n lo carried.high new)

  -- what was received whole once it is heard
  pub whole_after : (news : List Delivered) (t : State news) → wholes_from [] (applied_of (with_bunch (received_on (Took k es ds ∷ past) ch) b)) ≡ map (payload_of ch) (done news t)
      → wholes_of (Took k (Heard b ∷ es) news ∷ past) ch ≡ map (payload_of ch) (done news t)
  whole_after news t w = ap (λ (g : List Received). wholes_from [] (applied_of g)) (entry_here (received_on (Took k es ds ∷ past) ch) ch b made.reliable made.channel) ∙ w

  pub whole_else : (news : List Delivered) (c : ℕ) → (ch ≡ c → ⊥) → wholes_of (Took k (Heard b ∷ es) news ∷ past) c ≡ wholes_of (Took k es ds ∷ past) c
  whole_else news c ne = ap (λ (g : List Received). wholes_from [] (applied_of g)) (entry_elsewhere (received_on (Took k es ds ∷ past) c) c b (λ e. ne (sym made.channel ∙ e)))
