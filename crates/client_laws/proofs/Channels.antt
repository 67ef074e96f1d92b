-- Which copy holds a channel, by the channels of all copies.
use Rattle.std.proofs.Common.{◌≡◌, ℕ, ◌==◌, List, [], ◌∷◌, Bool, true, false, Option, Some, None, is_some, unwrap_or, refl, sym, ap, ◌∙◌}
use Rattle.std.specs.Bool.{then_some}
use Rattle.protocol_model.specs.Search.{newest_of}
use Rattle.protocol_model.specs.Value.{Class}
use Rattle.protocol_model.specs.Payload.{Message, Opens, Closes, Updates, Calls, Gone}
use Rattle.connection_model.specs.Feed.{Past, Delivered}
use Rattle.connection_model.specs.Copies.{since_removed, channel_said, class_opened, copy_channel, copy_on, has_copy}
use Rattle.connection_laws.proofs.Searches.{newest_hit, newest_miss}
use Rattle.payload_laws.proofs.CopyOn.{copy_holds, holder_is, none_holds}

never : {A : Type 0} {B : Type 0} (x : A) → None ≡ Some x → B
never x e = absurd (cc)

-- what gives a channel opens
opened_said : (a c : ℕ) (d : Delivered) (m : Message) → d.message ≡ m → channel_said a d ≡ Some (Some c)
    → is_some (class_opened a d) ≡ true
opened_said a c d (Opens exports actor class values) e h = rw e (by_actor (actor == a) (rw e at h))
  where
    by_actor : (t : Bool) → then_some t (Some d.channel) ≡ Some (Some c) → is_some (then_some t class) ≡ true
    by_actor true h = refl
    by_actor false h = never (Some c) h
opened_said a c d (Closes actor sleeps) e h = by_actor (actor == a) (rw e at h)
  where
    by_actor : (t : Bool) → then_some t (let o : Option ℕ = None in o) ≡ Some (Some c)
        → is_some (class_opened a d) ≡ true
    by_actor true h = absurd (cc)
    by_actor false h = never (Some c) h
opened_said a c d (Updates actor class values) e h = never (Some c) (rw e at h)
opened_said a c d (Calls actor number call args) e h = never (Some c) (rw e at h)
opened_said a c d (Gone actor) e h = never (Some c) (rw e at h)

-- so a channel comes with a class
said_opened : (a c : ℕ) (ds : List Delivered) → newest_of (channel_said a) ds ≡ Some (Some c)
    → is_some (newest_of (class_opened a) ds) ≡ true
said_opened a c [] h = never (Some c) h
said_opened a c (d ∷ ds) h = by_said (channel_said a d) refl (λ k. said_opened a c ds k)
  where
    by_class : (o : Option Class) → class_opened a d ≡ o → is_some o ≡ true
        → is_some (newest_of (class_opened a) (d ∷ ds)) ≡ true
    by_class (Some class) e s = ap is_some (newest_hit (class_opened a) d ds class e)
    by_class None e s = absurd (cc)

    or_later : (o : Option Class) → class_opened a d ≡ o → is_some (newest_of (class_opened a) ds) ≡ true
        → is_some (newest_of (class_opened a) (d ∷ ds)) ≡ true
    or_later (Some class) e s = ap is_some (newest_hit (class_opened a) d ds class e)
    or_later None e s = ap is_some (newest_miss (class_opened a) d ds e) ∙ s

    same : (o : Option ℕ) → Some o ≡ Some (Some c) → o ≡ Some c
    same o e = cc

    by_said : (o : Option (Option ℕ)) → channel_said a d ≡ o
        → (newest_of (channel_said a) ds ≡ Some (Some c) → is_some (newest_of (class_opened a) ds) ≡ true)
        → is_some (newest_of (class_opened a) (d ∷ ds)) ≡ true
    by_said None e later =
        or_later (class_opened a d) refl (later (sym (newest_miss (channel_said a) d ds e) ∙ h))
    by_said (Some o) e later =
        let is : o ≡ Some c = same o (sym (newest_hit (channel_said a) d ds o e) ∙ h) in
        by_class (class_opened a d) refl
        (opened_said a c d d.message refl (e ∙ ap (λ (o : Option ℕ). Some o) is))

-- an actor with a channel has a copy
pub channel_copy : (past : Past) (a c : ℕ) → copy_channel past a ≡ Some c → has_copy past a ≡ true
channel_copy past a c h = by (newest_of (channel_said a) (since_removed past a)) refl h
  where
    by : (o : Option (Option ℕ)) → newest_of (channel_said a) (since_removed past a) ≡ o
        → unwrap_or o None ≡ Some c → has_copy past a ≡ true
    by None e h = never c h
    by (Some o) e h = said_opened a c (since_removed past a) (e ∙ ap (λ (o : Option ℕ). Some o) h)

-- no two copies are on one channel
abbrev pub Apart : Past → Type 0
Apart past = (ch a b : ℕ) → copy_channel past a ≡ Some ch → copy_channel past b ≡ Some ch → a ≡ b

pub holds_on : (past : Past) (ch a : ℕ) → Apart past → copy_channel past a ≡ Some ch
    → copy_on past ch ≡ Some a
holds_on past ch a apart h = copy_holds past ch a (channel_copy past a ch h) h (λ b has on. apart ch b a on h)

pub holder_on : (past : Past) (ch a : ℕ) → copy_on past ch ≡ Some a → copy_channel past a ≡ Some ch
holder_on past ch a h = (holder_is past ch a h).1

pub none_on : (past : Past) (ch : ℕ) → ((a : ℕ) → copy_channel past a ≡ Some ch → ⊥) → copy_on past ch ≡ None
none_on past ch none = none_holds past ch (λ a has on. none a on)

-- where the same actors are on a channel as before, the same one holds it
pub holder_same : (past later : Past) (ch : ℕ) → Apart later
    → ((a : ℕ) → copy_channel past a ≡ Some ch → copy_channel later a ≡ Some ch)
    → ((a : ℕ) → copy_channel later a ≡ Some ch → copy_channel past a ≡ Some ch)
    → Apart past → copy_on later ch ≡ copy_on past ch
holder_same past later ch apart on off before = by (copy_on past ch) refl
  where
    by : (o : Option ℕ) → copy_on past ch ≡ o → copy_on later ch ≡ o
    by (Some a) e = holds_on later ch a apart (on a (holder_on past ch a e))
    by None e = none_on later ch (λ a h. never a (sym e ∙ holds_on past ch a before (off a h)))
