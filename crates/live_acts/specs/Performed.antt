-- What acts leave outside, where it is told.
use Rattle.std.specs.Prelude.{◌≡◌, ℕ, ◌<◌, ◌==◌, List, [], ◌∷◌, ◌++◌, length, Option, Some, if◌then◌else◌, ⊤}
use Rattle.std.specs.Io.KnownBytes.{Appends}
use Rattle.replication_model.specs.Headline.{IsPrefix}
use Rattle.live_model.specs.Outside.{Heard, Act, Sends, Writes, text_of, sent_on}
use Rattle.live_links.specs.Told.{EndTold, Told, heard_at, sent_at}

-- ---- ends

-- an act that sends does so on one of so many ends
abbrev pub UsesOpen : (count : ℕ) → Act → Type 0
UsesOpen count (Sends end to bytes) = end < count
UsesOpen count (Writes text) = ⊤

abbrev pub UseOpen : (count : ℕ) → List Act → Type 0
UseOpen count [] = ⊤
UseOpen count (act ∷ acts) = UsesOpen count act × UseOpen count acts

-- ---- what is heard meanwhile

-- of each end, by its number
abbrev pub HeardParts : Type 0
HeardParts = (end : ℕ) → List Heard

abbrev pub nothing_heard : HeardParts
nothing_heard n = []

-- one thing, on one end
abbrev pub heard_on : (end : ℕ) → Heard → HeardParts
heard_on end h n = if n == end then h ∷ [] else []

-- the one and then the other
abbrev pub both_parts : HeardParts → HeardParts → HeardParts
both_parts one two n = one n ++ two n

-- ---- what is done

-- the ends heard these parts, and what these acts send was sent on them
pub record EndsPass (heard : HeardParts) (acts : List Act) (before now : List EndTold) : Type 0 where
  pub size : length now ≡ length before
  pub hears : (end : ℕ) → heard_at now end ≡ heard_at before end ++ heard end
  pub sends : (end : ℕ) → sent_at now end ≡ sent_at before end ++ sent_on end acts

-- the same where the link tells its ends
abbrev pub LinkPasses : HeardParts → List Act → (before now : Told) → Type 0
LinkPasses heard acts before now =
    (ends : List EndTold) → before ≡ Some ends
    → (later : List EndTold) × (now ≡ Some later) × EndsPass heard acts ends later

-- all of these acts were done, and these parts heard
pub record Passes (heard : HeardParts) (acts : List Act) (told : Told) (taken : Option (List ℕ))
    (told_now : Told) (taken_now : Option (List ℕ)) : Type 0 where
  pub link : LinkPasses heard acts told told_now
  pub sink : Appends taken taken_now (text_of acts)

-- ---- what is done in part

-- a front of these was added
abbrev pub AddsFront : {A : Type 0} → (old new all : List A) → Type 0
AddsFront {A} old new all = (front : List A) × (IsPrefix front all) × (new ≡ old ++ front)

-- the ends heard these parts, and a front of what these acts send on each was sent
pub record EndsPassPart (heard : HeardParts) (acts : List Act) (before now : List EndTold) : Type 0 where
  pub size : length now ≡ length before
  pub hears : (end : ℕ) → heard_at now end ≡ heard_at before end ++ heard end
  pub sends : (end : ℕ) → AddsFront (sent_at before end) (sent_at now end) (sent_on end acts)

abbrev pub LinkPassesPart : HeardParts → List Act → (before now : Told) → Type 0
LinkPassesPart heard acts before now =
    (ends : List EndTold) → before ≡ Some ends
    → (later : List EndTold) × (now ≡ Some later) × EndsPassPart heard acts ends later

-- a front of the text was taken
abbrev pub TakesFront : (taken taken_now : Option (List ℕ)) → List ℕ → Type 0
TakesFront taken taken_now text = (front : List ℕ) × (IsPrefix front text) × Appends taken taken_now front

-- a front of what these acts do was done, and these parts heard
pub record PassesPart (heard : HeardParts) (acts : List Act) (told : Told) (taken : Option (List ℕ))
    (told_now : Told) (taken_now : Option (List ℕ)) : Type 0 where
  pub link : LinkPassesPart heard acts told told_now
  pub sink : TakesFront taken taken_now (text_of acts)
