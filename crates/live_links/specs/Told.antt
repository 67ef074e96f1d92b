-- What a link tells of its ends: what each heard, and what was sent on it.
use Rattle.std.specs.Prelude.{◌≡◌, ℕ, zero, suc, ◌+◌, List, [], ◌∷◌, ◌++◌, length, slice_get, Option, Some, None, option_map, unwrap_or, Result, Ok, Err}
use Rattle.net_core.specs.Counts.{Rose}
use Rattle.live_model.specs.Outside.{Peer, Heard, Datagram, Quiet}
use Rattle.live_links.specs.declared.link.LinkRefusal.{LinkRefusal}
use Rattle.live_links.specs.declared.link.LinkRefusal.TheVariants as link
use Rattle.live_links.specs.declared.link.Heard.{Heard as HeardCode}
use Rattle.live_links.specs.declared.link.Heard.TheVariants as code

-- of one end: what it heard and what was sent on it, in order
pub record EndTold : Type 0 where
  pub heard : List Heard
  pub sent : List (Peer × List ℕ)

-- of a link: its ends in the order in which they were opened, where they are told
abbrev pub Told : Type 0
Told = Option (List EndTold)

-- what an end heard, as the definitions have it
abbrev pub heard_value : HeardCode → Heard
heard_value (code.Datagram from bytes) = Datagram from bytes
heard_value code.Quiet = Quiet

-- ---- steps

-- an end that has heard nothing yet
abbrev pub new_end : EndTold
new_end = record { heard = []; sent = [] }

-- one end goes on, and the others stay
abbrev pub at_end : {E : Type 0} → (E → E) → (end : ℕ) → List E → List E
at_end step n [] = []
at_end step zero (e ∷ ends) = step e ∷ ends
at_end step (suc n) (e ∷ ends) = e ∷ at_end step n ends

-- it hears one thing more
abbrev pub hears : Heard → EndTold → EndTold
hears h e = record e { heard = e.heard ++ h ∷ [] }

-- a datagram more is sent on it
abbrev pub sends : Peer → List ℕ → EndTold → EndTold
sends to bytes e = record e { sent = e.sent ++ (to, bytes) ∷ [] }

-- ---- lists of one end

-- what the end heard; nothing where it isn't open
abbrev pub heard_at : List EndTold → (end : ℕ) → List Heard
heard_at ends end = unwrap_or (option_map (λ (e : EndTold). e.heard) (slice_get ends end)) []

-- what was sent on the end; nothing where it isn't open
abbrev pub sent_at : List EndTold → (end : ℕ) → List (Peer × List ℕ)
sent_at ends end = unwrap_or (option_map (λ (e : EndTold). e.sent) (slice_get ends end)) []

-- ---- answers

-- an end more, where it was opened
abbrev pub Opens : {T : Type 0} → (before now : Told) → Result T LinkRefusal → Type 0
Opens before now (Ok x) = now ≡ option_map (λ ends. ends ++ new_end ∷ []) before
Opens before now (Err why) = now ≡ before

-- one more end is open, or as many as before
abbrev pub Counts : {T : Type 0} → (before now : ℕ) → Result T LinkRefusal → Type 0
Counts before now (Ok x) = now ≡ before + 1
Counts before now (Err why) = now ≡ before

-- what was answered is heard there, and a refusal is nothing
abbrev pub Hears : (before now : Told) → (end : ℕ) → Result HeardCode LinkRefusal → Type 0
Hears before now end (Ok h) = now ≡ option_map (at_end (hears (heard_value h)) end) before
Hears before now end (Err why) = now ≡ before

-- what was sent is told, and a refusal sends nothing
abbrev pub Sends : {T : Type 0} → (before now : Told) → (end : ℕ) → Peer → List ℕ → Result T LinkRefusal
    → Type 0
Sends before now end to bytes (Ok x) = now ≡ option_map (at_end (sends to bytes) end) before
Sends before now end to bytes (Err why) = now ≡ before

-- a call that failed is one fault, and every other answer is none
abbrev pub LinkCause : {T : Type 0} → (before now : ℕ) → Result T LinkRefusal → Type 0
LinkCause before now (Ok x) = now ≡ before
LinkCause before now (Err link.Failed) = Rose before now
LinkCause before now (Err link.Memory) = now ≡ before

-- ---- over several calls

-- where the ends are told, each open one is
abbrev pub TellsEach : Told → (count : ℕ) → Type 0
TellsEach None count = Unit {0}
TellsEach (Some ends) count = length ends ≡ count

-- where the ends are told, they are these
abbrev pub AreTold : Told → List EndTold → Type 0
AreTold None ends = Unit {0}
AreTold (Some told) ends = told ≡ ends

-- as many ends are open, and where they are told, they are these
pub record AreOpen (told : Told) (count : ℕ) (ends : List EndTold) : Type 0 where
  pub number : count ≡ length ends
  pub lists : AreTold told ends
