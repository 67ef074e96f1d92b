-- What is told of the ends of a pipe.
use Rattle.std.proofs.Common.{◌≡◌, ℕ, zero, suc, ◌<◌, List, [], ◌∷◌, ◌++◌, get_or, Bool, true, false, length, refl, ap, ◌∙◌}
use Rattle.std.proofs.lemmas.Option.{slice_get_read}
use Rattle.std.specs.Prelude.{if◌then◌else◌}
use Rattle.live_model.specs.Outside.{Peer, same_peer, Heard}
use Rattle.live_links.specs.Told.{EndTold, new_end, at_end, hears, sends}
use Rattle.live_links.specs.InMemory.{PipeEndSeen, local_peer, new_pipe_end, told_of, peer_at, other_end, waiting_at, next_waiting, hears_first, sends_on, arrives, after_send}
use Rattle.live_links.proofs.Ends.{length_at_end}

-- an end more is told
pub told_of_new : (ends : List PipeEndSeen) (port : ℕ)
    → told_of (ends ++ new_pipe_end port ∷ []) ≡ told_of ends ++ new_end ∷ []
told_of_new [] port = refl
told_of_new (p ∷ ends) port = ap (λ (es : List EndTold). p.told ∷ es) (told_of_new ends port)

-- what waits at an end, read there
pub waiting_at_is : (ends : List PipeEndSeen) (n : ℕ) (e : PipeEndSeen) → n < length ends → e ≡ get_or ends n e
    → next_waiting e.waiting ≡ next_waiting (waiting_at ends n)
waiting_at_is ends n e lt is = rw (slice_get_read ends (length ends) n e refl lt is) refl

-- what an end hears first is told
pub told_of_hears_first : (ends : List PipeEndSeen) (n : ℕ) (h : Heard) → h ≡ next_waiting (waiting_at ends n)
    → told_of (at_end hears_first n ends) ≡ at_end (hears h) n (told_of ends)
told_of_hears_first [] n h e = refl
told_of_hears_first (p ∷ ends) zero h e = rw e refl
told_of_hears_first (p ∷ ends) (suc n) h e =
    ap (λ (es : List EndTold). p.told ∷ es) (told_of_hears_first ends n h e)

-- what is sent on an end is told
pub told_of_sends_on : (to : Peer) (bytes : List ℕ) (n : ℕ) (ends : List PipeEndSeen)
    → told_of (at_end (sends_on to bytes) n ends) ≡ at_end (sends to bytes) n (told_of ends)
told_of_sends_on to bytes n [] = refl
told_of_sends_on to bytes zero (p ∷ ends) = refl
told_of_sends_on to bytes (suc n) (p ∷ ends) =
    ap (λ (es : List EndTold). p.told ∷ es) (told_of_sends_on to bytes n ends)

either_told : (t : Bool) (p q : PipeEndSeen) → q.told ≡ p.told → (if t then q else p).told ≡ p.told
either_told true p q h = h
either_told false p q h = refl

-- what arrives isn't told
pub told_of_arrives : (to from : Peer) (bytes : List ℕ) (n : ℕ) (ends : List PipeEndSeen)
    → told_of (at_end (arrives to from bytes) n ends) ≡ told_of ends
told_of_arrives to from bytes n [] = refl
told_of_arrives to from bytes zero (p ∷ ends) =
    ap (λ (e : EndTold). e ∷ told_of ends) (either_told (same_peer (local_peer p.port) to) p _ refl)
told_of_arrives to from bytes (suc n) (p ∷ ends) =
    ap (λ (es : List EndTold). p.told ∷ es) (told_of_arrives to from bytes n ends)

-- so of a datagram that is sent it is told on its own end alone
pub told_of_after_send : (end : ℕ) (to : Peer) (bytes : List ℕ) (ends : List PipeEndSeen)
    → told_of (after_send end to bytes ends) ≡ at_end (sends to bytes) end (told_of ends)
told_of_after_send end to bytes ends =
    told_of_arrives to (peer_at ends end) bytes (other_end end) (at_end (sends_on to bytes) end ends)
    ∙ told_of_sends_on to bytes end ends

-- there are as many ends as before
pub length_after_send : (end : ℕ) (to : Peer) (bytes : List ℕ) (ends : List PipeEndSeen)
    → length (after_send end to bytes ends) ≡ length ends
length_after_send end to bytes ends =
    length_at_end (arrives to (peer_at ends end) bytes) (other_end end) (at_end (sends_on to bytes) end ends)
    ∙ length_at_end (sends_on to bytes) end ends
