-- What is told over several calls, where it is told.
use Rattle.std.proofs.Common.{◌≡◌, ℕ, List, [], ◌∷◌, ◌++◌, length, refl, ap, sym, ◌∙◌, arith, length-append, subst, Some, None, Ok}
use Rattle.std.specs.Prelude.{option_map}
use Rattle.live_model.specs.Outside.{Peer}
use Rattle.live_links.specs.declared.link.Heard.{Heard as HeardCode}
use Rattle.live_links.specs.Told.{EndTold, Told, heard_value, new_end, at_end, hears, sends, Opens, Counts, Hears, Sends, TellsEach, AreTold, AreOpen}
use Rattle.live_links.proofs.Ends.{length_at_end}

-- ---- none

no_end : (ends : List EndTold) → length ends ≡ 0 → ends ≡ []
no_end [] h = refl
no_end (e ∷ ends) h = absurd (omega arith)

none_told : (told : Told) → TellsEach told 0 → AreTold told []
none_told None h = tt
none_told (Some ends) h = no_end ends h

-- a link without open ends
pub none_open : (told : Told) (count : ℕ) → TellsEach told count → count ≡ 0 → AreOpen told count []
none_open told count each none = record { number = none; lists = none_told told (subst (TellsEach told) none each) }

-- ---- steps

-- a step on what is told is one on each list that it may be
pub step_told : (before now : Told) (f : List EndTold → List EndTold) (ends : List EndTold) → AreTold before ends
    → now ≡ option_map f before → AreTold now (f ends)
step_told None now f ends h e = subst (λ (t : Told). AreTold t (f ends)) (sym e) tt
step_told (Some told) now f ends h e = subst (λ (t : Told). AreTold t (f ends)) (sym e) (ap f h)

-- an end more is open
pub opened : {T : Type 0} (before now : Told) (count count_now : ℕ) (ends : List EndTold) (x : T)
    → AreOpen before count ends → Opens {T = T} before now (Ok x) → Counts {T = T} count count_now (Ok x)
    → AreOpen now count_now (ends ++ new_end ∷ [])
opened before now count count_now ends x h told number = record {
  number = omega (arith, h.number, length-append ends (new_end ∷ []));
  lists = step_told before now (λ ends. ends ++ new_end ∷ []) ends h.lists told;
}

-- an end heard one thing more
pub heard_more : (before now : Told) (count count_now end : ℕ) (ends : List EndTold) (heard : HeardCode)
    → AreOpen before count ends → Hears before now end (Ok heard) → count_now ≡ count
    → AreOpen now count_now (at_end (hears (heard_value heard)) end ends)
heard_more before now count count_now end ends heard h told number = record {
  number = number ∙ h.number ∙ sym (length_at_end (hears (heard_value heard)) end ends);
  lists = step_told before now (at_end (hears (heard_value heard)) end) ends h.lists told;
}

-- a datagram more was sent on an end
pub sent_more : {T : Type 0} (before now : Told) (count count_now end : ℕ) (to : Peer) (bytes : List ℕ)
    (ends : List EndTold) (x : T) → AreOpen before count ends → Sends {T = T} before now end to bytes (Ok x)
    → count_now ≡ count → AreOpen now count_now (at_end (sends to bytes) end ends)
sent_more before now count count_now end to bytes ends x h told number = record {
  number = number ∙ h.number ∙ sym (length_at_end (sends to bytes) end ends);
  lists = step_told before now (at_end (sends to bytes) end) ends h.lists told;
}

-- a refusal leaves them
pub as_before : (before now : Told) (count count_now : ℕ) (ends : List EndTold) → AreOpen before count ends
    → now ≡ before → count_now ≡ count → AreOpen now count_now ends
as_before before now count count_now ends h told number = record {
  number = number ∙ h.number;
  lists = subst (λ (t : Told). AreTold t ends) (sym told) h.lists;
}
