-- The index that is free for an open: the least that the channels have clear and bound to nobody.
use Rattle.std.proofs.Common.{◌≡◌, ◌≢◌, ◌∙◌, inl, inr, ◌⊎◌, ℕ, ◌<◌, ◌≤◌, ◌==◌, ◌&&◌, ◌||◌, List, [], ◌∷◌, length, Bool, false, not, ap, sym, refl, arith, Option, Some, None}
use Rattle.std.specs.List.{list_any}
use Rattle.std.proofs.lemmas.Bool.{eq-eqb, ne_eqb, false≢true}
use Rattle.connection_model.specs.Feed.{Past}
use Rattle.connection_model.specs.Bunches.{channels_of, span}
use Rattle.connection_model.specs.State.{ActorState, Closed, Opening, Opened, Closing, Asleep, Mark, state_of, holds_index, index_at, index_of, is_closed, is_index, last_mark, holds, is_held, free_index, opened_actors}
use Rattle.connection_laws.proofs.ActorMarks.{Holders, held_found}
use Rattle.connection_laws.proofs.Holding.{free_index_fits}
use Rattle.connection_laws.proofs.Searches.{least_below}
use Rattle.channel_table.specs.Channels.{Channels}
use Rattle.channel_table.specs.Holders.{actor_bound}
use Rattle.shadow_changes.specs.Samples.{Samples}
use Rattle.sender_turns.specs.Opening.{AreBound}
use Rattle.sender_steps.specs.Sender.{Sender}
use Rattle.sender_steps.specs.Stands.{KeepsBoth}
use Rattle.sender_turns.proofs.Entering.{none_bound}
use Rattle.sender_steps.proofs.Folds.{opened_among}

-- an actor that holds an index isn't closed
held_unclosed : (s : ActorState) (mark : Option Mark) (ch : ℕ) → index_at (holds_index s) mark ≡ Some ch
    → is_closed s ≡ false
held_unclosed Closed mark ch e = absurd (let no : (let o : Option ℕ = None in o) ≡ Some ch = e in cc)
held_unclosed Asleep mark ch e = refl
held_unclosed Opening mark ch e = refl
held_unclosed Opened mark ch e = refl
held_unclosed Closing mark ch e = refl

-- what nobody holds isn't held
none_held : (past : Past) (ch : ℕ) → ((a : ℕ) → index_of past a ≢ Some ch) → (ns : List ℕ)
    → list_any (λ a. holds past a ch) ns ≡ false
none_held past ch free [] = refl
none_held past ch free (n ∷ ns) =
    ap (λ (b : Bool). b || list_any (λ a. holds past a ch) ns) (by (index_of past n) refl) ∙ none_held past ch free ns
  where
    by : (o : Option ℕ) → index_of past n ≡ o → is_index ch o ≡ false
    by None e = refl
    by (Some i) e = ne_eqb i ch (λ q. absurd (free n (e ∙ ap (λ (x : ℕ). let o : Option ℕ = Some x in o) q)))

module _ (s : Sender) (t : Channels) (past : Past) (samples : Samples) (h : KeepsBoth s t past samples) where
  pub are_bound : AreBound t.bound past
  are_bound = record { index = h.bound; paired = h.paired }

  held_at : (a ch : ℕ) → index_of past a ≡ Some ch → actor_bound t.bound ch ≡ Some a
  held_at a ch e = h.paired.forth a ch (h.bound a ∙ e)

  holders : Holders past
  holders = record {
    one = λ a b ch p q. some a b (sym (held_at a ch p) ∙ held_at b ch q);
    opened = λ a ch p. opened_among past a (h.sender.opened a (h.sender.live a
        (ap is_closed (h.sender.each a).life.state ∙ held_unclosed (state_of past a) (last_mark past a) ch p)));
    above = λ a ch p. (h.sender.low a ch p).0;
  }
    where
      some : (x y : ℕ) → (let o : Option ℕ = Some x in o) ≡ Some y → x ≡ y
      some x y e = cc

  -- nobody holds an index that is bound to nobody, and the other way round
  pub unbound_free : (ch : ℕ) → actor_bound t.bound ch ≡ None → (a : ℕ) → index_of past a ≢ Some ch
  unbound_free ch none a e = no a (sym none ∙ held_at a ch e)
    where
      no : (a : ℕ) → (let o : Option ℕ = None in o) ≢ Some a
      no a e = cc

  unheld_bound : (ch : ℕ) → is_held past ch ≡ false → actor_bound t.bound ch ≡ None
  unheld_bound ch none =
      none_bound t.bound past ch are_bound (λ a e. false≢true (sym none ∙ held_found past holders a ch e))

  pub free_is : (ch : ℕ) → (span past ch ≡ 0) × (actor_bound t.bound ch ≡ None) × (1 ≤ ch)
      → ((c : ℕ) → 1 ≤ c → c < ch → span past c ≡ 0 → actor_bound t.bound c ≢ None) → ch ≡ free_index past
  free_is ch free least = by (order ch (free_index past))
    where
      order : (x y : ℕ) → (x < y) ⊎ ((x ≡ y) ⊎ (y < x))
      order x y = grind arith

      by : (ch < free_index past) ⊎ ((ch ≡ free_index past) ⊎ (free_index past < ch)) → ch ≡ free_index past
      by (inr (inl e)) = e
      by (inr (inr lt)) =
          absurd (least (free_index past) (free_index_fits past).low lt (free_index_fits past).clear
          (unheld_bound (free_index past) (free_index_fits past).held))
      by (inl lt) =
          absurd (false≢true (sym (least_below (λ c. not (is_held past c) && span past c == 0)
          (length (channels_of past)) 1 ch free.2 lt)
          ∙ ap (λ (b : Bool). not b && span past ch == 0)
          (none_held past ch (unbound_free ch free.1) (opened_actors past))
          ∙ eq-eqb (span past ch) 0 free.0))
