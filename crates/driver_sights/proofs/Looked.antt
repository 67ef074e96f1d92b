-- One actor is looked at for a player: what its entry shows, who was sampled since, and how many steps it took.
use Rattle.std.proofs.Common.{◌≡◌, ◌≢◌, ℕ, ◌+◌, ◌≤◌, [], Bool, true, false, cond, ◌==◌, ◌&&◌, ◌||◌, not, None, refl, sym, ap, ◌∙◌, arith}
use Rattle.std.proofs.lemmas.Bool.{eqb-true, eq-eqb}
use Rattle.protocol_model.specs.Sight.{Seen, is_relevant, seen_of}
use Rattle.protocol_model.specs.Value.{Table}
use Rattle.protocol_model.specs.World.{Edits, spawn_of, is_dormant, flush_of}
use Rattle.connection_model.specs.Feed.{Past}
use Rattle.connection_model.specs.Items.{is_quiet}
use Rattle.world_table.specs.declared.edit.Look.{Look}
use Rattle.sender_steps.specs.States.{is_quiet_as}
use Rattle.driver_laws.specs.Counted.{cells, cells_of}
use Rattle.driver_laws.specs.Given.{shown_as}
use Rattle.driver_sights.specs.Looking.{is_awake, AreSteps, AreAmong}
use Rattle.driver_sights.proofs.Classes.{LookIs}
use Rattle.driver_sights.proofs.Steps.{with_one, among_less}

-- ---- the entry

-- quiet as the sender has it
pub quiet_as : (table : Table) (edits : Edits) (player : ℕ) (past : Past) (a : ℕ) (dormant : Bool) (flush : ℕ)
    → dormant ≡ is_dormant edits a → flush ≡ flush_of edits a
    → is_quiet_as past a dormant flush ≡ is_quiet past (seen_of table edits player a)
quiet_as table edits player past a dormant flush d f = rw (d, f) refl

-- a quiet actor is shown without its values
pub shown_quiet : (past : Past) (s e : Seen) → is_quiet past s ≡ true → e ≡ record s { values = [] }
    → e ≡ shown_as past s
shown_quiet past s e quiet is = is ∙ sym (ap (λ (b : Bool). cond b (record s { values = [] }) s) quiet)

-- another one with them
pub shown_whole : (past : Past) (s e : Seen) → is_quiet past s ≡ false → e ≡ s → e ≡ shown_as past s
shown_whole past s e quiet is = is ∙ sym (ap (λ (b : Bool). cond b (record s { values = [] }) s) quiet)

-- ---- who was sampled

pub awake_not : (table : Table) (edits : Edits) (player : ℕ) (past : Past) (a : ℕ)
    → is_quiet past (seen_of table edits player a) ≡ true → is_awake table edits player past a ≡ false
awake_not table edits player past a e =
    ap (λ (q : Bool). is_relevant table edits player a && not q) e ∙ none (is_relevant table edits player a)
  where
    none : (b : Bool) → (b && not true) ≡ false
    none true = refl
    none false = refl

pub awake_so : (table : Table) (edits : Edits) (player : ℕ) (past : Past) (a : ℕ)
    → is_relevant table edits player a ≡ true → is_quiet past (seen_of table edits player a) ≡ false
    → is_awake table edits player past a ≡ true
awake_so table edits player past a r e =
    ap (λ (q : Bool). is_relevant table edits player a && not q) e ∙ ap (λ (b : Bool). b && not false) r

-- an actor that isn't awake adds nobody
pub noted_none : (p before : ℕ → Bool) (a : ℕ) → p a ≡ false → (b : ℕ) → before b ≡ (a == b && p b || before b)
noted_none p before a e b = by (a == b) refl
  where
    by : (t : Bool) → (a == b) ≡ t → before b ≡ (t && p b || before b)
    by true q = ap (λ (t : Bool). t || before b) (sym (ap p (sym (eqb-true a b q)) ∙ e))
    by false q = refl

-- one that is adds itself
pub noted_one : (p before after : ℕ → Bool) (a : ℕ) → p a ≡ true → ((b : ℕ) → after b ≡ (a == b || before b))
    → (b : ℕ) → after b ≡ (a == b && p b || before b)
noted_one p before after a e h b = h b ∙ by (a == b) refl
  where
    by : (t : Bool) → (a == b) ≡ t → (t || before b) ≡ (t && p b || before b)
    by true q = ap (λ (t : Bool). t || before b) (sym (ap p (sym (eqb-true a b q)) ∙ e))
    by false q = refl

-- ---- steps

one_step : (s l c d : ℕ) → c ≤ d → l ≡ s + 1 → l + c ≤ s + 1 + d
one_step s l c d le e = omega (arith, le, e)

-- a look alone
pub looked_steps : (table : Table) (edits : Edits) (steps later : ℕ) (before most : ℕ → Bool) → AreAmong before most
    → later ≡ steps + 1 → AreSteps table edits steps 1 before most later
looked_steps table edits steps later before most h e =
    one_step steps later (cells table edits before) (cells table edits most) (among_less table edits before most h) e

sample_steps : (s l k n c d m : ℕ) → l ≡ s + 1 → k ≤ l + n → d ≡ n + c → d ≤ m → k + c ≤ s + 1 + m
sample_steps s l k n c d m e le is most = omega (arith, e, le, is, most)

-- a look and a sample, where there was none yet
pub sampled_steps : (table : Table) (edits : Edits) (steps looked later : ℕ) (before most : ℕ → Bool) (a count : ℕ)
    → spawn_of edits a ≢ None → cells_of table edits a ≡ count → looked ≡ steps + 1
    → later ≤ looked + cond (before a) 0 count → AreAmong before most → most a ≡ true
    → AreSteps table edits steps 1 before most later
sampled_steps table edits steps looked later before most a count there is look taken h own =
    sample_steps steps looked later (cond (before a) 0 count) (cells table edits before)
    (cells table edits (λ b. a == b || before b)) (cells table edits most) look taken
    (with_one table edits before (λ b. a == b || before b) a there (λ b. refl)
    ∙ ap (λ (n : ℕ). cond (before a) 0 n + cells table edits before) is)
    (among_less table edits (λ b. a == b || before b) most among)
  where
    among : AreAmong (λ b. a == b || before b) most
    among b e = by (a == b) refl e
      where
        by : (t : Bool) → (a == b) ≡ t → (t || before b) ≡ true → most b ≡ true
        by true q e = ap most (sym (eqb-true a b q)) ∙ own
        by false q e = h b e

-- those sampled before are among those sampled since
pub among_after : (before after : ℕ → Bool) (a : ℕ) → ((b : ℕ) → after b ≡ (a == b || before b)) → AreAmong before after
among_after before after a h b e = h b ∙ ap (λ (t : Bool). a == b || t) e ∙ or_true (a == b)
  where
    or_true : (t : Bool) → (t || true) ≡ true
    or_true true = refl
    or_true false = refl

pub own_after : (before after : ℕ → Bool) (a : ℕ) → ((b : ℕ) → after b ≡ (a == b || before b)) → after a ≡ true
own_after before after a h = h a ∙ ap (λ (t : Bool). t || before a) (eq-eqb a a refl)

-- ---- what the code asks

pub quiet_so : (table : Table) (edits : Edits) (player : ℕ) (past : Past) (a : ℕ) (look : Look) (q b : Bool)
    → LookIs table edits a look → q ≡ is_quiet_as past a look.dormant look.flush → q ≡ b
    → is_quiet past (seen_of table edits player a) ≡ b
quiet_so table edits player past a look q b is asked so =
    sym (quiet_as table edits player past a look.dormant look.flush is.dormant is.flush) ∙ sym asked ∙ so
