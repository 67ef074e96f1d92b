-- The look of a whole tick.
use Rattle.std.proofs.Common.{◌≡◌, ℕ, ◌+◌, ◌*◌, ◌≤◌, List, [], map, Bool, true, false, ◌||◌, refl, sym, ap, ◌∙◌, subst, arith}
use Rattle.std.proofs.lemmas.Bool.{false≢true}
use Rattle.std.proofs.lemmas.Option.{none-some}
use Rattle.protocol_model.specs.Value.{Table}
use Rattle.replication_model.specs.Sampled.{cell_count}
use Rattle.class_layout.specs.Tables.{Layout, table_in}
use Rattle.rep_graph.specs.Graph.{Stands as StandsGraph}
use Rattle.shadow_changes.specs.Samples.{Shadows}
use Rattle.sender_steps.specs.declared.sight.Seen.{Seen}
use Rattle.driver_laws.specs.Counted.{cells}
use Rattle.driver_sights.specs.declared.graves.Grave.{Grave}
use Rattle.driver_sights.specs.Graves.{AreGraves}
use Rattle.driver_sights.specs.Noted.{NotedKept, Notes, is_noted, AreBefore}
use Rattle.net_driver.specs.declared.chair.Chair.{Chair}
use Rattle.net_driver.specs.Served.{Served, connection_of, listed_sum, with_samples}
use Rattle.net_driver.specs.Serves.{Drive, Serves, AreSeated}
use Rattle.net_driver.specs.Sights.{IsLookingAll, AreMade, AreSightsFor, is_awake_in, AreFewSteps, HasLooked}
use Rattle.net_driver.proofs.Sampling.{IsNoted, sampled_serves, sights_now}

-- nothing is noted yet
abbrev pub none_noted : (tick : ℕ) → NotedKept
none_noted tick = record { tick = tick; values = [] }

-- the world, the graph and the graves as a tick begins
pub looking_begins : (d : Drive) (s : Served) → Serves d s
    → IsLookingAll d.world d.graph d.graves (none_noted (d.ticks + 1)) d.changes s.edits s.samples
looking_begins d s h = record {
  world = h.world;
  nodes = subst (λ (l : Layout). StandsGraph d.graph (table_in l) s.edits) (sym h.layout) h.graph;
  buried = subst (λ (l : Layout). AreGraves l s.edits d.graves) (sym h.layout) h.graves;
  notes = record {
    now = s.samples;
    keeps = h.changes;
    each = λ a. refl;
    values = λ a values e. absurd (none-some values e);
    before = subst (λ (k : ℕ). AreBefore (table_in d.world.layout) s.edits (k + 1) s.samples) (sym h.ticks)
        (subst (λ (l : Layout). AreBefore (table_in l) s.edits (s.ticks + 1) s.samples) (sym h.layout) h.sampled);
  };
}

pub seated_begins : (d : Drive) (s : Served) → Serves d s
    → AreSeated (table_in d.world.layout) s.edits s.samples d.greatest d.ends d.chairs s.seats
seated_begins d s h =
    subst (λ (l : Layout). AreSeated (table_in l) s.edits s.samples d.greatest d.ends d.chairs s.seats) (sym h.layout)
    h.seated

-- the same of equal lists
pub looking_at : (d : Drive) (s : Served) (graves : List Grave) (n : NotedKept) → Serves d s → graves ≡ d.graves
    → n ≡ none_noted (d.ticks + 1) → IsLookingAll d.world d.graph graves n d.changes s.edits s.samples
looking_at d s graves n h g e =
    subst (λ (gs : List Grave). IsLookingAll d.world d.graph gs n d.changes s.edits s.samples) (sym g)
    (subst (λ (x : NotedKept). IsLookingAll d.world d.graph d.graves x d.changes s.edits s.samples) (sym e)
    (looking_begins d s h))

pub seated_of : (d : Drive) (s : Served) (chairs : List Chair) → Serves d s → chairs ≡ d.chairs
    → AreSeated (table_in d.world.layout) s.edits s.samples d.greatest d.ends chairs s.seats
seated_of d s chairs h e =
    subst (λ (cs : List Chair). AreSeated (table_in d.world.layout) s.edits s.samples d.greatest d.ends cs s.seats) (sym e)
    (seated_begins d s h)

or_false : (b : Bool) → (b || false) ≡ b
or_false true = refl
or_false false = refl

-- what is known after it
pub record IsLookOf (d : Drive) (s : Served) (n : NotedKept) (changes : Shadows) (begun later : ℕ)
    (sights : List (List Seen)) : Type 0 where
  pub looked : HasLooked d.world.layout s.edits d.graves s.samples (none_noted (d.ticks + 1)) n changes begun later []
      sights s.seats
  pub tick : n.tick ≡ d.ticks + 1

pub look_is : (d : Drive) (s : Served) (graves : List Grave) (n0 n : NotedKept) (changes : Shadows) (begun later : ℕ)
    (sights : List (List Seen)) → graves ≡ d.graves → n0 ≡ none_noted (d.ticks + 1) → n.tick ≡ n0.tick
    → HasLooked d.world.layout s.edits graves s.samples n0 n changes begun later [] sights s.seats
    → IsLookOf d s n changes begun later sights
look_is d s graves n0 n changes begun later sights g e t h = record {
  looked = subst (λ (gs : List Grave). HasLooked d.world.layout s.edits gs s.samples (none_noted (d.ticks + 1)) n changes
      begun later [] sights s.seats) g
      (subst (λ (x : NotedKept). HasLooked d.world.layout s.edits graves s.samples x n changes begun later [] sights
      s.seats) e h);
  tick = t ∙ ap (λ (x : NotedKept). x.tick) e;
}

pub few_is : (d : Drive) (s : Served) (n0 : NotedKept) (begun later : ℕ) → Serves d s → n0 ≡ none_noted (d.ticks + 1)
    → AreFewSteps (table_in d.world.layout) s.edits n0 begun later s.seats
    → AreFewSteps (table_in d.world.layout) s.edits (none_noted (d.ticks + 1)) begun later s.seats
few_is d s n0 begun later serves e h =
    subst (λ (x : NotedKept). AreFewSteps (table_in d.world.layout) s.edits x begun later s.seats) e h

pub look_noted : (d : Drive) (s : Served) (n : NotedKept) (changes : Shadows) (begun later : ℕ)
    (sights : List (List Seen)) → Serves d s → IsLookOf d s n changes begun later sights
    → IsNoted (table_in d.layout) s n changes
look_noted d s n changes begun later sights h k = record {
  notes = subst (λ (l : Layout). Notes n changes (table_in l) s.edits s.samples) h.layout k.looked.notes;
  tick = k.tick ∙ ap (λ (t : ℕ). t + 1) h.ticks;
  noted = λ a. k.looked.noted a ∙ or_false (is_awake_in (table_in d.world.layout) s.edits s.seats a)
      ∙ ap (λ (l : Layout). is_awake_in (table_in l) s.edits s.seats a) h.layout;
}

pub look_serves : (d first new : Drive) (s : Served) (n : NotedKept) (begun later : ℕ) (sights : List (List Seen))
    → Serves d s → IsLookOf d s n new.changes begun later sights
    → new ≡ record d { changes = new.changes; ticks = d.ticks + 1 } → d ≡ first
    → Serves new (with_samples (table_in first.layout) s)
look_serves d first new s n begun later sights h k is same =
    subst (λ (x : Drive). Serves new (with_samples (table_in x.layout) s)) same
    (sampled_serves d new s n h (look_noted d s n new.changes begun later sights h k) is)

pub look_sights : (d first : Drive) (s : Served) (n : NotedKept) (changes : Shadows) (begun later : ℕ)
    (sights : List (List Seen)) → Serves d s → IsLookOf d s n changes begun later sights → d ≡ first
    → AreSightsFor first.layout s.edits first.graves (with_samples (table_in first.layout) s).samples sights s.seats
look_sights d first s n changes begun later sights h k same =
    subst (λ (x : Drive). AreSightsFor x.layout s.edits x.graves (with_samples (table_in x.layout) s).samples sights s.seats)
    same
    (sights_now d.layout s d.graves sights s.seats (λ a e. e)
    (subst (λ (x : List (List Seen)). AreMade d.layout s.edits d.graves x s.seats) (sym k.looked.added)
    (subst (λ (l : Layout). AreMade l s.edits d.graves k.looked.sights s.seats) h.layout k.looked.made)))

-- as many steps as it may take
pub look_steps : (d first : Drive) (s : Served) (begun later : ℕ) → Serves d s
    → AreFewSteps (table_in d.world.layout) s.edits (none_noted (d.ticks + 1)) begun later s.seats → d ≡ first
    → later ≤ begun + 2 * listed_sum (table_in first.layout) s
    + cell_count (table_in first.layout) s.edits (map (connection_of (table_in first.layout)) s.seats)
look_steps d first s begun later h few same =
    subst (λ (x : Drive). later ≤ begun + 2 * listed_sum (table_in x.layout) s
    + cell_count (table_in x.layout) s.edits (map (connection_of (table_in x.layout)) s.seats)) same
    (subst (λ (l : Layout). later ≤ begun + 2 * listed_sum (table_in l) s
    + cell_count (table_in l) s.edits (map (connection_of (table_in l)) s.seats)) h.layout
    (plain (table_in d.world.layout) (few (is_awake_in (table_in d.world.layout) s.edits s.seats)
    (λ a e. absurd (false≢true e)) (λ a e. e))))
  where
    plain : (table : Table)
        → later + cells table s.edits (is_noted (none_noted (d.ticks + 1)))
        ≤ begun + 2 * listed_sum table s + cells table s.edits (is_awake_in table s.edits s.seats)
        → later ≤ begun + 2 * listed_sum table s
        + cell_count table s.edits (map (connection_of table) s.seats)
    plain table le = omega (arith, le)
