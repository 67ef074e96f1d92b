-- Actors told one by one of the packets in which their updates went.
use Rattle.std.proofs.Common.{◌≡◌, ◌≢◌, ◌⊎◌, inl, inr, ◌∙◌, ℕ, ◌+◌, ◌<◌, ◌≤◌, List, Some, ap, sym, subst, arith}
use Rattle.std.specs.List.{slice_get}
use Rattle.std.proofs.lemmas.Bool.{cases_eq}
use Rattle.change_model.specs.Changes.{Sample}
use Rattle.connection_model.specs.Feed.{Past}
use Rattle.sender_laws.specs.Acts.{MovesTo}
use Rattle.sender_records.specs.declared.actor.ActorRecord.{ActorRecord}
use Rattle.sender_records.specs.Handles.{KeepsHandles, handle_in}
use Rattle.sender_steps.specs.Sender.{record_in, packet_in}
use Rattle.sender_steps.specs.declared.sent.UpdateSent.{UpdateSent}

-- the first so many of these updates were told
pub record Tells (from to : ℕ) (updates : List UpdateSent) (count : ℕ)
    (start now : List (ℕ × ActorRecord)) : Type 0 where
  pub life : (a : ℕ) → (record_in now a).life ≡ (record_in start a).life
  pub service : (a : ℕ) → (record_in now a).service ≡ (record_in start a).service
  pub told : (past later : Past) (samples : List Sample) (a : ℕ) → MovesTo from to past later
      → KeepsHandles past samples a (record_in start a).handles
      → KeepsHandles later samples a (record_in now a).handles
      ⊎ ((record_in now a ≡ record_in start a) × ((i : ℕ) (u : UpdateSent) → i < count → slice_get updates i ≡ Some u
      → u.packet ≤ to → u.actor ≢ a))
  pub packets : (a h : ℕ) → packet_in now a h ≡ packet_in start a h

-- none of the first ones is of the actor, nor is one more
none_more : (to : ℕ) (updates : List UpdateSent) (count a : ℕ) (x : UpdateSent) → slice_get updates count ≡ Some x
    → (x.packet ≤ to → x.actor ≢ a)
    → ((i : ℕ) (u : UpdateSent) → i < count → slice_get updates i ≡ Some u → u.packet ≤ to → u.actor ≢ a)
    → (i : ℕ) (u : UpdateSent) → i < count + 1 → slice_get updates i ≡ Some u → u.packet ≤ to → u.actor ≢ a
none_more to updates count a x at last before i u lt there le = elim (cases_eq i count) [
  | inl e ↦ (let same : x ≡ u = here (sym at ∙ ap (slice_get updates) (sym e) ∙ there) in
      subst (λ (v : UpdateSent). v.packet ≤ to → v.actor ≢ a) same last le)
  | inr ne ↦ before i u (omega arith) there le
]
  where
    here : Some x ≡ Some u → x ≡ u
    here e = cc

pub skips : (from to : ℕ) (updates : List UpdateSent) (count : ℕ) (x : UpdateSent) (start now : List (ℕ × ActorRecord))
    → slice_get updates count ≡ Some x → to < x.packet
    → Tells from to updates count start now → Tells from to updates (count + 1) start now
skips from to updates count x start now at over t = record {
  life = t.life;
  service = t.service;
  told = λ past later samples a m k. elim (t.told past later samples a m k) [
    | inl kept ↦ inl kept
    | inr q ↦ inr (q.0, none_more to updates count a x at (λ le. absurd (omega (arith, le, over))) q.1)
  ];
  packets = t.packets;
}

pub tells : (from to : ℕ) (updates : List UpdateSent) (count : ℕ) (x : UpdateSent)
    (start now new : List (ℕ × ActorRecord)) → slice_get updates count ≡ Some x
    → ((a : ℕ) → x.actor ≢ a → record_in new a ≡ record_in now a)
    → (record_in new x.actor).life ≡ (record_in now x.actor).life
    → (record_in new x.actor).service ≡ (record_in now x.actor).service
    → ((past later : Past) (samples : List Sample) → MovesTo from to past later
    → KeepsHandles past samples x.actor (record_in now x.actor).handles
    → KeepsHandles later samples x.actor (record_in new x.actor).handles)
    → ((past later : Past) (samples : List Sample) → MovesTo from to past later
    → KeepsHandles later samples x.actor (record_in now x.actor).handles
    → KeepsHandles later samples x.actor (record_in new x.actor).handles)
    → ((h : ℕ) → packet_in new x.actor h ≡ packet_in now x.actor h)
    → Tells from to updates count start now → Tells from to updates (count + 1) start new
tells from to updates count x start now new at others life service told again packets t = record {
  life = λ a. elim (cases_eq x.actor a) [
    | inl e ↦ subst (λ (b : ℕ). (record_in new b).life ≡ (record_in start b).life) e (life ∙ t.life x.actor)
    | inr ne ↦ ap (λ (r : ActorRecord). r.life) (others a ne) ∙ t.life a
  ];
  service = λ a. elim (cases_eq x.actor a) [
    | inl e ↦ subst (λ (b : ℕ). (record_in new b).service ≡ (record_in start b).service) e (service ∙ t.service x.actor)
    | inr ne ↦ ap (λ (r : ActorRecord). r.service) (others a ne) ∙ t.service a
  ];
  told = λ past later samples a m k. elim (cases_eq x.actor a) [
    | inl e ↦ inl (own past later samples a m e (t.told past later samples a m k) k)
    | inr ne ↦ other past later samples a ne (t.told past later samples a m k)
  ];
  packets = λ a h. elim (cases_eq x.actor a) [
    | inl e ↦ subst (λ (b : ℕ). packet_in new b h ≡ packet_in start b h) e (packets h ∙ t.packets x.actor h)
    | inr ne ↦ ap (λ (r : ActorRecord). (handle_in r.handles.handles h).packet) (others a ne) ∙ t.packets a h
  ];
}
  where
    own : (past later : Past) (samples : List Sample) (a : ℕ) → MovesTo from to past later → x.actor ≡ a
        → KeepsHandles later samples a (record_in now a).handles
        ⊎ ((record_in now a ≡ record_in start a) × ((i : ℕ) (u : UpdateSent) → i < count → slice_get updates i ≡ Some u
        → u.packet ≤ to → u.actor ≢ a))
        → KeepsHandles past samples a (record_in start a).handles
        → KeepsHandles later samples a (record_in new a).handles
    own past later samples a m e (inl kept) k =
        subst (λ (b : ℕ). KeepsHandles later samples b (record_in new b).handles) e
        (again past later samples m (subst (λ (b : ℕ). KeepsHandles later samples b (record_in now b).handles)
        (sym e) kept))
    own past later samples a m e (inr q) k =
        subst (λ (b : ℕ). KeepsHandles later samples b (record_in new b).handles) e
        (told past later samples m (subst (λ (b : ℕ). KeepsHandles past samples b (record_in now b).handles) (sym e)
        (subst (λ (r : ActorRecord). KeepsHandles past samples a r.handles) (sym q.0) k)))

    other : (past later : Past) (samples : List Sample) (a : ℕ) → x.actor ≢ a
        → KeepsHandles later samples a (record_in now a).handles
        ⊎ ((record_in now a ≡ record_in start a) × ((i : ℕ) (u : UpdateSent) → i < count → slice_get updates i ≡ Some u
        → u.packet ≤ to → u.actor ≢ a))
        → KeepsHandles later samples a (record_in new a).handles
        ⊎ ((record_in new a ≡ record_in start a) × ((i : ℕ) (u : UpdateSent) → i < count + 1
        → slice_get updates i ≡ Some u → u.packet ≤ to → u.actor ≢ a))
    other past later samples a ne (inl kept) = inl (subst (λ (r : ActorRecord). KeepsHandles later samples a r.handles)
        (sym (others a ne)) kept)
    other past later samples a ne (inr q) = inr (others a ne ∙ q.0, none_more to updates count a x at (λ le. ne) q.1)
