use Rattle.std.proofs.Common.{◌≡◌, ℕ, List, length, sym, subst, ap, ◌∙◌, unwrap_or, Option, arith}
use Rattle.protocol_model.specs.Search.{insert_in_order}
use Rattle.protocol_model.specs.Sight.{Seen as SeenSpec}
use Rattle.sender_steps.specs.declared.sight.Seen.{Seen}
use Rattle.sender_steps.specs.Sights.{sight_value}
use Rattle.std.specs.List.{AllByRecursion}
use Rattle.driver_laws.specs.Counted.{goes_before}
use Rattle.driver_sights.specs.Looking.{IsMade}
use Rattle.driver_sights.proofs.Entries.{added, inserted_value, all_inserted, placed_at}
use Rattle.driver_sights.proofs.Made.{made_none}
use Rattle.driver_sights.proofs.graves.put_grave.Goals as goal
use Rattle.driver_sights.proofs.graves.put_grave.Goals.{in-Some, in-None, in-Ok, in-Err}

pub insert-requires : goal.insert-requires
insert-requires c =
    let h = placed_at c.args.grave.now.actor c.args.sight.now.items c.as_slice.result.now c.first_from.result
    c.match-first_from.i c.as_slice.ensures.value c.first_from.ensures is in
    let n = ap (λ (xs : List Seen). length xs) c.as_slice.ensures.value in
    let l = c.as_slice.ensures.len in
    omega (arith, h, n, l)
  where
    is : c.match-first_from.i ≡ unwrap_or c.first_from.result (length c.args.sight.now.items)
    is = elim c.match-first_from.branch [
      | in-Some w ↦ w.i-is ∙ ap (λ (o : Option ℕ). unwrap_or o (length c.args.sight.now.items)) (sym w.in-Some.is)
      | in-None w ↦ w.i-is ∙ w.len-i.ensures ∙ sym c.as_slice.ensures.len ∙ ap length c.as_slice.ensures.value
          ∙ ap (λ (o : Option ℕ). unwrap_or o (length c.args.sight.now.items)) (sym w.in-None.is)
    ]

pub returns-clause-given : goal.returns-clause-given
returns-clause-given c = elim c.match-insert.branch [
  | in-Ok w ↦ rw w.result-is (λ layout edits grave.
      let entry = c.gone.ensures.entry layout edits grave.class in
      ap (sight_value layout)
      (added c.gone.result c.args.sight.now.items c.as_slice.result.now c.insert.new.self.items
      c.args.grave.now.actor c.first_from.result c.match-first_from.i (ap (λ (s : SeenSpec). s.actor) entry)
      c.as_slice.ensures.value c.first_from.ensures is (rw w.in-Ok.is at c.insert.ensures.items))
      ∙ inserted_value layout c.gone.result c.args.sight.now.items
      ∙ ap (λ (s : SeenSpec). insert_in_order goes_before s (sight_value layout c.args.sight.now.items)) entry)
  | in-Err w ↦ rw w.result-is tt
]
  where
    is : c.match-first_from.i ≡ unwrap_or c.first_from.result (length c.args.sight.now.items)
    is = elim c.match-first_from.branch [
      | in-Some w ↦ w.i-is ∙ ap (λ (o : Option ℕ). unwrap_or o (length c.args.sight.now.items)) (sym w.in-Some.is)
      | in-None w ↦ w.i-is ∙ w.len-i.ensures ∙ sym c.as_slice.ensures.len ∙ ap length c.as_slice.ensures.value
          ∙ ap (λ (o : Option ℕ). unwrap_or o (length c.args.sight.now.items)) (sym w.in-None.is)
    ]

pub returns-clause-made : goal.returns-clause-made
returns-clause-made c = elim c.match-insert.branch [
  | in-Ok w ↦ rw w.result-is (λ layout edits grave h.
      let entry = c.gone.ensures.entry layout edits grave.class in
      subst (AllByRecursion (IsMade layout))
      (sym (added c.gone.result c.args.sight.now.items c.as_slice.result.now c.insert.new.self.items
      c.args.grave.now.actor c.first_from.result c.match-first_from.i (ap (λ (s : SeenSpec). s.actor) entry)
      c.as_slice.ensures.value c.first_from.ensures is (rw w.in-Ok.is at c.insert.ensures.items)))
      (all_inserted (IsMade layout) c.gone.result c.args.sight.now.items
      (made_none layout c.gone.result c.args.grave.now.class c.gone.ensures.class grave.there c.gone.ensures.none) h))
  | in-Err w ↦ rw w.result-is tt
]
  where
    is : c.match-first_from.i ≡ unwrap_or c.first_from.result (length c.args.sight.now.items)
    is = elim c.match-first_from.branch [
      | in-Some w ↦ w.i-is ∙ ap (λ (o : Option ℕ). unwrap_or o (length c.args.sight.now.items)) (sym w.in-Some.is)
      | in-None w ↦ w.i-is ∙ w.len-i.ensures ∙ sym c.as_slice.ensures.len ∙ ap length c.as_slice.ensures.value
          ∙ ap (λ (o : Option ℕ). unwrap_or o (length c.args.sight.now.items)) (sym w.in-None.is)
    ]
