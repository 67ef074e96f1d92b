use Rattle.std.proofs.Common.{◌≡◌, ◌∙◌, ℕ, ◌+◌, ◌<◌, ◌&&◌, ◌||◌, Bool, true, false, List, take, length, ap, sym, refl, subst, arith, slice_index_or}
use Rattle.std.specs.List.{list_any}
use Rattle.std.proofs.Math.ListN.{get_or}
use Rattle.std.proofs.lemmas.List.Folds.{list_any_more}
use Rattle.protocol_model.specs.Side.{AtServer}
use Rattle.protocol_model.specs.Search.{is_among}
use Rattle.connection_model.specs.Feed.{Past}
use Rattle.channel_table.specs.Keeps.{Keeps}
use Rattle.sender_steps.specs.declared.sent.OpenSent.{OpenSent}
use Rattle.sender_steps.specs.Stands.{has_known, is_open_gone}
use Rattle.sender_steps.proofs.Pairs.{take_whole}
use Rattle.sender_steps.proofs.taking.note_arrived.Goals as goal
use Rattle.sender_steps.proofs.taking.note_arrived.Goals.{then-has_arrived, else-has_arrived}

more : (any gone among old new : Bool) → gone ≡ true → new ≡ (among || (any || old))
    → new ≡ ((any || (gone && among)) || old)
more any true true old new e h = h ∙ ap (λ (b : Bool). b) (ones any old)
  where
    ones : (any old : Bool) → true ≡ ((any || true) || old)
    ones true old = refl
    ones false old = refl
more any true false true new e h = h ∙ same any
  where
    same : (any : Bool) → (any || true) ≡ ((any || false) || true)
    same true = refl
    same false = refl
more any true false false new e h = h ∙ same any
  where
    same : (any : Bool) → (any || false) ≡ ((any || false) || false)
    same true = refl
    same false = refl
more any false among old new e h = absurd (let no : false ≡ true = e in cc)

none : (any gone among old : Bool) → gone ≡ false → (any || old) ≡ ((any || (gone && among)) || old)
none any false among old e = ap (λ (b : Bool). b || old) (same any)
  where
    same : (any : Bool) → any ≡ (any || false)
    same true = refl
    same false = refl
none any true among old e = absurd (let no : true ≡ false = e in cc)

pub loop-open-preserved : goal.loop-open-preserved
loop-open-preserved c = elim c.if-has_arrived.branch [
  | then-has_arrived w ↦ (
      let at : (past : Past) (g : ℕ) → list_any (has_known past g) (take (c.loop-open.open-index + 1) c.args.opens.now)
      ≡ (list_any (has_known past g) (take c.loop-open.open-index c.args.opens.now) || has_known past g
      c.open-item.result) =
      λ past g. list_any_more (has_known past g) c.args.opens.now c.loop-open.open-index c.open-item.result
      (omega arith)
      ∙ ap (λ (o : OpenSent). list_any (has_known past g) (take c.loop-open.open-index c.args.opens.now) || has_known
      past g o) (sym c.open-item.is) in
      record {
        len = ap (λ (k : _). length k.items) w.known-is ∙ w.note_known.ensures.length ∙ c.loop-open.invariant.len;
        known = λ past k g lt. ap (λ (v : _). slice_index_or v.items g false) w.known-is
            ∙ more (list_any (has_known past g) (take c.loop-open.open-index c.args.opens.now))
            (is_open_gone past c.open-item.result) (is_among g c.open-item.result.guids)
            (slice_index_or c.args.known.now.items g false) _ (sym (c.has_arrived.ensures AtServer past k)
            ∙ w.if-has_arrived.true)
            (w.note_known.ensures.known g (omega (arith, lt, c.loop-open.invariant.len))
            ∙ ap (λ (gs : List ℕ). is_among g gs || slice_index_or c.loop-open.known.items g false) w.as_slice.ensures
            ∙ ap (λ (b : Bool). is_among g c.open-item.result.guids || b) (c.loop-open.invariant.known past k g lt))
            ∙ ap (λ (b : Bool). b || slice_index_or c.args.known.now.items g false) (sym (at past g));
      })
  | else-has_arrived w ↦ (
      let at : (past : Past) (g : ℕ) → list_any (has_known past g) (take (c.loop-open.open-index + 1) c.args.opens.now)
      ≡ (list_any (has_known past g) (take c.loop-open.open-index c.args.opens.now) || has_known past g
      c.open-item.result) =
      λ past g. list_any_more (has_known past g) c.args.opens.now c.loop-open.open-index c.open-item.result
      (omega arith)
      ∙ ap (λ (o : OpenSent). list_any (has_known past g) (take c.loop-open.open-index c.args.opens.now) || has_known
      past g o) (sym c.open-item.is) in
      record {
        len = ap (λ (k : _). length k.items) w.known-is ∙ c.loop-open.invariant.len;
        known = λ past k g lt. ap (λ (v : _). slice_index_or v.items g false) w.known-is
            ∙ c.loop-open.invariant.known past k g lt
            ∙ none (list_any (has_known past g) (take c.loop-open.open-index c.args.opens.now))
            (is_open_gone past c.open-item.result) (is_among g c.open-item.result.guids)
            (slice_index_or c.args.known.now.items g false) (sym (c.has_arrived.ensures AtServer past k)
            ∙ w.if-has_arrived.false)
            ∙ ap (λ (b : Bool). b || slice_index_or c.args.known.now.items g false) (sym (at past g));
      })
]

pub returns-clause-known : goal.returns-clause-known
returns-clause-known c = λ past k g lt.
    c.loop-open.invariant.known past k g lt
    ∙ ap (λ (os : List OpenSent). list_any (has_known past g) os || slice_index_or c.args.known.now.items g false)
    (take_whole c.args.opens.now c.loop-open.open-index (omega arith))
