use Rattle.std.proofs.Common.{sym, ap, subst, ◌≡◌, ◌∙◌, ◌-◌, ◌+◌, ℕ, arith, take, drop, Vec, Global}
use Rattle.std.specs.Option.{option_copied}
use Rattle.std.specs.Prelude.{slice_get}
use Rattle.shadow_changes.specs.declared.change.Change.{Change}
use Rattle.shadow_changes.specs.Lists.{AreListed, above, tick_of, newest_in}
use Rattle.shadow_changes.proofs.Falling.{put_listed, ended, there, no_list}
use Rattle.shadow_changes.proofs.lists.gathered.Goals as goal
use Rattle.shadow_changes.proofs.lists.gathered.Goals.{in-Some+in_ok-note_all, in_default}

pub loop-i-preserved : goal.loop-i-preserved
loop-i-preserved c = λ count newest falls.
    let ns = c.args.lists.now.items in
    let end = c.count_above-end.result in
    let i = c.loop-i.i in
    let few = c.count_above-end.ensures.most in
    let before = c.loop-i.invariant count newest falls in
    elim c.match-get.branch [
      | in-Some+in_ok-note_all w ↦
          subst (λ (cs : Vec Change Global). AreListed count newest 0 cs.items × ((h : ℕ)
          → tick_of cs.items h ≡ newest_in (drop (end - (i + 1)) (take end ns)) h))
          (sym w.changes-is)
          (put_listed ns end i count newest w.in-Some.list.now c.loop-i.changes.items w.as_slice.result.now w.note_all.new.changes.items falls few (omega arith)
          (sym w.in-Some.ensures) w.as_slice.ensures w.in_ok-note_all.ensures before.0 before.1)
      | in_default w ↦ absurd (no_list (slice_get ns (end - 1 - i)) (there ns (end - 1 - i) (omega arith))
          (sym c.get.ensures ∙ ap option_copied w.in_default.is))
    ]

pub returns : goal.returns
returns c = λ count newest falls.
    let ns = c.args.lists.now.items in
    let end = c.count_above-end.result in
    let told = c.loop-i.invariant count newest falls in
    let none : end - c.loop-i.i ≡ 0 = omega arith in (
      told.0,
      λ h.
          ap (above c.args.tick) (told.1 h ∙ ap (λ (k : ℕ). newest_in (drop k (take end ns)) h) none)
          ∙ ended ns count newest c.args.tick end h falls c.count_above-end.ensures.end,
    )
