use Rattle.std.proofs.Common.{◌≡◌, ℕ, ◌+◌, ◌-◌, ◌<◌, ◌≤◌, List, true, false, Some, None, ap, sym, ◌∙◌, arith, nat_lt}
use Rattle.std.specs.Prelude.{slice_get}
use Rattle.std.specs.Option.{option_copied}
use Rattle.std.proofs.lemmas.Bool.Decides.{nat_tests}
use Rattle.replay_places.proofs.Delivered.{on_ok_then}
use Rattle.replay_core.proofs.Heard.{has_seat}
use Rattle.replay_core.proofs.Served.{absent_done, late_done, heard_done, top_is}
use Rattle.replay_core.proofs.server.deliver.Goals as goal

less : (m n k s : ℕ) → n ≡ k → s ≡ n - 8192 → m < s → nat_lt (m + 8192) k ≡ true
less m n k s e f h = grind (arith, nat_tests)

no_less : (m n k s : ℕ) → n ≡ k → s ≡ n - 8192 → s ≤ m → nat_lt (m + 8192) k ≡ false
no_less m n k s e f h = grind (arith, nat_tests)

pub last_taken-requires : goal.last_taken-requires
last_taken-requires c =
    let r = c.requires.there in
    (r.5.served, r.5.serves, has_seat r.0 c.args.driver.now r.1 r.2 r.3 r.4 c.args.place.now.player r.5 r.6 r.7.number)

pub hear-requires : goal.hear-requires
hear-requires c =
    let r = c.requires.there in
    record { there = (r.0, r.1, r.2, r.3, r.4, r.5, r.6, r.7.number) }

pub returns-in_default : goal.returns-in_default
returns-in_default c =
    let k = c.args.place.now in
    let get : slice_get k.up (c.args.packet - 1) ≡ None = sym c.get.ensures ∙ ap option_copied c.in_default.is in
    on_ok_then c.push.result _ _ c.push.ensures.ok
    (λ pushes layout edits players i p h at stands. absent_done layout c.args.driver.now k edits players i p
    c.args.packet _ _ h at stands get pushes)

pub returns-then-packet-saturating_sub : goal.returns-then-packet-saturating_sub
returns-then-packet-saturating_sub c =
    let k = c.args.place.now in
    let bytes = c.in-Some.bytes.now in
    let get : slice_get k.up (c.args.packet - 1) ≡ Some bytes = sym c.get.ensures ∙ ap option_copied c.in-Some.is in
    on_ok_then c.push-then-packet-saturating_sub.result _ _ c.push-then-packet-saturating_sub.ensures.ok
    (λ pushes layout edits players i p h at stands. late_done layout c.args.driver.now k edits players i p c.args.packet
    bytes _ _ h at stands get
    (less _ _ _ _ (top_is layout c.args.driver.now edits players i p k.player _ h at stands.number c.last_taken.ensures)
    c.saturating_sub.ensures c.if-packet-saturating_sub.true) pushes)

pub returns : goal.returns
returns c =
    let k = c.args.place.now in
    let bytes = c.as_slice.result.now in
    let get : slice_get k.up (c.args.packet - 1) ≡ Some bytes =
    sym c.get.ensures ∙ ap option_copied c.in-Some.is ∙ ap (λ (b : List ℕ). Some b) (sym c.as_slice.ensures) in
    on_ok_then c.push-2.result _ _ c.push-2.ensures.ok
    (λ pushes layout edits players i p h at stands. heard_done layout c.args.driver.now c.hear.new.driver k edits
    players i p c.args.packet bytes
    c.in_ok-verdict.verdict _ _ _ h at stands get
    (no_less _ _ _ _ (top_is layout c.args.driver.now edits players i p k.player _ h at stands.number
    c.last_taken.ensures)
    c.saturating_sub.ensures c.if-packet-saturating_sub.false) (c.in_ok-verdict.ensures layout) pushes)
