use Rattle.std.proofs.Common.{◌≡◌, ℕ, ◌+◌, ◌-◌, ◌<◌, ◌≤◌, List, true, false, Some, None, ap, sym, ◌∙◌, arith, nat_lt}
use Rattle.std.specs.Prelude.{slice_get}
use Rattle.std.specs.Option.{option_copied}
use Rattle.std.proofs.lemmas.Bool.Decides.{nat_tests}
use Rattle.replay_places.proofs.Delivered.{absent_done, late_done, heard_done, heard_of, on_ok_then}
use Rattle.replay_places.proofs.place.Place.deliver.Goals as goal

less : (m n k s : ℕ) → n ≡ k → s ≡ n - 8192 → m < s → nat_lt (m + 8192) k ≡ true
less m n k s e f h = grind (arith, nat_tests)

no_less : (m n k s : ℕ) → n ≡ k → s ≡ n - 8192 → s ≤ m → nat_lt (m + 8192) k ≡ false
no_less m n k s e f h = grind (arith, nat_tests)

pub returns-in_default : goal.returns-in_default
returns-in_default c =
    let k = c.args.self.now in
    let get : slice_get k.down (c.args.packet - 1) ≡ None = sym c.get.ensures ∙ ap option_copied c.in_default.is in
    on_ok_then c.push.result _ _ c.push.ensures.ok
    (λ pushes layout edits p i. absent_done layout k p edits c.args.packet _ _ i get pushes)

pub returns-then-packet-saturating_sub : goal.returns-then-packet-saturating_sub
returns-then-packet-saturating_sub c =
    let k = c.args.self.now in
    let bytes = c.in-Some.bytes.now in
    let get : slice_get k.down (c.args.packet - 1) ≡ Some bytes = sym c.get.ensures ∙ ap option_copied c.in-Some.is in
    on_ok_then c.push-then-packet-saturating_sub.result _ _ c.push-then-packet-saturating_sub.ensures.ok
    (λ pushes layout edits p i. late_done layout k p edits c.args.packet bytes _ _ i get
    (less _ _ _ _ (c.last_taken.ensures _ i.plays) c.saturating_sub.ensures c.if-packet-saturating_sub.true) pushes)

pub returns : goal.returns
returns c =
    let k = c.args.self.now in
    let bytes = c.as_slice.result.now in
    let get : slice_get k.down (c.args.packet - 1) ≡ Some bytes =
    sym c.get.ensures ∙ ap option_copied c.in-Some.is ∙ ap (λ (b : List ℕ). Some b) (sym c.as_slice.ensures) in
    on_ok_then c.push-2.result _ _ c.push-2.ensures.ok
    (λ pushes layout edits p i. heard_done layout k p edits c.args.packet bytes c.in_ok-verdict.verdict
    c.hear.new.client _ _ _ i get
    (no_less _ _ _ _ (c.last_taken.ensures _ i.plays) c.saturating_sub.ensures c.if-packet-saturating_sub.false)
    (heard_of layout k p i c.in_ok-verdict.ensures.says c.in_ok-verdict.ensures.told c.in_ok-verdict.ensures.plays
    c.in_ok-verdict.ensures.layout c.in_ok-verdict.ensures.version) pushes)
